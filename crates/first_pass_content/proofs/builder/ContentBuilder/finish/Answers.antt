use Rattle.std.proofs.Common.{◌≡◌, [], arith, sym, ◌∙◌, eqb-true}
use Rattle.std.proofs.lemmas.List.{nil_from_length}
use Rattle.first_pass_content.proofs.Growth.{copied_content, whole_slice}
use Rattle.first_pass_content.proofs.builder.ContentBuilder.finish.Goals as goal

pub returns-then-is_empty : goal.returns-then-is_empty
returns-then-is_empty c =
    let s = c.args.self in
    let text = c.args.text.now in
    let count = eqb-true s.runs.len 0 (sym c.is_empty.ensures ∙ c.if-is_empty.true) in
    let none : s.runs.items ≡ [] = nil_from_length s.runs.items (omega (arith, s.runs.ok.0, count)) in
    let same = c.bytes_between-part.ensures in
    c.new.ensures
    ∙ copied_content text s.bytes.items s.runs.items s.last c.requires _ _ same (whole_slice text s.bytes.items s.runs.items s.last c.requires _ same none)

pub returns : goal.returns
returns c =
    let s = c.args.self in
    c.new-2.ensures
    ∙ copied_content c.args.text.now s.bytes.items s.runs.items s.last c.requires _ _ c.bytes_between-part.ensures c.in_ok-extend_from_slice.ensures.items
