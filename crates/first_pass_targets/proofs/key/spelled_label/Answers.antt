use Rattle.std.proofs.Common.{◌≡◌, ◌+◌, ◌-◌, ◌≤◌, ◌++◌, length, take, drop, ap, ap₂, sym, subst, ◌∙◌, arith, string_bytes, IsCharBoundary}
use Rattle.std.specs.List.{prefix_len}
use Rattle.std.proofs.lemmas.Str.{IsCharBoundary-start}
use Rattle.first_pass_lines.specs.Lines.{is_white_or_line_end}
use Rattle.first_pass_links.specs.Labels.{single_spaced}
use Rattle.first_pass_links.proofs.Parts.{of_text}
use Rattle.first_pass_targets.specs.Keys.{is_solid}
use Rattle.first_pass_targets.proofs.PartFacts.{run_boundary}
use Rattle.first_pass_targets.proofs.SpellingFacts.{spelled_on, spelled_out, white_is_ascii, word_boundary}
use Rattle.first_pass_targets.proofs.key.spelled_label.Goals as goal

pub loop-at-init : goal.loop-at-init
loop-at-init c = record {
  boundary = IsCharBoundary-start c.args.label.now c.utf8.label;
  so_far = ap (λ s. s ++ single_spaced c.args.label.now) c.in_ok-spelled.ensures.bytes;
}

pub range-requires-clause-end_boundary : goal.range-requires-clause-end_boundary
range-requires-clause-end_boundary c =
    word_boundary c.args.label.now c.loop-at.at c.word_len.result
    (of_text (prefix_len is_solid) c.loop-at.at c.word_len.ensures.value c.rest_of.ensures.value c.as_bytes-bytes.ensures.value) c.loop-at.invariant.boundary

pub loop-at-preserved : goal.loop-at-preserved
loop-at-preserved c =
    let label = c.args.label.now in
    let at = c.loop-at.at in
    let w = c.word_len.result in
    let v = c.white_len.result in
    let e = of_text (prefix_len is_solid) at c.word_len.ensures.value c.rest_of.ensures.value c.as_bytes-bytes.ensures.value in
    let f =
    of_text (prefix_len is_white_or_line_end) (at + w) c.white_len.ensures.value c.rest_of-in-loop-at.ensures.value c.as_bytes-bytes.ensures.value in
    let z : at + w - at ≡ w = omega arith in
    let slice = c.range.ensures.value ∙ ap (λ n. take n (drop at label)) z in
    let written =
    c.in_ok-push_str-2.ensures.bytes
    ∙ ap₂ ◌++◌ (c.in_ok-push_str.ensures.bytes ∙ ap (λ xs. string_bytes c.loop-at.spelled ++ xs) slice) c.separator.ensures in
    record {
      boundary =
          subst (λ n. IsCharBoundary label (at + w + n)) (sym f)
          (run_boundary is_white_or_line_end white_is_ascii label (at + w) c.utf8.label (word_boundary label at w e c.loop-at.invariant.boundary));
      so_far =
          ap (λ xs. xs ++ single_spaced (drop (at + w + v) label)) written
          ∙ spelled_on label (string_bytes c.loop-at.spelled) at w v e f c.loop-at.invariant.so_far;
    }

pub returns : goal.returns
returns c =
    let l : length c.args.label.now ≤ c.loop-at.at = grind arith in
    spelled_out c.args.label.now (string_bytes c.loop-at.spelled) c.loop-at.at l c.loop-at.invariant.so_far
