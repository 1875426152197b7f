use Rattle.std.proofs.Common.{◌≡◌, ℕ, None, List, length, ap, ◌∙◌, refl, [], codes}
use Rattle.std.proofs.Math.Seq.{drop-length}
use Rattle.first_pass_atoms.specs.RawHtml.{end_len}
use Rattle.first_pass_atoms.specs.HtmlEnds.{HasNoneFrom}
use Rattle.first_pass_atoms.proofs.html_ends.HtmlEnds.new.Goals as goal

none_in_none : (text : List ℕ) → end_len text [] ≡ None
unfolding end_len
none_in_none text = refl

at_end : (text content : List ℕ) → HasNoneFrom text content (length content)
at_end text content = ap (end_len text) (drop-length content) ∙ none_in_none text

pub returns : goal.returns
returns c =
    let content : List ℕ = c.args.content.now in
    record {
      for_comments = at_end (codes "-->") content;
      for_instructions = at_end (codes "?>") content;
      for_declarations = at_end (codes ">") content;
      for_cdata = at_end (codes "]]>") content;
    }
