use Rattle.std.proofs.Common.{sym, ap, ◌∙◌}
use Rattle.std.specs.Cow.{cow_slice_items}
use Rattle.first_pass_content.specs.Content.{bytes_of}
use Rattle.first_pass_content.proofs.RunLists.{whole_bytes}
use Rattle.first_pass_content.proofs.content.Content.bytes.Goals as goal

pub returns : goal.returns
returns c =
    let s = c.self.inside in
    c.as_slice.ensures.value ∙ sym (whole_bytes (cow_slice_items s.bytes) s.runs.items s.last c.self.invariant) ∙ ap bytes_of c.self.view_is
