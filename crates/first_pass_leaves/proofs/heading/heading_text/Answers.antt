use Rattle.first_pass_leaves.proofs.HeadingLemmas.{heading_open, heading_empty, heading_cut}
use Rattle.first_pass_leaves.proofs.heading.heading_text.Goals as goal

pub drop_children-requires : goal.drop_children-requires
drop_children-requires c =
    heading_open c.requires.opened (rw c.new-braces.ensures at c.in_ok-next.ensures.line) c.in_ok-append_last_backslash.ensures

pub returns-then-kept-eq0-clause-line : goal.returns-then-kept-eq0-clause-line
returns-then-kept-eq0-clause-line c =
    heading_empty c.requires.opened (rw c.new-braces.ensures at c.in_ok-next.ensures.line) c.in_ok-append_last_backslash.ensures
    (rw (c.unwrap_or-end.ensures, c.as_bytes.ensures.value) at c.kept_len-kept.ensures.value) c.drop_children.ensures c.if-kept-eq0.true

pub returns-clause-line : goal.returns-clause-line
returns-clause-line c =
    heading_cut c.requires.opened (rw c.new-braces.ensures at c.in_ok-next.ensures.line) c.in_ok-append_last_backslash.ensures
    (rw (c.unwrap_or-end.ensures, c.as_bytes.ensures.value) at c.kept_len-kept.ensures.value) c.truncate_siblings.ensures c.if-kept-eq0.false
