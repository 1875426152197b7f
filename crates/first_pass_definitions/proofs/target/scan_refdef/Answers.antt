use Rattle.std.proofs.Common.{◌≡◌, ◌+◌, inl, inr, refl, sym, subst, ◌∙◌, arith}
use Rattle.first_pass_grammar.proofs.Common.{on_err, target_at, unescaped, none_mapped}
use Rattle.first_pass_open.specs.Path.{context_of}
use Rattle.first_pass_definitions.proofs.Targets.{DestRead, dest_read, TargetFound, no_dest, no_further, space_found, target_found, placed, placed_by}
use Rattle.first_pass_definitions.proofs.Targets.{is_target}
use Rattle.first_pass_definitions.proofs.Asks.{dest_asks, parts_ask}
use Rattle.first_pass_definitions.proofs.target.scan_refdef.Goals as goal
use Rattle.first_pass_definitions.proofs.target.scan_refdef.Goals.{In-Some-scan_link_dest, In-Some-2}

pub returns-in_default-clause-value : goal.returns-in_default-clause-value
unfolding target_at
returns-in_default-clause-value c = grind (arith, none_mapped)

pub returns-in_default-scan_link_dest-clause-value : goal.returns-in_default-scan_link_dest-clause-value
returns-in_default-scan_link_dest-clause-value c =
    rw (no_dest (context_of c.args.source.now.options c.args.tree.now) c.args.source.now.text.now c.args.start c.in-Some.dest_start c.in-Some.field-0-1
    (sym c.in-Some.is ∙ c.in_ok-dest_start.ensures.value) c.in_default-scan_link_dest.ensures.value) refl

-- the destination is read
read : (c : In-Some-scan_link_dest) → DestRead (context_of c.args.source.now.options c.args.tree.now) c.args.source.now.text.now c.args.start
    c.in-Some.dest_start c.in-Some-scan_link_dest.dest_len c.in-Some-scan_link_dest.dest
read c = dest_read _ _ _ _ c.in-Some.field-0-1 _ _ (sym c.in-Some.is ∙ c.in_ok-dest_start.ensures.value) c.in-Some-scan_link_dest.ensures.value

pub returns-in_default-2-clause-value : goal.returns-in_default-2-clause-value
returns-in_default-2-clause-value c =
    rw (no_further (read (goal.at.returns-in_default-2-clause-value c).In-Some-scan_link_dest) (rw c.in_default-2.is at c.in_ok-title_start.ensures.value)) refl

-- the parts of the target are found
found : (c : In-Some-2) → TargetFound (context_of c.args.source.now.options c.args.tree.now) c.args.source.now.text.now c.args.start
    (c.in-Some-2.end, placed c.args.start c.in-Some.dest_start (c.in-Some.dest_start + c.in-Some-scan_link_dest.dest_len) c.in-Some-2.title_start)
    c.in-Some-scan_link_dest.dest c.in-Some-2.title
found c =
    target_found (c.in-Some-2.title_start, c.in-Some-2.end, c.in-Some-2.title)
    (dest_read _ _ _ _ c.in-Some.field-0-1 _ _ (sym c.in-Some.is ∙ c.in_ok-dest_start.ensures.value) c.in-Some-scan_link_dest.ensures.value)
    (rw c.in-Some-2.is at c.in_ok-title_start.ensures.value)

pub returns-clause-value : goal.returns-clause-value
returns-clause-value c =
    let around = context_of c.args.source.now.options c.args.tree.now in
    let text = c.args.source.now.text.now in
    let start = c.args.start in
    let at = c.in-Some.dest_start in
    is_target around text start c.args.span_start c.in-Some-scan_link_dest.dest c.in-Some-2.title _ _
    (subst (λ places. TargetFound around text start (c.in-Some-2.end, places) c.in-Some-scan_link_dest.dest c.in-Some-2.title)
    (sym (placed_by start at (at + c.in-Some-scan_link_dest.dest_len) c.in-Some-2.title_start _ c.saturating_sub.ensures))
    (found (goal.at.returns-clause-value c).In-Some-2))
    (rw (← c.is_in_table-in_table.ensures) (record { value = c.in_ok-unescape.ensures.value; borrowed = c.in_ok-unescape.ensures.borrowed }))
    (λ text read. rw (← c.is_in_table-in_table.ensures) (c.in_ok-unescape_title.ensures.value text read)) refl

pub returns-in_err-title_start-clause-err : goal.returns-in_err-title_start-clause-err
returns-in_err-title_start-clause-err c =
    on_err c.from_residual-in_err-title_start.result
    (inr (inl (dest_asks (read (goal.at.returns-in_err-title_start-clause-err c).In-Some-scan_link_dest) c.in_err-title_start.ensures.err)))

pub returns-in_err-unescape-clause-err : goal.returns-in_err-unescape-clause-err
returns-in_err-unescape-clause-err c =
    let around = context_of c.args.source.now.options c.args.tree.now in
    let t = found (goal.at.returns-in_err-unescape-clause-err c).In-Some-2 in
    on_err c.from_residual-in_err-unescape.result
    (inr (inr (parts_ask around c.args.source.now.text.now c.args.start _ c.in-Some-scan_link_dest.dest c.in-Some-2.title _ _
    c.is_in_table-in_table.ensures t
    (inl (λ z. c.in_err-unescape.ensures.borrowed (subst (λ xs. unescaped c.is_in_table-in_table.result xs ≡ xs) (sym t.dest_is) z))))))

pub returns-in_err-unescape_title-clause-err : goal.returns-in_err-unescape_title-clause-err
returns-in_err-unescape_title-clause-err c =
    let around = context_of c.args.source.now.options c.args.tree.now in
    let t = found (goal.at.returns-in_err-unescape_title-clause-err c).In-Some-2 in
    on_err c.from_residual-in_err-unescape_title.result
    (inr (inr (parts_ask around c.args.source.now.text.now c.args.start _ c.in-Some-scan_link_dest.dest c.in-Some-2.title _ _
    c.is_in_table-in_table.ensures t (inr (c.in_err-unescape_title.ensures.err t.target.title t.title_is)))))

pub returns-clause-places : goal.returns-clause-places
returns-clause-places c = grind (arith, space_found)
