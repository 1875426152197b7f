use Rattle.std.proofs.Common.{◌≡◌, ◌+◌, false, drop, refl, sym, ◌∙◌, arith}
use Rattle.first_pass_grammar.proofs.Common.{colon, on_err, begins, in_table}
use Rattle.first_pass_links.proofs.Parts.{of_text}
use Rattle.first_pass_open.specs.Path.{context_of}
use Rattle.first_pass_definitions.proofs.Targets.{LabelRead, label_read, no_label, colon_by, no_target, is_reference, has_parts, after_byte}
use Rattle.first_pass_definitions.proofs.Asks.{ask_label, ask_target, ask_key}
use Rattle.first_pass_definitions.proofs.reference.parse_after_bracket.Goals as goal
use Rattle.first_pass_definitions.proofs.reference.parse_after_bracket.Goals.{After-begins}

pub parse_refdef_label-requires : goal.parse_refdef_label-requires
parse_refdef_label-requires c = grind (arith, after_byte)

-- the label
read : (c : After-begins) → LabelRead (in_table c.args.tree.now.nodes c.args.tree.now.spine) (context_of c.args.source.now.options c.args.tree.now)
    c.args.source.now.text.now c.args.start c.in-Some.label_len c.in-Some.label
read c = label_read _ _ _ _ _ _ c.requires.bracket (rw c.in-Some.is at c.in_ok-label_len.ensures.value)

-- whether a colon is after the label
colon_is : (c : After-begins) → begins colon (drop (c.args.start + 1 + c.in-Some.label_len) c.args.source.now.text.now) ≡ c.begins.result
colon_is c = sym (of_text (begins colon) _ c.begins.ensures.value c.rest_of.ensures.value c.as_bytes-bytes.ensures.value)

pub returns-in_default-clause-value : goal.returns-in_default-clause-value
returns-in_default-clause-value c = grind (arith, no_label)

pub returns-then-not-begins-clause-value : goal.returns-then-not-begins-clause-value
returns-then-not-begins-clause-value c =
    let at = (goal.at.returns-then-not-begins-clause-value c).After-begins in rw (colon_by false (read at) (colon_is at ∙ c.if-not-begins.true)) refl

pub scan_refdef-requires : goal.scan_refdef-requires
scan_refdef-requires c = grind (arith, after_byte, colon_is)

pub returns-in_default-2-clause-value : goal.returns-in_default-2-clause-value
returns-in_default-2-clause-value c =
    let at = (goal.at.returns-in_default-2-clause-value c).After-begins in
    rw (no_target (read at) (colon_is at ∙ c.if-not-begins.false) (rw c.in_default-2.is at c.in_ok-len.ensures.value)) refl

pub returns-clause-value : goal.returns-clause-value
returns-clause-value c =
    let at = (goal.at.returns-clause-value c).After-begins in
    rw c.in_ok-new.ensures (is_reference c.in-Some-2.len c.in-Some-2.definition (read at) (colon_is at ∙ c.if-not-begins.false)
    (rw c.in-Some-2.is at c.in_ok-len.ensures.value))

pub returns-in_err-label_len-clause-err : goal.returns-in_err-label_len-clause-err
returns-in_err-label_len-clause-err c =
    on_err c.from_residual.result
    (ask_label _ (context_of c.args.source.now.options c.args.tree.now) c.args.source.now.text.now c.args.start c.requires.bracket
    c.in_err-label_len.ensures.err)

pub returns-in_err-len-clause-err : goal.returns-in_err-len-clause-err
returns-in_err-len-clause-err c =
    let at = (goal.at.returns-in_err-len-clause-err c).After-begins in
    on_err c.from_residual-in_err-len.result (ask_target (read at) (colon_is at ∙ c.if-not-begins.false) c.in_err-len.ensures.err)

pub returns-in_err-new-clause-err : goal.returns-in_err-new-clause-err
returns-in_err-new-clause-err c =
    let at = (goal.at.returns-in_err-new-clause-err c).After-begins in
    on_err c.from_residual-in_err-new.result
    (ask_key _ (context_of c.args.source.now.options c.args.tree.now) c.args.source.now.text.now c.args.start _ c.requires.bracket
    (is_reference c.in-Some-2.len c.in-Some-2.definition (read at) (colon_is at ∙ c.if-not-begins.false)
    (rw c.in-Some-2.is at c.in_ok-len.ensures.value)))

pub returns-clause-places : goal.returns-clause-places
returns-clause-places c =
    let at = (goal.at.returns-clause-places c).After-begins in
    has_parts _ (c.in-Some-2.len, c.in-Some-2.definition) (read at) (colon_is at ∙ c.if-not-begins.false)
    (rw c.in-Some-2.is at c.in_ok-len.ensures.value) (rw c.in-Some-2.is at c.in_ok-len.ensures.places)
