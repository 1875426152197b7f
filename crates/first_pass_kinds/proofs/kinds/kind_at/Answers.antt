use Rattle.std.proofs.Common.{◌≡◌, ◌+◌, ◌≤◌, ℕ, drop, length, Option, is_some, sym, ap, ◌∙◌, subst, arith, option_map}
use Rattle.first_pass_grammar.proofs.Common.{Rest, all_taken, html_kind, later_kind, metadata_at, IsKind}
use Rattle.first_pass_kinds.specs.BlockStart.{kind_of}
use Rattle.first_pass_open.proofs.BlankPlaces.{blank_kind}
use Rattle.first_pass_kinds.proofs.KindLemmas.{few_columns, many_columns, code_kind, AfterMetadata, ColumnsTaken, past_columns, found_early, tag_found}
use Rattle.first_pass_kinds.proofs.KindLemmas.{tag_absent, metadata_here, html_here, tag_here, last_here, found_html}
use Rattle.first_pass_kinds.proofs.MarkBytes.{heading_kind}
use Rattle.first_pass_kinds.proofs.kinds.kind_at.Goals as goal
use Rattle.first_pass_kinds.proofs.kinds.kind_at.Goals.{After-bytes_scanned}

pub returns-then-blank-clause-kind : goal.returns-then-blank-clause-kind
returns-then-blank-clause-kind c = grind (arith, blank_kind)

pub returns-then-columns-ge4-clause-kind : goal.returns-then-columns-ge4-clause-kind
returns-then-columns-ge4-clause-kind c = grind (arith, code_kind, many_columns)

pub returns-in-Some-clause-kind : goal.returns-in-Some-clause-kind
returns-in-Some-clause-kind c = grind (arith, heading_kind, few_columns)

-- the columns of the place were taken
columns_taken : (c : After-bytes_scanned)
    → ColumnsTaken c.args.source.now.text.now c.place.inside.line c.place.inside.rest c.bytes_scanned.result c.scan_indentation-columns.result
columns_taken c = grind arith

past : (c : After-bytes_scanned) → (c.place.inside.line + c.bytes_scanned.result ≤ length c.args.source.now.text.now)
    × ((all_taken c.place.inside.rest).left ≡ drop (c.place.inside.line + c.bytes_scanned.result) c.args.source.now.text.now)
past c = past_columns c.args.source.now.text.now c.place.inside.line c.place.inside.rest _ _ (columns_taken c)

-- the metadata block that was found there, or none
early : (c : After-bytes_scanned) (m : Option ℕ) → m ≡ metadata_at c.scan_indentation-columns.result c.args.source.now.options
    (drop (c.place.inside.line + c.bytes_scanned.result) c.as_bytes-bytes.result.now) → AfterMetadata c.args.source.now.options c.place.inside.rest m
early c m is = grind (arith, found_early, columns_taken)

pub overflow_add-at : goal.overflow_add-at
overflow_add-at c = let w = past (goal.at.overflow_add-at c).After-bytes_scanned in omega (arith, w.0)

pub scan_metadata-requires-clause-within : goal.scan_metadata-requires-clause-within
scan_metadata-requires-clause-within c =
    let w = (past (goal.at.scan_metadata-requires-clause-within c).After-bytes_scanned).0 in
    let l = ap length c.as_bytes-bytes.ensures.value in
    omega arith

pub returns-in-Some-scan_metadata-clause-kind : goal.returns-in-Some-scan_metadata-clause-kind
returns-in-Some-scan_metadata-clause-kind c =
    rw (← c.place.view_is) (metadata_here c.args.source.now.options c.place.inside.rest c.in-Some-scan_metadata.byte
    (early (goal.at.returns-in-Some-scan_metadata-clause-kind c).After-bytes_scanned _ (sym c.in-Some-scan_metadata.is ∙ c.scan_metadata.ensures.value)))

pub returns-in-Some-html_kind-clause-kind : goal.returns-in-Some-html_kind-clause-kind
returns-in-Some-html_kind-clause-kind c =
    let first = early (goal.at.returns-in-Some-html_kind-clause-kind c).After-bytes_scanned _
    (sym c.in_default-scan_metadata.is ∙ c.scan_metadata.ensures.value) in
    let same = sym (c.left-left.ensures ∙ ap (λ (q : Rest). q.left) c.scan_indentation-columns.ensures.rest) in
    rw (← c.place.view_is) (html_here c.args.source.now.options c.place.inside.rest (kind_of c.in-Some-html_kind.found) first (ap html_kind same
    ∙ (found_html c.html_kind.result c.in-Some-html_kind.found _ _ _ c.in-Some-html_kind.is c.html_kind.ensures.kind c.html_kind.ensures.«end» same).0))

pub returns-in-Some-html_kind-clause-end : goal.returns-in-Some-html_kind-clause-end
returns-in-Some-html_kind-clause-end c = grind (arith, found_html)

pub returns-then-is_some-clause-kind : goal.returns-then-is_some-clause-kind
returns-then-is_some-clause-kind c =
    let first = early (goal.at.returns-then-is_some-clause-kind c).After-bytes_scanned _ (sym c.in_default-scan_metadata.is ∙ c.scan_metadata.ensures.value) in
    let same = sym (c.left-left.ensures ∙ ap (λ (q : Rest). q.left) c.scan_indentation-columns.ensures.rest) in
    let tag = tag_found c.scan_html_type_7.result _ (all_taken c.place.inside.rest).left (sym c.is_some.ensures ∙ c.if-is_some.true) same
    c.scan_html_type_7.ensures.tag in
    rw (← c.place.view_is) (tag_here c.args.source.now.options c.place.inside.rest tag.0 first
    (ap html_kind same ∙ sym c.html_kind.ensures.kind ∙ ap (option_map kind_of) c.in_default-html_kind.is) tag.1)

pub returns-clause-kind : goal.returns-clause-kind
returns-clause-kind c =
    let first = early (goal.at.returns-clause-kind c).After-bytes_scanned _ (sym c.in_default-scan_metadata.is ∙ c.scan_metadata.ensures.value) in
    let same = sym (c.left-left.ensures ∙ ap (λ (q : Rest). q.left) c.scan_indentation-columns.ensures.rest) in
    rw (← c.place.view_is)
    (subst (IsKind c.args.source.now.options c.place.inside.rest) (ap later_kind same ∙ sym c.later_kind.ensures.kind)
    (last_here c.args.source.now.options c.place.inside.rest first
    (ap html_kind same ∙ sym c.html_kind.ensures.kind ∙ ap (option_map kind_of) c.in_default-html_kind.is)
    (tag_absent c.scan_html_type_7.result _ (all_taken c.place.inside.rest).left (sym c.is_some.ensures ∙ c.if-is_some.false) same
    c.scan_html_type_7.ensures.none)))

pub returns-clause-end : goal.returns-clause-end
returns-clause-end c = grind arith
