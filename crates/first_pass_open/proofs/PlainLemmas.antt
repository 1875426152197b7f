-- If a plain or an inert byte is next (`is_plain`, `is_inert`), there is no indentation. No list item or block quote
-- begins there.
use Rattle.std.proofs.Common.{◌≡◌, min, true, Bool, List, [], ◌∷◌, not, Option, Some, None, is_some, refl, sym, ap, ◌∙◌, if◌then◌else◌}
use Rattle.first_pass_grammar.proofs.Common.{not-true, cond_some, none-some, none_is, BlockQuoteKind, Rest, next_column, indent, begins_plain, inert_indent}
use Rattle.first_pass_grammar.proofs.Common.{after, prefix, all_taken}
use Rattle.first_pass_open.proofs.Common.{Container, BlockQuote, all-none, option_and_then_some}
use Rattle.first_pass_lines.specs.Plain.{begins_inert}
use Rattle.first_pass_scan.proofs.ColumnFacts.{no_column}
use Rattle.first_pass_scan.proofs.PlainFacts.{plain_after, inert_after, inert_quote, inert_item}
use Rattle.first_pass_grammar.specs.Kinds.{item_at}

pub plain_all : (r : Rest) → r.owed ≡ 0 → begins_plain r.left ≡ true → all_taken r ≡ r
plain_all r o h = plain_after (indent r) r o h

pub inert_all : (r : Rest) → r.owed ≡ 0 → begins_inert r.left ≡ true → all_taken r ≡ r
inert_all r o h = inert_after (indent r) r o h

-- If no column is next, there is no indentation to take.
no_next : (r : Rest) → true ≡ not (is_some (next_column r)) → next_column r ≡ None
no_next r h = none_is (next_column r) (not-true _ (sym h))

pub none_all : (r : Rest) → true ≡ not (is_some (next_column r)) → all_taken r ≡ r
none_all r h = all-none r (no_next r h)

pub none_few : (r : Rest) → true ≡ not (is_some (next_column r)) → 0 ≡ min 4 (indent r)
none_few r h = rw (no_column r (no_next r h)) refl

pub inert_prefix : (kind : Option BlockQuoteKind) (r : Rest) → r.owed ≡ 0 → begins_inert r.left ≡ true → prefix (BlockQuote kind) r ≡ None
unfolding prefix
inert_prefix kind r o h = rw (inert_after 3 r o h) (rw (inert_quote r o h) refl)

pub inert_item_at : (r : Rest) → r.owed ≡ 0 → begins_inert r.left ≡ true → item_at r ≡ None
unfolding item_at
inert_item_at r o h = rw (inert_indent r o h) (rw (inert_item 0 r o h) refl)

taken_if : (t : Bool) (r s q : Rest) → s ≡ r → (if t then Some s else None) ≡ Some q → q ≡ r
taken_if t r s q e is = sym (cond_some t s q is).1 ∙ e

-- If an inert byte is next and the line continues a container, nothing is taken.
inert_next : (c : Container) (r q : Rest) → r.owed ≡ 0 → begins_inert r.left ≡ true → prefix c r ≡ Some q → q ≡ r
unfolding prefix
inert_next (BlockQuote kind) r q o h is = absurd (none-some q (sym (inert_prefix kind r o h) ∙ is))
inert_next c r q o h is = taken_if _ r _ q (inert_after _ r o h) is

-- If an inert byte is next and the line continues a path, nothing is taken.
pub inert_path : (path : List Container) (r q : Rest) → r.owed ≡ 0 → begins_inert r.left ≡ true → after path r ≡ Some q → q ≡ r
unfolding after
inert_path [] r q o h is = cc
inert_path (c ∷ path) r q o h is =
    option_and_then_some (prefix c) (after path r) q is (λ m e k. inert_next c r q o h (sym (ap (prefix c) (inert_path path r m o h e)) ∙ k))
