-- With a plain byte no line ending, marker, thematic break, ATX heading or code fence begins. With an inert byte no
-- column, block quote or list item begins.
use Rattle.std.proofs.Common.{◌≡◌, ℕ, true, false, true≢false, List, [], ◌∷◌, None, refl, sym, arith}
use Rattle.std.proofs.lemmas.Bool.{or_parts, not-true, cond_both}
use Rattle.std.proofs.lemmas.Bool.Decides.{nat_tests}
use Rattle.std.specs.Char.{is_ascii_digit}
use Rattle.first_pass_items.specs.Bytes.{tab, line_feed, carriage_return, space, asterisk, hyphen, greater_than, underscore, backquote, tilde}
use Rattle.first_pass_lines.specs.Rest.{Rest, column_of_byte, columns_of, after_columns, indent, past_quote_byte, past_quote}
use Rattle.first_pass_lines.specs.Lines.{is_white, begins, eol_len, blank_len, atx_level}
use Rattle.first_pass_scan.specs.LeafLines.{hrule_len, code_fence}
use Rattle.first_pass_scan.specs.Markers.{content_indent, item_by, list_marker, listitem, item_of}
use Rattle.first_pass_lines.proofs.Columns.{after-none}
use Rattle.first_pass_lines.proofs.LineFacts.{isnt}
use Rattle.first_pass_lines.specs.Plain.{is_plain, begins_plain, is_inert, begins_inert}

-- a plain byte is inert
plain_inert : (b : ℕ) → is_plain b ≡ true → is_inert b ≡ true
unfolding is_plain is_inert
plain_inert b h = grind (arith, nat_tests, h)

pub begins_both : (bs : List ℕ) → begins_plain bs ≡ true → begins_inert bs ≡ true
begins_both [] h = h
begins_both (b ∷ bs) h = plain_inert b h

isnt_white : (b : ℕ) → is_plain b ≡ true → is_white b ≡ false
unfolding is_plain
isnt_white b h = grind (arith, isnt)

pub plain_begins : (c : ℕ) (bs : List ℕ) → begins_plain bs ≡ true → is_plain c ≡ false → begins c bs ≡ false
plain_begins c [] h k = refl
plain_begins c (b ∷ bs) h k = isnt is_plain b c h k

pub plain_eol : (bs : List ℕ) → begins_plain bs ≡ true → eol_len bs ≡ None
unfolding is_plain
plain_eol [] h = absurd (true≢false (sym h))
plain_eol (b ∷ bs) h = rw (isnt is_plain b line_feed h refl) (rw (isnt is_plain b carriage_return h refl) refl)

pub plain_blank : (bs : List ℕ) → begins_plain bs ≡ true → blank_len bs ≡ None
unfolding is_plain
plain_blank [] h = absurd (true≢false (sym h))
plain_blank (b ∷ bs) h = rw (isnt_white b h) (rw (isnt is_plain b line_feed h refl) (rw (isnt is_plain b carriage_return h refl) refl))

pub plain_hrule : (bs : List ℕ) → begins_plain bs ≡ true → hrule_len bs ≡ None
unfolding hrule_len is_plain
plain_hrule [] h = absurd (true≢false (sym h))
plain_hrule (b ∷ bs) h = rw (isnt is_plain b hyphen h refl) (rw (isnt is_plain b underscore h refl) (rw (isnt is_plain b asterisk h refl) refl))

pub plain_atx : (bs : List ℕ) → begins_plain bs ≡ true → atx_level bs ≡ None
unfolding atx_level is_plain
plain_atx [] h = absurd (true≢false (sym h))
plain_atx (b ∷ bs) h = grind (arith, isnt)

pub plain_fence : (bs : List ℕ) → begins_plain bs ≡ true → code_fence bs ≡ None
unfolding code_fence is_plain
plain_fence [] h = absurd (true≢false (sym h))
plain_fence (b ∷ bs) h = rw (isnt is_plain b backquote h refl) (rw (isnt is_plain b tilde h refl) refl)

inert_digit : (b : ℕ) → is_inert b ≡ true → is_ascii_digit b ≡ false
unfolding is_inert
inert_digit b h = (or_parts _ (is_ascii_digit b) (not-true _ h)).1

-- there is no column
inert_columns : (bs : List ℕ) (column : ℕ) → begins_inert bs ≡ true → columns_of bs column ≡ 0
unfolding is_inert
inert_columns [] column h = refl
inert_columns (b ∷ bs) column h = rw (isnt is_inert b space h refl) (rw (isnt is_inert b tab h refl) refl)

pub inert_indent : (r : Rest) → r.owed ≡ 0 → begins_inert r.left ≡ true → indent r ≡ 0
inert_indent r o h = let n = inert_columns r.left r.column h in omega arith

inert_byte : (r : Rest) (bs : List ℕ) → begins_inert bs ≡ true → column_of_byte r bs ≡ None
unfolding is_inert
inert_byte r [] h = refl
inert_byte r (b ∷ bs) h = rw (isnt is_inert b space h refl) (rw (isnt is_inert b tab h refl) refl)

-- so taking columns changes nothing
pub inert_after : (k : ℕ) (r : Rest) → r.owed ≡ 0 → begins_inert r.left ≡ true → after_columns k r ≡ r
inert_after k r o h = after-none k r (rw o (inert_byte r r.left h))

pub plain_indent : (r : Rest) → r.owed ≡ 0 → begins_plain r.left ≡ true → indent r ≡ 0
plain_indent r o h = inert_indent r o (begins_both r.left h)

pub plain_after : (k : ℕ) (r : Rest) → r.owed ≡ 0 → begins_plain r.left ≡ true → after_columns k r ≡ r
plain_after k r o h = inert_after k r o (begins_both r.left h)

-- no block quote or list item begins
inert_quote_byte : (r : Rest) (bs : List ℕ) → begins_inert bs ≡ true → past_quote_byte r bs ≡ None
unfolding is_inert
inert_quote_byte r [] h = refl
inert_quote_byte r (b ∷ bs) h = rw (isnt is_inert b greater_than h refl) refl

pub inert_quote : (r : Rest) → r.owed ≡ 0 → begins_inert r.left ≡ true → past_quote r ≡ None
inert_quote r o h = rw o (inert_quote_byte r r.left h)

inert_marker : (bs : List ℕ) → begins_inert bs ≡ true → list_marker bs ≡ None
unfolding list_marker is_inert
inert_marker [] h = absurd (true≢false (sym h))
inert_marker (b ∷ bs) h = grind (arith, isnt, inert_digit)

pub inert_item : (n : ℕ) (r : Rest) → r.owed ≡ 0 → begins_inert r.left ≡ true → item_of n r ≡ None
unfolding item_of
inert_item n r o h = rw (inert_marker r.left h) (cond_both _ (item_by n r None) None (λ x. x ≡ None) (λ _. refl) (λ _. refl))

pub plain_listitem : (bs : List ℕ) → begins_plain bs ≡ true → listitem bs ≡ None
unfolding listitem
plain_listitem bs h = rw (inert_marker bs (begins_both bs h)) refl

-- if an item's content begins with a plain byte, it begins here
pub plain_content : (n : ℕ) (r : Rest) → r.owed ≡ 0 → begins_plain r.left ≡ true → content_indent n r ≡ (n, r)
unfolding content_indent
plain_content n r o h = grind (arith, plain_blank, plain_indent)
