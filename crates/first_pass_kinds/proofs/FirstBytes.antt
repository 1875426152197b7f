-- What the first byte of a line decides before its prefixes are read, and the first bytes of items that interrupt a
-- paragraph.
use Rattle.std.proofs.Common.{◌≡◌, ℕ, suc, ◌+◌, ◌==◌, nat_lt, nat_le, ◌&&◌, not, Bool, true, false, true≢false, List, [], ◌∷◌, drop, Option, Some, None}
use Rattle.std.proofs.Common.{is_some, if◌then◌else◌, refl, sym, ap, subst, ◌∙◌, arith, eqb-true, option_map, option_and_then}
use Rattle.first_pass_grammar.proofs.Common.{cond_both, and_parts, or_left, or_right, nat_tests, prefix_len, or-true, space, hyphen, equals_sign, greater_than}
use Rattle.first_pass_grammar.proofs.Common.{begins, eol_len, blank_len, at_line_end, is_white, is_plain, begins_plain, Rest, column_of_byte, next_column}
use Rattle.first_pass_grammar.proofs.Common.{after_columns, indent, past_bytes, past_quote_byte, past_quote, line_rest, after-none, setext_underline}
use Rattle.first_pass_grammar.proofs.Common.{list_marker, plain_begins, Context, has_columns, prefix, after, or_shorter, front, Continued, continued, all_taken}
use Rattle.first_pass_grammar.proofs.Common.{interrupts_with, interrupts, underline_of}
use Rattle.first_pass_kinds.proofs.Common.{plain_blank, Container, item_interrupts, More, NotText, tab, isnt, columns_of, next_line_of}
use Rattle.first_pass_scan.specs.Markers.{is_bullet, bullet_marker, listitem, after_marker, content_indent}
use Rattle.first_pass_grammar.specs.declared.kind.Container.TheVariants.{BlockQuote, ListItem, FootnoteDefinition, Definition}
use Rattle.first_pass_kinds.proofs.PlainLines.{no_underline, plain_more}

-- neither a column nor a block quote marker is here
pub record HasNoPrefix (r : Rest) : Type 0 where
  pub column : next_column r ≡ None
  pub quote : past_quote r ≡ None

-- If `HasNoPrefix` holds, no container prefix takes anything, whether the line continues the container or not.
columns_same : (n : ℕ) (r : Rest) → HasNoPrefix r → or_shorter (if has_columns n r then Some (after_columns n r) else None) r ≡ r
columns_same n r h = rw (after-none n r h.column) (cond_both _ (Some r) None (λ o. or_shorter o r ≡ r) (λ _. refl) (λ _. refl))

prefix_same : (c : Container) (r : Rest) → HasNoPrefix r → or_shorter (prefix c r) r ≡ r
unfolding prefix
prefix_same (BlockQuote kind) r h = grind (arith, after-none)
prefix_same (ListItem n) r h = columns_same n r h
prefix_same (FootnoteDefinition n) r h = columns_same n r h
prefix_same (Definition n) r h = columns_same n r h

after_by : (c : Container) (r : Rest) (o : Option Rest) → HasNoPrefix r → or_shorter o r ≡ r → or_shorter (option_and_then (prefix c) o) r ≡ r
after_by c r None h e = refl
after_by c r (Some q) h e = ap (λ (s : Rest). or_shorter (prefix c s) r) e ∙ prefix_same c r h

after_same : (path : List Container) (r : Rest) → HasNoPrefix r → or_shorter (after path r) r ≡ r
unfolding after
after_same [] r h = refl
after_same (c ∷ path) r h = after_by c r (after path r) h (after_same path r h)

-- Then the front of the line is the rest as it is.
front_same : (path : List Container) (r : Rest) → HasNoPrefix r → front path r ≡ r
unfolding front
front_same [] r h = refl
front_same (c ∷ path) r h = ap (or_shorter (after (c ∷ path) r)) (front_same path r h) ∙ after_same (c ∷ path) r h

-- This front has no indentation.
text_same : (path : List Container) (r : Rest) → HasNoPrefix r → all_taken (front path r) ≡ r
text_same path r h = ap all_taken (front_same path r h) ∙ after-none (indent r) r h.column

-- `HasNoPrefix` holds for a line that begins with no space, tab or `>`.
column_none : (r : Rest) (bs : List ℕ) → begins space bs ≡ false → begins tab bs ≡ false → column_of_byte r bs ≡ None
column_none r [] a b = refl
column_none r (b ∷ bs) s t = rw (s, t) refl

quote_none : (r : Rest) (bs : List ℕ) → begins greater_than bs ≡ false → past_quote_byte r bs ≡ None
quote_none r [] h = refl
quote_none r (b ∷ bs) h = rw h refl

none_first : (bs : List ℕ) → begins space bs ≡ false → begins tab bs ≡ false → begins greater_than bs ≡ false → HasNoPrefix (line_rest bs)
none_first bs s t q = record { column = column_none (line_rest bs) bs s t; quote = quote_none (line_rest bs) bs q }

plain_none : (bs : List ℕ) → begins_plain bs ≡ true → HasNoPrefix (line_rest bs)
unfolding is_plain
plain_none bs h = none_first bs (plain_begins space bs h refl) (plain_begins tab bs h refl) (plain_begins greater_than bs h refl)

-- A line whose first byte is plain is one more line of the paragraph text before it; its part of that text begins at
-- its start.
pub plain_first : (around : Context) (start : ℕ) (bs : List ℕ) → begins_plain bs ≡ true → More start ≡ next_line_of around start (line_rest bs)
plain_first around start bs h = grind (arith, plain_more, text_same, plain_none)

-- At the end of a line, the first byte is that of a line ending; at the end of the text there is none. So no other byte
-- c comes first.
eol_begins : (c : ℕ) (bs : List ℕ) → at_line_end bs ≡ true → ((xs : List ℕ) → at_line_end (c ∷ xs) ≡ false) → begins c bs ≡ false
eol_begins c [] h k = refl
eol_begins c (b ∷ bs) h k = isnt (λ x. at_line_end (x ∷ bs)) b c h (k bs)

eol_none : (bs : List ℕ) → at_line_end bs ≡ true → HasNoPrefix (line_rest bs)
eol_none bs h = none_first bs (eol_begins space bs h (λ xs. refl)) (eol_begins tab bs h (λ xs. refl)) (eol_begins greater_than bs h (λ xs. refl))

eol_setext : (bs : List ℕ) → at_line_end bs ≡ true → setext_underline bs ≡ None
unfolding setext_underline
eol_setext bs h = rw (eol_begins equals_sign bs h (λ xs. refl), eol_begins hyphen bs h (λ xs. refl)) refl

-- A line with nothing after its prefixes and indentation is no underline.
eol_underline : (path : List Container) (r : Rest) → at_line_end (all_taken (front path r)).left ≡ true → underline_of path r ≡ None
eol_underline path r h = no_underline path r (eol_setext (all_taken (front path r)).left h)

-- A front that is only indentation interrupts a paragraph.
eol_ends : (around : Context) (c : Continued) (r : Rest) → at_line_end (all_taken r).left ≡ true → interrupts around c r ≡ true
unfolding interrupts
eol_ends around c r h = rw h (cond_both (nat_lt (indent r) 4) true true (λ t. t ≡ true) (λ _. refl) (λ _. refl))

-- A line that is only a line ending, or the end of the text, is no line of the paragraph text before it.
pub eol_first : (around : Context) (start : ℕ) (bs : List ℕ) → at_line_end bs ≡ true → NotText ≡ next_line_of around start (line_rest bs)
eol_first around start bs h =
    let ends : at_line_end (all_taken (front around.path (line_rest bs))).left ≡ true =
    ap (λ (r : Rest). at_line_end r.left) (text_same around.path (line_rest bs) (eol_none bs h)) ∙ h in
    rw (eol_underline around.path (line_rest bs) ends, eol_ends around (continued around.path (line_rest bs)) (front around.path (line_rest bs)) ends) refl

-- a line with a plain byte after its first space is not blank
blank_by : (f g : ℕ → ℕ) (o : Option ℕ) → option_map f o ≡ None → option_map g o ≡ None
blank_by f g None e = refl
blank_by f g (Some n) e = absurd cc

blank_more : (n m : ℕ) (bs : List ℕ) → n ≡ suc m → option_map (λ k. m + k) (eol_len (drop m bs)) ≡ None
    → option_map (λ k. n + k) (eol_len (drop n (space ∷ bs))) ≡ None
blank_more n m bs e h = rw e (blank_by (λ k. m + k) (λ k. suc m + k) (eol_len (drop m bs)) h)

blank_after : (bs : List ℕ) → begins_plain bs ≡ true → blank_len (space ∷ bs) ≡ None
blank_after bs h = blank_more (1 + prefix_len is_white bs) (prefix_len is_white bs) bs (omega arith) (plain_blank bs h)

abbrev bullet_by : Bool → ℕ → Option (ℕ × ℕ × ℕ)
bullet_by t b = if t then Some (1, b, 0) else None

abbrev after_bullet : ℕ → List ℕ → Rest
after_bullet b bs = past_bytes 1 (line_rest (b ∷ space ∷ bs))

has_space : (n : ℕ) → nat_le 1 (0 + (1 + n)) ≡ true
has_space n = grind (arith, nat_tests)

-- A bullet and a space begin a list item.
bullet_item : (b : ℕ) (bs : List ℕ) → is_bullet b ≡ true
    → listitem (b ∷ space ∷ bs) ≡ Some (1, b, 0, (content_indent 2 (after_columns 1 (after_bullet b bs))).0)
unfolding listitem list_marker after_marker
bullet_item b bs t = rw (t, has_space (columns_of bs 2)) refl

-- With a plain byte after the bullet and the space, the item interrupts a paragraph.
item_by : (whole : Bool) (b : ℕ) (bs : List ℕ) → is_bullet b ≡ true → begins_plain bs ≡ true
    → item_interrupts whole (b ∷ space ∷ bs) (listitem (b ∷ space ∷ bs)) ≡ true
item_by whole b bs t h = rw (bullet_item b bs t, t, blank_after bs h) (or-true (not whole))

item_first : (whole : Bool) (b : ℕ) (bs : List ℕ) → is_bullet b ≡ true → begins_plain bs ≡ true → interrupts_with whole (b ∷ space ∷ bs) ≡ true
item_first whole b bs t h = grind (arith, or_left, or_right, item_by)

is_marked : (t : Bool) (b : ℕ) → is_some (bullet_by t b) ≡ true → t ≡ true
is_marked true b h = refl
is_marked false b h = h

-- An item that begins with a bullet, a space and a plain byte interrupts a paragraph.
pub item_plain : (whole : Bool) (bs : List ℕ) → (is_some (bullet_marker bs) && begins space (drop 1 bs) && begins_plain (drop 2 bs)) ≡ true
    → interrupts_with whole bs ≡ true
item_plain whole [] h = absurd cc
item_plain whole (b ∷ []) h = absurd (true≢false (sym (and_parts _ false h).1))
item_plain whole (b ∷ c ∷ bs) h =
    let both = and_parts _ (begins_plain bs) h in
    let two = and_parts (is_some (bullet_marker (b ∷ c ∷ bs))) (c == space) both.0 in
    subst (λ (x : ℕ). interrupts_with whole (b ∷ x ∷ bs) ≡ true) (sym (eqb-true c space two.1))
    (item_first whole b bs (is_marked (is_bullet b) b two.0) both.1)
