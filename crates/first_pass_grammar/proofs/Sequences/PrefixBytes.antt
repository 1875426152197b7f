-- The prefixes of containers and the indentation of a line have only the bytes `>`, space and tab.
use Rattle.std.proofs.Common.{◌≡◌, ℕ, zero, suc, ◌+◌, ◌-◌, ◌%◌, ◌==◌, ◌||◌, Bool, true, false, List, ◌∷◌, ◌++◌, length, Option, Some, None, refl, sym, ap}
use Rattle.std.proofs.Common.{subst, ◌∙◌, append_assoc, arith, length-append, if◌then◌else◌, option_map, []}
use Rattle.first_pass_grammar.proofs.Common.{or_right, none-some, same_Some, cond_some, space, greater_than, Rest, past_quote_byte, past_quote}
use Rattle.first_pass_grammar.proofs.Common.{column_of_byte, column_of, next_column, after_columns, after-more, after-none, has_columns, prefix, after}
use Rattle.first_pass_grammar.proofs.Common.{or_shorter, front}
use Rattle.std.specs.List.{list_all}
use Rattle.std.proofs.lemmas.List.Folds.{list_all-append}
use Rattle.std.proofs.lemmas.Option.{option_and_then_some}
use Rattle.first_pass_items.specs.Bytes.{tab}
use Rattle.first_pass_lines.specs.Rest.{past_byte}
use Rattle.first_pass_grammar.specs.declared.kind.Container.{Container}
use Rattle.first_pass_grammar.specs.declared.kind.Container.TheVariants.{BlockQuote, ListItem, FootnoteDefinition, Definition}

pub if_some : {A : Type 0} (t : Bool) (o : Option A) (x : A) → (if t then o else None) ≡ Some x → o ≡ Some x
if_some t o x h = grind (arith, none-some)

-- a byte of the prefix of a container or of indentation
abbrev pub is_prefix_byte : ℕ → Bool
is_prefix_byte b = (b == greater_than) || ((b == space) || (b == tab))

-- the second rest is the first without some prefix bytes at its start
pub record Skips (r s : Rest) : Type 0 where
  pub bytes : List ℕ
  pub left : r.left ≡ bytes ++ s.left
  pub taken : s.taken ≡ r.taken + length bytes
  pub plain : list_all is_prefix_byte bytes ≡ true

skips_none : (r : Rest) → Skips r r
skips_none r = record { bytes = []; left = refl; taken = omega arith; plain = refl }

skips_both : (r s q : Rest) → Skips r s → Skips s q → Skips r q
skips_both r s q h k = record {
  bytes = h.bytes ++ k.bytes;
  left = h.left ∙ ap (λ l. h.bytes ++ l) k.left ∙ sym (append_assoc h.bytes k.bytes q.left);
  taken = (let size = length-append h.bytes k.bytes in omega (arith, size, h.taken, k.taken));
  plain = list_all-append is_prefix_byte h.bytes k.bytes ∙ (rw (h.plain, k.plain) refl);
}

skips_one : (r s : Rest) (b : ℕ) → r.left ≡ b ∷ s.left → s.taken ≡ r.taken + 1 → is_prefix_byte b ≡ true → Skips r s
skips_one r s b left taken plain = record { bytes = b ∷ []; left = left; taken = taken; plain = rw plain refl }

-- columns
column_by : (t u : Bool) (r s : Rest) (b : ℕ) (bs : List ℕ) → r.left ≡ b ∷ bs → (b == space) ≡ t → (b == tab) ≡ u
    → (if t then Some (past_byte r bs) else (if u then Some (record { left = bs; taken = r.taken + 1; owed = 3 - r.column % 4; column = 0 }) else None))
    ≡ Some s
    → Skips r s
column_by true u r s b bs e f g h =
    subst (Skips r) (same_Some (past_byte r bs) s h) (skips_one r (past_byte r bs) b e refl (rw f (or_right (b == greater_than) true refl)))
column_by false true r s b bs e f g h =
    let q : Rest = record { left = bs; taken = r.taken + 1; owed = 3 - r.column % 4; column = 0 } in
    subst (Skips r) (same_Some q s h) (skips_one r q b e refl (rw (f, g) (or_right (b == greater_than) true refl)))
column_by false false r s b bs e f g h = absurd (none-some s h)

column_byte : (r s : Rest) (bs : List ℕ) → r.left ≡ bs → column_of_byte r bs ≡ Some s → Skips r s
column_byte r s bs e h = grind (arith, none-some, column_by)

column_skips : (owed : ℕ) (r s : Rest) → column_of owed r ≡ Some s → Skips r s
column_skips owed r s h = grind (arith, column_byte, same_Some)

columns_step : (k : ℕ) (r : Rest) (o : Option Rest) → next_column r ≡ o → ((s : Rest) → Skips s (after_columns k s)) → Skips r (after_columns (suc k) r)
columns_step k r None e f = subst (Skips r) (sym (after-none (suc k) r e)) (skips_none r)
columns_step k r (Some s) e f =
    subst (Skips r) (sym (after-more (suc k) k r s refl e)) (skips_both r s (after_columns k s) (column_skips r.owed r s e) (f s))

pub columns_skip : (k : ℕ) (r : Rest) → Skips r (after_columns k r)
columns_skip zero r = skips_none r
columns_skip (suc k) r = columns_step k r (next_column r) refl (columns_skip k)

-- the marker of a block quote
quote_byte : (r s : Rest) (bs : List ℕ) → r.left ≡ bs → past_quote_byte r bs ≡ Some s → Skips r s
quote_byte r s [] e h = absurd (none-some s h)
quote_byte r s (b ∷ bs) e h =
    let (is, same) = cond_some (b == greater_than) (past_byte r bs) s h in
    subst (Skips r) same (skips_one r (past_byte r bs) b e refl (rw is refl))

-- the prefixes of a container, of a path, and of the part of a path that a line continues
mapped_by : (o : Option Rest) (r s : Rest) → ((q : Rest) → o ≡ Some q → Skips r q) → option_map (after_columns 1) o ≡ Some s → Skips r s
mapped_by None r s f h = absurd (none-some s h)
mapped_by (Some q) r s f h = subst (Skips r) (same_Some (after_columns 1 q) s h) (skips_both r q (after_columns 1 q) (f q refl) (columns_skip 1 q))

pub prefix_skips : (c : Container) (r s : Rest) → prefix c r ≡ Some s → Skips r s
unfolding prefix
prefix_skips (BlockQuote kind) r s h =
    let three : Rest = after_columns 3 r in
    mapped_by (past_quote three) r s (λ q e. skips_both r three q (columns_skip 3 r) (quote_byte three q three.left refl (if_some (three.owed == 0) _ q e))) h
prefix_skips (ListItem n) r s h = subst (Skips r) (cond_some (has_columns n r) (after_columns n r) s h).1 (columns_skip n r)
prefix_skips (FootnoteDefinition n) r s h = subst (Skips r) (cond_some (has_columns n r) (after_columns n r) s h).1 (columns_skip n r)
prefix_skips (Definition n) r s h = subst (Skips r) (cond_some (has_columns n r) (after_columns n r) s h).1 (columns_skip n r)

pub after_skips : (path : List Container) (r s : Rest) → after path r ≡ Some s → Skips r s
unfolding after
after_skips [] r s h = subst (Skips r) (same_Some r s h) (skips_none r)
after_skips (c ∷ path) r s h =
    option_and_then_some (prefix c) (after path r) s h (λ q e g. skips_both r q s (after_skips path r q e) (prefix_skips c q s g))

front_by : (o : Option Rest) (r s : Rest) → ((q : Rest) → o ≡ Some q → Skips r q) → Skips r s → Skips r (or_shorter o s)
front_by o r s f h = grind arith

pub front_skips : (path : List Container) (r : Rest) → Skips r (front path r)
unfolding front
front_skips [] r = skips_none r
front_skips (c ∷ path) r = front_by (after (c ∷ path) r) r (front path r) (after_skips (c ∷ path) r) (front_skips path r)

-- the prefixes of a line, and columns after them
pub line_skips : (path : List Container) (k : ℕ) (r : Rest) → Skips r (after_columns k (front path r))
line_skips path k r = skips_both r (front path r) (after_columns k (front path r)) (front_skips path r) (columns_skip k (front path r))
