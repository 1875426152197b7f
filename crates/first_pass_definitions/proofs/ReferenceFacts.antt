-- The ends of definitions.
use Rattle.std.proofs.Common.{◌≡◌, inl, inr, ℕ, zero, suc, ◌+◌, ◌-◌, ◌<◌, ◌==◌, ◌&&◌, nat_lt, Bool, true, false, List, [], ◌∷◌, take, drop, slice_index}
use Rattle.std.proofs.Common.{Option, Some, None, is_some, refl, sym, ap, subst, ◌∙◌, arith, if◌then◌else◌, eqb-true, option_map, option_and_then, drop-drop}
use Rattle.std.proofs.Common.{get_or-drop}
use Rattle.first_pass_grammar.proofs.Common.{and_parts, cond_both, nat_tests, option_map_or, cond_some, same_Some, line_feed, carriage_return, colon}
use Rattle.first_pass_grammar.proofs.Common.{less_than, left_bracket, right_bracket, is_line_end, ends_line, begins, blank_len, unescaped_upto}
use Rattle.first_pass_grammar.proofs.Common.{destination_at, begins_escape, first_byte, joined, bytes_of, offsets_of, label_len, label_at, Context}
use Rattle.first_pass_grammar.proofs.Common.{some_mapped, some_if, some_unless, prefix_crossed, space_at, title_end, title_text, title_prefix, title_at}
use Rattle.first_pass_grammar.proofs.Common.{title_after, after_destination, deepest_nesting, Target, target_at, LinkReference, reference_definition_at}
use Rattle.std.specs.Bool.{⊤}
use Rattle.first_pass_links.specs.Destinations.{bracketed_at, ends_run, longer, closes_none, nesting_after, bare_len, unbracketed}
use Rattle.first_pass_links.specs.Labels.{is_label, as_read}
use Rattle.first_pass_links.proofs.Destinations.{first-drop}
use Rattle.first_pass_links.proofs.Labels.{joined_by}
use Rattle.first_pass_definitions.proofs.OptionFacts.{and_some, either_some}
use Rattle.first_pass_definitions.proofs.Titles.{closes-plain, title_begins}
use Rattle.first_pass_grammar.specs.Definitions.{with_line_feeds, ends_title, alone_after, title_beyond, target_of, target_from, target_beyond}
use Rattle.first_pass_grammar.specs.Definitions.{reference_definition_of, reference_definition_after}

-- the rest of a line is blank from there on
abbrev BlankAt : List ℕ → ℕ → Type 0
BlankAt bs n = is_some (blank_len (drop n bs)) ≡ true

-- the last byte of a part
abbrev Plain : List ℕ → ℕ → Type 0
Plain bs i = is_line_end (slice_index bs i) ≡ false

-- A part of this length has a byte, and its last one is no line ending. In a whole line, the rest after it is blank.
abbrev HasLast : List ℕ → ℕ → Type 0
HasLast bs n = (0 < n) × Plain bs (n - 1)

abbrev EndsLine : List ℕ → ℕ → Type 0
EndsLine bs n = HasLast bs n × BlankAt bs n

-- the same of a part that is further on
part_last : (bs : List ℕ) (n k m : ℕ) → n + k ≡ m → HasLast (drop n bs) k → HasLast bs m
part_last bs n k m e p =
    let l = p.0 in
    let i : n + (k - 1) ≡ m - 1 = omega arith in
    (omega arith, ap is_line_end (ap (slice_index bs) (sym i) ∙ sym (get_or-drop n bs (k - 1) 0)) ∙ p.1)

part_blank : (bs : List ℕ) (n k m : ℕ) → n + k ≡ m → BlankAt (drop n bs) k → BlankAt bs m
part_blank bs n k m e b = subst (BlankAt bs) e (ap (λ xs. is_some (blank_len xs)) (sym (drop-drop k n bs)) ∙ b)

part_ends : (bs : List ℕ) (n k m : ℕ) → n + k ≡ m → EndsLine (drop n bs) k → EndsLine bs m
part_ends bs n k m e p = (part_last bs n k m e p.0, part_blank bs n k m e p.1)

-- a byte that is aside: a backslash escapes it
abbrev Inside : ℕ → List ℕ → Type 0
Inside zero bs = ⊤
Inside (suc zero) bs = is_line_end (slice_index bs 0) ≡ false
Inside (suc (suc m)) bs = ⊥

-- The bytes before a place, if there is one, are no line endings.
abbrev ArePlain : Option ℕ → List ℕ → Type 0
ArePlain o bs = (k i : ℕ) → o ≡ Some k → i < k → Plain bs i

abbrev RunPlain : ℕ → ℕ → ℕ → List ℕ → Type 0
RunPlain deepest nesting m bs = ArePlain (bare_len deepest nesting m bs) bs

one_more : (o : Option ℕ) (b : ℕ) (bs : List ℕ) → is_line_end b ≡ false → ArePlain o bs → ArePlain (longer 1 o) (b ∷ bs)
one_more None b bs p f k i h l = absurd cc
one_more (Some n) b bs p f k zero h l = p
one_more (Some n) b bs p f k (suc j) h l = let e : 1 + n ≡ k = same_Some (1 + n) k h in f n j refl (omega arith)

escaped_plain : (b : ℕ) (bs : List ℕ) → begins_escape (b ∷ bs) ≡ true → is_line_end (slice_index bs 0) ≡ false
escaped_plain b bs h = grind (arith, nat_tests, h)

run_plain : (deepest nesting m : ℕ) (bs : List ℕ) → Inside m bs → RunPlain deepest nesting m bs
unfolding bare_len
run_plain deepest nesting m [] p = λ k i h l. refl
run_plain deepest nesting zero (b ∷ bs) p =
    let P : Option ℕ → Type 0 = λ o. ArePlain o (b ∷ bs) in
    cond_both (ends_run b) _ _ P (λ h k i f l. let e = (cond_some (nesting == 0) 0 k f).1 in absurd (omega arith))
    (λ h. let other : is_line_end b ≡ false = grind (arith, nat_tests, h) in
    cond_both (begins_escape (b ∷ bs)) _ _ P (λ g. one_more _ b bs other (run_plain deepest nesting 1 bs (escaped_plain b bs g)))
    (λ _. cond_both (closes_none b nesting) _ _ P (λ _ k i f l. let e : 0 ≡ k = same_Some 0 k f in absurd (omega arith))
    (λ _. cond_both (nat_lt deepest (nesting_after b nesting)) _ _ P (λ _ k i f l. absurd cc)
    (λ _. one_more _ b bs other (run_plain deepest (nesting_after b nesting) 0 bs tt)))))
run_plain deepest nesting (suc zero) (b ∷ bs) p = one_more (bare_len deepest nesting 0 bs) b bs p (run_plain deepest nesting 0 bs tt)
run_plain deepest nesting (suc (suc m)) (b ∷ bs) p = absurd p

-- A destination has a byte, and its last one is no line ending.
bracket_last : (bs : List ℕ) (d : ℕ × List ℕ) → bracketed_at (drop 1 bs) ≡ Some d → HasLast bs d.0
unfolding bracketed_at
bracket_last bs d h = grind (arith, cond_some, first_byte)

run_last : (deepest : ℕ) (bs : List ℕ) (d : ℕ × List ℕ) → option_and_then (unbracketed bs) (bare_len deepest 0 0 bs) ≡ Some d → HasLast bs d.0
run_last deepest bs d h =
    let n = and_some (unbracketed bs) (bare_len deepest 0 0 bs) d h in
    let p = some_unless (n.0 == 0) (Some (n.0, take n.0 bs)) d n.2 in
    let e : n.0 ≡ d.0 = ap (λ (q : ℕ × List ℕ). q.0) (same_Some (n.0, take n.0 bs) d p.1) in
    let some : 0 < n.0 = grind (arith, nat_tests, p.0) in
    (omega arith, run_plain deepest 0 0 bs tt n.0 (d.0 - 1) n.1 (omega arith))

dest_last : (deepest : ℕ) (bs : List ℕ) (d : ℕ × List ℕ) → destination_at deepest bs ≡ Some d → HasLast bs d.0
unfolding destination_at
dest_last deepest bs d h =
    elim (either_some (begins less_than bs) (bracketed_at (drop 1 bs)) (option_and_then (unbracketed bs) (bare_len deepest 0 0 bs)) d h) [
      | inl k ↦ bracket_last bs d k
      | inr k ↦ run_last deepest bs d k
    ]

-- each closing byte is at its offset in the text
abbrev CloseAt : List ℕ → ℕ → List (ℕ × ℕ) → Type 0
CloseAt text close [] = ⊤
CloseAt text close (c ∷ cs) = (c.1 ≡ close → slice_index text c.0 ≡ close) × CloseAt text close cs

first_at : (text : List ℕ) (at b : ℕ) (bs : List ℕ) → drop at text ≡ b ∷ bs → slice_index text at ≡ b
first_at text at b bs e = sym (first-drop at text) ∙ ap (λ xs. slice_index xs 0) e

joined_close : (prefix : List ℕ → Option ℕ) (text : List ℕ) (close at n : ℕ) (bs : List ℕ) → drop at text ≡ bs
    → CloseAt text close (joined prefix at n bs)
unfolding joined
joined_close prefix text close at n [] e = tt
joined_close prefix text close at zero (b ∷ bs) e =
    let here : b ≡ close → slice_index text at ≡ close = λ same. first_at text at b bs e ∙ same in
    let more = λ (n : ℕ). joined_close prefix text close (at + 1) n bs (sym (drop-drop 1 at text) ∙ ap (drop 1) e) in
    cond_both (ends_line b bs) _ _ (CloseAt text close) (λ _. joined_by (CloseAt text close) _ (prefix bs) (λ n. (here, more n)) tt) (λ _. (here, more 0))
joined_close prefix text close at (suc n) (b ∷ bs) e =
    joined_close prefix text close (at + 1) n bs (sym (drop-drop 1 at text) ∙ ap (drop 1) e)

fed_close : (text : List ℕ) (close : ℕ) (cs : List (ℕ × ℕ)) → (line_feed ≡ close → ⊥) → CloseAt text close cs
    → CloseAt text close (with_line_feeds cs)
unfolding with_line_feeds
fed_close text close [] f e = tt
fed_close text close (c ∷ cs) f e =
    let more = fed_close text close cs f e.1 in
    cond_both (c.1 == carriage_return) _ _ (CloseAt text close)
    (λ _. cond_both (begins line_feed (bytes_of cs)) _ _ (CloseAt text close) (λ _. more) (λ _. ((λ same. absurd (f same)), more))) (λ _. (e.0, more))

-- The offset at which the closing byte is found has that byte in the text.
close_at : (text : List ℕ) (close : ℕ) (cs : List (ℕ × ℕ)) (n : ℕ) → CloseAt text close cs → begins close (drop n (bytes_of cs)) ≡ true
    → slice_index text (slice_index (offsets_of cs) n) ≡ close
close_at text close [] zero e h = cc
close_at text close [] (suc n) e h = cc
close_at text close (c ∷ cs) zero e h = e.0 (eqb-true c.1 close h)
close_at text close (c ∷ cs) (suc n) e h = close_at text close cs n e.1 h

-- the same for a part that ends after it
close_last : (text : List ℕ) (close : ℕ) (cs : List (ℕ × ℕ)) (n m : ℕ) → CloseAt text close cs → begins close (drop n (bytes_of cs)) ≡ true
    → slice_index (offsets_of cs) n + 1 ≡ m → (0 < m) × (slice_index text (m - 1) ≡ close)
close_last text close cs n m e h k =
    let i : m - 1 ≡ slice_index (offsets_of cs) n = omega arith in (omega arith, rw i (close_at text close cs n e h))

text_last : (prefix : List ℕ → Option ℕ) (close : ℕ) (bs : List ℕ) (t : ℕ × List ℕ) → (line_feed ≡ close → ⊥) → title_text prefix close bs ≡ Some t
    → (0 < t.0) × (slice_index bs (t.0 - 1) ≡ close)
unfolding title_text
text_last prefix close bs t f h =
    let whole = with_line_feeds (joined prefix 0 0 bs) in
    let n = unescaped_upto (ends_title close) 0 (bytes_of whole) in
    let p = cond_some (begins close (drop n (bytes_of whole))) (slice_index (offsets_of whole) n + 1, take n (bytes_of whole)) t h in
    close_last bs close whole n t.0 (fed_close bs close (joined prefix 0 0 bs) f (joined_close prefix bs close 0 0 bs refl)) p.0
    (ap (λ (q : ℕ × List ℕ). q.0) p.1)

title_last : (around : Context) (bs : List ℕ) (t : ℕ × List ℕ) → title_at around bs ≡ Some t → HasLast bs t.0
unfolding title_at
title_last around [] t h = cc
title_last around (b ∷ bs) t h =
    let c = and_some (λ close. option_map (λ (x : ℕ × List ℕ). (x.0 + 1, x.1)) (title_text (title_prefix around) close bs)) (title_end b) t h in
    let x = some_mapped (λ (x : ℕ × List ℕ). (x.0 + 1, x.1)) (title_text (title_prefix around) c.0 bs) t c.2 in
    let p = closes-plain c.0 (title_begins b c.0 c.1).1 in
    let l = text_last (title_prefix around) c.0 bs x.0 (λ e. (let z = ap is_line_end e ∙ p in cc)) x.1 in
    let e : x.0.0 + 1 ≡ t.0 = ap (λ (q : ℕ × List ℕ). q.0) x.2 in
    let s = l.0 in
    let i : t.0 - 1 ≡ suc (x.0.0 - 1) = omega arith in
    (omega arith, rw i (ap is_line_end l.1 ∙ p))

-- A title after a destination, and a target, each end with a byte that is no line ending. Then the rest of the line is
-- blank.
titled_ends : (around : Context) (bs : List ℕ) (r : ℕ × List ℕ) → title_after around bs ≡ Some r → EndsLine bs r.0
titled_ends around bs r h =
    let s = and_some (title_beyond around bs) (space_at around bs) r h in
    let n = s.0.0 in
    let alone = some_unless (n == 0) (option_and_then (alone_after n bs) (title_at around (drop n bs))) r s.2 in
    let t = and_some (alone_after n bs) (title_at around (drop n bs)) r alone.1 in
    let p = cond_some (is_some (blank_len (drop (n + t.0.0) bs))) (n + t.0.0, t.0.1) r t.2 in
    let e : n + t.0.0 ≡ r.0 = ap (λ (q : ℕ × List ℕ). q.0) p.1 in
    (part_last bs n t.0.0 r.0 e (title_last around (drop n bs) t.0 t.1), subst (BlankAt bs) e p.0)

-- What follows the part of this length, as after a destination, ends its line with it.
further_ends : (around : Context) (bs : List ℕ) (n : ℕ) (f : ℕ × Option (List ℕ)) → HasLast bs n → after_destination around (drop n bs) ≡ Some f
    → EndsLine bs (n + f.0)
unfolding after_destination
further_ends around bs n f p h = by (title_after around (drop n bs)) (titled_ends around (drop n bs)) h
  where
    by : (o : Option (ℕ × List ℕ)) → ((r : ℕ × List ℕ) → o ≡ Some r → EndsLine (drop n bs) r.0)
        → option_map_or (λ (t : ℕ × List ℕ). Some (t.0, Some t.1)) o (if is_some (blank_len (drop n bs)) then Some (0, None) else None) ≡ Some f
        → EndsLine bs (n + f.0)
    by None g h =
        let q = cond_some (is_some (blank_len (drop n bs))) (0, None) f h in
        let e : n ≡ n + f.0 = (let z : 0 ≡ f.0 = ap (λ (q : ℕ × Option (List ℕ)). q.0) q.1 in omega arith) in
        subst (EndsLine bs) e (p, q.0)
    by (Some t) g h =
        part_ends bs n t.0 (n + f.0) (ap (λ (q : ℕ × Option (List ℕ)). n + q.0) (same_Some (t.0, Some t.1) f h)) (g t refl)

target_ends : (around : Context) (bs : List ℕ) (t : ℕ × Target) → target_at around bs ≡ Some t → EndsLine bs t.0
unfolding target_at
target_ends around bs t h =
    let s = and_some (target_beyond around bs) (space_at around bs) t h in
    let rest = drop s.0.0 bs in
    let d = and_some (target_from around s.0.0 rest) (destination_at deepest_nesting rest) t s.2 in
    let f = some_mapped (target_of around (drop d.0.0 rest) s.0.0 d.0) (after_destination around (drop d.0.0 rest)) t d.2 in
    let e : s.0.0 + d.0.0 + f.0.0 ≡ t.0 = ap (λ (q : ℕ × Target). q.0) f.2 in
    part_ends bs s.0.0 (d.0.0 + f.0.0) t.0 (omega arith) (further_ends around rest d.0.0 f.0 (dest_last deepest_nesting rest d.0 d.1) f.1)

-- A definition ends as its target does.
reference_ends : (in_table : Bool) (around : Context) (bs : List ℕ) (r : LinkReference) → reference_definition_at in_table around bs ≡ Some r
    → EndsLine bs r.size
unfolding reference_definition_at
reference_ends in_table around bs r h =
    let o = option_and_then (reference_definition_after around (drop 1 bs)) (label_at (prefix_crossed true around) in_table (drop 1 bs)) in
    let l = and_some (reference_definition_after around (drop 1 bs)) (label_at (prefix_crossed true around) in_table (drop 1 bs)) r
    (some_if (begins left_bracket bs) o r h).1 in
    let n = l.0.0 + 1 in
    let m = option_map (reference_definition_of l.0) (target_at around (drop n (drop 1 bs))) in
    let t = some_mapped (reference_definition_of l.0) (target_at around (drop n (drop 1 bs))) r (some_if (begins colon (drop l.0.0 (drop 1 bs))) m r l.2).1 in
    let e : l.0.0 + 2 + t.0.0 ≡ r.size = ap (λ (q : LinkReference). q.size) t.2 in
    part_ends bs 1 (n + t.0.0) r.size (omega arith)
    (part_ends (drop 1 bs) n t.0.0 (n + t.0.0) refl (target_ends around (drop n (drop 1 bs)) t.0 t.1))

-- After a definition the rest of its line is blank (CommonMark 4.7).
pub reference_blank : (in_table : Bool) (around : Context) (bs : List ℕ) (r : LinkReference) → reference_definition_at in_table around bs ≡ Some r
    → is_some (blank_len (drop r.size bs)) ≡ true
reference_blank in_table around bs r h = (reference_ends in_table around bs r h).1

-- A definition has a byte, and its last one is no line ending (CommonMark 4.7).
pub reference_last : (in_table : Bool) (around : Context) (bs : List ℕ) (r : LinkReference) → reference_definition_at in_table around bs ≡ Some r
    → (0 < r.size) × (is_line_end (slice_index bs (r.size - 1)) ≡ false)
reference_last in_table around bs r h = (reference_ends in_table around bs r h).0

-- A label has a byte, and its last one is `]`.
pub label_last : (prefix : List ℕ → Option ℕ) (in_table : Bool) (bs : List ℕ) (l : ℕ × List ℕ) → label_at prefix in_table bs ≡ Some l
    → (0 < l.0) × (slice_index bs (l.0 - 1) ≡ right_bracket)
unfolding label_at
label_last prefix in_table bs l h =
    let whole = joined prefix 0 0 bs in
    let n = label_len (bytes_of whole) in
    let label = take n (bytes_of whole) in
    let p = cond_some (begins right_bracket (drop n (bytes_of whole)) && is_label label) (slice_index (offsets_of whole) n + 1, as_read in_table label) l h in
    close_last bs right_bracket whole n l.0 (joined_close prefix bs right_bracket 0 0 bs refl) (and_parts _ _ p.0).0 (ap (λ (q : ℕ × List ℕ). q.0) p.1)
