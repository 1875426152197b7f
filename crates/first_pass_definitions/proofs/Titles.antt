-- Titles line by line.
use Rattle.std.proofs.Common.{◌≡◌, ℕ, suc, ◌+◌, ◌-◌, ◌<◌, ◌≤◌, ◌==◌, ◌&&◌, Bool, true, false, List, [], ◌∷◌, ◌++◌, length, take, drop, slice_index, slice_get}
use Rattle.std.proofs.Common.{IsUtf8, MatchOption, IsSomeAnd, length-drop, Option, Some, None, refl, sym, ap, subst, ◌∙◌, arith, append_assoc, IsCharBoundary}
use Rattle.std.proofs.Common.{zero, get_or, if◌then◌else◌, eqb-true, drop-drop, append-nil, get_or-drop, option_map, option_and_then, inl, inr}
use Rattle.first_pass_grammar.proofs.Common.{and_left, and_right, or_right, nat_tests, none-some, same_Some, cases_Bool, cond_both, list_any, line_feed}
use Rattle.first_pass_grammar.proofs.Common.{carriage_return, backslash, ascii_end, CowStr, text_of, begins, is_line_end, eol_len, begins_escape}
use Rattle.first_pass_grammar.proofs.Common.{unescaped_upto, joined, bytes_of, offsets_of, upto_unit, first_byte, IsCharBoundary-after_ascii, Context}
use Rattle.first_pass_grammar.proofs.Common.{title_end, title_text, title_prefix, title_at, some_mapped, none_mapped}
use Rattle.std.specs.Char.{is_ascii_punctuation}
use Rattle.first_pass_links.specs.Units.{part}
use Rattle.first_pass_links.proofs.Destinations.{by_units, first-drop, upto-nil, upto-stop, upto-byte, upto-escape, upto_stops}
use Rattle.first_pass_links.proofs.PlainRuns.{no_escape as no_escape_at}
use Rattle.first_pass_grammar.specs.Definitions.{with_line_feeds, ends_title}
use Rattle.first_pass_definitions.specs.Reading.{ClosesTitle, stops_title_line, is_title_text, goes_on_at}
use Rattle.first_pass_links.proofs.Labels.{begins-first, joined_after, joined_fails}
use Rattle.first_pass_definitions.proofs.OptionFacts.{and_some}

-- the bytes of a title from an offset on, each after its offset
pub left_of : (List ℕ → Option ℕ) → ℕ → List ℕ → List (ℕ × ℕ)
left_of prefix at bs = with_line_feeds (joined prefix at 0 bs)

-- the title that these bytes, each after its offset, end
pub title_of : ℕ → List (ℕ × ℕ) → Option (ℕ × List ℕ)
title_of close cs =
    let n = unescaped_upto (ends_title close) 0 (bytes_of cs) in
    if begins close (drop n (bytes_of cs)) then Some (slice_index (offsets_of cs) n + 1, take n (bytes_of cs)) else None

-- a title after these bytes
abbrev pub after_text : List ℕ → Option (ℕ × List ℕ) → Option (ℕ × List ℕ)
after_text w o = option_map (λ (t : ℕ × List ℕ). (t.0, w ++ t.1)) o

pub whole_title : (prefix : List ℕ → Option ℕ) (close : ℕ) (bs : List ℕ) → title_of close (left_of prefix 0 bs) ≡ title_text prefix close bs
unfolding title_of left_of title_text
whole_title prefix close bs = refl

pub after_nothing : (o : Option (ℕ × List ℕ)) → after_text [] o ≡ o
after_nothing None = refl
after_nothing (Some t) = refl

pub after_following : (v w : List ℕ) (o : Option (ℕ × List ℕ)) → after_text v (after_text w o) ≡ after_text (v ++ w) o
after_following v w None = refl
after_following v w (Some t) = ap (λ bs. Some (t.0, bs)) (sym (append_assoc v w t.1))

-- byte by byte
pub title-nil : (close : ℕ) → title_of close [] ≡ None
unfolding title_of unescaped_upto
title-nil close = refl

some_by : (t : Bool) (x : ℕ × List ℕ) (b : List ℕ) → (if t then Some (x.0, b ++ x.1) else None) ≡ after_text b (if t then Some x else None)
some_by true x b = refl
some_by false x b = refl

title-byte : (close o b : ℕ) (cs : List (ℕ × ℕ)) → begins_escape (b ∷ bytes_of cs) ≡ false → ends_title close b ≡ false
    → title_of close ((o, b) ∷ cs) ≡ after_text (b ∷ []) (title_of close cs)
unfolding title_of
title-byte close o b cs e f =
    let n : ℕ = unescaped_upto (ends_title close) 0 (bytes_of cs) in
    let u : unescaped_upto (ends_title close) 0 (b ∷ bytes_of cs) ≡ suc n = (let v = upto-byte (ends_title close) b (bytes_of cs) e f in omega arith) in
    rw u (some_by (begins close (drop n (bytes_of cs))) (slice_index (offsets_of cs) n + 1, take n (bytes_of cs)) (b ∷ []))

title-escape : (close o b u p : ℕ) (cs : List (ℕ × ℕ)) → begins_escape (b ∷ p ∷ bytes_of cs) ≡ true
    → title_of close ((o, b) ∷ (u, p) ∷ cs) ≡ after_text (b ∷ p ∷ []) (title_of close cs)
unfolding title_of
title-escape close o b u p cs e =
    let n : ℕ = unescaped_upto (ends_title close) 0 (bytes_of cs) in
    let v = upto-escape (ends_title close) b p (bytes_of cs) e in
    let k : unescaped_upto (ends_title close) 0 (b ∷ p ∷ bytes_of cs) ≡ suc (suc n) = omega arith in
    rw k (some_by (begins close (drop n (bytes_of cs))) (slice_index (offsets_of cs) n + 1, take n (bytes_of cs)) (b ∷ p ∷ []))

title-stop : (close o b : ℕ) (cs : List (ℕ × ℕ)) → begins_escape (b ∷ bytes_of cs) ≡ false → ends_title close b ≡ true
    → title_of close ((o, b) ∷ cs) ≡ (if b == close then Some (o + 1, []) else None)
unfolding title_of
title-stop close o b cs e f = let u = upto-stop (ends_title close) b (bytes_of cs) e f in rw u refl

pub closes-plain : (close : ℕ) → ClosesTitle close → is_line_end close ≡ false
closes-plain close c = grind (arith, nat_tests, c)

pub closes-low : (close : ℕ) → ClosesTitle close → close < ascii_end
closes-low close c = grind (arith, nat_tests, c)

feed-plain : (close : ℕ) → ClosesTitle close → ends_title close line_feed ≡ false
feed-plain close c = grind (arith, nat_tests, c)

-- an ASCII byte that is no backslash
abbrev IsLow : ℕ → Type 0
IsLow b = ((b == backslash) ≡ false) × (b < ascii_end)

pub stop_low : (close b : ℕ) → ClosesTitle close → stops_title_line close b ≡ true → IsLow b
stop_low close b c h = (grind (arith, nat_tests, c, h), grind (arith, nat_tests, c, h))

-- the byte that begins a title, and the one that closes it
pub title_begins : (b close : ℕ) → title_end b ≡ Some close → (b < ascii_end) × ClosesTitle close
title_begins b close h = (grind (arith, nat_tests, h), grind (arith, nat_tests, h))

-- reading of a title's line does not stop at a byte of title text
text_continues : (close b : ℕ) → ClosesTitle close → is_title_text b ≡ true → stops_title_line close b ≡ false
text_continues close b c h = grind (arith, nat_tests, c, h)

-- reading continues after such bytes
pub upto_text : (close : ℕ) (bs rest : List ℕ) (at r : ℕ) → ClosesTitle close → at + r ≤ length bs → rest ≡ drop at bs
    → ((k : ℕ) → k < r → is_title_text (slice_index rest k) ≡ true)
    → at + r + unescaped_upto (stops_title_line close) 0 (drop (at + r) bs) ≡ at + unescaped_upto (stops_title_line close) 0 (drop at bs)
upto_text close bs rest at zero c within is text =
    let e : at + zero ≡ at = omega arith in
    ap (λ j. j + unescaped_upto (stops_title_line close) 0 (drop j bs)) e
upto_text close bs rest at (suc r) c within is text =
    let e : at + suc r ≡ at + r + 1 = omega arith in
    let b = get_or bs (at + r) 0 in
    let here = ap is_title_text (sym (get_or-drop at bs r 0) ∙ ap (λ xs. slice_index xs r) (sym is)) ∙ text r (omega arith) in
    let plain : (b == backslash) ≡ false = grind (arith, nat_tests, here) in
    let inside : at + r < length bs = omega (arith, within) in
    let unit : suc zero ≡ (if begins_escape (drop (at + r) bs) then 2 else 1) = rw (no_escape_at bs (at + r) inside plain) refl in
    ap (λ j. j + unescaped_upto (stops_title_line close) 0 (drop j bs)) e
    ∙ upto_unit (stops_title_line close) bs (at + r) 1 inside unit (text_continues close b c here)
    ∙ upto_text close bs rest at r c (omega (arith, within)) is (λ k below. text k (omega (arith, below)))

-- the lines joined
pub left-byte : (prefix : List ℕ → Option ℕ) (at b : ℕ) (bs : List ℕ) → is_line_end b ≡ false
    → left_of prefix at (b ∷ bs) ≡ (at, b) ∷ left_of prefix (at + 1) bs
unfolding left_of joined with_line_feeds
left-byte prefix at b bs h = grind (arith, nat_tests)

left-nil : (prefix : List ℕ → Option ℕ) (at : ℕ) → left_of prefix at [] ≡ []
unfolding left_of joined with_line_feeds
left-nil prefix at = refl

-- A test that fails at 0, at a line feed and at the first byte also fails at the first byte once line feeds replace line endings.
fed_fails : (p : ℕ → Bool) → p 0 ≡ false → p line_feed ≡ false → (cs : List (ℕ × ℕ)) → p (slice_index (bytes_of cs) 0) ≡ false
    → p (slice_index (bytes_of (with_line_feeds cs)) 0) ≡ false
unfolding with_line_feeds
fed_fails p z f [] e = z
fed_fails p z f (c ∷ cs) e =
    let P : List (ℕ × ℕ) → Type 0 = λ ds. p (slice_index (bytes_of ds) 0) ≡ false in
    cond_both (c.1 == carriage_return) _ _ P
    (λ h. cond_both (begins line_feed (bytes_of cs)) _ _ P (λ k. fed_fails p z f cs (ap p (first_byte line_feed (bytes_of cs) 0 k).1 ∙ f)) (λ k. f)) (λ h. e)

-- a byte that escapes nothing in the text escapes nothing in the joined lines
same_escape : (prefix : List ℕ → Option ℕ) (at b : ℕ) (bs : List ℕ) → begins_escape (b ∷ bs) ≡ false
    → begins_escape (b ∷ bytes_of (left_of prefix at bs)) ≡ false
unfolding left_of
same_escape prefix at b bs e =
    let p : ℕ → Bool = λ c. (b == backslash) && is_ascii_punctuation c in
    let none = and_right (b == backslash) false refl in
    fed_fails p none none (joined prefix at 0 bs) (joined_fails p none prefix at bs e)

-- Up to the byte that stops it, or the end of its line, a title is unchanged.
abbrev line_upto : ℕ → List ℕ → ℕ
line_upto close bs = unescaped_upto (stops_title_line close) 0 bs

-- the first n bytes from an offset on are in the title as they are
abbrev Stands : (List ℕ → Option ℕ) → ℕ → ℕ → List ℕ → ℕ → Type 0
Stands prefix close at bs n = title_of close (left_of prefix at bs) ≡ after_text (take n bs) (title_of close (left_of prefix (at + n) (drop n bs)))

stands_none : (prefix : List ℕ → Option ℕ) (close at : ℕ) (bs : List ℕ) → Stands prefix close at bs 0
stands_none prefix close at bs = let e : at + 0 ≡ at = omega arith in rw e (sym (after_nothing (title_of close (left_of prefix at bs))))

stands_byte : (prefix : List ℕ → Option ℕ) (close at b : ℕ) (bs : List ℕ) → begins_escape (b ∷ bs) ≡ false
    → Stands prefix close (at + 1) bs (line_upto close bs) → Stands prefix close at (b ∷ bs) (line_upto close (b ∷ bs))
stands_byte prefix close at b bs e f = elim (cases_Bool (stops_title_line close b)) [
  | inl s ↦ rw (upto-stop (stops_title_line close) b bs e s) (stands_none prefix close at (b ∷ bs))
  | inr s ↦ (
      let content : is_line_end b ≡ false = grind (arith, nat_tests, s) in
      let inside : ends_title close b ≡ false = grind (arith, nat_tests, s) in
      let n : ℕ = line_upto close bs in
      let u : line_upto close (b ∷ bs) ≡ suc n = (let v = upto-byte (stops_title_line close) b bs e s in omega arith) in
      let o : at + suc n ≡ at + 1 + n = omega arith in
      rw (u, o) (ap (title_of close) (left-byte prefix at b bs content)
      ∙ title-byte close at b (left_of prefix (at + 1) bs) (same_escape prefix (at + 1) b bs e) inside ∙ ap (after_text (b ∷ [])) f
      ∙ after_following (b ∷ []) (take n bs) (title_of close (left_of prefix (at + 1 + n) (drop n bs)))))
]

stands_escape : (prefix : List ℕ → Option ℕ) (close at b p : ℕ) (bs : List ℕ) → begins_escape (b ∷ p ∷ bs) ≡ true
    → Stands prefix close (at + 1 + 1) bs (line_upto close bs) → Stands prefix close at (b ∷ p ∷ bs) (line_upto close (b ∷ p ∷ bs))
stands_escape prefix close at b p bs e f =
    let first : is_line_end b ≡ false = grind (arith, nat_tests, e) in
    let second : is_line_end p ≡ false = grind (arith, nat_tests, e) in
    let n : ℕ = line_upto close bs in
    let u : line_upto close (b ∷ p ∷ bs) ≡ suc (suc n) = (let v = upto-escape (stops_title_line close) b p bs e in omega arith) in
    let o : at + suc (suc n) ≡ at + 1 + 1 + n = omega arith in
    rw (u, o) (ap (title_of close) (left-byte prefix at b (p ∷ bs) first ∙ ap (λ cs. (at, b) ∷ cs) (left-byte prefix (at + 1) p bs second))
    ∙ title-escape close at b (at + 1) p (left_of prefix (at + 1 + 1) bs) e ∙ ap (after_text (b ∷ p ∷ [])) f
    ∙ after_following (b ∷ p ∷ []) (take n bs) (title_of close (left_of prefix (at + 1 + 1 + n) (drop n bs))))

line_stands : (prefix : List ℕ → Option ℕ) (close at : ℕ) (bs : List ℕ) → Stands prefix close at bs (line_upto close bs)
line_stands prefix close = by_units (λ at bs. Stands prefix close at bs (line_upto close bs))
    (λ at. rw (upto-nil (stops_title_line close)) (stands_none prefix close at [])) (stands_escape prefix close) (stands_byte prefix close)

-- the byte at which a line stops
line_stops : (close from at : ℕ) (text : List ℕ) → at ≡ from + line_upto close (drop from text) → at < length text
    → stops_title_line close (slice_index text at) ≡ true
line_stops close from at text is less =
    let size = length-drop from text in
    ap (stops_title_line close) (ap (slice_index text) is ∙ sym (get_or-drop from text (line_upto close (drop from text)) 0))
    ∙ (upto_stops (stops_title_line close) 0 (drop from text)).1 (omega arith)

-- no line feed comes first if none is first in the bytes
no_feed : (h : List ℕ → Option ℕ) (at : ℕ) (bs : List ℕ) → begins line_feed bs ≡ false → begins line_feed (bytes_of (joined h at 0 bs)) ≡ false
no_feed h at bs g =
    begins-first line_feed refl (bytes_of (joined h at 0 bs)) ∙ joined_fails (λ b. b == line_feed) refl h at bs (sym (begins-first line_feed refl bs) ∙ g)

-- A line feed is a byte of the title.
fed_title : (close o : ℕ) (cs ds : List (ℕ × ℕ)) → ClosesTitle close → cs ≡ (o, line_feed) ∷ ds
    → title_of close cs ≡ after_text (line_feed ∷ []) (title_of close ds)
fed_title close o cs ds c e = ap (title_of close) e ∙ title-byte close o line_feed ds refl (feed-plain close c)

-- Bytes begin with a line ending of this length. The title ends there without its closing byte, or it continues.
pub record AtEnding (prefix : List ℕ → Option ℕ) (close at : ℕ) (bs : List ℕ) (e : ℕ) : Type 0 where
  pub stops : prefix (drop e bs) ≡ None → title_of close (left_of prefix at bs) ≡ None
  pub goes : (n : ℕ) → 0 < length bs → prefix (drop e bs) ≡ Some n → begins line_feed (drop n (drop e bs)) ≡ false
      → title_of close (left_of prefix at bs) ≡ after_text (line_feed ∷ []) (title_of close (left_of prefix (at + e + n) (drop n (drop e bs))))

at_line_feed : (prefix : List ℕ → Option ℕ) (close at : ℕ) (bs : List ℕ) → ClosesTitle close → AtEnding prefix close at (line_feed ∷ bs) 1
unfolding left_of joined with_line_feeds
at_line_feed prefix close at bs c =
    record {
      stops = λ f. (let e : left_of prefix at (line_feed ∷ bs) ≡ [] = rw f refl in ap (title_of close) e ∙ title-nil close);
      goes = λ n l f g. fed_title close at _ _ c (rw f (ap (λ cs. (at, line_feed) ∷ with_line_feeds cs) (joined_after prefix (at + 1) n bs)));
    }

-- a carriage return, or both
at_carriage_return : (t : Bool) (prefix : List ℕ → Option ℕ) (close at : ℕ) (bs : List ℕ) → ClosesTitle close → begins line_feed bs ≡ t
    → AtEnding prefix close at (carriage_return ∷ bs) (if t then 2 else 1)
unfolding left_of joined with_line_feeds
at_carriage_return false prefix close at bs c h =
    record {
      stops = λ f. (let e : left_of prefix at (carriage_return ∷ bs) ≡ [] = rw h (rw f refl) in ap (title_of close) e ∙ title-nil close);
      goes = λ n l f g. fed_title close at _ _ c
          (rw h (rw f (rw (joined_after prefix (at + 1) n bs) (rw (no_feed prefix (at + 1 + n) (drop n bs) g) refl))));
    }
at_carriage_return true prefix close at [] c h = cc
at_carriage_return true prefix close at (x ∷ bs) c h =
    let i : at + 1 + 1 ≡ at + 2 = omega arith in
    subst (λ y. AtEnding prefix close at (carriage_return ∷ y ∷ bs) 2) (sym (eqb-true x line_feed h)) (record {
      stops = λ f. (
          let e : left_of prefix at (carriage_return ∷ line_feed ∷ bs) ≡ (at, line_feed) ∷ [] = rw f refl in
          fed_title close at _ [] c e ∙ ap (after_text (line_feed ∷ [])) (title-nil close));
      goes = λ n l f g. fed_title close (at + 1) _ _ c
          (rw f (rw i (ap (λ cs. (at + 1, line_feed) ∷ with_line_feeds cs) (joined_after prefix (at + 2) n bs))));
    })

ending : (prefix : List ℕ → Option ℕ) (close at e : ℕ) (bs : List ℕ) → ClosesTitle close → eol_len bs ≡ Some e → AtEnding prefix close at bs e
ending prefix close at e [] c h = grind (arith, title_of, left-nil, title-nil)
ending prefix close at e (b ∷ bs) c h = by (b == line_feed) (b == carriage_return) refl refl h
  where
    by : (t u : Bool) → (b == line_feed) ≡ t → (b == carriage_return) ≡ u
        → (if t then Some 1 else (if u then Some (if begins line_feed bs then 2 else 1) else None)) ≡ Some e → AtEnding prefix close at (b ∷ bs) e
    by true u h k f =
        subst (AtEnding prefix close at (b ∷ bs)) (same_Some 1 e f)
        (subst (λ x. AtEnding prefix close at (x ∷ bs) 1) (sym (eqb-true b line_feed h)) (at_line_feed prefix close at bs c))
    by false true h k f =
        subst (AtEnding prefix close at (b ∷ bs)) (same_Some _ e f)
        (subst (λ x. AtEnding prefix close at (x ∷ bs) (if begins line_feed bs then 2 else 1)) (sym (eqb-true b carriage_return k))
        (at_carriage_return (begins line_feed bs) prefix close at bs c refl))
    by false false h k f = absurd (none-some e f)

-- a byte that is no line ending stops the title there
stopped : (prefix : List ℕ → Option ℕ) (close at b : ℕ) (bs : List ℕ) → ClosesTitle close → is_line_end b ≡ false → ends_title close b ≡ true
    → title_of close (left_of prefix at (b ∷ bs)) ≡ (if b == close then Some (at + 1, []) else None)
stopped prefix close at b bs c p e =
    ap (title_of close) (left-byte prefix at b bs p)
    ∙ title-stop close at b (left_of prefix (at + 1) bs) (and_left _ _ (stop_low close b c (or_right (is_line_end b) (ends_title close b) e)).0) e

-- neither a line ending nor the end of the title is there
other_stops : (prefix : List ℕ → Option ℕ) (close at : ℕ) (xs : List ℕ) → ClosesTitle close
    → (0 < length xs → stops_title_line close (slice_index xs 0) ≡ true) → begins close xs ≡ false → eol_len xs ≡ None
    → title_of close (left_of prefix at xs) ≡ None
other_stops prefix close at [] c f g h = ap (title_of close) (left-nil prefix at) ∙ title-nil close
other_stops prefix close at (b ∷ bs) c f g h =
    let s = f (omega arith) in
    let p : is_line_end b ≡ false = grind (arith, nat_tests, h) in
    let e : ends_title close b ≡ true = grind (arith, nat_tests, p, s) in
    stopped prefix close at b bs c p e ∙ rw g refl

-- the title ends there
pub ends_there : (prefix : List ℕ → Option ℕ) (close at : ℕ) (xs : List ℕ) → ClosesTitle close → begins close xs ≡ true
    → title_of close (left_of prefix at xs) ≡ Some (at + 1, [])
ends_there prefix close at [] c g = cc
ends_there prefix close at (b ∷ bs) c g = grind (arith, closes-plain, stopped)

pub no_break : (prefix : List ℕ → Option ℕ) (close from at : ℕ) (text : List ℕ) → ClosesTitle close
    → at ≡ from + unescaped_upto (stops_title_line close) 0 (drop from text) → begins close (drop at text) ≡ false → None ≡ goes_on_at prefix text at
    → title_of close (left_of prefix at (drop at text)) ≡ None
no_break prefix close from at text c is g k = by (eol_len (drop at text)) refl (sym k)
  where
    by : (o : Option ℕ) → eol_len (drop at text) ≡ o → option_and_then (λ e. option_map (λ n. at + e + n) (prefix (drop (at + e) text))) o ≡ None
        → title_of close (left_of prefix at (drop at text)) ≡ None
    by None h k =
        other_stops prefix close at (drop at text) c (λ less. ap (stops_title_line close) (first-drop at text)
        ∙ line_stops close from at text is (let size = length-drop at text in omega arith)) g h
    by (Some e) h k = (ending prefix close at e (drop at text) c h).stops
        (ap prefix (drop-drop e at text) ∙ none_mapped (λ n. at + e + n) (prefix (drop (at + e) text)) (sym k))

pub some_break : (prefix : List ℕ → Option ℕ) (close at next : ℕ) (text : List ℕ) → ClosesTitle close → at < length text
    → Some next ≡ goes_on_at prefix text at → begins line_feed (drop next text) ≡ false
    → title_of close (left_of prefix at (drop at text)) ≡ after_text (line_feed ∷ []) (title_of close (left_of prefix next (drop next text)))
some_break prefix close at next text c l k g =
    let size = length-drop at text in
    let e = and_some (λ e. option_map (λ n. at + e + n) (prefix (drop (at + e) text))) (eol_len (drop at text)) next (sym k) in
    let n = some_mapped (λ n. at + e.0 + n) (prefix (drop (at + e.0) text)) next e.2 in
    let same : at + e.0 + n.0 ≡ next = n.2 in
    let d : drop n.0 (drop e.0 (drop at text)) ≡ drop next text = ap (drop n.0) (drop-drop e.0 at text) ∙ drop-drop n.0 (at + e.0) text
    ∙ ap (λ k. drop k text) same in
    (ending prefix close at e.0 (drop at text) c e.1).goes n.0 (omega arith) (ap prefix (drop-drop e.0 at text) ∙ n.1) (ap (begins line_feed) d ∙ g)
    ∙ ap (λ xs. after_text (line_feed ∷ []) (title_of close (left_of prefix (at + e.0 + n.0) xs))) d
    ∙ ap (λ k. after_text (line_feed ∷ []) (title_of close (left_of prefix k (drop next text)))) same

-- A line of a title stops at a character boundary.
pub stop_place : (close from at : ℕ) (text : List ℕ) → ClosesTitle close → at ≡ from + unescaped_upto (stops_title_line close) 0 (drop from text)
    → at ≤ length text → IsCharBoundary text at
stop_place close from at text c is l = (
  l,
  λ h k. (
      let b = (stop_low close (slice_index text at) c (line_stops close from at text is h)).1 in
      omega arith),
)

-- A line of a title from one offset up to another, at which it stops. The title consists of the bytes before the line
-- and of what follows.
pub record TitleLine (prefix : List ℕ → Option ℕ) (close from at : ℕ) (w text : List ℕ) : Type 0 where
  pub closes : ClosesTitle close
  pub title : after_text w (title_of close (left_of prefix from (drop from text))) ≡ title_text prefix close text
  pub stop : at ≡ from + unescaped_upto (stops_title_line close) 0 (drop from text)

-- the bytes up to where the line stops, and what follows, are the title
upto_stop : {prefix : List ℕ → Option ℕ} {close from at : ℕ} {w text : List ℕ} → TitleLine prefix close from at w text
    → after_text (w ++ part text from at) (title_of close (left_of prefix at (drop at text))) ≡ title_text prefix close text
upto_stop {prefix} {close} {from} {at} {w} {text} t =
    let k : ℕ = line_upto close (drop from text) in
    let is = t.stop in
    let n : at - from ≡ k = omega arith in
    sym (after_following w (part text from at) (title_of close (left_of prefix at (drop at text))))
    ∙ ap (after_text w) (sym (line_stands prefix close from (drop from text)
    ∙ ap (λ xs. after_text (take k (drop from text)) (title_of close (left_of prefix (from + k) xs))) (drop-drop k from text)
    ∙ ap (λ m. after_text (take k (drop from text)) (title_of close (left_of prefix m (drop m text)))) (sym is)
    ∙ ap (λ m. after_text (take m (drop from text)) (title_of close (left_of prefix at (drop at text)))) (sym n))) ∙ t.title

-- the title that a line ends
pub title_found : {prefix : List ℕ → Option ℕ} {close from at : ℕ} {w text : List ℕ} → TitleLine prefix close from at w text
    → begins close (drop at text) ≡ true → title_text prefix close text ≡ Some (at + 1, w ++ part text from at)
title_found {prefix} {close} {from} {at} {w} {text} t g =
    sym (upto_stop t) ∙ ap (after_text (w ++ part text from at)) (ends_there prefix close at (drop at text) t.closes g)
    ∙ ap (λ xs. Some (at + 1, xs)) (append-nil (w ++ part text from at))

pub no_title : {prefix : List ℕ → Option ℕ} {close from at : ℕ} {w text : List ℕ} → TitleLine prefix close from at w text
    → begins close (drop at text) ≡ false → None ≡ goes_on_at prefix text at → title_text prefix close text ≡ None
no_title {prefix} {close} {from} {at} {w} {text} t g k =
    sym (upto_stop t) ∙ ap (after_text (w ++ part text from at)) (no_break prefix close from at text t.closes t.stop g k)

-- one more line
pub title_further : {prefix : List ℕ → Option ℕ} {close from at : ℕ} {w text : List ℕ} (next : ℕ) → TitleLine prefix close from at w text
    → at < length text → Some next ≡ goes_on_at prefix text at → begins line_feed (drop next text) ≡ false
    → after_text ((w ++ part text from at) ++ line_feed ∷ []) (title_of close (left_of prefix next (drop next text))) ≡ title_text prefix close text
title_further {prefix} {close} {from} {at} {w} {text} next t l k g =
    sym (after_following (w ++ part text from at) (line_feed ∷ []) (title_of close (left_of prefix next (drop next text))))
    ∙ ap (after_text (w ++ part text from at)) (sym (some_break prefix close at next text t.closes l k g)) ∙ upto_stop t

pub any_last : (w : List ℕ) → list_any is_line_end (w ++ line_feed ∷ []) ≡ true
any_last [] = refl
any_last (b ∷ w) = or_right (is_line_end b) (list_any is_line_end (w ++ line_feed ∷ [])) (any_last w)

-- the title that begins with a byte
pub title_none : (around : Context) (bs : List ℕ) → None ≡ option_and_then title_end (slice_get bs 0) → title_at around bs ≡ None
unfolding title_at
title_none around [] h = refl
title_none around (b ∷ bs) h = rw (← h) refl

title_some : (around : Context) (bs : List ℕ) (close : ℕ) → Some close ≡ option_and_then title_end (slice_get bs 0)
    → title_at around bs ≡ option_map (λ (t : ℕ × List ℕ). (t.0 + 1, t.1)) (title_text (title_prefix around) close (drop 1 bs))
unfolding title_at
title_some around [] close h = cc
title_some around (b ∷ bs) close h = rw (← h) refl

pub after_first : (bs : List ℕ) (close : ℕ) → IsUtf8 bs → Some close ≡ option_and_then title_end (slice_get bs 0) → IsCharBoundary bs 1
after_first [] close u h = cc
after_first (b ∷ bs) close u h =
    IsCharBoundary-after_ascii (b ∷ bs) 0 u (omega arith)
    (title_begins b close (sym h)).0

-- a result for a text and its length
abbrev pub IsTextAnswer : Option (ℕ × List ℕ) → Option (ℕ × CowStr) → Type 0
IsTextAnswer o answer = MatchOption o (answer ≡ None) (λ title. IsSomeAnd answer (λ found. (found.0 ≡ title.0) × (text_of found.1 ≡ title.1)))

answer_longer : (o : Option (ℕ × List ℕ)) (answer : Option (ℕ × CowStr)) → IsTextAnswer o answer
    → IsTextAnswer (option_map (λ (t : ℕ × List ℕ). (t.0 + 1, t.1)) o) (option_map (λ (found : ℕ × CowStr). (found.0 + 1, found.1)) answer)
answer_longer None None h = refl
answer_longer None (Some found) h = absurd cc
answer_longer (Some t) None h = absurd h
answer_longer (Some t) (Some found) h = (ap (λ k. k + 1) h.0, h.1)

-- a result for the text after a title's first byte, as one for the title
pub title_read : (around : Context) (bs rest : List ℕ) (close : ℕ) (answer : Option (ℕ × CowStr)) → Some close ≡ option_and_then title_end (slice_get bs 0)
    → rest ≡ drop 1 bs → IsTextAnswer (title_text (title_prefix around) close rest) answer
    → IsTextAnswer (title_at around bs) (option_map (λ (found : ℕ × CowStr). (found.0 + 1, found.1)) answer)
title_read around bs rest close answer first is h = rw (title_some around bs close first, ← is) (answer_longer _ answer h)
