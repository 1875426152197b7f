-- Thematic breaks and ATX headings are in order.
use Rattle.std.proofs.Common.{◌≡◌, ◌⊎◌, inl, inr, ℕ, ◌+◌, ◌-◌, ◌<◌, ◌≤◌, ◌==◌, ◌||◌, Bool, true, false, List, [], length, take, drop, get_or, slice_index}
use Rattle.std.proofs.Common.{nat_lt, Option, Some, None, IsUtf8, IsCharBoundary, refl, sym, ap, subst, ◌∙◌, arith, length-drop, length-take-le, get_or-drop}
use Rattle.std.proofs.Common.{drop-drop, if◌then◌else◌, eqb-true, ltb-true, get_or-take}
use Rattle.first_pass_grammar.proofs.Common.{prefix_len, suffix_len, cond_both, cases_lt, false≢true, nat_tests, get_or_past, CowStr, MathBraces, no_braces}
use Rattle.first_pass_grammar.proofs.Common.{AreLineTokens, text_end, Item, HeadingLevel, Rule, Forest, added, is_line_end, is_white, line_len, level_number}
use Rattle.first_pass_grammar.proofs.Common.{atx_level, Place, IsPlaceOf, offset, line_place, line_len-some, line_len-fits, line_is_place, white_keeps}
use Rattle.first_pass_grammar.proofs.Common.{atx_level-signs, add_tokens, close_break, cut, AreInOrder, bytes_closed, order_bound, order_from, order_to}
use Rattle.first_pass_grammar.proofs.Common.{order_adds, line_in_order, EscapesStand, heading_attribute_block, before_attributes, text_before_attributes}
use Rattle.first_pass_grammar.proofs.Common.{Document, is_space_or_line_end, kept_len, heading_chain, heading_text_at, heading_block, line_bytes, rule_block}
use Rattle.first_pass_grammar.proofs.Common.{IsHeading, Braces, space, left_brace, HeadingIndex, Inline, option_map_or, IsCharBoundary-before_ascii, within_top}
use Rattle.first_pass_leaves.proofs.Common.{line_end_at, AddsBetween, AddsHeading, last_of_line, signs_keep, closed_line_in_order, suffix_first, line_start_end}
use Rattle.first_pass_leaves.proofs.Common.{moved_bytes, eqb-false, or_cases, is_number_sign, few_in_order, bytes_adds, line_has_bytes, cut_few, block_fits}
use Rattle.first_pass_items.specs.declared.item.ItemBody.TheVariants.{Heading as HeadingBody}
use Rattle.first_pass_tokens.proofs.LineLemmas.{ends_line as line_ends}
use Rattle.first_pass_tokens.proofs.Escapes.{cut_escaped, escapes_adds, escapes_closed, line_escapes}
use Rattle.first_pass_grammar.proofs.Names.MoreNames.{extends_none}
use Rattle.first_pass_leaves.proofs.KeptBytes.{run_none, space_aside, suffix_all, kept_counted}
use Rattle.first_pass_leaves.proofs.AttributeEnds.{before_none, braces_within, opens_with}
use Rattle.first_pass_leaves.proofs.TextFronts.{front_len, front_utf8, place_in_front, order_in_text}
use Rattle.first_pass_open.proofs.PlaceLemmas.{place_end}

-- the run of bytes that pass at the end of a front of a list: it is empty, or its first byte passes
run_first : (p : ℕ → Bool) (xs : List ℕ) (n : ℕ) → n ≤ length xs → (let size : ℕ = suffix_len p (take n xs) in
    (size ≡ 0) ⊎ ((0 < size) × (size ≤ n) × (p (get_or xs (n - size) 0) ≡ true)))
run_first p xs n within = grind (arith, cases_lt, suffix_first)

-- after the kept bytes of a heading's text there is a byte that is left out, or nothing; or no byte is kept
abbrev KeptAt : List ℕ → ℕ → Type 0
KeptAt text n = (n ≡ 0) ⊎ (((n < length text) × (is_space_or_line_end (get_or text n 0) ≡ true))
    ⊎ ((n ≡ length text) × (suffix_len is_space_or_line_end text ≡ 0)))

kept_by : (text : List ℕ) (t o n : ℕ) → t ≡ length text - suffix_len is_space_or_line_end text → o ≤ length text
    → n ≡ suffix_len (λ b. b == space) (take o text) → KeptAt text (if (o == 0) || nat_lt 0 n then o - n else t)
kept_by text t o n e within g =
    let all = suffix_all is_space_or_line_end text in
    cond_both ((o == 0) || nat_lt 0 n) (o - n) t (KeptAt text)
    (λ c. elim (run_first (λ b. b == space) text o within) [
      | inl none ↦ elim (or_cases (o == 0) (nat_lt 0 n) c) [
        | inl zero ↦ inl (omega (arith, eqb-true o 0 zero))
        | inr more ↦ absurd (omega (arith, ltb-true 0 n more))
      ]
      | inr first ↦ inr (inl (
        omega (arith, first.0, first.1),
        space_aside (get_or text (o - n) 0) (ap (λ k. get_or text (o - k) 0 == space) g ∙ first.2),
      ))
    ])
    (λ c. elim (run_first is_space_or_line_end text (length text) (omega arith)) [
      | inl none ↦ inr (inr (omega arith, omega arith))
      | inr first ↦
          let same : t ≡ length text - suffix_len is_space_or_line_end (take (length text) text) = omega arith in
          inr (inl (omega (arith, first.0, first.1), ap (λ k. is_space_or_line_end (get_or text k 0)) same ∙ first.2))
    ])

kept_at : (text : List ℕ) → KeptAt text (kept_len text)
kept_at text = grind (arith, kept_counted, kept_by)

line_aside : (b : ℕ) → is_line_end b ≡ true → is_space_or_line_end b ≡ true
line_aside b h = grind (arith, nat_tests, h)

aside_small : (b : ℕ) → is_space_or_line_end b ≡ true → b < 33
aside_small b h = grind (arith, nat_tests, h)

-- before a byte that is no more than a space, or at the end of the text
small_boundary : (text : List ℕ) (i : ℕ) → i ≤ length text → slice_index text i < 33 → IsCharBoundary text i
small_boundary text i within small = (within, λ l high. absurd (omega arith))

-- the bytes of an ATX heading's text before its attribute block, in the text from which its line is read
record IsContent (text : List ℕ) (start : ℕ) (content : List ℕ) : Type 0 where
  fits : start + length content ≤ length text
  bytes : (i : ℕ) → i < length content → get_or content i 0 ≡ slice_index text (start + i)
  ended : suffix_len is_space_or_line_end content ≡ 0 → (length content ≡ 0) ⊎ (slice_index text (start + length content) < 33)

-- the end of its kept bytes: none is kept, or a space, a line ending or the end of the text is there
kept_place : (text : List ℕ) (start n : ℕ) (content : List ℕ) → IsContent text start content → KeptAt content n
    → (n ≡ 0) ⊎ ((start + n ≤ length text) × (slice_index text (start + n) < 33))
kept_place text start n content is (inl none) = inl none
kept_place text start n content is (inr (inl aside)) = grind (arith, aside_small)
kept_place text start n content is (inr (inr whole)) = grind arith

-- a whole line
line_content : (text : List ℕ) (start : ℕ) → start ≤ length text → IsContent text start (take (line_len (drop start text)) (drop start text))
line_content text start within =
    let bs : List ℕ = drop start text in
    let len = length-drop start text in
    let fits = line_len-fits bs in
    let size : length (take (line_len bs) bs) ≡ line_len bs = length-take-le (line_len bs) bs fits in
    record {
      fits = omega arith;
      bytes = λ i less. get_or-take (line_len bs) bs i 0 (omega arith) ∙ get_or-drop start text i 0;
      ended = λ none.
          elim (cases_lt 0 (length bs)) [
            | inl some ↦
                let more = line_len-some bs some in
                elim (last_of_line bs some) [
                  | inl line ↦
                      let last : get_or (take (line_len bs) bs) (length (take (line_len bs) bs) - 1) 0 ≡ slice_index bs (line_len bs - 1) =
                      ap (λ k. get_or (take (line_len bs) bs) (k - 1) 0) size ∙ get_or-take (line_len bs) bs (line_len bs - 1) 0 (omega arith) in
                      absurd (false≢true (sym (run_none is_space_or_line_end (take (line_len bs) bs) (omega arith) none) ∙ ap is_space_or_line_end last
                      ∙ line_aside (slice_index bs (line_len bs - 1)) line))
                  | inr ended ↦ (let past = get_or_past text (start + length (take (line_len bs) bs)) 0 (omega arith) in inr (omega arith))
                ]
            | inr none_there ↦ inl (omega arith)
          ];
    }

-- the bytes before an attribute block
block_content : (text : List ℕ) (start size opening : ℕ) → size ≤ length (drop start text) → opening ≤ size → start ≤ length text
    → IsContent (take (start + opening) text) start (take opening (take size (drop start text)))
block_content text start size opening fits less within =
    let bs : List ℕ = drop start text in
    let len = length-drop start text in
    let inner = length-take-le size bs fits in
    let long : length (take opening (take size bs)) ≡ opening = length-take-le opening (take size bs) (omega arith) in
    let whole : length (take (start + opening) text) ≡ start + opening = length-take-le (start + opening) text (omega arith) in
    record {
      fits = omega arith;
      bytes = λ i under.
          get_or-take opening (take size bs) i 0 (omega arith) ∙ get_or-take size bs i 0 (omega arith) ∙ get_or-drop start text i 0
          ∙ sym (get_or-take (start + opening) text (start + i) 0 (omega arith));
      ended =
          λ none. (let past = get_or_past (take (start + opening) text) (start + length (take opening (take size bs))) 0 (omega arith) in inr (omega arith));
    }

chain_kept : (text : List ℕ) (start next kept : ℕ) (chain : List Item) → AreInOrder text start next chain
    → (kept ≡ 0) ⊎ ((start + kept ≤ next) × IsCharBoundary text (start + kept) × AreInOrder text start (start + kept) (cut (start + kept) chain))
    → AreInOrder text start next (heading_chain kept start chain)
unfolding heading_chain
chain_kept text start next kept chain h whole = grind (arith, cond_both, order_bound, eqb-false, order_to)

kept_few : (kept start : ℕ) (chain : List Item) → length (heading_chain kept start chain) ≤ length chain
unfolding heading_chain
kept_few kept start chain = grind (arith, cond_both, cut_few)

kept_less : (content : List ℕ) (n : ℕ) → KeptAt content n → n ≤ length content
kept_less content n (inl none) = omega arith
kept_less content n (inr (inl aside)) = (let inside = aside.0 in omega arith)
kept_less content n (inr (inr whole)) = (let all = whole.0 in omega arith)

-- A line whose content begins at a character boundary, with its tokens.
module _ {texts : List CowStr} {s : Inline} {tokens : List Item} {answer : ℕ × Option Item} {after : MathBraces}
    (utf8 : IsUtf8 s.text) (boundary : IsCharBoundary s.text s.start) (are : AreLineTokens texts s tokens answer after) where
  -- the chain of the whole line, with its last backslash
  abbrev whole : List Item
  whole = close_break answer.1 (add_tokens [] tokens)

  line_stands : EscapesStand s.text s.start whole
  line_stands =
      let stop : ℕ = text_end s are.content_end in
      let order = (line_in_order utf8 boundary boundary.0 are).tokens_fit in
      escapes_closed s.text s.start stop answer.1 (add_tokens [] tokens) (order_adds s.text s.start s.start stop [] tokens (omega arith) order)
      (escapes_adds s.text s.start s.start stop [] tokens (omega arith) tt order (line_escapes are))

  -- Without its closing sequence it is in order up to an offset that is not before the line's end, and has at most as
  -- many tokens as there are bytes up to there.
  line_fits : (content : List ℕ) (next : ℕ) → IsContent s.text s.start content → answer.0 ≤ next → s.start + length content ≤ next
      → (let chain : List Item = heading_chain (kept_len content) s.start whole in AreInOrder s.text s.start next chain × (length chain + s.start ≤ next))
  line_fits content next is ends reach =
      let n : ℕ = kept_len content in
      let order : AreInOrder s.text s.start next whole =
      order_to s.text s.start answer.0 next whole (closed_line_in_order utf8 boundary boundary.0 are) ends in
      let node_bound =
      few_in_order s.text s.start next whole order (bytes_closed answer.1 (add_tokens [] tokens) (bytes_adds [] tokens (line_has_bytes are) tt)) in
      let less = kept_few n s.start whole in
      let most = kept_less content n (kept_at content) in (
        chain_kept s.text s.start next n whole order
            (elim (kept_place s.text s.start n content is (kept_at content)) [
              | inl none ↦ inl none
              | inr some ↦
                  let at = small_boundary s.text (s.start + n) some.0 some.1 in
                  inr (omega arith, at, cut_escaped s.text s.start next (s.start + n) whole order line_stands at (omega arith))
            ]),
        omega arith,
      )

-- The chain of a heading is in order in the front of the text from which its line is read.
module _ (d : Document) (start : ℕ) (index : Option HeadingIndex) (chain : List Item) (end_of_line : ℕ) (h : IsHeading d start index chain end_of_line) where
  front_fits : (front content : List ℕ) (next : ℕ) → text_before_attributes d.options d.text start (line_bytes d start) ≡ front
      → before_attributes d.options (line_bytes d start) ≡ content → IsUtf8 front → IsCharBoundary front start → IsContent front start content
      → line_end_at front start ≤ next → start + length content ≤ next → AreInOrder front start next chain × (length chain + start ≤ next)
  front_fits front content next text_is content_is utf8 boundary is ends reach =
      let line : AreLineTokens d.names.texts (record { options = d.options; whole = d.text; text = front; start = start; row = false; braces = no_braces })
      h.tokens h.answer h.after = rw text_is at h.line in
      let same : chain ≡ heading_chain (kept_len content) start (close_break h.answer.1 (add_tokens [] h.tokens)) =
      h.chain_is ∙ ap (λ xs. heading_chain (kept_len xs) start (close_break h.answer.1 (add_tokens [] h.tokens))) content_is in
      rw same (line_fits utf8 boundary line content next is (omega (arith, (line_ends boundary.0 line).place)) reach)

-- It is in order in the text, up to the end of its line.
heading_by : (d : Document) (start : ℕ) (index : Option HeadingIndex) (chain : List Item) (end_of_line : ℕ) (o : Option Braces)
    → heading_attribute_block d.options (line_bytes d start) ≡ o
    → IsUtf8 d.text → IsCharBoundary d.text start → IsHeading d start index chain end_of_line
    → AreInOrder d.text start end_of_line chain × (length chain + start ≤ end_of_line)
heading_by d start index chain end_of_line None none utf8 boundary h =
    let size = length-take-le (line_len (drop start d.text)) (drop start d.text) (line_len-fits (drop start d.text)) in
    front_fits d start index chain end_of_line h d.text (line_bytes d start) end_of_line
    (ap (λ (o : Option Braces). option_map_or (λ (block : Braces). take (start + block.opening) d.text) o d.text) none)
    (before_none d.options (line_bytes d start) none) utf8 boundary (line_content d.text start boundary.0) (omega (arith, h.end_is))
    (omega (arith, h.end_is, size))
heading_by d start index chain end_of_line (Some block) some utf8 boundary h =
    let bs : List ℕ = line_bytes d start in
    let stop : ℕ = start + block.opening in
    let front : List ℕ = take stop d.text in
    let inside = braces_within d.options bs block some in
    let fits = line_len-fits (drop start d.text) in
    let size = length-take-le (line_len (drop start d.text)) (drop start d.text) fits in
    let long = length-drop start d.text in
    let within = boundary.0 in
    let less : block.opening < line_len (drop start d.text) = omega (arith, inside.0, inside.1) in
    let there : slice_index d.text stop ≡ left_brace =
    sym (get_or-take (line_len (drop start d.text)) (drop start d.text) block.opening 0 less ∙ get_or-drop start d.text block.opening 0)
    ∙ opens_with d.options bs block some in
    let stops = IsCharBoundary-before_ascii d.text stop (omega arith) (omega (arith, there)) in
    let whole = front_len d.text stop utf8 stops in
    let inner : length (take block.opening bs) ≡ block.opening = length-take-le block.opening bs (omega arith) in
    let all = front_fits d start index chain end_of_line h front (take block.opening bs) stop
    (ap (λ (o : Option Braces). option_map_or (λ (b : Braces). take (start + b.opening) d.text) o d.text) some)
    (ap (λ (o : Option Braces). option_map_or (λ (b : Braces). take b.opening bs) o bs) some) (front_utf8 d.text stop utf8 stops)
    (place_in_front d.text stop utf8 stops start (omega arith) boundary)
    (block_content d.text start (line_len (drop start d.text)) block.opening fits (omega arith) within)
    (omega (arith, line_len-fits (drop start front), length-drop start front)) (omega arith) in
    let ends = h.end_is in
    (order_to d.text start stop end_of_line chain (order_in_text d.text stop utf8 stops start stop chain all.0) (omega arith), omega (arith, all.1))

heading_in_order : (d : Document) (start : ℕ) (index : Option HeadingIndex) (chain : List Item) (end_of_line : ℕ) → IsUtf8 d.text → IsCharBoundary d.text start
    → IsHeading d start index chain end_of_line → AreInOrder d.text start end_of_line chain × (length chain + start ≤ end_of_line)
heading_in_order d start index chain end_of_line utf8 boundary h =
    heading_by d start index chain end_of_line (heading_attribute_block d.options (line_bytes d start)) refl utf8 boundary h

-- A thematic break fits in its line.
pub rule_fits : (text : List ℕ) (from ix size : ℕ) (old new : Forest Item)
    → new ≡ added old (rule_block ix size) → from ≤ ix → IsCharBoundary text ix → IsCharBoundary text (ix + size) → AddsBetween text from (ix + size) old new
rule_fits text from ix size old new tree_is following starts ends = record {
  items = rule_block ix size;
  tree_is = tree_is;
  fits = block_fits text (within_top old) from (ix + size) (record { start = ix; «end» = ix + size; body = Rule }) []
      (record { following = following; order = omega arith; before = omega arith; starts = starts; ends = ends }) (omega arith) (λ some. omega arith);
}

-- The text of an ATX heading begins at a character boundary.
pub heading_text_boundary : (text : List ℕ) (start : ℕ) (level : HeadingLevel)
    → IsUtf8 text → IsCharBoundary text start → atx_level (drop start text) ≡ Some level → IsCharBoundary text (heading_text_at text start (level_number level))
heading_text_boundary text start level u b h =
    let n : ℕ = level_number level in
    let p : Place = line_place start (drop start text) in
    let signs : n ≡ prefix_len is_number_sign (drop start text) = (atx_level-signs (drop start text) level h).0 in
    let following : IsPlaceOf text (moved_bytes n p) =
    subst (λ k. IsPlaceOf text (moved_bytes k p)) (sym signs) (signs_keep text p u (line_is_place text start b)) in
    let at = (white_keeps text (moved_bytes n p) u following).boundary in
    let rest = ap (prefix_len is_white) (drop-drop n start text) in
    let same : offset (moved_bytes (prefix_len is_white (drop n (drop start text))) (moved_bytes n p)) ≡ heading_text_at text start n = omega arith in
    subst (IsCharBoundary text) same at

pub line_stops : (text : List ℕ) (start : ℕ) → IsUtf8 text → IsCharBoundary text start → IsCharBoundary text (line_end_at text start)
line_stops text start u b =
    subst (IsCharBoundary text) (line_start_end text start) (place_end text (line_place start (drop start text)) u (line_is_place text start b))

-- An ATX heading fits in its line.
pub heading_fits : {d : Document} {start : ℕ} {level : HeadingLevel} {old new : Forest Item} {next : ℕ} → AddsHeading d start level old new next
    → IsUtf8 d.text → IsCharBoundary d.text start → atx_level (drop start d.text) ≡ Some level → (from : ℕ) → from ≤ start
    → AddsBetween d.text from next old new
heading_fits {d} {start} {level} {old} {next = next} h u b is from following =
    let text : List ℕ = d.text in
    let text_at : ℕ = heading_text_at text start (level_number level) in
    let ends : IsCharBoundary text next = subst (IsCharBoundary text) (sym h.end_is) (line_stops text start u b) in
    let fits = heading_in_order d text_at h.index h.chain next u (heading_text_boundary text start level u b is) (h.line d.names (extends_none d.names)) in
    let span = order_bound text text_at next h.chain fits.0 in
    let node_bound = fits.1 in
    record {
      items = heading_block start next level h.index h.chain;
      tree_is = h.tree_is;
      fits = block_fits text (within_top old) from next (record { start = start; «end» = next; body = HeadingBody level h.index }) h.chain
          (record { following = following; order = omega arith; before = omega arith; starts = b; ends = ends })
          (order_from text start text_at next h.chain fits.0 (omega arith)) (λ some. omega arith);
    }
