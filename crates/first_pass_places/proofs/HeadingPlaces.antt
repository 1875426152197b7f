-- The attributes that a heading names are those of its block's range. In a line, no closing brace follows the last token.
use Rattle.std.proofs.Common.{◌≡◌, ℕ, zero, suc, ◌+◌, ◌-◌, ◌%◌, ◌<◌, ◌≤◌, ◌==◌, ◌&&◌, ◌||◌, Bool, true, false, nat_lt, nat_le, min, List, [], ◌∷◌, length}
use Rattle.std.proofs.Common.{drop, slice_index, Option, refl, sym, ap, subst, ◌∙◌, arith, inl, inr, if◌then◌else◌, eqb-true, get_or-drop, ◌++◌, Some, None}
use Rattle.std.proofs.Common.{MatchOption, IfSome, is_some, option_map, slice_range, drop-drop, length-append, length-drop}
use Rattle.first_pass_grammar.proofs.Common.{cond_both, and_parts, cases_lt, nat_tests, or-false, get_or_past, line_feed, carriage_return, backslash}
use Rattle.first_pass_grammar.proofs.Common.{right_brace, CowStr, Item, MaybeEmphasis, is_line_end, is_white, Piece, Token, MathBraces, text_token, touches}
use Rattle.first_pass_grammar.proofs.Common.{add_token, add_tokens, add_text, Spot, spot, content_ends_at, add_pieces, text_end, line_end_len}
use Rattle.first_pass_grammar.proofs.Common.{breaks_by_backslash, blanks_at_end, AreLineTokens, Inline, found_at, add_text-none, add_text-some, chain_end}
use Rattle.first_pass_grammar.proofs.Common.{prefix_len, prefix_len_passes, prefix_len-le-length, none-some, hyphen, equals_sign, HeadingLevel, is_content}
use Rattle.first_pass_grammar.proofs.Common.{eol_len, blank_len, begins, line_len, Place, line_place, offset, start_of, Rest, indent, line_len-fits}
use Rattle.first_pass_grammar.proofs.Common.{start_of-lines, some_if, some_mapped, run_len, setext_underline, no_braces, IsBreak, Braces, attribute_block}
use Rattle.first_pass_grammar.proofs.Common.{lines_from, at_rest, after, front, heading_attribute_block, all_taken, unindented, underline_of, Document}
use Rattle.first_pass_grammar.proofs.Common.{content_at, add_break, marker_items, TextLines, AreTextLines, Taken, IsPlainText, IsUnderlined, plain_text}
use Rattle.first_pass_grammar.proofs.Common.{underline_first, heading_bytes, HeadingIndex, Options, level_number, attributes_of, IsHeading}
use Rattle.first_pass_grammar.proofs.Common.{heading_text_at, heading_block, Names, NamesAttributes}
use Rattle.first_pass_tokens.specs.declared.pieces.Piece.TheVariants.{Left, Begins, Run}
use Rattle.first_pass_tokens.specs.Braces.{braces_after}
use Rattle.first_pass_tokens.specs.Chains.{token, run_tokens}
use Rattle.first_pass_tokens.specs.LineTokens.{ends_cell, ArePieces, add_piece, backslashes_at_end}
use Rattle.first_pass_tokens.specs.Pieces.{size}
use Rattle.first_pass_tokens.proofs.LineLemmas.{piece_of, pieces_reach as pieces_order, content_passes, ends_line}
use Rattle.first_pass_tokens.proofs.PieceFacts.{IsPieceAt}
use Rattle.std.proofs.lemmas.List.Sums.{AllPass-from_list_all}
use Rattle.std.proofs.Math.ListN.{get_or-append}
use Rattle.first_pass_items.specs.declared.item.HeadingLevel.TheVariants.{H1, H2}
use Rattle.first_pass_lines.proofs.LineFacts.{line_len-content_first, line_len-blank, first_line}
use Rattle.first_pass_scan.specs.LeafLines.{underline_len}
use Rattle.first_pass_attributes.proofs.BlockFacts.{block-within}
use Rattle.first_pass_grammar.specs.declared.kind.Container.{Container}
use Rattle.first_pass_grammar.specs.Kinds.{underline_left}
use Rattle.first_pass_grammar.proofs.Sequences.PlacesKept.{IsAt, at_front, at_kept}
use Rattle.first_pass_places.specs.AttributeBlockPlaces.{block_range}
use Rattle.first_pass_places.specs.InfoStrings.{bytes_in}
use Rattle.first_pass_places.specs.NamePlaces.{FirstIsReadFromText, NamesAttributesIn}
use Rattle.first_pass_places.proofs.BlockPlaces.{found_between, part_short}
use Rattle.first_pass_grammar.proofs.Sequences.PrefixBytes.{is_prefix_byte, Skips, line_skips}

-- no closing brace is in the bytes of a text from one offset up to another
abbrev pub HasNoBrace : List ℕ → ℕ → ℕ → Type 0
HasNoBrace text from to = (k : ℕ) → from ≤ k → k < to → (slice_index text k == right_brace) ≡ false

pub both_none : (text : List ℕ) (a b c : ℕ) → HasNoBrace text a b → HasNoBrace text b c → HasNoBrace text a c
both_none text a b c h k n low high = elim (cases_lt n b) as (λ _. (slice_index text n == right_brace) ≡ false) [
  | inl less ↦ h n low less
  | inr more ↦ k n more high
]

pub nothing_none : (text : List ℕ) (a b : ℕ) → b ≤ a → HasNoBrace text a b
nothing_none text a b h n low high = absurd (omega arith)

-- from an offset on
pub none_from : (text : List ℕ) (at n : ℕ) → ((j : ℕ) → j < n → (slice_index (drop at text) j == right_brace) ≡ false) → HasNoBrace text at (at + n)
none_from text at n h k low high =
    let j : ℕ = k - at in
    let on : at + j ≡ k = omega arith in
    ap (λ i. slice_index text i == right_brace) (sym on) ∙ ap (λ b. b == right_brace) (sym (get_or-drop at text j 0)) ∙ h j (omega arith)

pub byte_none : (text : List ℕ) (n c : ℕ) → slice_index text n ≡ c → (c == right_brace) ≡ false → (slice_index text n == right_brace) ≡ false
byte_none text n c e h = ap (λ b. b == right_brace) e ∙ h

-- the end of a chain
pub same_end : (s t : ℕ) (x : Item) (xs : List Item) → chain_end s (x ∷ xs) ≡ chain_end t (x ∷ xs)
same_end s t x [] = refl
same_end s t x (y ∷ ys) = same_end s t y ys

pub later_end : (s : ℕ) (x : Item) (xs : List Item) → chain_end s (x ∷ xs) ≡ chain_end x.«end» xs
later_end s x [] = refl
later_end s x (y ∷ ys) = same_end s x.«end» y ys

pub token_end : (s : ℕ) (chain : List Item) (y : Item) → chain_end s (add_token chain y) ≡ y.«end»
token_end s [] y = refl
token_end s (x ∷ []) y =
    cond_both (touches x y) (record x { «end» = y.«end» } ∷ []) (x ∷ y ∷ []) (λ (l : List Item). chain_end s l ≡ y.«end») (λ _. refl) (λ _. refl)
token_end s (x ∷ z ∷ zs) y = later_end s x (add_token (z ∷ zs) y) ∙ token_end x.«end» (z ∷ zs) y

pub tokens_end : (s : ℕ) (chain tokens : List Item) → chain_end s (add_tokens chain tokens) ≡ chain_end (chain_end s chain) tokens
tokens_end s chain [] = refl
tokens_end s chain (x ∷ xs) =
    tokens_end s (add_token chain x) xs ∙ ap (λ n. chain_end n xs) (token_end s chain x) ∙ sym (later_end (chain_end s chain) x xs)

-- the chain ends at an offset or before it, and no closing brace is between
pub record Reaches (text : List ℕ) (s : ℕ) (chain : List Item) (at : ℕ) : Type 0 where
  pub order : chain_end s chain ≤ at
  pub none : HasNoBrace text (chain_end s chain) at

pub reach_further : (text : List ℕ) (s at to : ℕ) (chain : List Item) → at ≤ to → HasNoBrace text at to → Reaches text s chain at → Reaches text s chain to
reach_further text s at to chain order none h = record { order = (let o = h.order in omega arith); none = both_none text (chain_end s chain) at to h.none none }

token_reaches : (text : List ℕ) (s to : ℕ) (chain : List Item) (y : Item) → y.«end» ≤ to → HasNoBrace text y.«end» to → Reaches text s (add_token chain y) to
token_reaches text s to chain y order none =
    let e = token_end s chain y in record { order = omega (arith, e); none = subst (λ n. HasNoBrace text n to) (sym e) none }

-- a text up to an offset, in a line that has only white space or a backslash after it; an empty one adds nothing
text_reaches : (text : List ℕ) (s from m to : ℕ) (escaped : Bool) (chain : List Item)
    → m ≤ to → HasNoBrace text m to → (m ≤ from → Reaches text s chain to) → Reaches text s (add_text from m escaped chain) to
text_reaches text s from m to escaped chain within none short =
    elim (cases_lt from m) as (λ _. Reaches text s (add_text from m escaped chain) to) [
      | inl some ↦ rw (add_text-some from m escaped chain some) (token_reaches text s to chain (text_token from m escaped) within none)
      | inr empty ↦ rw (add_text-none from m escaped chain empty) (short empty)
    ]

-- the tokens of a run
run_reaches : (text : List ℕ) (s at n : ℕ) (opens closes : Bool) (chain : List Item) → Reaches text s chain at
    → Reaches text s (add_tokens chain (run_tokens at n opens closes)) (at + n)
run_reaches text s at zero opens closes chain h = (let same : at ≡ at + 0 = omega arith in subst (Reaches text s chain) same h)
run_reaches text s at (suc n) opens closes chain h =
    let one : Item = token at 1 (MaybeEmphasis (suc n) opens closes) in
    let same : at + 1 + n ≡ at + suc n = omega arith in
    subst (Reaches text s (add_tokens (add_token chain one) (run_tokens (at + 1) n opens closes))) same
    (run_reaches text s (at + 1) n opens closes (add_token chain one)
    (token_reaches text s (at + 1) chain one (omega arith) (nothing_none text (at + 1) (at + 1) (omega arith))))

-- a piece of a content that ends at `last`
piece_reaches : (text : List ℕ) (s stop last at : ℕ) (p : Piece) (chain : List Item) → HasNoBrace text stop last → at + size p ≤ last
    → IsPieceAt text at p → Reaches text s chain at → Reaches text s (add_piece stop at p chain) (at + size p)
piece_reaches text s stop last at (Left n) chain tail within facts h =
    let m : ℕ = min (at + n) stop in
    text_reaches text s at m (at + n) false chain (omega arith)
    (λ k low high. tail k (omega arith) (omega arith))
    (λ short. reach_further text s at (at + n) chain (omega arith) (λ k low high. tail k (omega arith) (omega arith)) h)
piece_reaches text s stop last at (Begins dropped escaped) chain tail within facts h =
    let m : ℕ = min (at + (dropped + 1)) stop in
    text_reaches text s (at + dropped) m (at + (dropped + 1)) escaped chain (omega arith)
    (λ k low high. tail k (omega arith) (omega arith))
    (λ short. reach_further text s at (at + (dropped + 1)) chain (omega arith)
    (λ k low high. elim (cases_lt k (at + dropped)) as (λ _. (slice_index text k == right_brace) ≡ false) [
      | inl less ↦ byte_none text k backslash (facts.backslashes k low less) refl
      | inr more ↦ tail k (omega arith) (omega arith)
    ]) h)
piece_reaches text s stop last at (Token dropped n body) chain tail within facts h =
    token_reaches text s (at + (dropped + n)) chain (token (at + dropped) n body) (omega arith)
    (nothing_none text (at + dropped + n) (at + (dropped + n)) (omega arith))
piece_reaches text s stop last at (Run n opens closes) chain tail within facts h = run_reaches text s at n opens closes chain h

pieces_reach : (texts : List CowStr) (s : Inline) (e stop at : ℕ) (b : MathBraces) (ps : List Piece) (to : Spot) (chain : List Item)
    → HasNoBrace s.text stop to.at → ArePieces texts s at b ps to → Reaches s.text e chain at → Reaches s.text e (add_pieces stop at ps chain) to.at
pieces_reach texts s e stop at b [] to chain tail are h = subst (Reaches s.text e chain) (ap (λ (p : Spot). p.at) are) h
pieces_reach texts s e stop at b (p ∷ ps) to chain tail are h =
    let next : ℕ = at + size p in
    let more = pieces_order texts s next (braces_after (found_at s at) b) ps to are.2 in
    pieces_reach texts s e stop next (braces_after (found_at s at) b) ps to (add_piece stop at p chain) tail are.2
    (piece_reaches s.text e stop to.at at p chain tail more (piece_of texts b s at p are.0 are.1) h)

pub white_none : (b : ℕ) → is_white b ≡ true → (b == right_brace) ≡ false
white_none b h = grind (arith, nat_tests, h)

line_end_none : (b : ℕ) → is_line_end b ≡ true → (b == right_brace) ≡ false
line_end_none b h = grind (arith, nat_tests, h)

unless_past : (text : List ℕ) (k : ℕ) → (k < length text → (slice_index text k == right_brace) ≡ false) → (slice_index text k == right_brace) ≡ false
unless_past text k h = elim (cases_lt k (length text)) as (λ _. (slice_index text k == right_brace) ≡ false) [
  | inl inside ↦ h inside
  | inr past ↦ byte_none text k 0 (get_or_past text k 0 past) refl
]

-- after the last text of a line
tail_by : (t : Bool) (s : Inline) (end : ℕ) → s.start ≤ end → breaks_by_backslash s end ≡ t
    → HasNoBrace s.text (if t then end - 1 else end - blanks_at_end s end) end
unfolding breaks_by_backslash backslashes_at_end blanks_at_end
tail_by true s end order is k low high =
    let odd = (and_parts (backslashes_at_end s end % 2 == 1) (nat_lt (end + line_end_len s end) (length s.text)) is).0 in
    let one : backslashes_at_end s end % 2 ≡ 1 = eqb-true (backslashes_at_end s end % 2) 1 odd in
    unless_past s.text k (λ inside. byte_none s.text k backslash
    (eqb-true (slice_index s.text k) backslash (content_passes (λ b. b == backslash) s.text s.start end k order inside (omega arith) high)) refl)
tail_by false s end order is k low high =
    unless_past s.text k (λ inside. white_none (slice_index s.text k) (content_passes is_white s.text s.start end k order inside low high))

-- the line ending
two_by : (t : Bool) (text : List ℕ) (end : ℕ) → is_line_end (slice_index text end) ≡ true
    → ((slice_index text end == carriage_return) && (slice_index text (end + 1) == line_feed)) ≡ t → HasNoBrace text end (end + (if t then 2 else 1))
two_by true text end ends two k low high = elim (cases_lt k (end + 1)) as (λ _. (slice_index text k == right_brace) ≡ false) [
  | inl first ↦ (let same : end ≡ k = omega arith in ap (λ n. slice_index text n == right_brace) (sym same) ∙ line_end_none (slice_index text end) ends)
  | inr second ↦ (
      let same : end + 1 ≡ k = omega arith in
      let feed = (and_parts (slice_index text end == carriage_return) (slice_index text (end + 1) == line_feed) two).1 in
      ap (λ n. slice_index text n == right_brace) (sym same) ∙ byte_none text (end + 1) line_feed (eqb-true (slice_index text (end + 1)) line_feed feed) refl)
]
two_by false text end ends two k low high =
    let same : end ≡ k = omega arith in ap (λ n. slice_index text n == right_brace) (sym same) ∙ line_end_none (slice_index text end) ends

ending_by : (t : Bool) (s : Inline) (end : ℕ) → nat_le (length s.text) end ≡ t → s.row ≡ false
    → (t || (is_line_end (slice_index s.text end) || ends_cell s (slice_index s.text end))) ≡ true
    → HasNoBrace s.text end (end + (if t then 0
    else (if (slice_index s.text end == carriage_return) && (slice_index s.text (end + 1) == line_feed) then 2 else 1)))
ending_by true s end is row ended = nothing_none s.text end (end + 0) (omega arith)
ending_by false s end is row ended =
    let no_cell : ends_cell s (slice_index s.text end) ≡ false = rw row refl in
    let line = sym (or-false (is_line_end (slice_index s.text end))) ∙ ap (λ t. is_line_end (slice_index s.text end) || t) (sym no_cell) ∙ ended in
    two_by ((slice_index s.text end == carriage_return) && (slice_index s.text (end + 1) == line_feed)) s.text end line refl

-- in a line, no closing brace follows the last token
pub line_reaches : (texts : List CowStr) (s : Inline) (tokens : List Item) (answer : ℕ × Option Item) (after : MathBraces) (e : ℕ)
    → AreLineTokens texts s tokens answer after → e ≤ s.start → HasNoBrace s.text e s.start → Reaches s.text e tokens answer.0
unfolding text_end content_ends_at line_end_len
line_reaches texts s tokens answer after e line order none =
    let end : ℕ = line.content_end in
    let stop : ℕ = text_end s end in
    let to : Spot = spot end after in
    let forward = pieces_order texts s s.start s.braces line.pieces to line.division.divided in
    let whole : Reaches s.text e (add_pieces stop s.start line.pieces []) end =
    pieces_reach texts s e stop s.start s.braces line.pieces to [] (tail_by (breaks_by_backslash s end) s end forward refl) line.division.divided
    (record { order = order; none = none }) in
    let past : answer.0 ≡ end + line_end_len s end = ap (λ (a : ℕ × Option Item). a.0) line.answer_is in
    let all = reach_further s.text e end (end + line_end_len s end) (add_pieces stop s.start line.pieces []) (omega arith)
    (ending_by (nat_le (length s.text) end) s end refl line.no_cell line.division.ended) whole in
    rw (past, line.tokens_are) all

-- a heading's index names the attributes of `inside`, if that has the bytes between the braces of the block in `bs`
pub named_by : (names : Names) (options : Options) (index : Option HeadingIndex) (bs inside : List ℕ) (o : Option Braces)
    → heading_attribute_block options bs ≡ o
    → ((block : Braces) → attribute_block bs ≡ Some block → inside ≡ slice_range bs (block.opening + 1) block.closing)
    → NamesAttributes names index (option_map (λ block. attributes_of (slice_range bs (block.opening + 1) block.closing)) o)
    → NamesAttributesIn names index inside
unfolding heading_attribute_block
named_by names options None bs inside o found same named = tt
named_by names options (Some ix) bs inside None found same named = absurd named
named_by names options (Some ix) bs inside (Some block) found same named = grind (arith, some_if)

-- an ATX heading
pub heading_is_read : (d : Document) (start : ℕ) (level : HeadingLevel) (index : Option HeadingIndex) (chain : List Item) (e : ℕ)
    → IsHeading d (heading_text_at d.text start (level_number level)) index chain e → FirstIsReadFromText d (heading_block start e level index chain)
heading_is_read d start level index chain e is = grind (arith, named_by, found_between)

-- if a line begins with `n` bytes of content, its length is `n` plus the length of what is left of it
content_run : (n : ℕ) (bs : List ℕ) → n ≤ length bs → ((k : ℕ) → k < n → is_content (slice_index bs k) ≡ true) → line_len bs ≡ n + line_len (drop n bs)
content_run zero bs within h = omega arith
content_run (suc n) [] within h = absurd (omega arith)
content_run (suc n) (b ∷ bs) within h =
    let more = content_run n bs (omega arith) (λ k low. h (suc k) (omega arith)) in
    line_len-content_first b bs (h 0 (omega arith)) ∙ omega (arith, more)

-- the place in a line of a text after the prefixes of containers and the indentation
pub record IsAfterPrefix (text : List ℕ) (at to : ℕ) : Type 0 where
  pub order : at ≤ to
  pub within : to ≤ length text
  pub none : HasNoBrace text at to
  pub line : to + line_len (drop to text) ≡ at + line_len (drop at text)

skipped : (text : List ℕ) (at : ℕ) (r s : Rest) → at ≤ length text → r.left ≡ drop at text → r.taken ≡ 0 → Skips r s → IsAfterPrefix text at (at + s.taken)
skipped text at r s within left none skips =
    let n : ℕ = length skips.bytes in
    let count : s.taken ≡ n = (let t = skips.taken in omega (arith, t, none)) in
    let parts : drop at text ≡ skips.bytes ++ s.left = sym left ∙ skips.left in
    let size = ap length parts ∙ length-append skips.bytes s.left in
    let rest = length-drop at text in
    let byte : (k : ℕ) → k < n → is_prefix_byte (slice_index (drop at text) k) ≡ true =
    (λ k low. ap (λ (l : List ℕ). is_prefix_byte (slice_index l k)) parts ∙ ap is_prefix_byte (get_or-append skips.bytes s.left 0 k low)
    ∙ AllPass-from_list_all is_prefix_byte skips.bytes skips.plain k 0 low) in
    let long = content_run n (drop at text) (omega (arith, size)) (λ k low. let passes = byte k low in grind (arith, nat_tests, passes)) in
    let all : IsAfterPrefix text at (at + n) = record {
      order = omega arith;
      within = omega (arith, size, rest);
      none = none_from text at n (λ j low. let passes = byte j low in grind (arith, nat_tests, passes));
      line = (let same = ap line_len (drop-drop n at text) in omega (arith, long, same));
    } in
    subst (λ k. IsAfterPrefix text at (at + k)) (sym count) all

prefix_place : (text : List ℕ) (path : List Container) (at : ℕ) (line : Place) → at ≤ length text → line ≡ line_place at (drop at text)
    → IsAfterPrefix text at (offset (unindented (at_rest line (front path line.rest))))
prefix_place text path at line within is =
    let r : Rest = (line_place at (drop at text)).rest in
    rw is (skipped text at r (all_taken (front path r)) within refl refl (line_skips path (indent (front path r)) r))

prefix_left : (text : List ℕ) (path : List Container) (at : ℕ) (line : Place) → line ≡ line_place at (drop at text)
    → (all_taken (front path line.rest)).left ≡ drop (offset (unindented (at_rest line (front path line.rest)))) text
prefix_left text path at line is =
    let here : Place = line_place at (drop at text) in
    let same : at ≡ at + 0 = omega arith in
    at_front (IsAt text) (at_kept text) path line (subst (IsAt text) (sym is) (ap (λ n. drop n text) same))

-- the lines of a text are read up to an offset, and no closing brace is between the end of their chain and that offset
pub record AreReadUpTo (text : List ℕ) (start : ℕ) (l : TextLines) : Type 0 where
  pub to : ℕ
  pub within : to ≤ length text
  pub left : l.left ≡ lines_from text to
  pub reaches : Reaches text start l.chain to

last_end : (s : ℕ) (chain : List Item) (x : Item) → chain_end s (chain ++ x ∷ []) ≡ x.«end»
last_end s [] x = refl
last_end s (y ∷ ys) x = later_end s y (ys ++ x ∷ []) ∙ last_end y.«end» ys x

-- a line is read
pub record IsLineRead (d : Document) (start : ℕ) (p : Spot) (chain : List Item) (answer : ℕ × Option Item) : Type 0 where
  pub within : answer.0 ≤ length d.text
  pub place : answer.0 ≡ p.at + line_len (drop p.at d.text)
  pub reaches : Reaches d.text start chain answer.0
  pub broken : Reaches d.text start (add_break answer.1 chain) answer.0

broken_by : (d : Document) (start begin : ℕ) (chain : List Item) (n : ℕ) (o : Option Item) → IfSome o (λ x. IsBreak begin n x) → Reaches d.text start chain n
    → Reaches d.text start (add_break o chain) n
broken_by d start begin chain n None broken h = h
broken_by d start begin chain n (Some x) broken h =
    let e : chain_end start (chain ++ x ∷ []) ≡ n = last_end start chain x ∙ broken.to in
    record { order = omega (arith, e); none = nothing_none d.text (chain_end start (chain ++ x ∷ [])) n (omega (arith, e)) }

line_read : (d : Document) (start : ℕ) (p : Spot) (chain tokens : List Item) (answer : ℕ × Option Item) (after : MathBraces) → p.at ≤ length d.text
    → Reaches d.text start chain p.at → AreLineTokens d.names.texts (content_at d p) tokens answer after → IsLineRead d start p (add_tokens chain tokens) answer
line_read d start p chain tokens answer after within h line =
    let ends = ends_line within line in
    let read = line_reaches d.names.texts (content_at d p) tokens answer after (chain_end start chain) line h.order h.none in
    let e = tokens_end start chain tokens in
    let all : Reaches d.text start (add_tokens chain tokens) answer.0 =
    record { order = (let o = read.order in omega (arith, e, o)); none = subst (λ n. HasNoBrace d.text n answer.0) (sym e) read.none } in
    record {
      within = ends.within;
      place = ends.place;
      reaches = all;
      broken = broken_by d start p.at (add_tokens chain tokens) answer.0 answer.1 ends.broken all;
    }

lines_read : (d : Document) (path : List Container) (start : ℕ) (p : Spot) (chain : List Item) (lines : List Place) (l : TextLines) → p.at ≤ length d.text
    → lines ≡ lines_from d.text (p.at + line_len (drop p.at d.text)) → Reaches d.text start chain p.at → AreTextLines d path p chain lines l
    → AreReadUpTo d.text start l
unfolding AreTextLines
lines_read d path start p chain [] l within left h (tokens, answer, after, line, e) =
    let read = line_read d start p chain tokens answer after within h line in
    subst (AreReadUpTo d.text start) (sym e)
    (record { to = answer.0; within = read.within; left = left ∙ ap (lines_from d.text) (sym read.place); reaches = read.reaches })
lines_read d path start p chain (line ∷ lines) l within left h (tokens, answer, after, is, inl (ends, e)) =
    let read = line_read d start p chain tokens answer after within h is in
    subst (AreReadUpTo d.text start) (sym e)
    (record { to = answer.0; within = read.within; left = left ∙ ap (lines_from d.text) (sym read.place); reaches = read.reaches })
lines_read d path start p chain (line ∷ lines) l within left h (tokens, answer, after, is, inr (goes, more)) =
    let read = line_read d start p chain tokens answer after within h is in
    let first = first_line d.text answer.0 line lines (left ∙ ap (lines_from d.text) (sym read.place)) in
    let next : ℕ = offset (unindented (at_rest line (front path line.rest))) in
    let past : IsAfterPrefix d.text answer.0 next = prefix_place d.text path answer.0 line read.within first.1 in
    let there : Spot = spot next after in
    let all : Reaches d.text start (add_break answer.1 (add_tokens chain tokens)) next =
    reach_further d.text start answer.0 next (add_break answer.1 (add_tokens chain tokens)) past.order past.none read.broken in
    lines_read d path start there (add_break answer.1 (add_tokens chain tokens)) lines l past.within (first.2 ∙ ap (lines_from d.text) (sym past.line)) all more

-- the bytes of an underline
eol_none : (bs : List ℕ) (n k : ℕ) → eol_len bs ≡ Some n → k < n → (slice_index bs k == right_brace) ≡ false
eol_none [] n k h low = refl
eol_none (b ∷ bs) n zero h low = grind (arith, nat_tests, h)
eol_none (b ∷ []) n (suc k) h low = refl
eol_none (b ∷ c ∷ bs) n (suc zero) h low = grind (arith, nat_tests, h, low)
eol_none (b ∷ c ∷ bs) n (suc (suc k)) h low = absurd (grind (arith, nat_tests, h, low))

blank_none : (bs : List ℕ) (n : ℕ) → blank_len bs ≡ Some n → HasNoBrace bs 0 n
blank_none bs n h =
    let w : ℕ = prefix_len is_white bs in
    let rest = some_mapped (λ k. w + k) (eol_len (drop w bs)) n h in
    let first : HasNoBrace bs 0 w = (λ k low less. white_none (slice_index bs k) (prefix_len_passes is_white bs k 0 less)) in
    let second = none_from bs w rest.0 (λ j less. eol_none (drop w bs) rest.0 j rest.1 less) in
    subst (HasNoBrace bs 0) rest.2 (both_none bs 0 w (w + rest.0) first second)

-- a line without a closing brace
abbrev IsPlainLine : List ℕ → Type 0
IsPlainLine bs = HasNoBrace bs 0 (line_len bs)

run_plain : (c : ℕ) (level : HeadingLevel) (bs : List ℕ) (found : ℕ × HeadingLevel) → is_content c ≡ true → (c == right_brace) ≡ false
    → option_map (λ n. (n, level)) (underline_len c bs) ≡ Some found → IsPlainLine bs
run_plain c level bs found content other e =
    let n = some_mapped (λ (n : ℕ). (n, level)) (underline_len c bs) found e in
    let m : ℕ = run_len c bs in
    let rest = some_mapped (λ k. m + k) (blank_len (drop m bs)) n.0 n.1 in
    let is : (k : ℕ) → k < m → slice_index bs k ≡ c = λ k less. eqb-true (slice_index bs k) c (prefix_len_passes (λ b. b == c) bs k 0 less) in
    let long = content_run m bs (prefix_len-le-length (λ b. b == c) bs) (λ k less. ap is_content (is k less) ∙ content) in
    let end = line_len-blank (drop m bs) rest.0 rest.1 in
    let whole : m + rest.0 ≡ line_len bs = omega (arith, long, end) in
    let first : HasNoBrace bs 0 m = (λ k low less. ap (λ b. b == right_brace) (is k less) ∙ other) in
    let blank = blank_none (drop m bs) rest.0 rest.1 in
    let second = none_from bs m rest.0 (λ j less. blank j (omega arith) less) in
    subst (HasNoBrace bs 0) whole (both_none bs 0 m (m + rest.0) first second)

underline_here : (path : List Container) (r : Rest) (found : ℕ × HeadingLevel) → underline_of path r ≡ Some found → IsPlainLine (all_taken (front path r)).left
unfolding underline_of setext_underline
underline_here path r found h =
    let bs : List ℕ = (all_taken (front path r)).left in
    let P : Option (ℕ × HeadingLevel) → Type 0 = λ o. o ≡ Some found → IsPlainLine bs in
    cond_both (begins equals_sign bs) _ _ P (λ _. run_plain equals_sign H1 bs found refl refl)
    (λ _. cond_both (begins hyphen bs) _ _ P (λ _. run_plain hyphen H2 bs found refl refl) (λ _ e. absurd (none-some found e)))
    (some_if (nat_lt (indent (front path r)) 4) (setext_underline bs) found
    (some_if (is_some (after path r)) (underline_left (front path r)) found h).1).1

-- no closing brace is in the line of an underline
underline_none : (text : List ℕ) (path : List Container) (at : ℕ) (left : List Place) (found : ℕ × HeadingLevel) → underline_first path left ≡ Some found
    → at ≤ length text → left ≡ lines_from text at
    → (at ≤ start_of (length text) (drop 1 left)) × HasNoBrace text at (start_of (length text) (drop 1 left))
underline_none text path at [] found h within is = absurd (none-some found h)
underline_none text path at (line ∷ lines) found h within is =
    let first = first_line text at line lines is in
    let next : ℕ = offset (unindented (at_rest line (front path line.rest))) in
    let past : IsAfterPrefix text at next = prefix_place text path at line within first.1 in
    let plain = underline_here path line.rest found h in
    let there = prefix_left text path at line first.1 in
    let size : ℕ = line_len (drop next text) in
    let whole : IsPlainLine (drop next text) = subst IsPlainLine there plain in
    let bytes = none_from text next size (λ j less. whole j (omega arith) less) in
    let fits = line_len-fits (drop next text) in
    let rest = length-drop next text in
    let end : start_of (length text) lines ≡ next + size =
    ap (start_of (length text)) first.2 ∙ ap (λ n. start_of (length text) (lines_from text n)) (sym past.line)
    ∙ start_of-lines text (next + size) (let w = past.within in omega (arith, fits, rest)) in
    let order = past.order in
    (omega (arith, end), subst (HasNoBrace text at) (sym end) (both_none text at next (next + size) past.none bytes))

-- the end of a chain with a marker before it
marked_end : (start : ℕ) (marker : Option Item) (chain : List Item) → IfSome marker (λ x. x.«end» ≤ start)
    → start < chain_end start (marker_items marker ++ chain)
    → chain_end start (marker_items marker ++ chain) ≡ chain_end start chain
marked_end start None chain before h = refl
marked_end start (Some x) [] before h = absurd (omega arith)
marked_end start (Some x) (y ∷ ys) before h = refl

-- the block at the end of a heading's text
block_is : (d : Document) (path : List Container) (start : ℕ) (marker : Option Item) (l : TextLines) (found : ℕ × HeadingLevel) (block : Braces)
    → IfSome marker (λ x. x.«end» ≤ start) → AreReadUpTo d.text start l → underline_first path l.left ≡ Some found
    → attribute_block (heading_bytes d start marker l) ≡ Some block
    → bytes_in d.text (block_range d.text start (start_of (length d.text) (drop 1 l.left)))
    ≡ slice_range (heading_bytes d start marker l) (block.opening + 1) block.closing
block_is d path start marker l found block before read underline is =
    let end : ℕ = start_of (length d.text) (drop 1 l.left) in
    let last : ℕ = chain_end start (marker_items marker ++ l.chain) in
    let m : ℕ = last - start in
    let short = part_short d.text start m in
    let some = (block-within (heading_bytes d start marker l) block is).1 in
    let same : last ≡ chain_end start l.chain = marked_end start marker l.chain before (omega arith) in
    let under = underline_none d.text path read.to l.left found underline read.within read.left in
    let order = read.reaches.order in
    let later = under.0 in
    let none : HasNoBrace d.text last end =
    subst (λ n. HasNoBrace d.text n end) (sym same) (both_none d.text (chain_end start l.chain) read.to end read.reaches.none under.1) in
    found_between d.text start end start m block (omega arith) (omega (arith, same, order, later)) is (λ k low high. none k (omega arith) high)

setext_by : (d : Document) (path : List Container) (start : ℕ) (marker : Option Item) (l : TextLines) (t : Taken) (o : Option (ℕ × HeadingLevel))
    → IfSome marker (λ x. x.«end» ≤ start) → AreReadUpTo d.text start l → underline_first path l.left ≡ o
    → MatchOption o (t ≡ plain_text d start marker l) (λ underline. IsUnderlined d start marker l underline.1 t) → FirstIsReadFromText d t.items
setext_by d path start marker l t None before read is e = subst (λ (z : Taken). FirstIsReadFromText d z.items) (sym e) tt
setext_by d path start marker l t (Some found) before read is (index, named, e) =
    subst (λ (z : Taken). FirstIsReadFromText d z.items) (sym e)
    (named_by d.names d.options index (heading_bytes d start marker l)
    (bytes_in d.text (block_range d.text start (start_of (length d.text) (drop 1 l.left))))
    (heading_attribute_block d.options (heading_bytes d start marker l)) refl
    (λ block h. block_is d path start marker l found block before read is h) named)

-- a setext heading, or a paragraph
pub text_is_read : (d : Document) (path : List Container) (start : ℕ) (marker : Option Item) (lines : List Place) (t : Taken)
    → IfSome marker (λ x. x.«end» ≤ start) → start ≤ length d.text → lines ≡ lines_from d.text (start + line_len (drop start d.text))
    → IsPlainText d path start marker lines t → FirstIsReadFromText d t.items
text_is_read d path start marker lines t before within left (l, are, is) =
    setext_by d path start marker l t (underline_first path l.left) before
    (lines_read d path start (spot start no_braces) [] lines l within left
    (record { order = omega arith; none = nothing_none d.text start start (omega arith) }) are) refl is
