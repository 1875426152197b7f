-- The content of a chain in order consists of pieces: for each token its part, and the gap after it.
use Rattle.std.proofs.Common.{◌≡◌, ℕ, ◌+◌, ◌-◌, ◌<◌, ◌≤◌, Bool, true, false, List, [], ◌∷◌, ◌++◌, length, drop}
use Rattle.std.proofs.Common.{IsCharBoundary, refl, sym, ap, subst, ◌∙◌, arith, inl, inr, get_or-drop, get_or-take, ltb-true, slice_index, nat_lt, ◌&&◌}
use Rattle.std.proofs.Math.Nat.{le_refl}
use Rattle.std.proofs.lemmas.Bool.{and_parts, cases_lt, false≢true}
use Rattle.std.proofs.lemmas.Bool.Decides.{nat_tests}
use Rattle.std.proofs.lemmas.List.Edits.{between_none, length-between}
use Rattle.std.proofs.lemmas.List.Sums.{prefix_len-le-length, prefix_len_stops}
use Rattle.std.proofs.lemmas.Str.{IsCharBoundary-before_ascii}
use Rattle.std.specs.Prelude.{if◌then◌else◌}
use Rattle.std.specs.List.{prefix_len, slice_range}
use Rattle.first_pass_items.specs.declared.item.Item.{Item}
use Rattle.first_pass_items.specs.declared.item.ItemBody.{ItemBody}
use Rattle.first_pass_items.specs.declared.item.ItemBody.TheVariants.{SoftBreak, HardBreak}
use Rattle.first_pass_lines.specs.Lines.{is_content}
use Rattle.first_pass_tokens.specs.LineTokens.{is_break}
use Rattle.first_pass_grammar.specs.Order.{is_task_marker}
use Rattle.first_pass_reports.specs.Pairs.{is_escaped, whole_start}
use Rattle.first_pass_content.specs.Chains.{FollowsBackslash, IsChainIn}
use Rattle.first_pass_content.specs.Content.{ContentByte, byte_in, content, copied, gap_content, placed, token_content}
use Rattle.first_pass_content.specs.Parts.{is_lone, line_end_of, part}
use Rattle.first_pass_content.proofs.Pieces.{IsPiece, piece_both, piece_copied, piece_newline, piece_none}

low_line_end : (b : ℕ) → is_content b ≡ false → b < 128
low_line_end b h = grind (arith, nat_tests, h)

low_lone : (b : ℕ) → is_lone b ≡ true → b < 128
low_lone b h = grind (arith, nat_tests, h)

break_unescaped : (body : ItemBody) → is_break body ≡ true → is_escaped body ≡ false
break_unescaped SoftBreak h = refl
break_unescaped (HardBreak by_backslash) h = refl
break_unescaped _ h = absurd (false≢true h)

-- the line ending of a break begins at a character
record EndsAt (text : List ℕ) (x : Item) (at : ℕ) : Type 0 where
  after : x.start ≤ at
  before : at ≤ x.«end»
  boundary : IsCharBoundary text at

line_end_at : (text : List ℕ) (x : Item) → x.start ≤ x.«end» → IsCharBoundary text x.«end» → EndsAt text x (line_end_of text x)
line_end_at text x order ends =
    let bytes : List ℕ = slice_range text x.start x.«end» in
    let n : ℕ = prefix_len is_content bytes in
    let size : length bytes ≡ x.«end» - x.start = length-between text x.start x.«end» ends.0 in
    let few : n ≤ length bytes = prefix_len-le-length is_content bytes in
    let boundary : IsCharBoundary text (x.start + n) = elim (cases_lt n (length bytes)) [
      | inl inside ↦
          let stops : is_content (slice_index bytes n) ≡ false = prefix_len_stops is_content bytes 0 inside in
          let same : slice_index bytes n ≡ slice_index text (x.start + n) =
          get_or-take (x.«end» - x.start) (drop x.start text) n 0 (omega (arith, inside, size)) ∙ get_or-drop x.start text n 0 in
          let low : slice_index text (x.start + n) < 128 = subst (λ b. b < 128) same (low_line_end (slice_index bytes n) stops) in
          IsCharBoundary-before_ascii text (x.start + n) (omega (arith, inside, size, ends.0)) low
      | inr past ↦
          let e : x.«end» ≡ x.start + n = omega (arith, past, few, size, order) in
          subst (IsCharBoundary text) e ends
    ] in
    record { after = omega arith; before = omega (arith, few, size, order); boundary = boundary }

-- a token begins at a character, with the backslash that was dropped before it
record BeginsAt (text : List ℕ) (from : ℕ) (x : Item) (at : ℕ) : Type 0 where
  after : from ≤ at
  before : at ≤ x.start
  boundary : IsCharBoundary text at

whole_by : (escaped : Bool) (text : List ℕ) (from : ℕ) (x : Item) → from ≤ x.start → IsCharBoundary text x.start
    → (escaped ≡ true → (from < x.start) × (slice_index text (x.start - 1) ≡ 92))
    → BeginsAt text from x (if escaped then x.start - 1 else x.start)
whole_by true text from x after starts slash =
    let is = slash refl in
    let low : slice_index text (x.start - 1) < 128 = omega (arith, is.1) in
    record {
      after = omega (arith, is.0);
      before = omega arith;
      boundary = IsCharBoundary-before_ascii text (x.start - 1) (omega (arith, is.0, starts.0)) low;
    }
whole_by false text from x after starts slash = record { after = after; before = le_refl x.start; boundary = starts }

module _ (text : List ℕ) (from : ℕ) (x : Item) (after : from ≤ x.start) (order : x.start ≤ x.«end») (starts : IsCharBoundary text x.start)
    (ends : IsCharBoundary text x.«end») where
  token_by : (breaks marks : Bool) (line whole : ℕ) → EndsAt text x line → BeginsAt text from x whole
      → IsPiece text from x.«end»
      (copied text (if breaks then part x.start line else (if marks then part x.start x.start else part whole x.«end»))
      ++ (if breaks then byte_in 10 line x.«end» ∷ [] else []))
  token_by true marks line whole l w =
      piece_both text from line x.«end» (copied text (part x.start line)) (byte_in 10 line x.«end» ∷ [])
      (piece_copied text from line (part x.start line)
      (record { after = after; order = l.after; before = le_refl line; starts = starts; ends = l.boundary }))
      (piece_newline text line x.«end» l.before l.boundary ends)
  token_by false true line whole l w =
      piece_both text from x.«end» x.«end» (copied text (part x.start x.start)) []
      (piece_copied text from x.«end» (part x.start x.start)
      (record { after = after; order = le_refl x.start; before = order; starts = starts; ends = starts }))
      (piece_none text x.«end» x.«end» (le_refl x.«end»))
  token_by false false line whole l w =
      piece_both text from x.«end» x.«end» (copied text (part whole x.«end»)) []
      (piece_copied text from x.«end» (part whole x.«end»)
      (record { after = w.after; order = omega (arith, w.before, order); before = le_refl x.«end»; starts = w.boundary; ends = ends }))
      (piece_none text x.«end» x.«end» (le_refl x.«end»))

  pub token_piece : FollowsBackslash text from x → IsPiece text from x.«end» (token_content text x)
  token_piece slash =
      token_by (is_break x.body) (is_task_marker x.body) (line_end_of text x) (whole_start x) (line_end_at text x order ends)
      (whole_by (is_escaped x.body) text from x after starts slash)

-- the gap after a token, up to where the chain goes on
pub record GoesOn (text : List ℕ) (at to : ℕ) (c : List ContentByte) (tokens : List (ℕ × Item)) : Type 0 where
  pub mid : ℕ
  pub piece : IsPiece text at mid c
  pub chain : IsChainIn text mid to tokens

-- from the start of a break on
module _ (text : List ℕ) (at to : ℕ) (y : ℕ × Item) (ys : List (ℕ × Item)) (is : IsChainIn text at to (y ∷ ys)) (at_boundary : IsCharBoundary text at) where
  break_chain : is_escaped y.1.body ≡ false → IsChainIn text y.1.start to (y ∷ ys)
  break_chain none = (le_refl y.1.start, is.1, is.2, is.3, λ escaped. absurd (false≢true (sym none ∙ escaped)), is.5)

  gap_by : (breaks both lone : Bool) → (breaks ≡ true → is_escaped y.1.body ≡ false)
      → (lone ≡ true → (at < y.1.start) × (slice_index text (y.1.start - 1) < 128))
      → GoesOn text at to
      (copied text
      (if breaks
      then (if both then (if lone then part (y.1.start - 1) y.1.start else part y.1.start y.1.start) else part at y.1.start)
      else part y.1.start y.1.start)) (y ∷ ys)
  gap_by true true true plain low =
      let is_low = low refl in
      record {
        mid = y.1.start;
        piece = piece_copied text at y.1.start (part (y.1.start - 1) y.1.start) (record {
          after = omega (arith, is_low.0);
          order = omega arith;
          before = le_refl y.1.start;
          starts = IsCharBoundary-before_ascii text (y.1.start - 1) (omega (arith, is_low.0, is.2.0)) is_low.1;
          ends = is.2;
        });
        chain = break_chain (plain refl);
      }
  gap_by true true false plain low = record {
    mid = y.1.start;
    piece = piece_copied text at y.1.start (part y.1.start y.1.start)
        (record { after = is.0; order = le_refl y.1.start; before = le_refl y.1.start; starts = is.2; ends = is.2 });
    chain = break_chain (plain refl);
  }
  gap_by true false lone plain low = record {
    mid = y.1.start;
    piece = piece_copied text at y.1.start (part at y.1.start)
        (record { after = le_refl at; order = is.0; before = le_refl y.1.start; starts = at_boundary; ends = is.2 });
    chain = break_chain (plain refl);
  }
  gap_by false both lone plain low =
      let none : [] ≡ copied text (part y.1.start y.1.start) =
      sym (ap (λ l. placed y.1.start l) (between_none text y.1.start)) in
      record { mid = at; piece = subst (IsPiece text at at) none (piece_none text at at (le_refl at)); chain = is }

pub gap_piece : (text : List ℕ) (to : ℕ) (x : Item) (tokens : List (ℕ × Item)) → IsCharBoundary text x.«end» → IsChainIn text x.«end» to tokens
    → GoesOn text x.«end» to (gap_content text x tokens) tokens
gap_piece text to x [] ends is = record { mid = x.«end»; piece = piece_none text x.«end» x.«end» (le_refl x.«end»); chain = is }
gap_piece text to x (y ∷ ys) ends is =
    gap_by text x.«end» to y ys is ends (is_break y.1.body) (is_break x.body)
    (nat_lt x.«end» y.1.start && is_lone (slice_index text (y.1.start - 1))) (break_unescaped y.1.body)
    (λ lone.
    let both = and_parts (nat_lt x.«end» y.1.start) (is_lone (slice_index text (y.1.start - 1))) lone in
    (ltb-true x.«end» y.1.start both.0, low_lone (slice_index text (y.1.start - 1)) both.1))

pub content_piece : (text : List ℕ) (from to : ℕ) (tokens : List (ℕ × Item)) → IsChainIn text from to tokens → IsPiece text from to (content text tokens)
unfolding content
content_piece text from to [] is = piece_none text from to is
content_piece text from to (x ∷ xs) is =
    let next = gap_piece text to x.1 xs is.3 is.5 in
    piece_both text from x.1.«end» to (token_content text x.1) (gap_content text x.1 xs ++ content text xs)
    (token_piece text from x.1 is.0 is.1 is.2 is.3 is.4)
    (piece_both text x.1.«end» next.mid to (gap_content text x.1 xs) (content text xs) next.piece (content_piece text next.mid to xs next.chain))
