-- The part of a content that is read, and the tokens appended for it.
use Rattle.std.proofs.Common.{ℕ, zero, suc, ◌≡◌, ◌⊎◌, ◌+◌, ◌-◌, ◌≤◌, ◌<◌, ◌==◌, min, Bool, true, false, List, ◌∷◌, ◌++◌, length, slice_index, Option, Result}
use Rattle.std.proofs.Common.{Ok, Err, OnOk, IfOk, refl, sym, ap, subst, ◌∙◌, inl, inr, arith, le-leb, []}
use Rattle.first_pass_tokens.proofs.Common.{CowStr, Item, cases_lt, or_left, cond_both, cond-true, cond-false, backslash, Piece, MathBraces, braces_after, Left}
use Rattle.first_pass_tokens.proofs.Common.{Begins, Token, Run, nat_tests, Ready, Inline, special_found, size, MakesPiece, AreMore, Spot, spot, ArePieces}
use Rattle.first_pass_tokens.proofs.Common.{add_piece, add_pieces, breaks_by_backslash, line_end_len, line_break, IsCell, Forest, with_text, token, run_tokens}
use Rattle.first_pass_tokens.proofs.Common.{add_token, add_tokens, add_text, with_tokens, AppendsLine, AppendsCell, is_white, TokenStart, AllocError, HeldText}
use Rattle.first_pass_walk.specs.Walk.{is_special}
use Rattle.first_pass_tokens.specs.Pieces.{found_at}
use Rattle.first_pass_tokens.specs.LineTokens.{content_ends_at, text_end, backslashes_at_end, blanks_at_end}
use Rattle.first_pass_tokens.specs.HeldText.{held_after, tree_after, IsHeldTo}
use Rattle.first_pass_tokens.proofs.PieceFacts.{IsPieceAt, IsMark, mark_facts, piece_fits, markup_plain}
use Rattle.first_pass_tokens.proofs.ChainLemmas.{add_text-none, add_text-joined, with_tokens-text, with_tokens-add, with_tokens-adds, with_token-plain}
use Rattle.first_pass_tokens.proofs.NamedTexts.{pieces_more}
use Rattle.first_pass_tokens.proofs.LineLemmas.{are_more, add_pieces_more, end_bounded, break_some, piece_of}

-- the pending text begins with the content, or after a byte that is no white space, and no backslash if the text is
-- empty
abbrev pub BeginsText : List ℕ → ℕ → ℕ → ℕ → Type 0
BeginsText text start begin at =
    (begin ≡ start) ⊎ ((0 < begin) × (is_white (slice_index text (begin - 1)) ≡ false) × ((begin < at) ⊎ ((slice_index text (begin - 1) == backslash) ≡ false)))

-- the pending text of a content that is read up to a place
pub record IsHeld (text : List ℕ) (start : ℕ) (p : HeldText) (at : ℕ) : Type 0 where
  pub from : start ≤ p.begin
  pub upto : p.begin ≤ at
  pub mark : (p.begin < at) ⊎ (p.escaped ≡ false)
  pub begins : BeginsText text start p.begin at

-- The content is read up to a place: the chain so far, and a pending text.
pub record SoFar (texts : List CowStr) (z : Inline) (chain : List Item) (pending : HeldText) (at : ℕ) (b : MathBraces) : Type 0 where
  pub pieces : List Piece
  pub divided : ArePieces texts z z.start z.braces pieces (spot at b)
  pub within : at ≤ length z.text
  pub held : IsHeld z.text z.start pending at
  pub shown : (stop : ℕ) → pending.begin ≤ stop → add_pieces stop z.start pieces [] ≡ add_text pending.begin (min at stop) pending.escaped chain

-- the chain after a piece
abbrev pub chain_after : ℕ → Piece → HeldText → List Item → List Item
chain_after at (Left n) p chain = chain
chain_after at (Begins dropped escaped) p chain = add_text p.begin at p.escaped chain
chain_after at (Token dropped n body) p chain = add_token (add_text p.begin at p.escaped chain) (token (at + dropped) n body)
chain_after at (Run n opens closes) p chain = add_tokens (add_text p.begin at p.escaped chain) (run_tokens at n opens closes)

-- plain text at a place: its byte is not special, or it is a piece by itself and the content does not end there
abbrev pub IsPlain : Inline → ℕ → Type 0
IsPlain z k = (is_special z.options (slice_index z.text k) ≡ false) ⊎ ((content_ends_at z k ≡ false) × (found_at z k ≡ Ready (Left 1)))

-- plain text is a piece by itself, and no content ends there
single_piece : (z : Inline) (at : ℕ) → at < length z.text → IsPlain z at → (content_ends_at z at ≡ false) × (found_at z at ≡ Ready (Left 1))
unfolding content_ends_at found_at is_special
single_piece z at within (inl plain) = (grind (arith, nat_tests, within, plain), cond-false _ _ _ plain)
single_piece z at within (inr is) = is

-- the piece found at a special byte
pub found_special : (z : Inline) (at : ℕ) → is_special z.options (slice_index z.text at) ≡ true → special_found z at ≡ found_at z at
unfolding found_at
found_special z at special = sym (cond-true _ _ _ special)

-- at the start of a content an empty text is pending
pub held_start : (text : List ℕ) (start : ℕ) → IsHeld text start (record { begin = start; escaped = false }) start
held_start text start = record { from = omega arith; upto = omega arith; mark = inr refl; begins = inl refl }

so_far_start : {texts : List CowStr} (z : Inline)
    → z.start ≤ length z.text → SoFar texts z [] (record { begin = z.start; escaped = false }) z.start z.braces
so_far_start z within = grind (arith, held_start, add_text-none)

-- a text grows by the bytes after it
add_text_grows : (begin at n stop : ℕ) (escaped : Bool) (chain : List Item) → begin ≤ at → (begin < at) ⊎ (escaped ≡ false) → begin ≤ stop
    → add_text at (min (at + n) stop) false (add_text begin (min at stop) escaped chain) ≡ add_text begin (min (at + n) stop) escaped chain
add_text_grows begin at n stop escaped chain upto mark ahead = grind (arith, cases_lt, add_text-joined, add_text-none)

pub begins_on : (text : List ℕ) (start begin at to : ℕ) → at ≤ to → BeginsText text start begin at → BeginsText text start begin to
begins_on text start begin at to order h6 = grind arith

-- after a token an empty text is pending
held_none : (text : List ℕ) (start begin at : ℕ) → start < begin → begin ≤ at → IsMark (slice_index text (begin - 1))
    → IsHeld text start (record { begin = begin; escaped = false }) at
held_none text start begin at low high last = grind (arith, mark_facts)

-- the pending text after one more piece
pub held_piece : (text : List ℕ) (start at : ℕ) (q : Piece) (p : HeldText) → IsPieceAt text at q → IsHeld text start p at
    → IsHeld text start (held_after at q p) (at + size q)
held_piece text start at (Left n) p facts h = grind (arith, begins_on)
held_piece text start at (Begins dropped escaped) p facts h = grind arith
held_piece text start at (Token dropped n body) p facts h = grind (arith, held_none)
held_piece text start at (Run n opens closes) p facts h = grind (arith, held_none)

held_later : (at : ℕ) (q : Piece) (p : HeldText) → p.begin ≤ at → p.begin ≤ (held_after at q p).begin
held_later at q p upto = grind arith

-- the texts and tokens after one more piece, if the texts stop at an offset
pub shown_piece : (text : List ℕ) (start stop at : ℕ) (q : Piece) (p : HeldText) (chain : List Item)
    → IsHeld text start p at → (held_after at q p).begin ≤ stop
    → add_piece stop at q (add_text p.begin (min at stop) p.escaped chain)
    ≡ add_text (held_after at q p).begin (min (at + size q) stop) (held_after at q p).escaped (chain_after at q p chain)
shown_piece text start stop at q p chain h ahead = grind (arith, add_text_grows, add_text-none)

-- one more piece
so_far_piece : {texts : List CowStr} (z : Inline) (chain : List Item) (pending : HeldText) (at : ℕ) (b : MathBraces) → SoFar texts z chain pending at b
    → content_ends_at z at ≡ false → (found : TokenStart) → found_at z at ≡ found → (p : Piece) → MakesPiece texts b found p
    → SoFar texts z (chain_after at p pending chain) (held_after at p pending) (at + size p) (braces_after found b)
so_far_piece {texts} z chain pending at b s on found there p makes =
    let is : MakesPiece texts b (found_at z at) p = rw there makes in
    let facts = piece_of texts b z at p on is in
    let upto = s.held.upto in
    let later = held_later at p pending upto in
    record {
      pieces = s.pieces ++ p ∷ [];
      divided = subst (λ (f : TokenStart). ArePieces texts z z.start z.braces (s.pieces ++ p ∷ []) (spot (at + size p) (braces_after f b))) there
          (are_more texts z z.start z.braces s.pieces (spot at b) p s.divided on is);
      within = piece_fits z.text at p facts;
      held = held_piece z.text z.start at p pending facts s.held;
      shown = λ stop ahead. add_pieces_more texts z stop z.start z.braces s.pieces (spot at b) [] p s.divided
          ∙ ap (add_piece stop at p) (s.shown stop (omega arith)) ∙ shown_piece z.text z.start stop at p pending chain s.held ahead;
    }

-- up to a place n bytes later, with only plain text before it
so_far_upto : {texts : List CowStr} (z : Inline) (chain : List Item) (pending : HeldText) (n at to : ℕ) (b : MathBraces) → to ≡ at + n
    → SoFar texts z chain pending at b → to ≤ length z.text → ((k : ℕ) → at ≤ k → k < to → IsPlain z k) → SoFar texts z chain pending to b
so_far_upto {texts} z chain pending zero at to b there s within plain = grind arith
so_far_upto {texts} z chain pending (suc n) at to b there s within plain =
    let first = single_piece z at (omega arith) (plain at (omega arith) (omega arith)) in
    let more : SoFar texts z chain pending (at + 1) b = so_far_piece z chain pending at b s first.0 (Ready (Left 1)) first.1 (Left 1) refl in
    so_far_upto z chain pending n (at + 1) to b (omega arith) more within (λ k low high. plain k (omega arith) high)

-- the last text of a content ends in it
text_end_within : (z : Inline) (end : ℕ) → text_end z end ≤ end
unfolding text_end
text_end_within z end = cond_both (breaks_by_backslash z end) (end - 1) (end - blanks_at_end z end) (λ (x : ℕ). x ≤ end) (λ b. omega arith) (λ b. omega arith)

-- an offset at which the last text of a content may end: a pending text begins there or before
pub record IsTextEnd (z : Inline) (end stop : ℕ) : Type 0 where
  pub short : stop ≤ end
  pub following : (begin : ℕ) → z.start ≤ begin → begin ≤ end → BeginsText z.text z.start begin end → begin ≤ stop

pub cell_text_end : (z : Inline) (end : ℕ) → end ≤ length z.text → IsTextEnd z end (end - blanks_at_end z end)
unfolding blanks_at_end
cell_text_end z end within = grind (arith, end_bounded)

pub line_text_end : (z : Inline) (end : ℕ) → end ≤ length z.text → IsTextEnd z end (text_end z end)
unfolding text_end backslashes_at_end
line_text_end z end within =
    cond_both (breaks_by_backslash z end) (end - 1) (end - blanks_at_end z end) (IsTextEnd z end)
    (λ breaks. let some = break_some z end breaks in
    record {
      short = omega arith;
      following = λ begin low high begins.
          let bound : (begin ≡ z.start) ⊎ ((0 < begin) × ((slice_index z.text (begin - 1) == backslash) ≡ false)) → begin ≤ end - 1 =
          λ stops. omega (arith, end_bounded (λ b. b == backslash) z.text z.start begin end low high within stops) in
          elim begins [ inl same ↦ bound (inl same) | inr at ↦ elim at.2 [ inl longer ↦ omega arith | inr other ↦ bound (inr (at.0, other)) ] ];
    })
    (λ plain. cell_text_end z end within)

-- The content is read up to a place, and its tokens up to there are in the tree, except for a pending text.
pub record IsRead (texts : List CowStr) (z : Inline) (old tree : Forest Item) (pending : HeldText) (to : Spot) : Type 0 where
  pub tokens : List Item
  pub read : SoFar texts z tokens pending to.at to.braces
  pub tree_is : tree ≡ with_tokens old tokens

pub read_start : {texts : List CowStr} (z : Inline) (old : Forest Item) → z.start ≤ length z.text
    → IsRead texts z old old (record { begin = z.start; escaped = false }) (spot z.start z.braces)
read_start z old within = record { tokens = []; read = so_far_start z within; tree_is = refl }

pub read_upto : {texts : List CowStr} {z : Inline} {old tree : Forest Item} {pending : HeldText} (at to : ℕ) (b : MathBraces)
    → IsRead texts z old tree pending (spot at b)
    → at ≤ to → to ≤ length z.text → ((k : ℕ) → at ≤ k → k < to → IsPlain z k) → IsRead texts z old tree pending (spot to b)
read_upto {texts} {z} {old} {tree} {pending} at to b r order within plain =
    record { tokens = r.tokens; read = so_far_upto z r.tokens pending (to - at) at to b (omega arith) r.read within plain; tree_is = r.tree_is }

-- the same, while more texts are named
pub read_more : {new old : List CowStr} {z : Inline} {before tree : Forest Item} {pending : HeldText} {to : Spot}
    → AreMore new old → IsRead old z before tree pending to
    → IsRead new z before tree pending to
read_more {new} {old} {z} {before} {tree} {pending} {to} more r = grind (arith, pieces_more)

-- the tree after a piece has the chain after that piece
tree_is_after : (text : List ℕ) (old : Forest Item) (chain : List Item) (pending : HeldText) (at : ℕ) (p : Piece) → IsPieceAt text at p
    → pending.begin ≤ at → with_tokens old (chain_after at p pending chain) ≡ tree_after at p pending (with_tokens old chain)
tree_is_after text old chain pending at p facts order = grind (arith, with_tokens-text, with_tokens-add, with_token-plain, markup_plain, with_tokens-adds)

module _ {texts : List CowStr} {z : Inline} {at : ℕ} {found : TokenStart} (on : content_ends_at z at ≡ false) (there : found_at z at ≡ found) where
  pub read_piece : {old tree : Forest Item} {pending : HeldText} {b : MathBraces} (p : Piece) → MakesPiece texts b found p
      → IsRead texts z old tree pending (spot at b)
      → IsRead texts z old (tree_after at p pending tree) (held_after at p pending) (spot (at + size p) (braces_after found b))
  read_piece {old} {tree} {pending} {b} p is r = record {
    tokens = chain_after at p pending r.tokens;
    read = so_far_piece z r.tokens pending at b r.read on found there p is;
    tree_is = ap (tree_after at p pending) r.tree_is
        ∙ sym (tree_is_after z.text old r.tokens pending at p (piece_of texts b z at p on (rw there is)) r.read.held.upto);
  }

-- the whole content
pub read_all : {texts : List CowStr} (z : Inline) (old tree : Forest Item) (pending : HeldText) (to : Spot) → IsRead texts z old tree pending to
    → content_ends_at z to.at ≡ true → IsHeldTo texts z old tree to pending
read_all z old tree pending to r ended = grind (arith, line_text_end, cell_text_end, with_tokens-text)

-- At the end of a line the pending text is appended, and the call returns the offset of the next line and the break.
pub record IsLineEnd (z : Inline) (tree new : Forest Item) (pending : HeldText) (end : ℕ) (r : Result (ℕ × Option Item) AllocError) : Type 0 where
  pub tree_is : OnOk r ((b : MathBraces) → new ≡ with_text tree pending.begin (text_end (record z { braces = b }) end) pending.escaped)
  pub answer_is : IfOk r (λ a. (b : MathBraces) → a ≡ (end + line_end_len (record z { braces = b }) end, line_break (record z { braces = b }) end))

-- a line whose content is read, once the pending text is appended
pub read_ended : {texts : List CowStr} (z : Inline) (old tree new : Forest Item) (pending : HeldText) (end : ℕ) (after : MathBraces)
    (r : Result (ℕ × Option Item) AllocError)
    → z.row ≡ false → IsHeldTo texts z old tree (spot end after) pending → IsLineEnd z tree new pending end r
    → IfOk r (λ a. AppendsLine texts z old new a after)
read_ended z old tree new pending end after (Ok a) plain read ended = record {
  tokens = add_pieces (text_end z end) z.start read.pieces [];
  line = record {
    no_cell = plain;
    pieces = read.pieces;
    content_end = end;
    division = read.division;
    tokens_are = refl;
    answer_is = ended.answer_is z.braces;
  };
  tree_is = ended.tree_is z.braces ∙ read.appended (text_end z end) read.before_break (text_end_within z end);
}
read_ended z old tree new pending end after (Err e) plain read ended = tt

-- a cell whose content is read, once the pending text is appended
pub read_cell : {texts : List CowStr} (z : Inline) (old tree new : Forest Item) (pending : HeldText) (end : ℕ) (after : MathBraces)
    → IsHeldTo texts z old tree (spot end after) pending → new ≡ with_text tree pending.begin (end - blanks_at_end z end) pending.escaped
    → AppendsCell texts z old new end after
read_cell z old tree new pending end after r new_is = grind arith

-- a cell that is plain text up to its end: that text is its only token
pub cell_plain : {texts : List CowStr} (z : Inline) (end : ℕ) → z.start ≤ end → end ≤ length z.text → ((k : ℕ) → z.start ≤ k → k < end → IsPlain z k)
    → content_ends_at z end ≡ true → IsCell texts z (add_text z.start (end - blanks_at_end z end) false []) end z.braces
cell_plain {texts} z end order within plain ended =
    let stop = end - blanks_at_end z end in
    let begun : SoFar texts z [] (record { begin = z.start; escaped = false }) z.start z.braces = so_far_start z (omega arith) in
    let s = so_far_upto z [] (record { begin = z.start; escaped = false }) (end - z.start) z.start end z.braces (omega arith) begun within plain in
    let ahead : z.start ≤ stop = (cell_text_end z end within).following z.start s.held.from s.held.upto s.held.begins in
    let here : min end stop ≡ stop = omega arith in
    record {
      pieces = s.pieces;
      division = record { divided = s.divided; ended = ended };
      tokens_are = rw (s.shown stop ahead, here) refl;
    }

pub ended_by_text : (z : Inline) → content_ends_at z (length z.text) ≡ true
unfolding content_ends_at
ended_by_text z = or_left _ _ (le-leb (length z.text) (length z.text) (omega arith))
