-- Each line has tokens, and so has each cell, with the texts that they name among some texts.
use Rattle.std.proofs.Common.{inl, inr, ℕ, zero, suc, ◌+◌, ◌-◌, ◌<◌, ◌≡◌, true, false, List, ◌∷◌, ◌++◌, length, encode_utf8, Option, refl, arith, []}
use Rattle.first_pass_tokens.proofs.Common.{CowStr, Item, cases_Bool, true_from_ne_false, Piece, MathBraces, dollar_context, braces_after, Left, Token, Ready}
use Rattle.first_pass_tokens.proofs.Common.{Reference, Dashes, Dollar, Inline, found_at, size, dashes, IsNamingToken, MakesPiece, AreMore, Spot, spot}
use Rattle.first_pass_tokens.proofs.Common.{content_ends_at, ArePieces, text_end, add_pieces, line_end_len, line_break, blanks_at_end, AreLineTokens, IsCell}
use Rattle.first_pass_tokens.proofs.Common.{CowIndex, TokenStart, SynthesizeText, MaybeMath}
use Rattle.first_pass_items.specs.declared.cow_str.CowStr.TheVariants.{Borrowed}
use Rattle.first_pass_tokens.proofs.PieceFacts.{piece_some}
use Rattle.first_pass_tokens.proofs.LineLemmas.{piece_of, not_ended}
use Rattle.first_pass_tokens.proofs.NamedTexts.{more_none, more_both, among_last, becomes_more}

-- a borrowed text
unfoldable pub borrowed : List ℕ → CowStr
borrowed text = Borrowed (record { ref_ptr = (0, 0); now = text })

-- the piece at a place, and texts with those that it names
record FoundPiece (texts : List CowStr) (b : MathBraces) (found : TokenStart) : Type 0 where
  named : List CowStr
  more : AreMore named texts
  piece : Piece
  becomes : MakesPiece named b found piece

-- a piece that names no more texts, and one that names one more
found_ready : (texts : List CowStr) (b : MathBraces) (found : TokenStart) (piece : Piece) → MakesPiece texts b found piece → FoundPiece texts b found
found_ready texts b found piece is = record { named = texts; more = more_none texts; piece = piece; becomes = is }

found_naming : (texts : List CowStr) (b : MathBraces) (found : TokenStart) (n : ℕ) (text : List ℕ)
    → ((named : List CowStr) (piece : Piece) → IsNamingToken named n text piece → MakesPiece named b found piece) → FoundPiece texts b found
unfolding borrowed
found_naming texts b found n text makes =
    let ix : CowIndex = record { 0 = length texts } in
    let named = texts ++ borrowed text ∷ [] in
    record {
      named = named;
      more = (borrowed text ∷ [], refl);
      piece = Token 0 n (SynthesizeText ix);
      becomes = makes named (Token 0 n (SynthesizeText ix)) (ix, (borrowed text, among_last named texts ix (borrowed text) refl refl, refl), refl);
    }

found_piece : (texts : List CowStr) (b : MathBraces) (found : TokenStart) → FoundPiece texts b found
found_piece texts b (Ready piece) = found_ready texts b (Ready piece) piece refl
found_piece texts b (Reference n c) = found_naming texts b (Reference n c) n (encode_utf8 c) (λ named piece is. is)
found_piece texts b (Dashes n) = found_naming texts b (Dashes n) n (dashes n) (λ named piece is. is)
found_piece texts b (Dollar opens closes) = found_ready texts b (Dollar opens closes) (Token 0 1 (MaybeMath opens closes (dollar_context b))) refl
found_piece texts b found = found_ready texts b found (Left 1) refl

-- the pieces of a content from a place on
record Division (texts : List CowStr) (s : Inline) (at : ℕ) (b : MathBraces) : Type 0 where
  named : List CowStr
  more : AreMore named texts
  pieces : List Piece
  to : Spot
  divided : ArePieces named s at b pieces to
  ended : content_ends_at s to.at ≡ true

ended_here : (texts : List CowStr) (s : Inline) (at : ℕ) (b : MathBraces) → content_ends_at s at ≡ true → Division texts s at b
ended_here texts s at b h = record { named = texts; more = more_none texts; pieces = []; to = spot at b; divided = refl; ended = h }

division : (texts : List CowStr) (s : Inline) (most at : ℕ) (b : MathBraces) → length s.text < at + most → Division texts s at b
division texts s zero at b h = ended_here texts s at b (true_from_ne_false _ (λ on. let inside = (not_ended s at on).0 in omega arith))
division texts s (suc most) at b h =
    elim (cases_Bool (content_ends_at s at)) [
      | inl ended ↦ ended_here texts s at b ended
      | inr on ↦
          let first = found_piece texts b (found_at s at) in
          let some = piece_some s.text at first.piece (piece_of first.named b s at first.piece on first.becomes) in
          let further = division first.named s most (at + size first.piece) (braces_after (found_at s at) b) (omega arith) in
          record {
            named = further.named;
            more = more_both further.named first.named texts further.more first.more;
            pieces = first.piece ∷ further.pieces;
            to = further.to;
            divided = (on, becomes_more further.named first.named b (found_at s at) first.piece further.more first.becomes, further.divided);
            ended = further.ended;
          }
    ]

-- the tokens of a line, and texts with those that they name
pub record FoundLine (texts : List CowStr) (s : Inline) : Type 0 where
  pub named : List CowStr
  pub more : AreMore named texts
  pub tokens : List Item
  pub answer : ℕ × Option Item
  pub after : MathBraces
  pub line : AreLineTokens named s tokens answer after

pub line_found : (texts : List CowStr) (s : Inline) → s.row ≡ false → FoundLine texts s
line_found texts s plain =
    let d = division texts s (suc (length s.text)) s.start s.braces (omega arith) in
    record {
      named = d.named;
      more = d.more;
      tokens = add_pieces (text_end s d.to.at) s.start d.pieces [];
      answer = (d.to.at + line_end_len s d.to.at, line_break s d.to.at);
      after = d.to.braces;
      line = record {
        no_cell = plain;
        pieces = d.pieces;
        content_end = d.to.at;
        division = record { divided = d.divided; ended = d.ended };
        tokens_are = refl;
        answer_is = refl;
      };
    }

-- the tokens of a cell, and texts with those that they name
pub record FoundCell (texts : List CowStr) (s : Inline) : Type 0 where
  pub named : List CowStr
  pub more : AreMore named texts
  pub tokens : List Item
  pub end : ℕ
  pub after : MathBraces
  pub cell : IsCell named s tokens end after

pub cell_found : (texts : List CowStr) (s : Inline) → FoundCell texts s
cell_found texts s =
    let d = division texts s (suc (length s.text)) s.start s.braces (omega arith) in
    record {
      named = d.named;
      more = d.more;
      tokens = add_pieces (d.to.at - blanks_at_end s d.to.at) s.start d.pieces [];
      end = d.to.at;
      after = d.to.braces;
      cell = record { pieces = d.pieces; division = record { divided = d.divided; ended = d.ended }; tokens_are = refl };
    }
