-- Each line has tokens; each paragraph and each heading has a chain.
use Rattle.std.proofs.Common.{◌≡◌, inl, inr, ℕ, ◌+◌, Bool, true, false, List, [], ◌∷◌, drop, Option, refl}
use Rattle.first_pass_grammar.proofs.Common.{HeadingIndex, Item, Options, line_len, Place, offset, Inline, add_tokens, close_break, Spot, spot, AreLineTokens}
use Rattle.first_pass_grammar.proofs.Common.{Names, context, at_rest, front, unindented, before_attributes, heading_attributes_of, Document, document}
use Rattle.first_pass_grammar.proofs.Common.{add_break, line_bytes, heading_content, kept_len, heading_chain, IsHeading, TextLines, text_lines, AreTextLines}
use Rattle.first_pass_grammar.proofs.Common.{MathBraces, content_at}
use Rattle.first_pass_tokens.proofs.LineFound.{line_found}
use Rattle.first_pass_grammar.specs.declared.kind.Container.{Container}
use Rattle.first_pass_grammar.specs.Kinds.{ends_text}
use Rattle.first_pass_exists.proofs.Found.{Found, named_attributes, found_also, found_then}
use Rattle.first_pass_grammar.proofs.Names.MoreNames.{with_texts, extends_texts}
use Rattle.first_pass_grammar.proofs.Names.TextsMore.{line_later}

-- a line: its tokens, how it ends, and the brace contexts after it
record LineRead : Type 0 where
  tokens : List Item
  answer : ℕ × Option Item
  after : MathBraces

line_read : (names : Names) (s : Inline) → s.row ≡ false → Found names LineRead (λ later l. AreLineTokens later.texts s l.tokens l.answer l.after)
line_read names s plain =
    let line = line_found names.texts s plain in
    let mid : Names = with_texts names line.named in
    record {
      value = record { tokens = line.tokens; answer = line.answer; after = line.after };
      more = mid;
      extends = extends_texts names line.named line.more;
      holds = λ later e. line_later later mid s line.tokens line.answer e line.line;
    }

-- what is read of the lines of a text
abbrev pub LinesFrom : Names → List ℕ → Options → List Container → Spot → List Item → List Place → Type 0
LinesFrom names text options path p chain lines = Found names TextLines (λ later t. AreTextLines (document text options later) path p chain lines t)

-- the spot where the text of the next line begins, and the chain up to there
abbrev next_spot : List Container → Place → LineRead → Spot
next_spot path line first = spot (offset (unindented (at_rest line (front path line.rest)))) first.after

abbrev next_chain : List Item → LineRead → List Item
next_chain chain first = add_break first.answer.1 (add_tokens chain first.tokens)

-- the lines of a text after its first line has tokens: the text ends there, or continues with these lines
lines_by : (names : Names) (text : List ℕ) (options : Options) (path : List Container) (p : Spot) (chain : List Item)
    (first : Found names LineRead (λ later l. AreLineTokens later.texts (content_at (document text options names) p) l.tokens l.answer l.after))
    (line : Place) (lines : List Place) (t : Bool)
    → ends_text (context options path) line.rest ≡ t
    → LinesFrom first.more text options path (next_spot path line first.value) (next_chain chain first.value) lines
    → LinesFrom names text options path p chain (line ∷ lines)
unfolding AreTextLines
lines_by names text options path p chain first line lines true h further =
    let l : LineRead = first.value in
    found_also first (text_lines (add_tokens chain l.tokens) l.answer.1 (line ∷ lines))
    (λ later is. (l.tokens, l.answer, l.after, is, inl (h, refl)))
lines_by names text options path p chain first line lines false h further =
    let l : LineRead = first.value in
    found_also (found_then first further) further.value (λ later is. (l.tokens, l.answer, l.after, is.0, inr (h, is.1)))

pub lines_found : (names : Names) (text : List ℕ) (options : Options) (path : List Container) (lines : List Place) (p : Spot) (chain : List Item)
    → LinesFrom names text options path p chain lines
unfolding AreTextLines
lines_found names text options path [] p chain =
    let line = line_read names (content_at (document text options names) p) refl in
    let l : LineRead = line.value in
    found_also line (text_lines (add_tokens chain l.tokens) l.answer.1 []) (λ later is. (l.tokens, l.answer, l.after, is, refl))
lines_found names text options path (line ∷ lines) p chain =
    let first = line_read names (content_at (document text options names) p) refl in
    lines_by names text options path p chain first line lines (ends_text (context options path) line.rest) refl
    (lines_found first.more text options path lines (next_spot path line first.value) (next_chain chain first.value))

-- an ATX heading: its index, its chain and its end
pub heading_found : (names : Names) (text : List ℕ) (options : Options) (start : ℕ)
    → Found names (Option HeadingIndex × (List Item × ℕ)) (λ later h. IsHeading (document text options later) start h.0 h.1.0 h.1.1)
heading_found names text options start =
    let d : Document = document text options names in
    let line = line_read names (heading_content d start) refl in
    let l : LineRead = line.value in
    let chain : List Item = heading_chain (kept_len (before_attributes options (line_bytes d start))) start (close_break l.answer.1 (add_tokens [] l.tokens)) in
    let index = named_attributes line.more (heading_attributes_of options (line_bytes d start)) in
    found_also (found_then line index) (index.value, (chain, start + line_len (drop start text)))
    (λ later is. record {
      tokens = l.tokens;
      answer = l.answer;
      after = l.after;
      line = is.0;
      chain_is = refl;
      named = is.1;
      end_is = refl;
    })
