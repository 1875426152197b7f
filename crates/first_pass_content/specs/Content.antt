-- The content of a chain: its bytes without the prefixes of containers, each with its range in the text. A chain is the
-- tokens of one block: siblings, in order.
use Rattle.std.specs.Prelude.{ℕ, zero, suc, ◌+◌, ◌-◌, List, [], ◌∷◌, ◌++◌, map, get_or, nat_lt, if◌then◌else◌}
use Rattle.std.specs.List.{slice_range}
use Rattle.std.specs.declared.ops.Range.{Range}
use Rattle.first_pass_items.specs.Bytes.{line_feed}
use Rattle.first_pass_items.specs.declared.item.Item.{Item}
use Rattle.first_pass_tokens.specs.LineTokens.{is_break}
use Rattle.first_pass_content.specs.Parts.{part, line_end_of, part_of, gap}

-- a byte of a content, and its range in the text
pub record ContentByte : Type 0 where
  pub byte : ℕ
  pub start : ℕ
  pub «end» : ℕ

abbrev pub byte_in : ℕ → ℕ → ℕ → ContentByte
byte_in byte from to = record { byte = byte; start = from; «end» = to }

-- bytes that stand in the text from an offset on
abbrev pub placed : ℕ → List ℕ → List ContentByte
placed at [] = []
placed at (b ∷ bs) = byte_in b at (at + 1) ∷ placed (at + 1) bs

-- the bytes of a part of the text
abbrev pub copied : List ℕ → Range ℕ → List ContentByte
copied text r = placed r.start (slice_range text r.start r.«end»)

-- the newline that a break has for its line ending, whatever that is (CommonMark 2.1, 6.7, 6.8)
abbrev pub newline_of : List ℕ → Item → List ContentByte
newline_of text token = if is_break token.body then byte_in line_feed (line_end_of text token) token.«end» ∷ [] else []

-- the content of a token
abbrev pub token_content : List ℕ → Item → List ContentByte
token_content text token = copied text (part_of text token) ++ newline_of text token

-- the content between a token and those after it
abbrev pub gap_content : List ℕ → Item → List (ℕ × Item) → List ContentByte
gap_content text token [] = []
gap_content text token (next ∷ tokens) = copied text (gap text token next.1)

-- The content of the chain with these tokens: for each token its content, then what is content between it and the next
-- one (this project).
unfoldable pub content : List ℕ → List (ℕ × Item) → List ContentByte
content text [] = []
content text (token ∷ tokens) = token_content text token.1 ++ (gap_content text token.1 tokens ++ content text tokens)

-- the bytes of a content
abbrev pub bytes_of : List ContentByte → List ℕ
bytes_of c = map (λ b. b.byte) c

-- the byte at a place of a content
abbrev pub byte_at : List ContentByte → ℕ → ContentByte
byte_at c place = get_or c place (byte_in 0 0 0)

-- the offset of an empty part of a content at a place: the end of the byte before it, or the start of the content
abbrev pub edge : List ContentByte → ℕ → ℕ
edge c zero = (byte_at c 0).start
edge c (suc place) = (byte_at c place).«end»

-- The range in the text of the part of a content from one place up to another. An empty part has an empty range (this
-- project).
abbrev pub range_in : List ContentByte → ℕ → ℕ → Range ℕ
range_in c from to = if nat_lt from to then part (byte_at c from).start (byte_at c (to - 1)).«end» else part (edge c from) (edge c from)
