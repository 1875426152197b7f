-- The headings of a tree with their texts (this project).
use Rattle.std.specs.Prelude.{ℕ, nat_lt, Bool, true, false, List, [], ◌∷◌, ◌++◌, Option, if◌then◌else◌}
use Rattle.std.specs.List.{cons_option, list_any, slice_range, take_while}
use Rattle.std.specs.Option.{option_map}
use Rattle.first_pass_items.specs.Bytes.{space}
use Rattle.first_pass_items.specs.declared.item.Item.{Item}
use Rattle.first_pass_items.specs.declared.item.ItemBody.{ItemBody}
use Rattle.first_pass_items.specs.declared.item.ItemBody.TheVariants.{SoftBreak, HardBreak}
use Rattle.first_pass_lines.specs.Lines.{is_line_end}
use Rattle.first_pass_scan.specs.TableHead.{stripped}
use Rattle.first_pass_grammar.specs.Names.{Names, read}
use Rattle.first_pass_reports.specs.Pairs.{whole_start}
use Rattle.first_pass_outline.specs.Outline.{Entry, entry_of}

-- a break between two lines (CommonMark 6.7, 6.8)
abbrev pub is_break : ItemBody → Bool
is_break SoftBreak = true
is_break (HardBreak by_backslash) = true
is_break _ = false

-- bytes on one line: as they are, or a space if a line ending is among them (this project)
abbrev pub on_one_line : List ℕ → List ℕ
on_one_line bytes = if list_any is_line_end bytes then space ∷ [] else bytes

-- a token of a heading, with a backslash that was dropped before it, after what is between the token before it, which
-- ends at an offset, and it. A break is no part of a line (this project).
abbrev pub token_text : List ℕ → ℕ → Item → List ℕ
token_text text last token =
    if is_break token.body then []
    else on_one_line (slice_range text last (whole_start token)) ++ on_one_line (slice_range text (whole_start token) token.«end»)

-- the end of the last token of a line, after one more token (this project)
abbrev pub last_end : ℕ → Item → ℕ
last_end last token = if is_break token.body then last else token.«end»

-- the texts of tokens after one that ends at an offset (this project)
unfoldable pub texts_after : List ℕ → ℕ → List (ℕ × Item) → List ℕ
texts_after text last [] = []
texts_after text last (token ∷ tokens) = token_text text last token.1 ++ texts_after text (last_end last token.1) tokens

-- the start of the first of some tokens (this project)
abbrev pub first_start : List (ℕ × Item) → ℕ
first_start [] = 0
first_start (first ∷ tokens) = whole_start first.1

-- The text that tokens span, on one line: from the start of the first token of each line to the end of its last, with a
-- space between two lines. So nothing of a line ending, nor of the prefix after it, is there (this project).
abbrev pub spanned : List ℕ → List (ℕ × Item) → List ℕ
spanned text tokens = texts_after text (first_start tokens) tokens

-- the text of a heading with these tokens: what they span, without spaces and tabs at both ends (this project)
abbrev pub heading_text : List ℕ → List (ℕ × Item) → List ℕ
heading_text text tokens = stripped (spanned text tokens)

-- the nodes below a node at this depth, which are the first of those after it (this project)
abbrev pub below : ℕ → List (ℕ × Item) → List (ℕ × Item)
below depth nodes = take_while (λ node. nat_lt depth node.0) nodes

-- a heading with its text
pub record Title : Type 0 where
  pub entry : Entry
  pub text : List ℕ

-- a node as a heading with its text, if it is one, given the nodes after it (this project)
abbrev pub title_of : List ℕ → Names → ℕ × Item → List (ℕ × Item) → Option Title
title_of text names node nodes = option_map (λ entry. record { entry = entry; text = heading_text text (below node.0 nodes) }) (entry_of (read names node.1))

-- the headings among nodes, in reading order, each with its text (this project)
unfoldable pub titles : List ℕ → Names → List (ℕ × Item) → List Title
titles text names [] = []
titles text names (node ∷ nodes) = cons_option (title_of text names node nodes) (titles text names nodes)
