-- Chains of tokens: the leaves of a block, as lists of items in the order of the text.
use Rattle.std.specs.Prelude.{◌≡◌, ℕ, zero, suc, ◌+◌, ◌-◌, ◌==◌, ◌&&◌, Bool, false, List, [], ◌∷◌, Option, Some, None, nat_lt, if◌then◌else◌}
use Rattle.first_pass_items.specs.declared.item.Item.{Item}
use Rattle.first_pass_items.specs.declared.item.ItemBody.{ItemBody}
use Rattle.first_pass_items.specs.declared.item.ItemBody.TheVariants.{Text, HardBreak, MaybeEmphasis}
use Rattle.first_pass_tree.specs.Forest.{is_text, is_escaped, cut_item}

-- the text from one offset up to another, marked if its first byte was escaped (CommonMark 2.4)
abbrev pub text_token : ℕ → ℕ → Bool → Item
text_token from to escaped = record { start = from; «end» = to; body = Text escaped }

-- the token of n bytes at an offset (this project)
abbrev pub token : ℕ → ℕ → ItemBody → Item
token at n body = record { start = at; «end» = at + n; body = body }

-- a token for each delimiter of a run from an offset on, with the length of the rest of the run (this one counted),
-- and whether the run can open and close (CommonMark 6.2)
abbrev pub run_tokens : ℕ → ℕ → Bool → Bool → List Item
run_tokens at zero opens closes = []
run_tokens at (suc n) opens closes = token at 1 (MaybeEmphasis (suc n) opens closes) ∷ run_tokens (at + 1) n opens closes

-- both are texts, and the second begins at the end of the first (this project)
abbrev pub touches : Item → Item → Bool
touches x y = is_text y.body && (is_text x.body && (x.«end» == y.start))

-- no text of the chain touches a text before it (this project)
abbrev pub AreApart : List Item → Type 0
AreApart [] = Unit
AreApart (x ∷ []) = Unit
AreApart (x ∷ y ∷ ys) = (touches x y ≡ false) × AreApart (y ∷ ys)

-- the chain with a token after it: a text that touches the last token is joined to it, and that token keeps its mark
-- (this project)
abbrev pub add_token : List Item → Item → List Item
add_token [] y = y ∷ []
add_token (x ∷ []) y = if touches x y then record x { «end» = y.«end» } ∷ [] else x ∷ y ∷ []
add_token (x ∷ z ∷ zs) y = x ∷ add_token (z ∷ zs) y

-- the chain with these tokens after it, one after the other (this project)
abbrev pub add_tokens : List Item → List Item → List Item
add_tokens chain [] = chain
add_tokens chain (x ∷ xs) = add_tokens (add_token chain x) xs

-- the chain with a text after it, unless that text is empty (this project)
abbrev pub add_text : ℕ → ℕ → Bool → List Item → List Item
add_text from to escaped chain = if nat_lt from to then add_token chain (text_token from to escaped) else chain

-- a hard break by a backslash (CommonMark 6.7)
abbrev pub is_backslash_break : ItemBody → Bool
is_backslash_break (HardBreak by_backslash) = by_backslash
is_backslash_break _ = false

-- the chain of a block after its last line, which has no break: a backslash at its end is text (CommonMark 6.7)
abbrev pub close_break : Option Item → List Item → List Item
close_break None chain = chain
close_break (Some x) chain = if is_backslash_break x.body then add_text x.start (x.start + 1) false chain else chain

-- the chain up to an offset: the tokens that begin before it, cut at it; if an escaped text begins there, its
-- backslash remains as a text of its own (this project)
abbrev pub cut : ℕ → List Item → List Item
cut e [] = []
cut e (x ∷ xs) =
    if nat_lt x.start e
    then cut_item e x ∷ cut e xs
    else (if is_escaped x.body && (x.start == e) then text_token (e - 1) e false ∷ [] else [])
