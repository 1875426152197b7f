-- Items without an index read alike under all names; the tokens of lines have no indices except those of texts.
use Rattle.std.proofs.Common.{◌≡◌, true, List, ◌∷◌, map, None, refl, []}
use Rattle.first_pass_grammar.proofs.Common.{false≢true, CowStr, Item, ItemBody, SynthesizeText, FencedCodeBlock, FootnoteDefinition, Table, Heading}
use Rattle.first_pass_grammar.proofs.Common.{is_markup, Names, index_of, read}
use Rattle.first_pass_grammar.proofs.Each.EachToken.{AreEach, HoldsOfTokens}
use Rattle.first_pass_grammar.proofs.Names.TokensNamed.{NamesWithin}

abbrev pub IsWithoutIndex : ItemBody → Type 0
IsWithoutIndex body = index_of body ≡ None

abbrev pub HasNoIndex : Item → Type 0
HasNoIndex x = IsWithoutIndex x.body

-- none of these items has an index
abbrev pub HaveNoIndex : List Item → Type 0
HaveNoIndex xs = AreEach IsWithoutIndex xs

-- an item without an index reads alike under all names
pub only_reads : (m n : Names) (x : Item) → HasNoIndex x → read m x ≡ read n x
only_reads m n x h = rw h refl

pub only_read : (m n : Names) (xs : List Item) → HaveNoIndex xs → map (read m) xs ≡ map (read n) xs
only_read m n [] h = refl
only_read m n (x ∷ xs) h = let a = only_reads m n x h.0 in let b = only_read m n xs h.1 in cc

-- an item has no index, or that of its text
abbrev pub HasTextIndex : ItemBody → Type 0
HasTextIndex (SynthesizeText ix) = Unit {0}
HasTextIndex body = index_of body ≡ None

-- a token of possible markup has this property
pub markup_textual : (texts : List CowStr) (body : ItemBody) → is_markup body ≡ true → NamesWithin texts body → HasTextIndex body
markup_textual texts (SynthesizeText ix) h k = tt
markup_textual texts (FencedCodeBlock ix) h k = absurd (false≢true h)
markup_textual texts (FootnoteDefinition ix) h k = absurd (false≢true h)
markup_textual texts (Table ix) h k = absurd (false≢true h)
markup_textual texts (Heading level ix) h k = absurd (false≢true h)
markup_textual texts _ h k = refl

-- a token of a line has no index except that of a text
pub tokens_textual : (texts : List CowStr) → HoldsOfTokens texts HasTextIndex
tokens_textual texts = record { text = λ escaped. refl; soft = refl; hard = λ by_backslash. refl; markup = markup_textual texts }
