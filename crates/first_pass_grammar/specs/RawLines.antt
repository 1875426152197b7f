-- Raw lines: lines of code, metadata and HTML, in which no markup is read (CommonMark 4.4, 4.5, 4.6).
use Rattle.std.specs.Prelude.{◌≡◌, ℕ, zero, suc, ◌+◌, ◌-◌, ◌==◌, ◌&&◌, Bool, false, nat_lt, List, [], ◌∷◌, ◌++◌, slice_index, if◌then◌else◌}
use Rattle.first_pass_items.specs.Bytes.{line_feed, carriage_return, space}
use Rattle.first_pass_items.specs.declared.item.CowIndex.{CowIndex}
use Rattle.first_pass_items.specs.declared.item.Item.{Item}
use Rattle.first_pass_items.specs.declared.item.ItemBody.TheVariants.{SynthesizeText, Html}
use Rattle.first_pass_lines.specs.Places.{Place, offset, line_end}
use Rattle.first_pass_tokens.specs.Chains.{text_token, add_tokens}
use Rattle.first_pass_grammar.specs.Names.{Names, NamesText}
use Rattle.first_pass_grammar.specs.Leaves.{Document}

-- n spaces
abbrev pub spaces : ℕ → List ℕ
spaces zero = []
spaces (suc n) = space ∷ spaces n

-- The columns at an offset that a tab or an indentation owes, so that no bytes of the text are left for them. They
-- become a text of that many spaces with an empty range; no item if there are no such columns (CommonMark 2.2).
abbrev pub AreColumns : Names → ℕ → ℕ → List Item → Type 0
AreColumns names zero at items = items ≡ []
AreColumns names (suc n) at items =
    (ix : CowIndex) × NamesText names ix (spaces (suc n)) × (items ≡ record { start = at; «end» = at; body = SynthesizeText ix } ∷ [])

-- the bytes between two offsets end with `\r\n`
abbrev pub ends_with_both : List ℕ → ℕ → ℕ → Bool
ends_with_both text from to = nat_lt (from + 1) to && (slice_index text (to - 2) == carriage_return) && (slice_index text (to - 1) == line_feed)

-- the items that a range of a raw line becomes: `range_text` in code and metadata, `range_html` in HTML
abbrev pub Ranges : Type 0
Ranges = ℕ → ℕ → List Item

-- a range as a text, unless the range is empty
abbrev pub range_text : Ranges
range_text from to = if nat_lt from to then text_token from to false ∷ [] else []

-- a range as HTML, even if the range is empty
abbrev pub range_html : Ranges
range_html from to = record { start = from; «end» = to; body = Html } ∷ []

-- the bytes of a raw line between two offsets, without the `\r` of a line ending `\r\n` (this project)
unfoldable pub raw_items : Ranges → List ℕ → ℕ → ℕ → List Item
raw_items range text from to = if ends_with_both text from to then range from (to - 2) ++ range (to - 1) to else range from to

-- a raw line between two offsets, of which this many columns are owed
abbrev pub IsRawLine : Ranges → Document → ℕ → ℕ → ℕ → List Item → Type 0
IsRawLine range d owed from to items = (columns : List Item) × AreColumns d.names owed from columns × (items ≡ columns ++ raw_items range d.text from to)

-- The chain that results if these raw lines, each the rest of a place, are added to a chain. A text that begins at the
-- end of the one before it is joined to it.
unfoldable pub AreRawLines : Ranges → Document → List Item → List Place → List Item → Type 0
AreRawLines range d chain [] whole = whole ≡ chain
AreRawLines range d chain (p ∷ ps) whole =
    (line : List Item) × IsRawLine range d p.rest.owed (offset p) (line_end p) line × AreRawLines range d (add_tokens chain line) ps whole
