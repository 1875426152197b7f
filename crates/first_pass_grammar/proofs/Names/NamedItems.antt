-- Each index in nodes names an entry: what keeps that, and chains and blocks with that property.
use Rattle.std.proofs.Common.{◌≡◌, ℕ, zero, suc, true, List, ◌∷◌, ◌++◌, Option, None, refl, sym, subst, arith, length-append, option_map, []}
use Rattle.first_pass_grammar.proofs.Common.{slice_get_within, Item, ItemBody, modify, at_depth, Attributes, HeadingIndex, Place, leaves, Names}
use Rattle.first_pass_grammar.proofs.Common.{NamesAttributes, Extends, index_of, NamesEntry, AreNamed, Document, block_with, Ranges, range_text, range_html}
use Rattle.first_pass_grammar.proofs.Common.{AreRawLines, is_markup}
use Rattle.first_pass_grammar.specs.Names.{Index, AttributesAt}
use Rattle.first_pass_grammar.proofs.Names.TokensNamed.{NamesWithin}
use Rattle.first_pass_grammar.proofs.Each.EachToken.{AreEach, HoldsOfTokens, HoldsOfRaw, range_text_each, raw_lines_each}
use Rattle.first_pass_grammar.proofs.Names.NoIndex.{IsWithoutIndex, HaveNoIndex, markup_textual}

-- the index of an item, if it has one, names an entry
abbrev pub IsNamed : Names → Item → Type 0
IsNamed names x = NamesEntry names (index_of x.body)

-- more entries
entry_more : (new old : Names) (o : Option Index) → Extends new old → NamesEntry old o → NamesEntry new o
entry_more new old o e h = grind (arith, length-append)

pub named_more : (new old : Names) (nodes : List (ℕ × Item)) → Extends new old → AreNamed old nodes → AreNamed new nodes
unfolding AreNamed
named_more new old [] e h = tt
named_more new old (n ∷ nodes) e h = (entry_more new old (index_of n.1.body) e h.0, named_more new old nodes e h.1)

-- more nodes
pub named_both : (names : Names) (a b : List (ℕ × Item)) → AreNamed names a → AreNamed names b → AreNamed names (a ++ b)
unfolding AreNamed
named_both names [] b h k = k
named_both names (n ∷ a) b h k = (h.0, named_both names a b h.1 k)

-- at another depth
pub named_deeper : (names : Names) (depth : ℕ) (nodes : List (ℕ × Item)) → AreNamed names nodes → AreNamed names (at_depth depth nodes)
unfolding AreNamed
named_deeper names depth [] h = tt
named_deeper names depth (n ∷ nodes) h = (h.0, named_deeper names depth nodes h.1)

-- a node that is changed
pub named_modified : (names : Names) (nodes : List (ℕ × Item)) (i : ℕ) (g : Item → Item)
    → ((x : Item) → IsNamed names x → IsNamed names (g x)) → AreNamed names nodes → AreNamed names (modify nodes i g)
unfolding AreNamed
named_modified names [] i g keeps h = tt
named_modified names (n ∷ nodes) zero g keeps h = (keeps n.1 h.0, h.1)
named_modified names (n ∷ nodes) (suc i) g keeps h = (h.0, named_modified names nodes i g keeps h.1)

-- a body without an index
pub free_entry : (names : Names) (o : Option Index) → o ≡ None → NamesEntry names o
free_entry names o h = grind arith

-- a body whose index, if it has one, names an entry
abbrev pub HasEntry : Names → ItemBody → Type 0
HasEntry names body = NamesEntry names (index_of body)

pub markup_entered : (names : Names) (body : ItemBody) → is_markup body ≡ true → NamesWithin names.texts body → HasEntry names body
markup_entered names body h k = grind (arith, free_entry, markup_textual)

-- the tokens of lines have this property
pub tokens_entered : (names : Names) → HoldsOfTokens names.texts (HasEntry names)
tokens_entered names = record { text = λ escaped. tt; soft = tt; hard = λ by_backslash. tt; markup = markup_entered names }

pub each_named : (names : Names) (chain : List Item) → AreEach (HasEntry names) chain → AreNamed names (leaves chain)
unfolding AreNamed
each_named names [] h = tt
each_named names (x ∷ chain) h = (h.0, each_named names chain h.1)

named_each : (names : Names) (chain : List Item) → AreNamed names (leaves chain) → AreEach (HasEntry names) chain
unfolding AreNamed
named_each names [] h = tt
named_each names (x ∷ chain) h = (h.0, named_each names chain h.1)

-- the bytes of raw lines have no index
abbrev pub IsFree : Ranges → Type 0
IsFree range = (from to : ℕ) → HaveNoIndex (range from to)

pub text_is_free : IsFree range_text
text_is_free = range_text_each IsWithoutIndex (λ escaped. refl)

pub html_is_free : IsFree range_html
html_is_free from to = (refl, tt)

free_each : (names : Names) (chain : List Item) → HaveNoIndex chain → AreEach (HasEntry names) chain
free_each names [] h = tt
free_each names (x ∷ chain) h = (free_entry names (index_of x.body) h.0, free_each names chain h.1)

pub lines_named : (range : Ranges) (d : Document) (chain : List Item) (places : List Place) (whole : List Item)
    → IsFree range → AreNamed d.names (leaves chain) → AreRawLines range d chain places whole → AreNamed d.names (leaves whole)
lines_named range d chain places whole free h is =
    let raw : HoldsOfRaw d.names.texts (HasEntry d.names) = record { html = tt; columns = λ ix within. within } in
    each_named d.names whole
    (raw_lines_each (HasEntry d.names) d raw range chain places whole (λ a b. free_each d.names (range a b) (free a b))
    (named_each d.names chain h) is)

-- the index of a heading, if it has one, names an entry
pub given_entry : (names : Names) (ix : Option HeadingIndex) (attributes : Option Attributes) → NamesAttributes names ix attributes
    → NamesEntry names (option_map AttributesAt ix)
given_entry names ix attributes h = grind (arith, slice_get_within)

-- a block with a chain
pub block_named : (names : Names) (start stop : ℕ) (body : ItemBody) (chain : List Item) (items : List (ℕ × Item))
    → items ≡ block_with start stop body chain → NamesEntry names (index_of body) → AreNamed names (leaves chain) → AreNamed names items
unfolding AreNamed
block_named names start stop body chain items is own h = subst (AreNamed names) (sym is) (own, named_deeper names 1 (leaves chain) h)
