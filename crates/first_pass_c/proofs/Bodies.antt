-- The kind of a node, read back from numbers.
use Rattle.std.proofs.Common.{◌≡◌, ℕ, ◌<◌, ◌==◌, Bool, true, false, Option, Some, None, List, [], ◌∷◌, ◌++◌, length, map, get_or, nat_lt, slice_get, take}
use Rattle.std.proofs.Common.{drop, unwrap_or, if◌then◌else◌, refl, ap, ◌∙◌, cond, arith, is_some, option_map, option_and_then}
use Rattle.first_pass_grammar.proofs.Common.{take-append_seam, slice_get-get_or, CowStr, text_of, Alignment, BlockQuoteKind, HeadingIndex, HeadingLevel}
use Rattle.first_pass_grammar.proofs.Common.{ItemBody, Root, Paragraph, Rule, Heading, FencedCodeBlock, IndentCodeBlock, HtmlBlock, FootnoteDefinition}
use Rattle.first_pass_grammar.proofs.Common.{MetadataBlock, DefinitionList, MaybeDefinitionListTitle, DefinitionListTitle, DefinitionListDefinition, Table}
use Rattle.first_pass_grammar.proofs.Common.{TableHead, TableRow, TableCell, Text, SoftBreak, HardBreak, MaybeEmphasis, Html, SynthesizeText, TaskListMarker}
use Rattle.first_pass_grammar.proofs.Common.{level_number, Attributes, no_attributes, Names, Named, AText, NamesEntry, index_of, only_kind, named}
use Rattle.first_pass_items.specs.declared.item.Alignment.TheVariants.{None as Unaligned, Left, Center, Right}
use Rattle.first_pass_items.specs.declared.item.BlockQuoteKind.TheVariants.{Note, Tip, Important, Warning, Caution}
use Rattle.first_pass_items.specs.declared.item.HeadingLevel.TheVariants.{H1, H2, H3, H4, H5, H6}
use Rattle.first_pass_items.specs.declared.item.MetadataBlockKind.{MetadataBlockKind}
use Rattle.first_pass_items.specs.declared.item.MetadataBlockKind.TheVariants.{YamlStyle, PlusesStyle}
use Rattle.first_pass_items.specs.declared.item.ItemBody.TheVariants.{TightParagraph, BlockQuote, List as ListBody, ListItem, MaybeMath, MaybeSmartQuote}
use Rattle.first_pass_items.specs.declared.item.ItemBody.TheVariants.{MaybeCode, MaybeHtml, MaybeLinkOpen, MaybeLinkClose, MaybeImage, SynthesizeChar}
use Rattle.first_pass_grammar.specs.Names.{Alignments, OfHeading}
use Rattle.first_pass_c.specs.Kinds.{kind_number, values_of, flag, quote_number, metadata_number, alignment_byte}
use Rattle.first_pass_c.specs.FlatAttributes.{OneAttribute, class_attribute, key_attribute, listed, attributes_of_body}
use Rattle.first_pass_c.specs.FlatNodes.{name_of, named_at, named_length}
use Rattle.first_pass_c.specs.declared.flat.nodes.FlatPlace.{FlatPlace}
use Rattle.first_pass_c.specs.declared.flat.kinds.FlatValues.{FlatValues}

abbrev pub is_set : ℕ → Bool
is_set n = nat_lt 0 n

pub set_flag : (b : Bool) → is_set (flag b) ≡ b
set_flag true = refl
set_flag false = refl

level_from : ℕ → HeadingLevel
level_from n = get_or (H1 ∷ H1 ∷ H2 ∷ H3 ∷ H4 ∷ H5 ∷ H6 ∷ []) n H1

level_kept : (level : HeadingLevel) → level_from (level_number level) ≡ level
unfolding level_from
level_kept H1 = refl
level_kept _ = refl

quote_from : ℕ → Option BlockQuoteKind
quote_from n = get_or (None ∷ Some Note ∷ Some Tip ∷ Some Important ∷ Some Warning ∷ Some Caution ∷ []) n None

quote_kept : (kind : Option BlockQuoteKind) → quote_from (quote_number kind) ≡ kind
unfolding quote_from
quote_kept None = refl
quote_kept (Some Note) = refl
quote_kept _ = refl

metadata_from : ℕ → MetadataBlockKind
metadata_from n = cond (is_set n) PlusesStyle YamlStyle

metadata_kept : (kind : MetadataBlockKind) → metadata_from (metadata_number kind) ≡ kind
unfolding metadata_from
metadata_kept YamlStyle = refl
metadata_kept _ = refl

alignment_from : ℕ → Alignment
alignment_from b = if b == 45 then Unaligned else (if b == 108 then Left else (if b == 99 then Center else Right))

alignment_kept : (alignment : Alignment) → alignment_from (alignment_byte alignment) ≡ alignment
unfolding alignment_from
alignment_kept Unaligned = refl
alignment_kept _ = refl

alignments_kept : (alignments : List Alignment) → map alignment_from (map alignment_byte alignments) ≡ alignments
alignments_kept [] = refl
alignments_kept (x ∷ xs) =
    ap (λ y. y ∷ map alignment_from (map alignment_byte xs)) (alignment_kept x) ∙ ap (λ ys. x ∷ ys) (alignments_kept xs)

index_from : ℕ → Option HeadingIndex
index_from n = cond (is_set n) (Some (record { 0 = 0 })) None

index_kept : (ix : Option HeadingIndex) → index_from (flag (is_some ix)) ≡ option_map (λ at. record { 0 = 0 }) ix
unfolding index_from
index_kept None = refl
index_kept _ = refl

-- the node of each kind with these values
bodies : FlatValues → List ItemBody
bodies v =
    Root ∷ Paragraph ∷ TightParagraph ∷ Rule ∷ Heading (level_from v.first) (index_from v.second) ∷ FencedCodeBlock (record { 0 = 0 }) ∷ IndentCodeBlock
    ∷ HtmlBlock ∷ BlockQuote (quote_from v.first) ∷ ListBody (record { 0 = v.first }) v.second v.number ∷ ListItem v.number
    ∷ FootnoteDefinition (record { 0 = 0 }) ∷ MetadataBlock (metadata_from v.first) ∷ DefinitionList (record { 0 = v.first }) ∷ MaybeDefinitionListTitle
    ∷ DefinitionListTitle ∷ DefinitionListDefinition v.number ∷ Table (record { 0 = 0 }) ∷ TableHead ∷ TableRow ∷ TableCell ∷ Text (is_set v.first)
    ∷ SoftBreak ∷ HardBreak (is_set v.first) ∷ MaybeEmphasis v.number (is_set v.first) (is_set v.second)
    ∷ MaybeMath (is_set v.first) (is_set v.second) v.number ∷ MaybeSmartQuote v.second (is_set v.first) (is_set v.third)
    ∷ MaybeCode v.number (is_set v.first) ∷ MaybeHtml ∷ MaybeLinkOpen ∷ MaybeLinkClose (is_set v.first) ∷ MaybeImage ∷ Html
    ∷ SynthesizeText (record { 0 = 0 }) ∷ SynthesizeChar v.number ∷ TaskListMarker (is_set v.first) ∷ []

pub body_from : ℕ → FlatValues → ItemBody
body_from kind v = get_or (bodies v) kind Root

pub body_kept : (body : ItemBody) → body_from (kind_number body) (values_of body) ≡ only_kind body
unfolding body_from bodies
body_kept (Heading level ix) = rw (level_kept level, index_kept ix) refl
body_kept (BlockQuote kind) = ap BlockQuote (quote_kept kind)
body_kept (MetadataBlock kind) = ap MetadataBlock (metadata_kept kind)
body_kept (Text escaped) = ap Text (set_flag escaped)
body_kept (HardBreak by_backslash) = ap HardBreak (set_flag by_backslash)
body_kept (MaybeEmphasis left can_open can_close) = rw (set_flag can_open, set_flag can_close) refl
body_kept (MaybeMath can_open can_close context) = rw (set_flag can_open, set_flag can_close) refl
body_kept (MaybeSmartQuote byte can_open can_close) = rw (set_flag can_open, set_flag can_close) refl
body_kept (MaybeCode count escaped) = ap (MaybeCode count) (set_flag escaped)
body_kept (MaybeLinkClose active) = ap MaybeLinkClose (set_flag active)
body_kept (TaskListMarker checked) = ap TaskListMarker (set_flag checked)
body_kept _ = refl

-- the attributes of a heading, read back from a list of them
attributes_from : List OneAttribute → Attributes
attributes_from [] = no_attributes
attributes_from (x ∷ xs) =
    let rest = attributes_from xs in
    if x.kind == 0 then record rest { id = Some x.name }
    else (if x.kind == 1 then record rest { classes = x.name ∷ rest.classes } else record rest { attrs = (x.name, x.value) ∷ rest.attrs })

keys_kept : (keys : List (List ℕ × Option (List ℕ))) → attributes_from (map key_attribute keys) ≡ record no_attributes { attrs = keys }
unfolding attributes_from
keys_kept [] = refl
keys_kept (k ∷ ks) = rw (keys_kept ks) refl

classes_kept : (classes : List (List ℕ)) (keys : List (List ℕ × Option (List ℕ)))
    → attributes_from (map class_attribute classes ++ map key_attribute keys) ≡ record { id = None; classes = classes; attrs = keys }
unfolding attributes_from
classes_kept [] keys = keys_kept keys
classes_kept (c ∷ cs) keys = rw (classes_kept cs keys) refl

listed_kept : (id : Option (List ℕ)) (classes : List (List ℕ)) (keys : List (List ℕ × Option (List ℕ)))
    → attributes_from (listed (record { id = id; classes = classes; attrs = keys })) ≡ record { id = id; classes = classes; attrs = keys }
unfolding attributes_from
listed_kept None classes keys = classes_kept classes keys
listed_kept (Some id) classes keys = rw (classes_kept classes keys) refl

-- the name of a node, from its kind, the mark of its attribute block, its bytes and its attributes
pub named_from : ℕ → ℕ → List ℕ → List OneAttribute → Option Named
named_from kind second bytes xs =
    if kind == 4 then cond (is_set second) (Some (OfHeading (attributes_from xs))) None
    else (if kind == 17 then Some (Alignments (map alignment_from bytes))
    else (if kind == 5 then Some (AText bytes) else (if kind == 11 then Some (AText bytes) else (if kind == 33 then Some (AText bytes) else None))))

-- an entry at an index within a list
entry_at : {X : Type 0} (xs : List X) (i : ℕ) → i < length xs → (x : X) × (slice_get xs i ≡ Some x)
entry_at (x ∷ xs) i h = (get_or (x ∷ xs) i x, slice_get-get_or (x ∷ xs) i x h)
entry_at [] i h = absurd (omega arith)

text_kept : (o : Option CowStr) → (x : CowStr) × (o ≡ Some x)
    → Some (AText (unwrap_or (option_map text_of o) [])) ≡ option_map (λ cow. AText (text_of cow)) o
text_kept None h = cc (h.1)
text_kept (Some x) h = refl

columns_kept : (o : Option (List Alignment)) → (x : List Alignment) × (o ≡ Some x)
    → Some (Alignments (map alignment_from (map alignment_byte (unwrap_or o [])))) ≡ option_map Alignments o
columns_kept None h = cc (h.1)
columns_kept (Some x) h = ap (λ l. Some (Alignments l)) (alignments_kept x)

heading_kept : (o : Option Attributes) → (x : Attributes) × (o ≡ Some x)
    → Some (OfHeading (attributes_from (listed (unwrap_or o no_attributes)))) ≡ option_map OfHeading o
heading_kept None h = cc (h.1)
heading_kept (Some x) h = ap (λ a. Some (OfHeading a)) (listed_kept x.id x.classes x.attrs)

pub named_kept : (names : Names) (body : ItemBody) → NamesEntry names (index_of body)
    → named_from (kind_number body) (values_of body).second (name_of names body) (attributes_of_body names body) ≡ option_and_then (named names) (index_of body)
unfolding named_from
named_kept names (FencedCodeBlock ix) h = text_kept (slice_get names.texts ix.0) (entry_at names.texts ix.0 h)
named_kept names (FootnoteDefinition ix) h = text_kept (slice_get names.texts ix.0) (entry_at names.texts ix.0 h)
named_kept names (SynthesizeText ix) h = text_kept (slice_get names.texts ix.0) (entry_at names.texts ix.0 h)
named_kept names (Table ix) h = columns_kept (slice_get names.alignments ix.0) (entry_at names.alignments ix.0 h)
named_kept names (Heading level (Some ix)) h = heading_kept (slice_get names.headings ix.0) (entry_at names.headings ix.0 h)
named_kept names (Heading level None) h = refl
named_kept names _ h = refl

-- the number of bytes that a node names, and of attributes
pub bytes_named : ℕ → ℕ → ℕ
bytes_named kind count = cond (kind == 4) 0 count

pub attributes_counted : ℕ → ℕ → ℕ
attributes_counted kind count = cond (kind == 4) count 0

pub name_kept : (names : Names) (at : FlatPlace) (body : ItemBody) (bytes rest : List ℕ) → drop at.name bytes ≡ name_of names body ++ rest
    → take (bytes_named (kind_number body) (named_length names body)) (drop (named_at at body) bytes) ≡ name_of names body
unfolding bytes_named
name_kept names at (Heading level ix) bytes rest h = refl
name_kept names at body bytes rest h = ap (take (length (name_of names body))) h ∙ take-append_seam (name_of names body) rest

pub attributes_kept : (names : Names) (at : FlatPlace) (body : ItemBody) (xs rest : List OneAttribute)
    → drop at.attribute xs ≡ attributes_of_body names body ++ rest
    → take (attributes_counted (kind_number body) (named_length names body)) (drop (named_at at body) xs) ≡ attributes_of_body names body
unfolding attributes_counted
attributes_kept names at (Heading level ix) xs rest h =
    ap (take (length (attributes_of_body names (Heading level ix)))) h ∙ take-append_seam (attributes_of_body names (Heading level ix)) rest
attributes_kept names at _ xs rest h = refl
