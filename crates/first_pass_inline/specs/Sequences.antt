-- Sequences of pieces, and what a pair of brackets is.
use Rattle.std.specs.Prelude.{ℕ, ◌+◌, ◌-◌, ◌||◌, ◌&&◌, ◌==◌, not, Bool, true, false, nat_lt, ◌≤◌, length, drop, List, [], ◌∷◌, Option, Some, None}
use Rattle.std.specs.Prelude.{unwrap_or, if◌then◌else◌}
use Rattle.std.specs.List.{position, slice_range}
use Rattle.std.specs.Str.{IsCharBoundary}
use Rattle.std.specs.Option.{option_and_then, option_map}
use Rattle.first_pass_items.specs.Bytes.{left_bracket, pipe}
use Rattle.first_pass_items.specs.OptionWords.{gfm_footnotes, has}
use Rattle.first_pass_lines.specs.Lines.{begins}
use Rattle.first_pass_targets.specs.InlineLabels.{inline_label_at, is_blank_label, is_footnote_label}
use Rattle.first_pass_targets.specs.Keys.{definition_index, has_label}
use Rattle.first_pass_targets.specs.Targets.{target_at}
use Rattle.first_pass_targets.specs.declared.part.Part.{Part}
use Rattle.first_pass_targets.specs.declared.target.Target.{Target as InlineTarget}
use Rattle.first_pass_items.specs.declared.item.ItemBody.{ItemBody}
use Rattle.first_pass_items.specs.declared.item.ItemBody.TheVariants.{MaybeImage}
use Rattle.first_pass_inline.specs.declared.mark.Mark.{Mark}
use Rattle.first_pass_inline.specs.declared.mark.MarkKind.{MarkKind}
use Rattle.first_pass_inline.specs.declared.mark.MarkKind.TheVariants.{Token}
use Rattle.first_pass_inline.specs.declared.mark.Name.{Name}
use Rattle.first_pass_inline.specs.declared.mark.Span.{Span}
use Rattle.first_pass_inline.specs.declared.mark.Target.{Target}
use Rattle.first_pass_inline.specs.declared.mark.Target.TheVariants.{Definition, Inline, Name as NameTarget}
use Rattle.first_pass_inline.specs.declared.mark.ReferenceForm.{ReferenceForm}
use Rattle.first_pass_inline.specs.declared.pair.Reference.{Reference}
use Rattle.first_pass_inline.specs.declared.mark.ReferenceForm.TheVariants.{Full, Collapsed, Shortcut}
use Rattle.first_pass_inline.specs.declared.pair.Pair.{Pair}
use Rattle.first_pass_inline.specs.declared.pair.Place.{Place}
use Rattle.first_pass_inline.specs.declared.pair.Verdict.{Verdict}
use Rattle.first_pass_inline.specs.declared.pair.Verdict.TheVariants.{Text, Undefined, Link, FootnoteReference, Name as NamePair}
use Rattle.first_pass_inline.specs.declared.pair.View.{View}
use Rattle.first_pass_inline.specs.declared.pair.View.TheVariants.{Closes}
use Rattle.first_pass_inline.specs.Look.{Chain, look, place_at, span}

-- the bits of `ENABLE_WIKILINKS`
abbrev pub wikilinks : ℕ
wikilinks = 32768

-- A sequence of pieces is one of these: no piece; a piece that stands for itself; a closing bracket outside of brackets,
-- which is text; an opening bracket that is text since nothing closes it; a pair, which is its two brackets, what it is,
-- and the pieces in it. The last argument has the pieces after the first.
pub data Sequence : Type 0 where
  Ends : Sequence
  Single : Mark → Sequence → Sequence
  Stray : Mark → Sequence → Sequence
  Bracket : Mark → Sequence → Sequence
  Paired : Mark → Mark → Verdict → Sequence → Sequence → Sequence

-- Where a piece is: whether it is in brackets; whether it is directly after an opening bracket; and whether the pair
-- directly before it has looked for a definition with the label that begins here, and found none.
pub record Where : Type 0 where
  pub nested : Bool
  pub directly : Bool
  pub waited : Bool

-- at the start of a content
abbrev pub outside : Where
outside = record { nested = false; directly = false; waited = false }

-- directly after an opening bracket
abbrev pub after_bracket : Where
after_bracket = record { nested = true; directly = true; waited = false }

-- after another piece that is no pair
abbrev pub later : Where → Where
later w = record { nested = w.nested; directly = false; waited = false }

-- a pair has looked for a definition with the label in the pair after it, and found none
abbrev pub waits : Verdict → Bool
waits (Undefined label at is_after) = is_after
waits v = false

-- directly after a pair
abbrev pub after_pair : Where → Verdict → Where
after_pair w v = record { nested = w.nested; directly = false; waited = waits v }

-- a bracket is that of an image
abbrev pub is_image_body : ItemBody → Bool
is_image_body MaybeImage = true
is_image_body _ = false

abbrev pub is_image_kind : MarkKind → Bool
is_image_kind (Token body) = is_image_body body
is_image_kind _ = false

abbrev pub is_image : Mark → Bool
is_image m = is_image_kind m.kind

-- a pair is a link
abbrev pub is_link : Bool → Verdict → Bool
is_link image (Link target shown past) = not image
is_link image v = false

-- a pair is a footnote reference
abbrev pub is_note : Verdict → Bool
is_note (FootnoteReference label) = true
is_note v = false

-- a pair is text
abbrev pub is_text : Verdict → Bool
is_text Text = true
is_text (Undefined label at is_after) = true
is_text v = false

-- a sequence has a pair that passes a test, at any depth; the test is also given whether the pair is an image
abbrev pub has_pair : (Bool → Verdict → Bool) → Sequence → Bool
has_pair f Ends = false
has_pair f (Single m r) = has_pair f r
has_pair f (Stray m r) = has_pair f r
has_pair f (Bracket m r) = has_pair f r
has_pair f (Paired opens closes v inside r) = (f (is_image opens) v || has_pair f inside) || has_pair f r

abbrev pub holds_link : Sequence → Bool
holds_link t = has_pair is_link t

abbrev pub holds_note : Sequence → Bool
holds_note t = has_pair (λ image v. is_note v) t

-- the name of a wikilink, if a pair is around one
abbrev pub name_in : Verdict → Option Name
name_in (NamePair n) = Some n
name_in v = None

-- the name of a wikilink that begins a sequence
abbrev pub first_name : Sequence → Option Name
first_name (Paired opens closes v inside r) = name_in v
first_name t = None

-- the first of two, if there is one, or the other
abbrev pub first_of : Option ℕ → Option ℕ → Option ℕ
first_of (Some n) m = Some n
first_of None m = m

-- the place after the first pipe in a part of the content, if there is one
abbrev pub pipe_in : List ℕ → Span → Option ℕ
pipe_in bytes p = option_map (λ n. p.start + n + 1) (position (λ b. b == pipe) (slice_range bytes p.start p.«end»))

-- the same in a piece, if it is text and wikilinks are enabled
abbrev pub piece_pipe : Chain → Mark → MarkKind → Option ℕ
piece_pipe c m (Token body) = if has c.options wikilinks then pipe_in c.bytes m.part else None
piece_pipe c m kind = None

-- The place after the first pipe in a text of the level of a sequence. That level has the pieces in brackets that are
-- text, but not those in a link or an image (this project).
abbrev pub first_pipe : Chain → Sequence → Option ℕ
first_pipe c Ends = None
first_pipe c (Single m r) = first_of (piece_pipe c m m.kind) (first_pipe c r)
first_pipe c (Stray m r) = first_pipe c r
first_pipe c (Bracket m r) = first_pipe c r
first_pipe c (Paired opens closes v inside r) =
    if is_text v then first_of (first_pipe c inside) (first_pipe c r) else first_pipe c r

abbrev pub closes : View → Bool
closes (Closes m p) = true
closes v = false

-- The name in a pair with this text. With the place after its first pipe: what is before that pipe, and what is shown
-- after it. Without a pipe: all of the text (this project).
abbrev pub named : Span → Option ℕ → Name
named text None = record { name = text; shown = None }
named text (Some after) = record { name = span text.start (after - 1); shown = Some (span after text.«end») }

-- A pair around the name of a wikilink. Wikilinks are enabled; the pair is no image, is directly after an opening bracket
-- and directly before a closing one, and holds no link and no footnote reference; the name isn't empty (this project).
abbrev pub is_name : Chain → Pair → Bool
is_name c p =
    has c.options wikilinks && (p.is_inner && not p.is_image) && closes (look c p.«end») && not (p.holds_link || p.holds_note)
    && nat_lt (named p.text p.pipe).name.start (named p.text p.pipe).name.«end»

-- what is shown of a wikilink: what is after the pipe, or its name
abbrev pub shown_of : Name → Span
shown_of n = unwrap_or n.shown n.name

-- a reference is a full one: its label is in the pair after it (CommonMark 6.3)
abbrev pub is_full : ReferenceForm → Bool
is_full Full = true
is_full form = false

-- the bytes of a part of the content
abbrev pub bytes_in : Chain → Span → List ℕ
bytes_in c s = slice_range c.bytes s.start s.«end»

-- A link or an image that leads to a definition; or an undefined reference, if there is none with its label
-- (CommonMark 6.3).
abbrev pub defined_by : Chain → Pair → Reference → Option ℕ → Verdict
defined_by c p r (Some definition) = Link (Definition r.form r.label definition) p.text (place_at c p.«end».index r.«end»)
defined_by c p r None = Undefined r.label r.«end» (is_full r.form)

-- the index in the table of the definition that a label names (CommonMark 4.7)
abbrev pub named_by : Chain → List ℕ → Option ℕ
named_by c label = definition_index c.definitions label

-- a footnote has a label (this project)
abbrev pub has_footnote : Chain → List ℕ → Bool
has_footnote c label = has_label c.footnotes label

-- what a pair is by the definition that the label of a reference names (CommonMark 6.3)
abbrev pub by_definition : Chain → Pair → Reference → Verdict
by_definition c p r = defined_by c p r (named_by c (bytes_in c r.label))

abbrev pub reference : ReferenceForm → Span → ℕ → Reference
reference form label at = record { form = form; label = label; «end» = at }

-- the places of the text of a part
abbrev pub span_of : Part → Span
span_of l = span l.start l.«end»

-- the label between the brackets of a pair, if it is one and isn't blank (CommonMark 6.3)
abbrev pub own_label : Chain → Pair → Option Span
own_label c p =
    option_and_then (λ (l : Part). if l.past == p.«end».offset && not (is_blank_label (bytes_in c (span_of l))) then Some (span_of l) else None)
    (inline_label_at c.bytes p.text.start)

-- a footnote reference, if a footnote has the label or footnotes have their old form (this project)
abbrev pub by_footnote : Chain → Pair → Span → Verdict
by_footnote c p label =
    if not (gfm_footnotes c.options) || has_footnote c (drop 1 (bytes_in c label)) then FootnoteReference label
    else Undefined label p.«end».offset false

-- what a pair is by its own label (CommonMark 6.3; for footnotes this project)
abbrev pub by_own_label : Chain → Pair → ReferenceForm → ℕ → Option Span → Verdict
by_own_label c p form at None = Text
by_own_label c p form at (Some label) =
    if is_footnote_label c.options (bytes_in c label) then by_footnote c p label else by_definition c p (reference form label at)

-- what a pair is by its own label, as a reference of a form that ends at a place (CommonMark 6.3)
abbrev pub by_own : Chain → Pair → ReferenceForm → ℕ → Verdict
by_own c p form at = by_own_label c p form at (own_label c p)

-- the label in brackets directly after a pair; it may be blank (CommonMark 6.3)
abbrev pub label_after : Chain → Pair → Option Part
label_after c p =
    if begins left_bracket (drop p.«end».offset c.bytes) then inline_label_at c.bytes (p.«end».offset + 1) else None

-- A pair with brackets after it: a collapsed reference if nothing is in them; a full one if a label is in them that isn't
-- blank, and no footnote label; otherwise what the pair is without them (CommonMark 6.3).
abbrev pub by_label : Chain → Pair → Option Part → Verdict
by_label c p None = by_own c p Shortcut p.«end».offset
by_label c p (Some l) =
    if l.start == l.«end» then by_own c p Collapsed l.past
    else (if is_blank_label (bytes_in c (span_of l)) || is_footnote_label c.options (bytes_in c (span_of l))
    then by_own c p Shortcut p.«end».offset
    else by_definition c p (reference Full (span_of l) l.past))

-- a pair with a target after it is an inline link or image; otherwise its label counts (CommonMark 6.3)
abbrev pub by_target : Chain → Pair → Option InlineTarget → Verdict
by_target c p (Some t) = Link (Inline (span_of t.dest) (option_map span_of t.title)) p.text (place_at c p.«end».index t.past)
by_target c p None = by_label c p (label_after c p)

-- what a pair is by what follows it, and by its own label (CommonMark 6.3, 6.4)
unfoldable pub what_follows : Chain → Pair → Verdict
what_follows c p = by_target c p (target_at c.bytes p.«end».offset)

-- An undefined reference is text and nothing else if the pair before it has looked for its label too: it isn't listed
-- twice (this project).
abbrev pub quiet : Bool → Verdict → Verdict
quiet true (Undefined label at is_after) = Text
quiet waited v = v

-- what a pair is that has to do with no wikilink (CommonMark 6.3, 6.4)
abbrev pub link_or_note : Chain → Pair → Verdict
link_or_note c p = if p.holds_note || (p.holds_link && not p.is_image) then Text else quiet p.waited (what_follows c p)

-- what a pair is that begins with this name, or with none: a wikilink, the name of one, or neither (this project)
abbrev pub around_name : Chain → Pair → Option Name → Verdict
around_name c p (Some n) = Link (NameTarget n) (shown_of n) p.«end»
around_name c p None = if is_name c p then NamePair (named p.text p.pipe) else link_or_note c p

-- what a pair is (CommonMark 6.3, 6.4, and this project)
unfoldable pub judged : Chain → Pair → Verdict
judged c p = around_name c p p.name

-- a pair of brackets with these pieces in it
abbrev pub pair_of : Chain → Where → Mark → Mark → Place → Sequence → Pair
pair_of c w opens closes at inside = record {
  is_image = is_image opens;
  is_inner = w.directly;
  waited = w.waited;
  text = span opens.part.«end» closes.part.start;
  «end» = at;
  name = first_name inside;
  holds_link = holds_link inside;
  holds_note = holds_note inside;
  pipe = first_pipe c inside;
}

-- what the pair with these brackets and these pieces in it is, if it begins here and this place is after it
abbrev pub verdict : Chain → Where → Mark → Mark → Place → Sequence → Verdict
verdict c w opens closes at inside = judged c (pair_of c w opens closes at inside)

-- the place after a pair and its target
abbrev pub past : Place → Verdict → Place
past at (Link target shown p) = p
past at v = at

-- a place is at or after another one, and in the chain
abbrev pub IsLaterIn : Chain → Place → Place → Type 0
IsLaterIn c p q = (p.index ≤ q.index) × (q.index ≤ length c.tokens)

-- what is between the brackets of a pair begins between characters, and so does what is after it
abbrev pub IsWholePair : Chain → Pair → Type 0
IsWholePair c p = IsCharBoundary c.bytes p.text.start × IsCharBoundary c.bytes p.«end».offset
