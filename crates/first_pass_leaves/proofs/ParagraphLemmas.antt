-- The lines of a text, one after the other.
use Rattle.std.proofs.Common.{◌≡◌, inl, inr, ℕ, ◌+◌, ◌<◌, ◌≤◌, Bool, true, false, List, [], ◌∷◌, ◌++◌, length, drop, ◌^◌, Option, Some, None, is_some, IfSome}
use Rattle.std.proofs.Common.{IsUtf8, IsCharBoundary, refl, sym, ap, subst, ◌∙◌, arith, ◌||◌, option_map}
use Rattle.first_pass_grammar.proofs.Common.{cases_lt, false≢true, cond-false, cond_both, and_left, and_right, or_parts, Item, Options, Forest, appended}
use Rattle.first_pass_grammar.proofs.Common.{pushed, is_text, TreeIndex, line_len, offset, line_rest, line_place, place_at, IsPlaceOf, lines_at-line}
use Rattle.first_pass_grammar.proofs.Common.{lines_at-end, AreLineTokens, EndsLine, Spot, spot, add_token, add_tokens, close_break, chained, with_tokens}
use Rattle.first_pass_grammar.proofs.Common.{JoinsNone, AppendsLine, add_text-some, with_tokens-chained, Context, context, front, unindented, Continued}
use Rattle.first_pass_grammar.proofs.Common.{interrupts, underline_of, Names, Extends, line_more, MathBraces, no_braces, Document, document, around, content_at}
use Rattle.first_pass_grammar.proofs.Common.{marker_items, add_break, TextLines, text_lines, AreTextLines, lines_from, HeadingLevel, underline_first}
use Rattle.first_pass_grammar.proofs.Common.{setext_underline, none-some}
use Rattle.first_pass_leaves.proofs.Common.{container_of, with_container, path_of, with_child, AreIn, front-end, path_of-chained, path_of-opened, opened_in}
use Rattle.first_pass_leaves.proofs.Common.{line_end_at, with_closed_break, with_text-chained, appended-chained, marked_chain, Container, ends_past, text_place}
use Rattle.first_pass_grammar.specs.Kinds.{ends_text}
use Rattle.first_pass_grammar.proofs.Names.MoreNames.{extends_both}
use Rattle.first_pass_leaves.specs.Appends.{AppendsLines}
use Rattle.first_pass_leaves.proofs.SoFar.{LinesSoFar}
use Rattle.first_pass_kinds.specs.NextLines.{next_by, next_line_of}
use Rattle.first_pass_leaves.proofs.OrderHeading.{line_stops}
use Rattle.first_pass_kinds.specs.declared.interrupt.NextLine.{NextLine}
use Rattle.first_pass_kinds.specs.declared.interrupt.NextLine.TheVariants.{More, Underline, NotText}

-- At the end of the text a paragraph ends.
interrupts-end : (c : Context) (how : Continued) → interrupts c how (line_rest []) ≡ true
unfolding interrupts
interrupts-end c how = refl

-- There is no underline there.
underline-end : (path : List Container) → underline_of path (line_rest []) ≡ None
unfolding underline_of setext_underline
underline-end path = grind (arith, front-end, cond_both)

text_within : (c : Context) (text : List ℕ) (n : ℕ) → ends_text c (line_rest (drop n text)) ≡ false → n < length text
text_within c text n h = grind (arith, cases_lt, or_parts, false≢true, ends_past, front-end, interrupts-end)

pub underline_within : (path : List Container) (text : List ℕ) (n : ℕ) (underline : ℕ × HeadingLevel)
    → underline_of path (line_rest (drop n text)) ≡ Some underline → n < length text
underline_within path text n underline h = grind (arith, cases_lt, none-some, underline-end, ends_past)

-- the underline in the line at an offset
pub underline_there : (path : List Container) (text : List ℕ) (n : ℕ) → underline_first path (lines_from text n) ≡ underline_of path (line_rest (drop n text))
underline_there path text n = grind (arith, cases_lt, lines_at-line, lines_at-end, ends_past, underline-end)

-- The text of a line ends at the end of the line.
pub line_end-text : (path : List Container) (text : List ℕ) (n : ℕ)
    → IsUtf8 text → IsCharBoundary text n → line_end_at text (offset (unindented (place_at n (front path (line_rest (drop n text)))))) ≡ line_end_at text n
line_end-text path text n u b =
    let p = text_place text n path u b in
    let f = ap line_len p.0.left in
    let e = p.1 in
    omega arith

-- The content of a line begins at a spot and has these tokens. The next line begins at another offset.
record LineOf (d : Document) (ix : Spot) : Type 0 where
  next : ℕ
  line_break : Option Item
  braces : MathBraces
  tokens : List Item
  are : AreLineTokens d.names.texts (content_at d ix) tokens (next, line_break) braces
  place : next ≡ line_end_at d.text ix.at

-- If the next line continues the text, the lines from that one on complete the chain with the tokens of this line.
lines_more : (path : List Container) (d : Document) (ix : Spot) (chain : List Item) (t : TextLines) (l : LineOf d ix)
    → ends_text (around d path) (line_rest (drop l.next d.text)) ≡ false → IsUtf8 d.text → IsCharBoundary d.text l.next
    → (
    let at : ℕ = offset (unindented (place_at l.next (front path (line_rest (drop l.next d.text))))) in
    AreTextLines d path (spot at l.braces) (add_break l.line_break (add_tokens chain l.tokens)) (lines_from d.text (line_end_at d.text at)) t)
    → AreTextLines d path ix chain (lines_from d.text (line_end_at d.text ix.at)) t
unfolding AreTextLines front
lines_more path d ix chain t l goes u b more =
    let n : ℕ = l.next in
    let at : ℕ = offset (unindented (place_at n (front path (line_rest (drop n d.text))))) in
    let lines_are : lines_from d.text (line_end_at d.text ix.at) ≡ line_place n (drop n d.text) ∷ lines_from d.text (line_end_at d.text at) =
    ap (lines_from d.text) (sym l.place) ∙ lines_at-line d.text n (text_within (around d path) d.text n goes)
    ∙ ap (λ e. line_place n (drop n d.text) ∷ lines_from d.text e) (sym (line_end-text path d.text n u b)) in
    subst (λ lines. AreTextLines d path ix chain lines t) (sym lines_are) (l.tokens, (n, l.line_break), l.braces, l.are, inr (goes, more))

-- If the next line does not continue the text, the line is the last.
lines_last : (path : List Container) (d : Document) (ix : Spot) (chain : List Item) (l : LineOf d ix)
    → ends_text (around d path) (line_rest (drop l.next d.text)) ≡ true
    → AreTextLines d path ix chain (lines_from d.text (line_end_at d.text ix.at))
    (text_lines (add_tokens chain l.tokens) l.line_break (lines_from d.text l.next))
unfolding AreTextLines front
lines_last path d ix chain l ends = grind (arith, cases_lt, lines_at-line, lines_at-end)

-- the break after a chain in the tree
pub with_child-chained : (f : Forest Item) (chain : List Item) (line_break : Option Item)
    → with_child (chained f chain) line_break ≡ chained f (add_break line_break chain)
with_child-chained f chain None = refl
with_child-chained f chain (Some x) = appended-chained f chain x

pub with_closed_break-chained : (f : Forest Item) (chain : List Item) (line_break : Option Item)
    → JoinsNone f → with_closed_break (chained f chain) line_break ≡ chained f (close_break line_break chain)
with_closed_break-chained f chain None apart = refl
with_closed_break-chained f chain (Some x) apart = grind (arith, with_text-chained)

-- a token that is no text stays first, whatever follows it
token_after : (m y : Item) (chain : List Item) → is_text m.body ≡ false → add_token (m ∷ chain) y ≡ m ∷ add_token chain y
token_after m y [] plain = grind (arith, cond-false, and_right, and_left)
token_after m y (z ∷ zs) plain = refl

pub closed_past : (m : Item) (break : Option Item) (chain : List Item) → is_text m.body ≡ false → close_break break (m ∷ chain) ≡ m ∷ close_break break chain
closed_past m None chain plain = refl
closed_past m (Some x) chain plain = grind (arith, add_text-some, token_after)

-- before the first line
pub so_far_start : (d : Document) (start : ℕ) (old : Forest Item) → IsCharBoundary d.text start → LinesSoFar d start old old (spot start no_braces)
so_far_start d start old boundary = record { chain = []; tree_is = refl; boundary = boundary; from = inl refl; continues = λ more e t p. p }

-- A line ends at a character boundary.
pub next_boundary : (d : Document) (ix n : ℕ) (b : MathBraces) (line_break : Option Item)
    → IsUtf8 d.text → IsCharBoundary d.text ix → EndsLine (content_at d (spot ix b)) (n, line_break) → IsCharBoundary d.text n
next_boundary d ix n b line_break utf8 boundary ends = subst (IsCharBoundary d.text) (sym ends.place) (line_stops d.text ix utf8 boundary)

-- the next line
pub goes_by : (o : Option (ℕ × HeadingLevel)) (t : Bool) (v at : ℕ) (next : NextLine)
    → next ≡ next_by o t v → next ≡ More at → ((is_some o || t) ≡ false) × (at ≡ v)
goes_by (Some underline) t v at next e f = cc
goes_by None true v at next e f = cc
goes_by None false v at next e f = (refl, let same : More at ≡ More v = sym f ∙ e in cc)

pub stops_by : (o : Option (ℕ × HeadingLevel)) (t : Bool) (v : ℕ) (next : NextLine) → next ≡ next_by o t v → next ≡ NotText
    → ((is_some o || t) ≡ true) × (None ≡ option_map (λ (found : ℕ × HeadingLevel). found.1) o)
stops_by (Some underline) t v next e f = cc
stops_by None true v next e f = (refl, refl)
stops_by None false v next e f = cc

pub underlined_by : (o : Option (ℕ × HeadingLevel)) (t : Bool) (v : ℕ) (level : HeadingLevel) (next : NextLine) → next ≡ next_by o t v → next ≡ Underline level
    → ((is_some o || t) ≡ true) × (Some level ≡ option_map (λ (found : ℕ × HeadingLevel). found.1) o)
underlined_by (Some underline) t v level next e f = (refl, let same : Underline level ≡ Underline underline.1 = sym f ∙ e in cc)
underlined_by None true v level next e f = cc
underlined_by None false v level next e f = cc

-- the backslash of a hard break is in the text
pub break_fits : (d : Document) (ix : Spot) (n : ℕ) (line_break : Option Item)
    → length d.text < 2 ^ 63 → EndsLine (content_at d ix) (n, line_break) → IfSome line_break (λ x. x.start < 2 ^ 63)
break_fits d ix n None small ends = tt
break_fits d ix n (Some x) small ends = grind arith

-- A line of a text is read after the lines so far. Its content begins at a spot, and its tokens are added to the tree,
-- without the break after it. The next line begins at another offset.
pub record LineRead (d : Document) (start : ℕ) (old : Forest Item) : Type 0 where
  pub ix : Spot
  pub now : Forest Item
  pub read : Forest Item
  pub names : Names
  pub next : ℕ
  pub line_break : Option Item
  pub braces : MathBraces
  pub utf8 : IsUtf8 d.text
  pub so_far : LinesSoFar d start old now ix
  pub apart : JoinsNone old
  pub opened : AreIn (length old.nodes) old.spine
  pub grown : Extends names d.names
  pub line : AppendsLine names.texts (content_at d ix) now read (next, line_break) braces
  pub ends : EndsLine (content_at d ix) (next, line_break)

module _ {d : Document} {start : ℕ} {old : Forest Item} (l : LineRead d start old) where
  -- the containers that are open after the line
  abbrev line_path : List Container
  line_path = path_of d.options l.read

  -- the chain up to the end of the line
  abbrev chain_read : List Item
  chain_read = add_tokens l.so_far.chain l.line.tokens

  -- the chain in the tree
  chain_is : l.read ≡ chained old chain_read
  chain_is = l.line.tree_is ∙ ap (λ f. with_tokens f l.line.tokens) l.so_far.tree_is ∙ with_tokens-chained old l.so_far.chain l.line.tokens l.apart

  -- The tokens of the line open and close nothing.
  same_path : line_path ≡ path_of d.options old
  same_path = ap (path_of d.options) chain_is ∙ path_of-chained d.options old chain_read l.opened

  -- the line, if names are added
  abbrev line_under : (more : Names) → Extends more l.names → LineOf (document d.text d.options more) l.ix
  line_under more e = record {
    next = l.next;
    line_break = l.line_break;
    braces = l.braces;
    tokens = l.line.tokens;
    are = line_more (e.more_texts, e.texts) l.line.line;
    place = l.ends.place;
  }

  -- The line ends at a character boundary.
  line_boundary : IsCharBoundary d.text l.next
  line_boundary = next_boundary d l.ix.at l.next l.ix.braces l.line_break l.utf8 l.so_far.boundary l.ends

  -- It ends after the first line of the text, or with it.
  line_later : line_end_at d.text start ≤ l.next
  line_later = grind arith

  -- If the next line continues the text, the lines so far include this line, and the next one begins after it.
  pub so_far_next : (at : ℕ) (new : Forest Item) (found : NextLine)
      → found ≡ next_line_of (context d.options line_path) l.next (line_rest (drop l.next d.text)) → found ≡ More at
      → IsPlaceOf d.text (unindented (place_at l.next (front line_path (line_rest (drop l.next d.text))))) → new ≡ with_child l.read l.line_break
      → (LinesSoFar (document d.text d.options l.names) start old new (spot at l.braces)) × (l.ix.at < at)
  so_far_next at new found value is i new_is =
      let path : List Container = line_path in
      let ix : Spot = l.ix in
      let n : ℕ = l.next in
      let step = goes_by _ _ _ _ _ value is in
      let goes : ends_text (around d path) (line_rest (drop n d.text)) ≡ false = step.0 in
      let at_is : at ≡ offset (unindented (place_at n (front path (line_rest (drop n d.text))))) = step.1 in
      let within = text_within (around d path) d.text n goes in
      let later : ix.at < length d.text → ix.at < n = l.ends.later in
      let from : ix.at ≤ n = l.ends.from in (
        record {
          chain = add_break l.line_break chain_read;
          tree_is = new_is ∙ ap (λ f. with_child f l.line_break) chain_is ∙ with_child-chained old chain_read l.line_break;
          boundary = subst (IsCharBoundary d.text) (sym at_is) i.boundary;
          from = inr (omega (arith, line_later));
          continues = λ more e t p.
              let later : Document = document d.text d.options more in
              l.so_far.continues more (extends_both more l.names d.names e l.grown) t
              (rw same_path at (lines_more path later ix l.so_far.chain t (line_under more e) goes l.utf8 line_boundary (rw (← same_path, at_is) at p)));
        },
        omega arith,
      )

  -- If the next line does not continue the text, the chain of all lines is in the tree.
  pub so_far_stop : (underline : Option HeadingLevel) → length d.text < 2 ^ 63
      → (ends_text (context d.options line_path) (line_rest (drop l.next d.text)) ≡ true)
      × (underline ≡ option_map (λ (u : ℕ × HeadingLevel). u.1) (underline_of line_path (line_rest (drop l.next d.text))))
      → AppendsLines (document d.text d.options l.names) start old l.read (record { next = l.next; line_break = l.line_break; underline = underline })
  so_far_stop underline small said =
      let n : ℕ = l.next in
      let given : TextLines = text_lines chain_read l.line_break (lines_from d.text n) in
      record {
        chain = chain_read;
        are = λ more e.
            let later : Document = document d.text d.options more in
            l.so_far.continues more (extends_both more l.names d.names e l.grown) given
            (rw same_path at (lines_last line_path later l.ix l.so_far.chain (line_under more e) said.0));
        tree_is = chain_is;
        underline = said.1 ∙ ap (option_map (λ (found : ℕ × HeadingLevel). found.1))
            (sym (underline_there line_path d.text n) ∙ ap (λ c. underline_first c (lines_from d.text n)) same_path);
        later = line_later;
        boundary = line_boundary;
        short = break_fits d l.ix n l.line_break small l.ends;
      }

-- a paragraph that was just opened, with the task list item marker before it
pub path_of-paragraph : (options : Options) (g p m : Forest Item) (x : Item) (ix : TreeIndex) (marker : Option Item)
    → container_of options x.body ≡ None → p ≡ pushed (appended g x) ix → m ≡ with_child p marker → ix.0 ≡ length g.nodes
    → AreIn (length g.nodes) g.spine → path_of options m ≡ path_of options g
path_of-paragraph options g p m x ix marker leaf e f at a =
    let opened : Forest Item = pushed (appended g x) ix in
    ap (path_of options) (marked_chain opened m m marker [] (f ∙ ap (λ q. with_child q marker) e) refl)
    ∙ path_of-chained options opened (marker_items marker ++ []) (opened_in g x ix at a) ∙ path_of-opened options g x ix at a
    ∙ ap (λ c. with_container c (path_of options g)) leaf
