-- The tables of a pass stay whole as nodes are opened and closed, and as tokens, or a block without a table, are added.
use Rattle.std.proofs.Common.{◌≡◌, ℕ, zero, suc, ◌+◌, ◌==◌, ◌&&◌, true, false, List, [], ◌∷◌, ◌++◌, length, Option, Some, None, IfSome, IsSomeAnd, refl, sym}
use Rattle.std.proofs.Common.{ap, subst, ◌∙◌, true≢false, arith, drop, IsCharBoundary}
use Rattle.first_pass_grammar.proofs.Common.{and_parts, cond_both, option_map_or, HeadingLevel, Item, ItemBody, Heading, HtmlBlock, Text, TreeIndex, Forest}
use Rattle.first_pass_grammar.proofs.Common.{IsForest, appended, added, body_at, body-kept, body_of, item_at, is_text, leaves, modify, with_end, with_end_at}
use Rattle.first_pass_grammar.proofs.Common.{with_tokens, MathBraces, Inline, AppendsLine, Document, block_with, heading_block, rule_block, Names, Extends}
use Rattle.first_pass_grammar.proofs.Common.{AreNamed, AreColumns, Ranges, range_html, range_text, IsHtml, IsRawLine, AreRawLines, AreEachNode, HasWholeTables}
use Rattle.first_pass_grammar.proofs.Common.{ShowsNothing, SilentFrom, may_be_title, is_task_marker, Place, line_place, line_is_place, offset}
use Rattle.first_pass.proofs.Common.{list_continued, title_there, ends_text_at, block_nodes, leaves_nodes, AppendsRaw, IsSilentLast, none_shown, tokens_show}
use Rattle.first_pass.proofs.Common.{text_kept, IsNoRow, IsSilentFirst, ended_keeps, front_keeps, marks_ended, may_not_open, more_whole, none_kept, whole_kept}
use Rattle.first_pass_blocks.proofs.Common.{AddsText, joins_at, with_token, AppendsCell, AddsHeading, range_of, RawKind, Code, Html, PassState, kept_of}
use Rattle.first_pass_blocks.proofs.Common.{block_whole}
use Rattle.first_pass_grammar.proofs.Each.EachToken.{AreEach, HoldsOfRaw, both_each, cell_each, heading_each, line_each, raw_each, raw_lines_each}
use Rattle.first_pass_grammar.proofs.Each.EachToken.{range_text_each}
use Rattle.first_pass_grammar.proofs.Names.MoreNames.{extends_none}
use Rattle.first_pass_grammar.proofs.WholeTables.WholeBlocks.{whole_none}
use Rattle.first_pass_grammar.proofs.WholeTables.WholeForests.{whole_both, whole_same}
use Rattle.first_pass_order.proofs.PropertyKept.{MayLeave, list_continued_keeps}

-- nodes at the end that are no part of a table
silent_past : (nodes : List (ℕ × Item)) (n : ℕ × Item) (more : List (ℕ × Item)) → AreEachNode ShowsNothing (n ∷ more)
    → SilentFrom (nodes ++ n ∷ more) (length nodes)
silent_past [] n more shows = shows
silent_past (m ∷ nodes) n more shows = silent_past nodes n more shows

-- a list continues, or is opened
titles_leave : (names : Names) (f : Forest Item) → IsForest f → HasWholeTables names f → MayLeave (whole_kept names) 0 f
titles_leave names f forest h title is =
    let t = title_there f title is in
    (subst (λ (o : Option TreeIndex). IsSilentLast f.nodes o) t.current h.last (ap (λ o. option_map_or may_be_title o false) t.body), forest)

pub continued_whole : (names : Names) (start byte number : ℕ) (r : PassState) → IsForest r.tree → HasWholeTables names r.tree
    → HasWholeTables names (list_continued start byte number r).tree
continued_whole names start byte number r forest h =
    list_continued_keeps (whole_kept names) 0 start byte number 0 r
    (record { held = record { holds = h; goes = tt; marked = λ e is. (tt, tt) }; leaves = titles_leave names r.tree forest h }) (tt, tt, tt, tt)
    (λ names depth start end. refl, refl)

-- a token is joined to the last text, or added
text_plain : (b : ItemBody) → is_text b ≡ true → (may_not_open b ≡ false) × (may_be_title b ≡ false)
text_plain (Text escaped) h = (refl, refl)
text_plain b h = cc

module _ (names : Names) where
  text_ended : (f : Forest Item) (at e : ℕ) (c : TreeIndex) (o : Option Item) → f.current ≡ Some c → item_at f c ≡ o
      → ends_text_at at o ≡ true → HasWholeTables names f → HasWholeTables names (with_end_at f c e)
  text_ended f at e c None is there joins h = cc
  text_ended f at e c (Some y) is there joins h =
      let plain = text_plain y.body (and_parts (is_text y.body) (y.«end» == at) joins).0 in
      let body : body_at f.nodes c.0 ≡ Some y.body = body_of f c y there in
      let no_row : IsNoRow f.nodes c.0 = subst (λ (o : Option ItemBody). IsSomeAnd o (λ b. may_not_open b ≡ false)) (sym body) plain.0 in
      let nodes : List (ℕ × Item) = modify f.nodes c.0 (λ x. record x { «end» = e }) in
      let kept : body_at nodes c.0 ≡ body_at f.nodes c.0 = body-kept f.nodes c.0 c.0 (λ x. record x { «end» = e }) (λ x. refl) in
      record {
        whole = whole_same names f.nodes nodes (marks_ended names f.nodes c.0 e no_row) h.whole;
        none_open = none_kept f.nodes nodes f.spine (ended_keeps f.nodes c.0 e) h.none_open;
        last = subst (IsSilentLast nodes) (sym is)
            (λ may. absurd (true≢false (sym may ∙ ap (λ (o : Option ItemBody). option_map_or may_be_title o false) (kept ∙ body) ∙ plain.1)));
      }

  joined_whole : (f : Forest Item) (at e : ℕ) (o : Option TreeIndex) → f.current ≡ o → joins_at f at o ≡ true → HasWholeTables names f
      → HasWholeTables names (with_end f e o)
  joined_whole f at e None is joins h = h
  joined_whole f at e (Some c) is joins h = text_ended f at e c (item_at f c) is refl joins h

  appended_whole : (f : Forest Item) (x : Item) → ShowsNothing x.body → HasWholeTables names f → HasWholeTables names (appended f x)
  appended_whole f x own h =
      let n : ℕ × Item = (length f.spine + 1, x) in
      record {
        whole = whole_both names f.nodes (n ∷ []) h.whole (whole_none names (n ∷ []) (none_shown names (n ∷ []) (own, tt)));
        none_open = none_kept f.nodes (f.nodes ++ n ∷ []) f.spine (front_keeps f.nodes (n ∷ [])) h.none_open;
        last = λ may. silent_past f.nodes n [] (own, tt);
      }

  tokens_whole : (f : Forest Item) (tokens : List Item) → HasWholeTables names f → AreEach ShowsNothing tokens → HasWholeTables names (with_tokens f tokens)
  tokens_whole f [] h own = h
  tokens_whole f (x ∷ xs) h own =
      tokens_whole (with_token f x) xs
      (cond_both (is_text x.body && joins_at f x.start f.current) (with_end f x.«end» f.current) (appended f x) (HasWholeTables names)
      (λ b. joined_whole f x.start x.«end» f.current refl (and_parts (is_text x.body) (joins_at f x.start f.current) b).1 h)
      (λ b. appended_whole f x own.0 h)) own.1

-- a line, a cell, and a raw line
pub line_whole : {after : MathBraces} {names before : Names} {s : Inline} {old new : Forest Item} {answer : ℕ × Option Item} → Extends names before
    → AppendsLine names.texts s old new answer after → AreNamed before old.nodes → HasWholeTables before old → HasWholeTables names new
line_whole {names = names} {before = before} {s = s} {old = old} {answer = answer} more a named h =
    rw a.tree_is (tokens_whole names old a.tokens (more_whole names before old more named h)
    (line_each names.texts ShowsNothing (tokens_show names.texts) s a.tokens answer a.line))

pub cell_whole : {after : MathBraces} {names before : Names} {s : Inline} {old new : Forest Item} {stop : ℕ} → Extends names before
    → AppendsCell names.texts s old new stop after → AreNamed before old.nodes → HasWholeTables before old → HasWholeTables names new
cell_whole {names = names} {before = before} {s = s} {old = old} {stop = stop} more a named h =
    rw a.tree_is (tokens_whole names old a.tokens (more_whole names before old more named h)
    (cell_each names.texts ShowsNothing (tokens_show names.texts) s a.tokens stop a.cell))

text_shows : (a b : ℕ) → AreEach ShowsNothing (range_text a b)
text_shows a b = range_text_each ShowsNothing (λ escaped names depth start end. refl) a b

html_shows : (a b : ℕ) → AreEach ShowsNothing (range_html a b)
html_shows a b = (λ names depth start end. refl, tt)

range_shows : (kind : RawKind) (a b : ℕ) → AreEach ShowsNothing (range_of kind a b)
range_shows Code a b = text_shows a b
range_shows Html a b = html_shows a b

owed_shows : (names : Names) (owed at : ℕ) (items : List Item) → AreColumns names owed at items → AreEach ShowsNothing items
owed_shows names zero at items is = rw is tt
owed_shows names (suc n) at items (ix, (named, at_ix, text), is) = rw is (λ names depth start end. refl, tt)

raw_line_shows : (d : Document) (kind : RawKind) (owed from to : ℕ) (items : List Item) → IsRawLine (range_of kind) d owed from to items
    → AreEach ShowsNothing items
raw_line_shows d kind owed from to items (columns, are, is) =
    rw is (both_each ShowsNothing columns _ (owed_shows d.names owed from columns are)
    (raw_each ShowsNothing (range_of kind) d.text from to (range_shows kind)))

pub raw_line_whole : (d : Document) (kind : RawKind) (owed from to : ℕ) (before : Names) (old new : Forest Item) → Extends d.names before
    → AppendsRaw (range_of kind) d.text d.names owed from to old new → AreNamed before old.nodes → HasWholeTables before old
    → HasWholeTables d.names new
raw_line_whole d kind owed from to before old new more a named h =
    rw a.tree_is (tokens_whole d.names old a.items (more_whole d.names before old more named h)
    (raw_line_shows d kind owed from to a.items (a.are d.options d.names (extends_none d.names))))

-- the items of a leaf block are no part of a table
lines_show : (range : Ranges) (d : Document) (places : List Place) (chain : List Item) → ((a b : ℕ) → AreEach ShowsNothing (range a b))
    → AreRawLines range d [] places chain → AreEach ShowsNothing chain
lines_show range d places chain each are =
    let raw : HoldsOfRaw d.names.texts ShowsNothing = record {
      html = λ names depth start end. refl;
      columns = λ ix within names depth start end. refl;
    } in
    raw_lines_each ShowsNothing d raw range [] places chain each tt are

block_shows : (start stop : ℕ) (body : ItemBody) (chain : List Item) (items : List (ℕ × Item)) → items ≡ block_with start stop body chain
    → ShowsNothing body → AreEach ShowsNothing chain → AreEachNode ShowsNothing items
block_shows start stop body chain items is own h =
    subst (AreEachNode ShowsNothing) (sym is)
    (block_nodes ShowsNothing (record { start = start; «end» = stop; body = body }) (leaves chain) own (leaves_nodes ShowsNothing chain h))

pub code_shows : (d : Document) (places : List Place) (body : ItemBody) (start stop : ℕ) (chain : List Item) (items : List (ℕ × Item))
    → items ≡ block_with start stop body chain → ShowsNothing body → AreRawLines range_text d [] places chain → AreEachNode ShowsNothing items
code_shows d places body start stop chain items is own lines =
    block_shows start stop body chain items is own (lines_show range_text d places chain text_shows lines)

pub html_block_shows : {d : Document} {start columns : ℕ} {places : List Place} {e : ℕ} {items : List (ℕ × Item)} → IsHtml d start columns places e items
    → AreEachNode ShowsNothing items
html_block_shows {d = d} {items = items} is =
    block_shows _ _ HtmlBlock is.chain items is.items_are (λ names depth start end. refl) (lines_show range_html d _ is.chain html_shows is.lines)

pub rule_shows : (start size : ℕ) → AreEachNode ShowsNothing (rule_block start size)
rule_shows start size = (λ names depth start end. refl, tt)

pub atx_shows : {d : Document} {start : ℕ} {level : HeadingLevel} {old new : Forest Item} {next : ℕ} (a : AddsHeading d start level old new next)
    → AreEachNode ShowsNothing (heading_block start next level a.index a.chain)
atx_shows {d = d} {start = start} {level = level} {next = next} a =
    let line = a.line d.names (extends_none d.names) in
    block_shows start next (Heading level a.index) a.chain (heading_block start next level a.index a.chain) refl (λ names depth start end. refl)
    (heading_each ShowsNothing d (tokens_show d.names.texts) _ a.index a.chain next line)

-- a paragraph, a setext heading or a table
module _ (names : Names) where
  pub text_block_whole : {d : Document} {start : ℕ} {marker : Option Item} {old new : Forest Item} {next : ℕ} → Extends d.names names
      → AddsText d start marker old new next → IsCharBoundary d.text start → IfSome marker (λ x. is_task_marker x.body ≡ true)
      → AreNamed names old.nodes → HasWholeTables names old → HasWholeTables d.names new
  text_block_whole {d = d} {start = start} {marker = marker} {old = old} {new = new} {next = next} more a boundary mark =
      let q : Place = line_place start (drop start d.text) in
      let here : start ≡ offset q = omega arith in
      (text_kept d names old new q marker next (subst (λ (k : ℕ). AddsText d k marker old new next) here a) (line_is_place d.text start boundary) mark
      more).1

-- a block is added that is no part of a table
silent_first : (items : List (ℕ × Item)) → AreEachNode ShowsNothing items → IsSilentFirst items
silent_first [] shows = tt
silent_first (x ∷ items) shows = λ may. shows

pub silent_whole : (names before : Names) (old new : Forest Item) (items : List (ℕ × Item)) → Extends names before → new ≡ added old items
    → AreEachNode ShowsNothing items → AreNamed before old.nodes → HasWholeTables before old → HasWholeTables names new
silent_whole names before old new items more is shows named h =
    block_whole names before old new items more is (whole_none names items (none_shown names items shows)) (silent_first items shows) named
    (kept_of before old h)
