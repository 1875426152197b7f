-- Each place has a kind, and each kind opens something.
use Rattle.std.proofs.Common.{◌≡◌, ◌⊎◌, inl, inr, ℕ, suc, ◌+◌, ◌≤◌, Bool, true, false, true≢false, List, [], ◌∷◌, length, drop, Option, Some, None, refl, sym}
use Rattle.std.proofs.Common.{arith, nat_lt, if◌then◌else◌, IfSome, is_some}
use Rattle.first_pass_grammar.proofs.Common.{and_parts, less_than, Item, HeadingLevel, IndentCodeBlock, FencedCodeBlock, MetadataBlock, HtmlBlock, Options}
use Rattle.first_pass_grammar.proofs.Common.{begins, level_number, atx_level, Rest, indent, Place, offset, moved_columns, hrule_len, code_fence, BlockEnd}
use Rattle.first_pass_grammar.proofs.Common.{html_end, BeginsTagLine, Context, context, Names, Kind, Blank, IndentedCode, Metadata, HtmlToEnd, HtmlToBlank}
use Rattle.first_pass_grammar.proofs.Common.{ThematicBreak, AtxHeading, FencedCode, LinkDefinitions, all_taken, unindented, is_blank_rest, heading_or}
use Rattle.first_pass_grammar.proofs.Common.{rule_or, fence_or, metadata_at, begins_html_to_end, begins_html_to_blank, html_kind, first_kind, later_kind}
use Rattle.first_pass_grammar.proofs.Common.{IsKindBy, IsKind, document, block_with, heading_text_at, heading_block, rule_block, range_text, range_html}
use Rattle.first_pass_grammar.proofs.Common.{code_lines, without_blanks, last_end, metadata_kind, IsMetadata, info_string, IsFencedCode, until_end, IsHtml}
use Rattle.first_pass_grammar.proofs.Common.{LinkEntry, link_definition_at, kind_in, Beyond, Ended, FlowsOn, Extent, Block, leaf_block, flowing_block}
use Rattle.first_pass_grammar.proofs.Common.{BlankLine, OpensBeyond, OpensRun, Continues, Line, Blanks, AtPlace, only_blanks, Opening, OpensLeaf, OpensNode}
use Rattle.first_pass_grammar.proofs.Common.{OpensText, OpensExtent, OpensAs, OpensBlockAt, Leaf}
use Rattle.first_pass_html.proofs.TagDecisions.{tag_line_decided}
use Rattle.first_pass_grammar.specs.declared.kind.Container.{Container}
use Rattle.first_pass_grammar.specs.Kinds.{Paragraph, metadata_or}
use Rattle.first_pass_grammar.specs.CodeBlocks.{last_is_blank, IsIndentedCode, metadata_lines, fenced_lines}
use Rattle.first_pass_grammar.specs.HtmlBlocks.{until_blank, first_owing}
use Rattle.first_pass_exists.proofs.RunsFound.{run_found}
use Rattle.first_pass_grammar.specs.Blocks.{run_block}
use Rattle.first_pass_exists.proofs.Found.{Found, named_info, raw_lines_found, found_also, found_then, found_here}
use Rattle.first_pass_exists.proofs.LinesFound.{heading_found}
use Rattle.first_pass_exists.proofs.TablesFound.{text_found}
use Rattle.first_pass_grammar.proofs.Each.EachOpening.{LeavesLines, leaf_lines}
use Rattle.first_pass_grammar.proofs.Sequences.LinesLeft.{text_left}
use Rattle.first_pass_grammar.proofs.Sequences.PlacesKept.{IsKeptBelow, Anywhere, anywhere_kept}

-- an HTML block of types 1 to 5 has an end condition
abbrev HasEnd : List ℕ → Kind → Type 0
HasEnd bs HtmlToEnd = (until : BlockEnd) × (html_end (drop 1 bs) ≡ Some until)
HasEnd bs _ = Unit {0}

there_is : {A : Type 0} (o : Option A) → is_some o ≡ true → (x : A) × (o ≡ Some x)
there_is None h = absurd (true≢false (sym h))
there_is (Some x) h = (x, refl)

html_ends : (bs : List ℕ) (t u : Bool) → begins_html_to_end bs ≡ t
    → IfSome (if t then Some HtmlToEnd else (if u then Some HtmlToBlank else None)) (HasEnd bs)
html_ends bs true u h = there_is (html_end (drop 1 bs)) (and_parts (begins less_than bs) (is_some (html_end (drop 1 bs))) h).1
html_ends bs false true h = tt
html_ends bs false false h = tt

metadata_ends : (bs : List ℕ) (o : Option ℕ) → IfSome (metadata_or o (html_kind bs)) (HasEnd bs)
metadata_ends bs (Some byte) = tt
metadata_ends bs None = html_ends bs (begins_html_to_end bs) (begins_html_to_blank bs) refl

first_ends_by : (options : Options) (r : Rest) (t u : Bool)
    → (let bs : List ℕ = (all_taken r).left in
    IfSome (if t then Some Blank else (if u then metadata_or (metadata_at (indent r) options bs) (html_kind bs) else Some IndentedCode)) (HasEnd bs))
first_ends_by options r true u = tt
first_ends_by options r false true = metadata_ends (all_taken r).left (metadata_at (indent r) options (all_taken r).left)
first_ends_by options r false false = tt

first_ends : (options : Options) (r : Rest) → IfSome (first_kind options r) (HasEnd (all_taken r).left)
unfolding first_kind
first_ends options r = first_ends_by options r (is_blank_rest r) (nat_lt (indent r) 4)

last_ends : (bs : List ℕ) (rule : Option ℕ) (level : Option HeadingLevel) (fence : Option (ℕ × ℕ))
    → HasEnd bs (rule_or rule (heading_or level (fence_or fence Paragraph)))
last_ends bs (Some size) level fence = tt
last_ends bs None (Some level) fence = tt
last_ends bs None None (Some fence) = tt
last_ends bs None None None = tt

-- the kind of a place
last_found : (r : Rest) → ((n : ℕ) × BeginsTagLine (all_taken r).left n) ⊎ ((n : ℕ) → BeginsTagLine (all_taken r).left n → ⊥)
    → (k : Kind) × IsKindBy r None k × HasEnd (all_taken r).left k
last_found r (inl (n, tag)) = (HtmlToBlank, inl (n, tag, refl), tt)
last_found r (inr none) =
    let bs : List ℕ = (all_taken r).left in (later_kind bs, inr (none, refl), last_ends bs (hrule_len bs) (atx_level bs) (code_fence bs))

kind_by : (r : Rest) (o : Option Kind) → IfSome o (HasEnd (all_taken r).left) → (k : Kind) × IsKindBy r o k × HasEnd (all_taken r).left k
kind_by r (Some k) ends = (k, refl, ends)
kind_by r None ends = last_found r (tag_line_decided (all_taken r).left)

kind_found : (options : Options) (r : Rest) → (k : Kind) × IsKind options r k × HasEnd (all_taken r).left k
kind_found options r = kind_by r (first_kind options r) (first_ends options r)

-- the length of the remaining line at a place inside a line, plus one; 0 at the start of a line
abbrev pub reach : Continues → ℕ
reach Line = 0
reach (Blanks e) = 0
reach (AtPlace p may) = suc (length p.rest.left)

-- Where blocks continue, fewer lines are left, or as many and no more of the line before them.
abbrev pub IsShorter : ℕ → List Place → Continues → List Place → Type 0
IsShorter most lines there left = (length left ≤ length lines) × (length left ≡ length lines → reach there ≤ most)

-- After a leaf, and inside a container, less of the text is left. After a leaf, more than blank lines may follow.
abbrev pub Shrinks : ℕ → List Place → Opening → Type 0
Shrinks most lines (OpensLeaf leaf there left) = IsShorter most lines there left × (only_blanks there ≡ None)
Shrinks most lines (OpensNode head inside following) = IsShorter most lines inside following

-- If blocks continue at the next line after a leaf block, and no more lines are left than before, less of the text is left.
line_shrinks : (most : ℕ) (lines : List Place) (o : Opening) → LeavesLines (λ left. length left ≤ length lines) o → Shrinks most lines o
line_shrinks most lines (OpensLeaf leaf there left) (line, less) = ((less, λ same. rw line (omega arith)), rw line)
line_shrinks most lines (OpensNode head inside following) h = absurd h

-- something that opens, after which less of the text is left
abbrev pub Leads : Names → ℕ → List Place → (Names → Opening → Type 0) → Type 0
Leads names most lines Are = Found names Opening (λ later o. Shrinks most lines o × Are later o)

-- the items of blocks
code_found : (text : List ℕ) (options : Options) (names : Names) (p : Place) (further : List Place)
    → Found names (List (ℕ × Item)) (λ later items. IsIndentedCode (document text options later) p further items)
code_found text options names p further =
    let places : List Place = without_blanks (p ∷ further) in
    let lines = raw_lines_found range_text text options names [] places in
    found_also lines (block_with (offset p) (last_end (offset p) places) IndentCodeBlock lines.value)
    (λ later are. record { chain = lines.value; lines = are; items_are = refl })

metadata_found : (text : List ℕ) (options : Options) (names : Names) (start byte : ℕ) (places : List Place) («end» : ℕ)
    → Found names (List (ℕ × Item)) (λ later items. IsMetadata (document text options later) start byte places «end» items)
metadata_found text options names start byte places e =
    let lines = raw_lines_found range_text text options names [] places in
    found_also lines (block_with start e (MetadataBlock (metadata_kind byte)) lines.value)
    (λ later are. record { chain = lines.value; lines = are; items_are = refl })

html_found : (text : List ℕ) (options : Options) (names : Names) (start columns : ℕ) (places : List Place) («end» : ℕ)
    → Found names (List (ℕ × Item)) (λ later items. IsHtml (document text options later) start columns places «end» items)
html_found text options names start columns places e =
    let lines = raw_lines_found range_html text options names [] (first_owing columns places) in
    found_also lines (block_with start e HtmlBlock lines.value) (λ later are. record { chain = lines.value; lines = are; items_are = refl })

fence_found : (text : List ℕ) (options : Options) (names : Names) (start count : ℕ) (places : List Place) («end» : ℕ)
    → Found names (List (ℕ × Item)) (λ later items. IsFencedCode (document text options later) start count places «end» items)
fence_found text options names start count places e =
    let info = named_info names (info_string (drop (start + count) text)) in
    let lines = raw_lines_found range_text text options info.more [] places in
    found_also (found_then info lines) (block_with start e (FencedCodeBlock info.value) lines.value)
    (λ later are. record { chain = lines.value; info = info.value; names = are.0; lines = are.1; items_are = refl })

-- an opening that is found
abbrev pub FoundOpening : Names → (Names → Opening → Type 0) → Type 0
FoundOpening names Are = Found names Opening Are

opens_extent : (names : Names) (kind : Kind) (p : Place) (e : Extent) (Are : Names → List (ℕ × Item) → Type 0)
    → Found names (List (ℕ × Item)) Are → FoundOpening names (λ later o. OpensExtent kind p e (Are later) o)
opens_extent names kind p e Are items =
    found_also items (OpensLeaf (leaf_block kind p items.value false) Line e.left) (λ later are. (items.value, are, refl))

opens_html : (text : List ℕ) (options : Options) (names : Names) (kind : Kind) (p : Place) (e : Extent)
    → FoundOpening names (λ later o. OpensExtent kind p e (IsHtml (document text options later) (offset (unindented p)) (indent p.rest) e.places e.«end») o)
opens_html text options names kind p e =
    let start : ℕ = offset (unindented p) in
    opens_extent names kind p e (λ later. IsHtml (document text options later) start (indent p.rest) e.places e.«end»)
    (html_found text options names start (indent p.rest) e.places e.«end»)

opens_text : (text : List ℕ) (options : Options) (names : Names) (path : List Container) (p : Place) (lines : List Place) (marker : Option Item)
    → FoundOpening names (λ later o. OpensText (document text options later) path p lines marker o)
unfolding OpensText
opens_text text options names path p lines marker =
    let found = text_found names text options path (unindented p) marker lines in
    found_also found (OpensLeaf (leaf_block Paragraph p found.value.items false) Line found.value.left) (λ later is. (found.value, is, refl))

opens_beyond : (text : List ℕ) (options : Options) (names : Names) (path : List Container) (definitions : List LinkEntry) (beyond : Beyond)
    → FoundOpening names (λ later o. OpensBeyond (document text options later) path definitions beyond o)
opens_beyond text options names path definitions (Ended q left) = found_here (OpensLeaf (Block (run_block q definitions)) Line left) (λ later. refl)
opens_beyond text options names path definitions (FlowsOn q further) =
    let found = text_found names text options path q None further in
    found_also found (OpensLeaf (Block (flowing_block q definitions found.value.items)) Line found.value.left) (λ later is. (found.value, is, refl))

-- what each kind opens
opens_kind : (text : List ℕ) (options : Options) (names : Names) (path : List Container) (p : Place) (lines : List Place) (kind : Kind)
    → HasEnd (all_taken p.rest).left kind → FoundOpening names (λ later o. OpensAs (document text options later) path p lines kind o)
unfolding OpensAs OpensRun
opens_kind text options names path p lines Blank ends = found_here (OpensLeaf BlankLine Line lines) (λ later. refl)
opens_kind text options names path p lines IndentedCode ends =
    let items = code_found text options names (moved_columns 4 p) (code_lines path lines).0 in
    let block : Leaf = leaf_block IndentedCode p items.value (last_is_blank (code_lines path lines).0) in
    found_also items (OpensLeaf block Line (code_lines path lines).1) (λ later are. (items.value, are, refl))
opens_kind text options names path p lines (Metadata byte) ends =
    let start : ℕ = offset (unindented p) in
    let e : Extent = metadata_lines (length text) path byte lines in
    opens_extent names (Metadata byte) p e (λ later. IsMetadata (document text options later) start byte e.places e.«end»)
    (metadata_found text options names start byte e.places e.«end»)
opens_kind text options names path p lines HtmlToEnd (mark, ends) =
    let opens = opens_html text options names HtmlToEnd p (until_end (length text) path mark (unindented p) lines) in
    found_also opens opens.value (λ later is. (mark, ends, is))
opens_kind text options names path p lines HtmlToBlank ends =
    opens_html text options names HtmlToBlank p (until_blank (length text) path (unindented p) lines)
opens_kind text options names path p lines (ThematicBreak size) ends =
    found_here (OpensLeaf (leaf_block (ThematicBreak size) p (rule_block (offset (unindented p)) size) false) Line lines) (λ later. refl)
opens_kind text options names path p lines (AtxHeading level) ends =
    let found = heading_found names text options (heading_text_at text (offset (unindented p)) (level_number level)) in
    let h = found.value in
    found_also found (OpensLeaf (leaf_block (AtxHeading level) p (heading_block (offset (unindented p)) h.1.1 level h.0 h.1.0) false) Line lines)
    (λ later is. (h.0, h.1.0, h.1.1, is, refl))
opens_kind text options names path p lines (FencedCode count byte) ends =
    let start : ℕ = offset (unindented p) in
    let e : Extent = fenced_lines (length text) path (indent p.rest) byte count lines in
    opens_extent names (FencedCode count byte) p e (λ later. IsFencedCode (document text options later) start count e.places e.«end»)
    (fence_found text options names start count e.places e.«end»)
opens_kind text options names path p lines LinkDefinitions ends =
    let run = run_found (context options path) (unindented p) lines in
    let opens = opens_beyond text options names path run.definitions run.beyond in
    found_also opens opens.value (λ later is. (run.definitions, run.beyond, run.run, is))
opens_kind text options names path p lines Paragraph ends = opens_text text options names path p lines None

-- no HTML block begins where a text would, so no end condition is needed
ends_text : (bs : List ℕ) (t : Bool) → HasEnd bs (if t then LinkDefinitions else Paragraph)
ends_text bs true = tt
ends_text bs false = tt

ends_in : (c : Context) (p : Place) (bs : List ℕ) (kind : Kind) → HasEnd bs kind → HasEnd bs (kind_in c p kind)
ends_in c p bs Paragraph ends = ends_text bs (is_some (link_definition_at c (unindented p)))
ends_in c p bs kind ends = ends

-- what opens where no container may begin, and a text there
module _ (text : List ℕ) (options : Options) (names : Names) (most : ℕ) (path : List Container) (p : Place) (lines : List Place) where
  abbrev NoMore : List Place → Type 0
  NoMore left = length left ≤ length lines

  fewer : IsKeptBelow NoMore
  fewer line left h = omega arith

  kind_leads : (kind : Kind) → HasEnd (all_taken p.rest).left kind
      → Leads names most lines (λ later o. OpensAs (document text options later) path p lines kind o)
  kind_leads kind ends =
      let f = opens_kind text options names path p lines kind ends in
      found_also f f.value (λ later opens. (
        line_shrinks most lines f.value (leaf_lines (document text options later) Anywhere anywhere_kept NoMore (λ line left h. tt) fewer path p lines kind
            f.value tt (omega arith) opens),
        opens,
      ))

  pub leads_text : (marker : Option Item) → Leads names most lines (λ later o. OpensText (document text options later) path p lines marker o)
  unfolding OpensText
  leads_text marker =
      let found = text_found names text options path (unindented p) marker lines in
      found_also found (OpensLeaf (leaf_block Paragraph p found.value.items false) Line found.value.left)
      (λ later is. (
        ((text_left NoMore fewer (document text options later) path (unindented p) marker lines found.value (omega arith) is, λ same. omega arith), refl),
        (found.value, is, refl),
      ))

  pub leads_block : Leads names most lines (λ later o. OpensBlockAt (document text options later) path p lines o)
  leads_block =
      let kind = kind_found options p.rest in
      let f = kind_leads (kind_in (context options path) p kind.0) (ends_in (context options path) p (all_taken p.rest).left kind.0 kind.2) in
      found_also f f.value (λ later h. (h.0, (kind.0, kind.1, h.1)))
