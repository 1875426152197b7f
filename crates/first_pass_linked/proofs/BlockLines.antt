-- The lines of nodes, node by node.
use Rattle.std.proofs.Common.{◌≡◌, ◌≤◌, ℕ, zero, suc, List, [], ◌∷◌, ◌++◌, length, IsUtf8, true, false, take, drop, nat_lt, inl, refl, sym, ap, subst, ◌∙◌}
use Rattle.std.proofs.Common.{arith}
use Rattle.std.proofs.Common.{append_assoc, append-nil}
use Rattle.std.specs.List.{prefix_len}
use Rattle.first_pass_items.specs.declared.item.Item.{Item}
use Rattle.first_pass_content.specs.Chains.{AreChains, IsChain, chain_after, has_chain}
use Rattle.first_pass_content.specs.Content.{ContentByte, bytes_of, content}
use Rattle.first_pass_content.specs.Tokens.{placed_tokens}
use Rattle.first_pass_grammar.specs.LinkTables.{LinkEntry}
use Rattle.first_pass_inline.specs.declared.mark.Mark.{Mark}
use Rattle.first_pass_inline.specs.Inlines.{chain_of}
use Rattle.first_pass_inline.specs.Labels.{TextLabels}
use Rattle.first_pass_inline.specs.Marks.{AreMarks, first_place}
use Rattle.first_pass_inline.specs.Readable.{AreReadable}
use Rattle.first_pass_inline.specs.Sequences.{Ends}
use Rattle.first_pass_inline.proofs.Blocks.{chain_here, chain_utf8}
use Rattle.first_pass_inline.proofs.Found.{marked}
use Rattle.first_pass_inline.proofs.Readable.{marks_readable}
use Rattle.first_pass_inline.proofs.Steps.{at_end}
use Rattle.first_pass_inline.proofs.Unique.{only_marks}
use Rattle.first_pass_reports.specs.ReferenceLines.{node_lines}
use Rattle.first_pass_linked.specs.Forms.{LineForms, footnote_line, mark_lines}
use Rattle.first_pass_linked.specs.LinkLines.{AddsFirst, AreNodeLines, Source, block_lines, links_of}

-- the chains of the nodes from an index on
pub chains_from : (text : List ℕ) (i : ℕ) (nodes : List (ℕ × Item)) → AreChains text nodes → AreChains text (drop i nodes)
chains_from text zero nodes h = h
chains_from text (suc i) [] h = h
chains_from text (suc i) (n ∷ nodes) h = chains_from text i nodes h.1

no_tokens : (text : List ℕ) (labels : TextLabels) → length (chain_of text [] labels).tokens ≤ first_place.index
unfolding placed_tokens
no_tokens text labels = omega arith

-- a chain without tokens has no marks
no_marks : (text : List ℕ) (labels : TextLabels) (ms : List Mark) → AreMarks (chain_of text [] labels) ms → ms ≡ []
no_marks text labels ms h =
    let c = chain_of text [] labels in
    only_marks c ms [] h
    record { sequence = Ends; last = first_place; is_sequence = (refl, inl (at_end c first_place (no_tokens text labels))); of_sequence = refl }

-- the tokens below a node are a chain in order
pub chain_ready : (text : List ℕ) (n : ℕ × Item) (nodes all tokens : List (ℕ × Item)) → all ≡ n ∷ nodes → has_chain n.1.body ≡ true → AreChains text all
    → tokens ≡ take (prefix_len (λ (m : ℕ × Item). nat_lt n.0 m.0) nodes) nodes → IsChain text tokens
chain_ready text n nodes all tokens there h are is = subst (IsChain text) (sym is) (chain_here text n nodes all there h are)

-- the marks of a chain in order can be read
pub marks_ready : (text : List ℕ) (tokens : List (ℕ × Item)) (labels : TextLabels) (made : List ContentByte) (listed ms : List Mark) → IsUtf8 text
    → IsChain text tokens → made ≡ content text tokens → listed ≡ ms → AreMarks (chain_of text tokens labels) ms → AreReadable (bytes_of made) listed
marks_ready text tokens labels made listed ms utf8 chain is same are =
    subst (AreReadable (bytes_of made)) (sym same)
    (subst (λ c. AreReadable (bytes_of c) ms) (sym is)
    (marks_readable (chain_of text tokens labels) ms (chain_utf8 text tokens (content text tokens) utf8 chain refl) are))

module _ (forms : LineForms) where
  -- the lines of the listed marks, from the content that was made, are added
  pub same_added : (mid new : List ℕ) (made given : List ContentByte) (links entries : List LinkEntry) (listed ms : List Mark)
      → new ≡ mid ++ mark_lines forms made links 0 listed → made ≡ given → links ≡ entries → listed ≡ ms → new ≡ mid ++ mark_lines forms given entries 0 ms
  same_added mid new made given links entries listed ms e f g h =
      e ∙ ap (λ c. mid ++ mark_lines forms c links 0 listed) f ∙ ap (λ l. mid ++ mark_lines forms given l 0 listed) g ∙ ap (λ l. mid ++ mark_lines forms given entries 0 l) h

-- no marks have no lines
no_lines : (forms : LineForms) (c : List ContentByte) (links : List LinkEntry) → mark_lines forms c links 0 [] ≡ []
unfolding mark_lines
no_lines forms c links = refl

module _ (s : Source) where
  -- the lines of the first of some nodes
  abbrev pub first_lines : List (ℕ × Item) → List ℕ
  first_lines [] = []
  first_lines (n ∷ nodes) = block_lines s n nodes (marked (chain_of s.text (chain_after n nodes) s.labels)).0

  -- nodes have lines
  pub lines_found : (nodes : List (ℕ × Item)) → (lines : List ℕ) × AreNodeLines s nodes lines
  lines_found [] = ([], refl)
  lines_found (n ∷ nodes) =
      let found = marked (chain_of s.text (chain_after n nodes) s.labels) in
      let more = lines_found nodes in
      (block_lines s n nodes found.0 ++ more.0, (found.0, more.0, found.1, more.1, refl))

  -- they have no others
  pub lines_are : (nodes : List (ℕ × Item)) (lines : List ℕ) → AreNodeLines s nodes lines → node_lines first_lines nodes ≡ lines
  unfolding node_lines
  lines_are [] lines h = sym h
  lines_are (n ∷ nodes) lines (ms, more, are, rest, is) =
      let c = chain_of s.text (chain_after n nodes) s.labels in
      let found = marked c in
      ap (λ l. block_lines s n nodes l ++ node_lines first_lines nodes) (only_marks c found.0 ms found.1 are)
      ∙ ap (λ l. block_lines s n nodes ms ++ l) (lines_are nodes more rest) ∙ sym is

  -- the lines of the first of the same nodes are added
  pub adds_same : (nodes same : List (ℕ × Item)) (old new : List ℕ) → nodes ≡ same → AddsFirst s nodes old new → AddsFirst s same old new
  adds_same nodes same old new is = subst (λ ns. AddsFirst s ns old new) is

  -- the lines of the first of some nodes are added, whatever marks its chain has
  pub added : (nodes : List (ℕ × Item)) (old new : List ℕ) → AddsFirst s nodes old new → new ≡ old ++ first_lines nodes
  added [] old new h = h ∙ sym (append-nil old)
  added (n ∷ nodes) old new h = let found = marked (chain_of s.text (chain_after n nodes) s.labels) in h found.0 found.1

  -- no node
  pub none_added : (nodes : List (ℕ × Item)) (old : List ℕ) → length nodes ≡ 0 → AddsFirst s nodes old old
  none_added [] old none = refl
  none_added (n ∷ nodes) old none = absurd (omega (arith, none))

  module _ (n : ℕ × Item) (nodes all : List (ℕ × Item)) (there : all ≡ n ∷ nodes) where
    -- a node without a chain
    pub without_chain : (old new : List ℕ) → has_chain n.1.body ≡ false → new ≡ old ++ footnote_line s.forms s.names n.1 → AddsFirst s all old new
    without_chain old new none e = subst (λ ns. AddsFirst s ns old new) (sym there) adds
      where
        empty : chain_after n nodes ≡ []
        empty = rw none refl

        adds : AddsFirst s (n ∷ nodes) old new
        adds ms are =
            let nothing : ms ≡ [] = no_marks s.text s.labels ms (subst (λ tokens. AreMarks (chain_of s.text tokens s.labels) ms) empty are) in
            let c = content s.text (chain_after n nodes) in
            let lines : mark_lines s.forms c (links_of s.labels) 0 ms ≡ [] = ap (mark_lines s.forms c (links_of s.labels) 0) nothing ∙ no_lines s.forms c (links_of s.labels) in
            e ∙ ap (λ l. old ++ l) (sym (append-nil (footnote_line s.forms s.names n.1)) ∙ ap (λ l. footnote_line s.forms s.names n.1 ++ l) (sym lines))

    -- a node with these tokens and marks
    pub with_chain : (tokens : List (ℕ × Item)) (found : List Mark) (old mid new : List ℕ) → tokens ≡ chain_after n nodes
        → AreMarks (chain_of s.text tokens s.labels) found → mid ≡ old ++ footnote_line s.forms s.names n.1
        → new ≡ mid ++ mark_lines s.forms (content s.text tokens) (links_of s.labels) 0 found → AddsFirst s all old new
    with_chain tokens found old mid new chain are e f = subst (λ ns. AddsFirst s ns old new) (sym there) adds
      where
        adds : AddsFirst s (n ∷ nodes) old new
        adds ms h =
            let c = chain_of s.text (chain_after n nodes) s.labels in
            let same : found ≡ ms = only_marks c found ms (subst (λ ts. AreMarks (chain_of s.text ts s.labels) found) chain are) h in
            f ∙ ap (λ l. l ++ mark_lines s.forms (content s.text tokens) (links_of s.labels) 0 found) e
            ∙ append_assoc old (footnote_line s.forms s.names n.1) (mark_lines s.forms (content s.text tokens) (links_of s.labels) 0 found)
            ∙ ap (λ ts. old ++ (footnote_line s.forms s.names n.1 ++ mark_lines s.forms (content s.text ts) (links_of s.labels) 0 found)) chain
            ∙ ap (λ l. old ++ (footnote_line s.forms s.names n.1 ++ mark_lines s.forms (content s.text (chain_after n nodes)) (links_of s.labels) 0 l)) same
