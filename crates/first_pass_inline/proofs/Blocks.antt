-- The chains of the blocks of a text, one after the other.
use Rattle.std.proofs.Common.{◌≡◌, ℕ, ◌+◌, Bool, true, false, List, [], ◌∷◌, ◌++◌, take, nat_lt, sym, ap, subst, ◌∙◌, append_assoc, append-nil, All}
use Rattle.std.proofs.Common.{IsUtf8, if◌then◌else◌}
use Rattle.std.specs.List.{AllZip, prefix_len}
use Rattle.first_pass_items.specs.declared.item.Item.{Item}
use Rattle.first_pass_content.specs.Chains.{AreChains, IsChain, chain_after, has_chain}
use Rattle.first_pass_content.specs.Content.{ContentByte, bytes_of, content}
use Rattle.first_pass_content.specs.Tokens.{IsWholeToken, placed_tokens}
use Rattle.first_pass_content.specs.declared.tokens.PlacedToken.{PlacedToken}
use Rattle.first_pass_content.proofs.ChainPieces.{content_piece}
use Rattle.first_pass_content.proofs.WholeTokens.{whole_tokens}
use Rattle.first_pass_inline.specs.Inlines.{IsOfBlock, chain_of, chain_with, chains_from}
use Rattle.first_pass_inline.specs.Labels.{TextLabels}
use Rattle.first_pass_inline.specs.Look.{AreWhole, Chain}
use Rattle.first_pass_inline.specs.Marks.{AreMarks}
use Rattle.first_pass_inline.specs.declared.inlines.BlockInlines.{BlockInlines}

-- the content of a chain in order is UTF-8, and its tokens are whole
pub chain_utf8 : (text : List ℕ) (tokens : List (ℕ × Item)) (made : List ContentByte) → IsUtf8 text → IsChain text tokens → made ≡ content text tokens
    → IsUtf8 (bytes_of made)
chain_utf8 text tokens made u (from, to, is) e = subst (λ c. IsUtf8 (bytes_of c)) (sym e) ((content_piece text from to tokens is).utf8 u)

pub chain_whole : (text : List ℕ) (tokens : List (ℕ × Item)) (made : List ContentByte) (placed : List PlacedToken) → IsUtf8 text → IsChain text tokens
    → made ≡ content text tokens → placed ≡ placed_tokens text 0 tokens → All (IsWholeToken (bytes_of made)) placed
chain_whole text tokens made placed u (from, to, is) e f =
    subst (λ c. All (IsWholeToken (bytes_of c)) placed) (sym e)
    (subst (λ l. All (IsWholeToken (bytes_of (content text tokens))) l) (sym f) (whole_tokens text u from to tokens is))

-- the chain with these bytes is that with this content
pub same_chain : (c : Chain) (nodes : List (ℕ × Item)) (bytes : List ℕ) (made : List ContentByte) (tokens : List PlacedToken) (labels : TextLabels)
    → c ≡ record {
      nodes = nodes;
      tokens = tokens;
      bytes = bytes;
      options = labels.options;
      definitions = labels.definitions;
      footnotes = labels.footnotes;
    } → bytes ≡ bytes_of made → c ≡ chain_with nodes made tokens labels
same_chain c nodes bytes made tokens labels e f = e ∙ ap (λ (bs : List ℕ). record {
  nodes = nodes;
  tokens = tokens;
  bytes = bs;
  options = labels.options;
  definitions = labels.definitions;
  footnotes = labels.footnotes;
}) f

pub are_whole : (c : Chain) (nodes : List (ℕ × Item)) (made : List ContentByte) (tokens : List PlacedToken) (labels : TextLabels)
    → c ≡ chain_with nodes made tokens labels → All (IsWholeToken (bytes_of made)) tokens → AreWhole c
are_whole c nodes made tokens labels e w = subst AreWhole (sym e) w

pub same_chain_of : (text : List ℕ) (tokens : List (ℕ × Item)) (made : List ContentByte) (placed : List PlacedToken) (labels : TextLabels)
    → made ≡ content text tokens → placed ≡ placed_tokens text 0 tokens → chain_with tokens made placed labels ≡ chain_of text tokens labels
same_chain_of text tokens made placed labels e f =
    ap (λ c. chain_with tokens c placed labels) e ∙ ap (λ ts. chain_with tokens (content text tokens) ts labels) f

-- the chain of the first of some nodes, and those of the others
pub chain_is : (n : ℕ × Item) (nodes : List (ℕ × Item)) → has_chain n.1.body ≡ true
    → chain_after n nodes ≡ take (prefix_len (λ (m : ℕ × Item). nat_lt n.0 m.0) nodes) nodes
chain_is n nodes h = ap (λ b. if b then take (prefix_len (λ (m : ℕ × Item). nat_lt n.0 m.0) nodes) nodes else []) h

module _ (text : List ℕ) (n : ℕ × Item) (nodes rest : List (ℕ × Item)) (there : rest ≡ n ∷ nodes) where
  pub chain_here : has_chain n.1.body ≡ true → AreChains text rest → IsChain text (take (prefix_len (λ (m : ℕ × Item). nat_lt n.0 m.0) nodes) nodes)
  chain_here h are = subst (IsChain text) (chain_is n nodes h) (subst (AreChains text) there are).0

  pub chains_later : AreChains text rest → AreChains text nodes
  chains_later are = (subst (AreChains text) there are).1

-- what was found in a chain is that of its block
pub of_block : (text : List ℕ) (labels : TextLabels) (tokens : List (ℕ × Item)) (block : ℕ × List (ℕ × Item)) (x : BlockInlines) → tokens ≡ block.1
    → x.block ≡ block.0 → x.inlines.content ≡ content text tokens → AreMarks (chain_of text tokens labels) x.inlines.marks.items
    → IsOfBlock text labels block x
of_block text labels tokens block x e at made found = record {
  block_is = at;
  content_is = made ∙ ap (content text) e;
  are_marks = subst (λ l. AreMarks (chain_of text l labels) x.inlines.marks.items) e found;
}

-- the inlines so far, with those of the blocks that are left, are those of all blocks
abbrev pub AreSoFar : List ℕ → TextLabels → ℕ → List (ℕ × Item) → List BlockInlines → List (ℕ × List (ℕ × Item)) → Type 0
AreSoFar text labels block rest found all =
    (more : List BlockInlines) → AllZip (IsOfBlock text labels) (chains_from block rest) more → AllZip (IsOfBlock text labels) all (found ++ more)

pub none_so_far : (text : List ℕ) (labels : TextLabels) (nodes rest : List (ℕ × Item)) (found : List BlockInlines) → rest ≡ nodes → found ≡ []
    → AreSoFar text labels 0 rest found (chains_from 0 nodes)
none_so_far text labels nodes rest found there none more fits =
    subst (λ l. AllZip (IsOfBlock text labels) (chains_from 0 nodes) (l ++ more)) (sym none)
    (subst (λ l. AllZip (IsOfBlock text labels) (chains_from 0 l) more) there fits)

chains_more : (some : Bool) (block : ℕ) (n : ℕ × Item) (nodes : List (ℕ × Item)) → has_chain n.1.body ≡ some
    → chains_from block (n ∷ nodes) ≡ (if some then (block, chain_after n nodes) ∷ chains_from (block + 1) nodes else chains_from (block + 1) nodes)
unfolding chains_from
chains_more some block n nodes h =
    ap (λ b. if b then (block, chain_after n nodes) ∷ chains_from (block + 1) nodes else chains_from (block + 1) nodes) h

module _ (text : List ℕ) (labels : TextLabels) (block : ℕ) (n : ℕ × Item) (nodes rest : List (ℕ × Item)) (there : rest ≡ n ∷ nodes)
    (found : List BlockInlines) (all : List (ℕ × List (ℕ × Item))) (are : AreSoFar text labels block rest found all) where
  pub one_more : has_chain n.1.body ≡ true → (x : BlockInlines) → IsOfBlock text labels (block, chain_after n nodes) x
      → AreSoFar text labels (block + 1) nodes (found ++ x ∷ []) all
  one_more h x is more fits =
      subst (AllZip (IsOfBlock text labels) all) (sym (append_assoc found (x ∷ []) more))
      (are (x ∷ more) (subst (λ l. AllZip (IsOfBlock text labels) l (x ∷ more)) (sym (ap (chains_from block) there ∙ chains_more true block n nodes h))
      (is, fits)))

  pub no_more : has_chain n.1.body ≡ false → AreSoFar text labels (block + 1) nodes found all
  no_more h more fits =
      are more (subst (λ l. AllZip (IsOfBlock text labels) l more) (sym (ap (chains_from block) there ∙ chains_more false block n nodes h)) fits)

pub all_found : (text : List ℕ) (labels : TextLabels) (block : ℕ) (rest : List (ℕ × Item)) (found : List BlockInlines) (all : List (ℕ × List (ℕ × Item)))
    → rest ≡ [] → AreSoFar text labels block rest found all → AllZip (IsOfBlock text labels) all found
unfolding chains_from
all_found text labels block rest found all none are =
    subst (AllZip (IsOfBlock text labels) all) (append-nil found)
    (are [] (subst (λ l. AllZip (IsOfBlock text labels) (chains_from block l) []) (sym none) tt))
