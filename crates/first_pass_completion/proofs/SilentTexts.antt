-- A paragraph that opens, with what is below it, has no part of a table; a definition list may take it in.
use Rattle.std.proofs.Common.{◌≡◌, ℕ, ◌+◌, true, List, [], ◌∷◌, ◌++◌, length, drop, refl, arith}
use Rattle.first_pass_grammar.proofs.Common.{Item, ItemBody, at_depth, Place, is_paragraph_body, begins_paragraph, LeafBlock, Block, Document, Continues}
use Rattle.first_pass_grammar.proofs.Common.{Level, OpensLeaf, IsFirst, AreEachNode, ShowsNothing, SilentFrom}
use Rattle.first_pass_items.specs.declared.item.ItemBody.TheVariants.{Paragraph as ParagraphBody}
use Rattle.first_pass_completion.proofs.FlatBlocks.{HoldsOfMarker, opened_holds}
use Rattle.first_pass_grammar.proofs.Each.EachCell.{deeper_nodes}
use Rattle.first_pass_grammar.proofs.WholeTables.TableMarks.{tokens_show}

paragraph_silent : (b : ItemBody) → is_paragraph_body b ≡ true → ShowsNothing b
paragraph_silent ParagraphBody h = λ names depth start end. refl
paragraph_silent b h = cc

-- if the items after the first are no part of a table, none is
pub text_silent : (items : List (ℕ × Item)) → begins_paragraph items ≡ true → (begins_paragraph items ≡ true → AreEachNode ShowsNothing (drop 1 items))
    → AreEachNode ShowsNothing items
text_silent [] begins h = cc
text_silent (x ∷ items) begins h = (paragraph_silent x.1.body begins, h begins)

-- the items of a first block that begins with a paragraph
pub opened_silent : (d : Document) (l : Level) (from : Continues) (lines : List Place) (b : LeafBlock) (there : Continues) (left : List Place)
    → HoldsOfMarker ShowsNothing from → IsFirst d l from lines (OpensLeaf (Block b) there left) → begins_paragraph b.items ≡ true
    → AreEachNode ShowsNothing b.items
opened_silent d l from lines b there left mark first begins =
    text_silent b.items begins (opened_holds ShowsNothing d (tokens_show d.names.texts) l from lines b there left mark first).0.tokens

-- nodes that are no part of a table, after others
pub silent_past : (nodes : List (ℕ × Item)) (n : ℕ × Item) (more : List (ℕ × Item)) → AreEachNode ShowsNothing (n ∷ more)
    → SilentFrom (nodes ++ n ∷ more) (length nodes)
silent_past [] n more h = h
silent_past (m ∷ nodes) n more h = silent_past nodes n more h

-- a paragraph added at a depth
pub silent_added : (nodes : List (ℕ × Item)) (depth : ℕ) (items : List (ℕ × Item)) → begins_paragraph items ≡ true → AreEachNode ShowsNothing items
    → SilentFrom (nodes ++ at_depth depth items) (length nodes)
silent_added nodes depth [] begins h = cc
silent_added nodes depth (x ∷ items) begins h = grind (arith, silent_past, deeper_nodes)
