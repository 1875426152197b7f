-- Nodes in which a paragraph becomes the title of a definition list, and nodes of lists that are closed.
use Rattle.std.proofs.Common.{◌≡◌, ℕ, zero, suc, ◌+◌, ◌-◌, ◌<◌, ◌==◌, Bool, true, false, not, List, ◌∷◌, ◌++◌, length, map, drop, refl, ap, ◌∙◌, [], arith}
use Rattle.std.proofs.Common.{if◌then◌else◌}
use Rattle.first_pass_grammar.proofs.Common.{length-map, Item, ItemBody, DefinitionList, DefinitionListTitle, MaybeDefinitionListTitle, modify, map_from}
use Rattle.first_pass_grammar.proofs.Common.{deeper, shallower, at_depth, tight_body, tightened, modify-at, is_paragraph_body, begins_paragraph, node_of}
use Rattle.first_pass_grammar.proofs.Common.{list_flags, as_title, flagged, with_title, title_taken, title_left, list_closed, length-modify}
use Rattle.first_pass_items.specs.declared.item.ItemBody.TheVariants.{List as ListBody, Paragraph as ParagraphBody}
use Rattle.first_pass_completion.proofs.FlatBlocks.{NoParagraph, BeginsAt}
use Rattle.first_pass_grammar.proofs.Sequences.Tightening.{list_closed-append, length-closed}

-- the items of a paragraph that may become the next title of a definition list
abbrev pub as_possible : List (ℕ × Item) → List (ℕ × Item)
as_possible [] = []
as_possible (x ∷ items) = (x.0, record x.1 { body = MaybeDefinitionListTitle }) ∷ items

-- the nodes after the list at a place is marked as loose or tight
unfoldable pub reflagged : List (ℕ × Item) → ℕ → Bool → List (ℕ × Item)
reflagged nodes place loose = modify nodes place (λ x. record x { body = flagged loose x.body })

-- In a tight list only paragraphs change.
pub not_tight : (b : ItemBody) → is_paragraph_body b ≡ false → tight_body b ≡ b
not_tight ParagraphBody h = cc
not_tight b h = refl

pub kept_by : (t : Bool) (x : Item) → is_paragraph_body x.body ≡ false
    → (if t then record { start = x.start; «end» = x.«end»; body = tight_body x.body } else x) ≡ x
kept_by true x h = ap (λ z. node_of x.start x.«end» z) (not_tight x.body h)
kept_by false x h = refl

pub kept_node : (d : ℕ) (n : ℕ × Item) → is_paragraph_body n.1.body ≡ false → tightened d n ≡ n
kept_node d n h = ap (λ (z : Item). let r : ℕ × Item = (n.0, z) in r) (kept_by (n.0 == d) n.1 h)

kept_nodes : (d : ℕ) (nodes : List (ℕ × Item)) → NoParagraph nodes → map (tightened d) nodes ≡ nodes
kept_nodes d [] h = refl
kept_nodes d (n ∷ nodes) h = let a = kept_node d n h.0 in let b = kept_nodes d nodes h.1 in cc

pub at_depth-flat : (k : ℕ) (items : List (ℕ × Item)) → NoParagraph items → NoParagraph (at_depth k items)
at_depth-flat k [] h = tt
at_depth-flat k (x ∷ items) h = (h.0, at_depth-flat k items h.1)

-- nodes one deeper, and one less deep
deeper_at : (k : ℕ) (items : List (ℕ × Item)) → map deeper (at_depth k items) ≡ at_depth (suc k) items
deeper_at k [] = refl
deeper_at k (x ∷ items) = let a : (k + x.0) + 1 ≡ suc k + x.0 = omega arith in let b = deeper_at k items in cc

pub shallower_at : (k : ℕ) (items : List (ℕ × Item)) → map shallower (at_depth (suc k) items) ≡ at_depth k items
shallower_at k [] = refl
shallower_at k (x ∷ items) = let a : (suc k + x.0) - 1 ≡ k + x.0 = omega arith in let b = shallower_at k items in cc

map_from-mid : (g : ℕ × Item → ℕ × Item) (nodes more : List (ℕ × Item)) → map_from g (length nodes) (nodes ++ more) ≡ nodes ++ map g more
map_from-mid g [] more = refl
map_from-mid g (n ∷ nodes) more = ap (λ z. n ∷ z) (map_from-mid g nodes more)

-- a list that is closed, whose node is the first of these; none of these is a paragraph
pub closed-mid : (nodes more : List (ℕ × Item)) (x : ℕ × Item) (d : ℕ) (loose : Bool) (e : ℕ) → NoParagraph (x ∷ more)
    → list_closed (nodes ++ x ∷ more) (length nodes) d loose e ≡ nodes ++ (x.0, node_of x.1.start e (flagged loose x.1.body)) ∷ more
unfolding list_closed
closed-mid nodes more x d true e h = modify-at nodes more x (length nodes) _ refl
closed-mid nodes more x d false e h = grind (arith, map_from-mid, kept_nodes, modify-at)

-- a list that is closed, with more nodes, none of which is a paragraph
kept_if : (d : ℕ) (loose : Bool) (more : List (ℕ × Item)) → NoParagraph more → (if loose then more else map (tightened d) more) ≡ more
kept_if d true more h = refl
kept_if d false more h = kept_nodes d more h

pub closed-kept : (nodes more : List (ℕ × Item)) (o d : ℕ) (loose : Bool) (e : ℕ) → o < length nodes → NoParagraph more
    → list_closed (nodes ++ more) o d loose e ≡ list_closed nodes o d loose e ++ more
closed-kept nodes more o d loose e h flat = grind (arith, list_closed-append, kept_if)

with_title-mid : (nodes more : List (ℕ × Item)) (x : ℕ × Item)
    → with_title (nodes ++ x ∷ more) (length nodes)
    ≡ nodes ++ (x.0, record x.1 { body = DefinitionList (list_flags true) }) ∷ (suc x.0, record x.1 { body = DefinitionListTitle }) ∷ map deeper more
unfolding with_title
with_title-mid [] more x = refl
with_title-mid (n ∷ nodes) more x = ap (λ z. n ∷ z) (with_title-mid nodes more x)

pub length-with_title : (nodes : List (ℕ × Item)) (place : ℕ) → place < length nodes → length (with_title nodes place) ≡ suc (length nodes)
unfolding with_title
length-with_title [] place h = absurd (omega arith)
length-with_title (n ∷ nodes) zero h = ap (λ z. suc (suc z)) (length-map nodes deeper)
length-with_title (n ∷ nodes) (suc place) h = ap suc (length-with_title nodes place (omega arith))

pub length-taken : (nodes : List (ℕ × Item)) (place : ℕ) → length (title_taken nodes place) ≡ length nodes
unfolding title_taken
length-taken nodes place = length-modify nodes place _

length-from : (g : ℕ × Item → ℕ × Item) (nodes : List (ℕ × Item)) (place : ℕ) → length (map_from g place nodes) ≡ length nodes
length-from g nodes zero = length-map nodes g
length-from g [] (suc place) = refl
length-from g (n ∷ nodes) (suc place) = ap suc (length-from g nodes place)

pub length-left : (nodes : List (ℕ × Item)) (place : ℕ) → length (title_left nodes place) ≡ length nodes
unfolding title_left
length-left nodes place = length-from shallower (modify nodes place _) place ∙ length-modify nodes place _

-- a paragraph that becomes the title of a definition list, which is then closed
pub titled_closed : (k : ℕ) (nodes items : List (ℕ × Item)) (start d : ℕ) (loose : Bool) (e : ℕ)
    → begins_paragraph items ≡ true → NoParagraph (drop 1 items) → BeginsAt start items
    → list_closed (with_title (nodes ++ at_depth k items) (length nodes)) (length nodes) d loose e
    ≡ nodes ++ (k, node_of start e (DefinitionList (list_flags (not loose)))) ∷ at_depth (suc k) (as_title items)
titled_closed k nodes [] start d loose e is flat own = absurd own
titled_closed k nodes (x ∷ items) start d loose e is flat own = grind (arith, deeper_at, with_title-mid, closed-mid, at_depth-flat)

-- a possible title that becomes a title, or a paragraph after the list
pub possible-flat : (k : ℕ) (items : List (ℕ × Item)) → NoParagraph (drop 1 items) → NoParagraph (at_depth k (as_possible items))
possible-flat k [] h = tt
possible-flat k (x ∷ items) h = (refl, at_depth-flat k items h)

pub title-flat : (k : ℕ) (items : List (ℕ × Item)) → NoParagraph (drop 1 items) → NoParagraph (at_depth k (as_title items))
title-flat k [] h = tt
title-flat k (x ∷ items) h = (refl, at_depth-flat k items h)

pub taken-mid : (k : ℕ) (nodes items : List (ℕ × Item)) → begins_paragraph items ≡ true
    → title_taken (nodes ++ at_depth k (as_possible items)) (length nodes) ≡ nodes ++ at_depth k (as_title items)
unfolding title_taken
taken-mid k nodes [] is = cc
taken-mid k nodes (x ∷ items) is = modify-at nodes (at_depth k items) (k + x.0, record x.1 { body = MaybeDefinitionListTitle }) (length nodes) _ refl

paragraph_is : (b : ItemBody) → is_paragraph_body b ≡ true → ParagraphBody ≡ b
paragraph_is ParagraphBody h = refl
paragraph_is b h = cc

left-mid : (k : ℕ) (nodes items : List (ℕ × Item)) → begins_paragraph items ≡ true
    → title_left (nodes ++ at_depth (suc k) (as_possible items)) (length nodes) ≡ nodes ++ at_depth k items
unfolding title_left
left-mid k nodes [] is = cc
left-mid k nodes (x ∷ items) is = grind (arith, paragraph_is, modify-at, map_from-mid, shallower_at)

-- the same after the list before it is closed
pub left-closed : (k : ℕ) (nodes items : List (ℕ × Item)) (place d : ℕ) (loose : Bool) (e : ℕ)
    → begins_paragraph items ≡ true → NoParagraph (drop 1 items) → place < length nodes
    → title_left (list_closed (nodes ++ at_depth (suc k) (as_possible items)) place d loose e) (length nodes)
    ≡ list_closed nodes place d loose e ++ at_depth k items
left-closed k nodes items place d loose e is flat h = grind (arith, closed-kept, possible-flat, length-closed, left-mid)

-- A change of a list's node that keeps its start, and flags as the list is closed, does not matter after that.
pub record IsAbsorbed (g : Item → Item) : Type 0 where
  pub start : (x : Item) → (g x).start ≡ x.start
  pub flags : (loose : Bool) (x : Item) → flagged loose (g x).body ≡ flagged loose x.body
  pub tight : (x : Item) → flagged false (tight_body (g x).body) ≡ flagged false (tight_body x.body)

absorbed : (nodes : List (ℕ × Item)) (o : ℕ) (g f : Item → Item) → ((x : Item) → f (g x) ≡ f x) → modify (modify nodes o g) o f ≡ modify nodes o f
absorbed [] o g f h = refl
absorbed (n ∷ nodes) zero g f h = ap (λ z. (n.0, z) ∷ nodes) (h n.1)
absorbed (n ∷ nodes) (suc o) g f h = ap (λ z. n ∷ z) (absorbed nodes o g f h)

absorbed_tight : (nodes : List (ℕ × Item)) (o depth : ℕ) (g f : Item → Item) → ((n : ℕ × Item) → f (tightened depth (n.0, g n.1)).1 ≡ f (tightened depth n).1)
    → modify (map_from (tightened depth) o (modify nodes o g)) o f ≡ modify (map_from (tightened depth) o nodes) o f
absorbed_tight [] zero depth g f h = refl
absorbed_tight [] (suc o) depth g f h = refl
absorbed_tight (n ∷ nodes) zero depth g f h = ap (λ z. (n.0, z) ∷ map (tightened depth) nodes) (h n)
absorbed_tight (n ∷ nodes) (suc o) depth g f h = ap (λ z. n ∷ z) (absorbed_tight nodes o depth g f h)

tight_absorbed : (t : Bool) (g : Item → Item) (x : Item) (e : ℕ) → IsAbsorbed g
    → (let now : Item → Item = λ y. if t then record { start = y.start; «end» = y.«end»; body = tight_body y.body } else y in
    let last : Item → Item = λ y. node_of y.start e (flagged false y.body) in
    last (now (g x)) ≡ last (now x))
tight_absorbed true g x e h = let a = h.start x in let b = h.tight x in cc
tight_absorbed false g x e h = let a = h.start x in let b = h.flags false x in cc

pub closed-absorbed : (nodes : List (ℕ × Item)) (o d : ℕ) (g : Item → Item) (loose : Bool) (e : ℕ) → IsAbsorbed g
    → list_closed (modify nodes o g) o d loose e ≡ list_closed nodes o d loose e
unfolding list_closed
closed-absorbed nodes o d g true e h = absorbed nodes o g _ (λ x. let a = h.start x in let b = h.flags true x in cc)
closed-absorbed nodes o d g false e h = absorbed_tight nodes o d g _ (λ n. tight_absorbed (n.0 == d) g n.1 e h)

flagged-twice : (l loose : Bool) (b : ItemBody) → flagged loose (flagged l b) ≡ flagged loose b
flagged-twice l loose (ListBody flags byte number) = refl
flagged-twice l loose (DefinitionList flags) = refl
flagged-twice l loose b = refl

flagged-tight : (l : Bool) (b : ItemBody) → flagged false (tight_body (flagged l b)) ≡ flagged false (tight_body b)
flagged-tight l (ListBody flags byte number) = refl
flagged-tight l (DefinitionList flags) = refl
flagged-tight l b = refl

-- the flags are such a change, and so is the end
pub flags_absorbed : (l : Bool) → IsAbsorbed (λ x. record x { body = flagged l x.body })
flags_absorbed l = record { start = λ x. refl; flags = λ loose x. flagged-twice l loose x.body; tight = λ x. flagged-tight l x.body }

pub end_absorbed : (e : ℕ) → IsAbsorbed (λ x. record x { «end» = e })
end_absorbed e = record { start = λ x. refl; flags = λ loose x. refl; tight = λ x. refl }

pub swapped : (nodes : List (ℕ × Item)) (o x : ℕ) (g f : Item → Item)
    → ((y : Item) → f (g y) ≡ g (f y)) → modify (modify nodes o g) x f ≡ modify (modify nodes x f) o g
swapped (n ∷ nodes) zero zero g f h = ap (λ z. (n.0, z) ∷ nodes) (h n.1)
swapped (n ∷ nodes) (suc o) (suc x) g f h = ap (λ z. n ∷ z) (swapped nodes o x g f h)
swapped nodes o x g f h = refl
