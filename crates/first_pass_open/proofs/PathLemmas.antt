-- The containers among the open nodes, while nodes are added and opened; and a path at the end of the text.
use Rattle.std.proofs.Common.{◌≡◌, ◌⊎◌, inl, inr, ℕ, zero, suc, ◌+◌, ◌<◌, ◌≤◌, Bool, true, false, List, [], ◌∷◌, ◌++◌, length, slice_get, Option, if◌then◌else◌}
use Rattle.std.proofs.Common.{MatchOption, is_some, Some, None, refl, ap, subst, ◌∙◌, arith, length-append}
use Rattle.first_pass_grammar.proofs.Common.{or-true, nat_tests, length-map, Item, TreeIndex, Forest, IsOpenPath, depths, appended, pushed, at_depth}
use Rattle.first_pass_grammar.proofs.Common.{at_line_end, Rest, column_of_byte, after_columns, after-none, line_rest, chained, leaves, chained-spine}
use Rattle.first_pass_grammar.proofs.Common.{chained-nodes, has_columns, is_quote, prefix, after, front, Options}
use Rattle.first_pass_open.proofs.Common.{Container, BlockQuote, ListItem, container_of, prefix_of, columns_needed, is_quote_node, with_container, path_in}
use Rattle.first_pass_open.proofs.Common.{path_of}
use Rattle.first_pass_grammar.proofs.Names.MoreNames.{get_front}

-- each of these open nodes is one of the first n nodes
abbrev pub AreIn : ℕ → List TreeIndex → Type 0
AreIn n [] = Unit {0}
AreIn n (ix ∷ spine) = (ix.0 < n) × AreIn n spine

pub open_are_in : (ns : List (ℕ × Item)) (spine : List TreeIndex) → IsOpenPath (depths ns) spine → AreIn (length ns) spine
open_are_in ns [] o = tt
open_are_in ns (ix ∷ spine) o = (subst (λ n. ix.0 < n) (length-map ns (λ n. n.0)) o.0.within, open_are_in ns spine o.1)

-- More nodes after these do not change the path.
pub path_in-append : (options : Options) (ns more : List (ℕ × Item)) (spine : List TreeIndex)
    → AreIn (length ns) spine → path_in options (ns ++ more) spine ≡ path_in options ns spine
path_in-append options ns more [] a = refl
path_in-append options ns more (ix ∷ spine) a =
    rw (get_front ns more ix.0 a.0, path_in-append options ns more spine a.1) refl

-- A chain in the innermost open node does not change the path.
pub path_of-chained : (options : Options) (f : Forest Item) (chain : List Item)
    → AreIn (length f.nodes) f.spine → path_of options (chained f chain) ≡ path_of options f
path_of-chained options f chain a =
    rw (chained-spine f chain, chained-nodes f chain) (path_in-append options f.nodes (at_depth (length f.spine + 1) (leaves chain)) f.spine a)

byte_none : (r : Rest) (bs : List ℕ) → at_line_end bs ≡ true → column_of_byte r bs ≡ None
byte_none r [] h = refl
byte_none r (b ∷ bs) h = grind (arith, nat_tests, h)

-- only the end of the line or of the text is left, and no column is owed
pub record IsOver (r : Rest) : Type 0 where
  pub none : r.owed ≡ 0
  pub ends : at_line_end r.left ≡ true

columns_passed : (n : ℕ) (r : Rest) → IsOver r → (if has_columns n r then Some (after_columns n r) else None) ≡ Some r
columns_passed n r o = grind (arith, after-none, byte_none, or-true)

-- Such a line continues a container that is no block quote, and nothing is taken.
pub passed : (c : Container) (r : Rest) → IsOver r → is_quote c ≡ false → prefix c r ≡ Some r
unfolding prefix
passed (BlockQuote kind) r o h = absurd cc
passed c r o h = columns_passed _ r o

-- The prefix of a container that needs n columns is that of a list item with n columns.
pub columns_prefix : (o : Option Container) (n : ℕ) (r : Rest) → columns_needed o ≡ Some n → prefix_of o r ≡ prefix (ListItem n) r
unfolding prefix
columns_prefix (Some (BlockQuote kind)) n r e = cc
columns_prefix o n r e = cc

-- The prefix of a block quote is the same for all kinds.
pub quote_prefix : (o : Option Container) (r : Rest) → is_quote_node o ≡ true → prefix_of o r ≡ prefix (BlockQuote None) r
unfolding prefix
quote_prefix (Some (BlockQuote kind)) r e = refl
quote_prefix o r e = absurd cc

-- A node that needs no columns and is no block quote has an empty prefix.
pub empty_prefix : (o : Option Container) (r : Rest) → columns_needed o ≡ None → is_quote_node o ≡ false → prefix_of o r ≡ Some r
empty_prefix (Some (BlockQuote kind)) r e q = cc
empty_prefix o r e q = cc

-- If one call returns the offset after a prefix, a call that takes an equal prefix returns whether there is one.
pub by_quote : (o p : Option Rest) (b : Bool) (found : Option ℕ) (n : ℕ) (old new : Rest) → o ≡ p → b ≡ is_some found
    → MatchOption p ((found ≡ None) × (new ≡ old)) (λ next. (found ≡ Some n) × (new ≡ next))
    → MatchOption o ((b ≡ false) × (new ≡ old)) (λ next. (b ≡ true) × (new ≡ next))
by_quote o None b found n old new e some m = rw e (some ∙ ap is_some m.0, m.1)
by_quote o (Some next) b found n old new e some m = rw e (some ∙ ap is_some m.0, m.1)

end_prefix : (c : Container) → (prefix c (line_rest []) ≡ None) ⊎ (prefix c (line_rest []) ≡ Some (line_rest []))
unfolding prefix
end_prefix (BlockQuote kind) = inl refl
end_prefix c = inr (passed c (line_rest []) (record { none = refl; ends = refl }) refl)

-- At the end of the text, a path is continued and nothing is taken, or it is not continued.
pub after-end : (path : List Container) → (after path (line_rest []) ≡ None) ⊎ (after path (line_rest []) ≡ Some (line_rest []))
unfolding after
after-end [] = inr refl
after-end (c ∷ path) = elim (after-end path) [ inl none ↦ inl (rw none refl) | inr some ↦ rw some (end_prefix c) ]

pub front-end : (path : List Container) → front path (line_rest []) ≡ line_rest []
unfolding front
front-end [] = refl
front-end (c ∷ path) = elim (after-end (c ∷ path)) [ inl none ↦ rw none (front-end path) | inr some ↦ rw some refl ]

pub AreIn-more : (n m : ℕ) (spine : List TreeIndex) → n ≤ m → AreIn n spine → AreIn m spine
AreIn-more n m [] h a = tt
AreIn-more n m (ix ∷ spine) h a = (let w : ix.0 < n = a.0 in omega arith, AreIn-more n m spine h a.1)

pub get_after : {T : Type 0} (ns more : List T) (n : T) (i : ℕ) → i ≡ length ns → slice_get (ns ++ n ∷ more) i ≡ Some n
get_after [] more n zero at = refl
get_after [] more n (suc i) at = absurd (omega arith)
get_after (m ∷ ns) more n zero at = absurd (omega arith)
get_after (m ∷ ns) more n (suc i) at = get_after ns more n i (omega arith)

pub get_last : (ns : List (ℕ × Item)) (x : ℕ × Item) (i : ℕ) → i ≡ length ns → slice_get (ns ++ x ∷ []) i ≡ Some x
get_last ns x i at = get_after ns [] x i at

-- If a node is opened, its container is added to the path, if it is one.
pub path_of-opened : (options : Options) (g : Forest Item) (x : Item) (ix : TreeIndex) → ix.0 ≡ length g.nodes → AreIn (length g.nodes) g.spine
    → path_of options (pushed (appended g x) ix) ≡ with_container (container_of options x.body) (path_of options g)
path_of-opened options g x ix at a =
    rw (get_last g.nodes (length g.spine + 1, x) ix.0 at, path_in-append options g.nodes ((length g.spine + 1, x) ∷ []) g.spine a) refl

pub opened_in : (g : Forest Item) (x : Item) (ix : TreeIndex)
    → ix.0 ≡ length g.nodes → AreIn (length g.nodes) g.spine → AreIn (length (pushed (appended g x) ix).nodes) (ix ∷ g.spine)
opened_in g x ix at a =
    let n : length (g.nodes ++ (length g.spine + 1, x) ∷ []) ≡ length g.nodes + 1 = length-append g.nodes ((length g.spine + 1, x) ∷ []) in
    (omega arith, AreIn-more (length g.nodes) (length (g.nodes ++ (length g.spine + 1, x) ∷ [])) g.spine (omega arith) a)
