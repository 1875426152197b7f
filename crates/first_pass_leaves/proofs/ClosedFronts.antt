-- The front of the line after a paragraph is the same when the paragraph is closed.
use Rattle.std.proofs.Common.{◌≡◌, ℕ, zero, suc, ◌+◌, ◌-◌, ◌≤◌, min, List, [], ◌∷◌, ◌++◌, length, drop, None, sym, ap, subst, ◌∙◌, arith, length-append}
use Rattle.first_pass_grammar.proofs.Common.{cases_lt, Item, TreeIndex, Forest, appended, pushed, added, at_depth, Rest, line_rest, after, chained, leaves}
use Rattle.first_pass_grammar.proofs.Common.{chained-spine, chained-nodes}
use Rattle.first_pass_leaves.proofs.Common.{container_at, with_container, path_in, outer, AreIn, AreIn-more, path_in-append, outer-all, IsFrontAt}
use Rattle.std.proofs.Math.Nat.{min-eq_left, min-eq_right, min-le_right}
use Rattle.first_pass_open.specs.declared.source.Source.{Source}

AreIn-drop : (n k : ℕ) (spine : List TreeIndex) → AreIn n spine → AreIn n (drop k spine)
AreIn-drop n zero spine a = a
AreIn-drop n (suc k) [] a = tt
AreIn-drop n (suc k) (ix ∷ spine) a = AreIn-drop n k spine a.1

-- One more open node inside changes nothing of the outermost ones.
outer-inside : (ix : TreeIndex) (spine : List TreeIndex) (m : ℕ) → m ≤ length spine → outer m (ix ∷ spine) ≡ outer m spine
outer-inside ix spine m h = grind arith

-- A node that may have been read as a paragraph is closed, and is no container. The containers around it are the same
-- before and after.
module _ (source : Source) {t f : Forest Item} (g : Forest Item) (x : Item) (ix : TreeIndex) (chain : List Item) (block : List (ℕ × Item))
    (t_is : t ≡ chained (pushed (appended g x) ix) chain) (f_is : f ≡ added g block) (leaf : container_at source.options t.nodes ix ≡ None)
    (there : AreIn (length g.nodes) g.spine) where
  opened : t.spine ≡ ix ∷ f.spine
  opened =
      ap (λ (z : Forest Item). z.spine) t_is ∙ chained-spine (pushed (appended g x) ix) chain ∙ ap (λ (z : Forest Item). ix ∷ z.spine) (sym f_is)

  inside : AreIn (length g.nodes) f.spine
  inside = subst (λ (z : Forest Item). AreIn (length g.nodes) z.spine) (sym f_is) there

  path_kept : (spine : List TreeIndex) → AreIn (length g.nodes) spine → path_in source.options t.nodes spine ≡ path_in source.options f.nodes spine
  path_kept spine a =
      let p : Forest Item = pushed (appended g x) ix in
      let node = (length g.spine + 1, x) ∷ [] in
      let n : length (g.nodes ++ node) ≡ length g.nodes + 1 = length-append g.nodes node in
      ap (λ (z : Forest Item). path_in source.options z.nodes spine) t_is
      ∙ ap (λ ns. path_in source.options ns spine) (chained-nodes p chain)
      ∙ path_in-append source.options (g.nodes ++ node) (at_depth (length p.spine + 1) (leaves chain)) spine
      (AreIn-more (length g.nodes) (length (g.nodes ++ node)) spine (omega arith) a)
      ∙ path_in-append source.options g.nodes node spine a
      ∙ sym (path_in-append source.options g.nodes (at_depth (length g.spine + 1) block) spine a)
      ∙ ap (λ (z : Forest Item). path_in source.options z.nodes spine) (sym f_is)

  same_path : (m : ℕ) → m ≤ length f.spine → path_in source.options t.nodes (outer m t.spine) ≡ path_in source.options f.nodes (outer m f.spine)
  same_path m h =
      ap (λ s. path_in source.options t.nodes (outer m s)) opened
      ∙ ap (path_in source.options t.nodes) (outer-inside ix f.spine m h)
      ∙ path_kept (outer m f.spine) (AreIn-drop (length g.nodes) (length f.spine - m) f.spine inside)

  whole_path : (m : ℕ) → m ≡ suc (length f.spine)
      → path_in source.options t.nodes (outer m t.spine) ≡ path_in source.options f.nodes (outer (length f.spine) f.spine)
  whole_path m all =
      ap (λ k. path_in source.options t.nodes (outer k t.spine)) (all ∙ sym (ap length opened))
      ∙ ap (path_in source.options t.nodes) (outer-all t.spine ∙ opened)
      ∙ ap (λ o. with_container o (path_in source.options t.nodes f.spine)) leaf
      ∙ path_kept f.spine inside
      ∙ ap (path_in source.options f.nodes) (sym (outer-all f.spine))

  abbrev limited : ℕ → ℕ
  limited continued = min continued (length f.spine)

  limited_path : (continued : ℕ) → continued ≤ suc (length f.spine)
      → path_in source.options t.nodes (outer continued t.spine) ≡ path_in source.options f.nodes (outer (limited continued) f.spine)
  limited_path continued within = grind (arith, cases_lt, whole_path, min-eq_right, same_path, min-eq_left)

  pub closed_front : {start continued : ℕ} {rest : Rest} → IsFrontAt source t start continued rest → IsFrontAt source f start (limited continued) rest
  closed_front {start} {continued} h =
      let line : Rest = line_rest (drop start source.text.now) in
      let longer : length t.spine ≡ suc (length f.spine) = ap length opened in
      record {
        within = min-le_right continued (length f.spine);
        taken = ap (λ path. after path line) (sym (limited_path continued (omega (arith, h.within)))) ∙ h.taken;
        stops = λ m more within. ap (λ path. after path line) (sym (same_path m within)) ∙ h.stops m (omega arith) (omega arith);
      }
