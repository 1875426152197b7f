-- After `open_footnote` at a place: a footnote definition is open, or the search for another container begins.
use Rattle.std.proofs.Common.{◌≡◌, ◌<◌, Bool, true, false, length, Option, None, MatchOption, IsSomeAnd, sym, subst, ap, ◌∙◌, arith}
use Rattle.first_pass_grammar.proofs.Common.{Place, in_table, at_rest, footnote_head_at, start_at}
use Rattle.first_pass_blocks.proofs.Common.{context_of, Source, PassState, StaysSame, TriesFootnote, InLine, IsNotBefore, FinishesNothing, source_of}
use Rattle.first_pass_blocks.proofs.Common.{source_options, state_of, tree_of, BlockPass, StartMatches, may_define, Start, PassesTo}
use Rattle.first_pass_kinds.specs.declared.next_front.NextFront.{NextFront}
use Rattle.first_pass_blocks.proofs.BlockRead.{passes_both, ReachesPlace, reached_still}

-- whether a definition may begin at a place, from the results of the calls
abbrev pub may_in : Source → BlockPass → Bool
may_in over pass = may_define over.options (tree_of pass)

-- what the search for a container returns
abbrev pub IsSearched : Source → Bool → Place → Place → Option Start → Type 0
IsSearched over may p new r =
    MatchOption (start_at over.options may p) ((r ≡ None) × (new ≡ p)) (λ s. IsSomeAnd r (StartMatches s) × (new ≡ at_rest p s.rest))

-- no footnote definition begins at the place, and the search for another container begins
pub record IsTried (first : Place) (old mid : BlockPass) (p : Place) : Type 0 where
  pub reached : ReachesPlace first old mid p
  pub bare : in_table (tree_of mid).nodes (tree_of mid).spine ≡ false
      → footnote_head_at (context_of (source_options old) (tree_of mid)) p ≡ None
  pub searched : (may : Bool) (new : Place) (r : Option Start) → may ≡ may_in (source_of mid) mid → IsSearched (source_of mid) may p new r
      → IsSearched (source_of old) (may_in (source_of old) mid) p new r

pub tried : (first : Place) (old now mid : BlockPass) (p q : Place) (t : Bool) → t ≡ false → ReachesPlace first old now p → TriesFootnote now mid p q t
    → IsTried first old mid q
tried first old now mid p q t is r tries =
    let over : Source = source_of old in
    let no = subst (TriesFootnote now mid p q) is tries in
    let same : StaysSame now mid = no.0 in
    let at : q ≡ p = no.1 in
    let reached : ReachesPlace first old mid q = rw at (reached_still r same) in
    record {
      reached = reached;
      bare = λ no_table.
          ap (footnote_head_at (context_of over.options (tree_of mid))) at
          ∙ ap (λ (s : PassState). footnote_head_at (context_of over.options s.tree) p) same.1
          ∙ ap (λ (z : Source). footnote_head_at (context_of z.options (tree_of now)) p) (sym r.opened.kept.source)
          ∙ no.2 (ap (λ (s : PassState). in_table s.tree.nodes s.tree.spine) (sym same.1) ∙ no_table);
      searched = λ may new r is says. subst (λ (z : Source). IsSearched z (may_in z mid) q new r) reached.opened.kept.source
          (subst (λ (t : Bool). IsSearched (source_of mid) t q new r) is says);
    }

-- one more container is open at the place, and less of its line is left
pub record IsNested (first : Place) (old mid : BlockPass) (p q : Place) : Type 0 where
  pub reached : ReachesPlace first old mid q
  pub less : length q.rest.left < length p.rest.left
  pub just : FinishesNothing (state_of mid)

pub opens_note : (first : Place) (old now mid : BlockPass) (p q : Place) (t : Bool) → t ≡ true → ReachesPlace first old now p → TriesFootnote now mid p q t
    → IsNested first old mid p q
opens_note first old now mid p q t is r tries =
    let yes = subst (TriesFootnote now mid p q) is tries in
    let from = subst (λ (z : Source). IsNotBefore z.text.now p q) r.opened.kept.source yes.0 in
    let low = r.here.1 in
    let later = r.here.2 in
    let far = r.here.3 in
    let line = from.1 in
    let on = from.2 in
    let stop = from.3 in
    let steps = subst (λ (z : Source). PassesTo z first.line now mid (InLine p) (InLine q)) r.opened.kept.source (yes.4 first.line low) in
    record {
      reached = record {
        no_empty = yes.3.none;
        none = ap (λ (f : NextFront). f.is_known) yes.2 ∙ r.none;
        here = (from.0, omega arith, omega arith, omega arith);
        opened = passes_both r.opened steps;
      };
      less = yes.1;
      just = yes.3;
    }
