-- A container other than a footnote definition begins at a place, and is open after its marker.
use Rattle.std.proofs.Common.{◌≡◌, ℕ, ◌<◌, length, Some, IsUtf8, refl, sym, subst, arith}
use Rattle.first_pass_grammar.proofs.Common.{Place, line_end, place_length, IsForest, at_rest, start_at}
use Rattle.first_pass_blocks.proofs.Common.{Source, PassState, AfterMarker, OnLine, TaskText, LineEnds, OnlyTag, InLine, IsNotBefore, ReadsTo, last_at}
use Rattle.first_pass_blocks.proofs.Common.{source_of, source_text, state_of, tree_of, BlockPass, StartMatches, start_opened, after_at, IsAfterMarker, Start}
use Rattle.first_pass_grammar.specs.Openers.{Start as ContainerStart}
use Rattle.first_pass_containers.proofs.Openings.StartLemmas.{opened_start}
use Rattle.first_pass_blocks.proofs.TriedFootnote.{may_in, IsTried}

-- a container begins
abbrev pub IsFound : Source → BlockPass → Place → Place → Start → Type 0
IsFound over now p new told =
    (s : ContainerStart) × (start_at over.options (may_in over now) p ≡ Some s) × StartMatches s told × (new ≡ at_rest p s.rest)

-- a container is open whose marker ends at the place
pub record IsBegun (over : Source) (first : Place) (mid : BlockPass) (p new : Place) (after : AfterMarker) (q : PassState) : Type 0 where
  pub stands : IsAfterMarker after q
  pub less : length new.rest.left < length p.rest.left
  pub here : IsNotBefore over.text.now first new
  pub reads : ReadsTo over first.line (state_of mid) q (InLine p) (after_at new (line_end new) after)

pub begun : {first : Place} {old mid : BlockPass} {p new : Place} {told : Start} {q : PassState} → IsUtf8 (source_text old) → IsForest (tree_of mid)
    → IsTried first old mid p → IsFound (source_of old) mid p new told → q ≡ start_opened new.line told (line_end new) (state_of mid)
    → IsBegun (source_of old) first mid p new told.after q
begun {first = first} {old = old} {mid = mid} {p = p} {new = new} {told = told} {q = q} utf8 forest i f opened =
    let over : Source = source_of old in
    let reached = i.reached.here in
    let s = opened_start over (state_of mid) p utf8 reached.0 forest i.reached.no_empty first.line reached.1 i.bare f.0 new told q f.1 f.2 f.3 opened in
    let line = s.2.1 in
    let stop = s.2.2 in
    let less = s.1 in
    let at = place_length over.text.now p reached.0 in
    let to = place_length over.text.now new s.2.0 in
    let low = reached.1 in
    let from = reached.2 in
    let far = reached.3 in
    record {
      stands = s.0;
      less = less;
      here = (s.2.0, omega (arith, line, low), omega (arith, at, to, less, from), omega (arith, stop, far));
      reads = subst (λ (e : ℕ). ReadsTo over first.line (state_of mid) q (InLine p) (after_at new e told.after)) (sym stop) s.3;
    }

-- a marker after which the line ends is the last
pub last_is : (p : Place) (e : ℕ) (a : AfterMarker) → (a ≡ OnLine → ⊥) → after_at p e a ≡ last_at p e a
last_is p e OnLine other = absurd (other refl)
last_is p e (TaskText marker) other = refl
last_is p e (LineEnds marker) other = refl
last_is p e OnlyTag other = refl
