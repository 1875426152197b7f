-- From each place on there is a sequence of blocks, so open nodes can be completed and each text has a derivation.
use Rattle.std.proofs.Common.{◌≡◌, inl, inr, ℕ, zero, suc, ◌<◌, ◌≤◌, List, [], ◌∷◌, length, Some, None, refl, ap, subst, arith}
use Rattle.first_pass_grammar.proofs.Common.{Options, Place, Names, document, Leaf, Head, opened, Skeleton, Nil, Then, Node, Continues, Line, Blanks, AtPlace}
use Rattle.first_pass_grammar.proofs.Common.{OnlyMark, Opening, OpensLeaf, OpensNode, OpensAt, Level, level, level_in, level_after_leaf, level_after}
use Rattle.first_pass_grammar.proofs.Common.{Remaining, Lines, InLine, NextBlock, Begins, Ends, next_block, onward, after_first, only_blanks, end_before}
use Rattle.first_pass_grammar.proofs.Common.{IsFirst, IsSequence, cases_lt}
use Rattle.first_pass_grammar.specs.declared.kind.Container.{Container}
use Rattle.first_pass_grammar.proofs.Sequences.Goings.{BeginsAt, LeavesAt, begins_at, leaves_at, all_taken_at}
use Rattle.first_pass_grammar.proofs.Names.MoreNames.{extends_none}
use Rattle.first_pass_exists.proofs.KindsFound.{reach, IsShorter, Shrinks, Leads}
use Rattle.first_pass_exists.proofs.OpeningsFound.{leads_any, leads_if}
use Rattle.first_pass_exists.proofs.Found.{Found, found_also, found_here, found_then}

-- Where blocks continue around a container that leaves this, no more of the text is left than before.
abbrev IsNoMore : Continues → List Place → Remaining → Type 0
IsNoMore from lines left = IsShorter (reach from) lines (onward left).0 (onward left).1

-- Blocks from a place on. At the top they take all lines, unless only blank lines are taken.
pub record Sequence (l : Level) (from : Continues) (lines : List Place) : Type 0 where
  pub blocks : Skeleton
  pub left : Remaining
  pub shorter : IsNoMore from lines left
  pub ends : l.path ≡ [] → only_blanks from ≡ None → left ≡ Lines []

abbrev pub SequenceFrom : List ℕ → Options → Names → Level → Continues → List Place → Type 0
SequenceFrom text options names l from lines =
    Found names (Sequence l from lines) (λ later s. IsSequence (document text options later) s.blocks l from lines s.left)

-- where blocks continue after a first block
reach_after : (from there : Continues) → reach (after_first from there) ≤ reach there
reach_after (AtPlace p (OnlyMark marker None)) there = omega arith
reach_after (AtPlace p (OnlyMark marker (Some e))) there = omega arith
reach_after from there = omega arith

alone_after : (from there : Continues) → only_blanks from ≡ None → only_blanks there ≡ None → only_blanks (after_first from there) ≡ None
alone_after (Blanks e) there h k = h
alone_after (AtPlace p (OnlyMark marker None)) there h k = refl
alone_after (AtPlace p (OnlyMark marker (Some e))) there h k = h
alone_after from there h k = k

alone_onward : (left : Remaining) → only_blanks (onward left).0 ≡ None
alone_onward (Lines lines) = refl
alone_onward (InLine p lines) = refl

shorter_after : (most : ℕ) (lines left : List Place) (from there : Continues) → IsShorter most lines there left
    → IsShorter most lines (after_first from there) left
shorter_after most lines left from there h = (h.0, λ same. omega (arith, reach_after from there, h.1))

shorter_both : (most : ℕ) (lines left further : List Place) (there then : Continues) → IsShorter most lines there left
    → IsShorter (reach there) left then further → IsShorter most lines then further
shorter_both most lines left further there then h k = (omega (arith, h.0, k.0), λ same. omega (arith, h.0, h.1, k.0, k.1))

-- a sequence without blocks
no_more_at : (path : List Container) (from : Continues) (lines following : List Place) (p : Place) → BeginsAt path from lines p following
    → IsNoMore from lines (InLine p following)
no_more_at path Line [] following p begins = absurd begins
no_more_at path Line (line ∷ lines) following p (is, same) = let n = ap length same in (omega arith, λ e. omega arith)
no_more_at path (Blanks e) [] following p begins = absurd begins
no_more_at path (Blanks e) (line ∷ lines) following p (is, same) = let n = ap length same in (omega arith, λ e. omega arith)
no_more_at path (AtPlace q may) lines following p (is, same) =
    let n = ap length same in let m = ap (λ (z : Place). length z.rest.left) is in (omega arith, λ e. omega arith)

-- if less is left than where a block begins, then less is left than where the block was looked for
reach_more : (most : ℕ) (lines left : List Place) (there : Continues) → IsShorter most lines there left → IsShorter (suc most) lines there left
reach_more most lines left there h = (h.0, λ same. omega (arith, h.1))

shorter_from : (path : List Container) (from there : Continues) (lines following left : List Place) (p : Place) → BeginsAt path from lines p following
    → IsShorter (length p.rest.left) following there left → IsShorter (reach from) lines there left
shorter_from path from there lines following left p begins s = grind (arith, shorter_both, reach, following, left, no_more_at, begins, reach_more)

no_more : (path : List Container) (from : Continues) (lines : List Place) (left : Remaining) → LeavesAt path from lines left → IsNoMore from lines left
no_more path from lines (Lines left) same = let n = ap length same in (omega arith, λ e. omega arith)
no_more path from lines (InLine p following) at = no_more_at path from lines following p at.0

-- a first block, with the blocks in it and after it
module _ (text : List ℕ) (options : Options) where
  -- blocks from each place on if fewer lines than this are left
  abbrev Fewer : ℕ → Type 0
  Fewer n = (names : Names) (l : Level) (from : Continues) (lines : List Place) → length lines < n → SequenceFrom text options names l from lines

  -- the same if as many are left, at a place inside a line that reaches less far
  abbrev Nearer : ℕ → ℕ → Type 0
  Nearer n k =
      (names : Names) (l : Level) (from : Continues) (lines : List Place) → length lines ≤ n → reach from < k → SequenceFrom text options names l from lines

  -- the blocks from each place on where less is left than these lines and this much of a line before them
  abbrev Others : ℕ → List Place → Type 0
  Others most lines =
      (names : Names) (l : Level) (from : Continues) (left : List Place) → IsShorter most lines from left → SequenceFrom text options names l from left

  -- A first block opens at a place. After its opening less of the text is left.
  record FirstOpens (names : Names) (l : Level) (from : Continues) (lines : List Place) (o : Opening) : Type 0 where
    place : Place
    following : List Place
    begins : BeginsAt l.path from lines place following
    shrinks : Shrinks (length place.rest.left) following o
    opens : Found names (Unit {0}) (λ later u. IsFirst (document text options later) l from lines o)

  leaf_first : (names : Names) (l : Level) (from there : Continues) (lines left : List Place) (leaf : Leaf)
      → (first : FirstOpens names l from lines (OpensLeaf leaf there left)) → Others (length first.place.rest.left) first.following
      → SequenceFrom text options names l from lines
  unfolding IsSequence
  leaf_first names l from there lines left leaf first others =
      let most : ℕ = length first.place.rest.left in
      let following : List Place = first.following in
      let next : Continues = after_first from there in
      let now = shorter_after most following left from there first.shrinks.0 in
      let rest = others first.opens.more (level_after_leaf l leaf) next left now in
      let s = rest.value in
      found_also (found_then first.opens rest) (record {
        blocks = Then leaf s.blocks;
        left = s.left;
        shorter = shorter_from l.path from (onward s.left).0 lines following (onward s.left).1 first.place first.begins
            (shorter_both most following left (onward s.left).1 next (onward s.left).0 now s.shorter);
        ends = λ top h. s.ends top (alone_after from there h first.shrinks.1);
      }) (λ later is. (there, left, is.0, is.1))

  node_first : (names : Names) (l : Level) (from inside : Continues) (lines kids : List Place) (head : Head)
      → (first : FirstOpens names l from lines (OpensNode head inside kids)) → Others (length first.place.rest.left) first.following
      → SequenceFrom text options names l from lines
  unfolding IsSequence
  node_first names l from inside lines kids head first others =
      let most : ℕ = length first.place.rest.left in
      let following : List Place = first.following in
      let inner = others first.opens.more (level_in (opened head.opener) l) inside kids first.shrinks in
      let i = inner.value in
      let there : Continues = (onward i.left).0 in
      let left : List Place = (onward i.left).1 in
      let next : Continues = after_first from there in
      let now = shorter_after most following left from there (shorter_both most following kids left inside there first.shrinks i.shorter) in
      let rest = others inner.more (level_after l head i.blocks) next left now in
      let s = rest.value in
      found_also (found_then (found_then first.opens inner) rest) (record {
        blocks = Node head (end_before (length text) l.path inside i.left) i.blocks s.blocks;
        left = s.left;
        shorter = shorter_from l.path from (onward s.left).0 lines following (onward s.left).1 first.place first.begins
            (shorter_both most following left (onward s.left).1 next (onward s.left).0 now s.shorter);
        ends = λ top h. s.ends top (alone_after from there h (alone_onward i.left));
      }) (λ later is. (inside, kids, i.left, is.0.0, is.0.1, refl, is.1))

  opening_first : (names : Names) (l : Level) (from : Continues) (lines : List Place) (o : Opening) → (first : FirstOpens names l from lines o)
      → Others (length first.place.rest.left) first.following → SequenceFrom text options names l from lines
  opening_first names l from lines (OpensLeaf leaf there left) first others = leaf_first names l from there lines left leaf first others
  opening_first names l from lines (OpensNode head inside kids) first others = node_first names l from inside lines kids head first others

  leads_at : (names : Names) (l : Level) (from : Continues) (p : Place) (lines : List Place)
      → Leads names (length p.rest.left) lines (λ later o. OpensAt (document text options later) l from p lines o)
  leads_at names l Line p lines = leads_any text options names l p lines
  leads_at names l (Blanks e) p lines = leads_any text options names l p lines
  leads_at names l (AtPlace q may) p lines = leads_if text options names l may p lines

  first_block : (names : Names) (l : Level) (from : Continues) (lines following : List Place) (p : Place) → next_block options l from lines ≡ Begins p following
      → Others (length p.rest.left) following → SequenceFrom text options names l from lines
  first_block names l from lines following p is others =
      let leads = leads_at names l from p following in
      opening_first names l from lines leads.value (record {
        place = p;
        following = following;
        begins = begins_at options l from lines p following is;
        shrinks = (leads.holds leads.more (extends_none leads.more)).0;
        opens = found_also leads tt (λ later h. record { place = p; following = following; begins = is; opens = h.1 });
      }) others

  -- a sequence without blocks
  no_block : (names : Names) (l : Level) (from : Continues) (lines : List Place) (left : Remaining) → next_block options l from lines ≡ Ends left
      → SequenceFrom text options names l from lines
  unfolding IsSequence
  no_block names l from lines left is = found_here (record {
    blocks = Nil;
    left = left;
    shorter = no_more l.path from lines left (leaves_at options l from lines left is);
    ends = λ top h. all_taken_at options l.before from lines left (subst (λ p. next_block options (level p l.before) from lines ≡ Ends left) top is) h;
  }) (λ later. is)

  -- At most this much of the text is left. From each place with less left, blocks are found.
  record LessIsFound (from : Continues) (lines : List Place) : Type 0 where
    most_lines : ℕ
    most_reach : ℕ
    within : length lines ≤ most_lines
    near : reach from ≤ most_reach
    fewer : Fewer most_lines
    nearer : Nearer most_lines most_reach

  -- blocks, by how much of the text is left
  others_at : (from : Continues) (lines following : List Place) (p : Place) → IsNoMore from lines (InLine p following) → LessIsFound from lines
      → Others (length p.rest.left) following
  others_at from lines following p h f names l there left k =
      elim (cases_lt (length left) f.most_lines) [
        | inl fewer ↦ f.fewer names l there left fewer
        | inr same ↦ f.nearer names l there left (omega (arith, h.0, k.0, f.within)) (omega (arith, h.0, h.1, k.0, k.1, f.within, f.near))
      ]

  goes : (names : Names) (l : Level) (from : Continues) (lines : List Place) (g : NextBlock) → next_block options l from lines ≡ g
      → LessIsFound from lines → SequenceFrom text options names l from lines
  goes names l from lines (Ends left) is f = no_block names l from lines left is
  goes names l from lines (Begins p following) is f =
      let less = no_more_at l.path from lines following p (begins_at options l from lines p following is) in
      first_block names l from lines following p is (others_at from lines following p less f)

  nearer_by : (n k : ℕ) → Fewer n → Nearer n k → Nearer n (suc k)
  nearer_by n k fewer nearer names l from lines within near =
      goes names l from lines (next_block options l from lines) refl
      (record { most_lines = n; most_reach = k; within = within; near = omega arith; fewer = fewer; nearer = nearer })

  nearer_to : (n k : ℕ) → Fewer n → Nearer n k
  nearer_to n zero fewer = λ names l from lines within near. absurd (omega arith)
  nearer_to n (suc k) fewer = nearer_by n k fewer (nearer_to n k fewer)

  fewer_than : (n : ℕ) → Fewer n
  fewer_than zero names l from lines less = absurd (omega arith)
  fewer_than (suc n) names l from lines less = nearer_to n (suc (reach from)) (fewer_than n) names l from lines (omega arith) (omega arith)

  pub sequence_found : (names : Names) (l : Level) (from : Continues) (lines : List Place) → SequenceFrom text options names l from lines
  sequence_found names l from lines = fewer_than (suc (length lines)) names l from lines (omega arith)
