-- The content that runs have.
use Rattle.std.proofs.Common.{◌≡◌, ℕ, suc, ◌+◌, ◌-◌, ◌<◌, ◌≤◌, List, [], ◌∷◌, ◌++◌, length, get_or}
use Rattle.std.proofs.Common.{zero, true, false, leb, leb-false, leb-true, refl, sym, ap, subst, ◌∙◌, arith, append_assoc, append-nil}
use Rattle.std.proofs.lemmas.List.{length-append, length-map, map-append, get_or_append_left, get_or-append_right, take_all}
use Rattle.std.proofs.lemmas.List.Edits.{length-between, between_none}
use Rattle.std.proofs.lemmas.List.Sorted.{IsPartitionedBy-leb}
use Rattle.std.specs.List.{slice_range}
use Rattle.std.specs.List.Sorted.{IsNonDecreasingBy, IsPartitionPoint, IsPartitionedBy}
use Rattle.first_pass_content.specs.Content.{ContentByte, byte_at, byte_in, bytes_of, placed}
use Rattle.first_pass_content.specs.Runs.{AreAllRuns, AreRuns, Fits, HasPlace, content_in, end_of, run_from, start_of}
use Rattle.first_pass_content.specs.declared.run.Run.{Run}
use Rattle.first_pass_content.proofs.Placed.{slice_back, slice_both, slice_front}

-- a run that stands in the text
pub run_is_placed : (r : Run) (p at : ℕ) (bs : List ℕ) → r.place ≤ p → at ≡ start_of r p → p + length bs ≡ r.past → at + length bs ≡ r.«end»
    → run_from r p bs ≡ placed at bs
run_is_placed r p at [] from is past to = refl
run_is_placed r p at (b ∷ bs) from is past to =
    let s : start_of r p ≡ at = sym is in
    let e : end_of r p ≡ at + 1 = omega (arith, past, to) in
    ap (λ n. byte_in b n (end_of r p) ∷ run_from r (p + 1) bs) s ∙ ap (λ n. byte_in b at n ∷ run_from r (p + 1) bs) e
    ∙ ap (λ l. byte_in b at (at + 1) ∷ l) (run_is_placed r (p + 1) (at + 1) bs (omega arith) (omega (arith, is)) (omega (arith, past)) (omega (arith, to)))

length_run : (r : Run) (p : ℕ) (bs : List ℕ) → length (run_from r p bs) ≡ length bs
length_run r p [] = refl
length_run r p (b ∷ bs) = ap suc (length_run r (p + 1) bs)

bytes_of_run : (r : Run) (p : ℕ) (bs : List ℕ) → bytes_of (run_from r p bs) ≡ bs
bytes_of_run r p [] = refl
bytes_of_run r p (b ∷ bs) = ap (λ l. b ∷ l) (bytes_of_run r (p + 1) bs)

-- runs go on
runs_rise : (at past : ℕ) (runs : List Run) → AreRuns at runs past → at ≤ past
runs_rise at past [] are = omega (arith, are)
runs_rise at past (r ∷ runs) are = let further = runs_rise r.past past runs are.3 in omega (arith, are.0, are.1, further)

content_both : (bytes : List ℕ) (runs more : List Run) → content_in bytes (runs ++ more) ≡ content_in bytes runs ++ content_in bytes more
unfolding content_in
content_both bytes [] more = refl
content_both bytes (r ∷ runs) more =
    ap (λ l. run_from r r.place (slice_range bytes r.place r.past) ++ l) (content_both bytes runs more)
    ∙ sym (append_assoc (run_from r r.place (slice_range bytes r.place r.past)) (content_in bytes runs) (content_in bytes more))

-- the runs keep their content when bytes are added
content_kept : (bytes more : List ℕ) (at past : ℕ) (runs : List Run) → AreRuns at runs past → past ≤ length bytes
    → content_in (bytes ++ more) runs ≡ content_in bytes runs
unfolding content_in
content_kept bytes more at past [] are within = refl
content_kept bytes more at past (r ∷ runs) are within =
    let further = runs_rise r.past past runs are.3 in
    ap (λ l. run_from r r.place l ++ content_in (bytes ++ more) runs) (slice_front bytes more r.place r.past (omega (arith, are.1)) (omega (arith, further)))
    ∙ ap (λ l. run_from r r.place (slice_range bytes r.place r.past) ++ l) (content_kept bytes more r.past past runs are.3 within)

content_one : (bytes : List ℕ) (r : Run) → content_in bytes (r ∷ []) ≡ run_from r r.place (slice_range bytes r.place r.past)
unfolding content_in
content_one bytes r = append-nil (run_from r r.place (slice_range bytes r.place r.past))

-- the content with one run more
pub content_more : (bytes more : List ℕ) (runs : List Run) (r : Run) → AreRuns 0 runs r.place → r.place ≡ length bytes → r.place + length more ≡ r.past
    → content_in (bytes ++ more) (runs ++ r ∷ []) ≡ content_in bytes runs ++ run_from r r.place more
content_more bytes more runs r are at past =
    content_both (bytes ++ more) runs (r ∷ [])
    ∙ ap (λ l. l ++ content_in (bytes ++ more) (r ∷ [])) (content_kept bytes more 0 r.place runs are (omega (arith, at)))
    ∙ ap (λ l. content_in bytes runs ++ l)
    (content_one (bytes ++ more) r ∙ ap (λ l. run_from r r.place l) (slice_back bytes more r.place r.past at (omega (arith, past))))

-- one run more
pub runs_more : (at : ℕ) (runs : List Run) (r : Run) → AreRuns at runs r.place → r.place < r.past → Fits r → AreRuns at (runs ++ r ∷ []) r.past
runs_more at [] r are some fits = (sym are, some, fits, refl)
runs_more at (q ∷ runs) r are some fits = (are.0, are.1, are.2, runs_more q.past runs r are.3 some fits)

length_slice : (bytes : List ℕ) (a b : ℕ) → b ≤ length bytes → length (slice_range bytes a b) ≡ b - a
length_slice bytes a b within = length-between bytes a b within

pub length_content : (bytes : List ℕ) (at past : ℕ) (runs : List Run) → AreRuns at runs past → past ≤ length bytes → at + length (content_in bytes runs) ≡ past
unfolding content_in
length_content bytes at past [] are within = omega (arith, are)
length_content bytes at past (r ∷ runs) are within =
    let further = runs_rise r.past past runs are.3 in
    let mine : length (run_from r r.place (slice_range bytes r.place r.past)) ≡ r.past - r.place =
    length_run r r.place (slice_range bytes r.place r.past) ∙ length_slice bytes r.place r.past (omega (arith, further)) in
    let others = length_content bytes r.past past runs are.3 within in
    let sum = length-append (run_from r r.place (slice_range bytes r.place r.past)) (content_in bytes runs) in
    omega (arith, are.0, are.1, mine, others, sum)

bytes_of_runs : (bytes : List ℕ) (at past : ℕ) (runs : List Run) → AreRuns at runs past → past ≤ length bytes
    → bytes_of (content_in bytes runs) ≡ slice_range bytes at past
unfolding content_in
bytes_of_runs bytes at past [] are within = sym (ap (λ n. slice_range bytes at n) (sym are) ∙ between_none bytes at)
bytes_of_runs bytes at past (r ∷ runs) are within =
    let further = runs_rise r.past past runs are.3 in
    map-append (λ (b : ContentByte). b.byte) (run_from r r.place (slice_range bytes r.place r.past)) (content_in bytes runs)
    ∙ ap (λ l. l ++ bytes_of (content_in bytes runs)) (bytes_of_run r r.place (slice_range bytes r.place r.past))
    ∙ ap (λ l. slice_range bytes r.place r.past ++ l) (bytes_of_runs bytes r.past past runs are.3 within)
    ∙ sym (slice_both bytes r.place r.past past (omega (arith, are.1)) further)
    ∙ ap (λ n. slice_range bytes n past) are.0

-- the range of a byte is that of a place of a run
pub record HasRange (b : ContentByte) (r : Run) (p : ℕ) : Type 0 where
  pub start : b.start ≡ start_of r p
  pub «end» : b.«end» ≡ end_of r p

byte_of_run : (r : Run) (p q k : ℕ) (bs : List ℕ) → k < length bs → q ≡ p + k → HasRange (byte_at (run_from r p bs) k) r q
byte_of_run r p q k [] within is = absurd (omega arith)
byte_of_run r p q zero (b ∷ bs) within is = let e : p ≡ q = omega (arith, is) in record { start = ap (start_of r) e; «end» = ap (end_of r) e }
byte_of_run r p q (suc k) (b ∷ bs) within is = byte_of_run r (p + 1) q k bs (omega arith) (omega (arith, is))

-- the runs before an index end at a place or before it, the others after it
pub record IsSplitAt (runs : List Run) (p i : ℕ) : Type 0 where
  pub low : (k : ℕ) (d : Run) → k < i → (get_or runs k d).past ≤ p
  pub high : (k : ℕ) (d : Run) → i ≤ k → k < length runs → p < (get_or runs k d).past

split_after : (q : Run) (runs : List Run) (p i : ℕ) → IsSplitAt (q ∷ runs) p (suc i) → IsSplitAt runs p i
split_after q runs p i is = record {
  low = λ k d under. is.low (suc k) d (omega arith);
  high = λ k d over inside. is.high (suc k) d (omega arith) (omega arith);
}

module _ (bytes : List ℕ) (more : List ContentByte) (p : ℕ) (r : Run) where
  in_runs : (at past i : ℕ) (runs : List Run) → AreRuns at runs past → past ≤ length bytes → at ≤ p → p < past → IsSplitAt runs p i
      → i ≤ length runs → r ≡ get_or runs i r → HasRange (byte_at (content_in bytes runs ++ more) (p - at)) r p × HasPlace r p
  unfolding content_in
  in_runs at past i [] are within from before is inside at_i = absurd (omega (arith, are))
  in_runs at past zero (q ∷ runs) are within from before is inside at_i =
      let further = runs_rise q.past past runs are.3 in
      let under : p < q.past = is.high 0 q (omega arith) (omega arith) in
      let part : List ℕ = slice_range bytes q.place q.past in
      let mine : List ContentByte = run_from q q.place part in
      let size : length mine ≡ q.past - q.place = length_run q q.place part ∙ length_slice bytes q.place q.past (omega (arith, further)) in
      let both = length-append mine (content_in bytes runs) in
      let found : byte_at (content_in bytes (q ∷ runs) ++ more) (p - at) ≡ byte_at mine (p - at) =
      get_or_append_left (mine ++ content_in bytes runs) more (byte_in 0 0 0) (p - at) (omega (arith, size, both, are.0))
      ∙ get_or_append_left mine (content_in bytes runs) (byte_in 0 0 0) (p - at) (omega (arith, size, are.0)) in
      let has : HasRange (byte_at mine (p - at)) q p =
      byte_of_run q q.place p (p - at) part (omega (arith, size, length_run q q.place part, are.0)) (omega (arith, are.0)) in
      subst (λ (z : Run). HasRange (byte_at (content_in bytes (q ∷ runs) ++ more) (p - at)) z p × HasPlace z p) (sym at_i)
      (subst (λ (b : ContentByte). HasRange b q p) (sym found) has, record { from = (omega (arith, are.0)); before = under; fits = are.2 })
  in_runs at past (suc i) (q ∷ runs) are within from before is inside at_i =
      let further = runs_rise q.past past runs are.3 in
      let over : q.past ≤ p = is.low 0 q (omega arith) in
      let part : List ℕ = slice_range bytes q.place q.past in
      let mine : List ContentByte = run_from q q.place part in
      let size : length mine ≡ q.past - at =
      length_run q q.place part ∙ length_slice bytes q.place q.past (omega (arith, further)) ∙ ap (λ n. q.past - n) are.0 in
      let next : (p - at) - (q.past - at) ≡ p - q.past = omega (arith, are.0, are.1) in
      let found : byte_at (content_in bytes (q ∷ runs) ++ more) (p - at) ≡ byte_at (content_in bytes runs ++ more) (p - q.past) =
      ap (λ l. byte_at l (p - at)) (append_assoc mine (content_in bytes runs) more)
      ∙ get_or-append_right mine (content_in bytes runs ++ more) (q.past - at) (p - at) (byte_in 0 0 0) size (omega arith)
      ∙ ap (byte_at (content_in bytes runs ++ more)) next in
      let rest = in_runs q.past past i runs are.3 within over before (split_after q runs p i is) (omega arith) at_i in
      (subst (λ (b : ContentByte). HasRange b r p) (sym found) rest.0, rest.1)

-- such an index is inside
within_runs : (at past p i : ℕ) (runs : List Run) → AreRuns at runs past → at ≤ p → p < past → IsSplitAt runs p i → i < length runs
within_runs at past p i [] are from before is = absurd (omega (arith, are))
within_runs at past p zero (q ∷ runs) are from before is = omega arith
within_runs at past p (suc i) (q ∷ runs) are from before is =
    let rest = within_runs q.past past p i runs are.3 (is.low 0 q (omega arith)) before (split_after q runs p i is) in
    omega (arith, rest)

-- each run ends after those before it
later : (at past : ℕ) (runs : List Run) → AreRuns at runs past → (j : ℕ) (d : Run) → j < length runs → at ≤ (get_or runs j d).past
later at past [] are j d within = absurd (omega arith)
later at past (r ∷ runs) are zero d within = omega (arith, are.0, are.1)
later at past (r ∷ runs) are (suc j) d within = let further = later r.past past runs are.3 j d (omega arith) in omega (arith, are.0, are.1, further)

pub ends_rise : (at past : ℕ) (runs : List Run) → AreRuns at runs past → IsNonDecreasingBy (λ (r : Run). r.past) runs
ends_rise at past [] are i j d le within = absurd (omega arith)
ends_rise at past (r ∷ runs) are zero zero d le within = omega arith
ends_rise at past (r ∷ runs) are zero (suc j) d le within = later r.past past runs are.3 j d (omega arith)
ends_rise at past (r ∷ runs) are (suc i) zero d le within = absurd (omega arith)
ends_rise at past (r ∷ runs) are (suc i) (suc j) d le within = ends_rise r.past past runs are.3 i j d (omega arith) (omega arith)

-- the index that a binary search finds
pub split_point : (at past p i : ℕ) (runs l : List Run) → AreRuns at runs past → l ≡ runs
    → (IsPartitionedBy (λ (r : Run). leb r.past p) l → IsPartitionPoint (λ (r : Run). leb r.past p ≡ true) (λ (r : Run). leb r.past p ≡ false) l i)
    → IsSplitAt runs p i
split_point at past p i runs l are same search_in =
    let rises : IsNonDecreasingBy (λ (r : Run). r.past) l =
    subst (λ (z : List Run). IsNonDecreasingBy (λ (r : Run). r.past) z) (sym same) (ends_rise at past runs are) in
    let point : IsPartitionPoint (λ (r : Run). leb r.past p ≡ true) (λ (r : Run). leb r.past p ≡ false) runs i =
    subst (λ (z : List Run). IsPartitionPoint (λ (r : Run). leb r.past p ≡ true) (λ (r : Run). leb r.past p ≡ false) z i) same
    (search_in (IsPartitionedBy-leb (λ (r : Run). r.past) l p rises)) in
    record {
      low = λ k d under. leb-true (get_or runs k d).past p (point.0 k d (omega arith) under);
      high = λ k d over inside. leb-false (get_or runs k d).past p (point.1 k d over inside);
    }

-- the content that all runs have
module _ (bytes : List ℕ) (runs : List Run) (last : Run) (are : AreAllRuns bytes runs last) where
  abbrev whole : List ContentByte
  whole = content_in bytes (runs ++ last ∷ [])

  split : whole ≡ content_in bytes runs ++ run_from last last.place (slice_range bytes last.place last.past)
  split = content_both bytes runs (last ∷ []) ∙ ap (λ l. content_in bytes runs ++ l) (content_one bytes last)

  within : last.place ≤ length bytes
  within = omega (arith, are.order, are.whole)

  pub whole_bytes : bytes_of whole ≡ bytes
  whole_bytes =
      ap bytes_of split
      ∙ map-append (λ (b : ContentByte). b.byte) (content_in bytes runs) (run_from last last.place (slice_range bytes last.place last.past))
      ∙ ap (λ l. l ++ bytes_of (run_from last last.place (slice_range bytes last.place last.past))) (bytes_of_runs bytes 0 last.place runs are.before within)
      ∙ ap (λ l. slice_range bytes 0 last.place ++ l) (bytes_of_run last last.place (slice_range bytes last.place last.past))
      ∙ sym (slice_both bytes 0 last.place last.past (omega arith) are.order)
      ∙ take_all (last.past - 0) bytes (omega (arith, are.whole))

  length_before : length (content_in bytes runs) ≡ last.place
  length_before = (let sum = length_content bytes 0 last.place runs are.before within in omega (arith, sum))

  -- the byte at a place of the last run
  pub at_last : (p : ℕ) → last.place ≤ p → p < last.past → HasRange (byte_at whole p) last p
  at_last p from before =
      let part : List ℕ = slice_range bytes last.place last.past in
      let size : length part ≡ last.past - last.place = length_slice bytes last.place last.past (omega (arith, are.whole)) in
      subst (λ l. HasRange (byte_at l p) last p) (sym split)
      (subst (λ (b : ContentByte). HasRange b last p)
      (sym (get_or-append_right (content_in bytes runs) (run_from last last.place part) last.place p (byte_in 0 0 0) length_before from))
      (byte_of_run last last.place p (p - last.place) part (omega (arith, size)) (omega arith)))

  pub length_whole : length whole ≡ last.past
  length_whole = sym (length-map whole (λ (b : ContentByte). b.byte)) ∙ ap length whole_bytes ∙ sym are.whole

  pub last_has : (p : ℕ) → p < length whole → last.place ≤ p → HasPlace last p
  last_has p before from = record { from = from; before = (omega (arith, length_whole)); fits = are.fits }

  pub index_inside : (p i : ℕ) → p < last.place → IsSplitAt runs p i → i < length runs
  index_inside p i before is = within_runs 0 last.place p i runs are.before (omega arith) before is

  -- the byte at a place of an earlier run
  at_run : (p i : ℕ) (r : Run) → p < last.place → IsSplitAt runs p i → i ≤ length runs → r ≡ get_or runs i r
      → HasRange (byte_at whole p) r p × HasPlace r p
  at_run p i r before is inside at =
      subst (λ l. HasRange (byte_at l p) r p × HasPlace r p) (sym split)
      (let from : p - 0 ≡ p = omega arith in
      subst (λ n. HasRange (byte_at (content_in bytes runs ++ run_from last last.place (slice_range bytes last.place last.past)) n) r p × HasPlace r p) from
      (in_runs bytes (run_from last last.place (slice_range bytes last.place last.past)) p r 0 last.place i runs are.before within (omega arith) before
      is inside at))

  -- the run that a search for a place finds, among those before the last
  pub found_run : (p i : ℕ) (l : List Run) (r : Run) → p < last.place → l ≡ runs
      → (IsPartitionedBy (λ (r : Run). leb r.past p) l → IsPartitionPoint (λ (r : Run). leb r.past p ≡ true) (λ (r : Run). leb r.past p ≡ false) l i)
      → r ≡ get_or runs i r → HasRange (byte_at whole p) r p × HasPlace r p
  found_run p i l r before same search_in at =
      let is = split_point 0 last.place p i runs l are.before same search_in in
      let inside = index_inside p i before is in
      at_run p i r before is (omega (arith, inside)) at
