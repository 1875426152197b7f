-- A content that is being read grows.
use Rattle.std.proofs.Common.{◌≡◌, ℕ, suc, ◌+◌, ◌-◌, ◌^◌, ◌<◌, min, List, [], ◌∷◌, ◌++◌, length, take, drop, refl, sym, ap}
use Rattle.std.proofs.Common.{subst, ◌∙◌, arith, append_assoc, append-nil}
use Rattle.std.proofs.lemmas.List.{length-append, length-drop, length_push, nil_from_length, take_min}
use Rattle.std.proofs.lemmas.List.Edits.{between_none}
use Rattle.std.specs.List.{slice_range}
use Rattle.first_pass_content.specs.Building.{IsContentWith, content_with}
use Rattle.first_pass_content.specs.Content.{ContentByte, byte_in, copied, placed}
use Rattle.first_pass_content.specs.Parts.{part}
use Rattle.first_pass_content.specs.Runs.{AreRuns, Fits, content_in, empty_run, run_from, run_with}
use Rattle.first_pass_content.specs.declared.run.Run.{Run}
use Rattle.first_pass_content.proofs.Placed.{placed_both, slice_both}
use Rattle.first_pass_content.proofs.RunLists.{content_more, length_content, run_is_placed, runs_more}

-- the content of runs that are all copied
pub record IsClosed (bytes : List ℕ) (runs : List Run) (past : ℕ) (c : List ContentByte) : Type 0 where
  pub runs_are : AreRuns 0 runs past
  pub size : past ≡ length bytes
  pub value : content_in bytes runs ≡ c

module _ (text bytes : List ℕ) (runs : List Run) (last : Run) (is : IsContentWith text bytes runs last) where
  abbrev mine : List ℕ
  mine = slice_range text last.start last.«end»

  pub last_fits : Fits last
  last_fits = record { starts = omega (arith, is.size, is.order, is.small); ends = omega (arith, is.size, is.order) }

  -- the content with a copy of the last run
  pub copied_content : (more whole : List ℕ) → more ≡ mine → whole ≡ bytes ++ more
      → content_in whole (runs ++ last ∷ []) ≡ content_with text bytes runs last
  copied_content more whole same are =
      ap (λ l. content_in l (runs ++ last ∷ [])) (are ∙ ap (λ l. bytes ++ l) same)
      ∙ content_more bytes mine runs last is.before is.place is.size
      ∙ ap (λ l. content_in bytes runs ++ l) (run_is_placed last last.place last.start mine (omega arith) (omega arith) is.size is.order)

  copied_size : (more whole : List ℕ) → more ≡ mine → whole ≡ bytes ++ more → last.past ≡ length whole
  copied_size more whole same are = omega (arith, is.place, is.size, ap length same, ap length are, length-append bytes more)

  pub closed_run : (more whole : List ℕ) (all : List Run) → more ≡ mine → whole ≡ bytes ++ more → all ≡ runs ++ last ∷ [] → last.place < last.past
      → IsClosed whole all last.past (content_with text bytes runs last)
  closed_run more whole all same are all_are some = record {
    runs_are = subst (λ l. AreRuns 0 l last.past) (sym all_are) (runs_more 0 runs last is.before some last_fits);
    size = copied_size more whole same are;
    value = ap (content_in whole) all_are ∙ copied_content more whole same are;
  }

  pub none_copied : runs ≡ [] → bytes ≡ []
  none_copied none = nil_from_length bytes (let at = subst (λ l. AreRuns 0 l last.place) none is.before in omega (arith, at, is.place))

  pub whole_slice : (more : List ℕ) → more ≡ mine → runs ≡ [] → more ≡ bytes ++ more
  whole_slice more same none = ap (λ l. l ++ more) (sym (none_copied none))

pub closed_from : (bytes : List ℕ) (runs : List Run) (past same : ℕ) (c : List ContentByte) → same ≡ past → AreRuns 0 runs past → past ≡ length bytes
    → content_in bytes runs ≡ c → IsClosed bytes runs same c
closed_from bytes runs past same c is are size value =
    record { runs_are = subst (AreRuns 0 runs) (sym is) are; size = is ∙ size; value = value }

-- there is no content yet
pub no_content : (text bytes : List ℕ) (runs : List Run) (last : Run) → runs ≡ [] → last ≡ empty_run 0 0 → content_with text bytes runs last ≡ []
unfolding content_in
no_content text bytes runs last none is =
    ap (λ (r : Run). content_with text bytes runs r) is ∙ ap (λ l. content_with text bytes l (empty_run 0 0)) none

-- another last run begins
pub begun : (text bytes : List ℕ) (runs : List Run) (past at : ℕ) (c : List ContentByte) → IsClosed bytes runs past c → at < 2 ^ 64
    → IsContentWith text bytes runs (empty_run past at)
begun text bytes runs past at c is small =
    let none : length (slice_range text at at) ≡ 0 = ap length (between_none text at) in
    record { before = is.runs_are; place = is.size; size = omega (arith, none); order = omega (arith, none); small = small }

pub begun_content : (text bytes : List ℕ) (runs : List Run) (past at : ℕ) (c : List ContentByte) → IsClosed bytes runs past c
    → content_with text bytes runs (empty_run past at) ≡ c
begun_content text bytes runs past at c is =
    ap (λ l. content_in bytes runs ++ placed at l) (between_none text at) ∙ append-nil (content_in bytes runs) ∙ is.value

-- a newline is added
pub newline_closed : (bytes whole : List ℕ) (runs all : List Run) (past start to : ℕ) (c : List ContentByte) → IsClosed bytes runs past c
    → whole ≡ bytes ++ 10 ∷ [] → all ≡ runs ++ run_with past (past + 1) start to ∷ [] → start < 2 ^ 64
    → IsClosed whole all (past + 1) (c ++ byte_in 10 start to ∷ [])
newline_closed bytes whole runs all past start to c is are all_are small =
    let r : Run = run_with past (past + 1) start to in
    let fits : Fits r = record { starts = (omega arith); ends = (omega arith) } in
    let from : start + (past - past) ≡ start = omega arith in
    let up : to - ((past + 1) - 1 - past) ≡ to = omega arith in
    record {
      runs_are = subst (λ l. AreRuns 0 l (past + 1)) (sym all_are) (runs_more 0 runs r is.runs_are (omega arith) fits);
      size = (omega (arith, is.size, ap length are, length_push bytes 10));
      value =
          ap (λ l. content_in l all) are ∙ ap (content_in (bytes ++ 10 ∷ [])) all_are
          ∙ content_more bytes (10 ∷ []) runs r is.runs_are is.size (omega arith)
          ∙ ap (λ l. l ++ run_from r past (10 ∷ [])) is.value
          ∙ ap (λ n. c ++ byte_in 10 n (to - ((past + 1) - 1 - past)) ∷ []) from ∙ ap (λ n. c ++ byte_in 10 start n ∷ []) up;
    }

-- a part of the text, up to its end
slice_up_to : (text : List ℕ) (start to e : ℕ) → e ≡ min to (length text) → slice_range text start to ≡ slice_range text start e
slice_up_to text start to e is =
    let n : min (to - start) (length (drop start text)) ≡ e - start = omega (arith, is, length-drop start text) in
    sym (take_min (to - start) (drop start text)) ∙ ap (λ k. take k (drop start text)) n

-- the last run grows
module _ (text bytes : List ℕ) (runs : List Run) (last : Run) (start to e : ℕ) (is : IsContentWith text bytes runs last) (at : last.«end» ≡ start)
    (some : start < e) (up : e ≡ min to (length text)) where
  abbrev longer : Run
  longer = run_with last.place (last.past + (e - start)) last.start e

  joined : slice_range text last.start e ≡ slice_range text last.start last.«end» ++ slice_range text start e
  joined =
      slice_both text last.start last.«end» e (omega (arith, is.order)) (omega (arith, at))
      ∙ ap (λ n. slice_range text last.start last.«end» ++ slice_range text n e) at

  pub grown_content : content_with text bytes runs longer ≡ content_with text bytes runs last ++ copied text (part start to)
  grown_content =
      ap (λ l. content_in bytes runs ++ placed last.start l) joined
      ∙ ap (λ l. content_in bytes runs ++ l)
      (placed_both last.start start (slice_range text last.start last.«end») (slice_range text start e) (omega (arith, is.order, at)))
      ∙ sym (append_assoc (content_in bytes runs) (placed last.start (slice_range text last.start last.«end»)) (placed start (slice_range text start e)))
      ∙ ap (λ l. content_with text bytes runs last ++ placed start l) (sym (slice_up_to text start to e up))

-- the number of bytes so far
pub built_size : (text bytes : List ℕ) (runs : List Run) (last : Run) → IsContentWith text bytes runs last
    → last.past ≡ length (content_with text bytes runs last)
built_size text bytes runs last is =
    let mine : List ℕ = slice_range text last.start last.«end» in
    let before = length_content bytes 0 last.place runs is.before (omega (arith, is.place)) in
    omega (arith, before, is.size, length-append (content_in bytes runs) (placed last.start mine), length_placed last.start mine)
  where
    length_placed : (at : ℕ) (bs : List ℕ) → length (placed at bs) ≡ length bs
    length_placed at [] = refl
    length_placed at (b ∷ bs) = ap suc (length_placed (at + 1) bs)
