-- The levels of the open headings, and the depth of the next heading.
use Rattle.std.proofs.Common.{◌≡◌, ℕ, suc, ◌+◌, ◌≤◌, Bool, false, List, [], ◌∷◌, ◌++◌, length, map, take, nat_lt, not, refl, sym, ap, ◌∙◌, arith}
use Rattle.std.proofs.Common.{append_assoc, append-nil, flat_map, subst, Option, Some, None, if◌then◌else◌}
use Rattle.std.specs.List.{cons_option}
use Rattle.std.proofs.lemmas.Bool.Decides.{nat_tests}
use Rattle.std.proofs.lemmas.List.Sums.{prefix_len-le-length}
use Rattle.std.proofs.lemmas.List.{length-take-le, length-append}
use Rattle.first_pass_outline.specs.ContentsLines.{open_at_end}
use Rattle.first_pass_outline.specs.ContentsViews.{AddsEntry, AddsNode, around_count, with_level, placed_in, placed_among}
use Rattle.first_pass_outline.specs.EntryTexts.{is_unwritten}
use Rattle.first_pass_outline.specs.Nesting.{Placed, depth_after, open_after, level_of_title, place, placed, contents}
use Rattle.first_pass_outline.specs.Titles.{Title}
use Rattle.first_pass_outline.specs.declared.contents.Contents.{Contents}

-- the levels of the headings that are open after headings of these levels, the nearest first; the outermost comes first
abbrev pub open_levels : List ℕ → List ℕ
open_levels [] = []
open_levels (level ∷ earlier) = with_level (open_levels earlier) level

take_more : (x : ℕ) (xs : List ℕ) (n : ℕ) → take (1 + n) (x ∷ xs) ≡ x ∷ take n xs
take_more x xs n = let e : 1 + n ≡ suc n = omega arith in ap (λ k. take k (x ∷ xs)) e

-- the headings around one of this level, after one of another level
around_more : (levels : List ℕ) (last level : ℕ)
    → around_count (with_level levels last) level ≡ (if nat_lt last level then suc (around_count levels last) else around_count levels level)
around_more [] last level = refl
around_more (x ∷ levels) last level = grind (arith, nat_tests, around_more levels last level, take_more x levels (around_count levels last))

pub depth_is : (earlier : List ℕ) (level : ℕ) → around_count (open_levels earlier) level ≡ depth_after earlier level
depth_is [] level = refl
depth_is (last ∷ earlier) level =
    let inner = depth_is earlier last in
    let outer = depth_is earlier level in
    around_more (open_levels earlier) last level ∙ ap (λ n. if nat_lt last level then suc n else around_count (open_levels earlier) level) inner
    ∙ ap (λ n. if nat_lt last level then suc (depth_after earlier last) else n) outer

pub open_is : (earlier : List ℕ) → length (open_levels earlier) ≡ open_after earlier
open_is [] = refl
open_is (last ∷ earlier) =
    let levels : List ℕ = open_levels earlier in
    let n : ℕ = around_count levels last in
    let within : n ≤ length levels = prefix_len-le-length (λ outer. nat_lt outer last) levels in
    let size = length-append (take n levels) (last ∷ []) in
    let front = length-take-le n levels within in
    let depth : n ≡ depth_after earlier last = depth_is earlier last in
    omega arith

-- the entry of a heading
placed_is : (earlier levels : List ℕ) (follows : Bool) (title : Title) → levels ≡ open_levels earlier
    → placed_among levels follows title ≡ place earlier follows title
placed_is earlier levels follows title are =
    let depth = ap (λ l. around_count l (level_of_title title)) are ∙ depth_is earlier (level_of_title title) in
    let opened = ap length are ∙ open_is earlier in
    ap (λ d. record { title = title; depth = d; open_before = length levels; follows_text = follows }) depth
    ∙ ap (λ n. record { title = title; depth = depth_after earlier (level_of_title title); open_before = n; follows_text = follows }) opened

-- the headings so far, and those of the rest: the entries of both are those of all headings
pub record HasEntries (c : Contents) (rest all : List Title) : Type 0 where
  -- the levels of the headings so far, the nearest first
  pub earlier : List ℕ
  pub levels : c.levels.items ≡ open_levels earlier
  pub entries : map placed_in c.entries.items ++ placed earlier c.has_text rest ≡ contents all
  pub at_end : open_at_end (length c.levels.items) (placed earlier c.has_text rest) ≡ open_at_end 0 (contents all)

-- before the first heading
pub no_entries : (c : Contents) (all : List Title) → c.entries.items ≡ [] → c.levels.items ≡ [] → c.has_text ≡ false → HasEntries c all all
no_entries c all none no_levels no_text =
    let start : placed [] c.has_text all ≡ contents all = ap (λ b. placed [] b all) no_text in
    record {
      earlier = [];
      levels = no_levels;
      entries = ap (λ s. map placed_in s ++ placed [] c.has_text all) none ∙ start;
      at_end = ap (λ l. open_at_end (length l) (placed [] c.has_text all)) no_levels ∙ ap (open_at_end 0) start;
    }

-- after a heading
entry_added : (old new : Contents) (title : Title) (others all : List Title) → AddsEntry old new title
    → HasEntries old (title ∷ others) all → HasEntries new others all
unfolding placed
entry_added old new title others all added h =
    let level : ℕ = level_of_title title in
    let inner : List ℕ = level ∷ h.earlier in
    let so_far : List Placed = map placed_in old.entries.items in
    let here : Placed = place h.earlier old.has_text title in
    let left : List Placed = placed inner (not (is_unwritten title)) others in
    let levels : new.levels.items ≡ open_levels inner = added.levels ∙ ap (λ l. with_level l level) h.levels in
    let size : length new.levels.items ≡ suc (depth_after h.earlier level) = ap length levels ∙ open_is inner in
    let next : placed inner new.has_text others ≡ left = ap (λ b. placed inner b others) added.text in
    let among = placed_is h.earlier old.levels.items old.has_text title h.levels in
    record {
      earlier = inner;
      levels = levels;
      entries = ap (λ s. s ++ placed inner new.has_text others) (added.entries ∙ ap (λ e. so_far ++ e ∷ []) among)
          ∙ append_assoc so_far (here ∷ []) (placed inner new.has_text others) ∙ ap (λ l. so_far ++ here ∷ l) next ∙ h.entries;
      at_end = ap (λ n. open_at_end n (placed inner new.has_text others)) size ∙ ap (open_at_end (suc (depth_after h.earlier level))) next
          ∙ h.at_end;
    }

-- after a node
pub node_added : (old new : Contents) (found : Option Title) (rest others all : List Title) → rest ≡ cons_option found others → AddsNode old new found
    → HasEntries old rest all → HasEntries new others all
node_added old new None rest others all rest_is same h =
    subst (λ c. HasEntries c others all) (sym same) (subst (λ l. HasEntries old l all) rest_is h)
node_added old new (Some title) rest others all rest_is added h = entry_added old new title others all added (subst (λ l. HasEntries old l all) rest_is h)

-- after the last heading
pub all_added : (c : Contents) (rest all : List Title) → rest ≡ [] → HasEntries c rest all
    → (map placed_in c.entries.items ≡ contents all) × (length c.levels.items ≡ open_at_end 0 (contents all))
unfolding placed
all_added c rest all none h = (
  sym (append-nil (map placed_in c.entries.items)) ∙ ap (λ l. map placed_in c.entries.items ++ placed h.earlier c.has_text l) (sym none) ∙ h.entries,
  ap (λ l. open_at_end (length c.levels.items) (placed h.earlier c.has_text l)) (sym none) ∙ h.at_end,
)

-- the lines of the headings of entries are those of all headings
pub lines_of_titles : (line : Title → List ℕ) (earlier : List ℕ) (has_text : Bool) (titles : List Title)
    → flat_map (λ (entry : Placed). line entry.title) (placed earlier has_text titles) ≡ flat_map line titles
unfolding placed
lines_of_titles line earlier has_text [] = refl
lines_of_titles line earlier has_text (title ∷ titles) =
    ap (λ l. line title ++ l) (lines_of_titles line (level_of_title title ∷ earlier) (not (is_unwritten title)) titles)
