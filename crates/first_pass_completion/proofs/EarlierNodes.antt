-- A node before the last child may be changed before or after the following rows are rendered.
use Rattle.std.proofs.Common.{◌≡◌, ℕ, zero, suc, ◌<◌, ◌≤◌, Bool, true, false, not, List, [], ◌∷◌, ◌++◌, length, Option, Some, None, refl, sym, ap, ◌∙◌, arith}
use Rattle.first_pass_grammar.proofs.Common.{Item, modify, Rows, Definitions, definitions_first, is_loose, items_of, with_title, list_closed, Closed}
use Rattle.first_pass_grammar.proofs.Common.{ParagraphAt, NoList, after_paragraph, rendered}
use Rattle.first_pass_grammar.proofs.Sequences.Tightening.{modify-append, length-closed}
use Rattle.first_pass_completion.proofs.TitleNodes.{reflagged, length-with_title}

-- a place before that of a paragraph that is the last child
abbrev pub IsBefore : ℕ → Closed → Type 0
IsBefore o (ParagraphAt at) = o < at
IsBefore o _ = Unit {0}

-- What is done to the nodes from a place on leaves those before it.
changed_before : (f : List (ℕ × Item) → ℕ → List (ℕ × Item)) → ((n : ℕ × Item) (nodes : List (ℕ × Item)) (at : ℕ) → f (n ∷ nodes) (suc at) ≡ n ∷ f nodes at)
    → (nodes : List (ℕ × Item)) (o at : ℕ) (g : Item → Item) → o < at → o < length nodes → f (modify nodes o g) at ≡ modify (f nodes at) o g
changed_before f front [] o at g b h = absurd (omega arith)
changed_before f front (n ∷ nodes) o zero g b h = absurd (omega arith)
changed_before f front (n ∷ nodes) zero (suc at) g b h = front _ nodes at ∙ sym (ap (λ z. modify z zero g) (front n nodes at))
changed_before f front (n ∷ nodes) (suc o) (suc at) g b h = grind (arith, changed_before f front nodes o at g (omega arith) (omega arith))

title_front : (n : ℕ × Item) (nodes : List (ℕ × Item)) (at : ℕ) → with_title (n ∷ nodes) (suc at) ≡ n ∷ with_title nodes at
unfolding with_title
title_front n nodes at = refl

closed_front : (d : ℕ) (loose : Bool) (e : ℕ) (n : ℕ × Item) (nodes : List (ℕ × Item)) (at : ℕ)
    → list_closed (n ∷ nodes) (suc at) d loose e ≡ n ∷ list_closed nodes at d loose e
unfolding list_closed
closed_front d true e n nodes at = refl
closed_front d false e n nodes at = refl

with_title-longer : (nodes : List (ℕ × Item)) (at : ℕ) → length nodes ≤ length (with_title nodes at)
unfolding with_title
with_title-longer [] at = omega arith
with_title-longer (n ∷ nodes) zero = let l = length-with_title (n ∷ nodes) 0 (omega arith) in omega arith
with_title-longer (n ∷ nodes) (suc at) = let l = with_title-longer nodes at in omega arith

changed_by : (k : ℕ) (nodes : List (ℕ × Item)) (o at : ℕ) (g : Item → Item) (ds : Option Definitions) (r : Rows) → o < length nodes → o < at
    → after_paragraph k (modify nodes o g) at ds r ≡ modify (after_paragraph k nodes at ds r) o g
changed_by k nodes o at g None r h b = sym (modify-append nodes (items_of k false r) o g h)
changed_by k nodes o at g (Some ds) r h b =
    let loose : Bool = is_loose ds.items in
    let d : ℕ = suc (suc k) in
    let more : List (ℕ × Item) = items_of (suc k) (not loose) ds.items ++ items_of k false ds.beside in
    let closed : List (ℕ × Item) = list_closed (with_title nodes at) at d loose ds.«end» in
    let l = length-closed (with_title nodes at) at d loose ds.«end» in
    let m = with_title-longer nodes at in
    ap (λ z. list_closed z at d loose ds.«end» ++ more) (changed_before with_title title_front nodes o at g b h)
    ∙ ap (λ z. z ++ more)
    (changed_before (λ z at. list_closed z at d loose ds.«end») (closed_front d loose ds.«end») (with_title nodes at) o at g b (omega arith))
    ∙ sym (modify-append closed more o g (omega arith))

pub changed-rendered : (k last : ℕ) (nodes : List (ℕ × Item)) (o : ℕ) (g : Item → Item) (closed : Closed) (r : Rows) → o < length nodes → IsBefore o closed
    → rendered k last (modify nodes o g) (NoList closed) r ≡ modify (rendered k last nodes (NoList closed) r) o g
unfolding rendered
changed-rendered k last nodes o g (ParagraphAt at) r h b = changed_by k nodes o at g (definitions_first r) r h b
changed-rendered k last nodes o g closed r h b = sym (modify-append nodes (items_of k false r) o g h)

pub reflagged-rendered : (k last : ℕ) (nodes : List (ℕ × Item)) (o : ℕ) (l : Bool) (closed : Closed) (r : Rows) → o < length nodes → IsBefore o closed
    → rendered k last (reflagged nodes o l) (NoList closed) r ≡ reflagged (rendered k last nodes (NoList closed) r) o l
unfolding reflagged
reflagged-rendered k last nodes o l closed r h b = changed-rendered k last nodes o _ closed r h b
