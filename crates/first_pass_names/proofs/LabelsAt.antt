-- Lemmas about `link_at`: its result, from the label that was read and the definition that was looked up.
use Rattle.std.proofs.Common.{◌≡◌, ℕ, false, List, Option, Some, None, IsSomeAnd, MatchOption, refl, ap, ◌∙◌, option_map}
use Rattle.first_pass_grammar.proofs.Common.{CowStr, text_of, folded, defined_under, LinkDef, label_at}
use Rattle.first_pass_names.specs.TableEntries.{link_at}

-- the call that reads a label returned this one with its length, or `None` if there is no label
abbrev pub IsReadAs : Option (ℕ × List ℕ) → Option (ℕ × CowStr) → Type 0
IsReadAs label answer = MatchOption label (answer ≡ None) (λ l. IsSomeAnd answer (λ found. (found.0 ≡ l.0) × (text_of found.1 ≡ l.1)))

-- if no label was read, `link_at` gives `None`
pub link_none : (links : List (CowStr × LinkDef)) (bs : List ℕ) (label : Option (ℕ × List ℕ)) → label_at (λ further. Some 0) false bs ≡ label
    → IsReadAs label None → None ≡ link_at links bs
unfolding link_at
link_none links bs None e read = rw e refl
link_none links bs (Some l) e read = absurd read

-- if a label was read, `link_at` gives its length and the definition that the look-up found, or `None` if the look-up found none
pub link_there : (links : List (CowStr × LinkDef)) (bs : List ℕ) (label : Option (ℕ × List ℕ)) (size : ℕ) (text : CowStr) (found : Option LinkDef)
    → label_at (λ further. Some 0) false bs ≡ label → IsReadAs label (Some (size, text)) → found ≡ defined_under (folded (text_of text)) links
    → option_map (λ link. (size, link)) found ≡ link_at links bs
unfolding link_at
link_there links bs None size text found e read is = cc
link_there links bs (Some l) size text found e read is =
    let at : ℕ → List ℕ → Option (ℕ × LinkDef) = λ n xs. option_map (λ link. (n, link)) (defined_under (folded xs) links) in
    ap (option_map (λ link. (size, link))) is ∙ ap (λ n. at n (text_of text)) read.0 ∙ ap (at l.0) read.1 ∙ rw e refl
