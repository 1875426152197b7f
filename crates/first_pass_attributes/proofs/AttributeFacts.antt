-- The effect of a word on attributes.
use Rattle.std.proofs.Common.{◌≡◌, ℕ, Bool, true, false, cond, get_or, List, [], ◌∷◌, ◌++◌, map, filter, drop, Option, Some, refl, sym, ap, ◌∙◌}
use Rattle.std.proofs.Common.{append_assoc, append-nil, ne_eqb, arith}
use Rattle.first_pass_items.specs.Bytes.{number_sign, full_stop}
use Rattle.first_pass_lines.specs.Lines.{begins}
use Rattle.first_pass_attributes.specs.Attributes.{Attributes, attributes_in, attributes_of, no_attributes, is_attribute_word, words}
use Rattle.first_pass_attributes.specs.Attributes.{key_and_value, last_or, with_words}
use Rattle.first_pass_attributes.specs.declared.heading_attributes.HeadingAttributes.{HeadingAttributes}

-- attributes are equal if their three parts are
pub same_parts : {i j : Option (List ℕ)} {c d : List (List ℕ)} {e f : List (List ℕ × Option (List ℕ))}
    → i ≡ j → c ≡ d → e ≡ f → ◌≡◌ {A = Attributes} (record { id = i; classes = c; attrs = e }) (record { id = j; classes = d; attrs = f })
same_parts p q r = rw (p, q, r) refl

with-none : (a : Attributes) → with_words a [] ≡ a
unfolding with_words
with-none a = same_parts refl (append-nil a.classes) (append-nil a.attrs)

-- one more value, of a word that is kept or not
last-more : {X Y : Type 0} (f : X → Y) (t : Bool) (w : X) (ws : List X) (o : Option Y)
    → last_or o (map f (cond t (w ∷ ws) ws)) ≡ last_or (last_or o (map f (cond t (w ∷ []) []))) (map f ws)
last-more f true w ws o = refl
last-more f false w ws o = refl

all-more : {X Y : Type 0} (f : X → Y) (t : Bool) (w : X) (ws : List X) (ys : List Y)
    → ys ++ map f (cond t (w ∷ ws) ws) ≡ (ys ++ map f (cond t (w ∷ []) [])) ++ map f ws
all-more f true w ws ys = sym (append_assoc ys (f w ∷ []) (map f ws))
all-more f false w ws ys = ap (λ zs. zs ++ map f ws) (sym (append-nil ys))

-- the first of several words is added before the others
with-first : (a : Attributes) (w : List ℕ) (ws : List (List ℕ)) → with_words a (w ∷ ws) ≡ with_words (with_words a (w ∷ [])) ws
unfolding with_words
with-first a w ws = grind (arith, same_parts, last-more, all-more)

with-told : (a : Attributes) (t : Bool) (w : List ℕ) (ws : List (List ℕ))
    → with_words a (cond t (w ∷ ws) ws) ≡ with_words (with_words a (cond t (w ∷ []) [])) ws
with-told a true w ws = with-first a w ws
with-told a false w ws = ap (λ b. with_words b ws) (sym (with-none a))

-- the attributes of a block are those of its words, added to none
pub from_none : (bs : List ℕ) (empty : HeadingAttributes) → attributes_in empty ≡ no_attributes
    → with_words (attributes_in empty) (filter is_attribute_word (words bs)) ≡ attributes_of bs
unfolding attributes_of
from_none bs empty e = ap (λ (a : Attributes). with_words a (filter is_attribute_word (words bs))) e

-- the same for a word that may have no attribute
pub with-next : (a : Attributes) (w : List ℕ) (ws : List (List ℕ))
    → with_words a (filter is_attribute_word (w ∷ ws)) ≡ with_words (with_words a (filter is_attribute_word (w ∷ []))) (filter is_attribute_word ws)
with-next a w ws = with-told a (is_attribute_word w) w (filter is_attribute_word ws)

-- a word without an attribute
pub told-none : (a : Attributes) (w : List ℕ) → is_attribute_word w ≡ false → with_words a (filter is_attribute_word (w ∷ [])) ≡ a
told-none a w h = ap (λ t. with_words a (cond t (w ∷ []) [])) h ∙ with-none a

-- a word with an attribute
telling : (a : Attributes) (w : List ℕ) → is_attribute_word w ≡ true → with_words a (filter is_attribute_word (w ∷ [])) ≡ with_words a (w ∷ [])
telling a w h = ap (λ t. with_words a (cond t (w ∷ []) [])) h

pub told-id : (a : Attributes) (w x : List ℕ) → is_attribute_word w ≡ true → w ≡ number_sign ∷ x
    → with_words a (filter is_attribute_word (w ∷ [])) ≡ record { id = Some x; classes = a.classes; attrs = a.attrs }
unfolding with_words
told-id a w x h e = telling a w h ∙ ap (λ v. with_words a (v ∷ [])) e ∙ same_parts refl (append-nil a.classes) (append-nil a.attrs)

pub told-class : (a : Attributes) (w x : List ℕ) → is_attribute_word w ≡ true → w ≡ full_stop ∷ x
    → with_words a (filter is_attribute_word (w ∷ [])) ≡ record { id = a.id; classes = a.classes ++ x ∷ []; attrs = a.attrs }
unfolding with_words
told-class a w x h e = telling a w h ∙ ap (λ v. with_words a (v ∷ [])) e ∙ same_parts refl refl (append-nil a.attrs)

-- the mark of a word
pub begins-mark : (c : ℕ) (w : List ℕ) → is_attribute_word w ≡ true → get_or w 0 0 ≡ c → w ≡ c ∷ drop 1 w
begins-mark c [] h e = absurd (cc)
begins-mark c (b ∷ bs) h e = ap (λ x. x ∷ bs) e

pub begins-other : (c : ℕ) (w : List ℕ) → is_attribute_word w ≡ true → ¬ (get_or w 0 0 ≡ c) → begins c w ≡ false
begins-other c [] h e = refl
begins-other c (b ∷ bs) h e = ne_eqb b c e

pub told-key : (a : Attributes) (w : List ℕ) → is_attribute_word w ≡ true → begins number_sign w ≡ false → begins full_stop w ≡ false
    → with_words a (filter is_attribute_word (w ∷ [])) ≡ record { id = a.id; classes = a.classes; attrs = a.attrs ++ key_and_value w ∷ [] }
unfolding with_words
told-key a w h e f = telling a w h ∙ rw (e, f) (same_parts refl (append-nil a.classes) refl)
