-- The first token from an index on that has a number, and the tables of such tokens.
use Rattle.std.proofs.Common.{◌≡◌, ℕ, zero, suc, ◌+◌, ◌<◌, ◌≤◌, ◌==◌, Bool, true, false}
use Rattle.std.proofs.Common.{List, [], ◌∷◌, length, drop, get_or, set, Option, Some, None, IfSome, nat_eq, ◌-◌, ◌++◌, if◌then◌else◌}
use Rattle.std.proofs.Common.{⊎_elim, refl, sym, ap, ◌∙◌, arith, replicate}
use Rattle.std.specs.List.{position_or_len, slice_get}
use Rattle.std.specs.Option.{option_and_then, option_eq}
use Rattle.std.proofs.lemmas.Bool.{cases_eq, eq-eqb, ne_eqb}
use Rattle.std.proofs.lemmas.List.{get_or-set_same, get_or-set_other, length-set, get_or-replicate, length-replicate}
use Rattle.std.proofs.lemmas.Option.{none-some, same_Some, option_and_then_some, slice_get_within}
use Rattle.std.proofs.lemmas.Grind.{replicate_next}
use Rattle.first_pass_lines.proofs.OptionFacts.{some_unless}
use Rattle.std.proofs.Math.ListN.{drop_of_length-le}
use Rattle.first_pass_items.specs.declared.item.Item.{Item}
use Rattle.first_pass_items.specs.declared.item.ItemBody.{ItemBody}
use Rattle.first_pass_atoms.specs.TokenEnds.{code_key, follows_backslash, code_sought, math_key, key_at, is_number, has_math, in_chain, first_from, later}
use Rattle.first_pass_atoms.specs.NextTokens.{key, sought, has_key, KeysBelow, KeysIn, IsLastFrom, HasNext, IsNextFrom}
use Rattle.first_pass_atoms.specs.declared.token_ends.Mark.{Mark}
use Rattle.first_pass_atoms.specs.declared.token_ends.Mark.TheVariants.{Code, Math}

-- the token with an index, and those after it
drop_at : (tokens : List (ℕ × Item)) (i : ℕ) (x : ℕ × Item) → slice_get tokens i ≡ Some x → drop i tokens ≡ x ∷ drop (suc i) tokens
drop_at [] i x h = absurd (none-some x h)
drop_at (y ∷ ys) zero x h = ap (λ z. z ∷ ys) (same_Some y x h)
drop_at (y ∷ ys) (suc i) x h = drop_at ys i x h

pub hit : (test : ℕ × Item → Bool) (tokens : List (ℕ × Item)) (i : ℕ) (x : ℕ × Item) → slice_get tokens i ≡ Some x → test x ≡ true
    → first_from test tokens i ≡ i
hit test tokens i x at h = ap (λ l. i + position_or_len test l) (drop_at tokens i x at) ∙ rw h (omega arith)

pub miss : (test : ℕ × Item → Bool) (tokens : List (ℕ × Item)) (i : ℕ) (x : ℕ × Item) → slice_get tokens i ≡ Some x → test x ≡ false
    → first_from test tokens i ≡ first_from test tokens (i + 1)
miss test tokens i x at h =
    let e : suc i ≡ i + 1 = omega arith in
    let r : position_or_len test (drop (suc i) tokens) ≡ position_or_len test (drop (i + 1) tokens) = ap (λ k. position_or_len test (drop k tokens)) e in
    ap (λ l. i + position_or_len test l) (drop_at tokens i x at) ∙ rw h (omega (arith, r))

pub past : (test : ℕ × Item → Bool) (tokens : List (ℕ × Item)) (i : ℕ) → length tokens ≤ i → first_from test tokens i ≡ i
past test tokens i h = ap (λ l. i + position_or_len test l) (drop_of_length-le tokens h) ∙ omega arith

-- what a token has
key_by : (f : ItemBody → Option ℕ) (o : Option (ℕ × Item)) (n : ℕ) → option_and_then (λ (token : ℕ × Item). f token.1.body) o ≡ Some n
    → (x : ℕ × Item) × (o ≡ Some x) × (f x.1.body ≡ Some n)
key_by f None n h = absurd (none-some n h)
key_by f (Some x) n h = (x, refl, h)

pub key_token : (f : ItemBody → Option ℕ) (tokens : List (ℕ × Item)) (i n : ℕ) → key_at f tokens i ≡ Some n
    → (x : ℕ × Item) × (slice_get tokens i ≡ Some x) × (f x.1.body ≡ Some n)
key_token f tokens i n h = key_by f (slice_get tokens i) n h

pub key_within : (f : ItemBody → Option ℕ) (tokens : List (ℕ × Item)) (i n : ℕ) → key_at f tokens i ≡ Some n → i < length tokens
key_within f tokens i n h = let t = key_token f tokens i n h in slice_get_within tokens i t.0 t.1

pub key_of_token : (f : ItemBody → Option ℕ) (tokens : List (ℕ × Item)) (i : ℕ) (x : ℕ × Item) → slice_get tokens i ≡ Some x → key_at f tokens i ≡ f x.1.body
key_of_token f tokens i x h = ap (option_and_then (λ (token : ℕ × Item). f token.1.body)) h

-- a number is that of an option, or another
pub is_same : (n : ℕ) (o : Option ℕ) → o ≡ Some n → is_number n o ≡ true
is_same n o h = rw h (eq-eqb n n refl)

pub is_other : (n m : ℕ) (o : Option ℕ) → o ≡ Some m → (n ≡ m → ⊥) → is_number n o ≡ false
is_other n m o h other = rw h (ne_eqb m n (λ e. other (sym e)))

pub is_none : (n : ℕ) (o : Option ℕ) → o ≡ None → is_number n o ≡ false
is_none n o h = rw h refl

-- the table of next tokens
pub next_set : (mark : Mark) (tokens : List (ℕ × Item)) (at : ℕ) (items : List ℕ) (n v : ℕ)
    → IsNextFrom mark tokens (at + 1) items → at < length items → key_at (sought mark) tokens at ≡ Some n
    → v ≡ first_from (has_key mark n) tokens (at + 1) → IsNextFrom mark tokens at (set items at v)
next_set mark tokens at items n v h within here value i m le e =
    let size = length-set items at v in
    ⊎_elim
    (λ (same : i ≡ at).
    let number : m ≡ n = same_Some m n (sym e ∙ ap (key_at (sought mark) tokens) same ∙ here) in (
      omega (arith, size),
      ap (λ k. get_or (set items at v) k 0) same ∙ get_or-set_same items at v 0 within ∙ value
          ∙ ap (λ k. first_from (has_key mark n) tokens (k + 1)) (sym same)
          ∙ ap (λ k. first_from (has_key mark k) tokens (i + 1)) (sym number),
    ))
    (λ (other : i ≡ at → ⊥).
    let r : HasNext mark tokens items i m = h i m (omega (arith, other)) e in
    (omega (arith, size, r.0), get_or-set_other items at i v 0 other ∙ r.1))
    (cases_eq i at)

pub next_none : (mark : Mark) (tokens : List (ℕ × Item)) (at : ℕ) (items : List ℕ)
    → IsNextFrom mark tokens (at + 1) items → key_at (sought mark) tokens at ≡ None → IsNextFrom mark tokens at items
next_none mark tokens at items h none i m le e =
    ⊎_elim
    (λ (same : i ≡ at). absurd (none-some m (sym none ∙ ap (key_at (sought mark) tokens) (sym same) ∙ e)))
    (λ (other : i ≡ at → ⊥). h i m (omega (arith, other)) e)
    (cases_eq i at)

pub next_empty : (mark : Mark) (tokens : List (ℕ × Item)) (from : ℕ) (items : List ℕ)
    → ((i n : ℕ) → key_at (sought mark) tokens i ≡ Some n → ⊥) → IsNextFrom mark tokens from items
next_empty mark tokens from items h i n le e = absurd (h i n e)

pub next_start : (mark : Mark) (tokens : List (ℕ × Item)) (items : List ℕ) → IsNextFrom mark tokens (length tokens) items
next_start mark tokens items i n le e = absurd (omega (arith, key_within (sought mark) tokens i n e))

-- the table of first tokens
pub last_set : (mark : Mark) (tokens : List (ℕ × Item)) (at n : ℕ) (items : List ℕ)
    → IsLastFrom mark tokens (at + 1) items → key_at (key mark) tokens at ≡ Some n → n < length items → IsLastFrom mark tokens at (set items n at)
last_set mark tokens at n items h here within m below =
    let t = key_token (key mark) tokens at n here in
    let size = length-set items n at in
    ⊎_elim
    (λ (same : m ≡ n).
    ap (λ k. get_or (set items n at) k 0) same ∙ get_or-set_same items n at 0 within
    ∙ sym (hit (has_key mark m) tokens at t.0 t.1 (is_same m (key mark t.0.1.body) (t.2 ∙ ap Some (sym same)))))
    (λ (other : m ≡ n → ⊥).
    get_or-set_other items n m at 0 other ∙ h m (omega (arith, size))
    ∙ sym (miss (has_key mark m) tokens at t.0 t.1 (is_other m n (key mark t.0.1.body) t.2 other)))
    (cases_eq m n)

pub last_none : (mark : Mark) (tokens : List (ℕ × Item)) (at : ℕ) (x : ℕ × Item) (items : List ℕ)
    → IsLastFrom mark tokens (at + 1) items → slice_get tokens at ≡ Some x → key_at (key mark) tokens at ≡ None → IsLastFrom mark tokens at items
last_none mark tokens at x items h there none m below =
    h m below ∙ sym (miss (has_key mark m) tokens at x there (is_none m (key mark x.1.body) (sym (key_of_token (key mark) tokens at x there) ∙ none)))

-- a token that seeks a number has one
sized : (t : Bool) (count n : ℕ) → (if t then count - 1 else count) ≡ n → n ≤ count
sized true count n h = omega (arith, h)
sized false count n h = omega (arith, h)

code_by : (body : ItemBody) (n : ℕ) → code_sought body ≡ Some n → (m : ℕ) × (code_key body ≡ Some m) × (n ≤ m)
code_by body n h = option_and_then_some _ (code_key body) n h (λ count e g.
    let size : ℕ = if follows_backslash body then count - 1 else count in
    let s = some_unless (size == 0) (Some size) n g in
    (count, e, sized (follows_backslash body) count n (same_Some size n s.1)))

pub sought_key : (mark : Mark) (tokens : List (ℕ × Item)) (i n : ℕ) → key_at (sought mark) tokens i ≡ Some n
    → (m : ℕ) × (key_at (key mark) tokens i ≡ Some m) × (n ≤ m)
sought_key Math tokens i n h = (n, h, omega arith)
sought_key Code tokens i n h =
    let t = key_token code_sought tokens i n h in
    let k = code_by t.0.1.body n t.2 in
    (k.0, key_of_token code_key tokens i t.0 t.1 ∙ k.1, k.2)

pub sought_below : (mark : Mark) (tokens : List (ℕ × Item)) (bound i n : ℕ) → KeysBelow mark tokens bound → key_at (sought mark) tokens i ≡ Some n → n < bound
sought_below mark tokens bound i n keys h =
    let k = sought_key mark tokens i n h in
    let below : k.0 < bound = keys i k.0 k.1 in
    omega (arith, below, k.2)

-- no token has a number, or all have one up to the greatest
pub none_sought : (mark : Mark) (tokens : List (ℕ × Item)) → KeysIn mark tokens (length tokens) None → (i n : ℕ) → key_at (sought mark) tokens i ≡ Some n → ⊥
none_sought mark tokens keys i n h =
    let k = sought_key mark tokens i n h in
    keys i k.0 (key_within (key mark) tokens i k.0 k.1) k.1

pub keys_below : (mark : Mark) (tokens : List (ℕ × Item)) (most bound : ℕ) → KeysIn mark tokens (length tokens) (Some most) → most + 1 ≡ bound
    → KeysBelow mark tokens bound
keys_below mark tokens most bound keys e i n h =
    let le : n ≤ most = keys i n (key_within (key mark) tokens i n h) h in
    omega (arith, e, le)

-- there is a token
pub some_token : (tokens : List (ℕ × Item)) (i : ℕ) → i < length tokens → (x : ℕ × Item) × (slice_get tokens i ≡ Some x)
some_token [] i h = absurd (omega arith)
some_token (x ∷ tokens) zero h = (x, refl)
some_token (x ∷ tokens) (suc i) h = some_token tokens i (omega arith)

-- the next token with a number is after a token that has another one
number_eq : (n : ℕ) (o : Option ℕ) → option_eq nat_eq o (Some n) ≡ is_number n o
number_eq n None = refl
number_eq n (Some m) = refl

pub later_skips : (tokens : List (ℕ × Item)) (at context : ℕ) → at + 1 < length tokens
    → option_eq nat_eq (key_at math_key tokens (at + 1)) (Some context) ≡ false
    → later (has_math context) tokens at ≡ later (has_math context) tokens (at + 1)
later_skips tokens at context h other =
    let t = some_token tokens (at + 1) h in
    ap (in_chain tokens) (miss (has_math context) tokens (at + 1) t.0 t.1
    (sym (number_eq context (math_key t.0.1.body)) ∙ ap (λ o. option_eq nat_eq o (Some context)) (sym (key_of_token math_key tokens (at + 1) t.0 t.1)) ∙ other))

-- an index of the chain that a table has
pub within_chain : (o : Option ℕ) (at v size : ℕ) → at < v → IfSome o (λ i. (i ≡ v) × (i < size)) → IfSome o (λ i. (at < i) × (i < size))
within_chain None at v size h w = tt
within_chain (Some i) at v size h w = (omega (arith, h, w.0), w.1)

-- the first entries
pub last_start : (mark : Mark) (tokens : List (ℕ × Item)) (most : ℕ) (items : List ℕ)
    → items ≡ replicate most (length tokens) ++ length tokens ∷ [] → IsLastFrom mark tokens (length tokens) items
last_start mark tokens most items e n below =
    let all : items ≡ replicate (most + 1) (length tokens) = e ∙ sym (replicate_next most (length tokens)) in
    let size : length items ≡ most + 1 = ap length all ∙ length-replicate (most + 1) (length tokens) in
    ap (λ l. get_or l n 0) all ∙ get_or-replicate (most + 1) n (length tokens) 0 (omega (arith, size, below))
    ∙ sym (past (has_key mark n) tokens (length tokens) (omega arith))

-- an entry of a table
pub entry_in : (tokens : List (ℕ × Item)) (next items : List ℕ) (at : ℕ) (test : ℕ × Item → Bool) → next ≡ items
    → get_or items at 0 ≡ first_from test tokens (at + 1)
    → in_chain tokens (get_or next at 0) ≡ later test tokens at
entry_in tokens next items at test e h = ap (in_chain tokens) (ap (λ l. get_or l at 0) e ∙ h)

pub entry_within : (tokens : List (ℕ × Item)) (next items : List ℕ) (at : ℕ) (test : ℕ × Item → Bool) (o : Option ℕ)
    → next ≡ items → get_or items at 0 ≡ first_from test tokens (at + 1)
    → IfSome o (λ i. (i ≡ get_or next at 0) × (i < length tokens)) → IfSome o (λ i. (at < i) × (i < length tokens))
entry_within tokens next items at test o e h w = within_chain o at (get_or next at 0) (length tokens) (omega (arith, ap (λ l. get_or l at 0) e, h)) w
