-- Tokens of possible markup have the bytes of their kinds, and no text has a backquote, also after one more token.
use Rattle.std.proofs.Common.{◌≡◌, ℕ, true, List, inl, inr, arith}
use Rattle.first_pass_tokens.proofs.Common.{Item, cases_lt, false≢true, is_text, add_token, StandsOver, StandOver, HasNoBackquote, TextsHaveNoBackquote}
use Rattle.first_pass_tokens.proofs.Common.{ItemBody}
use Rattle.first_pass_tokens.proofs.ChainLemmas.{add_token-by}

-- a text is no markup, whatever its range
text_over : (text : List ℕ) (start end : ℕ) (body : ItemBody) → is_text body ≡ true → StandsOver text start end body
text_over text start end body h = grind (arith, false≢true)

-- a token is appended
pub over_add : (text : List ℕ) (chain : List Item) (y : Item) → StandsOver text y.start y.«end» y.body → StandOver text chain
    → StandOver text (add_token chain y)
over_add text chain y over =
    add_token-by (λ xs ys. StandOver text xs → StandOver text ys) y (λ h. (over, tt))
    (λ x t first second place h. (text_over text x.start y.«end» x.body first, tt)) (λ x xs ys add h. (h.0, add h.1)) chain

-- a token is appended; a text that is joined has the bytes of both
pub spare_add : (text : List ℕ) (chain : List Item) (y : Item) → (is_text y.body ≡ true → HasNoBackquote text y.start y.«end»)
    → TextsHaveNoBackquote text chain → TextsHaveNoBackquote text (add_token chain y)
spare_add text chain y none =
    add_token-by (λ xs ys. TextsHaveNoBackquote text xs → TextsHaveNoBackquote text ys) y (λ h. (none, tt))
    (λ x t first second place h.
    ((λ is k low high. elim (cases_lt k x.«end») [ inl before ↦ h.0 first k low before | inr later ↦ none second k (omega arith) high ]), tt))
    (λ x xs ys add h. (h.0, add h.1)) chain
