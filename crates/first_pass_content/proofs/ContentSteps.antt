-- The content of a chain, token by token.
use Rattle.std.proofs.Common.{◌≡◌, ℕ, ◌+◌, List, [], ◌∷◌, ◌++◌, length, refl, sym, ap, ◌∙◌, arith, append_assoc, append-nil}
use Rattle.std.proofs.lemmas.List.{length-append, nil_from_length}
use Rattle.first_pass_items.specs.declared.item.Item.{Item}
use Rattle.first_pass_content.specs.Content.{ContentByte, content, gap_content, token_content}
use Rattle.first_pass_content.specs.Tokens.{placed_tokens, token_between}
use Rattle.first_pass_content.specs.declared.tokens.PlacedToken.{PlacedToken}

pub content_first : (text : List ℕ) (token : ℕ × Item) (others tokens : List (ℕ × Item)) → tokens ≡ token ∷ others
    → content text tokens ≡ token_content text token.1 ++ (gap_content text token.1 others ++ content text others)
unfolding content
content_first text token others tokens are = ap (content text) are

content_none : (text : List ℕ) (tokens : List (ℕ × Item)) → length tokens ≡ 0 → content text tokens ≡ []
unfolding content
content_none text [] none = refl
content_none text (token ∷ tokens) none = absurd (omega arith)

-- a content so far goes on with a token, and is whole after the last one
module _ (text : List ℕ) (tokens : List (ℕ × Item)) (old whole : List ContentByte) (so_far : old ++ content text tokens ≡ whole) where
  pub goes_on : (token : ℕ × Item) (others : List (ℕ × Item)) (new : List ContentByte) → tokens ≡ token ∷ others
      → new ≡ old ++ (token_content text token.1 ++ gap_content text token.1 others) → new ++ content text others ≡ whole
  goes_on token others new are is =
      let t = token_content text token.1 in
      let g = gap_content text token.1 others in
      let rest = content text others in
      ap (λ l. l ++ rest) is ∙ append_assoc old (t ++ g) rest
      ∙ ap (λ l. old ++ l) (append_assoc t g rest ∙ sym (content_first text token others tokens are)) ∙ so_far

  pub is_whole : length tokens ≡ 0 → old ≡ whole
  is_whole none = sym (append-nil old) ∙ ap (λ l. old ++ l) (sym (content_none text tokens none)) ∙ so_far

-- the tokens so far, when the content has grown by that of one more token
module _ (text : List ℕ) (tokens : List (ℕ × Item)) (old : List ContentByte) (placed whole : List PlacedToken)
    (so_far : placed ++ placed_tokens text (length old) tokens ≡ whole) where
  pub placed_on : (token : ℕ × Item) (others : List (ℕ × Item)) (own new : List ContentByte) (more : List PlacedToken) → tokens ≡ token ∷ others
      → own ≡ old ++ token_content text token.1 → new ≡ own ++ gap_content text token.1 others
      → more ≡ placed ++ token_between token.1 (length old) (length own) ∷ [] → more ++ placed_tokens text (length new) others ≡ whole
  unfolding placed_tokens
  placed_on token others own new more are own_is new_is more_is =
      let past : length own ≡ length old + length (token_content text token.1) = ap length own_is ∙ length-append old (token_content text token.1) in
      let all : length new ≡ length old + length (token_content text token.1) + length (gap_content text token.1 others) =
      omega (arith, ap length new_is, length-append own (gap_content text token.1 others), past) in
      rw (more_is, past, all) (append_assoc placed _ _ ∙ ap (λ l. placed ++ placed_tokens text (length old) l) (sym are) ∙ so_far)

  pub placed_whole : length tokens ≡ 0 → placed ≡ whole
  unfolding placed_tokens
  placed_whole none = sym (append-nil placed) ∙ ap (λ l. placed ++ placed_tokens text (length old) l) (sym (nil_from_length tokens none)) ∙ so_far

-- the content of a token and the gap after it, one after the other
pub both_added : (text : List ℕ) (token : Item) (others : List (ℕ × Item)) (old own new : List ContentByte) → own ≡ old ++ token_content text token
    → new ≡ own ++ gap_content text token others → new ≡ old ++ (token_content text token ++ gap_content text token others)
both_added text token others old own new own_is new_is =
    new_is ∙ ap (λ l. l ++ gap_content text token others) own_is ∙ append_assoc old (token_content text token) (gap_content text token others)
