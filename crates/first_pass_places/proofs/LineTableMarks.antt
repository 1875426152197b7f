-- The places that a table of a text's lines has, as they are added.
use Rattle.std.proofs.Common.{◌≡◌, ℕ, ◌+◌, ◌*◌, ◌<◌, ◌≤◌, ◌⊎◌, List, [], ◌∷◌, ◌++◌, length, get_or, sym, ap, ◌∙◌, arith, inl, inr}
use Rattle.std.proofs.lemmas.Bool.{cases_lt}
use Rattle.std.proofs.lemmas.List.{get_or_append_left, get_or_push, length_push}
use Rattle.first_pass_places.specs.LineColumns.{line_column}
use Rattle.first_pass_places.specs.LineTables.{AreMarks}
use Rattle.first_pass_places.specs.declared.line_column.LineColumn.{LineColumn}

-- the marks before an offset, and the place of that
pub record MarksTo (text : List ℕ) (marks : List LineColumn) (at : ℕ) (place : LineColumn) : Type 0 where
  pub each : (k : ℕ) (d : LineColumn) → k < length marks → get_or marks k d ≡ line_column text (k * 64)
  pub size : at ≡ length marks * 64
  pub within : at ≤ length text
  pub here : place ≡ line_column text at

pub no_marks : (text : List ℕ) (marks : List LineColumn) (place : LineColumn) → marks ≡ [] → place ≡ line_column text 0 → MarksTo text marks 0 place
no_marks text marks place none here = record {
  each = λ k d within. absurd (omega (arith, ap length none));
  size = omega (arith, ap length none);
  within = omega arith;
  here = here;
}

module _ (text : List ℕ) (marks more : List LineColumn) (at : ℕ) (place : LineColumn) (is : more ≡ marks ++ place ∷ [])
    (before : MarksTo text marks at place) where
  mark_at : (k : ℕ) (d : LineColumn) → k < length more → (k < length marks) ⊎ (length marks ≤ k) → get_or more k d ≡ line_column text (k * 64)
  mark_at k d within (inl low) = ap (λ l. get_or l k d) is ∙ get_or_append_left marks (place ∷ []) d k low ∙ before.each k d low
  mark_at k d within (inr high) =
      let last : k ≡ length marks = omega (arith, ap length is, length_push marks place) in
      ap (λ l. get_or l k d) is ∙ get_or_push marks place d k (sym last) ∙ before.here
      ∙ ap (line_column text) (before.size ∙ ap (λ n. n * 64) (sym last))

  mark_each : (k : ℕ) (d : LineColumn) → k < length more → get_or more k d ≡ line_column text (k * 64)
  mark_each k d within = mark_at k d within (cases_lt k (length marks))

  pub all_marks : length text < at + 64 → AreMarks text more
  all_marks end = record { each = mark_each; whole = omega (arith, before.size, ap length is, length_push marks place) }
