-- JSON in a script element has the lexemes that it has without it.
use Rattle.std.proofs.Common.{◌≡◌, ◌≢◌, ℕ, List, [], ◌∷◌, Bool, true, ◌&&◌, ◌⊎◌, inl, inr, Option, Some, None, refl, ap, ap₂, ◌∙◌, sym, subst}
use Rattle.std.proofs.lemmas.Bool.{cases_eq, false≢true, and_parts}
use Rattle.json.specs.Align.{is_good}
use Rattle.json.specs.Lex.{Lexeme, token, comma, colon, Class, quote, backslash, operator, space, other, class, operator_lexeme, string_token, Mode}
use Rattle.json.specs.Lex.{between, in_word, in_string, in_escape, lex_byte, lex}
use Rattle.json.specs.Text.{content, plain}
use Rattle.json.specs.Word.{after_number, word}
use Rattle.first_pass_json.specs.Scripts.{in_script}
use Rattle.first_pass_json.proofs.Scripts.{in_script-other}
use Rattle.first_pass_json.proofs.ScriptStrings.{Keeps, content_kept}
use Rattle.first_pass_json.proofs.ScriptWords.{word_same}

-- no lexeme is a fault
abbrev pub are_good : List Lexeme → Bool
are_good [] = true
are_good (token t ∷ ls) = is_good t && are_good ls
are_good (comma ∷ ls) = are_good ls
are_good (colon ∷ ls) = are_good ls

rest_good : (l : Lexeme) (ls : List Lexeme) → are_good (l ∷ ls) ≡ true → are_good ls ≡ true
rest_good (token t) ls good = (and_parts _ _ good).1
rest_good comma ls good = good
rest_good colon ls good = good

string_same : (o p : Option (List ℕ)) → Keeps o p → is_good (string_token o) ≡ true → string_token p ≡ string_token o
string_same None p keeps good = absurd (false≢true good)
string_same (Some s) p keeps good = ap string_token (keeps s refl)

-- the byte x before xs, and before ys, with what the lexer goes on with
module _ (x : ℕ) (xs ys : List ℕ) (k j : Mode → List Lexeme) (strings : Keeps (content plain xs) (content plain ys))
    (words : is_good (word (x ∷ xs)) ≡ true → word (x ∷ ys) ≡ word (x ∷ xs)) (next : (m : Mode) → are_good (k m) ≡ true → j m ≡ k m) where
  after_operator : are_good (operator_lexeme x ∷ k between) ≡ true → operator_lexeme x ∷ j between ≡ operator_lexeme x ∷ k between
  after_operator good = ap (λ l. operator_lexeme x ∷ l) (next between (rest_good (operator_lexeme x) (k between) good))

  byte_same : (m : Mode) (c : Class) → are_good (lex_byte m c x xs k) ≡ true → lex_byte m c x ys j ≡ lex_byte m c x xs k
  byte_same between quote good = let both = and_parts _ _ good in ap₂ (λ t l. token t ∷ l) (string_same _ _ strings both.0) (next in_string both.1)
  byte_same between backslash good = absurd (false≢true good)
  byte_same between operator good = after_operator good
  byte_same between space good = next between good
  byte_same between other good = let both = and_parts _ _ good in ap₂ (λ t l. token t ∷ l) (words both.0) (next in_word both.1)
  byte_same in_word quote good = next in_word good
  byte_same in_word backslash good = next in_word good
  byte_same in_word operator good = after_operator good
  byte_same in_word space good = next between good
  byte_same in_word other good = next in_word good
  byte_same in_string quote good = next between good
  byte_same in_string backslash good = next in_escape good
  byte_same in_string operator good = next in_string good
  byte_same in_string space good = next in_string good
  byte_same in_string other good = next in_string good
  byte_same in_escape c good = next in_string good

word_then : (x : ℕ) (xs : List ℕ) → x ≢ 60 → is_good (word (x ∷ xs)) ≡ true → word (x ∷ in_script xs) ≡ word (x ∷ xs)
word_then x xs different good = ap word (sym (in_script-other x xs different)) ∙ word_same (x ∷ xs) good

Same : Mode → List ℕ → Type 0
Same m t = are_good (lex m t) ≡ true → lex m (in_script t) ≡ lex m t

-- the escape is passed as `<` was
at_escape : (m : Mode) (xs : List ℕ) → ((n : Mode) → Same n xs) → Same m (60 ∷ xs)
unfolding lex word after_number in_script Same
at_escape between xs same good = absurd (false≢true good)
at_escape in_word xs same good = same in_word good
at_escape in_string xs same good = same in_string good
at_escape in_escape xs same good = same in_string good

at_byte : (m : Mode) (x : ℕ) (xs : List ℕ) → (x ≡ 60) ⊎ (x ≢ 60) → ((n : Mode) → Same n xs) → Same m (x ∷ xs)
unfolding lex Same
at_byte m x xs (inl is) same = subst (λ y. Same m (y ∷ xs)) (sym is) (at_escape m xs same)
at_byte m x xs (inr different) same = λ good.
    ap (lex m) (in_script-other x xs different)
    ∙ byte_same x xs (in_script xs) (λ n. lex n xs) (λ n. lex n (in_script xs)) (content_kept plain xs) (word_then x xs different) same m (class x) good

pub lex_same : (m : Mode) (t : List ℕ) → are_good (lex m t) ≡ true → lex m (in_script t) ≡ lex m t
unfolding lex in_script Same
lex_same m [] good = refl
lex_same m (x ∷ xs) good = at_byte m x xs (cases_eq x 60) (λ n. lex_same n xs) good
