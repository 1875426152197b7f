-- JSON in a script element is the value that it is without it.
use Rattle.std.proofs.Common.{◌≡◌, ℕ, zero, suc, List, [], ◌∷◌, length, Bool, true, false, ◌&&◌, Option, Some, None, option_and_then, refl, ap, ◌∙◌, sym}
use Rattle.std.proofs.Common.{arith, append-nil}
use Rattle.std.proofs.lemmas.Bool.{false≢true, and_parts, and_from}
use Rattle.std.specs.Prelude.{⊤}
use Rattle.json.specs.Align.{is_good}
use Rattle.json.specs.Json.{Json, array, object, Items, item, Members, member, Parse, parse_map, after_end_array, read_key, items_step, members_step}
use Rattle.json.specs.Json.{items, members, value_with, value, if_last, max_depth, document}
use Rattle.json.specs.Lex.{Lexeme, token, comma, colon, between, Place, fresh, after_value, after_comma, after_key, begins_colon, may_begin, may_close}
use Rattle.json.specs.Lex.{if_allowed, place_token, punctuate, lex, tokens}
use Rattle.json.specs.Print.{quoted, print_from}
use Rattle.json.specs.Token.{Token}
use Rattle.json.proofs.Grammar.{closed_array, read_key_is}
use Rattle.json.proofs.Printed.Trees.{document-print}
use Rattle.first_pass_json.specs.JsonValues.{json_string}
use Rattle.first_pass_json.specs.Scripts.{in_script}
use Rattle.first_pass_json.proofs.ScriptLexemes.{are_good, lex_same}

-- no token is a fault
abbrev clear : List Token → Bool
clear [] = true
clear (t ∷ ts) = is_good t && clear ts

-- ---- tokens without a fault are of lexemes without one

-- a token without a fault, and what follows it
record Places (t : Token) (k : Place → List Token) : Type 0 where
  good : is_good t ≡ true
  next : Place
  rest : clear (k next) ≡ true

allowed : (b : Bool) (t : Token) (k : Place → List Token) (next : Place) → clear (if_allowed b t k next) ≡ true → Places t k
allowed true t k next h = let both = and_parts _ _ h in record { good = both.0; next = next; rest = both.1 }
allowed false t k next h = absurd (false≢true h)

placed : (p : Place) (t : Token) (b : Bool) (k : Place → List Token) → clear (place_token p t b k) ≡ true → Places t k
placed p Token.begin_object b k h = allowed (may_begin p) Token.begin_object k fresh h
placed p Token.end_object b k h = allowed (may_close p) Token.end_object k after_value h
placed p Token.begin_array b k h = allowed (may_begin p) Token.begin_array k fresh h
placed p Token.end_array b k h = allowed (may_close p) Token.end_array k after_value h
placed p (Token.key s) b k h = absurd (false≢true h)
placed p (Token.string s) true k h =
    let as_key = allowed (may_begin p) (Token.key s) k after_key h in record { good = refl; next = as_key.next; rest = as_key.rest }
placed p (Token.string s) false k h = allowed (may_begin p) (Token.string s) k after_value h
placed p (Token.number s) b k h = allowed (may_begin p) (Token.number s) k after_value h
placed p (Token.boolean v) b k h = allowed (may_begin p) (Token.boolean v) k after_value h
placed p Token.null b k h = allowed (may_begin p) Token.null k after_value h
placed p Token.bad b k h = absurd (false≢true h)

token_and_rest : (t : Token) (ls : List Lexeme) → Places t (λ p. punctuate p ls) → ((p : Place) → clear (punctuate p ls) ≡ true → are_good ls ≡ true)
    → are_good (token t ∷ ls) ≡ true
token_and_rest t ls places rest = and_from _ _ places.good (rest places.next places.rest)

lexemes_good : (ls : List Lexeme) (p : Place) → clear (punctuate p ls) ≡ true → are_good ls ≡ true
unfolding punctuate
lexemes_good [] p h = refl
lexemes_good (token t ∷ ls) fresh h = token_and_rest t ls (placed fresh t (begins_colon ls) _ h) (lexemes_good ls)
lexemes_good (token t ∷ ls) after_value h = token_and_rest t ls (placed after_value t (begins_colon ls) _ h) (lexemes_good ls)
lexemes_good (token t ∷ ls) after_comma h = token_and_rest t ls (placed after_comma t (begins_colon ls) _ h) (lexemes_good ls)
lexemes_good (token t ∷ ls) after_key h = token_and_rest t ls (placed after_key t (begins_colon ls) _ h) (lexemes_good ls)
lexemes_good (comma ∷ ls) fresh h = absurd (false≢true h)
lexemes_good (comma ∷ ls) after_value h = lexemes_good ls after_comma h
lexemes_good (comma ∷ ls) after_comma h = absurd (false≢true h)
lexemes_good (comma ∷ ls) after_key h = absurd (false≢true h)
lexemes_good (colon ∷ ls) fresh h = absurd (false≢true h)
lexemes_good (colon ∷ ls) after_value h = absurd (false≢true h)
lexemes_good (colon ∷ ls) after_comma h = absurd (false≢true h)
lexemes_good (colon ∷ ls) after_key h = lexemes_good ls fresh h

-- ---- the grammar takes tokens without a fault

-- what is left has a fault exactly if all has one
abbrev Left : {A : Type 0} → List Token → Option (A × List Token) → Type 0
Left ts None = ⊤
Left ts (Some p) = clear ts ≡ clear p.1

abbrev Takes : {A : Type 0} → Parse A → Type 0
Takes p = (ts : List Token) → Left ts (p ts)

mapped : {A B : Type 0} (f : A → B) (ts : List Token) (o : Option (A × List Token)) → Left ts o → Left ts (parse_map f o)
mapped f ts None left = tt
mapped f ts (Some p) left = left

sooner : {A : Type 0} (ts us : List Token) (o : Option (A × List Token)) → clear ts ≡ clear us → Left us o → Left ts o
sooner ts us None e left = tt
sooner ts us (Some p) e left = e ∙ left

and_more : {B : Type 0} (f : Json → B → B) (more : Parse B) → Takes more → (ts : List Token) (o : Option (Json × List Token)) → Left ts o
    → Left ts (option_and_then (λ q. parse_map (f q.0) (more q.1)) o)
and_more f more takes ts None left = tt
and_more f more takes ts (Some q) left = sooner ts q.1 _ left (mapped (f q.0) q.1 (more q.1) (takes q.1))

module _ (p : Parse Json) (takes : Takes p) where
  item_turn : (more : Parse Items) → Takes more → (ts : List Token) (o : Option (List Token)) → after_end_array ts ≡ o → Left ts (items_step p more ts o)
  item_turn more again ts (Some r) e = ap clear (closed_array ts r e)
  item_turn more again ts None e = and_more item more again ts (p ts) (takes ts)

  takes-items : (n : ℕ) → Takes (items p n)
  unfolding items
  takes-items zero ts = tt
  takes-items (suc n) ts = item_turn (items p n) (takes-items n) ts (after_end_array ts) refl

  member_turn : (more : Parse Members) → Takes more → (ts : List Token) (o : Option (Option (List ℕ) × List Token)) → read_key ts ≡ o
      → Left ts (option_and_then (λ q. members_step p more q.0 q.1) o)
  member_turn more again ts None e = tt
  member_turn more again ts (Some (None, s)) e = ap clear (read_key_is ts None s e)
  member_turn more again ts (Some (Some k, s)) e = sooner ts s _ (ap clear (read_key_is ts (Some k) s e)) (and_more (member k) more again s (p s) (takes s))

  takes-members : (n : ℕ) → Takes (members p n)
  unfolding members
  takes-members zero ts = tt
  takes-members (suc n) ts = member_turn (members p n) (takes-members n) ts (read_key ts) refl

one_level : (a : Parse Items) (o : Parse Members) → Takes a → Takes o → Takes (value_with a o)
one_level a o items_left members_left [] = tt
one_level a o items_left members_left (Token.begin_object ∷ ts) = mapped object ts (o ts) (members_left ts)
one_level a o items_left members_left (Token.end_object ∷ ts) = tt
one_level a o items_left members_left (Token.begin_array ∷ ts) = mapped array ts (a ts) (items_left ts)
one_level a o items_left members_left (Token.end_array ∷ ts) = tt
one_level a o items_left members_left (Token.key s ∷ ts) = tt
one_level a o items_left members_left (Token.string s ∷ ts) = refl
one_level a o items_left members_left (Token.number s ∷ ts) = refl
one_level a o items_left members_left (Token.boolean b ∷ ts) = refl
one_level a o items_left members_left (Token.null ∷ ts) = refl
one_level a o items_left members_left (Token.bad ∷ ts) = tt

takes-value : (d : ℕ) → Takes (value d)
unfolding value
takes-value zero = one_level (λ ts. None) (λ ts. None) (λ ts. tt) (λ ts. tt)
takes-value (suc d) =
    one_level (λ ts. items (value d) (length ts) ts) (λ ts. members (value d) (length ts) ts)
    (λ ts. takes-items (value d) (takes-value d) (length ts) ts) (λ ts. takes-members (value d) (takes-value d) (length ts) ts)

all_clear : (ts : List Token) (v : Json) (o : Option (Json × List Token)) → Left ts o → option_and_then (λ p. if_last p.0 p.1) o ≡ Some v → clear ts ≡ true
all_clear ts v None left e = absurd (cc e)
all_clear ts v (Some (j, [])) left e = left
all_clear ts v (Some (j, t ∷ us)) left e = absurd (cc e)

-- a text that is a value is that value in a script element
pub document_same : (json : List ℕ) (v : Json) → document json ≡ Some v → document (in_script json) ≡ Some v
document_same json v e =
    let good = lexemes_good (lex between json) fresh (all_clear (tokens json) v _ (takes-value max_depth (tokens json)) e) in
    ap (λ ls. option_and_then (λ p. if_last p.0 p.1) (value max_depth (punctuate fresh ls))) (lex_same between json good) ∙ e

-- the string of a text is that text
pub string_read : (text : List ℕ) → document (in_script (json_string text)) ≡ Some (Json.string text)
unfolding json_string print_from
string_read text =
    document_same (json_string text) (Json.string text)
    (ap document (sym (append-nil (quoted text))) ∙ document-print (Json.string text) tt (omega arith))
