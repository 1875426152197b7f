-- What words that name options mean.
use Rattle.std.proofs.Common.{◌≡◌, ◌==◌, ◌<◌, append_assoc, ◌≤◌, ◌+◌, ◌∙◌, ◌↔◌, ◌||◌, ℕ, Bool, true, false, not, if◌then◌else◌, List, [], ◌∷◌, ◌++◌}
use Rattle.std.proofs.Common.{Option, Some, None, Contains, Ok, Err, IfSome, IsSome, Bor, arith, rules, sym, ap, ap₂, true≢false, refl, subst, bit_and}
use Rattle.std.proofs.Common.{length, map, take, get_or, option_map, nat_lt, codes}
use Rattle.std.proofs.lemmas.Bool.Decides.{nat_tests}
use Rattle.std.proofs.lemmas.List.{append-nil, flat_map_more, length_push, map-append, take_more}
use Rattle.std.proofs.lemmas.List.Elements.{Contains-get_or, filter-append}
use Rattle.std.proofs.lemmas.Str.Parse.{IsNumeralModel, numerals_by_value, parse_digits, digits_value_short}
use Rattle.std.specs.Str.Parse.{ParsesUnsigned, digits_value}
use Rattle.first_pass_items.specs.declared.option_set.Options.{Options}
use Rattle.first_pass_program.specs.OptionNames.{IsFaultAt, IsFaultOf, entries_on, is_number, joined, names_text, option_values, value_bits, words_in}
use Rattle.first_pass_program.specs.declared.words.option_names.OptionFault.{OptionFault}

-- ---- values

numerals : IsNumeralModel (λ ds. is_number ds ≡ true) (digits_value 10)
numerals = numerals_by_value (λ ds. is_number ds ≡ true) (search rules)

known_value : (len v n o : ℕ) → len ≤ 9 → n ≡ v → o ≡ n → bit_and n 65534 ≡ n
    → Some o ≡ (if nat_lt 9 len || not (bit_and v 65534 == v) then None else Some v)
known_value len v n o short same is known = grind (arith, nat_tests)

unknown_value : (len v n : ℕ) → n ≡ v → (bit_and n 65534 ≡ n → ⊥) → None ≡ (if nat_lt 9 len || not (bit_and v 65534 == v) then None else Some v)
unknown_value len v n same unknown = grind (arith, nat_tests)

-- a value of at most nine digits that is read
pub value_read : (word : List ℕ) (n : ℕ) (r : Option Options) → is_number word ≡ true → length word ≤ 9
    → ParsesUnsigned {E = Unit {0}} 32 10 word (Ok n) → IfSome r (λ o. o.0 ≡ n) → (IsSome r ↔ (bit_and n 65534 ≡ n)) → option_map (λ o. o.0) r ≡ value_bits word
value_read word n (Some o) digits short parsed is known =
    known_value (length word) (digits_value 10 word) n o.0 short (parse_digits numerals {E = Unit {0}} 32 word (Ok n) parsed digits).1 is (known.0 refl)
value_read word n None digits short parsed is known =
    unknown_value (length word) (digits_value 10 word) n (parse_digits numerals {E = Unit {0}} 32 word (Ok n) parsed digits).1
    (λ kept. let some : IsSome {T = Options} None = known.1 kept in cc)

-- each value of at most nine digits is read
pub value_unread : (word : List ℕ) → 0 < length word → is_number word ≡ true → length word ≤ 9
    → ParsesUnsigned {E = Unit {0}} 32 10 word (Err tt) → None ≡ value_bits word
value_unread word some digits short parsed =
    let below = digits_value_short numerals word 9 digits short in
    let unread = parse_digits numerals {E = Unit {0}} 32 word (Err tt) parsed digits in
    absurd (unread (some, omega arith))

-- ---- words

-- the fault of the word at a place of a list
pub fault_of : (list word : List ℕ) (i : ℕ) (fault : OptionFault) → (i < length (words_in list)) × (word ≡ get_or (words_in list) i word)
    → IsFaultAt list word fault → IsFaultOf list fault
fault_of list word i fault place at = record {
  word = word;
  among = subst (Contains (words_in list)) (sym place.1) (Contains-get_or (words_in list) i word place.0);
  fault_is = at;
}

-- ---- names

abbrev pub entry_of : Bor (List ℕ) × ℕ → List ℕ × ℕ
entry_of e = (e.0.now, e.1)

-- the entries among the first i whose bits are on
abbrev pub on_so_far : ℕ → List (Bor (List ℕ) × ℕ) → ℕ → List (List ℕ × ℕ)
on_so_far bits entries i = entries_on bits (map entry_of (take i entries))

-- one more entry whose bits are on
on_more : (bits : ℕ) (entries : List (Bor (List ℕ) × ℕ)) (i : ℕ) (e : Bor (List ℕ) × ℕ) → i < length entries → e ≡ get_or entries i e
    → (bit_and bits e.1 == e.1) ≡ true → on_so_far bits entries (i + 1) ≡ on_so_far bits entries i ++ entry_of e ∷ []
on_more bits entries i e lt is hit =
    let on : List (Bor (List ℕ) × ℕ) → List (List ℕ × ℕ) = λ xs. entries_on bits (map entry_of xs) in
    ap on (take_more entries i e lt) ∙ ap (λ x. on (take i entries ++ x ∷ [])) (sym is) ∙ last (take i entries)
  where
    one : entries_on bits (entry_of e ∷ []) ≡ entry_of e ∷ []
    one = rw hit refl

    last : (xs : List (Bor (List ℕ) × ℕ)) → entries_on bits (map entry_of (xs ++ e ∷ [])) ≡ entries_on bits (map entry_of xs) ++ entry_of e ∷ []
    last xs =
        ap (entries_on bits) (map-append entry_of xs (e ∷ [])) ∙ filter-append (λ x. bit_and bits x.1 == x.1) (map entry_of xs) (entry_of e ∷ [])
        ∙ ap (λ l. entries_on bits (map entry_of xs) ++ l) one

-- one more name
joined_more : (on : List (List ℕ × ℕ)) (e : List ℕ × ℕ) → joined (on ++ e ∷ []) ≡ joined on ++ ((if length on == 0 then [] else codes ", ") ++ e.0)
joined_more [] e = append-nil e.0
joined_more (x ∷ more) e =
    let some : (length (x ∷ more) == 0) ≡ false = grind (arith, nat_tests) in
    rw some (sym (flat_map_more (λ (y : List ℕ × ℕ). codes ", " ++ y.0) x.0 more e))

-- the names with one more, after a comma and a space if there are names before it
pub names_more : (bits : ℕ) (entries : List (Bor (List ℕ) × ℕ)) (i : ℕ) (e : Bor (List ℕ) × ℕ) (old before after : List ℕ) (follows : Bool)
    → (i < length entries) × (e ≡ get_or entries i e) → (bit_and bits e.1 == e.1) ≡ true
    → (before ≡ old ++ joined (on_so_far bits entries i)) × (follows ≡ not (length (on_so_far bits entries i) == 0))
    → after ≡ before ++ ((if follows then codes ", " else []) ++ e.0.now)
    → (after ≡ old ++ joined (on_so_far bits entries (i + 1))) × (true ≡ not (length (on_so_far bits entries (i + 1)) == 0))
names_more bits entries i e old before after follows (lt, is) hit (held, some) appended =
    let on = on_so_far bits entries i in
    let more = on_more bits entries i e lt is hit in
    (appended ∙ text on held some ∙ ap (λ l. old ++ joined l) (sym more), subst (λ l. true ≡ not (length l == 0)) (sym more) (last on))
  where
    comma : (b : Bool) → (if not b then codes ", " else []) ≡ (if b then [] else codes ", ")
    comma true = refl
    comma false = refl

    text : (on : List (List ℕ × ℕ)) → before ≡ old ++ joined on → follows ≡ not (length on == 0)
        → before ++ ((if follows then codes ", " else []) ++ e.0.now) ≡ old ++ joined (on ++ entry_of e ∷ [])
    text on held some =
        ap (λ l. l ++ ((if follows then codes ", " else []) ++ e.0.now)) held
        ∙ ap (λ b. (old ++ joined on) ++ ((if b then codes ", " else []) ++ e.0.now)) some
        ∙ ap (λ sep. (old ++ joined on) ++ (sep ++ e.0.now)) (comma (length on == 0))
        ∙ append_assoc old (joined on) ((if length on == 0 then [] else codes ", ") ++ e.0.now)
        ∙ ap (λ l. old ++ l) (sym (joined_more on (entry_of e)))

    last : (on : List (List ℕ × ℕ)) → true ≡ not (length (on ++ entry_of e ∷ []) == 0)
    last on = grind (arith, nat_tests, length_push)

-- the names of the options that are on
pub names_are : (options bits : ℕ) (entries : List (Bor (List ℕ) × ℕ)) (old names : List ℕ) → bits ≡ options → map entry_of entries ≡ option_values
    → old ≡ [] → names ≡ old ++ joined (entries_on bits (map entry_of entries)) → true ≡ not (length (entries_on bits (map entry_of entries)) == 0)
    → names ≡ names_text options
unfolding names_text
names_are options bits entries old names bits_is entries_are empty is some =
    let on = entries_on options option_values in
    let on_is : entries_on bits (map entry_of entries) ≡ on = ap₂ entries_on bits_is entries_are in
    is ∙ ap₂ (λ a l. a ++ joined l) empty on_is ∙ pick (length on == 0) (some ∙ ap (λ l. not (length l == 0)) on_is)
  where
    pick : (b : Bool) → true ≡ not b → joined (entries_on options option_values) ≡ (if b then codes "none" else joined (entries_on options option_values))
    pick true bad = absurd (true≢false bad)
    pick false good = refl

-- no option is on
pub names_none : (options bits : ℕ) (entries : List (Bor (List ℕ) × ℕ)) (old names after : List ℕ) → bits ≡ options
    → map entry_of entries ≡ option_values → old ≡ [] → names ≡ old ++ joined (entries_on bits (map entry_of entries))
    → false ≡ not (length (entries_on bits (map entry_of entries)) == 0) → after ≡ names ++ codes "none" → after ≡ names_text options
unfolding names_text
names_none options bits entries old names after bits_is entries_are empty is none appended =
    let on = entries_on options option_values in
    let on_is : entries_on bits (map entry_of entries) ≡ on = ap₂ entries_on bits_is entries_are in
    by on (is ∙ ap₂ (λ a l. a ++ joined l) empty on_is) (none ∙ ap (λ l. not (length l == 0)) on_is)
  where
    by : (on : List (List ℕ × ℕ)) → names ≡ joined on → false ≡ not (length on == 0) → after ≡ (if length on == 0 then codes "none" else joined on)
    by [] is none = appended ∙ ap (λ l. l ++ codes "none") is
    by (x ∷ more) is none = grind (arith, nat_tests)
