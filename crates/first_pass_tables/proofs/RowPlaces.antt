-- The start of a row's text, and the parts that do not change while rows are added.
use Rattle.std.proofs.Common.{◌≡◌, ◌⊎◌, inl, inr, ℕ, ◌+◌, ◌<◌, ◌≤◌, arith, Bool, true, false, List, length, drop, Option, [], Some, None, IsUtf8}
use Rattle.std.proofs.Common.{IsCharBoundary, refl, sym, ap, subst, ◌∙◌, if◌then◌else◌, option_map, option_and_then}
use Rattle.first_pass_grammar.proofs.Common.{cases_lt, none-some, Options, Rest, indent, Place, offset, line_end, line_rest, line_place, place_at, IsPlaceOf}
use Rattle.first_pass_grammar.proofs.Common.{after-none, line_is_place, columns_line_end, Context, after, unindented, Item, line_len, Spot, spot}
use Rattle.first_pass_grammar.proofs.Common.{Document, around, AreCells, interrupts_row, row_text}
use Rattle.first_pass_grammar.specs.declared.kind.Container.{Container}
use Rattle.first_pass_grammar.proofs.Order.RowEnds.{row_ends_at_place}
use Rattle.first_pass_open.proofs.PathLemmas.{after-end}
use Rattle.first_pass_open.proofs.PlaceLemmas.{after_keeps, all_keep, ends_past, line_start_end}

-- the place at which the text of a row begins
pub record BeginsRow (text : List ℕ) (around : Context) (n start : ℕ) : Type 0 where
  pub place : Place
  pub start_is : start ≡ offset place
  pub stands : IsPlaceOf text place
  pub ends : line_end place ≡ line_end (line_place n (drop n text))
  pub following : n ≤ start

-- the start of a row's text at a place, if there is one
abbrev row_in : Options → Place → Option ℕ
row_in options p = if interrupts_row options (unindented p).rest.left then None else Some (offset (unindented p))

row_by : (t : Bool) (v start : ℕ) → (if t then None else Some v) ≡ Some start → (t ≡ false) × (start ≡ v)
row_by true v start e = cc
row_by false v start e = (refl, cc)

begins_by : (text : List ℕ) (around : Context) (n start : ℕ) (o : Option Rest)
    → IsUtf8 text → IsCharBoundary text n → after around.path (line_rest (drop n text)) ≡ o
    → option_and_then (row_in around.options) (option_map (place_at n) o) ≡ Some start → BeginsRow text around n start
begins_by text around n start None utf8 boundary e h = absurd (none-some start h)
begins_by text around n start (Some r) utf8 boundary e h =
    let k = after_keeps text n around.path (line_rest (drop n text)) r utf8 e (line_is_place text n boundary) in
    let s = row_by (interrupts_row around.options (unindented (place_at n r)).rest.left) (offset (unindented (place_at n r))) start h in
    let there = s.1 in
    record {
      place = unindented (place_at n r);
      start_is = s.1;
      stands = all_keep text n r utf8 k.0;
      ends = columns_line_end (indent r) (place_at n r) ∙ k.1;
      following = omega arith;
    }

pub begins_row : (text : List ℕ) (around : Context) (n start : ℕ)
    → IsUtf8 text → IsCharBoundary text n → row_text around (line_place n (drop n text)) ≡ Some start → BeginsRow text around n start
begins_row text around n start utf8 boundary h = begins_by text around n start (after around.path (line_rest (drop n text))) utf8 boundary refl h

-- a row ends at the end of its line
pub row_line : (d : Document) (path : List Container) (n : ℕ) (start : Spot) (cells : List (List (ℕ × Item))) (stop : Spot) → IsUtf8 d.text
    → IsCharBoundary d.text n
    → row_text (around d path) (line_place n (drop n d.text)) ≡ Some start.at → AreCells d start cells stop → stop.at ≡ n + line_len (drop n d.text)
row_line d path n start cells stop utf8 boundary h are =
    let b = begins_row d.text (around d path) n start.at utf8 boundary h in
    row_ends_at_place d b.place start.braces cells stop b.stands (subst (λ k. AreCells d (spot k start.braces) cells stop) b.start_is are) ∙ b.ends
    ∙ line_start_end d.text n

-- the start of the text in a line that continues the path, if the text ends no table
pub row_found : (text : List ℕ) (around : Context) (n at : ℕ) (o : Option Rest) (r : Rest) (stops : Bool)
    → o ≡ after around.path (line_rest (drop n text)) → o ≡ Some r → at ≡ offset (unindented (place_at n r))
    → stops ≡ interrupts_row around.options (unindented (place_at n r)).rest.left
    → (if stops then None else Some at) ≡ row_text around (line_place n (drop n text))
row_found text around n at o r stops e f at_is says =
    ap (λ b. if b then None else Some at) says
    ∙ ap (λ k. if interrupts_row around.options (unindented (place_at n r)).rest.left then None else Some k) at_is
    ∙ sym (ap (λ (o : Option Rest). option_and_then (row_in around.options) (option_map (place_at n) o)) (sym e ∙ f))

-- a row has a line in the text
begin_by : (around : Context) (n start : ℕ) (o : Option Rest) → (o ≡ None) ⊎ (o ≡ Some (line_rest []))
    → option_and_then (row_in around.options) (option_map (place_at n) o) ≡ Some start → ⊥
begin_by around n start None h e = cc
begin_by around n start (Some r) (inl none) e = cc
begin_by around n start (Some r) (inr some) e = grind (arith, after-none, row_by)

pub row_within : (text : List ℕ) (around : Context) (n start : ℕ) → row_text around (line_place n (drop n text)) ≡ Some start → n < length text
row_within text around n start h = grind (arith, cases_lt, begin_by, after-end, ends_past)
