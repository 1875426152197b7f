use Rattle.std.proofs.Common.{◌≡◌, ℕ, ◌+◌, ◌<◌, Bool, true, false, List, length, map, cond, drop, get_or, Bor, sym, ap, ◌∙◌, add-one, drop-cons, arith}
use Rattle.std.proofs.lemmas.List.{drop_all}
use Rattle.first_pass_html.specs.Names.{borrowed_bytes, begins_with_name, first_name_len}
use Rattle.first_pass_html.proofs.names.first_name_len.Goals as goal

-- the names from a place on
names_from : (names : List (Bor (List ℕ))) (i : ℕ) (d : Bor (List ℕ)) (bs name : List ℕ) (t : Bool) → i < length names
    → name ≡ borrowed_bytes (get_or names i d) → t ≡ begins_with_name name bs
    → first_name_len (map borrowed_bytes (drop i names)) bs ≡ cond t (length name) (first_name_len (map borrowed_bytes (drop (i + 1) names)) bs)
unfolding first_name_len
names_from names i d bs name t h e is = rw (is, drop-cons names i d, add-one, e)

pub returns-then-begins_with_name : goal.returns-then-begins_with_name
returns-then-begins_with_name c =
    ap length (sym c.as_bytes.ensures.value)
    ∙ sym (c.loop-name.invariant ∙ names_from c.args.known.now c.loop-name.name-index _ c.args.bytes.now _ true c.loop-name-test.true
    c.as_bytes.ensures.value (sym c.if-begins_with_name.true ∙ c.begins_with_name.ensures))

pub loop-name-preserved : goal.loop-name-preserved
loop-name-preserved c =
    c.loop-name.invariant ∙ names_from c.args.known.now c.loop-name.name-index _ c.args.bytes.now _ false c.loop-name-test.true
    c.as_bytes.ensures.value (sym c.if-begins_with_name.false ∙ c.begins_with_name.ensures)

pub returns : goal.returns
unfolding first_name_len
returns c = grind (arith, drop_all)
