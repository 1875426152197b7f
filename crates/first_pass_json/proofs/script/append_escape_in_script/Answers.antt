use Rattle.std.proofs.Common.{◌≡◌, ◌≢◌, ℕ, ◌<◌, ◌≤◌, ◌==◌, [], codes, not, ◌⊎◌, inl, inr, refl, ap, ◌∙◌, sym, subst, arith}
use Rattle.std.proofs.lemmas.Bool.{agree_below_at, cases_lt, ne_eqb}
use Rattle.std.proofs.lemmas.Grind.{common_steps}
use Rattle.std.proofs.lemmas.Slice.Eq.{bytes_eq-Decides}
use Rattle.std.specs.Str.{bytes_eq}
use Rattle.json.proofs.Printed.Strings.{escape_byte_plain}
use Rattle.json.specs.Print.{escape_byte}
use Rattle.first_pass_json.specs.Scripts.{in_script}
use Rattle.first_pass_json.proofs.Scripts.{in_script-other}
use Rattle.first_pass_json.proofs.script.append_escape_in_script.Goals as goal

escape_less_than : (byte : ℕ) → byte ≡ 60 → in_script (escape_byte byte) ≡ codes "\\u003c"
unfolding in_script escape_byte
escape_less_than byte is = subst (λ y. in_script (escape_byte y) ≡ codes "\\u003c") (sym is) refl

-- the escape of another byte has no `<`
escape_other : (byte : ℕ) → byte ≢ 60 → in_script (escape_byte byte) ≡ escape_byte byte
unfolding in_script escape_byte
escape_other byte other = go (cases_lt byte 93)
  where
    go : (byte < 93) ⊎ (93 ≤ byte) → in_script (escape_byte byte) ≡ escape_byte byte
    go (inl low) =
        (bytes_eq-Decides _ _).0
        (agree_below_at (λ y. bytes_eq (in_script (escape_byte y)) (escape_byte y)) (λ y. not (y == 60)) 93 byte refl low ∙ ap not (ne_eqb byte 60 other))
    go (inr high) =
        let plain = escape_byte_plain byte (λ e. omega arith) (λ e. omega arith) (omega arith) in
        ap in_script plain ∙ in_script-other byte [] other ∙ sym plain

pub returns-then-byte-eq60 : goal.returns-then-byte-eq60
returns-then-byte-eq60 c =
    let is = escape_less_than c.args.byte c.if-byte-eq60.true in
    grind (arith, common_steps, is)

pub returns-else-byte-eq60 : goal.returns-else-byte-eq60
returns-else-byte-eq60 c =
    let same = escape_other c.args.byte c.if-byte-eq60.false in
    grind (arith, common_steps, same)
