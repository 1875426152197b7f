use Rattle.std.proofs.Common.{◌≡◌, ℕ, List, [], ◌∷◌, ◌++◌, ap, ◌∙◌, sym, inl, rules, of_calls, flat_map}
use Rattle.first_pass_host.proofs.HeldLines.{first_failed, then_written, written_as}
use Rattle.first_pass_host.proofs.ItemLines.{element_lines}
use Rattle.json.specs.Print.{escape, escape_byte}
use Rattle.first_pass_json.specs.JsonValues.{json_string}
use Rattle.first_pass_json.specs.Scripts.{in_script}
use Rattle.first_pass_json.proofs.Scripts.{in_script-append, in_script-joined}
use Rattle.first_pass_json.proofs.page.write_string.Goals as goal

-- a byte of a string in a script element
abbrev escaped : ℕ → List ℕ
escaped byte = in_script (escape_byte byte)

-- the quotation marks and the bytes between them
in_parts : (text : List ℕ) → (34 ∷ []) ++ (flat_map escaped text ++ (34 ∷ [])) ≡ in_script (json_string text)
unfolding in_script json_string
in_parts text = ap (λ l. 34 ∷ (l ++ 34 ∷ [])) (sym (in_script-joined escape_byte text)) ∙ ap (λ l. 34 ∷ l) (sym (in_script-append (escape text) (34 ∷ [])))

pub returns-in_err-write_whole : goal.returns-in_err-write_whole
returns-in_err-write_whole g c =
    written_as _ _ _ _ (in_parts c.args.text.now) (first_failed _ _ _ _ _ _ (search rules)
    record { ok = tt; front = c.in_err-write_whole.ensures.front; fault = inl c.in_err-write_whole.ensures.fault })

pub returns-in_err-write_each : goal.returns-in_err-write_each
returns-in_err-write_each g c =
    let bytes = c.in_err-write_each.ensures _ _ (element_lines _ escaped (λ old new x call. search of_calls)) in
    let bytes_are = ap (flat_map escaped) (c.iter.ensures.rest ∙ c.as_bytes.ensures.value) in
    written_as _ _ _ _ (in_parts c.args.text.now) (then_written _ _ _ _ _ _ record { ok = c.in_ok-write_whole.ensures.ok; front = tt; fault = tt }
    (first_failed _ _ _ _ _ _ (search rules) (written_as _ _ _ _ bytes_are bytes)))

pub returns : goal.returns
returns g c =
    let bytes = c.in_ok-write_each.ensures _ _ (element_lines _ escaped (λ old new x call. search of_calls)) in
    let bytes_are = ap (flat_map escaped) (c.iter.ensures.rest ∙ c.as_bytes.ensures.value) in
    written_as _ _ _ _ (in_parts c.args.text.now) (then_written _ _ _ _ _ _ record { ok = c.in_ok-write_whole.ensures.ok; front = tt; fault = tt }
    (then_written _ _ _ _ _ _ (written_as _ _ _ _ bytes_are bytes)
    record { ok = c.write_whole-2.ensures.ok; front = c.write_whole-2.ensures.front; fault = search rules }))
