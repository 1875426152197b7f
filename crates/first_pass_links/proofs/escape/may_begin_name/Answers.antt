use Rattle.std.proofs.Common.{◌≡◌, ℕ, false, List, [], ◌∷◌, length, Option, None, slice_index, refl, sym, ap, ◌∙◌, arith, eqb-true}
use Rattle.std.proofs.lemmas.Bool.{cond_both}
use Rattle.std.proofs.lemmas.List.{get_or_past}
use Rattle.std.specs.Char.{is_ascii_alphabetic}
use Rattle.first_pass_items.specs.Bytes.{semicolon}
use Rattle.first_pass_lines.specs.Lines.{begins}
use Rattle.first_pass_entities.specs.Entities.{name_at, named, named_in_xml, named_sign, named_punctuation}
use Rattle.first_pass_links.proofs.escape.may_begin_name.Goals as goal

-- no letter begins here
none_here : (bs : List ℕ) → is_ascii_alphabetic (slice_index bs 0) ≡ false → name_at bs ≡ None
unfolding name_at named named_in_xml named_sign named_punctuation
none_here [] h = refl
none_here (b ∷ bs) h = rw h (cond_both (begins semicolon (b ∷ bs)) None None (λ (o : Option (ℕ × ℕ)). o ≡ None) (λ e. refl) (λ e. refl))

pub returns-then-is_empty : goal.returns-then-is_empty
returns-then-is_empty c h =
    none_here c.args.bytes.now (ap is_ascii_alphabetic (get_or_past c.args.bytes.now 0 0
    (omega (arith, eqb-true (length c.args.bytes.now) 0 (sym c.is_empty.ensures ∙ c.if-is_empty.true)))))

pub returns : goal.returns
returns c h = none_here c.args.bytes.now (sym c.is_ascii_alphabetic.ensures.value ∙ h)
