-- The kind of the block at a place whose rest is blank.
use Rattle.std.proofs.Common.{◌≡◌, true, Some, refl, sym, subst}
use Rattle.first_pass_grammar.proofs.Common.{Options, Rest, Blank, is_blank_rest, first_kind, IsKindBy, IsKind}

pub blank_kind : (options : Options) (r : Rest) → is_blank_rest r ≡ true → IsKind options r Blank
unfolding first_kind
blank_kind options r h = let first : first_kind options r ≡ Some Blank = rw h refl in subst (λ o. IsKindBy r o Blank) (sym first) refl
