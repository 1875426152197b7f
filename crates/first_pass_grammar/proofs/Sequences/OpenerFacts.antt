-- A container begins with the marker of an item, of a definition or of a block quote.
use Rattle.std.proofs.Common.{◌≡◌, ℕ, Bool, Option, Some, None, refl, if◌then◌else◌, option_map, arith}
use Rattle.first_pass_grammar.proofs.Common.{same_Some, Options, Rest, Place, prefix, definition_marker_at, Start, item_start, task_after, quote_begun}
use Rattle.first_pass_grammar.proofs.Common.{tag_after, definition_start, start_at}
use Rattle.std.specs.Option.{option_or}
use Rattle.first_pass_grammar.proofs.Sequences.PrefixBytes.{if_some}
use Rattle.first_pass_grammar.specs.declared.kind.Container.TheVariants.{BlockQuote}
use Rattle.first_pass_grammar.specs.Kinds.{item_at}

abbrev pub item_as : Options → Place → (ℕ × ℕ × ℕ) × Rest → Start
item_as options p item = item_start p item.0 (task_after options p.line item.1)

abbrev pub quote_as : Options → Place → Rest → Start
quote_as options p r = quote_begun p (tag_after options r) r

-- the marker of a definition, if one may begin
abbrev pub marker_where : Bool → Place → Option (ℕ × Rest)
marker_where may p = if may then definition_marker_at p.rest else None

abbrev start_of_three : Options → Place → Option ((ℕ × ℕ × ℕ) × Rest) → Option (ℕ × Rest) → Option Rest → Option Start
start_of_three options p i m q =
    option_or (option_map (item_as options p) i) (option_or (option_map (definition_start p) m) (option_map (quote_as options p) q))

start_by : (options : Options) (p : Place) (P : Start → Type 0) (i : Option ((ℕ × ℕ × ℕ) × Rest)) (m : Option (ℕ × Rest)) (q : Option Rest)
    → ((item : (ℕ × ℕ × ℕ) × Rest) → i ≡ Some item → P (item_as options p item))
    → ((marker : ℕ × Rest) → i ≡ None → m ≡ Some marker → P (definition_start p marker))
    → ((r : Rest) → i ≡ None → q ≡ Some r → P (quote_as options p r)) → (s : Start) → start_of_three options p i m q ≡ Some s → P s
start_by options p P i m q f d g s h = grind (arith, same_Some)

-- a property of the marker of an item, a definition or a block quote holds for the start of every container
pub start_cases : (options : Options) (may : Bool) (p : Place) (P : Start → Type 0)
    → ((item : (ℕ × ℕ × ℕ) × Rest) → item_at p.rest ≡ Some item → P (item_start p item.0 (task_after options p.line item.1)))
    → ((marker : ℕ × Rest) → item_at p.rest ≡ None → definition_marker_at p.rest ≡ Some marker → P (definition_start p marker))
    → ((r : Rest) → item_at p.rest ≡ None → prefix (BlockQuote None) p.rest ≡ Some r → P (quote_begun p (tag_after options r) r))
    → (s : Start) → start_at options may p ≡ Some s → P s
unfolding start_at
start_cases options may p P f d g s h = grind (arith, start_by, if_some)

pub start_item : (options : Options) (may : Bool) (p : Place) (item : (ℕ × ℕ × ℕ) × Rest) → item_at p.rest ≡ Some item
    → start_at options may p ≡ Some (item_start p item.0 (task_after options p.line item.1))
unfolding start_at
start_item options may p item is = rw is refl

pub start_definition : (options : Options) (may : Bool) (p : Place) (marker : ℕ × Rest) → item_at p.rest ≡ None → marker_where may p ≡ Some marker
    → start_at options may p ≡ Some (definition_start p marker)
unfolding start_at
start_definition options may p marker none is = rw (none, is) refl

pub start_quote : (options : Options) (may : Bool) (p : Place) (r : Rest) → item_at p.rest ≡ None → marker_where may p ≡ None
    → prefix (BlockQuote None) p.rest ≡ Some r → start_at options may p ≡ Some (quote_begun p (tag_after options r) r)
unfolding start_at
start_quote options may p r none no_marker is = rw (none, no_marker, is) refl

pub start_none : (options : Options) (may : Bool) (p : Place) → item_at p.rest ≡ None → marker_where may p ≡ None → prefix (BlockQuote None) p.rest ≡ None
    → start_at options may p ≡ None
unfolding start_at
start_none options may p none no_marker is = rw (none, no_marker, is) refl
