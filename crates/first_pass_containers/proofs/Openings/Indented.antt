-- The markers of containers after the indentation of a line, and the container that begins there, from the results of the
-- calls.
use Rattle.std.proofs.Common.{◌≡◌, inl, ℕ, ◌&&◌, Bool, true, false, Some, None, refl, if◌then◌else◌, Option, MatchOption, IsSomeAnd, sym, ap, subst, ◌∙◌, zero}
use Rattle.std.proofs.Common.{suc, ◌≤◌, ◌<◌, ◌==◌, List, [], ◌∷◌, min, arith, option_map}
use Rattle.first_pass_grammar.proofs.Common.{and-false, colon, left_bracket, Options, begins, is_plain, begins_plain, Rest, indent, after_columns, column_of}
use Rattle.first_pass_grammar.proofs.Common.{column_of_byte, next_column, past_quote, past_quote_byte, Place, begins_footnote_mark, definition_of, plain_begins}
use Rattle.first_pass_grammar.proofs.Common.{inert_indent, Context, prefix, at_rest, footnote_head_at, all_taken, definition_marker_at, start_at, Start}
use Rattle.first_pass_grammar.proofs.Common.{definition_start, QuoteMarker, ItemMarker, FootnoteMarker, DefinitionMarker, nat_tests, after-more}
use Rattle.first_pass_grammar.proofs.Common.{all_columns_up_to, Names, Tables, document}
use Rattle.first_pass_containers.proofs.Common.{PassState, marker_where, start_none, start_quote, Source, BlockQuote, Opener, InLine, LeafAt, ReadsTo, ReadyOn}
use Rattle.first_pass_scan.proofs.ColumnFacts.{no_column}
use Rattle.first_pass_scan.proofs.PlainFacts.{begins_both}
use Rattle.first_pass_grammar.specs.Kinds.{item_at}
use Rattle.first_pass_open.proofs.PlainLemmas.{inert_all, inert_item_at, inert_prefix}
use Rattle.first_pass_containers.specs.Starts.{BeginsNoContainer, marker_of, OpenerMatches, StartMatches, IsIndented}
use Rattle.first_pass_containers.proofs.Openings.HeadLemmas.{no_mark}
use Rattle.first_pass_open.proofs.PlaceLemmas.{quote_taken as quote_is_taken}
use Rattle.first_pass_containers.specs.declared.openers.Start.{Start as FoundStart}
use Rattle.first_pass_containers.specs.declared.openers.Opener.TheVariants.{Quote, Item as ItemOpener, Definition as DefinitionOpener}
use Rattle.first_pass_grammar.specs.Blocks.{Opener as ContainerOpener}
use Rattle.first_pass_lines.proofs.Columns.{indent-some}

-- no quote marker is where a column is
quote_byte : (r s : Rest) (bs : List ℕ) → column_of_byte r bs ≡ Some s → past_quote_byte r bs ≡ None
quote_byte r s [] h = refl
quote_byte r s (b ∷ bs) h = grind (arith, h)

quote_owed : (o : ℕ) (r s : Rest) → column_of o r ≡ Some s → (if o == 0 then past_quote_byte r r.left else None) ≡ None
quote_owed zero r s h = quote_byte r s r.left h
quote_owed (suc o) r s h = grind (arith, nat_tests)

-- after a number of columns, if there are more
columns_left : (k : ℕ) (r : Rest) → k < indent r → past_quote (after_columns k r) ≡ None
columns_left zero r more = elim (next_column r) as (λ o. next_column r ≡ o → past_quote r ≡ None) [
  | None ↦ λ e. absurd (omega (arith, no_column r e))
  | Some s ↦ λ e. quote_owed r.owed r s e
] refl
columns_left (suc k) r more = elim (next_column r) as (λ o. next_column r ≡ o → past_quote (after_columns (suc k) r) ≡ None) [
  | None ↦ λ e. absurd (omega (arith, no_column r e))
  | Some s ↦ λ e. ap past_quote (after-more (suc k) k r s refl e) ∙ columns_left k s (omega (arith, indent-some r s e))
] refl

-- no container begins after four columns or more
pub no_item : (r : Rest) → 4 ≤ indent r → item_at r ≡ None
unfolding item_at
no_item r far = grind (arith, nat_tests)

pub no_definition : (may : Bool) (p : Place) → 4 ≤ indent p.rest → marker_where may p ≡ None
unfolding definition_marker_at
no_definition false p far = refl
no_definition true p far = grind (arith, nat_tests)

pub no_quote_prefix : (r : Rest) → 4 ≤ indent r → prefix (BlockQuote None) r ≡ None
unfolding prefix
no_quote_prefix r far = ap (option_map (after_columns 1)) (columns_left 3 r (omega arith))

-- the columns that a call takes, from a copy of the rest
pub is_far : (r first : Rest) (n : ℕ) → first ≡ r → n ≡ min 4 (indent first) → 4 ≤ n → 4 ≤ indent r
is_far r first n same columns far = let e : indent first ≡ indent r = ap indent same in omega arith

pub is_indented : (r first mark : Rest) (n : ℕ) → first ≡ r → n ≡ min 4 (indent first) → mark ≡ all_taken first → n < 4 → IsIndented r mark n
is_indented r first mark n same columns is less = grind arith

-- the marker of a block quote is at the end of the indentation
pub quote_mark : (r mark : Rest) (n : ℕ) → IsIndented r mark n → after_columns 3 r ≡ mark
quote_mark r mark n i = let a = i.few in let b = i.columns_are in all_columns_up_to 3 r (omega arith) ∙ sym i.mark_is

quote_read : (r mark : Rest) (n : ℕ) → IsIndented r mark n → prefix (BlockQuote None) r ≡ option_map (after_columns 1) (past_quote mark)
unfolding prefix
quote_read r mark n i = ap (λ q. option_map (after_columns 1) (past_quote q)) (quote_mark r mark n i)

-- what the call that takes a block quote marker says of the prefix
taken_by : (o : Option Rest) (t : Bool) (old new : Rest)
    → MatchOption o ((t ≡ false) × (new ≡ old)) (λ next. (t ≡ true) × (new ≡ after_columns 1 next))
    → option_map (after_columns 1) o ≡ (if t then Some new else None)
taken_by o t old new h = grind (arith, h)

pub quote_taken : (r mark new : Rest) (n : ℕ) (t : Bool) → IsIndented r mark n
    → MatchOption (past_quote mark) ((t ≡ false) × (new ≡ mark)) (λ next. (t ≡ true) × (new ≡ after_columns 1 next))
    → prefix (BlockQuote None) r ≡ (if t then Some new else None)
quote_taken r mark new n t i h = quote_read r mark n i ∙ taken_by (past_quote mark) t mark new h

-- ---- the container that begins at a place

-- the result of the call that finds the container at a place
pub start_found : (o : Option Start) (found : Option FoundStart) (t : FoundStart) (old new : Place) → found ≡ Some t
    → MatchOption o ((found ≡ None) × (new ≡ old)) (λ s. IsSomeAnd found (StartMatches s) × (new ≡ at_rest old s.rest))
    → (s : Start) × (o ≡ Some s) × StartMatches s t × (new ≡ at_rest old s.rest)
start_found None found t old new e h = (let z : None ≡ Some t = sym h.0 ∙ e in cc)
start_found (Some s) found t old new e h = (s, refl, subst (λ f. IsSomeAnd f (StartMatches s)) e h.0, h.1)

-- the pass's opener for a container; any opener for a footnote definition, for which the pass has none
abbrev pub opener_found : ContainerOpener → Opener
opener_found (QuoteMarker kind) = Quote kind
opener_found (ItemMarker byte number columns) = ItemOpener (marker_of (byte, number, columns))
opener_found (FootnoteMarker columns index label) = Quote None
opener_found (DefinitionMarker columns) = DefinitionOpener columns

abbrev pub start_told : Start → FoundStart
start_told s = record { opener = opener_found s.head.opener; start = s.head.start; after = s.after }

opener_is : (o : ContainerOpener) (t : Opener) → OpenerMatches o t → t ≡ opener_found o
opener_is o t h = grind (arith, h)

pub start_is : (s : Start) (t : FoundStart) → StartMatches s t → t ≡ start_told s
start_is s t h = rw (← opener_is s.head.opener t.opener h.opener, ← h.start, ← h.after) refl

pub start_missing : (o : Option Start) (found : Option FoundStart) (old new : Place) → found ≡ None
    → MatchOption o ((found ≡ None) × (new ≡ old)) (λ s. IsSomeAnd found (StartMatches s) × (new ≡ at_rest old s.rest)) → (o ≡ None) × (new ≡ old)
start_missing None found old new e h = (refl, h.1)
start_missing (Some s) found old new e h = absurd (subst (λ f. IsSomeAnd f (StartMatches s)) e h.0)

-- the marker of a definition that was read
pub definition_found : (o : Option (ℕ × Rest)) (found : Option ℕ) (n : ℕ) (old new : Rest) → found ≡ Some n
    → MatchOption o ((found ≡ None) × (new ≡ old)) (λ marker. (found ≡ Some marker.0) × (new ≡ marker.1)) → o ≡ Some (n, new)
definition_found None found n old new e h = cc
definition_found (Some (columns, rest)) found n old new e h = cc

-- no marker of an item or a definition is there, since none was read
pub marker_absent : {X Y : Type 0} (f : X → Y) (o : Option (X × Rest)) (found : Option Y) (old new : Rest)
    → found ≡ None → MatchOption o ((found ≡ None) × (new ≡ old)) (λ marker. (found ≡ Some (f marker.0)) × (new ≡ marker.1)) → (o ≡ None) × (new ≡ old)
marker_absent f None found old new e h = (refl, h.1)
marker_absent f (Some marker) found old new e h = (let z : None ≡ Some (f marker.0) = sym e ∙ h.0 in cc)

-- a block quote, before which nothing was read
pub quote_here : (old mid new : Rest) (width : Option ℕ) (at : ℕ) → mid ≡ old → width ≡ Some at
    → MatchOption (prefix (BlockQuote None) mid) ((width ≡ None) × (new ≡ mid)) (λ next. (width ≡ Some (after_columns 3 mid).taken) × (new ≡ next))
    → (prefix (BlockQuote None) old ≡ Some new) × (at ≡ (after_columns 3 old).taken)
quote_here old mid new width at same taken says = grind (arith, quote_is_taken)

-- if a definition begins, one may begin
none_begins : (options : Options) (p : Place) (marker : ℕ × Rest) (q : Option Rest) → prefix (BlockQuote None) p.rest ≡ q → item_at p.rest ≡ None
    → start_at options false p ≡ Some (definition_start p marker) → ⊥
none_begins options p marker None quote item begins = grind (arith, start_none)
none_begins options p marker (Some r) quote item begins =
    (let e = ap (option_map (λ (s : Start). s.head.opener)) (sym (start_quote options false p r item refl quote) ∙ begins) in cc)

pub may_if : (options : Options) (may : Bool) (p : Place) (marker : ℕ × Rest) → item_at p.rest ≡ None
    → start_at options may p ≡ Some (definition_start p marker) → may ≡ true
may_if options true p marker item begins = refl
may_if options false p marker item begins = absurd (none_begins options p marker (prefix (BlockQuote None) p.rest) refl item begins)

-- ---- if no column is owed and the next byte begins no container, no container begins

-- no container begins with a plain byte
pub plain_begins_none : (r : Rest) → r.owed ≡ 0 → begins_plain r.left ≡ true → BeginsNoContainer r
unfolding is_plain
plain_begins_none r owed plain = grind (arith, begins_both, plain_begins)

-- no footnote definition begins without a `[`
no_bracket : (r q : Rest) (t u : Bool) (n : ℕ) → q ≡ r → begins left_bracket r.left ≡ false
    → (if t && (u && begins_footnote_mark q.left) then Some n else None) ≡ None
no_bracket r q t u n same h = rw (same, h, and-false u, and-false t) refl

pub no_footnote : (around : Context) (p : Place) → BeginsNoContainer p.rest → footnote_head_at around p ≡ None
no_footnote around p h = grind (arith, no_mark, no_bracket, inert_all)

-- and no definition without a `:`
no_definition_here : (r : Rest) → BeginsNoContainer r → definition_marker_at r ≡ None
unfolding definition_marker_at definition_of
no_definition_here r h = rw (inert_indent r h.owed h.inert, h.colon, and-false) refl

no_marker : (may : Bool) (p : Place) → BeginsNoContainer p.rest → marker_where may p ≡ None
no_marker true p h = no_definition_here p.rest h
no_marker false p h = refl

pub none_starts : (options : Options) (may : Bool) (p : Place) → BeginsNoContainer p.rest → start_at options may p ≡ None
none_starts options may p h = grind (arith, start_none, inert_item_at, no_marker, inert_prefix)

-- a leaf block is at a place if a ready state is ready for one
pub leaf_there : (source : Source) (r : PassState) (p : Place) (line : ℕ) → ((names : Names) (defined : Tables)
    → ReadyOn (document source.text.now source.options names) defined r (InLine p)
    → ReadyOn (document source.text.now source.options names) defined r (LeafAt p)) → ReadsTo source line r r (InLine p) (LeafAt p)
leaf_there source r p line ready =
    record { ready = ready; order = λ h. h; node_bound = λ first h. h; named = λ names h. h; footnotes = refl; tables = λ names h. h }

-- so a leaf block is there
pub only_leaf : (source : Source) (r : PassState) (p : Place) (line : ℕ) → BeginsNoContainer p.rest → ReadsTo source line r r (InLine p) (LeafAt p)
only_leaf source r p line h = leaf_there source r p line (λ names defined ready. inl (no_footnote _ p h, none_starts _ _ p h, ready))
