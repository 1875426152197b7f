-- A footnote definition does not change the labels of others: the head of one is the same inside a footnote definition
-- as around it.
use Rattle.std.proofs.Common.{arith, ◌≡◌, ℕ, ◌&&◌, not, Bool, true, false, List, ◌∷◌, drop, Option, refl, ap, ◌∙◌, if◌then◌else◌, option_and_then, is_some, []}
use Rattle.first_pass_grammar.proofs.Common.{and-false, Options, gfm_footnotes, line_len, Rest, Place, line_rest, context, footnote_columns, prefix, after}
use Rattle.first_pass_grammar.proofs.Common.{or_shorter, front, all_taken, Continued, continued, interrupts, table_at, crossed, footnote_prefix}
use Rattle.first_pass_grammar.proofs.Common.{footnote_head_at}
use Rattle.std.proofs.Math.Dec.{leb-zero}
use Rattle.first_pass_grammar.specs.declared.kind.Container.{Container}
use Rattle.first_pass_grammar.specs.declared.kind.Container.TheVariants.{FootnoteDefinition}
use Rattle.first_pass_grammar.specs.Containers.{is_definition, at_definition}
use Rattle.first_pass_grammar.specs.Kinds.{ends_paragraph}

-- a path with a footnote definition in the old form inside it
abbrev with_old : List Container → List Container
with_old path = FootnoteDefinition 0 ∷ path

-- such a definition has no prefix in a line
pub after_by : (o : Option Rest) → option_and_then (prefix (FootnoteDefinition 0)) o ≡ o
unfolding prefix
after_by o = grind (arith, leb-zero)

after_same : (path : List Container) (r : Rest) → after (with_old path) r ≡ after path r
unfolding after
after_same path r = after_by (after path r)

shorter_twice : (o : Option Rest) (r : Rest) → or_shorter o (or_shorter o r) ≡ or_shorter o r
shorter_twice o r = grind arith

front_again : (path : List Container) (r : Rest) → or_shorter (after path r) (front path r) ≡ front path r
unfolding after front
front_again [] r = refl
front_again (c ∷ path) r = shorter_twice (after (c ∷ path) r) (front path r)

front_same : (path : List Container) (r : Rest) → front (with_old path) r ≡ front path r
unfolding front
front_same path r = ap (λ (o : Option Rest). or_shorter o (front path r)) (after_same path r) ∙ front_again path r

-- it does not change what interrupts a paragraph
table_same : (path : List Container) (bs : List ℕ) → table_at (with_old path) bs ≡ table_at path bs
unfolding table_at
table_same path bs = rw (after_same path (line_rest (drop (line_len bs) bs))) refl

-- it does not change which container stops a line
stopped_none : (c : Container) (o : Option Rest) → is_some o ≡ false → is_some (option_and_then (prefix c) o) ≡ true → ⊥
stopped_none c o e h = grind arith

whole_by : (c : Container) (path : List Container) (r : Rest) (t : Bool) → is_some (after path r) ≡ t
    → is_some (option_and_then (prefix c) (after path r)) ≡ true
    → (if t then is_definition c && not (is_some (option_and_then (prefix c) (after path r))) else at_definition path r) ≡ false
whole_by c path r t e h = grind (arith, and-false, stopped_none)

-- no container stops a line that continues all containers
pub whole_none : (path : List Container) (r : Rest) → is_some (after path r) ≡ true → at_definition path r ≡ false
unfolding at_definition after
whole_none [] r h = refl
whole_none (c ∷ path) r h = whole_by c path r (is_some (after path r)) refl h

stop_by : (path : List Container) (r : Rest) (t : Bool) → is_some (after path r) ≡ t → (if t then false else at_definition path r) ≡ at_definition path r
stop_by path r t e = grind (arith, whole_none)

stop_same : (path : List Container) (r : Rest) → at_definition (with_old path) r ≡ at_definition path r
unfolding at_definition
stop_same path r = stop_by path r (is_some (after path r)) refl

continued_same : (path : List Container) (r : Rest) → continued (with_old path) r ≡ continued path r
continued_same path r = rw (after_same path r, stop_same path r) refl

interrupts_same : (options : Options) (path : List Container) (c : Continued) (r : Rest)
    → interrupts (context options (with_old path)) c r ≡ interrupts (context options path) c r
unfolding interrupts
interrupts_same options path c r = rw (table_same path (all_taken r).left) refl

paragraph_same : (options : Options) (path : List Container) (r : Rest)
    → ends_paragraph (context options (with_old path)) r ≡ ends_paragraph (context options path) r
paragraph_same options path r = rw (continued_same path r, front_same path r) (interrupts_same options path (continued path r) (front path r))

crossed_same : (options : Options) (path : List Container) (in_label : Bool) (r : Rest)
    → crossed in_label (context options (with_old path)) r ≡ crossed in_label (context options path) r
unfolding crossed
crossed_same options path in_label r = rw (paragraph_same options path r, front_same path r, after_same path r) refl

-- in GitHub's form, no label continues on another line
prefix_by : (options : Options) (columns : ℕ) (path : List Container) (bs : List ℕ) (t : Bool) → gfm_footnotes options ≡ t
    → columns ≡ (if t then 4 else 0)
    → footnote_prefix (context options (FootnoteDefinition columns ∷ path)) bs ≡ footnote_prefix (context options path) bs
prefix_by options columns path bs t gfm is = grind (arith, crossed_same)

prefix_same : (options : Options) (columns : ℕ) (path : List Container) (bs : List ℕ) → columns ≡ footnote_columns options
    → footnote_prefix (context options (FootnoteDefinition columns ∷ path)) bs ≡ footnote_prefix (context options path) bs
prefix_same options columns path bs is = prefix_by options columns path bs (gfm_footnotes options) refl is

pub head_around : (options : Options) (columns : ℕ) (path : List Container) (p : Place) → columns ≡ footnote_columns options
    → footnote_head_at (context options (FootnoteDefinition columns ∷ path)) p ≡ footnote_head_at (context options path) p
unfolding footnote_head_at
head_around options columns path p is = grind (arith, prefix_same)
