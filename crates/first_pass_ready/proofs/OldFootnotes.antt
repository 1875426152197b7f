-- A footnote definition in the old form ends at a line, after a counting blank line.
use Rattle.std.proofs.Common.{arith, ◌≡◌, ◌⊎◌, inl, inr, ℕ, ◌==◌, Bool, true, false, not, ◌&&◌, List, [], ◌∷◌, Option, Some, None, refl, sym, ap, subst, ◌∙◌}
use Rattle.std.proofs.Common.{if◌then◌else◌, option_and_then}
use Rattle.first_pass_grammar.proofs.Common.{and-false, Item, ItemBody, DefinitionListDefinition, CowIndex, Options, gfm_footnotes, TreeIndex, Forest}
use Rattle.first_pass_grammar.proofs.Common.{body_at, Rest, Place, line_place, Before, footnote_columns, after, in_footnote, in_old_footnote, Document, Line}
use Rattle.first_pass_grammar.proofs.Common.{level, ends_old_footnote, Tables, no_tables, Closed, Frame, InContainer, containers_of, last_plain, StandsIn}
use Rattle.first_pass_items.specs.declared.item.ItemBody.TheVariants.{FootnoteDefinition as FootnoteDefinitionBody}
use Rattle.first_pass_grammar.specs.declared.kind.Container.{Container}
use Rattle.first_pass_grammar.specs.declared.kind.Container.TheVariants.{FootnoteDefinition}
use Rattle.first_pass_completion.proofs.Extending.{tail, lvl}
use Rattle.first_pass_grammar.proofs.Sequences.Goings.{ends_old}
use Rattle.first_pass_open.specs.OpenBlock.{closed_by}
use Rattle.first_pass_open.specs.Path.{container_of, with_container, path_in, path_of}
use Rattle.first_pass_lists.specs.Closing.{top_body, is_footnote, popped, footnote_ended}
use Rattle.first_pass_lists.specs.declared.state.PassState.{PassState}
use Rattle.first_pass_ready.specs.State.{closed_in, AreOpen, ReadyAt, ReadyWith, Ready}
use Rattle.first_pass_ready.proofs.ClosedIn.{IsTop, top_of, top_in, HasDefined, open_defined, plain_not_open}
use Rattle.first_pass_ready.proofs.ItemBodies.{item_container}
use Rattle.first_pass_ready.proofs.PopLemmas.{leave_container}
use Rattle.first_pass_ready.proofs.StateLemmas.{ready_plain, popped_as, popped_kept, popped_spine}
use Rattle.first_pass_grammar.proofs.Sequences.FootnoteHeads.{after_by}

-- the innermost open node is a footnote definition that ends at the next line: one in the old form, after a counting
-- blank line
abbrev pub ends_here : Options → Forest Item → Bool → Bool
ends_here options f run = is_footnote (top_body f) && (run && not (gfm_footnotes options))

pub stays_unblank : (options : Options) (f : Forest Item) → ends_here options f false ≡ false
stays_unblank options f = and-false (is_footnote (top_body f))

-- no footnote definition, by the frames
container_no_footnote : (options : Options) (b : Option ItemBody) (c : Container) → option_and_then (container_of options) b ≡ Some c
    → in_footnote (c ∷ []) ≡ false → is_footnote b ≡ false
container_no_footnote options b c h out = grind (arith, h, out)

no_footnote_in : (options : Options) (top : Option ItemBody) (frames : List Frame) → IsTop options top frames
    → in_footnote (containers_of frames) ≡ false → is_footnote top ≡ false
no_footnote_in options top frames is out = grind (arith, is, out, container_no_footnote)

-- a list remains after an item or a definition in it is closed
item_in_container : (b : ItemBody) (n : ℕ) (c : Container) (frames : List Frame) → StandsIn (item_container b n) (InContainer c ∷ frames) → ⊥
item_in_container (DefinitionListDefinition columns) n c frames stands = stands
item_in_container b n c frames stands = stands

no_footnote_around : (options : Options) (top : Option ItemBody) (frames : List Frame) (b : ItemBody) (n : ℕ)
    → IsTop options top frames → StandsIn (item_container b n) frames → is_footnote top ≡ false
no_footnote_around options top frames b n is stands = grind (arith, is, stands, item_in_container)

pub stays_in_list : (d : Document) (defined : Tables) (f : Forest Item) (run : Bool) (lines : List Place) (ready : ReadyAt d defined f run Line lines)
    (b : ItemBody) (n : ℕ) → StandsIn (item_container b n) ready.frames → ends_here d.options f run ≡ false
stays_in_list d defined f run lines ready b n stands =
    ap (λ (t : Bool). t && (run && not (gfm_footnotes d.options)))
    (no_footnote_around d.options (top_body f) ready.frames b n (top_of d.options f.nodes f.spine ready.frames ready.are_open) stands)

-- If the innermost open node does not end here, it does not end in the grammar.
old_by : (options : Options) (b : Option ItemBody) (n : ℕ) (run : Bool) → option_and_then (container_of options) b ≡ Some (FootnoteDefinition n)
    → (is_footnote b && (run && not (gfm_footnotes options))) ≡ false → ((n == 0) && (run && true)) ≡ false
old_by options b n run is h = grind (arith, is, h)

list_stays : (a run : Bool) → (a && (run && false)) ≡ false
list_stays a run = ap (λ (t : Bool). a && t) (and-false run) ∙ and-false a

continues_in : (options : Options) (top : Option ItemBody) (frames : List Frame) (closed : Closed) (run : Bool)
    → IsTop options top frames → HasDefined frames closed → (is_footnote top && (run && not (gfm_footnotes options))) ≡ false
    → ends_old_footnote (lvl frames (tail closed run)) ≡ false
continues_in options top frames closed run is has h = grind (arith, is, has, h, old_by, plain_not_open, list_stays)

pub goes_on_at : (options : Options) (f : Forest Item) (frames : List Frame) (run : Bool) → AreOpen options f.nodes f.spine frames
    → ends_here options f run ≡ false → ends_old_footnote (lvl frames (tail (closed_in f) run)) ≡ false
goes_on_at options f frames run o h =
    continues_in options (top_body f) frames (closed_in f) run (top_of options f.nodes f.spine frames o) (open_defined options f frames o) h

-- it stays open; or it is a footnote definition in the old form after a counting blank line, and is closed
abbrev pub Stays : Options → ℕ → PassState → Type 0
Stays options e r = (footnote_ended options e r ≡ r) × (ends_here options r.tree r.blank ≡ false)

abbrev pub IsLeft : Options → ℕ → PassState → Type 0
IsLeft options e r =
    (footnote_ended options e r ≡ popped e r) × (gfm_footnotes options ≡ false) × (r.blank ≡ true) × (is_footnote (top_body r.tree) ≡ true)

ended_cases : (options : Options) (e : ℕ) (r : PassState) (g b t : Bool) → gfm_footnotes options ≡ g → r.blank ≡ b → is_footnote (top_body r.tree) ≡ t
    → Stays options e r ⊎ IsLeft options e r
ended_cases options e r true b t g b_is t_is = inl (rw g refl, rw g (list_stays (is_footnote (top_body r.tree)) r.blank))
ended_cases options e r false false t g b t_is = inl (rw (g, b) refl, rw (g, b) (and-false (is_footnote (top_body r.tree))))
ended_cases options e r false true false g b t = inl (rw (g, b, t) refl, rw (g, b, t) refl)
ended_cases options e r false true true g b t = inr (rw (g, b, t) refl, g, b, t)

pub ended_as : (options : Options) (e : ℕ) (r : PassState) → Stays options e r ⊎ IsLeft options e r
ended_as options e r = ended_cases options e r (gfm_footnotes options) r.blank (is_footnote (top_body r.tree)) refl refl refl

-- it is a footnote definition with a label
footnote_is : (b : Option ItemBody) → is_footnote b ≡ true → (label : CowIndex) × (b ≡ Some (FootnoteDefinitionBody label))
footnote_is (Some (FootnoteDefinitionBody label)) h = (label, refl)
footnote_is b h = cc

pub footnote_top : (nodes : List (ℕ × Item)) (s : List TreeIndex) → is_footnote (top_in nodes s) ≡ true
    → (ix : TreeIndex) × (rest : List TreeIndex) × (label : CowIndex) × (s ≡ ix ∷ rest) × (body_at nodes ix.0 ≡ Some (FootnoteDefinitionBody label))
footnote_top nodes [] h = cc
footnote_top nodes (ix ∷ rest) h = let b = footnote_is (body_at nodes ix.0) h in (ix, rest, b.0, refl, b.1)

-- one in the old form has no prefix
columns_none : (options : Options) → gfm_footnotes options ≡ false → footnote_columns options ≡ 0
columns_none options old = ap (λ (t : Bool). if t then 4 else 0) old

-- it is then the innermost container
pub in_old : (options : Options) (r : PassState) → gfm_footnotes options ≡ false → is_footnote (top_body r.tree) ≡ true
    → in_old_footnote (path_of options r.tree) ≡ true
in_old options r old top =
    let t = footnote_top r.tree.nodes r.tree.spine top in
    let path : List Container = path_in options r.tree.nodes t.1 in
    let inner : path_of options r.tree ≡ FootnoteDefinition (footnote_columns options) ∷ path =
    ap (path_in options r.tree.nodes) t.3 ∙ ap (λ o. with_container (option_and_then (container_of options) o) path) t.4 in
    ap in_old_footnote (inner ∙ ap (λ (n : ℕ). FootnoteDefinition n ∷ path) (columns_none options old))

after_old : (path : List Container) (r : Rest) → after (FootnoteDefinition 0 ∷ path) r ≡ after path r
unfolding after
after_old path r = after_by (after path r)

module _ (d : Document) (defined : Tables) (r : PassState) (line : Place) (lines : List Place) (e : ℕ) (ix : TreeIndex) (rest : List TreeIndex)
    (label : CowIndex)
    (spine : r.tree.spine ≡ ix ∷ rest) (body : body_at r.tree.nodes ix.0 ≡ Some (FootnoteDefinitionBody label))
    (old : gfm_footnotes d.options ≡ false) (blank : r.blank ≡ true) where
  left_path : (x : Rest) → after (path_of d.options (popped e r).tree) x ≡ after (path_of d.options r.tree) x
  left_path x = grind (arith, popped_kept, popped_spine, after_old, columns_none)

  left_with : (o : Option ℕ) → r.begin_list_item ≡ o → line.line ≡ e → ReadyWith d defined r (line ∷ lines) o
      → Ready d defined (popped e r) (line ∷ lines) × (ends_here d.options (popped e r).tree (popped e r).blank ≡ false)
  left_with (Some x) some e_is empty = grind arith
  left_with None none e_is ready =
      let path : List Container = path_in d.options r.tree.nodes rest in
      let columns : ℕ = footnote_columns d.options in
      let g : Forest Item = closed_by r.tree e (ix ∷ rest) in
      let before : Before = record { last = last_plain (closed_in r.tree); counted = r.blank } in
      let ends : ends_old_footnote (level (FootnoteDefinition columns ∷ path) before) ≡ true =
      ap (λ (t : Bool). (columns == 0) && (r.blank && not t)) (plain_not_open (closed_in r.tree))
      ∙ ap (λ (n : ℕ). (n == 0) && (r.blank && true)) (columns_none d.options old) ∙ ap (λ (b : Bool). b && true) blank in
      let left = leave_container d defined r.tree r.blank (line ∷ lines) e ix rest (FootnoteDefinition columns) spine
      (ap (option_and_then (container_of d.options)) body) Line
      (ends_old d.options (level (FootnoteDefinition columns ∷ path) before) (line ∷ lines) ends) (sym e_is) ready in
      let now : popped e r ≡ record r { tree = g } = popped_as e r ix rest (FootnoteDefinitionBody label) spine body refl in
      let out : in_footnote (containers_of left.ready.frames) ≡ false = left.apart in (
        subst (λ (q : PassState). Ready d defined q (line ∷ lines)) (sym now) (ready_plain d defined (record r { tree = g }) (line ∷ lines) none left.ready),
        subst (λ (q : PassState). ends_here d.options q.tree q.blank ≡ false) (sym now)
            (ap (λ (t : Bool). t && (r.blank && not (gfm_footnotes d.options)))
            (no_footnote_in d.options (top_body g) left.ready.frames (top_of d.options g.nodes g.spine left.ready.frames left.ready.are_open) out)),
      )

  left_ready : line.line ≡ e → Ready d defined r (line ∷ lines)
      → Ready d defined (popped e r) (line ∷ lines) × (ends_here d.options (popped e r).tree (popped e r).blank ≡ false)
  unfolding Ready
  left_ready e_is ready = left_with r.begin_list_item refl e_is ready

-- after the innermost open node has ended at a line, if it does
pub ended_path : (d : Document) (e : ℕ) (r : PassState) (x : Rest) → after (path_of d.options (footnote_ended d.options e r).tree) x
    ≡ after (path_of d.options r.tree) x
ended_path d e r x = elim (ended_as d.options e r) [
  | inl stays ↦ ap (λ (q : PassState). after (path_of d.options q.tree) x) stays.0
  | inr left ↦ (let top = footnote_top r.tree.nodes r.tree.spine left.3 in
      ap (λ (q : PassState). after (path_of d.options q.tree) x) left.0
      ∙ left_path d no_tables r (line_place 0 []) [] e top.0 top.1 top.2 top.3 top.4 left.1 left.2 x)
]

pub ended_ready : (d : Document) (defined : Tables) (e : ℕ) (r : PassState) (line : Place) (lines : List Place) → line.line ≡ e
    → Ready d defined r (line ∷ lines)
    → (let q : PassState = footnote_ended d.options e r in Ready d defined q (line ∷ lines) × (ends_here d.options q.tree q.blank ≡ false))
ended_ready d defined e r line lines e_is ready = elim (ended_as d.options e r) [
  | inl stays ↦ subst (λ (q : PassState). Ready d defined q (line ∷ lines) × (ends_here d.options q.tree q.blank ≡ false)) (sym stays.0) (ready, stays.1)
  | inr left ↦ (let top = footnote_top r.tree.nodes r.tree.spine left.3 in
      subst (λ (q : PassState). Ready d defined q (line ∷ lines) × (ends_here d.options q.tree q.blank ≡ false)) (sym left.0)
      (left_ready d defined r line lines e top.0 top.1 top.2 top.3 top.4 left.1 left.2 e_is ready))
]
