use Rattle.std.proofs.Common.{◌≡◌, ◌&&◌, ◌||◌, not, ℕ, List, Bool, true, false, None, OnErr, is_some, refl, sym, ap, subst, ◌∙◌}
use Rattle.first_pass_grammar.proofs.Common.{Item, Options, has, footnotes, definition_list, Forest, in_table, footnote_head, interrupts_with}
use Rattle.first_pass.proofs.Common.{context_in}
use Rattle.std.proofs.lemmas.Result.{IfOk-weaker}
use Rattle.first_pass_grammar.specs.TableHeads.{table_interrupts}
use Rattle.first_pass_kinds.specs.Memory.{may_head_table}
use Rattle.first_pass.specs.Interrupts.{colon_interrupts}
use Rattle.first_pass.specs.Views.{tree_of}
use Rattle.first_pass.proofs.state.FirstPass.scan_paragraph_interrupt.Goals as goal

-- three tests, the last two of them under options, and a fourth
with_fourth : (answer a t t' p u u' q d : Bool) → answer ≡ (a || ((t && p) || (u && q))) → t ≡ t' → u ≡ u'
    → (answer || d) ≡ (a || ((t' && p) || ((u' && q) || d)))
with_fourth answer a t t' p u u' q d said first second =
    ap (λ z. z || d) (said ∙ ap (λ z. a || ((z && p) || (u && q))) first ∙ ap (λ z. a || ((t' && p) || (z && q))) second) ∙ moved a (t' && p) (u' && q)
  where
    moved : (a b c : Bool) → ((a || (b || c)) || d) ≡ (a || (b || (c || d)))
    moved true b c = refl
    moved false true c = refl
    moved false false c = refl

module _ (options : Options) (whole : Bool) (f : Forest Item) (kept : ℕ) (text : List ℕ) where
  -- a table interrupts, or what does so before any table: the start of a block, the head of a footnote definition, or a `:`
  by_table : (answer t u d : Bool)
      → answer ≡ (interrupts_with (whole && not (in_table f.nodes f.spine)) text || ((t && is_some (footnote_head (λ further. None) false text))
      || (u && colon_interrupts options whole f kept text)))
      → t ≡ has options footnotes → u ≡ has options definition_list
      → (answer || d) ≡ (interrupts_with (whole && not (in_table f.nodes f.spine)) text
      || ((has options footnotes && is_some (footnote_head (λ further. None) false text))
      || ((has options definition_list && colon_interrupts options whole f kept text) || d)))
  by_table answer t u d =
      with_fourth answer (interrupts_with (whole && not (in_table f.nodes f.spine)) text) t (has options footnotes)
      (is_some (footnote_head (λ further. None) false text)) u (has options definition_list) (colon_interrupts options whole f kept text) d

pub returns-then-branch : goal.returns-then-branch
returns-then-branch c =
    let options : Options = c.args.self.now.pass.source.options in
    let bs : List ℕ = c.args.text.now in
    let d : Bool = table_interrupts (context_in c.args.self.now) bs in
    let all = by_table options c.args.current_container (tree_of c.args.self.now) c.args.tree_position bs _ c.contains.result c.contains-2.result d
    (c.in_ok-scan_paragraph_interrupt_no_table.ensures.value options) (c.contains.ensures tt) (c.contains-2.ensures tt) in
    record { value = ap (λ z. z || d) (sym c.if-branch.true) ∙ all; err = tt }

pub returns : goal.returns
returns c =
    let options : Options = c.args.self.now.pass.source.options in
    let bs : List ℕ = c.args.text.now in
    let around = context_in c.args.self.now in
    let d : Bool = table_interrupts around bs in
    let all = by_table options c.args.current_container (tree_of c.args.self.now) c.args.tree_position bs _ c.contains.result c.contains-2.result d
    (c.in_ok-scan_paragraph_interrupt_no_table.ensures.value options) (c.contains.ensures tt) (c.contains-2.ensures tt) in
    let none = ap (λ z. z || d) (sym c.if-branch.false) ∙ all in
    record {
      value =
          IfOk-weaker c.interrupts_as_table.result _ _ (λ answer h. h ∙ ap (table_interrupts around) c.as_bytes.ensures.value ∙ none)
          c.interrupts_as_table.ensures.value;
      err =
          subst (λ (b : List ℕ). OnErr c.interrupts_as_table.result (may_head_table around b ≡ true)) c.as_bytes.ensures.value
          c.interrupts_as_table.ensures.err;
    }
