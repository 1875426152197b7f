use Rattle.std.proofs.Common.{inr, ◌≡◌, ◌+◌, ◌-◌, ◌≤◌, ℕ, arith, List, length, sym, ap, ◌∙◌, if◌then◌else◌, slice_range}
use Rattle.first_pass_grammar.proofs.Common.{Item, Forest, cut_siblings, chained, before_attributes, heading_attributes_of, chain_bytes, kept_before, Names}
use Rattle.first_pass_grammar.proofs.Common.{Extends, NamesAttributes}
use Rattle.first_pass_leaves.proofs.Common.{names_of, cut_siblings-chained, IsLastAndChildless}
use Rattle.first_pass_leaves.proofs.AttributeEnds.{clipped, cut_end, block_named, none_named, cut_by, cut_none, siblings_fewer}
use Rattle.first_pass_leaves.proofs.OrderPlain.{kept_place}
use Rattle.first_pass_grammar.proofs.Names.MoreNames.{extends_none}
use Rattle.first_pass_grammar.proofs.Names.TextsNamed.{given_entry}
use Rattle.first_pass_leaves.proofs.attributes.cut_attributes.Goals as goal
use Rattle.first_pass_leaves.proofs.attributes.cut_attributes.Goals.{After-is_some}

module _ (c : After-is_some) (f : Forest Item) (chain : List Item) (bare : IsLastAndChildless f) (is : c.args.tree.now ≡ chained f chain) where
  abbrev bytes : List ℕ
  bytes = chain_bytes c.args.source.now.text.now c.args.start chain

  -- the bytes of the chain are the heading's text
  same_bytes : slice_range c.args.source.now.text.now c.args.start c.min-end.result ≡ bytes
  same_bytes = grind (arith, clipped)

  -- the index names their attributes
  named_bytes : (more : Names) → Extends more (names_of c.name_attributes.new.allocs)
      → NamesAttributes more c.in_ok-content_end.index (heading_attributes_of c.args.source.now.options bytes)
  named_bytes more e = grind (arith, same_bytes)

pub returns-then-is_some-clause-cut : goal.returns-then-is_some-clause-cut
returns-then-is_some-clause-cut c f chain bare is =
    let text : List ℕ = c.args.source.now.text.now in
    let options = c.args.source.now.options in
    let start : ℕ = c.args.start in
    let names = names_of c.name_attributes.new.allocs in
    let bs : List ℕ = chain_bytes text start chain in
    let at_end = (goal.at.returns-then-is_some-clause-cut c).After-is_some in
    let content = c.in_ok-content_end.ensures.content
    ∙ ap (λ xs. start + length (before_attributes options xs)) (same_bytes at_end f chain bare is) in
    let named = named_bytes at_end f chain bare is in
    let (block, at) = block_named options bs names c.in_ok-content_end.index (named names (extends_none names)) (sym c.is_some.ensures ∙ c.if-is_some.true) in
    let stop : ℕ = c.in_ok-content_end.content_end in
    let white = rw c.as_bytes.ensures.value at c.white_at_cut.ensures.value in
    let cut = cut_by text options start c.args.broken chain block stop c.white_at_cut.result at content white in (
      c.truncate_siblings.ensures ∙ ap (λ (g : Forest Item). cut_siblings g (stop - c.white_at_cut.result)) is
          ∙ cut_siblings-chained f chain (stop - c.white_at_cut.result) bare.last bare.none ∙ ap (chained f) (sym cut),
      named,
    )

pub returns-else-is_some-clause-cut : goal.returns-else-is_some-clause-cut
returns-else-is_some-clause-cut c f chain bare is =
    let text : List ℕ = c.args.source.now.text.now in
    let options = c.args.source.now.options in
    let start : ℕ = c.args.start in
    let names = names_of c.name_attributes.new.allocs in
    let bs : List ℕ = chain_bytes text start chain in
    let named = named_bytes (goal.at.returns-else-is_some-clause-cut c).After-is_some f chain bare is in
    let none = none_named options bs names c.in_ok-content_end.index (named names (extends_none names)) (sym c.is_some.ensures ∙ c.if-is_some.false) in
    (is ∙ ap (chained f) (sym (cut_none text options start c.args.broken chain none)), named)

-- the offset at which the attribute block is cut off
pub returns-then-is_some-clause-children : goal.returns-then-is_some-clause-children
returns-then-is_some-clause-children c =
    let text : List ℕ = c.args.source.now.text.now in
    let options = c.args.source.now.options in
    let start : ℕ = c.args.start in
    let last : ℕ = c.min-end.result in
    let names = names_of c.name_attributes.new.allocs in
    let bs : List ℕ = slice_range text start last in
    let (block, at) = block_named options bs names c.in_ok-content_end.index (c.in_ok-content_end.ensures.named names (extends_none names))
    (sym c.is_some.ensures ∙ c.if-is_some.true) in
    let within : last ≤ length text = omega (arith, c.min-end.ensures) in
    let p = kept_place text options start last c.args.broken block within at in
    let stop : ℕ = c.in_ok-content_end.content_end in
    let same = cut_end text options start last c.args.broken block stop c.white_at_cut.result at c.in_ok-content_end.ensures.content
    (rw c.as_bytes.ensures.value at c.white_at_cut.ensures.value) in
    inr (start + kept_before c.args.broken block.opening bs, p.0, p.2, c.truncate_siblings.ensures ∙ ap (cut_siblings c.args.tree.now) (sym same))

pub returns-then-is_some-clause-entry : goal.returns-then-is_some-clause-entry
returns-then-is_some-clause-entry c =
    let names = names_of c.name_attributes.new.allocs in
    given_entry names c.in_ok-content_end.index _ (c.in_ok-content_end.ensures.named names (extends_none names))

pub returns-then-is_some-clause-node_bound : goal.returns-then-is_some-clause-node_bound
returns-then-is_some-clause-node_bound c =
    rw c.truncate_siblings.ensures (siblings_fewer c.args.tree.now (c.in_ok-content_end.content_end - c.white_at_cut.result))
