-- An open paragraph whose lines were read contains a chain, whose tokens are in order.
use Rattle.std.proofs.Common.{◌≡◌, ℕ, ◌≤◌, List, [], ◌∷◌, length, IsUtf8, refl, sym, ap, subst, ◌∙◌, arith}
use Rattle.first_pass_grammar.proofs.Common.{Item, Paragraph, TreeIndex, Forest, appended, start_of, start_of-lines, AreInOrder, chained, order_bound, order_to}
use Rattle.first_pass_grammar.proofs.Common.{Document, TextLines, IsOrderedTo, extent_of, IsBetween}
use Rattle.first_pass.proofs.Common.{HoldsChain, HoldsText, HoldsTokens, with_child, TextInOrder, text_is_in_order}
use Rattle.first_pass_blocks.proofs.Common.{begun_item, path_of, ordered_appended, ordered_later}
use Rattle.first_pass.proofs.Chains.{chain_holds, chain_in, marked_is, tokens_in}

-- a chain is added
chain_ordered : (text : List ℕ) (f : Forest Item) (from to : ℕ) (chain : List Item) → AreInOrder text from to chain → to ≤ length text → IsOrderedTo text f from
    → IsOrderedTo text (chained f chain) to
chain_ordered text f from to [] h high o = ordered_later text f from to h high o
chain_ordered text f from to (x ∷ xs) h high o =
    let rest = order_bound text x.«end» to xs h.4 in
    let between : IsBetween text from x.«end» (extent_of x) = record { following = h.0; order = h.1; before = omega arith; starts = h.2; ends = h.3 } in
    chain_ordered text (appended f x) x.«end» to xs h.4 high (ordered_appended text f from x.«end» x between (omega arith) o)

module _ (d : Document) (utf8 : IsUtf8 d.text) (f : Forest Item) (block : TreeIndex) (l : TextLines) (h : HoldsText d f block l) where
  abbrev following : ℕ
  following = start_of (length d.text) l.left

  in_order : TextInOrder d h.start l
  in_order = text_is_in_order d (path_of d.options h.before) h.start l utf8 h.boundary h.lines

  -- The open paragraph is in order.
  pub open_ordered : IsOrderedTo d.text f following
  open_ordered =
      let left : following ≡ in_order.left_at = ap (start_of (length d.text)) in_order.left_is ∙ start_of-lines d.text in_order.left_at in_order.left_within in
      let before : in_order.stop ≤ following = in_order.before in
      let within : following ≤ length d.text = omega (arith, in_order.left_within) in
      subst (λ g. IsOrderedTo d.text g following) (sym (h.tree_is ∙ marked_is h.before h.marker l.chain))
      (ordered_later d.text (chained (with_child h.before h.marker) l.chain) in_order.stop following before within
      (chain_ordered d.text (with_child h.before h.marker) h.start in_order.stop l.chain in_order.order (omega arith) h.ordered))

  -- It contains a chain.
  pub open_chain : HoldsChain d.text f block following
  open_chain =
      chain_in d.text f h.before block following l.chain
      (record {
        node = begun_item h.start Paragraph;
        marker = h.marker;
        from = h.from;
        opened = h.opened;
        begun = h.paragraph;
        has_text = refl;
        starts = h.boundary;
        stands = h.stands;
      })
      (tokens_in d.text h.start following l.chain (order_to d.text h.start in_order.stop following l.chain in_order.order in_order.before)
      in_order.escapes) h.tree_is

  -- Its children are tokens.
  pub open_tokens : HoldsTokens d.text f block
  open_tokens = chain_holds d.text f block following open_chain
