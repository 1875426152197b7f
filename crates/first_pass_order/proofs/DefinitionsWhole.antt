-- Tables stay whole when a definition begins, and when a possible title is kept.
use Rattle.std.proofs.Common.{◌≡◌, ℕ, zero, suc, ◌+◌, ◌<◌, true, false, List, [], ◌∷◌, ◌++◌, length, map, take, drop, slice_get, Option, Some, None, refl, sym}
use Rattle.std.proofs.Common.{ap, subst, ◌∙◌, arith, IsSomeAnd}
use Rattle.first_pass_grammar.proofs.Common.{option_map_or, Item, ItemBody, Paragraph, DefinitionList, DefinitionListTitle, MaybeDefinitionListTitle, TreeIndex}
use Rattle.first_pass_grammar.proofs.Common.{Forest, IsForest, modify, with_end, body_at, item_at, deeper, body-kept, body-changed, body_of, list_flags, Names}
use Rattle.first_pass_grammar.proofs.Common.{marks, ShowsNothing, SilentFrom, may_be_title, HasWholeTables}
use Rattle.first_pass_order.proofs.Common.{PassState, AreIn, whole_same, HaveNoRows, IsSilentLast}
use Rattle.first_pass_completion.proofs.SilentNodes.{marks_modified, none_shown, from_at, from_modified, each_from}
use Rattle.first_pass_lists.specs.Closing.{current_body, with_current, title_begun, definition_begun}
use Rattle.first_pass_order.proofs.AlikeNodes.{titled, opened_both, current_like}
use Rattle.first_pass_order.proofs.DefinitionBegun.{current_past, titled_at, titled_front}
use Rattle.first_pass_order.proofs.PropertyKept.{definition_keeps}
use Rattle.first_pass_order.proofs.WholeKept.{may_not_open, none_kept, ended_keeps, IsReadWhole, marks_ended, like_whole, whole_kept}

none_before : (old new : List (ℕ × Item)) (n : ℕ) (s : List TreeIndex) → ((i : ℕ) → i < n → body_at new i ≡ body_at old i) → AreIn n s
    → HaveNoRows old s → HaveNoRows new s
none_before old new n [] same before h = tt
none_before old new n (ix ∷ s) same before h =
    (subst (λ o. IsSomeAnd o (λ b. may_not_open b ≡ false)) (sym (same ix.0 before.0)) h.0, none_before old new n s same before.1 h.1)

marks_wrapped : (names : Names) (nodes : List (ℕ × Item)) (c j : ℕ) (t : ℕ × Item) → j ≡ suc c → ShowsNothing t.1.body → SilentFrom nodes c
    → marks names (take j nodes ++ t ∷ map deeper (drop j nodes)) ≡ marks names nodes
unfolding marks
marks_wrapped names [] c j t is own h = absurd h
marks_wrapped names (n ∷ nodes) c zero t is own h = absurd (omega arith)
marks_wrapped names (n ∷ nodes) zero (suc zero) t is own h =
    none_shown names (n ∷ t ∷ map deeper nodes) (h.0, (own, each_from deeper (λ n k. k) zero nodes h.1)) ∙ sym (none_shown names (n ∷ nodes) h)
marks_wrapped names (n ∷ nodes) zero (suc (suc j)) t is own h = absurd (omega arith)
marks_wrapped names (n ∷ nodes) (suc c) (suc j) t is own h = grind (arith, marks_wrapped names nodes c j t (omega arith) own h)

module _ (names : Names) where
  -- a paragraph becomes the title of a list
  titled_whole : (f : Forest Item) (c : TreeIndex) (y : Item) → IsForest f → f.current ≡ Some c → item_at f c ≡ Some y → y.body ≡ Paragraph
      → HasWholeTables names f → HasWholeTables names (titled f c y)
  titled_whole f c y forest current here body h =
      let list : ItemBody = DefinitionList (list_flags true) in
      let to : Item → Item = λ x. record x { body = list } in
      let is : body_at f.nodes c.0 ≡ Some Paragraph = body_of f c y here ∙ ap (λ z. Some z) body in
      let silent : SilentFrom f.nodes c.0 = subst (IsSilentLast f.nodes) current h.last (ap (λ o. option_map_or may_be_title o false) is) in
      let t : ℕ × Item = (length f.spine + 2, record { start = y.start; «end» = y.«end»; body = DefinitionListTitle }) in
      let still = from_modified f.nodes c.0 c.0 to (λ x k names depth start end. refl) silent in
      record {
        whole = whole_same names f.nodes (titled f c y).nodes
            (marks_wrapped names (modify f.nodes c.0 to) c.0 (c.0 + 1) t (omega arith) (λ names depth start end. refl) still
            ∙ marks_modified names f.nodes c.0 to (λ x k names depth start end. refl) (from_at f.nodes c.0 silent)) h.whole;
        none_open = (
          rw (titled_at f c y here c.0 (omega arith), body-changed f.nodes c.0 to Paragraph list is (λ x e. refl)) refl,
          none_before f.nodes (titled f c y).nodes c.0 f.spine (titled_front f c y here) (current_past f c forest current) h.none_open,
        );
        last = tt;
      }

  pub definition_whole : (start columns : ℕ) (r : PassState) → IsForest r.tree → IsReadWhole names r → IsReadWhole names (definition_begun start columns r)
  definition_whole start columns r forest h =
      definition_keeps (whole_kept names) 0 start columns 0 r tt tt (λ names depth start end. refl, refl)
      (opened_both r.tree (λ g. HasWholeTables names g) (λ g l. like_whole names r.tree g l h)
      (λ c y current here body. titled_whole r.tree c y forest current here body h))

  -- the innermost open node has another end
  last_ended : (nodes : List (ℕ × Item)) (i e : ℕ) (o : Option TreeIndex) → IsSilentLast nodes o
      → IsSilentLast (modify nodes i (λ x. record x { «end» = e })) o
  last_ended nodes i e None h = tt
  last_ended nodes i e (Some c) h = grind (arith, from_modified, body-kept)

  end_whole : (f : Forest Item) (e : ℕ) (s : List TreeIndex) → f.spine ≡ s → HasWholeTables names f → HasWholeTables names (with_end f e (slice_get s 0))
  end_whole f e [] spine h = h
  end_whole f e (ix ∷ rest) spine h =
      let ended : List (ℕ × Item) = modify f.nodes ix.0 (λ x. record x { «end» = e }) in
      let none : HaveNoRows f.nodes (ix ∷ rest) = subst (HaveNoRows f.nodes) spine h.none_open in
      record {
        whole = whole_same names f.nodes ended (marks_ended names f.nodes ix.0 e none.0) h.whole;
        none_open = none_kept f.nodes ended f.spine (ended_keeps f.nodes ix.0 e) h.none_open;
        last = last_ended f.nodes ix.0 e f.current h.last;
      }

  -- a possible title is kept
  pub title_begun_whole : (e : ℕ) (r : PassState) → current_body r.tree ≡ Some Paragraph → IsReadWhole names r → IsReadWhole names (title_begun e r)
  unfolding title_begun
  title_begun_whole e r is h =
      let l = current_like r.tree r.tree.current is in
      end_whole (with_current r.tree MaybeDefinitionListTitle r.tree.current) e r.tree.spine l.spine (like_whole names r.tree _ l h)
