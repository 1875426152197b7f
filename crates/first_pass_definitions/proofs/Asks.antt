-- When reading a definition needs memory.
use Rattle.std.proofs.Common.{◌≡◌, ◌⊎◌, inl, inr, ℕ, zero, suc, ◌+◌, ◌<◌, Bool, true, false, List, drop, Option, Some, None, Result, is_some, IsSomeAnd}
use Rattle.std.proofs.Common.{IsCharBoundary, sym, ap, subst, ◌∙◌, arith, Bor, drop-drop, option_map, option_and_then}
use Rattle.first_pass_grammar.proofs.Common.{AllocError, or_right, colon, left_bracket, label_at, option_map_or, begins, eol_len, line_rest, unescaped_upto}
use Rattle.first_pass_grammar.proofs.Common.{destination_at, gfm_footnotes, begins_footnote_mark, Context, title_prefix, target_at, deepest_nesting}
use Rattle.first_pass_grammar.proofs.Common.{prefix_crossed, reference_definition_at, LinkDef, CowStr, some_mapped}
use Rattle.first_pass_links.specs.Labels.{CanErr, ErrsAfter, IsRewritten, HasNoBracket}
use Rattle.first_pass_links.proofs.Labels.{place_past}
use Rattle.first_pass_kinds.specs.Memory.{line_may_head_table}
use Rattle.first_pass_labels.specs.declared.label_table.LinkPlaces.{LinkPlaces}
use Rattle.first_pass_definitions.specs.Reading.{stops_title_line, goes_on_at}
use Rattle.first_pass_definitions.proofs.Targets.{IsReferenceAnswer, DestRead, LabelRead, drop_to, TargetFound}
use Rattle.first_pass_definitions.proofs.OptionFacts.{and_some, matched}
use Rattle.first_pass_definitions.specs.Memory.{LabelAsks, TargetAsks, ReferenceAsks, AfterAsks, PartsAsk, line_asks, text_asks, after_asks, MeetsTable}

further_asks : (around : Context) (bs : List ℕ) (n next : ℕ) (o : Option ℕ)
    → option_and_then (λ e. option_map (λ k. n + e + k) (title_prefix around (drop (n + e) bs))) o ≡ Some next
    → option_map_or (λ e. line_asks around (drop (n + e) bs)) o false ≡ true
further_asks around bs n next o h = grind (arith, and_some, some_mapped)

pub table_asks : (around : Context) (bs : List ℕ) (n : ℕ) (o : Option ℕ)
    → option_map_or (λ e. line_may_head_table around (line_rest (drop (n + e) bs))) o false ≡ true
    → option_map_or (λ e. line_asks around (drop (n + e) bs)) o false ≡ true
table_asks around bs n None h = h
table_asks around bs n (Some e) h = or_right (is_some (title_prefix around (drop (n + e) bs))) (line_may_head_table around (line_rest (drop (n + e) bs))) h

-- A line ending at which a title may need memory follows its first line. After a later line, it is known already.
pub asks_at : (around : Context) (close from stop : ℕ) (bs : List ℕ)
    → (0 < from → text_asks around close bs ≡ true) → stop ≡ from + unescaped_upto (stops_title_line close) 0 (drop from bs)
    → option_map_or (λ e. line_asks around (drop (stop + e) bs)) (eol_len (drop stop bs)) false ≡ true → text_asks around close bs ≡ true
unfolding text_asks
asks_at around close zero stop bs f e h = grind arith
asks_at around close (suc from) stop bs f e h = f (omega arith)

-- the title continues after its first line
pub goes_asks : (around : Context) (close from stop next : ℕ) (bs : List ℕ)
    → (0 < from → text_asks around close bs ≡ true) → stop ≡ from + unescaped_upto (stops_title_line close) 0 (drop from bs)
    → goes_on_at (title_prefix around) bs stop ≡ Some next → text_asks around close bs ≡ true
goes_asks around close from stop next bs f e h =
    asks_at around close from stop bs f e (further_asks around bs stop next (eol_len (drop stop bs)) h)

-- a label
pub label_asks : (around : Context) (prefix : List ℕ → Option ℕ) (t u : Bool) (bs : List ℕ) (post : Bor (List ℕ) → Result (Option ℕ) AllocError → Type 0)
    → t ≡ u → CanErr prefix t bs post
    → ((at : ℕ) → ErrsAfter bs at post → line_may_head_table around (line_rest (drop (at + 1) bs)) ≡ true)
    → IsRewritten prefix u bs ⊎ (HasNoBracket prefix bs × MeetsTable around bs)
label_asks around prefix t u bs post k (inl z) f = inl (subst (λ x. IsRewritten prefix x bs) k z)
label_asks around prefix t u bs post k (inr (n, s)) f = let r = s.errs.1 in inr (n, (s.at, r.within, r.line_end, f s.at s.errs))

-- and that of a footnote
pub footnote_asks : (around : Context) (prefix : List ℕ → Option ℕ) (t u : Bool) (bs : List ℕ) (post : Bor (List ℕ) → Result (Option ℕ) AllocError → Type 0)
    → t ≡ u → begins_footnote_mark bs ≡ true → CanErr prefix t (drop 2 bs) post
    → ((at : ℕ) → ErrsAfter (drop 2 bs) at post
    → (gfm_footnotes around.options ≡ false) × (line_may_head_table around (line_rest (drop (at + 1) (drop 2 bs))) ≡ true))
    → (begins_footnote_mark bs ≡ true)
    × (IsRewritten prefix u (drop 2 bs) ⊎ (HasNoBracket prefix (drop 2 bs) × (gfm_footnotes around.options ≡ false) × MeetsTable around (drop 2 bs)))
footnote_asks around prefix t u bs post k m (inl z) f = (m, inl (subst (λ x. IsRewritten prefix x (drop 2 bs)) k z))
footnote_asks around prefix t u bs post k m (inr (n, s)) f =
    let both = f s.at s.errs in
    let r = s.errs.1 in
    (m, inr (n, both.0, (s.at, r.within, r.line_end, both.1)))

-- a place after another
pub place_from : (text following bs : List ℕ) (start at : ℕ) → IsCharBoundary text start → bs ≡ drop start text → IsCharBoundary bs at → following ≡ drop at bs
    → IsCharBoundary text (start + at) × (following ≡ drop (start + at) text)
place_from text following bs start at p is b e =
    (place_past text start at p.0 (subst (λ ys. IsCharBoundary ys at) is b), e ∙ ap (drop at) is ∙ drop-drop at start text)

-- a target step by step
pub dest_asks : {around : Context} {text : List ℕ} {start at n : ℕ} {b : Bor (List ℕ)} → DestRead around text start at n b
    → after_asks around (drop (at + n) text) ≡ true → AfterAsks around (drop start text)
dest_asks {around} {text} {start} {at} {n} {b} d a =
    let size = d.size in
    let there = d.there in
    record {
      space = d.space;
      space_is = d.space_is;
      dest = d.dest;
      dest_is = ap (destination_at deepest_nesting) (drop_to text start d.space.0 at there) ∙ d.dest_is;
      asks = ap (after_asks around) (drop_to text start (d.space.0 + d.dest.0) (at + n) (omega arith)) ∙ a;
    }

pub parts_ask : (around : Context) (text : List ℕ) (start : ℕ) (to : ℕ × LinkPlaces) (b : Bor (List ℕ)) (title : Option CowStr) (t u : Bool)
    → t ≡ u → (f : TargetFound around text start to b title) → PartsAsk t f.target
    → IsSomeAnd (target_at around (drop start text)) (λ target. PartsAsk u target.1)
parts_ask around text start to b title t u k f p = rw f.is (subst (λ x. PartsAsk x f.target) k p)

-- a definition step by step
pub ask_label : (t : Bool) (around : Context) (text : List ℕ) (start : ℕ)
    → begins left_bracket (drop start text) ≡ true → LabelAsks around t (drop (start + 1) text) → ReferenceAsks t around (drop start text)
ask_label t around text start b a = (b, inl (subst (LabelAsks around t) (sym (drop-drop 1 start text)) a))

pub ask_target : {t : Bool} {around : Context} {text : List ℕ} {start n : ℕ} {label : CowStr} → LabelRead t around text start n label
    → begins colon (drop (start + 1 + n) text) ≡ true → TargetAsks t around (drop (start + 1 + n + 1) text) → ReferenceAsks t around (drop start text)
ask_target {t} {around} {text} {start} {n} {label} l k a =
    let there : drop 1 (drop start text) ≡ drop (start + 1) text = drop-drop 1 start text in
    let same = l.size in
    let at_colon = ap (drop l.found.0) there ∙ drop_to text (start + 1) l.found.0 (start + 1 + n) (omega arith) in
    let target = ap (drop (l.found.0 + 1)) there ∙ drop_to text (start + 1) (l.found.0 + 1) (start + 1 + n + 1) (omega arith) in
    let is = ap (label_at (prefix_crossed true around) t) there ∙ l.is in
    (l.bracket, inr (inl (l.found, is, ap (begins colon) at_colon ∙ k, subst (TargetAsks t around) (sym target) a)))

pub ask_key : (t : Bool) (around : Context) (text : List ℕ) (start : ℕ) (found : ℕ × CowStr × LinkDef) → begins left_bracket (drop start text) ≡ true
    → IsReferenceAnswer t start (reference_definition_at t around (drop start text)) (Some found) → ReferenceAsks t around (drop start text)
ask_key t around text start found b h = (b, inr (inr (ap is_some (matched _ (reference_definition_at t around (drop start text)) h).is)))
