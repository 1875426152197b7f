-- The chains of paragraphs and headings are in order.
use Rattle.std.proofs.Common.{◌≡◌, ℕ, ◌+◌, ◌-◌, ◌≤◌, ◌<◌, ◌==◌, Bool, true, false, List, [], ◌∷◌, ◌++◌, length, take, drop, slice_index}
use Rattle.std.proofs.Common.{Option, Some, None, IfSome, IsUtf8, IsCharBoundary, refl, sym, ap, subst, ◌∙◌, inl, inr, arith, length-drop}
use Rattle.std.proofs.Common.{length-take-le, get_or-take, get_or-drop, take-take, eqb-true}
use Rattle.first_pass_grammar.proofs.Common.{cond_both, cases_lt, false≢true, nat_tests, suffix_len, suffix_len-le-length, ascii_end, space, number_sign}
use Rattle.first_pass_grammar.proofs.Common.{left_brace}
use Rattle.first_pass_grammar.proofs.Common.{Item, ItemBody, is_task_marker, Place, offset, IsPlaceOf, line_rest, place_at, start_of, start_of-lines}
use Rattle.first_pass_grammar.proofs.Common.{MathBraces, no_braces, spot, AreLineTokens, IsBreak, EndsLine, Inline, text_end, add_tokens, close_break, cut}
use Rattle.first_pass_grammar.proofs.Common.{AreInOrder}
use Rattle.first_pass_grammar.proofs.Common.{line_in_order, order_to, order_from, order_adds, order_bound, at_rest, front, unindented, Document}
use Rattle.first_pass_grammar.proofs.Common.{content_at, add_break}
use Rattle.first_pass_grammar.proofs.Common.{TextLines, AreTextLines, lines_from, chain_end, marker_items, text_children, heading_children, by_backslash}
use Rattle.first_pass_grammar.proofs.Common.{heading_bytes}
use Rattle.first_pass_grammar.proofs.Common.{heading_attribute_block, before_attributes, text_before_attributes, kept_before, Braces, HeadingIndex}
use Rattle.first_pass_grammar.proofs.Common.{IsHeading, line_bytes}
use Rattle.first_pass_grammar.proofs.Common.{heading_chain, kept_len, is_space_or_line_end, option_map_or, line_len, line_len-fits}
use Rattle.first_pass_grammar.proofs.Common.{IsCharBoundary-before_ascii, IsCharBoundary-end, drop-take, CowStr}
use Rattle.first_pass_grammar.specs.Leaves.{without_end, before_signs, ends_closing}
use Rattle.first_pass_grammar.specs.declared.kind.Container.{Container}
use Rattle.first_pass_tokens.specs.LineTokens.{is_break}
use Rattle.first_pass_tokens.proofs.Escapes.{EndsBy, cut_escaped, ends_later}
use Rattle.first_pass_tokens.proofs.LineLemmas.{ends_line, last_passes}
use Rattle.first_pass_tokens.proofs.OrderLemmas.{LineInOrder, order_closed, closed_line_in_order}
use Rattle.first_pass_open.specs.Between.{line_end_at, MarkerBetween}
use Rattle.first_pass_open.proofs.PlaceLemmas.{text_place}
use Rattle.first_pass_lines.proofs.LineFacts.{first_line}
use Rattle.first_pass_leaves.proofs.AttributeEnds.{before_none, braces_within, opens_with}
use Rattle.first_pass_leaves.proofs.OrderHeading.{line_stops}
use Rattle.first_pass_leaves.proofs.OrderParagraph.{TextInOrder, text_is_in_order, chain_end_place}
use Rattle.first_pass_leaves.proofs.OrderPlain.{kept_place, marked_end}
use Rattle.first_pass_leaves.proofs.ParagraphLemmas.{line_end-text}
use Rattle.first_pass_leaves.proofs.PlainTexts.{children_by}
use Rattle.first_pass_leaves.proofs.TextFronts.{front_len, front_utf8, place_in_front, order_in_text}
use Rattle.first_pass_reports.specs.Pairs.{is_escaped}
use Rattle.first_pass_chains.proofs.Backslashes.{FollowBackslashes, ends_adds, ends_append, follow_adds, follow_append, follow_closed, follow_cut}
use Rattle.first_pass_chains.proofs.Backslashes.{follow_earlier, follow_in_text, escapes_of, line_follows}

-- a chain in order, each of whose tokens follows its backslash
pub record InChain (text : List ℕ) (chain : List Item) : Type 0 where
  pub from : ℕ
  pub to : ℕ
  pub order : AreInOrder text from to chain
  pub follows : FollowBackslashes text from chain

-- no backslash is dropped before a break or a task list item marker
break_unmarked : (body : ItemBody) → is_break body ≡ true → is_escaped body ≡ false
break_unmarked body h = grind (arith, false≢true)

task_unmarked : (body : ItemBody) → is_task_marker body ≡ true → is_escaped body ≡ false
task_unmarked body h = grind (arith, false≢true)

-- a break after the last token of a line
broken_follows : (text : List ℕ) (from ix next : ℕ) (break : Option Item) (chain : List Item) → IfSome break (IsBreak ix next) → EndsBy from next chain
    → FollowBackslashes text from chain → EndsBy from next (add_break break chain) × FollowBackslashes text from (add_break break chain)
broken_follows text from ix next None chain is h k = (h, k)
broken_follows text from ix next (Some x) chain is h k =
    (ends_append from next chain x (omega (arith, is.to)), follow_append text from chain x k (break_unmarked x.body is.kind))

-- a line after a chain
record AddsLine (text : List ℕ) (from ix : ℕ) (chain tokens : List Item) (answer : ℕ × Option Item) : Type 0 where
  place : answer.0 ≡ line_end_at text ix
  boundary : IsCharBoundary text answer.0
  ends : EndsBy from answer.0 (add_tokens chain tokens)
  follows : FollowBackslashes text from (add_tokens chain tokens)
  broken : IfSome answer.1 (IsBreak ix answer.0)

module _ (d : Document) (path : List Container) (utf8 : IsUtf8 d.text) (from : ℕ) where
  adds_line : (ix : ℕ) (b after : MathBraces) (chain tokens : List Item) (answer : ℕ × Option Item) → IsCharBoundary d.text ix → EndsBy from ix chain
      → FollowBackslashes d.text from chain → AreLineTokens d.names.texts (content_at d (spot ix b)) tokens answer after
      → AddsLine d.text from ix chain tokens answer
  adds_line ix b after chain tokens answer boundary h k line =
      let stop : ℕ = text_end (content_at d (spot ix b)) line.content_end in
      let l : LineInOrder (content_at d (spot ix b)) stop tokens answer = line_in_order utf8 boundary boundary.0 line in
      let e : EndsLine (content_at d (spot ix b)) answer = ends_line boundary.0 line in
      let low = l.before in
      record {
        place = e.place;
        boundary = l.ends;
        ends = ends_later from stop answer.0 (add_tokens chain tokens) (ends_adds d.text from ix stop chain tokens h l.tokens_fit) low;
        follows = follow_adds d.text from ix chain tokens h k (line_follows line);
        broken = e.broken;
      }

  -- the lines of a text
  lines_follow : (lines : List Place) (ix : ℕ) (b : MathBraces) (chain : List Item) (t : TextLines) → lines ≡ lines_from d.text (line_end_at d.text ix)
      → IsCharBoundary d.text ix → EndsBy from ix chain → FollowBackslashes d.text from chain → AreTextLines d path (spot ix b) chain lines t
      → FollowBackslashes d.text from t.chain
  unfolding AreTextLines
  lines_follow [] ix b chain t is boundary h k (tokens, answer, after, line, e) =
      subst (λ (z : TextLines). FollowBackslashes d.text from z.chain) (sym e) (adds_line ix b after chain tokens answer boundary h k line).follows
  lines_follow (line ∷ lines) ix b chain t is boundary h k (tokens, answer, after, line_is, inl (stops, e)) =
      subst (λ (z : TextLines). FollowBackslashes d.text from z.chain) (sym e) (adds_line ix b after chain tokens answer boundary h k line_is).follows
  lines_follow (line ∷ lines) ix b chain t is boundary h k (tokens, answer, after, line_is, inr (goes, more)) =
      let l = adds_line ix b after chain tokens answer boundary h k line_is in
      let n : ℕ = answer.0 in
      let first = first_line d.text n line lines (is ∙ ap (lines_from d.text) (sym l.place)) in
      let at : ℕ = offset (unindented (place_at n (front path (line_rest (drop n d.text))))) in
      let at_is : offset (unindented (at_rest line (front path line.rest))) ≡ at =
      ap (λ (p : Place). offset (unindented (at_rest p (front path p.rest)))) first.1 in
      let place : IsPlaceOf d.text (unindented (place_at n (front path (line_rest (drop n d.text))))) = (text_place d.text n path utf8 l.boundary).0 in
      let next = broken_follows d.text from ix n answer.1 (add_tokens chain tokens) l.broken l.ends l.follows in
      lines_follow lines at after (add_break answer.1 (add_tokens chain tokens)) t
      (first.2 ∙ ap (lines_from d.text) (sym (line_end-text path d.text n utf8 l.boundary))) place.boundary
      (ends_later from n at (add_break answer.1 (add_tokens chain tokens)) next.0 (omega arith)) next.1
      (subst (λ z. AreTextLines d path (spot z after) (add_break answer.1 (add_tokens chain tokens)) lines t) at_is more)

-- a marker before a chain
marked_chain : (text : List ℕ) (from start to : ℕ) (marker : Option Item) (chain : List Item) → MarkerBetween text from start marker
    → AreInOrder text start to chain → FollowBackslashes text start chain
    → AreInOrder text from to (marker_items marker ++ chain) × FollowBackslashes text from (marker_items marker ++ chain)
marked_chain text from start to None chain low h k = (order_from text from start to chain h low, follow_earlier text from start chain low k)
marked_chain text from start to (Some m) chain (task, b) h k =
    let low : m.«end» ≤ start = b.before in (
      (b.following, b.order, b.starts, b.ends, order_from text m.«end» start to chain h low),
      ((λ e. absurd (false≢true (sym (task_unmarked m.body task) ∙ e))), follow_earlier text m.«end» start chain low k),
    )

-- The lines of a text, after a marker or without one, which begin at a character boundary.
module _ (d : Document) (path : List Container) (start from : ℕ) (marker : Option Item) (l : TextLines) (utf8 : IsUtf8 d.text)
    (starts : IsCharBoundary d.text start)
    (stands : MarkerBetween d.text from start marker) (lines : List Place) (are_lines : lines ≡ lines_from d.text (line_end_at d.text start))
    (are : AreTextLines d path (spot start no_braces) [] lines l) where
  in_order : TextInOrder d start l
  in_order = text_is_in_order d path start l utf8 starts (subst (λ (z : List Place). AreTextLines d path (spot start no_braces) [] z l) are_lines are)

  chain_follows : FollowBackslashes d.text start l.chain
  chain_follows = lines_follow d path utf8 start lines start no_braces [] l are_lines starts (omega arith) tt are

  abbrev next_start : ℕ
  next_start = start_of (length d.text) l.left

  -- the children of a paragraph
  pub paragraph_chain : InChain d.text (text_children marker l)
  paragraph_chain =
      let h = in_order in
      let order = order_closed d.text start h.stop next_start l.break l.chain h.order h.before h.break_fits in
      let both = marked_chain d.text from start next_start marker (close_break l.break l.chain) stands order
      (follow_closed d.text start h.stop l.break l.chain h.order chain_follows) in
      record { from = from; to = next_start; order = both.0; follows = both.1 }

  -- those of a heading that is cut
  cut_chain : (e : ℕ) → start ≤ e → e ≤ in_order.stop → IsCharBoundary d.text e → from ≤ e
      → InChain d.text (close_break l.break (cut e (marker_items marker ++ l.chain)))
  cut_chain e low high boundary less =
      let h = in_order in
      let whole : List Item = marker_items marker ++ l.chain in
      let both = marked_chain d.text from start h.stop marker l.chain stands h.order chain_follows in
      let order = cut_escaped d.text from h.stop e whole both.0 (escapes_of d.text from whole both.1) boundary less in
      let until = order_to d.text from e h.stop (cut e whole) order high in
      record {
        from = from;
        to = next_start;
        order = order_closed d.text from h.stop next_start l.break (cut e whole) until h.before h.break_fits;
        follows = follow_closed d.text from h.stop l.break (cut e whole) until (follow_cut d.text from e whole both.1);
      }

  low_start : (m : Option Item) → MarkerBetween d.text from start m → from ≤ start
  low_start None low = low
  low_start (Some m) (task, b) = omega (arith, b.following, b.order, b.before)

  heading_by : (o : Option Braces) → heading_attribute_block d.options (heading_bytes d start marker l) ≡ o → InChain d.text (heading_children d start marker l)
  heading_by None none = subst (InChain d.text) (sym (children_by d start marker l None none)) paragraph_chain
  heading_by (Some block) some =
      let h = in_order in
      let last : ℕ = chain_end start (marker_items marker ++ l.chain) in
      let bound = order_bound d.text start h.stop l.chain h.order in
      let high : last ≤ h.stop =
      marked_end d.text from start h.stop marker l.chain stands bound (chain_end_place d.text start h.stop l.chain h.order starts).1 in
      let left : next_start ≡ h.left_at = ap (start_of (length d.text)) h.left_is ∙ start_of-lines d.text h.left_at h.left_within in
      let within : last ≤ length d.text = omega (arith, h.before, h.left_within) in
      let p = kept_place d.text d.options start last (by_backslash l.break) block within some in
      let first = low_start marker stands in
      subst (InChain d.text) (sym (children_by d start marker l (Some block) some))
      (cut_chain (start + kept_before (by_backslash l.break) block.opening (heading_bytes d start marker l)) p.0 (omega (arith, p.1)) p.2 (omega (arith, p.0)))

  -- those of a setext heading
  pub setext_chain : InChain d.text (heading_children d start marker l)
  setext_chain = heading_by (heading_attribute_block d.options (heading_bytes d start marker l)) refl

-- Bytes of a text from an offset on, up to a character boundary.
record AreBytes (text : List ℕ) (start : ℕ) (xs : List ℕ) : Type 0 where
  front : xs ≡ take (length xs) (drop start text)
  fits : start + length xs ≤ length text
  ends : IsCharBoundary text (start + length xs)

-- The ASCII bytes at their end that pass a test are left out.
trimmed_by : (passes : ℕ → Bool) → ((b : ℕ) → passes b ≡ true → b < ascii_end) → (text : List ℕ) (start : ℕ) (xs : List ℕ) → AreBytes text start xs
    → (n : ℕ) → n ≡ suffix_len passes xs → AreBytes text start (take (length xs - n) xs)
trimmed_by passes small text start xs are n is =
    let most : suffix_len passes xs ≤ length xs = suffix_len-le-length passes xs in
    let size : length (take (length xs - n) xs) ≡ length xs - n = length-take-le (length xs - n) xs (omega arith) in
    let fits = are.fits in
    let front : take (length xs - n) xs ≡ take (length xs - n) (drop start text) =
    ap (take (length xs - n)) are.front ∙ take-take (length xs - n) (length xs) (drop start text) (omega arith) in
    record {
      front = front ∙ ap (λ (k : ℕ). take k (drop start text)) (sym size);
      fits = omega arith;
      ends = elim (cases_lt 0 n) [
        | inl some ↦
            let passed = last_passes passes xs (length xs - n) (omega arith) (omega arith) in
            let byte : slice_index xs (length xs - n) ≡ slice_index text (start + (length xs - n)) =
            ap (λ (z : List ℕ). slice_index z (length xs - n)) are.front ∙ get_or-take (length xs) (drop start text) (length xs - n) 0 (omega arith)
            ∙ get_or-drop start text (length xs - n) 0 in
            let low = small (slice_index xs (length xs - n)) passed in
            subst (λ (k : ℕ). IsCharBoundary text (start + k)) (sym size)
            (IsCharBoundary-before_ascii text (start + (length xs - n)) (omega arith) (omega arith))
        | inr none ↦
            let same : length xs ≡ length (take (length xs - n) xs) = omega arith in
            subst (λ (k : ℕ). IsCharBoundary text (start + k)) same are.ends
      ];
    }

trimmed : (passes : ℕ → Bool) → ((b : ℕ) → passes b ≡ true → b < ascii_end) → (text : List ℕ) (start : ℕ) (xs : List ℕ) → AreBytes text start xs
    → AreBytes text start (without_end passes xs)
trimmed passes small text start xs are = trimmed_by passes small text start xs are (suffix_len passes xs) refl

equal_small : (c b : ℕ) → c < ascii_end → (b == c) ≡ true → b < ascii_end
equal_small c b small is = omega (arith, eqb-true b c is)

aside_small : (b : ℕ) → is_space_or_line_end b ≡ true → b < ascii_end
aside_small b h = grind (arith, nat_tests, h)

-- the kept bytes of a heading's text end at a character boundary
kept_boundary : (text : List ℕ) (start : ℕ) (xs : List ℕ) → AreBytes text start xs → IsCharBoundary text (start + kept_len xs)
unfolding kept_len
kept_boundary text start xs are =
    let ended = trimmed is_space_or_line_end aside_small text start xs are in
    let whole : List ℕ = without_end is_space_or_line_end xs in
    let unsigned = trimmed (λ b. b == number_sign) (λ b h. equal_small number_sign b (omega arith) h) text start whole ended in
    let closed = trimmed (λ b. b == space) (λ b h. equal_small space b (omega arith) h) text start (before_signs whole) unsigned in
    (cond_both (ends_closing whole) (without_end (λ b. b == space) (before_signs whole)) whole (AreBytes text start) (λ b. closed) (λ b. ended)).ends

-- The chain of a line, of which some bytes are kept.
kept_chain : {texts : List CowStr} {s : Inline} {tokens : List Item} {answer : ℕ × Option Item} {after : MathBraces} → IsUtf8 s.text
    → IsCharBoundary s.text s.start → AreLineTokens texts s tokens answer after → (content : List ℕ) → AreBytes s.text s.start content
    → InChain s.text (heading_chain (kept_len content) s.start (close_break answer.1 (add_tokens [] tokens)))
unfolding heading_chain
kept_chain {texts} {s} {tokens} {answer} {after} utf8 boundary line content are =
    let whole : List Item = close_break answer.1 (add_tokens [] tokens) in
    let stop : ℕ = text_end s line.content_end in
    let l : LineInOrder s stop tokens answer = line_in_order utf8 boundary boundary.0 line in
    let order = order_adds s.text s.start s.start stop [] tokens (omega arith) l.tokens_fit in
    let follows = follow_adds s.text s.start s.start [] tokens (omega arith) tt (line_follows line) in
    let closed = follow_closed s.text s.start stop answer.1 (add_tokens [] tokens) order follows in
    let all : AreInOrder s.text s.start answer.0 whole = closed_line_in_order utf8 boundary boundary.0 line in
    let n : ℕ = kept_len content in
    cond_both (n == 0) [] (cut (s.start + n) whole) (InChain s.text) (λ b. record { from = 0; to = 0; order = omega arith; follows = tt })
    (λ b. record {
      from = s.start;
      to = s.start + n;
      order = cut_escaped s.text s.start answer.0 (s.start + n) whole all (escapes_of s.text s.start whole closed) (kept_boundary s.text s.start content are)
          (omega arith);
      follows = follow_cut s.text s.start (s.start + n) whole closed;
    })

-- the bytes of a line
line_are : (text : List ℕ) (start : ℕ) → IsUtf8 text → IsCharBoundary text start → AreBytes text start (take (line_len (drop start text)) (drop start text))
line_are text start utf8 boundary =
    let fits = line_len-fits (drop start text) in
    let size = length-take-le (line_len (drop start text)) (drop start text) fits in
    let long = length-drop start text in
    let within = boundary.0 in
    record {
      front = ap (λ (k : ℕ). take k (drop start text)) (sym size);
      fits = omega arith;
      ends = subst (λ (k : ℕ). IsCharBoundary text (start + k)) (sym size) (line_stops text start utf8 boundary);
    }

module _ (d : Document) (start : ℕ) (index : Option HeadingIndex) (chain : List Item) (end_of_line : ℕ) (h : IsHeading d start index chain end_of_line) where
  -- the chain of a heading in the text from which its line is read
  front_chain : (front content : List ℕ) → text_before_attributes d.options d.text start (line_bytes d start) ≡ front
      → before_attributes d.options (line_bytes d start) ≡ content → IsUtf8 front → IsCharBoundary front start → AreBytes front start content
      → InChain front chain
  front_chain front content text_is content_is utf8 boundary are =
      let line : AreLineTokens d.names.texts (record { options = d.options; whole = d.text; text = front; start = start; row = false; braces = no_braces })
      h.tokens h.answer h.after = rw text_is at h.line in
      let same : chain ≡ heading_chain (kept_len content) start (close_break h.answer.1 (add_tokens [] h.tokens)) =
      h.chain_is ∙ ap (λ xs. heading_chain (kept_len xs) start (close_break h.answer.1 (add_tokens [] h.tokens))) content_is in
      subst (InChain front) (sym same) (kept_chain utf8 boundary line content are)

  -- and in the whole text
  atx_by : (o : Option Braces) → heading_attribute_block d.options (line_bytes d start) ≡ o → IsUtf8 d.text → IsCharBoundary d.text start
      → InChain d.text chain
  atx_by None none utf8 boundary =
      front_chain d.text (line_bytes d start)
      (ap (λ (o : Option Braces). option_map_or (λ (block : Braces). take (start + block.opening) d.text) o d.text) none)
      (before_none d.options (line_bytes d start) none) utf8 boundary (line_are d.text start utf8 boundary)
  atx_by (Some block) some utf8 boundary =
      let bs : List ℕ = line_bytes d start in
      let stop : ℕ = start + block.opening in
      let front : List ℕ = take stop d.text in
      let inside = braces_within d.options bs block some in
      let fits = line_len-fits (drop start d.text) in
      let size = length-take-le (line_len (drop start d.text)) (drop start d.text) fits in
      let long = length-drop start d.text in
      let within = boundary.0 in
      let less : block.opening < line_len (drop start d.text) = omega (arith, inside.0, inside.1) in
      let there : slice_index d.text stop ≡ left_brace =
      sym (get_or-take (line_len (drop start d.text)) (drop start d.text) block.opening 0 less ∙ get_or-drop start d.text block.opening 0)
      ∙ opens_with d.options bs block some in
      let stops = IsCharBoundary-before_ascii d.text stop (omega arith) (omega (arith, there)) in
      let whole = front_len d.text stop utf8 stops in
      let inner : length (take block.opening bs) ≡ block.opening = length-take-le block.opening bs (omega arith) in
      let rest : drop start front ≡ take block.opening (drop start d.text) = drop-take start block.opening d.text in
      let c : InChain front chain = front_chain front (take block.opening bs)
      (ap (λ (o : Option Braces). option_map_or (λ (b : Braces). take (start + b.opening) d.text) o d.text) some)
      (ap (λ (o : Option Braces). option_map_or (λ (b : Braces). take b.opening bs) o bs) some) (front_utf8 d.text stop utf8 stops)
      (place_in_front d.text stop utf8 stops start (omega arith) boundary)
      (record {
        front = take-take block.opening (line_len (drop start d.text)) (drop start d.text) (omega arith)
            ∙ sym (ap (λ (k : ℕ). take k (drop start front)) inner ∙ ap (take block.opening) rest
            ∙ take-take block.opening block.opening (drop start d.text) (omega arith));
        fits = omega arith;
        ends = (let same : length front ≡ start + length (take block.opening bs) = omega arith in subst (IsCharBoundary front) same (IsCharBoundary-end front));
      }) in
      record {
        from = c.from;
        to = c.to;
        order = order_in_text d.text stop utf8 stops c.from c.to chain c.order;
        follows = follow_in_text d.text stop c.from chain c.follows;
      }

  pub atx_chain : IsUtf8 d.text → IsCharBoundary d.text start → InChain d.text chain
  atx_chain = atx_by (heading_attribute_block d.options (line_bytes d start)) refl
