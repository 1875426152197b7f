-- The piece at a place, case by case: its bytes and its token. Other facts on pieces follow only from these.
use Rattle.std.proofs.Common.{◌≡◌, ℕ, ◌+◌, ◌-◌, ◌≤◌, ◌<◌, ◌==◌, ◌&&◌, not, Bool, true, false, List, length, drop, slice_index, Option, Some, unwrap_or, refl}
use Rattle.std.proofs.Common.{sym, ap, subst, ◌∙◌, inl, inr, arith, length-drop, ◌||◌, suc, nat_lt, get_or-drop, eqb-true, eq-eqb, ltb-true}
use Rattle.first_pass_tokens.proofs.Common.{CowStr, cases_lt, cond_both, cond-true, cond-false, and_parts, false≢true, dollar_sign, ampersand, hyphen}
use Rattle.first_pass_tokens.proofs.Common.{full_stop, backslash, backquote, left_brace, pipe, right_brace, Piece, MathBraces, Left, Begins, Token, Run}
use Rattle.first_pass_tokens.proofs.Common.{nat_tests, Ready, Reference, Dashes, Dollar, OpenBrace, CloseBrace, Inline, backslash_piece_in, is_delimiter}
use Rattle.first_pass_tokens.proofs.Common.{is_too_long, is_quote, run_piece, size, MakesPiece, is_text, is_escaped, is_line_end, is_white, TokenStart}
use Rattle.first_pass_tokens.proofs.Common.{MaybeEmphasis, MaybeMath, MaybeSmartQuote, SynthesizeChar, SynthesizeText, MaybeCode, MaybeHtml, MaybeLinkOpen}
use Rattle.first_pass_tokens.proofs.Common.{MaybeLinkClose, MaybeImage, is_ascii_punctuation, get_or_past, at_drop_more, AreBackquotes, StandsOver, smart_char}
use Rattle.first_pass_tokens.proofs.Common.{prefix_len, prefix_len_passes, prefix_len_stops, prefix_len-le-length, ItemBody, DelimiterRun, can_open, can_close}
use Rattle.std.specs.Option.{option_map_or}
use Rattle.first_pass_items.specs.declared.option_set.Options.{Options}
use Rattle.first_pass_entities.specs.Entities.{entity_at}
use Rattle.first_pass_entities.proofs.EntityFacts.{is_reference_byte, entity_is_reference}
use Rattle.first_pass_walk.specs.Walk.{is_special}
use Rattle.first_pass_tokens.specs.Pieces.{found_at, special_found, reference_found, dash_found, dollar_found, special_piece, backslash_piece, backquote_piece}
use Rattle.first_pass_tokens.specs.Pieces.{run_in, run_size, quote_piece, dot_piece, dash_piece, delimiter_piece, bracket_piece, run_at}

-- a visible ASCII character
abbrev pub IsVisible : ℕ → Type 0
IsVisible b = (32 < b) × (b < 127)

-- a byte of possible markup: visible, and no backslash and no pipe
abbrev pub is_mark : ℕ → Bool
is_mark b = nat_lt 32 b && (nat_lt b 127 && (not (b == backslash) && not (b == pipe)))

abbrev pub IsMark : ℕ → Type 0
IsMark b = is_mark b ≡ true

-- each of n bytes from a place on has a property
abbrev pub Each : (ℕ → Type 0) → List ℕ → ℕ → ℕ → Type 0
Each P text at n = (k : ℕ) → at ≤ k → k < at + n → P (slice_index text k)

-- a token that is no text
abbrev pub is_markup : ItemBody → Bool
is_markup (MaybeEmphasis left opens closes) = true
is_markup (MaybeMath opens closes context) = true
is_markup (MaybeSmartQuote quote opens closes) = true
is_markup (SynthesizeChar c) = true
is_markup (SynthesizeText ix) = true
is_markup (MaybeCode n escaped) = true
is_markup MaybeHtml = true
is_markup MaybeLinkOpen = true
is_markup (MaybeLinkClose b) = true
is_markup MaybeImage = true
is_markup _ = false

-- markup is no text
pub markup_plain : (body : ItemBody) → is_markup body ≡ true → is_text body ≡ false
markup_plain body h = grind (arith, false≢true)

pub markup_unescaped : (body : ItemBody) → is_markup body ≡ true → is_escaped body ≡ false
markup_unescaped body h = grind (arith, false≢true)

-- a kind that names a text
abbrev pub names_text : ItemBody → Bool
names_text (SynthesizeText ix) = true
names_text _ = false

abbrev pub NamesNone : Piece → Type 0
NamesNone (Left n) = Unit {0}
NamesNone (Begins dropped escaped) = Unit {0}
NamesNone (Token dropped n body) = names_text body ≡ false
NamesNone (Run n opens closes) = Unit {0}

-- backslashes that are dropped, and a punctuation character
pub record IsEscape (text : List ℕ) (at dropped : ℕ) : Type 0 where
  pub some : 0 < dropped
  pub backslashes : Each (λ b. b ≡ backslash) text at dropped
  pub punctuation : is_ascii_punctuation (slice_index text (at + dropped)) ≡ true
  pub other : (slice_index text (at + dropped) == backquote) ≡ false

-- the bytes of a token, after a backslash that may be dropped
pub record IsMarkup (text : List ℕ) (at dropped n : ℕ) (body : ItemBody) : Type 0 where
  pub some : 0 < n
  pub bound : dropped ≤ 1
  pub backslashes : Each (λ b. b ≡ backslash) text at dropped
  pub marks : Each IsMark text (at + dropped) n
  pub kind : is_markup body ≡ true
  pub over : StandsOver text (at + dropped) (at + dropped + n) body

-- the bytes of plain text: all are equal to the first, which is no backquote
pub record IsLeft (text : List ℕ) (at n : ℕ) : Type 0 where
  pub some : 0 < n
  pub fits : at + n ≤ length text
  pub same : Each (λ b. b ≡ slice_index text at) text at n
  pub other : (slice_index text at == backquote) ≡ false

-- a run of delimiters
pub record IsDelimiterRun (text : List ℕ) (at n : ℕ) : Type 0 where
  pub some : 0 < n
  pub all : n ≡ run_at text at
  pub marks : Each IsMark text at n
  pub delimiter : is_delimiter (slice_index text at) ≡ true

-- the bytes of a piece
abbrev pub IsPieceAt : List ℕ → ℕ → Piece → Type 0
IsPieceAt text at (Left n) = IsLeft text at n
IsPieceAt text at (Run n opens closes) = IsDelimiterRun text at n
IsPieceAt text at (Begins dropped escaped) = IsEscape text at dropped
IsPieceAt text at (Token dropped n body) = IsMarkup text at dropped n body

-- the bytes of a piece that names no text
abbrev IsReady : List ℕ → ℕ → Piece → Type 0
IsReady text at p = IsPieceAt text at p × NamesNone p

-- a byte of markup is visible, and is no white space, no backslash and no pipe
pub record MarkFacts (b : ℕ) : Type 0 where
  pub visible : IsVisible b
  pub solid : is_white b ≡ false
  pub no_backslash : (b == backslash) ≡ false
  pub no_pipe : (b == pipe) ≡ false

pub mark_facts : (b : ℕ) → IsMark b → MarkFacts b
mark_facts b h = grind (arith, nat_tests)

quote_mark : (b : ℕ) → is_quote b ≡ true → IsMark b
quote_mark b h = grind (arith, nat_tests, h)

punctuation_visible : (b : ℕ) → is_ascii_punctuation b ≡ true → IsVisible b
punctuation_visible b h = (grind (arith, nat_tests, h), grind (arith, nat_tests, h))

-- a byte that is not 0 is within the text
pub at_byte : (text : List ℕ) (at : ℕ) → 0 < slice_index text at → at < length text
at_byte text at some = grind (arith, cases_lt, get_or_past)

-- a visible character is no line ending
pub visible_plain : (b : ℕ) → IsVisible b → is_line_end b ≡ false
visible_plain b h = grind (arith, nat_tests, h.0, h.1)

module _ (text : List ℕ) (at : ℕ) where
  each_one : (P : ℕ → Type 0) → P (slice_index text at) → Each P text at 1
  each_one P here k low high = (let same : at ≡ k = omega arith in subst (λ (x : ℕ). P (slice_index text x)) same here)

  each_more : (P : ℕ → Type 0) (n : ℕ) → Each P text at n → P (slice_index text (at + n)) → Each P text at (n + 1)
  each_more P n front last k low high = grind (arith, cases_lt)

  -- a run of equal bytes
  pub run_same : (k : ℕ) → at ≤ k → k < at + run_at text at → slice_index text k ≡ slice_index text at
  unfolding run_at
  run_same k low high =
      let same : at + (k - at) ≡ k = omega arith in
      let passes = prefix_len_passes (λ b. b == slice_index text at) (drop at text) (k - at) 0 (omega arith) in
      eqb-true (slice_index text k) (slice_index text at)
      (ap (λ (x : ℕ). slice_index text x == slice_index text at) (sym same)
      ∙ ap (λ (b : ℕ). b == slice_index text at) (sym (get_or-drop at text (k - at) 0)) ∙ passes)

  -- it ends before another byte
  run_stops : 0 < slice_index text at → (slice_index text (at + run_at text at) == slice_index text at) ≡ false
  unfolding run_at
  run_stops some = grind (arith, length-drop, cases_lt, get_or-drop, prefix_len_stops, get_or_past)

  -- a run is within the text
  pub run_fits : run_at text at ≤ length (drop at text)
  unfolding run_at
  run_fits = prefix_len-le-length (λ b. b == slice_index text at) (drop at text)

  -- a run is its first byte and the equal bytes after it
  run_first : at < length text → run_at text at ≡ 1 + prefix_len (λ b. b == slice_index text at) (drop (at + 1) text)
  unfolding run_at
  run_first within =
      at_drop_more (prefix_len (λ b. b == slice_index text at)) text at 0 within ∙ cond-true _ _ _ (eq-eqb (slice_index text at) (slice_index text at) refl)

  pub run_some : at < length text → 0 < run_at text at
  run_some within = (let first = run_first within in omega arith)

  -- after the first byte of a run, the others are a run
  pub run_next : (n : ℕ) → suc n ≡ run_at text at → 0 < n → (n ≡ run_at text (at + 1)) × (slice_index text (at + 1) ≡ slice_index text at)
  unfolding run_at
  run_next n all some = grind (arith, run_same, run_first, run_fits, length-drop)

  -- a token without a dropped backslash
  undropped_token : (n : ℕ) (body : ItemBody) → 0 < n → Each IsMark text at n → is_markup body ≡ true → StandsOver text at (at + n) body
      → IsMarkup text at 0 n body
  undropped_token n body some marks kind over = grind arith

  -- a token of one byte
  one_byte : (b : ℕ) (body : ItemBody) → slice_index text at ≡ b → IsMark b → is_markup body ≡ true → StandsOver text at (at + 1) body
      → IsMarkup text at 0 1 body
  one_byte b body is mark kind over = undropped_token 1 body (omega arith) (each_one IsMark (subst IsMark (sym is) mark)) kind over

  -- a run of hyphens, as a token
  hyphens_token : (n : ℕ) (body : ItemBody) → slice_index text at ≡ hyphen → n ≡ run_at text at → 0 < n → is_markup body ≡ true
      → (Each (λ b. b ≡ hyphen) text at n → StandsOver text at (at + n) body) → IsMarkup text at 0 n body
  hyphens_token n body is run some kind over = grind (arith, run_same, undropped_token)

module _ (text : List ℕ) (at : ℕ) (within : at < length text) where
  -- one byte of plain text
  one_left : (slice_index text at == backquote) ≡ false → IsLeft text at 1
  one_left other = grind (arith, each_one)

  -- a run as plain text
  run_left : (n : ℕ) → n ≡ run_at text at → (slice_index text at == backquote) ≡ false → IsLeft text at n
  run_left n all other = grind (arith, run_some, run_fits, length-drop, run_same)

  -- a run of delimiters, as tokens or as plain text
  run_piece_facts : is_delimiter (slice_index text at) ≡ true → (r : DelimiterRun) → r.size ≡ run_at text at → IsReady text at (run_piece r)
  run_piece_facts delimiter r size =
      cond_both ((can_open r || can_close r) && not (is_too_long r)) (Run r.size (can_open r) (can_close r)) (Left r.size) (IsReady text at)
      (λ tokens. (
        record {
          some = omega (arith, run_some text at within, size);
          all = size;
          marks = λ k low high. subst IsMark (sym (run_same text at k low (omega (arith, size)))) (grind (arith, nat_tests, delimiter));
          delimiter = delimiter;
        },
        tt,
      ))
      (λ left. (run_left r.size size (grind (arith, nat_tests, delimiter)), tt))

  -- a run of backquotes
  backquotes : slice_index text at ≡ backquote → AreBackquotes text at (run_at text at)
  backquotes is = grind (arith, run_some, run_same, run_stops)

module _ (text : List ℕ) (at : ℕ) (within : at < length text) where
  -- a backslash, and the bytes before which it is dropped
  backslash_facts : slice_index text at ≡ backslash → IsReady text at (backslash_piece text at)
  unfolding backslash_piece
  backslash_facts is = grind (arith, cond_both, backquotes, at_byte, each_one, one_left)

  -- in a row it is dropped before a pipe, and so are two of them
  backslash_in_facts : (row : Bool) → slice_index text at ≡ backslash → IsReady text at (backslash_piece_in row text at)
  backslash_in_facts false is = backslash_facts is
  backslash_in_facts true is =
      let first : Each (λ b. b ≡ backslash) text at 1 = each_one text at (λ b. b ≡ backslash) is in
      let escape : (n : ℕ) → 0 < n → Each (λ b. b ≡ backslash) text at n → (slice_index text (at + n) == pipe) ≡ true → IsEscape text at n =
      λ n some front h. let is_pipe = eqb-true (slice_index text (at + n)) pipe h in
      record { some = some; backslashes = front; punctuation = ap is_ascii_punctuation is_pipe; other = ap (λ (x : ℕ). x == backquote) is_pipe } in
      let holds : Option Piece → Type 0 = λ o. IsReady text at (unwrap_or o (backslash_piece text at)) in
      cond_both (slice_index text (at + 1) == pipe) _ _ holds (λ h. (escape 1 (omega arith) first h, tt))
      (λ other. cond_both (slice_index text (at + 1) == backslash && slice_index text (at + 2) == pipe) _ _ holds
      (λ h. let both = and_parts (slice_index text (at + 1) == backslash) (slice_index text (at + 2) == pipe) h in
      (escape 2 (omega arith) (each_more text at (λ b. b ≡ backslash) 1 first (eqb-true (slice_index text (at + 1)) backslash both.0)) both.1, tt))
      (λ none. backslash_facts is))

  -- the piece at a byte that may open or close a link, an image or HTML
  bracket_facts : (slice_index text at == backquote) ≡ false → IsReady text at (bracket_piece text at)
  unfolding bracket_piece
  bracket_facts h₂ = grind (arith, cond_both, and_parts, one_byte, undropped_token, each_more, each_one, one_left)

  -- the piece at a full stop
  dot_facts : slice_index text at ≡ full_stop → IsReady text at (dot_piece text at)
  unfolding dot_piece
  dot_facts is =
      let IsStop : ℕ → Type 0 = λ b. b ≡ full_stop in
      cond_both (slice_index text (at + 1) == full_stop && slice_index text (at + 2) == full_stop) (Token 0 3 (SynthesizeChar 0x2026)) (Left 1)
      (IsReady text at) (λ h. let both = and_parts (slice_index text (at + 1) == full_stop) (slice_index text (at + 2) == full_stop) h in
      let two = each_more text at IsStop 1 (each_one text at IsStop is) (eqb-true (slice_index text (at + 1)) full_stop both.0) in
      let three : Each IsStop text at 3 = each_more text at IsStop 2 two (eqb-true (slice_index text (at + 2)) full_stop both.1) in (
        undropped_token text at 3 (SynthesizeChar 0x2026) (omega arith) (λ k low high. ap is_mark (three k low high)) refl
            (record { byte = full_stop; n = 3; to = refl; each = three; char = refl }),
        refl,
      ))
      (λ left. (one_left text at within (ap (λ (x : ℕ). x == backquote) is), tt))

  -- the piece at a hyphen
  dash_facts : slice_index text at ≡ hyphen → IsReady text at (dash_piece text at)
  unfolding dash_piece
  dash_facts is =
      let token : (n c : ℕ) → (run_at text at == n) ≡ true → 0 < n → smart_char hyphen n ≡ Some c → IsMarkup text at 0 n (SynthesizeChar c) =
      λ n c h some char. hyphens_token text at n (SynthesizeChar c) is (sym (eqb-true (run_at text at) n h)) some refl
      (λ alike. record { byte = hyphen; n = n; to = refl; each = alike; char = char }) in
      cond_both (run_at text at == 2) _ _ (IsReady text at) (λ h. (token 2 0x2013 h (omega arith) refl, refl))
      (λ h₁. cond_both (run_at text at == 3) (Token 0 3 (SynthesizeChar 0x2014)) (Left (run_at text at)) (IsReady text at)
      (λ h. (token 3 0x2014 h (omega arith) refl, refl))
      (λ left. (run_left text at within (run_at text at) refl (ap (λ (x : ℕ). x == backquote) is), tt)))

-- the piece at a special byte other than an ampersand or a hyphen
special_facts : (s : Inline) (at : ℕ) → at < length s.text → IsReady s.text at (special_piece s at)
unfolding special_piece backquote_piece delimiter_piece quote_piece run_in run_size
special_facts s at within =
    let text = s.text in
    let holds : Piece → Type 0 = IsReady text at in
    let b = slice_index text at in
    cond_both (b == backslash) _ _ holds (λ h. backslash_in_facts text at within s.row (eqb-true b backslash h))
    (λ h₁. cond_both (b == backquote) _ _ holds
    (λ h. let run = backquotes text at within (eqb-true b backquote h) in (
      undropped_token text at _ (MaybeCode (run_at text at) false) run.some (λ k low high. ap is_mark (run.each k low high)) refl
          (refl, run, λ e. absurd (false≢true e)),
      refl,
    ))
    (λ h₂. cond_both (is_delimiter b) _ _ holds
    (λ h. let other : is_quote b ≡ false = grind (arith, nat_tests, h) in run_piece_facts text at within h _ (cond-false _ _ _ other))
    (λ h₃. cond_both (is_quote b) _ _ holds (λ h. (one_byte text at b (MaybeSmartQuote b _ _) refl (quote_mark b h) refl (refl, refl, h), refl))
    (λ h₄. cond_both (b == full_stop) _ _ holds (λ h. dot_facts text at within (eqb-true b full_stop h)) (λ h₅. bracket_facts text at within h₂)))))

-- a byte that is not special is no backquote
plain_byte : (b : ℕ) (options : Options) → is_special options b ≡ false → (b == backquote) ≡ false
unfolding is_special
plain_byte b options plain = grind (arith, nat_tests, plain)

-- a reference in a text: it is not empty, and each byte of it is `&`, `#`, an ASCII letter or digit, or `;`
pub record IsReferenceAt (text : List ℕ) (at n : ℕ) : Type 0 where
  pub some : 0 < n
  pub bytes : (k : ℕ) → at ≤ k → k < at + n → is_reference_byte (slice_index text k) ≡ true

pub reference_at : (text : List ℕ) (at n c : ℕ) → entity_at (drop at text) ≡ Some (n, c) → IsReferenceAt text at n
reference_at text at n c e =
    let h = (entity_is_reference (drop at text) n c e).ends in
    record {
      some = h.some;
      bytes = λ k low high.
          let place : at + (k - at) ≡ k = omega arith in
          let passes = prefix_len_passes is_reference_byte (drop at text) (k - at) 0 (omega (arith, h.bytes)) in
          ap (λ (x : ℕ). is_reference_byte (slice_index text x)) (sym place) ∙ ap is_reference_byte (sym (get_or-drop at text (k - at) 0)) ∙ passes;
    }

-- the bytes of the piece found at a place; a piece that is ready names no text
abbrev pub IsFoundAt : List ℕ → ℕ → TokenStart → Type 0
IsFoundAt text at (Ready piece) = IsPieceAt text at piece × NamesNone piece
IsFoundAt text at (Reference n c) = entity_at (drop at text) ≡ Some (n, c)
IsFoundAt text at (Dashes n) = (n ≡ run_at text at) × (3 < n) × (slice_index text at ≡ hyphen)
IsFoundAt text at (Dollar opens closes) = slice_index text at ≡ dollar_sign
IsFoundAt text at OpenBrace = IsLeft text at 1
IsFoundAt text at CloseBrace = IsLeft text at 1

reference_facts : (text : List ℕ) (at : ℕ) → at < length text → slice_index text at ≡ ampersand → (o : Option (ℕ × ℕ)) → entity_at (drop at text) ≡ o
    → IsFoundAt text at (option_map_or (λ (e : ℕ × ℕ). Reference e.0 e.1) o (Ready (Left 1)))
reference_facts text at within is o same = grind (arith, one_left)

-- the piece found at a place of the text
pub found_facts : (s : Inline) (at : ℕ) → at < length s.text → IsFoundAt s.text at (found_at s at)
unfolding found_at special_found reference_found dash_found dollar_found
found_facts s at within =
    let text = s.text in
    let holds : TokenStart → Type 0 = IsFoundAt text at in
    let b = slice_index text at in
    let left : (c : ℕ) → (b == c) ≡ true → (c == backquote) ≡ false → IsLeft text at 1 =
    λ c h other. one_left text at within (ap (λ (x : ℕ). x == backquote) (eqb-true b c h) ∙ other) in
    cond_both (is_special s.options b) (special_found s at) (Ready (Left 1)) holds
    (λ special. cond_both (b == ampersand) (reference_found text at) _ holds
    (λ h. reference_facts text at within (eqb-true b ampersand h) (entity_at (drop at text)) refl)
    (λ h₁. cond_both (b == hyphen) (dash_found text at) _ holds
    (λ h. cond_both (nat_lt 3 (run_at text at)) (Dashes (run_at text at)) (Ready (dash_piece text at)) holds
    (λ many. (refl, ltb-true 3 (run_at text at) many, eqb-true b hyphen h)) (λ few. dash_facts text at within (eqb-true b hyphen h)))
    (λ h₂. cond_both (b == dollar_sign) (dollar_found s at) _ holds (λ h. eqb-true b dollar_sign h)
    (λ h₃. cond_both (b == left_brace) OpenBrace _ holds (λ h. left left_brace h refl)
    (λ h₄. cond_both (b == right_brace) CloseBrace _ holds (λ h. left right_brace h refl) (λ h₅. special_facts s at within))))))
    (λ plain. (one_left text at within (plain_byte b s.options plain), tt))

-- the piece at a place, completed
pub becomes_facts : (texts : List CowStr) (b : MathBraces) (text : List ℕ) (at : ℕ) (found : TokenStart) (p : Piece) → IsFoundAt text at found
    → MakesPiece texts b found p → IsPieceAt text at p
becomes_facts texts b text at (Ready piece) p facts is = subst (IsPieceAt text at) (sym is) facts.0
becomes_facts texts b text at (Reference n c) p facts is =
    let r = reference_at text at n c facts in
    subst (IsPieceAt text at) (sym is.2) (undropped_token text at n (SynthesizeText is.0) r.some
    (λ k low high. grind (arith, nat_tests, r.bytes k low high)) refl (inl (record { n = n; char = c; to = refl; referred = facts })))
becomes_facts texts b text at (Dashes n) p facts is =
    let (run, many, here) = facts in
    subst (IsPieceAt text at) (sym is.2) (hyphens_token text at n (SynthesizeText is.0) here run (omega arith) refl
    (λ alike. inr (record { to = ap (λ (k : ℕ). at + k) run; many = subst (λ (k : ℕ). 3 < k) run many; hyphens = here })))
becomes_facts texts b text at (Dollar opens closes) p facts is = grind (arith, one_byte)
becomes_facts texts b text at _ p facts is = subst (IsPieceAt text at) (sym is) facts

-- a byte of a piece: in plain text it is equal to the first one, in any other piece it is visible
abbrev pub IsByteOf : List ℕ → ℕ → Piece → ℕ → Type 0
IsByteOf text at (Left n) k = (slice_index text k ≡ slice_index text at) × (k < length text)
IsByteOf text at _ k = IsVisible (slice_index text k)

pub piece_byte : (text : List ℕ) (at : ℕ) (p : Piece) → IsPieceAt text at p → (k : ℕ) → at ≤ k → k < at + size p → IsByteOf text at p k
piece_byte text at p facts k low high = grind (arith, mark_facts, cases_lt, punctuation_visible)

-- a piece has at least one byte
pub piece_some : (text : List ℕ) (at : ℕ) (p : Piece) → IsPieceAt text at p → 0 < size p
piece_some text at p facts = grind arith

-- a piece is within the text
pub piece_fits : (text : List ℕ) (at : ℕ) (p : Piece) → IsPieceAt text at p → at + size p ≤ length text
piece_fits text at (Left n) facts = facts.fits
piece_fits text at p facts =
    let some = piece_some text at p facts in
    let last : IsVisible (slice_index text (at + size p - 1)) = piece_byte text at p facts (at + size p - 1) (omega arith) (omega arith) in
    let within = at_byte text (at + size p - 1) (omega (arith, last.0)) in
    omega arith
