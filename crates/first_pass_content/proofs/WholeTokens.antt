-- The tokens of a chain in order begin and end between characters of the content.
use Rattle.std.proofs.Common.{◌≡◌, ℕ, suc, ◌+◌, ◌-◌, ◌<◌, ◌&&◌, Bool, true, false, List, [], ◌∷◌, ◌++◌, length, take, drop, nat_lt}
use Rattle.std.proofs.Common.{All, IsUtf8, IsCharBoundary, refl, sym, ap, subst, ◌∙◌, arith, append_assoc, length-append, slice_index}
use Rattle.std.proofs.Math.Seq.{get_or-append_seam}
use Rattle.std.proofs.lemmas.Bool.{and_parts, false≢true}
use Rattle.std.proofs.lemmas.Bool.Decides.{nat_tests}
use Rattle.std.proofs.lemmas.List.{drop_more, length-map, map-append}
use Rattle.std.proofs.lemmas.List.Elements.{All-cons, All-nil}
use Rattle.std.proofs.lemmas.Str.{IsCharBoundary-after_ascii, IsCharBoundary-at_seam, IsUtf8-append, IsUtf8-nil}
use Rattle.std.specs.Prelude.{if◌then◌else◌}
use Rattle.first_pass_items.specs.declared.item.Item.{Item}
use Rattle.first_pass_items.specs.declared.item.ItemBody.{ItemBody}
use Rattle.first_pass_items.specs.declared.item.ItemBody.TheVariants.{Text, MaybeCode}
use Rattle.first_pass_tokens.specs.LineTokens.{is_break}
use Rattle.first_pass_grammar.specs.Order.{is_task_marker}
use Rattle.first_pass_reports.specs.Pairs.{is_escaped, whole_start}
use Rattle.first_pass_content.specs.Chains.{IsChainIn}
use Rattle.first_pass_content.specs.Content.{ContentByte, byte_in, bytes_of, content, copied, gap_content, placed, token_content}
use Rattle.first_pass_content.specs.Parts.{part}
use Rattle.first_pass_content.specs.Tokens.{IsWholeToken, placed_tokens, token_between}
use Rattle.first_pass_content.proofs.ChainPieces.{content_piece, gap_piece, token_piece}

bytes_both : (c d : List ContentByte) → bytes_of (c ++ d) ≡ bytes_of c ++ bytes_of d
bytes_both c d = map-append (λ (b : ContentByte). b.byte) c d

utf8_both : (c d : List ContentByte) → IsUtf8 (bytes_of c) → IsUtf8 (bytes_of d) → IsUtf8 (bytes_of (c ++ d))
utf8_both c d u v = subst IsUtf8 (sym (bytes_both c d)) (IsUtf8-append (bytes_of c) (bytes_of d) u v)

-- between two contents
seam : (c d : List ContentByte) (at : ℕ) → IsUtf8 (bytes_of d) → length c ≡ at → IsCharBoundary (bytes_of (c ++ d)) at
seam c d at u is =
    subst (IsCharBoundary (bytes_of (c ++ d))) (length-map c (λ (b : ContentByte). b.byte) ∙ is)
    (IsCharBoundary-at_seam (bytes_of (c ++ d)) (bytes_of c) (bytes_of d) (bytes_both c d) u)

-- after an ASCII byte
after_byte : (c d : List ContentByte) (b : ContentByte) (at : ℕ) → IsUtf8 (bytes_of (c ++ b ∷ d)) → b.byte < 128 → length c ≡ at
    → IsCharBoundary (bytes_of (c ++ b ∷ d)) (at + 1)
after_byte c d b at u low is =
    let size : length (bytes_of c) ≡ at = length-map c (λ (b : ContentByte). b.byte) ∙ is in
    let all : bytes_of (c ++ b ∷ d) ≡ bytes_of c ++ b.byte ∷ bytes_of d = bytes_both c (b ∷ d) in
    let within : length (bytes_of c) < length (bytes_of c ++ b.byte ∷ bytes_of d) = simp length-append (omega arith) in
    let first : slice_index (bytes_of c ++ b.byte ∷ bytes_of d) (length (bytes_of c)) < 128 =
    subst (λ n. n < 128) (sym (get_or-append_seam (bytes_of c) b.byte (bytes_of d) 0)) low in
    let after : IsCharBoundary (bytes_of c ++ b.byte ∷ bytes_of d) (length (bytes_of c) + 1) =
    IsCharBoundary-after_ascii (bytes_of c ++ b.byte ∷ bytes_of d) (length (bytes_of c)) (subst IsUtf8 all u) within first in
    subst (λ n. IsCharBoundary (bytes_of (c ++ b ∷ d)) (n + 1)) size (subst (λ l. IsCharBoundary l (length (bytes_of c) + 1)) (sym all) after)

-- the content of a token before which a backslash was dropped begins with the backslash
escaped_plain : (body : ItemBody) → is_escaped body ≡ true → (is_break body ≡ false) × (is_task_marker body ≡ false)
escaped_plain (Text escaped) h = (refl, refl)
escaped_plain (MaybeCode count escaped) h = (refl, refl)
escaped_plain _ h = absurd (false≢true h)

record BeginsLow (c : List ContentByte) : Type 0 where
  first : ContentByte
  rest : List ContentByte
  is : c ≡ first ∷ rest
  low : first.byte < 128

copied_low : (text : List ℕ) (at n : ℕ) → at < length text → slice_index text at < 128 → BeginsLow (placed at (take (suc n) (drop at text)) ++ [])
copied_low text at n inside low =
    subst (λ l. BeginsLow (placed at (take (suc n) l) ++ [])) (sym (drop_more text at 0 inside)) (record {
      first = byte_in (slice_index text at) at (at + 1);
      rest = placed (at + 1) (take n (drop (at + 1) text)) ++ [];
      is = refl;
      low = low;
    })

token_low : (text : List ℕ) (from to : ℕ) (x : ℕ × Item) (xs : List (ℕ × Item)) → IsChainIn text from to (x ∷ xs) → is_escaped x.1.body ≡ true
    → BeginsLow (token_content text x.1)
token_low text from to x xs is h =
    let plain = escaped_plain x.1.body h in
    let slash = is.4 h in
    let shown : copied text (part (x.1.start - 1) x.1.«end») ++ [] ≡ token_content text x.1 = rw (plain.0, plain.1, h) refl in
    let more : suc (x.1.«end» - x.1.start) ≡ x.1.«end» - (x.1.start - 1) = omega (arith, slash.0, is.1) in
    subst BeginsLow shown
    (subst (λ n. BeginsLow (placed (x.1.start - 1) (take n (drop (x.1.start - 1) text)) ++ [])) more
    (copied_low text (x.1.start - 1) (x.1.«end» - x.1.start) (omega (arith, slash.0, is.2.0)) (omega (arith, slash.1))))

-- the own bytes of a token begin after its backslash, if it has one
grown : (escaped : Bool) (start : ℕ) (whole past : ℕ) → (nat_lt (if escaped then start - 1 else start) start && nat_lt whole past) ≡ true → escaped ≡ true
grown true start whole past h = refl
grown false start whole past h =
    let both = and_parts (nat_lt start start) (nat_lt whole past) h in
    absurd (false≢true (grind (arith, nat_tests, both.0)))

starts_by : (bytes : List ℕ) (at : ℕ) (grows : Bool) → IsCharBoundary bytes at → (grows ≡ true → IsCharBoundary bytes (at + 1))
    → IsCharBoundary bytes (if grows then at + 1 else at)
starts_by bytes at true here after = after refl
starts_by bytes at false here after = here

module _ (text : List ℕ) (u : IsUtf8 text) where
  -- the first token of a chain whose content follows another one
  first_whole : (from to : ℕ) (x : ℕ × Item) (xs : List (ℕ × Item)) (front back : List ContentByte) (place : ℕ) → IsChainIn text from to (x ∷ xs)
      → IsUtf8 (bytes_of front) → IsUtf8 (bytes_of back) → length front ≡ place
      → IsWholeToken (bytes_of (front ++ (token_content text x.1 ++ back))) (token_between x.1 place (place + length (token_content text x.1)))
  first_whole from to x xs front back place is v w size =
      let own : List ContentByte = token_content text x.1 in
      let own_utf8 = (token_piece text from x.1 is.0 is.1 is.2 is.3 is.4).utf8 u in
      let after = utf8_both own back own_utf8 w in
      let both : (front ++ own) ++ back ≡ front ++ (own ++ back) = append_assoc front own back in
      let here : IsCharBoundary (bytes_of (front ++ (own ++ back))) place = seam front (own ++ back) place after size in
      let past : place + length own ≡ length (front ++ own) = simp length-append (omega (arith, size)) in
      let ends : IsCharBoundary (bytes_of (front ++ (own ++ back))) (place + length own) =
      subst (λ l. IsCharBoundary (bytes_of l) (place + length own)) both (seam (front ++ own) back (place + length own) w (sym past)) in
      let slash : is_escaped x.1.body ≡ true → IsCharBoundary (bytes_of (front ++ (own ++ back))) (place + 1) =
      λ h.
      let low = token_low text from to x xs is h in
      let shape : front ++ low.first ∷ (low.rest ++ back) ≡ front ++ (own ++ back) = ap (λ l. front ++ (l ++ back)) (sym low.is) in
      subst (λ l. IsCharBoundary (bytes_of l) (place + 1)) shape
      (after_byte front (low.rest ++ back) low.first place (subst (λ l. IsUtf8 (bytes_of l)) (sym shape) (utf8_both front (own ++ back) v after))
      low.low size) in (
        starts_by (bytes_of (front ++ (own ++ back))) place (nat_lt (whole_start x.1) x.1.start && nat_lt place (place + length own)) here
            (λ h. slash (grown (is_escaped x.1.body) x.1.start place (place + length own) h)),
        ends,
      )

  whole_after : (from to : ℕ) (tokens : List (ℕ × Item)) (front : List ContentByte) (place : ℕ) → IsChainIn text from to tokens
      → IsUtf8 (bytes_of front) → length front ≡ place → All (IsWholeToken (bytes_of (front ++ content text tokens))) (placed_tokens text place tokens)
  unfolding content placed_tokens
  whole_after from to [] front place is v size = All-nil (IsWholeToken (bytes_of (front ++ [])))
  whole_after from to (x ∷ xs) front place is v size =
      let own : List ContentByte = token_content text x.1 in
      let gap : List ContentByte = gap_content text x.1 xs in
      let own_utf8 = (token_piece text from x.1 is.0 is.1 is.2 is.3 is.4).utf8 u in
      let next = gap_piece text to x.1 xs is.3 is.5 in
      let rest_utf8 = (content_piece text next.mid to xs next.chain).utf8 u in
      let gap_utf8 = next.piece.utf8 u in
      let both : ((front ++ own) ++ gap) ++ content text xs ≡ front ++ (own ++ (gap ++ content text xs)) =
      append_assoc (front ++ own) gap (content text xs) ∙ append_assoc front own (gap ++ content text xs) in
      let past : length ((front ++ own) ++ gap) ≡ (place + length own) + length gap = simp length-append (omega (arith, size)) in
      All-cons (IsWholeToken (bytes_of (front ++ (own ++ (gap ++ content text xs))))) (token_between x.1 place (place + length own))
      (placed_tokens text ((place + length own) + length gap) xs)
      (first_whole from to x xs front (gap ++ content text xs) place is v (utf8_both gap (content text xs) gap_utf8 rest_utf8) size)
      (subst (λ l. All (IsWholeToken (bytes_of l)) (placed_tokens text ((place + length own) + length gap) xs)) both
      (whole_after next.mid to xs ((front ++ own) ++ gap) ((place + length own) + length gap) next.chain
      (utf8_both (front ++ own) gap (utf8_both front own v own_utf8) gap_utf8) past))

  pub whole_tokens : (from to : ℕ) (tokens : List (ℕ × Item)) → IsChainIn text from to tokens
      → All (IsWholeToken (bytes_of (content text tokens))) (placed_tokens text 0 tokens)
  whole_tokens from to tokens is = whole_after from to tokens [] 0 is IsUtf8-nil refl
