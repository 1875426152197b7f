-- The attribute block at the end of a heading's text.
use Rattle.std.proofs.Common.{◌≡◌, ℕ, ◌+◌, ◌-◌, ◌≤◌, ◌<◌, Bool, true, false, List, ◌∷◌, ◌++◌, length, take, drop, get_or, [], slice_index, Option, Some, None}
use Rattle.std.proofs.Common.{is_some, min, IsUtf8, IsCharBoundary, refl, sym, ap, subst, ◌∙◌, arith, length-append, length-drop, length-take, length-take-le}
use Rattle.std.proofs.Common.{get_or-drop, if◌then◌else◌, slice_range, option_map, take-take, get_or-take, drop-drop}
use Rattle.first_pass_grammar.proofs.Common.{suffix_len, option_map_or, cond_both, suffix_len-le-length, none-some, same_Some, IsCharBoundary-after_ascii, has}
use Rattle.first_pass_grammar.proofs.Common.{left_brace, right_brace, Options, none_is, none_mapped, some_if, some_mapped, Braces, attribute_block}
use Rattle.first_pass_grammar.proofs.Common.{attributes_of, Names, NamesAttributes, HeadingIndex, heading_attribute_block, heading_attributes_of}
use Rattle.first_pass_grammar.proofs.Common.{before_attributes, chain_end, chain_bytes, kept_before, Item, is_white, cut, chained, Forest, appended, item_at}
use Rattle.first_pass_grammar.proofs.Common.{open_place, cut_tokens, cut_siblings, TreeIndex}
use Rattle.first_pass_leaves.proofs.Common.{get_last, chained-current, take_min, cut_chain}
use Rattle.std.proofs.lemmas.Slice.{between_is}
use Rattle.first_pass_items.specs.OptionWords.{heading_attributes}
use Rattle.std.proofs.Math.Seq.{get_or-append_seam}
use Rattle.first_pass_attributes.specs.AttributeBlocks.{length_before_block, between_braces, inside_block}
use Rattle.first_pass_attributes.proofs.BlockFacts.{block-found, block-within}
use Rattle.first_pass_tree.proofs.Cuts.{cut-length}

-- a text whose end is not after its start is empty
pub none_between : (text : List ℕ) (start to : ℕ) → to ≤ start → slice_range text start to ≡ []
none_between text start to past = let none : to - start ≡ 0 = omega arith in ap (λ n. take n (drop start text)) none

pub length_between : (text : List ℕ) (start to : ℕ) → to ≤ length text → length (slice_range text start to) ≡ to - start
length_between text start to within = let long = length-drop start text in length-take-le (to - start) (drop start text) (omega arith)

-- the bytes between two offsets of the bytes between two others
pub between_both : (text : List ℕ) (start to a b : ℕ) → b ≤ to - start → slice_range (slice_range text start to) a b ≡ slice_range text (start + a) (start + b)
between_both text start to a b within =
    let size : b - a ≡ start + b - (start + a) = omega arith in
    ap (take (b - a)) (sym (between_is (drop start text) a (to - start)))
    ∙ take-take (b - a) (to - start - a) (drop a (drop start text)) (omega arith) ∙ ap (take (b - a)) (drop-drop a start text)
    ∙ ap (λ n. take n (drop (start + a) text)) size

-- without heading attributes, or in an empty text, there is no block
pub no_braces : (options : Options) (bs : List ℕ) → has options heading_attributes ≡ false → heading_attribute_block options bs ≡ None
unfolding heading_attribute_block
no_braces options bs h = rw h refl

pub empty_braces : (options : Options) → heading_attribute_block options [] ≡ None
unfolding heading_attribute_block attribute_block
empty_braces options = cond_both (has options heading_attributes) (attribute_block []) None (λ (o : Option Braces). o ≡ None) (λ b. refl) (λ b. refl)

pub these_braces : (options : Options) (bs : List ℕ) → has options heading_attributes ≡ true → heading_attribute_block options bs ≡ attribute_block bs
unfolding heading_attribute_block
these_braces options bs h = rw h refl

-- a text without a block
pub before_none : (options : Options) (bs : List ℕ) → heading_attribute_block options bs ≡ None → before_attributes options bs ≡ bs
before_none options bs h = ap (λ (o : Option Braces). option_map_or (λ block. take block.opening bs) o bs) h

pub given_none : (options : Options) (bs : List ℕ) → heading_attribute_block options bs ≡ None → heading_attributes_of options bs ≡ None
given_none options bs h = ap (option_map (λ (block : Braces). attributes_of (slice_range bs (block.opening + 1) block.closing))) h

-- a block is within its text
pub braces_within : (options : Options) (bs : List ℕ) (block : Braces)
    → heading_attribute_block options bs ≡ Some block → (block.opening + 1 ≤ block.closing) × (block.closing < length bs)
unfolding heading_attribute_block
braces_within options bs block e = block-within bs block (some_if (has options heading_attributes) (attribute_block bs) block e).1

-- the number of bytes before a block
length_by : (bs : List ℕ) (o : Option Braces) → attribute_block bs ≡ o
    → option_map_or (λ (block : Braces). block.opening) o (length bs) ≡ length (option_map_or (λ (block : Braces). take block.opening bs) o bs)
length_by bs None e = refl
length_by bs (Some block) e = let in_text = block-within bs block e in sym (length-take-le block.opening bs (omega (arith, in_text.0, in_text.1)))

pub length_before : (options : Options) (bs : List ℕ) → has options heading_attributes ≡ true → length_before_block bs ≡ length (before_attributes options bs)
length_before options bs h = grind (arith, length_by, these_braces)

-- the end of the content of a heading's text, if the text has another name
pub content_before : (options : Options) (text bytes : List ℕ) (start to n : ℕ) → has options heading_attributes ≡ true → bytes ≡ text
    → n ≡ length_before_block (slice_range bytes start to) → start + n ≡ start + length (before_attributes options (slice_range text start to))
content_before options text bytes start to n on same is = grind (arith, length_before)

pub given_not : (options : Options) (bs : List ℕ) → has options heading_attributes ≡ true → None ≡ inside_block bs → heading_attributes_of options bs ≡ None
given_not options bs h e = given_none options bs (these_braces options bs h ∙ none_mapped between_braces (attribute_block bs) e)

-- The attributes of the bytes that were found between the braces are those of the text.
pub given_some : (options : Options) (text : List ℕ) (start to : ℕ) (block : List ℕ) (r : ℕ × ℕ)
    → has options heading_attributes ≡ true → to ≤ length text → Some r ≡ inside_block (slice_range text start to)
    → block ≡ slice_range text (start + r.0) (start + r.1)
    → heading_attributes_of options (slice_range text start to) ≡ Some (attributes_of block)
given_some options text start to block r h within e block_is = grind (arith, some_mapped, block-within, length_between, between_both, these_braces)

-- the offset after the opening brace is a character boundary
pub brace_boundary : (text bs : List ℕ) (start to opening at : ℕ)
    → IsUtf8 text → bs ≡ slice_range text start to → to ≤ length text → opening + 1 < length bs → slice_index bs opening ≡ left_brace
    → at ≡ opening + 1 → IsCharBoundary text (start + at)
brace_boundary text bs start to opening at utf8 bs_is within less opens at_is =
    let long : length bs ≡ to - start = ap length bs_is ∙ length_between text start to within in
    let there : slice_index bs opening ≡ slice_index text (start + opening) =
    ap (λ xs. get_or xs opening 0) bs_is ∙ get_or-take (to - start) (drop start text) opening 0 (omega arith) ∙ get_or-drop start text opening 0 in
    let same : start + opening + 1 ≡ start + at = omega arith in
    subst (IsCharBoundary text) same (IsCharBoundary-after_ascii text (start + opening) utf8 (omega arith) (omega (arith, opens)))

-- a text has a block if an index names its attributes, and none without an index
named_by : (bs : List ℕ) (names : Names) (index : Option HeadingIndex) (o : Option Braces)
    → NamesAttributes names index (option_map (λ (block : Braces). attributes_of (slice_range bs (block.opening + 1) block.closing)) o)
    → is_some index ≡ is_some o
named_by bs names (Some ix) (Some block) e = refl
named_by bs names None None e = refl
named_by bs names (Some ix) None e = absurd e
named_by bs names None (Some block) e = absurd e

some_block : (o : Option Braces) → is_some o ≡ true → (block : Braces) × (o ≡ Some block)
some_block (Some block) h = (block, refl)
some_block None h = cc

pub block_named : (options : Options) (bs : List ℕ) (names : Names) (index : Option HeadingIndex)
    → NamesAttributes names index (heading_attributes_of options bs) → is_some index ≡ true
    → (block : Braces) × (heading_attribute_block options bs ≡ Some block)
block_named options bs names index e some = grind (arith, some_block, named_by)

pub none_named : (options : Options) (bs : List ℕ) (names : Names) (index : Option HeadingIndex)
    → NamesAttributes names index (heading_attributes_of options bs) → is_some index ≡ false → heading_attribute_block options bs ≡ None
none_named options bs names index e none = grind (arith, none_is, named_by)

-- the end of the content before a block
pub length_some : (options : Options) (bs : List ℕ) (block : Braces)
    → heading_attribute_block options bs ≡ Some block → length (before_attributes options bs) ≡ block.opening
length_some options bs block h =
    let inside = braces_within options bs block h in
    ap (λ (o : Option Braces). length (option_map_or (λ (b : Braces). take b.opening bs) o bs)) h
    ∙ length-take-le block.opening bs (omega (arith, inside.0, inside.1))

-- an end after that of the text is the same as that of the text
pub clipped : (text : List ℕ) (start to : ℕ) → slice_range text start (min to (length text)) ≡ slice_range text start to
clipped text start to =
    let long = length-drop start text in
    let same : min to (length text) - start ≡ min (to - start) (length (drop start text)) = omega arith in
    ap (λ n. take n (drop start text)) same ∙ take_min (to - start) (drop start text)

-- the bytes of a line before its attribute block
content_by : (options : Options) (line : List ℕ) (size : ℕ) (o : Option Braces) → heading_attribute_block options (take size line) ≡ o
    → take (length (before_attributes options (take size line))) line ≡ before_attributes options (take size line)
content_by options line size None h =
    let same = before_none options (take size line) h in
    ap (λ xs. take (length xs) line) same ∙ ap (λ n. take n line) (length-take size line) ∙ take_min size line ∙ sym same
content_by options line size (Some block) h =
    let long = length-take size line in
    let inside = braces_within options (take size line) block h in
    ap (λ n. take n line) (length_some options (take size line) block h) ∙ sym (take-take block.opening size line (omega (arith, inside.0, inside.1)))
    ∙ sym (ap (λ (o : Option Braces). option_map_or (λ (b : Braces). take b.opening (take size line)) o (take size line)) h)

pub content_read : (options : Options) (text : List ℕ) (start size content_end : ℕ)
    → content_end ≡ start + length (before_attributes options (take size (drop start text)))
    → slice_range text start content_end ≡ before_attributes options (take size (drop start text))
content_read options text start size content_end ends =
    let n : content_end - start ≡ length (before_attributes options (take size (drop start text))) = omega arith in
    ap (λ k. take k (drop start text)) n ∙ content_by options (drop start text) size (heading_attribute_block options (take size (drop start text))) refl

-- The content of a heading ends before its attribute block and the white space before that.
pub cut_end : (text : List ℕ) (options : Options) (start last : ℕ) (broken : Bool) (block : Braces) (content_end white : ℕ)
    → heading_attribute_block options (slice_range text start last) ≡ Some block
    → content_end ≡ start + length (before_attributes options (slice_range text start last))
    → white ≡ (if broken then 0 else suffix_len is_white (slice_range text start content_end))
    → start + kept_before broken block.opening (slice_range text start last) ≡ content_end - white
cut_end text options start last broken block content_end white h e g = grind (arith, length_some, content_read, suffix_len-le-length)

-- A chain is cut off there.
pub cut_by : (text : List ℕ) (options : Options) (start : ℕ) (broken : Bool) (chain : List Item) (block : Braces) (content_end white : ℕ)
    → heading_attribute_block options (chain_bytes text start chain) ≡ Some block
    → content_end ≡ start + length (before_attributes options (chain_bytes text start chain))
    → white ≡ (if broken then 0 else suffix_len is_white (slice_range text start content_end))
    → cut_chain text options start broken chain ≡ cut (content_end - white) chain
cut_by text options start broken chain block content_end white h e g = grind (arith, cut_end)

pub cut_none : (text : List ℕ) (options : Options) (start : ℕ) (broken : Bool) (chain : List Item)
    → heading_attribute_block options (chain_bytes text start chain) ≡ None
    → cut_chain text options start broken chain ≡ chain
cut_none text options start broken chain h = grind arith

-- the current node is the last of a chain
abbrev IsCurrent : Forest Item → Item → Type 0
IsCurrent f x = (ix : TreeIndex) × (f.current ≡ Some ix) × (item_at f ix ≡ Some x)

current_end : (f : Forest Item) (x : Item) (xs : List Item) (start : ℕ)
    → (z : Item) × IsCurrent (chained f (x ∷ xs)) z × (z.«end» ≡ chain_end start (x ∷ xs))
current_end f x [] start =
    let here = ap (option_map (λ (n : ℕ × Item). n.1)) (get_last f.nodes (length f.spine + 1, x) (length f.nodes) refl) in
    (x, (record { 0 = length f.nodes }, refl, here), refl)
current_end f x (y ∷ ys) start = current_end (appended f x) y ys start

pub end_none : (f t : Forest Item) (chain : List Item) (start : ℕ) → f.current ≡ None → t ≡ chained f chain → t.current ≡ None → start ≡ chain_end start chain
end_none f t [] start bare is none = refl
end_none f t (x ∷ xs) start bare is none = absurd (none-some _ (sym none ∙ ap (λ (g : Forest Item). g.current) is ∙ chained-current f x xs))

pub end_some : (f t : Forest Item) (chain : List Item) (start : ℕ) (ix : TreeIndex) (x : Item)
    → f.current ≡ None → t ≡ chained f chain → t.current ≡ Some ix → item_at t ix ≡ Some x
    → x.«end» ≡ chain_end start chain
end_some f t [] start ix x bare is some item = absurd (none-some ix (sym bare ∙ sym (ap (λ (g : Forest Item). g.current) is) ∙ some))
end_some f t (y ∷ ys) start ix x bare is some item =
    let (z, (at, current, last), e) = current_end f y ys start in
    let place : ix ≡ at = same_Some ix at (sym some ∙ ap (λ (g : Forest Item). g.current) is ∙ current) in
    let same : x ≡ z = same_Some x z (sym item ∙ ap (item_at t) place ∙ ap (λ (g : Forest Item). item_at g at) is ∙ last) in
    ap (λ (w : Item). w.«end») same ∙ e

-- a block begins with its brace
pub opens_with : (options : Options) (bs : List ℕ) (block : Braces) → heading_attribute_block options bs ≡ Some block → get_or bs block.opening 0 ≡ left_brace
unfolding heading_attribute_block
opens_with options bs block e =
    let is = block-found bs block (some_if (has options heading_attributes) (attribute_block bs) block e).1 in
    ap (λ n. get_or bs n 0) is.opens ∙ ap (λ xs. get_or xs (length is.front) 0) is.parts
    ∙ get_or-append_seam is.front left_brace (is.inside ++ right_brace ∷ is.following) 0

-- a tree whose innermost open node's children are cut has no more nodes than before
pub siblings_fewer : (f : Forest Item) (e : ℕ) → length (cut_siblings f e).nodes ≤ length f.nodes
siblings_fewer f e =
    let n : ℕ = open_place f.spine + 1 in
    let more = cut-length e (length f.spine + 1) (drop n f.nodes) in
    let both = length-append (take n f.nodes) (cut_tokens e (length f.spine + 1) (drop n f.nodes)) in
    let front = length-take n f.nodes in
    let rest = length-drop n f.nodes in
    omega arith
