-- Facts from the kind of the block at a place.
use Rattle.std.proofs.Common.{◌≡◌, inl, inr, ℕ, ◌+◌, ◌<◌, ◌≤◌, min, nat_lt, ◌==◌, Bool, true, false, List, length, drop, Option, Some, None, is_some, IfSome}
use Rattle.std.proofs.Common.{IfNone, IsUtf8, refl, sym, ap, subst, ◌∙◌, if◌then◌else◌, arith, option_map}
use Rattle.first_pass_grammar.proofs.Common.{nat_tests, Options, has, HeadingLevel, is_content, atx_level, hrule_len, code_fence, Rest, indent, place_at}
use Rattle.first_pass_grammar.proofs.Common.{offset, IsPlaceOf, BeginsTagLine, Kind, Blank, IndentedCode, Metadata, HtmlToEnd, HtmlToBlank, ThematicBreak}
use Rattle.first_pass_grammar.proofs.Common.{AtxHeading, FencedCode, LinkDefinitions, all_taken, is_blank_rest, heading_or, rule_or, fence_or, metadata_at}
use Rattle.first_pass_grammar.proofs.Common.{begins_html_to_end, begins_html_to_blank, html_kind, first_kind, later_kind, IsKindBy, IsKind}
use Rattle.first_pass_kinds.proofs.Common.{Paragraph, metadata_or, all_keep, metadata_byte, metadata_plain}
use Rattle.first_pass_kinds.specs.BlockStart.{kind_of, IsFoundWithCondition}
use Rattle.first_pass_kinds.specs.declared.kinds.BlockStart.{BlockStart}

-- columns counted up to four
pub few_columns : (n m : ℕ) → n ≡ min 4 m → n < 4 → (nat_lt m 4 ≡ true) × (n ≡ m)
few_columns n m is bound = (grind (arith, nat_tests, is, bound), omega arith)

pub many_columns : (n m : ℕ) → n ≡ min 4 m → 4 ≤ n → nat_lt m 4 ≡ false
many_columns n m is many = grind (arith, nat_tests, is, many)

-- what the kind of a block implies for the rest at which it begins
abbrev pub Says : Rest → Kind → Type 0
Says r Blank = is_blank_rest r ≡ true
Says r IndentedCode = (is_blank_rest r ≡ false) × (nat_lt (indent r) 4 ≡ false)
Says r (Metadata byte) = is_content byte ≡ true
Says r HtmlToEnd = nat_lt (indent r) 4 ≡ true
Says r HtmlToBlank = nat_lt (indent r) 4 ≡ true
Says r (ThematicBreak size) = hrule_len (all_taken r).left ≡ Some size
Says r (AtxHeading level) = atx_level (all_taken r).left ≡ Some level
Says r (FencedCode count byte) = (code_fence (all_taken r).left ≡ Some (count, byte)) × (nat_lt (indent r) 4 ≡ true)
Says r LinkDefinitions = Unit {0}
Says r Paragraph = Unit {0}

last_by : (r : Rest) (rule : Option ℕ) (level : Option HeadingLevel) (fence : Option (ℕ × ℕ))
    → hrule_len (all_taken r).left ≡ rule → atx_level (all_taken r).left ≡ level → code_fence (all_taken r).left ≡ fence → nat_lt (indent r) 4 ≡ true
    → Says r (rule_or rule (heading_or level (fence_or fence Paragraph)))
last_by r (Some size) level fence a b e u = a
last_by r None (Some level) fence a b e u = b
last_by r None None (Some fence) a b e u = (e, u)
last_by r None None None a b e u = tt

last_says : (r : Rest) → nat_lt (indent r) 4 ≡ true → Says r (later_kind (all_taken r).left)
last_says r u = last_by r _ _ _ refl refl refl u

html_by : (t v : Bool) (r : Rest) (k : Kind)
    → nat_lt (indent r) 4 ≡ true → IsKindBy r (if t then Some HtmlToEnd else (if v then Some HtmlToBlank else None)) k → Says r k
html_by true v r k u h = subst (Says r) (sym h) u
html_by false true r k u h = subst (Says r) (sym h) u
html_by false false r k u (inl (n, tag, h)) = subst (Says r) (sym h) u
html_by false false r k u (inr (none, h)) = subst (Says r) (sym h) (last_says r u)

plain_by : (t : Bool) (options : Options) (bs : List ℕ) (byte : ℕ)
    → (if t then metadata_byte (has options 128) (has options 256) bs else None) ≡ Some byte → is_content byte ≡ true
plain_by true options bs byte h = metadata_plain (has options 128) (has options 256) bs byte h
plain_by false options bs byte h = cc

metadata_by : (options : Options) (m : Option ℕ) (r : Rest) (k : Kind) → metadata_at (indent r) options (all_taken r).left ≡ m → nat_lt (indent r) 4 ≡ true
    → IsKindBy r (metadata_or m (html_kind (all_taken r).left)) k → Says r k
metadata_by options (Some byte) r k e u h = subst (Says r) (sym h) (plain_by (indent r == 0) options (all_taken r).left byte e)
metadata_by options None r k e u h = html_by (begins_html_to_end (all_taken r).left) (begins_html_to_blank (all_taken r).left) r k u h

says_by : (t u : Bool) (options : Options) (r : Rest) (k : Kind) → is_blank_rest r ≡ t → nat_lt (indent r) 4 ≡ u
    → IsKindBy r (if t then Some Blank
    else (if u then metadata_or (metadata_at (indent r) options (all_taken r).left) (html_kind (all_taken r).left) else Some IndentedCode)) k → Says r k
says_by true u options r k a b h = subst (Says r) (sym h) a
says_by false true options r k a b h = metadata_by options (metadata_at (indent r) options (all_taken r).left) r k refl b h
says_by false false options r k a b h = subst (Says r) (sym h) (a, b)

pub kind_says : (options : Options) (r : Rest) (k : Kind) → IsKind options r k → Says r k
unfolding first_kind
kind_says options r k h = says_by (is_blank_rest r) (nat_lt (indent r) 4) options r k refl refl h

-- a rest that is not blank is indented code at four columns or more
pub code_kind : (options : Options) (r : Rest) → is_blank_rest r ≡ false → nat_lt (indent r) 4 ≡ false → IsKind options r IndentedCode
unfolding first_kind
code_kind options r h u = let first : first_kind options r ≡ Some IndentedCode = rw h (rw u refl) in subst (λ o. IsKindBy r o IndentedCode) (sym first) refl

-- The rest is not blank and is at fewer than four columns. `m` is the mark byte of the metadata block there, or `None`
-- without one.
pub record AfterMetadata (options : Options) (r : Rest) (m : Option ℕ) : Type 0 where
  pub some : is_blank_rest r ≡ false
  pub bound : nat_lt (indent r) 4 ≡ true
  pub metadata : metadata_at (indent r) options (all_taken r).left ≡ m

-- the columns at a place were taken: fewer than four, and the place is not blank
pub record ColumnsTaken (text : List ℕ) (start : ℕ) (r : Rest) (taken columns : ℕ) : Type 0 where
  pub utf8 : IsUtf8 text
  pub place : IsPlaceOf text (place_at start r)
  pub some : is_blank_rest r ≡ false
  pub columns_are : columns ≡ min 4 (indent r)
  pub few : columns < 4
  pub taken_is : taken ≡ (all_taken r).taken

-- the offset after these columns
pub past_columns : (text : List ℕ) (start : ℕ) (r : Rest) (taken columns : ℕ)
    → ColumnsTaken text start r taken columns → (start + taken ≤ length text) × ((all_taken r).left ≡ drop (start + taken) text)
past_columns text start r taken columns c =
    let j = all_keep text start r c.utf8 c.place in
    let e : start + taken ≡ offset (place_at start (all_taken r)) = ap (λ n. start + n) c.taken_is in
    let w = j.within in
    (omega arith, j.left ∙ ap (λ n. drop n text) (sym e))

-- the metadata block after these columns, or none
pub found_early : (text : List ℕ) (start : ℕ) (r : Rest) (taken columns : ℕ) (options : Options) (m : Option ℕ)
    → ColumnsTaken text start r taken columns → m ≡ metadata_at columns options (drop (start + taken) text) → AfterMetadata options r m
found_early text start r taken columns options m c m_is = grind (arith, few_columns, past_columns)

first_is : (options : Options) (r : Rest) (m : Option ℕ) → AfterMetadata options r m → first_kind options r ≡ metadata_or m (html_kind (all_taken r).left)
unfolding first_kind
first_is options r m f = rw (f.some, f.bound, f.metadata) refl

-- metadata
pub metadata_here : (options : Options) (r : Rest) (byte : ℕ) → AfterMetadata options r (Some byte) → IsKind options r (Metadata byte)
metadata_here options r byte f = subst (λ o. IsKindBy r o (Metadata byte)) (sym (first_is options r (Some byte) f)) refl

-- an HTML block of types 1 to 6
pub html_here : (options : Options) (r : Rest) (k : Kind) → AfterMetadata options r None → html_kind (all_taken r).left ≡ Some k → IsKind options r k
html_here options r k f is = subst (λ o. IsKindBy r o k) (sym (first_is options r None f ∙ is)) refl

-- an HTML block of type 7
pub tag_here : (options : Options) (r : Rest) (n : ℕ)
    → AfterMetadata options r None → html_kind (all_taken r).left ≡ None → BeginsTagLine (all_taken r).left n → IsKind options r HtmlToBlank
tag_here options r n f is tag = subst (λ o. IsKindBy r o HtmlToBlank) (sym (first_is options r None f ∙ is)) (inl (n, tag, refl))

-- one of the kinds of `later_kind`: a thematic break, an ATX heading, fenced code, or `Paragraph`
pub last_here : (options : Options) (r : Rest) → AfterMetadata options r None → html_kind (all_taken r).left ≡ None
    → ((n : ℕ) → BeginsTagLine (all_taken r).left n → ⊥) → IsKind options r (later_kind (all_taken r).left)
last_here options r f is no_tag = subst (λ o. IsKindBy r o (later_kind (all_taken r).left)) (sym (first_is options r None f ∙ is)) (inr (no_tag, refl))

-- a tag that was found, or was not
pub tag_found : (o : Option ℕ) (bs left : List ℕ) → is_some o ≡ true → left ≡ bs → IfSome o (BeginsTagLine bs) → (n : ℕ) × BeginsTagLine left n
tag_found None bs left h same tag = cc
tag_found (Some n) bs left h same tag = (n, subst (λ z. BeginsTagLine z n) (sym same) tag)

pub tag_absent : (o : Option ℕ) (bs left : List ℕ)
    → is_some o ≡ false → left ≡ bs → IfNone o ((m : ℕ) → BeginsTagLine bs m → ⊥) → (n : ℕ) → BeginsTagLine left n → ⊥
tag_absent None bs left h same none = subst (λ z. (n : ℕ) → BeginsTagLine z n → ⊥) (sym same) none
tag_absent (Some n) bs left h same none = cc

-- the kind and the end condition of an HTML block that was found
pub found_html : (o : Option BlockStart) (f : BlockStart) (h : Option Kind) (bs left : List ℕ)
    → o ≡ Some f → option_map kind_of o ≡ h → IfSome o (IsFoundWithCondition bs) → left ≡ bs → (h ≡ Some (kind_of f)) × IsFoundWithCondition left f
found_html o f h bs left is kind with same = grind arith
