-- Names that extend others are found for texts, info strings, raw lines and other named values.
use Rattle.std.proofs.Common.{◌≡◌, ℕ, zero, suc, false, List, [], ◌∷◌, ◌++◌, length, slice_get, Option, Some, None, refl}
use Rattle.first_pass_grammar.proofs.Common.{CowStr, Alignment, AlignmentIndex, CowIndex, HeadingIndex, Item, SynthesizeText, Options, Place}
use Rattle.first_pass_grammar.proofs.Common.{offset, line_end, unescaped, add_tokens, Names, NamesText, NamesAlignments, NamesAttributes, Extends, Attributes}
use Rattle.first_pass_grammar.proofs.Common.{document, NamesInfo, NamesLabel, spaces, AreColumns, Ranges, raw_items, AreRawLines}
use Rattle.first_pass_tokens.proofs.LineFound.{borrowed}
use Rattle.first_pass_grammar.specs.Names.{with_named, with_alignments, with_heading}
use Rattle.first_pass_grammar.proofs.Names.MoreNames.{extends_none, extends_both, extends_named, extends_alignments, extends_heading, text_last}
use Rattle.first_pass_grammar.proofs.Names.MoreNames.{alignments_last, heading_last}

-- A value, with names that extend these; the value has a property under all names that extend those.
pub record Found (names : Names) (A : Type 0) (Holds : Names → A → Type 0) : Type 0 where
  pub value : A
  pub more : Names
  pub extends : Extends more names
  pub holds : (later : Names) → Extends later more → Holds later value

-- a value that needs no more names; another value by the same names; one by more names after it
pub found_here : {names : Names} {A : Type 0} {Holds : Names → A → Type 0} (value : A) → ((later : Names) → Holds later value) → Found names A Holds
found_here {names} value holds = record { value = value; more = names; extends = extends_none names; holds = λ later e. holds later }

pub found_also : {names : Names} {A B : Type 0} {P : Names → A → Type 0} {Q : Names → B → Type 0} (f : Found names A P) (value : B)
    → ((later : Names) → P later f.value → Q later value) → Found names B Q
found_also f value holds = record { value = value; more = f.more; extends = f.extends; holds = λ later e. holds later (f.holds later e) }

abbrev pub found_then : {names : Names} {A B : Type 0} {P : Names → A → Type 0} {Q : Names → B → Type 0} (f : Found names A P) → Found f.more B Q
    → Found names B (λ later value. P later f.value × Q later value)
found_then {names} f g = record {
  value = g.value;
  more = g.more;
  extends = extends_both g.more f.more names g.extends f.extends;
  holds = λ later e. (f.holds later (extends_both later g.more f.more e g.extends), g.holds later e);
}

-- a string, with names that include it
named : (names : Names) (cow : CowStr) → Found names CowIndex (λ later ix. slice_get later.texts ix.0 ≡ Some cow)
named names cow =
    let ix : CowIndex = record { 0 = length names.texts } in
    record {
      value = ix;
      more = with_named names cow;
      extends = extends_named names (with_named names cow) cow refl;
      holds = λ later e. text_last names (with_named names cow) later ix cow refl refl e;
    }

pub named_text : (names : Names) (text : List ℕ) → Found names CowIndex (λ later ix. NamesText later ix text)
unfolding borrowed
named_text names text = let f = named names (borrowed text) in found_also f f.value (λ later at. (borrowed text, at, refl))

pub named_info : (names : Names) (info : List ℕ) → Found names CowIndex (λ later ix. NamesInfo later ix info)
unfolding borrowed
named_info names info =
    let cow : CowStr = borrowed (unescaped false info) in
    let f = named names cow in found_also f f.value (λ later at. record { named = cow; at = at; text = refl; borrowed = λ same. same })

pub named_label : (names : Names) (written label : List ℕ) → Found names CowIndex (λ later ix. NamesLabel later ix written label)
unfolding borrowed
named_label names written label =
    let f = named names (borrowed label) in
    found_also f f.value (λ later at. record { named = borrowed label; at = at; text = refl; borrowed = λ same. same })

-- the alignments of a table's columns
pub named_alignments : (names : Names) (alignments : List Alignment) → Found names AlignmentIndex (λ later ix. NamesAlignments later ix alignments)
named_alignments names alignments =
    let ix : AlignmentIndex = record { 0 = length names.alignments } in
    record {
      value = ix;
      more = with_alignments names alignments;
      extends = extends_alignments names (with_alignments names alignments) alignments refl;
      holds = λ later e. alignments_last names (with_alignments names alignments) later ix alignments refl refl e;
    }

-- the attributes of a heading, or none
pub named_attributes : (names : Names) (attributes : Option Attributes) → Found names (Option HeadingIndex) (λ later ix. NamesAttributes later ix attributes)
named_attributes names None = found_here None (λ later. tt)
named_attributes names (Some attributes) =
    let ix : HeadingIndex = record { 0 = length names.headings } in
    record {
      value = Some ix;
      more = with_heading names attributes;
      extends = extends_heading names (with_heading names attributes) attributes refl;
      holds = λ later e. heading_last names (with_heading names attributes) later ix attributes refl refl e;
    }

-- columns, and raw lines
columns_found : (names : Names) (owed at : ℕ) → Found names (List Item) (λ later items. AreColumns later owed at items)
columns_found names zero at = found_here [] (λ later. refl)
columns_found names (suc n) at =
    let ix = named_text names (spaces (suc n)) in
    found_also ix (record { start = at; «end» = at; body = SynthesizeText ix.value } ∷ []) (λ later is. (ix.value, is, refl))

pub raw_lines_found : (range : Ranges) (text : List ℕ) (options : Options) (names : Names) (chain : List Item) (places : List Place)
    → Found names (List Item) (λ later whole. AreRawLines range (document text options later) chain places whole)
unfolding AreRawLines
raw_lines_found range text options names chain [] = found_here chain (λ later. refl)
raw_lines_found range text options names chain (p ∷ ps) =
    let columns = columns_found names p.rest.owed (offset p) in
    let line : List Item = columns.value ++ raw_items range text (offset p) (line_end p) in
    let whole = raw_lines_found range text options columns.more (add_tokens chain line) ps in
    found_also (found_then columns whole) whole.value (λ later are. (line, (columns.value, are.0, refl), are.1))
