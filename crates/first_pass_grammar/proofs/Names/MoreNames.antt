-- Indices keep what they name when names are added.
use Rattle.std.proofs.Common.{◌≡◌, ℕ, zero, suc, ◌<◌, List, ◌∷◌, ◌++◌, length, slice_get, Option, Some, refl, ap, ◌∙◌, arith, append_assoc, append-nil, []}
use Rattle.first_pass_grammar.proofs.Common.{slice_get_within, CowStr, Alignment, AlignmentIndex, CowIndex, HeadingIndex, Attributes, AreMore, Names}
use Rattle.first_pass_grammar.proofs.Common.{NamesAlignments, NamesAttributes, Extends}
use Rattle.first_pass_grammar.specs.Names.{with_named, with_alignments, with_heading, alignments_named}
use Rattle.first_pass_tokens.proofs.ChainLemmas.{slice_get-following}

-- names extend themselves
pub extends_none : (names : Names) → Extends names names
extends_none names =
    record { more_texts = []; texts = rw append-nil; more_alignments = []; alignments = rw append-nil; more_headings = []; headings = rw append-nil }

-- names that extend names that extend names
pub extends_both : (new mid old : Names) → Extends new mid → Extends mid old → Extends new old
extends_both new mid old e f = grind (arith, append_assoc)

-- one more text, the alignments of one more table, and the attributes of one more heading
pub extends_named : (old new : Names) (cow : CowStr) → new ≡ with_named old cow → Extends new old
extends_named old new cow e =
    record { more_texts = cow ∷ []; texts = rw e; more_alignments = []; alignments = rw (e, append-nil); more_headings = []; headings = rw (e, append-nil) }

pub extends_alignments : (old new : Names) (alignments : List Alignment) → new ≡ with_alignments old alignments → Extends new old
extends_alignments old new xs e =
    record { more_texts = []; texts = rw (e, append-nil); more_alignments = xs ∷ []; alignments = rw e; more_headings = []; headings = rw (e, append-nil) }

pub extends_heading : (old new : Names) (attributes : Attributes) → new ≡ with_heading old attributes → Extends new old
extends_heading old new x e =
    record { more_texts = []; texts = rw (e, append-nil); more_alignments = []; alignments = rw (e, append-nil); more_headings = x ∷ []; headings = rw e }

-- more texts
abbrev pub with_texts : Names → List CowStr → Names
with_texts names texts = record { texts = texts; alignments = names.alignments; headings = names.headings }

pub extends_texts : (old : Names) (texts : List CowStr) → AreMore texts old.texts → Extends (with_texts old texts) old
extends_texts old texts more =
    record { more_texts = more.0; texts = more.1; more_alignments = []; alignments = rw append-nil; more_headings = []; headings = rw append-nil }

-- an element of a list keeps its place when more come after it
pub get_front : {A : Type 0} (xs more : List A) (i : ℕ) → i < length xs → slice_get (xs ++ more) i ≡ slice_get xs i
get_front [] more i h = absurd (omega arith)
get_front (x ∷ xs) more zero h = refl
get_front (x ∷ xs) more (suc i) h = get_front xs more i (omega arith)

pub still_there : {A : Type 0} (new old more : List A) (i : ℕ) (x : A) → new ≡ old ++ more → slice_get old i ≡ Some x → slice_get new i ≡ Some x
still_there new old more i x e h = ap (λ xs. slice_get xs i) e ∙ get_front old more i (slice_get_within old i x h) ∙ h

-- an index names what it named
pub still_aligned : (new old : Names) (ix : AlignmentIndex) (alignments : List Alignment) → Extends new old → NamesAlignments old ix alignments
    → NamesAlignments new ix alignments
still_aligned new old ix alignments e h = still_there new.alignments old.alignments e.more_alignments ix.0 alignments e.alignments h

pub still_given : (new old : Names) (ix : Option HeadingIndex) (attributes : Option Attributes) → Extends new old → NamesAttributes old ix attributes
    → NamesAttributes new ix attributes
still_given new old ix attributes e h = grind (arith, still_there)

-- an index of alignments that names an entry still names the same one
pub alignments_kept : (new old : Names) (ix : AlignmentIndex) → Extends new old → ix.0 < length old.alignments
    → alignments_named new ix ≡ alignments_named old ix
alignments_kept new old ix e h = grind (arith, get_front)

-- The index of a text, of alignments or of attributes that were added at the end names them in all later names.
pub text_last : (old new more : Names) (ix : CowIndex) (cow : CowStr) → ix.0 ≡ length old.texts → new ≡ with_named old cow
    → Extends more new → slice_get more.texts ix.0 ≡ Some cow
text_last old new more ix cow at is e = still_there more.texts new.texts e.more_texts ix.0 cow e.texts (rw (is, at) (slice_get-following old.texts cow))

pub alignments_last : (old new more : Names) (ix : AlignmentIndex) (alignments : List Alignment) → ix.0 ≡ length old.alignments
    → new ≡ with_alignments old alignments → Extends more new → NamesAlignments more ix alignments
alignments_last old new more ix alignments at is e = still_aligned more new ix alignments e (rw (is, at) (slice_get-following old.alignments alignments))

pub heading_last : (old new more : Names) (ix : HeadingIndex) (attributes : Attributes) → ix.0 ≡ length old.headings
    → new ≡ with_heading old attributes → Extends more new → NamesAttributes more (Some ix) (Some attributes)
heading_last old new more ix attributes at is e =
    still_given more new (Some ix) (Some attributes) e (rw (is, at) (slice_get-following old.headings attributes))
