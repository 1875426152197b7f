-- The result of reading a text, for the caller.
use Rattle.std.proofs.Common.{◌≡◌, ◌≢◌, ℕ, List, All, inr, refl, ap, arith}
use Rattle.first_pass_names.specs.TableEntries.{names_of, tables_of}
use Rattle.first_pass_c.specs.FlatForm.{FlatForm}
use Rattle.first_pass_c.specs.FlatNodes.{IsShort}
use Rattle.first_pass_c.specs.declared.fault.Fault.{Fault}
use Rattle.first_pass_c.specs.declared.fault.Fault.TheVariants.{OutOfMemory, NotUtf8, BadOptions, TooSmall, TooLong}
use Rattle.first_pass_c.specs.declared.reading.FlatCounts.{FlatCounts}
use Rattle.first_pass_c.specs.declared.reading.Parsed.{Parsed}
use Rattle.first_pass_c.specs.Memory.{Memory}
use Rattle.first_pass_c.specs.Parsed.{IsParsed, form_of}
use Rattle.first_pass_c.specs.Reading.{HasNoRoom, IsTextRead, IsTooLong, IsTooSmall, IsFormWritten, Reading, WriteLeaves, counts_of}
use Rattle.first_pass_c.specs.Statuses.{status_of}

-- its tree, its tables and the entries that indices name
abbrev reading_of : (text : List ℕ) (bits : ℕ) (parsed : Parsed) → IsParsed text bits parsed → Reading text bits
reading_of text bits parsed is = record { names = names_of parsed.allocs; nodes = parsed.tree.nodes; tables = tables_of parsed.allocs; tree = is.tree }

-- its flat form was written
pub is_read : (text : List ℕ) (bits : ℕ) (parsed : Parsed) (old new : Memory) (counts : FlatCounts) → IsParsed text bits parsed
    → counts ≡ counts_of (form_of parsed) → IsFormWritten (form_of parsed) old new → IsTextRead text bits old new counts
is_read text bits parsed old new counts is counted written = record { reading = reading_of text bits parsed is; counted = counted; written = written }

-- its flat form does not fit into the arrays
pub is_too_small : (text : List ℕ) (bits : ℕ) (parsed : Parsed) (arrays : Memory) (counts : FlatCounts) → IsParsed text bits parsed
    → counts ≡ counts_of (form_of parsed) → HasNoRoom (form_of parsed) arrays → IsTooSmall text bits arrays counts
is_too_small text bits parsed arrays counts is counted no_room =
    record { reading = reading_of text bits parsed is; counted = counted; no_room = no_room }

-- its flat form has a number that is too long
is_too_long : (text : List ℕ) (bits : ℕ) (parsed : Parsed) → IsParsed text bits parsed → (All IsShort (form_of parsed).nodes → ⊥) → IsTooLong text bits
is_too_long text bits parsed is long = inr (record { reading = reading_of text bits parsed is; long = long })

-- the fault of status 4
pub small_at_4 : (fault : Fault) (status : ℕ) → status ≡ status_of fault → status ≡ 4 → fault ≡ TooSmall
small_at_4 OutOfMemory status is four = absurd (omega arith)
small_at_4 NotUtf8 status is four = absurd (omega arith)
small_at_4 BadOptions status is four = absurd (omega arith)
small_at_4 TooSmall status is four = refl
small_at_4 TooLong status is four = absurd (omega arith)

-- after the fault of a short array, an array is too short
pub no_room_at_4 : (fault : Fault) (form : FlatForm) (arrays : Memory) → fault ≡ TooSmall → WriteLeaves fault form arrays → HasNoRoom form arrays
no_room_at_4 OutOfMemory form arrays is leaves = absurd leaves
no_room_at_4 NotUtf8 form arrays is leaves = absurd leaves
no_room_at_4 BadOptions form arrays is leaves = absurd leaves
no_room_at_4 TooSmall form arrays is leaves = leaves
no_room_at_4 TooLong form arrays is leaves = absurd (let four : 5 ≡ 4 = ap status_of is in omega arith)

-- the fault of an array that is too short is the only one of a form's writing with another status than 5
pub small_unless_5 : (fault : Fault) (form : FlatForm) (arrays : Memory) (status : ℕ) → WriteLeaves fault form arrays → status ≡ status_of fault
    → status ≢ 5 → fault ≡ TooSmall
small_unless_5 OutOfMemory form arrays status leaves told other = absurd leaves
small_unless_5 NotUtf8 form arrays status leaves told other = absurd leaves
small_unless_5 BadOptions form arrays status leaves told other = absurd leaves
small_unless_5 TooSmall form arrays status leaves told other = refl
small_unless_5 TooLong form arrays status leaves told other = absurd (other told)

-- the text is too long at status 5
pub long_at_5 : (text : List ℕ) (bits : ℕ) (parsed : Parsed) (arrays : Memory) (fault : Fault) (status : ℕ) → IsParsed text bits parsed
    → WriteLeaves fault (form_of parsed) arrays → status ≡ status_of fault → status ≡ 5 → IsTooLong text bits
long_at_5 text bits parsed arrays OutOfMemory status is leaves told five = absurd leaves
long_at_5 text bits parsed arrays NotUtf8 status is leaves told five = absurd leaves
long_at_5 text bits parsed arrays BadOptions status is leaves told five = absurd leaves
long_at_5 text bits parsed arrays TooSmall status is leaves told five = absurd (omega arith)
long_at_5 text bits parsed arrays TooLong status is leaves told five = is_too_long text bits parsed is leaves
