-- Quotation marks of a level: which are left ones, and which are right ones (this project).
use Rattle.std.specs.Prelude.{◌&&◌, ◌||◌, ◌==◌, not, Bool, false, List, [], ◌∷◌, if◌then◌else◌}
use Rattle.first_pass_items.specs.Bytes.{quotation_mark}
use Rattle.first_pass_emphasis.specs.declared.quotes.Quote.{Quote}
use Rattle.first_pass_emphasis.specs.declared.role.Role.{Role}
use Rattle.first_pass_emphasis.specs.declared.role.Role.TheVariants.{LeftQuote, RightQuote}
use Rattle.first_pass_emphasis.specs.Parts.{Part, Delimiters, Quotation, Other}

abbrev pub is_double : Quote → Bool
is_double q = q.byte == quotation_mark

-- a single quotation mark that can open or close
abbrev pub is_single_edge : Quote → Bool
is_single_edge q = not (is_double q) && (q.opens || q.closes)

-- the first single quotation mark of these parts that can open or close can close
abbrev pub closes_next : List Part → Bool
closes_next [] = false
closes_next (Delimiters r ∷ ts) = closes_next ts
closes_next (Quotation q ∷ ts) = if is_single_edge q then q.closes else closes_next ts
closes_next (Other rs ∷ ts) = closes_next ts

-- A single quotation mark begins a pair if none is open, it can open, and the next one that can open or close can close:
-- that one ends the pair. Given whether a pair is open, and whether such a one follows.
abbrev pub begins_pair : Bool → Quote → Bool → Bool
begins_pair single q next = not (is_double q) && (not single && (q.opens && next))

-- whether a pair of double quotation marks is open after one: the first that can open begins a pair, and the next one that
-- can close ends it
abbrev pub double_after : Bool → Quote → Bool
double_after double q = if is_double q then (if double then not q.closes else q.opens) else double

-- the same of single quotation marks, given whether this one begins a pair
abbrev pub single_after : Bool → Bool → Quote → Bool
single_after single begins q = if is_double q then single else (if single then not q.closes else begins)

-- Of double quotation marks the last one of a pair is a right one, and all others are left ones. Of single ones the first
-- one of a pair is a left one, and all others are right ones.
abbrev pub is_left : Bool → Bool → Quote → Bool
is_left double begins q = if is_double q then not (double && q.closes) else begins

abbrev pub quote_role : Bool → Bool → Quote → Role
quote_role double begins q = if is_left double begins q then LeftQuote else RightQuote

-- The parts with the roles of quotation marks, given whether a pair of double ones and a pair of single ones is open.
abbrev pub quoted : Bool → Bool → List Part → List Part
quoted double single [] = []
quoted double single (Delimiters r ∷ ts) = Delimiters r ∷ quoted double single ts
quoted double single (Quotation q ∷ ts) =
    Other (quote_role double (begins_pair single q (closes_next ts)) q ∷ [])
    ∷ quoted (double_after double q) (single_after single (begins_pair single q (closes_next ts)) q) ts
quoted double single (Other rs ∷ ts) = Other rs ∷ quoted double single ts
