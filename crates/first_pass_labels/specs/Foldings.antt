-- The case folding of labels, which decides whether they are equal, and their order (CommonMark 6.3, The Unicode
-- Standard 3.13). White space at both ends of a label counts (this project; CommonMark 6.3 drops it).
use Rattle.std.specs.Prelude.{ℕ, zero, suc, ◌+◌, ◌*◌, List, Bool, ◌&&◌, not, chars, encode_utf8_all, nat_eq, nat_lt, slice_index}
use Rattle.std.specs.Box.{boxed_str_bytes}
use Rattle.std.specs.Char.{is_ascii_uppercase}
use Rattle.std.specs.declared.cmp.Ordering.{Ordering}
use Rattle.std.specs.Ordering.{nat_cmp}
use Rattle.std.specs.Cmp.Lexicographic.{pointwise, slice_cmp}
use Rattle.caseless.specs.Caseless.{default_case_fold}
use Rattle.first_pass_items.specs.Bytes.{ascii_end}
use Rattle.first_pass_items.specs.declared.cow_str.CowStr.{CowStr}
use Rattle.first_pass_items.specs.CowText.{text_of}
use Rattle.first_pass_labels.specs.declared.folding.Folding.{Folding}
use Rattle.first_pass_labels.specs.declared.folding.Folding.TheVariants.{Itself, Short, Long}

-- the bytes of a text after full default case folding
abbrev pub folded : List ℕ → List ℕ
folded text = encode_utf8_all (default_case_fold (chars text))

-- the folding of a label
abbrev pub folding_of : CowStr → List ℕ
folding_of label = folded (text_of label)

-- two labels are the same if their foldings are
abbrev pub is_same_label : CowStr → CowStr → Bool
is_same_label x y = pointwise nat_eq (folding_of x) (folding_of y)

-- the order of labels: that of the bytes of their foldings
abbrev pub label_cmp : CowStr → CowStr → Ordering
label_cmp x y = slice_cmp nat_cmp (folding_of x) (folding_of y)

-- an ASCII byte that is no capital letter: its folding is the byte itself (The Unicode Standard 3.13)
abbrev pub folds_to_itself : ℕ → Bool
folds_to_itself b = nat_lt b ascii_end && not (is_ascii_uppercase b)

-- the folding that is stored for a text (this project)
abbrev pub kept_folding : Folding → List ℕ → List ℕ
kept_folding Itself text = text
kept_folding (Short folding) text = folding
kept_folding (Long folding) text = boxed_str_bytes folding

-- the first n bytes as one number, the first byte the most significant, with 0 for each missing byte (this project)
abbrev pub leading_number : ℕ → List ℕ → ℕ
leading_number zero bytes = 0
leading_number (suc n) bytes = leading_number n bytes * 256 + slice_index bytes n
