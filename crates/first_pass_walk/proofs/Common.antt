-- Terms and lemmas that several proofs of `first_pass_walk` cite, passed on from one place. Declares nothing.
pub use Rattle.std.proofs.lemmas.Nat.Bits.{bit_at-lt, bit_at-suc, bit_at-trailing_zeros, bit_at-zero, bit_at_above, bit_at_and, bit_at_lowest}
pub use Rattle.std.specs.Int.{bit_at, trailing_zeros}
pub use Rattle.std.proofs.lemmas.Bool.{cases_Bool, cases_eq, cases_lt}
pub use Rattle.first_pass_walk.specs.Walk.{AreWordStops, IsFirstStop, IsNextMarked, Marking, MarksSpecial, SparesWords, Walks, is_marked, is_passed, is_special}
pub use Rattle.std.proofs.lemmas.Bool.Decides.{nat_tests}
pub use Rattle.std.specs.Char.{IsScalar, is_ascii_alphanumeric, is_ascii_punctuation, is_whitespace}
pub use Rattle.std.proofs.lemmas.Option.{IfSome_then, slice_get_read}
pub use Rattle.first_pass_items.specs.Bytes.{asterisk, pipe, space, underscore}
pub use Rattle.first_pass_walk.specs.declared.flank.DelimiterRun.{DelimiterRun}
pub use Rattle.std.proofs.lemmas.List.{drop_more, take_more}
