-- Terms and lemmas that several proofs of `first_pass_lines` cite, passed on from one place. Declares nothing.
pub use Rattle.std.specs.List.{concat, list_all, prefix_len}
pub use Rattle.std.proofs.lemmas.List.Sums.{prefix_len-le-length, prefix_len_is, prefix_len_passes, prefix_len_stops}
pub use Rattle.std.proofs.lemmas.Bool.{agree_below, agree_below_at, cases_eq, cases_lt, cond-false, cond-true, false_from_ne_true, not-false, not-true}
pub use Rattle.std.proofs.lemmas.Bool.{not_from_false, not_from_true}
pub use Rattle.std.proofs.lemmas.List.{append_cancel_left, at_drop_all, get_or-map, length-map, take_rest}
pub use Rattle.std.proofs.lemmas.Simd.{bit_mask_l, get_or-chunk, leading_from_mask_l, length-chunk, map-map, mask_l-lt, mask_l-mod, trailing_mask_l, zip2_splat}
pub use Rattle.first_pass_items.specs.Bytes.{ascii_end, carriage_return, form_feed, greater_than, line_feed, line_tabulation, space, tab}
pub use Rattle.std.proofs.lemmas.Bool.Decides.{nat_tests}
pub use Rattle.first_pass_lines.specs.Lines.{IsLine, IsLineEnd, begins, blank_len, ends, ends_line, ends_signs, eol_len, is_content, is_line_end}
pub use Rattle.first_pass_lines.specs.Lines.{is_number_sign, is_white, level_number, level_of, line_len}
