-- Terms and lemmas that several proofs of `first_pass_tokens` cite, passed on from one place. Declares nothing.
pub use Rattle.first_pass_items.specs.declared.cow_str.CowStr.{CowStr}
pub use Rattle.first_pass_items.specs.declared.item.Item.{Item}
pub use Rattle.std.proofs.lemmas.Bool.{and_from, and_left, and_parts, and_right, cases_Bool, cases_lt, cond-false, cond-true, cond_both, false≢true, lt-leb}
pub use Rattle.std.proofs.lemmas.Bool.{not-true, not_from_false, not_from_true, or_cases, or_from, or_left, or_parts, or_right, true_from_ne_false}
pub use Rattle.first_pass_items.specs.Bytes.{ampersand, ascii_end, backquote, backslash, carriage_return, dollar_sign, exclamation_mark, full_stop, hyphen}
pub use Rattle.first_pass_items.specs.Bytes.{left_brace, left_bracket, less_than, line_feed, pipe, right_brace, right_bracket, space, underscore}
pub use Rattle.first_pass_tokens.specs.declared.pieces.Piece.{Piece}
pub use Rattle.first_pass_tokens.specs.Braces.{MathBraces, braces_after, dollar_context}
pub use Rattle.first_pass_tokens.specs.declared.pieces.Piece.TheVariants.{Begins, Left, Run, Token}
pub use Rattle.std.proofs.lemmas.Bool.Decides.{nat_tests}
pub use Rattle.first_pass_tokens.specs.declared.pieces.TokenStart.TheVariants.{CloseBrace, Dashes, Dollar, OpenBrace, Ready, Reference}
pub use Rattle.first_pass_tokens.specs.Pieces.{Inline, IsReadyAt, backquote_piece, backslash_piece_in, content_in, delimiter_piece, found_at, is_bracket_at}
pub use Rattle.first_pass_tokens.specs.Pieces.{is_delimiter, is_inside_word, is_quick_at, is_quote, is_too_long, run_at, run_piece, size, source, special_found}
pub use Rattle.first_pass_tokens.specs.Pieces.{text_upto}
pub use Rattle.first_pass_tokens.specs.NamedTexts.{AreMore, IsNamingToken, MakesPiece, NamesAmong, dashes, times}
pub use Rattle.first_pass_tokens.specs.LineTokens.{AreLineTokens, ArePieces, EndsCell, EndsLine, IsBreak, IsCell, IsInPieces, Spot, add_piece, add_pieces}
pub use Rattle.first_pass_tokens.specs.LineTokens.{blanks_at_end, breaks_by_backslash, content_ends_at, ends_cell, is_near_pipe, is_word_or_hyphen, line_break}
pub use Rattle.first_pass_tokens.specs.LineTokens.{line_end_len, spot, text_end}
pub use Rattle.first_pass_tree.specs.Forest.{Forest, HasLeaves, added, appended, at_depth, block_of, childless, cut_siblings, cut_tokens, depths, ends_text_at}
pub use Rattle.first_pass_tree.specs.Forest.{is_escaped, is_text, item_at, joins_at, last_before, last_child, modified, modify, open_place, popped, pushed}
pub use Rattle.first_pass_tree.specs.Forest.{text_between, with_end, with_end_at, with_text}
pub use Rattle.first_pass_tokens.specs.Chains.{AreApart, add_text, add_token, add_tokens, close_break, cut, is_backslash_break, run_tokens, text_token, token}
pub use Rattle.first_pass_tokens.specs.Chains.{touches}
pub use Rattle.first_pass_tokens.specs.TreeTokens.{AppendsCell, AppendsLine, JoinsNone, chained, leaves, with_token, with_tokens}
pub use Rattle.first_pass_lines.specs.Lines.{begins, eol_len, is_content, is_line_end, is_white, is_white_or_line_end, line_len}
pub use Rattle.first_pass_items.specs.declared.item.CowIndex.{CowIndex}
pub use Rattle.first_pass_tokens.specs.declared.pieces.TokenStart.{TokenStart}
pub use Rattle.first_pass_items.specs.declared.item.ItemBody.TheVariants.{MaybeCode, MaybeEmphasis, MaybeHtml, MaybeImage, MaybeLinkClose, MaybeLinkOpen}
pub use Rattle.first_pass_items.specs.declared.item.ItemBody.TheVariants.{MaybeMath, MaybeSmartQuote, SynthesizeChar, SynthesizeText}
pub use Rattle.std.specs.Char.{is_ascii_alphanumeric, is_ascii_punctuation}
pub use Rattle.std.proofs.lemmas.List.{at_drop_all, at_drop_more, get_or-reverse, get_or_past}
pub use Rattle.first_pass_tokens.specs.MarkupBytes.{AreBackquotes, HasNoBackquote, PipesAreEscaped, StandOver, StandsOver, TextsHaveNoBackquote, smart_char}
pub use Rattle.first_pass_items.specs.OptionWords.{has, math, smart_punctuation, strikethrough, subscript, superscript, tables}
pub use Rattle.first_pass_walk.proofs.WalkFacts.{low_special, spares_words}
pub use Rattle.std.proofs.lemmas.Str.{IsCharBoundary-after_ascii, IsCharBoundary-at_seam, IsCharBoundary-before_ascii, IsCharBoundary-end, IsUtf8-append}
pub use Rattle.std.proofs.lemmas.Str.{IsUtf8-encode, IsUtf8-nil}
pub use Rattle.std.specs.List.{prefix_len, suffix_len}
pub use Rattle.std.specs.declared.alloc.AllocError.{AllocError}
pub use Rattle.std.proofs.lemmas.List.Sums.{prefix_len-le-length, prefix_len_is, prefix_len_passes, prefix_len_stops, suffix_len-le-length}
pub use Rattle.std.proofs.Math.Bool.{or-false, or-true, or_comm}
pub use Rattle.first_pass_lines.proofs.LineFacts.{isnt, line_len-fits, line_len-within}
pub use Rattle.first_pass_items.specs.declared.item.ItemBody.{ItemBody}
pub use Rattle.first_pass_walk.specs.Walk.{IsNextMarked, MarksSpecial, is_marked, is_special}
pub use Rattle.first_pass_tree.specs.declared.tree_index.TreeIndex.{TreeIndex}
pub use Rattle.std.proofs.Math.Seq.{drop-append_seam, take-append_seam}
pub use Rattle.first_pass_walk.specs.declared.flank.DelimiterRun.{DelimiterRun}
pub use Rattle.first_pass_walk.specs.Flank.{can_close, can_open}
pub use Rattle.first_pass_lines.proofs.PlaceFacts.{line_end_boundary}
pub use Rattle.first_pass_tokens.specs.declared.line.HeldText.{HeldText}
