use Rattle.std.proofs.Common.{◌≡◌, ◌≤◌, ◌<◌, ℕ, ◌==◌, ◌&&◌, ◌||◌, Bool, true, false, List, length, slice_index, slice_index_or, sym, ap, ◌∙◌, arith, eqb-true}
use Rattle.first_pass_tokens.proofs.Common.{lt-leb, pipe, nat_tests, Inline, content_in, is_line_end, has, tables, strikethrough, smart_punctuation, math}
use Rattle.first_pass_tokens.proofs.Common.{superscript, subscript, low_special, or-true, or-false, or_comm, is_marked, MarksSpecial}
use Rattle.first_pass_items.specs.declared.option_set.Options.{Options}
use Rattle.first_pass_walk.specs.Walk.{is_special}
use Rattle.first_pass_tokens.specs.LineTokens.{content_ends_at}
use Rattle.first_pass_tokens.proofs.line.special_ends_at.Goals as goal

only_first : (t a b c d : Bool) → ((t && true) || (((a && false) || (b && false)) || ((c && false) || (d && false)))) ≡ t
only_first t a b c d = grind (arith, nat_tests)

-- the table of marks marks the pipe only with tables
pipe_marked : (options : Options) (lut : List Bool) (b : ℕ) → MarksSpecial lut options → b < 256 → slice_index_or lut b false ≡ true
    → (b == pipe) ≡ true → has options tables ≡ true
unfolding is_special
pipe_marked options lut b m small marked same =
    sym (only_first (has options tables) (has options strikethrough || has options subscript) (has options superscript) (has options math)
    (has options smart_punctuation)) ∙ ap (is_special options) (sym (eqb-true b pipe same)) ∙ sym (m b small) ∙ marked

in_row : (r t p : Bool) → (p ≡ true → t ≡ true) → (r && (t && p)) ≡ (p && r)
in_row r t p h = grind (arith, nat_tests, h)

-- a content ends at a marked byte if that is a pipe in a row, or belongs to a line ending
marked_ends : (s : Inline) (lut : List Bool) (at : ℕ) → MarksSpecial lut s.options → slice_index s.text at < 256 → is_marked lut s.text at ≡ true
    → at < length s.text → content_ends_at s at ≡ ((slice_index s.text at == pipe && s.row) || is_line_end (slice_index s.text at))
unfolding content_ends_at
marked_ends s lut at m small marked within = grind (arith, lt-leb, in_row, pipe_marked, or_comm)

not_low : (b : ℕ) → 32 ≤ b → is_line_end b ≡ false
not_low b high = grind (arith, nat_tests, high)

pub returns-then-byte-lt32 : goal.returns-then-byte-lt32
returns-then-byte-lt32 c b =
    let byte : ℕ = slice_index c.args.text.now c.args.at in
    let small = c.type_inv.text c.args.at in
    let special = sym (c.requires.marks byte (omega (arith, small))) ∙ c.requires.marked in
    let ends = low_special c.args.content.options byte (omega (arith, c.if-byte-lt32.true)) special in
    sym (marked_ends (content_in c.args.text.now c.args.content b) c.args.content.special.now c.args.at c.requires.marks (omega (arith, small))
    c.requires.marked c.requires.within ∙ ap (λ t. (byte == pipe && c.args.content.row) || t) ends ∙ or-true _)

pub returns : goal.returns
returns c b =
    let byte : ℕ = slice_index c.args.text.now c.args.at in
    c.is_pipe_in_row.ensures
    ∙ sym (marked_ends (content_in c.args.text.now c.args.content b) c.args.content.special.now c.args.at c.requires.marks
    (omega (arith, c.type_inv.text c.args.at)) c.requires.marked c.requires.within
    ∙ ap (λ t. (byte == pipe && c.args.content.row) || t) (not_low byte (omega (arith, c.if-byte-lt32.false))) ∙ or-false _)
