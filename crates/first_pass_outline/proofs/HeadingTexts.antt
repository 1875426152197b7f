-- The text that tokens of a heading span: built token by token, and on one line.
use Rattle.std.proofs.Common.{◌≡◌, ℕ, Bool, true, false, cond, List, [], ◌∷◌, ◌++◌, length, drop, not, refl, sym, ap, ◌∙◌, append_assoc, append-nil, arith}
use Rattle.std.specs.List.{All, list_any, prefix_len, slice_range}
use Rattle.std.proofs.lemmas.Bool.{or_parts}
use Rattle.std.proofs.lemmas.List.Elements.{All-nil, All-cons, All-append, All-take, All-drop}
use Rattle.first_pass_lines.specs.Lines.{is_content, is_line_end, is_space_or_tab}
use Rattle.first_pass_scan.specs.TableHead.{stripped}
use Rattle.first_pass_reports.specs.Pairs.{whole_start}
use Rattle.first_pass_grammar.proofs.Common.{Item}
use Rattle.first_pass_outline.specs.Titles.{is_break, on_one_line, token_text, last_end, texts_after, first_start, spanned, heading_text}

-- the tokens so far, one more, and those after it
pub token_added : (text so_far whole : List ℕ) (last : ℕ) (token : ℕ × Item) (others tokens : List (ℕ × Item)) → tokens ≡ token ∷ others
    → so_far ++ texts_after text last tokens ≡ whole → (so_far ++ token_text text last token.1) ++ texts_after text (last_end last token.1) others ≡ whole
unfolding texts_after
token_added text so_far whole last token others tokens are h =
    append_assoc so_far (token_text text last token.1) (texts_after text (last_end last token.1) others)
    ∙ ap (λ l. so_far ++ texts_after text last l) (sym are) ∙ h

-- after the last token
pub all_added : (text so_far whole : List ℕ) (last : ℕ) (tokens : List (ℕ × Item)) → length tokens ≡ 0 → so_far ++ texts_after text last tokens ≡ whole
    → so_far ≡ whole
unfolding texts_after
all_added text so_far whole last [] none h = sym (append-nil so_far) ∙ h
all_added text so_far whole last (token ∷ tokens) none h = absurd (omega arith)

-- bytes without a line ending
abbrev IsContent : ℕ → Type 0
IsContent byte = is_content byte ≡ true

no_ends : (bytes : List ℕ) → list_any is_line_end bytes ≡ false → All IsContent bytes
no_ends [] none = All-nil IsContent
no_ends (b ∷ bytes) none =
    let both = or_parts (is_line_end b) (list_any is_line_end bytes) none in
    All-cons IsContent b bytes (ap not both.0) (no_ends bytes both.1)

one_line_by : (bytes : List ℕ) (has_end : Bool) → list_any is_line_end bytes ≡ has_end → All IsContent (cond has_end (32 ∷ []) bytes)
one_line_by bytes true is = All-cons IsContent 32 [] refl (All-nil IsContent)
one_line_by bytes false is = no_ends bytes is

on_one_line_is : (bytes : List ℕ) → All IsContent (on_one_line bytes)
on_one_line_is bytes = one_line_by bytes (list_any is_line_end bytes) refl

token_by : (text : List ℕ) (last : ℕ) (token : Item) (break : Bool) → All IsContent
    (cond break [] (on_one_line (slice_range text last (whole_start token)) ++ on_one_line (slice_range text (whole_start token) token.«end»)))
token_by text last token true = All-nil IsContent
token_by text last token false =
    let between = slice_range text last (whole_start token) in
    let own = slice_range text (whole_start token) token.«end» in
    All-append IsContent (on_one_line between) (on_one_line own) (on_one_line_is between) (on_one_line_is own)

texts_are : (text : List ℕ) (last : ℕ) (tokens : List (ℕ × Item)) → All IsContent (texts_after text last tokens)
unfolding texts_after
texts_are text last [] = All-nil IsContent
texts_are text last (token ∷ tokens) =
    All-append IsContent (token_text text last token.1) (texts_after text (last_end last token.1) tokens)
    (token_by text last token.1 (is_break token.1.body)) (texts_are text (last_end last token.1) tokens)

-- the text of a heading is one line
pub one_line : (text : List ℕ) (tokens : List (ℕ × Item)) → All (λ byte. is_content byte ≡ true) (heading_text text tokens)
unfolding stripped
one_line text tokens =
    let line = spanned text tokens in
    let rest = drop (prefix_len is_space_or_tab line) line in
    All-take IsContent _ rest (All-drop IsContent _ line (texts_are text (first_start tokens) tokens))
