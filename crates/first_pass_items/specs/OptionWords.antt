-- The bits of the options.
use Rattle.std.specs.Prelude.{ℕ, ◌==◌, ◌&&◌, not, Bool, bit_and}
use Rattle.first_pass_items.specs.declared.option_set.Options.{Options}

-- the set has all of these bits
abbrev pub has : Options → ℕ → Bool
has options bits = bit_and options.0 bits == bits

-- the bits of `ENABLE_TABLES`
abbrev pub tables : ℕ
tables = 2

-- the bits of `ENABLE_FOOTNOTES`
abbrev pub footnotes : ℕ
footnotes = 4

-- the bits of `ENABLE_STRIKETHROUGH`
abbrev pub strikethrough : ℕ
strikethrough = 8

-- the bits of `ENABLE_TASKLISTS`
abbrev pub tasklists : ℕ
tasklists = 16

-- the bits of `ENABLE_SMART_PUNCTUATION`
abbrev pub smart_punctuation : ℕ
smart_punctuation = 32

-- the bits of `ENABLE_HEADING_ATTRIBUTES`
abbrev pub heading_attributes : ℕ
heading_attributes = 64

-- the bits of `ENABLE_YAML_STYLE_METADATA_BLOCKS`
abbrev pub yaml_style_metadata_blocks : ℕ
yaml_style_metadata_blocks = 128

-- the bits of `ENABLE_PLUSES_DELIMITED_METADATA_BLOCKS`
abbrev pub pluses_delimited_metadata_blocks : ℕ
pluses_delimited_metadata_blocks = 256

-- the bits of `ENABLE_OLD_FOOTNOTES`
abbrev pub old_footnotes : ℕ
old_footnotes = 516

-- the bits of `ENABLE_MATH`
abbrev pub math : ℕ
math = 1024

-- the bits of `ENABLE_GFM`
abbrev pub gfm : ℕ
gfm = 2048

-- the bits of `ENABLE_DEFINITION_LIST`
abbrev pub definition_list : ℕ
definition_list = 4096

-- the bits of `ENABLE_SUPERSCRIPT`
abbrev pub superscript : ℕ
superscript = 8192

-- the bits of `ENABLE_SUBSCRIPT`
abbrev pub subscript : ℕ
subscript = 16384

-- footnotes in GitHub's form: footnotes are on, and not in their old form
abbrev pub gfm_footnotes : Options → Bool
gfm_footnotes options = has options footnotes && not (has options old_footnotes)
