-- Names for bytes: Unicode's name of the character, or the standard's if that is shorter.
use Rattle.std.specs.Prelude.{ℕ}

-- NUL
abbrev pub nul : ℕ
nul = 0

-- TAB
abbrev pub tab : ℕ
tab = 9

-- LF
abbrev pub line_feed : ℕ
line_feed = 10

-- VT
abbrev pub line_tabulation : ℕ
line_tabulation = 11

-- FF
abbrev pub form_feed : ℕ
form_feed = 12

-- CR
abbrev pub carriage_return : ℕ
carriage_return = 13

-- a space
abbrev pub space : ℕ
space = 32

-- `!`
abbrev pub exclamation_mark : ℕ
exclamation_mark = 33

-- `"`
abbrev pub quotation_mark : ℕ
quotation_mark = 34

-- `#`
abbrev pub number_sign : ℕ
number_sign = 35

-- `$`
abbrev pub dollar_sign : ℕ
dollar_sign = 36

-- `&`
abbrev pub ampersand : ℕ
ampersand = 38

-- `'`
abbrev pub apostrophe : ℕ
apostrophe = 39

-- `(`
abbrev pub left_parenthesis : ℕ
left_parenthesis = 40

-- `)`
abbrev pub right_parenthesis : ℕ
right_parenthesis = 41

-- `*`
abbrev pub asterisk : ℕ
asterisk = 42

-- `+`
abbrev pub plus_sign : ℕ
plus_sign = 43

-- `-`
abbrev pub hyphen : ℕ
hyphen = 45

-- `.`
abbrev pub full_stop : ℕ
full_stop = 46

-- `/`
abbrev pub solidus : ℕ
solidus = 47

-- `0`
abbrev pub digit_zero : ℕ
digit_zero = 48

-- `9`
abbrev pub digit_nine : ℕ
digit_nine = 57

-- `:`
abbrev pub colon : ℕ
colon = 58

-- `;`
abbrev pub semicolon : ℕ
semicolon = 59

-- `<`
abbrev pub less_than : ℕ
less_than = 60

-- `=`
abbrev pub equals_sign : ℕ
equals_sign = 61

-- `>`
abbrev pub greater_than : ℕ
greater_than = 62

-- `X`
abbrev pub capital_x : ℕ
capital_x = 88

-- `[`
abbrev pub left_bracket : ℕ
left_bracket = 91

-- `\`
abbrev pub backslash : ℕ
backslash = 92

-- `]`
abbrev pub right_bracket : ℕ
right_bracket = 93

-- `^`
abbrev pub circumflex : ℕ
circumflex = 94

-- `_`
abbrev pub underscore : ℕ
underscore = 95

-- a backquote
abbrev pub backquote : ℕ
backquote = 96

-- `n`
abbrev pub small_n : ℕ
small_n = 110

-- `r`
abbrev pub small_r : ℕ
small_r = 114

-- `x`
abbrev pub small_x : ℕ
small_x = 120

-- `{`
abbrev pub left_brace : ℕ
left_brace = 123

-- `|`
abbrev pub pipe : ℕ
pipe = 124

-- `}`
abbrev pub right_brace : ℕ
right_brace = 125

-- `~`
abbrev pub tilde : ℕ
tilde = 126

-- the least non-ASCII byte
abbrev pub ascii_end : ℕ
ascii_end = 128

-- the least first byte of a character of several bytes
abbrev pub least_lead : ℕ
least_lead = 192
