-- Autolinks. The bytes are those of a content after the `<`.
use Rattle.std.specs.Prelude.{ℕ, ◌+◌, ◌-◌, ◌==◌, ◌&&◌, ◌||◌, Bool, not, List, length, drop, take, nat_le, nat_lt, slice_index, codes}
use Rattle.std.specs.Prelude.{Option, None, Some, if◌then◌else◌}
use Rattle.std.specs.Option.{option_or, option_map, option_and_then}
use Rattle.std.specs.List.{prefix_len, list_all, list_any, slice_split}
use Rattle.std.specs.Char.{is_ascii_alphabetic, is_ascii_alphanumeric, is_ascii_control}
use Rattle.first_pass_items.specs.Bytes.{space, plus_sign, hyphen, full_stop, colon, less_than, greater_than}
use Rattle.first_pass_lines.specs.Lines.{begins}
use Rattle.first_pass_html.specs.TagLengths.{word_len}
use Rattle.first_pass_atoms.specs.declared.autolinks.Autolink.{Autolink}
use Rattle.first_pass_atoms.specs.declared.autolinks.AutolinkForm.{AutolinkForm}
use Rattle.first_pass_atoms.specs.declared.autolinks.AutolinkForm.TheVariants.{Uri, Email}

-- `@`
abbrev pub commercial_at : ℕ
commercial_at = 64

-- a byte of a scheme after its first letter: a letter, a digit, `+`, `.` or `-` (CommonMark 6.5, scheme)
abbrev pub is_scheme_byte : ℕ → Bool
is_scheme_byte b = is_ascii_alphanumeric b || (b == plus_sign || (b == full_stop || b == hyphen))

-- the length of the scheme, if there is one: a letter and all bytes that continue it, together 2 to 32 (CommonMark 6.5,
-- scheme)
unfoldable pub scheme_len : List ℕ → Option ℕ
scheme_len bs = option_and_then (λ n. if nat_lt n 2 || nat_lt 32 n then None else Some n) (word_len is_ascii_alphabetic is_scheme_byte bs)

-- a byte of a URI after its colon: not an ASCII control character, a space, `<` or `>` (CommonMark 6.5, absolute URI)
abbrev pub is_uri_byte : ℕ → Bool
is_uri_byte b = not (is_ascii_control b || (b == space || (b == less_than || b == greater_than)))

-- the length of the absolute URI, if there is one: a scheme, `:`, and all bytes that continue it (CommonMark 6.5,
-- absolute URI)
unfoldable pub uri_len : List ℕ → Option ℕ
uri_len bs =
    option_and_then (λ n. if begins colon (drop n bs) then Some (n + 1 + prefix_len is_uri_byte (drop (n + 1) bs)) else None) (scheme_len bs)

-- a byte of an email address before its `@` (CommonMark 6.5, email address)
abbrev pub is_local_byte : ℕ → Bool
is_local_byte b = is_ascii_alphanumeric b || list_any (λ c. c == b) (codes ".!#$%&'*+/=?^_`{|}~-")

-- a byte of a domain: a letter, a digit, a hyphen or a full stop (CommonMark 6.5, email address)
abbrev pub is_domain_byte : ℕ → Bool
is_domain_byte b = is_ascii_alphanumeric b || (b == hyphen || b == full_stop)

-- these bytes of a domain are a label: 1 to 63, and a letter or a digit at both ends (CommonMark 6.5, email address)
abbrev pub is_label : List ℕ → Bool
is_label bs =
    let n = length bs in
    nat_le 1 n && (nat_le n 63 && (is_ascii_alphanumeric (slice_index bs 0) && is_ascii_alphanumeric (slice_index bs (n - 1))))

-- these bytes of a domain are labels with full stops between them (CommonMark 6.5, email address)
abbrev pub is_domain : List ℕ → Bool
is_domain bs = list_all is_label (slice_split (λ b. b == full_stop) bs)

-- the length of the email address, if there is one: one or more bytes, `@`, and a domain, each with all bytes that
-- continue it (CommonMark 6.5, email address)
unfoldable pub email_len : List ℕ → Option ℕ
email_len bs =
    let n = prefix_len is_local_byte bs in
    let following = drop (n + 1) bs in
    let m = prefix_len is_domain_byte following in
    if not (n == 0) && (begins commercial_at (drop n bs) && is_domain (take m following)) then Some (n + 1 + m) else None

-- the form of an address and its length, if there is one and `>` directly follows it (CommonMark 6.5)
abbrev pub closed : AutolinkForm → List ℕ → Option ℕ → Option (AutolinkForm × ℕ)
closed form bs None = None
closed form bs (Some n) = if begins greater_than (drop n bs) then Some (form, n) else None

-- the form and length of the address that `>` directly follows, if there is one (CommonMark 6.5, autolink)
unfoldable pub address_of : List ℕ → Option (AutolinkForm × ℕ)
address_of bs = option_or (closed Uri bs (uri_len bs)) (closed Email bs (email_len bs))

-- the autolink at a place whose address has this form and length
abbrev pub link_at : ℕ → AutolinkForm × ℕ → Autolink
link_at place address = record { «end» = place + (address.1 + 2); form = address.0 }

-- the autolink that begins at a place of a content, if there is one (CommonMark 6.5)
abbrev pub autolink_at : List ℕ → ℕ → Option Autolink
autolink_at content place =
    let bs = drop place content in
    if begins less_than bs then option_map (link_at place) (address_of (drop 1 bs)) else None
