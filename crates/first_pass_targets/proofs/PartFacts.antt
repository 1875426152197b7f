-- The places of parts.
use Rattle.std.proofs.Common.{◌≡◌, ℕ, ◌+◌, ◌<◌, ◌≤◌, List, Bool, true, drop, subst, arith, IsUtf8, IsCharBoundary}
use Rattle.std.specs.List.{prefix_len}
use Rattle.std.proofs.lemmas.Bool.Decides.{nat_tests}
use Rattle.std.proofs.lemmas.Str.{IsCharBoundary-after_ascii, IsCharBoundary-before_ascii}
use Rattle.first_pass_items.specs.Bytes.{ascii_end}
use Rattle.first_pass_lines.specs.Lines.{begins}
use Rattle.first_pass_lines.specs.Places.{line_place}
use Rattle.first_pass_lines.proofs.PlaceFacts.{line_is_place, prefix_keeps}
use Rattle.first_pass_links.proofs.Destinations.{first_byte}
use Rattle.first_pass_targets.specs.Parts.{IsPartFrom, part}
use Rattle.first_pass_atoms.specs.Blanks.{is_blank}

-- after an ASCII byte
pub after_byte : (k : ℕ) (content : List ℕ) (at : ℕ) → IsUtf8 content → begins k (drop at content) ≡ true → k < ascii_end → IsCharBoundary content (at + 1)
after_byte k content at u h a = let s = first_byte k content at h in IsCharBoundary-after_ascii content at u s.0 (omega (arith, s.1))

-- a text before an ASCII byte that closes it
pub closed_part : (k : ℕ) (content : List ℕ) (place from to : ℕ) → IsUtf8 content → IsCharBoundary content from → place ≤ from → from ≤ to
    → begins k (drop to content) ≡ true → k < ascii_end → IsPartFrom content place (part from to (to + 1))
closed_part k content place from to u b l o h a =
    let s = first_byte k content to h in
    record {
      later = l;
      order = o;
      closed = omega arith;
      from = b;
      upto = IsCharBoundary-before_ascii content to s.0 (omega (arith, s.1));
      beyond = after_byte k content to u h a;
    }

-- after bytes that pass a test that only ASCII bytes pass
pub run_boundary : (test : ℕ → Bool) → ((b : ℕ) → test b ≡ true → b < ascii_end) → (content : List ℕ) (at : ℕ) → IsUtf8 content → IsCharBoundary content at
    → IsCharBoundary content (at + prefix_len test (drop at content))
run_boundary test ascii content at u b =
    let e : at + (0 + prefix_len test (drop at content)) ≡ at + prefix_len test (drop at content) = omega arith in
    subst (IsCharBoundary content) e (prefix_keeps test ascii content (line_place at (drop at content)) u (line_is_place content at b)).boundary

-- after blanks
pub blank_boundary : (content : List ℕ) (at : ℕ) → IsUtf8 content → IsCharBoundary content at
    → IsCharBoundary content (at + prefix_len is_blank (drop at content))
blank_boundary content at u b = run_boundary is_blank (λ b h. grind (arith, nat_tests, h)) content at u b
