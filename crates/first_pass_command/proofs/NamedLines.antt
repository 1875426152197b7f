-- Lines of JSON to which the name of a file is added.
use Rattle.std.proofs.Common.{◌≡◌, ◌==◌, ◌∙◌, ℕ, List, [], ◌∷◌, ◌++◌, Bool, true, if◌then◌else◌, Some, sym, ap, ap₂, append_assoc, append-nil}
use Rattle.first_pass_host.specs.Runs.{WritesOutput}
use Rattle.first_pass_host.specs.Streams.{stream_between}
use Rattle.first_pass_items.specs.declared.option_set.Options.{Options}
use Rattle.first_pass_command.specs.Named.{SaysHeadings, SaysNamed, file_member, headings_line, with_member}

-- a byte, and the member after the first byte of a line
pub byte_appended : (old new more whole member : List ℕ) (byte : ℕ) (starts : Bool) → new ≡ old ++ (byte ∷ (if starts then member else []))
    → old ++ with_member starts member (byte ∷ more) ≡ whole → new ++ with_member (byte == 10) member more ≡ whole
byte_appended old new more whole member byte starts is kept =
    let rest = with_member (byte == 10) member more in
    ap (λ l. l ++ rest) is ∙ append_assoc old (byte ∷ (if starts then member else [])) rest ∙ kept

-- after the last byte
pub all_appended : (old rest whole member : List ℕ) (starts : Bool) → rest ≡ [] → old ++ with_member starts member rest ≡ whole → old ≡ whole
all_appended old rest whole member starts none kept = sym (append-nil old) ∙ sym (ap (λ r. old ++ with_member starts member r) none) ∙ kept

-- the lines that are held, with the member in each
pub says_named : (Says : Options → List ℕ → List ℕ → Type 0) (name : List ℕ) (options : Options) (text json member lines : List ℕ)
    → WritesOutput Says options text (stream_between (Some []) (Some json)) → member ≡ file_member name → lines ≡ with_member true member json
    → SaysNamed Says name options text lines
says_named Says name options text json member lines written is appended =
    record { lines = written.whole; says = written.says; named = appended ∙ ap₂ (with_member true) is written.appended }

-- the array that is held, as a member
pub says_headings : (Says : Options → List ℕ → List ℕ → Type 0) (name : List ℕ) (options : Options) (text array line : List ℕ)
    → WritesOutput Says options text (stream_between (Some []) (Some array)) → line ≡ headings_line name array → SaysHeadings Says name options text line
says_headings Says name options text array line written is =
    record { array = written.whole; says = written.says; named = is ∙ ap (headings_line name) written.appended }
