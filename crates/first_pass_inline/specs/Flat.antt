-- No link is in a link.
use Rattle.std.specs.Prelude.{◌≡◌, Bool, true, false}
use Rattle.first_pass_inline.specs.declared.pair.Verdict.{Verdict}
use Rattle.first_pass_inline.specs.Sequences.{Sequence, Ends, Single, Stray, Bracket, Paired, holds_link, holds_note, is_image, is_link}

-- Each link in a sequence, at any depth, holds no link and no footnote reference (CommonMark 6.3; for footnotes this
-- project). An image is no link, but a link in it counts. An autolink is no pair of brackets.
abbrev pub LinksHoldNone : Sequence → Type 0
LinksHoldNone Ends = Unit {0}
LinksHoldNone (Single m r) = LinksHoldNone r
LinksHoldNone (Stray m r) = LinksHoldNone r
LinksHoldNone (Bracket m r) = LinksHoldNone r
LinksHoldNone (Paired opens closes v inside r) =
    (is_link (is_image opens) v ≡ true → (holds_link inside ≡ false) × (holds_note inside ≡ false)) × LinksHoldNone inside × LinksHoldNone r
