use Rattle.std.proofs.Common.{◌≡◌, ◌<◌, ℕ, List, true, length, slice_index, Ok, Some, None, ◌+◌, get_or, sym, ap, subst, ◌∙◌, arith, IsUtf8, IsCharBoundary}
use Rattle.std.proofs.lemmas.Str.{IsCharBoundary-after_ascii, IsUtf8-drop}
use Rattle.first_pass_items.proofs.ResultFacts.{on_err}
use Rattle.first_pass_lines.specs.Lines.{ends_line, is_white_or_line_end}
use Rattle.first_pass_links.proofs.Handlers.{under_none, under_one}
use Rattle.first_pass_links.proofs.Labels.{left-byte, left-end, left-stop, white_is_ascii, place_past}
use Rattle.first_pass_links.proofs.label.scan_space_byte.Goals as goal
use Rattle.first_pass_links.proofs.label.scan_space_byte.Goals.{In-Some}
use Rattle.first_pass_links.proofs.label.scan_space_byte.Given.{Over}

-- after a byte of white space
after_white : (text : List ℕ) (at : ℕ) → IsUtf8 text → at < length text → is_white_or_line_end (slice_index text at) ≡ true → IsCharBoundary text (at + 1)
after_white text at u l w = IsCharBoundary-after_ascii text at u l (white_is_ascii _ w).0

pub returns-then-not-ends_line-clause-some : goal.returns-then-not-ends_line-clause-some
returns-then-not-ends_line-clause-some g c = grind (arith, after_white)

pub returns-then-not-ends_line-clause-reads : goal.returns-then-not-ends_line-clause-reads
returns-then-not-ends_line-clause-reads g c = under_none (λ h. left-byte h c.args.bytes.now c.args.at c.requires.within
    (ap (ends_line (get_or c.args.bytes.now c.args.at 0)) (sym c.rest_of-following.ensures.value) ∙ sym c.ends_line.ensures ∙ c.if-not-ends_line.true))

-- the prefix is a part of the bytes after the line ending
prefix_place : (g : Over) (c : In-Some g) → IsCharBoundary c.args.bytes.now (c.args.at + 1 + c.in-Some.prefix)
prefix_place g c =
    let e = c.rest_of-following.ensures.value in
    let b = after_white c.args.bytes.now c.args.at c.requires.text c.requires.within c.requires.white in
    let u : IsUtf8 c.rest_of-following.result.now = subst IsUtf8 (sym e) (IsUtf8-drop c.args.bytes.now (c.args.at + 1) c.requires.text b) in
    place_past c.args.bytes.now (c.args.at + 1) c.in-Some.prefix b.0
    (subst (λ xs. IsCharBoundary xs c.in-Some.prefix) e (c.requires.places c.rest_of-following.result c.in-Some.prefix (c.args.at + 1) b e
    (subst (λ o. g.F.Fn.post c.args.linebreak_handler.now (c.rest_of-following.result, tt) (Ok o)) c.in-Some.is c.in_ok-prefix.ensures) u))

pub overflow_add-result-in-Some-2 : goal.overflow_add-result-in-Some-2
overflow_add-result-in-Some-2 g c = let p = (prefix_place g (goal.at.overflow_add-result-in-Some-2 g c).In-Some).0 in omega arith

pub returns-in-Some-clause-some : goal.returns-in-Some-clause-some
returns-in-Some-clause-some g c = (omega arith, prefix_place g (goal.at.returns-in-Some-clause-some g c).In-Some)

pub returns-in-Some-clause-reads : goal.returns-in-Some-clause-reads
returns-in-Some-clause-reads g c =
    let line_end =
    ap (ends_line (get_or c.args.bytes.now c.args.at 0)) (sym c.rest_of-following.ensures.value) ∙ sym c.ends_line.ensures ∙ c.if-not-ends_line.false in
    under_one c.args.at (Some c.in-Some.prefix) (omega arith) (record {
      within = c.requires.within;
      line_end = line_end;
      boundary = after_white c.args.bytes.now c.args.at c.requires.text c.requires.within c.requires.white;
      following = c.rest_of-following.result;
      past_is = c.rest_of-following.ensures.value;
      returns = rw c.in-Some.is at c.in_ok-prefix.ensures;
    })
    (λ h e. left-end h c.args.bytes.now c.args.at c.in-Some.prefix c.requires.within line_end e)

pub returns-in-None-clause-none : goal.returns-in-None-clause-none
returns-in-None-clause-none g c =
    let line_end =
    ap (ends_line (get_or c.args.bytes.now c.args.at 0)) (sym c.rest_of-following.ensures.value) ∙ sym c.ends_line.ensures ∙ c.if-not-ends_line.false in
    λ e. under_one c.args.at None c.requires.within (record {
      within = c.requires.within;
      line_end = line_end;
      boundary = after_white c.args.bytes.now c.args.at c.requires.text c.requires.within c.requires.white;
      following = c.rest_of-following.result;
      past_is = c.rest_of-following.ensures.value;
      returns = rw c.in-None.is at c.in_ok-prefix.ensures;
    })
    (λ h f. left-stop h c.args.bytes.now c.args.at c.requires.within line_end f)

-- the handler fails
pub returns-in_err-prefix-clause-err : goal.returns-in_err-prefix-clause-err
returns-in_err-prefix-clause-err g c = on_err c.from_residual.result (
  _,
  record {
    within = c.requires.within;
    line_end = ap (ends_line (get_or c.args.bytes.now c.args.at 0)) (sym c.rest_of-following.ensures.value) ∙ sym c.ends_line.ensures
        ∙ c.if-not-ends_line.false;
    boundary = after_white c.args.bytes.now c.args.at c.requires.text c.requires.within c.requires.white;
    following = c.rest_of-following.result;
    past_is = c.rest_of-following.ensures.value;
    returns = c.in_err-prefix.ensures;
  },
)
