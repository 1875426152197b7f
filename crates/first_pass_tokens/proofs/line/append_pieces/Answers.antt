use Rattle.std.proofs.Common.{◌+◌, length, refl, sym, ◌∙◌, ap, arith}
use Rattle.first_pass_tokens.proofs.Common.{Inline, content_in, size, spot, spares_words}
use Rattle.first_pass_tokens.proofs.SoFar.{IsRead, read_start, read_upto, read_more, read_piece, read_all, found_special, ended_by_text}
use Rattle.first_pass_tokens.proofs.NearPipes.{near_pipes}
use Rattle.first_pass_tokens.proofs.NamedTexts.{more_none, more_both}
use Rattle.first_pass_tokens.proofs.RunPlaces.{front_upto}
use Rattle.first_pass_tokens.proofs.line.append_pieces.Goals as goal
use Rattle.first_pass_tokens.proofs.line.append_pieces.Goals.{In_default, In-Some}

-- the content is read up to the next special byte
upto_special : (c : In-Some) → IsRead c.loop-at.texts.items (content_in c.args.text.now c.args.content c.args.braces.now) c.args.tree.now
    c.loop-at.tree c.loop-at.pending (spot c.in-Some.at c.loop-at.braces)
upto_special c = grind (arith, read_upto)

-- and up to the end of the text, if there is none
upto_end : (c : In_default) → IsRead c.loop-at.texts.items (content_in c.args.text.now c.args.content c.args.braces.now) c.args.tree.now
    c.loop-at.tree c.loop-at.pending (spot (length c.args.text.now) c.loop-at.braces)
upto_end c = grind (arith, read_upto)

pub loop-at-init : goal.loop-at-init
loop-at-init c = grind (arith, read_start, more_none)

pub loop-at-preserved : goal.loop-at-preserved
loop-at-preserved c =
    let z : Inline = content_in c.args.text.now c.args.content c.args.braces.now in
    let at = c.in-Some.at in
    let texts = c.named_piece.new.texts.items in
    let found = c.in-Some.ensures.found in
    let piece = c.in_ok-piece in
    let special = sym (c.requires.marks _ (omega (arith, c.type_inv.text at))) ∙ found.marked in
    let here = sym (c.special_found-found.ensures.value c.args.braces.now ∙ found_special z at special) in
    let more = piece.ensures.more in
    let to_is = ap (λ n. spot n c.named_piece.new.braces) c.in_ok-from-2.ensures.next ∙ ap (spot (at + size piece.piece)) piece.ensures.braces in
    let next = read_piece (sym (c.special_ends_at.ensures c.args.braces.now) ∙ c.if-special_ends_at.false) here piece.piece piece.ensures.becomes
    (read_more more (upto_special (goal.at.loop-at-preserved c).In-Some)) in
    record {
      read = rw (c.in_ok-from-2.ensures.tree, c.in_ok-from-2.ensures.pending, to_is) next;
      more = more_both texts c.loop-at.texts.items c.args.texts.now.items more c.loop-at.invariant.more;
    }

-- the same after a piece that is found at once
pub loop-at-preserved-in-Some-quick_piece : goal.loop-at-preserved-in-Some-quick_piece
loop-at-preserved-in-Some-quick_piece c =
    let z : Inline = content_in c.args.text.now c.args.content c.args.braces.now in
    let at = c.in-Some.at in
    let piece = c.in-Some-quick_piece.known in
    let token = c.in-Some-quick_piece.ensures in
    let special = sym (c.requires.marks _ (omega (arith, c.type_inv.text at))) ∙ c.in-Some.ensures.found.marked in
    let here = sym (found_special z at special) ∙ token.value c.args.braces.now in
    let next = read_piece (sym (c.special_ends_at.ensures c.args.braces.now) ∙ c.if-special_ends_at.false) here piece refl
    (upto_special (goal.at.loop-at-preserved-in-Some-quick_piece c).In-Some) in
    record {
      read = rw (c.in_ok-from.ensures.tree, c.in_ok-from.ensures.pending, c.in_ok-from.ensures.next) next;
      more = c.loop-at.invariant.more;
    }

-- the same after pipes that end no cell
pub loop-at-preserved-then-text-at-eq124 : goal.loop-at-preserved-then-text-at-eq124
loop-at-preserved-then-text-at-eq124 c =
    let z : Inline = content_in c.args.text.now c.args.content c.args.braces.now in
    let at = c.in-Some.at in
    let to = c.pipes_end-from.result in
    let end = c.pipes_end-from.ensures in
    record {
      read = read_upto at to c.loop-at.braces (upto_special (goal.at.loop-at-preserved-then-text-at-eq124 c).In-Some) (omega (arith, end.some)) end.within
          (λ k low high. near_pipes z at (sym (c.special_ends_at.ensures c.args.braces.now) ∙ c.if-special_ends_at.false) c.if-text-at-eq124.true
          k (omega (arith, end.within)) (end.pipes k low high));
      more = c.loop-at.invariant.more;
    }

pub returns-then-special_ends_at-clause-read : goal.returns-then-special_ends_at-clause-read
returns-then-special_ends_at-clause-read c =
    read_all (content_in c.args.text.now c.args.content c.args.braces.now) _ _ _ (spot c.in-Some.at c.loop-at.braces)
    (upto_special (goal.at.returns-then-special_ends_at-clause-read c).In-Some) (sym (c.special_ends_at.ensures c.args.braces.now) ∙ c.if-special_ends_at.true)

pub returns-clause-read : goal.returns-clause-read
returns-clause-read c =
    let z : Inline = content_in c.args.text.now c.args.content c.args.braces.now in
    read_all z _ _ _ (spot (length c.args.text.now) c.loop-at.braces) (upto_end (goal.at.returns-clause-read c).In_default) (ended_by_text z)

pub special_found-found-requires-clause-front : goal.special_found-found-requires-clause-front
special_found-found-requires-clause-front c = front_upto c.args.content.whole.now c.args.text.now c.args.content.«end» c.requires.front

pub next_special_in_words-requires : goal.next_special_in_words-requires
next_special_in_words-requires c = spares_words c.args.content.options c.args.content.special.now c.requires.marks

pub special_ends_at-requires-clause-marked : goal.special_ends_at-requires-clause-marked
special_ends_at-requires-clause-marked c = c.in-Some.ensures.found.marked

pub quick_piece-requires-clause-front : goal.quick_piece-requires-clause-front
quick_piece-requires-clause-front c = front_upto c.args.content.whole.now c.args.text.now c.args.content.«end» c.requires.front
