use Rattle.std.proofs.Common.{◌≡◌, ℕ, Option, ap, ◌<◌, ◌≤◌, length, refl, ◌∙◌, arith}
use Rattle.first_pass_grammar.proofs.Common.{spot, Item, HeadingLevel, Forest, Document, document}
use Rattle.first_pass_leaves.proofs.Common.{with_child, open_are_in, no_names, names_of, TextEnd}
use Rattle.first_pass_grammar.proofs.Names.MoreNames.{extends_none, extends_both}
use Rattle.first_pass_leaves.specs.Appends.{AppendsLines}
use Rattle.first_pass_leaves.proofs.ParagraphLemmas.{LineRead, next_boundary, so_far_start, so_far_next, so_far_stop, stops_by, underlined_by}
use Rattle.first_pass_leaves.proofs.paragraph.append_text_lines.Goals as goal
use Rattle.first_pass_leaves.proofs.paragraph.append_text_lines.Goals.{In_ok-at}

abbrev end_with : ℕ → Option HeadingLevel → Option Item → TextEnd
end_with next underline line_break = record { next = next; line_break = line_break; underline = underline }

-- the end, with the break as the original item
ended_by : {d : Document} {start next : ℕ} {old new : Forest Item} {item now : Option Item} {underline : Option HeadingLevel} {end : TextEnd}
    → now ≡ item → end ≡ end_with next underline now → AppendsLines d start old new (end_with next underline item) → AppendsLines d start old new end
ended_by {d} {start} {next} {old} {new} {item} {now} {underline} {end} e is h = grind arith

pub lines-init : goal.lines-init
lines-init c = record {
  read = rw c.new-braces.ensures (so_far_start _ c.args.start c.args.tree.now c.requires.boundary);
  grown = extends_none (names_of c.args.allocs.now);
  entries = refl;
}

pub scan_next_line-requires : goal.scan_next_line-requires
scan_next_line-requires c =
    next_boundary (document c.args.source.now.text.now c.args.source.now.options no_names) c.lines.ix c.in_ok-next.next c.lines.braces c.in_ok-next.line_break
    c.in_ok-next.ensures.utf8 c.lines.invariant.read.boundary c.in_ok-next.ensures.ends

-- a line is read after the lines so far
abbrev line_read : (c : In_ok-at)
    → LineRead (document c.args.source.now.text.now c.args.source.now.options (names_of c.lines.allocs)) c.args.start c.args.tree.now
line_read c = record {
  ix = spot c.lines.ix c.lines.braces;
  now = c.lines.tree;
  read = c.append_line.new.tree;
  names = names_of c.append_line.new.self;
  next = c.in_ok-next.next;
  line_break = c.in_ok-next.line_break;
  braces = c.append_line.new.braces;
  utf8 = c.scan_next_line.ensures.utf8;
  so_far = c.lines.invariant.read;
  apart = c.requires.apart;
  opened = open_are_in c.args.tree.now.nodes c.args.tree.now.spine c.recall_forest.ensures.opened;
  grown = c.in_ok-next.ensures.names;
  line = c.in_ok-next.ensures.line;
  ends = c.in_ok-next.ensures.ends;
}

pub lines-smaller : goal.lines-smaller
lines-smaller c =
    let more = so_far_next (line_read (goal.at.lines-smaller c).In_ok-at) c.in-More.at c.append_item.new.tree _ c.in_ok-at.ensures.value c.in-More.is
    c.in_ok-at.ensures.place
    (c.in_ok-append_item-in-More.ensures ∙ ap (with_child c.append_line.new.tree) (c.break_item.ensures ∙ c.held_break-held.ensures)) in
    let within : c.in-More.at ≤ length c.args.source.now.text.now = more.0.boundary.0 in
    let later : c.lines.ix < c.in-More.at = more.1 in
    omega arith

pub lines-preserved : goal.lines-preserved
lines-preserved c = record {
  read =
      (so_far_next (line_read (goal.at.lines-preserved c).In_ok-at) c.in-More.at c.append_item.new.tree _ c.in_ok-at.ensures.value c.in-More.is
      c.in_ok-at.ensures.place
      (c.in_ok-append_item-in-More.ensures ∙ ap (with_child c.append_line.new.tree) (c.break_item.ensures ∙ c.held_break-held.ensures))).0;
  grown = extends_both _ _ _ c.in_ok-next.ensures.names c.lines.invariant.grown;
  entries = c.in_ok-next.ensures.entries ∙ c.lines.invariant.entries;
}

pub returns-in-Underline-clause-lines : goal.returns-in-Underline-clause-lines
returns-in-Underline-clause-lines c =
    ended_by c.held_break-held.ensures c.end_before.ensures
    (so_far_stop (line_read (goal.at.returns-in-Underline-clause-lines c).In_ok-at) _ (omega (arith, c.recall_length.ensures))
    (underlined_by _ _ _ _ _ c.in_ok-at.ensures.value c.in-Underline.is))

pub returns-in-NotText-clause-lines : goal.returns-in-NotText-clause-lines
returns-in-NotText-clause-lines c =
    ended_by c.held_break-held.ensures c.end_before-in-NotText.ensures
    (so_far_stop (line_read (goal.at.returns-in-NotText-clause-lines c).In_ok-at) _ (omega (arith, c.recall_length.ensures))
    (stops_by _ _ _ _ c.in_ok-at.ensures.value c.in-NotText.is))

pub returns-in-Underline-clause-more : goal.returns-in-Underline-clause-more
returns-in-Underline-clause-more c = record {
  names = extends_both _ _ _ c.in_ok-next.ensures.names c.lines.invariant.grown;
  entries = c.in_ok-next.ensures.entries ∙ c.lines.invariant.entries;
}

pub returns-in-NotText-clause-more : goal.returns-in-NotText-clause-more
returns-in-NotText-clause-more c = record {
  names = extends_both _ _ _ c.in_ok-next.ensures.names c.lines.invariant.grown;
  entries = c.in_ok-next.ensures.entries ∙ c.lines.invariant.entries;
}
