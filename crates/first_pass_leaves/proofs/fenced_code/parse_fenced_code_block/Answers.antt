use Rattle.std.proofs.Common.{refl, subst, arith}
use Rattle.first_pass_grammar.proofs.Common.{FencedCodeBlock, NamesInfo, fence_judge, document, range_text}
use Rattle.first_pass_leaves.proofs.Common.{open_are_in, names_of}
use Rattle.first_pass_names.proofs.NameLemmas.{extends_both, info_named}
use Rattle.first_pass_leaves.proofs.ExtentLemmas.{OpenedAt, first_read, lines_of, block_open}
use Rattle.first_pass_leaves.proofs.FencedLemmas.{fence_end, fenced_added}
use Rattle.first_pass_leaves.proofs.fenced_code.parse_fenced_code_block.Goals as goal
use Rattle.first_pass_leaves.proofs.fenced_code.parse_fenced_code_block.Goals.{In_ok-lines}

pub overflow_add-start_ix : goal.overflow_add-start_ix
overflow_add-start_ix c = grind (arith, fence_end)

pub info_string-requires : goal.info_string-requires
info_string-requires c = grind (arith, fence_end)

pub read_lines-requires-clause-boundary : goal.read_lines-requires-clause-boundary
read_lines-requires-clause-boundary c =
    (first_read c.args.source.now.text.now _ c.args.start_ix _ c.as_bytes-bytes.ensures.utf8 c.requires.boundary c.as_bytes-bytes.ensures.value
    c.next_line-first.ensures.value).1

-- The block is opened, and its lines are appended.
abbrev opened : (c : In_ok-lines) → OpenedAt range_text (document c.args.source.now.text.now c.args.source.now.options (names_of c.read_lines.new.allocs))
    (fence_judge c.args.fence.now.indent c.args.fence.now.byte c.args.fence.now.count) c.args.tree.now c.args.start_ix (FencedCodeBlock c.in_ok-info_ix.info_ix)
opened c = record {
  opened = c.open_block.new.tree;
  filled = c.read_lines.new.tree;
  first = c.next_line-first.result;
  stop = c.in_ok-lines.lines.«end»;
  next = c.in_ok-lines.lines.next;
  there = open_are_in c.args.tree.now.nodes c.args.tree.now.spine c.recall_forest.ensures.opened;
  is = c.in_ok-open_block.ensures.tree;
  leaf = refl;
  first_is = (first_read c.args.source.now.text.now _ c.args.start_ix _ c.as_bytes-bytes.ensures.utf8 c.requires.boundary c.as_bytes-bytes.ensures.value
      c.next_line-first.ensures.value).0;
  lines = c.in_ok-lines.ensures.lines;
}

pub close_block-requires : goal.close_block-requires
close_block-requires c = block_open (lines_of (opened (goal.at.close_block-requires c).In_ok-lines))

pub returns-clause-block : goal.returns-clause-block
returns-clause-block c =
    let named = names_of c.allocate_cow.new.self in
    let names = names_of c.read_lines.new.allocs in
    fenced_added (document c.args.source.now.text.now c.args.source.now.options names) c.args.tree.now c.close_block.new.tree
    c.args.start_ix c.args.fence.now.indent c.args.fence.now.byte c.args.fence.now.count c.in_ok-info_ix.info_ix
    (opened (goal.at.returns-clause-block c).In_ok-lines)
    (λ more e. subst (NamesInfo more c.in_ok-info_ix.info_ix) c.info_string.ensures
    (info_named (names_of c.args.allocs.now) named more c.in_ok-info_ix.info_ix c.in_ok-info.info c.info_string.result.now
    c.in_ok-info_ix.ensures.index c.in_ok-info_ix.ensures.names c.in_ok-info.ensures.value c.in_ok-info.ensures.borrowed
    (extends_both more names named e c.in_ok-lines.ensures.more.names)))
    c.close_block.ensures.tree
