use Rattle.std.proofs.Common.{refl, arith}
use Rattle.first_pass_grammar.proofs.Common.{MetadataBlock, document, range_text, metadata_judge}
use Rattle.first_pass_leaves.proofs.Common.{open_are_in, names_of}
use Rattle.first_pass_leaves.proofs.ExtentLemmas.{OpenedAt, first_read, lines_of, block_open}
use Rattle.first_pass_leaves.proofs.MetadataLemmas.{metadata_added}
use Rattle.first_pass_leaves.proofs.metadata_block.parse_metadata_block.Goals as goal
use Rattle.first_pass_leaves.proofs.metadata_block.parse_metadata_block.Goals.{In_ok-lines}

pub read_lines-requires-clause-boundary : goal.read_lines-requires-clause-boundary
read_lines-requires-clause-boundary c = grind (arith, first_read)

-- The block is opened, and its lines are appended.
abbrev opened : (c : In_ok-lines) → OpenedAt range_text (document c.args.source.now.text.now c.args.source.now.options (names_of c.read_lines.new.allocs))
    (metadata_judge c.args.metadata_block_ch) c.args.tree.now c.args.start_ix (MetadataBlock c.metadata_kind.result)
opened c = record {
  opened = c.open_block.new.tree;
  filled = c.read_lines.new.tree;
  first = c.next_line-first.result;
  stop = c.in_ok-lines.lines.«end»;
  next = c.in_ok-lines.lines.next;
  there = open_are_in c.args.tree.now.nodes c.args.tree.now.spine c.recall_forest.ensures.opened;
  is = c.in_ok-open_block.ensures.tree;
  leaf = refl;
  first_is = (first_read c.args.source.now.text.now _ c.args.start_ix _ c.as_bytes.ensures.utf8 c.requires.boundary c.as_bytes.ensures.value
      c.next_line-first.ensures.value).0;
  lines = c.in_ok-lines.ensures.lines;
}

pub close_block-requires : goal.close_block-requires
close_block-requires c = block_open (lines_of (opened (goal.at.close_block-requires c).In_ok-lines))

pub returns-clause-block : goal.returns-clause-block
returns-clause-block c =
    metadata_added (document c.args.source.now.text.now c.args.source.now.options (names_of c.read_lines.new.allocs)) c.args.tree.now
    c.close_block.new.tree c.args.start_ix c.args.metadata_block_ch c.metadata_kind.result (opened (goal.at.returns-clause-block c).In_ok-lines)
    c.metadata_kind.ensures c.close_block.ensures.tree
