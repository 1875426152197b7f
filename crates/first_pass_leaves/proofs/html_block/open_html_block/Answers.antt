use Rattle.std.proofs.Common.{◌≡◌, IsCharBoundary, arith}
use Rattle.first_pass_grammar.proofs.Common.{HtmlBlock, Options, range_html}
use Rattle.first_pass_leaves.proofs.Common.{opened_block, open_are_in, names_of, AppendsRaw, after_line_at}
use Rattle.first_pass_leaves.proofs.ExtentLemmas.{first_read}
use Rattle.first_pass_leaves.proofs.HtmlLemmas.{first_apart, first_path}
use Rattle.first_pass_leaves.proofs.html_block.open_html_block.Goals as goal
use Rattle.first_pass_leaves.proofs.html_block.open_html_block.Goals.{In_ok-append_raw_line}

-- The options make no difference here.
no_options : Options
no_options = record { 0 = 0 }

line : (c : In_ok-append_raw_line) → AppendsRaw range_html c.args.text.now (names_of c.append_raw_line.new.allocs) c.args.start.now.columns c.args.start.now.at
    c.next_line-next.result (opened_block c.args.tree.now c.args.start.now.at HtmlBlock) c.append_raw_line.new.tree
line c = grind arith

-- where the next line begins
next : (c : In_ok-append_raw_line)
    → (c.next_line-next.result ≡ after_line_at c.args.text.now c.args.start.now.at) × IsCharBoundary c.args.text.now c.next_line-next.result
next c = grind (arith, first_read)

pub returns-clause-next : goal.returns-clause-next
returns-clause-next c = next c

pub returns-clause-line : goal.returns-clause-line
returns-clause-line c = line c

pub returns-clause-path : goal.returns-clause-path
returns-clause-path c = grind (arith, first_path, line, next, open_are_in)

pub returns-clause-apart : goal.returns-clause-apart
returns-clause-apart c = first_apart no_options c.args.tree.now (line c) (next c).0
