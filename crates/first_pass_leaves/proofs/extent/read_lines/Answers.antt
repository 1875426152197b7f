use Rattle.std.proofs.Common.{IsUtf8, refl, sym, ap, subst, ◌∙◌, arith}
use Rattle.first_pass_grammar.proofs.Common.{place_at, document}
use Rattle.first_pass_leaves.proofs.Common.{path_of, open_are_in, names_of, range_of, AppendsRaw}
use Rattle.first_pass_names.proofs.NameLemmas.{extends_none, extends_both}
use Rattle.first_pass_leaves.proofs.ExtentLemmas.{ReadSoFar, LineAppended, LineJudged, IsLineAt, line_read, after_path, goes_by, lines_end, extent_at_end}
use Rattle.first_pass_leaves.proofs.ExtentLemmas.{read_left, read_stops, read_closes, read_last, read_more, lines_quotes}
use Rattle.first_pass_leaves.proofs.WholeLines.{whole_start}
use Rattle.first_pass_leaves.proofs.extent.read_lines.Goals as goal
use Rattle.first_pass_leaves.proofs.extent.read_lines.Goals.{After-next_line-next, After-judge-verdict, In_ok-append_raw_line}

pub loop-ix-init : goal.loop-ix-init
loop-ix-init g c =
    let text = c.args.source.now.text.now in
    let d = document text c.args.source.now.options (names_of c.args.allocs.now) in
    let read = whole_start (g.J.JudgesLines.kinds c.args.judge.now) d (g.J.JudgesLines.judges c.args.judge.now) c.args.start c.args.tree.now
    (subst IsUtf8 c.as_bytes.ensures.value c.as_bytes.ensures.utf8) c.requires.apart
    (open_are_in c.args.tree.now.nodes c.args.tree.now.spine c.recall_forest.ensures.opened) c.requires.boundary
    c.as_bytes.result.now c.in_ok-ix.ix c.as_bytes.ensures.value c.in_ok-ix.ensures.whole c.in_ok-ix.ensures.path in
    record {
      later = read.0;
      boundary = read.1;
      names = extends_none (names_of c.args.allocs.now);
      same_entries = refl;
      read = subst (ReadSoFar _ d _ c.args.start c.in_ok-ix.ix c.args.tree.now) (sym c.in_ok-ix.ensures.text) read.2;
    }

pub returns-in_default-clause-lines : goal.returns-in_default-clause-lines
returns-in_default-clause-lines g c =
    read_left (document c.args.source.now.text.now c.args.source.now.options (names_of c.loop-ix.allocs)) (g.J.JudgesLines.judges c.args.judge.now)
    c.args.start c.loop-ix.ix _ c.loop-ix.invariant.read (open_are_in c.args.tree.now.nodes c.args.tree.now.spine c.recall_forest.ensures.opened)
    (line_read c.args.source.now.text.now c.args.source.now.text.now c.loop-ix.ix _ c.scan_continued_past.ensures.utf8 c.loop-ix.invariant.boundary
    c.loop-ix-test.true refl refl)
    (sym c.in_default.is ∙ c.scan_continued_past.ensures.value)

pub scan_continued_past-requires-clause-quotes : goal.scan_continued_past-requires-clause-quotes
scan_continued_past-requires-clause-quotes g c =
    lines_quotes c.loop-ix.invariant.read _ (open_are_in c.args.tree.now.nodes c.args.tree.now.spine c.recall_forest.ensures.opened)
    (c.nodes_to_quote-nodes_to_quote.ensures c.args.source.now.options)

-- the line, up to the start of the next one
line_here : (g : _) (c : After-next_line-next g) → IsLineAt c.args.source.now.text.now c.loop-ix.ix c.next_line-next.result
line_here g c =
    line_read c.args.source.now.text.now c.as_bytes-in-loop-ix.result.now c.loop-ix.ix _ c.scan_continued_past.ensures.utf8 c.loop-ix.invariant.boundary
    c.loop-ix-test.true c.as_bytes-in-loop-ix.ensures.value c.next_line-next.ensures.value

pub judge-verdict-requires-clause-next : goal.judge-verdict-requires-clause-next
judge-verdict-requires-clause-next g c =
    sym (after_path c.args.source.now.text.now (path_of c.args.source.now.options c.loop-ix.tree) c.loop-ix.ix _ c.in-Some.line_start
    c.scan_continued_past.ensures.utf8 (line_here g (goal.at.judge-verdict-requires-clause-next g c).After-next_line-next) (sym c.in-Some.ensures.value))

pub judge-verdict-requires-clause-boundary : goal.judge-verdict-requires-clause-boundary
judge-verdict-requires-clause-boundary g c = (line_here g (goal.at.judge-verdict-requires-clause-boundary g c).After-next_line-next).boundary

-- the line is judged
abbrev judged : (g : _) (c : After-judge-verdict g) → LineJudged (range_of (g.J.JudgesLines.kinds c.args.judge.now))
    (document c.args.source.now.text.now c.args.source.now.options (names_of c.loop-ix.allocs)) (g.J.JudgesLines.judges c.args.judge.now) c.args.start
    c.loop-ix.ix c.args.tree.now c.loop-ix.tree
judged g c = record {
  next = c.next_line-next.result;
  before = c.in-Some.line_start;
  following = c.judge-verdict.new.line_start;
  answer = c.judge-verdict.result;
  so_far = c.loop-ix.invariant.read;
  there = open_are_in c.args.tree.now.nodes c.args.tree.now.spine c.recall_forest.ensures.opened;
  line = line_read c.args.source.now.text.now c.as_bytes-in-loop-ix.result.now c.loop-ix.ix _ c.scan_continued_past.ensures.utf8 c.loop-ix.invariant.boundary
      c.loop-ix-test.true c.as_bytes-in-loop-ix.ensures.value c.next_line-next.ensures.value;
  taken = c.in-Some.ensures.value;
  is = c.judge-verdict.ensures.verdict;
}

pub returns-in-Stops-clause-lines : goal.returns-in-Stops-clause-lines
returns-in-Stops-clause-lines g c = read_stops (judged g (goal.at.returns-in-Stops-clause-lines g c).After-judge-verdict) c.in-Stops.end c.in-Stops.is

pub returns-in-Closes : goal.returns-in-Closes
returns-in-Closes g c =
    let at = judged g (goal.at.returns-in-Closes g c).After-judge-verdict in
    record {
      lines = read_closes at c.in-Closes.end c.in-Closes.is;
      boundary = (omega (arith, c.loop-ix.invariant.later, at.line.later), at.line.boundary);
      more = record { names = c.loop-ix.invariant.names; entries = c.loop-ix.invariant.same_entries };
    }

pub from_place-line-requires : goal.from_place-line-requires
from_place-line-requires g c = grind arith

pub append_raw_line-requires-clause-order : goal.append_raw_line-requires-clause-order
append_raw_line-requires-clause-order g c = grind arith

-- the line is appended
abbrev appended : (g : _) (c : In_ok-append_raw_line g) → LineAppended (range_of (g.J.JudgesLines.kinds c.args.judge.now))
    (document c.args.source.now.text.now c.args.source.now.options (names_of c.loop-ix.allocs)) (place_at c.loop-ix.ix c.judge-verdict.new.line_start)
    c.loop-ix.tree
appended g c = record {
  new = c.append_raw_line.new.tree;
  named = names_of c.append_raw_line.new.allocs;
  owed = c.from_place-line.result.owed;
  from = c.from_place-line.result.start;
  to = c.from_place-line.result.«end»;
  extends = c.in_ok-append_raw_line.ensures.more.names;
  line = subst (λ k. AppendsRaw (range_of k) c.args.source.now.text.now (names_of c.append_raw_line.new.allocs) c.from_place-line.result.owed
      c.from_place-line.result.start c.from_place-line.result.«end» c.loop-ix.tree c.append_raw_line.new.tree)
      (ap (λ l. l.kind) c.from_place-line.ensures.line ∙ c.kind.ensures) c.in_ok-append_raw_line.ensures.line;
  owed_is = ap (λ l. l.owed) c.from_place-line.ensures.line;
  from_is = ap (λ l. l.start) c.from_place-line.ensures.line;
  to_is = ap (λ l. l.«end») c.from_place-line.ensures.line ∙ c.judge-verdict.ensures.next;
}

pub returns-in-IsLast : goal.returns-in-IsLast
returns-in-IsLast g c =
    let at = judged g (goal.at.returns-in-IsLast g c).After-judge-verdict in
    record {
      lines = read_last at c.requires.apart (appended g (goal.at.returns-in-IsLast g c).In_ok-append_raw_line) c.judge-verdict.ensures.next c.in-IsLast.is;
      boundary = (omega (arith, c.loop-ix.invariant.later, at.line.later), at.line.boundary);
      more = record {
        names = extends_both _ _ _ c.in_ok-append_raw_line.ensures.more.names c.loop-ix.invariant.names;
        entries = c.in_ok-append_raw_line.ensures.more.entries ∙ c.loop-ix.invariant.same_entries;
      };
    }

pub loop-ix-preserved : goal.loop-ix-preserved
loop-ix-preserved g c =
    let at = judged g (goal.at.loop-ix-preserved g c).After-judge-verdict in
    record {
      later = omega (arith, c.loop-ix.invariant.later, at.line.later);
      boundary = at.line.boundary;
      names = extends_both _ _ _ c.in_ok-append_raw_line.ensures.more.names c.loop-ix.invariant.names;
      same_entries = c.in_ok-append_raw_line.ensures.more.entries ∙ c.loop-ix.invariant.same_entries;
      read = read_more at c.requires.apart (appended g (goal.at.loop-ix-preserved g c).In_ok-append_raw_line)
          (goes_by c.judge-verdict.result c.in_default-verdict.not-Stops c.in_default-verdict-2.not-Closes c.in_default-verdict-3.not-IsLast);
    }

pub returns-clause-lines : goal.returns-clause-lines
returns-clause-lines g c = grind (arith, lines_end, extent_at_end)
