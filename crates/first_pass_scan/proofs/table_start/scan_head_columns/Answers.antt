use Rattle.std.proofs.Common.{◌≡◌, ℕ, ◌+◌, ◌-◌, List, take, Some, sym, ap, ◌∙◌, arith, take_while}
use Rattle.std.proofs.lemmas.List.Sums.{prefix_len-le-length}
use Rattle.first_pass_lines.specs.Lines.{is_content}
use Rattle.first_pass_scan.specs.TableHead.{last_pipe_after, header_columns, pipes_of}
use Rattle.first_pass_scan.proofs.HeaderRows.{head-none, head-some, end-none, end-some, last-facts, last-in-line, pipes-of-line}
use Rattle.first_pass_scan.proofs.table_start.scan_head_columns.Goals as goal

pub returns-then-end-eq0 : goal.returns-then-end-eq0
returns-then-end-eq0 c =
    sym (head-none c.args.bytes.now (end-none _ _ (rw c.requires.content at c.count_pipes-pipes.ensures.end) c.if-end-eq0.true))

last-pipe : (c : goal.Else-end-eq0) → last_pipe_after 0 (take_while is_content c.args.bytes.now) ≡ Some (c.count_pipes-pipes.result.1 - 1)
last-pipe c = end-some _ _ (rw c.requires.content at c.count_pipes-pipes.ensures.end) c.if-end-eq0.false

pub count_header_cols-requires-clause-some : goal.count_header_cols-requires-clause-some
count_header_cols-requires-clause-some c =
    let pipes = rw c.requires.content at c.count_pipes-pipes.ensures.pipes in
    let some = (last-facts 0 (take_while is_content c.args.bytes.now) (c.count_pipes-pipes.result.1 - 1) (last-pipe c)).0 in
    omega arith

pub count_header_cols-requires-clause-within : goal.count_header_cols-requires-clause-within
count_header_cols-requires-clause-within c = grind (arith, last-in-line, last-pipe, prefix_len-le-length)

pub count_header_cols-requires-clause-counted : goal.count_header_cols-requires-clause-counted
count_header_cols-requires-clause-counted c =
    let bs : List ℕ = c.args.bytes.now in
    let last : ℕ = c.count_pipes-pipes.result.1 - 1 in
    let here : last + 1 ≡ last - 0 + 1 = omega arith in
    (rw c.requires.content at c.count_pipes-pipes.ensures.pipes) ∙ sym (pipes-of-line bs last (last-pipe c)) ∙ ap (λ k. pipes_of (take k bs)) here

pub returns : goal.returns
returns c =
    let bs : List ℕ = c.args.bytes.now in
    let last : ℕ = c.count_pipes-pipes.result.1 - 1 in
    let same : last - 0 ≡ last = omega arith in
    c.count_header_cols.ensures ∙ ap (header_columns bs) same
    ∙ sym (head-some bs last (end-some _ _ (rw c.requires.content at c.count_pipes-pipes.ensures.end) c.if-end-eq0.false))
