use Rattle.std.proofs.Common.{◌+◌, drop, IsCharBoundary, refl, sym, ap, ◌∙◌, subst, arith}
use Rattle.first_pass_grammar.proofs.Common.{is_blank_line, line_len, Rest, after_columns, Place, offset, moved_columns, columns_keep, columns_line_end}
use Rattle.first_pass_grammar.proofs.Common.{columns_shorter}
use Rattle.first_pass_blocks.proofs.Common.{after_line_at, read_to, offset_later}
use Rattle.first_pass_ready.proofs.EnterLemmas.{blank_columns}
use Rattle.first_pass_blocks.proofs.Leaves.KindBlocks.{found_says, code_added, indented_between}
use Rattle.first_pass_blocks.proofs.state.BlockPass.append_code.Goals as goal

pub offset-requires : goal.offset-requires
offset-requires c =
    let i = columns_keep c.args.self.now.source.text.now 4 c.args.place c.requires.2.utf8 c.requires.2.place in
    let e = read_to (after_columns 4) _ c.args.place _ c.scan_space_upto.new.self refl c.scan_space_upto.ensures.rest c.place.view_is in
    let short = c.recall_length.ensures in
    omega (arith, i.within, e)

pub parse_indented_code_block-requires-clause-boundary : goal.parse_indented_code_block-requires-clause-boundary
parse_indented_code_block-requires-clause-boundary c =
    let text = c.args.self.now.source.text.now in
    let i = columns_keep text 4 c.args.place c.requires.2.utf8 c.requires.2.place in
    let e = read_to (after_columns 4) _ c.args.place _ _ c.offset.ensures c.scan_space_upto.ensures.rest c.place.view_is in
    subst (IsCharBoundary text) (sym e) i.boundary

pub parse_indented_code_block-requires-clause-code : goal.parse_indented_code_block-requires-clause-code
parse_indented_code_block-requires-clause-code c =
    let text = c.args.self.now.source.text.now in
    let i = columns_keep text 4 c.args.place c.requires.2.utf8 c.requires.2.place in
    let e = read_to (after_columns 4) _ c.args.place _ _ c.offset.ensures c.scan_space_upto.ensures.rest c.place.view_is in
    ap (λ n. is_blank_line (drop n text)) e ∙ ap is_blank_line (sym i.left) ∙ blank_columns 4 c.args.place.rest
    ∙ (found_says c.requires.2).0

pub returns : goal.returns
returns c =
    let text = c.args.self.now.source.text.now in
    let p : Place = c.args.place in
    let q : Place = moved_columns 4 p in
    let f = c.requires.2 in
    let e = c.in_ok-next.ensures in
    let i = columns_keep text 4 p f.utf8 f.place in
    let there = read_to (after_columns 4) _ p _ _ c.offset.ensures c.scan_space_upto.ensures.rest c.place.view_is in
    let owed = c.remaining_space.ensures.value ∙ ap (λ (r : Rest). r.owed) c.scan_space_upto.ensures.rest
    ∙ ap (λ (z : Place). (after_columns 4 z.rest).owed) c.place.view_is in
    let ends = ap (after_line_at text) there ∙ ap (λ bs. offset q + line_len bs) (sym i.left) ∙ columns_line_end 4 p in
    let low = offset_later text p.line p.rest q.rest f.place i (columns_shorter 4 p.rest) in
    let later = e.boundary.0 in
    record {
      source = refl;
      front = refl;
      more = e.more;
      begin_list_item = f.no_empty;
      block = code_added text _ _ p _ _ _ _ i
          (e.block q (record { offset_is = sym there; left_is = i.left ∙ ap (λ n. drop n text) (sym there) }) (sym owed));
      later = omega arith;
      boundary = e.boundary.1;
      fits = λ from before. indented_between text _ _ _ _ c.offset.result _ e.utf8 (subst (IsCharBoundary text) (sym there) i.boundary) e.boundary.1.0
          c.remaining_space.result c.in_ok-next.blank e.block from (omega arith);
    }
