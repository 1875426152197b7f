use Rattle.std.proofs.Common.{◌≡◌, ◌<◌, ◌-◌, [], true, length, drop, IsCharBoundary, string_bytes}
use Rattle.first_pass_grammar.proofs.Common.{list_any, is_line_end, title_text, title_prefix}
use Rattle.first_pass_open.specs.Path.{context_of}
use Rattle.first_pass_definitions.specs.Memory.{text_asks}
use Rattle.first_pass_definitions.proofs.Titles.{left_of, title_of, after_text}
use Rattle.first_pass_definitions.proofs.title.scan_title_text.Given as goal

-- the written bytes are the title's text before a line; with the rest, they make the title
abbrev pub invariant-loop-bytes : goal.invariant-loop-bytes
invariant-loop-bytes l = record {
  boundary : IsCharBoundary l.text l.from;
  nothing : (l.from ≡ 0) → (string_bytes l.written ≡ []);
  lines : (0 < l.from) → (list_any is_line_end (string_bytes l.written) ≡ true);
  asked : (0 < l.from) → (text_asks (context_of l.source.options l.tree) l.close l.text ≡ true);
  title : after_text (string_bytes l.written) (title_of l.close (left_of (title_prefix (context_of l.source.options l.tree)) l.from (drop l.from l.text)))
      ≡ title_text (title_prefix (context_of l.source.options l.tree)) l.close l.text;
}

abbrev pub decreases-loop-bytes : goal.decreases-loop-bytes
decreases-loop-bytes l = length l.text - l.from
