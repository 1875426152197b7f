-- The results of the calls that only read the text: one record for each call.
use Rattle.std.specs.Prelude.{◌≡◌, ℕ, ◌+◌, ◌-◌, ◌<◌, ◌&&◌, ◌||◌, not, Bool, true, false, List, length, take, drop, Option, None, Some}
use Rattle.std.specs.Prelude.{Result, IfOk, OnErr, IfSome}
use Rattle.std.specs.Prelude.{IsSomeAnd, MatchOption, IsCharBoundary, if◌then◌else◌}
use Rattle.std.specs.List.{list_any, slice_range}
use Rattle.std.specs.Option.{option_map}
use Rattle.std.specs.declared.alloc.AllocError.{AllocError}
use Rattle.first_pass_items.specs.CowText.{text_of}
use Rattle.first_pass_items.specs.declared.cow_str.CowStr.{CowStr}
use Rattle.first_pass_items.specs.OptionWords.{has, definition_list}
use Rattle.first_pass_lines.specs.Lines.{is_line_end}
use Rattle.first_pass_lines.specs.Places.{line_rest}
use Rattle.first_pass_lines.specs.Rest.{Rest}
use Rattle.first_pass_attributes.specs.Attributes.{attributes_in, HasSeveral}
use Rattle.first_pass_attributes.specs.declared.heading_attributes.HeadingAttributes.{HeadingAttributes}
use Rattle.first_pass_entities.specs.Texts.{Borrows}
use Rattle.first_pass_labels.specs.declared.label_table.LinkDef.{LinkDef}
use Rattle.first_pass_links.specs.Labels.{label_at}
use Rattle.first_pass_grammar.specs.Containers.{front}
use Rattle.first_pass_grammar.specs.Definitions.{prefix_crossed, space_at, title_at, target_at, reference_definition_at}
use Rattle.first_pass_grammar.specs.Headings.{before_attributes, heading_attributes_of}
use Rattle.first_pass_grammar.specs.Kinds.{all_taken, is_ordinary_after_tag, footnote_interrupts, interrupts_with, is_blank_rest}
use Rattle.first_pass_grammar.specs.TableHeads.{table_interrupts}
use Rattle.first_pass_kinds.specs.Memory.{may_head_table, line_may_head_table}
use Rattle.first_pass_definitions.specs.Found.{AreInOrder, HasParts, IsTarget, IsReference, BorrowsLabel}
use Rattle.first_pass_definitions.specs.Memory.{LabelAsks, TargetAsks, ReferenceAsks, space_asks, title_asks}
use Rattle.first_pass.specs.declared.state.FirstPass.{FirstPass}
use Rattle.first_pass.specs.Interrupts.{colon_interrupts}
use Rattle.first_pass.specs.Views.{context_in, is_nested, source_options, source_text, tree_of}

-- The text of a heading extends from one offset to another. The result is the end of its content with its attributes; an
-- allocation can only fail if these have several classes or keys (this project).
pub record FindsAttributes (pass : FirstPass) (start «end» : ℕ) (result : Result (ℕ × Option HeadingAttributes) AllocError) : Type 0 where
  pub content : IfOk result (λ answer. answer.0
      ≡ start + length (before_attributes (source_options pass) (slice_range (source_text pass) start «end»)))
  pub attributes : IfOk result (λ answer. option_map attributes_in answer.1
      ≡ heading_attributes_of (source_options pass) (slice_range (source_text pass) start «end»))
  pub err : OnErr result (IsSomeAnd (heading_attributes_of (source_options pass) (slice_range (source_text pass) start «end»)) HasSeveral)

-- The result is the link reference definition that begins at an offset, or none; the pass is unchanged (CommonMark 4.7,
-- and this project).
pub record FindsDefinition (old new : FirstPass) (start : ℕ) (result : Result (Option (ℕ × CowStr × LinkDef)) AllocError) : Type 0 where
  pub unchanged : new ≡ old
  pub value : IfOk result (λ answer. MatchOption (reference_definition_at (is_nested old) (context_in old) (drop start (source_text old)))
      (answer ≡ None) (λ reference. IsSomeAnd answer (IsReference (is_nested old) start reference)))
  pub fits : IfOk result (λ answer. IfSome answer (λ found. (0 < found.0) × IsCharBoundary (source_text old) (start + found.0)))
  pub borrowed : IfOk result (λ answer. IfSome answer (λ found.
      BorrowsLabel (context_in old) (is_nested old) (drop (start + 1) (source_text old)) found.1))
  pub places : IfOk result (λ answer. IfSome answer (λ found. HasParts (source_text old) found.2))
  pub err : OnErr result (ReferenceAsks (is_nested old) (context_in old) (drop start (source_text old)))

-- the result is the label after the `[` directly before an offset, or none (CommonMark 4.7)
pub record FindsLabel (pass : FirstPass) (start : ℕ) (result : Result (Option (ℕ × CowStr)) AllocError) : Type 0 where
  pub value : IfOk result (λ answer. MatchOption (label_at (prefix_crossed true (context_in pass)) (is_nested pass) (drop start (source_text pass)))
      (answer ≡ None) (λ label. IsSomeAnd answer (λ found. (found.0 ≡ label.0) × (text_of found.1 ≡ label.1))))
  pub fits : IfOk result (λ answer. IfSome answer (λ found. (0 < found.0) × IsCharBoundary (source_text pass) (start + found.0)))
  pub borrowed : IfOk result (λ answer. IfSome answer (λ found.
      text_of found.1 ≡ take (found.0 - 1) (drop start (source_text pass))
      → Borrows (take (found.0 - 1) (drop start (source_text pass))) found.1))
  pub err : OnErr result (LabelAsks (context_in pass) (is_nested pass) (drop start (source_text pass)))

-- The result is what follows the colon of a definition, or none. The colon is directly before `start`, and the
-- definition begins at `from` (CommonMark 4.7).
pub record FindsTarget (pass : FirstPass) (from start : ℕ) (result : Result (Option (ℕ × LinkDef)) AllocError) : Type 0 where
  pub value : IfOk result (λ answer. MatchOption (target_at (context_in pass) (drop start (source_text pass)))
      (answer ≡ None) (λ target. IsSomeAnd answer (IsTarget (is_nested pass) from start target)))
  pub fits : IfOk result (λ answer. IfSome answer (λ found. IsCharBoundary (source_text pass) (start + found.0)))
  pub places : IfOk result (λ answer. IfSome answer (λ found. AreInOrder (source_text pass) start found.1))
  pub err : OnErr result (TargetAsks (is_nested pass) (context_in pass) (drop start (source_text pass)))

-- The result is the end of the white space of a definition at an offset, with the number of its line endings, or none
-- (CommonMark 4.7).
pub record FindsSpace (pass : FirstPass) (start : ℕ) (result : Result (Option (ℕ × ℕ)) AllocError) : Type 0 where
  pub value : IfOk result (λ answer. answer ≡ option_map (λ s. (start + s.0, s.1)) (space_at (context_in pass) (drop start (source_text pass))))
  pub place : IfOk result (λ answer. IfSome answer (λ s. IsCharBoundary (source_text pass) s.0))
  pub err : OnErr result (space_asks (context_in pass) (drop start (source_text pass)) ≡ true)

-- the result is the title at the start of these bytes, the rest of the text, or none (CommonMark 4.7)
pub record FindsTitle (pass : FirstPass) (bs : List ℕ) (result : Result (Option (ℕ × CowStr)) AllocError) : Type 0 where
  pub value : IfOk result (λ answer. MatchOption (title_at (context_in pass) bs)
      (answer ≡ None) (λ title. IsSomeAnd answer (λ found. (found.0 ≡ title.0) × (text_of found.1 ≡ title.1))))
  pub fits : IfOk result (λ answer. IfSome answer (λ found. (1 < found.0) × IsCharBoundary bs found.0))
  pub borrowed : IfOk result (λ answer. IfSome answer (λ found. list_any is_line_end (text_of found.1) ≡ false → Borrows (text_of found.1) found.1))
  pub err : OnErr result (title_asks (context_in pass) bs ≡ true)

-- The result says whether a line interrupts a paragraph. These bytes are the rest of the text after its indentation;
-- `whole` is true if the line continues all open nodes, and otherwise it continues `kept` of them (CommonMark 4.8,
-- GFM 4.10).
pub record FindsInterrupt (pass : FirstPass) (bs : List ℕ) (whole : Bool) (kept : ℕ) (result : Result Bool AllocError) : Type 0 where
  pub value : IfOk result (λ yes. yes
      ≡ (interrupts_with (whole && not (is_nested pass)) bs
      || (footnote_interrupts (context_in pass).options false bs
      || ((has (source_options pass) definition_list && colon_interrupts (source_options pass) whole (tree_of pass) kept bs)
      || table_interrupts (context_in pass) bs))))
  pub err : OnErr result (may_head_table (context_in pass) bs ≡ true)

-- The result is the rest of the first line of these bytes after its prefixes and its indentation, if the line continues
-- a run of link reference definitions. The pass is unchanged (CommonMark 4.7, 5.1, and this project).
pub record FindsNextLine (old new : FirstPass) (bs : List ℕ) (result : Result (Option Rest) AllocError) : Type 0 where
  pub unchanged : new ≡ old
  pub value : IfOk result (λ rest. let line = front (context_in old).path (line_rest bs) in
      rest ≡ (if is_ordinary_after_tag (context_in old) (line_rest bs) || is_blank_rest (all_taken line) then None else Some (all_taken line)))
  pub err : OnErr result (line_may_head_table (context_in old) (line_rest bs) ≡ true)
