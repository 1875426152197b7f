use Rattle.std.proofs.Common.{[], sym, refl, ◌∙◌, append-nil}
use Rattle.first_pass_grammar.proofs.Common.{text_of}
use Rattle.first_pass_c.specs.FlatDefinitions.{label_entry}
use Rattle.first_pass_c.specs.declared.flat.names.NameRange.{NameRange}
use Rattle.first_pass_c.proofs.Appending.{TextAppended, definition_appended, text_appended}
use Rattle.first_pass_c.proofs.flat.definitions.NamedDefinitions.append_footnote.Goals as goal

pub returns : goal.returns
returns c =
    let label = c.in_ok-label in
    let names = c.append_text.new.names.items in
    let nothing : NameRange = record { start = c.len-following.result; length = 0 } in
    let none : TextAppended names names [] nothing = record {
      start = c.len-following.ensures ∙ c.append_text.new.names.ok.0;
      count = refl;
      names = sym (append-nil names);
    } in
    definition_appended _ _ (label_entry (text_of c.args.label.now)) label.label nothing nothing _ (record {
      after_label = names;
      after_dest = names;
      label_is = text_appended _ _ _ _ _ c.label.ensures label.ensures.start label.ensures.count label.ensures.names;
      dest_is = none;
      title_is = none;
    }) refl c.in_ok-append_record.ensures
