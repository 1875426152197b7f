use Rattle.first_pass_names.specs.TableEntries.{link_entry}
use Rattle.first_pass_c.proofs.Appending.{definition_appended, text_appended}
use Rattle.first_pass_c.proofs.flat.definitions.NamedDefinitions.append_link.Goals as goal

pub returns : goal.returns
returns c =
    let label = c.in_ok-label in
    let dest = c.in_ok-destination in
    let title = c.in_ok-title in
    definition_appended _ _ (link_entry (c.args.label.now, c.args.definition.now)) label.label dest.destination title.title _ (record {
      after_label = _;
      after_dest = _;
      label_is = text_appended _ _ _ _ _ c.label.ensures label.ensures.start label.ensures.count label.ensures.names;
      dest_is = text_appended _ _ _ _ _ c.deref.ensures dest.ensures.start dest.ensures.count dest.ensures.names;
      title_is = text_appended _ _ _ _ _ c.title_text.ensures title.ensures.start title.ensures.count title.ensures.names;
    }) c.presence.ensures c.in_ok-append_record.ensures
