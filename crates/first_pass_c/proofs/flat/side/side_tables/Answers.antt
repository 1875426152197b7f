use Rattle.std.proofs.Common.{◌≡◌, ◌++◌, length, map, refl, subst, ap, ◌∙◌}
use Rattle.first_pass_names.specs.TableEntries.{names_of, tables_of, link_entry, footnote_label}
use Rattle.first_pass_c.specs.Appended.{AppendsDefinitions}
use Rattle.first_pass_c.specs.FlatDefinitions.{label_entry}
use Rattle.first_pass_c.specs.FlatForm.{node_names}
use Rattle.first_pass_c.specs.declared.flat.definitions.NamedDefinitions.{NamedDefinitions}
use Rattle.first_pass_c.proofs.Sides.{AttributesMade, DefinitionsMade, side_made}
use Rattle.first_pass_c.proofs.flat.side.side_tables.Goals as goal

pub returns : goal.returns
returns c =
    let names = names_of c.args.allocs.now in
    let tables = tables_of c.args.allocs.now in
    let named : c.append_names.new.names.items ≡ node_names names c.args.nodes.now =
    c.in_ok-append_names.ensures ∙ ap (λ l. l ++ node_names names c.args.nodes.now) c.new-names.ensures.items in
    let attributed : AttributesMade names c.args.nodes.now c.append_headings.new.self = record {
      old = record { attributes = c.new.result; names = c.append_names.new.names };
      none = c.new.ensures.items;
      names_are = named;
      appended = c.in_ok-append_headings.ensures;
    } in
    let empty : NamedDefinitions = record { definitions = c.new-2.result; names = c.append_headings.new.self.names } in
    let defined : DefinitionsMade tables c.append_headings.new.self.names.items c.append_links.new.self c.append_footnotes.new.self = record {
      old = empty;
      none = c.new-2.ensures.items;
      names_are = refl;
      links = subst (λ l. AppendsDefinitions empty c.append_links.new.self (map link_entry l)) c.refdefs.ensures c.in_ok-append_links.ensures;
      footnotes =
          subst (λ l. AppendsDefinitions c.append_links.new.self c.append_footnotes.new.self (map label_entry (map footnote_label l))) c.footdefs.ensures
          c.in_ok-append_footnotes.ensures;
    } in
    side_made names c.args.nodes.now tables c.append_headings.new.self c.append_links.new.self c.append_footnotes.new.self
    c.len-node_names.result c.len-links.result attributed defined
    (c.len-node_names.ensures ∙ c.append_names.new.names.ok.0 ∙ ap length named) (c.len-links.ensures ∙ c.append_links.new.self.definitions.ok.0)
