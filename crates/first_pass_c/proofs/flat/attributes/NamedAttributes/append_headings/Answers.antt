use Rattle.std.proofs.Common.{not, subst, sym, ap, ◌∙◌, option_map}
use Rattle.first_pass_grammar.proofs.Common.{none_is}
use Rattle.first_pass_names.specs.TableEntries.{names_of}
use Rattle.first_pass_c.specs.FlatAttributes.{attributes_by}
use Rattle.first_pass_c.specs.Appended.{AppendsAttributes}
use Rattle.first_pass_c.proofs.Appending.{attributes_none, attributes_more, flat_more}
use Rattle.first_pass_c.proofs.Sides.{no_attributes_named}
use Rattle.first_pass_c.proofs.flat.attributes.NamedAttributes.append_headings.Goals as goal

pub returns-then-is_none : goal.returns-then-is_none
returns-then-is_none c =
    let none = sym c.attributes_at.ensures ∙ ap (option_map _) (none_is _ (c.is_none.ensures ∙ ap not c.if-is_none.true)) in
    subst (AppendsAttributes c.args.self.now c.args.self.now) (sym (no_attributes_named (names_of c.args.allocs.now) c.args.nodes.now none))
    (attributes_none c.args.self.now)

pub loop-node-init : goal.loop-node-init
loop-node-init c = attributes_none _

pub loop-node-preserved : goal.loop-node-preserved
loop-node-preserved c =
    subst (AppendsAttributes c.args.self.now c.append_heading.new.self)
    (flat_more (attributes_by (names_of c.args.allocs.now)) c.args.nodes.now c.loop-node.node-index _ c.loop-node-test.true)
    (attributes_more _ _ _ _ _ c.loop-node.invariant c.in_ok-append_heading.ensures)
