use Rattle.std.proofs.Common.{Some, sym, subst, ◌∙◌, refl}
use Rattle.first_pass_grammar.proofs.Common.{attributes_of, NamesAttributes}
use Rattle.first_pass_leaves.proofs.Common.{names_of}
use Rattle.first_pass_attributes.specs.Attributes.{attributes_in}
use Rattle.first_pass_attributes.proofs.AttributeFacts.{from_none}
use Rattle.first_pass_grammar.proofs.Names.MoreNames.{extends_none, extends_heading, heading_last}
use Rattle.first_pass_leaves.proofs.attributes.name_attributes.Goals as goal

pub returns-in_default-clause-more : goal.returns-in_default-clause-more
returns-in_default-clause-more c = record { names = extends_none (names_of c.args.allocs.now); entries = refl }

pub returns-clause-more : goal.returns-clause-more
returns-clause-more c = record {
  names = extends_heading (names_of c.args.allocs.now) (names_of c.allocate_heading.new.self) (attributes_in c.add_attribute_words.new.attributes)
      c.in_ok-index.ensures.names;
  entries = c.in_ok-index.ensures.entries;
}

pub returns-clause-named : goal.returns-clause-named
returns-clause-named c more e =
    let found = rw c.in-Some.is at c.block_text_between-content_end.ensures.some in
    let told = c.in_ok-add_attribute_words.ensures.value ∙ from_none c.in-Some.block.text.now c.new-attributes.result c.new-attributes.ensures in
    subst (NamesAttributes more (Some c.in_ok-index.index)) (sym found)
    (heading_last (names_of c.args.allocs.now) (names_of c.allocate_heading.new.self) more c.in_ok-index.index (attributes_of c.in-Some.block.text.now)
    c.in_ok-index.ensures.index (rw told at c.in_ok-index.ensures.names) e)
