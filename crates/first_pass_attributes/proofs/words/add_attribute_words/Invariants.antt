use Rattle.std.proofs.Common.{◌≡◌, IsUtf8, filter, length, take}
use Rattle.first_pass_attributes.specs.Attributes.{is_attribute_word, words, with_words, attributes_in}
use Rattle.first_pass_attributes.proofs.words.add_attribute_words.Given as goal

-- the attributes so far, followed by those of the words that are left
abbrev pub invariant-loop-rest : goal.invariant-loop-rest
invariant-loop-rest l = record {
  utf8 : IsUtf8 l.rest;
  left : with_words (attributes_in l.attributes) (filter is_attribute_word (words l.rest))
      ≡ with_words (attributes_in l.fn.attributes) (filter is_attribute_word (words l.inside_attr_block));
  ahead : l.rest ≡ take (length l.rest) l.ahead;
}

abbrev pub decreases-loop-rest : goal.decreases-loop-rest
decreases-loop-rest l = length l.rest
