use Rattle.std.proofs.Common.{◌≡◌, ◌-◌, ◌≤◌, ◌++◌, length, map}
use Rattle.first_pass_places.specs.AttributePlaces.{attribute_place, word_ranges}
use Rattle.first_pass_places.proofs.attributes.add_words.Given as goal

-- the attributes before this offset are added, and no more words are left than there were
abbrev pub invariant-loop-from : goal.invariant-loop-from
invariant-loop-from l = record {
  added : l.places.items ++ map (attribute_place l.text) (word_ranges l.text l.from l.«end»)
      ≡ l.fn.places.items ++ map (attribute_place l.text) (word_ranges l.text l.fn.start l.«end»);
  fewer : length (word_ranges l.text l.from l.«end») ≤ length (word_ranges l.text l.fn.start l.«end»);
}

abbrev pub decreases-loop-from : goal.decreases-loop-from
decreases-loop-from l = l.«end» - l.from
