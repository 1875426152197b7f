-- A text that was read (this project).
use Rattle.std.specs.Prelude.{◌≡◌, ◌<◌, ◌≤◌, ◌+◌, ◌*◌, ◌^◌, ℕ, List, length, bit_and, IsUtf8}
use Rattle.first_pass_items.specs.declared.item.Item.{Item}
use Rattle.first_pass_items.specs.declared.option_set.Options.{Options}
use Rattle.first_pass_grammar.specs.Names.{Names, AreNamed}
use Rattle.first_pass_grammar.specs.Leaves.{document}
use Rattle.first_pass_grammar.specs.Derivation.{Derives, IsOnlyDerived, Tables}
use Rattle.first_pass_grammar.specs.Counting.{inserted_cells}
use Rattle.first_pass_grammar.specs.Order.{IsOrdered}
use Rattle.first_pass_grammar.specs.WholeTables.{AreWholeTables}
use Rattle.first_pass_names.specs.TableEntries.{names_of, tables_of}
use Rattle.first_pass_order.specs.Settled.{AreSettled}
use Rattle.first_pass_host.specs.OptionWord.{known_bits}
use Rattle.first_pass_c.specs.FlatForm.{FlatForm, flat_form}
use Rattle.first_pass_c.specs.Side.{AreSideTables}
use Rattle.first_pass_c.specs.declared.reading.Parsed.{Parsed}

-- each bit is the bit of an option (this project)
abbrev pub AreKnown : ℕ → Type 0
AreKnown bits = bit_and bits known_bits ≡ bits

-- each bit is the bit of an option, and the text is UTF-8 of less than 2^32 bytes (this project)
pub record IsReadable (text : List ℕ) (bits : ℕ) : Type 0 where
  pub known : AreKnown bits
  pub utf8 : IsUtf8 text
  pub short : length text < 2 ^ 32

-- the tree and the tables that the block grammar derives from a text under the options with these bits, and no others
-- (this project)
pub record IsTreeOf (text : List ℕ) (bits : ℕ) (names : Names) (nodes : List (ℕ × Item)) (tables : Tables) : Type 0 where
  pub readable : IsReadable text bits
  pub options : Options
  pub bits_are : options.0 ≡ bits
  pub derived : Derives (document text options names) nodes tables
  pub only : IsOnlyDerived text options names nodes tables
  pub settled : AreSettled nodes
  pub order : IsOrdered text nodes
  pub node_bound : length nodes ≤ 1 + 4 * length text + inserted_cells nodes
  pub named : AreNamed names nodes
  pub whole_tables : AreWholeTables names nodes

-- the flat form of a tree that was read (this project)
abbrev pub form_of : Parsed → FlatForm
form_of parsed = flat_form (names_of parsed.allocs) parsed.tree.nodes (tables_of parsed.allocs)

-- the other parts of its flat form, besides the nodes (this project)
abbrev pub HasSides : Parsed → Type 0
HasSides parsed = AreSideTables parsed.side (names_of parsed.allocs) parsed.tree.nodes (tables_of parsed.allocs)

-- a text was read under the options with these bits (this project)
pub record IsParsed (text : List ℕ) (bits : ℕ) (parsed : Parsed) : Type 0 where
  pub tree : IsTreeOf text bits (names_of parsed.allocs) parsed.tree.nodes (tables_of parsed.allocs)
  pub sides : HasSides parsed
