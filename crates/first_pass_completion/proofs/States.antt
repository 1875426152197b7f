-- The state of reading between two blocks, and what a step keeps of it.
use Rattle.std.proofs.Common.{ℕ, suc, Bool, List, [], ◌∷◌, ◌++◌, length}
use Rattle.first_pass_grammar.proofs.Common.{Item, Place, Document, Head, ItemMarker, DefinitionMarker, Before, Continues, Tables, Pending, NoList, Frame}
use Rattle.first_pass_grammar.proofs.Sequences.Finishes.{Finish, Tail, before_of, CompletesAt}

-- the open nodes: what is defined so far, their frames, all nodes so far, and the places of the open ones
pub record OpenNodes : Type 0 where
  pub defined : Tables
  pub frames : List Frame
  pub nodes : List (ℕ × Item)
  pub places : List ℕ

-- the open nodes with these parts
abbrev pub open_nodes : Tables → List Frame → List (ℕ × Item) → List ℕ → OpenNodes
open_nodes defined frames nodes places = record { defined = defined; frames = frames; nodes = nodes; places = places }

-- the open nodes with one more inside them, at a place
abbrev pub with_inner : OpenNodes → Frame → ℕ → OpenNodes
with_inner w frame place = record w { frames = frame ∷ w.frames; places = place ∷ w.places }

-- the open nodes after a new node is opened inside them
abbrev pub with_new : OpenNodes → Frame → Item → OpenNodes
with_new w frame x = record (with_inner w frame (length w.nodes)) { nodes = w.nodes ++ (suc (length w.places), x) ∷ [] }

-- every completion of open nodes with this end is derived by the text
abbrev pub CompletesFrom : Document → OpenNodes → Tail → Continues → List Place → Type 0
CompletesFrom d w t from lines = CompletesAt d w.defined t w.frames w.nodes w.places from lines

-- a state of reading: the parts of the open nodes, a list that may continue, what precedes the next block, where that
-- block begins, and the lines from there on
pub record Reading : Type 0 where
  pub defined : Tables
  pub list : Pending
  pub before : Before
  pub frames : List Frame
  pub nodes : List (ℕ × Item)
  pub places : List ℕ
  pub from : Continues
  pub lines : List Place

-- the state of these open nodes
abbrev pub reading : OpenNodes → Pending → Before → Continues → List Place → Reading
reading w list before from lines = record {
  defined = w.defined;
  list = list;
  before = before;
  frames = w.frames;
  nodes = w.nodes;
  places = w.places;
  from = from;
  lines = lines;
}

-- the state of open nodes with this end
abbrev pub reading_at : OpenNodes → Tail → Continues → List Place → Reading
reading_at w t from lines = reading w (NoList t.closed) (before_of w.frames t) from lines

-- the state is completed to this forest and these tables
abbrev pub IsCompleted : Document → Reading → List (ℕ × Item) → Tables → Type 0
IsCompleted d r forest tables = Finish d r.defined r.list r.before r.frames r.nodes r.places r.from r.lines forest tables

-- a step from one state to another: each completion of the second is one of the first
abbrev pub IsStep : Document → Reading → Reading → Type 0
IsStep d old new = (forest : List (ℕ × Item)) (tables : Tables) → IsCompleted d new forest tables → IsCompleted d old forest tables

-- the head of a list item: its marker, the offset of its start, and its line
pub record ItemHead : Type 0 where
  pub byte : ℕ
  pub number : ℕ
  pub columns : ℕ
  pub start : ℕ
  pub line : ℕ

-- it as a head of the grammar
abbrev pub item_head_of : ItemHead → Head
item_head_of h = record { opener = ItemMarker h.byte h.number h.columns; start = h.start; line = h.line }

-- the head of a definition: the columns of its marker, the offset of its start, and its line
pub record DefinitionHead : Type 0 where
  pub columns : ℕ
  pub start : ℕ
  pub line : ℕ

-- it as a head of the grammar
abbrev pub definition_head_of : DefinitionHead → Head
definition_head_of h = record { opener = DefinitionMarker h.columns; start = h.start; line = h.line }

-- an open definition list: its place, the end of its last definition, and whether it is loose so far
pub record OpenDefinitions : Type 0 where
  pub place : ℕ
  pub «end» : ℕ
  pub loose : Bool
