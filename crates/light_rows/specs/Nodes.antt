-- A node of the light tree as sixteen words: head, right child, parent, record. The head's top bits are 01 at a leaf,
-- with its handle below, and 10 at an interior node, with its left child. The layout of a node is said here alone.
-- Definitions only. Assumes nothing.
use Rattle.std.specs.Prelude.{ℕ, suc, ◌+◌, ◌*◌, ◌/◌, ◌%◌, cond, List, ◌∷◌, leb, ltb, eqb, length, get_or}
use Rattle.std.specs.Prelude.{Result, Ok, Err}
use Rattle.words.specs.Refusals.{number}
use Rattle.words.specs.declared.refusals.Refusal.{Refusal}
use Rattle.words.specs.Answers.{Answer, given, refused}
use Rattle.words.specs.Heads.{kind_of, handle_of}
use Rattle.light_rows.specs.RecordWords.{record_at, record_list, record_words}
use Rattle.light_bounds.specs.declared.light_bounds.LightBounds.{LightBounds}
use Rattle.light_rows.specs.declared.nodes.Node.{Node}
use Rattle.light_rows.specs.declared.nodes.Node.TheVariants.{Leaf, Interior}

-- `LightBVHNode` without its bounds, which are judged apart from it: light_handle, parent; or left_child, right_child,
-- parent
pub data LightBVHNode : Type 0 where
  leaf : ℕ → ℕ → LightBVHNode
  interior : ℕ → ℕ → ℕ → LightBVHNode

-- `INVALID_INDEX`: the right child of a leaf, the parent of the root
abbrev pub invalid_index : ℕ
invalid_index = 0xffff_ffff

-- `NODE_WORDS`: three words, then the record
abbrev pub node_words : ℕ
node_words = 3 + record_words

-- the places of a node's head, of its other words and of its record
abbrev pub node_place : ℕ → ℕ
node_place i = node_words * i

abbrev pub right_child_place : ℕ → ℕ
right_child_place i = node_place i + 1

abbrev pub parent_place : ℕ → ℕ
parent_place i = node_place i + 2

abbrev pub bounds_place : ℕ → ℕ
bounds_place i = node_place i + 3

-- ---- written

-- what stands in its low thirty bits
abbrev pub head_number : LightBVHNode → ℕ
head_number (leaf h p) = h
head_number (interior l r p) = l

abbrev pub head_word : LightBVHNode → ℕ
head_word (leaf h p) = 0x4000_0000 + handle_of h
head_word (interior l r p) = 0x8000_0000 + handle_of l

abbrev pub right_child : LightBVHNode → ℕ
right_child (leaf h p) = invalid_index
right_child (interior l r p) = r

abbrev pub parent : LightBVHNode → ℕ
parent (leaf h p) = p
parent (interior l r p) = p

unfoldable pub node_list : LightBVHNode → LightBounds → List ℕ
node_list n b = head_word n ∷ right_child n ∷ parent n ∷ record_list b

-- ---- read

-- as many nodes as 4,096 lamps have
abbrev pub max_nodes : ℕ
max_nodes = 8191

abbrev pub node_bytes : ℕ
node_bytes = 4 * node_words

-- how many nodes there are in bytes: 2 over 8,191 nodes, 1 where the last is a part of one
unfoldable pub node_count : List ℕ → Answer ℕ
node_count bytes =
    cond (ltb max_nodes (length bytes / node_bytes)) (refused 2)
    (cond (eqb (length bytes % node_bytes) 0) (given (length bytes / node_bytes)) (refused 1))

-- the node of a head, 12 where its kind is unknown
unfoldable pub node_of : ℕ → ℕ → ℕ → Answer LightBVHNode
node_of head right p =
    cond (eqb (kind_of head) 1) (given (leaf (handle_of head) p))
    (cond (eqb (kind_of head) 2) (given (interior (handle_of head) right p)) (refused 12))

-- the node at a place, 12 past the end
unfoldable pub node_at : List ℕ → ℕ → Answer LightBVHNode
node_at ws i =
    cond (leb (node_place (suc i)) (length ws))
    (node_of (get_or ws (node_place i) 0) (get_or ws (right_child_place i) 0) (get_or ws (parent_place i) 0))
    (refused 12)

-- its record, 12 past the end or where the side is unknown
unfoldable pub bounds_at : List ℕ → ℕ → Answer LightBounds
bounds_at ws i = record_at 12 ws (bounds_place i)

-- ---- as the code has it

abbrev pub node_value : Node → LightBVHNode
node_value (Leaf h p) = leaf h p
node_value (Interior l r p) = interior l r p

abbrev pub node : Result Node Refusal → Answer LightBVHNode
node (Ok n) = given (node_value n)
node (Err why) = refused (number why)
