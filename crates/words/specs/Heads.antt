-- The head of a lamp in a list and of a node in a tree: its kind in the top two bits, its handle, or a child's place,
-- in the low thirty. Definitions only. Assumes nothing.
use Rattle.std.specs.Prelude.{ℕ, ◌/◌, ◌%◌}

abbrev pub kind_of : ℕ → ℕ
kind_of head = head / 0x4000_0000

abbrev pub handle_of : ℕ → ℕ
handle_of head = head % 0x4000_0000
