-- The table that the tests copy from.
use Rattle.std.specs.Prelude.{◌≡◌, Some, [], ◌∷◌}
use Rattle.heap_model.specs.Heap.{Stored}
use Rattle.regions.specs.Tiles.{Object}
use Rattle.regions.specs.Table.{Table, Free, Ordinary}

-- its weak slot names what is at 0
abbrev pub copied : Stored
copied = record { name = 7; pointers = []; weaks = Some 0 ∷ []; held = []; values = 0 ∷ [] }

-- an object of four words at 0, and three free regions
abbrev pub IsCopyable : Table → Type 0
IsCopyable t = t ≡ record { words_per_region = 16; regions = Ordinary (Object copied ∷ []) ∷ Free ∷ Free ∷ Free ∷ [] }
