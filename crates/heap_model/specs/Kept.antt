-- What a heap keeps of the objects in its tiles.
use Rattle.std.specs.Prelude.{ℕ, Bool, Option, None, if◌then◌else◌}
use Rattle.heap_model.specs.Heap.{Stored}

-- an object that starts at or above its region's previous top at mark start, or that is marked. `below` tells
-- the addresses below that top, `tiles` the objects of the tiles
abbrev pub kept_by : (ℕ → Option Stored) → (ℕ → Bool) → (ℕ → Bool) → ℕ → Option Stored
kept_by tiles below marked a = if below a then (if marked a then tiles a else None) else tiles a
