-- The tables that tests fill.
use Rattle.std.specs.Prelude.{◌≡◌, ℕ, Option, Some, None, [], ◌∷◌}
use Rattle.heap_model.specs.Heap.{Stored}
use Rattle.regions.specs.Tiles.{Object, Filler}
use Rattle.regions.specs.Table.{Table, Free, Ordinary}

-- its pointer names what is at 5
abbrev pub filled : Stored
filled = record { name = 7; pointers = Some 5 ∷ []; weaks = []; held = []; values = 9 ∷ [] }

-- an object of four words at 0, fillers of one word and of five, and three free regions
abbrev pub IsFilledTable : Table → Type 0
IsFilledTable t =
    t ≡ record { words_per_region = 16; regions = Ordinary (Object filled ∷ Filler 1 ∷ Filler 5 ∷ []) ∷ Free ∷ Free ∷ Free ∷ [] }

-- an object of four words at 0 with that pointer, a filler of two words, and three free regions
abbrev pub stepped : Option ℕ → Table
stepped p = record {
  words_per_region = 16;
  regions = Ordinary (Object (record { name = 7; pointers = p ∷ []; weaks = []; held = []; values = 0 ∷ [] }) ∷ Filler 2 ∷ [])
      ∷ Free ∷ Free ∷ Free ∷ [];
}

-- an object of two weak slots
abbrev pub moving : Stored
moving = record { name = 7; pointers = []; weaks = None ∷ None ∷ []; held = []; values = [] }

-- it is at 0 and at 16
abbrev pub twice : Table
twice = record { words_per_region = 16; regions = Ordinary (Object moving ∷ []) ∷ Ordinary (Object moving ∷ []) ∷ Free ∷ Free ∷ [] }

-- an object at 0 of a nil pointer, whose weak slots name what is at 0 and at 9, and three free regions
abbrev pub slotted : Table
slotted = record {
  words_per_region = 16;
  regions = Ordinary (Object (record { name = 7; pointers = None ∷ []; weaks = Some 0 ∷ Some 9 ∷ []; held = []; values = 9 ∷ [] }) ∷ [])
      ∷ Free ∷ Free ∷ Free ∷ [];
}

-- an object at 0 of a nil pointer, two pairs, of which the first is nil, and a zero, a filler of two words, and three free regions
abbrev pub paired : Option ℕ → Option ℕ → Table
paired key held = record {
  words_per_region = 16;
  regions =
      Ordinary (Object (record {
        name = 7;
        pointers = None ∷ [];
        weaks = None ∷ key ∷ [];
        held = None ∷ held ∷ [];
        values = 0 ∷ [];
      }) ∷ Filler 2 ∷ [])
      ∷ Free ∷ Free ∷ Free ∷ [];
}
