-- The lines of a way from a root to an object.
use Rattle.std.specs.Prelude.{◌≡◌, ℕ, List, ◌++◌, Option, Some, None, codes, flat_map}
use Rattle.std.specs.Fmt.{decimal}
use Rattle.step_core.specs.Stands.{CoreState}
use Rattle.heap_walk.specs.Kept.{IsObjectOf}
use Rattle.heap_walk.specs.Paths.{IsShortest, IsWay}
use Rattle.heap_walk.specs.declared.holders.Holder.{Holder}
use Rattle.heap_view.specs.Objects.{holder_line}

-- a shortest way from a root to the object of a name, none if no way leads there
abbrev pub IsWayOf : CoreState → ℕ → Option (List Holder) → Type 0
IsWayOf c n None = (hs : List Holder) → IsWay c hs n → ⊥
IsWayOf c n (Some hs) = IsShortest c hs n

-- the object by its name, and by its own line, which a way ends with
abbrev pub named_text : ℕ → List ℕ
named_text n = codes "object #" ++ decimal n

abbrev pub last_line : ℕ → List ℕ
last_line n = codes "  #" ++ decimal n ++ codes "\n"

-- a line for the root, one for each object with the pointer that leads on, and one for the object itself
abbrev pub way_text : ℕ → Option (List Holder) → List ℕ
way_text n None = named_text n ++ codes ": no root leads there\n"
way_text n (Some hs) = named_text n ++ codes ": from a root\n" ++ flat_map holder_line hs ++ last_line n

-- that no object of the name is kept, or else a shortest way to it
abbrev pub IsWayText : CoreState → ℕ → Option ℕ → List ℕ → Type 0
IsWayText c n None text = text ≡ named_text n ++ codes ": none is kept\n"
IsWayText c n (Some a) text = (way : Option (List Holder)) × IsWayOf c n way × (text ≡ way_text n way)

-- the lines of a way to the object of a name
pub record AreWayLines (c : CoreState) (n : ℕ) (text : List ℕ) : Type 0 where
  pub found : Option ℕ
  pub object : IsObjectOf c n found
  pub is : IsWayText c n found text
