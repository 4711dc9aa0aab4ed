-- Which names are reachable, found by flags and a queue: a name is flagged once, and waits in the queue until the pointers of
-- its object are looked at.
use Rattle.heap_model.specs.Graph.{Graph, Object}
use Rattle.std.specs.Prelude.{◌-◌, ◌∷◌, ◌++◌, if◌then◌else◌}
use Rattle.std.specs.Prelude.{ℕ, zero, suc, List, [], Bool, true, false, Option, Some, None, slice_get, slice_set, slice_index_or, length}
use Rattle.std.specs.Prelude.{replicate, nat_le}

-- one flag for each object, in the order of names, and the places of those that were flagged, in the order of flagging
pub record Search : Type 0 where
  pub first_name : ℕ
  pub flags : List Bool
  pub queue : List ℕ

-- nothing is flagged
abbrev pub started : Graph → Search
started g = record { first_name = g.first_name; flags = replicate (length g.objects) false; queue = [] }

-- whether a name is flagged, the first flag being the first name's
abbrev pub flag_of : ℕ → List Bool → ℕ → Bool
flag_of first flags n = if nat_le first n then slice_index_or flags (n - first) false else false

-- a place is flagged and joins the queue, if it is there and wasn't flagged
abbrev pub flagged_at : Search → ℕ → Option Bool → Search
flagged_at s place (Some false) = record s { flags = slice_set s.flags place true; queue = s.queue ++ place ∷ [] }
flagged_at s place _ = s

abbrev pub found : Search → Option ℕ → Search
found s None = s
found s (Some n) = if nat_le s.first_name n then flagged_at s (n - s.first_name) (slice_get s.flags (n - s.first_name)) else s

-- the same for each name of a list
abbrev pub all_found : Search → List (Option ℕ) → Search
all_found s [] = s
all_found s (v ∷ vs) = all_found (found s v) vs

-- what the pointers of an object name
abbrev pub looked_in : Search → Option Object → Search
looked_in s None = s
looked_in s (Some x) = all_found s x.pointers

abbrev pub looked_at : Search → List Object → Option ℕ → Search
looked_at s objects None = s
looked_at s objects (Some place) = looked_in s (slice_get objects place)

-- a look at the object that is in a place of the queue
abbrev pub looked : Search → List Object → ℕ → Search
looked s objects i = looked_at s objects (slice_get s.queue i)

-- so many looks, one place after another
abbrev pub searched : Search → List Object → ℕ → Search
searched s objects zero = s
searched s objects (suc i) = looked (searched s objects i) objects i
