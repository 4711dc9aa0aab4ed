-- Items that are told one at a time.
use Rattle.std.specs.Prelude.{◌≡◌, ℕ, ◌-◌, ◌<◌, IfSome, List, [], ◌∷◌, Option, Some, None}
use Rattle.heap_walk.specs.Walks.{told_between}

-- an item and those after it, or none
abbrev pub then_others : {A : Type 0} → Option A → List A → List A
then_others None xs = []
then_others (Some x) xs = x ∷ xs

-- of the items that are told from one number on to below an end this is the first, and the others are told from another number on; none
-- where none is told
pub record IsNext {A : Type 0} (f : ℕ → List A) (end from to : ℕ) (next : Option A) : Type 0 where
  pub told : told_between f from end ≡ then_others next (told_between f to end)
  pub less : IfSome next (λ x. end - to < end - from)
