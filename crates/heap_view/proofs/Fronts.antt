-- The first so many of a list.
use Rattle.std.proofs.Common.{ℕ, List, All, Option, Some, None}
use Rattle.std.proofs.lemmas.List.Elements.{All-take}
use Rattle.std.specs.Prelude.{Result, Ok, Err, IfOk}
use Rattle.heap_view.specs.Views.{front}

pub all_front : {A : Type 0} (P : A → Type 0) (at : Option ℕ) (xs : List A) → All P xs → All P (front at xs)
all_front P None xs all = all
all_front P (Some n) xs all = All-take P n xs all

-- what follows from what is so at Ok is so there
pub ok_then : {A E : Type 0} {P Q : A → Type 0} (r : Result A E) → IfOk r P → ((x : A) → P x → Q x) → IfOk r Q
ok_then (Ok x) p h = h x p
ok_then (Err e) p h = tt
