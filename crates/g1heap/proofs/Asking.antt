-- What was asked for, taken apart.
use Rattle.std.proofs.Common.{◌≡◌, ℕ, Bool, List, subst}
use Rattle.command_line.specs.Asked.{Asked}
use Rattle.command_line.specs.declared.Task.{Task}

-- what holds of the same parts holds of the whole
pub at_parts : (P : Asked → Type 0) (name name' : List ℕ) (task task' : Task) (explained explained' : Bool) → name ≡ name' → task ≡ task'
    → explained ≡ explained' → P (name, task, explained) → P (name', task', explained')
at_parts P name name' task task' explained explained' n t e p =
    let named = subst (λ (x : List ℕ). P (x, task, explained)) n p in
    subst (λ (x : Bool). P (name', task', x)) e (subst (λ (x : Task). P (name', x, explained)) t named)
