-- Which roots a step may name.
use Rattle.std.specs.Prelude.{◌<◌, ℕ, suc, List, [], ◌∷◌, Option, Bool, true, false, nat_lt, ◌&&◌, if◌then◌else◌}
use Rattle.heap_model.specs.Graph.{RootCounts}
use Rattle.heap_steps.specs.declared.form.Operand.{Operand}
use Rattle.heap_steps.specs.declared.form.Operand.TheVariants as operands
use Rattle.heap_steps.specs.declared.step.Register.{Register}
use Rattle.heap_steps.specs.declared.step.GlobalRoot.{GlobalRoot}
use Rattle.heap_steps.specs.declared.step.Action.{Action}
use Rattle.heap_steps.specs.declared.step.Op.{Op}
use Rattle.heap_steps.specs.Forms.{action_row, action_verb, action_numbers, value_number}

-- a root, as an operand names it
pub record Root : Type 0 where
  pub operand : Operand
  pub number : ℕ

-- whether such an operand names a root, unless it is nil
abbrev pub is_root : Operand → Bool
is_root operands.Register = true
is_root operands.Global = true
is_root operands.Value = true
is_root _ = false

-- the roots among the numbers of a form
abbrev pub roots_in : List Operand → List ℕ → List Root
roots_in (k ∷ ks) (n ∷ ns) = if is_root k then record { operand = k; number = n } ∷ roots_in ks ns else roots_in ks ns
roots_in _ _ = []

abbrev pub action_roots : Action → List Root
action_roots a = roots_in (action_row (action_verb a)).operands (action_numbers a)

-- a register that mutators have, a global that there is, or nil
abbrev pub IsThere : RootCounts → Operand → ℕ → Type 0
IsThere p operands.Register n = n < p.registers
IsThere p operands.Global n = n < p.globals
IsThere p operands.Value (suc n) = n < p.registers
IsThere p _ n = Unit {0}

abbrev pub IsRegister : RootCounts → Register → Type 0
IsRegister p r = IsThere p operands.Register r.number

abbrev pub IsGlobal : RootCounts → GlobalRoot → Type 0
IsGlobal p g = IsThere p operands.Global g.number

abbrev pub IsValue : RootCounts → Option Register → Type 0
IsValue p v = IsThere p operands.Value (value_number v)

abbrev pub AreThere : RootCounts → List Root → Type 0
AreThere p [] = Unit {0}
AreThere p (r ∷ []) = IsThere p r.operand r.number
AreThere p (r ∷ s ∷ rs) = IsThere p r.operand r.number × AreThere p (s ∷ rs)

-- there is each register and global that the action names
abbrev pub NamesRoots : RootCounts → Action → Type 0
NamesRoots p a = AreThere p (action_roots a)

-- the same as tests
abbrev pub is_there : RootCounts → Operand → ℕ → Bool
is_there p operands.Register n = nat_lt n p.registers
is_there p operands.Global n = nat_lt n p.globals
is_there p operands.Value (suc n) = nat_lt n p.registers
is_there p _ n = true

abbrev pub has_register : RootCounts → Register → Bool
has_register p r = is_there p operands.Register r.number

abbrev pub has_global : RootCounts → GlobalRoot → Bool
has_global p g = is_there p operands.Global g.number

abbrev pub has_value : RootCounts → Option Register → Bool
has_value p v = is_there p operands.Value (value_number v)

abbrev pub are_there : RootCounts → List Root → Bool
are_there p [] = true
are_there p (r ∷ []) = is_there p r.operand r.number
are_there p (r ∷ s ∷ rs) = is_there p r.operand r.number && are_there p (s ∷ rs)

abbrev pub names_roots : RootCounts → Action → Bool
names_roots p a = are_there p (action_roots a)

-- a mutator's step where roots are in these places: the mutator is one of theirs, and so is each root that it names
pub record IsOpAt (p : RootCounts) (o : Op) : Type 0 where
  pub mutator : o.mutator < p.mutators
  pub roots : NamesRoots p o.action
