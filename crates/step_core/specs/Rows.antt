-- Fields of an object one after another, and registers one after another: each as a step of its own.
use Rattle.std.specs.Prelude.{◌≡◌, ◌+◌, ◌<◌, ◌≤◌, ◌^◌, ℕ, zero, suc, ⊤, Option, Some, length}
use Rattle.regions.specs.Table.{pointers_at, weaks_at, values_at}
use Rattle.graph_runs.specs.State.{register_place, root_counts_of}
use Rattle.heap_steps.specs.declared.step.Action.TheVariants as actions
use Rattle.heap_steps.specs.declared.step.Reply.TheVariants as replies
use Rattle.heap_steps.specs.declared.step.Step.TheVariants as steps
use Rattle.step_core.specs.Steps.{Refusal, Register, Reply, Step}
use Rattle.step_core.specs.Stands.{CoreState}
use Rattle.step_core.specs.Mutators.{register_of, with_root_word}
use Rattle.step_core.specs.Words.{Takes, putting, writing}
use Rattle.step_core.specs.declared.rows.Source.{Source}
use Rattle.step_core.specs.declared.rows.Source.TheVariants as sources

-- a mutator's register takes a pointer
abbrev pub getting : ℕ → Register → Register → ℕ → Step
getting m to object field = steps.Mutator (record { mutator = m; action = actions.Get to object field })

abbrev pub register_at : ℕ → Register
register_at number = record { number = number }

-- what each of some pointers takes: what one of the registers from one on holds, or all of them the same
abbrev pub source_at : Source → ℕ → Option Register
source_at (sources.Row first) k = Some (register_at (first + k))
source_at (sources.One value) k = value

-- the numbers of so many registers are below 2 to the 32nd
abbrev pub FitsSource : Source → ℕ → Type 0
FitsSource (sources.Row first) count = first + count ≤ 2 ^ 32
FitsSource (sources.One value) count = ⊤

-- registers from one on take pointers from one on; pointers from one on take such values, and data words all the same one
abbrev pub getting_each : ℕ → ℕ → Register → ℕ → ℕ → Step
getting_each m to object from k = getting m (register_at (to + k)) object (from + k)

abbrev pub putting_each : ℕ → Register → ℕ → Source → ℕ → Step
putting_each m object from source k = putting m object (from + k) (source_at source k)

abbrev pub writing_each : ℕ → Register → ℕ → ℕ → ℕ → Step
writing_each m object from word k = writing m object (from + k) word

-- a reply is no refusal
abbrev pub IsDone : Reply → Type 0
IsDone (replies.Refused why) = ⊥
IsDone _ = ⊤

-- so many steps lead from one core to another, one after another, and each is done
abbrev pub AreDone : CoreState → (ℕ → Step) → ℕ → CoreState → Type 0
AreDone c step zero d = d ≡ c
AreDone c step (suc n) d = (b : CoreState) × (reply : Reply) × (AreDone c step n b × (IsDone reply × Takes b (step n) reply d))

-- the register names an object that has so many pointers from one on
pub record HasPointers (c : CoreState) (m : ℕ) (object : Register) (from count : ℕ) : Type 0 where
  pub at : ℕ
  pub named : register_of c m object ≡ Some at
  pub within : from + count ≤ length (pointers_at c.table at)

-- the object at an address, which the register names, has so many
pub record HasPointersAt (c : CoreState) (m : ℕ) (object : Register) (from count a : ℕ) : Type 0 where
  pub held : register_of c m object ≡ Some a
  pub within : from + count ≤ length (pointers_at c.table a)

pub record HasWordsAt (c : CoreState) (m : ℕ) (object : Register) (from count a : ℕ) : Type 0 where
  pub held : register_of c m object ≡ Some a
  pub within : from + count ≤ length (values_at c.table a)

-- no step loads such a pointer, or stores into it, or writes such a word: each is refused in the same way
pub record HasNoPointer (c : CoreState) (m : ℕ) (object : Register) (field : ℕ) (why : Refusal) : Type 0 where
  pub got : (to : Register) → Takes c (getting m to object field) (replies.Refused why) c
  pub put : (value : Option Register) → Takes c (putting m object field value) (replies.Refused why) c

abbrev pub HasNoWord : CoreState → ℕ → Register → ℕ → Refusal → Type 0
HasNoWord c m object field why = (word : ℕ) → Takes c (writing m object field word) (replies.Refused why) c

-- a register takes a pointer, and nothing else changes
pub record Gets (c : CoreState) (m : ℕ) (to object : Register) (field : ℕ) (d : CoreState) : Type 0 where
  pub name : Option ℕ
  pub takes : Takes c (getting m to object field) (replies.Named name) d
  pub word : Option ℕ
  pub after : d ≡ with_root_word c (register_place (root_counts_of c.config) m to.number) word

-- so many pointers are loaded; the register still names the object at an address, before the last one is
pub record HasGot (c : CoreState) (m to : ℕ) (object : Register) (from count a k : ℕ) (d : CoreState) : Type 0 where
  pub done : AreDone c (getting_each m to object from) k d
  pub table : d.table ≡ c.table
  pub config : d.config ≡ c.config
  pub held : k < count → register_of d m object ≡ Some a

-- so many fields are stored, one after another; the roots stay, and the object at an address has as many fields as before
pub record HasStored (c : CoreState) (step : ℕ → Step) (a k : ℕ) (d : CoreState) : Type 0 where
  pub done : AreDone c step k d
  pub roots : d.roots ≡ c.roots
  pub config : d.config ≡ c.config
  pub pointers : length (pointers_at d.table a) ≡ length (pointers_at c.table a)
  pub weaks : length (weaks_at d.table a) ≡ length (weaks_at c.table a)
  pub values : length (values_at d.table a) ≡ length (values_at c.table a)
