-- Pointers that are stored one after another.
use Rattle.std.specs.Prelude.{◌≡◌, ◌≢◌, ◌/◌, ◌^◌, ◌<◌, ◌≤◌, ◌==◌, ℕ, zero, suc, ⊤, List, Option, Some, None, if◌then◌else◌, length}
use Rattle.std.specs.Prelude.{slice_index}
use Rattle.regions.specs.Table.{pointers_at, weaks_at, values_at}
use Rattle.heap_steps.specs.declared.step.Register.{Register}
use Rattle.heap_steps.specs.declared.step.Reply.TheVariants as replies
use Rattle.heap_steps.specs.Roots.{IsRegister, IsValue}
use Rattle.step_core.specs.Stands.{CoreState, root_counts_of}
use Rattle.step_core.specs.Mutators.{register_of}
use Rattle.step_core.specs.Words.{Takes, putting}

-- a pointer's source by its number: nil by the largest of 32 bits, a register by any other
abbrev pub source : ℕ → Option Register
source number = if number == 4294967295 then None else Some (record { number = number })

-- steps that store in so many pointers what these numbers name, one after another, lead from one core to the other
abbrev pub ArePut : CoreState → ℕ → Register → List ℕ → ℕ → CoreState → Type 0
ArePut c m object from zero d = d ≡ c
ArePut c m object from (suc n) d =
    (b : CoreState) × (ArePut c m object from n b × Takes b (putting m object n (source (slice_index from n))) replies.Done d)

-- these steps lead from one core to the other, the roots stay, and the object at an address has as many fields as before
pub record HasPut (c : CoreState) (m : ℕ) (object : Register) (from : List ℕ) (a count : ℕ) (d : CoreState) : Type 0 where
  pub put : ArePut c m object from count d
  pub roots : d.roots ≡ c.roots
  pub config : d.config ≡ c.config
  pub pointers : length (pointers_at d.table a) ≡ length (pointers_at c.table a)
  pub weaks : length (weaks_at d.table a) ≡ length (weaks_at c.table a)
  pub values : length (values_at d.table a) ≡ length (values_at c.table a)

-- a mutator may store these in the first pointers of the object at an address, which its register names
pub record CanPut (c : CoreState) (m : ℕ) (object : Register) (a : ℕ) (from : List ℕ) : Type 0 where
  pub few : length from < 2 ^ 32
  pub mutator : m < c.config.mutators
  pub register : IsRegister (root_counts_of c.config) object
  pub values : (i : ℕ) → i < length from → IsValue (root_counts_of c.config) (source (slice_index from i))
  pub held : register_of c m object ≡ Some a
  pub fields : length from ≤ length (pointers_at c.table a)

-- a value is nil, or leads into the region of a word, where a region has so many words
abbrev pub LeadsNear : ℕ → ℕ → Option ℕ → Type 0
LeadsNear words word None = ⊤
LeadsNear words word (Some target) = target / words ≡ word / words

-- it leads into another one
abbrev pub LeadsFar : ℕ → ℕ → Option ℕ → Type 0
LeadsFar words word None = ⊥
LeadsFar words word (Some target) = target / words ≢ word / words
