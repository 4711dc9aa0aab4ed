-- What the parts of a cleanup do.
use Rattle.std.specs.Prelude.{◌≡◌, ℕ, ◌+◌, ◌*◌, ◌<◌, ◌≤◌, ◌↔◌, ◌⊎◌, None, length}
use Rattle.regions.specs.Table.{kind_of}
use Rattle.regions.specs.declared.row.Kind.TheVariants as kinds
use Rattle.step_core.specs.Stands.{CoreState, kept_of}
pub use Rattle.step_core.specs.Forgetting.{HasForgotten, HasEmptied}
use Rattle.step_core.specs.Cycle.{IsDeadRegion, IsDead, IsAsNew, IsAsBefore, ChangesRegions}

-- j is none of m regions from k on
abbrev pub IsOther : ℕ → ℕ → ℕ → Type 0
IsOther k m j = (j < k) ⊎ (k + m ≤ j)

-- nothing is live of the region, or of the run that begins there
abbrev pub IsDeadHead : CoreState → ℕ → Type 0
IsDeadHead c k = IsDeadRegion c k ⊎ ((kind_of c.table k ≡ kinds.First) × (kept_of c (k * c.table.words_per_region) ≡ None))

-- m dead regions from k on are as in a new heap now, and the others are as they were, dead or not
pub record HasReleased (k m : ℕ) (c c' : CoreState) : Type 0 where
  pub changes : ChangesRegions c c'
  pub count : length c'.table.regions ≡ length c.table.regions
  pub each_set : length c'.sets.sets ≡ length c.sets.sets
  pub within : k + m ≤ length c.table.regions
  pub released : (j : ℕ) → k ≤ j → j < k + m → IsAsNew c' j
  pub others : (j : ℕ) → IsOther k m j → IsAsBefore c c' j
  pub dead : (j : ℕ) → IsOther k m j → IsDead c' j ↔ IsDead c j
