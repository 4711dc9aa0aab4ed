-- Regions that a step reclaims.
use Rattle.std.specs.Prelude.{◌≡◌, ◌≢◌, ℕ}
use Rattle.regions.specs.Table.{Table, kind_of}
use Rattle.regions.specs.declared.row.Kind.TheVariants as kinds

-- a region was in use, and is free now
pub record IsReclaimed (t t' : Table) (k : ℕ) : Type 0 where
  pub used : kind_of t k ≢ kinds.Free
  pub free : kind_of t' k ≡ kinds.Free
