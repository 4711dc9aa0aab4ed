-- How old regions are.
use Rattle.std.specs.Prelude.{◌≡◌, ℕ, ◌+◌, ◌-◌, ◌^◌, ◌<◌, ◌≤◌, Bool, List, if◌then◌else◌, length, min, replicate, slice_index, slice_set}
use Rattle.std.specs.declared.cmp.Ordering.{Ordering}
use Rattle.std.specs.Ordering.{nat_cmp, ordering_then}
use Rattle.region_choice.specs.declared.LiveRow.{LiveRow}

pub record Ages : Type 0 where
  -- a number for each region: the later the region was taken, the higher; 0 where it wasn't, or was released
  pub stamps : List ℕ
  -- the last number that was given
  pub last : ℕ
  -- up to this number regions are old
  pub old_up_to : ℕ

abbrev pub stamp_of : Ages → ℕ → ℕ
stamp_of a k = slice_index a.stamps k

-- the region was taken since all were made old, and wasn't released
abbrev pub IsYoung : Ages → ℕ → Type 0
IsYoung a k = a.old_up_to < stamp_of a k

-- no region was taken
abbrev pub fresh_ages : ℕ → Ages
fresh_ages regions = record { stamps = replicate regions 0; last = 0; old_up_to = 0 }

-- the number after the last one, where 64 bits have one
abbrev pub next_stamp : Ages → ℕ
next_stamp a = min (a.last + 1) (2 ^ 64 - 1)

-- a region is taken
abbrev pub with_taken : Ages → ℕ → Ages
with_taken a k = record { stamps = slice_set a.stamps k (next_stamp a); last = next_stamp a; old_up_to = a.old_up_to }

-- a region is released
abbrev pub with_forgotten : Ages → ℕ → Ages
with_forgotten a k = record a { stamps = slice_set a.stamps k 0 }

-- all regions are old
abbrev pub all_old : Ages → Ages
all_old a = record a { old_up_to = a.last }

-- some regions are released, and the others are as old as they were
pub record AgesAfter (gone : ℕ → Bool) (was now : Ages) : Type 0 where
  pub same : now ≡ record was { stamps = now.stamps }
  pub each : (k : ℕ) → stamp_of now k ≡ (if gone k then 0 else stamp_of was k)
  pub count : length now.stamps ≡ length was.stamps

-- numbers are given in order: none is above the last, and all are of 64 bits
pub record AreGiven (a : Ages) : Type 0 where
  pub each : (k : ℕ) → stamp_of a k ≤ a.last
  pub old : a.old_up_to ≤ a.last
  pub last : a.last < 2 ^ 64

-- the order of age: the region that was taken first, then the one with the lower number
abbrev pub age_cmp : Ages → LiveRow → LiveRow → Ordering
age_cmp a x y = ordering_then (nat_cmp (stamp_of a x.region) (stamp_of a y.region)) (nat_cmp x.region y.region)
