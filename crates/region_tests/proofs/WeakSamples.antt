-- The tables that the test of weak slots goes through.
use Rattle.regions.proofs.Common.{◌≡◌, ℕ, ◌<◌, Option, Some, None, [], ◌∷◌, length, refl, arith, IsSome, Stored, Object, Table, Free}
use Rattle.regions.proofs.Common.{Ordinary, region_at, tile_in, object_at, pointers_at, weaks_at, fields_at, values_at, put_object}
use Rattle.regions.proofs.Common.{set_weak, set_field, set_value, nth_region, kind_of}
use Rattle.region_tests.proofs.TableSamples.{sample, CanRelease}
use Rattle.region_tests.specs.Filled.{slotted}
use Rattle.region_tests.specs.Samples.{one_object}

abbrev pub slots : Option ℕ → Option ℕ → ℕ → Table
slots a b d =
    let x : Stored = record { name = 7; pointers = None ∷ []; weaks = a ∷ b ∷ []; held = []; values = d ∷ [] } in
    sample (Ordinary (Object x ∷ []) ∷ Free ∷ Free ∷ Free ∷ [])

pub slot_weak : (t t' : Table) (a to : ℕ) → t ≡ one_object 6 1 2 1 → t' ≡ set_weak t a 1 (Some to)
    → a ≡ 0 → to ≡ 9 → t' ≡ slots None (Some 9) 0
unfolding set_weak object_at tile_in region_at put_object
slot_weak t t' a to e f p q = rw (f, e, p, q) refl

pub slot_field : (t t' : Table) (a to : ℕ) → t ≡ slots None (Some 9) 0 → t' ≡ set_field t a 1 (Some to) → a ≡ 0
    → to ≡ 0 → t' ≡ slots (Some 0) (Some 9) 0
unfolding set_field object_at tile_in region_at put_object
slot_field t t' a to e f p q = rw (f, e, p, q) refl

pub slot_value : (t t' : Table) (a : ℕ) → t ≡ slots (Some 0) (Some 9) 0 → t' ≡ set_value t a 0 9
    → a ≡ 0 → t' ≡ slotted
unfolding set_value object_at tile_in region_at put_object
slot_value t t' a e f p = rw (f, e, p) refl

pub record IsSlotted (t : Table) (a : ℕ) : Type 0 where
  pub object : IsSome (object_at t a)
  pub pointers : 0 < length (pointers_at t a)
  pub weaks : 1 < length (weaks_at t a)
  pub field : 1 < length (fields_at t a)
  pub fields : 2 < length (fields_at t a)
  pub values : 0 < length (values_at t a)

pub slotted_is : (p q : Option ℕ) (d : ℕ) (t : Table) (a : ℕ) → t ≡ slots p q d → a ≡ 0 → IsSlotted t a
unfolding object_at tile_in region_at pointers_at weaks_at fields_at values_at
slotted_is p q d t a e h = rw (e, h) (record {
  object = refl;
  pointers = omega arith;
  weaks = omega arith;
  field = omega arith;
  fields = omega arith;
  values = omega arith;
})

pub slotted_release : (p q : Option ℕ) (d : ℕ) (t : Table) (k : ℕ) → t ≡ slots p q d → k ≡ 0 → CanRelease t k
unfolding nth_region kind_of
slotted_release p q d t k e h = rw (e, h) (record { known = omega arith; releasable = tt; untargeted = (tt, tt) })
