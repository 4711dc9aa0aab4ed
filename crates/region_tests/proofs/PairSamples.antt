-- The tables that the test of pairs goes through.
use Rattle.regions.proofs.Common.{◌≡◌, ℕ, ◌+◌, ◌-◌, ◌<◌, Option, Some, None, ◌∷◌, length, refl, arith, IsSome, Object, Table}
use Rattle.regions.proofs.Common.{region_at, tile_in, object_at, pointers_at, weaks_at, fields_at, values_at, put_object}
use Rattle.regions.proofs.Common.{set_weak, replace_tile, remainder}
use Rattle.regions.specs.Table.{held_at, set_held, new_pairs}
use Rattle.region_tests.proofs.TableSamples.{cut}
use Rattle.region_tests.specs.Filled.{paired}

pub pairs_made : (t t' : Table) (a n p m d : ℕ) → t ≡ cut 10
    → t' ≡ replace_tile t a (Object (new_pairs 7 p m d) ∷ remainder (n - (2 + p + (m + m) + d))) → a ≡ 0 → n ≡ 10 → p ≡ 1 → m ≡ 2 → d ≡ 1
    → t' ≡ paired None None
unfolding replace_tile region_at
pairs_made t t' a n p m d e f x y i j k = rw (f, e, x, y, i, j, k) refl

pub key_set : (t t' : Table) (a to : ℕ) → t ≡ paired None None → t' ≡ set_weak t a 1 (Some to) → a ≡ 0 → to ≡ 9 → t' ≡ paired (Some 9) None
unfolding set_weak object_at tile_in region_at put_object
key_set t t' a to e f p q = rw (f, e, p, q) refl

pub held_set : (t t' : Table) (a : ℕ) (h w v : Option ℕ) → t ≡ paired (Some 9) h → t' ≡ set_held t a 1 w → a ≡ 0 → w ≡ v
    → t' ≡ paired (Some 9) v
unfolding set_held object_at tile_in region_at put_object
held_set t t' a h w v e f p q = rw (f, e, p, q) refl

pub record IsPaired (t : Table) (a : ℕ) : Type 0 where
  pub object : IsSome (object_at t a)
  pub weaks : length (weaks_at t a) ≡ 2
  pub held : length (held_at t a) ≡ 2
  pub fields : length (fields_at t a) ≡ 5

pub paired_is : (k h : Option ℕ) (t : Table) (a : ℕ) → t ≡ paired k h → a ≡ 0 → IsPaired t a
unfolding object_at tile_in region_at pointers_at weaks_at held_at fields_at values_at
paired_is k h t a e p = rw (e, p) (record { object = refl; weaks = refl; held = refl; fields = refl })
