-- The table that the tests copy from.
use Rattle.regions.proofs.Common.{◌≡◌, ℕ, ◌/◌, ◌<◌, ◌∙◌, Some, length, ap, refl, arith, IsSome, Object, Table, kind_of, object_at}
use Rattle.regions.proofs.Common.{object_words, fields_at, weaks_at, put_object, region_at, nth_region, set_field, tile_in, tile_object}
use Rattle.regions.specs.declared.row.Kind.TheVariants as kinds
use Rattle.regions.proofs.Tiles.Changes.{object_of_tile}
use Rattle.region_tests.specs.Samples.{one_object}
use Rattle.region_tests.specs.Copied.{IsCopyable, copied}

pub field_there : (t : Table) (a : ℕ) → t ≡ one_object 4 0 1 1 → a ≡ 0 → 0 < length (fields_at t a)
unfolding fields_at object_at tile_in region_at
field_there t a e p = rw (e, p) (omega arith)

pub one_named : (t t' : Table) (a : ℕ) → t ≡ one_object 4 0 1 1 → t' ≡ set_field t a 0 (Some a) → a ≡ 0 → IsCopyable t'
unfolding set_field object_at tile_in region_at put_object
one_named t t' a e f p = rw (f, e, p) refl

-- what a copy asks for
pub record CanCopy (t : Table) (a : ℕ) : Type 0 where
  pub object : IsSome (object_at t a)
  pub words : object_words t a ≡ 4
  pub size : t.words_per_region ≡ 16
  pub count : length t.regions ≡ 4
  pub ordinary : kind_of t (a / t.words_per_region) ≡ kinds.Ordinary

pub can_copy : (t : Table) (a : ℕ) → IsCopyable t → a ≡ 0 → CanCopy t a
unfolding object_at tile_in region_at object_words kind_of nth_region
can_copy t a e p = rw (e, p) (record { object = refl; words = refl; size = refl; count = refl; ordinary = refl })

pub stored_there : (t : Table) (a : ℕ) → IsCopyable t → a ≡ 0 → object_at t a ≡ Some copied
unfolding object_at tile_in region_at
stored_there t a e p = rw (e, p) refl

-- what reading the copy's weak slot asks for
pub record HasSlot (t : Table) (a : ℕ) : Type 0 where
  pub object : IsSome (object_at t a)
  pub weaks : 0 < length (weaks_at t a)

pub has_slot : (t : Table) (a : ℕ) → tile_in t a ≡ Some (Object copied) → HasSlot t a
unfolding weaks_at
has_slot t a e =
    let o : object_at t a ≡ Some copied = object_of_tile t a ∙ ap tile_object e in
    record { object = rw o refl; weaks = rw o (omega arith) }
