-- How the tests make their tables.
use Rattle.regions.proofs.Common.{◌≡◌, ℕ, ◌+◌, ◌-◌, ◌<◌, [], ◌∷◌, Option, Some, None, length, refl, arith, Object, Filler, Table, Free}
use Rattle.regions.proofs.Common.{Ordinary, fields_at, first_free, weaks_at, kind_of, object_at, put_object, push_tile, region_at}
use Rattle.regions.proofs.Common.{nth_region, replace_tile, set_field, set_weak, taken, tile_in, used_of, new_object, remainder}
use Rattle.region_tests.proofs.TableSamples.{IsUsable}
use Rattle.region_tests.specs.Samples.{one_object}
use Rattle.region_tests.specs.Evacuated.{by_weak_slot, held, holder, itself, sample_of}

-- ---- an object at 0 of one pointer and one weak slot
abbrev made : Option ℕ → Option ℕ → Table
made p weak =
    sample_of (Ordinary (Object (record { name = 7; pointers = p ∷ []; weaks = weak ∷ []; held = []; values = [] }) ∷ [])
    ∷ Free ∷ Free ∷ Free ∷ [])

pub has_field : (p weak : Option ℕ) (t : Table) (a i : ℕ) → t ≡ made p weak → a ≡ 0 → i < 2 → i < length (fields_at t a)
unfolding fields_at object_at tile_in region_at
has_field p weak t a i e q h = rw (e, q) h

pub names_itself : (t t' : Table) (a : ℕ) → t ≡ one_object 4 1 1 0 → t' ≡ set_field t a 0 (Some a) → a ≡ 0 → t' ≡ made (Some 0) None
unfolding set_field object_at tile_in region_at put_object
names_itself t t' a e g p = rw (g, e, p) refl

pub names_itself_twice : (t t' : Table) (a : ℕ) → t ≡ made (Some 0) None → t' ≡ set_field t a 1 (Some a) → a ≡ 0 → t' ≡ itself
unfolding set_field object_at tile_in region_at put_object
names_itself_twice t t' a e g p = rw (g, e, p) refl

-- ---- one of a weak slot, and a second one in region 1
abbrev two : Table
two = sample_of (Ordinary (Object (holder None) ∷ []) ∷ Ordinary [] ∷ Free ∷ Free ∷ [])

abbrev two_cut : Table
two_cut = sample_of (Ordinary (Object (holder None) ∷ []) ∷ Ordinary (Filler 2 ∷ []) ∷ Free ∷ Free ∷ [])

abbrev both : Table
both = sample_of (Ordinary (Object (holder None) ∷ []) ∷ Ordinary (Object held ∷ []) ∷ Free ∷ Free ∷ [])

pub is_two : (t t' : Table) → t ≡ one_object 3 0 1 0 → t' ≡ taken t (first_free t) → t' ≡ two
is_two t t' e g = rw (g, e) refl

pub usable_two : (t : Table) (k n : ℕ) → t ≡ two → k ≡ 1 → n ≡ 2 → IsUsable t k n
unfolding kind_of nth_region used_of
usable_two t k n e p q = rw (e, p, q) (record { known = omega arith; ordinary = refl; room = omega arith })

pub is_two_cut : (t t' : Table) (k n : ℕ) → t ≡ two → t' ≡ push_tile t k (Filler n) → k ≡ 1 → n ≡ 2 → t' ≡ two_cut
unfolding push_tile nth_region
is_two_cut t t' k n e g p q = rw (g, e, p, q) refl

pub second_filler : (t : Table) (a n : ℕ) → t ≡ two_cut → a ≡ 16 → n ≡ 2 → tile_in t a ≡ Some (Filler n)
unfolding tile_in region_at
second_filler t a n e p q = rw (e, p, q) refl

pub is_both : (t t' : Table) (a n p weak d : ℕ) → t ≡ two_cut
    → t' ≡ replace_tile t a (Object (new_object 8 p weak d) ∷ remainder (n - (2 + p + weak + d))) → a ≡ 16
    → n ≡ 2 → p ≡ 0 → weak ≡ 0 → d ≡ 0 → t' ≡ both
unfolding replace_tile region_at
is_both t t' a n p weak d e g x y z v w = rw (g, e, x, y, z, v, w) refl

pub has_slot : (t : Table) (a : ℕ) → t ≡ both → a ≡ 0 → 0 < length (weaks_at t a)
unfolding weaks_at object_at tile_in region_at
has_slot t a e p = rw (e, p) (omega arith)

pub is_by_weak_slot : (t t' : Table) (a b : ℕ) → t ≡ both → t' ≡ set_weak t a 0 (Some b) → a ≡ 0 → b ≡ 16 → t' ≡ by_weak_slot
unfolding set_weak object_at tile_in region_at put_object
is_by_weak_slot t t' a b e g p q = rw (g, e, p, q) refl
