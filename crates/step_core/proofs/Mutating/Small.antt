-- Sizes of objects: in ordinary regions none has more than half a region's words, and each that has a run has more.
use Rattle.std.proofs.Common.{◌≡◌, ◌≢◌, ◌*◌, ◌/◌, ◌%◌, ◌<◌, ◌≤◌, ◌⊎◌, ◌∙◌}
use Rattle.std.proofs.Common.{ℕ, true, Option, Some, None, length, get_or, refl, sym, ap, subst, arith, inl, inr}
use Rattle.std.proofs.lemmas.Bool.{cases_eq}
use Rattle.std.proofs.lemmas.List.{get_or_past}
use Rattle.std.proofs.lemmas.Bool.{cases_lt}
use Rattle.heap_model.specs.Heap.{Stored}
use Rattle.regions.specs.Tiles.{Object, tile_size}
use Rattle.regions.specs.Table.{Table, Region, Free, region_kind, nth_region, region_at, region_tile, tile_in}
use Rattle.regions.specs.Table.{tile_object, kind_of, object_at, object_pointers, object_words, pointers_at, stored_size}
use Rattle.regions.specs.declared.row.Kind.{Kind}
use Rattle.regions.specs.declared.row.Kind.TheVariants as kinds
use Rattle.regions.proofs.Tiles.Changes.{WritesObject, object_same}
use Rattle.mark_bitmap.specs.Tops.{is_in_region}
use Rattle.mark_bitmap.proofs.Ranges as ranges
use Rattle.mark_bitmap.proofs.LiveWords.{in_region}

pub words_by : (t t' : Table) (a : ℕ) → object_at t' a ≡ object_at t a → object_words t' a ≡ object_words t a
unfolding object_words
words_by t t' a e = ap stored_size e

pub words_are : (t : Table) (a : ℕ) (x : Stored) → object_at t a ≡ Some x → object_words t a ≡ tile_size (Object x)
unfolding object_words
words_are t a x e = ap stored_size e

pub pointers_by : (t t' : Table) (a : ℕ) → object_at t' a ≡ object_at t a → length (pointers_at t' a) ≡ length (pointers_at t a)
unfolding pointers_at
pointers_by t t' a e = ap (λ (o : Option Stored). length (object_pointers o)) e

pub pointers_are : (t : Table) (a : ℕ) (x : Stored) → object_at t a ≡ Some x → length (pointers_at t a) ≡ length x.pointers
unfolding pointers_at
pointers_are t a x e = ap (λ (o : Option Stored). length (object_pointers o)) e

pub words_none : (t : Table) (a : ℕ) → object_at t a ≡ None → object_words t a ≡ 0
unfolding object_words
words_none t a e = ap stored_size e

pub option_is : (o : Option Stored) → ((x : Stored) × (o ≡ Some x)) ⊎ (o ≡ None)
option_is None = inr refl
option_is (Some x) = inl (x, refl)

-- in regions of so many words an object of so many is a small one, or a wide one
abbrev pub IsHalf : ℕ → ℕ → Type 0
IsHalf words size = 2 * size ≤ words

abbrev pub IsOver : ℕ → ℕ → Type 0
IsOver words size = words < 2 * size

-- the objects of regions of a kind are so: `AreHalves` and `AreWide` are two such facts
abbrev pub AreSized : Kind → (ℕ → ℕ → Type 0) → Table → Type 0
AreSized k P t = (a : ℕ) (x : Stored) → object_at t a ≡ Some x → kind_of t (a / t.words_per_region) ≡ k
    → P t.words_per_region (tile_size (Object x))

carried : (P : ℕ → ℕ → Type 0) (r r' s s' : ℕ) → r' ≡ r → s' ≡ s → P r s → P r' s'
carried P r r' s s' e f p = subst (λ (m : ℕ). P m s') (sym e) (subst (λ (m : ℕ). P r m) (sym f) p)

-- an object has words
has_words : (t t' : Table) (a : ℕ) (x : Stored) → object_words t' a ≡ object_words t a → object_at t' a ≡ Some x → object_at t a ≡ None → ⊥
has_words t t' a x same e none =
    let long = words_are t' a x e in let zero' = words_none t a none in absurd (omega (arith, same, long, zero'))

-- the same kinds and sizes
module _ (k : Kind) (P : ℕ → ℕ → Type 0) (t t' : Table) (size : t'.words_per_region ≡ t.words_per_region)
    (kinds_same : (j : ℕ) → kind_of t' j ≡ kind_of t j) (words : (a : ℕ) → object_words t' a ≡ object_words t a) where
  pub sizes_same : AreSized k P t → AreSized k P t'
  sizes_same h = λ a x e o. elim (option_is (object_at t a)) [
    | inl some ↦
        carried P t.words_per_region t'.words_per_region (tile_size (Object some.0)) (tile_size (Object x)) size
        (sym (words_are t' a x e) ∙ words a ∙ words_are t a some.0 some.1)
        (h a some.0 some.1 (sym (kinds_same (a / t.words_per_region)) ∙ ap (λ (w : ℕ). kind_of t' (a / w)) (sym size) ∙ o))
    | inr none ↦ absurd (has_words t t' a x (words a) e none)
  ]

-- an object is written over by one of its size
pub words_written : (t t' : Table) (a : ℕ) (x y : Stored) → WritesObject t t' a x y → tile_size (Object y) ≡ tile_size (Object x)
    → (b : ℕ) → object_words t' b ≡ object_words t b
words_written t t' a x y w long b =
    elim (cases_eq b a) [
      | inl q ↦ ap (object_words t') q ∙ words_are t' a y w.is ∙ long ∙ sym (ap (object_words t) q ∙ words_are t a x w.was)
      | inr n ↦ words_by t t' b (object_same t t' b (w.others b n))
    ]

-- and with as many pointers
pub pointers_written : (t t' : Table) (a : ℕ) (x y : Stored) → WritesObject t t' a x y → length y.pointers ≡ length x.pointers
    → (b : ℕ) → length (pointers_at t' b) ≡ length (pointers_at t b)
pointers_written t t' a x y w shape b =
    elim (cases_eq b a) [
      | inl q ↦ ap (λ (c : ℕ). length (pointers_at t' c)) q ∙ pointers_are t' a y w.is ∙ shape
          ∙ sym (ap (λ (c : ℕ). length (pointers_at t c)) q ∙ pointers_are t a x w.was)
      | inr n ↦ pointers_by t t' b (object_same t t' b (w.others b n))
    ]

pub free_region : (r : Region) → region_kind r ≡ kinds.Free → r ≡ Free
free_region Free e = refl
free_region _ e = absurd cc

-- no object starts in a free region
pub free_object : (t : Table) (k a : ℕ) → kind_of t k ≡ kinds.Free → is_in_region t.words_per_region k a ≡ true → object_at t a ≡ None
unfolding object_at tile_in region_at kind_of nth_region
free_object t k a free inside =
    let row : a / t.words_per_region ≡ k = ranges.nth_region t.words_per_region k a inside in
    ap (λ (j : ℕ). tile_object (region_tile (get_or t.regions j Free) (a % t.words_per_region))) row
    ∙ ap (λ (r : Region). tile_object (region_tile r (a % t.words_per_region))) (free_region (get_or t.regions k Free) free)

pub kind_cases : (x : Kind) → (x ≡ kinds.Free) ⊎ (x ≢ kinds.Free)
kind_cases kinds.Free = inl refl
kind_cases _ = inr (λ e. cc)

-- an address lies in its region
pub inside_own : (words a : ℕ) → 0 < words → is_in_region words (a / words) a ≡ true
inside_own words a z = in_region words (a / words) a (omega arith) (omega arith)

-- one more object, where regions in use stay what they are
module _ (k : Kind) (P : ℕ → ℕ → Type 0) (t t' : Table) (a : ℕ) (x : Stored) (size : t'.words_per_region ≡ t.words_per_region)
    (stay : (j : ℕ) → kind_of t j ≢ kinds.Free → kind_of t' j ≡ kind_of t j)
    (is : object_at t' a ≡ Some x) (others : (y : ℕ) → y ≢ a → object_at t' y ≡ object_at t y) where
  pub sizes_added : 0 < t.words_per_region
      → (kind_of t' (a / t.words_per_region) ≡ k → P t.words_per_region (tile_size (Object x))) → AreSized k P t → AreSized k P t'
  sizes_added z new h = λ b y e o.
      let at : kind_of t' (b / t.words_per_region) ≡ k = ap (λ (w : ℕ). kind_of t' (b / w)) (sym size) ∙ o in
      elim (cases_eq b a) [
        | inl q ↦
            carried P t.words_per_region t'.words_per_region (tile_size (Object x)) (tile_size (Object y)) size
            (sym (words_are t' b y e) ∙ ap (object_words t') q ∙ words_are t' a x is)
            (new (ap (λ (c : ℕ). kind_of t' (c / t.words_per_region)) (sym q) ∙ at))
        | inr n ↦
            let there : object_at t b ≡ Some y = sym (others b n) ∙ e in
            elim (kind_cases (kind_of t (b / t.words_per_region))) [
              | inl free ↦ absurd (let none = free_object t (b / t.words_per_region) b free (inside_own t.words_per_region b z) in cc)
              | inr used ↦
                  carried P t.words_per_region t'.words_per_region (tile_size (Object y)) (tile_size (Object y)) size refl
                  (h b y there (sym (stay (b / t.words_per_region) used) ∙ at))
            ]
      ]

-- an ordinary region is one of the table's
pub ordinary_known : (t : Table) (k : ℕ) → kind_of t k ≡ kinds.Ordinary → k < length t.regions
unfolding kind_of nth_region
ordinary_known t k o =
    elim (cases_lt k (length t.regions)) [
      | inl lt ↦ lt
      | inr past ↦
          absurd (let none : region_kind (get_or t.regions k Free) ≡ kinds.Free = ap region_kind (get_or_past t.regions k Free past) in cc)
    ]

-- regions that are of a kind now were so, with the same objects
pub sizes_left : (k : Kind) (P : ℕ → ℕ → Type 0) (t t' : Table) → 0 < t.words_per_region → t'.words_per_region ≡ t.words_per_region
    → ((j a : ℕ) → kind_of t' j ≡ k → is_in_region t.words_per_region j a ≡ true
    → (kind_of t j ≡ k) × (object_words t' a ≡ object_words t a))
    → AreSized k P t → AreSized k P t'
sizes_left k P t t' z size same h = λ a x e o.
    let at : kind_of t' (a / t.words_per_region) ≡ k = ap (λ (w : ℕ). kind_of t' (a / w)) (sym size) ∙ o in
    let was = same (a / t.words_per_region) a at (inside_own t.words_per_region a z) in
    elim (option_is (object_at t a)) [
      | inl some ↦
          carried P t.words_per_region t'.words_per_region (tile_size (Object some.0)) (tile_size (Object x)) size
          (sym (words_are t' a x e) ∙ was.1 ∙ words_are t a some.0 some.1) (h a some.0 some.1 was.0)
      | inr none ↦ absurd (has_words t t' a x was.1 e none)
    ]
