-- Every word of an object lies in a region that isn't free.
use Rattle.regions.proofs.Common.{◌≡◌, ◌+◌, ◌*◌, ◌/◌, ◌%◌, ◌<◌, ◌≤◌, ◌∙◌, ℕ, zero, Some, List, refl, ap, subst, arith}
use Rattle.regions.proofs.Common.{false, get_or, inl, inr, div-mul-add, cases_lt, Stored, Tile, Object, tile_at}
use Rattle.regions.proofs.Common.{tile_size, total_size, Table, Region, Free, Ordinary, First, region_tile, region_at, nth_region}
use Rattle.regions.proofs.Common.{region_kind, kind_of, tile_in, tile_object, object_at, is_free, tiles_of, region_tiles, IsShaped}
use Rattle.regions.specs.Shaped.{AreInUse}
use Rattle.regions.specs.declared.row.Kind.TheVariants as kinds
use Rattle.regions.proofs.Tiles.Placing.{tile_at-end}
use Rattle.regions.proofs.Tiles.Laws.{object_tile}

-- the region of an object: an ordinary one with the object among its tiles, or the first of a run
pub data Holds (r : Region) (o : ℕ) (s : Stored) : Type 0 where
  InOrdinary : (ts : List Tile) → r ≡ Ordinary ts → tile_at o ts ≡ Some (Object s) → Holds r o s
  InFirst : r ≡ First s → o ≡ 0 → Holds r o s

pub holds : (r : Region) (o : ℕ) (s : Stored) → tile_object (region_tile r o) ≡ Some s → Holds r o s
holds (Ordinary ts) o s e = InOrdinary ts refl (object_tile (tile_at o ts) s e)
holds (First x) zero s e = InFirst (let same : x ≡ s = cc in ap First same) refl
holds _ _ s e = absurd (cc)

not_free : (r : Region) → region_kind r ≡ kinds.Rest → is_free r ≡ false
not_free Free e = cc
not_free _ e = refl

module _ (t : Table) (shaped : IsShaped t) (a : ℕ) (s : Stored) where
  -- the region of a word, by its number and the word's offset
  row_at : (q r w : ℕ) → q * t.words_per_region + r ≡ w → r < t.words_per_region → region_at t w ≡ get_or t.regions q Free
  unfolding region_at
  row_at q r w at lt =
      ap (λ (n : ℕ). get_or t.regions n Free) (subst (λ (x : ℕ). x / t.words_per_region ≡ q) at (div-mul-add q t.words_per_region r lt))

  in_ordinary : (ts : List Tile) → get_or t.regions (a / t.words_per_region) Free ≡ Ordinary ts
      → tile_at (a % t.words_per_region) ts ≡ Some (Object s) → AreInUse t a (tile_size (Object s))
  unfolding tiles_of nth_region kind_of
  in_ordinary ts is there = λ i lt.
      let z = shaped.positive in
      let whole : a / t.words_per_region * t.words_per_region + a % t.words_per_region ≡ a = omega arith in
      let end = tile_at-end ts (a % t.words_per_region) (Object s) there in
      let fits : total_size ts ≤ t.words_per_region = subst (λ (r : Region). total_size (region_tiles r) ≤ t.words_per_region) is
      ((shaped.fitting (a / t.words_per_region)).fits (ap region_kind is)) in
      let place : a / t.words_per_region * t.words_per_region + (a % t.words_per_region + i) ≡ a + i = omega arith in
      let row = row_at (a / t.words_per_region) (a % t.words_per_region + i) (a + i) place (omega arith) in
      ap is_free (row ∙ is)

  in_first : get_or t.regions (a / t.words_per_region) Free ≡ First s → a % t.words_per_region ≡ 0 → AreInUse t a (tile_size (Object s))
  unfolding nth_region kind_of
  in_first is start = λ i lt.
      let z = shaped.positive in
      let k : ℕ = a / t.words_per_region in
      let j : ℕ = i / t.words_per_region in
      let whole : k * t.words_per_region + a % t.words_per_region ≡ a = omega arith in
      let part : j * t.words_per_region + i % t.words_per_region ≡ i = omega arith in
      let less : i % t.words_per_region < t.words_per_region = omega arith in
      let sum : (k + j) * t.words_per_region ≡ k * t.words_per_region + j * t.words_per_region = omega arith in
      let place : (k + j) * t.words_per_region + i % t.words_per_region ≡ a + i = omega arith in
      let row : region_at t (a + i) ≡ get_or t.regions (k + j) Free = row_at (k + j) (i % t.words_per_region) (a + i) place less in
      elim (cases_lt 0 j) [
        | inl behind ↦ ap is_free row ∙ not_free (get_or t.regions (k + j) Free) (shaped.run k j s is behind (omega arith))
        | inr none ↦
            let same : k + j ≡ k = omega arith in
            ap is_free (row ∙ ap (λ (n : ℕ). get_or t.regions n Free) same ∙ is)
      ]

  pub object_in_use : object_at t a ≡ Some s → AreInUse t a (tile_size (Object s))
  unfolding object_at tile_in region_at
  object_in_use e = go (holds (get_or t.regions (a / t.words_per_region) Free) (a % t.words_per_region) s e)
    where
      go : Holds (get_or t.regions (a / t.words_per_region) Free) (a % t.words_per_region) s → AreInUse t a (tile_size (Object s))
      go (InOrdinary ts is there) = in_ordinary ts is there
      go (InFirst is start) = in_first is start
