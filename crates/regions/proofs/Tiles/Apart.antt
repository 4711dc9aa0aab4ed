-- An object and the words above the top of an ordinary region have none in common.
use Rattle.regions.proofs.Common.{◌≡◌, ◌⊎◌, ◌+◌, ◌-◌, ◌*◌, ◌/◌, ◌%◌, ◌<◌, ◌≤◌, ◌∙◌, ℕ, List, Some, inl, inr, sym, ap, subst, arith, get_or}
use Rattle.regions.proofs.Common.{mul-le, cases_lt, Stored, Tile, Object, tile_at, tile_size, total_size, Table, Region, Free, Ordinary}
use Rattle.regions.proofs.Common.{First, region_kind, nth_region, kind_of, used_of, tile_in, region_at, object_at, tiles_of, region_tiles}
use Rattle.regions.proofs.Common.{IsShaped}
use Rattle.regions.specs.declared.row.Kind.TheVariants as kinds
use Rattle.regions.proofs.Tiles.Placing.{tile_at-end}
use Rattle.regions.proofs.Tiles.Steps.{used_total}
use Rattle.regions.proofs.Tiles.InUse.{Holds, InOrdinary, InFirst, holds}

module _ (t : Table) (shaped : IsShaped t) (k x n to : ℕ) (s : Stored) (ordinary : kind_of t k ≡ kinds.Ordinary)
    (size : n ≡ tile_size (Object s)) (room : used_of t k + n ≤ t.words_per_region) (at : to ≡ k * t.words_per_region + used_of t k) where
  -- where the object's region lies behind the other
  behind : k < x / t.words_per_region → (to + n ≤ x) ⊎ (x + n ≤ to)
  behind lt =
      let z = shaped.positive in
      let whole : x / t.words_per_region * t.words_per_region + x % t.words_per_region ≡ x = omega arith in
      let rows = mul-le (k + 1) t.words_per_region (x / t.words_per_region) t.words_per_region (omega arith) (omega arith) in
      inl (omega (arith, whole, rows, room, at))

  in_ordinary : (ts : List Tile) → nth_region t (x / t.words_per_region) ≡ Ordinary ts
      → tile_at (x % t.words_per_region) ts ≡ Some (Object s) → (to + n ≤ x) ⊎ (x + n ≤ to)
  unfolding tiles_of kind_of
  in_ordinary ts is there =
      let z = shaped.positive in
      let q : ℕ = x / t.words_per_region in
      let whole : q * t.words_per_region + x % t.words_per_region ≡ x = omega arith in
      let end = tile_at-end ts (x % t.words_per_region) (Object s) there in
      let fits : total_size ts ≤ t.words_per_region = subst (λ (r : Region). total_size (region_tiles r) ≤ t.words_per_region) is
      ((shaped.fitting q).fits (ap region_kind is)) in
      elim (cases_lt q k) [
        | inl lt ↦
            let rows = mul-le (q + 1) t.words_per_region k t.words_per_region (omega arith) (omega arith) in
            inr (omega (arith, whole, end, fits, rows, size, at))
        | inr ge ↦ elim (cases_lt k q) [
          | inl lt ↦ behind lt
          | inr le ↦
              let same : q ≡ k = omega arith in
              let used : used_of t k ≡ total_size ts =
              used_total t k ordinary ∙ ap (λ (m : ℕ). total_size (region_tiles (nth_region t m))) (sym same)
              ∙ ap (λ (r : Region). total_size (region_tiles r)) is in
              let rows : q * t.words_per_region ≡ k * t.words_per_region = ap (λ (m : ℕ). m * t.words_per_region) same in
              inr (omega (arith, whole, end, rows, used, size, at))
        ]
      ]

  in_first : nth_region t (x / t.words_per_region) ≡ First s → x % t.words_per_region ≡ 0 → (to + n ≤ x) ⊎ (x + n ≤ to)
  unfolding kind_of
  in_first is start =
      let z = shaped.positive in
      let q : ℕ = x / t.words_per_region in
      let whole : q * t.words_per_region + x % t.words_per_region ≡ x = omega arith in
      elim (cases_lt q k) [
        | inl lt ↦ elim (cases_lt ((k - q) * t.words_per_region) (tile_size (Object s))) [
          | inl reaches ↦
              let later : kind_of t (q + (k - q)) ≡ kinds.Rest = shaped.run q (k - q) s is (omega arith) reaches in
              let same : q + (k - q) ≡ k = omega arith in
              let other : kind_of t k ≡ kinds.Rest = subst (λ (m : ℕ). kind_of t m ≡ kinds.Rest) same later in
              absurd (cc)
          | inr short ↦
              let sum : (q + (k - q)) * t.words_per_region ≡ q * t.words_per_region + (k - q) * t.words_per_region = omega arith in
              let rows : (q + (k - q)) * t.words_per_region ≡ k * t.words_per_region =
              ap (λ (m : ℕ). m * t.words_per_region) (let same : q + (k - q) ≡ k = omega arith in same) in
              inr (omega (arith, whole, start, short, sum, rows, size, at))
        ]
        | inr ge ↦ elim (cases_lt k q) [
          | inl lt ↦ behind lt
          | inr le ↦
              let same : q ≡ k = omega arith in
              let first : kind_of t k ≡ kinds.First = subst (λ (m : ℕ). kind_of t m ≡ kinds.First) same (ap region_kind is) in
              absurd (cc)
        ]
      ]

  pub object_apart : object_at t x ≡ Some s → (to + n ≤ x) ⊎ (x + n ≤ to)
  unfolding object_at tile_in region_at nth_region
  object_apart e = go (holds (get_or t.regions (x / t.words_per_region) Free) (x % t.words_per_region) s e)
    where
      go : Holds (get_or t.regions (x / t.words_per_region) Free) (x % t.words_per_region) s → (to + n ≤ x) ⊎ (x + n ≤ to)
      go (InOrdinary ts is there) = in_ordinary ts is there
      go (InFirst is start) = in_first is start
