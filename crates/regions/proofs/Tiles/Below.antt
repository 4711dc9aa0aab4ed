-- Where all regions from one on are free, each tile ends below them, and the words from there on may be given up.
use Rattle.regions.proofs.Common.{◌≡◌, ◌+◌, ◌-◌, ◌*◌, ◌/◌, ◌%◌, ◌<◌, ◌≤◌, ◌∙◌, ℕ, zero, suc, true, false, Some, None, List, length}
use Rattle.regions.proofs.Common.{get_or, take, replicate, refl, sym, ap, subst, arith, inl, inr, ◌++◌, min, length-append, length-take}
use Rattle.regions.proofs.Common.{length-replicate, take_at, cases_lt, mul-le, Memory, Stored, Tile, Object, tile_size, tile_at}
use Rattle.regions.proofs.Common.{total_size, Table, Region, Free, Ordinary, First, Rest, region_kind, region_tile, region_at, nth_region}
use Rattle.regions.proofs.Common.{kind_of, tile_in, tile_object, object_at, is_free, tiles_of, region_tiles, IsShaped, Entries, Starts}
use Rattle.regions.proofs.Common.{region_by, regions_of, sizes_in, kind_is_free, free_row, table_of, IsRegionTable, Row}
use Rattle.regions.proofs.Common.{Kind}
use Rattle.heap_words.specs.Memory.{cut_at}
use Rattle.regions.specs.FirstTiles.{LeadsTo}
use Rattle.regions.specs.Rows.{AreFreeFrom}
use Rattle.regions.specs.Walks.{IsHolder}
use Rattle.regions.proofs.Rows.RowLemmas.{regions-at, regions-past}
use Rattle.regions.proofs.Tiles.Placing.{tile_at-end}
use Rattle.regions.proofs.Tiles.InUse.{object_in_use}
use Rattle.regions.proofs.Tiles.ShapedMade.{shaped_of}
use Rattle.regions.proofs.Cards.Entries.{sound_changed}
use Rattle.regions.proofs.Rows.Cut.{table_cut}
use Rattle.regions.specs.declared.row.Kind.TheVariants as kinds

free_region : (sizes : ℕ → ℕ) (ws : List ℕ) (used : ℕ) (kind : Kind) → kind_is_free kind ≡ true → region_by sizes ws used kind ≡ Free
free_region sizes ws used kinds.Free f = refl
free_region sizes ws used kinds.Ordinary f = absurd (cc)
free_region sizes ws used kinds.First f = absurd (cc)
free_region sizes ws used kinds.Rest f = absurd (cc)

-- free rows are those of free regions
pub free_from : (sizes : ℕ → ℕ) (size : ℕ) (rows : List Row) (m k : ℕ) (ws : List ℕ) → AreFreeFrom m rows → m ≤ k
    → get_or (regions_of sizes size ws rows) k Free ≡ Free
free_from sizes size rows m k ws f h = elim (cases_lt k (length rows)) [
  | inl b ↦ regions-at sizes size rows k (k * size) ws free_row refl b ∙ free_region _ _ _ _ (f k h)
  | inr b ↦ regions-past sizes size rows k ws b
]

-- an address of a region below m is below them all
below_by : (a m size : ℕ) → 0 < size → a / size < m → a < m * size
below_by a m size z h =
    let all = mul-le (a / size + 1) size m size (omega arith) (omega arith) in
    omega (arith, all)

module _ (t : Table) (m : ℕ) (shaped : IsShaped t) (free : (k : ℕ) → m ≤ k → get_or t.regions k Free ≡ Free) where
  -- what isn't free is below
  in_use_below : (a : ℕ) → is_free (get_or t.regions (a / t.words_per_region) Free) ≡ false → a < m * t.words_per_region
  in_use_below a h = elim (cases_lt (a / t.words_per_region) m) [
    | inl b ↦ below_by a m t.words_per_region shaped.positive b
    | inr b ↦ absurd (let f = ap is_free (free (a / t.words_per_region) b) in cc)
  ]

  run_below : (a : ℕ) (s : Stored) → object_at t a ≡ Some s → a + tile_size (Object s) ≤ m * t.words_per_region
  unfolding region_at
  run_below a s h =
      let last = object_in_use t shaped a s h (tile_size (Object s) - 1) (omega arith) in
      let below = in_use_below (a + (tile_size (Object s) - 1)) last in
      omega arith

  pub tile_below : (a : ℕ) (tile : Tile) → tile_in t a ≡ Some tile → a + tile_size tile ≤ m * t.words_per_region
  unfolding tile_in region_at nth_region tiles_of kind_of object_at
  tile_below a tile h = go (get_or t.regions (a / t.words_per_region) Free) refl
    where
      go : (r : Region) → get_or t.regions (a / t.words_per_region) Free ≡ r → a + tile_size tile ≤ m * t.words_per_region
      go Free f = absurd (let z : None ≡ Some tile = sym (ap (λ (r : Region). region_tile r (a % t.words_per_region)) f) ∙ h in cc)
      go (Rest n) f = absurd (let z : None ≡ Some tile = sym (ap (λ (r : Region). region_tile r (a % t.words_per_region)) f) ∙ h in cc)
      go (First s) f = first (a % t.words_per_region) (sym (ap (λ (r : Region). region_tile r (a % t.words_per_region)) f) ∙ h)
        where
          first : (o : ℕ) → region_tile (First s) o ≡ Some tile → a + tile_size tile ≤ m * t.words_per_region
          first zero q =
              let same : Object s ≡ tile = cc in
              let object : object_at t a ≡ Some s = ap tile_object (h ∙ ap Some (sym same)) in
              subst (λ (u : Tile). a + tile_size u ≤ m * t.words_per_region) same (run_below a s object)
          first (suc o) q = cc
      go (Ordinary ts) f =
          let at : tile_at (a % t.words_per_region) ts ≡ Some tile =
          sym (ap (λ (r : Region). region_tile r (a % t.words_per_region)) f) ∙ h in
          let end = tile_at-end ts (a % t.words_per_region) tile at in
          let fits : total_size ts ≤ t.words_per_region = subst (λ (r : Region). total_size (region_tiles r) ≤ t.words_per_region) f
          ((shaped.fitting (a / t.words_per_region)).fits (ap region_kind f)) in
          elim (cases_lt (a / t.words_per_region) m) [
            | inl b ↦
                let z = shaped.positive in
                let all = mul-le (a / t.words_per_region + 1) t.words_per_region m t.words_per_region (omega arith) (omega arith) in
                omega (arith, all, end, fits, z)
            | inr b ↦ absurd (let z : Free ≡ Ordinary ts = sym (free (a / t.words_per_region) b) ∙ f in cc)
          ]

-- The words from the free rows on are given up: the table is sound, and the same
pub cut_sound : (size shift lowest free : ℕ) (entries : Entries) (starts : Starts) (memory memory' : Memory) (rows : List Row) (t : Table)
    (m : ℕ) → IsRegionTable size shift lowest free entries starts memory rows → table_of size memory.all rows ≡ t → m ≤ length rows
    → AreFreeFrom m rows → length memory'.all ≡ length memory.all → take (m * size) memory'.all ≡ take (m * size) memory.all
    → memory'.written ≡ min (m * size) memory.written
    → IsRegionTable size shift lowest free entries starts memory' rows × (table_of size memory'.all rows ≡ t)
cut_sound size shift lowest free entries starts memory memory' rows t m s e h f l a n =
    let w = table_cut size memory.all memory'.all rows t m s.table e h f l a in
    let shaped : IsShaped t = shaped_of size memory.all rows t s.table e in
    let size_is : size ≡ t.words_per_region = ap (λ (u : Table). u.words_per_region) e in
    let empty : (k : ℕ) → m ≤ k → get_or t.regions k Free ≡ Free =
    λ k b. ap (λ (u : Table). get_or u.regions k Free) (sym e) ∙ free_from (sizes_in memory.all) size rows m k memory.all f b in (
      sound_changed size shift lowest lowest free free entries entries starts starts memory memory' rows rows t t s e w refl refl refl
          s.used_below s.free_is refl refl refl (λ g. g) (λ _ g. g) (λ g. g)
          (λ g. record {
            each = λ b u q.
                let ends = tile_below t m shaped empty b u q in
                let written = g.each b u q in
                let low : m * size ≡ m * t.words_per_region = ap (λ (k : ℕ). m * k) size_is in
                rw n (omega (arith, ends, written, low));
          }),
      w.table_is,
    )

-- the same, as the words are cut there
pub words_cut : (size shift lowest free : ℕ) (entries : Entries) (starts : Starts) (memory memory' : Memory) (rows : List Row) (t : Table)
    (m : ℕ) → IsRegionTable size shift lowest free entries starts memory rows → table_of size memory.all rows ≡ t → m ≤ length rows
    → AreFreeFrom m rows → memory' ≡ cut_at memory (m * size)
    → IsRegionTable size shift lowest free entries starts memory' rows × (table_of size memory'.all rows ≡ t)
words_cut size shift lowest free entries starts memory memory' rows t m s e h f is =
    let fits : m * size ≤ length memory.all = omega (arith, s.table.covers, mul-le m size (length rows) size h (omega arith)) in
    let front : length (take (m * size) memory.all) ≡ m * size = omega (arith, length-take (m * size) memory.all) in
    let zeros : List ℕ = replicate {A = ℕ} (length memory.all - m * size) 0 in
    let long : length (take (m * size) memory.all ++ zeros) ≡ length memory.all = omega (
      arith,
      length-append (take (m * size) memory.all) zeros,
      length-replicate {A = ℕ} (length memory.all - m * size) 0,
      front,
    ) in
    subst (λ (w : Memory). IsRegionTable size shift lowest free entries starts w rows × (table_of size w.all rows ≡ t)) (sym is)
    (cut_sound size shift lowest free entries starts memory (cut_at memory (m * size)) rows t m s e h f long
    (take_at (take (m * size) memory.all) zeros (m * size) front) refl)

-- the entries of cards from the free rows on are given up: the table is sound
pub entries_cut : (size shift lowest free : ℕ) (entries new : Entries) (starts : Starts) (memory : Memory) (rows : List Row) (t : Table)
    (m : ℕ) → IsRegionTable size shift lowest free entries starts memory rows → table_of size memory.all rows ≡ t → AreFreeFrom m rows
    → new.card_words ≡ entries.card_words → length new.starts ≡ length entries.starts
    → ((c : ℕ) → c * entries.card_words < m * size → get_or new.starts c 0 ≡ get_or entries.starts c 0)
    → IsRegionTable size shift lowest free new starts memory rows
entries_cut size shift lowest free entries new starts memory rows t m s e f len each below =
    let shaped : IsShaped t = shaped_of size memory.all rows t s.table e in
    let size_is : size ≡ t.words_per_region = ap (λ (u : Table). u.words_per_region) e in
    let empty : (k : ℕ) → m ≤ k → get_or t.regions k Free ≡ Free =
    λ k b. ap (λ (u : Table). get_or u.regions k Free) (sym e) ∙ free_from (sizes_in memory.all) size rows m k memory.all f b in
    sound_changed size shift lowest lowest free free entries new starts starts memory memory rows rows t t s e
    (record { is_table = s.table; table_is = e }) refl len each s.used_below s.free_is refl refl refl (λ g. g) (λ _ g. g)
    (λ g a c h.
    let holder : IsHolder t a (c * entries.card_words) = subst (λ (n : ℕ). IsHolder t a (c * n)) len h in
    let ends = tile_below t m shaped empty a holder.tile holder.tile_is in
    let in_cut : c * entries.card_words < m * size = rw size_is (omega (arith, ends, holder.high)) in
    let leads : LeadsTo t (get_or entries.starts c 0) a (c * new.card_words) =
    subst (λ (n : ℕ). LeadsTo t (get_or entries.starts c 0) a (c * n)) (sym len) (g a c holder) in
    subst (λ (e : ℕ). LeadsTo t e a (c * new.card_words)) (sym (below c in_cut)) leads)
    (λ g. g)
