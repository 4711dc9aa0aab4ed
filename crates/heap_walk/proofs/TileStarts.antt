-- The lowest tile from an address on, region by region.
use Rattle.std.proofs.Common.{◌≡◌, ◌∙◌, ℕ, ◌+◌, ◌-◌, ◌*◌, ◌/◌, ◌<◌, ◌≤◌, Option, Some, None, length, refl, sym, ap, subst, arith, inl, inr}
use Rattle.std.specs.Prelude.{IsSome}
use Rattle.std.proofs.lemmas.Bool.{cases_lt}
use Rattle.std.proofs.lemmas.Nat.{div-mul-add}
use Rattle.std.proofs.Math.Nat.{div-mul-le_self, lt-div-mul-add, div-le_self}
use Rattle.regions.specs.Tiles.{Tile}
use Rattle.regions.specs.Table.{Table, tile_in, top_of}
use Rattle.regions.specs.Shaped.{IsShaped}
use Rattle.regions.specs.Walks.{IsHolder, IsLast, IsLowestTile, IsNextTile}
use Rattle.regions.proofs.Tiles.Holders.{holder_below, one_holder}
use Rattle.regions.proofs.Tiles.Within.{tile_positive}
use Rattle.heap_walk.specs.Starts.{IsTileFrom, NoneStarts, word_count}

-- a tile that starts at an address, taken apart
some_tile : (t : Table) (a : ℕ) → IsSome (tile_in t a) → (u : Tile) × (tile_in t a ≡ Some u)
some_tile t a h = go (tile_in t a) refl h
  where
    go : (o : Option Tile) → tile_in t a ≡ o → IsSome o → (u : Tile) × (tile_in t a ≡ Some u)
    go None e s = cc
    go (Some u) e s = (u, e)

-- it starts at a word of the heap
pub tile_below : (t : Table) (a : ℕ) → IsShaped t → IsSome (tile_in t a) → a < word_count t
tile_below t a g h =
    let (u, e) = some_tile t a h in
    let within = g.within a u e in
    let size = tile_positive t a u g e in
    omega (arith, within, size)

-- and holds it
itself : (t : Table) (a : ℕ) (u : Tile) → IsShaped t → tile_in t a ≡ Some u → IsHolder t a a
itself t a u g e = record { tile = u; tile_is = e; low = omega arith; high = let size = tile_positive t a u g e in omega (arith, size) }

-- ---- regions
-- the region of an address that is between a bottom and the next one
region_is : (w k x : ℕ) → k * w ≤ x → x < (k + 1) * w → x / w ≡ k
region_is w k x low high =
    let rest : x - k * w < w = omega arith in
    let whole : k * w + (x - k * w) ≡ x = omega arith in
    ap (λ (n : ℕ). n / w) (sym whole) ∙ div-mul-add k w (x - k * w) rest

-- no tile of a region
pub none_in : (t : Table) (k : ℕ) (o : Option ℕ) → o ≡ None → IsLowestTile t k o
    → NoneStarts t (k * t.words_per_region) ((k + 1) * t.words_per_region)
none_in t k None e none = λ x low high some.
    let (u, is) = some_tile t x some in
    none x (record { tile = u; tile_is = is; region = region_is t.words_per_region k x low high })
none_in t k (Some b) e none = cc

-- one address more that is passed
pub none_more : (t : Table) (a b d : ℕ) → NoneStarts t a b → NoneStarts t b d → NoneStarts t a d
none_more t a b d p q = λ x low high some. elim (cases_lt x b) [ inl lt ↦ p x low lt some | inr ge ↦ q x ge high some ]

-- the lowest tile from one address on is that from a lower one on, if none starts between
pub tile_on : (t : Table) (a b : ℕ) (o : Option ℕ) → a ≤ b → NoneStarts t a b → IsTileFrom t b o → IsTileFrom t a o
tile_on t a b None le p from = λ x low some. elim (cases_lt x b) [ inl lt ↦ p x low lt some | inr ge ↦ from x ge some ]
tile_on t a b (Some d) le p from = record {
  above = (let high = from.above in omega arith);
  tile = from.tile;
  between = none_more t a b d p from.between;
}

-- the lowest tile of a region, where none starts below it from an address on
pub lowest_found : (t : Table) (a k at : ℕ) (o : Option ℕ) → IsShaped t → o ≡ Some at → IsLowestTile t k o → a ≤ k * t.words_per_region
    → NoneStarts t a (k * t.words_per_region) → IsTileFrom t a (Some at)
lowest_found t a k at None g e low le none = cc
lowest_found t a k at (Some b) g e low le none =
    let same : b ≡ at = cc in
    let start = low.0 in
    let bottom : k * t.words_per_region ≤ b =
    (let q = div-mul-le_self b t.words_per_region in let r = ap (λ (n : ℕ). n * t.words_per_region) start.region in omega arith) in
    subst (λ (n : ℕ). IsTileFrom t a (Some n)) same (record {
      above = omega arith;
      tile = rw start.tile_is refl;
      between = none_more t a (k * t.words_per_region) b none
          (λ x from to some.
          let (u, is) = some_tile t x some in
          let ceiling : b < (k + 1) * t.words_per_region =
          (let q = lt-div-mul-add {a = b} g.positive in let r = ap (λ (n : ℕ). n * t.words_per_region) start.region in omega arith) in
          let least = low.1 x (record { tile = u; tile_is = is; region = region_is t.words_per_region k x from (omega arith) }) in
          omega arith);
    })

-- past the last region no tile starts
pub none_past : (t : Table) (a n : ℕ) → IsShaped t → length t.regions ≤ n → NoneStarts t a (n * t.words_per_region) → IsTileFrom t a None
none_past t a n g all none = λ x low some.
    let below = tile_below t x g some in
    none x low (past (length t.regions) n t.words_per_region x all below) some
  where
    past : (m n w x : ℕ) → m ≤ n → x < m * w → x < n * w
    past m n w x le lt = (let (d, e) = some_more m n le in let f = ap (λ (k : ℕ). k * w) e in omega arith)
      where
        some_more : (m n : ℕ) → m ≤ n → (d : ℕ) × (n ≡ m + d)
        some_more m n le = (n - m, omega arith)

pub none_yet : (t : Table) (a : ℕ) → NoneStarts t a a
none_yet t a = λ x low high some. absurd (omega arith)

pub none_there : (t : Table) (a : ℕ) → IsShaped t → word_count t ≤ a → IsTileFrom t a None
none_there t a g past = λ x low some. let below = tile_below t x g some in absurd (omega arith)

-- ---- after a tile, and from an address on
pub next_found : (t : Table) (at : ℕ) (next : ℕ) → IsNextTile t at next → IsTileFrom t (at + 1) (Some next)
next_found t at next n = record {
  above = (let above = n.above in omega arith);
  tile = n.tile;
  between = λ x low high some. let (u, is) = some_tile t x some in n.between x u (omega arith) high is;
}

-- the end of a region
module _ (t : Table) (at : ℕ) (g : IsShaped t) where
  bottom : at / t.words_per_region * t.words_per_region ≤ at
  bottom = div-mul-le_self at t.words_per_region

  ceiling : at < (at / t.words_per_region + 1) * t.words_per_region
  ceiling = let q = lt-div-mul-add {a = at} g.positive in omega arith

  pub above_last : (o : Option ℕ) → IsLast t at → IsTileFrom t ((at / t.words_per_region + 1) * t.words_per_region) o
      → IsTileFrom t (at + 1) o
  unfolding bottom ceiling
  above_last o last from =
      tile_on t (at + 1) ((at / t.words_per_region + 1) * t.words_per_region) o (omega (arith, ceiling))
      (λ x low high some.
      let (u, is) = some_tile t x some in
      last x u (omega arith) (region_is t.words_per_region (at / t.words_per_region) x (omega (arith, bottom)) high) is)
      from

  -- where no tile holds an address, none starts there or above in its region
  pub above_top : (o : Option ℕ) → (at < top_of t (at / t.words_per_region) → ⊥)
      → IsTileFrom t ((at / t.words_per_region + 1) * t.words_per_region) o
      → IsTileFrom t at o
  unfolding bottom ceiling
  above_top o none from =
      tile_on t at ((at / t.words_per_region + 1) * t.words_per_region) o (omega (arith, ceiling))
      (λ x low high some.
      let (u, is) = some_tile t x some in
      let region = region_is t.words_per_region (at / t.words_per_region) x (omega (arith, bottom)) high in
      let under = holder_below t x x g (itself t x u g is) in
      let top = ap (λ (k : ℕ). top_of t k) region in
      none (omega (arith, under, top)))
      from

  -- a tile that begins lower holds the address: the next one is the first from there on
  pub above_holder : (first : ℕ) (o : Option ℕ) → IsHolder t first at → (first ≡ at → ⊥) → IsTileFrom t (first + 1) o
      → IsTileFrom t at o
  above_holder first None h other from = λ x low some. from x (let l = h.low in omega arith) some
  above_holder first (Some b) h other from =
      let low = h.low in
      elim (cases_lt b at) [
        | inl lt ↦
            let (u, is) = some_tile t b from.tile in
            let over = from.above in
            let high = h.high in
            let same = one_holder t first b b g (record { tile = h.tile; tile_is = h.tile_is; low = omega arith; high = omega arith })
            (itself t b u g is) in
            absurd (omega arith)
        | inr ge ↦ record { above = ge; tile = from.tile; between = λ x l hi some. from.between x (omega arith) hi some }
      ]

pub tile_here : (t : Table) (at : ℕ) → IsSome (tile_in t at) → IsTileFrom t at (Some at)
tile_here t at some = record { above = omega arith; tile = some; between = none_yet t at }

-- a region's number is small
pub number_small : (t : Table) (a n : ℕ) → IsShaped t → a < word_count t → n ≡ a / t.words_per_region → n + 1 < 4294967296
number_small t a n g below is =
    let most = g.in_all in
    let under = div-le_self a t.words_per_region in
    omega arith

pub within : (a b m n k w : ℕ) → b ≡ a → m ≡ k → n ≡ w → b < m * n → a < k * w
within a b m n k w e f g lt = subst (λ (x : ℕ). x < k * w) e (subst (λ (x : ℕ). b < x * w) f (subst (λ (x : ℕ). b < m * x) g lt))
