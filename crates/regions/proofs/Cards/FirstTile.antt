-- The search for the tile that holds a word.
use Rattle.regions.proofs.Common.{max_words, ◌≡◌, ℕ, zero, suc, ◌+◌, ◌-◌, ◌*◌, ◌/◌, ◌%◌, ◌<◌, ◌≤◌, min, Some}
use Rattle.regions.proofs.Common.{List, [], ◌∷◌, inl, inr, refl, sym, ap, ◌∙◌}
use Rattle.regions.proofs.Common.{arith, cases_lt, mul-le, Addr, Tile, Object, tile_size, total_size, Table, Region, Free, Ordinary, First}
use Rattle.regions.proofs.Common.{Rest, nth_region, region_kind, region_used, kind_of, used_of, top_of, tile_in, tile_shape, size_of_shape}
use Rattle.regions.proofs.Common.{length, tiles_from, tiles_of, placed, walk_rest, IsCut, IsHolder, IsRunStart, IsShaped, IsLater, Shape}
use Rattle.regions.specs.declared.row.Kind.TheVariants as kinds
use Rattle.regions.proofs.Walks.WalkLaws.{cut_none, cut_step}
use Rattle.regions.proofs.Walks.WalkMade.{cut_tile, shape_size_is, positive_at}
use Rattle.regions.proofs.Walks.WalkFrom.{listed_tile}
use Rattle.regions.proofs.Tiles.ShapedMade.{kind_at, tiles_at}
use Rattle.regions.proofs.Words.Divides.{div_is}

-- the search in region k, up to an offset
pub record IsSearch (t : Table) (k word : ℕ) (left : List (Addr × Shape)) : Type 0 where
  pub offset : ℕ
  pub left_is : left ≡ walk_rest t k offset
  pub cut : IsCut offset (tiles_of t k)
  pub within : offset ≤ total_size (tiles_of t k)
  pub low : k * t.words_per_region + offset ≤ word

-- the same in the region where the word's run begins
pub record IsSearching (t : Table) (word : ℕ) (left : List (Addr × Shape)) : Type 0 where
  pub first : ℕ
  pub start : IsRunStart t (word / t.words_per_region) first
  pub search : IsSearch t first word left

-- what the next item is
pub record IsNextTile (t : Table) (k o : ℕ) (x : Addr) (shape : Shape) (rest : List (Addr × Shape)) : Type 0 where
  pub tile : Tile
  pub at_is : x ≡ k * t.words_per_region + o
  pub tile_is : tile_in t (k * t.words_per_region + o) ≡ Some tile
  pub size_is : size_of_shape shape ≡ tile_size tile
  pub rest_is : rest ≡ walk_rest t k (o + tile_size tile)
  pub cut : IsCut (o + tile_size tile) (tiles_of t k)
  pub within : o + tile_size tile ≤ total_size (tiles_of t k)
  pub positive : 0 < tile_size tile

pub search_step : (t : Table) (k word : ℕ) (left rest : List (Addr × Shape)) (x : Addr) (shape : Shape) → IsShaped t
    → (s : IsSearch t k word left) → left ≡ (x, shape) ∷ rest → IsNextTile t k s.offset x shape rest
search_step t k word left rest x shape g s e =
    elim (cases_lt s.offset (total_size (tiles_of t k))) [
      | inl lt ↦
          let fitting = g.fitting k in
          let o : ℕ = s.offset in
          let c = cut_tile o (tiles_of t k) s.cut lt in
          let pos = positive_at o (tiles_of t k) c.0 fitting.positive c.1 in
          let step = cut_step o (o + tile_size c.0) (tiles_of t k) c.0 s.cut c.1 pos refl in
          let place : k * t.words_per_region + o + tile_size c.0 ≡ k * t.words_per_region + (o + tile_size c.0) = omega arith in
          let next : walk_rest t k o ≡ (k * t.words_per_region + o, tile_shape c.0) ∷ walk_rest t k (o + tile_size c.0) =
          ap (placed (k * t.words_per_region + o)) step.rest_is ∙ rw place refl in
          let both : (x, shape) ∷ rest ≡ (k * t.words_per_region + o, tile_shape c.0) ∷ walk_rest t k (o + tile_size c.0) =
          sym e ∙ s.left_is ∙ next in
          let head : (x, shape) ≡ (k * t.words_per_region + o, tile_shape c.0) = cc in
          let shape_is : shape ≡ tile_shape c.0 = ap (λ (p : Addr × Shape). p.1) head in
          record {
            tile = c.0;
            at_is = ap (λ (p : Addr × Shape). p.0) head;
            tile_is = listed_tile t k o c.0 g c.1;
            size_is = ap size_of_shape shape_is ∙ shape_size_is c.0;
            rest_is = cc;
            cut = step.cut;
            within = step.within;
            positive = pos;
          }
      | inr le ↦
          let fitting = g.fitting k in
          let none = ap (placed (k * t.words_per_region + s.offset)) (cut_none s.offset (tiles_of t k) s.cut le fitting.positive) in
          absurd (let z : (x, shape) ∷ rest ≡ [] = sym e ∙ s.left_is ∙ none in cc)
    ]

pub search_fits : (t : Table) (k word : ℕ) (left rest : List (Addr × Shape)) (x : Addr) (shape : Shape) → IsShaped t
    → IsSearch t k word left → left ≡ (x, shape) ∷ rest → x + size_of_shape shape ≤ max_words
search_fits t k word left rest x shape g s e =
    let n = search_step t k word left rest x shape g s e in
    let f = g.within (k * t.words_per_region + s.offset) n.tile n.tile_is in
    omega (arith, f, g.in_all, n.at_is, n.size_is)

pub search_next : (t : Table) (k word : ℕ) (left rest : List (Addr × Shape)) (x : Addr) (shape : Shape) → IsShaped t
    → IsSearch t k word left → left ≡ (x, shape) ∷ rest → x + size_of_shape shape ≤ word → IsSearch t k word rest
search_next t k word left rest x shape g s e l =
    let n = search_step t k word left rest x shape g s e in
    record {
      offset = s.offset + tile_size n.tile;
      left_is = n.rest_is;
      cut = n.cut;
      within = n.within;
      low = omega (arith, n.at_is, n.size_is);
    }

-- ---- how many turns the search takes
length_placed : (a : ℕ) (ts : List Tile) → length (placed a ts) ≡ length ts
length_placed a [] = refl
length_placed a (u ∷ us) = let i = length_placed (a + tile_size u) us in omega arith

fewer : (o a : ℕ) (ts : List Tile) → length (placed a (tiles_from o ts)) ≤ length ts
fewer zero a ts = omega (arith, length_placed a ts)
fewer (suc o) a [] = omega arith
fewer (suc o) a (u ∷ us) = let i = fewer (suc o - tile_size u) a us in omega arith

-- it took a turn for each tile that it passed, of which each has words, and all are of one region
pub record IsCounted (t : Table) (word : ℕ) (left : List (Addr × Shape)) (before now : ℕ) : Type 0 where
  pub searching : IsSearching t word left
  pub passed : now ≤ before + searching.search.offset
  pub tiles : now + length left ≤ before + length (tiles_of t searching.first)

pub counted_first : (t : Table) (word before : ℕ) (left : List (Addr × Shape)) → IsSearching t word left
    → IsCounted t word left before before
counted_first t word before left s =
    let all = fewer s.search.offset (s.first * t.words_per_region + s.search.offset) (tiles_of t s.first) in
    let is = ap (λ (l : List (Addr × Shape)). length l) s.search.left_is in
    record { searching = s; passed = omega arith; tiles = omega (arith, all, is) }

module _ (t : Table) (word before now : ℕ) (left rest : List (Addr × Shape)) (x : Addr) (shape : Shape) (g : IsShaped t)
    (c : IsCounted t word left before now) (e : left ≡ (x, shape) ∷ rest) where
  abbrev k : ℕ
  k = c.searching.first

  taken : length left ≡ suc (length rest)
  taken = ap (λ (l : List (Addr × Shape)). length l) e

  pub counted_next : x + size_of_shape shape ≤ word → IsCounted t word rest before (now + 1)
  counted_next l =
      let s = c.searching.search in
      let n = search_step t k word left rest x shape g s e in
      record {
        searching = record {
          first = k;
          start = c.searching.start;
          search = record {
            offset = s.offset + tile_size n.tile;
            left_is = n.rest_is;
            cut = n.cut;
            within = n.within;
            low = omega (arith, n.at_is, n.size_is);
          };
        };
        passed = omega (arith, c.passed, n.positive);
        tiles = omega (arith, c.tiles, taken);
      }

  -- where it ends at the tile of the word, those passed are below the word, or the region has one tile
  pub counted_found : word < x + size_of_shape shape → now + 1 ≤ before + word % t.words_per_region + 1
  counted_found l = go (nth_region t k) refl
    where
      size : ℕ
      size = t.words_per_region

      go : (r : Region) → nth_region t k ≡ r → now + 1 ≤ before + word % size + 1
      go Free f =
          let none : length (tiles_of t k) ≡ 0 = ap (λ (l : List Tile). length l) (tiles_at t k Free f) in
          omega (arith, none, c.tiles, taken)
      go (Rest m) f =
          let none : length (tiles_of t k) ≡ 0 = ap (λ (l : List Tile). length l) (tiles_at t k (Rest m) f) in
          omega (arith, none, c.tiles, taken)
      go (First o) f =
          let one : length (tiles_of t k) ≡ 1 = ap (λ (l : List Tile). length l) (tiles_at t k (First o) f) in
          omega (arith, one, c.tiles, taken)
      go (Ordinary ts) f =
          let s = c.searching.search in
          let n = search_step t k word left rest x shape g s e in
          let z = g.positive in
          let fits = (g.fitting k).fits (kind_at t k (Ordinary ts) f) in
          let low = s.low in
          let same : word / size ≡ k = div_is word size k (omega arith) (omega (arith, n.at_is, n.size_is, n.within, fits)) in
          let whole : word / size * size + word % size ≡ word = omega arith in
          let there : word / size * size ≡ k * size = ap (λ (m : ℕ). m * size) same in
          omega (arith, c.passed, low, whole, there)

-- words of a region: those below its top are those below the end of its run's tiles
reach : (t : Table) (k first w : ℕ) → IsShaped t → IsRunStart t k first → k * t.words_per_region ≤ w
    → w < k * t.words_per_region + t.words_per_region
    → (w < first * t.words_per_region + total_size (tiles_of t first) → w < top_of t k)
    × (w < top_of t k → w < first * t.words_per_region + total_size (tiles_of t first))
unfolding used_of
reach t k first w g s low high = go (nth_region t k) refl
  where
    size : ℕ
    size = t.words_per_region

    Reaches : Type 0
    Reaches = (w < first * size + total_size (tiles_of t first) → w < k * size + region_used size (nth_region t k))
        × (w < k * size + region_used size (nth_region t k) → w < first * size + total_size (tiles_of t first))

    itself : (r : Region) → nth_region t k ≡ r → (region_kind r ≡ kinds.Rest → ⊥) → first ≡ k
    itself r e other = elim (cases_lt first k) [
      | inl lt ↦ absurd (other (sym (kind_at t k r e) ∙ s.rest k lt (omega arith)))
      | inr le ↦ let b = s.below in omega arith
    ]

    spread : (a b c n : ℕ) → a + b ≡ c → a * n + b * n ≡ c * n
    spread a b c n e = rw (← e) (omega arith)

    -- the first region of the run that reaches region k
    run_first : (n : ℕ) (l : IsLater t k n) → first ≡ l.first
    run_first n l = elim (cases_lt first l.first) [
      | inl lt ↦
          let is = kind_at t l.first (First l.object) l.begins in
          let number = l.number in
          absurd (let z : kinds.First ≡ kinds.Rest = sym is ∙ s.rest l.first lt (omega arith) in cc)
      | inr le ↦ elim (cases_lt l.first first) [
        | inl lt ↦
            let number = l.number in
            let b = s.below in
            let j : ℕ = first - l.first in
            let sum : l.first + j ≡ first = omega arith in
            let near : j ≤ l.later = omega arith in
            let q = mul-le j size l.later size near (omega arith) in
            let rest = g.run l.first j l.object l.begins (omega arith) (omega (arith, q, l.reaches)) in
            let zero_is = s.start (ap (kind_of t) (sym sum) ∙ rest) in
            absurd (omega arith)
        | inr ge ↦ omega arith
      ]
    ]

    go : (r : Region) → nth_region t k ≡ r → Reaches
    go Free e =
        let i = itself Free e (λ z. cc) in
        let ts = tiles_at t k Free e in
        rw (i, ts, e) (λ h. omega arith, λ h. omega arith)
    go (Ordinary us) e =
        let i = itself (Ordinary us) e (λ z. cc) in
        let ts = tiles_at t k (Ordinary us) e in
        rw (i, ts, e) (λ h. omega arith, λ h. omega arith)
    go (First o) e =
        let i = itself (First o) e (λ z. cc) in
        let ts = tiles_at t k (First o) e in
        rw (i, ts, e) (λ h. omega arith, λ h. omega arith)
    go (Rest n) e =
        let l = g.later k n e in
        let same : first ≡ l.first = run_first n l in
        let ts = tiles_at t l.first (First l.object) l.begins in
        let split : l.first * size + l.later * size ≡ k * size = spread l.first l.later k size l.number in
        let used : region_used size (nth_region t k) ≡ min size (tile_size (Object l.object) - l.later * size) =
        ap (region_used size) e ∙ l.words in
        rw (same, ts, used) (λ h. omega (arith, split), λ h. omega (arith, split))

-- where a word's region lies
word_region : (w size : ℕ) → 0 < size → (w / size * size ≤ w) × (w < w / size * size + size)
word_region w size z = (omega arith, omega arith)

-- the item whose tile holds the word
pub found_holder : (t : Table) (k word : ℕ) (left rest : List (Addr × Shape)) (x : Addr) (shape : Shape) → IsShaped t
    → IsSearch t k word left → left ≡ (x, shape) ∷ rest → word < x + size_of_shape shape → IsHolder t x word
found_holder t k word left rest x shape g s e l =
    let n = search_step t k word left rest x shape g s e in
    record {
      tile = n.tile;
      tile_is = ap (tile_in t) n.at_is ∙ n.tile_is;
      low = omega (arith, s.low, n.at_is);
      high = omega (arith, n.size_is);
    }

pub found_below : (t : Table) (k word : ℕ) (left rest : List (Addr × Shape)) (x : Addr) (shape : Shape) → IsShaped t
    → IsRunStart t (word / t.words_per_region) k → IsSearch t k word left → left ≡ (x, shape) ∷ rest → word < x + size_of_shape shape
    → word < top_of t (word / t.words_per_region)
found_below t k word left rest x shape g start s e l =
    let n = search_step t k word left rest x shape g s e in
    let region = word_region word t.words_per_region g.positive in
    (reach t (word / t.words_per_region) k word g start region.0 region.1).0 (omega (arith, n.at_is, n.size_is, n.within))

-- the search found nothing
pub search_last : (t : Table) (k word : ℕ) (left : List (Addr × Shape)) → IsShaped t → IsRunStart t (word / t.words_per_region) k
    → IsSearch t k word left → left ≡ [] → word < top_of t (word / t.words_per_region) → ⊥
search_last t k word left g start s e h =
    let region = word_region word t.words_per_region g.positive in
    let inside = (reach t (word / t.words_per_region) k word g start region.0 region.1).1 h in
    elim (cases_lt s.offset (total_size (tiles_of t k))) [
      | inl lt ↦
          let fitting = g.fitting k in
          let c = cut_tile s.offset (tiles_of t k) s.cut lt in
          let pos = positive_at s.offset (tiles_of t k) c.0 fitting.positive c.1 in
          let step = cut_step s.offset (s.offset + tile_size c.0) (tiles_of t k) c.0 s.cut c.1 pos refl in
          let next = ap (placed (k * t.words_per_region + s.offset)) step.rest_is in
          let z = sym e ∙ s.left_is ∙ next in cc
      | inr le ↦ omega (arith, s.low, s.within, inside)
    ]
