-- Where the tile of a word starts.
use Rattle.regions.proofs.Common.{◌≡◌, ◌≢◌, ◌+◌, ◌-◌, ◌*◌, ◌/◌, ◌%◌, ◌<◌, ◌≤◌, ◌∷◌, ◌∙◌, inl, inr, ℕ, suc, min, Some, None, List, []}
use Rattle.regions.proofs.Common.{length, ⊎_elim, refl, sym, ap, subst, arith, cases_lt, mul-le, Addr, Stored, Tile, Object, tile_size}
use Rattle.regions.proofs.Common.{tile_at, total_size, Table, Region, Free, Ordinary, First, Rest, nth_region, region_used, kind_of}
use Rattle.regions.proofs.Common.{used_of, tile_in, top_of, tile_shape, AllPositive, tiles_of, tiles_from, placed, walk_rest, IsHolder}
use Rattle.regions.proofs.Common.{IsRunStart, IsShaped, Shape, LeadsTo}
use Rattle.regions.specs.declared.row.Kind.TheVariants as kinds
use Rattle.regions.proofs.Tiles.ShapedMade.{kind_at, tiles_at, first_object}
use Rattle.regions.proofs.Walks.WalkFrom.{cut_at, tile_listed, listed_tile}
use Rattle.regions.proofs.Walks.WalkLaws.{cut_step}
use Rattle.regions.proofs.Walks.WalkMade.{positive_at, shape_size_is}
use Rattle.regions.proofs.Walks.WalkTiles.{apart, tile_behind}
use Rattle.regions.proofs.Cards.FirstTile.{found_below, IsSearch, IsSearching}
use Rattle.regions.proofs.Tiles.Laws.{object_tile}
use Rattle.regions.proofs.Tiles.Changes.{object_of_tile}
use Rattle.regions.proofs.Words.Divides.{div_is}
use Rattle.regions.proofs.Tiles.Steps.{tile_there}

spread : (a b c n : ℕ) → a + b ≡ c → a * n + b * n ≡ c * n
spread a b c n e = rw (← e) (omega arith)

-- the run of a word's tile begins in the tile's region
pub record IsStart (t : Table) (a w : ℕ) : Type 0 where
  pub run : IsRunStart t (w / t.words_per_region) (a / t.words_per_region)
  pub not_later : kind_of t (a / t.words_per_region) ≢ kinds.Rest

pub holder_start : (t : Table) (a w : ℕ) → IsShaped t → IsHolder t a w → IsStart t a w
holder_start t a w g h = go (nth_region t k) refl
  where
    n : ℕ
    n = t.words_per_region

    k : ℕ
    k = a / n

    here : (tile_at (a % n) (tiles_of t k) ≡ Some h.tile) × (k < length t.regions)
    here = tile_listed t a h.tile h.tile_is

    within : a % n + tile_size h.tile ≤ total_size (tiles_of t k)
    within = (cut_at (tiles_of t k) (a % n) h.tile here.0).1

    -- the word lies among the tiles of the region's run
    reached : w < k * n + total_size (tiles_of t k)
    reached =
        let z = g.positive in
        let whole : a / n * n + a % n ≡ a = omega arith in
        let high = h.high in
        omega (arith, within)

    none : tiles_of t k ≡ [] → ⊥
    none e = let z : None ≡ Some h.tile = rw e at here.0 in cc

    go : (r : Region) → nth_region t k ≡ r → IsStart t a w
    go Free e = absurd (none (tiles_at t k Free e))
    go (Rest m) e = absurd (none (tiles_at t k (Rest m) e))
    go (Ordinary ts) e =
        let z = g.positive in
        let whole : a / n * n + a % n ≡ a = omega arith in
        let is = kind_at t k (Ordinary ts) e in
        let fits = (g.fitting k).fits is in
        let low = h.low in
        let same : w / n ≡ k = div_is w n k (omega arith) (omega (arith, reached)) in
        record {
          run = record {
            below = omega arith;
            rest = λ j x y. absurd (omega arith);
            start = λ r. absurd (let q : kinds.Ordinary ≡ kinds.Rest = sym is ∙ r in cc);
          };
          not_later = λ r. let q : kinds.Ordinary ≡ kinds.Rest = sym is ∙ r in cc;
        }
    go (First s) e =
        let z = g.positive in
        let is = kind_at t k (First s) e in
        let ts = tiles_at t k (First s) e in
        let size : total_size (tiles_of t k) ≡ tile_size (Object s) = ap total_size ts ∙ omega arith in
        let whole : a / n * n + a % n ≡ a = omega arith in
        let up : w / n * n + w % n ≡ w = omega arith in
        let low = h.low in
        let mono : k ≤ w / n =
        ⊎_elim (λ b. absurd (let q = mul-le (suc (w / n)) n k n b (omega arith) in omega (arith, q))) (λ b. b) (cases_lt (w / n) k) in
        record {
          run = record {
            below = mono;
            rest = λ j x y.
                let d : ℕ = j - k in
                let sum : k + d ≡ j = omega arith in
                let q = mul-le j n (w / n) n y (omega arith) in
                let split : k * n + d * n ≡ j * n = spread k d j n sum in
                subst (λ (m : ℕ). kind_of t m ≡ kinds.Rest) sum (g.run k d s e (omega arith) (omega (arith, q, split, reached, size)));
            start = λ r. absurd (let q : kinds.First ≡ kinds.Rest = sym is ∙ r in cc);
          };
          not_later = λ r. let q : kinds.First ≡ kinds.Rest = sym is ∙ r in cc;
        }

-- tiles of words of one region start in one region
pub starts_agree : (t : Table) (a b w v : ℕ) → IsStart t a w → IsStart t b v → w / t.words_per_region ≡ v / t.words_per_region
    → a / t.words_per_region ≡ b / t.words_per_region
starts_agree t a b w v p q e =
    let x = p.run.below in
    let y = q.run.below in
    elim (cases_lt (a / t.words_per_region) (b / t.words_per_region)) [
      | inl lt ↦ absurd (q.not_later (p.run.rest (b / t.words_per_region) lt (omega arith)))
      | inr ge ↦ elim (cases_lt (b / t.words_per_region) (a / t.words_per_region)) [
        | inl lt ↦ absurd (p.not_later (q.run.rest (a / t.words_per_region) lt (omega arith)))
        | inr le ↦ omega arith
      ]
    ]

-- a tile with a word at or above one of the same region starts no lower than that one's tile
pub holder_onward : (t : Table) (first from a w : ℕ) → IsShaped t → IsHolder t first from → IsHolder t a w → from ≤ w
    → w / t.words_per_region ≡ from / t.words_per_region → (first ≤ a) × (a / t.words_per_region ≡ first / t.words_per_region)
holder_onward t first from a w g f h l e =
    let same = starts_agree t a first w from (holder_start t a w g h) (holder_start t first from g f) e in (
      elim (cases_lt a first) [
        | inl lt ↦
            let q = apart t a first h.tile f.tile g.positive (sym same) h.tile_is f.tile_is lt in
            let high = h.high in
            let low = f.low in
            absurd (omega (arith, q))
        | inr ge ↦ ge
      ],
      same,
    )

-- a word of a tile lies below its region's top
pub holder_below : (t : Table) (a w : ℕ) → IsShaped t → IsHolder t a w → w < top_of t (w / t.words_per_region)
holder_below t a w g h =
    let n : ℕ = t.words_per_region in
    let k : ℕ = a / n in
    let o : ℕ = a % n in
    let ts : List Tile = tiles_of t k in
    let z = g.positive in
    let whole : a / n * n + a % n ≡ a = omega arith in
    let here = tile_listed t a h.tile h.tile_is in
    let cut = cut_at ts o h.tile here.0 in
    let positive = positive_at o ts h.tile (g.fitting k).positive here.0 in
    let step = cut_step o (o + tile_size h.tile) ts h.tile cut.0 here.0 positive refl in
    let rest : List (Addr × Shape) = placed (k * n + o + tile_size h.tile) (tiles_from (o + tile_size h.tile) ts) in
    let left : walk_rest t k o ≡ (k * n + o, tile_shape h.tile) ∷ rest = ap (placed (k * n + o)) step.rest_is in
    let low = h.low in
    let high = h.high in
    let search : IsSearch t k w (walk_rest t k o) = record {
      offset = o;
      left_is = refl;
      cut = cut.0;
      within = omega (arith, cut.1);
      low = omega arith;
    } in
    found_below t k w (walk_rest t k o) rest (k * n + o) (tile_shape h.tile) g (holder_start t a w g h).run search
    left (omega (arith, shape_size_is h.tile))

-- a word has one holder
pub one_holder : (t : Table) (a b w : ℕ) → IsShaped t → IsHolder t a w → IsHolder t b w → a ≡ b
one_holder t a b w g x y =
    let up = holder_onward t a w b w g x y (omega arith) refl in
    let down = holder_onward t b w a w g y x (omega arith) refl in
    omega (arith, up.0, down.0)

-- ---- each word below its region's top has a holder
record Holding (ts : List Tile) (o : ℕ) : Type 0 where
  at : ℕ
  tile : Tile
  there : tile_at at ts ≡ Some tile
  low : at ≤ o
  high : o < at + tile_size tile

holding : (ts : List Tile) (o : ℕ) → AllPositive ts → o < total_size ts → Holding ts o
holding [] o p h = absurd (omega arith)
holding (t ∷ ts) o p h = elim (cases_lt o (tile_size t)) [
  | inl lt ↦ record { at = 0; tile = t; there = refl; low = omega arith; high = omega arith }
  | inr ge ↦ (
      let i = holding ts (o - tile_size t) p.1 (omega arith) in
      record {
        at = tile_size t + i.at;
        tile = i.tile;
        there = tile_behind t ts i.at (tile_size t + i.at) i.tile p.0 refl i.there;
        low = omega (arith, i.low);
        high = omega (arith, i.high);
      })
]

pub holder_of : (t : Table) (w : ℕ) → IsShaped t → w < top_of t (w / t.words_per_region) → (a : ℕ) × IsHolder t a w
unfolding used_of
holder_of t w g h = go (nth_region t k) refl
  where
    n : ℕ
    n = t.words_per_region

    k : ℕ
    k = w / n

    whole : w / n * n + w % n ≡ w
    whole = let z = g.positive in omega arith

    part : w % n < n
    part = let z = g.positive in omega arith

    object : (j : ℕ) (s : Stored) → nth_region t j ≡ First s → j * n ≤ w → w < j * n + tile_size (Object s) → (a : ℕ) × IsHolder t a w
    object j s e low high = (
      j * n,
      record {
        tile = Object s;
        tile_is = object_tile (tile_in t (j * n)) s (sym (object_of_tile t (j * n)) ∙ first_object t j s g.positive e);
        low = low;
        high = high;
      },
    )

    go : (r : Region) → nth_region t k ≡ r → (a : ℕ) × IsHolder t a w
    go Free e = absurd (let u : region_used n (nth_region t k) ≡ 0 = ap (region_used n) e in omega (arith, whole, h))
    go (Ordinary ts) e =
        let u : region_used n (nth_region t k) ≡ total_size ts = ap (region_used n) e in
        let is = tiles_at t k (Ordinary ts) e in
        let f = holding ts (w % n) (rw is at (g.fitting k).positive) (omega (arith, whole, h)) in (
          k * n + f.at,
          record {
            tile = f.tile;
            tile_is = listed_tile t k f.at f.tile g (ap (tile_at f.at) is ∙ f.there);
            low = omega (arith, whole, f.low);
            high = omega (arith, whole, f.high);
          },
        )
    go (First s) e =
        let u : region_used n (nth_region t k) ≡ min n (tile_size (Object s)) = ap (region_used n) e in
        object k s e (omega (arith, whole)) (omega (arith, whole, h))
    go (Rest m) e =
        let l = g.later k m e in
        let u : region_used n (nth_region t k) ≡ m = ap (region_used n) e in
        let split : l.first * n + l.later * n ≡ k * n = spread l.first l.later k n l.number in
        object l.first l.object l.begins (omega (arith, whole, split)) (omega (arith, whole, h, split, l.words, l.reaches))

-- ---- the search from a tile on that leads to the word's
pub search_from : (t : Table) (entry a word : ℕ) → IsShaped t → IsHolder t a word → LeadsTo t entry a word
    → IsSearching t word (walk_rest t (entry / t.words_per_region) (entry % t.words_per_region))
search_from t entry a word g h l =
    let z = g.positive in
    let (u, is) = tile_there t entry l.start in
    let whole : entry / t.words_per_region * t.words_per_region + entry % t.words_per_region ≡ entry = omega arith in
    let cut = cut_at (tiles_of t (entry / t.words_per_region)) (entry % t.words_per_region) u (tile_listed t entry u is).0 in
    let low = l.low in
    record {
      first = entry / t.words_per_region;
      start = subst (λ (k : ℕ). IsRunStart t (word / t.words_per_region) k) (sym l.region) (holder_start t a word g h).run;
      search = record {
        offset = entry % t.words_per_region;
        left_is = refl;
        cut = cut.0;
        within = omega (arith, cut.1);
        low = omega (arith, whole);
      };
    }
