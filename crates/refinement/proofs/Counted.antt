-- How many tiles a scan looks at: each has a word of the card that no other one has.
use Rattle.std.proofs.Common.{◌≡◌, ℕ, zero, suc, ◌+◌, ◌-◌, ◌*◌, ◌/◌, ◌%◌, ◌<◌, ◌≤◌, max, List, [], ◌∷◌, refl, sym, ap, subst, arith}
use Rattle.heap_words.specs.declared.addr.Addr.{Addr}
use Rattle.regions.specs.Tiles.{Tile, tile_size}
use Rattle.regions.specs.Table.{Table}
use Rattle.regions.specs.Shapes.{tile_shape}
use Rattle.regions.specs.Walks.{AllPositive, IsHolder, placed, tiles_from, tiles_of, walk_rest}
use Rattle.regions.specs.Shaped.{IsShaped}
use Rattle.regions.specs.declared.row.Shape.{Shape}
use Rattle.regions.proofs.Walks.WalkFrom.{cut_at, tile_listed}
use Rattle.regions.proofs.Walks.WalkLaws.{cut_step}
use Rattle.regions.proofs.Walks.WalkMade.{positive_at}

-- each tile's first word that isn't below `from` is at or above `low`, and above those of the tiles before it
abbrev pub HaveWords : ℕ → ℕ → List (Addr × Shape) → Type 0
HaveWords from low [] = Unit {0}
HaveWords from low (x ∷ xs) = (low ≤ max from x.0) × HaveWords from (suc (max from x.0)) xs

words_lower : (from low less : ℕ) (left : List (Addr × Shape)) → less ≤ low → HaveWords from low left → HaveWords from less left
words_lower from low less [] d h = tt
words_lower from low less (x ∷ xs) d h = (omega (arith, d, h.0), h.1)

placed_words : (from low a : ℕ) (ts : List Tile) → AllPositive ts → from ≤ a → low ≤ a → HaveWords from low (placed a ts)
placed_words from low a [] p f l = tt
placed_words from low a (u ∷ us) p f l =
    (omega arith, placed_words from (suc (max from a)) (a + tile_size u) us p.1 (omega arith) (omega (arith, p.0)))

pub onward_positive : (o : ℕ) (ts : List Tile) → AllPositive ts → AllPositive (tiles_from o ts)
onward_positive zero ts p = p
onward_positive (suc o) [] p = tt
onward_positive (suc o) (t ∷ ts) p = onward_positive (suc o - tile_size t) ts p.1

holder_words : (t : Table) (first from : ℕ) → IsShaped t → IsHolder t first from
    → HaveWords from from (walk_rest t (first / t.words_per_region) (first % t.words_per_region))
holder_words t first from g h =
    let n : ℕ = t.words_per_region in
    let k : ℕ = first / n in
    let o : ℕ = first % n in
    let ts : List Tile = tiles_of t k in
    let z = g.positive in
    let whole : first / n * n + first % n ≡ first = omega arith in
    let here = tile_listed t first h.tile h.tile_is in
    let fitting = g.fitting k in
    let step = cut_step o (o + tile_size h.tile) ts h.tile (cut_at ts o h.tile here.0).0 here.0
    (positive_at o ts h.tile fitting.positive here.0) refl in
    let rest : List (Addr × Shape) = placed (k * n + o + tile_size h.tile) (tiles_from (o + tile_size h.tile) ts) in
    let left : walk_rest t k o ≡ (k * n + o, tile_shape h.tile) ∷ rest = ap (placed (k * n + o)) step.rest_is in
    let low = h.low in
    let high = h.high in
    subst (λ (l : List (Addr × Shape)). HaveWords from from l) (sym left) (
      omega arith,
      placed_words from (suc (max from (k * n + o))) (k * n + o + tile_size h.tile) (tiles_from (o + tile_size h.tile) ts)
          (onward_positive (o + tile_size h.tile) ts fitting.positive) (omega (arith, whole)) (omega (arith, whole)),
    )

-- so many tiles of a card of `len` words were looked at, and those that are left have words behind as many of the card's
pub record IsCount (len card looked : ℕ) (left : List (Addr × Shape)) : Type 0 where
  pub some : 0 < len
  pub within : looked ≤ len
  pub words : HaveWords (card * len) (card * len + looked) left

pub count_first : (t : Table) (len card first : ℕ) (left : List (Addr × Shape)) → IsShaped t → 0 < len → IsHolder t first (card * len)
    → left ≡ walk_rest t (first / t.words_per_region) (first % t.words_per_region) → IsCount len card 0 left
count_first t len card first left g z h e = record {
  some = z;
  within = omega arith;
  words = words_lower (card * len) (card * len) (card * len + 0) left (omega arith)
      (subst (λ (l : List (Addr × Shape)). HaveWords (card * len) (card * len) l) (sym e) (holder_words t first (card * len) g h));
}

-- a tile that starts below the card's end is looked at
module _ (len card looked x : ℕ) (shape : Shape) (left rest : List (Addr × Shape)) (c : IsCount len card looked left)
    (e : left ≡ (x, shape) ∷ rest) (w n : ℕ) (at : w ≡ x) (number : n ≡ card) (below : w < n * len + len) where
  split : HaveWords (card * len) (card * len + looked) ((x, shape) ∷ rest)
  split = subst (λ (l : List (Addr × Shape)). HaveWords (card * len) (card * len + looked) l) e c.words

  count_room : looked < len
  count_room =
      let from : n * len ≡ card * len = ap (λ (m : ℕ). m * len) number in
      omega (arith, split.0, from, at, below, c.some)

  pub count_next : IsCount len card (looked + 1) rest
  count_next = record {
    some = c.some;
    within = omega (arith, count_room);
    words = words_lower (card * len) (suc (max (card * len) x)) (card * len + (looked + 1)) rest (omega (arith, split.0)) split.1;
  }
