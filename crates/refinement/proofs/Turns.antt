-- How many turns a scan takes: one for each tile, and two for each of its fields in the card, are at most two for each of its words there.
use Rattle.std.proofs.Common.{◌≡◌, ◌+◌, ◌-◌, ◌*◌, ◌/◌, ◌%◌, ◌<◌, ◌≤◌, inl, inr, ℕ, Some, List, [], ◌∷◌}
use Rattle.std.proofs.Common.{length, max, refl, sym, ap, subst, arith}
use Rattle.std.proofs.lemmas.Bool.{cases_lt}
use Rattle.heap_words.specs.declared.addr.Addr.{Addr}
use Rattle.regions.specs.Tiles.{Tile, Object, Filler, Forwarded, tile_size}
use Rattle.regions.specs.Table.{Table, tile_in, tile_object, object_at, object_fields, fields_at}
use Rattle.regions.specs.Shapes.{size_of_shape, tile_shape}
use Rattle.regions.specs.Walks.{AllPositive, IsHolder, IsPlacedTile, placed, tiles_from, tiles_of, walk_rest}
use Rattle.regions.specs.Shaped.{IsShaped}
use Rattle.regions.specs.declared.row.Shape.{Shape}
use Rattle.regions.proofs.Words.FieldAccess.{count_fields}
use Rattle.regions.proofs.Walks.WalkFrom.{cut_at, tile_listed}
use Rattle.regions.proofs.Walks.WalkLaws.{cut_step}
use Rattle.regions.proofs.Walks.WalkMade.{positive_at, shape_size_is}
use Rattle.refinement.specs.Turns.{card_fields, scan_turns}
use Rattle.refinement.proofs.Counted.{onward_positive}

-- each tile has words and ends after the word `from`, and it starts where the one before it ends, or above
abbrev pub Follow : ℕ → ℕ → List (Addr × Shape) → Type 0
Follow from low [] = Unit {0}
Follow from low (x ∷ xs) = (low ≤ x.0) × (max from x.0 < x.0 + size_of_shape x.1) × Follow from (x.0 + size_of_shape x.1) xs

placed_follow : (from low a : ℕ) (ts : List Tile) → AllPositive ts → from ≤ a → low ≤ a → Follow from low (placed a ts)
placed_follow from low a [] p f l = tt
placed_follow from low a (u ∷ us) p f l =
    let size = shape_size_is u in (
      l,
      omega (arith, size, p.0),
      placed_follow from (a + size_of_shape (tile_shape u)) (a + tile_size u) us p.1 (omega arith) (omega (arith, size)),
    )

holder_follow : (t : Table) (first from : ℕ) → IsShaped t → IsHolder t first from
    → Follow from first (walk_rest t (first / t.words_per_region) (first % t.words_per_region))
holder_follow t first from g h =
    let n : ℕ = t.words_per_region in
    let k : ℕ = first / n in
    let o : ℕ = first % n in
    let ts : List Tile = tiles_of t k in
    let z = g.positive in
    let whole : first / n * n + first % n ≡ first = omega arith in
    let here = tile_listed t first h.tile h.tile_is in
    let fitting = g.fitting k in
    let pos = positive_at o ts h.tile fitting.positive here.0 in
    let step = cut_step o (o + tile_size h.tile) ts h.tile (cut_at ts o h.tile here.0).0 here.0
    pos refl in
    let rest : List (Addr × Shape) = placed (k * n + o + tile_size h.tile) (tiles_from (o + tile_size h.tile) ts) in
    let left : walk_rest t k o ≡ (k * n + o, tile_shape h.tile) ∷ rest = ap (placed (k * n + o)) step.rest_is in
    let high = h.high in
    let size = shape_size_is h.tile in
    subst (λ (l : List (Addr × Shape)). Follow from first l) (sym left) (
      omega (arith, whole),
      omega (arith, whole, size, pos),
      placed_follow from (k * n + o + size_of_shape (tile_shape h.tile)) (k * n + o + tile_size h.tile)
          (tiles_from (o + tile_size h.tile) ts) (onward_positive (o + tile_size h.tile) ts fitting.positive) (omega (arith, whole))
          (omega (arith, size)),
    )

-- a scan of a card of `len` words has so many turns behind it, and comes to tiles that start at `low` or above, where the last one ended
pub record IsSpent (len card before spent : ℕ) (left : List (Addr × Shape)) : Type 0 where
  pub low : ℕ
  pub follow : Follow (card * len) low left
  pub room : low < card * len + len
  pub none : low ≤ card * len → spent ≤ before
  pub within : spent ≤ before + 2 * (low - card * len) + 1

pub spent_first : (t : Table) (len card first before : ℕ) (left : List (Addr × Shape)) → IsShaped t → 0 < len
    → IsHolder t first (card * len) → left ≡ walk_rest t (first / t.words_per_region) (first % t.words_per_region)
    → IsSpent len card before before left
spent_first t len card first before left g z h e =
    let low = h.low in
    record {
      low = first;
      follow = subst (λ (l : List (Addr × Shape)). Follow (card * len) first l) (sym e) (holder_follow t first (card * len) g h);
      room = omega arith;
      none = λ l. omega arith;
      within = omega arith;
    }

-- an object's fields are among its words
pub fields_fit : (t : Table) (a : ℕ) (shape : Shape) → IsPlacedTile t a shape → length (fields_at t a) ≤ size_of_shape shape - 2
unfolding object_at fields_at
fields_fit t a shape h = go h.tile h.tile_is h.shape_is
  where
    go : (u : Tile) → tile_in t a ≡ Some u → shape ≡ tile_shape u
        → length (object_fields (tile_object (tile_in t a))) ≤ size_of_shape shape - 2
    go (Object s) e f = rw (e, f) (omega (arith, count_fields s))
    go (Filler m) e f = rw (e, f) (omega arith)
    go (Forwarded to m) e f = rw (e, f) (omega arith)

-- a tile that starts below the card's end is scanned
module _ (len card before spent x count : ℕ) (shape : Shape) (left rest : List (Addr × Shape)) (s : IsSpent len card before spent left)
    (e : left ≡ (x, shape) ∷ rest) (below : x < card * len + len) (fit : count ≤ size_of_shape shape - 2) (now : ℕ)
    (turns : now ≤ spent + 1 + 2 * card_fields len card x count) where
  split : Follow (card * len) s.low ((x, shape) ∷ rest)
  split = subst (λ (l : List (Addr × Shape)). Follow (card * len) s.low l) e s.follow

  -- and ends below it too
  pub spent_next : x + size_of_shape shape < card * len + len → IsSpent len card before now rest
  spent_next ends =
      let (low, high, more) = split in
      let spent_is : now ≤ before + 2 * (x + size_of_shape shape - card * len) + 1 = elim (cases_lt (card * len) s.low) [
        | inl later ↦ let w = s.within in omega (arith, w, low, high, later, turns, fit)
        | inr first ↦ let w = s.none first in omega (arith, w, turns, fit)
      ] in
      record {
        low = x + size_of_shape shape;
        follow = more;
        room = ends;
        none = λ l. absurd (omega (arith, l, high));
        within = spent_is;
      }

  -- or doesn't
  pub spent_last : now ≤ before + scan_turns len
  spent_last =
      let (low, high, more) = split in
      elim (cases_lt (card * len) s.low) [
        | inl later ↦ let w = s.within in omega (arith, w, low, later, turns, below)
        | inr first ↦ let w = s.none first in omega (arith, w, turns)
      ]

-- a tile that starts at the card's end or above it is a turn more
pub spent_past : (len card before spent : ℕ) (left : List (Addr × Shape)) → IsSpent len card before spent left
    → spent + 1 ≤ before + scan_turns len
spent_past len card before spent left s = elim (cases_lt (card * len) s.low) [
  | inl later ↦ let w = s.within in let r = s.room in omega (arith, w, r, later)
  | inr first ↦ let w = s.none first in omega (arith, w)
]

pub spent_end : (len card before spent : ℕ) (left : List (Addr × Shape)) → IsSpent len card before spent left
    → spent ≤ before + scan_turns len
spent_end len card before spent left s = let w = s.within in let r = s.room in omega (arith, w, r)
