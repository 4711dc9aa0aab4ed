-- The tiles of a region by parts.
use Rattle.std.proofs.Common.{◌≡◌, ℕ, suc, ◌+◌, ◌*◌, ◌<◌, ◌≤◌, Bool, List, [], ◌∷◌}
use Rattle.std.proofs.Common.{length, refl, ap, ◌∙◌, subst, zero-add, arith}
use Rattle.std.specs.Prelude.{IsSome}
use Rattle.std.proofs.Math.Nat.{mul-le-mul_right}
use Rattle.heap_words.specs.declared.addr.Addr.{Addr}
use Rattle.regions.specs.declared.row.Shape.{Shape}
use Rattle.regions.specs.Tiles.{Tile, Object, Filler, Forwarded, tile_size, total_size}
use Rattle.regions.specs.Shapes.{tile_shape, size_of_shape}
use Rattle.regions.specs.Table.{Table, Region, Free, Ordinary, First, Rest, nth_region, kind_of, object_at}
use Rattle.regions.specs.Walks.{placed, tiles_of}
use Rattle.regions.specs.Shaped.{IsShaped}
use Rattle.regions.proofs.Tiles.ShapedMade.{first_object}
use Rattle.refinement.proofs.Holders.{object_within}
use Rattle.step_core.specs.Stands.{CoreState}
use Rattle.step_core.proofs.Objects.{object_word}
use Rattle.heap_dump.specs.declared.shares.Part.{Part}
use Rattle.heap_dump.specs.declared.shares.Part.TheVariants as parts
use Rattle.heap_dump.specs.Shares.{words_if, words_in, part_in}

-- an object starts at a word that may be marked
pub marked_word : (c : CoreState) (t : Table) (marks : List Bool) (a : ℕ)
    → length marks ≡ length c.table.regions * c.table.words_per_region → t ≡ c.table → IsShaped t → IsSome (object_at c.table a)
    → a < length marks
marked_word c t marks a all same shaped there =
    let word = object_word c.table a (subst IsShaped same shaped) there in omega (arith, all, word)

-- ---- tiles by parts

-- a part has no more words than the tiles have
sizes : List (Addr × Shape) → ℕ
sizes [] = 0
sizes (x ∷ xs) = size_of_shape x.1 + sizes xs

at_most : (p q : Part) (n : ℕ) → words_if p q n ≤ n
at_most parts.Marked parts.Marked n = omega arith
at_most parts.Dead parts.Dead n = omega arith
at_most parts.New parts.New n = omega arith
at_most parts.Filler parts.Filler n = omega arith
at_most _ _ n = omega arith

within_sizes : (c : CoreState) (p : Part) (xs : List (Addr × Shape)) → words_in c p xs ≤ sizes xs
unfolding sizes
within_sizes c p [] = omega arith
within_sizes c p (x ∷ xs) = let a = at_most p (part_in c x.0 x.1) (size_of_shape x.1) in let b = within_sizes c p xs in omega arith

shape_size : (t : Tile) → size_of_shape (tile_shape t) ≡ tile_size t
shape_size (Object s) = refl
shape_size (Filler n) = refl
shape_size (Forwarded to n) = refl

placed_sizes : (a : ℕ) (ts : List Tile) → sizes (placed a ts) ≡ total_size ts
unfolding sizes
placed_sizes a [] = refl
placed_sizes a (t ∷ ts) = let e = shape_size t in let f = placed_sizes (a + tile_size t) ts in omega arith

suc-le : (k n : ℕ) → k < n → suc k ≤ n
suc-le k n h = omega arith

one_more : (k w : ℕ) → suc k * w ≡ w + k * w
one_more k w = omega arith

-- the tiles of a region have no more words than the heap
in_heap : (t : Table) (k : ℕ) → IsShaped t → k < length t.regions → total_size (tiles_of t k) ≤ length t.regions * t.words_per_region
unfolding tiles_of kind_of
in_heap t k shaped known = go (nth_region t k) refl
  where
    go : (r : Region) → nth_region t k ≡ r → total_size (tiles_of t k) ≤ length t.regions * t.words_per_region
    go Free e = rw e (omega arith)
    go (Ordinary ts) e =
        let fits : total_size ts ≤ t.words_per_region = rw e at ((shaped.fitting k).fits (rw e refl)) in
        let few : suc k * t.words_per_region ≤ length t.regions * t.words_per_region =
        mul-le-mul_right t.words_per_region (suc-le k (length t.regions) known) in
        let one : suc k * t.words_per_region ≡ t.words_per_region + k * t.words_per_region = one_more k t.words_per_region in
        rw e (omega arith)
    go (First s) e =
        let w = object_within t (k * t.words_per_region) s shaped (first_object t k s shaped.positive e) in
        rw e (omega (arith, w))
    go (Rest n) e = rw e (omega arith)

pub part_fits : (c : CoreState) (p : Part) (k : ℕ) → IsShaped c.table → k < length c.table.regions
    → words_in c p (placed (k * c.table.words_per_region) (tiles_of c.table k)) ≤ 2147483648
part_fits c p k shaped known =
    let a = within_sizes c p (placed (k * c.table.words_per_region) (tiles_of c.table k)) in
    let b = placed_sizes (k * c.table.words_per_region) (tiles_of c.table k) in
    let d = in_heap c.table k shaped known in
    let e = shaped.in_all in
    omega (arith, a, b, d, e)

-- at the beginning of a walk all is left
pub all_left : (c : CoreState) (p : Part) (xs ys : List (Addr × Shape)) → xs ≡ ys → 0 + words_in c p xs ≡ words_in c p ys
all_left c p xs ys e = zero-add (words_in c p xs) ∙ ap (words_in c p) e
