-- How many words of a region are handed out when tiles give way to others.
use Rattle.regions.proofs.Common.{◌≡◌, ◌+◌, ◌-◌, ◌/◌, ◌%◌, ◌∷◌, ◌++◌, ◌∙◌, ℕ, zero, suc, min, Some, List, [], get_or, refl, sym, ap, arith}
use Rattle.regions.proofs.Common.{inl, inr, get_or-set_same, get_or-set_other, cases_eq, Stored, Tile, Object, tile_size, tile_at, replace}
use Rattle.regions.proofs.Common.{total_size, Region, Free, Ordinary, First, Table, region_tile, region_used, nth_region, used_of}
use Rattle.regions.proofs.Common.{with_region, with_object, region_at, tile_in, object_at, put_object}
use Rattle.regions.proofs.Words.Parse.{past}
use Rattle.regions.proofs.Tiles.Laws.{object_tile, known_region}

pub total-append : (ts us : List Tile) → total_size (ts ++ us) ≡ total_size ts + total_size us
total-append [] us = omega arith
total-append (t ∷ ts) us = let i = total-append ts us in omega (arith, i)

pub total-replace : (ts new : List Tile) (o : ℕ) (u : Tile) → tile_at o ts ≡ Some u → total_size new ≡ tile_size u
    → total_size (replace o new ts) ≡ total_size ts
total-replace [] new o u f e = refl
total-replace (t ∷ ts) new zero u f e =
    let same : t ≡ u = cc in
    let size : tile_size t ≡ tile_size u = ap tile_size same in
    omega (arith, total-append new ts)
total-replace (t ∷ ts) new (suc o) u f e =
    let p = past (tile_size t) (suc o) _ u f in
    ap (λ (n : ℕ). tile_size t + n) (total-replace ts new (suc o - tile_size t) u p.1 e)

used_with : (size : ℕ) (r : Region) (o : ℕ) (s s' : Stored) → region_tile r o ≡ Some (Object s)
    → tile_size (Object s') ≡ tile_size (Object s) → region_used size (with_object r o s') ≡ region_used size r
used_with size (Ordinary ts) o s s' h e = total-replace ts (Object s' ∷ []) o (Object s) h (omega (arith, e))
used_with size (First q) zero s s' h e = let same : q ≡ s = cc in ap (min size) (e ∙ ap (λ (x : Stored). tile_size (Object x)) (sym same))
used_with size (First q) (suc o) s s' h e = cc
used_with size _ o s s' h e = refl

-- a region gives way to one of which as much is handed out
pub used_same : (t : Table) (k : ℕ) (r : Region) (o : ℕ) (u : Tile) → region_tile (nth_region t k) o ≡ Some u
    → region_used t.words_per_region r ≡ used_of t k → (j : ℕ) → used_of (with_region t k r) j ≡ used_of t j
unfolding used_of nth_region
used_same t k r o u h e j = elim (cases_eq j k) [
  | inl q ↦ rw q (ap (region_used t.words_per_region) (get_or-set_same t.regions k r Free (known_region t.regions k o u h)) ∙ e)
  | inr q ↦ ap (region_used t.words_per_region) (get_or-set_other t.regions k j r Free q)
]

-- an object gives way to one of its size
pub used_put : (t : Table) (x : ℕ) (s s' : Stored) (k : ℕ) → object_at t x ≡ Some s → tile_size (Object s') ≡ tile_size (Object s)
    → used_of (put_object t x s') k ≡ used_of t k
unfolding used_of nth_region put_object region_at object_at tile_in
used_put t x s s' k h e =
    let tile = object_tile _ s h in
    let j : ℕ = x / t.words_per_region in
    let r : Region = with_object (get_or t.regions j Free) (x % t.words_per_region) s' in
    used_same t j r (x % t.words_per_region) (Object s) tile
    (used_with t.words_per_region (get_or t.regions j Free) (x % t.words_per_region) s s' tile e) k
