-- Laws of tables, with no word in them.
use Rattle.regions.proofs.Common.{◌≡◌, ◌≢◌, ◌+◌, ◌-◌, ◌*◌, ◌/◌, ◌%◌, ◌<◌, ◌∷◌, ◌∙◌, ℕ, zero, suc, Option, Some, None, List, [], length}
use Rattle.regions.proofs.Common.{get_or, refl, sym, ap, arith, inl, inr, get_or-set_same, get_or-set_other, cases_eq, le-leb, leb_tells}
use Rattle.regions.proofs.Common.{Stored, Tile, Object, Filler, Forwarded, tile_size, tile_at, replace, Region, Free, Ordinary, First, Rest}
use Rattle.regions.proofs.Common.{Table, region_tile, region_at, tile_in, tile_object, object_at, with_object, put_object}
use Rattle.regions.proofs.Words.Parse.{past}

pub tile_at-replace_same : (ts : List Tile) (o : ℕ) (t t' : Tile) → tile_at o ts ≡ Some t → tile_at o (replace o (t' ∷ []) ts) ≡ Some t'
tile_at-replace_same [] o t t' f = cc
tile_at-replace_same (u ∷ ts) zero t t' f = refl
tile_at-replace_same (u ∷ ts) (suc o) t t' f =
    let p = past (tile_size u) (suc o) _ t f in
    let i = tile_at-replace_same ts (suc o - tile_size u) t t' p.1 in
    rw (le-leb (tile_size u) (suc o) p.0) i

pub tile_at-replace_other : (ts : List Tile) (o y : ℕ) (t t' : Tile) → tile_at o ts ≡ Some t → tile_size t' ≡ tile_size t → y ≢ o
    → tile_at y (replace o (t' ∷ []) ts) ≡ tile_at y ts
tile_at-replace_other (u ∷ ts) zero zero t t' f e h = absurd (h refl)
tile_at-replace_other (u ∷ ts) zero (suc y) t t' f e h =
    let same : u ≡ t = cc in
    let size : tile_size t' ≡ tile_size u = e ∙ ap tile_size (sym same) in
    rw size refl
tile_at-replace_other (u ∷ ts) (suc o) (suc y) t t' f e h =
    let p = past (tile_size u) (suc o) _ t f in
    elim (leb_tells (tile_size u) (suc y)) [
      | inl q ↦
          rw q.0 (tile_at-replace_other ts (suc o - tile_size u) (suc y - tile_size u) t t' p.1 e (λ k. h (omega (arith, k, q.1, p.0))))
      | inr q ↦ rw q.0 refl
    ]
tile_at-replace_other _ _ _ t t' f e h = refl

-- what is an object is its tile
pub object_tile : (t : Option Tile) (s : Stored) → tile_object t ≡ Some s → t ≡ Some (Object s)
object_tile (Some (Object r)) s h = cc
object_tile (Some (Filler n)) s h = cc
object_tile (Some (Forwarded to n)) s h = cc
object_tile None s h = cc

pub tile_of : (t : Table) (a : ℕ) (s : Stored) → object_at t a ≡ Some s → tile_in t a ≡ Some (Object s)
unfolding object_at
tile_of t a s h = object_tile (tile_in t a) s h

region_same : (r : Region) (o : ℕ) (s s' : Stored) → region_tile r o ≡ Some (Object s)
    → region_tile (with_object r o s') o ≡ Some (Object s')
region_same (Ordinary ts) o s s' h = tile_at-replace_same ts o (Object s) (Object s') h
region_same (First q) zero s s' h = refl
region_same _ _ s s' h = cc

region_other : (r : Region) (o y : ℕ) (s s' : Stored) → region_tile r o ≡ Some (Object s) → tile_size (Object s') ≡ tile_size (Object s)
    → y ≢ o → region_tile (with_object r o s') y ≡ region_tile r y
region_other Free o y s s' h e n = refl
region_other (Ordinary ts) o y s s' h e n = tile_at-replace_other ts o y (Object s) (Object s') h e n
region_other (First q) zero zero s s' h e n = absurd (n refl)
region_other (First q) zero (suc y) s s' h e n = refl
region_other (First q) (suc o) y s s' h e n = cc
region_other (Rest n) o y s s' h e m = refl

pub known_region : (rs : List Region) (k o : ℕ) (s : Tile) → region_tile (get_or rs k Free) o ≡ Some s → k < length rs
known_region [] k o s h = cc
known_region (r ∷ rs) zero o s h = omega arith
known_region (r ∷ rs) (suc k) o s h = let i = known_region rs k o s h in omega arith

-- the object at the address is the new one
pub object_at-put_same : (t : Table) (x : ℕ) (s s' : Stored) → object_at t x ≡ Some s → object_at (put_object t x s') x ≡ Some s'
unfolding object_at tile_in region_at put_object
object_at-put_same t x s s' h =
    let k : ℕ = x / t.words_per_region in
    let tile = object_tile _ s h in
    let e = get_or-set_same t.regions k (with_object (get_or t.regions k Free) (x % t.words_per_region) s')
    Free (known_region t.regions k _ _ tile) in
    rw (e, region_same _ _ s s' tile) refl

pub same_place : (y x size : ℕ) → 0 < size → y / size ≡ x / size → y % size ≡ x % size → y ≡ x
same_place y x size z e f =
    let a : y / size * size + y % size ≡ y = omega arith in
    let b : x / size * size + x % size ≡ x = omega arith in
    sym a ∙ rw (e, f) b

-- every other tile is as it was
pub tile_in-put_other : (t : Table) (x y : ℕ) (s s' : Stored) → 0 < t.words_per_region → object_at t x ≡ Some s
    → tile_size (Object s') ≡ tile_size (Object s) → y ≢ x → tile_in (put_object t x s') y ≡ tile_in t y
unfolding object_at tile_in region_at put_object
tile_in-put_other t x y s s' z h e n =
    let size : ℕ = t.words_per_region in
    let tile = object_tile _ s h in
    let r : Region = with_object (get_or t.regions (x / size) Free) (x % size) s' in
    elim (cases_eq (y / size) (x / size)) [
      | inl q ↦
          let p = get_or-set_same t.regions (x / size) r Free (known_region t.regions (x / size) _ _ tile) in
          let apart : y % size ≢ x % size = λ k. n (same_place y x size z q k) in
          rw (q, p) (region_other _ (x % size) (y % size) s s' tile e apart)
      | inr q ↦ rw (get_or-set_other t.regions (x / size) (y / size) r Free q) refl
    ]
