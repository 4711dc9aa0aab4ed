-- What a walk goes over: tiles of the table, and all of its region's from where it begins.
use Rattle.regions.proofs.Common.{◌≡◌, ◌+◌, ◌-◌, ◌*◌, ◌/◌, ◌%◌, ◌<◌, ◌≤◌, ◌∷◌, ◌∙◌, ℕ, zero, suc, Some, List, [], inl, inr, ⊎_elim, refl}
use Rattle.regions.proofs.Common.{sym, ap, subst, arith, le-leb, Tile, tile_size, tile_at, Table, tile_in, AllPositive, IsCut, tiles_of}
use Rattle.regions.proofs.Common.{tiles_from, placed, walk_rest, IsShaped}
use Rattle.regions.specs.Walks.{IsAmong, ArePlaced}
use Rattle.regions.proofs.Words.Parse.{past}
use Rattle.regions.proofs.Walks.WalkFrom.{cut_at, tile_listed, listed_tile}

-- the tile at an offset is among those placed from b on
among_placed : (ts : List Tile) (b o n : ℕ) (u : Tile) → tile_at o ts ≡ Some u → n ≡ b + o → IsAmong n (placed b ts)
among_placed [] b o n u f e = cc
among_placed (t ∷ ts) b zero n u f e = inl (omega arith)
among_placed (t ∷ ts) b (suc o) n u f e =
    let p = past (tile_size t) (suc o) _ u f in
    inr (among_placed ts (b + tile_size t) (suc o - tile_size t) n u p.1 (omega (arith, p.0)))

among_above : (ts : List Tile) (b a : ℕ) → IsAmong a (placed b ts) → b ≤ a
among_above [] b a h = absurd h
among_above (t ∷ ts) b a h = ⊎_elim (λ e. omega arith) (λ q. let i = among_above ts (b + tile_size t) a q in omega arith) h

pub tile_behind : (t : Tile) (ts : List Tile) (p n : ℕ) (u : Tile) → 0 < tile_size t → n ≡ tile_size t + p
    → tile_at p ts ≡ Some u → tile_at n (t ∷ ts) ≡ Some u
tile_behind t ts p zero u z e f = absurd (omega arith)
tile_behind t ts p (suc n) u z e f =
    let q : suc n - tile_size t ≡ p = omega arith in
    rw (le-leb (tile_size t) (suc n) (omega arith), q) f

from_positive : (o : ℕ) (ts : List Tile) → AllPositive ts → AllPositive (tiles_from o ts)
from_positive zero ts p = p
from_positive (suc o) [] p = tt
from_positive (suc o) (t ∷ ts) p = from_positive (suc o - tile_size t) ts p.1

from_tile : (o : ℕ) (ts : List Tile) (p : ℕ) (u : Tile) → AllPositive ts → IsCut o ts
    → tile_at p (tiles_from o ts) ≡ Some u → tile_at (o + p) ts ≡ Some u
from_tile zero ts p u z c f = ap (λ (n : ℕ). tile_at n ts) (omega arith) ∙ f
from_tile (suc o) [] p u z c f = absurd c
from_tile (suc o) (t ∷ ts) p u z c f =
    tile_behind t ts (suc o - tile_size t + p) (suc o + p) u z.0 (omega (arith, c.0)) (from_tile (suc o - tile_size t) ts p u z.1 c.1 f)

tile_from : (o : ℕ) (ts : List Tile) (n p : ℕ) (u : Tile) → IsCut o ts → n + o ≡ p
    → tile_at p ts ≡ Some u → tile_at n (tiles_from o ts) ≡ Some u
tile_from zero ts n p u c e f = ap (λ (m : ℕ). tile_at m ts) (omega arith) ∙ f
tile_from (suc o) [] n p u c e f = absurd c
tile_from (suc o) (t ∷ ts) n zero u c e f = absurd (omega arith)
tile_from (suc o) (t ∷ ts) n (suc p) u c e f =
    let q = past (tile_size t) (suc p) _ u f in
    tile_from (suc o - tile_size t) ts n (suc p - tile_size t) u c.1 (omega (arith, c.0, q.0)) q.1

placed_from : (t : Table) (k o : ℕ) (rest : List Tile) → IsShaped t → AllPositive rest
    → ((p : ℕ) (u : Tile) → tile_at p rest ≡ Some u → tile_at (o + p) (tiles_of t k) ≡ Some u)
    → ArePlaced t (placed (k * t.words_per_region + o) rest)
placed_from t k o [] g p f = tt
placed_from t k o (u ∷ us) g p f =
    let size : ℕ = t.words_per_region in
    let here : tile_at o (tiles_of t k) ≡ Some u = ap (λ (n : ℕ). tile_at n (tiles_of t k)) (omega arith) ∙ f 0 u refl in
    let more = placed_from t k (o + tile_size u) us g p.1
    (λ q v h.
    ap (λ (n : ℕ). tile_at n (tiles_of t k)) (omega arith) ∙ f (tile_size u + q) v (tile_behind u us q (tile_size u + q) v p.0 refl h)) in (
      record { tile = u; tile_is = listed_tile t k o u g here; shape_is = refl },
      λ a h. let x = among_above us (k * size + o + tile_size u) a h in omega arith,
      subst (λ (n : ℕ). ArePlaced t (placed n us)) (omega arith) more,
    )

-- the same for a walk that begins at a tile
pub onward_placed : (t : Table) (a : ℕ) (u : Tile) → IsShaped t → tile_in t a ≡ Some u
    → ArePlaced t (walk_rest t (a / t.words_per_region) (a % t.words_per_region))
onward_placed t a u g f =
    let k : ℕ = a / t.words_per_region in
    let o : ℕ = a % t.words_per_region in
    let l = tile_listed t a u f in
    let c = cut_at (tiles_of t k) o u l.0 in
    let fitting = g.fitting k in
    placed_from t k o (tiles_from o (tiles_of t k)) g (from_positive o (tiles_of t k) fitting.positive)
    (λ p v q. from_tile o (tiles_of t k) p v fitting.positive c.0 q)

pub onward_among : (t : Table) (a b : ℕ) (u v : Tile) → 0 < t.words_per_region → tile_in t a ≡ Some u → tile_in t b ≡ Some v → a ≤ b
    → b / t.words_per_region ≡ a / t.words_per_region → IsAmong b (walk_rest t (a / t.words_per_region) (a % t.words_per_region))
onward_among t a b u v z f h le d =
    let n : ℕ = t.words_per_region in
    let k : ℕ = a / n in
    let x : a / n * n + a % n ≡ a = omega arith in
    let w : b / n * n + b % n ≡ b = omega arith in
    let y : k * n + b % n ≡ b = ap (λ (m : ℕ). m * n + b % n) (sym d) ∙ w in
    let l = tile_listed t a u f in
    let r = tile_listed t b v h in
    let c = cut_at (tiles_of t k) (a % n) u l.0 in
    let there = tile_from (a % n) (tiles_of t k) (b % n - a % n) (b % n) v c.0 (omega (arith, x, y))
    (ap (λ (m : ℕ). tile_at (b % n) (tiles_of t m)) (sym d) ∙ r.0) in
    among_placed (tiles_from (a % n) (tiles_of t k)) (k * n + a % n) (b % n - a % n) b v there (omega (arith, x, y))

tiles_apart : (ts : List Tile) (o p : ℕ) (u v : Tile) → tile_at o ts ≡ Some u → tile_at p ts ≡ Some v → o < p → o + tile_size u ≤ p
tiles_apart [] o p u v f g h = cc
tiles_apart (t ∷ ts) o zero u v f g h = absurd (omega arith)
tiles_apart (t ∷ ts) zero (suc p) u v f g h =
    let e : t ≡ u = cc in
    let s : tile_size t ≡ tile_size u = ap tile_size e in
    let q = past (tile_size t) (suc p) _ v g in
    omega (arith, q.0)
tiles_apart (t ∷ ts) (suc o) (suc p) u v f g h =
    let a = past (tile_size t) (suc o) _ u f in
    let b = past (tile_size t) (suc p) _ v g in
    let i = tiles_apart ts (suc o - tile_size t) (suc p - tile_size t) u v a.1 b.1 (omega (arith, a.0, b.0)) in
    omega (arith, a.0, b.0, i)

-- tiles of one region lie apart
pub apart : (t : Table) (a b : ℕ) (u v : Tile) → 0 < t.words_per_region → b / t.words_per_region ≡ a / t.words_per_region
    → tile_in t a ≡ Some u → tile_in t b ≡ Some v → a < b → a + tile_size u ≤ b
apart t a b u v z d f g h =
    let n : ℕ = t.words_per_region in
    let k : ℕ = a / n in
    let x : a / n * n + a % n ≡ a = omega arith in
    let w : b / n * n + b % n ≡ b = omega arith in
    let y : k * n + b % n ≡ b = ap (λ (m : ℕ). m * n + b % n) (sym d) ∙ w in
    let l = tile_listed t a u f in
    let r = tile_listed t b v g in
    let i = tiles_apart (tiles_of t k) (a % n) (b % n) u v l.0
    (ap (λ (m : ℕ). tile_at (b % n) (tiles_of t m)) (sym d) ∙ r.0) (omega (arith, x, y)) in
    omega (arith, x, y, i)

-- each item of a region's walk is a tile of the table
pub walk_placed : (t : Table) (k : ℕ) → IsShaped t → ArePlaced t (placed (k * t.words_per_region) (tiles_of t k))
walk_placed t k g =
    let fitting = g.fitting k in
    let all = placed_from t k 0 (tiles_of t k) g fitting.positive (λ p u f. ap (λ (n : ℕ). tile_at n (tiles_of t k)) (omega arith) ∙ f) in
    subst (λ (n : ℕ). ArePlaced t (placed n (tiles_of t k))) (omega arith) all
