-- Which objects stay where they are when the table changes. No word is in it.
-- an object stands at the address before and after, of one size
use Rattle.regions.proofs.Common.{get_or-set_other, region_with_tile, get_or-set_same, region_replaced, EachForwardedIn, EachForwarded, ◌≡◌}
use Rattle.regions.proofs.Common.{replace_tile, region_tile, with_object, with_region, AllPositive, total_size, put_object, nth_region, ◌≢◌}
use Rattle.regions.proofs.Common.{HasTargets, Forwarded, tile_size, region_at, object_at, push_tile, HasObject, cases_eq, Ordinary, tile_at}
use Rattle.regions.proofs.Common.{replace, tile_in, get_or, le-leb, Stored, Object, Filler, Region, arith, First, Table, ◌++◌, zero, Some}
use Rattle.regions.proofs.Common.{None, List, refl, Tile, Free, Rest, ◌+◌, ◌-◌, ◌/◌, ◌%◌, ◌<◌, ◌∷◌, ◌∙◌, suc, sym, inl, inr, [], ap, ℕ}
use Rattle.regions.proofs.Words.Parse.{past}
use Rattle.regions.proofs.Tiles.Laws.{object_tile, object_at-put_same, tile_in-put_other, same_place, known_region}
use Rattle.regions.proofs.Words.Sizes.{EachForwardedIn-imp, EachForwardedIn-set, EachForwardedIn-at, EachForwarded-append}
use Rattle.regions.proofs.Words.Sizes.{EachForwarded-replace}

pub record IsKept (t u : Table) (x : ℕ) : Type 0 where
  pub before : Stored
  pub before_is : object_at t x ≡ Some before
  pub after : Stored
  pub after_is : object_at u x ≡ Some after
  pub size_is : tile_size (Object after) ≡ tile_size (Object before)

pub same_object : (t u : Table) (x : ℕ) → (o : HasObject t x) → object_at u x ≡ Some o.object → IsKept t u x
same_object t u x o e = record { before = o.object; before_is = o.is; after = o.object; after_is = e; size_is = refl }

-- both facts of each moved tile
pub EachForwarded-both : (P Q : ℕ → Type 0) (ts : List Tile) → EachForwarded P ts
    → EachForwarded Q ts → EachForwarded (λ to. P to × Q to) ts
EachForwarded-both P Q [] a b = tt
EachForwarded-both P Q (Object s ∷ ts) a b = EachForwarded-both P Q ts a b
EachForwarded-both P Q (Filler n ∷ ts) a b = EachForwarded-both P Q ts a b
EachForwarded-both P Q (Forwarded to n ∷ ts) a b = ((a.0, b.0), EachForwarded-both P Q ts a.1 b.1)

pub EachForwardedIn-both : (P Q : ℕ → Type 0) (rs : List Region) → EachForwardedIn P rs → EachForwardedIn Q rs
    → EachForwardedIn (λ to. P to × Q to) rs
EachForwardedIn-both P Q [] a b = tt
EachForwardedIn-both P Q (Free ∷ rs) a b = EachForwardedIn-both P Q rs a b
EachForwardedIn-both P Q (Ordinary ts ∷ rs) a b = (EachForwarded-both P Q ts a.0 b.0, EachForwardedIn-both P Q rs a.1 b.1)
EachForwardedIn-both P Q (First s ∷ rs) a b = EachForwardedIn-both P Q rs a b
EachForwardedIn-both P Q (Rest n ∷ rs) a b = EachForwardedIn-both P Q rs a b

-- an object outlives a change of one region that keeps it
pub object_at-region : (t : Table) (k : ℕ) (r : Region) (x : ℕ) (s : Stored) → object_at t x ≡ Some s
    → (k ≡ x / t.words_per_region → region_tile (get_or t.regions k Free) (x % t.words_per_region) ≡ Some (Object s)
    → region_tile r (x % t.words_per_region) ≡ Some (Object s)) → object_at (with_region t k r) x ≡ Some s
unfolding object_at tile_in region_at
object_at-region t k r x s h keep =
    let tile = object_tile _ s h in
    elim (cases_eq (x / t.words_per_region) k) [
      | inl q ↦
          let tile' : region_tile (get_or t.regions k Free) (x % t.words_per_region) ≡ Some (Object s) = rw q at tile in
          let e = get_or-set_same t.regions k r Free (known_region t.regions k _ _ tile') in
          rw (q, e, keep (sym q) tile') refl
      | inr q ↦ rw (get_or-set_other t.regions k (x / t.words_per_region) r Free q) h
    ]

tile_at-append : (ts us : List Tile) (o : ℕ) (t : Tile) → tile_at o ts ≡ Some t → tile_at o (ts ++ us) ≡ Some t
tile_at-append [] us o t h = cc
tile_at-append (u ∷ ts) us zero t h = h
tile_at-append (u ∷ ts) us (suc o) t h =
    let p = past (tile_size u) (suc o) _ t h in
    rw (le-leb (tile_size u) (suc o) p.0) (tile_at-append ts us (suc o - tile_size u) t p.1)

push_keeps : (r : Region) (tile : Tile) (o : ℕ) (s : Stored) → region_tile r o ≡ Some (Object s)
    → region_tile (region_with_tile r tile) o ≡ Some (Object s)
push_keeps (Ordinary ts) tile o s h = tile_at-append ts (tile ∷ []) o (Object s) h
push_keeps _ tile o s h = h

-- behind tiles
pub tile_at-behind : (new ts : List Tile) (o z : ℕ) → AllPositive new → o ≡ total_size new + z → tile_at o (new ++ ts) ≡ tile_at z ts
tile_at-behind [] ts o z a e = ap (λ m. tile_at m ts) (let f : o ≡ z = omega arith in f)
tile_at-behind (u ∷ new) ts zero z a e = absurd (omega (arith, a.0))
tile_at-behind (u ∷ new) ts (suc o) z a e =
    rw (le-leb (tile_size u) (suc o) (omega arith)) (tile_at-behind new ts (suc o - tile_size u) z a.1 (omega arith))

-- a tile gives way to others of its size in all: each other tile stays
pub tile_at-replaced : (ts new : List Tile) (o y : ℕ) (old t : Tile) → AllPositive new → total_size new ≡ tile_size old
    → tile_at o ts ≡ Some old → y ≢ o → tile_at y ts ≡ Some t → tile_at y (replace o new ts) ≡ Some t
tile_at-replaced [] new o y old t a e f n h = cc
tile_at-replaced (u ∷ ts) new zero zero old t a e f n h = absurd (n refl)
tile_at-replaced (u ∷ ts) new zero (suc y) old t a e f n h =
    let same : u ≡ old = cc in
    let size : tile_size u ≡ tile_size old = ap tile_size same in
    let p = past (tile_size u) (suc y) _ t h in
    tile_at-behind new ts (suc y) (suc y - tile_size u) a (omega (arith, p.0)) ∙ p.1
tile_at-replaced (u ∷ ts) new (suc o) zero old t a e f n h = h
tile_at-replaced (u ∷ ts) new (suc o) (suc y) old t a e f n h =
    let p = past (tile_size u) (suc o) _ old f in
    let q = past (tile_size u) (suc y) _ t h in
    rw (le-leb (tile_size u) (suc y) q.0)
    (tile_at-replaced ts new (suc o - tile_size u) (suc y - tile_size u) old t a e p.1 (λ k. n (omega (arith, k, q.0, p.0))) q.1)

replace_keeps : (r : Region) (new : List Tile) (o y : ℕ) (old : Tile) (s : Stored) → AllPositive new → total_size new ≡ tile_size old
    → region_tile r o ≡ Some old → y ≢ o → region_tile r y ≡ Some (Object s) → region_tile (region_replaced r o new) y ≡ Some (Object s)
replace_keeps (Ordinary ts) new o y old s a e f n h = tile_at-replaced ts new o y old (Object s) a e f n h
replace_keeps _ new o y old s a e f n h = h

-- each moved tile's new place keeps its object
pub each_kept : (P : ℕ → Type 0) (t u : Table) → ((x : ℕ) → P x → IsKept t u x) → EachForwardedIn P u.regions
    → EachForwardedIn (IsKept t u) u.regions
each_kept P t u k a = EachForwardedIn-imp P (IsKept t u) u.regions k a

pub with_tile-moved : (P : ℕ → Type 0) (r : Region) (t : Tile) → EachForwarded P (t ∷ []) → EachForwardedIn P (r ∷ [])
    → EachForwardedIn P (region_with_tile r t ∷ [])
with_tile-moved P (Ordinary ts) t b a = (EachForwarded-append P ts (t ∷ []) a.0 b, tt)
with_tile-moved P _ t b a = tt

pub replaced-moved : (P : ℕ → Type 0) (r : Region) (o : ℕ) (new : List Tile) → EachForwarded P new → EachForwardedIn P (r ∷ [])
    → EachForwardedIn P (region_replaced r o new ∷ [])
replaced-moved P (Ordinary ts) o new b a = (EachForwarded-replace P o new ts b a.0, tt)
replaced-moved P _ o new b a = tt

with_object-moved : (P : ℕ → Type 0) (r : Region) (o : ℕ) (s : Stored) → EachForwardedIn P (r ∷ [])
    → EachForwardedIn P (with_object r o s ∷ [])
with_object-moved P (Ordinary ts) o s a = (EachForwarded-replace P o (Object s ∷ []) ts tt a.0, tt)
with_object-moved P _ o s a = tt

-- one more tile at a top
pub push_kept : (t : Table) (k : ℕ) (tile : Tile) → HasTargets t → EachForwarded (HasObject t) (tile ∷ [])
    → EachForwardedIn (IsKept t (push_tile t k tile)) (push_tile t k tile).regions
unfolding push_tile nth_region
push_kept t k tile g fresh =
    let r : Region = get_or t.regions k Free in
    let a = EachForwardedIn-set (HasObject t) t.regions k (region_with_tile r tile)
    (with_tile-moved (HasObject t) r tile fresh (EachForwardedIn-at (HasObject t) t.regions k g)) g in
    each_kept (HasObject t) t (with_region t k (region_with_tile r tile))
    (λ x o. same_object t (with_region t k (region_with_tile r tile)) x o
    (object_at-region t k (region_with_tile r tile) x o.object o.is (λ e h. push_keeps r tile _ o.object h))) a

-- a tile gives way
pub replace_kept : (t : Table) (a : ℕ) (old : Tile) (new : List Tile) → 0 < t.words_per_region → tile_in t a ≡ Some old → AllPositive new
    → total_size new ≡ tile_size old → EachForwardedIn (λ to. HasObject t to × (to ≢ a)) t.regions
    → EachForwarded (λ to. HasObject t to × (to ≢ a)) new → EachForwardedIn (IsKept t (replace_tile t a new)) (replace_tile t a new).regions
unfolding replace_tile region_at tile_in
replace_kept t a old new z h pos total g fresh =
    let size : ℕ = t.words_per_region in
    let k : ℕ = a / size in
    let r : Region = get_or t.regions k Free in
    let r' : Region = region_replaced r (a % size) new in
    let P : (ℕ → Type 0) = λ to. HasObject t to × (to ≢ a) in
    let b = EachForwardedIn-set P t.regions k r' (replaced-moved P r (a % size) new fresh (EachForwardedIn-at P t.regions k g)) g in
    each_kept P t (with_region t k r')
    (λ x o. same_object t (with_region t k r') x o.0
    (object_at-region t k r' x o.0.object o.0.is
    (λ e f. replace_keeps r new (a % size) (x % size) old o.0.object pos total h (λ q. o.1 (same_place x a size z (sym e) q)) f))) b

-- a region none of whose objects is a new place becomes another that has no moved tile
pub region_kept : (t : Table) (k : ℕ) (r : Region) (P : ℕ → Type 0) → EachForwardedIn P t.regions → EachForwardedIn P (r ∷ [])
    → ((x : ℕ) → P x → HasObject t x × (k ≢ x / t.words_per_region))
    → EachForwardedIn (IsKept t (with_region t k r)) (with_region t k r).regions
region_kept t k r P g fresh h =
    let a = EachForwardedIn-set P t.regions k r fresh g in
    each_kept P t (with_region t k r)
    (λ x p.
    same_object t (with_region t k r) x (h x p).0 (object_at-region t k r x (h x p).0.object (h x p).0.is (λ e f. absurd ((h x p).1 e)))) a

-- a free region becomes another
pub was_free_kept : (t : Table) (k : ℕ) (r : Region) → get_or t.regions k Free ≡ Free → EachForwardedIn (HasObject t) (r ∷ [])
    → HasTargets t → EachForwardedIn (IsKept t (with_region t k r)) (with_region t k r).regions
was_free_kept t k r free fresh g =
    each_kept (HasObject t) t (with_region t k r)
    (λ x o. same_object t (with_region t k r) x o (object_at-region t k r x o.object o.is (λ e f. nothing x o.object f)))
    (EachForwardedIn-set (HasObject t) t.regions k r fresh g)
  where
    nothing : (x : ℕ) (s : Stored) → region_tile (get_or t.regions k Free) (x % t.words_per_region) ≡ Some (Object s)
        → region_tile r (x % t.words_per_region) ≡ Some (Object s)
    nothing x s f = let z : None ≡ Some (Object s) = rw free at f in cc

pub put_object-moved : (P : ℕ → Type 0) (t : Table) (x : ℕ) (s : Stored) → EachForwardedIn P t.regions
    → EachForwardedIn P (put_object t x s).regions
unfolding put_object region_at
put_object-moved P t x s a = EachForwardedIn-set P t.regions _ _ (with_object-moved P _ _ s (EachForwardedIn-at P t.regions _ a)) a

-- another object of the same size at an address
pub put_kept : (t : Table) (x : ℕ) (s s' : Stored) → 0 < t.words_per_region → object_at t x ≡ Some s
    → tile_size (Object s') ≡ tile_size (Object s) → HasTargets t
    → EachForwardedIn (IsKept t (put_object t x s')) (put_object t x s').regions
unfolding object_at
put_kept t x s s' z h e g = each_kept (HasObject t) t (put_object t x s') here (put_object-moved (HasObject t) t x s' g)
  where
    some_same : (a b : Stored) → Some a ≡ Some b → a ≡ b
    some_same a b c = cc

    here : (y : ℕ) → HasObject t y → IsKept t (put_object t x s') y
    here y o =
        elim (cases_eq y x) [
          | inl k ↦
              let same : o.object ≡ s = some_same o.object s (sym o.is ∙ ap (λ a. object_at t a) k ∙ h) in
              record {
                before = o.object;
                before_is = o.is;
                after = s';
                after_is = ap (λ a. object_at (put_object t x s') a) k ∙ object_at-put_same t x s s' h;
                size_is = e ∙ ap (λ (r : Stored). tile_size (Object r)) (sym same);
              }
          | inr k ↦ same_object t (put_object t x s') y o (rw (tile_in-put_other t x y s s' z h e k) o.is)
        ]
