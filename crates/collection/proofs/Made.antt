-- How many free regions it takes to make an object.
use Rattle.std.proofs.Common.{◌≡◌, ◌+◌, ◌-◌, ◌*◌, ◌/◌, ◌%◌, ◌≤◌, ◌∷◌, ◌++◌, ◌∙◌, min, ℕ, suc, zero, Bool, true, false, cond, List, []}
use Rattle.std.proofs.Common.{Option, Some, None, get_or, set, sum_by, take, drop, length, refl, sym, ap, subst, arith, nat_le}
use Rattle.std.proofs.Common.{if◌then◌else◌, slice_index_or}
use Rattle.std.proofs.lemmas.Bool.{le-leb}
use Rattle.std.proofs.lemmas.List.Sums.{sum_by-cons, sum_by-append, count_by-le-length}
use Rattle.std.proofs.lemmas.List.{take-append-drop, drop-drop}
use Rattle.heap_model.specs.Heap.{Stored}
use Rattle.regions.specs.Tiles.{Tile, Object, Filler, tile_size}
use Rattle.regions.specs.Table.{Region, Free, First, Rest, Table, is_free, free_count, first_free, used_of, top_of, remainder}
use Rattle.regions.specs.Table.{first_run, front_count, nth_region, region_at, rests, run_regions}
use Rattle.regions.proofs.Rows.Fronts.{run_passes}
use Rattle.regions.specs.Table.{push_tile, replace_tile, region_with_tile, region_replaced, with_regions}
use Rattle.object_copy.proofs.Frees.{fewer_free}
use Rattle.alloc_buffers.specs.declared.buffers.Buffer.{Buffer}
use Rattle.alloc_buffers.specs.Placement.{Buffers, Placement, Room, room_for, fresh_room, in_new_buffer, in_buffer, alone, outside}
use Rattle.alloc_buffers.specs.Placement.{allocation_by, allocation_of, small_allocation_of, run_allocation_of, made_at}

set_free : (rs : List Region) (k : ℕ) (r : Region) → is_free r ≡ is_free (get_or rs k Free)
    → sum_by (λ (x : Region). cond (is_free x) 1 0) (set rs k r) ≡ sum_by (λ (x : Region). cond (is_free x) 1 0) rs
set_free [] k r e = refl
set_free (x ∷ xs) zero r e =
    let a = sum_by-cons (λ (x : Region). cond (is_free x) 1 0) r xs in
    let b = sum_by-cons (λ (x : Region). cond (is_free x) 1 0) x xs in
    let d = ap {B = ℕ} (λ (q : Bool). cond q 1 0) e in
    omega (arith, a, b, d)
set_free (x ∷ xs) (suc k) r e =
    let a = sum_by-cons (λ (x : Region). cond (is_free x) 1 0) x (set xs k r) in
    let b = sum_by-cons (λ (x : Region). cond (is_free x) 1 0) x xs in
    let d = set_free xs k r e in
    omega (arith, a, b, d)

tile_free : (r : Region) (u : Tile) → is_free (region_with_tile r u) ≡ is_free r
tile_free Free u = refl
tile_free _ u = refl

other_free : (r : Region) (o : ℕ) (us : List Tile) → is_free (region_replaced r o us) ≡ is_free r
other_free Free o us = refl
other_free _ o us = refl

pushed_free : (t : Table) (k : ℕ) (u : Tile) → free_count (push_tile t k u) ≡ free_count t
unfolding push_tile nth_region
pushed_free t k u = set_free t.regions k (region_with_tile (get_or t.regions k Free) u) (tile_free (get_or t.regions k Free) u)

replaced_free : (t : Table) (a : ℕ) (us : List Tile) → free_count (replace_tile t a us) ≡ free_count t
unfolding replace_tile region_at
replaced_free t a us =
    set_free t.regions (a / t.words_per_region) (region_replaced (get_or t.regions (a / t.words_per_region) Free)
    (a % t.words_per_region) us)
    (other_free (get_or t.regions (a / t.words_per_region) Free) (a % t.words_per_region) us)

twice_free : (t : Table) (a : ℕ) (us vs : List Tile) → free_count (replace_tile (replace_tile t a us) a vs) ≡ free_count t
twice_free t a us vs = replaced_free (replace_tile t a us) a vs ∙ replaced_free t a us

some_is : {A : Type 0} (x y : A) → Some x ≡ Some y → x ≡ y
some_is x y e = cc

no_some : {A : Type 0} (x : A) → None ≡ Some x → ⊥
no_some x e = cc

-- one region less at most
abbrev IsRoom : Table → Option Room → Type 0
IsRoom t o = (r : Room) → o ≡ Some r → free_count t ≤ free_count r.table + 1

-- one region less at most is free once an object is made in the place
abbrev pub IsNear : Table → Option Placement → Type 0
IsNear t o = (x : Placement) → o ≡ Some x → (s : Stored) → free_count t ≤ free_count (made_at x.table x.place s) + 1

if_near : (t : Table) (b : Bool) (x y : Option Placement) → IsNear t x → IsNear t y → IsNear t (if b then x else y)
if_near t true x y p q = p
if_near t false x y p q = q

if_room : (t : Table) (b : Bool) (x y : Option Room) → IsRoom t x → IsRoom t y → IsRoom t (if b then x else y)
if_room t true x y p q = p
if_room t false x y p q = q

-- an object that is made where there is room leaves as many regions free as the room's table has: cut off a new buffer, or by itself
pub new_as : (b : Buffers) (m size : ℕ) (P : ℕ → Type 0) (o : Option Room) → ((r : Room) → o ≡ Some r → P (free_count r.table))
    → (x : Placement) → in_new_buffer b m size o ≡ Some x → (s : Stored) → P (free_count (made_at x.table x.place s))
new_as b m size P None h x f s = absurd (no_some x f)
new_as b m size P (Some r) h x f s = subst (λ (q : Placement). P (free_count (made_at q.table q.place s))) (some_is _ x f)
    (subst P (sym (twice_free (push_tile r.table r.region (Filler b.words)) (top_of r.table r.region)
    (Filler size ∷ remainder (b.words - size)) (Object s ∷ []) ∙ pushed_free r.table r.region (Filler b.words))) (h r refl))

pub alone_as : (b : Buffers) (size : ℕ) (P : ℕ → Type 0) (o : Option Room) → ((r : Room) → o ≡ Some r → P (free_count r.table))
    → (x : Placement) → alone b size o ≡ Some x → (s : Stored) → P (free_count (made_at x.table x.place s))
alone_as b size P None h x f s = absurd (no_some x f)
alone_as b size P (Some r) h x f s = subst (λ (q : Placement). P (free_count (made_at q.table q.place s))) (some_is _ x f)
    (subst P (sym (replaced_free (push_tile r.table r.region (Filler size)) (top_of r.table r.region) (Object s ∷ [])
    ∙ pushed_free r.table r.region (Filler size))) (h r refl))

module _ (t : Table) where
  fresh : (o : Option ℕ) → first_free t ≡ o → IsRoom t (fresh_room t o)
  fresh None e r f = absurd (no_some r f)
  fresh (Some k) e r f = subst (λ (q : Room). free_count t ≤ free_count q.table + 1) (some_is _ r f)
      (let a = fewer_free t k e in omega (arith, a))

  room : (current : Option ℕ) (w : ℕ) → IsRoom t (room_for t current w)
  room None w = fresh (first_free t) refl
  room (Some k) w = if_room t (nat_le (used_of t k + w) t.words_per_region) _ _
      (λ r f. subst (λ (q : Room). free_count t ≤ free_count q.table + 1) (some_is _ r f) (omega arith)) (fresh (first_free t) refl)

  outside_near : (b : Buffers) (m size : ℕ) → IsNear t (outside t b m size)
  outside_near b m size = if_near t (nat_le size b.words) _ _
      (new_as b m size (λ n. free_count t ≤ n + 1) (room_for t b.current b.words) (room b.current b.words))
      (alone_as b size (λ n. free_count t ≤ n + 1) (room_for t b.current size) (room b.current size))

  by_near : (b : Buffers) (m size : ℕ) (o : Option Buffer) → IsNear t (allocation_by t b m size o)
  by_near b m size None = outside_near b m size
  by_near b m size (Some y) = if_near t (nat_le size y.rest) _ _ (λ x f s.
      subst (λ (q : Placement). free_count t ≤ free_count (made_at q.table q.place s) + 1) (some_is _ x f)
      (let a = twice_free t y.next (Filler size ∷ remainder (y.rest - size)) (Object s ∷ []) in omega (arith, a)))
      (outside_near b m size)

  pub place_near : (b : Buffers) (m size : ℕ) → 2 * size ≤ t.words_per_region → IsNear t (allocation_of t b m size)
  place_near b m size small =
      subst (λ (q : Bool). IsNear t (if q then small_allocation_of t b m size else run_allocation_of t b size))
      (sym (le-leb (2 * size) t.words_per_region small)) (by_near b m size (slice_index_or b.open_buffers m None))

-- ---- no region is taken
-- as many regions are free once an object is made in the place
abbrev pub IsInside : Table → Option Placement → Type 0
IsInside t o = (x : Placement) → o ≡ Some x → (s : Stored) → free_count (made_at x.table x.place s) ≡ free_count t

-- one region less
abbrev IsNext : Table → Option Room → Type 0
IsNext t o = (r : Room) → o ≡ Some r → free_count r.table + 1 ≡ free_count t

abbrev pub IsOutside : Table → Option Placement → Type 0
IsOutside t o = (x : Placement) → o ≡ Some x → (s : Stored) → free_count (made_at x.table x.place s) + 1 ≡ free_count t

module _ (t : Table) where
  pub next_room : (o : Option ℕ) → first_free t ≡ o → IsNext t (fresh_room t o)
  next_room None e r f = absurd (no_some r f)
  next_room (Some k) e r f =
      subst (λ (q : Room). free_count q.table + 1 ≡ free_count t) (some_is _ r f) (let a = fewer_free t k e in omega (arith, a))

  pub inside_buffer : (b : Buffers) (m size : ℕ) (y : Buffer) (s : Stored)
      → free_count (made_at (in_buffer t b m size y).table (in_buffer t b m size y).place s) ≡ free_count t
  inside_buffer b m size y s = twice_free t y.next (Filler size ∷ remainder (y.rest - size)) (Object s ∷ [])

-- ---- a run
take_most : (m : ℕ) (rs : List Region) → length (take m rs) ≤ m
take_most zero rs = omega arith
take_most (suc m) [] = omega arith
take_most (suc m) (r ∷ rs) = let h = take_most m rs in omega (arith, h)

-- m regions give way to others: of the free ones these are counted in their place
given_way : (t : Table) (k m : ℕ) (block : List Region)
    → free_count (with_regions t k m block) + sum_by (λ (x : Region). cond (is_free x) 1 0) (take m (drop k t.regions))
    ≡ free_count t + sum_by (λ (x : Region). cond (is_free x) 1 0) block
given_way t k m block =
    let bit : Region → ℕ = λ (x : Region). cond (is_free x) 1 0 in
    let rs = t.regions in
    let a = sum_by-append bit (take k rs) (block ++ drop (k + m) rs) in
    let b = sum_by-append bit block (drop (k + m) rs) in
    let d = ap (sum_by bit) (take-append-drop k rs) in
    let e = sum_by-append bit (take k rs) (drop k rs) in
    let f = ap (sum_by bit) (take-append-drop m (drop k rs)) in
    let g = sum_by-append bit (take m (drop k rs)) (drop m (drop k rs)) in
    let h = ap (sum_by bit) (drop-drop m k rs) in
    omega (arith, a, b, d, e, f, g, h)

-- m less are free at most
pub run_free : (t : Table) (k m : ℕ) (block : List Region) → free_count t ≤ free_count (with_regions t k m block) + m
run_free t k m block =
    let i = count_by-le-length is_free (take m (drop k t.regions)) in
    let j = take_most m (drop k t.regions) in
    omega (arith, given_way t k m block, i, j)

-- where these were free all of them are less
front_free : (m : ℕ) (rs : List Region) → m ≤ front_count is_free rs → sum_by (λ (x : Region). cond (is_free x) 1 0) (take m rs) ≡ m
front_free zero rs h = refl
front_free (suc m) [] h = absurd (omega arith)
front_free (suc m) (r ∷ rs) h = go (is_free r) refl h (λ le. front_free m rs le)
  where
    go : (b : Bool) → is_free r ≡ b → suc m ≤ cond b (suc (front_count is_free rs)) 0
        → (m ≤ front_count is_free rs → sum_by (λ (x : Region). cond (is_free x) 1 0) (take m rs) ≡ m)
        → sum_by (λ (x : Region). cond (is_free x) 1 0) (take (suc m) (r ∷ rs)) ≡ suc m
    go true e le rest =
        let a = sum_by-cons (λ (x : Region). cond (is_free x) 1 0) r (take m rs) in
        let b = ap {B = ℕ} (λ (b : Bool). cond b 1 0) e in
        let d = rest (omega (arith, le)) in
        omega (arith, a, b, d)
    go false e le rest = absurd (omega arith)

rests_free : (size s i m : ℕ) → sum_by (λ (x : Region). cond (is_free x) 1 0) (rests size s i m) ≡ 0
rests_free size s i zero = refl
rests_free size s i (suc m) =
    let a = sum_by-cons (λ (x : Region). cond (is_free x) 1 0) (Rest (min size (s - i * size))) (rests size s (suc i) m) in
    let b = rests_free size s (suc i) m in
    omega (arith, a, b)

run_regions_free : (size m : ℕ) (s : Stored) → sum_by (λ (x : Region). cond (is_free x) 1 0) (run_regions size s m) ≡ 0
run_regions_free size zero s = refl
run_regions_free size (suc m) s =
    let a = sum_by-cons (λ (x : Region). cond (is_free x) 1 0) (First s) (rests size (tile_size (Object s)) 1 m) in
    let b = rests_free size (tile_size (Object s)) 1 m in
    omega (arith, a, b)

pub run_taken : (t : Table) (k m : ℕ) (s : Stored) → first_run is_free m t.regions ≡ Some k
    → free_count (with_regions t k m (run_regions t.words_per_region s m)) + m ≡ free_count t
run_taken t k m s found =
    let i = front_free m (drop k t.regions) (run_passes is_free m k t.regions found).1 in
    let j = run_regions_free t.words_per_region m s in
    omega (arith, given_way t k m (run_regions t.words_per_region s m), i, j)
