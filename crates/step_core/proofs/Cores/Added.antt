-- Objects and buffers in one table.
use Rattle.std.proofs.Common.{◌≡◌, ◌≢◌, ◌+◌, ◌-◌, ◌*◌, ◌/◌, ◌<◌, ◌≤◌, ◌⊎◌, ◌∷◌, ◌∙◌, ℕ, Option, Some, None, [], length, refl, sym, ap}
use Rattle.std.proofs.Common.{subst, arith, inl, inr, slice_get}
use Rattle.std.proofs.lemmas.Bool.{cases_lt}
use Rattle.regions.specs.Tiles.{Filler, Object, tile_size}
use Rattle.heap_model.specs.Heap.{Stored}
use Rattle.regions.specs.Walks.{AreFitting}
use Rattle.regions.specs.Shaped.{IsShaped}
use Rattle.regions.specs.declared.row.Kind.TheVariants as kinds
use Rattle.regions.specs.Table.{Table, First, with_regions, run_regions, replace_tile, remainder, tile_in}
use Rattle.regions.specs.Table.{object_at, HasNoForwarded, new_object, kind_of, used_of}
use Rattle.regions.proofs.Tiles.Placing.{Replaces, filler_replaced, tile_at-inside}
use Rattle.regions.proofs.Tiles.Changes.{WritesObject, object_same}
use Rattle.alloc_buffers.specs.declared.buffers.Buffer.{Buffer}
use Rattle.alloc_buffers.specs.declared.placement.Allocation.{Allocation}
use Rattle.alloc_buffers.specs.declared.placement.Allocation.TheVariants as allocations
use Rattle.alloc_buffers.specs.Placement.{Buffers, BuffersStand, AreAbove, IsAbove, IsAllocated, IsRunFor, IsAllocation, address_of}
use Rattle.alloc_buffers.specs.Placement.{made_at}
use Rattle.alloc_buffers.proofs.Above.{above_same}
use Rattle.alloc_buffers.proofs.Runs.{takes, no_tile, run_stands, run_above}
use Rattle.regions.proofs.Tiles.ShapedMade.{first_object}
use Rattle.regions.proofs.LongRuns.Blocks.{kind_is, first_no_filler}
use Rattle.regions.proofs.Tiles.Released.{row_within}
use Rattle.std.proofs.lemmas.List.{length-replicate}

pub object_none : (t : Table) (y n : ℕ) → tile_in t y ≡ Some (Filler n) → object_at t y ≡ None
unfolding object_at
object_none t y n e = rw e refl

object_void : (t : Table) (y : ℕ) → tile_in t y ≡ None → object_at t y ≡ None
unfolding object_at
object_void t y e = rw e refl

object_live : (t : Table) (y : ℕ) (s : Stored) → tile_in t y ≡ Some (Object s) → object_at t y ≡ Some s
unfolding object_at
object_live t y s e = rw e refl

-- buffers stand as before where no filler changed
pub stand_same : (t t' : Table) (b : Buffers) → length t'.regions ≡ length t.regions → ((k : ℕ) → kind_of t' k ≡ kind_of t k)
    → ((m : ℕ) (x : Buffer) → slice_get b.open_buffers m ≡ Some (Some x) → tile_in t' x.next ≡ tile_in t x.next) → BuffersStand t b
    → BuffersStand t' b
stand_same t t' b count kinds same s = record {
  known = λ k e. rw count (s.known k e);
  ordinary = λ k e. kinds k ∙ s.ordinary k e;
  fillers = λ m x e. let f = s.fillers m x e in record { positive = f.positive; filler = same m x e ∙ f.filler };
  apart = s.apart;
}

pub stand_writes : {t t' : Table} {b : Buffers} {a : ℕ} {x y : Stored} → WritesObject t t' a x y → BuffersStand t b → BuffersStand t' b
stand_writes {t} {t'} {b} {a} {x} {y} w s = stand_same t t' b w.count w.kinds (λ m u e. w.others u.next (λ h.
    let f = s.fillers m u e in
    let none = object_none t u.next u.rest f.filler in
    let was = w.was in
    let here = ap (object_at t) h in cc)) s

-- a filler becomes an object
pub record FillsField (t t' : Table) (b : Buffers) (a : ℕ) (x : Stored) : Type 0 where
  pub is : object_at t' a ≡ Some x
  pub others : (y : ℕ) → y ≢ a → object_at t' y ≡ object_at t y
  pub unmoved : HasNoForwarded t'
  pub region_size : t'.words_per_region ≡ t.words_per_region
  pub region_count : length t'.regions ≡ length t.regions
  pub used : (k : ℕ) → used_of t' k ≡ used_of t k
  pub kinds : (k : ℕ) → kind_of t' k ≡ kind_of t k
  pub stand : BuffersStand t' b

pub fills : (t t' : Table) (b : Buffers) (a n name p weak d : ℕ) → 0 < t.words_per_region → AreFitting t → HasNoForwarded t
    → tile_in t a ≡ Some (Filler n) → n ≡ 2 + p + weak + d
    → t' ≡ replace_tile t a (Object (new_object name p weak d) ∷ remainder (n - (2 + p + weak + d)))
    → ((m : ℕ) (x : Buffer) → slice_get b.open_buffers m ≡ Some (Some x) → x.next ≢ a) → BuffersStand t b
    → FillsField t t' b a (new_object name p weak d)
fills t t' b a n name p weak d z fitting none h size is spare s =
    let x : Stored = new_object name p weak d in
    let long : tile_size (Object x) ≡ n =
    omega (arith, length-replicate {A = Option ℕ} p None, length-replicate {A = Option ℕ} weak None, length-replicate {A = ℕ} d 0) in
    let none_left : n - (2 + p + weak + d) ≡ 0 = omega arith in
    let is' : replace_tile t a (Object x ∷ []) ≡ t' = sym (is ∙ ap (λ (r : ℕ). replace_tile t a (Object x ∷ remainder r)) none_left) in
    let w' = filler_replaced t a n (Object x ∷ []) z fitting h (omega arith) (omega (arith, long), tt) (omega (arith, long)) tt in
    let w : Replaces t t' a n (Object x ∷ []) = subst (λ (u : Table). Replaces t u a n (Object x ∷ [])) is' w' in
    let start : a + 0 ≡ a = omega arith in
    let off : (y : ℕ) → y ≢ a → ((y < a) ⊎ (a + n ≤ y)) ⊎ ((j : ℕ) × (a + j ≡ y) × (0 < j) × (j < n)) = λ y ne.
    elim (cases_lt y a) [
      | inl lt ↦ inl (inl lt)
      | inr ge ↦ elim (cases_lt y (a + n)) [ inl lt ↦ inr (y - a, omega arith, omega arith, omega arith) | inr past ↦ inl (inr past) ]
    ] in
    record {
      is = object_live t' a x (ap (tile_in t') (sym start) ∙ w.within 0 (omega arith));
      others = λ y ne. elim (off y ne) [
        | inl out ↦ object_same t t' y (w.others y out)
        | inr q ↦
            let (j, at, lo, hi) = q in
            object_void t' y (ap (tile_in t') (sym at) ∙ w.within j hi
            ∙ tile_at-inside (Object x ∷ []) 0 j (Object x) refl lo (omega (arith, long)))
            ∙ sym (object_void t y (ap (tile_in t) (sym at) ∙ w.inside j lo hi))
      ];
      unmoved = w.unmoved none;
      region_size = w.size;
      region_count = w.count;
      used = w.used;
      kinds = w.kinds_same;
      stand = stand_same t t' b w.count w.kinds_same (λ m u e. elim (off u.next (spare m u e)) [
        | inl out ↦ w.others u.next out
        | inr q ↦ let (j, at, lo, hi) = q in absurd (
            let f = s.fillers m u e in
            let filler = f.filler in
            let void : tile_in t u.next ≡ None = ap (tile_in t) (sym at) ∙ w.inside j lo hi in cc)
      ]) s;
    }

was_none : (t t1 : Table) (b b1 : Buffers) (n a : ℕ) → IsAllocated t t1 b b1 n a → object_at t a ≡ None
was_none t t1 b b1 n a p = sym (p.objects a) ∙ object_none t1 a n p.filler

-- an object is made at an address where none was, and no other object changed
pub record Creates (t t' : Table) (b b' : Buffers) (a : ℕ) (x : Stored) : Type 0 where
  pub was : object_at t a ≡ None
  pub is : object_at t' a ≡ Some x
  pub others : (y : ℕ) → y ≢ a → object_at t' y ≡ object_at t y
  pub unmoved : HasNoForwarded t'
  pub region_size : t'.words_per_region ≡ t.words_per_region
  pub region_count : length t'.regions ≡ length t.regions
  pub kinds_stay : (j : ℕ) → kind_of t j ≢ kinds.Free → kind_of t' j ≡ kind_of t j
  pub half : kind_of t' (a / t.words_per_region) ≡ kinds.Ordinary → 2 * tile_size (Object x) ≤ t.words_per_region
  pub wide : kind_of t' (a / t.words_per_region) ≡ kinds.First → t.words_per_region < 2 * tile_size (Object x)
  pub stand : BuffersStand t' b'
  pub open_count : length b'.open_buffers ≡ length b.open_buffers
  pub words : b'.words ≡ b.words
  pub above : (limit : ℕ → ℕ) → AreAbove t b limit → IsAbove t.words_per_region limit a × AreAbove t' b' limit

creates_small : (t t1 : Table) (b b1 : Buffers) (a n name p weak d : ℕ) → 0 < t1.words_per_region → AreFitting t1
    → 2 * n ≤ t.words_per_region → IsAllocated t t1 b b1 n a → n ≡ 2 + p + weak + d
    → Creates t (replace_tile t1 a (Object (new_object name p weak d) ∷ [])) b b1 a (new_object name p weak d)
creates_small t t1 b b1 a n name p weak d z fitting half placed size =
    let t2 : Table = replace_tile t1 a (Object (new_object name p weak d) ∷ []) in
    let none_left : 0 ≡ n - (2 + p + weak + d) = omega arith in
    let w = fills t1 t2 b1 a n name p weak d z fitting placed.unmoved placed.filler size
    (ap (λ (r : ℕ). replace_tile t1 a (Object (new_object name p weak d) ∷ remainder r)) none_left) placed.spare placed.stand in
    record {
      was = was_none t t1 b b1 n a placed;
      is = w.is;
      others = λ y ne. w.others y ne ∙ placed.objects y;
      unmoved = w.unmoved;
      region_size = w.region_size ∙ placed.region_size;
      region_count = w.region_count ∙ placed.count;
      kinds_stay = λ j used. w.kinds j ∙ placed.kinds_stay j used;
      half = λ o.
          omega (arith, length-replicate {A = Option ℕ} p None, length-replicate {A = Option ℕ} weak None, length-replicate {A = ℕ} d 0);
      wide = λ f. absurd (first_no_filler t1 a n
          (ap (λ (r : ℕ). kind_of t1 (a / r)) placed.region_size ∙ sym (w.kinds (a / t.words_per_region)) ∙ f) placed.filler);
      stand = w.stand;
      open_count = placed.open_count;
      words = placed.words;
      above = λ limit above. let r = placed.above limit above in (r.0, above_same t1 t2 b1 limit w.region_size w.region_count w.used r.1);
    }

creates_run : (t : Table) (b : Buffers) (n k count : ℕ) (x : Stored) → IsShaped t → HasNoForwarded t
    → BuffersStand t b → IsRunFor t n k count → t.words_per_region < 2 * tile_size (Object x)
    → Creates t (with_regions t k count (run_regions t.words_per_region x count)) b b (k * t.words_per_region) x
creates_run t b n k count x shaped none stand run over =
    let t2 : Table = with_regions t k count (run_regions t.words_per_region x count) in
    let w = takes t k count x shaped run.positive run.lowest in
    record {
      was = object_void t (k * t.words_per_region) (no_tile t k count x shaped run.positive run.lowest);
      is = first_object t2 k x shaped.positive w.first;
      others = λ y ne. object_same t t2 y (w.others y ne);
      unmoved = w.unmoved none;
      region_size = refl;
      region_count = w.count;
      kinds_stay = λ j used. elim (cases_lt j k) [
        | inl lt ↦ w.kinds_same j (inl lt)
        | inr ge ↦ elim (cases_lt j (k + count)) [ inl lt ↦ absurd (used (w.was_free j ge lt)) | inr past ↦ w.kinds_same j (inr past) ]
      ];
      half = λ o. absurd (
          let at : k * t.words_per_region / t.words_per_region ≡ k =
          row_within (k * t.words_per_region) k t.words_per_region shaped.positive (omega arith) (omega (arith, shaped.positive)) in
          let first : kind_of t2 (k * t.words_per_region / t.words_per_region) ≡ kinds.First =
          ap (kind_of t2) at ∙ kind_is t2 k (First x) w.first in
          let no : kinds.First ≡ kinds.Ordinary = sym first ∙ o in cc);
      wide = λ f. over;
      stand = run_stands t k count x shaped run.positive run.lowest b stand;
      open_count = refl;
      words = refl;
      above = λ limit above. run_above t k count x shaped run.positive run.lowest b limit above;
    }

-- a new object is made in its place
pub creates : (t t1 : Table) (b b1 : Buffers) (place : Allocation) (n name p weak d : ℕ) → IsShaped t → 0 < t1.words_per_region
    → AreFitting t1 → HasNoForwarded t
    → BuffersStand t b → IsAllocation t t1 b b1 n place → n ≡ 2 + p + weak + d
    → Creates t (made_at t1 place (new_object name p weak d)) b b1 (address_of t1 place) (new_object name p weak d)
creates t t1 b b1 (allocations.Filler a) n name p weak d shaped z fitting none stand is size =
    creates_small t t1 b b1 a n name p weak d z fitting is.0 is.1 size
creates t t1 b b1 (allocations.Run k count) n name p weak d shaped z fitting none stand is size =
    subst (λ (u : Table). Creates t (with_regions u k count (run_regions u.words_per_region (new_object name p weak d) count)) b b1
    (k * u.words_per_region) (new_object name p weak d)) (sym is.1.table)
    (subst (λ (c : Buffers). Creates t (with_regions t k count (run_regions t.words_per_region (new_object name p weak d) count)) b c
    (k * t.words_per_region) (new_object name p weak d)) (sym is.1.buffers)
    (creates_run t b n k count (new_object name p weak d) shaped none stand is.1.run
    (let over = is.0 in
    omega (
      arith,
      over,
      size,
      length-replicate {A = Option ℕ} p None,
      length-replicate {A = Option ℕ} weak None,
      length-replicate {A = ℕ} d 0,
    ))))
