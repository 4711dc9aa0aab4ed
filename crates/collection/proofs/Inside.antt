-- Where an object of at most half a region needs no free region.
use Rattle.std.proofs.Common.{◌≡◌, ◌+◌, ◌*◌, ◌<◌, ◌≤◌, ◌∙◌, ℕ, Bool, true, false, Option, Some, None, [], length, refl, sym, ap, subst}
use Rattle.std.proofs.Common.{arith, if◌then◌else◌, slice_get, slice_index_or, ◌↔◌}
use Rattle.std.proofs.lemmas.Bool.{le-leb, lt-leb}
use Rattle.std.proofs.lemmas.Option.{slice_get-get_or}
use Rattle.heap_model.specs.Heap.{Stored}
use Rattle.regions.specs.Table.{Table, free_count, first_free}
use Rattle.alloc_buffers.specs.declared.buffers.Buffer.{Buffer}
use Rattle.alloc_buffers.specs.OpenBuffers.{rest_of}
use Rattle.alloc_buffers.specs.Placement.{Buffers, Placement, Room, room_for, fresh_room, in_new_buffer, in_buffer, alone, outside}
use Rattle.alloc_buffers.specs.Placement.{made_at, allocation_by, allocation_of, small_allocation_of, run_allocation_of}
use Rattle.step_core.specs.Stands.{CoreState}
use Rattle.collection.specs.Rooms.{FitsOpen, TakesRegion, has_rest}
use Rattle.collection.proofs.Made.{IsInside, IsOutside, new_as, alone_as, next_room, inside_buffer}

some_is : {A : Type 0} (x y : A) → Some x ≡ Some y → x ≡ y
some_is x y e = cc

some_none : {A : Type 0} (x : A) → Some x ≡ None → ⊥
some_none x e = cc

clash : (b : Bool) → b ≡ true → b ≡ false → ⊥
clash b t f = cc

-- a place, and what is free once an object is made there
pub record IsFitting (t : Table) (o : Option Placement) : Type 0 where
  pub place : Placement
  pub is : o ≡ Some place
  pub free : (s : Stored) → free_count (made_at place.table place.place s) ≡ free_count t

module _ (t : Table) where
  rest_here : (o : Option ℕ) (w : ℕ) → has_rest t o w ≡ true → (r : Room) × (room_for t o w ≡ Some r) × (free_count r.table ≡ free_count t)
  rest_here None w e = absurd (clash false e refl)
  rest_here (Some k) w e = (
    record { region = k; table = t },
    ap (λ (q : Bool). if q then Some (let r : Room = record { region = k; table = t } in r) else fresh_room t (first_free t)) e,
    refl,
  )

  rest_next : (o : Option ℕ) (w : ℕ) → has_rest t o w ≡ false → (r : Room) → room_for t o w ≡ Some r → free_count r.table + 1 ≡ free_count t
  rest_next None w e r f = next_room t (first_free t) refl r f
  rest_next (Some k) w e r f =
      next_room t (first_free t) refl r
      (sym (ap (λ (q : Bool). if q then Some (let x : Room = record { region = k; table = t } in x) else fresh_room t
      (first_free t)) e) ∙ f)

  fit : (o : Option Placement) → (o ≡ None → ⊥) → IsInside t o → IsFitting t o
  fit None n h = absurd (n refl)
  fit (Some x) n h = record { place = x; is = refl; free = h x refl }

  room_as : (r x : Room) → free_count r.table ≡ free_count t → Some r ≡ Some x → free_count x.table ≡ free_count t
  room_as r x same e = subst (λ (y : Room). free_count y.table ≡ free_count t) (some_is r x e) same

  new_fits : (b : Buffers) (m size : ℕ) → has_rest t b.current b.words ≡ true
      → IsFitting t (in_new_buffer b m size (room_for t b.current b.words))
  new_fits b m size e =
      let (r, is, same) = rest_here b.current b.words e in
      subst (λ (o : Option Room). IsFitting t (in_new_buffer b m size o)) (sym is)
      (fit (in_new_buffer b m size (Some r)) (λ f. some_none _ f)
      (new_as b m size (λ n. n ≡ free_count t) (Some r) (λ y g. room_as r y same g)))

  alone_fits : (b : Buffers) (size : ℕ) → has_rest t b.current size ≡ true → IsFitting t (alone b size (room_for t b.current size))
  alone_fits b size e =
      let (r, is, same) = rest_here b.current size e in
      subst (λ (o : Option Room). IsFitting t (alone b size o)) (sym is)
      (fit (alone b size (Some r)) (λ f. some_none _ f)
      (alone_as b size (λ n. n ≡ free_count t) (Some r) (λ y g. room_as r y same g)))

  new_out : (b : Buffers) (m size : ℕ) → has_rest t b.current b.words ≡ false
      → IsOutside t (in_new_buffer b m size (room_for t b.current b.words))
  new_out b m size e = new_as b m size (λ n. n + 1 ≡ free_count t) (room_for t b.current b.words) (rest_next b.current b.words e)

  alone_out : (b : Buffers) (size : ℕ) → has_rest t b.current size ≡ false → IsOutside t (alone b size (room_for t b.current size))
  alone_out b size e = alone_as b size (λ n. n + 1 ≡ free_count t) (room_for t b.current size) (rest_next b.current size e)

  not_both : (o : Option Placement) → IsOutside t o → IsFitting t o → ⊥
  not_both o out f =
      let s : Stored = record { name = 0; pointers = []; weaks = []; held = []; values = [] } in
      let a = out f.place f.is s in
      let b = f.free s in
      absurd (omega (arith, a, b))

module _ (c : CoreState) (m size : ℕ) (small : 2 * size ≤ c.table.words_per_region) where
  abbrev t : Table
  t = c.table

  abbrev b : Buffers
  b = c.buffers

  placed : allocation_of t b m size ≡ allocation_by t b m size (slice_index_or b.open_buffers m None)
  placed = ap (λ (q : Bool). if q then small_allocation_of t b m size else run_allocation_of t b size) (le-leb (2 * size)
      t.words_per_region small)

  fits_by : (o : Option Placement) → allocation_of t b m size ≡ o → IsFitting t o → FitsOpen c m size
  fits_by o e f = record { place = f.place; is = e ∙ f.is; free = f.free }

  by_fits : (o : Option Placement) → allocation_of t b m size ≡ o → FitsOpen c m size → IsFitting t o
  by_fits o e f = record { place = f.place; is = sym e ∙ f.is; free = f.free }

  -- the mutator's buffer, as it is read
  pub buffer_is : (o : Option Buffer) → m < length b.open_buffers → slice_get b.open_buffers m ≡ Some o
      → slice_index_or b.open_buffers m None ≡ o
  buffer_is o lt e = some_is _ o (sym (slice_get-get_or b.open_buffers m None lt) ∙ e)

  -- the mutator's buffer has room
  pub in_open : (y : Buffer) → slice_index_or b.open_buffers m None ≡ Some y → size ≤ y.rest → FitsOpen c m size
  in_open y is h =
      fits_by (Some (in_buffer t b m size y))
      (placed ∙ ap (allocation_by t b m size) is ∙ ap (λ (q : Bool). if q then Some (in_buffer t b m size y) else outside t b m size)
      (le-leb size y.rest h))
      (record { place = in_buffer t b m size y; is = refl; free = inside_buffer t b m size y })

  -- the same by how many words are left
  pub in_rest : size < rest_of (slice_index_or b.open_buffers m None) → FitsOpen c m size
  in_rest h = go (slice_index_or b.open_buffers m None) refl h
    where
      go : (o : Option Buffer) → slice_index_or b.open_buffers m None ≡ o → size < rest_of o → FitsOpen c m size
      go None e f = absurd (omega arith)
      go (Some y) e f = in_open y e (omega arith)

  -- or it hasn't, and the object goes outside
  pub IsOut : Type 0
  IsOut = allocation_of t b m size ≡ outside t b m size

  pub none_open : slice_index_or b.open_buffers m None ≡ None → IsOut
  unfolding IsOut
  none_open is = placed ∙ ap (allocation_by t b m size) is

  pub full_open : (y : Buffer) → slice_index_or b.open_buffers m None ≡ Some y → y.rest < size → IsOut
  unfolding IsOut
  full_open y is h =
      placed ∙ ap (allocation_by t b m size) is
      ∙ ap (λ (q : Bool). if q then Some (in_buffer t b m size y) else outside t b m size) (lt-leb size y.rest h)

  placed_new : IsOut → size ≤ b.words → allocation_of t b m size ≡ in_new_buffer b m size (room_for t b.current b.words)
  unfolding IsOut
  placed_new out h = out ∙ ap (λ (q : Bool). if q then in_new_buffer b m size (room_for t b.current b.words) else alone b size
      (room_for t b.current size)) (le-leb size b.words h)

  placed_alone : IsOut → b.words < size → allocation_of t b m size ≡ alone b size (room_for t b.current size)
  unfolding IsOut
  placed_alone out h = out ∙ ap (λ (q : Bool). if q then in_new_buffer b m size (room_for t b.current b.words) else alone b size
      (room_for t b.current size)) (lt-leb size b.words h)

  -- where neither the buffer nor the region has room a region is taken, and else none
  decided : (o : Option Placement) (r rest : Bool) → allocation_of t b m size ≡ o → r ≡ rest → (rest ≡ true → IsFitting t o)
      → (rest ≡ false → IsOutside t o) → ((r ≡ true) ↔ FitsOpen c m size) × (r ≡ false → TakesRegion c m size)
  decided o r rest at e fits out = (
    (λ f. fits_by o at (fits (sym e ∙ f)), λ f. yes r refl f),
    λ f. record { less = λ p s is. out (sym e ∙ f) p (sym at ∙ is) s },
  )
    where
      yes : (q : Bool) → r ≡ q → FitsOpen c m size → r ≡ true
      yes true g f = g
      yes false g f = absurd (not_both t o (out (sym e ∙ g)) (by_fits o at f))

  pub in_new : IsOut → size ≤ b.words → (r : Bool) → r ≡ has_rest t b.current b.words
      → ((r ≡ true) ↔ FitsOpen c m size) × (r ≡ false → TakesRegion c m size)
  in_new out h r e = decided _ r _ (placed_new out h) e (new_fits t b m size) (new_out t b m size)

  pub alone_in : IsOut → b.words < size → (r : Bool) → r ≡ has_rest t b.current size
      → ((r ≡ true) ↔ FitsOpen c m size) × (r ≡ false → TakesRegion c m size)
  alone_in out h r e = decided _ r _ (placed_alone out h) e (alone_fits t b size) (alone_out t b size)
