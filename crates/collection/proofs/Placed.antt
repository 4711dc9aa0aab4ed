-- A small object has a place where a region is free.
use Rattle.std.proofs.Common.{◌≡◌, ◌+◌, ◌*◌, ◌<◌, ◌≤◌, ◌∙◌, ℕ, Bool, true, false, Option, Some, None, refl, sym, ap, nat_le, if◌then◌else◌}
use Rattle.std.proofs.Common.{slice_index_or}
use Rattle.std.proofs.lemmas.Bool.{le-leb}
use Rattle.regions.specs.Table.{Table, free_count, first_free, used_of}
use Rattle.object_copy.proofs.Frees.{some_free}
use Rattle.alloc_buffers.specs.declared.buffers.Buffer.{Buffer}
use Rattle.alloc_buffers.specs.Placement.{Buffers, Room, room_for, fresh_room, in_new_buffer, alone, outside, allocation_by, allocation_of}
use Rattle.alloc_buffers.specs.Placement.{small_allocation_of, run_allocation_of}

some_none : {A : Type 0} (x : A) → Some x ≡ None → ⊥
some_none x e = cc

if_none : {A : Type 0} (b : Bool) (x y : Option A) → (if b then x else y) ≡ None → (x ≡ None → ⊥) → (y ≡ None → ⊥) → ⊥
if_none true x y e p q = p e
if_none false x y e p q = q e

module _ (t : Table) (some : 0 < free_count t) where
  fresh : (o : Option ℕ) → first_free t ≡ o → fresh_room t o ≡ None → ⊥
  fresh None e f = some_free t some e
  fresh (Some k) e f = some_none _ f

  room_found : (current : Option ℕ) (w : ℕ) → room_for t current w ≡ None → ⊥
  room_found None w e = fresh (first_free t) refl e
  room_found (Some k) w e = if_none (nat_le (used_of t k + w) t.words_per_region) _ _ e (λ f. some_none _ f)
      (λ f. fresh (first_free t) refl f)

  new_found : (b : Buffers) (m size : ℕ) (r : Option Room) → (r ≡ None → ⊥) → in_new_buffer b m size r ≡ None → ⊥
  new_found b m size None n e = n refl
  new_found b m size (Some r) n e = some_none _ e

  alone_found : (b : Buffers) (size : ℕ) (r : Option Room) → (r ≡ None → ⊥) → alone b size r ≡ None → ⊥
  alone_found b size None n e = n refl
  alone_found b size (Some r) n e = some_none _ e

  outside_found : (b : Buffers) (m size : ℕ) → outside t b m size ≡ None → ⊥
  outside_found b m size e = if_none (nat_le size b.words) _ _ e
      (λ f. new_found b m size (room_for t b.current b.words) (room_found b.current b.words) f)
      (λ f. alone_found b size (room_for t b.current size) (room_found b.current size) f)

  by_found : (b : Buffers) (m size : ℕ) (o : Option Buffer) → allocation_by t b m size o ≡ None → ⊥
  by_found b m size None e = outside_found b m size e
  by_found b m size (Some x) e = if_none (nat_le size x.rest) _ _ e (λ f. some_none _ f) (λ f. outside_found b m size f)

  pub place_found : (b : Buffers) (m size : ℕ) → 2 * size ≤ t.words_per_region → allocation_of t b m size ≡ None → ⊥
  place_found b m size small e =
      by_found b m size (slice_index_or b.open_buffers m None)
      (sym (ap (λ (q : Bool). if q then small_allocation_of t b m size else run_allocation_of t b size) (le-leb
      (2 * size) t.words_per_region small)) ∙ e)
