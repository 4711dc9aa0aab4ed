-- What a read or a write of a field does, as callers see the table.
-- the object whose pointer is asked for
use Rattle.regions.proofs.Common.{slice_get-get_or, object_pointers, pointer_count, object_weaks, first_stored, length-take, length-drop, ℕ}
use Rattle.regions.proofs.Common.{get_or-drop, get_or-take, pointers_at, set_pointer, length-map, length-set, pointer_of, put_object, arith}
use Rattle.regions.proofs.Common.{IsOrdinary, drop-drop, header_of, tile_size, region_at, object_at, region_of, weaks_at, Option}
use Rattle.regions.proofs.Common.{set_weak, sizes_in, table_of, free_row, IsTable, length, get_or, Stored, Object, First, Table, ap}
use Rattle.regions.proofs.Common.{Some, None, List, take, drop, refl, Tile, ◌≡◌, ◌+◌, ◌*◌, ◌/◌, ◌<◌, ◌≤◌, ◌∙◌, suc, map, set, inl, inr, Row}
use Rattle.std.proofs.lemmas.List.{get_or-map}
use Rattle.regions.proofs.Common.{IsSome}
use Rattle.heap_words.specs.Contents.{counts_of, pointers_of}
use Rattle.regions.proofs.Rows.RowLemmas.{regions-at}
use Rattle.regions.proofs.Words.Places.{table_right, IsInObject, InFirst, object_place, IsIn, object_is_in}
use Rattle.std.specs.List.{slice_get}
use Rattle.regions.proofs.Tiles.Kept.{put_kept}
use Rattle.regions.proofs.Tiles.Targets.{IsWrittenTable}
use Rattle.regions.proofs.Words.Written.{write_ordinary}
use Rattle.regions.proofs.LongRuns.RunWritten.{write_first}
use Rattle.regions.proofs.Words.Fields.{Turns, with_pointer, turns_pointer, with_weak, turns_weak}

pub record HasPart (t : Table) (x i : ℕ) (long : Stored → ℕ) : Type 0 where
  pub object : Stored
  pub object_is : object_at t x ≡ Some object
  pub within : i < long object

-- one part of an object, of so many: where there is no object there is none
pub has_part : (t : Table) (x i : ℕ) (long : Stored → ℕ) (count : Option Stored → ℕ) → ((s : Stored) → count (Some s) ≡ long s)
    → count None ≡ 0 → i < count (object_at t x) → HasPart t x i long
has_part t x i long count some none h = go (object_at t x) refl h
  where
    go : (o : Option Stored) → object_at t x ≡ o → i < count o → HasPart t x i long
    go None e l = absurd (omega (arith, none))
    go (Some s) e l = record { object = s; object_is = e; within = omega (arith, some s) }

pub has_pointer : (t : Table) (x i : ℕ) → i < length (pointers_at t x) → HasPart t x i (λ s. length s.pointers)
unfolding pointers_at
has_pointer t x i h = has_part t x i (λ s. length s.pointers) (λ o. length (object_pointers o)) (λ s. refl) refl h

-- one of some words of an object, read as pointers
part_at : (words : List ℕ) (x start k i : ℕ) (ps : List (Option ℕ)) → ps ≡ map pointer_of (take k (drop start (drop (x + 1) words))) → i < k
    → x + 1 + start + k ≤ length words → slice_get ps i ≡ Some (pointer_of (get_or words (x + 1 + start + i) 0))
part_at words x start k i ps are h fits =
    let at : drop start (drop (x + 1) words) ≡ drop (x + 1 + start) words = drop-drop start (x + 1) words in
    let le : i < length (take k (drop (x + 1 + start) words)) =
    simp length-take (omega (arith, fits, length-drop (x + 1 + start) words)) in
    let le' : i < length (map pointer_of (take k (drop (x + 1 + start) words))) = rw length-map le in
    ap (λ (qs : List (Option ℕ)). slice_get qs i) (are ∙ rw at refl)
    ∙ slice_get-get_or (map pointer_of (take k (drop (x + 1 + start) words))) i None le'
    ∙ ap Some (get_or-map pointer_of (take k (drop (x + 1 + start) words)) i 0 None le
    ∙ ap pointer_of (get_or-take k (drop (x + 1 + start) words) i 0 h ∙ get_or-drop (x + 1 + start) words i 0))

pub pointer_word_at : (words : List ℕ) (x i : ℕ) (s : Stored) → IsIn words x s → i < length s.pointers
    → slice_get s.pointers i ≡ Some (pointer_of (get_or words (x + 2 + i) 0))
pointer_word_at words x i s g h =
    let place : x + 1 + 1 + i ≡ x + 2 + i = omega arith in
    part_at words x 1 (length s.pointers) i s.pointers (ap (λ (r : Stored). r.pointers) g.stored_is) h (omega (arith, g.fits))
    ∙ ap (λ (a : ℕ). Some (pointer_of (get_or words a 0))) place

pub record IsPointerRead (words : List ℕ) (t : Table) (x i : ℕ) : Type 0 where
  pub in_words : x + 2 + i < length words
  pub in_object : IsInObject t x (x + 2 + i)
  pub value : slice_get (pointers_at t x) i ≡ Some (pointer_of (get_or words (x + 2 + i) 0))

pub pointer_read : (size : ℕ) (words : List ℕ) (rows : List Row) (t : Table) (x i : ℕ) → IsTable size words rows
    → table_of size words rows ≡ t → i < length (pointers_at t x) → IsPointerRead words t x i
unfolding pointers_at
pointer_read size words rows t x i g e h =
    let p = has_pointer t x i h in
    let is_in =
    object_is_in (sizes_in words) size words rows x p.object (table_right g) (ap (λ (u : Table). object_at u x) e ∙ p.object_is) in
    record {
      in_words = omega (arith, is_in.fits, p.within);
      in_object = record { object = p.object; is = p.object_is; below = omega (arith, p.within) };
      value = rw p.object_is (pointer_word_at words x i p.object is_in p.within);
    }

pub set_pointer-is : (t : Table) (x i : ℕ) (v : Option ℕ) (s : Stored) → object_at t x ≡ Some s
    → set_pointer t x i v ≡ put_object t x (with_pointer s i v)
unfolding set_pointer
set_pointer-is t x i v s e = rw e refl

pub not_first : (size : ℕ) (words : List ℕ) (rows : List Row) (x : ℕ) (s : Tile) → InFirst (sizes_in words) size words rows x s
    → IsOrdinary (region_at (table_of size words rows) x) → ⊥
unfolding region_at
not_first size words rows x s q o =
    let e = regions-at (sizes_in words) size rows (x / size) (x / size * size) words free_row refl q.known in
    let f : region_of (sizes_in words) (drop (x / size * size) words) (get_or rows (x / size) free_row)
    ≡ First (first_stored (drop (x / size * size) words)) =
    rw q.kind_is refl in
    rw (e, f) at o

-- one word of an object is written
pub part_written : (size : ℕ) (words : List ℕ) (rows : List Row) (t : Table) (x place j v : ℕ) (o o' : Stored) → IsTable size words rows
    → table_of size words rows ≡ t → object_at (table_of size words rows) x ≡ Some o → place ≡ x + suc j
    → j < 1 + length o.pointers + (length o.weaks + length o.held) + length o.values → Turns o j v o'
    → tile_size (Object o') ≡ tile_size (Object o)
    → IsWrittenTable size (set words place v) rows (put_object t x o')
part_written size words rows t x place j v o o' g e at there bound turns same =
    let kept = put_kept (table_of size words rows) x o o' g.region_size.0 at same g.targets in
    elim (object_place (sizes_in words) size words rows x o at) [
      | inl q ↦ rw (there, ← e) (write_ordinary size words rows x j v o o' g q bound turns kept)
      | inr q ↦ rw (there, ← e) (write_first size words rows x j v o o' g q bound turns kept)
    ]

pub pointer_written : (size : ℕ) (words : List ℕ) (rows : List Row) (t : Table) (x i v : ℕ) → IsTable size words rows
    → table_of size words rows ≡ t → i < length (pointers_at t x)
    → IsWrittenTable size (set words (x + 2 + i) v) rows (set_pointer t x i (pointer_of v))
pointer_written size words rows t x i v g e h =
    let p = has_pointer t x i h in
    rw (set_pointer-is t x i (pointer_of v) p.object p.object_is)
    (part_written size words rows t x (x + 2 + i) (suc i) v p.object (with_pointer p.object i (pointer_of v)) g e
    (ap (λ (u : Table). object_at u x) e ∙ p.object_is) (omega arith) (omega (arith, p.within))
    (turns_pointer p.object i v p.within) (simp length-set))

pub has_weak : (t : Table) (x i : ℕ) → i < length (weaks_at t x) → HasPart t x i (λ s. length s.weaks)
unfolding weaks_at
has_weak t x i h = has_part t x i (λ s. length s.weaks) (λ o. length (object_weaks o)) (λ s. refl) refl h

pub weak_word_at : (words : List ℕ) (x i : ℕ) (s : Stored) → IsIn words x s → i < length s.weaks
    → slice_get s.weaks i ≡ Some (pointer_of (get_or words (x + 2 + (length s.pointers + i)) 0))
weak_word_at words x i s g h =
    let p : ℕ = length s.pointers in
    let place : x + 1 + suc p + i ≡ x + 2 + (p + i) = omega arith in
    part_at words x (suc p) (length s.weaks) i s.weaks (ap (λ (r : Stored). r.weaks) g.stored_is) h (omega (arith, g.fits))
    ∙ ap (λ (a : ℕ). Some (pointer_of (get_or words a 0))) place

pub held_word_at : (words : List ℕ) (x i : ℕ) (s : Stored) → IsIn words x s → i < length s.held
    → slice_get s.held i ≡ Some (pointer_of (get_or words (x + 2 + (length s.pointers + length s.weaks + i)) 0))
held_word_at words x i s g h =
    let q : ℕ = length s.pointers + length s.weaks in
    let place : x + 1 + suc q + i ≡ x + 2 + (q + i) = omega arith in
    part_at words x (suc q) (length s.held) i s.held (ap (λ (r : Stored). r.held) g.stored_is) h (omega (arith, g.fits))
    ∙ ap (λ (a : ℕ). Some (pointer_of (get_or words a 0))) place

pub record IsWeakRead (words : List ℕ) (t : Table) (x i : ℕ) : Type 0 where
  pub at : IsInObject t x x
  pub object : IsSome (counts_of (header_of (get_or words x 0)))
  pub in_words : x + 2 + (pointer_count (header_of (get_or words x 0)) + i) < length words
  pub in_object : IsInObject t x (x + 2 + (pointer_count (header_of (get_or words x 0)) + i))
  pub value : slice_get (weaks_at t x) i ≡ Some (pointer_of (get_or words (x + 2 + (pointer_count (header_of (get_or words x 0)) + i)) 0))

pub weak_read : (size : ℕ) (words : List ℕ) (rows : List Row) (t : Table) (x i : ℕ) → IsTable size words rows → table_of size words rows ≡ t
    → i < length (weaks_at t x) → IsWeakRead words t x i
unfolding weaks_at
weak_read size words rows t x i g e h =
    let p = has_weak t x i h in
    let is_in =
    object_is_in (sizes_in words) size words rows x p.object (table_right g) (ap (λ (u : Table). object_at u x) e ∙ p.object_is) in
    let count : pointer_count (header_of (get_or words x 0)) ≡ length p.object.pointers = ap pointers_of is_in.header_is in
    record {
      at = record { object = p.object; is = p.object_is; below = omega arith };
      object = rw is_in.header_is refl;
      in_words = omega (arith, is_in.fits, p.within);
      in_object = record { object = p.object; is = p.object_is; below = omega (arith, p.within, count) };
      value = rw (p.object_is, count) (weak_word_at words x i p.object is_in p.within);
    }

pub set_weak-is : (t : Table) (x i : ℕ) (v : Option ℕ) (s : Stored) → object_at t x ≡ Some s
    → set_weak t x i v ≡ put_object t x (with_weak s i v)
unfolding set_weak
set_weak-is t x i v s e = rw e refl

pub weak_written : (size : ℕ) (words : List ℕ) (rows : List Row) (t : Table) (x i v : ℕ) → IsTable size words rows
    → table_of size words rows ≡ t → i < length (weaks_at t x)
    → IsWrittenTable size (set words (x + 2 + (pointer_count (header_of (get_or words x 0)) + i)) v) rows (set_weak t x i (pointer_of v))
weak_written size words rows t x i v g e h =
    let p = has_weak t x i h in
    let at : object_at (table_of size words rows) x ≡ Some p.object = ap (λ (u : Table). object_at u x) e ∙ p.object_is in
    let is_in = object_is_in (sizes_in words) size words rows x p.object (table_right g) at in
    let count : pointer_count (header_of (get_or words x 0)) ≡ length p.object.pointers = ap pointers_of is_in.header_is in
    rw (set_weak-is t x i (pointer_of v) p.object p.object_is)
    (part_written size words rows t x (x + 2 + (pointer_count (header_of (get_or words x 0)) + i)) (suc (length p.object.pointers) + i) v
    p.object (with_weak p.object i (pointer_of v)) g e at (omega (arith, count)) (omega (arith, p.within))
    (turns_weak p.object i v p.within) (simp length-set))
