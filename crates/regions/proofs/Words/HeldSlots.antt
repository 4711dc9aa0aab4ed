-- Held slots, as the last fields of their object.
use Rattle.regions.proofs.Common.{◌≡◌, ◌+◌, ◌-◌, ◌^◌, ◌<◌, ◌++◌, ◌∙◌, ℕ, Option, Some, None, List, length, refl, sym, ap, arith}
use Rattle.regions.proofs.Common.{IsSome}
use Rattle.regions.proofs.Common.{Stored, Object, IsShaped}
use Rattle.regions.proofs.Common.{fields, with_field, Table, object_at, pointers_at, weaks_at, fields_at, put_object, set_field}
use Rattle.std.specs.List.{slice_get}
use Rattle.heap_model.proofs.Fields.{ltb_above}
use Rattle.regions.specs.Table.{object_held, held_at, set_held, object_pointers, object_weaks, object_fields}
use Rattle.regions.proofs.Words.Fields.{with_held}
use Rattle.regions.proofs.Tiles.Laws.{tile_of}
use Rattle.regions.proofs.Words.FieldAccess.{get-back, count_fields, set_field-is}

-- the object at an address, by its parts
pub record HasParts (t : Table) (x : ℕ) : Type 0 where
  pub object : Stored
  pub is : object_at t x ≡ Some object
  pub pointers : pointers_at t x ≡ object.pointers
  pub weaks : weaks_at t x ≡ object.weaks
  pub held : held_at t x ≡ object.held
  pub fields_are : fields_at t x ≡ fields object

pub has_parts : (t : Table) (x : ℕ) → IsSome (object_at t x) → HasParts t x
unfolding pointers_at weaks_at held_at fields_at
has_parts t x h = go (object_at t x) refl h
  where
    go : (o : Option Stored) → object_at t x ≡ o → IsSome o → HasParts t x
    go None e h = absurd (let k = h in cc)
    go (Some s) e h = record {
      object = s;
      is = e;
      pointers = ap object_pointers e;
      weaks = ap object_weaks e;
      held = ap object_held e;
      fields_are = ap object_fields e;
    }

pub set_held-is : (t : Table) (x i : ℕ) (v : Option ℕ) (s : Stored) → object_at t x ≡ Some s
    → set_held t x i v ≡ put_object t x (with_held s i v)
unfolding set_held
set_held-is t x i v s e = rw e refl

-- where there is a held slot there is an object
pub has_held : (t : Table) (x i : ℕ) → i < length (held_at t x) → IsSome (object_at t x)
unfolding held_at
has_held t x i h = go (object_at t x) h
  where
    go : (o : Option Stored) → i < length (object_held o) → IsSome o
    go None h = absurd (omega (arith, h))
    go (Some s) h = refl

-- there are as many fields as pointers, weak slots and held slots
pub fields_counted : (t : Table) (x : ℕ) → IsSome (object_at t x)
    → length (fields_at t x) ≡ length (pointers_at t x) + (length (weaks_at t x) + length (held_at t x))
fields_counted t x h =
    let p = has_parts t x h in
    omega (
      arith,
      count_fields p.object,
      ap (λ (l : List (Option ℕ)). length l) p.pointers,
      ap (λ (l : List (Option ℕ)). length l) p.weaks,
      ap (λ (l : List (Option ℕ)). length l) p.held,
      ap (λ (l : List (Option ℕ)). length l) p.fields_are,
    )

module _ (t : Table) (x i : ℕ) (h : i < length (held_at t x)) where
  parts : HasParts t x
  parts = has_parts t x (has_held t x i h)

  abbrev place : ℕ
  place = length (pointers_at t x) + length (weaks_at t x) + i

  place_is : place ≡ length parts.object.pointers + (length parts.object.weaks + i)
  place_is =
      omega (
        arith,
        ap (λ (l : List (Option ℕ)). length l) parts.pointers,
        ap (λ (l : List (Option ℕ)). length l) parts.weaks,
      )

  -- it is a field
  pub held_field : place < length (fields_at t x)
  held_field = omega (arith, h, fields_counted t x (has_held t x i h))

  -- its place is a small number
  pub held_small : IsShaped t → place < 2 ^ 32
  held_small shape =
      let s : Stored = parts.object in
      let within = shape.within x (Object s) (tile_of t x s parts.is) in
      let held = ap (λ (l : List (Option ℕ)). length l) parts.held in
      omega (arith, h, held, within, place_is, shape.in_all)

  -- which holds what it holds
  pub held_read : slice_get (held_at t x) i ≡ slice_get (fields_at t x) place
  held_read =
      let s : Stored = parts.object in
      let back : slice_get (fields s) place ≡ slice_get s.held i =
      get-back s.pointers (s.weaks ++ s.held) place (length s.weaks + i) place_is
      ∙ get-back s.weaks s.held (length s.weaks + i) i refl in
      ap (λ (l : List (Option ℕ)). slice_get l i) parts.held ∙ sym back
      ∙ sym (ap (λ (l : List (Option ℕ)). slice_get l place) parts.fields_are)

  -- and to set that one sets it
  pub held_set : (v : Option ℕ) → set_field t x place v ≡ set_held t x i v
  held_set v =
      let s : Stored = parts.object in
      let one : with_field s place v ≡ with_held s i v = ap (λ (n : ℕ). with_field s n v) place_is ∙ last s in
      set_field-is t x place v s parts.is ∙ ap (put_object t x) one ∙ sym (set_held-is t x i v s parts.is)
    where
      last : (s : Stored) → with_field s (length s.pointers + (length s.weaks + i)) v ≡ with_held s i v
      last s =
          let a = ltb_above (length s.pointers + (length s.weaks + i)) (length s.pointers) (omega arith) in
          let from : length s.pointers + (length s.weaks + i) - length s.pointers ≡ length s.weaks + i = omega arith in
          let b = ltb_above (length s.weaks + i) (length s.weaks) (omega arith) in
          let rest : length s.weaks + i - length s.weaks ≡ i = omega arith in
          rw (a, from, b, rest) refl
