-- Fields: pointers, weak slots after them, and held slots last.
use Rattle.regions.proofs.Common.{◌≡◌, ◌+◌, ◌-◌, ◌<◌, ◌∷◌, ◌++◌, ◌∙◌, ℕ, zero, suc, Option, Some, List, [], length, get_or, set, refl}
use Rattle.regions.proofs.Common.{sym, ap, subst, arith, inl, inr, length-append, cases_lt, lt-ltb, header_of, pointer_of, field_count}
use Rattle.regions.proofs.Common.{Stored, fields, with_field, Table, object_at, weaks_at}
use Rattle.regions.proofs.Common.{fields_at, set_field, put_object, table_of, IsTable, Row, object_weaks}
use Rattle.std.specs.List.{slice_get}
use Rattle.heap_words.specs.Contents.{fields_of}
use Rattle.heap_model.proofs.Fields.{ltb_above}
use Rattle.regions.specs.Table.{object_fields}
use Rattle.regions.proofs.Words.Fields.{Turns, turns_pointer, turns_weak, turns_held, field_size}
use Rattle.regions.proofs.Words.Places.{IsInObject, IsIn}
use Rattle.regions.proofs.Words.ObjectWords.{there, IsThere}
use Rattle.regions.proofs.Tiles.Targets.{IsWrittenTable}
use Rattle.regions.proofs.Words.Access.{HasPart, has_part, part_written, pointer_word_at, weak_word_at, held_word_at}

module _ {A : Type 0} where
  get-front : (xs ys : List A) (i : ℕ) → i < length xs → slice_get (xs ++ ys) i ≡ slice_get xs i
  get-front [] ys i h = absurd (omega arith)
  get-front (x ∷ xs) ys zero h = refl
  get-front (x ∷ xs) ys (suc i) h = get-front xs ys i (omega arith)

  pub get-back : (xs ys : List A) (i j : ℕ) → i ≡ length xs + j → slice_get (xs ++ ys) i ≡ slice_get ys j
  get-back [] ys i j e = let same : i ≡ j = omega arith in rw same refl
  get-back (x ∷ xs) ys zero j e = absurd (omega arith)
  get-back (x ∷ xs) ys (suc i) j e = get-back xs ys i j (omega arith)

pub has_field : (t : Table) (x i : ℕ) → i < length (fields_at t x) → HasPart t x i (λ s. length (fields s))
unfolding fields_at
has_field t x i h = has_part t x i (λ s. length (fields s)) (λ o. length (object_fields o)) (λ s. refl) refl h

pub weaks_are : (t : Table) (x : ℕ) (s : Stored) → object_at t x ≡ Some s → weaks_at t x ≡ s.weaks
unfolding weaks_at
weaks_are t x s e = ap object_weaks e

fields_are : (t : Table) (x : ℕ) (s : Stored) → object_at t x ≡ Some s → fields_at t x ≡ fields s
unfolding fields_at
fields_are t x s e = ap object_fields e

pub count_fields : (s : Stored) → length (fields s) ≡ length s.pointers + (length s.weaks + length s.held)
count_fields s = omega (arith, length-append s.pointers (s.weaks ++ s.held), length-append s.weaks s.held)

-- its header counts them
pub header_fields : (words : List ℕ) (t : Table) (x : ℕ) (s : Stored) → IsThere words t x s
    → field_count (header_of (get_or words x 0)) ≡ length (fields_at t x)
header_fields words t x s i =
    ap fields_of i.is_in.header_is ∙ sym (ap (λ fs. length fs) (fields_are t x s i.is) ∙ count_fields s)

-- each is the word at its place
field_word_at : (words : List ℕ) (x i : ℕ) (s : Stored) → IsIn words x s → i < length (fields s)
    → slice_get (fields s) i ≡ Some (pointer_of (get_or words (x + 2 + i) 0))
field_word_at words x i s g h =
    let p : ℕ = length s.pointers in
    let w : ℕ = length s.weaks in
    let all = count_fields s in
    let word : (a b : ℕ) → a ≡ b → Some (pointer_of (get_or words a 0)) ≡ Some (pointer_of (get_or words b 0)) =
    λ a b e. ap (λ (n : ℕ). Some (pointer_of (get_or words n 0))) e in
    elim (cases_lt i p) [
      | inl k ↦ get-front s.pointers (s.weaks ++ s.held) i k ∙ pointer_word_at words x i s g k
      | inr k ↦
          let j : ℕ = i - p in
          get-back s.pointers (s.weaks ++ s.held) i j (omega arith) ∙ elim (cases_lt j w) [
            | inl l ↦ get-front s.weaks s.held j l ∙ weak_word_at words x j s g l ∙ word _ _ (omega arith)
            | inr l ↦
                let m : ℕ = j - w in
                get-back s.weaks s.held j m (omega arith) ∙ held_word_at words x m s g (omega (arith, h, all)) ∙ word _ _ (omega arith)
          ]
    ]

turns_field : (s : Stored) (i v : ℕ) → i < length (fields s) → Turns s (suc i) v (with_field s i (pointer_of v))
turns_field s i v h =
    let p : ℕ = length s.pointers in
    let w : ℕ = length s.weaks in
    let all = count_fields s in
    elim (cases_lt i p) [
      | inl k ↦ (let b = lt-ltb i p k in rw b (turns_pointer s i v k))
      | inr k ↦ (
          let b = ltb_above i p k in
          let j : ℕ = i - p in
          elim (cases_lt j w) [
            | inl l ↦ (
                let c = lt-ltb j w l in
                let at : suc i ≡ suc p + j = omega arith in
                rw (b, c) (subst (λ (n : ℕ). Turns s n v (record s { weaks = set s.weaks j (pointer_of v) })) (sym at)
                (turns_weak s j v l)))
            | inr l ↦ (
                let c = ltb_above j w l in
                let m : ℕ = j - w in
                let at : suc i ≡ suc (p + w) + m = omega arith in
                rw (b, c) (subst (λ (n : ℕ). Turns s n v (record s { held = set s.held m (pointer_of v) })) (sym at)
                (turns_held s m v (omega (arith, h, all)))))
          ])
    ]

pub set_field-is : (t : Table) (x i : ℕ) (v : Option ℕ) (s : Stored) → object_at t x ≡ Some s
    → set_field t x i v ≡ put_object t x (with_field s i v)
unfolding set_field
set_field-is t x i v s e = rw e refl

pub record IsFieldRead (words : List ℕ) (t : Table) (x i : ℕ) : Type 0 where
  pub in_object : IsInObject t x (x + 2 + i)
  pub value : slice_get (fields_at t x) i ≡ Some (pointer_of (get_or words (x + 2 + i) 0))

module _ (size : ℕ) (words : List ℕ) (rows : List Row) (t : Table) (x i : ℕ) (g : IsTable size words rows)
    (e : table_of size words rows ≡ t) (h : i < length (fields_at t x)) where
  pub field_read : IsFieldRead words t x i
  field_read =
      let f = has_field t x i h in
      let s = f.object in
      let o = there size words rows t x s g e f.object_is in
      record {
        in_object = record { object = s; is = f.object_is; below = omega (arith, f.within, count_fields s) };
        value = ap (λ fs. slice_get fs i) (fields_are t x s f.object_is) ∙ field_word_at words x i s o.is_in f.within;
      }

  pub field_written : (v : ℕ) → IsWrittenTable size (set words (x + 2 + i) v) rows (set_field t x i (pointer_of v))
  field_written v =
      let f = has_field t x i h in
      let s = f.object in
      rw (set_field-is t x i (pointer_of v) s f.object_is)
      (part_written size words rows t x (x + 2 + i) (suc i) v s (with_field s i (pointer_of v)) g e
      (ap (λ (u : Table). object_at u x) e ∙ f.object_is) (omega arith) (omega (arith, f.within, count_fields s))
      (turns_field s i v f.within) (field_size s i (pointer_of v)))
