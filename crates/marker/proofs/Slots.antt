-- Weak slots of an object, cleared one after another.
use Rattle.std.proofs.Common.{◌≡◌, ◌+◌, ◌*◌, ◌<◌, ◌≤◌, ◌∷◌, ◌∙◌, ℕ, zero, suc, Bool, true, Option, Some, None, List, [], length, map, set}
use Rattle.std.proofs.Common.{refl, sym, ap, subst, arith, inl, inr, slice_get, IsSome}
use Rattle.std.proofs.lemmas.Bool.{cases_eq}
use Rattle.heap_model.specs.Graph.{held_by}
use Rattle.heap_model.specs.Heap.{Stored}
use Rattle.heap_model.specs.Marking.{Marking}
use Rattle.heap_model.specs.Weak.{cleared_word, cleared_object}
use Rattle.regions.specs.Table.{Table, object_at, object_weaks, weaks_at, set_weak, used_of, top_of}
use Rattle.regions.proofs.Tiles.Changes.{WritesObject, weak_put, object_same}
use Rattle.mark_bitmap.specs.Tops.{is_below}
use Rattle.mark_bitmap.specs.Kept.{MarksObjects}
use Rattle.mark_bitmap.specs.Marks.{is_marked}
use Rattle.mark_bitmap.specs.Grey.{done_in}
use Rattle.marker.specs.Views.{marking_of, untaken}
use Rattle.marker.specs.Clears.{HasCleared, DropsHeld}
use Rattle.marker.specs.declared.marker.Marker.{Marker}
use Rattle.marker.proofs.Forgotten.{role_stays}

-- the first i of a list's items, changed
abbrev pub partly : (Option ℕ → Option ℕ) → ℕ → List (Option ℕ) → List (Option ℕ)
partly f zero xs = xs
partly f (suc i) [] = []
partly f (suc i) (x ∷ xs) = f x ∷ partly f i xs

partly_get : (f : Option ℕ → Option ℕ) (i : ℕ) (xs : List (Option ℕ)) → slice_get (partly f i xs) i ≡ slice_get xs i
partly_get f zero xs = refl
partly_get f (suc i) [] = refl
partly_get f (suc i) (x ∷ xs) = partly_get f i xs

partly_set : (f : Option ℕ → Option ℕ) (i : ℕ) (xs : List (Option ℕ)) (x : Option ℕ) → slice_get xs i ≡ Some x
    → set (partly f i xs) i (f x) ≡ partly f (suc i) xs
partly_set f zero [] x e = cc
partly_set f zero (y ∷ xs) x e = let same : y ≡ x = cc in rw same refl
partly_set f (suc i) [] x e = cc
partly_set f (suc i) (y ∷ xs) x e = ap (λ l. f y ∷ l) (partly_set f i xs x e)

partly_all : (f : Option ℕ → Option ℕ) (i : ℕ) (xs : List (Option ℕ)) → length xs ≤ i → partly f i xs ≡ map f xs
partly_all f zero [] h = refl
partly_all f zero (x ∷ xs) h = absurd (omega arith)
partly_all f (suc i) [] h = refl
partly_all f (suc i) (x ∷ xs) h = ap (λ l. f x ∷ l) (partly_all f i xs (omega arith))

length_partly : (f : Option ℕ → Option ℕ) (i : ℕ) (xs : List (Option ℕ)) → length (partly f i xs) ≡ length xs
length_partly f zero xs = refl
length_partly f (suc i) [] = refl
length_partly f (suc i) (x ∷ xs) = ap suc (length_partly f i xs)

-- marking sees of a table the size of its regions alone
pub same_marking : (t u : Table) (m : Marker) → u.words_per_region ≡ t.words_per_region → marking_of u m ≡ marking_of t m
same_marking t u m e = ap (λ (w : ℕ). record {
  old = λ a. is_below w m.tams.next a;
  marked = is_marked m.bitmaps.next;
  scanned = is_marked m.grey.scanned;
  done = done_in m.grey;
  logged = untaken m;
}) e

-- the object at x once i of its slots are cleared
abbrev pub with_slots : Marking → Stored → ℕ → Stored
with_slots m s i = record s { weaks = partly (cleared_word m) i s.weaks }

pub record IsPartly (m : Marking) (t u : Table) (x i : ℕ) : Type 0 where
  pub object : Stored
  pub writes : WritesObject t u x object (with_slots m object i)

some_object : (o : Option Stored) → IsSome o → (s : Stored) × (o ≡ Some s)
some_object None h = cc
some_object (Some s) h = (s, refl)

pub partly_first : (m : Marking) (t : Table) (x : ℕ) → IsSome (object_at t x) → IsPartly m t t x 0
partly_first m t x h =
    let (s, e) = some_object (object_at t x) h in
    record {
      object = s;
      writes = record {
        size = refl;
        count = refl;
        was = e;
        is = e;
        others = λ y n. refl;
        kinds = λ k. refl;
        unmoved = λ n. n;
        used = λ k. refl;
      };
    }

weaks_are : (t : Table) (x : ℕ) (s : Stored) → object_at t x ≡ Some s → weaks_at t x ≡ s.weaks
unfolding weaks_at
weaks_are t x s e = ap object_weaks e

pub partly_room : (m : Marking) (t u : Table) (x i : ℕ) → IsPartly m t u x i → length (weaks_at u x) ≡ length (weaks_at t x)
partly_room m t u x i p = ap length (weaks_are u x _ p.writes.is) ∙ length_partly (cleared_word m) i p.object.weaks
    ∙ sym (ap length (weaks_are t x _ p.writes.was))

next_slot : (m : Marking) (t u : Table) (x i : ℕ) (target target' : Option ℕ) → 0 < t.words_per_region → IsPartly m t u x i
    → slice_get (weaks_at u x) i ≡ Some target → target' ≡ cleared_word m target → IsPartly m t (set_weak u x i target') x (suc i)
next_slot m t u x i target target' z p read is =
    let w = p.writes in
    let s1 : Stored = with_slots m p.object i in
    let v = weak_put u x i target' s1 (rw w.size z) w.is in
    let there : slice_get p.object.weaks i ≡ Some target =
    sym (partly_get (cleared_word m) i p.object.weaks) ∙ sym (ap (λ l. slice_get l i) (weaks_are u x s1 w.is)) ∙ read in
    let slots : set (partly (cleared_word m) i p.object.weaks) i target' ≡ partly (cleared_word m) (suc i) p.object.weaks =
    ap (λ q. set (partly (cleared_word m) i p.object.weaks) i q) is ∙ partly_set (cleared_word m) i p.object.weaks target there in
    record {
      object = p.object;
      writes = record {
        size = v.size ∙ w.size;
        count = v.count ∙ w.count;
        was = w.was;
        is = v.is ∙ ap (λ l. Some (record p.object { weaks = l })) slots;
        others = λ y n. v.others y n ∙ w.others y n;
        kinds = λ k. v.kinds k ∙ w.kinds k;
        unmoved = λ n. v.unmoved (w.unmoved n);
        used = λ k. v.used k ∙ w.used k;
      };
    }

pub partly_next : (m : Marking) (t u : Table) (x i j : ℕ) (target target' : Option ℕ) → j ≡ i + 1 → 0 < t.words_per_region
    → IsPartly m t u x i → slice_get (weaks_at u x) i ≡ Some target → target' ≡ cleared_word m target
    → IsPartly m t (set_weak u x i target') x j
partly_next m t u x i j target target' e z p read is =
    let same : j ≡ suc i = omega arith in
    subst (λ (n : ℕ). IsPartly m t (set_weak u x i target') x n) (sym same) (next_slot m t u x i target target' z p read is)

-- once all are cleared, what they held goes too
pub partly_last : (m : Marking) (t u v : Table) (x i : ℕ) → IsPartly m t u x i → i ≡ length (weaks_at t x) → DropsHeld u v x
    → HasCleared m t v x
partly_last m t u v x i p e d =
    let w = p.writes in
    let all : partly (cleared_word m) i p.object.weaks ≡ map (cleared_word m) p.object.weaks =
    partly_all (cleared_word m) i p.object.weaks (omega (arith, e, ap length (weaks_are t x _ w.was))) in
    record {
      object = p.object;
      was = w.was;
      size = d.size ∙ w.size;
      count = d.count ∙ w.count;
      kinds = λ k. d.kinds k ∙ w.kinds k;
      tops = λ k. ap (λ (n : ℕ). k * n + used_of v k) (d.size ∙ w.size)
          ∙ ap (λ (n : ℕ). k * t.words_per_region + n) (d.used k ∙ w.used k);
      unmoved = λ n. d.unmoved (w.unmoved n);
      is = d.is ∙ ap (λ (s : Stored). Some (record s { held = held_by s.weaks s.held })) same
          ∙ ap (λ l. Some (record p.object { weaks = l; held = held_by l p.object.held })) all
          ∙ sym (ap (cleared_object m) w.was);
      others = λ y n. d.others y n ∙ w.others y n;
    }
  where
    same : d.object ≡ with_slots m p.object i
    same = let e1 = d.was in let e2 = p.writes.is in cc

pub partly_marks : (m : Marking) (t u : Table) (x i : ℕ) (tops : List ℕ) (marks : List Bool) → IsPartly m t u x i
    → MarksObjects t tops marks → MarksObjects u tops marks
partly_marks m t u x i tops marks p o =
    let w = p.writes in
    role_stays t u tops marks o w.count w.size (λ k h. let top = o.top k h in let same = top_same k in omega arith) stays
  where
    top_same : (k : ℕ) → top_of u k ≡ top_of t k
    top_same k = ap (λ (n : ℕ). k * n + used_of u k) p.writes.size ∙ ap (λ (n : ℕ). k * t.words_per_region + n) (p.writes.used k)

    stays : (a : ℕ) (s : Stored) → is_marked marks a ≡ true → object_at t a ≡ Some s → (y : Stored) × (object_at u a ≡ Some y)
    stays a s k e = elim (cases_eq a x) [
      | inl same ↦ (with_slots m p.object i, ap (object_at u) same ∙ p.writes.is)
      | inr apart ↦ (s, object_same t u a (p.writes.others a apart) ∙ e)
    ]
