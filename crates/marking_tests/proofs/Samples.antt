-- Tables that tests build: each pointer leads to an object.
use Rattle.regions.proofs.Common.{◌≡◌, ◌+◌, ◌-◌, ◌*◌, ◌/◌, ◌%◌, ◌<◌, ◌≤◌, ◌∷◌, ◌++◌, ◌∙◌, inl, inr, ℕ, zero, suc, true, false, List, []}
use Rattle.regions.proofs.Common.{Option, Some, None, length, get_or, set, refl, sym, ap, subst, arith, get_or-set_same, get_or-set_other}
use Rattle.regions.proofs.Common.{length-set, slice_get, cases_eq, length-replicate, slice_get_within, slice_get_read}
use Rattle.regions.proofs.Common.{get_or_from_slice_get, Stored, fields, with_field, Object, Filler, Region, Free, Table, region_tile}
use Rattle.regions.proofs.Common.{region_at, tile_in, tile_object, object_at, stored_size, object_words, free_table, taken, first_free}
use Rattle.regions.proofs.Common.{set_field, push_tile, replace_tile, new_object, remainder, used_of, top_of, kind_of, HasObject, IsShaped}
use Rattle.regions.specs.Table.{object_pointers, pointers_at}
use Rattle.heap_model.specs.Heap.{Holds}
use Rattle.heap_model.specs.Clearing.{CanBeFollowed}
use Rattle.heap_model.proofs.Fields.{field_set}
use Rattle.heap_model.proofs.Lists.{get-set_cases, get_kept-append}
use Rattle.regions.proofs.Words.FieldAccess.{get-back}
use Rattle.regions.proofs.Tiles.Changes.{WritesObject, field_put, field_size, object_same}
use Rattle.regions.proofs.Tiles.Placing.{region_taken}
use Rattle.mark_bitmap.specs.Tops.{is_below, below_previous}
use Rattle.marker.specs.Views.{heap_of}
use Rattle.marker.specs.Stands.{IsKept, CanFollow, MarkerStands}
use Rattle.marking_tests.specs.Samples.{IsLinked, LeadToObjects, KeepsTable}
use Rattle.marker.specs.declared.marker.Marker.{Marker}
use Rattle.marker.proofs.Forgotten.{table_stands}
use Rattle.regions.proofs.LongRuns.RunLaws.{frees}
use Rattle.regions.proofs.Tiles.Made.{IsMade, nil_fields, object_made}
use Rattle.regions.specs.declared.row.Kind.TheVariants as kinds

pub free_linked : (t : Table) (count size : ℕ) → t ≡ free_table count size → IsLinked t
unfolding object_at tile_in region_at free_table
free_linked t count size e a i b x o f =
    let none : object_at t a ≡ None =
    ap (λ (u : Table). object_at u a) e ∙ ap (λ (r : Region). tile_object (region_tile r (a % size))) (frees count (a / size)) in
    absurd (cc)

pub free_size : (t : Table) (count size : ℕ) → t ≡ free_table count size → (length t.regions ≡ count) × (t.words_per_region ≡ size)
unfolding free_table
free_size t count size e = (ap (λ (u : Table). length u.regions) e ∙ length-replicate count Free, ap (λ (u : Table). u.words_per_region) e)

pub keeps_refl : (t : Table) → KeepsTable t t
keeps_refl t = record {
  count = refl;
  size = refl;
  linked = λ l. l;
  tops = λ k. omega arith;
  stays = λ a o. o;
  words = λ a o. refl;
  pointers = λ a o. refl;
}

pub keeps_trans : (t u v : Table) → KeepsTable t u → KeepsTable u v → KeepsTable t v
keeps_trans t u v p q = record {
  count = q.count ∙ p.count;
  size = q.size ∙ p.size;
  linked = λ l. q.linked (p.linked l);
  tops = λ k. omega (arith, p.tops k, q.tops k);
  stays = λ a h. q.stays a (p.stays a h);
  words = λ a h. q.words a (p.stays a h) ∙ p.words a h;
  pointers = λ a h. q.pointers a (p.stays a h) ∙ p.pointers a h;
}

-- where a region's words handed out are as many as before, or more, its top doesn't fall
pub top_stays : (t t' : Table) (k : ℕ) → t'.words_per_region ≡ t.words_per_region → used_of t k ≤ used_of t' k → top_of t k ≤ top_of t' k
top_stays t t' k size used =
    let same : k * t'.words_per_region ≡ k * t.words_per_region = ap (λ (n : ℕ). k * n) size in
    omega (arith, same, used)

pub same_size : (t t' : Table) (a b : ℕ) → object_at t' b ≡ object_at t a → object_words t' b ≡ object_words t a
unfolding object_words
same_size t t' a b e = ap stored_size e

pub same_shape : (t t' : Table) (a b : ℕ) → object_at t' b ≡ object_at t a → length (pointers_at t' b) ≡ length (pointers_at t a)
unfolding pointers_at
same_shape t t' a b e = ap (λ (o : Option Stored). length (object_pointers o)) e

pointers_are : (t : Table) (a : ℕ) (x : Stored) → object_at t a ≡ Some x → length (pointers_at t a) ≡ length x.pointers
unfolding pointers_at
pointers_are t a x e = ap (λ (o : Option Stored). length (object_pointers o)) e

same_objects : (t t' : Table) → length t'.regions ≡ length t.regions → t'.words_per_region ≡ t.words_per_region
    → ((k : ℕ) → used_of t' k ≡ used_of t k) → ((a : ℕ) → object_at t' a ≡ object_at t a) → KeepsTable t t'
same_objects t t' count size used same = record {
  count = count;
  size = size;
  tops = λ k. top_stays t t' k size (omega (arith, used k));
  linked = λ l a i b x o f. let h = l a i b x (sym (same a) ∙ o) f in record { object = h.object; is = same b ∙ h.is };
  stays = λ a h. record { object = h.object; is = same a ∙ h.is };
  words = λ a h. same_size t t' a a (same a);
  pointers = λ a h. same_shape t t' a a (same a);
}

pub take_keeps : (t t' : Table) (o : Option ℕ) → first_free t ≡ o → t' ≡ taken t o → KeepsTable t t'
take_keeps t t' None f e = subst (λ (u : Table). KeepsTable t u) (sym e) (keeps_refl t)
take_keeps t t' (Some k) f e =
    let p = region_taken t k f in
    subst (λ (u : Table). KeepsTable t u) (sym e)
    (same_objects t (taken t (Some k)) p.count p.size p.used (λ a. object_same t (taken t (Some k)) a (p.others a)))

module _ (t : Table) (x i b : ℕ) (z : 0 < t.words_per_region) (from : HasObject t x) (to : HasObject t b) where
  abbrev s : Stored
  s = from.object

  abbrev u : Table
  u = set_field t x i (Some b)

  w : WritesObject t u x s (with_field s i (Some b))
  w = field_put t x i (Some b) s z from.is

  link_stays : (a : ℕ) → HasObject t a → HasObject u a
  link_stays a h = elim (cases_eq a x) [
    | inl same ↦ record { object = with_field s i (Some b); is = ap (object_at u) same ∙ w.is }
    | inr other ↦ record { object = h.object; is = object_same t u a (w.others a other) ∙ h.is }
  ]

  link_words : (a : ℕ) → HasObject t a → object_words u a ≡ object_words t a
  unfolding object_words
  link_words a h = elim (cases_eq a x) [
    | inl same ↦ ap (object_words u) same ∙ ap stored_size w.is ∙ field_size s i (Some b)
        ∙ sym (ap stored_size from.is) ∙ sym (ap (object_words t) same)
    | inr other ↦ ap stored_size (object_same t u a (w.others a other))
  ]

  link_pointers : (a : ℕ) → HasObject t a → length (pointers_at u a) ≡ length (pointers_at t a)
  link_pointers a h = elim (cases_eq a x) [
    | inl same ↦ ap (λ (c : ℕ). length (pointers_at u c)) same ∙ pointers_are u x (with_field s i (Some b)) w.is
        ∙ (field_set s i (Some b)).shape ∙ sym (pointers_are t x s from.is) ∙ sym (ap (λ (c : ℕ). length (pointers_at t c)) same)
    | inr other ↦ same_shape t u a a (object_same t u a (w.others a other))
  ]

  linked : IsLinked t → IsLinked u
  linked l a j c y o f = elim (cases_eq a x) [
    | inl same ↦
        let y_is : y ≡ with_field s i (Some b) = let e1 = w.is in let e2 = sym (ap (object_at u) same) ∙ o in cc in
        let now : slice_get (set (fields s) i (Some b)) j ≡ Some (Some c) =
        ap (λ k. slice_get k j) (sym (field_set s i (Some b)).fields_are) ∙ ap (λ (q : Stored). slice_get (fields q) j) (sym y_is) ∙ f in
        elim (get-set_cases (fields s) i j (Some b) (Some c) now) [
          | inl is ↦ let end : c ≡ b = cc in subst (λ (k : ℕ). HasObject u k) (sym end) (link_stays b to)
          | inr was ↦ link_stays c (l x j c s from.is was)
        ]
    | inr other ↦ link_stays c (l a j c y (sym (object_same t u a (w.others a other)) ∙ o) f)
  ]

  pub link_keeps : (t' : Table) → t' ≡ set_field t x i (Some b) → KeepsTable t t'
  link_keeps t' e = subst (λ (v : Table). KeepsTable t v) (sym e)
      (record {
        count = w.count;
        size = w.size;
        linked = linked;
        tops = λ k. top_stays t u k w.size (omega (arith, w.used k));
        stays = link_stays;
        words = link_words;
        pointers = link_pointers;
      })

pub set_leads : (t : Table) (words : List (Option ℕ)) (k a : ℕ) → LeadToObjects t words → HasObject t a
    → LeadToObjects t (set words k (Some a))
set_leads t words k a l h i b e =
    let inside : i < length words =
    let p = slice_get_within (set words k (Some a)) i (Some b) e in
    omega (arith, p, length-set words k (Some a)) in
    let read : get_or (set words k (Some a)) i (Some b) ≡ Some b = get_or_from_slice_get (set words k (Some a)) i (Some b) (Some b) e in
    elim (cases_eq i k) [
      | inl same ↦
          let wrote : get_or (set words k (Some a)) i (Some b) ≡ Some a =
          ap (λ (j : ℕ). get_or (set words k (Some a)) j (Some b)) same
          ∙ get_or-set_same words k (Some a) (Some b) (omega (arith, inside, same)) in
          let end : b ≡ a = cc in subst (λ (x : ℕ). HasObject t x) (sym end) h
      | inr other ↦ l i b (slice_get_read words (length words) i (Some b) refl inside
          (sym (sym (get_or-set_other words k i (Some a) (Some b) other) ∙ read)))
    ]

held_there : (t : Table) (roots : List (Option ℕ)) (m : Marker) → IsLinked t
    → ((a : ℕ) → (heap_of t roots m).kept a ≡ object_at t a) → (a k b : ℕ) → Holds (heap_of t roots m) a k b
    → (x : Stored) × ((heap_of t roots m).kept b ≡ Some x)
held_there t roots m linked kept a k b p =
    let o = p.object in
    let behind : ℕ = length o.weaks + p.slot in
    let place : ℕ = length o.pointers + behind in
    let is = get-back o.pointers (o.weaks ++ o.held) place behind refl ∙ get-back o.weaks o.held behind p.slot refl ∙ p.is.1 in
    let h = linked a place b o (sym (kept a) ∙ p.at) is in
    (h.object, kept b ∙ h.is)

-- a marker just made keeps every object
pub linked_closed : (t : Table) (roots : List (Option ℕ)) (m : Marker) → IsLinked t → LeadToObjects t roots
    → ((a : ℕ) → below_previous t m.tams a ≡ false) → CanBeFollowed (heap_of t roots m)
linked_closed t roots m linked leads none =
    let kept : (a : ℕ) → (heap_of t roots m).kept a ≡ object_at t a = λ a. rw (none a) refl in
    record {
      root = λ j a e. let h = leads j a e in (h.object, kept a ∙ h.is);
      pointer = λ b i a y e f.
          let h = linked b i a y (sym (kept b) ∙ e) (get_kept-append y.pointers (y.weaks ++ y.held) (Some a) i f) in
          (h.object, kept a ∙ h.is);
      held = λ b k a p. held_there t roots m linked kept b k a p;
    }

-- an object with nil fields is made where a filler was pushed
module _ (t t' t'' : Table) (k a n p weak name : ℕ) (shape : IsShaped t) (shape' : IsShaped t') (known : k < length t.regions)
    (ordinary : kind_of t k ≡ kinds.Ordinary) (room : used_of t k + n ≤ t.words_per_region) (size : n ≡ 2 + p + weak)
    (at : a ≡ top_of t k) (e : t' ≡ push_tile t k (Filler n))
    (e' : t'' ≡ replace_tile t' a (Object (new_object name p weak 0) ∷ remainder (n - (2 + p + weak + 0)))) where
  made : IsMade t t'' a (new_object name p weak 0)
  made = object_made t t' t'' k a n p weak name shape shape' known ordinary room size at e e'

  add_stays : (y : ℕ) → HasObject t y → HasObject t'' y
  add_stays y h = elim (cases_eq y a) [
    | inl same ↦ absurd (let o = sym (ap (object_at t) same) ∙ h.is in let w = made.was in cc)
    | inr apart ↦ record { object = h.object; is = made.others y apart ∙ h.is }
  ]

  pub add_keeps : KeepsTable t t''
  add_keeps = record {
    count = made.count;
    size = made.size;
    linked = λ l y i b x o f. elim (cases_eq y a) [
      | inl same ↦
          let x_is : x ≡ new_object name p weak 0 = let m = made.is in let o' = sym (ap (object_at t'') same) ∙ o in cc in
          absurd (nil_fields name p weak i b (ap (λ (q : Stored). slice_get (fields q) i) (sym x_is) ∙ f))
      | inr apart ↦ add_stays b (l y i b x (sym (made.others y apart) ∙ o) f)
    ];
    tops = λ j. top_stays t t'' j made.size (made.used j);
    stays = add_stays;
    words = λ y h. elim (cases_eq y a) [
      | inl same ↦ absurd (let o = sym (ap (object_at t) same) ∙ h.is in let none = made.was in cc)
      | inr apart ↦ same_size t t'' y y (made.others y apart)
    ];
    pointers = λ y h. elim (cases_eq y a) [
      | inl same ↦ absurd (let o = sym (ap (object_at t) same) ∙ h.is in let none = made.was in cc)
      | inr apart ↦ same_shape t t'' y y (made.others y apart)
    ];
  }

  pub add_made : HasObject t'' a
  add_made = record { object = new_object name p weak 0; is = made.is }

pub each_push : (P : ℕ → Type 0) (items : List ℕ) (b : ℕ) → ((i a : ℕ) → slice_get items i ≡ Some a → P a) → P b → (i a : ℕ)
    → slice_get (items ++ b ∷ []) i ≡ Some a → P a
each_push P [] b all p zero a e = let same : b ≡ a = cc in subst P same p
each_push P [] b all p (suc i) a e = cc
each_push P (x ∷ xs) b all p zero a e = all zero a e
each_push P (x ∷ xs) b all p (suc i) a e = each_push P xs b (λ j c. all (suc j) c) p i a e

pub objects_push : (t t' : Table) (items now : List ℕ) (b : ℕ) → KeepsTable t t' → HasObject t' b → now ≡ items ++ b ∷ []
    → ((i a : ℕ) → slice_get items i ≡ Some a → HasObject t a) → (i a : ℕ) → slice_get now i ≡ Some a → HasObject t' a
objects_push t t' items now b k h e all i a f =
    each_push (HasObject t') items b (λ j c g. k.stays c (all j c g)) h i a (ap (λ (l : List ℕ). slice_get l i) (sym e) ∙ f)

pub object_read : (t : Table) (items : List ℕ) (n i a : ℕ) → n ≡ length items → i < n → a ≡ get_or items i a
    → ((i a : ℕ) → slice_get items i ≡ Some a → HasObject t a) → HasObject t a
object_read t items n i a len inside e all = all i a (slice_get_read items n i a len inside e)

pub object_kept : (t : Table) (m m' : Marker) (a : ℕ) → ((b : ℕ) → below_previous t m.tams b ≡ false)
    → m'.tams.previous ≡ m.tams.previous → HasObject t a → IsKept t m' a
object_kept t m m' a none tops h =
    let below : below_previous t m'.tams a ≡ false = ap (λ (l : List ℕ). is_below t.words_per_region l a) tops ∙ none a in
    record { object = h.object; is = rw below h.is }

-- the previous tops stay at the bottoms while marking runs
pub none_below : (t : Table) (m m' : Marker) → ((a : ℕ) → below_previous t m.tams a ≡ false) → m'.tams.previous ≡ m.tams.previous
    → (a : ℕ) → below_previous t m'.tams a ≡ false
none_below t m m' none tops a = ap (λ (l : List ℕ). is_below t.words_per_region l a) tops ∙ none a

kept_back : (t : Table) (m : Marker) (a : ℕ) → ((b : ℕ) → below_previous t m.tams b ≡ false) → IsKept t m a → HasObject t a
kept_back t m a none k = let below = none a in record { object = k.object; is = rw below at k.is }

-- a marker that marks a table of which it keeps every object can go on over a larger one
pub grown_stands : (t t' : Table) (m : Marker) → MarkerStands t m → IsLinked t
    → ((a : ℕ) → below_previous t m.tams a ≡ false) → KeepsTable t t' → MarkerStands t' m
grown_stands t t' m st linked none k =
    table_stands t t' m st k.count k.size (λ j h. let top = st.previous.top j h in omega (arith, top, k.tops j))
    (λ j h. let top = st.next.top j h in omega (arith, top, k.tops j))
    (λ a x _ o. stays a x o) (λ a x _ o. stays a x o) (λ a h. let o = st.previous.object a h in words a o.0 o.1)
    (λ a h. let o = st.next.object a h in words a o.0 o.1) (λ _ a h. let o = st.next.object a h in pointers a o.0 o.1) follows
  where
    stays : (a : ℕ) (x : Stored) → object_at t a ≡ Some x → (y : Stored) × (object_at t' a ≡ Some y)
    stays a x o = let h = k.stays a (record { object = x; is = o }) in (h.object, h.is)

    words : (a : ℕ) (x : Stored) → object_at t a ≡ Some x → object_words t' a ≡ object_words t a
    words a x o = k.words a (record { object = x; is = o })

    pointers : (a : ℕ) (x : Stored) → object_at t a ≡ Some x → length (pointers_at t' a) ≡ length (pointers_at t a)
    pointers a x o = k.pointers a (record { object = x; is = o })

    none' : (a : ℕ) → below_previous t' m.tams a ≡ false
    none' a = ap (λ (n : ℕ). is_below n m.tams.previous a) k.size ∙ none a

    kept : (a : ℕ) → IsKept t m a → IsKept t' m a
    kept a q = object_kept t' m m a none' refl (k.stays a (kept_back t m a none q))

    follows : m.running ≡ true → CanFollow t' m
    follows on =
        let f = st.follows on in
        record {
          closed = linked_closed t' [] m (k.linked linked) (λ i a e. absurd (let z = e in cc)) none';
          marked = λ a h. kept a (f.marked a h);
          logged_kept = λ a l. kept a (f.logged_kept a l);
          logged_below = λ a l. ap (λ (n : ℕ). is_below n m.tams.next a) k.size ∙ f.logged_below a l;
        }
