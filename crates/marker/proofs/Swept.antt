-- The clearing of one object with weak slots after another.
use Rattle.std.proofs.Common.{◌≡◌, ◌+◌, ◌-◌, ◌^◌, ◌<◌, ◌≤◌, ◌⊎◌, ◌∷◌, ◌++◌, ◌∙◌, slice_get}
use Rattle.std.proofs.lemmas.List.{length-map}
use Rattle.std.proofs.Common.{ℕ, Bool, Option, Some, None, List, [], length, map, refl, sym, ap, subst, arith, inl, inr}
use Rattle.std.specs.Prelude.{IsSome, IfSome}
use Rattle.std.proofs.lemmas.Bool.{cases_eq, cases_lt}
use Rattle.heap_model.specs.Graph.{held_by}
use Rattle.heap_model.specs.Heap.{Stored}
use Rattle.heap_model.specs.Clearing.{IsPassed}
use Rattle.heap_model.specs.Marking.{Marking}
use Rattle.heap_model.specs.Weak.{cleared, cleared_word, cleared_object}
use Rattle.heap_model.proofs.Names.{bool_cases}
use Rattle.heap_model.proofs.Held.{held_by_again}
use Rattle.heap_model.proofs.Lists.{get_kept-append, get-push_last, get-push_cases, length-push}
use Rattle.regions.specs.Tiles.{Tile, Object, Filler, Forwarded}
use Rattle.regions.specs.Shapes.{tile_shape}
use Rattle.regions.specs.declared.row.Shape.{Shape}
use Rattle.regions.specs.declared.row.Shape.TheVariants as shapes
use Rattle.regions.specs.Table.{Table, object_at, tile_object, tile_in, kind_of, top_of, HasNoForwarded}
use Rattle.heap_words.specs.Configs.{max_words}
use Rattle.regions.specs.Shaped.{IsShaped, IsPaired}
use Rattle.regions.specs.WeakStarts.{HasWeaks, IsNextWithWeaks}
use Rattle.regions.proofs.Tiles.Laws.{object_tile}
use Rattle.mark_bitmap.specs.Kept.{MarksObjects}
use Rattle.marker.specs.Clears.{ClearsSome, ClearsStaying, HasCleared, IsStaying, IsBetween, LooksAt}
use Rattle.marker.proofs.Forgotten.{role_stays}

twice_word : (m : Marking) (w : Option ℕ) → cleared_word m (cleared_word m w) ≡ cleared_word m w
twice_word m None = refl
twice_word m (Some a) = elim (bool_cases (m.old a)) [
  | inl o ↦ elim (bool_cases (m.marked a)) [ inl k ↦ rw (o, k, o, k) refl | inr k ↦ rw (o, k) refl ]
  | inr o ↦ rw (o, o) refl
]

twice_words : (m : Marking) (ws : List (Option ℕ)) → map (cleared_word m) (map (cleared_word m) ws) ≡ map (cleared_word m) ws
twice_words m [] = refl
twice_words m (w ∷ ws) = let e = twice_word m w in let es = twice_words m ws in cc

twice : (m : Marking) (o : Option Stored) → cleared_object m (cleared_object m o) ≡ cleared_object m o
twice m None = refl
twice m (Some s) =
    ap (λ l. Some (record s { weaks = l; held = held_by l (held_by (map (cleared_word m) s.weaks) s.held) })) (twice_words m s.weaks)
    ∙ ap (λ l. Some (record s { weaks = map (cleared_word m) s.weaks; held = l })) (held_by_again (map (cleared_word m) s.weaks) s.held)

-- an object stays one
module _ (m : Marking) (t u : Table) (d : ℕ → Type 0) (c : ClearsSome m t u d) where
  object_cases : (a : ℕ) → (o : Option Stored) → object_at t a ≡ o → (o ≡ None) ⊎ ((s : Stored) × (object_at t a ≡ Some s))
  object_cases a None e = inl refl
  object_cases a (Some s) e = inr (s, e)

  stays_object : (a : ℕ) (s : Stored) → object_at t a ≡ Some s → (y : Stored) × (object_at u a ≡ Some y)
  stays_object a s e = elim (c.each a) [ inl same ↦ (s, same ∙ e) | inr k ↦ (cleared m s, k.1 ∙ ap (cleared_object m) e) ]

  pub marks_stay : (tops : List ℕ) (marks : List Bool) → MarksObjects t tops marks → MarksObjects u tops marks
  marks_stay tops marks o = role_stays t u tops marks o c.count c.size
      (λ k h. let top = o.top k h in let same = c.tops k in omega arith) (λ a s k e. stays_object a s e)

-- nothing is cleared yet
pub swept_first : (m : Marking) (t : Table) → ClearsSome m t t (λ a. ⊥)
swept_first m t = record {
  size = refl;
  count = refl;
  kinds = λ k. refl;
  tops = λ k. refl;
  unmoved = λ n. n;
  each = λ a. inl refl;
  done_is = λ a n s. absurd n;
  tiles = λ a e. refl;
}

-- one after the other
pub swept_trans : (m : Marking) (t u v : Table) (d e f : ℕ → Type 0) → ClearsSome m t u d → ClearsSome m u v e
    → ((a : ℕ) → f a → d a ⊎ e a) → ClearsSome m t v f
swept_trans m t u v d e f p q cases = record {
  size = q.size ∙ p.size;
  count = q.count ∙ p.count;
  kinds = λ k. q.kinds k ∙ p.kinds k;
  tops = λ k. q.tops k ∙ p.tops k;
  unmoved = λ n. q.unmoved (p.unmoved n);
  each = each;
  done_is = λ a k s. elim (cases a k) [
    | inl x ↦
        let first = p.done_is a x s in
        elim (q.each a) [ inl same ↦ same ∙ first | inr y ↦ y.1 ∙ ap (cleared_object m) first ∙ twice m (object_at t a) ]
    | inr x ↦
        let second = q.done_is a x s in
        elim (p.each a) [
          | inl same ↦ second ∙ ap (cleared_object m) same
          | inr y ↦ second ∙ ap (cleared_object m) y.1 ∙ twice m (object_at t a)
        ]
  ];
  tiles = λ a none. q.tiles a (none_now a none) ∙ p.tiles a none;
}
  where
    none_now : (a : ℕ) → object_at t a ≡ None → object_at u a ≡ None
    none_now a none = elim (p.each a) [ inl same ↦ same ∙ none | inr y ↦ y.1 ∙ ap (cleared_object m) none ]

    each : (a : ℕ) → (object_at v a ≡ object_at t a) ⊎ (IsStaying m a × (object_at v a ≡ cleared_object m (object_at t a)))
    each a = elim (q.each a) [
      | inl same ↦ elim (p.each a) [ inl same' ↦ inl (same ∙ same') | inr y ↦ inr (y.0, same ∙ y.1) ]
      | inr y ↦ elim (p.each a) [
        | inl same ↦ inr (y.0, y.1 ∙ ap (cleared_object m) same)
        | inr z ↦ inr (y.0, y.1 ∙ ap (cleared_object m) z.1 ∙ twice m (object_at t a))
      ]
    ]

-- one object
pub swept_object : (m : Marking) (t u : Table) (x : ℕ) → ClearsStaying m t u x → ClearsSome m t u (λ a. a ≡ x)
unfolding object_at
swept_object m t u x (inl c) = record {
  size = h.size;
  count = h.count;
  kinds = h.kinds;
  tops = h.tops;
  unmoved = h.unmoved;
  each = λ a. elim (cases_eq a x) [
    | inl e ↦ inr (subst (IsStaying m) (sym e) c.0, here a e)
    | inr ne ↦ inl (ap tile_object (h.others a ne))
  ];
  done_is = λ a e s. here a e;
  tiles = λ a none. elim (cases_eq a x) [ inl e ↦ gone a e none | inr ne ↦ h.others a ne ];
}
  where
    h : HasCleared m t u x
    h = c.1

    here : (a : ℕ) → a ≡ x → object_at u a ≡ cleared_object m (object_at t a)
    here a e = ap (object_at u) e ∙ h.is ∙ ap (λ b. cleared_object m (object_at t b)) (sym e)

    gone : (a : ℕ) → a ≡ x → object_at t a ≡ None → tile_in u a ≡ tile_in t a
    gone a e none = absurd (let was = h.was in let is = ap (object_at t) e in cc)
swept_object m t u x (inr c) = record {
  size = ap (λ (t : Table). t.words_per_region) c.1;
  count = ap (λ (t : Table). length t.regions) c.1;
  kinds = λ k. ap (λ t. kind_of t k) c.1;
  tops = λ k. ap (λ t. top_of t k) c.1;
  unmoved = λ n. subst HasNoForwarded (sym c.1) n;
  each = λ a. inl (ap (λ t. object_at t a) c.1);
  done_is = λ a e s. absurd (c.0 (subst (IsStaying m) e s));
  tiles = λ a none. ap (λ t. tile_in t a) c.1;
}

-- ---- what has no weak slots is passed over
-- each object of the table is plain, or one of pairs
abbrev pub ArePaired : Table → Type 0
ArePaired t = (a : ℕ) (s : Stored) → object_at t a ≡ Some s → IsPaired s

-- so what has no weak slots has no held slots
none_held : (s : Stored) → IsPaired s → (0 < length s.weaks → ⊥) → s.held ≡ []
none_held s (inl none) few = none
none_held s (inr same) few =
    go s.held (elim (cases_lt 0 (length s.weaks)) [ inl some ↦ absurd (few some) | inr le ↦ omega (arith, same, le) ])
  where
    go : (hs : List (Option ℕ)) → length hs ≡ 0 → hs ≡ []
    go [] e = refl
    go (h ∷ hs) e = absurd (omega (arith, e))

no_slots : (m : Marking) (ws : List (Option ℕ)) → (0 < length ws → ⊥) → map (cleared_word m) ws ≡ ws
no_slots m [] none = refl
no_slots m (w ∷ ws) none = absurd (none (omega arith))

-- clearing doesn't change an object that has none
module _ (m : Marking) (t u : Table) (d : ℕ → Type 0) (paired : ArePaired t) (c : ClearsSome m t u d) (a : ℕ)
    (none : HasWeaks u a → ⊥) where
  stored_passed : (s : Stored) → object_at t a ≡ Some s → object_at u a ≡ cleared_object m (object_at t a)
  stored_passed s is = elim (c.each a) [
    | inl same ↦
        let now : object_at u a ≡ Some s = same ∙ is in
        let few : 0 < length s.weaks → ⊥ = λ some. none (record { object = s; is = now; some = some }) in
        let alike = no_slots m s.weaks few in
        let empty = none_held s (paired a s is) few in
        let still = empty ∙ sym (ap (held_by (map (cleared_word m) s.weaks)) empty) in
        now ∙ ap (λ ws. Some (record s { weaks = ws })) (sym alike)
        ∙ ap (λ hs. Some (record s { weaks = map (cleared_word m) s.weaks; held = hs })) still ∙ sym (ap (cleared_object m) is)
    | inr x ↦ x.1
  ]

  passed : object_at u a ≡ cleared_object m (object_at t a)
  unfolding object_at
  passed = elim (object_cases m t u d c a (object_at t a) refl) [
    | inl gone ↦ ap tile_object (c.tiles a gone) ∙ gone ∙ sym (ap (cleared_object m) gone)
    | inr s ↦ stored_passed s.0 s.1
  ]

-- ---- as the code goes
-- what is between is done, and the next one is an object with weak slots
pub record IsSweep (m : Marking) (t u : Table) (from : ℕ) (left : Option ℕ) : Type 0 where
  pub paired : ArePaired t
  pub some : ClearsSome m t u (IsBetween from left)
  pub next : IfSome left (HasWeaks u)

-- how far it may still go, addresses being words of 32 bits
abbrev pub left_over : Option ℕ → ℕ
left_over None = 0
left_over (Some a) = 2 ^ 32 - a

sweep_done : (m : Marking) (t u : Table) (start from : ℕ) (left : Option ℕ) → ArePaired t → ClearsSome m t u (IsBetween start (Some from))
    → ((a : ℕ) → from ≤ a → IsPassed left a → HasWeaks u a → ⊥) → ClearsSome m t u (IsBetween start left)
sweep_done m t u start from left paired c none = record {
  size = c.size;
  count = c.count;
  kinds = c.kinds;
  tops = c.tops;
  unmoved = c.unmoved;
  each = c.each;
  done_is = λ a between s. elim (cases_lt a from) [
    | inl low ↦ c.done_is a (between.0, low) s
    | inr high ↦ passed m t u (IsBetween start (Some from)) paired c a (none a high between.1)
  ];
  tiles = c.tiles;
}

sweep_on : (m : Marking) (t u : Table) (start from : ℕ) (left : Option ℕ) → ArePaired t → ClearsSome m t u (IsBetween start (Some from))
    → IsNextWithWeaks u from left → IsSweep m t u start left
sweep_on m t u start from None paired c next = record {
  paired = paired;
  some = sweep_done m t u start from None paired c (λ a low before h. next a low h);
  next = tt;
}
sweep_on m t u start from (Some n) paired c next = record {
  paired = paired;
  some = sweep_done m t u start from (Some n) paired c (λ a low before h. next.2 a low before h);
  next = next.1;
}

pub sweep_first : (m : Marking) (t : Table) (from : ℕ) (left : Option ℕ) → IsShaped t → IsNextWithWeaks t from left
    → IsSweep m t t from left
sweep_first m t from left shape next = sweep_on m t t from from left shape.paired
    (swept_trans m t t t (λ a. ⊥) (λ a. ⊥) (IsBetween from (Some from)) (swept_first m t) (swept_first m t)
    (λ a s. let low = s.0 in let high = s.1 in absurd (omega arith))) next

module _ (m : Marking) (t u : Table) (from : ℕ) (left : Option ℕ) (n : ℕ) (is : left ≡ Some n) (p : IsSweep m t u from left) where
  here : IsSweep m t u from (Some n)
  here = subst (λ l. IsSweep m t u from l) is p

  pub sweep_object : IsSome (object_at u n)
  sweep_object = rw here.next.is refl

  -- the address after it is one
  pub sweep_small : IsShaped u → n < max_words
  unfolding object_at
  sweep_small shaped =
      let tile = object_tile (tile_in u n) here.next.object here.next.is in
      let w = shaped.within n (Object here.next.object) tile in
      let all = shaped.in_all in
      omega arith

  pub sweep_marks : (tops : List ℕ) (marks : List Bool) → MarksObjects t tops marks → MarksObjects u tops marks
  sweep_marks tops marks o = marks_stay m t u _ p.some tops marks o

  pub sweep_next : (m' : Marking) (v : Table) (behind : ℕ) (next : Option ℕ) → m' ≡ m → behind ≡ n + 1 → ClearsStaying m' u v n
      → IsNextWithWeaks v behind next → IsSweep m t v from next
  sweep_next m' v behind next e f c w =
      let now = swept_trans m t u v (IsBetween from (Some n)) (λ a. a ≡ n) (IsBetween from (Some behind)) here.some
      (swept_object m u v n (subst (λ k. ClearsStaying k u v n) e c))
      (λ a between. elim (cases_lt a n) [
        | inl lt ↦ inl (between.0, lt)
        | inr ge ↦ inr (let low : a < behind = between.1 in omega arith)
      ]) in
      sweep_on m t v from behind next here.paired now w

-- from the first address on to the end, all are done
pub sweep_last : (m : Marking) (t u : Table) (from : ℕ) (left : Option ℕ) → left ≡ None → IsSweep m t u from left
    → ClearsSome m t u (λ a. from ≤ a)
sweep_last m t u from None e p =
    let c = p.some in
    record {
      size = c.size;
      count = c.count;
      kinds = c.kinds;
      tops = c.tops;
      unmoved = c.unmoved;
      each = c.each;
      done_is = λ a low s. c.done_is a (low, tt) s;
      tiles = c.tiles;
    }
sweep_last m t u from (Some n) e p = cc

-- ---- how many were looked at
-- an object has weak slots in both tables or in neither
has_weaks_back : (m : Marking) (t u : Table) (d : ℕ → Type 0) (a : ℕ) → ClearsSome m t u d → HasWeaks u a → HasWeaks t a
has_weaks_back m t u d a c h = elim (c.each a) [
  | inl same ↦ record { object = h.object; is = sym same ∙ h.is; some = h.some }
  | inr x ↦ was (object_at t a) refl (sym x.1 ∙ h.is)
]
  where
    was : (o : Option Stored) → object_at t a ≡ o → cleared_object m (object_at t a) ≡ Some h.object → HasWeaks t a
    was None e q = absurd (let n = ap (cleared_object m) e in cc)
    was (Some s) e q =
        let k : cleared m s ≡ h.object = let n = ap (cleared_object m) e in cc in
        let some = h.some in
        let long = ap (λ (z : Stored). length z.weaks) k in
        let same = length-map s.weaks (cleared_word m) in
        record { object = s; is = e; some = omega arith }

has_weaks_on : (m : Marking) (t u : Table) (d : ℕ → Type 0) (a : ℕ) → ClearsSome m t u d → HasWeaks t a → HasWeaks u a
has_weaks_on m t u d a c h = elim (c.each a) [
  | inl same ↦ record { object = h.object; is = same ∙ h.is; some = h.some }
  | inr x ↦ record {
    object = cleared m h.object;
    is = x.1 ∙ ap (cleared_object m) h.is;
    some = let some = h.some in let same = length-map h.object.weaks (cleared_word m) in omega arith;
  }
]

-- so far
pub record IsLooking (m : Marking) (t u : Table) (from : ℕ) (left : Option ℕ) (n : ℕ) : Type 0 where
  pub sweep : IsSweep m t u from left
  pub looks : LooksAt t from left n
  pub low : (x : ℕ) → left ≡ Some x → from ≤ x

none_before : (t : Table) (from a : ℕ) (left : Option ℕ) → IsNextWithWeaks t from left → from ≤ a → IsPassed left a → HasWeaks t a → ⊥
none_before t from a None next low before h = next a low h
none_before t from a (Some x) next low before h = next.2 a low before h

next_low : (t : Table) (from : ℕ) (left : Option ℕ) (x : ℕ) → IsNextWithWeaks t from left → left ≡ Some x → from ≤ x
next_low t from None x next e = cc
next_low t from (Some y) x next e = let low = next.0 in let same : y ≡ x = cc in omega arith

pub looking_first : (m : Marking) (t : Table) (from : ℕ) (left : Option ℕ) → IsShaped t → IsNextWithWeaks t from left
    → IsLooking m t t from left 0
looking_first m t from left shape next = record {
  sweep = sweep_first m t from left shape next;
  looks = record {
    objects = [];
    count = refl;
    distinct = λ i j a p q. cc;
    only = λ i a p. cc;
    each = λ a between h. absurd (none_before t from a left next between.0 between.1 h);
  };
  low = λ x e. next_low t from left x next e;
}

module _ (m : Marking) (t u : Table) (from : ℕ) (left : Option ℕ) (n x : ℕ) (is : left ≡ Some x) (p : IsLooking m t u from left n) where
  looks_here : LooksAt t from (Some x) n
  looks_here = subst (λ l. LooksAt t from l n) is p.looks

  sweep_here : IsSweep m t u from (Some x)
  sweep_here = subst (λ l. IsSweep m t u from l) is p.sweep

  module _ (m' : Marking) (v : Table) (behind : ℕ) (next : Option ℕ) (e : m' ≡ m) (f : behind ≡ x + 1) (c : ClearsStaying m' u v x)
      (w : IsNextWithWeaks v behind next) where
    now : IsSweep m t v from next
    now = sweep_next m t u from left x is p.sweep m' v behind next e f c w

    further : (a : ℕ) → a < behind → IsPassed next a
    further a b = go next w
      where
        go : (l : Option ℕ) → IsNextWithWeaks v behind l → IsPassed l a
        go None k = tt
        go (Some y) k = let q = k.0 in omega arith

    each_looked : (a : ℕ) → IsBetween from next a → HasWeaks t a → (i : ℕ) × (slice_get (looks_here.objects ++ x ∷ []) i ≡ Some a)
    each_looked a between h = elim (cases_lt a x) [
      | inl lt ↦
          let (i, q) = looks_here.each a (between.0, lt) h in
          (i, get_kept-append looks_here.objects (x ∷ []) a i q)
      | inr ge ↦ elim (cases_eq a x) [
        | inl same ↦ (length looks_here.objects, get-push_last looks_here.objects x ∙ ap Some (sym same))
        | inr ne ↦ absurd (none_before v behind a next w (omega arith) between.1 (has_weaks_on m t v _ a now.some h))
      ]
    ]

    only_looked : (i a : ℕ) → slice_get (looks_here.objects ++ x ∷ []) i ≡ Some a → IsBetween from next a × HasWeaks t a
    only_looked i a q = elim (get-push_cases looks_here.objects x a i q) [
      | inl before ↦
          let k = looks_here.only i a before in
          let b : a < x = k.0.1 in
          ((k.0.0, further a (omega arith)), k.1)
      | inr last ↦
          let same : a ≡ x = last.1 in
          let low = p.low x is in (
            (omega arith, further a (omega arith)),
            subst (HasWeaks t) (sym same) (has_weaks_back m t u _ x sweep_here.some sweep_here.next),
          )
    ]

    distinct_looked : (i j a : ℕ) → slice_get (looks_here.objects ++ x ∷ []) i ≡ Some a
        → slice_get (looks_here.objects ++ x ∷ []) j ≡ Some a
        → i ≡ j
    distinct_looked i j a p q = elim (get-push_cases looks_here.objects x a i p) [
      | inl k ↦ elim (get-push_cases looks_here.objects x a j q) [
        | inl l ↦ looks_here.distinct i j a k l
        | inr l ↦ absurd (let b : a < x = (looks_here.only i a k).0.1 in let same : a ≡ x = l.1 in omega arith)
      ]
      | inr k ↦ elim (get-push_cases looks_here.objects x a j q) [
        | inl l ↦ absurd (let b : a < x = (looks_here.only j a l).0.1 in let same : a ≡ x = k.1 in omega arith)
        | inr l ↦ k.0 ∙ sym l.0
      ]
    ]

    pub looking_next : IsLooking m t v from next (n + 1)
    looking_next = record {
      sweep = now;
      looks = record {
        objects = looks_here.objects ++ x ∷ [];
        count = let k = looks_here.count in let l = length-push looks_here.objects x in omega arith;
        distinct = distinct_looked;
        only = only_looked;
        each = each_looked;
      };
      low = λ y e. let here = p.low x is in let there = next_low v behind next y w e in omega arith;
    }

-- where no more is left, there is none
pub looking_over : (m : Marking) (t u : Table) (from : ℕ) (left : Option ℕ) (n : ℕ) → left ≡ None → IsLooking m t u from left n
    → IsLooking m t u from None n
looking_over m t u from left n e p = subst (λ l. IsLooking m t u from l n) e p

-- ---- what a tile's shape tells
shaped : (o : Option Tile) (shape : Shape) (p weak d : ℕ) → IsSome o → IfSome o (λ u. shape ≡ tile_shape u)
    → shape ≡ shapes.Object p weak d → IsSome (tile_object o)
shaped None shape p weak d h e f = cc
shaped (Some (Object s)) shape p weak d h e f = refl
shaped (Some (Filler k)) shape p weak d h e f = cc
shaped (Some (Forwarded to k)) shape p weak d h e f = cc

pub tile_is_object : (t : Table) (a : ℕ) (shape : Shape) (p weak d : ℕ) → IsSome (tile_in t a)
    → IfSome (tile_in t a) (λ u. shape ≡ tile_shape u) → shape ≡ shapes.Object p weak d → IsSome (object_at t a)
unfolding object_at
tile_is_object t a shape p weak d h e f = shaped (tile_in t a) shape p weak d h e f
