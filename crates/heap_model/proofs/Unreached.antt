-- Names below the next one, and pointers that stay as they were in the snapshot: laws of graphs alone.
use Rattle.std.proofs.Common.{◌≡◌, ◌<◌, ◌≤◌, ◌-◌, ◌⊎◌, ◌∷◌, ◌++◌, ◌∙◌, ℕ, zero, suc, List, false, Option, Some, None, refl, sym, ap, subst}
use Rattle.std.proofs.Common.{inl, inr, arith, slice_get, lt-ltb, ltb-true}
use Rattle.std.proofs.lemmas.Bool.{cases_eq, cases_lt}
use Rattle.std.proofs.Math.Dec.{ltb}
use Rattle.heap_model.specs.Graph.{Graph, Object, object_named, object_fields, next_name, IsPair, HasPair, IsReachable, FromRoot}
use Rattle.heap_model.specs.Graph.{FromObject}
use Rattle.heap_model.specs.Graph.{FromHeld, IsSound}
use Rattle.heap_model.specs.Graph.{with_root, with_object, with_changed}
use Rattle.heap_model.specs.Weak.{touched, IsKnown, PairsChange, KeepsPairs, KeepsUnreached, IsClearedSlot, ClearsObject, Clears}
use Rattle.heap_model.proofs.Names.{bool_cases, same_some}
use Rattle.heap_model.proofs.Lists.{AllZip-get_right, get-append_cases, get-append_left, get-append_right, get-push_cases, get-set_cases}
use Rattle.heap_model.proofs.Lists.{get-set_other, length-set, length-push, AllZip_length}
use Rattle.heap_model.proofs.Changed.{named_at, at_least, changed_here, changed_other, added_other}
use Rattle.heap_model.proofs.Cleared.{cleared_named_back, slot_was}
use Rattle.heap_model.proofs.Held.{held_by_was}

-- the object of a name after a change
pub changed_cases : (g : Graph) (n k : ℕ) (o p q : Object) → object_named g n ≡ Some o → object_named (with_changed g n p) k ≡ Some q
    → ((k ≡ n) × (q ≡ p)) ⊎ (object_named g k ≡ Some q)
changed_cases g n k o p q e f =
    elim (cases_eq k n) [
      | inl same ↦ inl (same, (let here = changed_here g n o p e in let e1 = ap (object_named (with_changed g n p)) same in cc))
      | inr ne ↦
          let a = at_least g n o e in
          let b = at_least (with_changed g n p) k q f in
          inr (named_at g k b ∙ sym (get-set_other g.objects (n - g.first_name) (k - g.first_name) p (λ s. ne (omega arith)))
          ∙ sym (named_at (with_changed g n p) k b) ∙ f)
    ]

pub added_cases : (g : Graph) (o q : Object) (j k : ℕ) → object_named (with_object g o j) k ≡ Some q
    → ((k ≡ next_name g) × (q ≡ o)) ⊎ (object_named g k ≡ Some q)
added_cases g o q j k f =
    let b : g.first_name ≤ k = at_least (with_object g o j) k q f in
    elim (get-push_cases g.objects o q (k - g.first_name) (sym (named_at (with_object g o j) k b) ∙ f)) [
      | inl e ↦ inr (named_at g k b ∙ e)
      | inr e ↦ let e1 = e.0 in inl ((omega arith), e.1)
    ]

pub touched_cases : (s : Graph) (n : ℕ) → ((touched s (Some n) ≡ record s { roots = Some n ∷ s.roots }) × (n < next_name s))
    ⊎ ((touched s (Some n) ≡ s) × (next_name s ≤ n))
touched_cases s n = elim (cases_lt n (next_name s)) [
  | inl k ↦ inl (let e = lt-ltb n (next_name s) k in rw e refl, k)
  | inr k ↦ inr (let e = ltb_above n (next_name s) k in rw e refl, k)
]
  where
    ltb_above : (a b : ℕ) → b ≤ a → ltb a b ≡ false
    ltb_above a b k = elim (bool_cases (ltb a b)) [ inl e ↦ absurd (let below = ltb-true a b e in omega arith) | inr e ↦ e ]

-- weak slots and held slots are fields
pub weak_field : (o : Object) (i n : ℕ) → slice_get o.weaks i ≡ Some (Some n)
    → (j : ℕ) × (slice_get (object_fields o) j ≡ Some (Some n))
weak_field o i n e = get-append_right o.pointers (o.weaks ++ o.held) i (Some n) (get-append_left o.weaks o.held i (Some n) e)

pub held_field : (o : Object) (i n : ℕ) → slice_get o.held i ≡ Some (Some n)
    → (j : ℕ) × (slice_get (object_fields o) j ≡ Some (Some n))
held_field o i n e = let (j, is) = get-append_right o.weaks o.held i (Some n) e in
    get-append_right o.pointers (o.weaks ++ o.held) j (Some n) is

-- what a field holds, by its kind
pub field_cases : (o : Object) (i n : ℕ) → slice_get (object_fields o) i ≡ Some (Some n)
    → (slice_get o.pointers i ≡ Some (Some n)) ⊎ (((j : ℕ) × (slice_get o.weaks j ≡ Some (Some n)))
    ⊎ ((j : ℕ) × (slice_get o.held j ≡ Some (Some n))))
field_cases o i n e = elim (get-append_cases o.pointers (o.weaks ++ o.held) i (Some n) e) [
  | inl q ↦ inl q
  | inr q ↦ elim (get-append_cases o.weaks o.held q.0 (Some n) q.1) [ inl k ↦ inr (inl (q.0, k)) | inr k ↦ inr (inr k) ]
]

-- a name that a sound graph reaches is below the next one
pub sound_reaches : (g : Graph) → IsSound g → (n : ℕ) → IsReachable g n → n < next_name g
sound_reaches g k n (FromRoot j a e) = k.roots j a e
sound_reaches g k n (FromObject m a i o r e q) = k.fields m i a o e (get-append_left o.pointers (o.weaks ++ o.held) i (Some a) q)
sound_reaches g k n (FromHeld m l a i p r key) = let (j, is) = held_field p.object i a p.pair.1 in k.fields m j a p.object p.named is

pub root_sound : (g : Graph) (j : ℕ) (v : Option ℕ) → IsSound g → ((n : ℕ) → v ≡ Some n → n < next_name g) → IsSound (with_root g j v)
unfolding object_named
root_sound g j v k below = record {
  roots = λ i n e. elim (get-set_cases g.roots j i v (Some n) e) [ inl q ↦ below n (sym q) | inr q ↦ k.roots i n q ];
  fields = λ m i n o e q. k.fields m i n o e q;
}

pub object_sound : (g : Graph) (o : Object) (j : ℕ) → IsSound g → ((i n : ℕ) → slice_get (object_fields o) i ≡ Some (Some n) → ⊥)
    → IsSound (with_object g o j)
object_sound g o j k nil =
    let more : next_name (with_object g o j) ≡ suc (next_name g) = let e = length-push g.objects o in omega arith in
    record {
      roots = λ i n e. elim (get-set_cases g.roots j i (Some (next_name g)) (Some n) e) [
        | inl q ↦ let same : n ≡ next_name g = cc in omega arith
        | inr q ↦ let below = k.roots i n q in omega arith
      ];
      fields = λ m i n p e q. elim (added_cases g o p j m e) [
        | inl c ↦ absurd (nil i n (subst (λ (u : Object). slice_get (object_fields u) i ≡ Some (Some n)) c.1 q))
        | inr c ↦ let below = k.fields m i n p c q in omega arith
      ];
    }

changed_next : (g : Graph) (n : ℕ) (p : Object) → next_name (with_changed g n p) ≡ next_name g
changed_next g n p = let e = length-set g.objects (n - g.first_name) p in omega arith

pub changed_sound : (g : Graph) (n : ℕ) (o p : Object) → IsSound g → object_named g n ≡ Some o
    → ((i k : ℕ) → slice_get (object_fields p) i ≡ Some (Some k) → k < next_name g) → IsSound (with_changed g n p)
unfolding object_named
changed_sound g n o p k e below =
    let same = changed_next g n p in
    record {
      roots = λ i a q. subst (λ l. a < l) (sym same) (k.roots i a q);
      fields = λ m i a q f at. subst (λ l. a < l) (sym same) (elim (changed_cases g n m o p q e f) [
        | inl c ↦ below i a (subst (λ (u : Object). slice_get (object_fields u) i ≡ Some (Some a)) c.1 at)
        | inr c ↦ k.fields m i a q c at
      ]);
    }

pub touched_sound : (s : Graph) (v : Option ℕ) → IsSound s → IsSound (touched s v)
unfolding object_named
touched_sound s None k = k
touched_sound s (Some n) k = elim (touched_cases s n) [
  | inl c ↦ subst IsSound (sym c.0) (record { roots = λ j a e. first_root n s k c.1 j a e; fields = λ m i a o e q. k.fields m i a o e q })
  | inr c ↦ subst IsSound (sym c.0) k
]
  where
    first_root : (n : ℕ) (s : Graph) → IsSound s → n < next_name s → (j a : ℕ) → slice_get (Some n ∷ s.roots) j ≡ Some (Some a)
        → a < next_name s
    first_root n s k below zero a e = let same : n ≡ a = cc in subst (λ l. l < next_name s) same below
    first_root n s k below (suc j) a e = k.roots j a e

pub cleared_sound : (s g g' : Graph) → Clears s g g' → IsSound g → IsSound g'
cleared_sound s g g' c k =
    let same : next_name g' ≡ next_name g = let e1 = AllZip_length (ClearsObject s) g.objects g'.objects c.objects in
    let e2 = c.first_name in omega arith in
    record {
      roots = λ j n e. subst (λ l. n < l) (sym same) (k.roots j n (ap (λ r. slice_get r j) (sym c.roots) ∙ e));
      fields = λ m i n p e q. subst (λ l. n < l) (sym same) (
          let (o, is, z) = cleared_named_back s g g' c m p e in
          elim (field_cases p i n q) [
            | inl at ↦ k.fields m i n o is (get-append_left o.pointers (o.weaks ++ o.held) i (Some n)
                (ap (λ l. slice_get l i) (sym z.pointers) ∙ at))
            | inr b ↦ elim b [
              | inl at ↦
                  let (v, was, slot) = AllZip-get_right (IsClearedSlot s) o.weaks p.weaks z.weaks at.0 (Some n) at.1 in
                  let (there, holds) = weak_field o at.0 n (was ∙ ap Some (slot_was s v (Some n) n slot refl)) in
                  k.fields m there n o is holds
              | inr at ↦
                  let (there, holds) = held_field o at.0 n
                  (held_by_was p.weaks o.held at.0 n (ap (λ l. slice_get l at.0) (sym z.held) ∙ at.1)) in
                  k.fields m there n o is holds
            ]
          ]);
    }

pub touched_next : (s : Graph) (v : Option ℕ) → next_name (touched s v) ≡ next_name s
touched_next s None = refl
touched_next s (Some n) = elim (touched_cases s n) [ inl c ↦ ap next_name c.0 | inr c ↦ ap next_name c.0 ]

pub touched_named : (s : Graph) (v : Option ℕ) (n : ℕ) → object_named (touched s v) n ≡ object_named s n
unfolding object_named
touched_named s None n = refl
touched_named s (Some k) n = elim (touched_cases s k) [ inl c ↦ ap (λ g. object_named g n) c.0 | inr c ↦ ap (λ g. object_named g n) c.0 ]

-- what was reachable stays so
pub touched_reaches : (s : Graph) (v : Option ℕ) (n : ℕ) → IsReachable s n → IsReachable (touched s v) n
unfolding object_named
touched_reaches s None n r = r
touched_reaches s (Some k) n r = elim (touched_cases s k) [
  | inl c ↦ subst (λ g. IsReachable g n) (sym c.0) (on s k n r)
  | inr c ↦ subst (λ g. IsReachable g n) (sym c.0) r
]
  where
    on : (s : Graph) (k n : ℕ) → IsReachable s n → IsReachable (record s { roots = Some k ∷ s.roots }) n
    on s k n (FromRoot j a e) = FromRoot (suc j) a e
    on s k n (FromObject m a i o r e q) = FromObject m a i o (on s k m r) e q
    on s k n (FromHeld m l a i p r key) =
        FromHeld m l a i (record { object = p.object; named = p.named; pair = p.pair }) (on s k m r) (on s k l key)

-- pairs stay
pub touched_pair : (s : Graph) (v : Option ℕ) (m i k n : ℕ) → HasPair s m i k n → HasPair (touched s v) m i k n
touched_pair s v m i k n p = record { object = p.object; named = touched_named s v m ∙ p.named; pair = p.pair }

pub pair_before : (s : Graph) (v : Option ℕ) (m i k n : ℕ) → HasPair (touched s v) m i k n → HasPair s m i k n
pair_before s v m i k n p = record { object = p.object; named = sym (touched_named s v m) ∙ p.named; pair = p.pair }

-- and so does what is known
pub known_on : (s : Graph) (v : Option ℕ) (n : ℕ) → IsKnown s n → IsKnown (touched s v) n
known_on s v n (inl r) = inl (touched_reaches s v n r)
known_on s v n (inr k) = inr (subst (λ l. l ≤ n) (sym (touched_next s v)) k)

-- a root of a touched snapshot is the touched name, or was one
pub touched_root_cases : (s : Graph) (v : Option ℕ) (j n : ℕ) → slice_get (touched s v).roots j ≡ Some (Some n)
    → (v ≡ Some n) ⊎ ((i : ℕ) × (slice_get s.roots i ≡ Some (Some n)))
touched_root_cases s None j n e = inr (j, e)
touched_root_cases s (Some k) j n e = elim (touched_cases s k) [
  | inl c ↦ front k s.roots j n (ap (λ (g : Graph). slice_get g.roots j) (sym c.0) ∙ e)
  | inr c ↦ inr (j, ap (λ (g : Graph). slice_get g.roots j) (sym c.0) ∙ e)
]
  where
    front : (k : ℕ) (rs : List (Option ℕ)) (j n : ℕ) → slice_get (Some k ∷ rs) j ≡ Some (Some n)
        → (Some k ≡ Some n) ⊎ ((i : ℕ) × (slice_get rs i ≡ Some (Some n)))
    front k rs zero n e = inl cc
    front k rs (suc j) n e = inr (j, e)

-- a name of the snapshot that is touched is reachable
pub touched_reached : (s : Graph) (n : ℕ) → n < next_name s → IsReachable (touched s (Some n)) n
touched_reached s n k = elim (touched_cases s n) [
  | inl c ↦ subst (λ g. IsReachable g n) (sym c.0) (FromRoot 0 n refl)
  | inr c ↦ absurd (let above = c.1 in omega arith)
]

pub pairs_begin : (g : Graph) → KeepsPairs g g
pairs_begin g = record { went = λ n i l b p. inl p; came = λ n i l b p. inl p }

-- how pairs go on
module _ (s g : Graph) (u : KeepsPairs s g) where
  pub pairs_root : (j : ℕ) (v : Option ℕ) → KeepsPairs s (with_root g j v)
  unfolding object_named
  pairs_root j v = record {
    went = λ n i k b p. elim (u.went n i k b p) [
      | inl q ↦ inl (record { object = q.object; named = q.named; pair = q.pair })
      | inr q ↦ inr q
    ];
    came = λ n i k b p. u.came n i k b (record { object = p.object; named = p.named; pair = p.pair });
  }

  pub pairs_object : (o : Object) (j : ℕ) → ((i b : ℕ) → slice_get o.held i ≡ Some (Some b) → ⊥) → KeepsPairs s (with_object g o j)
  pairs_object o j bare = record {
    went = λ n i k b p. elim (u.went n i k b p) [
      | inl q ↦ inl (record { object = q.object; named = added_other g o q.object j n q.named; pair = q.pair })
      | inr q ↦ inr q
    ];
    came = λ n i k b p. elim (added_cases g o p.object j n p.named) [
      | inl c ↦ absurd (bare i b (subst (λ (z : Object). slice_get z.held i ≡ Some (Some b)) c.1 p.pair.1))
      | inr c ↦ u.came n i k b (record { object = p.object; named = c; pair = p.pair })
    ];
  }

  pub pairs_changed : (n : ℕ) (o p : Object) → object_named g n ≡ Some o → PairsChange s o p → KeepsPairs s (with_changed g n p)
  pairs_changed n o p e pairs = record { went = went; came = came }
    where
      went : (l i k b : ℕ) → HasPair s l i k b → HasPair (with_changed g n p) l i k b ⊎ IsKnown s b
      went l i k b h = elim (u.went l i k b h) [
        | inr known ↦ inr known
        | inl q ↦ elim (cases_eq l n) [
          | inl same ↦
              let here = same_some (object_named g n) q.object o (ap (object_named g) (sym same) ∙ q.named) e in
              elim (pairs.went i k b (subst (λ (z : Object). IsPair z.weaks z.held i k b) here q.pair)) [
                | inl t ↦
                    inl (record { object = p; named = ap (object_named (with_changed g n p)) same ∙ changed_here g n o p e; pair = t })
                | inr known ↦ inr known
              ]
          | inr ne ↦ inl (record { object = q.object; named = changed_other g n l o p q.object e ne q.named; pair = q.pair })
        ]
      ]

      came : (l i k b : ℕ) → HasPair (with_changed g n p) l i k b → HasPair s l i k b ⊎ IsKnown s b
      came l i k b h = elim (changed_cases g n l o p h.object e h.named) [
        | inl c ↦ elim (pairs.came i k b (subst (λ (z : Object). IsPair z.weaks z.held i k b) c.1 h.pair)) [
          | inl t ↦ u.came l i k b (record { object = o; named = ap (object_named g) c.0 ∙ e; pair = t })
          | inr known ↦ inr known
        ]
        | inr c ↦ u.came l i k b (record { object = h.object; named = c; pair = h.pair })
      ]

  pub pairs_touched : (v : Option ℕ) → KeepsPairs (touched s v) g
  pairs_touched v = record {
    went = λ n i k b p. elim (u.went n i k b (pair_before s v n i k b p)) [ inl q ↦ inl q | inr q ↦ inr (known_on s v b q) ];
    came = λ n i k b p. elim (u.came n i k b p) [ inl q ↦ inl (touched_pair s v n i k b q) | inr q ↦ inr (known_on s v b q) ];
  }

pub unreached_begins : (g : Graph) → IsSound g → KeepsUnreached g g
unreached_begins g k = record { sound = k; each = λ n o e below. inr (o, e, refl); pairs = pairs_begin g }

module _ (s g : Graph) (u : KeepsUnreached s g) where
  pub unreached_root : (j : ℕ) (v : Option ℕ) → KeepsUnreached s (with_root g j v)
  unfolding object_named
  unreached_root j v = record {
    sound = u.sound;
    each = λ n o e below. u.each n o e below;
    pairs = pairs_root s g u.pairs j v;
  }

  pub unreached_object : (o : Object) (j : ℕ) → next_name s ≤ next_name g → ((i b : ℕ) → slice_get o.held i ≡ Some (Some b) → ⊥)
      → KeepsUnreached s (with_object g o j)
  unreached_object o j earlier bare = record {
    sound = u.sound;
    each = λ n p e below. elim (added_cases g o p j n e) [
      | inl c ↦ absurd (let same = c.0 in omega arith)
      | inr c ↦ u.each n p c below
    ];
    pairs = pairs_object s g u.pairs o j bare;
  }

  -- an object that was reachable in the snapshot, or is new, may change
  pub unreached_changed : (n : ℕ) (o p : Object) → object_named g n ≡ Some o → IsReachable s n ⊎ (next_name s ≤ n) → PairsChange s o p
      → KeepsUnreached s (with_changed g n p)
  unreached_changed n o p e why pairs = record {
    sound = u.sound;
    pairs = pairs_changed s g u.pairs n o p e pairs;
    each = λ k q f below. elim (changed_cases g n k o p q e f) [
      | inl c ↦ elim why [
        | inl r ↦ inl (subst (IsReachable s) (sym c.0) r)
        | inr above ↦ absurd (let same = c.0 in omega arith)
      ]
      | inr c ↦ u.each k q c below
    ];
  }

  -- so may any object but for its pointers
  pub unreached_written : (n : ℕ) (o p : Object) → object_named g n ≡ Some o → p.pointers ≡ o.pointers → PairsChange s o p
      → KeepsUnreached s (with_changed g n p)
  unreached_written n o p e same pairs = record {
    sound = u.sound;
    pairs = pairs_changed s g u.pairs n o p e pairs;
    each = λ k q f below. elim (changed_cases g n k o p q e f) [
      | inl c ↦ elim (u.each n o e (subst (λ l. l < next_name s) c.0 below)) [
        | inl r ↦ inl (subst (IsReachable s) (sym c.0) r)
        | inr t ↦ inr (t.0, ap (object_named s) c.0 ∙ t.1, ap (λ (z : Object). z.pointers) c.1 ∙ same ∙ t.2)
      ]
      | inr c ↦ u.each k q c below
    ];
  }

  pub unreached_touched : (v : Option ℕ) → KeepsUnreached (touched s v) g
  unfolding object_named
  unreached_touched v = record {
    sound = touched_sound s v u.sound;
    each = λ n o e below. elim (u.each n o e (subst (λ l. n < l) (touched_next s v) below)) [
      | inl r ↦ inl (touched_reaches s v n r)
      | inr t ↦ inr (t.0, touched_named s v n ∙ t.1, t.2)
    ];
    pairs = pairs_touched s g u.pairs v;
  }
