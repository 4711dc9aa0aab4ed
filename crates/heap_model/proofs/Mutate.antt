-- A mutator's steps keep the invariant of marking.
use Rattle.std.proofs.Common.{◌≡◌, ℕ, ◌≤◌, ◌⊎◌, true, false, Option, Some, refl, sym, ap, ◌∙◌, subst, inl, inr, arith}
use Rattle.std.specs.Prelude.{slice_set, slice_get, Contains}
use Rattle.std.proofs.lemmas.Bool.{cases_eq}
use Rattle.heap_model.specs.Graph.{Graph, IsPair}
use Rattle.heap_model.specs.Heap.{Heap, Stored, Points, Holds, IsRoot, IsHeld, RootSet, ObjectSet, ObjectAdded}
use Rattle.heap_model.specs.Clearing.{WillShow, HasWeak}
use Rattle.heap_model.specs.Marking.{Marking, LeadsOn, IsOldLive, IsKnownAt, IsFound, ByRoot, ByLive, ByNew, ByHeld, MarkingInvariant}
use Rattle.heap_model.specs.Marking.{IsSaved, PairsSet}
use Rattle.heap_model.proofs.Names.{bool_cases, same_some}
use Rattle.heap_model.proofs.Lists.{get-set_cases, get_kept-set}
use Rattle.heap_model.proofs.Shown.{target_reachable, followed}
use Rattle.heap_model.proofs.Advance.{Stands, invariant_after}
use Rattle.heap_model.proofs.Changed.{added_kept, added_before}

-- an object that is changed keeps its name
set_stays : (h h' : Heap) (d : ℕ) (x y : Stored) → ObjectSet h h' d x y → (a : ℕ) (z : Stored) → h.kept a ≡ Some z → Stands h' a z.name
set_stays h h' d x y v a z at =
    elim (cases_eq a d) [
      | inl q ↦ record {
        object = y;
        at = ap h'.kept q ∙ v.is;
        named = let same : z ≡ x = let e2 = v.was in let e3 = ap h.kept q in cc in
            v.name ∙ ap (λ (k : Stored). k.name) (sym same);
      }
      | inr n ↦ record { object = z; at = v.others a n ∙ at; named = refl }
    ]

-- its pointers stay if it has the same
set_points : (h h' : Heap) (d : ℕ) (x y : Stored) → ObjectSet h h' d x y → y.pointers ≡ x.pointers → (a b : ℕ) (p : Points h a b)
    → (q : Points h' a b) × (q.object.name ≡ p.object.name)
set_points h h' d x y v same a b p =
    elim (cases_eq a d) [
      | inl q ↦
          let here : p.object ≡ x = let e1 = p.at in let e2 = v.was in let e3 = ap h.kept q in cc in
          let is = ap (λ l. slice_get l p.field) (same ∙ ap (λ (z : Stored). z.pointers) (sym here)) ∙ p.is in
          (record { object = y; at = ap h'.kept q ∙ v.is; field = p.field; is = is }, v.name ∙ ap (λ (z : Stored). z.name) (sym here))
      | inr n ↦ (record { object = p.object; at = v.others a n ∙ p.at; field = p.field; is = p.is }, refl)
    ]

-- so those that aren't done still lead on
set_leads : (h h' : Heap) (m : Marking) (d : ℕ) (x y : Stored) → ObjectSet h h' d x y → y.pointers ≡ x.pointers → (a b : ℕ)
    → LeadsOn h m a b → LeadsOn h' m a b
set_leads h h' m d x y v same a b l =
    let p = l.points in
    elim (cases_eq a d) [
      | inl q ↦
          let here : p.object ≡ x = let e1 = p.at in let e2 = v.was in let e3 = ap h.kept q in cc in
          let is = ap (λ l. slice_get l p.field) (same ∙ ap (λ (z : Stored). z.pointers) (sym here)) ∙ p.is in
          record { points = record { object = y; at = ap h'.kept q ∙ v.is; field = p.field; is = is }; left = l.left }
      | inr n ↦ record { points = record { object = p.object; at = v.others a n ∙ p.at; field = p.field; is = p.is }; left = l.left }
    ]

-- the same change the other way round
set_back : (h h' : Heap) (d : ℕ) (x y : Stored) → ObjectSet h h' d x y → ObjectSet h' h d y x
set_back h h' d x y v = record { was = v.is; is = v.was; name = sym v.name; others = λ a n. sym (v.others a n); roots = sym v.roots }

set_came : (h h' : Heap) (d : ℕ) (x y : Stored) → ObjectSet h h' d x y → (a : ℕ) (z : Stored) → h'.kept a ≡ Some z → Stands h a z.name
set_came h h' d x y v = set_stays h' h d y x (set_back h h' d x y v)

-- what is known after the change was known
set_known : (h h' : Heap) (d : ℕ) (x y : Stored) → ObjectSet h h' d x y → (live : ℕ → Type 0) (m : Marking) (a : ℕ) → IsKnownAt live h' m a
    → IsKnownAt live h m a
set_known h h' d x y v live m a (inl p) = let t = set_came h h' d x y v a p.0 p.1 in inl (t.object, t.at, subst live (sym t.named) p.2)
set_known h h' d x y v live m a (inr n) = inr n

-- an old address that a mutator can hold is found
module _ (live : ℕ → Type 0) (limit : ℕ) (g : Graph) (h : Heap) (m : Marking) (shows : WillShow g h)
    (i : MarkingInvariant live limit h m) where
  root_known : (a : ℕ) → IsRoot h a → IsKnownAt live h m a
  root_known a r = elim (bool_cases (m.old a)) [
    | inl o ↦ let (x, at) = (followed g h shows).root r.place a r.is in inl (x, at, i.found a x at o (ByRoot a r))
    | inr n ↦ inr n
  ]

  pub held_here : (a : ℕ) → IsHeld h (Some a) → IsFound live h m a
  held_here a (inl r) = ByRoot a r
  held_here a (inr (inr q)) = let (b, k, r, s, p) = q in ByHeld b k a (root_known b r) (root_known k s) p
  held_here a (inr (inl q)) =
      let (b, r, p) = q in
      elim (bool_cases (m.old b)) [
        | inl old ↦ ByLive b a p (i.found b p.object p.at old (ByRoot b r))
        | inr new ↦ ByNew b a p new
      ]

-- pairs change by the rule
module _ (live : ℕ → Type 0) (limit : ℕ) (g : Graph) (h h' : Heap) (m : Marking) (shows : WillShow g h)
    (i : MarkingInvariant live limit h m) (d : ℕ) (x y : Stored) (v : ObjectSet h h' d x y) (pairs : PairsSet h m x y) where
  pub pairs_edge : (a k b : ℕ) → m.old b ≡ true → Holds h a k b → Holds h' a k b ⊎ ((m.marked b ≡ true) ⊎ Contains m.logged b)
  pairs_edge a k b old p =
      let key = set_stays h h' d x y v k p.key p.key_at in
      elim (cases_eq a d) [
        | inl q ↦
            let here = same_some (h.kept d) p.object x (ap h.kept (sym q) ∙ p.at) v.was in
            elim (pairs.went p.slot k b p.key p.key_at (subst (λ (z : Stored). IsPair z.weaks z.held p.slot k b) here p.is)) [
              | inl e ↦ inl (record { object = y; at = ap h'.kept q ∙ v.is; slot = p.slot; is = e; key = key.object; key_at = key.at })
              | inr f ↦ inr (f old)
            ]
        | inr n ↦ inl (record {
          object = p.object;
          at = v.others a n ∙ p.at;
          slot = p.slot;
          is = p.is;
          key = key.object;
          key_at = key.at;
        })
      ]

  pub pairs_back : (a k b : ℕ) (p : Holds h' a k b) → IsHeld h (Some b) ⊎ Holds h a k b
  pairs_back a k b p =
      let key = set_came h h' d x y v k p.key p.key_at in
      elim (cases_eq a d) [
        | inl q ↦
            let here = same_some (h'.kept d) p.object y (ap h'.kept (sym q) ∙ p.at) v.is in
            elim (pairs.came p.slot k b key.object key.at (subst (λ (z : Stored). IsPair z.weaks z.held p.slot k b) here p.is)) [
              | inl e ↦ inr (record { object = x; at = ap h.kept q ∙ v.was; slot = p.slot; is = e; key = key.object; key_at = key.at })
              | inr u ↦ inl u
            ]
        | inr n ↦ inr (record {
          object = p.object;
          at = sym (v.others a n) ∙ p.at;
          slot = p.slot;
          is = p.is;
          key = key.object;
          key_at = key.at;
        })
      ]

-- data words lead nowhere, and weak slots alone neither
module _ (live : ℕ → Type 0) (limit : ℕ) (g : Graph) (h h' : Heap) (m : Marking) (shows : WillShow g h)
    (i : MarkingInvariant live limit h m) (d : ℕ) (x y : Stored) (v : ObjectSet h h' d x y) (same : y.pointers ≡ x.pointers)
    (pairs : PairsSet h m x y) where
  values_back : (a b : ℕ) (p : Points h' a b) → (q : Points h a b) × (q.object.name ≡ p.object.name)
  values_back = set_points h' h d y x (set_back h h' d x y v) (sym same)

  values_found : (a : ℕ) → IsFound live h' m a → IsFound live h m a
  values_found a (ByRoot c r) = ByRoot c (record { place = r.place; is = sym (ap (λ l. slice_get l r.place) v.roots) ∙ r.is })
  values_found a (ByLive c b p r) = let (q, e) = values_back c b p in ByLive c b q (subst live (sym e) r)
  values_found a (ByNew c b p n) = ByNew c b (values_back c b p).0 n
  values_found a (ByHeld c k b pc pk p) = elim (pairs_back live limit g h h' m shows i d x y v pairs c k b p) [
    | inl u ↦ held_here live limit g h m shows i b u
    | inr q ↦ ByHeld c k b (set_known h h' d x y v live m c pc) (set_known h h' d x y v live m k pk) q
  ]

  pub values_set : MarkingInvariant live limit h' m
  values_set = invariant_after live limit h m h' m (record {
    old = λ a. refl;
    marked = λ a k. k;
    logged = λ a e. inr e;
    edges = λ a b _ _ un l _. inl (un, set_leads h h' m d x y v same a b l);
    held = λ a k b _ _ o p. pairs_edge live limit g h h' m shows i d x y v pairs a k b o p;
    stays = λ a z at o. set_stays h h' d x y v a z at;
    came = λ a z at o. set_came h h' d x y v a z at;
    newly_marked = λ a k. inl k;
    newly_logged = λ a e. inl e;
    found = λ a o f. values_found a f;
    fresh = λ a z at o. let t = set_came h h' d x y v a z at in let named = t.named in let above = i.new_names a t.object t.at o in
        omega arith;
  }) i

-- one more object, at a new address and under a new name
module _ (live : ℕ → Type 0) (limit : ℕ) (h : Heap) (m : Marking) (i : MarkingInvariant live limit h m) where
  module _ (h' : Heap) (a : ℕ) (x : Stored) (place : ℕ) (new : m.old a ≡ false) (above : limit ≤ x.name)
      (v : ObjectAdded h h' a x place) (away : (b : ℕ) → HasWeak h b a → ⊥) where
    added_back : (c d : ℕ) (p : Points h' c d) → (q : Points h c d) × (q.object ≡ p.object)
    added_back c d p =
        elim (added_before h h' a x place v c p.object p.at) [
          | inl q ↦ absurd (v.nil p.field d (subst (λ (z : Stored). slice_get z.pointers p.field ≡ Some (Some d)) q.1 p.is))
          | inr at ↦ (record { object = p.object; at = at; field = p.field; is = p.is }, refl)
        ]

    added_holds : (c k d : ℕ) → Holds h' c k d → Holds h c k d
    added_holds c k d p =
        elim (added_before h h' a x place v c p.object p.at) [
          | inl q ↦ absurd (v.bare p.slot d (subst (λ (z : Stored). slice_get z.held p.slot ≡ Some (Some d)) q.1 p.is.1))
          | inr at ↦ elim (added_before h h' a x place v k p.key p.key_at) [
            | inl q ↦ absurd (away c (subst (HasWeak h c) q.0 (record { object = p.object; at = at; slot = p.slot; is = p.is.0 })))
            | inr key_at ↦ record { object = p.object; at = at; slot = p.slot; is = p.is; key = p.key; key_at = key_at }
          ]
        ]

    added_known : (c : ℕ) → IsKnownAt live h' m c → IsKnownAt live h m c
    added_known c (inl p) = elim (added_before h h' a x place v c p.0 p.1) [
      | inl q ↦ inr (ap m.old q.0 ∙ new)
      | inr at ↦ inl (p.0, at, p.2)
    ]
    added_known c (inr n) = inr n

    added_root : (b : ℕ) → m.old b ≡ true → IsRoot h' b → IsRoot h b
    added_root b o r =
        elim (get-set_cases h.roots place r.place (Some a) (Some b) (sym (ap (λ l. slice_get l r.place) v.roots) ∙ r.is)) [
          | inl q ↦ absurd (let same : b ≡ a = cc in let here = ap m.old same in cc)
          | inr q ↦ record { place = r.place; is = q }
        ]

    added_found : (b : ℕ) → m.old b ≡ true → IsFound live h' m b → IsFound live h m b
    added_found b o (ByRoot c r) = ByRoot c (added_root c o r)
    added_found b o (ByLive c d p r) = let (q, e) = added_back c d p in ByLive c d q (subst (λ (z : Stored). live z.name) (sym e) r)
    added_found b o (ByNew c d p n) = ByNew c d (added_back c d p).0 n
    added_found b o (ByHeld c k d pc pk p) = ByHeld c k d (added_known c pc) (added_known k pk) (added_holds c k d p)

    pub object_added : MarkingInvariant live limit h' m
    object_added = invariant_after live limit h m h' m (record {
      old = λ b. refl;
      marked = λ b k. k;
      logged = λ b e. inr e;
      edges = λ b c _ _ un l _. let p = l.points in let at = added_kept h h' a x place v b p.object p.at in
          inl (un, record { points = record { object = p.object; at = at; field = p.field; is = p.is }; left = l.left });
      held = λ b k c _ _ _ p. inl (record {
        object = p.object;
        at = added_kept h h' a x place v b p.object p.at;
        slot = p.slot;
        is = p.is;
        key = p.key;
        key_at = added_kept h h' a x place v k p.key p.key_at;
      });
      stays = λ b y at o. record { object = y; at = added_kept h h' a x place v b y at; named = refl };
      came = λ b y at o. elim (added_before h h' a x place v b y at) [
        | inl q ↦ absurd (let here = ap m.old q.0 in cc)
        | inr was ↦ record { object = y; at = was; named = refl }
      ];
      newly_marked = λ b k. inl k;
      newly_logged = λ b e. inl e;
      found = λ b o f. added_found b o f;
      fresh = λ b y at o. elim (added_before h h' a x place v b y at) [
        | inl q ↦ let here = ap (λ (z : Stored). z.name) q.1 in omega arith
        | inr was ↦ i.new_names b y was o
      ];
    }) i

module _ (live : ℕ → Type 0) (limit : ℕ) (g : Graph) (h : Heap) (m : Marking) (shows : WillShow g h)
    (i : MarkingInvariant live limit h m) where
  -- an old address that a mutator can hold is found
  pub held_found : (a : ℕ) → IsHeld h (Some a) → IsFound live h m a
  held_found a u = held_here live limit g h m shows i a u

  -- the field of an object that a root names: its old value is old and reachable in the snapshot
  pub old_value : (a b : ℕ) → IsRoot h a → Points h a b → m.old b ≡ true → IsOldLive live h m b
  old_value a b r p o =
      let (y, at, _) = target_reachable g h shows g a b p in
      record { object = y; at = at; old = o; is_live = i.found b y at o (held_found b (inr (inl (a, r, p)))) }

  module _ (h' : Heap) (place : ℕ) (w : Option ℕ) (held : IsHeld h w) (v : RootSet h h' place w) where
    back : (a b : ℕ) (p : Points h' a b) → Points h a b
    back a b p = record { object = p.object; at = sym (v.kept a) ∙ p.at; field = p.field; is = p.is }

    back_known : (a : ℕ) → IsKnownAt live h' m a → IsKnownAt live h m a
    back_known a (inl p) = inl (p.0, sym (v.kept a) ∙ p.1, p.2)
    back_known a (inr n) = inr n

    root_found : (a : ℕ) → IsRoot h' a → IsFound live h m a
    root_found a r =
        elim (get-set_cases h.roots place r.place w (Some a) (sym (ap (λ l. slice_get l r.place) v.roots) ∙ r.is)) [
          | inl q ↦ held_found a (subst (IsHeld h) (sym q) held)
          | inr q ↦ ByRoot a (record { place = r.place; is = q })
        ]

    set_found : (a : ℕ) → IsFound live h' m a → IsFound live h m a
    unfolding back
    set_found a (ByRoot c r) = root_found c r
    set_found a (ByLive c d p r) = ByLive c d (back c d p) r
    set_found a (ByNew c d p new) = ByNew c d (back c d p) new
    set_found a (ByHeld c k d pc pk p) = ByHeld c k d (back_known c pc) (back_known k pk)
        (record {
          object = p.object;
          at = sym (v.kept c) ∙ p.at;
          slot = p.slot;
          is = p.is;
          key = p.key;
          key_at = sym (v.kept k) ∙ p.key_at;
        })

    pub root_set : MarkingInvariant live limit h' m
    root_set = invariant_after live limit h m h' m (record {
      old = λ a. refl;
      marked = λ a k. k;
      logged = λ a e. inr e;
      edges = λ a b _ _ un l _. let p = l.points in inl (
        un,
        record {
          points = record { object = p.object; at = v.kept a ∙ p.at; field = p.field; is = p.is };
          left = l.left;
        },
      );
      held = λ a k b _ _ _ p. inl (record {
        object = p.object;
        at = v.kept a ∙ p.at;
        slot = p.slot;
        is = p.is;
        key = p.key;
        key_at = v.kept k ∙ p.key_at;
      });
      stays = λ a x at o. record { object = x; at = v.kept a ∙ at; named = refl };
      came = λ a x at o. record { object = x; at = sym (v.kept a) ∙ at; named = refl };
      newly_marked = λ a k. inl k;
      newly_logged = λ a e. inl e;
      found = λ a o f. set_found a f;
      fresh = λ a x at o. i.new_names a x (sym (v.kept a) ∙ at) o;
    }) i

  module _ (h' : Heap) (m' : Marking) (d : ℕ) (x y : Stored) (field : ℕ) (was w : Option ℕ)
      (root : IsRoot h d) (held : IsHeld h w) (there : slice_get x.pointers field ≡ Some was)
      (v : ObjectSet h h' d x y) (set : y.pointers ≡ slice_set x.pointers field w)
      (weaks : y.weaks ≡ x.weaks) (helds : y.held ≡ x.held) (saved : IsSaved m m' was) where
    put_logged : (a : ℕ) → was ≡ Some a → m.old a ≡ true → IsOldLive live h m a
    put_logged a e o = old_value d a root (record { object = x; at = v.was; field = field; is = there ∙ ap Some e }) o

    put_edge : (a b : ℕ) → m.scanned a ≡ false → LeadsOn h m a b → m.old b ≡ true
        → ((m'.scanned a ≡ false) × LeadsOn h' m' a b) ⊎ ((m'.marked b ≡ true) ⊎ Contains m'.logged b)
    put_edge a b un l o =
        let p = l.points in
        let left : m'.done a ≤ p.field = subst (λ (k : ℕ). k ≤ p.field) (sym (saved.done a)) l.left in
        elim (cases_eq a d) [
          | inl q ↦
              let same : p.object ≡ x = let e1 = p.at in let e2 = v.was in let e3 = ap h.kept q in cc in
              let is = subst (λ (z : Stored). slice_get z.pointers p.field ≡ Some (Some b)) same p.is in
              elim (get_kept-set x.pointers field p.field w (Some b) is) [
                | inl k ↦ inr (inr (saved.saved b
                    (let e1 : slice_get x.pointers field ≡ Some (Some b) = ap (slice_get x.pointers) k ∙ is in cc) o))
                | inr k ↦ inl (
                  saved.scanned a
                      ∙ un,
                  record {
                    points = record { object = y; at = ap h'.kept q ∙ v.is; field = p.field; is = ap (λ l. slice_get l p.field) set ∙ k };
                    left = left;
                  },
                )
              ]
          | inr n ↦ inl (
            saved.scanned a ∙ un,
            record {
              points = record { object = p.object; at = v.others a n ∙ p.at; field = p.field; is = p.is };
              left = left;
            },
          )
        ]

    put_back : (a b : ℕ) (p : Points h' a b) → IsHeld h (Some b) ⊎ ((q : Points h a b) × (q.object.name ≡ p.object.name))
    put_back a b p =
        elim (cases_eq a d) [
          | inl q ↦
              let same : p.object ≡ y = let e1 = p.at in let e2 = v.is in let e3 = ap h'.kept q in cc in
              let is = subst (λ (z : Stored). slice_get z.pointers p.field ≡ Some (Some b)) same p.is in
              elim (get-set_cases x.pointers field p.field w (Some b) (sym (ap (λ l. slice_get l p.field) set) ∙ is)) [
                | inl k ↦ inl (subst (IsHeld h) (sym k) held)
                | inr k ↦ inr (
                  record { object = x; at = ap h.kept q ∙ v.was; field = p.field; is = k },
                  sym v.name
                      ∙ ap (λ (z : Stored). z.name) (sym same),
                )
              ]
          | inr n ↦ inr (record { object = p.object; at = sym (v.others a n) ∙ p.at; field = p.field; is = p.is }, refl)
        ]

    put_pairs : (j k b : ℕ) → IsPair y.weaks y.held j k b → IsPair x.weaks x.held j k b
    put_pairs j k b e = (ap (λ l. slice_get l j) (sym weaks) ∙ e.0, ap (λ l. slice_get l j) (sym helds) ∙ e.1)

    put_pairs_on : (j k b : ℕ) → IsPair x.weaks x.held j k b → IsPair y.weaks y.held j k b
    put_pairs_on j k b e = (ap (λ l. slice_get l j) weaks ∙ e.0, ap (λ l. slice_get l j) helds ∙ e.1)

    put_held : (a k b : ℕ) → Holds h a k b → Holds h' a k b
    put_held a k b p =
        let key = set_stays h h' d x y v k p.key p.key_at in
        elim (cases_eq a d) [
          | inl q ↦
              let same = same_some (h.kept d) p.object x (ap h.kept (sym q) ∙ p.at) v.was in
              record {
                object = y;
                at = ap h'.kept q ∙ v.is;
                slot = p.slot;
                is = put_pairs_on p.slot k b (subst (λ (z : Stored). IsPair z.weaks z.held p.slot k b) same p.is);
                key = key.object;
                key_at = key.at;
              }
          | inr n ↦
              record { object = p.object; at = v.others a n ∙ p.at; slot = p.slot; is = p.is; key = key.object; key_at = key.at }
        ]

    put_held_back : (a k b : ℕ) → Holds h' a k b → Holds h a k b
    put_held_back a k b p =
        let key = set_came h h' d x y v k p.key p.key_at in
        elim (cases_eq a d) [
          | inl q ↦
              let same = same_some (h'.kept d) p.object y (ap h'.kept (sym q) ∙ p.at) v.is in
              record {
                object = x;
                at = ap h.kept q ∙ v.was;
                slot = p.slot;
                is = put_pairs p.slot k b (subst (λ (z : Stored). IsPair z.weaks z.held p.slot k b) same p.is);
                key = key.object;
                key_at = key.at;
              }
          | inr n ↦
              record { object = p.object; at = sym (v.others a n) ∙ p.at; slot = p.slot; is = p.is; key = key.object; key_at = key.at }
        ]

    put_known : (a : ℕ) → IsKnownAt live h' m' a → IsKnownAt live h m a
    put_known a (inl p) = set_known h h' d x y v live m a (inl p)
    put_known a (inr n) = inr (sym (saved.old a) ∙ n)

    put_found : (a : ℕ) → IsFound live h' m' a → IsFound live h m a
    put_found a (ByRoot c r) = ByRoot c (record { place = r.place; is = sym (ap (λ l. slice_get l r.place) v.roots) ∙ r.is })
    put_found a (ByLive c b p r) =
        elim (put_back c b p) [ inl k ↦ held_found b k | inr q ↦ ByLive c b q.0 (subst live (sym q.1) r) ]
    put_found a (ByNew c b p n) =
        elim (put_back c b p) [ inl k ↦ held_found b k | inr q ↦ ByNew c b q.0 (sym (saved.old c) ∙ n) ]
    put_found a (ByHeld c k b pc pk p) = ByHeld c k b (put_known c pc) (put_known k pk) (put_held_back c k b p)

    pub object_set : MarkingInvariant live limit h' m'
    object_set = invariant_after live limit h m h' m' (record {
      old = saved.old;
      marked = λ a k. saved.marked a ∙ k;
      logged = λ a e. inr (saved.kept a e);
      edges = λ a b _ _ un p o. put_edge a b un p o;
      held = λ a k b _ _ _ p. inl (put_held a k b p);
      stays = λ a z at o. set_stays h h' d x y v a z at;
      came = λ a z at o. set_came h h' d x y v a z at;
      newly_marked = λ a k. inl (sym (saved.marked a) ∙ k);
      newly_logged = λ a e. elim (saved.only a e) [ inl l ↦ inl l | inr q ↦ inr (put_logged a q.0 q.1) ];
      found = λ a o f. put_found a f;
      fresh = λ a z at o. let t = set_came h h' d x y v a z at in let named = t.named in let above = i.new_names a t.object t.at o in
          omega arith;
    }) i
