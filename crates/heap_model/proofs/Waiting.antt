-- Weak slots that are still to be cleared: a heap that will show the graph, and the mutators' steps on it.
use Rattle.std.proofs.Common.{◌≡◌, ◌<◌, ◌⊎◌, ◌∷◌, ◌∙◌, ℕ, zero, suc, List, [], Option, Some, None, refl, sym, ap, subst, inl, inr}
use Rattle.std.proofs.Common.{arith, slice_set, slice_get, map}
use Rattle.std.specs.List.{AllZip}
use Rattle.std.proofs.lemmas.Bool.{cases_eq}
use Rattle.heap_model.specs.Graph.{Graph, Object, object_named, next_name, IsPair, held_by, with_root, with_object, with_changed}
use Rattle.heap_model.specs.Heap.{Heap, Stored, Points, Holds, IsShown, Shows, RootSet, ObjectSet, ObjectAdded, SameHeap}
use Rattle.heap_model.specs.Clearing.{IsWeakShown, WillShowObject, WillShow, HasWeak, KeepsAt, IsPassed, IsClearedTo, kept_word, where_kept}
use Rattle.heap_model.specs.Clearing.{kept_held, with_kept_weaks, ClearsWeaks}
use Rattle.heap_model.specs.Marking.{Marking, LeadsOn, MarkingInvariant, IsKnownAt, IsFound, ByRoot, ByLive, ByNew, ByHeld}
use Rattle.heap_model.proofs.Names.{named_below}
use Rattle.heap_model.proofs.Lists.{AllZip-get, AllZip-set, AllZip_map, AllZip_map_at}
use Rattle.heap_model.proofs.Changed.{shown_in, changed_here, changed_other, added_here, added_other, rooted_same, added_kept, added_before}
use Rattle.heap_model.proofs.Shown.{shown_name, held_kept}
use Rattle.heap_model.proofs.Held.{held_by_get, held_by_was, held_by_again, held_by_bare, kept_both, kept_twice, kept_get}
use Rattle.heap_model.proofs.Advance.{Stands, invariant_after}

-- a weak slot whose target is kept shows what any word does
word_cleared : (h : Heap) (w v : Option ℕ) → ((a : ℕ) → w ≡ Some a → KeepsAt h a) → IsWeakShown h w v → IsShown h w v
word_cleared h None None f s = tt
word_cleared h (Some a) None f s = let k = (f a refl).at in absurd cc
word_cleared h (Some a) (Some n) f s = s
word_cleared h _ _ f s = absurd s

-- where nothing is left to clear, a heap that will show the graph shows it
pub shows_cleared_heap : (g : Graph) (h : Heap) → WillShow g h → IsClearedTo None h → Shows g h
shows_cleared_heap g h s done = record {
  roots = s.roots;
  distinct = s.distinct;
  objects = λ a x at.
      let o = s.objects a x at in
      let weaks : AllZip (IsShown h) x.weaks o.object.weaks = AllZip_map_at (IsWeakShown h) (IsShown h) x.weaks o.object.weaks
      (λ i w v is z. word_cleared h w v (λ b e. done a b tt (record { object = x; at = at; slot = i; is = is ∙ ap Some e })) z) o.weaks in
      record {
        object = o.object;
        named = o.named;
        pointers = o.pointers;
        weaks = weaks;
        held = subst (λ vs. AllZip (IsShown h) vs o.object.held) (held_kept h x o.object.weaks weaks o.keyed) o.held;
        keyed = o.keyed;
        values = o.values;
      };
}

-- and where the heap shows the graph, nothing is left
pub nothing_left : (g : Graph) (h : Heap) → Shows g h → IsClearedTo None h
nothing_left g h s a b p w =
    let o = s.objects a w.object w.at in
    let (v, is, shown) = AllZip-get (IsShown h) w.object.weaks o.object.weaks o.weaks w.slot (Some b) w.is in
    let (n, is', y, here, called) = shown_name h b v shown in
    record { object = y; at = here }

-- what is read of a weak slot, if its target is kept, is what the graph has
pub slot_read : (h : Heap) (w v : Option ℕ) → IsWeakShown h w v → IsShown h (kept_word h.kept w) v
slot_read h None None s = tt
slot_read h (Some a) None s = rw s tt
slot_read h (Some a) (Some n) s = let e = s.1 in rw e s
slot_read h _ _ s = absurd s

pub weak_slot_read : (g : Graph) (h : Heap) → WillShow g h → (a i : ℕ) (x : Stored) (w : Option ℕ) → h.kept a ≡ Some x
    → slice_get x.weaks i ≡ Some w
    → (o : Object) × (object_named g x.name ≡ Some o) × (v : Option ℕ) × (slice_get o.weaks i ≡ Some v) × IsShown h (kept_word h.kept w) v
weak_slot_read g h s a i x w at e =
    let t = s.objects a x at in
    let (v, is, shown) = AllZip-get (IsWeakShown h) x.weaks t.object.weaks t.weaks i w e in
    (t.object, t.named, v, is, slot_read h w v shown)

-- and what is read of a held slot, if its key is kept
pub held_slot_read : (g : Graph) (h : Heap) → WillShow g h → (a i : ℕ) (x : Stored) (w : Option ℕ) → h.kept a ≡ Some x
    → slice_get (kept_held h.kept x) i ≡ Some w
    → (o : Object) × (object_named g x.name ≡ Some o) × (v : Option ℕ) × (slice_get o.held i ≡ Some v) × IsShown h w v
held_slot_read g h s a i x w at e =
    let t = s.objects a x at in
    let (v, is, shown) = AllZip-get (IsShown h) (kept_held h.kept x) t.object.held t.held i w e in
    (t.object, t.named, v, is, shown)

-- a weak slot shows the same where each kept object is kept under its name, and its target is kept if it was
weak_in : (h h' : Heap) → ((a : ℕ) (x : Stored) → h.kept a ≡ Some x → (y : Stored) × (h'.kept a ≡ Some y) × (y.name ≡ x.name))
    → (w v : Option ℕ) → ((a : ℕ) → w ≡ Some a → h.kept a ≡ None → h'.kept a ≡ None) → IsWeakShown h w v → IsWeakShown h' w v
weak_in h h' f None None none s = tt
weak_in h h' f (Some a) None none s = none a refl s
weak_in h h' f (Some a) (Some n) none s = let (y, at, named) = f a s.0 s.1 in (y, at, named ∙ s.2)
weak_in h h' f _ _ none s = absurd s

-- so do held slots whose keys show the same
held_in : (h h' : Heap) (x : Stored) (ks vs : List (Option ℕ)) → ((w v : Option ℕ) → IsShown h w v → IsShown h' w v)
    → AllZip (IsWeakShown h) x.weaks ks → AllZip (IsWeakShown h') x.weaks ks → AllZip (IsShown h) (kept_held h.kept x) vs
    → AllZip (IsShown h') (kept_held h'.kept x) vs
held_in h h' x ks vs same weaks weaks' held =
    subst (λ us. AllZip (IsShown h') (held_by us x.held) vs) (sym (kept_both h h' x.weaks ks weaks weaks'))
    (AllZip_map (IsShown h) (IsShown h') same (kept_held h.kept x) vs held)

-- an object will show what it would where its words do, and its name's object is the same
will_as : (g g' : Graph) (h h' : Heap) (x : Stored) → ((w v : Option ℕ) → IsShown h w v → IsShown h' w v)
    → ((i : ℕ) (w v : Option ℕ) → slice_get x.weaks i ≡ Some w → IsWeakShown h w v → IsWeakShown h' w v) → (o : WillShowObject g h x)
    → object_named g' x.name ≡ Some o.object → WillShowObject g' h' x
will_as g g' h h' x same weak o named = record {
  object = o.object;
  named = named;
  values = o.values;
  keyed = o.keyed;
  pointers = AllZip_map (IsShown h) (IsShown h') same x.pointers o.object.pointers o.pointers;
  weaks = AllZip_map_at (IsWeakShown h) (IsWeakShown h') x.weaks o.object.weaks weak o.weaks;
  held = held_in h h' x o.object.weaks o.object.held same o.weaks
      (AllZip_map_at (IsWeakShown h) (IsWeakShown h') x.weaks o.object.weaks weak o.weaks) o.held;
}

module _ (g : Graph) (h h' : Heap) (shows : WillShow g h) where
  module _ (place : ℕ) (w v : Option ℕ) (shown : IsShown h w v) (step : RootSet h h' place w) where
    kept_root : (a : ℕ) (x : Stored) → h.kept a ≡ Some x → (y : Stored) × (h'.kept a ≡ Some y) × (y.name ≡ x.name)
    kept_root a x at = (x, step.kept a ∙ at, refl)

    same : (w v : Option ℕ) → IsShown h w v → IsShown h' w v
    same = shown_in h h' kept_root

    pub will_root_set : WillShow (with_root g place v) h'
    will_root_set = record {
      roots = subst (λ ws. AllZip (IsShown h') ws (slice_set g.roots place v)) (sym step.roots)
          (AllZip-set (IsShown h') h.roots g.roots (AllZip_map (IsShown h) (IsShown h') same h.roots g.roots shows.roots) place w v
          (same w v shown));
      distinct = λ a b x y ea eb e. shows.distinct a b x y (sym (step.kept a) ∙ ea) (sym (step.kept b) ∙ eb) e;
      objects = λ a x e.
          let o = shows.objects a x (sym (step.kept a) ∙ e) in
          will_as g (with_root g place v) h h' x same
          (λ i u t is s. weak_in h h' kept_root u t (λ b q none. step.kept b ∙ none) s) o (rooted_same g place x.name v ∙ o.named);
    }

  module _ (d : ℕ) (x y : Stored) (o p : Object) (step : ObjectSet h h' d x y) (named : object_named g x.name ≡ Some o)
      (pointers : AllZip (IsShown h) y.pointers p.pointers) (weaks : AllZip (IsWeakShown h) y.weaks p.weaks)
      (held : AllZip (IsShown h) (kept_held h.kept y) p.held) (keyed : held_by y.weaks y.held ≡ y.held)
      (values : y.values ≡ p.values) where
    kept_set : (a : ℕ) (z : Stored) → h.kept a ≡ Some z → (u : Stored) × (h'.kept a ≡ Some u) × (u.name ≡ z.name)
    kept_set a z at = elim (cases_eq a d) [
      | inl q ↦ (
        y,
        ap h'.kept q ∙ step.is,
        step.name
            ∙ (let e : x ≡ z = let e1 = step.was in let e2 = ap h.kept q in cc in ap (λ (k : Stored). k.name) e),
      )
      | inr n ↦ (z, step.others a n ∙ at, refl)
    ]

    set_same : (w v : Option ℕ) → IsShown h w v → IsShown h' w v
    set_same = shown_in h h' kept_set

    none_set : (a : ℕ) → h.kept a ≡ None → h'.kept a ≡ None
    none_set a none = elim (cases_eq a d) [
      | inl q ↦ absurd (let e1 = step.was in let e2 = ap h.kept q in cc)
      | inr n ↦ step.others a n ∙ none
    ]

    weak_set : (w v : Option ℕ) → IsWeakShown h w v → IsWeakShown h' w v
    weak_set w v s = weak_in h h' kept_set w v (λ b q none. none_set b none) s

    set_before : (a : ℕ) (z : Stored) → h'.kept a ≡ Some z → ((a ≡ d) × (z ≡ y)) ⊎ ((a ≡ d → ⊥) × (h.kept a ≡ Some z))
    set_before a z at = elim (cases_eq a d) [
      | inl q ↦ inl (q, (let is = step.is in let here = ap h'.kept q in cc))
      | inr n ↦ inr (n, sym (step.others a n) ∙ at)
    ]

    set_was : (a : ℕ) (z : Stored) → h'.kept a ≡ Some z → (u : Stored) × (h.kept a ≡ Some u) × (u.name ≡ z.name)
    set_was a z at = elim (set_before a z at) [
      | inl q ↦ (x, ap h.kept q.0 ∙ step.was, sym step.name ∙ ap (λ (k : Stored). k.name) (sym q.1))
      | inr q ↦ (z, q.1, refl)
    ]

    set_object : (a : ℕ) (z : Stored) → h'.kept a ≡ Some z → WillShowObject (with_changed g x.name p) h' z
    set_object a z at = elim (set_before a z at) [
      | inl q ↦ subst (WillShowObject (with_changed g x.name p) h') (sym q.1) (record {
        object = p;
        named = ap (object_named (with_changed g x.name p)) step.name ∙ changed_here g x.name o p named;
        values = values;
        pointers = AllZip_map (IsShown h) (IsShown h') set_same y.pointers p.pointers pointers;
        weaks = AllZip_map (IsWeakShown h) (IsWeakShown h') weak_set y.weaks p.weaks weaks;
        held = held_in h h' y p.weaks p.held set_same weaks
            (AllZip_map (IsWeakShown h) (IsWeakShown h') weak_set y.weaks p.weaks weaks) held;
        keyed = keyed;
      })
      | inr q ↦
          let t = shows.objects a z q.1 in
          will_as g (with_changed g x.name p) h h' z set_same (λ i u v is s. weak_set u v s) t
          (changed_other g x.name z.name o p t.object named (λ e. q.0 (shows.distinct a d z x q.1 step.was e)) t.named)
    ]

    pub will_object_set : WillShow (with_changed g x.name p) h'
    will_object_set = record {
      roots = subst (λ ws. AllZip (IsShown h') ws g.roots) (sym step.roots)
          (AllZip_map (IsShown h) (IsShown h') set_same h.roots g.roots shows.roots);
      distinct = λ a b u z ea eb e.
          let (u', eu, nu) = set_was a u ea in
          let (z', ez, nz) = set_was b z eb in
          shows.distinct a b u' z' eu ez (nu ∙ e ∙ sym nz);
      objects = set_object;
    }

  module _ (a : ℕ) (x : Stored) (o : Object) (place : ℕ) (step : ObjectAdded h h' a x place) (away : (b : ℕ) → HasWeak h b a → ⊥)
      (name : x.name ≡ next_name g) (pointers : AllZip (IsShown h) x.pointers o.pointers) (weaks : AllZip (IsShown h) x.weaks o.weaks)
      (held : AllZip (IsShown h) x.held o.held) (values : x.values ≡ o.values) where
    kept_added : (b : ℕ) (z : Stored) → h.kept b ≡ Some z → (u : Stored) × (h'.kept b ≡ Some u) × (u.name ≡ z.name)
    kept_added b z at = (z, added_kept h h' a x place step b z at, refl)

    added_same : (w v : Option ℕ) → IsShown h w v → IsShown h' w v
    added_same = shown_in h h' kept_added

    below : (b : ℕ) (z : Stored) → h.kept b ≡ Some z → z.name < next_name g
    below b z at = let t = shows.objects b z at in named_below g z.name t.object t.named

    -- a slot of an object that was there doesn't lead to the new one
    none_added : (c : ℕ) (z : Stored) (i b : ℕ) → h.kept c ≡ Some z → slice_get z.weaks i ≡ Some (Some b) → h.kept b ≡ None
        → h'.kept b ≡ None
    none_added c z i b at is none = elim (cases_eq b a) [
      | inl q ↦ absurd (away c (subst (HasWeak h c) q (record { object = z; at = at; slot = i; is = is })))
      | inr n ↦ step.others b n ∙ none
    ]

    weak_added : (w v : Option ℕ) → IsShown h w v → IsWeakShown h' w v
    weak_added None None s = tt
    weak_added (Some b) (Some n) s = added_same (Some b) (Some n) s
    weak_added _ _ s = absurd s

    added_object : (b : ℕ) (z : Stored) → h'.kept b ≡ Some z → WillShowObject (with_object g o place) h' z
    added_object b z at = elim (added_before h h' a x place step b z at) [
      | inl q ↦ subst (WillShowObject (with_object g o place) h') (sym q.1) (record {
        object = o;
        named = ap (object_named (with_object g o place)) name ∙ added_here g o place;
        values = values;
        pointers = AllZip_map (IsShown h) (IsShown h') added_same x.pointers o.pointers pointers;
        weaks = AllZip_map (IsShown h) (IsWeakShown h') weak_added x.weaks o.weaks weaks;
        held = subst (λ vs. AllZip (IsShown h') vs o.held)
            (sym (held_by_bare (map (kept_word h'.kept) x.weaks) x.held step.bare))
            (AllZip_map (IsShown h) (IsShown h') added_same x.held o.held held);
        keyed = held_by_bare x.weaks x.held step.bare;
      })
      | inr was ↦
          let t = shows.objects b z was in
          will_as g (with_object g o place) h h' z added_same
          (λ i u v is s. weak_in h h' kept_added u v (λ c q none. none_added b z i c was (is ∙ ap Some q) none) s) t
          (added_other g o t.object place z.name t.named)
    ]

    added_distinct : (b c : ℕ) (u z : Stored) → h'.kept b ≡ Some u → h'.kept c ≡ Some z → u.name ≡ z.name → b ≡ c
    added_distinct b c u z eb ec e =
        elim (added_before h h' a x place step b u eb) [
          | inl q ↦ elim (added_before h h' a x place step c z ec) [
            | inl r ↦ q.0 ∙ sym r.0
            | inr was ↦ let k = below c z was in let here = ap (λ (k : Stored). k.name) q.1 in absurd (omega arith)
          ]
          | inr was ↦ elim (added_before h h' a x place step c z ec) [
            | inl r ↦ let k = below b u was in let here = ap (λ (k : Stored). k.name) r.1 in absurd (omega arith)
            | inr was' ↦ shows.distinct b c u z was was' e
          ]
        ]

    pub will_object_added : WillShow (with_object g o place) h'
    will_object_added = record {
      roots = subst (λ ws. AllZip (IsShown h') ws (slice_set g.roots place (Some (next_name g)))) (sym step.roots)
          (AllZip-set (IsShown h') h.roots g.roots (AllZip_map (IsShown h) (IsShown h') added_same h.roots g.roots shows.roots) place
          (Some a) (Some (next_name g)) (x, step.is, name));
      distinct = added_distinct;
      objects = added_object;
    }

  pub will_same : SameHeap h h' → WillShow g h'
  will_same same =
      let kept : (a : ℕ) (x : Stored) → h.kept a ≡ Some x → (y : Stored) × (h'.kept a ≡ Some y) × (y.name ≡ x.name)
      = λ a x at. (x, same.kept a ∙ at, refl) in
      let in' = shown_in h h' kept in
      record {
        roots = subst (λ ws. AllZip (IsShown h') ws g.roots) (sym same.roots)
            (AllZip_map (IsShown h) (IsShown h') in' h.roots g.roots shows.roots);
        distinct = λ a b x y ea eb e. shows.distinct a b x y (sym (same.kept a) ∙ ea) (sym (same.kept b) ∙ eb) e;
        objects = λ a x e.
            let o = shows.objects a x (sym (same.kept a) ∙ e) in
            will_as g g h h' x in' (λ i u v is s. weak_in h h' kept u v (λ b q none. same.kept b ∙ none) s) o o.named;
      }

  -- some objects' slots are cleared
  module _ (clears : ClearsWeaks h h') where
    kept_cleared : (a : ℕ) (x : Stored) → h.kept a ≡ Some x → (y : Stored) × (h'.kept a ≡ Some y) × (y.name ≡ x.name)
    kept_cleared a x at = elim (clears.each a) [
      | inl q ↦ (x, q ∙ at, refl)
      | inr q ↦ (with_kept_weaks h.kept q.0, q.2, ap (λ (k : Stored). k.name) (let e = q.1 in let e' : q.0 ≡ x = cc in e'))
    ]

    none_cleared : (a : ℕ) → h.kept a ≡ None → h'.kept a ≡ None
    none_cleared a none = elim (clears.each a) [ inl q ↦ q ∙ none | inr q ↦ absurd (let e = q.1 in cc) ]

    was_kept : (a : ℕ) (y : Stored) → h'.kept a ≡ Some y
        → (x : Stored) × (h.kept a ≡ Some x) × ((y ≡ x) ⊎ (y ≡ with_kept_weaks h.kept x))
    was_kept a y at = elim (clears.each a) [
      | inl q ↦ (y, sym q ∙ at, inl refl)
      | inr q ↦ (q.0, q.1, inr (let e = q.2 in cc))
    ]

    shown_cleared : (w v : Option ℕ) → IsShown h w v → IsShown h' w v
    shown_cleared = shown_in h h' kept_cleared

    weak_cleared : (w v : Option ℕ) → IsWeakShown h w v → IsWeakShown h' w v
    weak_cleared w v s = weak_in h h' kept_cleared w v (λ b q none. none_cleared b none) s

    cleared_slot_shown : (w v : Option ℕ) → IsWeakShown h w v → IsWeakShown h' (kept_word h.kept w) v
    cleared_slot_shown None None s = tt
    cleared_slot_shown (Some a) None s = rw s tt
    cleared_slot_shown (Some a) (Some n) s = let e = s.1 in rw e (weak_cleared (Some a) (Some n) s)
    cleared_slot_shown _ _ s = absurd s

    cleared_slots : (ws vs : List (Option ℕ)) → AllZip (IsWeakShown h) ws vs → AllZip (IsWeakShown h') (map (kept_word h.kept) ws) vs
    cleared_slots [] [] z = tt
    cleared_slots (w ∷ ws) (v ∷ vs) z = (cleared_slot_shown w v z.0, cleared_slots ws vs z.1)
    cleared_slots _ _ z = absurd z

    held_again : (x : Stored) → kept_held h'.kept (with_kept_weaks h.kept x) ≡ kept_held h.kept x
    held_again x =
        ap (λ us. held_by us (kept_held h.kept x)) (kept_twice h.kept h'.kept
        (λ a y at. let (z, here, _) = kept_cleared a y at in (z, here)) x.weaks)
        ∙ held_by_again (map (kept_word h.kept) x.weaks) x.held

    object_cleared : (x : Stored) → (o : WillShowObject g h x) → WillShowObject g h' (with_kept_weaks h.kept x)
    object_cleared x o = record {
      object = o.object;
      named = o.named;
      pointers = AllZip_map (IsShown h) (IsShown h') shown_cleared x.pointers o.object.pointers o.pointers;
      weaks = cleared_slots x.weaks o.object.weaks o.weaks;
      held = subst (λ vs. AllZip (IsShown h') vs o.object.held) (sym (held_again x))
          (AllZip_map (IsShown h) (IsShown h') shown_cleared (kept_held h.kept x) o.object.held o.held);
      keyed = held_by_again (map (kept_word h.kept) x.weaks) x.held;
      values = o.values;
    }

    name_was : (x y : Stored) → (y ≡ x) ⊎ (y ≡ with_kept_weaks h.kept x) → x.name ≡ y.name
    name_was x y (inl e) = ap (λ (k : Stored). k.name) (sym e)
    name_was x y (inr e) = ap (λ (k : Stored). k.name) (sym e)

    pub will_cleared : WillShow g h'
    will_cleared = record {
      roots = subst (λ ws. AllZip (IsShown h') ws g.roots) (sym clears.roots)
          (AllZip_map (IsShown h) (IsShown h') shown_cleared h.roots g.roots shows.roots);
      distinct = λ a b y z ea eb e.
          let (x, xat, xis) = was_kept a y ea in
          let (u, uat, uis) = was_kept b z eb in
          shows.distinct a b x u xat uat (name_was x y xis ∙ e ∙ sym (name_was u z uis));
      objects = λ a y at.
          let (x, xat, is) = was_kept a y at in
          let o = shows.objects a x xat in
          elim is [
            | inl q ↦ subst (WillShowObject g h') (sym q) (will_as g g h h' x shown_cleared (λ i w v k s. weak_cleared w v s) o o.named)
            | inr q ↦ subst (WillShowObject g h') (sym q) (object_cleared x o)
          ];
    }

-- how far clearing has come stays, where each slot was there with its word, or leads to what is kept
pub still_cleared : (h h' : Heap) (place : Option ℕ) → ((a b : ℕ) → HasWeak h' a b → HasWeak h a b ⊎ KeepsAt h' b)
    → ((b : ℕ) → KeepsAt h b → KeepsAt h' b) → IsClearedTo place h → IsClearedTo place h'
still_cleared h h' place was on done a b passed w =
    elim (was a b w) [ inl q ↦ on b (done a b passed q) | inr k ↦ k ]

-- a word of a cleared slot leads to what is kept
kept_target : (kept : ℕ → Option Stored) (w : Option ℕ) (b : ℕ) → kept_word kept w ≡ Some b
    → (w ≡ Some b) × ((x : Stored) × (kept b ≡ Some x))
kept_target kept None b e = cc
kept_target kept (Some a) b e = from (kept a) refl e
  where
    from : (o : Option Stored) → kept a ≡ o → where_kept o a ≡ Some b → (Some a ≡ Some b) × ((x : Stored) × (kept b ≡ Some x))
    from None is e = cc
    from (Some x) is e = (e, (x, let q : a ≡ b = cc in subst (λ (c : ℕ). kept c ≡ Some x) q is))

pub cleared_target : (kept : ℕ → Option Stored) (ws : List (Option ℕ)) (i b : ℕ) → slice_get (map (kept_word kept) ws) i ≡ Some (Some b)
    → (slice_get ws i ≡ Some (Some b)) × ((x : Stored) × (kept b ≡ Some x))
cleared_target kept [] i b e = cc
cleared_target kept (w ∷ ws) zero b e = let (q, k) = kept_target kept w b (let p : kept_word kept w ≡ Some b = cc in p) in (ap Some q, k)
cleared_target kept (w ∷ ws) (suc i) b e = cleared_target kept ws i b e

-- Clearing goes on: the objects on its way are cleared, and what it had passed is as it was
pub cleared_further : (h h' : Heap) (from to : Option ℕ) → ClearsWeaks h h' → IsClearedTo from h
    → ((a : ℕ) (x : Stored) → IsPassed to a → h.kept a ≡ Some x → IsPassed from a ⊎ (h'.kept a ≡ Some (with_kept_weaks h.kept x)))
    → IsClearedTo to h'
cleared_further h h' from to clears done on a b passed w =
    elim (clears.each a) [
      | inl q ↦
          let here = sym q ∙ w.at in
          elim (on a w.object passed here) [
            | inl before ↦ keeps (done a b before (record { object = w.object; at = here; slot = w.slot; is = w.is }))
            | inr is ↦
                let e : with_kept_weaks h.kept w.object ≡ w.object = let o = w.at in cc in
                let (_, k) = cleared_target h.kept w.object.weaks w.slot b
                (ap (λ (z : Stored). slice_get z.weaks w.slot) e ∙ w.is) in
                keeps (record { object = k.0; at = k.1 })
          ]
      | inr q ↦
          let e : w.object ≡ with_kept_weaks h.kept q.0 = let o = w.at in let l = q.2 in cc in
          let (_, k) = cleared_target h.kept q.0.weaks w.slot b
          (ap (λ (z : Stored). slice_get z.weaks w.slot) (sym e) ∙ w.is) in
          keeps (record { object = k.0; at = k.1 })
    ]
  where
    keeps : KeepsAt h b → KeepsAt h' b
    keeps k = elim (clears.each b) [
      | inl q ↦ record { object = k.object; at = q ∙ k.at }
      | inr q ↦ record { object = with_kept_weaks h.kept q.0; at = q.2 }
    ]

-- marking follows neither weak slots nor what is held for a key that isn't kept, so it goes on as before
module _ (live : ℕ → Type 0) (limit : ℕ) (h h' : Heap) (m : Marking) (clears : ClearsWeaks h h') (i : MarkingInvariant live limit h m) where
  stood : (a : ℕ) (z : Stored) → h.kept a ≡ Some z → Stands h' a z.name
  stood a z at = elim (clears.each a) [
    | inl q ↦ record { object = z; at = q ∙ at; named = refl }
    | inr q ↦ record {
      object = with_kept_weaks h.kept q.0;
      at = q.2;
      named = let e = q.1 in let same : q.0 ≡ z = cc in ap (λ (k : Stored). k.name) same;
    }
  ]

  came : (a : ℕ) (z : Stored) → h'.kept a ≡ Some z → Stands h a z.name
  came a z at = elim (clears.each a) [
    | inl q ↦ record { object = z; at = sym q ∙ at; named = refl }
    | inr q ↦ record {
      object = q.0;
      at = q.1;
      named = let e = q.2 in let same : with_kept_weaks h.kept q.0 ≡ z = cc in ap (λ (k : Stored). k.name) same;
    }
  ]

  leads_on : (a b : ℕ) → LeadsOn h m a b → LeadsOn h' m a b
  leads_on a b l = let p = l.points in elim (clears.each a) [
    | inl q ↦ record { points = record { object = p.object; at = q ∙ p.at; field = p.field; is = p.is }; left = l.left }
    | inr q ↦
        let same : q.0 ≡ p.object = let e1 = q.1 in let e2 = p.at in cc in
        record {
          points = record {
            object = with_kept_weaks h.kept q.0;
            at = q.2;
            field = p.field;
            is = ap (λ (k : Stored). slice_get k.pointers p.field) same ∙ p.is;
          };
          left = l.left;
        }
  ]

  points_back : (a b : ℕ) (p : Points h' a b) → (q : Points h a b) × (q.object.name ≡ p.object.name)
  points_back a b p = elim (clears.each a) [
    | inl q ↦ (record { object = p.object; at = sym q ∙ p.at; field = p.field; is = p.is }, refl)
    | inr q ↦
        let same : with_kept_weaks h.kept q.0 ≡ p.object = let e1 = q.2 in let e2 = p.at in cc in (
          record { object = q.0; at = q.1; field = p.field; is = ap (λ (k : Stored). slice_get k.pointers p.field) same ∙ p.is },
          ap (λ (k : Stored). k.name) same,
        )
  ]

  -- pairs whose key is kept stay, and none comes
  holds_on : (a k b : ℕ) → Holds h a k b → Holds h' a k b
  holds_on a k b p =
      let key = stood k p.key p.key_at in
      elim (clears.each a) [
        | inl q ↦ record { object = p.object; at = q ∙ p.at; slot = p.slot; is = p.is; key = key.object; key_at = key.at }
        | inr q ↦
            let same : q.0 ≡ p.object = let e1 = q.1 in let e2 = p.at in cc in
            let stays = kept_get h.kept p.object.weaks p.slot k p.key p.is.0 p.key_at in
            let held = held_by_get (map (kept_word h.kept) p.object.weaks) p.object.held p.slot k stays ∙ p.is.1 in
            record {
              object = with_kept_weaks h.kept q.0;
              at = q.2;
              slot = p.slot;
              is = subst (λ (z : Stored). IsPair (with_kept_weaks h.kept z).weaks (with_kept_weaks h.kept z).held p.slot k b) (sym same)
                  (stays, held);
              key = key.object;
              key_at = key.at;
            }
      ]

  holds_back : (a k b : ℕ) → Holds h' a k b → Holds h a k b
  holds_back a k b p =
      let key = came k p.key p.key_at in
      elim (clears.each a) [
        | inl q ↦ record { object = p.object; at = sym q ∙ p.at; slot = p.slot; is = p.is; key = key.object; key_at = key.at }
        | inr q ↦
            let same : p.object ≡ with_kept_weaks h.kept q.0 = let e1 = q.2 in let e2 = p.at in cc in
            let is = subst (λ (z : Stored). IsPair z.weaks z.held p.slot k b) same p.is in
            record {
              object = q.0;
              at = q.1;
              slot = p.slot;
              is = (
                (cleared_target h.kept q.0.weaks p.slot k is.0).0,
                held_by_was (map (kept_word h.kept) q.0.weaks) q.0.held p.slot b is.1,
              );
              key = key.object;
              key_at = key.at;
            }
      ]

  known_back : (a : ℕ) → IsKnownAt live h' m a → IsKnownAt live h m a
  known_back a (inl p) = let t = came a p.0 p.1 in inl (t.object, t.at, subst live (sym t.named) p.2)
  known_back a (inr n) = inr n

  found_back : (a : ℕ) → IsFound live h' m a → IsFound live h m a
  found_back a (ByRoot c r) = ByRoot c (record { place = r.place; is = sym (ap (λ l. slice_get l r.place) clears.roots) ∙ r.is })
  found_back a (ByLive c b p r) = let (q, e) = points_back c b p in ByLive c b q (subst live (sym e) r)
  found_back a (ByNew c b p n) = ByNew c b (points_back c b p).0 n
  found_back a (ByHeld c k b pc pk p) = ByHeld c k b (known_back c pc) (known_back k pk) (holds_back c k b p)

  pub cleared_invariant : MarkingInvariant live limit h' m
  cleared_invariant = invariant_after live limit h m h' m (record {
    old = λ a. refl;
    marked = λ a k. k;
    logged = λ a e. inr e;
    edges = λ a b _ _ un l _. inl (un, leads_on a b l);
    held = λ a k b _ _ _ p. inl (holds_on a k b p);
    stays = λ a z at o. stood a z at;
    came = λ a z at o. came a z at;
    newly_marked = λ a k. inl k;
    newly_logged = λ a e. inl e;
    found = λ a o f. found_back a f;
    fresh = λ a z at o. let t = came a z at in let named = t.named in let above = i.new_names a t.object t.at o in omega arith;
  }) i
