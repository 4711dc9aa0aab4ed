-- A mutator's steps, in the graph and in the heap.
use Rattle.std.proofs.Common.{◌≡◌, ◌<◌, ◌≤◌, ◌-◌, ◌⊎◌, ◌∷◌, ◌++◌, ◌∙◌, ℕ, [], length, Option, Some, None, refl, sym, ap, subst, inl, inr}
use Rattle.std.proofs.Common.{arith, slice_set, slice_get}
use Rattle.std.specs.List.{AllZip}
use Rattle.std.proofs.lemmas.Bool.{cases_eq, cases_lt}
use Rattle.heap_model.specs.Graph.{Graph, Object, object_named, next_name, held_by, with_root, with_object, with_changed}
use Rattle.heap_model.specs.Heap.{Heap, Stored, IsShown, IsObjectShown, Shows, RootSet, ObjectSet, ObjectAdded, SameHeap}
use Rattle.heap_model.proofs.Names.{named_below}
use Rattle.heap_model.proofs.Held.{held_by_bare}
use Rattle.heap_model.proofs.Lists.{AllZip-get, AllZip-set, AllZip_map, get-set_same, get-set_other, get-push_last, get_kept-append}

pub at_least : (g : Graph) (n : ℕ) (o : Object) → object_named g n ≡ Some o → g.first_name ≤ n
unfolding object_named
at_least g n o e = elim (cases_lt n g.first_name) [ inl k ↦ grind (arith) | inr k ↦ k ]

pub named_at : (g : Graph) (n : ℕ) → g.first_name ≤ n → object_named g n ≡ slice_get g.objects (n - g.first_name)
unfolding object_named
named_at g n k = grind arith

pub changed_here : (g : Graph) (n : ℕ) (o p : Object) → object_named g n ≡ Some o → object_named (with_changed g n p) n ≡ Some p
changed_here g n o p e =
    let k = at_least g n o e in
    named_at (with_changed g n p) n k ∙ get-set_same g.objects (n - g.first_name) p o (sym (named_at g n k) ∙ e)

pub changed_other : (g : Graph) (n k : ℕ) (o p q : Object) → object_named g n ≡ Some o → (k ≡ n → ⊥) → object_named g k ≡ Some q
    → object_named (with_changed g n p) k ≡ Some q
changed_other g n k o p q e ne f =
    let a = at_least g n o e in
    let b = at_least g k q f in
    named_at (with_changed g n p) k b ∙ get-set_other g.objects (n - g.first_name) (k - g.first_name) p (λ s. ne (omega arith))
    ∙ sym (named_at g k b) ∙ f

pub added_here : (g : Graph) (o : Object) (j : ℕ) → object_named (with_object g o j) (next_name g) ≡ Some o
added_here g o j =
    let e : next_name g - g.first_name ≡ length g.objects = omega arith in
    named_at (with_object g o j) (next_name g) (omega arith) ∙ ap (slice_get (g.objects ++ o ∷ [])) e ∙ get-push_last g.objects o

pub added_other : (g : Graph) (o p : Object) (j n : ℕ) → object_named g n ≡ Some p → object_named (with_object g o j) n ≡ Some p
added_other g o p j n e =
    let a = at_least g n p e in
    named_at (with_object g o j) n a ∙ get_kept-append g.objects (o ∷ []) p (n - g.first_name) (sym (named_at g n a) ∙ e)

pub rooted_same : (g : Graph) (j n : ℕ) (v : Option ℕ) → object_named (with_root g j v) n ≡ object_named g n
unfolding object_named
rooted_same g j n v = refl

-- a word shows the same in a heap where each kept object is kept under its name
pub shown_in : (h h' : Heap) → ((a : ℕ) (x : Stored) → h.kept a ≡ Some x → (y : Stored) × (h'.kept a ≡ Some y) × (y.name ≡ x.name))
    → (w v : Option ℕ) → IsShown h w v → IsShown h' w v
shown_in h h' f None None s = tt
shown_in h h' f (Some a) (Some n) s = let (y, at, named) = f a s.0 s.1 in (y, at, named ∙ s.2)
shown_in h h' f _ _ s = absurd s

-- an object shows what it showed where its words do, and its name's object is the same
shown_as : (g g' : Graph) (h h' : Heap) (x : Stored) → ((w v : Option ℕ) → IsShown h w v → IsShown h' w v) → (o : IsObjectShown g h x)
    → object_named g' x.name ≡ Some o.object → IsObjectShown g' h' x
shown_as g g' h h' x same o named = record {
  object = o.object;
  named = named;
  values = o.values;
  pointers = AllZip_map (IsShown h) (IsShown h') same x.pointers o.object.pointers o.pointers;
  weaks = AllZip_map (IsShown h) (IsShown h') same x.weaks o.object.weaks o.weaks;
  held = AllZip_map (IsShown h) (IsShown h') same x.held o.object.held o.held;
  keyed = o.keyed;
}

-- one more object: those before, and what there is then
module _ (h h' : Heap) (a : ℕ) (x : Stored) (place : ℕ) (step : ObjectAdded h h' a x place) where
  pub added_kept : (b : ℕ) (z : Stored) → h.kept b ≡ Some z → h'.kept b ≡ Some z
  added_kept b z at = elim (cases_eq b a) [
    | inl q ↦ absurd (let was = step.was in let here = ap h.kept q in cc)
    | inr n ↦ step.others b n ∙ at
  ]

  pub added_before : (b : ℕ) (z : Stored) → h'.kept b ≡ Some z → ((b ≡ a) × (z ≡ x)) ⊎ (h.kept b ≡ Some z)
  added_before b z at = elim (cases_eq b a) [
    | inl q ↦ inl (q, (let is = step.is in let here = ap h'.kept q in cc))
    | inr n ↦ inr (sym (step.others b n) ∙ at)
  ]

module _ (g : Graph) (h h' : Heap) (shows : Shows g h) where
  module _ (place : ℕ) (w v : Option ℕ) (shown : IsShown h w v) (step : RootSet h h' place w) where
    same : (w v : Option ℕ) → IsShown h w v → IsShown h' w v
    same = shown_in h h' (λ a x at. (x, step.kept a ∙ at, refl))

    pub root_set_shows : Shows (with_root g place v) h'
    root_set_shows = record {
      roots = subst (λ ws. AllZip (IsShown h') ws (slice_set g.roots place v)) (sym step.roots)
          (AllZip-set (IsShown h') h.roots g.roots (AllZip_map (IsShown h) (IsShown h') same h.roots g.roots shows.roots) place w v
          (same w v shown));
      distinct = λ a b x y ea eb e. shows.distinct a b x y (sym (step.kept a) ∙ ea) (sym (step.kept b) ∙ eb) e;
      objects = λ a x e.
          let o = shows.objects a x (sym (step.kept a) ∙ e) in
          shown_as g (with_root g place v) h h' x same o (rooted_same g place x.name v ∙ o.named);
    }

  module _ (d : ℕ) (x y : Stored) (o p : Object) (step : ObjectSet h h' d x y) (named : object_named g x.name ≡ Some o)
      (pointers : AllZip (IsShown h) y.pointers p.pointers) (weaks : AllZip (IsShown h) y.weaks p.weaks)
      (held : AllZip (IsShown h) y.held p.held) (keyed : held_by y.weaks y.held ≡ y.held) (values : y.values ≡ p.values) where
    set_same : (w v : Option ℕ) → IsShown h w v → IsShown h' w v
    set_same = shown_in h h' (λ a z at. elim (cases_eq a d) [
      | inl q ↦ (
        y,
        ap h'.kept q ∙ step.is,
        step.name
            ∙ (let e : x ≡ z = let e1 = step.was in let e2 = ap h.kept q in cc in ap (λ (k : Stored). k.name) e),
      )
      | inr n ↦ (z, step.others a n ∙ at, refl)
    ])

    set_before : (a : ℕ) (z : Stored) → h'.kept a ≡ Some z → ((a ≡ d) × (z ≡ y)) ⊎ ((a ≡ d → ⊥) × (h.kept a ≡ Some z))
    set_before a z at = elim (cases_eq a d) [
      | inl q ↦ inl (q, (let is = step.is in let here = ap h'.kept q in cc))
      | inr n ↦ inr (n, sym (step.others a n) ∙ at)
    ]

    set_was : (a : ℕ) (z : Stored) → h'.kept a ≡ Some z → (u : Stored) × (h.kept a ≡ Some u) × (u.name ≡ z.name)
    set_was a z at = elim (set_before a z at) [
      | inl q ↦ (x, ap h.kept q.0 ∙ step.was, sym step.name ∙ ap (λ (k : Stored). k.name) (sym q.1))
      | inr q ↦ (z, q.1, refl)
    ]

    set_object : (a : ℕ) (z : Stored) → h'.kept a ≡ Some z → IsObjectShown (with_changed g x.name p) h' z
    set_object a z at = elim (set_before a z at) [
      | inl q ↦ subst (IsObjectShown (with_changed g x.name p) h') (sym q.1) (record {
        object = p;
        named = ap (object_named (with_changed g x.name p)) step.name ∙ changed_here g x.name o p named;
        values = values;
        pointers = AllZip_map (IsShown h) (IsShown h') set_same y.pointers p.pointers pointers;
        weaks = AllZip_map (IsShown h) (IsShown h') set_same y.weaks p.weaks weaks;
        held = AllZip_map (IsShown h) (IsShown h') set_same y.held p.held held;
        keyed = keyed;
      })
      | inr q ↦
          let t = shows.objects a z q.1 in
          shown_as g (with_changed g x.name p) h h' z set_same t
          (changed_other g x.name z.name o p t.object named (λ e. q.0 (shows.distinct a d z x q.1 step.was e)) t.named)
    ]

    pub object_set_shows : Shows (with_changed g x.name p) h'
    object_set_shows = record {
      roots = subst (λ ws. AllZip (IsShown h') ws g.roots) (sym step.roots)
          (AllZip_map (IsShown h) (IsShown h') set_same h.roots g.roots shows.roots);
      distinct = λ a b u z ea eb e.
          let (u', eu, nu) = set_was a u ea in
          let (z', ez, nz) = set_was b z eb in
          shows.distinct a b u' z' eu ez (nu ∙ e ∙ sym nz);
      objects = set_object;
    }

  module _ (a : ℕ) (x : Stored) (o : Object) (place : ℕ) (step : ObjectAdded h h' a x place) (name : x.name ≡ next_name g)
      (pointers : AllZip (IsShown h) x.pointers o.pointers) (weaks : AllZip (IsShown h) x.weaks o.weaks)
      (held : AllZip (IsShown h) x.held o.held) (values : x.values ≡ o.values) where
    added_same : (w v : Option ℕ) → IsShown h w v → IsShown h' w v
    added_same = shown_in h h' (λ b z at. (z, added_kept h h' a x place step b z at, refl))

    below : (b : ℕ) (z : Stored) → h.kept b ≡ Some z → z.name < next_name g
    below b z at = let t = shows.objects b z at in named_below g z.name t.object t.named

    added_object : (b : ℕ) (z : Stored) → h'.kept b ≡ Some z → IsObjectShown (with_object g o place) h' z
    added_object b z at = elim (added_before h h' a x place step b z at) [
      | inl q ↦ subst (IsObjectShown (with_object g o place) h') (sym q.1) (record {
        object = o;
        named = ap (object_named (with_object g o place)) name ∙ added_here g o place;
        values = values;
        pointers = AllZip_map (IsShown h) (IsShown h') added_same x.pointers o.pointers pointers;
        weaks = AllZip_map (IsShown h) (IsShown h') added_same x.weaks o.weaks weaks;
        held = AllZip_map (IsShown h) (IsShown h') added_same x.held o.held held;
        keyed = held_by_bare x.weaks x.held step.bare;
      })
      | inr was ↦
          let t = shows.objects b z was in
          shown_as g (with_object g o place) h h' z added_same t (added_other g o t.object place z.name t.named)
    ]

    added_distinct : (b c : ℕ) (u z : Stored) → h'.kept b ≡ Some u → h'.kept c ≡ Some z → u.name ≡ z.name → b ≡ c
    added_distinct b c u z eb ec e =
        elim (added_before h h' a x place step b u eb) [
          | inl q ↦ elim (added_before h h' a x place step c z ec) [
            | inl r ↦ q.0 ∙ sym r.0
            | inr was ↦ let k = below c z was in let here = ap (λ (k : Stored). k.name) q.1 in absurd (omega arith)
          ]
          | inr was ↦ elim (added_before h h' a x place step c z ec) [
            | inl r ↦ let k = below b u was in let here = ap (λ (k : Stored). k.name) r.1 in absurd (omega arith)
            | inr was' ↦ shows.distinct b c u z was was' e
          ]
        ]

    pub object_added_shows : Shows (with_object g o place) h'
    object_added_shows = record {
      roots = subst (λ ws. AllZip (IsShown h') ws (slice_set g.roots place (Some (next_name g)))) (sym step.roots)
          (AllZip-set (IsShown h') h.roots g.roots (AllZip_map (IsShown h) (IsShown h') added_same h.roots g.roots shows.roots) place
          (Some a) (Some (next_name g)) (x, step.is, name));
      distinct = added_distinct;
      objects = added_object;
    }

  pub same_shows : SameHeap h h' → Shows g h'
  same_shows same =
      let in' = shown_in h h' (λ a x at. (x, same.kept a ∙ at, refl)) in
      record {
        roots = subst (λ ws. AllZip (IsShown h') ws g.roots) (sym same.roots)
            (AllZip_map (IsShown h) (IsShown h') in' h.roots g.roots shows.roots);
        distinct = λ a b x y ea eb e. shows.distinct a b x y (sym (same.kept a) ∙ ea) (sym (same.kept b) ∙ eb) e;
        objects = λ a x e.
            let o = shows.objects a x (sym (same.kept a) ∙ e) in shown_as g g h h' x in' o o.named;
      }

  -- what is read of the heap is what the graph has
  pub root_read : (j : ℕ) (w : Option ℕ) → slice_get h.roots j ≡ Some w → (v : Option ℕ) × (slice_get g.roots j ≡ Some v) × IsShown h w v
  root_read j w e = AllZip-get (IsShown h) h.roots g.roots shows.roots j w e

  pub pointer_read : (a i : ℕ) (x : Stored) (w : Option ℕ) → h.kept a ≡ Some x → slice_get x.pointers i ≡ Some w
      → (o : Object) × (object_named g x.name ≡ Some o) × (v : Option ℕ) × (slice_get o.pointers i ≡ Some v) × IsShown h w v
  pointer_read a i x w at e = let t = shows.objects a x at in
      let (v, is, s) = AllZip-get (IsShown h) x.pointers t.object.pointers t.pointers i w e in (t.object, t.named, v, is, s)

  pub weak_read : (a i : ℕ) (x : Stored) (w : Option ℕ) → h.kept a ≡ Some x → slice_get x.weaks i ≡ Some w
      → (o : Object) × (object_named g x.name ≡ Some o) × (v : Option ℕ) × (slice_get o.weaks i ≡ Some v) × IsShown h w v
  weak_read a i x w at e = let t = shows.objects a x at in let (v, is, s) = AllZip-get (IsShown h) x.weaks t.object.weaks t.weaks i w e in
      (t.object, t.named, v, is, s)

  pub held_read : (a i : ℕ) (x : Stored) (w : Option ℕ) → h.kept a ≡ Some x → slice_get x.held i ≡ Some w
      → (o : Object) × (object_named g x.name ≡ Some o) × (v : Option ℕ) × (slice_get o.held i ≡ Some v) × IsShown h w v
  held_read a i x w at e = let t = shows.objects a x at in let (v, is, s) = AllZip-get (IsShown h) x.held t.object.held t.held i w e in
      (t.object, t.named, v, is, s)

  pub word_read : (a : ℕ) (x : Stored) → h.kept a ≡ Some x → (o : Object) × (object_named g x.name ≡ Some o) × (x.values ≡ o.values)
  word_read a x at = let t = shows.objects a x at in (t.object, t.named, t.values)
