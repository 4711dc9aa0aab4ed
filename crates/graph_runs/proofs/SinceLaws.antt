-- What is since the snapshot stays so at each step: all that a mutator can come by was reachable in the snapshot from a root or a
-- touched name, or is newer.
use Rattle.std.proofs.Common.{◌≡◌, ◌+◌, ◌-◌, ◌<◌, ◌≤◌, ◌∷◌, ◌∙◌}
use Rattle.std.proofs.Common.{ℕ, zero, suc, List, [], Option, Some, None, refl, sym, ap, subst, inl, inr, arith}
use Rattle.std.specs.Prelude.{slice_get, slice_set}
use Rattle.std.proofs.lemmas.Bool.{cases_lt, cases_eq}
use Rattle.std.proofs.lemmas.Option.{slice_get_within}
use Rattle.heap_model.specs.Graph.{Graph, Object, object_named, next_name, HasPair, IsReachable, FromRoot, FromObject, FromHeld, IsSound}
use Rattle.heap_model.specs.Graph.{with_root}
use Rattle.heap_model.specs.Graph.{with_object, with_changed}
use Rattle.heap_model.specs.Weak.{touched, KeepsUnreached, IsClearedSlot, ClearsObject, Clears}
use Rattle.heap_model.proofs.Lists.{AllZip-get_right, get-set_cases, get-set_other, get-push_cases}
use Rattle.heap_model.proofs.Cleared.{reach_back}
use Rattle.heap_model.proofs.Changed.{named_at, at_least}
use Rattle.heap_model.proofs.Unreached.{touched_cases, touched_next, touched_named, touched_reaches, touched_reached}
use Rattle.graph_runs.specs.State.{State, register_place, with_nil_roots, root_at, AtRoot, AtField, HoldsNames, HaveNoPairs, IsEarlier}
use Rattle.graph_runs.specs.State.{ForSnapshot}
use Rattle.graph_runs.specs.State.{IsSoundState}
use Rattle.graph_runs.specs.Since.{IsKnown, IsSince, IsSinceState}
use Rattle.graph_runs.specs.Sparing.{HoldsKnown}
use Rattle.graph_runs.specs.Machine.{Outcome, on_object, on_field, stored, made, act, outcome_of}
use Rattle.graph_runs.specs.Run.{snapshot_after, Happens, IsRun}
use Rattle.heap_steps.specs.declared.step.Action.{Action}
use Rattle.heap_steps.specs.declared.step.Action.TheVariants as actions
use Rattle.heap_steps.specs.declared.step.Op.{Op}
use Rattle.heap_steps.specs.declared.step.Counts.{Counts}
use Rattle.heap_steps.specs.declared.step.Register.{Register}
use Rattle.heap_steps.specs.declared.step.Step.{Step}
use Rattle.heap_steps.specs.declared.step.Step.TheVariants as steps
use Rattle.heap_steps.specs.declared.step.Event.{Event}
use Rattle.heap_steps.specs.declared.step.Reply.{Reply}
use Rattle.graph_runs.proofs.MachineLaws.{made_law, object_law, field_law}
use Rattle.graph_runs.proofs.Sound.{root_read, nils, after_law, happens_sound, no_pairs_added, no_pairs_changed}
use Rattle.graph_runs.proofs.Collected.{kind}

-- an object's place and its name
pub named_place : (g : Graph) (p : ℕ) (x : Object) → slice_get g.objects p ≡ Some x → object_named g (g.first_name + p) ≡ Some x
named_place g p x at =
    let low : g.first_name ≤ g.first_name + p = omega arith in
    let same : g.first_name + p - g.first_name ≡ p = omega arith in
    named_at g (g.first_name + p) low ∙ ap (slice_get g.objects) same ∙ at

pub place_named : (g : Graph) (n : ℕ) (x : Object) → object_named g n ≡ Some x → slice_get g.objects (n - g.first_name) ≡ Some x
place_named g n x named = sym (named_at g n (at_least g n x named)) ∙ named

touched_objects : (s : Graph) (v : Option ℕ) → (touched s v).objects ≡ s.objects
touched_objects s None = refl
touched_objects s (Some n) = elim (touched_cases s n) [
  | inl c ↦ ap (λ (t : Graph). t.objects) c.0
  | inr c ↦ ap (λ (t : Graph). t.objects) c.0
]

pub known_on : (s : Graph) (v : Option ℕ) (n : ℕ) → IsKnown s n → IsKnown (touched s v) n
known_on s v n (inl r) = inl (touched_reaches s v n r)
known_on s v n (inr k) = inr (let e = touched_next s v in omega arith)

-- values that are nil or known
abbrev KnownValue : Graph → Option ℕ → Type 0
KnownValue s v = (n : ℕ) → v ≡ Some n → IsKnown s n

abbrev KnownFields : Graph → List (Option ℕ) → Type 0
KnownFields s vs = (i n : ℕ) → slice_get vs i ≡ Some (Some n) → IsKnown s n

touched_known : (s : Graph) (v : Option ℕ) → KnownValue (touched s v) v
touched_known s None n e = cc
touched_known s (Some m) n e =
    let same : m ≡ n = cc in
    subst (IsKnown (touched s (Some m))) same
    (elim (cases_lt m (next_name s)) [
      | inl l ↦ inl (touched_reached s m l)
      | inr l ↦ inr (let q = touched_next s (Some m) in omega arith)
    ])

set_known : (s : Graph) (vs : List (Option ℕ)) (i : ℕ) (v : Option ℕ) → KnownFields s vs → KnownValue s v → KnownFields s (slice_set vs i v)
set_known s vs i v each value j n e = elim (get-set_cases vs i j v (Some n) e) [ inl q ↦ value n (sym q) | inr q ↦ each j n q ]

-- each change of the graph
pub since_begins : (g : Graph) → HaveNoPairs g → IsSince g g
since_begins g none = record {
  pairs = none;
  roots = λ j n e. inl (FromRoot j n e);
  pointers = λ p i n x at known e. elim known [
    | inl r ↦ inl (FromObject (g.first_name + p) n i x r (named_place g p x at) e)
    | inr l ↦ absurd (let inside = slice_get_within g.objects p x at in omega arith)
  ];
  unreached = λ p x at old. inr (x, at, refl);
}

since_root : (s g : Graph) (j : ℕ) (v : Option ℕ) → IsSince s g → KnownValue s v → IsSince s (with_root g j v)
since_root s g j v k value = record {
  roots = set_known s g.roots j v k.roots value;
  pointers = k.pointers;
  unreached = k.unreached;
  pairs = k.pairs;
}

since_nils : (s g : Graph) (first count : ℕ) → IsSince s g → IsSince s (with_nil_roots g first count)
since_nils s g first zero k = k
since_nils s g first (suc count) k = since_root s (with_nil_roots g first count) (first + count) None (since_nils s g first count k)
    (λ n e. cc)

since_object : (s g : Graph) (x : Object) (j : ℕ) → IsSince s g → next_name s ≤ next_name g
    → ((i n : ℕ) → slice_get x.pointers i ≡ Some (Some n) → ⊥) → x.held ≡ [] → IsSince s (with_object g x j)
since_object s g x j k later nil bare = record {
  pairs = no_pairs_added g x j k.pairs bare;
  roots = set_known s g.roots j (Some (next_name g)) k.roots (λ n e. inr (let same : next_name g ≡ n = cc in omega arith));
  pointers = λ p i n y at known e. elim (get-push_cases g.objects x y p at) [
    | inl q ↦ k.pointers p i n y q known e
    | inr q ↦ absurd (nil i n (subst (λ (z : Object). slice_get z.pointers i ≡ Some (Some n)) q.1 e))
  ];
  unreached = λ p y at old. elim (get-push_cases g.objects x y p at) [
    | inl q ↦ k.unreached p y q old
    | inr q ↦ absurd (let last = q.0 in omega arith)
  ];
}

since_changed : (s g : Graph) (n : ℕ) (y : Object) → IsSince s g → IsKnown s n → g.first_name ≤ n → KnownFields s y.pointers
    → y.held ≡ [] → IsSince s (with_changed g n y)
since_changed s g n y k known low each bare = record {
  pairs = no_pairs_changed g n y k.pairs bare;
  roots = k.roots;
  pointers = λ p i m z at there e. elim (get-set_cases g.objects (n - g.first_name) p y z at) [
    | inl q ↦ each i m (subst (λ (z : Object). slice_get z.pointers i ≡ Some (Some m)) q e)
    | inr q ↦ k.pointers p i m z q there e
  ];
  unreached = λ p z at old. elim (cases_eq p (n - g.first_name)) [
    | inl q ↦ (let same : n ≡ g.first_name + p = omega arith in
        elim (subst (IsKnown s) same known) [ inl r ↦ inl r | inr l ↦ absurd (omega arith) ])
    | inr ne ↦ k.unreached p z (sym (get-set_other g.objects (n - g.first_name) p y (λ e. ne (sym e))) ∙ at) old
  ];
}

since_touched : (s g : Graph) (v : Option ℕ) → IsSince s g → s.first_name ≡ g.first_name → IsSince (touched s v) g
since_touched s g v k first = record {
  pairs = k.pairs;
  roots = λ j n e. known_on s v n (k.roots j n e);
  pointers = λ p i n x at known e. elim known [
    | inl r ↦ elim (cases_lt (g.first_name + p) (next_name s)) [
      | inl old ↦ elim (k.unreached p x at old) [
        | inl was ↦ known_on s v n (k.pointers p i n x at (inl was) e)
        | inr same ↦ inl (FromObject (g.first_name + p) n i same.0 r (named p same.0 same.1)
            (ap (λ (l : List (Option ℕ)). slice_get l i) (sym same.2) ∙ e))
      ]
      | inr new ↦ known_on s v n (k.pointers p i n x at (inr new) e)
    ]
    | inr l ↦ known_on s v n (k.pointers p i n x at (inr (let q = touched_next s v in omega arith)) e)
  ];
  unreached = λ p x at old. elim (k.unreached p x at (let q = touched_next s v in omega arith)) [
    | inl r ↦ inl (touched_reaches s v (g.first_name + p) r)
    | inr same ↦ inr (same.0, ap (λ (l : List Object). slice_get l p) (touched_objects s v) ∙ same.1, same.2)
  ];
}
  where
    named : (p : ℕ) (x : Object) → slice_get s.objects p ≡ Some x → object_named (touched s v) (g.first_name + p) ≡ Some x
    named p x at = touched_named s v (g.first_name + p) ∙ ap (λ (m : ℕ). object_named s (m + p)) (sym first) ∙ named_place s p x at

-- slots of the new graph
slots_object : (s g : Graph) (x : Object) (j : ℕ) → HoldsKnown s g → ((i n : ℕ) → slice_get x.weaks i ≡ Some (Some n) → ⊥)
    → HoldsKnown s (with_object g x j)
slots_object s g x j slots nil p i n y at e = elim (get-push_cases g.objects x y p at) [
  | inl q ↦ slots p i n y q e
  | inr q ↦ absurd (nil i n (subst (λ (z : Object). slice_get z.weaks i ≡ Some (Some n)) q.1 e))
]

slots_changed : (s g : Graph) (m : ℕ) (y : Object) → HoldsKnown s g → KnownFields s y.weaks → HoldsKnown s (with_changed g m y)
slots_changed s g m y slots each p i n z at e = elim (get-set_cases g.objects (m - g.first_name) p y z at) [
  | inl q ↦ each i n (subst (λ (z : Object). slice_get z.weaks i ≡ Some (Some n)) q e)
  | inr q ↦ slots p i n z q e
]

module _ (s g : Graph) (k : IsSince s g) (holds : HoldsNames g) (earlier : IsEarlier s g) where
  root_known : (j : ℕ) → KnownValue s (root_at g j)
  root_known j n e = k.roots j n (root_read g.roots j n e)

  stored_known : (m : ℕ) (v : Option Register) → KnownValue s (stored g m v)
  stored_known m None n e = cc
  stored_known m (Some r) n e = root_known (register_place g.places m r.number) n e

  low : (j n : ℕ) → root_at g j ≡ Some n → g.first_name ≤ n
  low j n e = (holds n (AtRoot j (root_read g.roots j n e))).0

  pointers_known : (j n : ℕ) (x : Object) → root_at g j ≡ Some n → slice_get g.objects (n - g.first_name) ≡ Some x
      → KnownFields s x.pointers
  pointers_known j n x is at i m e =
      let least = low j n is in
      let back : n ≡ g.first_name + (n - g.first_name) = omega arith in
      k.pointers (n - g.first_name) i m x at (subst (IsKnown s) back (root_known j n is)) e

  changed_since : (j n : ℕ) (y : Object) → root_at g j ≡ Some n → KnownFields s y.pointers → y.held ≡ []
      → IsSince s (with_changed g n y)
  changed_since j n y is each bare = since_changed s g n y k (root_known j n is) (low j n is) each bare

  abbrev Since : Outcome → Type 0
  Since out = IsSince s out.1

  made_since : (m : ℕ) (to : Register) (counts : Counts) (weaks : ℕ) → Since (made g m to counts weaks)
  made_since m to counts weaks = made_law Since g m to counts weaks k k
      (since_object s g _ (register_place g.places m to.number) k earlier.next_name (λ i n e. nils counts.pointers i n e) refl)

  -- the outcome of an action: it is since the snapshot that the action leaves
  abbrev SinceAfter : Action → Outcome → Type 0
  SinceAfter a out = ForSnapshot (snapshot_after (Some s) a out.0) (λ t. IsSince t out.1)

  act_since : (m : ℕ) (a : Action) → SinceAfter a (act g m a)
  act_since m (actions.New to counts) = made_since m to counts 0
  act_since m (actions.Get to object i) = field_law Since g m object (λ x. slice_get x.pointers i) _ k k
      (λ n x v is at e. since_root s g (register_place g.places m to.number) v k
      (λ u q. pointers_known (register_place g.places m object.number) n x is at i u (e ∙ ap Some q)))
  act_since m (actions.Put object i value) = field_law Since g m object (λ x. slice_get x.pointers i) _ k k
      (λ n x v is at e. changed_since (register_place g.places m object.number) n _ is
      (set_known s x.pointers i (stored g m value) (pointers_known (register_place g.places m object.number) n x is at)
      (stored_known m value)) (k.pairs (n - g.first_name) x at))
  act_since m (actions.Read object i) = field_law Since g m object (λ x. slice_get x.values i) _ k k (λ n x v is at e. k)
  act_since m (actions.Write object i value) = field_law Since g m object (λ x. slice_get x.values i) _ k k
      (λ n x v is at e. changed_since (register_place g.places m object.number) n _ is
      (pointers_known (register_place g.places m object.number) n x is at) (k.pairs (n - g.first_name) x at))
  act_since m (actions.Move to from) = since_root s g (register_place g.places m to.number)
      (root_at g (register_place g.places m from.number)) k (root_known (register_place g.places m from.number))
  act_since m (actions.Drop register) = since_root s g (register_place g.places m register.number) None k (λ n e. cc)
  act_since m (actions.Load to from) = since_root s g (register_place g.places m to.number) (root_at g from.number) k
      (root_known from.number)
  act_since m (actions.Save to from) = since_root s g to.number (root_at g (register_place g.places m from.number)) k
      (root_known (register_place g.places m from.number))
  act_since m (actions.Shape object) = object_law Since g m object _ k (λ n x is at. k)
  act_since m (actions.NewWeak to counts weaks) = made_since m to counts weaks
  act_since m (actions.GetWeak to object i) =
      field_law (SinceAfter (actions.GetWeak to object i)) g m object (λ x. slice_get x.weaks i) _ k k
      (λ n x v is at e. since_root (touched s v) g (register_place g.places m to.number) v (since_touched s g v k earlier.first_name)
      (touched_known s v))
  act_since m (actions.PutWeak object i value) = field_law Since g m object (λ x. slice_get x.weaks i) _ k k
      (λ n x v is at e. changed_since (register_place g.places m object.number) n _ is
      (pointers_known (register_place g.places m object.number) n x is at) (k.pairs (n - g.first_name) x at))
  act_since m (actions.Scope from) = since_nils s g (register_place g.places m from.number) (g.places.registers - from.number) k
  act_since m (actions.Weaks object) = object_law Since g m object _ k (λ n x is at. k)

  -- weak slots that hold known names alone still do
  module _ (slots : HoldsKnown s g) where
    abbrev Slots : Outcome → Type 0
    Slots out = HoldsKnown s out.1

    made_slots : (m : ℕ) (to : Register) (counts : Counts) (weaks : ℕ) → Slots (made g m to counts weaks)
    made_slots m to counts weaks = made_law Slots g m to counts weaks slots slots
        (slots_object s g _ (register_place g.places m to.number) slots (λ i n e. nils weaks i n e))

    field_slots : {X : Type 0} (m : ℕ) (r : Register) (read : Object → Option X) (f : ℕ → Object → X → Outcome)
        → ((n : ℕ) (x : Object) (v : X) → KnownFields s x.weaks → Slots (f n x v))
        → Slots (on_object g m r (λ n x. on_field g (read x) (f n x)))
    field_slots m r read f each = field_law Slots g m r read f slots slots
        (λ n x v is at e. each n x v (λ i u q. slots (n - g.first_name) i u x at q))

    act_slots : (m : ℕ) (a : Action) → Slots (act g m a)
    act_slots m (actions.New to counts) = made_slots m to counts 0
    act_slots m (actions.Get to object i) = field_slots m object (λ x. slice_get x.pointers i) _ (λ n x v weaks. slots)
    act_slots m (actions.Put object i value) =
        field_slots m object (λ x. slice_get x.pointers i) _ (λ n x v weaks. slots_changed s g n _ slots weaks)
    act_slots m (actions.Read object i) = field_slots m object (λ x. slice_get x.values i) _ (λ n x v weaks. slots)
    act_slots m (actions.Write object i value) =
        field_slots m object (λ x. slice_get x.values i) _ (λ n x v weaks. slots_changed s g n _ slots weaks)
    act_slots m (actions.Shape object) = object_law Slots g m object _ slots (λ n x is at. slots)
    act_slots m (actions.NewWeak to counts weaks) = made_slots m to counts weaks
    act_slots m (actions.GetWeak to object i) = field_slots m object (λ x. slice_get x.weaks i) _ (λ n x v weaks. slots)
    act_slots m (actions.PutWeak object i value) = field_slots m object (λ x. slice_get x.weaks i) _ (λ n x v weaks.
        slots_changed s g n _ slots (set_known s x.weaks i (stored g m value) weaks (stored_known m value)))
    act_slots m (actions.Weaks object) = object_law Slots g m object _ slots (λ n x is at. slots)
    act_slots m _ = slots

slots_on : (s g : Graph) (v : Option ℕ) → HoldsKnown s g → HoldsKnown (touched s v) g
slots_on s g v slots p i n x at e = known_on s v n (slots p i n x at e)

-- a mutator's step, with the snapshot that it leaves
pub op_since : (sn : Option Graph) (g g' : Graph) (o : Op) (r : Reply) → HoldsNames g → ForSnapshot sn (λ s. IsEarlier s g)
    → ForSnapshot sn (λ s. IsSince s g)
    → (r, g') ≡ outcome_of g o → ForSnapshot (snapshot_after sn o.action r) (λ s. IsSince s g')
op_since None g g' o r holds earlier k is = tt
op_since (Some s) g g' o r holds earlier k is =
    subst (λ (out : Outcome). ForSnapshot (snapshot_after (Some s) o.action out.0) (λ t. IsSince t out.1)) (sym is)
    (act_since s g k holds earlier o.mutator o.action)

pub op_slots : (s g g' : Graph) (o : Op) (r : Reply) → HoldsNames g → IsEarlier s g → IsSince s g → HoldsKnown s g
    → (r, g') ≡ outcome_of g o → ForSnapshot (snapshot_after (Some s) o.action r) (λ t. HoldsKnown t g')
op_slots s g g' o r holds earlier k slots is =
    let there : HoldsKnown s g' = subst (λ (out : Outcome). HoldsKnown s out.1) (sym is)
    (act_slots s g k holds earlier slots o.mutator o.action) in
    after_law (λ t. HoldsKnown t g') s o.action r there (λ v e. slots_on s g' v there)

-- a graph without pairs has none
pub no_pair : (g : Graph) → HaveNoPairs g → (m i k n : ℕ) → HasPair g m i k n → ⊥
no_pair g none m i k n p =
    let bare = none (m - g.first_name) p.object (place_named g m p.object p.named) in
    nowhere p.object.held bare p.pair.1
  where
    nowhere : (vs : List (Option ℕ)) → vs ≡ [] → slice_get vs i ≡ Some (Some n) → ⊥
    nowhere [] e at = cc
    nowhere (v ∷ vs) e at = cc

-- what is reachable now is known
pub reaches_known : (s g : Graph) → IsSince s g → (n : ℕ) → IsReachable g n → IsKnown s n
reaches_known s g k n (FromRoot j a e) = k.roots j a e
reaches_known s g k n (FromObject m a i x r named e) =
    let least = at_least g m x named in
    let back : m ≡ g.first_name + (m - g.first_name) = omega arith in
    k.pointers (m - g.first_name) i a x (place_named g m x named) (subst (IsKnown s) back (reaches_known s g k m r)) e
reaches_known s g k n (FromHeld m l a i p r key) = absurd (no_pair g k.pairs m i l a p)

-- so a name that marking's end takes from a weak slot isn't reachable
slot_gone : (s : Graph) (v w : Option ℕ) (n : ℕ) → IsClearedSlot s v w → v ≡ Some n → w ≡ None → (n < next_name s) × (IsReachable s n → ⊥)
slot_gone s None w n c e f = cc
slot_gone s (Some m) (Some l) n c e f = cc
slot_gone s (Some m) None n c e f = let same : m ≡ n = cc in subst (λ (l : ℕ). (l < next_name s) × (IsReachable s l → ⊥)) same c

pub cleared_unreached : (s g h : Graph) → IsSince s g → Clears s g h → (k i n : ℕ) (x y : Object) → slice_get g.objects k ≡ Some x
    → slice_get h.objects k ≡ Some y
    → slice_get x.weaks i ≡ Some (Some n) → slice_get y.weaks i ≡ Some None → IsReachable h n → ⊥
cleared_unreached s g h since clears k i n x y at now held gone r =
    let (x', is, z) = AllZip-get_right (ClearsObject s) g.objects h.objects clears.objects k y now in
    let same : x' ≡ x = cc in
    let (v, was, slot) = AllZip-get_right (IsClearedSlot s) x'.weaks y.weaks z.weaks i None gone in
    let before : slice_get x.weaks i ≡ Some v = subst (λ (o : Object). slice_get o.weaks i ≡ Some v) same was in
    let named : v ≡ Some n = cc in
    let out = slot_gone s v None n slot named refl in
    elim (reaches_known s g since n (reach_back s g h clears n r)) [
      | inl q ↦ out.1 q
      | inr q ↦ (let below = out.0 in omega arith)
    ]

-- names that objects bear are below the next one
pub holds_sound : (g : Graph) → HoldsNames g → IsSound g
holds_sound g holds = record {
  roots = λ j n e. (holds n (AtRoot j e)).1;
  fields = λ m i n x named e. (holds n (AtField (m - g.first_name) i x (place_named g m x named) e)).1;
}

pub since_unreached : (s g : Graph) → IsEarlier s g → IsSince s g → KeepsUnreached s g
since_unreached s g earlier k = record {
  sound = holds_sound s earlier.holds;
  pairs = record {
    went = λ n i l b p. absurd (no_pair s earlier.pairs n i l b p);
    came = λ n i l b p. absurd (no_pair g k.pairs n i l b p);
  };
  each = λ n x named old.
      let least = at_least g n x named in
      let back : g.first_name + (n - g.first_name) ≡ n = omega arith in
      elim (k.unreached (n - g.first_name) x (place_named g n x named) (omega arith)) [
        | inl r ↦ inl (subst (IsReachable s) back r)
        | inr same ↦ inr (same.0, named_then n same.0 least same.1, same.2)
      ];
}
  where
    named_then : (n : ℕ) (p : Object) → g.first_name ≤ n → slice_get s.objects (n - g.first_name) ≡ Some p → object_named s n ≡ Some p
    named_then n p least at =
        let first = earlier.first_name in
        named_at s n (omega arith) ∙ ap (λ (m : ℕ). slice_get s.objects (n - m)) first ∙ at

-- a step keeps it
pub happens_since : (old new : State) (k : Step) (r : Reply) → IsSoundState old → IsSinceState old → Happens old k r new → IsSinceState new
happens_since old new (steps.Mutator o) r sound since (inl h) =
    subst (λ (sn : Option Graph). ForSnapshot sn (λ s. IsSince s new.graph)) (sym h.1)
    (op_since old.snapshot old.graph new.graph o r sound.graph sound.snapshot since h.0)
happens_since old new (steps.Mutator o) r sound since (inr h) = subst IsSinceState (sym h.2) since
happens_since old new (steps.Collector c) r sound since h = elim (kind c r) [
  | inl t ↦ subst IsSinceState (sym ((t.0 old new).0 h.1)) (since_begins old.graph sound.pairs)
  | inr u ↦ elim u [
    | inl g ↦ subst (λ (o : Option Graph). ForSnapshot o (λ s. IsSince s new.graph)) (sym ((g.0 old new).0 h.1).0) tt
    | inr n ↦ subst IsSinceState (sym ((n.0 old new).0 h.1)) since
  ]
]

pub run_since : (es : List Event) (first last : State) → IsSoundState first → IsSinceState first → IsRun first es last → IsSinceState last
run_since [] first last sound since run = subst IsSinceState (sym run) since
run_since (e ∷ es) first last sound since run =
    run_since es run.0 last (happens_sound first run.0 e.step e.reply sound run.1)
    (happens_since first run.0 e.step e.reply sound since run.1) run.2
