-- Every name that is in a state's graphs is an object's: at the beginning, and after each event.
use Rattle.std.proofs.Common.{◌≡◌, ◌+◌, ◌-◌, ◌<◌, ◌≤◌, ◌∷◌, ◌++◌, ◌∙◌}
use Rattle.std.proofs.Common.{ℕ, zero, suc, List, [], length, Option, Some, None, refl, sym, ap, subst, inl, inr, arith}
use Rattle.std.specs.Prelude.{slice_get, slice_set, slice_index_or, replicate}
use Rattle.heap_words.specs.declared.config.Config.{Config}
use Rattle.heap_model.specs.Graph.{Graph, Object, next_name, object_fields, held_by, with_root, with_object, with_changed}
use Rattle.heap_model.specs.Weak.{touched, IsClearedSlot, ClearsObject, Clears}
use Rattle.heap_model.proofs.Lists.{AllZip-get_right, AllZip_length, get-set_cases, get-append_cases, get-append_left, get-append_right}
use Rattle.heap_model.proofs.Lists.{get-push_cases, length-set, length-push}
use Rattle.heap_model.proofs.Unreached.{touched_cases, weak_field, held_field, field_cases}
use Rattle.heap_model.proofs.Cleared.{slot_was}
use Rattle.heap_model.proofs.Held.{held_by_was}
use Rattle.graph_runs.specs.State.{State, root_places, root_counts_of, register_place, with_nil_roots, root_at, Occurs, AtRoot, AtField}
use Rattle.graph_runs.specs.State.{IsNameOf, HoldsNames, HaveNoPairs, IsEarlier, ForSnapshot, IsSoundState, first_graph, first_state}
use Rattle.graph_runs.specs.Machine.{Outcome, refused, on_object, on_field, stored, made, act, outcome_of}
use Rattle.graph_runs.specs.Run.{snapshot_after, ClearsBy, ChangesState, Happens, IsRun}
use Rattle.heap_steps.specs.declared.step.Action.{Action}
use Rattle.heap_steps.specs.declared.step.Action.TheVariants as actions
use Rattle.heap_steps.specs.declared.step.Counts.{Counts}
use Rattle.heap_steps.specs.declared.step.Op.{Op}
use Rattle.heap_steps.specs.declared.step.Register.{Register}
use Rattle.heap_steps.specs.declared.step.CollectorStep.{CollectorStep}
use Rattle.heap_steps.specs.declared.step.Step.{Step}
use Rattle.heap_steps.specs.declared.step.Step.TheVariants as steps
use Rattle.heap_steps.specs.declared.step.Event.{Event}
use Rattle.heap_steps.specs.declared.step.Reply.{Reply}
use Rattle.heap_steps.specs.declared.step.Reply.TheVariants as replies
use Rattle.heap_steps.specs.declared.step.Refusal.{Refusal}
use Rattle.heap_steps.specs.declared.step.Refusal.TheVariants as refusals
use Rattle.graph_runs.proofs.MachineLaws.{made_law, object_law, field_law, outcome_of-places}
use Rattle.graph_runs.proofs.Collected.{kind}

-- a graph with more objects has the names
more_names : (g h : Graph) → h.first_name ≡ g.first_name → next_name g ≤ next_name h → (n : ℕ) → IsNameOf g n → IsNameOf h n
more_names g h f k n name = let a = name.0 in let b = name.1 in ((omega arith), (omega arith))

-- a value is nil or a name of the graph
abbrev IsValue : Graph → Option ℕ → Type 0
IsValue g v = (n : ℕ) → v ≡ Some n → IsNameOf g n

pub root_read : (rs : List (Option ℕ)) (j n : ℕ) → slice_index_or rs j None ≡ Some n → slice_get rs j ≡ Some (Some n)
root_read [] j n e = cc
root_read (r ∷ rs) zero n e = ap Some e
root_read (r ∷ rs) (suc j) n e = root_read rs j n e

root_value : (g : Graph) → HoldsNames g → (j : ℕ) → IsValue g (root_at g j)
root_value g k j n e = k n (AtRoot j (root_read g.roots j n e))

stored_value : (g : Graph) → HoldsNames g → (m : ℕ) (v : Option Register) → IsValue g (stored g m v)
stored_value g k m None n e = cc
stored_value g k m (Some r) n e = root_value g k (register_place g.places m r.number) n e

root_holds : (g : Graph) (j : ℕ) (v : Option ℕ) → HoldsNames g → IsValue g v → HoldsNames (with_root g j v)
root_holds g j v k value n (AtRoot i e) = elim
    (get-set_cases g.roots j i v (Some n) e) [ inl q ↦ value n (sym q) | inr q ↦ k n (AtRoot i q) ]
root_holds g j v k value n (AtField p i x at e) = k n (AtField p i x at e)

nil_roots_hold : (g : Graph) (first count : ℕ) → HoldsNames g → HoldsNames (with_nil_roots g first count)
nil_roots_hold g first zero k = k
nil_roots_hold g first (suc count) k = root_holds (with_nil_roots g first count) (first + count) None (nil_roots_hold g first count k)
    (λ n e. cc)

-- fields that hold names of the graph
abbrev AreValues : Graph → List (Option ℕ) → Type 0
AreValues g vs = (i n : ℕ) → slice_get vs i ≡ Some (Some n) → IsNameOf g n

object_holds : (g : Graph) (x : Object) (j : ℕ) → HoldsNames g → ((i n : ℕ) → slice_get (object_fields x) i ≡ Some (Some n) → ⊥)
    → HoldsNames (with_object g x j)
object_holds g x j k nil n o = by_place n o
  where
    more : next_name (with_object g x j) ≡ suc (next_name g)
    more = let e = length-push g.objects x in omega arith

    on : (n : ℕ) → IsNameOf g n → IsNameOf (with_object g x j) n
    on n name = more_names g (with_object g x j) refl (let e = more in omega arith) n name

    by_place : (n : ℕ) → Occurs (with_object g x j) n → IsNameOf (with_object g x j) n
    by_place n (AtRoot i e) = elim (get-set_cases g.roots j i (Some (next_name g)) (Some n) e) [
      | inl q ↦ (let same : n ≡ next_name g = cc in let e1 = more in ((omega arith), (omega arith)))
      | inr q ↦ on n (k n (AtRoot i q))
    ]
    by_place n (AtField p i y at e) = elim (get-push_cases g.objects x y p at) [
      | inl q ↦ on n (k n (AtField p i y q e))
      | inr q ↦ absurd (nil i n (subst (λ (z : Object). slice_get (object_fields z) i ≡ Some (Some n)) q.1 e))
    ]

changed_holds : (g : Graph) (name : ℕ) (y : Object) → HoldsNames g → AreValues g (object_fields y) → HoldsNames (with_changed g name y)
changed_holds g name y k each n o = more_names g (with_changed g name y) refl
    (let e = length-set g.objects (name - g.first_name) y in omega arith) n (by_place n o)
  where
    by_place : (n : ℕ) → Occurs (with_changed g name y) n → IsNameOf g n
    by_place n (AtRoot i e) = k n (AtRoot i e)
    by_place n (AtField p i z at e) = elim (get-set_cases g.objects (name - g.first_name) p y z at) [
      | inl q ↦ each i n (subst (λ (z : Object). slice_get (object_fields z) i ≡ Some (Some n)) q e)
      | inr q ↦ k n (AtField p i z q e)
    ]

cleared_holds : (s g g' : Graph) → Clears s g g' → HoldsNames g → HoldsNames g'
cleared_holds s g g' c k n o =
    let e1 = AllZip_length (ClearsObject s) g.objects g'.objects c.objects in let e2 = c.first_name in
    more_names g g' c.first_name (omega arith) n (by_place o)
  where
    by_place : Occurs g' n → IsNameOf g n
    by_place (AtRoot i e) = k n (AtRoot i (ap (λ r. slice_get r i) (sym c.roots) ∙ e))
    by_place (AtField p i y at e) =
        let (x, is, z) = AllZip-get_right (ClearsObject s) g.objects g'.objects c.objects p y at in
        elim (field_cases y i n e) [
          | inl q ↦ k n (AtField p i x is (get-append_left x.pointers (x.weaks ++ x.held) i (Some n)
              (ap (λ l. slice_get l i) (sym z.pointers) ∙ q)))
          | inr b ↦ elim b [
            | inl q ↦
                let (v, was, slot) = AllZip-get_right (IsClearedSlot s) x.weaks y.weaks z.weaks q.0 (Some n) q.1 in
                let (there, holds) = weak_field x q.0 n (was ∙ ap Some (slot_was s v (Some n) n slot refl)) in
                k n (AtField p there x is holds)
            | inr q ↦
                let (there, holds) = held_field x q.0 n (held_by_was y.weaks x.held q.0 n (ap (λ l. slice_get l q.0) (sym z.held) ∙ q.1)) in
                k n (AtField p there x is holds)
          ]
        ]

-- no pairs come
pub no_pairs_changed : (g : Graph) (name : ℕ) (y : Object) → HaveNoPairs g → y.held ≡ [] → HaveNoPairs (with_changed g name y)
no_pairs_changed g name y k none p z at = elim (get-set_cases g.objects (name - g.first_name) p y z at) [
  | inl q ↦ ap (λ (o : Object). o.held) q ∙ none
  | inr q ↦ k p z q
]

pub no_pairs_added : (g : Graph) (y : Object) (j : ℕ) → HaveNoPairs g → y.held ≡ [] → HaveNoPairs (with_object g y j)
no_pairs_added g y j k none p z at = elim (get-push_cases g.objects y z p at) [
  | inl q ↦ k p z q
  | inr q ↦ ap (λ (o : Object). o.held) q.1 ∙ none
]

no_pairs_cleared : (s g g' : Graph) → Clears s g g' → HaveNoPairs g → HaveNoPairs g'
no_pairs_cleared s g g' c k p y at =
    let (x, is, z) = AllZip-get_right (ClearsObject s) g.objects g'.objects c.objects p y at in
    z.held ∙ ap (λ vs. held_by y.weaks vs) (k p x is)

no_pairs_nils : (g : Graph) (first count : ℕ) → HaveNoPairs g → HaveNoPairs (with_nil_roots g first count)
no_pairs_nils g first zero k = k
no_pairs_nils g first (suc count) k = no_pairs_nils g first count k

no_pairs_touched : (s : Graph) (v : Option ℕ) → HaveNoPairs s → HaveNoPairs (touched s v)
no_pairs_touched s None k = k
no_pairs_touched s (Some a) k = elim (touched_cases s a) [
  | inl c ↦ subst HaveNoPairs (sym c.0) k
  | inr c ↦ subst HaveNoPairs (sym c.0) k
]

touched_earlier : (s g : Graph) (v : Option ℕ) → IsEarlier s g → IsValue g v → IsEarlier (touched s v) g
touched_earlier s g None k value = k
touched_earlier s g (Some a) k value = elim (touched_cases s a) [
  | inl c ↦ subst (λ (t : Graph). IsEarlier t g) (sym c.0)
      (record { holds = holds c.1; pairs = k.pairs; first_name = k.first_name; next_name = k.next_name })
  | inr c ↦ subst (λ (t : Graph). IsEarlier t g) (sym c.0) k
]
  where
    first_root : a < next_name s → (j n : ℕ) → slice_get (Some a ∷ s.roots) j ≡ Some (Some n) → IsNameOf s n
    first_root below zero n e = let same : a ≡ n = cc in let low = (value a refl).0 in let f = k.first_name in
        ((omega arith), (omega arith))
    first_root below (suc j) n e = k.holds n (AtRoot j e)

    holds : a < next_name s → HoldsNames (record s { roots = Some a ∷ s.roots })
    holds below n (AtRoot j e) = first_root below j n e
    holds below n (AtField p i x at e) = k.holds n (AtField p i x at e)

-- the graph after the step holds names, has no pairs, has the first name and no fewer objects, and a name that was replied is one of it
record Goes (g : Graph) (out : Outcome) : Type 0 where
  holds : HoldsNames out.1
  pairs : HaveNoPairs out.1
  first_name : out.1.first_name ≡ g.first_name
  next_name : next_name g ≤ next_name out.1
  replied : (v : Option ℕ) → out.0 ≡ replies.Named v → IsValue out.1 v

pub nils : (n i k : ℕ) → slice_get (replicate n None) i ≡ Some (Some k) → ⊥
nils zero i k e = cc
nils (suc n) zero k e = cc
nils (suc n) (suc i) k e = nils n i k e

fresh_fields : (p w i k : ℕ) → slice_get (replicate p None ++ (replicate w None ++ [])) i ≡ Some (Some k) → ⊥
fresh_fields p w i k e = elim (get-append_cases (replicate p None) (replicate w None ++ []) i (Some k) e) [
  | inl q ↦ nils p i k q
  | inr q ↦ elim (get-append_cases (replicate w None) [] q.0 (Some k) q.1) [ inl r ↦ nils w q.0 k r | inr r ↦ absurd (nowhere r.0 r.1) ]
]
  where
    none : List (Option ℕ)
    none = []

    nowhere : (j : ℕ) → slice_get none j ≡ Some (Some k) → ⊥
    nowhere j r = cc

fields_set : (g : Graph) (p w : List (Option ℕ)) (i : ℕ) (v : Option ℕ) → AreValues g (p ++ w) → IsValue g v
    → AreValues g (slice_set p i v ++ w)
fields_set g p w i v each value j n e = elim (get-append_cases (slice_set p i v) w j (Some n) e) [
  | inl q ↦ elim (get-set_cases p i j v (Some n) q) [ inl a ↦ value n (sym a) | inr a ↦ each j n (get-append_left p w j (Some n) a) ]
  | inr q ↦ (let t = get-append_right p w q.0 (Some n) q.1 in each t.0 n t.1)
]

weaks_set : (g : Graph) (p w h : List (Option ℕ)) (i : ℕ) (v : Option ℕ) → AreValues g (p ++ (w ++ h)) → IsValue g v
    → AreValues g (p ++ (slice_set w i v ++ h))
weaks_set g p w h i v each value j n e = elim (get-append_cases p (slice_set w i v ++ h) j (Some n) e) [
  | inl q ↦ each j n (get-append_left p (w ++ h) j (Some n) q)
  | inr q ↦ fields_set g w h i v behind value q.0 n q.1
]
  where
    behind : AreValues g (w ++ h)
    behind l k at = let t = get-append_right p (w ++ h) l (Some k) at in each t.0 k t.1

module _ (g : Graph) (k : HoldsNames g) (none : HaveNoPairs g) where
  stays : (r : Reply) → ((v : Option ℕ) → r ≡ replies.Named v → ⊥) → Goes g (r, g)
  stays r not = record { holds = k; pairs = none; first_name = refl; next_name = omega arith; replied = λ v e. absurd (not v e) }

  rooted : (r : Reply) (j : ℕ) (v : Option ℕ) → IsValue g v → ((u : Option ℕ) → r ≡ replies.Named u → u ≡ v) → Goes g (r, with_root g j v)
  rooted r j v value same = record {
    holds = root_holds g j v k value;
    pairs = none;
    first_name = refl;
    next_name = omega arith;
    replied = λ u e n q. value n (sym (same u e) ∙ q);
  }

  added : (x : Object) (j : ℕ) → x.held ≡ [] → ((i n : ℕ) → slice_get (object_fields x) i ≡ Some (Some n) → ⊥)
      → Goes g (replies.Named (Some (next_name g)), with_object g x j)
  added x j bare nil =
      let e = length-push g.objects x in
      record {
        holds = object_holds g x j k nil;
        pairs = no_pairs_added g x j none bare;
        first_name = refl;
        next_name = omega arith;
        replied = λ v q n r. let same : n ≡ next_name g = cc in ((omega arith), (omega arith));
      }

  changed : (name : ℕ) (y : Object) → y.held ≡ [] → AreValues g (object_fields y) → Goes g (replies.Done, with_changed g name y)
  changed name y bare each =
      let e = length-set g.objects (name - g.first_name) y in
      record {
        holds = changed_holds g name y k each;
        pairs = no_pairs_changed g name y none bare;
        first_name = refl;
        next_name = omega arith;
        replied = λ v q. cc;
      }

  values_at : (p : ℕ) (x : Object) → slice_get g.objects p ≡ Some x → AreValues g (object_fields x)
  values_at p x at i n e = k n (AtField p i x at e)

  pointer_value : (p : ℕ) (x : Object) (i : ℕ) (v : Option ℕ) → slice_get g.objects p ≡ Some x → slice_get x.pointers i ≡ Some v
      → IsValue g v
  pointer_value p x i v at e n q = values_at p x at i n (get-append_left x.pointers (x.weaks ++ x.held) i (Some n) (e ∙ ap Some q))

  weak_value : (p : ℕ) (x : Object) (i : ℕ) (v : Option ℕ) → slice_get g.objects p ≡ Some x → slice_get x.weaks i ≡ Some v → IsValue g v
  weak_value p x i v at e n q = let t = weak_field x i n (e ∙ ap Some q) in values_at p x at t.0 n t.1

  not : (why : Refusal) → Goes g (refused g why)
  not why = stays (replies.Refused why) (λ v e. cc)

  made_goes : (m : ℕ) (to : Register) (counts : Counts) (weaks : ℕ) → Goes g (made g m to counts weaks)
  made_goes m to counts weaks = made_law (Goes g) g m to counts weaks (not refusals.TooBig) (not refusals.NamesSpent)
      (added _ (register_place g.places m to.number) refl (λ i n e. fresh_fields counts.pointers weaks i n e))

  field_goes : {X : Type 0} (m : ℕ) (r : Register) (read : Object → Option X) (f : ℕ → Object → X → Outcome)
      → ((n : ℕ) (x : Object) (v : X) → slice_get g.objects (n - g.first_name) ≡ Some x → read x ≡ Some v → Goes g (f n x v))
      → Goes g (on_object g m r (λ n x. on_field g (read x) (f n x)))
  field_goes m r read f each =
      field_law (Goes g) g m r read f (not refusals.Nil) (not refusals.NoField) (λ n x v is at e. each n x v at e)

  act_goes : (m : ℕ) (a : Action) → Goes g (act g m a)
  act_goes m (actions.New to counts) = made_goes m to counts 0
  act_goes m (actions.Get to object i) = field_goes m object (λ x. slice_get x.pointers i) _ (λ n x v at e.
      rooted (replies.Named v) (register_place g.places m to.number) v (pointer_value (n - g.first_name) x i v at e) (λ u q. cc))
  act_goes m (actions.Put object i value) = field_goes m object (λ x. slice_get x.pointers i) _ (λ n x v at e.
      changed n _ (none (n - g.first_name) x at)
      (fields_set g x.pointers (x.weaks ++ x.held) i (stored g m value) (values_at (n - g.first_name) x at) (stored_value g k m value)))
  act_goes m (actions.Read object i) =
      field_goes m object (λ x. slice_get x.values i) _ (λ n x v at e. stays (replies.Word v) (λ u q. cc))
  act_goes m (actions.Write object i value) =
      field_goes m object (λ x. slice_get x.values i) _
      (λ n x v at e. changed n _ (none (n - g.first_name) x at) (values_at (n - g.first_name) x at))
  act_goes m (actions.Move to from) = rooted replies.Done (register_place g.places m to.number)
      (root_at g (register_place g.places m from.number)) (root_value g k (register_place g.places m from.number)) (λ u q. cc)
  act_goes m (actions.Drop register) = rooted replies.Done (register_place g.places m register.number) None (λ n e. cc) (λ u q. cc)
  act_goes m (actions.Load to from) = rooted (replies.Named (root_at g from.number)) (register_place g.places m to.number)
      (root_at g from.number) (root_value g k from.number) (λ u q. cc)
  act_goes m (actions.Save to from) = rooted replies.Done to.number (root_at g (register_place g.places m from.number))
      (root_value g k (register_place g.places m from.number)) (λ u q. cc)
  act_goes m (actions.Shape object) = object_law (Goes g) g m object _ (not refusals.Nil)
      (λ n x is at. stays (replies.Shape (length x.pointers) (length x.values)) (λ u q. cc))
  act_goes m (actions.NewWeak to counts weaks) = made_goes m to counts weaks
  act_goes m (actions.GetWeak to object i) = field_goes m object (λ x. slice_get x.weaks i) _ (λ n x v at e.
      rooted (replies.Named v) (register_place g.places m to.number) v (weak_value (n - g.first_name) x i v at e) (λ u q. cc))
  act_goes m (actions.PutWeak object i value) = field_goes m object (λ x. slice_get x.weaks i) _ (λ n x v at e.
      changed n _ (none (n - g.first_name) x at)
      (weaks_set g x.pointers x.weaks x.held i (stored g m value) (values_at (n - g.first_name) x at) (stored_value g k m value)))
  act_goes m (actions.Scope from) = record {
    holds = nil_roots_hold g (register_place g.places m from.number) (g.places.registers - from.number) k;
    pairs = no_pairs_nils g (register_place g.places m from.number) (g.places.registers - from.number) none;
    first_name = refl;
    next_name = omega arith;
    replied = λ v q. cc;
  }
  act_goes m (actions.Weaks object) =
      object_law (Goes g) g m object _ (not refusals.Nil) (λ n x is at. stays (replies.Word (length x.weaks)) (λ u q. cc))

-- the snapshot stays earlier as the graph goes on
earlier_on : (s : Option Graph) (g h : Graph) → h.first_name ≡ g.first_name → next_name g ≤ next_name h
    → ForSnapshot s (λ t. IsEarlier t g) → ForSnapshot s (λ t. IsEarlier t h)
earlier_on None g h f l k = tt
earlier_on (Some s) g h f l k = let a = k.next_name in
    record { holds = k.holds; pairs = k.pairs; first_name = k.first_name ∙ sym f; next_name = omega arith }

-- the snapshot after a mutator's step is the one before, or the touched one
pub after_law : (P : Graph → Type 0) (s : Graph) (a : Action) (r : Reply) → P s → ((v : Option ℕ) → r ≡ replies.Named v → P (touched s v))
    → ForSnapshot (snapshot_after (Some s) a r) P
after_law P s (actions.GetWeak to object i) (replies.Named v) k touch = touch v refl
after_law P s _ _ k touch = k

touch_on : (s : Option Graph) (g : Graph) (a : Action) (r : Reply) → ForSnapshot s (λ t. IsEarlier t g)
    → ((v : Option ℕ) → r ≡ replies.Named v → IsValue g v) → ForSnapshot (snapshot_after s a r) (λ t. IsEarlier t g)
touch_on None g a r k value = tt
touch_on (Some s) g a r k value = after_law (λ t. IsEarlier t g) s a r k (λ v e. touched_earlier s g v k (value v e))

acts_sound : (old new : State) (o : Op) (r : Reply) → IsSoundState old → (r, new.graph) ≡ outcome_of old.graph o
    → new.snapshot ≡ snapshot_after old.snapshot o.action r → IsSoundState new
acts_sound old new o r k e s =
    let goes : Goes old.graph (r, new.graph) = subst (Goes old.graph) (sym e) (act_goes old.graph k.graph k.pairs o.mutator o.action) in
    record {
      graph = goes.holds;
      pairs = goes.pairs;
      snapshot = subst (λ (t : Option Graph). ForSnapshot t (λ u. IsEarlier u new.graph)) (sym s)
          (touch_on old.snapshot new.graph o.action r
          (earlier_on old.snapshot old.graph new.graph goes.first_name goes.next_name k.snapshot) goes.replied);
    }

clears_sound : (s : Option Graph) (g h : Graph) → ClearsBy s g h → HoldsNames g → HoldsNames h
clears_sound None g h c k = subst HoldsNames (sym c) k
clears_sound (Some s) g h c k = cleared_holds s g h c k

clears_pairs : (s : Option Graph) (g h : Graph) → ClearsBy s g h → HaveNoPairs g → HaveNoPairs h
clears_pairs None g h c k = subst HaveNoPairs (sym c) k
clears_pairs (Some s) g h c k = no_pairs_cleared s g h c k

collects_sound : (old new : State) (k : CollectorStep) (r : Reply) → IsSoundState old → ChangesState old k r new → IsSoundState new
collects_sound old new k r sound c = elim (kind k r) [
  | inl t ↦ subst IsSoundState (sym ((t.0 old new).0 c))
      (record {
        graph = sound.graph;
        pairs = sound.pairs;
        snapshot = record { holds = sound.graph; pairs = sound.pairs; first_name = refl; next_name = omega arith };
      })
  | inr u ↦ elim u [
    | inl g ↦ record {
      graph = clears_sound old.snapshot old.graph new.graph ((g.0 old new).0 c).1 sound.graph;
      pairs = clears_pairs old.snapshot old.graph new.graph ((g.0 old new).0 c).1 sound.pairs;
      snapshot = subst (λ (t : Option Graph). ForSnapshot t (λ u. IsEarlier u new.graph)) (sym ((g.0 old new).0 c).0) tt;
    }
    | inr n ↦ subst IsSoundState (sym ((n.0 old new).0 c)) sound
  ]
]

pub happens_sound : (old new : State) (s : Step) (r : Reply) → IsSoundState old → Happens old s r new → IsSoundState new
happens_sound old new (steps.Mutator o) r k (inl h) = acts_sound old new o r k h.0 h.1
happens_sound old new (steps.Mutator o) r k (inr h) = subst IsSoundState (sym h.2) k
happens_sound old new (steps.Collector c) r k h = collects_sound old new c r k h.1

pub run_sound : (es : List Event) (first last : State) → IsSoundState first → IsRun first es last → IsSoundState last
run_sound [] first last k run = subst IsSoundState (sym run) k
run_sound (e ∷ es) first last k run = run_sound es run.0 last (happens_sound first run.0 e.step e.reply k run.1) run.2

pub first_sound : (c : Config) → IsSoundState (first_state c)
first_sound c = record { graph = λ n o. absurd (nowhere n o); pairs = λ p x at. cc; snapshot = tt }
  where
    nowhere : (n : ℕ) → Occurs (first_graph c) n → ⊥
    nowhere n (AtRoot j e) = nils (root_places (root_counts_of c)) j n e
    nowhere n (AtField p i x at e) = cc

-- a run keeps the places of roots
cleared_places : (s : Option Graph) (g h : Graph) → ClearsBy s g h → h.places ≡ g.places
cleared_places None g h c = ap (λ (t : Graph). t.places) c
cleared_places (Some s) g h c = c.places

collects_places : (old new : State) (k : CollectorStep) (r : Reply) → ChangesState old k r new → new.graph.places ≡ old.graph.places
collects_places old new k r c = elim (kind k r) [
  | inl t ↦ ap (λ (t : State). t.graph.places) ((t.0 old new).0 c)
  | inr u ↦ elim u [
    | inl g ↦ cleared_places old.snapshot old.graph new.graph ((g.0 old new).0 c).1
    | inr n ↦ ap (λ (t : State). t.graph.places) ((n.0 old new).0 c)
  ]
]

pub happens_places : (old new : State) (s : Step) (r : Reply) → Happens old s r new → new.graph.places ≡ old.graph.places
happens_places old new (steps.Mutator o) r (inl h) = ap (λ (x : Outcome). x.1.places) h.0 ∙ outcome_of-places old.graph o
happens_places old new (steps.Mutator o) r (inr h) = ap (λ (t : State). t.graph.places) h.2
happens_places old new (steps.Collector c) r h = collects_places old new c r h.1

pub run_places : (es : List Event) (first last : State) → IsRun first es last → last.graph.places ≡ first.graph.places
run_places [] first last run = ap (λ (t : State). t.graph.places) run
run_places (e ∷ es) first last run = run_places es run.0 last run.2 ∙ happens_places first run.0 e.step e.reply run.1
