-- A judge that keeps no snapshot where no object had a weak slot when marking began allows exactly the events of the machine.
use Rattle.std.proofs.Common.{◌≡◌, ◌<◌, ◌∷◌, ◌∙◌}
use Rattle.std.proofs.Common.{ℕ, zero, suc, Bool, true, false, cond, List, [], length, Option, Some, None, refl, sym, ap, subst, inl, inr}
use Rattle.std.proofs.Common.{arith}
use Rattle.std.specs.Prelude.{slice_get, nat_lt}
use Rattle.std.specs.List.{AllZip}
use Rattle.std.proofs.lemmas.Bool.{lt-ltb}
use Rattle.heap_model.specs.Graph.{Graph, Object, held_by}
use Rattle.heap_model.specs.Weak.{IsClearedSlot, ClearsObject, Clears}
use Rattle.graph_runs.specs.State.{State, HoldsNames, HaveNoPairs, IsEarlier, ForSnapshot, IsSoundState}
use Rattle.graph_runs.specs.Since.{IsKnown, IsSince, IsSinceState}
use Rattle.graph_runs.specs.Sparing.{have_weaks, kept_snapshot, SparingCollects, SparingHappens, HoldsKnown, Spares, StandsFor}
use Rattle.graph_runs.specs.Machine.{outcome_of}
use Rattle.graph_runs.specs.Run.{IsCollectorReply, snapshot_after, ClearsBy, Creates, Happens}
use Rattle.heap_steps.specs.declared.step.Op.{Op}
use Rattle.heap_steps.specs.declared.step.CollectorStep.{CollectorStep}
use Rattle.heap_steps.specs.declared.step.Step.{Step}
use Rattle.heap_steps.specs.declared.step.Step.TheVariants as steps
use Rattle.heap_steps.specs.declared.step.Reply.{Reply}
use Rattle.graph_runs.proofs.Collected.{kind}
use Rattle.std.proofs.lemmas.Option.{slice_get_within}
use Rattle.graph_runs.proofs.SinceLaws.{op_slots}

-- without weak slots, each holds what you like
none_slots : (xs : List Object) → have_weaks xs ≡ false → (k i : ℕ) (x : Object) (v : Option ℕ) → slice_get xs k ≡ Some x
    → slice_get x.weaks i ≡ Some v → ⊥
none_slots [] none k i x v at e = cc
none_slots (y ∷ xs) none zero i x v at e = by_count (nat_lt 0 (length y.weaks)) refl none
  where
    by_count : (b : Bool) → nat_lt 0 (length y.weaks) ≡ b → cond b true (have_weaks xs) ≡ false → ⊥
    by_count true is none = cc
    by_count false is none =
        let here : y ≡ x = cc in
        let inside : i < length x.weaks = slice_get_within x.weaks i v e in
        let some : 0 < length y.weaks = subst (λ (z : Object). 0 < length z.weaks) (sym here) (omega arith) in
        let yes : nat_lt 0 (length y.weaks) ≡ true = lt-ltb 0 (length y.weaks) some in cc
none_slots (y ∷ xs) none (suc k) i x v at e = none_slots xs (rest (nat_lt 0 (length y.weaks)) none) k i x v at e
  where
    rest : (b : Bool) → cond b true (have_weaks xs) ≡ false → have_weaks xs ≡ false
    rest true none = cc
    rest false none = none

-- where every slot holds a known name, clearing changes nothing
clears_none : (s g : Graph) → HoldsKnown s g → HaveNoPairs g → Clears s g g
clears_none s g slots none = record {
  room = refl;
  first_name = refl;
  places = refl;
  roots = refl;
  objects = each g.objects (λ k i n x at e. slots k i n x at e) none;
}
  where
    words : (ws : List (Option ℕ)) → ((i n : ℕ) → slice_get ws i ≡ Some (Some n) → IsKnown s n) → AllZip (IsClearedSlot s) ws ws
    words [] known = tt
    words (None ∷ ws) known = (tt, words ws (λ i n e. known (suc i) n e))
    words (Some n ∷ ws) known = ((refl, known 0 n refl), words ws (λ i n e. known (suc i) n e))

    each : (xs : List Object) → ((k i n : ℕ) (x : Object) → slice_get xs k ≡ Some x → slice_get x.weaks i ≡ Some (Some n) → IsKnown s n)
        → ((k : ℕ) (x : Object) → slice_get xs k ≡ Some x → x.held ≡ []) → AllZip (ClearsObject s) xs xs
    each [] known bare = tt
    each (x ∷ xs) known bare = (
      record {
        pointers = refl;
        weaks = words x.weaks (λ i n e. known 0 i n x refl e);
        held = let e = bare 0 x refl in e ∙ sym (ap (held_by x.weaks) e);
        values = refl;
      },
      each xs (λ k i n y at e. known (suc k) i n y at e) (λ k y at. bare (suc k) y at),
    )

spares_same : (g : Graph) (s : Option Graph) → Spares g s s
spares_same g None = tt
spares_same g (Some s) = refl

spares_slots : (g : Graph) (s : Option Graph) → ForSnapshot s (λ t. HoldsKnown t g) → Spares g None s
spares_slots g None k = tt
spares_slots g (Some s) k = k

-- the snapshots after a mutator's step
spares_on : (t s : Option Graph) (g g' : Graph) (o : Op) (r : Reply) → HoldsNames g → ForSnapshot s (λ u. IsEarlier u g)
    → ForSnapshot s (λ u. IsSince u g) → (r, g') ≡ outcome_of g o
    → Spares g t s → Spares g' (snapshot_after t o.action r) (snapshot_after s o.action r)
spares_on None None g g' o r holds earlier since is k = tt
spares_on None (Some s) g g' o r holds earlier since is k =
    spares_slots g' (snapshot_after (Some s) o.action r) (op_slots s g g' o r holds earlier since k is)
spares_on (Some t) None g g' o r holds earlier since is k = absurd k
spares_on (Some t) (Some s) g g' o r holds earlier since is k =
    subst (λ (u : Graph). Spares g' (snapshot_after (Some u) o.action r) (snapshot_after (Some s) o.action r)) (sym k)
    (spares_same g' (snapshot_after (Some s) o.action r))

-- the snapshot that is taken
spares_taken : (g : Graph) → Spares g (kept_snapshot g) (Some g)
spares_taken g = by_weaks (have_weaks g.objects) refl
  where
    by_weaks : (b : Bool) → have_weaks g.objects ≡ b → Spares g (cond b (Some g) None) (Some g)
    by_weaks true is = refl
    by_weaks false is = λ k i n x at e. absurd (none_slots g.objects is k i x (Some n) at e)

-- clearing by the one is clearing by the other
cleared_back : (t s : Option Graph) (g h : Graph) → HaveNoPairs g → Spares g t s → ClearsBy t g h → ClearsBy s g h
cleared_back None None g h none k c = c
cleared_back None (Some s) g h none k c = subst (Clears s g) (sym c) (clears_none s g k none)
cleared_back (Some t) None g h none k c = absurd k
cleared_back (Some t) (Some s) g h none k c = subst (λ (u : Graph). Clears u g h) k c

cleared_there : (t s : Option Graph) (g h : Graph) → Spares g t s → ClearsBy s g h → (i : Graph) × ClearsBy t g i
cleared_there None s g h k c = (g, refl)
cleared_there (Some t) None g h k c = absurd k
cleared_there (Some t) (Some s) g h k c = (h, subst (λ (u : Graph). Clears u g h) (sym k) c)

-- what the judge allows, the machine does, and they stand for one another again
pub record Follows (judge old : State) (k : Step) (r : Reply) (next : State) : Type 0 where
  pub new : State
  pub happens : Happens old k r new
  pub stands : StandsFor next new

collects_follow : (judge old next : State) (c : CollectorStep) (r : Reply) → HaveNoPairs old.graph → StandsFor judge old
    → IsCollectorReply c r → SparingCollects judge c r next → Follows judge old (steps.Collector c) r next
collects_follow judge old next c r none stands reply h = elim (kind c r) [
  | inl t ↦ record {
    new = record { graph = old.graph; snapshot = Some old.graph };
    happens = (reply, (t.0 old (record { graph = old.graph; snapshot = Some old.graph })).1 refl);
    stands = subst (λ (u : State). StandsFor u (record { graph = old.graph; snapshot = Some old.graph })) (sym ((t.1 judge next).0 h))
        (record {
          graph = stands.graph;
          snapshot = subst (λ (u : Graph). Spares old.graph (kept_snapshot u) (Some old.graph))
              (sym stands.graph) (spares_taken old.graph);
        });
  }
  | inr u ↦ elim u [
    | inl g ↦ (let gone = (g.1 judge next).0 h in
        let clears : ClearsBy judge.snapshot old.graph next.graph =
        subst (λ (u : Graph). ClearsBy judge.snapshot u next.graph) stands.graph gone.1 in
        record {
          new = record { graph = next.graph; snapshot = None };
          happens = (
            reply,
            (g.0 old (record { graph = next.graph; snapshot = None })).1
                (refl, cleared_back judge.snapshot old.snapshot old.graph next.graph none stands.snapshot clears),
          );
          stands = record { graph = refl; snapshot = subst (λ (u : Option Graph). Spares next.graph u None) (sym gone.0) tt };
        })
    | inr n ↦ record {
      new = old;
      happens = (reply, (n.0 old old).1 refl);
      stands = subst (λ (t : State). StandsFor t old) (sym ((n.1 judge next).0 h)) stands;
    }
  ]
]

pub follows : (judge old next : State) (k : Step) (r : Reply) → IsSoundState old → IsSinceState old → StandsFor judge old
    → SparingHappens judge k r next → Follows judge old k r next
follows judge old next (steps.Mutator o) r sound since stands (inl h) =
    let given : (r, next.graph) ≡ outcome_of old.graph o = h.0 ∙ ap (λ (g : Graph). outcome_of g o) stands.graph in
    record {
      new = record { graph = next.graph; snapshot = snapshot_after old.snapshot o.action r };
      happens = inl (given, refl);
      stands = record {
        graph = refl;
        snapshot = subst (λ (u : Option Graph). Spares next.graph u (snapshot_after old.snapshot o.action r)) (sym h.1)
            (spares_on judge.snapshot old.snapshot old.graph next.graph o r sound.graph sound.snapshot since given stands.snapshot);
      };
    }
follows judge old next (steps.Mutator o) r sound since stands (inr h) =
    record {
      new = old;
      happens = inr (subst (λ (g : Graph). Creates g o) stands.graph h.0, h.1, refl);
      stands = subst (λ (t : State). StandsFor t old) (sym h.2) stands;
    }
follows judge old next (steps.Collector c) r sound since stands h = collects_follow judge old next c r sound.pairs stands h.0 h.1

-- what the machine may do, the judge allows
pub allowed : (judge old new : State) (k : Step) (r : Reply) → StandsFor judge old → Happens old k r new
    → (next : State) × SparingHappens judge k r next
allowed judge old new (steps.Mutator o) r stands (inl h) = (
  record { graph = new.graph; snapshot = snapshot_after judge.snapshot o.action r },
  inl (h.0 ∙ ap (λ (g : Graph). outcome_of g o) (sym stands.graph), refl),
)
allowed judge old new (steps.Mutator o) r stands (inr h) =
    (judge, inr (subst (λ (g : Graph). Creates g o) (sym stands.graph) h.0, h.1, refl))
allowed judge old new (steps.Collector c) r stands h = elim (kind c r) [
  | inl t ↦ (
    record { graph = judge.graph; snapshot = kept_snapshot judge.graph },
    (h.0, (t.1 judge (record { graph = judge.graph; snapshot = kept_snapshot judge.graph })).1 refl),
  )
  | inr u ↦ elim u [
    | inl g ↦ (let there = cleared_there judge.snapshot old.snapshot old.graph new.graph stands.snapshot ((g.0 old new).0 h.1).1 in
        let next : State = record { graph = there.0; snapshot = None } in
        (next, (h.0, (g.1 judge next).1 (refl, subst (λ (u : Graph). ClearsBy judge.snapshot u there.0) (sym stands.graph) there.1))))
    | inr n ↦ (judge, (h.0, (n.1 judge judge).1 refl))
  ]
]

-- the judge's state is as sound as the machine's
pub stands_sound : (judge old : State) → IsSoundState old → StandsFor judge old → IsSoundState judge
stands_sound judge old sound stands = record {
  graph = subst HoldsNames (sym stands.graph) sound.graph;
  pairs = subst HaveNoPairs (sym stands.graph) sound.pairs;
  snapshot = subst (λ (g : Graph). ForSnapshot judge.snapshot (λ t. IsEarlier t g)) (sym stands.graph)
      (by_snapshot judge.snapshot old.snapshot stands.snapshot sound.snapshot);
}
  where
    by_snapshot : (t s : Option Graph) → Spares old.graph t s → ForSnapshot s (λ u. IsEarlier u old.graph)
        → ForSnapshot t (λ u. IsEarlier u old.graph)
    by_snapshot None s k sound = tt
    by_snapshot (Some t) None k sound = absurd k
    by_snapshot (Some t) (Some s) k sound = subst (λ (u : Graph). IsEarlier u old.graph) (sym k) sound
