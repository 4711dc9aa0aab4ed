-- Steps of the collector, one after another.
use Rattle.std.proofs.Common.{◌≡◌, ◌⊎◌, ◌+◌, ◌≤◌, ◌∷◌, ◌++◌, ◌∙◌, ℕ, List, [], All, inl, inr, refl, sym, ap, subst, arith, ◌↔◌}
use Rattle.std.proofs.lemmas.List.{length-append}
use Rattle.std.proofs.lemmas.List.Elements.{All-append, All-nil, All-cons, All-head, All-tail}
use Rattle.cards.specs.Cards.{ListsDirtyOnce}
use Rattle.heap_model.specs.Graph.{Graph}
use Rattle.regions.specs.Table.{free_count}
use Rattle.heap_steps.specs.declared.step.Actor.TheVariants as actors
use Rattle.step_core.specs.Steps.{CollectorStep, Event, Op, Reply, Step}
use Rattle.heap_steps.specs.declared.step.Reply.TheVariants as replies
use Rattle.heap_steps.specs.declared.step.Refusal.TheVariants as refusals
use Rattle.heap_steps.specs.declared.step.Step.TheVariants as steps
use Rattle.graph_runs.specs.State.{State}
use Rattle.graph_runs.specs.Run.{Happens}
use Rattle.graph_runs.proofs.Collected.{kind}
use Rattle.step_core.specs.Stands.{CoreState, IsCore, IsWhole, Stands}
use Rattle.step_core.specs.Answers.{Follows, IsFullStep}
use Rattle.step_core.specs.Cycle.{Does}
use Rattle.step_core.specs.Passages.{IsPassage, Passes, Runs}
use Rattle.collection.specs.Space.{HasReached, IsCollected}
use Rattle.collection.specs.Steps.{CollectsWithin, CollectsSome, HoldsBack, IsCollectors, Makes, Sees, TakesOwn}
use Rattle.collection.proofs.Reached.{by_reached, none_cleared, then_cleared}

-- ---- one step
pub passes : (s : State) (e : Event) (c c' : CoreState) → Follows s e.step e.reply c' → Does e.step e.reply c c'
    → (e.reply ≡ replies.Refused refusals.Full) ↔ IsFullStep s.graph e.step c → IsCore c' → ListsDirtyOnce c'.cards
    → ((r : State) → Stands r c' → IsWhole r.graph c') → Passes s c e c'
passes s e c c' follows does full core listed whole = record {
  follows = follows;
  does = does;
  full = full;
  core = core;
  listed = listed;
  whole = whole follows.after follows.stands;
}

-- ---- histories
pub passage_then : (s mid last : State) (c d c' : CoreState) (es fs : List Event) → IsPassage s c es mid d → IsPassage mid d fs last c'
    → IsPassage s c (es ++ fs) last c'
passage_then s mid last c d c' [] fs h k =
    subst (λ (x : State). IsPassage x c fs last c') h.0 (subst (λ (x : CoreState). IsPassage mid x fs last c') h.1 k)
passage_then s mid last c d c' (e ∷ es) fs h k = (h.0, h.1, passage_then h.1.follows.after mid last h.0 d c' es fs h.2 k)

-- what a step of the collector leaves reachable was reachable before it
step_reached : (s after : State) (k : CollectorStep) (r : Reply) → Happens s (steps.Collector k) r after → HasReached s.graph after.graph
step_reached s after k r h = elim (kind k r) [
  | inl t ↦ same (ap (λ (x : State). x.graph) ((t.0 s after).0 h.1))
  | inr u ↦ elim u [
    | inl g ↦ by_reached s.snapshot s.graph after.graph ((g.0 s after).0 h.1).1
    | inr n ↦ same (ap (λ (x : State). x.graph) ((n.0 s after).0 h.1))
  ]
]
  where
    same : after.graph ≡ s.graph → HasReached s.graph after.graph
    same e = subst (λ (g : Graph). HasReached s.graph g) (sym e) (none_cleared s.graph)

pub passage_reached : (s last : State) (c c' : CoreState) (es : List Event) → All IsCollectors es → IsPassage s c es last c'
    → HasReached s.graph last.graph
passage_reached s last c c' [] all h = subst (λ (x : State). HasReached s.graph x.graph) (sym h.0) (none_cleared s.graph)
passage_reached s last c c' (e ∷ es) all h =
    let first = All-head IsCollectors e es all in
    let after = h.1.follows.after in
    then_cleared s.graph after.graph last.graph
    (step_reached s after first.step e.reply (subst (λ (x : Step). Happens s x e.reply after) first.is h.1.follows.happens))
    (passage_reached after last h.0 c' es (All-tail IsCollectors e es all) h.2)

pub one_passage : (s : State) (e : Event) (c c' : CoreState) → Passes s c e c' → Runs s c (e ∷ []) c'
one_passage s e c c' p = record { last = p.follows.after; stands = p.follows.stands; passage = (c', p, (refl, refl)) }

-- the same steps, seen by another watch, and no fewer allowed
seen_by : {W V : Type 0} (sees : W → Event → W → Type 0) (sees' : V → Event → V → Type 0) (m n : ℕ) (c c' : CoreState) (x x' : W) (y y' : V)
    → m ≤ n → (a : CollectsWithin sees m c x c' x') → Sees sees' y a.events y' → CollectsWithin sees' n c y c' y'
seen_by sees sees' m n c c' x x' y y' h a seen = record {
  events = a.events;
  few = let few = a.few in omega (arith, few, h);
  collectors = a.collectors;
  seen = seen;
  runs = a.runs;
  two = a.two;
  config = a.config;
  next = a.next;
}

-- ---- what a watch sees
module _ {W : Type 0} (sees : W → Event → W → Type 0) where
  sees_then : (x y z : W) (es fs : List Event) → Sees sees x es y → Sees sees y fs z → Sees sees x (es ++ fs) z
  sees_then x y z [] fs h k = subst (λ (v : W). Sees sees v fs z) h k
  sees_then x y z (e ∷ es) fs h k = (h.0, h.1, sees_then h.0 y z es fs h.2 k)

  pub none : (c : CoreState) (x : W) → CollectsWithin sees 0 c x c x
  none c x = record {
    events = [];
    few = omega arith;
    collectors = All-nil IsCollectors;
    seen = refl;
    runs = λ s stands. record { last = s; stands = stands; passage = (refl, refl) };
    two = λ h. h;
    config = refl;
    next = refl;
  }

  pub more : (m n : ℕ) (c c' : CoreState) (x x' : W) → m ≤ n → CollectsWithin sees m c x c' x' → CollectsWithin sees n c x c' x'
  more m n c c' x x' h a = seen_by sees sees m n c c' x x' x x' h a a.seen

  pub chain : (m n o : ℕ) (c d c' : CoreState) (x y x' : W) → m + n ≤ o → CollectsWithin sees m c x d y → CollectsWithin sees n d y c' x'
      → CollectsWithin sees o c x c' x'
  chain m n o c d c' x y x' h a b = record {
    events = a.events ++ b.events;
    few = let p = a.few in let q = b.few in let e = length-append a.events b.events in omega (arith, p, q, e, h);
    collectors = All-append IsCollectors a.events b.events a.collectors b.collectors;
    seen = sees_then x y x' a.events b.events a.seen b.seen;
    runs = λ s stands. joined s (a.runs s stands);
    two = λ h. b.two (a.two h);
    config = b.config ∙ a.config;
    next = b.next ∙ a.next;
  }
    where
      joined : (s : State) → Runs s c a.events d → Runs s c (a.events ++ b.events) c'
      joined s r =
          let t = b.runs r.last r.stands in
          record { last = t.last; stands = t.stands; passage = passage_then s r.last t.last c d c' a.events b.events r.passage t.passage }

  -- ---- at least one
  pub one_some : (c c' : CoreState) (x x' : W) (e : Event) (k : CollectorStep) → e.step ≡ steps.Collector k → e.actor ≡ actors.Collector
      → sees x e x' → ((s : State) → Stands s c → Passes s c e c') → (2 ≤ free_count c.table → 2 ≤ free_count c'.table)
      → c'.config ≡ c.config → c'.next ≡ c.next → CollectsSome sees 1 c x c' x'
  one_some c c' x x' e k is actor seen passes two config next = record {
    collects = record {
      events = e ∷ [];
      few = omega arith;
      collectors = All-cons IsCollectors e [] (record { step = k; is = is; actor = actor }) (All-nil IsCollectors);
      seen = (x', seen, refl);
      runs = λ s stands. one_passage s e c c' (passes s stands);
      two = two;
      config = config;
      next = next;
    };
    some = omega arith;
  }

  pub some_more : (m n : ℕ) (c c' : CoreState) (x x' : W) → m ≤ n → CollectsSome sees m c x c' x' → CollectsSome sees n c x c' x'
  unfolding more seen_by
  some_more m n c c' x x' h a = record { collects = more m n c c' x x' h a.collects; some = a.some }

  pub some_then : (m n o : ℕ) (c d c' : CoreState) (x y x' : W) → m + n ≤ o → CollectsSome sees m c x d y → CollectsWithin sees n d y c' x'
      → CollectsSome sees o c x c' x'
  unfolding chain
  some_then m n o c d c' x y x' h a b = record {
    collects = chain m n o c d c' x y x' h a.collects b;
    some = (let e = length-append a.collects.events b.events in let f = a.some in omega (arith, e, f));
  }

  pub then_some : (m n o : ℕ) (c d c' : CoreState) (x y x' : W) → m + n ≤ o → CollectsWithin sees m c x d y → CollectsSome sees n d y c' x'
      → CollectsSome sees o c x c' x'
  unfolding chain
  then_some m n o c d c' x y x' h a b = record {
    collects = chain m n o c d c' x y x' h a b.collects;
    some = (let e = length-append a.events b.collects.events in let f = b.some in omega (arith, e, f));
  }

  -- the state after the steps, and what was reachable before them
  pub reached : (m : ℕ) (c c' : CoreState) (x x' : W) (s : State) → CollectsWithin sees m c x c' x' → Stands s c
      → (after : State) × Stands after c' × HasReached s.graph after.graph
  reached m c c' x x' s a stands =
      let r = a.runs s stands in
      (r.last, r.stands, passage_reached s r.last c c' a.events a.collectors r.passage)

  -- a whole collection after other steps
  pub collected_after : (m : ℕ) (c c' d : CoreState) (x x' : W) (s : State) → CollectsWithin sees m c x c' x' → Stands s c
      → ((r : State) → Stands r c' → IsCollected r.graph d) → IsCollected s.graph d
  collected_after m c c' d x x' s a stands f =
      let (mid, there, before) = reached m c c' x x' s a stands in
      let w = f mid there in
      record { after = w.after; quiet = w.quiet; reached = then_cleared s.graph mid.graph w.after.graph before w.reached }

-- ---- the same with nobody who is said to watch
abbrev nobody : Unit {0}
nobody = tt

sees_none : (es : List Event) → Sees {W = Unit {0}} (λ x e y. Unit {0}) nobody es nobody
sees_none [] = refl
sees_none (e ∷ es) = (nobody, tt, sees_none es)

pub unseen : {W : Type 0} (sees : W → Event → W → Type 0) (most : ℕ) (c c' : CoreState) (x x' : W) → CollectsWithin sees most c x c' x'
    → CollectsWithin {W = Unit {0}} (λ x e y. Unit {0}) most c nobody c' nobody
unseen sees most c c' x x' a =
    seen_by sees (λ x e y. Unit {0}) most most c c' x x' nobody nobody (omega arith) a (sees_none a.events)

pub unseen_some : {W : Type 0} (sees : W → Event → W → Type 0) (most : ℕ) (c c' : CoreState) (x x' : W) → CollectsSome sees most c x c' x'
    → CollectsSome {W = Unit {0}} (λ x e y. Unit {0}) most c nobody c' nobody
unfolding unseen seen_by
unseen_some sees most c c' x x' a = record { collects = unseen sees most c c' x x' a.collects; some = a.some }

unseen_own : {W : Type 0} (sees : W → Event → W → Type 0) (op : Op) (reply : Reply) (c c' : CoreState) (x x' : W)
    → TakesOwn sees op reply c x c' x' ⊎ HoldsBack op reply c x c' x'
    → TakesOwn {W = Unit {0}} (λ x e y. Unit {0}) op reply c nobody c' nobody ⊎ HoldsBack {W = Unit {0}} op reply c nobody c' nobody
unseen_own sees op reply c c' x x' (inl t) = inl (record { seen = tt; passes = t.passes })
unseen_own sees op reply c c' x x' (inr h) = inr (record {
  reply_is = h.reply_is;
  creates = h.creates;
  core = h.core;
  watch = refl;
  leaves = h.leaves;
  no_room = h.no_room;
})

pub unseen_made : {W : Type 0} (sees : W → Event → W → Type 0) (most : ℕ) (op : Op) (reply : Reply) (c c' : CoreState) (x x' : W)
    → Makes sees most op reply c x c' x' → Makes {W = Unit {0}} (λ x e y. Unit {0}) most op reply c nobody c' nobody
unseen_made sees most op reply c c' x x' a = record {
  core = a.core;
  watch = nobody;
  collects = unseen sees most c a.core x a.watch a.collects;
  own = unseen_own sees op reply a.core c' a.watch x' a.own;
}
