-- A run has one outcome, so no record is both a run and broken.
use Rattle.std.proofs.Common.{◌≡◌, ◌-◌, ◌<◌, ◌∷◌, ◌∙◌}
use Rattle.std.proofs.Common.{ℕ, zero, suc, inl, inr, List, [], length, take, slice_get, Option, Some, None, refl, sym, ap, subst, arith}
use Rattle.heap_model.specs.Graph.{Graph}
use Rattle.heap_model.proofs.Cleared.{clears_once}
use Rattle.graph_runs.specs.State.{State}
use Rattle.graph_runs.specs.Machine.{Outcome, outcome_of}
use Rattle.graph_runs.specs.Run.{ChangesState, ClearsBy, Happens, EventHappens, IsRun, BreaksAt, Creates}
use Rattle.heap_steps.specs.declared.step.Op.{Op}
use Rattle.heap_steps.specs.declared.step.CollectorStep.{CollectorStep}
use Rattle.heap_steps.specs.declared.step.Step.{Step}
use Rattle.heap_steps.specs.declared.step.Step.TheVariants as steps
use Rattle.heap_steps.specs.declared.step.Event.{Event}
use Rattle.heap_steps.specs.declared.step.Reply.{Reply}
use Rattle.heap_steps.specs.declared.step.Reply.TheVariants as replies
use Rattle.graph_runs.proofs.Collected.{kind}
use Rattle.heap_steps.specs.declared.step.Refusal.TheVariants as refusals

not_both : (old : State) (g : Graph) (o : Op) (reply : Reply) → (reply, g) ≡ outcome_of old.graph o → Creates old.graph o
    → reply ≡ replies.Refused refusals.Full → ⊥
not_both old g o reply given creates full =
    let named : reply ≡ (outcome_of old.graph o).0 = ap (λ (x : Outcome). x.0) given in
    let bad = sym full ∙ named ∙ creates.1 in cc bad

state_of : Graph → Option Graph → State
state_of g s = record { graph = g; snapshot = s }

pub same_state : (a b : State) → a.graph ≡ b.graph → a.snapshot ≡ b.snapshot → a ≡ b
unfolding state_of
same_state a b g s = let e : state_of a.graph a.snapshot ≡ state_of b.graph b.snapshot =
    ap (λ (x : Graph). state_of x a.snapshot) g ∙ ap (λ (t : Option Graph). state_of b.graph t) s in e

cleared_once : (s : Option Graph) (g a b : Graph) → ClearsBy s g a → ClearsBy s g b → a ≡ b
cleared_once None g a b p q = p ∙ sym q
cleared_once (Some s) g a b p q = clears_once s g a b p q

collected_once : (old a b : State) (k : CollectorStep) (reply : Reply) → ChangesState old k reply a → ChangesState old k reply b → a ≡ b
collected_once old a b k reply p q = elim (kind k reply) [
  | inl t ↦ (t.0 old a).0 p ∙ sym ((t.0 old b).0 q)
  | inr u ↦ elim u [
    | inl g ↦ (let x = (g.0 old a).0 p in let y = (g.0 old b).0 q in
        same_state a b (cleared_once old.snapshot old.graph a.graph b.graph x.1 y.1) (x.0 ∙ sym y.0))
    | inr n ↦ (n.0 old a).0 p ∙ sym ((n.0 old b).0 q)
  ]
]

steps_once : (old a b : State) (s : Step) (reply : Reply) → Happens old s reply a → Happens old s reply b → a ≡ b
steps_once old a b (steps.Mutator o) reply (inl p) (inl q) = same_state a b (ap (λ (x : Outcome). x.1) (p.0 ∙ sym q.0)) (p.1 ∙ sym q.1)
steps_once old a b (steps.Mutator o) reply (inl p) (inr q) = absurd (not_both old a.graph o reply p.0 q.0 q.1)
steps_once old a b (steps.Mutator o) reply (inr p) (inl q) = absurd (not_both old b.graph o reply q.0 p.0 p.1)
steps_once old a b (steps.Mutator o) reply (inr p) (inr q) = p.2 ∙ sym q.2
steps_once old a b (steps.Collector k) reply p q = collected_once old a b k reply p.1 q.1

pub run_once : (es : List Event) (first a b : State) → IsRun first es a → IsRun first es b → a ≡ b
run_once [] first a b p q = p ∙ sym q
run_once (e ∷ es) first a b p q =
    let same : q.0 ≡ p.0 = steps_once first q.0 p.0 e.step e.reply q.1 p.1 in
    run_once es p.0 a b p.2 (subst (λ (g : State). IsRun g es b) same q.2)

-- a run up to its k-th event, and the event
pub record Parts (first : State) (es : List Event) (k : ℕ) : Type 0 where
  pub mid : State
  pub event : Event
  pub after : State
  pub run : IsRun first (take k es) mid
  pub there : slice_get es k ≡ Some event
  pub happens : EventHappens mid event after

parts : (es : List Event) (k : ℕ) (first last : State) → k < length es → IsRun first es last → Parts first es k
parts [] k first last lt run = absurd (omega arith)
parts (e ∷ es) zero first last lt run = record { mid = first; event = e; after = run.0; run = refl; there = refl; happens = run.1 }
parts (e ∷ es) (suc k) first last lt run =
    let rest = parts es k run.0 last (omega arith) run.2 in
    record {
      mid = rest.mid;
      event = rest.event;
      after = rest.after;
      run = (run.0, run.1, rest.run);
      there = rest.there;
      happens = rest.happens;
    }

pub never_both : (first last : State) (es : List Event) (n : ℕ) → IsRun first es last → BreaksAt first es n → ⊥
never_both first last es n run broken =
    let lt : n - 1 < length es = omega (arith, broken.positive, broken.within) in
    let p = parts es (n - 1) first last lt run in
    let same : p.mid ≡ broken.before = run_once (take (n - 1) es) first p.mid broken.before p.run broken.run in
    broken.stops p.event p.there p.after (subst (λ (g : State). EventHappens g p.event p.after) same p.happens)
