-- No text gets two verdicts.
use Rattle.std.proofs.Common.{◌≡◌, ◌-◌, ◌<◌, ◌∷◌, ◌∙◌}
use Rattle.std.proofs.Common.{ℕ, zero, suc, inl, inr, List, [], length, take, slice_get, Some, sym, ap, subst, arith}
use Rattle.std.proofs.lemmas.Bool.{cases_order}
use Rattle.std.proofs.lemmas.List.{length-take-le, take-take}
use Rattle.heap_steps.specs.Actors.{EventList}
use Rattle.graph_runs.specs.State.{State, first_state}
use Rattle.graph_runs.specs.Run.{IsRun, BreaksAt}
use Rattle.object_graph.specs.Judged.{Judged}
use Rattle.heap_steps.specs.declared.step.Event.{Event}
use Rattle.object_graph.specs.declared.judge.Verdict.{Verdict}
use Rattle.object_graph.specs.declared.judge.Verdict.TheVariants.{Yes, No}
use Rattle.jobs.specs.Verdicts.{IsJudged}

-- no events are both a run and broken
abbrev pub NeverBoth : Type 0
NeverBoth = (first last : State) (es : List Event) (n : ℕ) → IsRun first es last → BreaksAt first es n → ⊥

-- what is in a beginning of events is in them
back : (es : List Event) (k j : ℕ) (e : Event) → slice_get (take j es) k ≡ Some e → slice_get es k ≡ Some e
back es k zero e is = absurd (cc)
back [] k (suc j) e is = is
back (x ∷ es) zero (suc j) e is = is
back (x ∷ es) (suc k) (suc j) e is = back es k j e is

-- events that break at one, and are a run up to a later one
not_later : NeverBoth → (first : State) (es : List Event) (m n : ℕ) → m < n → BreaksAt first es m → BreaksAt first es n → ⊥
not_later never first es m n lt a b =
    let from = a.positive in
    let within = b.within in
    let len : length (take (n - 1) es) ≡ n - 1 = length-take-le (n - 1) es (omega arith) in
    let fewer : take (m - 1) (take (n - 1) es) ≡ take (m - 1) es = take-take (m - 1) (n - 1) es (omega arith) in
    never first b.before (take (n - 1) es) m b.run (record {
      positive = a.positive;
      within = omega arith;
      before = a.before;
      run = rw fewer a.run;
      stops = λ e is after happens. a.stops e (back es (m - 1) (n - 1) e is) after happens;
    })

one_verdict : NeverBoth → (first : State) (es : List Event) (a b : Verdict) → Judged first es a → Judged first es b → a ≡ b
one_verdict never first es (Yes m) (Yes n) a b = ap Yes (a.0 ∙ sym b.0)
one_verdict never first es (Yes m) (No n) a b = absurd (never first a.1 es n a.2 b)
one_verdict never first es (No m) (Yes n) a b = absurd (never first b.1 es m b.2 a)
one_verdict never first es (No m) (No n) a b = elim (cases_order m n) [
  | inl same ↦ ap No same
  | inr less ↦ elim less [ inl lt ↦ absurd (not_later never first es m n lt a b) | inr lt ↦ absurd (not_later never first es n m lt b a) ]
]

pub once : NeverBoth → (input : List ℕ) (a b : Verdict) → IsJudged input a → IsJudged input b → a ≡ b
once never input a b p q =
    let both = sym p.read ∙ q.read in
    let same : p.history ≡ q.history = cc in
    one_verdict never (first_state p.history.config) p.history.events a b p.judged
    (subst (λ (r : EventList). Judged (first_state r.config) r.events b) (sym same) q.judged)
