-- What came of a run with counts, as one fact of its outcome.
use Rattle.std.proofs.Common.{◌≡◌, ◌≢◌, ◌<◌, ◌≤◌, ◌⊎◌, ℕ, Err, arith, refl, inl, inr}
use Rattle.std.specs.Prelude.{◌↔◌, Ok, Result, IfOk, IfErr}
use Rattle.heap_words.specs.declared.config.Config.{Config}
use Rattle.heap_steps.specs.Actors.{StepList, EventList}
use Rattle.heap_steps.specs.declared.fault.RunFault.{RunFault}
use Rattle.heap_steps.specs.declared.fault.RunFault.TheVariants as runs
use Rattle.heap_steps.specs.Faults.{IsRunFault}
use Rattle.mutators.specs.Interleavings.{IsRunOf, IsThreadsFault}
use Rattle.mutators.specs.Draws.{scripted_actors, drawn_by}
use Rattle.mutators.specs.Rounds.{AreDrawn}
use Rattle.job_ends.proofs.Endings.{Comes}
use Rattle.g1heap.specs.Runs.{AreFew, CanStart, IsDrawnRun, IsThreadedRun, IsCountedFault}

pub within : (k n : ℕ) → (k < n → ⊥) → n ≤ k
within k n not_over = omega (arith, not_over)

-- where a run fails by its counts exactly if they are over, and they suit exactly if they aren't
pub comes_counted : {Over Suit : Type 0} (Runs MakesRecord : StepList → EventList → Type 0) (IsFault : Config → RunFault → Type 0)
    (plan : StepList) (outcome : Result EventList RunFault) →
    IfOk outcome (Runs plan) → (outcome ≡ Err runs.BadWorkers) ↔ Over → (Over → Suit → ⊥) → ((Over → ⊥) → Suit) →
    IfErr outcome (λ f. f ≢ runs.BadWorkers → IsFault plan.config f) → ((r : EventList) → Suit → Runs plan r → MakesRecord plan r)
    → Comes MakesRecord (IsCountedFault Suit IsFault) plan outcome
comes_counted Runs MakesRecord IsFault plan (Ok r) run bad clash suits fault makes = makes r (suits
    (λ over. let same = bad.1 over in cc)) run
comes_counted Runs MakesRecord IsFault plan (Err runs.BadWorkers) run bad clash suits fault makes = clash (bad.0 refl)
comes_counted Runs MakesRecord IsFault plan (Err runs.NoMemory) run bad clash suits fault makes =
    (suits (λ over. let same = bad.1 over in cc), fault (λ same. cc))
comes_counted Runs MakesRecord IsFault plan (Err runs.NoWorker) run bad clash suits fault makes =
    (suits (λ over. let same = bad.1 over in cc), fault (λ same. cc))
comes_counted Runs MakesRecord IsFault plan (Err runs.Unfinished) run bad clash suits fault makes =
    (suits (λ over. let same = bad.1 over in cc), fault (λ same. cc))
comes_counted Runs MakesRecord IsFault plan (Err (runs.Heap f)) run bad clash suits fault makes =
    (suits (λ over. let same = bad.1 over in cc), fault (λ same. cc))

abbrev pub IsOver : ℕ → ℕ → Type 0
IsOver refiners markers = (8 < refiners) ⊎ (8 < markers)

pub both_suit : (refiners markers : ℕ) → (IsOver refiners markers → ⊥) → AreFew refiners markers
both_suit refiners markers not_over = (within 8 refiners (λ over. not_over (inl over)), within 8 markers (λ over. not_over (inr over)))

pub all_suit : (workers refiners markers : ℕ) → ((workers ≡ 0) ⊎ (32 < workers) ⊎ IsOver refiners markers → ⊥)
    → CanStart workers refiners markers
all_suit workers refiners markers not_over =
    let some : workers ≢ 0 = λ none. not_over (inl none) in
    let background = both_suit refiners markers (λ over. not_over (inr (inr over))) in
    (omega (arith, some), within 32 workers (λ over. not_over (inr (inl over))), background)

-- the record of a run is one that the seed drew
abbrev pub IsDrawn : ℕ → ℕ → ℕ → StepList → EventList → Type 0
IsDrawn seed refiners markers plan r = IsRunOf plan markers refiners r × (scripted_actors r.events ≡ drawn_by seed markers refiners plan)
    × AreDrawn seed markers refiners plan r.events

all_ok : (P Q R : EventList → Type 0) (outcome : Result EventList RunFault) → IfOk outcome P → IfOk outcome Q → IfOk outcome R
    → IfOk outcome (λ r. P r × Q r × R r)
all_ok P Q R (Ok r) p q s = (p, q, s)
all_ok P Q R (Err f) p q s = tt

-- what `simulate` says
pub comes_drawn : (plan : StepList) (seed refiners markers : ℕ) (outcome : Result EventList RunFault)
    → IfOk outcome (IsRunOf plan markers refiners) →
    IfOk outcome (λ r. scripted_actors r.events ≡ drawn_by seed markers refiners plan)
    → IfOk outcome (λ r. AreDrawn seed markers refiners plan r.events)
    → (outcome ≡ Err runs.BadWorkers) ↔ IsOver refiners markers →
    IfErr outcome (λ f. f ≢ runs.BadWorkers → IsRunFault plan.config f)
    → Comes (IsDrawnRun seed refiners markers) (IsCountedFault (AreFew refiners markers) IsRunFault) plan outcome
comes_drawn plan seed refiners markers outcome run drawn rounds bad fault =
    comes_counted (IsDrawn seed refiners markers) (IsDrawnRun seed refiners markers) IsRunFault plan outcome
    (all_ok (IsRunOf plan markers refiners) (λ r. scripted_actors r.events ≡ drawn_by seed markers refiners plan)
    (λ r. AreDrawn seed markers refiners plan r.events) outcome run drawn rounds) bad
    (λ over suits. omega (arith, over, suits)) (both_suit refiners markers) fault
    (λ r suit is. record { counts = suit; run = is.0; drawn = is.1; rounds = is.2 })

-- what `run_threads` says
pub comes_threaded : (plan : StepList) (workers refiners markers : ℕ) (outcome : Result EventList RunFault)
    → IfOk outcome (IsRunOf plan markers refiners) →
    (outcome ≡ Err runs.BadWorkers) ↔ ((workers ≡ 0) ⊎ (32 < workers) ⊎ IsOver refiners markers) →
    IfErr outcome (λ f. f ≢ runs.BadWorkers → IsThreadsFault plan.config f) →
    Comes (IsThreadedRun workers refiners markers) (IsCountedFault (CanStart workers refiners markers) IsThreadsFault) plan outcome
comes_threaded plan workers refiners markers outcome run bad fault =
    comes_counted (λ p r. IsRunOf p markers refiners r) (IsThreadedRun workers refiners markers) IsThreadsFault plan outcome run bad
    (λ over suits. omega (arith, over, suits)) (all_suit workers refiners markers) fault (λ r suit is. record { counts = suit; run = is })
