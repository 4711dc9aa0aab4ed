-- What a step of the collector may do to a state: it takes the snapshot, or clears by it and gives it up, or changes nothing; and so
-- it is in the judge's states, where the snapshot that is taken may be none.
use Rattle.std.proofs.Common.{◌≡◌, ◌⊎◌, Some, None, inl, inr}
use Rattle.graph_runs.specs.State.{State}
use Rattle.graph_runs.specs.Run.{ClearsBy, ChangesState}
use Rattle.graph_runs.specs.Sparing.{SparingCollects, kept_snapshot}
use Rattle.heap_steps.specs.declared.step.CollectorStep.{CollectorStep}
use Rattle.heap_steps.specs.declared.step.CollectorStep.TheVariants as collector
use Rattle.heap_steps.specs.declared.step.Reply.{Reply}
use Rattle.heap_steps.specs.declared.step.Reply.TheVariants as replies

-- two relations of states that are the same
abbrev pub Both : (State → State → Type 0) → (State → State → Type 0) → Type 0
Both P Q = (old new : State) → (P old new → Q old new) × (Q old new → P old new)

abbrev pub Taken : State → State → Type 0
Taken old new = new ≡ record { graph = old.graph; snapshot = Some old.graph }

abbrev pub TakenSparing : State → State → Type 0
TakenSparing old new = new ≡ record { graph = old.graph; snapshot = kept_snapshot old.graph }

abbrev pub GivenUp : State → State → Type 0
GivenUp old new = (new.snapshot ≡ None) × ClearsBy old.snapshot old.graph new.graph

abbrev pub Idle : State → State → Type 0
Idle old new = new ≡ old

abbrev pub Takes : CollectorStep → Reply → Type 0
Takes k r = Both (λ old new. ChangesState old k r new) Taken × Both (λ old new. SparingCollects old k r new) TakenSparing

abbrev pub GivesUp : CollectorStep → Reply → Type 0
GivesUp k r = Both (λ old new. ChangesState old k r new) GivenUp × Both (λ old new. SparingCollects old k r new) GivenUp

abbrev pub Stays : CollectorStep → Reply → Type 0
Stays k r = Both (λ old new. ChangesState old k r new) Idle × Both (λ old new. SparingCollects old k r new) Idle

same : (P : State → State → Type 0) → Both P P
same P old new = (λ c. c, λ c. c)

pub kind : (k : CollectorStep) (r : Reply) → Takes k r ⊎ (GivesUp k r ⊎ Stays k r)
kind collector.Begin replies.Done = inl (same Taken, same TakenSparing)
kind collector.Remark (replies.Marked n) = inr (inl (same GivenUp, same GivenUp))
kind _ _ = inr (inr (same Idle, same Idle))
