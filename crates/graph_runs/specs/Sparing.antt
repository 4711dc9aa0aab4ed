-- The judge keeps a snapshot only where some object had a weak slot when marking began. Else marking clears nothing, since all that
-- a mutator can come by meanwhile is reachable in the snapshot or newer.
use Rattle.std.specs.Prelude.{◌≡◌, ℕ, ⊤, List, [], ◌∷◌, Bool, true, false, Option, Some, None, length, slice_get, nat_lt, if◌then◌else◌}
use Rattle.heap_model.specs.Graph.{Graph, Object}
use Rattle.graph_runs.specs.State.{State}
use Rattle.graph_runs.specs.Since.{IsKnown}
use Rattle.graph_runs.specs.Run.{IsCollectorReply, ChangesState, Happens}
use Rattle.heap_steps.specs.declared.step.CollectorStep.{CollectorStep}
use Rattle.heap_steps.specs.declared.step.CollectorStep.TheVariants as collector
use Rattle.heap_steps.specs.declared.step.Step.{Step}
use Rattle.heap_steps.specs.declared.step.Step.TheVariants as steps
use Rattle.heap_steps.specs.declared.step.Event.{Event}
use Rattle.heap_steps.specs.declared.step.Reply.{Reply}
use Rattle.heap_steps.specs.declared.step.Reply.TheVariants as replies

-- whether some object has a weak slot
abbrev pub have_weaks : List Object → Bool
have_weaks [] = false
have_weaks (x ∷ xs) = if nat_lt 0 (length x.weaks) then true else have_weaks xs

-- the snapshot that the judge keeps when marking begins
abbrev pub kept_snapshot : Graph → Option Graph
kept_snapshot g = if have_weaks g.objects then Some g else None

-- what a step of the collector changes in the judge's state
abbrev pub SparingCollects : State → CollectorStep → Reply → State → Type 0
SparingCollects old collector.Begin replies.Done new = new ≡ record { graph = old.graph; snapshot = kept_snapshot old.graph }
SparingCollects old k reply new = ChangesState old k reply new

-- the judge's state after a step
abbrev pub SparingHappens : State → Step → Reply → State → Type 0
SparingHappens old (steps.Mutator o) reply new = Happens old (steps.Mutator o) reply new
SparingHappens old (steps.Collector k) reply new = IsCollectorReply k reply × SparingCollects old k reply new

abbrev pub SparingEvent : State → Event → State → Type 0
SparingEvent old e new = SparingHappens old e.step e.reply new

-- each weak slot holds what is reachable in the snapshot or newer, so that clearing by it changes nothing
abbrev pub HoldsKnown : Graph → Graph → Type 0
HoldsKnown s g = (k i n : ℕ) (x : Object) → slice_get g.objects k ≡ Some x → slice_get x.weaks i ≡ Some (Some n) → IsKnown s n

-- the judge's snapshot stands for the machine's
abbrev pub Spares : Graph → Option Graph → Option Graph → Type 0
Spares g None None = ⊤
Spares g (Some t) (Some s) = t ≡ s
Spares g None (Some s) = HoldsKnown s g
Spares g (Some t) None = ⊥

-- the judge's state stands for the machine's
pub record StandsFor (judge machine : State) : Type 0 where
  pub graph : judge.graph ≡ machine.graph
  pub snapshot : Spares machine.graph judge.snapshot machine.snapshot
