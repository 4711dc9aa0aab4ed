-- A shortest way from a root to an object.
use Rattle.std.specs.Prelude.{◌≡◌, ℕ, Bool, List, Option, Some, None, is_some}
use Rattle.graph_runs.specs.State.{State}
use Rattle.step_core.specs.Stands.{CoreState, Stands}
use Rattle.heap_walk.specs.Holders.{LinksShow}
use Rattle.heap_walk.specs.Paths.{TellsWay, WaysShow}
use Rattle.heap_walk.specs.declared.holders.Holder.{Holder}
use Rattle.heap_calls.specs.Numbers.{no_heap, told}
use Rattle.heap_calls.specs.Steps.{StaysSame}
use Rattle.heap_calls.specs.declared.answer.Answer.{Answer}

-- how a count of entries is told, and that the room was spent: as Full
abbrev pub way_answer : Option ℕ → Answer
way_answer None = told 18 0 0
way_answer (Some count) = told 10 count 0

-- a search for a shortest way to the object of a name ended, or spent the room. In each graph that the heap stands for the roots and the
-- objects name what their links lead to, and the ways are those of the heap
pub record FindsWay (name : ℕ) (ended : Bool) (before after : List Holder) (c : CoreState) (answer : Answer) : Type 0 where
  pub count : Option ℕ
  pub ended_is : is_some count ≡ ended
  pub is : answer ≡ way_answer count
  pub tells : TellsWay c name before after count
  pub shows : (s : State) → Stands s c → LinksShow s.graph c
  pub ways : (s : State) → Stands s c → WaysShow s.graph c

abbrev pub FindsWayOn : Option CoreState → ℕ → Bool → List Holder → List Holder → Answer → Option CoreState → Type 0
FindsWayOn None name ended before after answer left = StaysSame None no_heap answer left × (after ≡ before)
FindsWayOn (Some c) name ended before after answer left = FindsWay name ended before after c answer × (left ≡ Some c)
