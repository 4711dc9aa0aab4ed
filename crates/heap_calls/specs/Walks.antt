-- The objects that a heap keeps, and who names one, told one after another.
use Rattle.std.specs.Prelude.{◌≡◌, ℕ, List, Option, Some, None}
use Rattle.graph_runs.specs.State.{State}
use Rattle.step_core.specs.Stands.{CoreState, Stands}
use Rattle.heap_walk.specs.Walks.{EntriesShow, TellsObjects}
use Rattle.heap_walk.specs.Holders.{LinksShow, TellsHolders}
use Rattle.heap_walk.specs.declared.objects.Entry.{Entry}
use Rattle.heap_walk.specs.declared.holders.Holder.{Holder}
use Rattle.heap_calls.specs.Numbers.{no_heap, told}
use Rattle.heap_calls.specs.Steps.{StaysSame}
use Rattle.heap_calls.specs.declared.answer.Answer.{Answer}

-- a buffer takes the entries of kept objects, from an address on to below another, and the answer counts them. Of each graph that the heap
-- stands for they are the entries
pub record Walks (from to : ℕ) (before after : List Entry) (c : CoreState) (answer : Answer) : Type 0 where
  pub count : ℕ
  pub is : answer ≡ told 10 count 0
  pub tells : TellsObjects c from to before after count
  pub shows : (s : State) → Stands s c → EntriesShow s.graph c

-- what a call tells of a heap, which stays as it was; where there is none, the cursor and the buffer do too
abbrev pub WalksOn : Option CoreState → ℕ → ℕ → List Entry → List Entry → Answer → Option CoreState → Type 0
WalksOn None from to before after answer left = StaysSame None no_heap answer left × (to ≡ from) × (after ≡ before)
WalksOn (Some c) from to before after answer left = Walks from to before after c answer × (left ≡ Some c)

-- a buffer takes the entries of who names the object of a name, from a place on to below another, and the answer counts them. In each graph
-- that the heap stands for the roots and the objects name what their links lead to
pub record Finds (name from to : ℕ) (before after : List Holder) (c : CoreState) (answer : Answer) : Type 0 where
  pub count : ℕ
  pub is : answer ≡ told 10 count 0
  pub tells : TellsHolders c name from to before after count
  pub shows : (s : State) → Stands s c → LinksShow s.graph c

abbrev pub FindsOn : Option CoreState → ℕ → ℕ → ℕ → List Holder → List Holder → Answer → Option CoreState → Type 0
FindsOn None name from to before after answer left = StaysSame None no_heap answer left × (to ≡ from) × (after ≡ before)
FindsOn (Some c) name from to before after answer left = Finds name from to before after c answer × (left ≡ Some c)
