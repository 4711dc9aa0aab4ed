-- What the parts of a mutator's step promise.
use Rattle.std.specs.Prelude.{◌≡◌, ℕ, Option, Some, length}
use Rattle.heap_model.specs.Graph.{Graph}
use Rattle.heap_model.specs.Heap.{IsRoot, IsShown}
use Rattle.heap_model.specs.Weak.{touched, KeepsUnreached}
use Rattle.regions.specs.Table.{pointers_at, weaks_at, values_at}
use Rattle.marker.specs.Steps.{Overwrites}
use Rattle.graph_runs.specs.Run.{snapshot_after}
use Rattle.graph_runs.specs.State.{ForSnapshot, register_place, root_at, with_root}
use Rattle.graph_runs.specs.Machine.{stored}
use Rattle.step_core.specs.Steps.{Action, Register, Reply, Step}
use Rattle.heap_steps.specs.declared.step.Action.TheVariants as actions
use Rattle.heap_steps.specs.declared.step.Reply.TheVariants as replies
use Rattle.step_core.specs.Stands.{CoreState, IsRootWord, IsWordOf, KeepsFrom, Leads, ShowsGraph, heap_of, root_counts_of}
use Rattle.step_core.specs.Answers.{Acts}
use Rattle.step_core.specs.Cycle.{LeavesRegions}
use Rattle.step_core.specs.Mutators.{ActsOn, register_of, root_of, value_of, with_root_word}
use Rattle.step_core.specs.Words.{Takes}

-- a root place holds the word: it is nil or names an object, and is what the graph has there
pub record HoldsRoot (c : CoreState) (place : ℕ) (w : Option ℕ) : Type 0 where
  pub value : w ≡ root_of c place
  pub word : IsWordOf (heap_of c) w
  pub rooted : IsRootWord (heap_of c) w
  pub leads : Leads c place w
  pub shows : (g : Graph) → ShowsGraph g c → IsShown (heap_of c) w (root_at g place)

-- a mutator's register holds it
pub record HoldsRegister (c : CoreState) (m : ℕ) (r : Register) (w : Option ℕ) : Type 0 where
  pub value : w ≡ register_of c m r
  pub word : IsWordOf (heap_of c) w
  pub rooted : IsRootWord (heap_of c) w
  pub leads : Leads c (register_place (root_counts_of c.config) m r.number) w
  pub shows : (g : Graph) → ShowsGraph g c → IsShown (heap_of c) w (root_at g (register_place g.places m r.number))

-- it is what a mutator stores: nil, or what a register holds
pub record HoldsValue (c : CoreState) (m : ℕ) (source : Option Register) (w : Option ℕ) : Type 0 where
  pub value : w ≡ value_of c m source
  pub word : IsWordOf (heap_of c) w
  pub rooted : IsRootWord (heap_of c) w
  pub shows : (g : Graph) → ShowsGraph g c → IsShown (heap_of c) w (stored g m source)

-- a mutator's register names the object at an address
pub record NamesAt (c : CoreState) (m : ℕ) (object : Register) (a : ℕ) : Type 0 where
  pub held : register_of c m object ≡ Some a
  pub rooted : IsRoot (heap_of c) a
  pub leads : Leads c (register_place (root_counts_of c.config) m object.number) (Some a)

-- a root place takes a word, and nothing else changes
pub record SetsRoot (place : ℕ) (w : Option ℕ) (c c' : CoreState) : Type 0 where
  pub keeps : (s : Graph) → KeepsFrom s c → KeepsFrom s c'
  pub after : c' ≡ with_root_word c place w
  pub leaves : LeavesRegions c c'

-- a mutator's register takes what it read from a weak slot: a snapshot is kept with the name touched, and while marking runs it is saved
pub record Touches (m : ℕ) (to : Register) (w : Option ℕ) (c c' : CoreState) : Type 0 where
  pub shows : (g : Graph) (v : Option ℕ) → ShowsGraph g c → IsShown (heap_of c) w v
      → ShowsGraph (with_root g (register_place g.places m to.number) v) c'
  pub keeps : (s g : Graph) (v : Option ℕ) → ShowsGraph g c → KeepsUnreached s g → IsShown (heap_of c) w v → KeepsFrom s c
      → KeepsFrom (touched s v) c'
  pub core : c' ≡ record (with_root_word c (register_place (root_counts_of c.config) m to.number) w) { marker = c'.marker }
  pub marker : Overwrites c.marker.running c.table m w c.marker c'.marker
  pub leaves : LeavesRegions c c'

-- a register takes what a weak slot shows, or that is refused: the reply is the graph's, a snapshot is kept with the replied name touched,
-- and the core is what the step makes of it
pub record GetsWeak (m : ℕ) (to object : Register) (slot : ℕ) (reply : Reply) (c c' : CoreState) : Type 0 where
  pub acts : (g : Graph) → ShowsGraph g c → Acts g m (actions.GetWeak to object slot) reply c'
  pub keeps : (s g : Graph) → ShowsGraph g c → KeepsUnreached s g → KeepsFrom s c
      → ForSnapshot (snapshot_after (Some s) (actions.GetWeak to object slot) reply) (λ t. KeepsFrom t c')
  pub after : ActsOn m (actions.GetWeak to object slot) reply c c'
  pub leaves : LeavesRegions c c'

-- an action is done, or refused: the reply is the graph's, a snapshot is kept, and the core is what the action makes of it
pub record DoesAction (m : ℕ) (a : Action) (reply : Reply) (c c' : CoreState) : Type 0 where
  pub acts : (g : Graph) → ShowsGraph g c → Acts g m a reply c'
  pub keeps : (s : Graph) → KeepsFrom s c → KeepsFrom s c'
  pub after : ActsOn m a reply c c'
  pub leaves : LeavesRegions c c'

-- a step stores into a field of the object at an address: roots and sizes stay, and the object has as many fields as before
pub record FillsField (c : CoreState) (step : Step) (a : ℕ) (d : CoreState) : Type 0 where
  pub takes : Takes c step replies.Done d
  pub roots : d.roots ≡ c.roots
  pub config : d.config ≡ c.config
  pub pointers : length (pointers_at d.table a) ≡ length (pointers_at c.table a)
  pub weaks : length (weaks_at d.table a) ≡ length (weaks_at c.table a)
  pub values : length (values_at d.table a) ≡ length (values_at c.table a)
