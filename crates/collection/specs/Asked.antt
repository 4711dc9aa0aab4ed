-- What a policy does for an object that is asked for, and at most how much of it.
use Rattle.std.specs.Prelude.{◌≡◌, ◌+◌, ◌*◌, ◌/◌, ◌≤◌, ℕ, Bool, true, false, if◌then◌else◌}
use Rattle.heap_words.specs.declared.config.Config.{Config}
use Rattle.regions.specs.Table.{free_count}
use Rattle.step_core.specs.Steps.{Event, Op, Reply}
use Rattle.heap_steps.specs.declared.step.Refusal.TheVariants as refusals
use Rattle.heap_steps.specs.declared.step.Reply.TheVariants as replies
use Rattle.graph_runs.specs.State.{State}
use Rattle.step_core.specs.Making.{HasMade}
use Rattle.step_core.specs.Stands.{CoreState, Stands}
use Rattle.collection.specs.Rooms.{IsCreatable, IsFilled}
use Rattle.collection.specs.Steps.{CollectsWithin, CollectsSome, FitsLeavingTwo, IsDue, LeavesTwo, Makes}

-- so many steps are due at most: none while words are left to ask for, else what a look takes
abbrev pub due_steps : Config → Bool → ℕ
due_steps config due = if due then config.regions + 5 else 0

-- The collector did what was due, one step at least if something was; and more only where there was no room for the object then
pub record MakesRoom {W : Type 0} (sees : W → Event → W → Type 0) (due : Bool) (begin_at : ℕ) (op : Op) (c : CoreState) (x : W)
    (c' : CoreState) (x' : W) : Type 0 where
  pub looked : CoreState
  pub seen : W
  pub look : CollectsWithin sees (due_steps c.config due) c x looked seen
  pub some : due ≡ true → IsDue c begin_at → CollectsSome sees (c.config.regions + 5) c x looked seen
  pub rest : ℕ
  pub few : rest ≤ 4 * c.config.regions + 7
  pub none : FitsLeavingTwo looked op → rest ≡ 0
  pub more : CollectsWithin sees rest looked seen c' x'

-- The same, and then the mutator's own step, or none
pub record IsPaced {W : Type 0} (sees : W → Event → W → Type 0) (due : Bool) (begin_at : ℕ) (op : Op) (reply : Reply)
    (c : CoreState) (x : W) (c' : CoreState) (x' : W) : Type 0 where
  pub core : CoreState
  pub watch : W
  pub room : MakesRoom sees due begin_at op c x core watch
  pub own : Makes sees 0 op reply core watch c' x'

-- What a policy does for an object that is asked for. A look is due or not, and so many words may be asked for before the next one, before
-- the object and after it. Nothing is due for an object that the graph doesn't create
pub record MakesByPolicy {W : Type 0} (sees : W → Event → W → Type 0) (due : Bool) (left left' begin_at : ℕ) (op : Op) (reply : Reply)
    (c : CoreState) (x : W) (c' : CoreState) (x' : W) : Type 0 where
  pub makes : Makes sees (5 * c.config.regions + 12) op reply c x c' x'
  pub paced : IsCreatable c op.action → IsPaced sees due begin_at op reply c x c' x'
  pub uncreated : (IsCreatable c op.action → ⊥) → Makes sees 0 op reply c x c' x'
  pub spent : due ≡ false → left' ≡ left
  pub renewed : due ≡ true → IsCreatable c op.action → left' ≡ c.config.words / 2
  pub full : reply ≡ replies.Refused refusals.Full → (s : State) → Stands s c → IsFilled s.graph c op.action c'
  pub two : LeavesTwo c.config op.action → 2 ≤ free_count c.table → 2 ≤ free_count c'.table
  pub made : HasMade op.mutator op.action reply c'
  pub config : c'.config ≡ c.config
