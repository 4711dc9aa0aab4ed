-- The rounds of a schedule, with the turns of background actors.
use Rattle.std.specs.Prelude.{◌≡◌, ◌+◌, ◌-◌, ◌%◌, ◌≤◌, ◌⊎◌, if◌then◌else◌}
use Rattle.std.specs.Prelude.{ℕ, zero, suc, Bool, true, false, List, [], None, slice_index, nat_lt}
use Rattle.step_core.specs.Steps.{Actor, Event}
use Rattle.heap_steps.specs.declared.step.Actor.TheVariants.{Marker, Refiner}
use Rattle.heap_steps.specs.Actors.{StepList}
use Rattle.step_core.specs.Passages.{RunsTo}
use Rattle.rand_pcg.specs.Lcg.{Lcg, started, increment_of}
use Rattle.rand_pcg.specs.Pcg.{multiplier_64, pcg32}
use Rattle.mutators.specs.Scripts.{scripted, lines_of}
use Rattle.mutators.specs.Journals.{JournalState, mutators_of, script_at}
use Rattle.mutators.specs.Turns.{TakesTurn, next_step}
use Rattle.mutators.specs.Draws.{after_round, has_background, lefts_of, pick, total}

-- the background actor at a place: markers by number, then refiners
abbrev pub background : ℕ → ℕ → Actor
background markers place = if nat_lt place markers then Marker place else Refiner (place - markers)

-- the background actor that a word picks
abbrev pub background_by : ℕ → ℕ → ℕ → Actor
background_by word markers refiners = background markers (word % (markers + refiners))

-- an actor's turn: its next step is done, or it has none and nothing changes
abbrev pub HasTurn : JournalState → JournalState → Actor → Type 0
HasTurn d e a = TakesTurn d e a ⊎ ((next_step d a ≡ None) × (e ≡ d))

-- its turn, where there is one
abbrev pub HasTurnIf : Bool → JournalState → JournalState → Actor → Type 0
HasTurnIf true d e a = HasTurn d e a
HasTurnIf false d e a = e ≡ d

-- A round: the scripted actor that a word picks, of those with lines left, does its next line. Then, where there are background actors, the
-- one that another word picks has its turn
pub record TakesRound (next : Lcg → ℕ × Lcg) (markers refiners : ℕ) (d : JournalState) (g : Lcg) (e : JournalState) (h : Lcg) : Type 0 where
  pub between : JournalState
  pub line : TakesTurn d between (scripted (mutators_of d) (pick (next g).0 (lefts_of d)))
  pub beside : HasTurnIf (has_background markers refiners) between e (background_by (next (next g).1).0 markers refiners)
  pub words : h ≡ after_round next (has_background markers refiners) g

-- so many rounds, one after another
abbrev pub TakesRounds : (Lcg → ℕ × Lcg) → ℕ → ℕ → ℕ → JournalState → Lcg → JournalState → Lcg → Type 0
TakesRounds next markers refiners zero d g e h = (e ≡ d) × (h ≡ g)
TakesRounds next markers refiners (suc n) d g e h =
    (d' : JournalState) × (g' : Lcg) × TakesRound next markers refiners d g d' g' × TakesRounds next markers refiners n d' g' e h

-- the generator of a seed
abbrev pub seeded : ℕ → Lcg
seeded seed = started 64 multiplier_64 seed (increment_of 64 54)

-- a new journal of a plan: a new heap, each script at its beginning, and no events
pub record IsNewOf (plan : StepList) (j : JournalState) : Type 0 where
  pub config : j.core.config ≡ plan.config
  pub runs : RunsTo plan.config [] j.core
  pub scripts : (k : ℕ) → k ≤ plan.config.mutators → script_at j k ≡ lines_of (scripted plan.config.mutators k) plan.steps
  pub places : (k : ℕ) → slice_index j.places k ≡ 0
  pub events : j.events ≡ []

-- the events come of a new journal of the plan by rounds that the words of a seed draw, as many as the scripts have lines
pub record AreDrawn (seed markers refiners : ℕ) (plan : StepList) (es : List Event) : Type 0 where
  pub first : JournalState
  pub new : IsNewOf plan first
  pub last : JournalState
  pub rest : Lcg
  pub rounds : TakesRounds pcg32 markers refiners (total (lefts_of first)) first (seeded seed) last rest
  pub events : es ≡ last.events
