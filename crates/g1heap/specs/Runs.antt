-- A script that is run in an order.
use Rattle.std.specs.Prelude.{◌≡◌, ℕ, ◌<◌, ◌≤◌, ⊤, Result}
use Rattle.heap_words.specs.declared.config.Config.{Config}
use Rattle.heap_steps.specs.Actors.{StepList, EventList}
use Rattle.script_text.specs.Watched.{Reader, Writer}
use Rattle.heap_steps.specs.Faults.{IsRunFault}
use Rattle.heap_steps.specs.declared.fault.RunFault.{RunFault}
use Rattle.heap_steps.specs.declared.fault.RunFault.TheVariants as runs
use Rattle.mutators.specs.Interleavings.{IsRunOf, IsThreadsFault}
use Rattle.mutators.specs.Draws.{scripted_actors, drawn_by}
use Rattle.mutators.specs.Rounds.{AreDrawn}
use Rattle.command_line.specs.declared.Order.{Order}
use Rattle.command_line.specs.declared.Order.TheVariants.{File, Drawn, Concurrent}
use Rattle.job_ends.specs.declared.faults.JobFault.{JobFault}
use Rattle.step_core.specs.Passages.{IsRunInOrder}
use Rattle.job_ends.specs.Runs.{Ends}

-- the numbers of background actors are in range
abbrev pub AreFew : ℕ → ℕ → Type 0
AreFew refiners markers = (refiners ≤ 8) × (markers ≤ 8)

-- the record is a run of the plan's actors, each with its own lines in their order; the seed draws who takes the next turn, background
-- actors too
pub record IsDrawnRun (seed refiners markers : ℕ) (plan : StepList) (r : EventList) : Type 0 where
  pub counts : AreFew refiners markers
  pub run : IsRunOf plan markers refiners r
  pub drawn : scripted_actors r.events ≡ drawn_by seed markers refiners plan
  pub rounds : AreDrawn seed markers refiners plan r.events

-- the numbers of workers and of background actors are in range
abbrev pub CanStart : ℕ → ℕ → ℕ → Type 0
CanStart workers refiners markers = (0 < workers) × (workers ≤ 32) × AreFew refiners markers

-- the record is a run of the plan's actors, each with its own lines in their order, in whatever turns threads came to
pub record IsThreadedRun (workers refiners markers : ℕ) (plan : StepList) (r : EventList) : Type 0 where
  pub counts : CanStart workers refiners markers
  pub run : IsRunOf plan markers refiners r

-- the record is a run of the plan, its steps done in such an order
abbrev pub MakesRecord : Order → StepList → EventList → Type 0
MakesRecord File = IsRunInOrder
MakesRecord (Drawn seed refiners markers) = IsDrawnRun seed refiners markers
MakesRecord (Concurrent workers refiners markers) = IsThreadedRun workers refiners markers

-- the faults of a run with counts: that of counts if and only if one is out of range, else others
abbrev pub IsCountedFault : Type 0 → (Config → RunFault → Type 0) → Config → RunFault → Type 0
IsCountedFault CountsSuit IsFault config runs.BadWorkers = CountsSuit → ⊥
IsCountedFault CountsSuit IsFault config fault = CountsSuit × IsFault config fault

-- the faults of a run in such an order
abbrev pub MayFail : Order → Config → RunFault → Type 0
MayFail File = IsRunFault
MayFail (Drawn seed refiners markers) = IsCountedFault (AreFew refiners markers) IsRunFault
MayFail (Concurrent workers refiners markers) = IsCountedFault (CanStart workers refiners markers) IsThreadsFault

-- How a script's run in such an order ended, by the reader and the writer before and after.
abbrev pub EndsIn : Order → Reader → Reader → Writer → Writer → Result ⊤ JobFault → Type 0
EndsIn order = Ends (MakesRecord order) (MayFail order)
