-- Why a run gave no record.
use Rattle.heap_words.specs.declared.config.Config.{Config}
use Rattle.heap_words.specs.Configs.{Suits, IsFirstFault}
use Rattle.heap_steps.specs.declared.fault.RunFault.{RunFault}
use Rattle.heap_steps.specs.declared.fault.RunFault.TheVariants as faults

-- the only faults of a run by itself: want of memory, where the heap's sizes suit, and their first fault
abbrev pub IsRunFault : Config → RunFault → Type 0
IsRunFault config faults.NoMemory = Suits config
IsRunFault config (faults.Heap fault) = IsFirstFault config fault
IsRunFault config _ = ⊥
