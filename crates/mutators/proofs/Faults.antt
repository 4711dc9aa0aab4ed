-- A run's own faults aren't those of counts.
use Rattle.std.proofs.Common.{◌≡◌, ◌≢◌, subst, ◌↔◌, Err, IfErr, Ok, Result}
use Rattle.heap_words.specs.Configs.{Suits}
use Rattle.heap_words.specs.declared.config.Config.{Config}
use Rattle.heap_steps.specs.declared.fault.RunFault.{RunFault}
use Rattle.heap_steps.specs.declared.fault.RunFault.TheVariants as faults
use Rattle.heap_steps.specs.Faults.{IsRunFault}
use Rattle.mutators.specs.Interleavings.{IsThreadsFault}

pub not_bad : (config : Config) (f : RunFault) → IsRunFault config f → f ≡ faults.BadWorkers → ⊥
not_bad config f is same = subst (IsRunFault config) same is

pub bad_exactly : {A P : Type 0} (config : Config) (f : RunFault) (r : Result A RunFault) → r ≡ Err f → IsRunFault config f
    → (P → ⊥) → (r ≡ Err faults.BadWorkers) ↔ P
bad_exactly {A} {P} config f r fails is none = (λ same. let both = fails in absurd (not_bad config f is (cc)), λ p. absurd (none p))

pub threads_fault : (config : Config) (f : RunFault) → IsRunFault config f → IsThreadsFault config f
threads_fault config faults.NoWorker is = absurd is
threads_fault config faults.Unfinished is = absurd is
threads_fault config _ is = is

-- what runs once the counts are in range doesn't answer that they aren't
pub never_bad : {A P : Type 0} (config : Config) (r : Result A RunFault) → IfErr r (λ f. Suits config → IsThreadsFault config f)
    → Suits config → (P → ⊥) → (r ≡ Err faults.BadWorkers) ↔ P
never_bad {A} {P} config (Ok a) h suits none = (λ same. absurd (cc), λ p. absurd (none p))
never_bad {A} {P} config (Err f) h suits none =
    (λ same. let is : f ≡ faults.BadWorkers = cc in absurd (subst (IsThreadsFault config) is (h suits)), λ p. absurd (none p))

pub its_fault : {A : Type 0} (config : Config) (r : Result A RunFault) → IfErr r (λ f. Suits config → IsThreadsFault config f)
    → Suits config → IfErr r (λ f. f ≢ faults.BadWorkers → IsThreadsFault config f)
its_fault {A} config (Ok a) h suits = h
its_fault {A} config (Err f) h suits = λ other. h suits
