-- From what is read, what came of the run and what was written, to how it all ended.
use Rattle.std.proofs.Common.{◌≡◌, List, Err, subst, refl, sym}
use Rattle.std.specs.Prelude.{Ok, Result, ⊤, IfOk, IfErr}
use Rattle.heap_words.specs.declared.config.Config.{Config}
use Rattle.heap_words.specs.Configs.{Suits}
use Rattle.heap_steps.specs.Actors.{StepList, EventList}
use Rattle.heap_steps.specs.declared.step.Step.{Step}
use Rattle.script_text.specs.Watched.{Reader, Writer}
use Rattle.heap_steps.specs.declared.fault.RunFault.{RunFault}
use Rattle.heap_steps.specs.declared.fault.RunFault.TheVariants as runs
use Rattle.heap_steps.specs.Faults.{IsRunFault}
use Rattle.job_ends.specs.declared.faults.JobFault.{JobFault}
use Rattle.job_ends.specs.declared.faults.JobFault.TheVariants.{Run, Write}
use Rattle.job_ends.specs.Runs.{ReadsPlan, Answers, Ends}

-- a run's record is one that such a run makes, and its fault one that may come
abbrev pub Comes : (StepList → EventList → Type 0) → (Config → RunFault → Type 0) → StepList → Result EventList RunFault → Type 0
Comes Makes Fails plan (Ok r) = Makes plan r
Comes Makes Fails plan (Err fault) = Fails plan.config fault

pub ends : (Makes : StepList → EventList → Type 0) (Fails : Config → RunFault → Type 0) (plan : StepList) (given left : Reader)
    (old new : Writer) (outcome : Result EventList RunFault) (result : Result ⊤ JobFault) →
    ReadsPlan given left (Ok plan) → Comes Makes Fails plan outcome → Answers outcome old new result
    → Ends Makes Fails given left old new result
ends Makes Fails plan given left old new (Ok r) (Ok done) (input, gives, read) made written =
    (input, gives, (r, record { plan = plan; read = read; made = made }, written))
ends Makes Fails plan given left old new (Ok r) (Err (Write fault)) (input, gives, read) made fails =
    (input, gives, (r, record { plan = plan; read = read; made = made }, fails))
ends Makes Fails plan given left old new (Err fault) (Err (Run told)) (input, gives, read) may (same, keeps) =
    (input, gives, (plan, read, subst (Fails plan.config) (sym same) may), keeps)
ends Makes Fails plan given left old new _ _ read may written = absurd written

pub comes : (Makes : StepList → EventList → Type 0) (Fails : Config → RunFault → Type 0) (plan : StepList)
    (outcome : Result EventList RunFault) →
    IfOk outcome (Makes plan) → IfErr outcome (Fails plan.config) → Comes Makes Fails plan outcome
comes Makes Fails plan (Ok r) made fault = made
comes Makes Fails plan (Err f) made fault = fault

pub same_plan : (config : Config) (steps : List Step) (plan : StepList) → config ≡ plan.config → steps ≡ plan.steps
    → (record { config = config; steps = steps }) ≡ plan
same_plan config steps plan sizes lines =
    subst (λ (c : Config). (record { config = c; steps = steps }) ≡ plan) (sym sizes)
    (subst (λ (ss : List Step). (record { config = plan.config; steps = ss }) ≡ plan) (sym lines) refl)

-- want of memory, where the heap's sizes suit
pub memory_alone : {A : Type 0} (config : Config) (r : Result A RunFault) → IfErr r (λ fault. fault ≡ runs.NoMemory) → Suits config
    → IfErr r (IsRunFault config)
memory_alone config (Ok x) memory suits = tt
memory_alone config (Err e) memory suits = subst (IsRunFault config) (sym memory) suits
