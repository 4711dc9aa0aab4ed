use Rattle.std.proofs.Common.{◌≡◌, ℕ, List, Err, refl}
use Rattle.script_text.specs.Watched.{Writer}
use Rattle.script_text.specs.declared.fault.ReadFault.{ReadFault}
use Rattle.jobs.specs.Explanations.{TellsFinding}
use Rattle.jobs.specs.Verdicts.{TellsVerdict}
use Rattle.job_ends.specs.declared.faults.JobFault.{JobFault}
use Rattle.job_ends.specs.declared.faults.JobFault.TheVariants as faults
use Rattle.jobs.proofs.explain.tell_unjudged.Goals as goal

-- another fault than one of reading
other : (name : List ℕ) (old new : Writer) (fault : JobFault) (status : ℕ) → ((f : ReadFault) → fault ≡ faults.Read f → ⊥)
    → TellsVerdict old new (Err fault) status → TellsFinding name old new (Err fault) status
other name old new (faults.Read f) status not tells = absurd (not f refl)
other name old new _ status not tells = tells

pub returns-in_default : goal.returns-in_default
returns-in_default g c = other c.args.name.now c.args.err.now c.conclude_verdict.new.err c.args.fault c.conclude_verdict.result
    c.in_default.not-Read c.conclude_verdict.ensures
