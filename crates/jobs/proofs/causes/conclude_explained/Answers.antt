use Rattle.std.proofs.Common.{◌≡◌, ◌∙◌, ◌++◌, ℕ, List, ap, refl, take}
use Rattle.job_ends.specs.FaultLines.{fault_line}
use Rattle.jobs.proofs.Reasons.{written}
use Rattle.jobs.proofs.causes.conclude_explained.Goals as goal

pub returns-in-Err : goal.returns-in-Err
returns-in-Err g c =
    let told = c.put_reason-at.ensures.put in
    let whole : take c.put_reason-at.result c.put_reason-at.new.buffer ≡ fault_line c.in-Err.fault ++ told.0 =
    told.2 ∙ ap (λ (t : List ℕ). t ++ told.0) c.put_fault_line-at.ensures.put in
    rw c.in-Err.is (
      refl,
      (
        told.0,
        told.1,
        written c.write_bytes.result _ _ _ _ whole c.write_bytes.ensures.ok c.write_bytes.ensures.err,
      ),
    )
