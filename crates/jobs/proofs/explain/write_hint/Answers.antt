use Rattle.jobs.proofs.Reasons.{written}
use Rattle.jobs.proofs.explain.write_hint.Goals as goal

pub returns : goal.returns
returns g c =
    let put = c.put_fault_reason-at.ensures.put in
    record {
      told = put.0;
      reason = put.1;
      written = written c.write_bytes.result _ _ _ _ put.2 c.write_bytes.ensures.ok c.write_bytes.ensures.err;
    }
