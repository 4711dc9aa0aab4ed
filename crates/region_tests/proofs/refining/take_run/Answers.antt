use Rattle.std.proofs.Common.{refl, arith}
use Rattle.region_tests.proofs.Samples.{run_sample}
use Rattle.region_tests.proofs.refining.take_run.Goals as goal

pub returns : goal.returns
returns c =
    let e = rw (c.new.ensures, c.new-2.ensures) at c.take_run.ensures.taken in
    record {
      sample = run_sample c.args.table.now c.take_run.new.self 2 c.args.pointers 7 _
          c.law.ensures.positive (omega arith) refl e c.requires.sample;
    }
