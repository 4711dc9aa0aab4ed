use Rattle.step_core.proofs.Cores.Rows.{got_more}
use Rattle.step_core.proofs.heap.Core.get_row.Goals as goal

pub loop-number-preserved : goal.loop-number-preserved
loop-number-preserved c =
    got_more c.args.self.now c.loop-number.self c.get_at.new.self c.args.mutator c.args.to c.args.object c.args.from c.args.count c.args.at
    c.loop-number.number c.requires.apart c.loop-number.invariant c.loop-number-test.true c.get_at.ensures
