use Rattle.std.proofs.Common.{arith}
use Rattle.heap_life.proofs.Rates.{near_least}
use Rattle.heap_life.proofs.pacing.part.Goals as goal

pub returns-then-size-lt18446744073709551615-clause-near : goal.returns-then-size-lt18446744073709551615-clause-near
returns-then-size-lt18446744073709551615-clause-near c other some few =
    let near = near_least c.args.whole c.max.result other (omega arith) some (omega arith) in omega arith

pub returns-else-size-lt18446744073709551615-clause-near : goal.returns-else-size-lt18446744073709551615-clause-near
returns-else-size-lt18446744073709551615-clause-near c other some few =
    let near = near_least c.args.whole c.max.result other (omega arith) some (omega arith) in omega arith
