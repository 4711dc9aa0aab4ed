use Rattle.std.proofs.Common.{◌≡◌, arith}
use Rattle.text_tests.proofs.records.check_told.Goals as goal

pub put_line-requires-clause-few : goal.put_line-requires-clause-few
put_line-requires-clause-few g c =
    let none : c.in_ok-lines.lines.events ≡ 0 = (c.in_ok-lines.ensures c.new-writer.result).counted in
    omega arith
