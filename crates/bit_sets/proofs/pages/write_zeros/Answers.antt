use Rattle.std.proofs.Common.{arith, IsOk}
use Rattle.bit_sets.proofs.Written.{zeros_written}
use Rattle.bit_sets.proofs.pages.write_zeros.Goals as goal

pub returns-clause-same : goal.returns-clause-same
returns-clause-same c =
    let ok : IsOk c.resize.result = c.resize.ensures.succeeds (omega arith) in
    let len = rw ok at c.resize.ensures.len in
    zeros_written c.args.words.now.items c.resize.new.self.items c.args.count (omega (arith, c.args.words.now.ok.0))
    (omega (arith, c.resize.new.self.ok.0, len))
    (λ k d h l. c.resize.ensures.by_index.0 k d h (omega (arith, l, c.args.words.now.ok.0)))
    (λ k d h l. c.resize.ensures.by_index.1 k d ok (omega (arith, h, c.args.words.now.ok.0)) l)
