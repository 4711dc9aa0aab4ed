use Rattle.std.proofs.Common.{arith, IsOk}
use Rattle.cards.proofs.Flagged.{clear_written}
use Rattle.cards.proofs.flags.write_clear.Goals as goal

pub returns-clause-all : goal.returns-clause-all
returns-clause-all c =
    let ok : IsOk c.resize.result = c.resize.ensures.succeeds (omega arith) in
    let len = rw ok at c.resize.ensures.len in
    clear_written c.args.items.now.items c.resize.new.self.items c.args.count c.min-end.result (omega (arith, c.args.items.now.ok.0))
    (omega (arith, c.resize.new.self.ok.0, len)) (omega arith)
    (λ k d h l. c.resize.ensures.by_index.0 k d h (omega (arith, l, c.args.items.now.ok.0)))
    (λ k d h l. c.resize.ensures.by_index.1 k d ok (omega (arith, h, c.args.items.now.ok.0)) l)
