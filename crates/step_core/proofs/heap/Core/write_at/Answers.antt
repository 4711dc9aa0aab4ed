use Rattle.std.proofs.Common.{arith}
use Rattle.step_core.proofs.Cores.Filling.{names_at}
use Rattle.step_core.proofs.Cores.Bare.{led_bare}
use Rattle.step_core.proofs.Mutating.Fields.{fields_exact}
use Rattle.step_core.proofs.Mutating.Near.{write_fills}
use Rattle.step_core.proofs.heap.Core.write_at.Goals as goal

pub write_known-requires-clause-names : goal.write_known-requires-clause-names
write_known-requires-clause-names c =
    names_at _ c.args.mutator c.args.object c.args.at c.law_remembers.ensures.core c.requires.mutator c.requires.object c.requires.held

pub write_known-requires-clause-fields : goal.write_known-requires-clause-fields
write_known-requires-clause-fields c =
    let core = c.law_remembers.ensures.core in
    let names = names_at _ c.args.mutator c.args.object c.args.at core c.requires.mutator c.requires.object c.requires.held in
    let count = fields_exact c.args.self.now.table c.args.at (led_bare _ _ _ core names.leads) in omega (arith, count, c.requires.fields)

pub returns : goal.returns
returns c = write_fills _ _ c.args.mutator c.args.object c.args.at c.args.field c.args.word c.law_remembers.ensures.core c.requires.field
    c.write_known.ensures.table c.write_known.ensures.does
