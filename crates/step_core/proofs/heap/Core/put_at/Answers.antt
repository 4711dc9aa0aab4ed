use Rattle.step_core.proofs.Cores.Filling.{names_at}
use Rattle.step_core.proofs.Mutating.Near.{put_fills}
use Rattle.step_core.proofs.heap.Core.put_at.Goals as goal

pub put_known-requires-clause-names : goal.put_known-requires-clause-names
put_known-requires-clause-names c =
    names_at _ c.args.mutator c.args.object c.args.at c.law_remembers.ensures.core c.requires.mutator c.requires.object c.requires.held

pub returns : goal.returns
returns c = put_fills _ _ c.args.mutator c.args.object c.args.at c.args.field c.args.value _ c.law_remembers.ensures.core c.requires.field
    c.put_known.ensures.table c.put_known.ensures.does
