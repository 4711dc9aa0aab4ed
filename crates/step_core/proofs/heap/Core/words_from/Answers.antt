use Rattle.std.proofs.Common.{◌∙◌, ap, arith, length}
use Rattle.regions.specs.Table.{values_at}
use Rattle.step_core.specs.Stands.{CoreState}
use Rattle.step_core.proofs.Cores.Keeping.{object_led}
use Rattle.step_core.proofs.Cores.Rows.{past_word}
use Rattle.step_core.proofs.heap.Core.words_from.Goals as goal

pub value_count-requires : goal.value_count-requires
value_count-requires c = object_led _ _ _ _ c.self.view_is c.self.invariant c.in-Some.ensures.leads

pub returns-then-from-clause-refused : goal.returns-then-from-clause-refused
returns-then-from-clause-refused c =
    let count = c.value_count.ensures ∙ ap (λ (d : CoreState). length (values_at d.table c.in-Some.at)) c.self.view_is in
    past_word c.args.self.now c.args.mutator c.args.object c.in-Some.at c.args.from c.args.count c.in-Some.ensures.leads
    (omega (arith, count, c.if-from.true, c.from.ensures, c.from-2.ensures, c.from-3.ensures))
