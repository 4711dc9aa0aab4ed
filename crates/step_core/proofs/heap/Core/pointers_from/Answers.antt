use Rattle.std.proofs.Common.{◌∙◌, ap, arith, length}
use Rattle.regions.specs.Table.{pointers_at}
use Rattle.step_core.specs.Stands.{CoreState}
use Rattle.step_core.proofs.Cores.Bare.{fields_bare}
use Rattle.step_core.proofs.Cores.Keeping.{object_led}
use Rattle.step_core.proofs.Cores.Rows.{past_pointer}
use Rattle.step_core.proofs.heap.Core.pointers_from.Goals as goal

pub plain_pointer_count-requires : goal.plain_pointer_count-requires
plain_pointer_count-requires c = record {
  there = object_led _ _ _ _ c.self.view_is c.self.invariant c.in-Some.ensures.leads;
  bare = fields_bare _ _ _ _ c.self.view_is c.self.invariant c.in-Some.ensures.leads;
}

pub returns-then-from-clause-refused : goal.returns-then-from-clause-refused
returns-then-from-clause-refused c =
    let count = c.plain_pointer_count.ensures ∙ ap (λ (d : CoreState). length (pointers_at d.table c.in-Some.at)) c.self.view_is in
    past_pointer c.args.self.now c.args.mutator c.args.object c.in-Some.at c.args.from c.args.count c.in-Some.ensures.leads
    (omega (arith, count, c.if-from.true, c.from.ensures, c.from-2.ensures, c.from-3.ensures))
