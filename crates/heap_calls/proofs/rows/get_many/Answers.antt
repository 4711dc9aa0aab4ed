use Rattle.std.proofs.Common.{rules}
use Rattle.heap_steps.specs.Actors.{IsStep}
use Rattle.heap_calls.specs.Rows.{GetMany, last_step}
use Rattle.heap_calls.proofs.rows.get_many.Goals as goal

pub get_row-requires-clause-steps : goal.get_row-requires-clause-steps
get_row-requires-clause-steps c =
    let last : IsStep c.args.core.now.config (last_step (GetMany c.args.mutator c.args.to c.args.object c.args.field c.args.count)) =
    search rules in
    record { last = last; apart = c.is_apart.ensures.is c.if-not-is_apart.false }

pub returns : goal.returns
returns c =
    let last : IsStep c.args.core.now.config (last_step (GetMany c.args.mutator c.args.to c.args.object c.args.field c.args.count)) =
    search rules in
    record {
      takes = λ steps. c.get_row.ensures;
      not = λ none. absurd (none (record { last = last; apart = c.is_apart.ensures.is c.if-not-is_apart.false }));
    }
