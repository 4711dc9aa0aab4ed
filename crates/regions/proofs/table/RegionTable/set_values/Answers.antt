use Rattle.regions.proofs.Cards.ValueRuns.{values_read, values_set}
use Rattle.regions.proofs.table.RegionTable.set_values.Goals as goal

pub set_values-requires-clause-at : goal.set_values-requires-clause-at
set_values-requires-clause-at c =
    (values_read _ _ _ _ _ _ _ _ c.self.invariant.table c.self.view_is c.self.invariant.written c.requires.object c.requires.within).at

pub set_values-requires-clause-object : goal.set_values-requires-clause-object
set_values-requires-clause-object c =
    (values_read _ _ _ _ _ _ _ _ c.self.invariant.table c.self.view_is c.self.invariant.written c.requires.object c.requires.within).object

pub set_values-requires-clause-within : goal.set_values-requires-clause-within
set_values-requires-clause-within c =
    (values_read _ _ _ _ _ _ _ _ c.self.invariant.table c.self.view_is c.self.invariant.written c.requires.object c.requires.within).within

pub invariant_of-self : goal.invariant_of-self
invariant_of-self c =
    (values_set _ _ _ _ _ _ _ _ _ _ c.args.object c.args.from c.args.values.now c.self.invariant c.self.view_is c.requires.within
    c.set_values.ensures.written c.set_values.ensures.all).sound

pub returns : goal.returns
returns c =
    (values_set _ _ _ _ _ _ _ _ _ _ c.args.object c.args.from c.args.values.now c.self.invariant c.self.view_is c.requires.within
    c.set_values.ensures.written c.set_values.ensures.all).table_is
