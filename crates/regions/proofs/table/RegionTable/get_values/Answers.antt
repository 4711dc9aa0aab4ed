use Rattle.std.proofs.Common.{◌∙◌}
use Rattle.regions.proofs.Cards.ValueRuns.{values_read}
use Rattle.regions.proofs.table.RegionTable.get_values.Goals as goal

pub values-requires-clause-at : goal.values-requires-clause-at
values-requires-clause-at c =
    (values_read _ _ _ _ _ _ _ _ c.self.invariant.table c.self.view_is c.self.invariant.written c.requires.object c.requires.within).at

pub values-requires-clause-object : goal.values-requires-clause-object
values-requires-clause-object c =
    (values_read _ _ _ _ _ _ _ _ c.self.invariant.table c.self.view_is c.self.invariant.written c.requires.object c.requires.within).object

pub values-requires-clause-within : goal.values-requires-clause-within
values-requires-clause-within c =
    (values_read _ _ _ _ _ _ _ _ c.self.invariant.table c.self.view_is c.self.invariant.written c.requires.object c.requires.within).within

pub returns : goal.returns
returns c =
    c.values.ensures
    ∙ (values_read _ _ _ _ _ _ _ _ c.self.invariant.table c.self.view_is c.self.invariant.written c.requires.object
    c.requires.within).values
