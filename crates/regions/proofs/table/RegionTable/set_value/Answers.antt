use Rattle.std.proofs.Common.{arith}
use Rattle.regions.proofs.Words.Values.{value_read, value_written}
use Rattle.regions.proofs.Cards.Entries.{value_sound}
use Rattle.regions.proofs.Tiles.Within.{word_within}
use Rattle.regions.proofs.table.RegionTable.set_value.Goals as goal

pub set_value-requires-clause-at : goal.set_value-requires-clause-at
set_value-requires-clause-at c =
    word_within _ _ _ _ _ c.self.invariant.written c.self.view_is
    (value_read _ _ _ _ _ _ c.self.invariant.table c.self.view_is c.requires).at

pub set_value-requires-clause-object : goal.set_value-requires-clause-object
set_value-requires-clause-object c = (value_read _ _ _ _ _ _ c.self.invariant.table c.self.view_is c.requires).object

pub set_value-requires-clause-within : goal.set_value-requires-clause-within
set_value-requires-clause-within c =
    word_within _ _ _ _ _ c.self.invariant.written c.self.view_is
    (value_read _ _ _ _ _ _ c.self.invariant.table c.self.view_is c.requires).in_object

pub invariant_of-self : goal.invariant_of-self
invariant_of-self c =
    value_sound _ _ _ _ _ _ _ _ _ c.self.invariant c.self.view_is _ c.args.object c.args.field c.args.value c.requires
    (omega (arith, c.set_value.ensures.written))
    (rw c.set_value.ensures.all (value_written _ _ _ _ _ _ c.args.value c.self.invariant.table c.self.view_is c.requires))

pub returns : goal.returns
returns c =
    rw c.set_value.ensures.all (value_written _ _ _ _ _ _ c.args.value c.self.invariant.table c.self.view_is c.requires).table_is
