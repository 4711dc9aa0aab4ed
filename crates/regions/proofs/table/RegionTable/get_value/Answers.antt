use Rattle.std.proofs.Common.{Some, sym, ap, ◌∙◌}
use Rattle.regions.proofs.Words.Values.{value_read}
use Rattle.regions.proofs.Tiles.Within.{word_within}
use Rattle.regions.proofs.table.RegionTable.get_value.Goals as goal

pub value-requires-clause-object : goal.value-requires-clause-object
value-requires-clause-object c = (value_read _ _ _ _ _ _ c.self.invariant.table c.self.view_is c.requires).object

pub value-requires-clause-within : goal.value-requires-clause-within
value-requires-clause-within c =
    word_within _ _ _ _ _ c.self.invariant.written c.self.view_is
    (value_read _ _ _ _ _ _ c.self.invariant.table c.self.view_is c.requires).in_object

pub returns : goal.returns
returns c = (value_read _ _ _ _ _ _ c.self.invariant.table c.self.view_is c.requires).value ∙ ap Some (sym c.value.ensures)
