use Rattle.std.proofs.Common.{Some, sym, ap, ◌∙◌}
use Rattle.regions.proofs.Words.Access.{pointer_read}
use Rattle.regions.proofs.Tiles.Within.{word_within}
use Rattle.regions.proofs.table.RegionTable.get_ptr.Goals as goal

pub get_field-requires : goal.get_field-requires
get_field-requires c =
    word_within _ _ _ _ _ c.self.invariant.written c.self.view_is
    (pointer_read _ _ _ _ _ _ c.self.invariant.table c.self.view_is c.requires).in_object

pub returns : goal.returns
returns c = (pointer_read _ _ _ _ _ _ c.self.invariant.table c.self.view_is c.requires).value ∙ ap Some (sym c.get_field.ensures)
