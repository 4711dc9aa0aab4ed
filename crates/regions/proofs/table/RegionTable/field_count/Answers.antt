use Rattle.std.proofs.Common.{◌∙◌}
use Rattle.regions.proofs.Words.ObjectWords.{object_there}
use Rattle.regions.proofs.Words.FieldAccess.{header_fields}
use Rattle.regions.proofs.Tiles.Within.{header_there}
use Rattle.regions.proofs.table.RegionTable.field_count.Goals as goal

pub fields_in-requires : goal.fields_in-requires
fields_in-requires c =
    let h = header_there _ _ _ _ _ _ c.self.invariant.table c.self.invariant.written c.self.view_is c.requires in
    record { within = h.0; object = h.1 }

pub returns : goal.returns
returns c =
    let o = object_there _ _ _ _ _ c.self.invariant.table c.self.view_is c.requires in
    c.fields_in.ensures ∙ header_fields _ _ _ _ o.1
