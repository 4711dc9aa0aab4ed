use Rattle.std.proofs.Common.{◌∙◌}
use Rattle.regions.proofs.Words.ObjectWords.{object_there, pointers_counted}
use Rattle.regions.proofs.Tiles.Within.{header_there}
use Rattle.regions.proofs.table.RegionTable.pointer_count.Goals as goal

pub pointers_in-requires : goal.pointers_in-requires
pointers_in-requires c =
    let h = header_there _ _ _ _ _ _ c.self.invariant.table c.self.invariant.written c.self.view_is c.requires in
    record { within = h.0; object = h.1 }

pub returns : goal.returns
returns c =
    let o = object_there _ _ _ _ _ c.self.invariant.table c.self.view_is c.requires in
    c.pointers_in.ensures ∙ pointers_counted _ _ _ _ o.1
