use Rattle.std.proofs.Common.{◌∙◌}
use Rattle.regions.proofs.Words.ObjectWords.{object_there}
use Rattle.regions.proofs.Tiles.Within.{header_there}
use Rattle.regions.proofs.table.RegionTable.object_size.Goals as goal

pub size_in-requires : goal.size_in-requires
size_in-requires c =
    let h = header_there _ _ _ _ _ _ c.self.invariant.table c.self.invariant.written c.self.view_is c.requires in
    record { within = h.0; object = h.1 }

pub returns : goal.returns
returns c =
    let o = object_there _ _ _ _ _ c.self.invariant.table c.self.view_is c.requires in
    c.size_in.ensures ∙ o.1.size_is
