use Rattle.std.proofs.Common.{◌∙◌}
use Rattle.regions.proofs.Words.ObjectWords.{object_there, plain_there, pointers_counted}
use Rattle.regions.proofs.Tiles.Within.{header_there}
use Rattle.regions.proofs.table.RegionTable.plain_pointer_count.Goals as goal

pub plain_pointers_in-requires : goal.plain_pointers_in-requires
plain_pointers_in-requires c =
    let h = header_there _ _ _ _ _ _ c.self.invariant.table c.self.invariant.written c.self.view_is c.requires.there in
    let o = object_there _ _ _ _ _ c.self.invariant.table c.self.view_is c.requires.there in
    record { within = h.0; object = plain_there _ _ _ _ o.1 (c.requires.bare o.0 o.1.is) }

pub returns : goal.returns
returns c =
    let o = object_there _ _ _ _ _ c.self.invariant.table c.self.view_is c.requires.there in
    c.plain_pointers_in.ensures ∙ pointers_counted _ _ _ _ o.1
