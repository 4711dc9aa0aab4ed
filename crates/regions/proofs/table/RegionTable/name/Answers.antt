use Rattle.std.proofs.Common.{◌∙◌}
use Rattle.regions.proofs.Words.ObjectWords.{name_in, object_there, name_read}
use Rattle.regions.proofs.Tiles.Within.{word_within}
use Rattle.regions.proofs.table.RegionTable.name.Goals as goal

pub name-requires : goal.name-requires
name-requires c =
    let o = object_there _ _ _ _ _ c.self.invariant.table c.self.view_is c.requires in
    word_within _ _ _ _ _ c.self.invariant.written c.self.view_is (name_in _ _ _ o.1.is)

pub returns : goal.returns
returns c =
    let o = object_there _ _ _ _ _ c.self.invariant.table c.self.view_is c.requires in
    rw o.1.is (c.name.ensures ∙ name_read _ _ _ _ o.1)
