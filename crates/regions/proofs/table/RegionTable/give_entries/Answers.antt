use Rattle.regions.proofs.Tiles.Below.{entries_cut}
use Rattle.regions.proofs.table.RegionTable.give_entries.Goals as goal

pub invariant_of-self : goal.invariant_of-self
invariant_of-self c =
    let free = rw c.deref.ensures.value at c.used_end.ensures.free in
    entries_cut _ _ _ _ _ _ _ _ _ _ c.used_end.result c.self.invariant c.self.view_is free c.give_back.ensures.card_words
    c.give_back.ensures.len c.give_back.ensures.below
