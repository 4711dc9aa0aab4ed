use Rattle.regions.proofs.Tiles.Below.{words_cut}
use Rattle.regions.proofs.table.RegionTable.give_words.Goals as goal

pub invariant_of-self : goal.invariant_of-self
invariant_of-self c =
    let within = rw c.deref.ensures.value at c.used_end.ensures.within in
    let free = rw c.deref.ensures.value at c.used_end.ensures.free in
    (words_cut _ _ _ _ _ _ _ _ _ _ c.used_end.result c.self.invariant c.self.view_is within free c.give_back.ensures).0

pub returns : goal.returns
returns c =
    let within = rw c.deref.ensures.value at c.used_end.ensures.within in
    let free = rw c.deref.ensures.value at c.used_end.ensures.free in
    (words_cut _ _ _ _ _ _ _ _ _ _ c.used_end.result c.self.invariant c.self.view_is within free c.give_back.ensures).1
