use Rattle.regions.proofs.Common.{arith, refl, ◌≡◌, ◌+◌, ◌-◌, ◌<◌, Filler}
use Rattle.regions.proofs.Tiles.Replaced.{filler_fits}
use Rattle.regions.proofs.Tiles.Within.{tile_within}
use Rattle.regions.proofs.Tiles.Fillers.{filler_cut}
use Rattle.regions.proofs.Cards.Entries.{front_sound}
use Rattle.regions.proofs.table.RegionTable.split_filler.Goals as goal

pub write_filler-requires : goal.write_filler-requires
write_filler-requires c =
    let f = tile_within _ _ _ _ _ c.self.invariant.written c.self.view_is c.requires.there in
    omega (arith, f, c.requires.room, c.get-kept.ensures.value, c.get-kept.ensures.positive)

pub overflow_add-behind : goal.overflow_add-behind
overflow_add-behind c =
    let f = filler_fits _ _ _ _ _ _ c.self.invariant.table c.self.view_is c.requires.there in
    omega (arith, f, c.requires.room, c.self.invariant.table.small, c.word.ensures, c.get-kept.ensures.value)

pub write_remainder-requires-clause-within : goal.write_remainder-requires-clause-within
write_remainder-requires-clause-within c =
    let f = tile_within _ _ _ _ _ c.self.invariant.written c.self.view_is c.requires.there in
    rw c.write_filler.ensures.written (omega (arith, f, c.requires.room, c.word.ensures, c.get-kept.ensures.value, c.get.ensures.value))

pub cut_front-requires-clause-within : goal.cut_front-requires-clause-within
cut_front-requires-clause-within c =
    let f = filler_fits _ _ _ _ _ _ c.self.invariant.table c.self.view_is c.requires.there in
    omega (arith, f, c.self.invariant.table.small, c.self.invariant.each_card, c.word-2.ensures, c.get-2.ensures.value)

pub cut_front-requires-clause-small : goal.cut_front-requires-clause-small
cut_front-requires-clause-small c =
    let f = filler_fits _ _ _ _ _ _ c.self.invariant.table c.self.view_is c.requires.there in
    omega (arith, f, c.self.invariant.table.small, c.word-2.ensures, c.get-2.ensures.value)

pub invariant_of-self : goal.invariant_of-self
invariant_of-self c =
    let at : c.word.result + c.get-kept.result ≡ c.args.at + c.args.size = omega (arith, c.word.ensures, c.get-kept.ensures.value) in
    let rest : c.get.result - c.get-kept.result ≡ c.args.filler - c.args.size = omega (arith, c.get.ensures.value) in
    let w = filler_cut _ _ _ _ c.args.at c.args.size c.args.filler _ _ _ _ _ c.self.invariant.table c.self.view_is
    c.requires.there (omega (arith, c.requires.room)) (omega (arith, c.get-kept.ensures.value, c.get-kept.ensures.positive))
    c.write_filler.ensures.all c.write_remainder.ensures.all at rest in
    let some : 0 < c.args.size = omega (arith, c.get-kept.ensures.value, c.get-kept.ensures.positive) in
    front_sound _ _ _ _ _ _ _ _ _ c.self.invariant c.self.view_is c.cut_front.new.self _ _ c.args.at c.args.filler
    (c.args.filler - c.args.size) (c.args.at + c.get-kept.result) (c.args.at + c.get-2.result) 0 (Filler c.args.size) c.requires.there some
    (omega (arith, c.requires.room)) tt (omega (arith, c.get-kept.ensures.value)) (omega (arith, c.get-2.ensures.value))
    (rw c.word-2.ensures at c.cut_front.ensures) refl refl (λ _. refl)
    (omega (arith, c.write_filler.ensures.written, c.write_remainder.ensures.written)) w

pub returns-clause-split : goal.returns-clause-split
returns-clause-split c =
    let at : c.word.result + c.get-kept.result ≡ c.args.at + c.args.size = omega (arith, c.word.ensures, c.get-kept.ensures.value) in
    let rest : c.get.result - c.get-kept.result ≡ c.args.filler - c.args.size = omega (arith, c.get.ensures.value) in
    (filler_cut _ _ _ _ c.args.at c.args.size c.args.filler _ _ _ _ _ c.self.invariant.table c.self.view_is c.requires.there
    (omega (arith, c.requires.room)) (omega (arith, c.get-kept.ensures.value, c.get-kept.ensures.positive))
    c.write_filler.ensures.all c.write_remainder.ensures.all at rest).table_is
