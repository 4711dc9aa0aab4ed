use Rattle.regions.proofs.Cards.FirstTile.{IsCounted}
use Rattle.regions.proofs.table.RegionTable.search_tile.Given as goal

abbrev pub invariant-loop-at : goal.invariant-loop-at
invariant-loop-at l = IsCounted l.self l.word l.at-iterator l.initial.work l.work
