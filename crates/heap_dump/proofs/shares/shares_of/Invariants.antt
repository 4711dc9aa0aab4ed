use Rattle.std.proofs.Common.{◌≡◌, ◌+◌}
use Rattle.regions.specs.Walks.{ArePlaced}
use Rattle.heap_dump.specs.Shares.{words_in, part_words}
use Rattle.heap_dump.specs.declared.shares.Part.TheVariants as parts
use Rattle.heap_dump.proofs.shares.shares_of.Given as goal

abbrev pub invariant-loop-at : goal.invariant-loop-at
invariant-loop-at l = record {
  are_placed : ArePlaced l.core.table l.at-iterator;
  in_marked : l.marked + words_in l.core parts.Marked l.at-iterator ≡ part_words l.core parts.Marked l.fn.region;
  in_dead : l.dead + words_in l.core parts.Dead l.at-iterator ≡ part_words l.core parts.Dead l.fn.region;
  in_new : l.new + words_in l.core parts.New l.at-iterator ≡ part_words l.core parts.New l.fn.region;
  in_filler : l.filler + words_in l.core parts.Filler l.at-iterator ≡ part_words l.core parts.Filler l.fn.region;
}
