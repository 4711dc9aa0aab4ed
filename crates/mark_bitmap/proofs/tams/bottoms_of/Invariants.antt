use Rattle.std.proofs.Common.{◌≡◌}
use Rattle.mark_bitmap.specs.Tops.{bottoms}
use Rattle.mark_bitmap.proofs.tams.bottoms_of.Given as goal

abbrev pub invariant-loop-region : goal.invariant-loop-region
invariant-loop-region l = l.found.items ≡ bottoms l.region l.words
