use Rattle.regions.proofs.Common.{◌≡◌, ℕ, length, Some, slice_get, HasObject}
use Rattle.marking_tests.specs.Samples.{IsLinked}
use Rattle.marking_tests.proofs.pairs.build_maps.Given as goal

abbrev pub invariant-loop-i : goal.invariant-loop-i
invariant-loop-i l = record {
  count : length l.made.table.regions ≡ 4;
  words : l.made.table.words_per_region ≡ 16;
  linked : IsLinked l.made.table;
  objects : (i a : ℕ) → slice_get l.made.objects.items i ≡ Some a → HasObject l.made.table a;
}

abbrev pub invariant-loop-from : goal.invariant-loop-from
invariant-loop-from l = record {
  count : length l.made.table.regions ≡ 4;
  words : l.made.table.words_per_region ≡ 16;
  linked : IsLinked l.made.table;
  objects : (i a : ℕ) → slice_get l.made.objects.items i ≡ Some a → HasObject l.made.table a;
}
