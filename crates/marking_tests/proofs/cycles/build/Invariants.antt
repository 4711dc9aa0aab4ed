use Rattle.regions.proofs.Common.{◌≡◌, ℕ, length, Some, slice_get, HasObject}
use Rattle.marking_tests.specs.Samples.{IsLinked}
use Rattle.marking_tests.proofs.cycles.build.Given as goal

abbrev pub invariant-loop : goal.invariant-loop
invariant-loop l = record {
  count : length l.table.regions ≡ 4;
  words : l.table.words_per_region ≡ 16;
  linked : IsLinked l.table;
}

abbrev pub invariant-loop-i : goal.invariant-loop-i
invariant-loop-i l = record {
  count : length l.table.regions ≡ 4;
  words : l.table.words_per_region ≡ 16;
  linked : IsLinked l.table;
  objects : (i a : ℕ) → slice_get l.objects.items i ≡ Some a → HasObject l.table a;
}

abbrev pub invariant-loop-from : goal.invariant-loop-from
invariant-loop-from l = record {
  count : length l.table.regions ≡ 4;
  words : l.table.words_per_region ≡ 16;
  linked : IsLinked l.table;
  objects : (i a : ℕ) → slice_get l.objects.items i ≡ Some a → HasObject l.table a;
}
