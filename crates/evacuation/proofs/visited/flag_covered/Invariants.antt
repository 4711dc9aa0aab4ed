use Rattle.std.proofs.Common.{◌≡◌, ℕ, length, take}
use Rattle.std.specs.List.{list_any}
use Rattle.remembered_sets.specs.Sets.{may_lead}
use Rattle.evacuation.specs.Space.{flag}
use Rattle.evacuation.proofs.visited.flag_covered.Given as goal

abbrev pub invariant-loop-row : goal.invariant-loop-row
invariant-loop-row l = record {
  flags : (k : ℕ) → flag l.visited k ≡ list_any (λ row. may_lead l.sets row.region k) (take l.row-index l.rows);
  len : length l.visited ≡ length l.initial.visited;
}
