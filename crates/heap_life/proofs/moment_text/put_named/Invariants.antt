use Rattle.std.proofs.Common.{◌≤◌, ◌-◌, length, take, drop}
use Rattle.std.specs.List.{flat_map}
use Rattle.heap_dump.specs.Lists.{named}
use Rattle.heap_life.specs.Telling.{root_text}
use Rattle.heap_dump.proofs.Putting.{Leads}
use Rattle.heap_life.proofs.moment_text.put_named.Given as goal

abbrev pub invariant-loop-place : goal.invariant-loop-place
invariant-loop-place l = record {
  few : l.count ≤ 64;
  leads : Leads l.initial.text l.text (flat_map root_text (take (64 - l.count) (named l.from (drop l.from l.roots.words))))
      (flat_map root_text (take 64 (named 0 l.roots.words)));
}

abbrev pub decreases-loop-place : goal.decreases-loop-place
decreases-loop-place l = length l.roots.words - l.from
