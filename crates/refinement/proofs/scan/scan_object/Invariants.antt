use Rattle.std.proofs.Common.{◌≡◌, ◌≢◌, ◌+◌, ◌≤◌, max, ◌-◌, ℕ, Option, true}
use Rattle.heap_model.specs.Heap.{Stored}
use Rattle.regions.specs.Table.{object_at}
use Rattle.remembered_sets.specs.Sets.{may_lead}
use Rattle.remembered_sets.specs.Owed.{owed}
use Rattle.refinement.proofs.Fields.{AreInCard, IsPartly}
use Rattle.refinement.proofs.scan.scan_object.Given as goal

abbrev pub invariant-fields : goal.invariant-fields
invariant-fields l = record {
  partly : (kept : ℕ → Option Stored) → kept l.object ≡ object_at l.table l.object
      → IsPartly l.table.words_per_region kept l.card_words l.card l.object l.start l.next l.fn.sets l.sets;
  last : l.last ≢ l.home → may_lead l.sets l.last l.card ≡ true;
  lie : AreInCard l.card_words l.card l.object l.count l.start l.end;
  low : l.start ≤ l.next;
  high : l.next ≤ max l.start l.end;
  spent : l.work + owed l.sets + l.start ≤ l.fn.work + owed l.fn.sets + l.next;
}

abbrev pub decreases-fields : goal.decreases-fields
decreases-fields l = l.end - l.next
