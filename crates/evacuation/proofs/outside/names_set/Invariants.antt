use Rattle.std.proofs.Common.{◌≡◌, ◌<◌, ◌≤◌, ◌-◌, ℕ, Some, false}
use Rattle.std.specs.Prelude.{slice_get}
use Rattle.regions.specs.Table.{fields_at}
use Rattle.refinement.proofs.Fields.{AreInCard}
use Rattle.evacuation.specs.Turns.{in_set}
use Rattle.evacuation.proofs.outside.names_set.Given as goal

abbrev pub ghost-is_inside : goal.ghost-is_inside
ghost-is_inside g a = g.pause

abbrev pub invariant-fields : goal.invariant-fields
invariant-fields g l = record {
  lie : AreInCard l.fn.context.card_words l.fn.card l.fn.at l.count l.start l.end;
  low : l.start ≤ l.field;
  outside : (i a : ℕ) → l.start ≤ i → i < l.field → slice_get (fields_at l.fn.table l.fn.at) i ≡ Some (Some a) → in_set g.pause a ≡ false;
}

abbrev pub decreases-fields : goal.decreases-fields
decreases-fields g l = l.end - l.field
