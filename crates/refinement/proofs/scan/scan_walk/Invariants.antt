use Rattle.std.proofs.Common.{◌≡◌, ◌≢◌, ◌+◌, true}
use Rattle.mark_bitmap.specs.Kept.{kept_in}
use Rattle.remembered_sets.specs.Sets.{may_lead}
use Rattle.remembered_sets.specs.Owed.{owed}
use Rattle.refinement.specs.Refining.{AddsCard}
use Rattle.refinement.proofs.Counted.{IsCount}
use Rattle.refinement.proofs.Scanned.{IsTurn}
use Rattle.refinement.proofs.Turns.{IsSpent}
use Rattle.refinement.proofs.scan.scan_walk.Given as goal

abbrev pub invariant-loop-at : goal.invariant-loop-at
invariant-loop-at l = record {
  adds : AddsCard l.table.words_per_region (kept_in l.table l.tams l.marks) l.card_words l.card l.fn.sets l.sets;
  turn : IsTurn l.table (kept_in l.table l.tams l.marks) l.card_words l.card l.fn.first (may_lead l.sets) l.at-iterator;
  count : IsCount l.card_words l.card l.looked l.at-iterator;
  spent : IsSpent l.card_words l.card (l.fn.work + owed l.fn.sets) (l.work + owed l.sets) l.at-iterator;
  last : l.last ≢ l.home → may_lead l.sets l.last l.card ≡ true;
}
