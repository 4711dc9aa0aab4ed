use Rattle.std.proofs.Common.{◌/◌, ◌*◌, length}
use Rattle.mark_bitmap.specs.Kept.{kept_in}
use Rattle.evacuation.specs.Space.{flag}
use Rattle.evacuation.specs.Turns.{left_words}
use Rattle.evacuation.proofs.pause.evacuate.Given as goal

abbrev pub ghost-copy_reached : goal.ghost-copy_reached
ghost-copy_reached a = record {
  start = a.table.now;
  tams = a.kept.tams.now;
  previous = a.kept.marks.now;
  roots = a.roots.now.words;
  chosen = a.context.now.chosen.items;
  card_words = a.context.now.card_words;
  cards_per_region = a.table.now.words_per_region / a.context.now.card_words;
  limit = left_words (kept_in a.table.now a.kept.tams.now a.kept.marks.now)
      (λ b. flag a.context.now.chosen.items (b / a.table.now.words_per_region))
      (length a.table.now.regions * a.table.now.words_per_region);
}
