use Rattle.std.proofs.Common.{◌/◌, length}
use Rattle.evacuation.proofs.slide.redirect_run.Given as goal

abbrev pub ghost-redirect_fields : goal.ghost-redirect_fields
ghost-redirect_fields a = record {
  regions = length a.table.now.regions;
  words = a.table.now.words_per_region;
  card_words = a.card_words;
  cards_per_region = a.table.now.words_per_region / a.card_words;
  tams = a.kept.tams.now;
  marks = a.kept.marks.now;
  from = a.way.now.from;
  to = a.way.now.to;
}
