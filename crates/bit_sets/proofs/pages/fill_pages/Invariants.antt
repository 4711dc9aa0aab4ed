use Rattle.std.proofs.Common.{◌≤◌, ◌*◌, min, max, vec_capacity}
use Rattle.bit_sets.specs.Pages.{ArePages}
use Rattle.bit_sets.proofs.PageWords.{IsFilledUpTo}
use Rattle.bit_sets.proofs.pages.fill_pages.Given as goal

abbrev pub invariant-loop-page : goal.invariant-loop-page
invariant-loop-page l = record {
  pages : ArePages l.places.items l.pool.items l.len;
  room : l.len ≤ vec_capacity l.pool;
  filled : IsFilledUpTo l.len l.first l.value l.initial.places.items l.initial.pool.items l.places.items l.pool.items
      (max l.first (min l.past (512 * l.page)));
}
