use Rattle.std.proofs.Common.{◌≡◌, ℕ, ◌≤◌, ◌<◌, ◌*◌}
use Rattle.bit_sets.specs.Pages.{paged_word}
use Rattle.bit_sets.proofs.pages.next_written.Given as goal

abbrev pub invariant-loop-page : goal.invariant-loop-page
invariant-loop-page l = (g : ℕ) → l.from ≤ g → g < 512 * l.page → g < l.past → paged_word l.places l.pool g ≡ 0
