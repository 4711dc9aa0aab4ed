use Rattle.mark_bitmap.proofs.LiveWords.{same_bound, dead_of_zero, dead_kept}
use Rattle.mark_bitmap.proofs.LiveBounds.{kept_le}
use Rattle.mark_bitmap.proofs.live.live_law.Goals as goal

pub returns-clause-at_least : goal.returns-clause-at_least
returns-clause-at_least c = λ t tops previous k shape m known ordinary. kept_le t tops previous k shape m known ordinary

pub returns-clause-dead : goal.returns-clause-dead
returns-clause-dead c = λ t tops previous k shape m known ordinary zero a inside.
    dead_kept t tops previous k a shape ordinary (dead_of_zero t tops.previous previous k m known zero) inside

pub returns-clause-top : goal.returns-clause-top
returns-clause-top c = λ t tops previous k shape m known ordinary zero. (dead_of_zero t tops.previous previous k m known zero).top

pub returns-clause-same : goal.returns-clause-same
returns-clause-same c =
    λ t t' tops tops' marks marks' k shape size same top each m. same_bound t t' tops tops' marks marks' k shape size same top each m
