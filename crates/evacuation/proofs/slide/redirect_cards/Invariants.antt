use Rattle.std.proofs.Common.{◌≡◌, ◌≤◌, ◌<◌, ◌-◌, ℕ, true, length}
use Rattle.evacuation.specs.Space.{flag}
use Rattle.evacuation.specs.Sliding.{SlideGoesOn, IsCardUnnamed}
use Rattle.evacuation.proofs.slide.redirect_cards.Given as goal

abbrev pub ghost-redirect_card : goal.ghost-redirect_card
ghost-redirect_card g a = g.slide

abbrev pub invariant-loop-card : goal.invariant-loop-card
invariant-loop-card g l = record {
  on : SlideGoesOn g.slide (λ c. flag l.visited c ≡ true) l.initial.table l.table l.initial.noted l.noted;
  inside : l.start ≤ length l.visited;
  unnamed : (card : ℕ) → card < l.start → flag l.visited card ≡ true → IsCardUnnamed g.slide l.table card;
}

abbrev pub decreases-loop-card : goal.decreases-loop-card
decreases-loop-card g l = length l.visited - l.start
