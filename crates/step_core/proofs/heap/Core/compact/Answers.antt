use Rattle.std.proofs.Common.{◌≤◌, ℕ, arith, inl, inr}
use Rattle.step_core.specs.declared.candidates.Choice.TheVariants as choices
use Rattle.step_core.specs.Pause.{HasMoved}
use Rattle.step_core.specs.Stands.{CoreState}
use Rattle.step_core.proofs.Pauses.Empty.{still_clean, still_closed, still_nothing, still_settled}
use Rattle.step_core.proofs.heap.Core.compact.Goals as goal

-- where it took no region
none : (budget n w : ℕ) (c d : CoreState) → HasMoved choices.Highest budget n w c d → n ≤ 0 → HasMoved choices.Highest budget 0 0 c d
none budget n w c d h e = still_nothing choices.Highest budget n w c d h (omega (arith, e))

pub slide-requires-clause-settled : goal.slide-requires-clause-settled
slide-requires-clause-settled c =
    still_settled _ _ _ _ _ (none _ _ _ _ _ c.move_set-moved.ensures.moved c.if-moved-gt0.false) c.requires.settled

pub slide-requires-clause-clean : goal.slide-requires-clause-clean
slide-requires-clause-clean c =
    still_clean _ _ _ _ _ (none _ _ _ _ _ c.move_set-moved.ensures.moved c.if-moved-gt0.false)

pub slide-requires-clause-closed : goal.slide-requires-clause-closed
slide-requires-clause-closed c =
    still_closed _ _ _ _ _ (none _ _ _ _ _ c.move_set-moved.ensures.moved c.if-moved-gt0.false)

pub returns-then-moved-gt0-clause-compacted : goal.returns-then-moved-gt0-clause-compacted
returns-then-moved-gt0-clause-compacted c = inl (c.if-moved-gt0.true, c.move_set-moved.ensures.moved)

pub returns-clause-compacted : goal.returns-clause-compacted
returns-clause-compacted c = inr (record {
  after = c.move_set-moved.new.self;
  empty = none _ _ _ _ _ c.move_set-moved.ensures.moved c.if-moved-gt0.false;
  core = c.law_remembers.ensures.core;
  shaped = c.law_shaped.ensures;
  slides = c.slide.ensures.slides;
})

pub returns-clause-shows : goal.returns-clause-shows
returns-clause-shows c = λ g s. c.slide.ensures.shows g (c.move_set-moved.ensures.shows g s)

pub returns-clause-keeps : goal.returns-clause-keeps
returns-clause-keeps c = λ g s. c.slide.ensures.keeps g (c.move_set-moved.ensures.keeps g s)
