-- Markings that end, counted.
use Rattle.std.specs.Prelude.{◌≡◌, ◌+◌, ◌%◌, ◌^◌, ℕ}
use Rattle.step_core.specs.Steps.{Event, Reply, Step}
use Rattle.heap_steps.specs.declared.step.CollectorStep.TheVariants as collector
use Rattle.heap_steps.specs.declared.step.Reply.TheVariants as replies
use Rattle.heap_steps.specs.declared.step.Step.TheVariants as steps

-- one more, mod 2^64
abbrev pub one_more : ℕ → ℕ
one_more n = (n + 1) % 2 ^ 64

-- how many markings ended, after a remark with this reply: one more, if it was done
abbrev pub after_remark : Reply → ℕ → ℕ
after_remark (replies.Marked objects) n = one_more n
after_remark _ n = n

-- after any step: a remark alone ends a marking
abbrev pub after_step : Step → Reply → ℕ → ℕ
after_step (steps.Collector collector.Remark) reply n = after_remark reply n
after_step _ reply n = n

-- an event is counted, if it ended a marking
abbrev pub CountsMarking : ℕ → Event → ℕ → Type 0
CountsMarking n e n' = n' ≡ after_step e.step e.reply n
