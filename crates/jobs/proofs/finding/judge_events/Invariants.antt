use Rattle.std.proofs.Common.{◌≡◌, ◌+◌, length}
use Rattle.jobs.proofs.OneByOne.{IsWithin}
use Rattle.jobs.proofs.finding.judge_events.Given as goal

abbrev pub invariant-lines : goal.invariant-lines
invariant-lines l = record {
  sizes : l.events.config ≡ l.initial.events.config;
  fault : l.events.fault ≡ l.initial.events.fault;
  counted : l.count + length l.events.events ≡ length l.initial.events.events;
  within : IsWithin l.initial.events.config l.initial.events.events l.judge l.events.events l.count;
}

abbrev pub decreases-lines : goal.decreases-lines
decreases-lines l = length l.events.events
