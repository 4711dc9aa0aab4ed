use Rattle.evacuation.specs.Sliding.{OwnGoesOn}
use Rattle.evacuation.proofs.slide.settle_fields.Given as goal

abbrev pub ghost-settle_field : goal.ghost-settle_field
ghost-settle_field g a = g.slide

abbrev pub invariant-loop-field : goal.invariant-loop-field
invariant-loop-field g l = record { on : OwnGoesOn g.slide l.field l.initial.table l.table l.initial.noted l.noted }
