use Rattle.std.proofs.Common.{arith, ap, ◌∙◌, ◌+◌, ℕ}
use Rattle.marker.specs.Views.{with_roles_exchanged}
use Rattle.marker.proofs.Slots.{same_marking}
use Rattle.marker.proofs.Swept.{sweep_first, sweep_object, sweep_small, sweep_marks, sweep_next, sweep_last}
use Rattle.marker.proofs.marker.Marker.clear_rest.Goals as goal

pub loop-left-init : goal.loop-left-init
loop-left-init c = sweep_first _ _ _ _ c.law.ensures c.next_with_weaks-left.ensures

pub overflow_add-word : goal.overflow_add-word
overflow_add-word c =
    let small = sweep_small _ _ _ _ _ _ c.in-Some.is c.loop-left.invariant c.law-in-Some.ensures in
    omega (arith, small, c.word.ensures)

pub clear_staying-requires-clause-object : goal.clear_staying-requires-clause-object
clear_staying-requires-clause-object c = sweep_object _ _ _ _ _ _ c.in-Some.is c.loop-left.invariant

pub clear_staying-requires-clause-marks : goal.clear_staying-requires-clause-marks
clear_staying-requires-clause-marks c = sweep_marks _ _ _ _ _ _ c.in-Some.is c.loop-left.invariant _ _ c.requires

pub loop-left-preserved : goal.loop-left-preserved
loop-left-preserved c =
    let same = same_marking c.args.table.now c.loop-left.table (with_roles_exchanged c.args.self.now) c.loop-left.invariant.some.size in
    sweep_next _ _ _ _ _ _ c.in-Some.is c.loop-left.invariant _ _ _ _ same (c.new-behind.ensures ∙ ap (λ (n : ℕ). n + 1) c.word.ensures)
    c.clear_staying.ensures c.next_with_weaks-left-in-Some.ensures

pub returns : goal.returns
returns c = sweep_last _ _ _ _ _ c.in_default.is c.loop-left.invariant
