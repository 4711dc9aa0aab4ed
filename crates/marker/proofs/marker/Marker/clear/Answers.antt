use Rattle.std.proofs.Common.{◌≡◌, arith, ap, ◌∙◌, ◌+◌, ℕ, subst}
use Rattle.marker.specs.Clears.{LooksAt}
use Rattle.marker.specs.Views.{with_roles_exchanged}
use Rattle.marker.proofs.Slots.{same_marking}
use Rattle.marker.proofs.Swept.{looking_first, looking_next, looking_over, sweep_object, sweep_small, sweep_marks}
use Rattle.marker.proofs.marker.Marker.clear.Goals as goal

pub loop-looked-init : goal.loop-looked-init
loop-looked-init c = looking_first _ _ _ _ c.law.ensures c.next_with_weaks-left.ensures

pub overflow_add-word : goal.overflow_add-word
overflow_add-word c =
    let small = sweep_small _ _ _ _ _ _ c.in-Some.is c.loop-looked.invariant.sweep c.law-in-loop-looked.ensures in
    omega (arith, small, c.word.ensures)

pub clear_staying-requires-clause-object : goal.clear_staying-requires-clause-object
clear_staying-requires-clause-object c = sweep_object _ _ _ _ _ _ c.in-Some.is c.loop-looked.invariant.sweep

pub clear_staying-requires-clause-marks : goal.clear_staying-requires-clause-marks
clear_staying-requires-clause-marks c = sweep_marks _ _ _ _ _ _ c.in-Some.is c.loop-looked.invariant.sweep _ _ c.requires

pub loop-looked-preserved : goal.loop-looked-preserved
loop-looked-preserved c =
    let same = same_marking c.args.table.now c.loop-looked.table
    (with_roles_exchanged c.args.self.now) c.loop-looked.invariant.sweep.some.size in
    looking_next _ _ _ _ _ _ _ c.in-Some.is c.loop-looked.invariant _ _ _ _ same
    (c.new-behind.ensures ∙ ap (λ (n : ℕ). n + 1) c.word.ensures) c.clear_staying.ensures c.next_with_weaks-left-in-loop-looked.ensures

pub returns-in_default-clause-cleared : goal.returns-in_default-clause-cleared
returns-in_default-clause-cleared c = (looking_over _ _ _ _ _ _ c.in_default.is c.loop-looked.invariant).sweep.some

pub returns-in_default-clause-looked : goal.returns-in_default-clause-looked
returns-in_default-clause-looked c = (looking_over _ _ _ _ _ _ c.in_default.is c.loop-looked.invariant).looks

pub returns-clause-cleared : goal.returns-clause-cleared
returns-clause-cleared c = c.loop-looked.invariant.sweep.some

pub returns-clause-looked : goal.returns-clause-looked
returns-clause-looked c =
    let all : c.loop-looked.looked ≡ c.args.units = omega arith in
    subst (λ (n : ℕ). LooksAt c.args.table.now c.args.from c.loop-looked.left n) all c.loop-looked.invariant.looks
