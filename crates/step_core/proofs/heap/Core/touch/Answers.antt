use Rattle.std.proofs.Common.{◌<◌, ◌∙◌, subst, sym}
use Rattle.heap_model.specs.Graph.{RootCounts}
use Rattle.step_core.proofs.Cores.Keeping.{placed_in}
use Rattle.step_core.proofs.Mutating.Logging.{saves, takes_log}
use Rattle.step_core.proofs.Mutating.Touching.{word_kept, idle_ends, saved_ends, taken_ends}
use Rattle.step_core.proofs.heap.Core.touch.Goals as goal

pub set_register-requires-clause-mutator : goal.set_register-requires-clause-mutator
set_register-requires-clause-mutator c =
    subst (λ (p : RootCounts). c.args.mutator < p.mutators) (sym (placed_in _ _ c.self.view_is c.self.invariant)) c.requires.known

pub set_register-requires-clause-register : goal.set_register-requires-clause-register
set_register-requires-clause-register c =
    subst (λ (p : RootCounts). c.args.to.number < p.registers) (sym (placed_in _ _ c.self.view_is c.self.invariant)) c.requires.to

pub save-full-requires-clause-kept : goal.save-full-requires-clause-kept
save-full-requires-clause-kept c = word_kept _ _ c.self.view_is c.self.invariant c.args.mutator c.args.to c.args.value.now c.requires.word _
    c.set_register.ensures

-- ---- while marking doesn't run
pub invariant_of-self : goal.invariant_of-self
invariant_of-self c = (idle_ends _ _ c.self.view_is c.self.invariant c.args.mutator c.args.to c.args.value.now c.requires.word _
    c.set_register.ensures c.if-not-running.true).core

pub returns-then-not-running : goal.returns-then-not-running
returns-then-not-running c = (idle_ends _ _ c.self.view_is c.self.invariant c.args.mutator c.args.to c.args.value.now c.requires.word _
    c.set_register.ensures c.if-not-running.true).does

-- ---- a log was taken
pub invariant_of-self-then-full : goal.invariant_of-self-then-full
invariant_of-self-then-full c =
    let s = c.save-full.ensures in
    let t = c.take_log.ensures in
    (taken_ends _ _ c.self.view_is c.self.invariant c.args.mutator c.args.to c.args.value.now c.requires.word _ c.set_register.ensures
    c.if-not-running.false _
    (saves s.after s.saved s.same s.stands s.mutators s.most s.others)
    c.requires.known (sym s.full ∙ c.if-full.true) _
    (takes_log t.emptied t.marks t.same t.scanned t.scans t.waiting t.snapshots t.stands)).core

pub returns-then-full : goal.returns-then-full
returns-then-full c =
    let s = c.save-full.ensures in
    let t = c.take_log.ensures in
    (taken_ends _ _ c.self.view_is c.self.invariant c.args.mutator c.args.to c.args.value.now c.requires.word _ c.set_register.ensures
    c.if-not-running.false _
    (saves s.after s.saved s.same s.stands s.mutators s.most s.others)
    c.requires.known (sym s.full ∙ c.if-full.true) _
    (takes_log t.emptied t.marks t.same t.scanned t.scans t.waiting t.snapshots t.stands)).does

-- ---- no log was full
pub invariant_of-self-else-full : goal.invariant_of-self-else-full
invariant_of-self-else-full c =
    let s = c.save-full.ensures in
    (saved_ends _ _ c.self.view_is c.self.invariant c.args.mutator c.args.to c.args.value.now c.requires.word _ c.set_register.ensures
    c.if-not-running.false _
    (saves s.after s.saved s.same s.stands s.mutators s.most s.others) (sym s.full ∙ c.if-full.false)).core

pub returns-else-full : goal.returns-else-full
returns-else-full c =
    let s = c.save-full.ensures in
    (saved_ends _ _ c.self.view_is c.self.invariant c.args.mutator c.args.to c.args.value.now c.requires.word _ c.set_register.ensures
    c.if-not-running.false _
    (saves s.after s.saved s.same s.stands s.mutators s.most s.others) (sym s.full ∙ c.if-full.false)).does
