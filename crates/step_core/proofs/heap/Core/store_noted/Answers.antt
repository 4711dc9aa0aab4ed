use Rattle.std.proofs.Common.{◌∙◌, sym}
use Rattle.step_core.proofs.Mutating.Logging.{saves, takes_log}
use Rattle.step_core.proofs.Mutating.Stored.{was_kept, saved_stands, idle_kept, idle_stores, saved_ends, taken_ends}
use Rattle.step_core.proofs.heap.Core.store_noted.Goals as goal

pub save-full-requires-clause-kept : goal.save-full-requires-clause-kept
save-full-requires-clause-kept c = was_kept _ _ c.self.view_is c.self.invariant c.args.object c.args.field c.args.target c.requires.can _
    c.get_ptr-overwritten.ensures

-- ---- while marking doesn't run
pub invariant_of-self : goal.invariant_of-self
invariant_of-self c = idle_kept _ _ c.self.view_is c.self.invariant c.args.object c.args.field c.args.target c.requires.can
    c.requires.noted _ c.set_ptr.ensures c.if-not-self.true

pub returns-then-not-self : goal.returns-then-not-self
returns-then-not-self c = idle_stores _ _ c.self.view_is c.self.invariant c.args.object c.args.field c.args.target c.requires.can
    c.requires.noted _ c.set_ptr.ensures c.if-not-self.true c.args.mutator

-- ---- a log was taken
pub take_log-requires-clause-stands : goal.take_log-requires-clause-stands
take_log-requires-clause-stands c =
    let s = c.save-full.ensures in
    saved_stands _ _ c.self.view_is c.self.invariant c.args.object c.args.field c.args.target c.requires.can c.requires.noted _
    c.set_ptr-2.ensures c.if-not-self.false c.args.mutator _ c.get_ptr-overwritten.ensures _
    (saves s.after s.saved s.same s.stands s.mutators s.most s.others)

pub invariant_of-self-then-full : goal.invariant_of-self-then-full
invariant_of-self-then-full c =
    let s = c.save-full.ensures in
    let t = c.take_log.ensures in
    (taken_ends _ _ c.self.view_is c.self.invariant c.args.object c.args.field c.args.target c.requires.can c.requires.noted _
    c.set_ptr-2.ensures c.if-not-self.false c.args.mutator _ c.get_ptr-overwritten.ensures _
    (saves s.after s.saved s.same s.stands s.mutators s.most s.others)
    c.requires.known (sym s.full ∙ c.if-full.true) _
    (takes_log t.emptied t.marks t.same t.scanned t.scans t.waiting t.snapshots t.stands)).core

pub returns-then-full : goal.returns-then-full
returns-then-full c =
    let s = c.save-full.ensures in
    let t = c.take_log.ensures in
    (taken_ends _ _ c.self.view_is c.self.invariant c.args.object c.args.field c.args.target c.requires.can c.requires.noted _
    c.set_ptr-2.ensures c.if-not-self.false c.args.mutator _ c.get_ptr-overwritten.ensures _
    (saves s.after s.saved s.same s.stands s.mutators s.most s.others)
    c.requires.known (sym s.full ∙ c.if-full.true) _
    (takes_log t.emptied t.marks t.same t.scanned t.scans t.waiting t.snapshots t.stands)).does

-- ---- no log was full
pub invariant_of-self-else-full : goal.invariant_of-self-else-full
invariant_of-self-else-full c =
    let s = c.save-full.ensures in
    (saved_ends _ _ c.self.view_is c.self.invariant c.args.object c.args.field c.args.target c.requires.can c.requires.noted _
    c.set_ptr-2.ensures c.if-not-self.false c.args.mutator _ c.get_ptr-overwritten.ensures _
    (saves s.after s.saved s.same s.stands s.mutators s.most s.others) (sym s.full ∙ c.if-full.false)).core

pub returns-else-full : goal.returns-else-full
returns-else-full c =
    let s = c.save-full.ensures in
    (saved_ends _ _ c.self.view_is c.self.invariant c.args.object c.args.field c.args.target c.requires.can c.requires.noted _
    c.set_ptr-2.ensures c.if-not-self.false c.args.mutator _ c.get_ptr-overwritten.ensures _
    (saves s.after s.saved s.same s.stands s.mutators s.most s.others) (sym s.full ∙ c.if-full.false)).does
