use Rattle.std.proofs.Common.{ℕ, ◌<◌, ◌-◌, ap, subst, sym}
use Rattle.heap_model.specs.Graph.{RootCounts, register_place}
use Rattle.step_core.proofs.Cores.Keeping.{placed_in, register_at, registers_at}
use Rattle.step_core.proofs.Cores.Leaving.{left_kept, left_keeps, left_leaves, left_set, left_shows}
use Rattle.step_core.proofs.heap.Core.leave.Goals as goal

pub leave-requires-clause-mutator : goal.leave-requires-clause-mutator
leave-requires-clause-mutator c =
    subst (λ (p : RootCounts). c.args.mutator < p.mutators) (sym (placed_in _ _ c.self.view_is c.self.invariant)) c.requires.mutator

pub leave-requires-clause-register : goal.leave-requires-clause-register
leave-requires-clause-register c =
    subst (λ (p : RootCounts). c.args.from.number < p.registers) (sym (placed_in _ _ c.self.view_is c.self.invariant)) c.requires.from

pub invariant_of-self : goal.invariant_of-self
invariant_of-self c = rw c.leave.ensures (left_kept _ _ c.self.view_is c.self.invariant
    (register_place c.self.inside.roots.places c.args.mutator c.args.from.number)
    (c.self.inside.roots.places.registers - c.args.from.number))

pub returns : goal.returns
returns c =
    let at = register_at _ _ c.self.view_is c.self.invariant c.args.mutator c.args.from.number in
    let place = register_place c.self.inside.roots.places c.args.mutator c.args.from.number in
    let count = c.self.inside.roots.places.registers - c.args.from.number in
    let many = ap (λ (n : ℕ). n - c.args.from.number) (registers_at _ _ c.self.view_is c.self.invariant) in
    record {
      shows = rw c.leave.ensures (left_shows _ _ c.self.view_is c.self.invariant place count c.args.mutator c.args.from.number at many);
      keeps = rw c.leave.ensures (left_keeps _ _ c.self.view_is c.self.invariant place count);
      after = rw c.leave.ensures (left_set _ _ c.self.view_is c.self.invariant place count _ _ at many);
      leaves = rw c.leave.ensures (left_leaves _ _ c.self.view_is c.self.invariant place count);
    }
