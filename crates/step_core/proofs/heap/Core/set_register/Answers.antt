use Rattle.std.proofs.Common.{◌<◌, subst, sym}
use Rattle.heap_model.specs.Graph.{RootCounts}
use Rattle.step_core.proofs.Cores.Keeping.{placed_in}
use Rattle.step_core.proofs.Mutating.Setting.{register_core, register_sets, register_set_shows}
use Rattle.step_core.proofs.heap.Core.set_register.Goals as goal

pub set_register-requires-clause-mutator : goal.set_register-requires-clause-mutator
set_register-requires-clause-mutator c =
    subst (λ (p : RootCounts). c.args.mutator < p.mutators) (sym (placed_in _ _ c.self.view_is c.self.invariant)) c.requires.mutator

pub set_register-requires-clause-register : goal.set_register-requires-clause-register
set_register-requires-clause-register c =
    subst (λ (p : RootCounts). c.args.register.number < p.registers) (sym (placed_in _ _ c.self.view_is c.self.invariant))
    c.requires.register

pub invariant_of-self : goal.invariant_of-self
invariant_of-self c = register_core _ _ c.self.view_is c.self.invariant c.args.mutator c.args.register c.args.value _
    c.set_register.ensures c.requires.held c.requires.word

pub returns-clause-shows : goal.returns-clause-shows
returns-clause-shows c = register_set_shows _ _ c.self.view_is c.self.invariant c.args.mutator c.args.register c.args.value _
    c.set_register.ensures c.requires.held

pub returns-clause-sets : goal.returns-clause-sets
returns-clause-sets c = register_sets _ _ c.self.view_is c.self.invariant c.args.mutator c.args.register c.args.value _
    c.set_register.ensures c.requires.held
