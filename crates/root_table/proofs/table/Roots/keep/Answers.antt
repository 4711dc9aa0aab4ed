use Rattle.root_table.proofs.Apart.{place_in, mutator_in, register_in, register_set_in, registers_set}
use Rattle.root_table.proofs.Apart.{register_raised, register_within_bound}
use Rattle.root_table.proofs.table.Roots.keep.Goals as goal

pub invariant_of-self : goal.invariant_of-self
invariant_of-self c = register_raised _ _ _ _ c.args.mutator c.args.register _ c.args.value c.self.invariant
    (mutator_in _ _ c.args.mutator c.self.view_is c.requires.mutator) (register_in _ _ c.args.register c.self.view_is c.requires.register)
    (place_in _ _ c.among_registers-at.result c.args.mutator c.args.register c.self.view_is c.among_registers-at.ensures)
    c.if-self-mutator.true

pub invariant_of-self-else-self-mutator : goal.invariant_of-self-else-self-mutator
invariant_of-self-else-self-mutator c = register_within_bound _ _ _ _ c.args.mutator c.args.register _ c.args.value c.self.invariant
    (mutator_in _ _ c.args.mutator c.self.view_is c.requires.mutator) (register_in _ _ c.args.register c.self.view_is c.requires.register)
    (place_in _ _ c.among_registers-at.result c.args.mutator c.args.register c.self.view_is c.among_registers-at.ensures)
    c.if-self-mutator.false

pub returns-then-self-mutator : goal.returns-then-self-mutator
returns-then-self-mutator c = register_set_in _ _ _ c.args.mutator c.args.register c.args.value c.self.view_is
    (registers_set _ _ _ _ c.among_registers-at.result _ c.args.value c.self.invariant
    (place_in _ _ c.among_registers-at.result c.args.mutator c.args.register c.self.view_is c.among_registers-at.ensures))

pub returns-else-self-mutator : goal.returns-else-self-mutator
returns-else-self-mutator c = register_set_in _ _ _ c.args.mutator c.args.register c.args.value c.self.view_is
    (registers_set _ _ _ _ c.among_registers-at.result _ c.args.value c.self.invariant
    (place_in _ _ c.among_registers-at.result c.args.mutator c.args.register c.self.view_is c.among_registers-at.ensures))
