use Rattle.std.proofs.Common.{◌<◌, subst, sym}
use Rattle.heap_model.specs.Graph.{RootCounts}
use Rattle.step_core.proofs.Cores.Keeping.{placed_in}
use Rattle.step_core.proofs.Mutating.Setting.{register_core, register_held, register_sets, register_set_shows, register_word, sets_as}
use Rattle.step_core.proofs.heap.Core.copy_register.Goals as goal

pub copy_register-requires-clause-mutator : goal.copy_register-requires-clause-mutator
copy_register-requires-clause-mutator c =
    subst (λ (p : RootCounts). c.args.mutator < p.mutators) (sym (placed_in _ _ c.self.view_is c.self.invariant)) c.requires.mutator

pub copy_register-requires-clause-to : goal.copy_register-requires-clause-to
copy_register-requires-clause-to c =
    subst (λ (p : RootCounts). c.args.to.number < p.registers) (sym (placed_in _ _ c.self.view_is c.self.invariant)) c.requires.to

pub copy_register-requires-clause-from : goal.copy_register-requires-clause-from
copy_register-requires-clause-from c =
    subst (λ (p : RootCounts). c.args.from.number < p.registers) (sym (placed_in _ _ c.self.view_is c.self.invariant)) c.requires.from

pub invariant_of-self : goal.invariant_of-self
invariant_of-self c =
    let f = register_word _ _ c.args.mutator c.args.from c.self.view_is c.self.invariant c.requires.mutator c.requires.from in
    register_core _ _ c.self.view_is c.self.invariant c.args.mutator c.args.to _ _ c.copy_register.ensures (register_held _ _ _ _ f) f.word

pub returns-clause-shows : goal.returns-clause-shows
returns-clause-shows c g s =
    let f = register_word _ _ c.args.mutator c.args.from c.self.view_is c.self.invariant c.requires.mutator c.requires.from in
    register_set_shows _ _ c.self.view_is c.self.invariant c.args.mutator c.args.to _ _ c.copy_register.ensures (register_held _ _ _ _ f)
    g _ s (f.shows g s)

pub returns-clause-sets : goal.returns-clause-sets
returns-clause-sets c =
    let f = register_word _ _ c.args.mutator c.args.from c.self.view_is c.self.invariant c.requires.mutator c.requires.from in
    sets_as _ _ _ _ _ f.value
    (register_sets _ _ c.self.view_is c.self.invariant c.args.mutator c.args.to _ _ c.copy_register.ensures (register_held _ _ _ _ f))
