use Rattle.std.proofs.Common.{◌<◌, subst, sym}
use Rattle.heap_model.specs.Graph.{RootCounts}
use Rattle.step_core.proofs.Cores.Keeping.{placed_in}
use Rattle.step_core.proofs.Mutating.Setting.{register_held, register_word, root_core, root_sets, root_set_shows, sets_as}
use Rattle.step_core.proofs.heap.Core.copy_to_global.Goals as goal

pub copy_to_global-requires-clause-global : goal.copy_to_global-requires-clause-global
copy_to_global-requires-clause-global c =
    subst (λ (p : RootCounts). c.args.to.number < p.globals) (sym (placed_in _ _ c.self.view_is c.self.invariant)) c.requires.to

pub copy_to_global-requires-clause-mutator : goal.copy_to_global-requires-clause-mutator
copy_to_global-requires-clause-mutator c =
    subst (λ (p : RootCounts). c.args.mutator < p.mutators) (sym (placed_in _ _ c.self.view_is c.self.invariant)) c.requires.mutator

pub copy_to_global-requires-clause-from : goal.copy_to_global-requires-clause-from
copy_to_global-requires-clause-from c =
    subst (λ (p : RootCounts). c.args.from.number < p.registers) (sym (placed_in _ _ c.self.view_is c.self.invariant)) c.requires.from

pub invariant_of-self : goal.invariant_of-self
invariant_of-self c =
    let f = register_word _ _ c.args.mutator c.args.from c.self.view_is c.self.invariant c.requires.mutator c.requires.from in
    root_core _ _ c.self.view_is c.self.invariant c.args.to.number _ _ c.copy_to_global.ensures (register_held _ _ _ _ f) f.word

pub returns-clause-shows : goal.returns-clause-shows
returns-clause-shows c g s =
    let f = register_word _ _ c.args.mutator c.args.from c.self.view_is c.self.invariant c.requires.mutator c.requires.from in
    root_set_shows _ _ c.self.view_is c.self.invariant c.args.to.number _ _ c.copy_to_global.ensures (register_held _ _ _ _ f) g _ s
    (f.shows g s)

pub returns-clause-sets : goal.returns-clause-sets
returns-clause-sets c =
    let f = register_word _ _ c.args.mutator c.args.from c.self.view_is c.self.invariant c.requires.mutator c.requires.from in
    sets_as _ _ _ _ _ f.value
    (root_sets _ _ c.self.view_is c.self.invariant c.args.to.number _ _ c.copy_to_global.ensures (register_held _ _ _ _ f))
