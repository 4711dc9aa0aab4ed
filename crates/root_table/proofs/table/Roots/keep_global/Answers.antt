use Rattle.root_table.proofs.Apart.{global_in, global_raised, global_within_bound, globals_set, set_in}
use Rattle.root_table.proofs.table.Roots.keep_global.Goals as goal

pub invariant_of-self : goal.invariant_of-self
invariant_of-self c = global_raised _ _ _ _ c.args.global c.args.value c.self.invariant
    (global_in _ _ c.args.global c.self.view_is c.requires) c.if-self-global.true

pub invariant_of-self-else-self-global : goal.invariant_of-self-else-self-global
invariant_of-self-else-self-global c = global_within_bound _ _ _ _ c.args.global c.args.value c.self.invariant
    (global_in _ _ c.args.global c.self.view_is c.requires) c.if-self-global.false

pub returns-then-self-global : goal.returns-then-self-global
returns-then-self-global c = set_in _ _ _ c.args.global c.args.value c.self.view_is
    (globals_set _ _ _ _ c.args.global c.args.value c.self.invariant (global_in _ _ c.args.global c.self.view_is c.requires))

pub returns-else-self-global : goal.returns-else-self-global
returns-else-self-global c = set_in _ _ _ c.args.global c.args.value c.self.view_is
    (globals_set _ _ _ _ c.args.global c.args.value c.self.invariant (global_in _ _ c.args.global c.self.view_is c.requires))
