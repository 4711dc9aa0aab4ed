use Rattle.std.proofs.Common.{◌∙◌, ℕ, None, ap, get_or}
use Rattle.step_core.proofs.Cores.Keeping.{register_facts}
use Rattle.step_core.proofs.Mutating.Near.{row_inside, row_place}
use Rattle.step_core.proofs.heap.Core.register_in.Goals as goal

pub in_row-requires : goal.in_row-requires
in_row-requires c = row_inside _ _ c.args.mutator c.args.register.number c.args.row c.self.view_is c.self.invariant c.requires.mutator
    c.requires.register c.requires.row

pub returns : goal.returns
returns c = register_facts _ _ c.args.mutator c.args.register c.in_row.result c.self.view_is c.self.invariant c.requires.mutator
    c.requires.register
    (c.in_row.ensures ∙ ap (λ (place : ℕ). get_or c.self.inside.roots.words place None)
    (row_place _ _ c.args.mutator c.args.register.number c.args.row c.self.view_is c.self.invariant c.requires.row))
