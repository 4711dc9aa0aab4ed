use Rattle.std.proofs.Common.{◌∙◌, ap, Option, ℕ}
use Rattle.regions.specs.Table.{set_pointer}
use Rattle.step_core.specs.Stands.{CoreState}
use Rattle.step_core.proofs.Mutating.Near.{put_does}
use Rattle.step_core.proofs.heap.Core.put_known.Goals as goal

pub returns-clause-does : goal.returns-clause-does
returns-clause-does c = put_does _ _ c.args.mutator c.args.object c.args.at c.args.field c.args.value _ c.requires.names c.requires.field
    c.stored-target.ensures c.store_apart.ensures

pub returns-clause-table : goal.returns-clause-table
returns-clause-table c =
    ap (λ (d : CoreState). d.table) c.store_apart.ensures.core
    ∙ ap (λ (w : Option ℕ). set_pointer c.args.self.now.table c.args.at c.args.field w) c.stored-target.ensures.value
