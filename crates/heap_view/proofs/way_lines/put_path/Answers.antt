use Rattle.std.proofs.Common.{ℕ, Option, None, refl, subst}
use Rattle.heap_walk.specs.Kept.{IsObjectOf}
use Rattle.heap_dump.proofs.Putting.{then_adds}
use Rattle.heap_view.proofs.way_lines.put_path.Goals as goal

pub returns-in-None : goal.returns-in-None
returns-in-None c = (
  _,
  record {
    found = None;
    object = subst (λ (o : Option ℕ). IsObjectOf c.args.core.now c.args.name o) c.in-None.is c.object_of.ensures;
    is = refl;
  },
  then_adds _ _ _ _ _ c.put_named.ensures c.put.ensures,
)
