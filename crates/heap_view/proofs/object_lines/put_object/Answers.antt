use Rattle.std.proofs.Common.{Option, Some, None, ℕ, refl, subst}
use Rattle.heap_walk.specs.Kept.{IsObjectOf}
use Rattle.heap_walk.proofs.Entries.{kept_there}
use Rattle.heap_walk.proofs.ObjectNames.{named_kept}
use Rattle.heap_dump.proofs.Putting.{then_adds}
use Rattle.heap_view.proofs.object_lines.put_object.Goals as goal

pub put_found-requires : goal.put_found-requires
put_found-requires c =
    kept_there c.args.core.now _ c.in-Some.object refl (named_kept c.args.core.now c.args.name c.in-Some.object
    (subst (λ (o : Option ℕ). IsObjectOf c.args.core.now c.args.name o) c.in-Some.is c.object_of.ensures))

pub returns-in-Some : goal.returns-in-Some
returns-in-Some c = (
  _,
  record {
    found = Some c.in-Some.object;
    object = subst (λ (o : Option ℕ). IsObjectOf c.args.core.now c.args.name o) c.in-Some.is c.object_of.ensures;
    is = refl;
  },
  c.put_found.ensures,
)

pub returns-in-None : goal.returns-in-None
returns-in-None c = (
  _,
  record {
    found = None;
    object = subst (λ (o : Option ℕ). IsObjectOf c.args.core.now c.args.name o) c.in-None.is c.object_of.ensures;
    is = refl;
  },
  then_adds _ _ _ _ _ (then_adds _ _ _ _ _ c.put.ensures c.put_digits.ensures) c.put-in-None.ensures,
)
