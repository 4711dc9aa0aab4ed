use Rattle.std.proofs.Common.{List, Option, Some, None, Vec, Global, refl, subst, sym}
use Rattle.std.specs.Option.{option_map}
use Rattle.heap_walk.specs.declared.holders.Holder.{Holder}
use Rattle.heap_dump.proofs.Putting.{adds_at, then_adds}
use Rattle.heap_view.specs.Ways.{IsWayOf, way_text}
use Rattle.heap_view.proofs.way_lines.put_way.Goals as goal

pub returns-in-Some : goal.returns-in-Some
returns-in-Some c =
    let core = c.args.core.now in
    let shortest = subst (λ (o : Option (Vec Holder Global)). IsWayOf core c.args.name (option_map (λ (v : Vec Holder Global). v.items) o))
    c.in-Some.is (c.in_ok-way.ensures c.args.name c.requires.named) in (
      _,
      (Some c.in-Some.way.items, shortest, refl),
      adds_at (λ (hs : List Holder). way_text c.args.name (Some hs)) _ _ _ _ (sym c.deref.ensures.value) c.put_steps.ensures,
    )

pub returns-in-None : goal.returns-in-None
returns-in-None c =
    let core = c.args.core.now in
    let none = subst (λ (o : Option (Vec Holder Global)). IsWayOf core c.args.name (option_map (λ (v : Vec Holder Global). v.items) o))
    c.in-None.is (c.in_ok-way.ensures c.args.name c.requires.named) in
    (_, (None, none, refl), then_adds _ _ _ _ _ c.put_named.ensures c.put.ensures)
