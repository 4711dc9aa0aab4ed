use Rattle.std.proofs.Common.{ap, refl}
use Rattle.std.specs.List.{flat_map}
use Rattle.heap_dump.proofs.Putting.{leads_first, leads_on, leads_all}
use Rattle.heap_walk.specs.Holders.{holders_at, place_count}
use Rattle.heap_view.specs.Objects.{holder_line}
use Rattle.heap_view.proofs.Nexts.{next_less, next_none, next_told}
use Rattle.heap_view.proofs.object_lines.put_holders_from.Goals as goal

pub loop-holder-init : goal.loop-holder-init
loop-holder-init c = leads_first _ _ _ refl

pub loop-holder-smaller : goal.loop-holder-smaller
loop-holder-smaller c =
    let core = c.args.core.now in
    next_less (holders_at core c.args.name) (place_count core) _ _ _ c.in-Some.holder c.in-Some.is c.next_holder.ensures

pub loop-holder-preserved : goal.loop-holder-preserved
loop-holder-preserved c =
    let core = c.args.core.now in
    leads_on _ _ _ _ _ _ _ (ap (flat_map holder_line) (next_told (holders_at core c.args.name) (place_count core) _ _ _ c.in-Some.holder
    c.in-Some.is c.next_holder.ensures))
    c.loop-holder.invariant c.put_holder.ensures

pub returns : goal.returns
returns c =
    let core = c.args.core.now in
    leads_all _ _ _ _ (ap (flat_map holder_line) (next_none (holders_at core c.args.name) (place_count core) _ _ _ c.in_default.is
    c.next_holder.ensures))
    c.loop-holder.invariant
