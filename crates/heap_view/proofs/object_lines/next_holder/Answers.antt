use Rattle.std.proofs.Common.{arith, refl}
use Rattle.heap_walk.specs.Holders.{holders_at, place_count}
use Rattle.heap_view.proofs.Holding.{no_holder}
use Rattle.heap_view.proofs.Nexts.{first_of, no_next, one_next}
use Rattle.heap_view.proofs.object_lines.next_holder.Goals as goal

pub returns-then-who-eq0 : goal.returns-then-who-eq0
returns-then-who-eq0 c =
    no_next (holders_at c.args.core.now c.args.name) (place_count c.args.core.now)
    (no_holder c.args.core.now c.args.name c.law_shaped.ensures) c.args.place.now c.who.new.cursor _ _ c.who.result c.who.ensures.tells
    c.if-who-eq0.true refl

pub returns : goal.returns
returns c =
    one_next (holders_at c.args.core.now c.args.name) (place_count c.args.core.now)
    (no_holder c.args.core.now c.args.name c.law_shaped.ensures) c.args.place.now c.who.new.cursor _ _ c.who.result _ c.who.ensures.tells
    c.if-who-eq0.false refl (first_of c.who.new.out _ (omega (arith, c.who.auto.out)))
