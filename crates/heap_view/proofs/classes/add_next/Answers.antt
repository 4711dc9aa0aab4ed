use Rattle.std.proofs.Common.{arith, refl}
use Rattle.heap_view.proofs.KeptClasses.{adds_classes}
use Rattle.heap_view.proofs.classes.add_next.Goals as goal

pub returns : goal.returns
returns c =
    adds_classes c.args.core.now c.law_shaped.ensures c.args.place.now c.walk-count.new.cursor c.walk-count.result 64 _ c.walk-count.new.out
    c.args.classes.now.items _ _ c.walk-count.ensures.tells refl (omega arith) c.in_ok-add_classes.ensures refl
