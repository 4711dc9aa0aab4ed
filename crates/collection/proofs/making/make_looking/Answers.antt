use Rattle.std.proofs.Common.{refl}
use Rattle.collection.specs.Rooms.{IsCreatable}
use Rattle.collection.proofs.Asked.{own_at_once, uncreated_full}
use Rattle.collection.proofs.Leaving.{clash}
use Rattle.collection.proofs.Took.{none}
use Rattle.collection.proofs.Uncreated.{uncreated_two}
use Rattle.collection.proofs.making.make_looking.Goals as goal

pub returns-then-not-is_creatable : goal.returns-then-not-is_creatable
returns-then-not-is_creatable g c = record {
  makes = own_at_once g.W.Watch.sees _ c.args.op _ _ _ _ _ c.take_own.ensures.own;
  paced = λ h. absurd (not h);
  uncreated = λ n. own_at_once g.W.Watch.sees 0 c.args.op _ _ _ _ _ c.take_own.ensures.own;
  spent = λ e. refl;
  renewed = λ e h. absurd (not h);
  full = uncreated_full g.W.Watch.sees 0 c.args.op _ _ _ _ (none g.W.Watch.sees c.args.core.now c.args.watch.now) _ _ _
      c.take_own.ensures.own not;
  two = λ leaves two. uncreated_two c.args.core.now c.take_own.new.core c.args.op c.requires.new c.take_own.ensures.core not two
      c.take_own.result c.take_own.ensures.within c.take_own.ensures.does;
  made = c.take_own.ensures.made;
  config = c.take_own.ensures.config;
}
  where
    not : IsCreatable c.args.core.now c.args.op.action → ⊥
    not h = clash c.is_creatable.result (c.is_creatable.ensures.1 h) c.if-not-is_creatable.true
