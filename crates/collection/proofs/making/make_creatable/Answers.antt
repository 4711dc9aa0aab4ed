use Rattle.std.proofs.Common.{◌/◌, ◌∙◌, sym, ap, subst}
use Rattle.heap_words.specs.declared.config.Config.{Config}
use Rattle.heap_steps.specs.Actors.{IsOp}
use Rattle.collection.specs.Steps.{LeavesTwo}
use Rattle.collection.proofs.Asked.{held_makes, own_makes, room_full, room_two}
use Rattle.collection.proofs.Paced.{creatable_after, if_due, if_not_due, refused_made}
use Rattle.collection.proofs.Took.{none}
use Rattle.collection.proofs.making.make_creatable.Goals as goal

pub take_own-requires : goal.take_own-requires
take_own-requires g c = subst (λ (x : Config). IsOp x c.args.op) (sym c.make_room-has_room.ensures.collects.config) c.requires.asked.op

pub returns-then-not-has_room : goal.returns-then-not-has_room
returns-then-not-has_room g c =
    let d = c.make_room-has_room.new.core in
    let y = c.make_room-has_room.new.watch in
    let r = c.make_room-has_room.ensures in
    let leaves = r.leaves c.if-not-has_room.true in
    let full = r.full c.if-not-has_room.true in
    record {
      makes = held_makes g.W.Watch.sees _ c.args.op c.args.core.now d c.args.watch.now y r.collects c.requires.asked.new
          c.requires.creatable leaves full;
      paced = λ h. record {
        core = d;
        watch = y;
        room = r.paced;
        own = held_makes g.W.Watch.sees 0 c.args.op d d y y (none g.W.Watch.sees d y) c.requires.asked.new
            (creatable_after c.args.op.action c.args.core.now d r.collects.config r.collects.next c.requires.creatable)
            (subst (λ (k : Config). LeavesTwo k c.args.op.action) (sym r.collects.config) leaves) full;
      };
      uncreated = λ n. absurd (n c.requires.creatable);
      spent = λ e. c.left_after-left.ensures ∙ if_not_due c.args.due _ _ e;
      renewed = λ e h. c.left_after-left.ensures ∙ if_due c.args.due _ _ e ∙ ap (λ (x : Config). x.words / 2) c.config.ensures.config;
      full = λ e s stands. r.filled c.if-not-has_room.true s stands;
      two = λ leaves two. r.collects.two two;
      made = refused_made c.args.op.mutator c.args.op.action _ d;
      config = r.collects.config;
    }

pub returns : goal.returns
returns g c =
    let d = c.make_room-has_room.new.core in
    let y = c.make_room-has_room.new.watch in
    let r = c.make_room-has_room.ensures in
    let own = c.take_own.ensures.own in
    let room = r.room c.if-not-has_room.false in
    record {
      makes = own_makes g.W.Watch.sees _ c.args.op c.args.core.now d c.args.watch.now y r.collects c.take_own.result c.take_own.new.core
          c.take_own.new.watch own;
      paced = λ h. record {
        core = d;
        watch = y;
        room = r.paced;
        own = own_makes g.W.Watch.sees 0 c.args.op d d y y (none g.W.Watch.sees d y) c.take_own.result c.take_own.new.core
            c.take_own.new.watch own;
      };
      uncreated = λ n. absurd (n c.requires.creatable);
      spent = λ e. c.left_after-left.ensures ∙ if_not_due c.args.due _ _ e;
      renewed = λ e h. c.left_after-left.ensures ∙ if_due c.args.due _ _ e ∙ ap (λ (x : Config). x.words / 2) c.config.ensures.config;
      full = λ e s stands. room_full g.W.Watch.sees _ c.args.op c.args.core.now d c.args.watch.now y r.collects c.take_own.result
          c.take_own.new.core c.take_own.new.watch own c.take_own.ensures.does room e s stands;
      two = λ leaves two. room_two g.W.Watch.sees _ c.args.op c.args.core.now d c.args.watch.now y r.collects c.take_own.result
          c.take_own.new.core c.take_own.new.watch own c.take_own.ensures.does room leaves two;
      made = c.take_own.ensures.made;
      config = c.take_own.ensures.config ∙ r.collects.config;
    }
