use Rattle.std.proofs.Common.{◌≡◌, ◌-◌, ◌∙◌, false, true, sym, ap, ℕ, if◌then◌else◌, nat_le}
use Rattle.collection.specs.Steps.{asked_words}
use Rattle.collection.proofs.Asked.{own_at_once, spared_full}
use Rattle.collection.proofs.Leaving.{clash}
use Rattle.collection.proofs.Paced.{asked_as, due_is, due_left, due_not, room_there}
use Rattle.collection.proofs.Spared.{spared_two}
use Rattle.collection.proofs.Took.{none}
use Rattle.collection.proofs.making.make.Goals as goal

pub returns-then-has_spare : goal.returns-then-has_spare
returns-then-has_spare g c = record {
  makes = own_at_once g.W.Watch.sees _ c.args.op _ _ _ _ _ c.take_own.ensures.own;
  paced = λ h. record {
    core = c.args.core.now;
    watch = c.args.watch.now;
    room = room_there g.W.Watch.sees (nat_le c.args.policy.now.left (asked_words c.args.op.action)) c.args.policy.now.begin_at
        c.args.op c.args.core.now c.args.watch.now is_left;
    own = own_at_once g.W.Watch.sees 0 c.args.op _ _ _ _ _ c.take_own.ensures.own;
  };
  uncreated = λ n. own_at_once g.W.Watch.sees 0 c.args.op _ _ _ _ _ c.take_own.ensures.own;
  spent = λ e. c.spends-due.ensures.spent c.if-not-due.true
      ∙ ap (λ (n : ℕ). c.args.policy.now.left - n) c.words_of-size.ensures;
  renewed = λ e h. absurd (clash (nat_le c.args.policy.now.left (asked_words c.args.op.action)) e is_left);
  full = spared_full g.W.Watch.sees 0 c.args.op _ _ _ _ (none g.W.Watch.sees c.args.core.now c.args.watch.now) _ _ _
      c.take_own.ensures.own (c.has_spare.ensures c.if-has_spare.true);
  two = λ leaves two. spared_two c.take_own.result c.args.core.now c.take_own.new.core c.args.op
      (c.has_spare.ensures c.if-has_spare.true) c.take_own.ensures.does two;
  made = c.take_own.ensures.made;
  config = c.take_own.ensures.config;
}
  where
    is_left : nat_le c.args.policy.now.left (asked_words c.args.op.action) ≡ false
    is_left =
        ap (nat_le c.args.policy.now.left) (sym c.words_of-size.ensures)
        ∙ due_not c.spends-due.result (nat_le c.args.policy.now.left c.words_of-size.result) c.spends-due.ensures.due c.if-not-due.true

pub returns : goal.returns
returns g c =
    let size = c.words_of-size.ensures in
    let due : nat_le c.args.policy.now.left (asked_words c.args.op.action) ≡ (if c.spends-due.result then false else true) =
    ap (nat_le c.args.policy.now.left) (sym size) ∙ c.spends-due.ensures.due in
    asked_as g.W.Watch.sees _ (nat_le c.args.policy.now.left (asked_words c.args.op.action)) c.spends-due.new.self.left
    (c.args.policy.now.left - asked_words c.args.op.action) c.make_apart.new.policy.left c.spends-due.new.self.begin_at
    c.args.policy.now.begin_at c.args.op c.make_apart.result c.args.core.now c.args.watch.now c.make_apart.new.core c.make_apart.new.watch
    c.make_apart.ensures (due_is c.spends-due.result _ due)
    (λ e. c.spends-due.ensures.spent (due_left c.spends-due.result _ due e)
    ∙ ap (λ (n : ℕ). c.args.policy.now.left - n) size) c.spends-due.ensures.begins
