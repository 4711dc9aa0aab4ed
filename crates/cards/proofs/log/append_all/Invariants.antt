use Rattle.std.proofs.Common.{◌≡◌, ◌++◌, take}
use Rattle.std.specs.VecDeque.{deque_capacity}
use Rattle.cards.proofs.log.append_all.Given as goal

abbrev pub invariant-loop-card : goal.invariant-loop-card
invariant-loop-card l = record {
  items : l.queue.items ≡ l.initial.queue.items ++ take l.card-index l.cards;
  capacity : deque_capacity l.queue ≡ deque_capacity l.initial.queue;
}
