use Rattle.std.proofs.Common.{◌≡◌}
use Rattle.std.specs.VecDeque.{deque_capacity}
use Rattle.cards.specs.Inside.{cards_of, IsCounted}
use Rattle.cards.proofs.Flushed.{flushed_up_to}
use Rattle.cards.proofs.table.CardTable.flush_all.Given as goal

abbrev pub invariant-loop-mutator : goal.invariant-loop-mutator
invariant-loop-mutator l = record {
  sent : cards_of l.self-inside ≡ flushed_up_to l.mutator (cards_of l.initial.self-inside);
  counted : IsCounted (cards_of l.self-inside);
  capacity : deque_capacity l.self-inside.queue ≡ deque_capacity l.initial.self-inside.queue;
}
