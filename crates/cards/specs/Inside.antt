-- How a card table keeps its cards.
use Rattle.std.specs.Prelude.{◌≡◌, ℕ, ◌+◌, ◌<◌, ◌≤◌, ◌^◌, All, length, count_by, sum_by}
use Rattle.std.specs.VecDeque.{deque_capacity}
use Rattle.cards.specs.Cards.{Cards, ListsDirtyOnce}
use Rattle.cards.specs.declared.table.CardTable.TheInside.{Inside}

-- what contracts see of the fields
abbrev pub cards_of : Inside → Cards
cards_of s = record { dirty = s.dirty; logs = s.logs.items; queue = s.queue.items }

-- how many cards the queue and the logs hold
abbrev pub listed_count : Cards → ℕ
listed_count t = length t.queue + sum_by length t.logs

-- each dirty card is listed once, and as many are listed as are dirty
pub record IsCounted (t : Cards) : Type 0 where
  pub listed : ListsDirtyOnce t
  pub counted : listed_count t ≡ count_by (λ b. b) t.dirty

-- besides no log is full, the queue has room for all cards, and they can be counted
pub record IsCardTable (s : Inside) : Type 0 where
  pub cards : IsCounted (cards_of s)
  pub short : All (λ log. length log < 4) s.logs.items
  pub room : length s.dirty ≤ deque_capacity s.queue
  pub few : length s.dirty < 2 ^ 32
