-- Dirty cards, and where they are.
use Rattle.std.specs.Prelude.{◌≡◌, ◌+◌, ◌==◌, ◌∷◌, ◌++◌, if◌then◌else◌}
use Rattle.std.specs.Prelude.{ℕ, Bool, true, false, List, [], length, count_by, replicate, sum_by, slice_index_or, slice_set}
use Rattle.std.specs.List.{concat}

-- which cards are dirty; the card log of each mutator; the queue
pub record Cards : Type 0 where
  pub dirty : List Bool
  pub logs : List (List ℕ)
  pub queue : List ℕ

-- so many cards, all clean, and so many empty logs
abbrev pub clean_cards : ℕ → ℕ → Cards
clean_cards cards mutators = record { dirty = replicate cards false; logs = replicate mutators []; queue = [] }

-- whether a card is dirty: false past the end
abbrev pub is_dirty : Cards → ℕ → Bool
is_dirty t card = slice_index_or t.dirty card false

-- the log of a mutator
abbrev pub log_of : Cards → ℕ → List ℕ
log_of t mutator = slice_index_or t.logs mutator []

-- how often a card is in a list
abbrev pub times_in : ℕ → List ℕ → ℕ
times_in card cards = count_by (λ c. c == card) cards

-- how often a card is in the logs and the queue together
abbrev pub times_listed : Cards → ℕ → ℕ
times_listed t card = times_in card t.queue + sum_by (times_in card) t.logs

-- a dirty card is in the logs and the queue together exactly once, and a clean one not at all
pub record ListsDirtyOnce (t : Cards) : Type 0 where
  pub each : (card : ℕ) → times_listed t card ≡ (if is_dirty t card then 1 else 0)

-- a card becomes dirty at the end of the queue, at the end of a mutator's log
abbrev pub appended : Cards → ℕ → Cards
appended t card = record { dirty = slice_set t.dirty card true; logs = t.logs; queue = t.queue ++ card ∷ [] }

abbrev pub entered : Cards → ℕ → ℕ → Cards
entered t mutator card =
    record { dirty = slice_set t.dirty card true; logs = slice_set t.logs mutator (log_of t mutator ++ card ∷ []); queue = t.queue }

-- a mutator's log goes to the end of the queue, and is empty
abbrev pub sent : Cards → ℕ → Cards
sent t mutator = record { dirty = t.dirty; logs = slice_set t.logs mutator []; queue = t.queue ++ log_of t mutator }

-- the same where the log holds four cards
abbrev pub sent_if_full : Cards → ℕ → Cards
sent_if_full t mutator = if length (log_of t mutator) == 4 then sent t mutator else t

-- a mutator makes a card dirty: nothing changes where it is dirty
abbrev pub dirtied : Cards → ℕ → ℕ → Cards
dirtied t mutator card = if is_dirty t card then t else sent_if_full (entered t mutator card) mutator

-- all logs went to the queue, by mutator
abbrev pub flushed : Cards → Cards
flushed t = record { dirty = t.dirty; logs = replicate (length t.logs) []; queue = t.queue ++ concat t.logs }
