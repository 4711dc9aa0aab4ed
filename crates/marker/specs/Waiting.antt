-- Roots that wait: what roots named when marking began, and marking has not taken yet.
use Rattle.std.specs.Prelude.{ℕ, List, [], ◌∷◌, ◌++◌}

-- their addresses, of which the last one is taken next, and for how many there is room
pub record Waiting : Type 0 where
  pub addresses : List ℕ
  pub room : ℕ

-- none waits, and there is room for so many
abbrev pub none_waiting : ℕ → Waiting
none_waiting room = record { addresses = []; room = room }

-- one more waits
abbrev pub with_root : Waiting → ℕ → Waiting
with_root w a = record { addresses = w.addresses ++ a ∷ []; room = w.room }
