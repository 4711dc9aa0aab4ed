-- Room for a pause.
use Rattle.std.specs.Prelude.{◌≡◌, ℕ, ◌+◌, vec_len, length}
use Rattle.evacuation.specs.declared.room.PauseRoom.TheInside.{Inside}

-- how many regions and cards there is room for
pub record RoomSizes : Type 0 where
  pub regions : ℕ
  pub cards : ℕ

abbrev pub sizes_of : Inside → RoomSizes
sizes_of r = record { regions = vec_len r.context.chosen; cards = length r.context.noted.cards }

pub record IsPauseRoom (r : Inside) : Type 0 where
  pub each_card : length r.visited ≡ length r.context.noted.cards
  pub each_region : length r.context.destinations.regions + r.context.destinations.room ≡ vec_len r.context.chosen
