-- What a teller has told.
use Rattle.std.specs.Prelude.{◌≡◌, ℕ, List, Some, length}
use Rattle.step_core.specs.Stands.{CoreState}
use Rattle.heap_life.specs.Tolds.{Told, AreLast, with_moment}
use Rattle.heap_life.specs.declared.life.Moment.{Moment}
use Rattle.heap_life.specs.declared.moment_text.Teller.{Teller}

-- the teller's text is that, and what it told last of each region, unless memory was refused for the text
abbrev pub HasTold : Told → Teller → Type 0
HasTold t x = (bytes : List ℕ) → x.text ≡ Some bytes → (bytes ≡ t.text) × (x.tiles ≡ t.tiles) × AreLast t.last x.last.items

-- x was the teller before a moment of a heap with core c, and y is the one after it
pub record TellsMoment (c : CoreState) (m : Moment) (x y : Teller) : Type 0 where
  pub told : (t : Told) → HasTold t x → HasTold (with_moment x.most t m c) y
  pub limit : y.most ≡ x.most
  pub size : length y.last.items ≡ length x.last.items
