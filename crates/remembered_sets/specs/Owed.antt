-- Turns that sets owe: a filter that was emptied has its flags cleared when the next card is added to it.
use Rattle.std.specs.Prelude.{ℕ, ◌/◌, if◌then◌else◌, length, sum_by}
use Rattle.std.specs.List.{list_any}
use Rattle.remembered_sets.specs.Sets.{CardFilter, Sets}

-- how many words of 64 flags the next card clears: all, where none of the filter's flags is set
abbrev pub owed_by : CardFilter → ℕ
owed_by f = if list_any (λ flag. flag) f.flags then 0 else length f.flags / 64

-- the same of the filters of all sets
abbrev pub owed : Sets → ℕ
owed s = sum_by (λ set. owed_by set.filter) s.sets
