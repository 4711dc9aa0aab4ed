-- Steps that are noted for who records them.
use Rattle.std.specs.Prelude.{◌≡◌, ◌+◌, ◌-◌, ◌^◌, ℕ, get_or, length, min, slice_set}
use Rattle.heap_steps.specs.Forms.{collection_numbers, collection_place, collection_verb, collection_verbs}
use Rattle.heap_steps.specs.declared.step.Event.{Event}
use Rattle.heap_steps.specs.declared.step.Step.{Step}
use Rattle.heap_steps.specs.declared.step.Step.TheVariants as steps
use Rattle.collection.specs.Markings.{CountsMarking}
use Rattle.heap_calls.specs.Numbers.{numbers}
use Rattle.g1heap_c.specs.declared.noted.Entry.{Entry}
use Rattle.g1heap_c.specs.declared.noted.Notes.{Notes}

-- which step it is: one of the collector's by its verb's place in the table, and one past these each of a mutator
abbrev pub step_code : Step → ℕ
step_code (steps.Collector k) = collection_place (collection_verb k)
step_code (steps.Mutator op) = length collection_verbs

-- its number of this place, 0 if it has none
abbrev pub step_number : Step → ℕ → ℕ
step_number (steps.Collector k) i = get_or (collection_numbers k) i 0
step_number (steps.Mutator op) i = 0

-- a step with its answer
abbrev pub entry_of : Event → Entry
entry_of e = record {
  step = step_code e.step;
  number = step_number e.step 0;
  second = step_number e.step 1;
  answer = numbers e.reply;
}

-- an event is noted: its entry is the next one, if there is room for it, no other changes, one step more is counted, and so is a marking
-- that it ended
pub record IsEntered (x : Notes) (e : Event) (y : Notes) : Type 0 where
  pub entries : y.entries.now ≡ slice_set x.entries.now x.count (entry_of e)
  pub count : y.count ≡ min (x.count + 1) (2 ^ 32 - 1)
  pub markings : CountsMarking x.markings e y.markings
