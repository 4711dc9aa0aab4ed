-- How records are spelled.
use Rattle.std.specs.Prelude.{◌≡◌, ℕ, ◌+◌, List, [], ◌∷◌, ◌++◌, Some, None, codes}
use Rattle.std.specs.Fmt.{decimal}
use Rattle.heap_steps.specs.Actors.{EventList}
use Rattle.heap_steps.specs.declared.step.Actor.{Actor}
use Rattle.heap_steps.specs.declared.step.Actor.TheVariants as actors
use Rattle.heap_steps.specs.declared.step.Step.{Step}
use Rattle.heap_steps.specs.declared.step.Step.TheVariants as steps
use Rattle.heap_steps.specs.declared.step.Event.{Event}
use Rattle.heap_steps.specs.declared.step.Reply.{Reply}
use Rattle.heap_steps.specs.declared.step.Reply.TheVariants as replies
use Rattle.heap_steps.specs.declared.step.Refusal.{Refusal}
use Rattle.heap_steps.specs.declared.step.Refusal.TheVariants as refusals
use Rattle.script_text.specs.Spelling.{action_words, collection_words, heap_words, spaced, line}

abbrev pub actor_word : Actor → List ℕ
actor_word (actors.Mutator m) = decimal m
actor_word actors.Collector = codes "gc"
actor_word (actors.Marker i) = codes "m" ++ decimal i
actor_word (actors.Refiner i) = codes "f" ++ decimal i

abbrev pub refusal_words : Refusal → List (List ℕ)
refusal_words refusals.Nil = codes "1" ∷ codes "Nil" ∷ []
refusal_words refusals.NoField = codes "2" ∷ codes "NoField" ∷ []
refusal_words refusals.Full = codes "3" ∷ codes "Full" ∷ []
refusal_words refusals.TooBig = codes "4" ∷ codes "TooBig" ∷ []
refusal_words refusals.NamesSpent = codes "5" ∷ codes "NamesSpent" ∷ []
refusal_words refusals.MarkRunning = codes "6" ∷ codes "MarkRunning" ∷ []
refusal_words refusals.NotMarking = codes "7" ∷ codes "NotMarking" ∷ []

abbrev pub reply_words : Reply → List (List ℕ)
reply_words replies.Done = codes "ok" ∷ []
reply_words (replies.Named None) = codes "nil" ∷ []
reply_words (replies.Named (Some n)) = (codes "#" ++ decimal n) ∷ []
reply_words (replies.Word w) = decimal w ∷ []
reply_words (replies.Shape p d) = decimal p ∷ decimal d ∷ []
reply_words (replies.Marked n) = codes "marked" ∷ decimal n ∷ []
reply_words (replies.Reclaimed n) = codes "reclaimed" ∷ decimal n ∷ []
reply_words (replies.Refined n) = codes "refined" ∷ decimal n ∷ []
reply_words (replies.Moved n w) = codes "moved" ∷ decimal n ∷ decimal w ∷ []
reply_words (replies.Refused why) = codes "refused" ∷ refusal_words why

abbrev pub body_words : Step → List (List ℕ)
body_words (steps.Mutator o) = action_words o.action
body_words (steps.Collector k) = collection_words k

-- an event as its line has it after the count
abbrev pub event_text : Event → List ℕ
event_text e = spaced (actor_word e.actor ∷ spaced (body_words e.step) ∷ codes "=" ∷ spaced (reply_words e.reply) ∷ [])

-- a line and a reply tell the event: its text is the line, an equals sign between spaces, and the reply
abbrev pub IsToldBy : List ℕ → Reply → Event → Type 0
IsToldBy line reply e = event_text e ≡ line ++ codes " = " ++ spaced (reply_words reply)

abbrev pub event_line : ℕ → Event → List ℕ
event_line count e = line (decimal count ∷ actor_word e.actor ∷ spaced (body_words e.step) ∷ codes "=" ∷ spaced (reply_words e.reply) ∷ [])

-- the lines of events that are counted from a number on
abbrev pub event_lines : ℕ → List Event → List ℕ
event_lines count [] = []
event_lines count (e ∷ es) = event_line count e ++ event_lines (count + 1) es

-- the text of a record
abbrev pub record_text : EventList → List ℕ
record_text r = line (heap_words r.config) ++ event_lines 1 r.events
