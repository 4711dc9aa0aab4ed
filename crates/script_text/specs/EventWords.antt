-- How the words of an event are read.
use Rattle.std.specs.Prelude.{ℕ, ◌+◌, List, [], ◌∷◌, Option, Some, None, length, take, drop, nat_lt, ◌==◌, if◌then◌else◌, codes}
use Rattle.std.specs.List.{position_or_len}
use Rattle.std.specs.Str.{bytes_eq}
use Rattle.heap_words.specs.declared.config.Config.{Config}
use Rattle.heap_steps.specs.declared.step.Actor.{Actor}
use Rattle.heap_steps.specs.declared.step.Actor.TheVariants as actors
use Rattle.heap_steps.specs.declared.step.CollectorStep.{CollectorStep}
use Rattle.heap_steps.specs.declared.step.CollectorStep.TheVariants as collector
use Rattle.heap_steps.specs.declared.step.Step.{Step}
use Rattle.heap_steps.specs.declared.step.Step.TheVariants as steps
use Rattle.heap_steps.specs.declared.step.Reply.{Reply}
use Rattle.heap_steps.specs.declared.step.Reply.TheVariants as replies
use Rattle.heap_steps.specs.declared.step.Refusal.{Refusal}
use Rattle.heap_steps.specs.declared.step.Refusal.TheVariants as refusals
use Rattle.script_text.specs.Reading.{◌>>=◌, number_of, small, large, allowed_of, collection_of}

-- a background marker, m0 to m7, or a background refiner, f0 to f7
unfoldable pub background_of : List ℕ → Option Actor
background_of [] = None
background_of (b ∷ digits) =
    if b == 109 then (do
      i ← number_of 7 digits
      Some (actors.Marker i))
    else if b == 102 then (do
      i ← number_of 7 digits
      Some (actors.Refiner i))
    else None

-- a step of a background marker
unfoldable pub marker_step : CollectorStep → Option Step
marker_step (collector.Mark k) = Some (steps.Collector (collector.Mark k))
marker_step _ = None

-- a step of a background refiner
unfoldable pub refiner_step : CollectorStep → Option Step
refiner_step (collector.Refine k) = Some (steps.Collector (collector.Refine k))
refiner_step _ = None

-- a step of its actor
unfoldable pub taken_of : Config → Actor → List (List ℕ) → Option Step
taken_of c (actors.Mutator m) ws = do
  a ← allowed_of c ws
  Some (steps.Mutator (record { mutator = m; action = a }))
taken_of c actors.Collector ws = do
  k ← collection_of c.format ws
  Some (steps.Collector k)
taken_of c (actors.Marker i) ws = do
  k ← collection_of c.format ws
  marker_step k
taken_of c (actors.Refiner i) ws = do
  k ← collection_of c.format ws
  refiner_step k

-- the refusal, if this is its number
unfoldable pub numbered : List ℕ → List ℕ → Refusal → Option Refusal
numbered number digit why = if bytes_eq number digit then Some why else None

unfoldable pub refusal_of : List ℕ → List ℕ → Option Refusal
refusal_of number name =
    if bytes_eq name (codes "Nil") then numbered number (codes "1") refusals.Nil
    else if bytes_eq name (codes "NoField") then numbered number (codes "2") refusals.NoField
    else if bytes_eq name (codes "Full") then numbered number (codes "3") refusals.Full
    else if bytes_eq name (codes "TooBig") then numbered number (codes "4") refusals.TooBig
    else if bytes_eq name (codes "NamesSpent") then numbered number (codes "5") refusals.NamesSpent
    else if bytes_eq name (codes "MarkRunning") then numbered number (codes "6") refusals.MarkRunning
    else if bytes_eq name (codes "NotMarking") then numbered number (codes "7") refusals.NotMarking
    else None

-- an object's name, or a data word
unfoldable pub name_or_word : List ℕ → Option Reply
name_or_word [] = None
name_or_word (b ∷ digits) =
    if b == 35 then (do
      n ← number_of large digits
      Some (replies.Named (Some n)))
    else (do
      w ← number_of large (b ∷ digits)
      Some (replies.Word w))

unfoldable pub lone_reply_of : List ℕ → Option Reply
lone_reply_of a =
    if bytes_eq a (codes "ok") then Some replies.Done
    else if bytes_eq a (codes "nil") then Some (replies.Named None)
    else name_or_word a

unfoldable pub pair_reply_of : List ℕ → List ℕ → Option Reply
pair_reply_of a b =
    if bytes_eq a (codes "marked") then (do
      n ← number_of small b
      Some (replies.Marked n))
    else if bytes_eq a (codes "reclaimed") then (do
      n ← number_of small b
      Some (replies.Reclaimed n))
    else if bytes_eq a (codes "refined") then (do
      n ← number_of small b
      Some (replies.Refined n))
    else (do
      p ← number_of small a
      d ← number_of small b
      Some (replies.Shape p d))

unfoldable pub long_reply_of : List ℕ → List ℕ → List ℕ → Option Reply
long_reply_of a b c =
    if bytes_eq a (codes "moved") then (do
      n ← number_of small b
      w ← number_of small c
      Some (replies.Moved n w))
    else if bytes_eq a (codes "refused") then (do
      why ← refusal_of b c
      Some (replies.Refused why))
    else None

-- any reply, whatever the step
unfoldable pub reply_of : List (List ℕ) → Option Reply
reply_of (a ∷ []) = lone_reply_of a
reply_of (a ∷ b ∷ []) = pair_reply_of a b
reply_of (a ∷ b ∷ c ∷ []) = long_reply_of a b c
reply_of _ = None

-- the place of the first `=`
abbrev pub equals_at : List (List ℕ) → ℕ
equals_at ws = position_or_len (λ w. bytes_eq w (codes "=")) ws

-- the words before the first `=` that a word follows; all, where there is none
unfoldable pub step_part : List (List ℕ) → List (List ℕ)
step_part ws = if nat_lt (equals_at ws + 1) (length ws) then take (equals_at ws) ws else ws

-- the words after it
unfoldable pub reply_part : List (List ℕ) → Option (List (List ℕ))
reply_part ws = if nat_lt (equals_at ws + 1) (length ws) then Some (drop (equals_at ws + 1) ws) else None

-- the reply after a step
unfoldable pub answer_of : List (List ℕ) → Option Reply
answer_of ws = reply_part ws >>= reply_of
