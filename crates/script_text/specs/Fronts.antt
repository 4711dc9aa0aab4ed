-- The words of the line at a text's front, from a place on.
use Rattle.std.specs.Prelude.{◌≡◌, ◌+◌, ◌≤◌, ◌<◌, ◌-◌, ◌∷◌, ◌++◌, [], ℕ, Bool, true, false, List, take, drop, slice_index, codes}
use Rattle.heap_words.specs.declared.config.Config.{Config}
use Rattle.heap_words.specs.declared.config.Format.{Format}
use Rattle.heap_steps.specs.Actors.{HasCollection, IsOp, IsStepOf, IsEvent}
use Rattle.heap_steps.specs.declared.step.Action.{Action}
use Rattle.heap_steps.specs.declared.step.CollectorStep.{CollectorStep}
use Rattle.heap_steps.specs.declared.step.Actor.{Actor}
use Rattle.heap_steps.specs.declared.step.Step.TheVariants as steps
use Rattle.heap_steps.specs.declared.step.Event.{Event}
use Rattle.script_text.specs.Feeds.{end_of, line_of}
use Rattle.script_text.specs.Fits.{Fits, CollectionFits, EventFits}
use Rattle.script_text.specs.Lines.{words_of}
use Rattle.script_text.specs.Records.{actor_word, body_words, reply_words}
use Rattle.script_text.specs.Spelling.{action_words, collection_words}

-- the words of that line from a place on
abbrev pub words_from : List ℕ → ℕ → List (List ℕ)
words_from text at = words_of (drop at (line_of text))

-- the bytes from a place up to another
abbrev pub part : List ℕ → ℕ → ℕ → List ℕ
part text at past = take (past - at) (drop at text)

-- a part of the line, in which no space is
pub record IsClear (text : List ℕ) (at past : ℕ) : Type 0 where
  pub order : at ≤ past
  pub within : past ≤ end_of text
  pub clear : (k : ℕ) → at ≤ k → k < past → slice_index text k ≡ 32 → ⊥

-- the next word from a place on, and where the one after it starts
pub record IsNext (text : List ℕ) (at : ℕ) (word : List ℕ) (past : ℕ) : Type 0 where
  pub words : words_from text at ≡ word ∷ words_from text past
  pub within : past ≤ end_of text

-- the words after one that ends at a place: none, where it is the last
abbrev pub words_behind : List ℕ → ℕ → Bool → List (List ℕ)
words_behind text past true = words_from text (past + 1)
words_behind text past false = []

-- where a word ends: within the line, if more words follow, else where the line ends
abbrev pub EndsAt : List ℕ → ℕ → Bool → Type 0
EndsAt text past true = past + 1 ≤ end_of text
EndsAt text past false = past ≡ end_of text

-- a word from a place on, where it ends, and whether more follow
pub record IsLastWord (text : List ℕ) (at : ℕ) (word : List ℕ) (past : ℕ) (more : Bool) : Type 0 where
  pub words : words_from text at ≡ word ∷ words_behind text past more
  pub ends : EndsAt text past more

-- the words that are left of a line are those of an action that heaps of these sizes have, and more where these follow
pub record IsAction (c : Config) (text : List ℕ) (left : List (List ℕ)) (a : Action) (past : ℕ) (more : Bool) : Type 0 where
  pub words : left ≡ action_words a ++ words_behind text past more
  pub fits : Fits a
  pub owned : (m : ℕ) → m < c.mutators → IsOp c (record { mutator = m; action = a })
  pub ends : EndsAt text past more

-- the words that are left of a line are those of one of the collector's steps, one of every format, and more where these follow
pub record IsCollection (text : List ℕ) (left : List (List ℕ)) (k : CollectorStep) (past : ℕ) (more : Bool) : Type 0 where
  pub words : left ≡ collection_words k ++ words_behind text past more
  pub fits : CollectionFits k
  pub known : (f : Format) → HasCollection f k
  pub ends : EndsAt text past more

-- from a place on a line has an actor, one of the collector's steps that this actor takes in any heap, and more words
pub record IsOwnCollection (text : List ℕ) (at : ℕ) (a : Actor) (k : CollectorStep) (past : ℕ) : Type 0 where
  pub words : words_from text at ≡ actor_word a ∷ (collection_words k ++ words_from text (past + 1))
  pub fits : CollectionFits k
  pub owned : (c : Config) → IsStepOf c a (steps.Collector k)
  pub within : past + 1 ≤ end_of text

-- from a place on a line has an event, one of any heap, and ends with it
pub record IsCollectionEvent (text : List ℕ) (at : ℕ) (e : Event) (past : ℕ) : Type 0 where
  pub words : words_from text at ≡ actor_word e.actor ∷ (body_words e.step ++ codes "=" ∷ reply_words e.reply)
  pub fits : EventFits e
  pub owned : (c : Config) → IsEvent c e
  pub ends : past ≡ end_of text
  pub short : past ≤ 120
