-- What may be at each word's place in a line, and the first word that doesn't fit its place.
use Rattle.std.specs.Prelude.{ℕ, ◌+◌, Bool, true, false, List, [], ◌∷◌, ◌++◌, Option, Some, None, Result, Ok, Err, is_some, take, drop}
use Rattle.std.specs.Prelude.{codes, map, ◌==◌, if◌then◌else◌, option_map}
use Rattle.std.specs.Option.{option_map_or}
use Rattle.std.specs.Str.{bytes_eq}
use Rattle.heap_words.specs.declared.config.Config.{Config}
use Rattle.heap_words.specs.declared.config.Format.{Format}
use Rattle.heap_words.specs.declared.config.Format.TheVariants.{V1}
use Rattle.heap_steps.specs.Actors.{has_root}
use Rattle.heap_steps.specs.Forms.{Row, action_row, action_verbs, collection_row, collection_verbs}
use Rattle.heap_steps.specs.declared.form.Operand.TheVariants as operands
use Rattle.heap_steps.specs.declared.step.Actor.{Actor}
use Rattle.heap_steps.specs.declared.step.Actor.TheVariants as actors
use Rattle.script_text.specs.declared.fault.Kind.{Kind}
use Rattle.script_text.specs.declared.expected.Expected.{Expected}
use Rattle.script_text.specs.declared.expected.Expected.TheVariants as expected
use Rattle.script_text.specs.declared.expected.Stop.{Stop}
use Rattle.script_text.specs.declared.expected.TextKind.{TextKind}
use Rattle.script_text.specs.declared.expected.TextKind.TheVariants.{Script, Record}
use Rattle.script_text.specs.Reading.{◌>>=◌, number_of, small, large, operand_of, known_among}
use Rattle.script_text.specs.EventWords.{reply_of}
use Rattle.script_text.specs.Lines.{mutator_of}
use Rattle.script_text.specs.Events.{actor_of}

-- what was read, if anything was
abbrev pub when_read : {A : Type 0} → Result A Kind → Option A
when_read (Ok x) = Some x
when_read (Err fault) = None

-- the actor of a step in a text of this kind: a script has no background actors
abbrev pub actor_in : TextKind → Config → List ℕ → Option Actor
actor_in Record c word = when_read (actor_of c word)
actor_in Script c word =
    if bytes_eq word (codes "gc") then Some actors.Collector else option_map actors.Mutator (when_read (mutator_of c word))

-- what may be after a verb; nothing, if the word is none that the format has
abbrev pub form_among : {V : Type 0} → (V → Row) → Format → List V → List ℕ → Option (List Expected)
form_among row f vs word = do
  v ← known_among row f vs word
  Some (map expected.Operand (row v).operands)

unfoldable pub action_form : Format → List ℕ → Option (List Expected)
action_form f word = form_among action_row f action_verbs word

unfoldable pub collection_form : Format → List ℕ → Option (List Expected)
collection_form f word = form_among collection_row f collection_verbs word

-- where a verb of the actor is
abbrev pub verb_expected : Actor → Expected
verb_expected (actors.Mutator m) = expected.Action
verb_expected actors.Collector = expected.Collection
verb_expected (actors.Marker i) = expected.Marking
verb_expected (actors.Refiner i) = expected.Refining

-- what may be after a verb at such a place; nothing, if the word is no verb there
abbrev pub form_at : Format → Expected → List ℕ → Option (List Expected)
form_at f expected.Action verb = action_form f verb
form_at f expected.Collection verb = collection_form f verb
form_at f expected.Marking verb = if bytes_eq verb (codes "mark") then Some (expected.Operand operands.Small ∷ []) else None
form_at f expected.Refining verb = if bytes_eq verb (codes "refine") then Some (expected.Operand operands.Small ∷ []) else None
form_at f _ verb = None

-- what may be after the heap line's first word; nothing, if it is no format's
unfoldable pub heap_form : List ℕ → Option (List Expected)
heap_form verb =
    let sizes = expected.Regions ∷ expected.RegionWords ∷ expected.Buffer ∷ expected.Mutators ∷ expected.FirstName ∷ [] in
    if bytes_eq verb (codes "heap") then Some sizes
    else if bytes_eq verb (codes "heap2") then Some (sizes ++ expected.Card ∷ [])
    else if bytes_eq verb (codes "heap3") then Some (sizes ++ expected.Card ∷ expected.Globals ∷ expected.Registers ∷ [])
    else None

-- Whether a word may be at a place.
abbrev pub fits_word : Config → Expected → List ℕ → Bool
fits_word c (expected.Count n) word = option_map_or (λ count. count == n) (number_of large word) false
fits_word c expected.ScriptActor word = is_some (actor_in Script c word)
fits_word c expected.RecordActor word = is_some (actor_in Record c word)
fits_word c (expected.Operand k) word = option_map_or (λ n. has_root c k n) (operand_of k word) false
fits_word c expected.FirstName word = is_some (number_of large word)
fits_word c expected.Equals word = bytes_eq word (codes "=")
fits_word c expected.Heap word = is_some (heap_form word)
fits_word c expected.Action word = is_some (action_form c.format word)
fits_word c expected.Collection word = is_some (collection_form c.format word)
fits_word c expected.Marking word = bytes_eq word (codes "mark")
fits_word c expected.Refining word = bytes_eq word (codes "refine")
fits_word c expected.Reply word = false
fits_word c expected.End word = false
fits_word c _ word = is_some (number_of small word)

-- Whether the words that are left may come from a place on: the first of them, all of a reply, none at the line's end.
abbrev pub fits : Config → Expected → List (List ℕ) → Bool
fits c expected.End [] = true
fits c _ [] = false
fits c expected.Reply (word ∷ rest) = is_some (reply_of (word ∷ rest))
fits c place (word ∷ rest) = fits_word c place word

-- the places after a verb and to the line's end, if the word is a verb
abbrev pub behind_verb : Option (List Expected) → List Expected → List Expected
behind_verb None end = []
behind_verb (Some form) end = form ++ end

-- the places from a verb's on, if an actor is before it
abbrev pub expected_from_verb : Config → Option Actor → List (List ℕ) → List Expected → List Expected
expected_from_verb c None words end = []
expected_from_verb c (Some actor) [] end = verb_expected actor ∷ []
expected_from_verb c (Some actor) (verb ∷ rest) end =
    verb_expected actor ∷ behind_verb (form_at c.format (verb_expected actor) verb) end

-- the place of an actor
abbrev pub actor_expected : TextKind → Expected
actor_expected Script = expected.ScriptActor
actor_expected Record = expected.RecordActor

-- the places of a step from its actor's on, as far as its words tell them
abbrev pub expected_in_step : TextKind → Config → List (List ℕ) → List Expected → List Expected
expected_in_step kind c [] end = actor_expected kind ∷ []
expected_in_step kind c (word ∷ rest) end = actor_expected kind ∷ expected_from_verb c (actor_in kind c word) rest end

-- the places of a line of a step, or of the event of this count
abbrev pub expected_in_line : TextKind → Config → ℕ → List (List ℕ) → List Expected
expected_in_line Script c count words = expected_in_step Script c words (expected.End ∷ [])
expected_in_line Record c count words = expected.Count count ∷
    expected_in_step Record c (drop 1 words) (expected.Equals ∷ expected.Reply ∷ [])

-- the places of a heap line
abbrev pub expected_in_heap_line : List (List ℕ) → List Expected
expected_in_heap_line [] = expected.Heap ∷ []
expected_in_heap_line (verb ∷ rest) = expected.Heap ∷ behind_verb (heap_form verb) (expected.End ∷ [])

-- the first of the places, counted from n, at which the words that are left don't fit
abbrev pub first_misfit : Config → ℕ → List Expected → List (List ℕ) → Option Stop
first_misfit c n [] words = None
first_misfit c n (place ∷ more) words =
    if fits c place words then first_misfit c (n + 1) more (drop 1 words) else Some (record { word = n; place = place })

-- where reading a line stops: the first of its words that doesn't fit its place. No good line has more than twelve
abbrev pub stop_in : TextKind → Config → ℕ → List (List ℕ) → Option Stop
stop_in kind c count words = first_misfit c 1 (expected_in_line kind c count (take 12 words)) (take 12 words)

-- the sizes that stand for none: no place of a heap line asks for any
abbrev pub no_sizes : Config
no_sizes = record { format = V1; regions = 0; words = 0; buffer = 0; mutators = 0; first_name = 0 }

-- the same of a heap line
abbrev pub heap_stop_in : List (List ℕ) → Option Stop
heap_stop_in words = first_misfit no_sizes 1 (expected_in_heap_line (take 12 words)) (take 12 words)
