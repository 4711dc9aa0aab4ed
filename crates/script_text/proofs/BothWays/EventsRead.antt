-- What is read of an event's line is spelled so.
use Rattle.std.proofs.Common.{◌≡◌, ◌<◌, ◌≤◌, ◌∷◌, ◌++◌, ◌∙◌}
use Rattle.std.proofs.Common.{ℕ, Bool, true, false, cond, eqb, List, [], length, Option, Some, None, Result, Ok, Err}
use Rattle.std.proofs.Common.{refl, sym, ap, subst, append_assoc, arith, inl, inr}
use Rattle.std.specs.Prelude.{nat_lt, codes, IfOk}
use Rattle.std.specs.Fmt.{decimal}
use Rattle.std.specs.Str.{bytes_eq}
use Rattle.std.proofs.lemmas.Bool.{eqb-true}
use Rattle.std.proofs.lemmas.Slice.Eq.{bytes_eq-Decides}
use Rattle.heap_words.specs.declared.config.Config.{Config}
use Rattle.heap_steps.specs.Actors.{IsStepOf, IsEvent}
use Rattle.heap_steps.specs.declared.step.CollectorStep.{CollectorStep}
use Rattle.heap_steps.specs.declared.step.CollectorStep.TheVariants as collector
use Rattle.heap_steps.specs.declared.step.Actor.{Actor}
use Rattle.heap_steps.specs.declared.step.Actor.TheVariants as actors
use Rattle.heap_steps.specs.declared.step.Step.{Step}
use Rattle.heap_steps.specs.declared.step.Step.TheVariants as steps
use Rattle.heap_steps.specs.declared.step.Reply.{Reply}
use Rattle.heap_steps.specs.declared.step.Reply.TheVariants as replies
use Rattle.heap_steps.specs.declared.step.Event.{Event}
use Rattle.script_text.specs.declared.fault.Kind.{Kind}
use Rattle.script_text.specs.declared.fault.Kind.TheVariants as kinds
use Rattle.script_text.specs.Reading.{number_of, large, allowed_of, collection_of}
use Rattle.script_text.specs.Fits.{StepFits, CollectionFits, EventFits}
use Rattle.script_text.specs.Spelling.{collection_words, spaced}
use Rattle.script_text.specs.Records.{actor_word, body_words, reply_words}
use Rattle.script_text.specs.EventWords.{background_of, marker_step, refiner_step, taken_of, step_part, reply_part, reply_of, answer_of}
use Rattle.script_text.specs.Lines.{◌>>=◌, or_fault, words_of, mutator_of}
use Rattle.script_text.specs.Events.{foreground_of, actor_of, counted_of, event_of, event_line_of}
use Rattle.script_text.proofs.Parts.Numbers.{number_of_is}
use Rattle.script_text.proofs.BothWays.Grammars as grammars
use Rattle.script_text.proofs.BothWays.Grammars.{option_bind, some_is, none_is}
use Rattle.script_text.proofs.BothWays.Allowed.{allowed_is}
use Rattle.script_text.proofs.BothWays.Collections.{collection_is}
use Rattle.script_text.proofs.BothWays.StepsRead.{result_bind, ok_is, or_fault_is, either, mutator_is, joined, too_long}
use Rattle.script_text.proofs.BothWays.ReplyLaws.{pick, reply_is}
use Rattle.script_text.proofs.Reading.Parting.{parted}

-- the words of an event
abbrev pub event_words : ℕ → Event → List (List ℕ)
event_words n e = decimal n ∷ actor_word e.actor ∷ (body_words e.step ++ codes "=" ∷ reply_words e.reply)

-- the line of an event, without its line feed
abbrev pub event_text : ℕ → Event → List ℕ
event_text n e = spaced (decimal n ∷ actor_word e.actor ∷ spaced (body_words e.step) ∷ codes "=" ∷ spaced (reply_words e.reply) ∷ [])

abbrev pub KnownActor : Config → Actor → Type 0
KnownActor c (actors.Mutator m) = m < c.mutators
KnownActor c actors.Collector = Unit {0}
KnownActor c (actors.Marker i) = i < 8
KnownActor c (actors.Refiner i) = i < 8

-- an actor, and its word
record IsActorWord (c : Config) (word : List ℕ) (a : Actor) : Type 0 where
  spelled : word ≡ actor_word a
  known : KnownActor c a

first_byte : (b d : ℕ) (digits rest : List ℕ) → b ≡ d → digits ≡ rest → b ∷ digits ≡ d ∷ rest
first_byte b d digits rest e f = cc

same_actor : (c : Config) (word : List ℕ) (a b : Actor) → word ≡ actor_word a → KnownActor c a → a ≡ b → IsActorWord c word b
same_actor c word a b spelled known e = subst (IsActorWord c word) e (record { spelled = spelled; known = known })

background_is : (c : Config) (word : List ℕ) (a : Actor) → background_of word ≡ Some a → IsActorWord c word a
unfolding background_of
background_is c [] a e = absurd (none_is a e)
background_is c (b ∷ digits) a e =
    pick (eqb b 109) _ _ a e
    (λ h f.
    let read = option_bind (number_of 7 digits) (λ i. Some (actors.Marker i)) a f in
    let number = number_of_is 7 digits read.0 read.1 in
    let few = number.1 in
    same_actor c (b ∷ digits) (actors.Marker read.0) a (first_byte b 109 digits (decimal read.0) (eqb-true b 109 h) number.0) (omega arith)
    (some_is (actors.Marker read.0) a read.2)) (λ other e1. pick (eqb b 102) _ _ a e1
    (λ h f.
    let read = option_bind (number_of 7 digits) (λ i. Some (actors.Refiner i)) a f in
    let number = number_of_is 7 digits read.0 read.1 in
    let few = number.1 in
    same_actor c (b ∷ digits) (actors.Refiner read.0) a (first_byte b 102 digits (decimal read.0) (eqb-true b 102 h) number.0) (omega arith)
    (some_is (actors.Refiner read.0) a read.2)) (λ other2 e2. absurd (none_is a e2)))

foreground_is : (c : Config) (word : List ℕ) (o : Option Actor) (a : Actor) → background_of word ≡ o
    → foreground_of c word o ≡ Ok a → IsActorWord c word a
unfolding foreground_of
foreground_is c word (Some b) a is e = subst (IsActorWord c word) (ok_is b a e) (background_is c word b is)
foreground_is c word None a is e =
    let read = result_bind (mutator_of c word) (λ m. Ok (actors.Mutator m)) a e in
    let mutator = mutator_is c word read.0 read.1 in
    same_actor c word (actors.Mutator read.0) a mutator.0 mutator.1 (ok_is (actors.Mutator read.0) a read.2)

actor_is : (c : Config) (word : List ℕ) (a : Actor) → actor_of c word ≡ Ok a → IsActorWord c word a
unfolding actor_of
actor_is c word a e =
    elim (either (bytes_eq word (codes "gc")) (Ok actors.Collector) (foreground_of c word (background_of word)) a e) [
      | inl h ↦ same_actor c word actors.Collector a ((bytes_eq-Decides word (codes "gc")).0 h.0) tt (ok_is actors.Collector a h.1)
      | inr h ↦ foreground_is c word (background_of word) a refl h.1
    ]

-- a step of its actor, and its words
record IsTaken (c : Config) (a : Actor) (words : List (List ℕ)) (s : Step) : Type 0 where
  spelled : words ≡ body_words s
  owned : IsStepOf c a s
  fits : StepFits s

same_step : (c : Config) (a : Actor) (ws : List (List ℕ)) (s t : Step) → ws ≡ body_words s → IsStepOf c a s
    → StepFits s → Some s ≡ Some t → IsTaken c a ws t
same_step c a ws s t spelled owned fits e =
    subst (IsTaken c a ws) (some_is s t e) (record { spelled = spelled; owned = owned; fits = fits })

marked : (c : Config) (i : ℕ) (ws : List (List ℕ)) (k : CollectorStep) (s : Step) → i < 8 → ws ≡ collection_words k → CollectionFits k
    → marker_step k ≡ Some s → IsTaken c (actors.Marker i) ws s
unfolding marker_step
marked c i ws (collector.Mark n) s known spelled fits e =
    same_step c (actors.Marker i) ws (steps.Collector (collector.Mark n)) s spelled known fits e
marked c i ws _ s known spelled fits e = absurd (none_is s e)

refined : (c : Config) (i : ℕ) (ws : List (List ℕ)) (k : CollectorStep) (s : Step) → i < 8 → ws ≡ collection_words k → CollectionFits k
    → refiner_step k ≡ Some s → IsTaken c (actors.Refiner i) ws s
unfolding refiner_step
refined c i ws (collector.Refine n) s known spelled fits e =
    same_step c (actors.Refiner i) ws (steps.Collector (collector.Refine n)) s spelled known fits e
refined c i ws _ s known spelled fits e = absurd (none_is s e)

taken_is : (c : Config) (a : Actor) (ws : List (List ℕ)) (s : Step) → KnownActor c a → taken_of c a ws ≡ Some s → IsTaken c a ws s
unfolding taken_of
taken_is c (actors.Mutator m) ws s known e =
    let read = option_bind (allowed_of c ws) (λ x. Some (steps.Mutator (record { mutator = m; action = x }))) s e in
    let is = allowed_is c m ws read.0 known read.1 in
    same_step c (actors.Mutator m) ws (steps.Mutator (record { mutator = m; action = read.0 })) s is.spelled (refl, is.owned) is.fits read.2
taken_is c actors.Collector ws s known e =
    let read = option_bind (collection_of c.format ws) (λ k. Some (steps.Collector k)) s e in
    let is = collection_is c.format ws read.0 read.1 in
    same_step c actors.Collector ws (steps.Collector read.0) s is.spelled is.known is.fits read.2
taken_is c (actors.Marker i) ws s known e =
    let read = option_bind (collection_of c.format ws) marker_step s e in
    let is = collection_is c.format ws read.0 read.1 in
    marked c i ws read.0 s known is.spelled is.fits read.2
taken_is c (actors.Refiner i) ws s known e =
    let read = option_bind (collection_of c.format ws) refiner_step s e in
    let is = collection_is c.format ws read.0 read.1 in
    refined c i ws read.0 s known is.spelled is.fits read.2

-- an event, and the words after its count
record IsCounted (c : Config) (words : List (List ℕ)) (e : Event) : Type 0 where
  spelled : words ≡ actor_word e.actor ∷ (body_words e.step ++ codes "=" ∷ reply_words e.reply)
  owned : IsEvent c e
  fits : EventFits e

abbrev made : Actor → Step → Reply → Event
made a s r = record { actor = a; step = s; reply = r }

both_parts : (ws step reply body words : List (List ℕ)) → ws ≡ step ++ codes "=" ∷ reply → step ≡ body
    → reply ≡ words → ws ≡ body ++ codes "=" ∷ words
both_parts ws step reply body words e f g =
    e ∙ ap (λ (t : List (List ℕ)). t ++ codes "=" ∷ reply) f ∙ ap (λ (t : List (List ℕ)). body ++ codes "=" ∷ t) g

counted_is : (c : Config) (ws : List (List ℕ)) (e : Event) → counted_of c ws ≡ Ok e → IsCounted c ws e
unfolding counted_of answer_of
counted_is c [] e h = absurd cc
counted_is c (word ∷ rest) e h =
    let who = result_bind (actor_of c word)
    (λ a. or_fault (taken_of c a (step_part rest)) kinds.BadStep >>= λ s.
    or_fault (answer_of rest) kinds.BadReply >>= λ r. Ok (made a s r)) e h in
    let what = result_bind (or_fault (taken_of c who.0 (step_part rest)) kinds.BadStep)
    (λ s. or_fault (answer_of rest) kinds.BadReply >>= λ r. Ok (made who.0 s r)) e who.2 in
    let why = result_bind (or_fault (answer_of rest) kinds.BadReply) (λ r. Ok (made who.0 what.0 r)) e what.2 in
    let actor = actor_is c word who.0 who.1 in
    let step =
    taken_is c who.0 (step_part rest) what.0 actor.known (or_fault_is (taken_of c who.0 (step_part rest)) kinds.BadStep what.0 what.1) in
    let behind = option_bind (reply_part rest) reply_of why.0 (or_fault_is (answer_of rest) kinds.BadReply why.0 why.1) in
    let reply = reply_is behind.0 why.0 behind.2 in
    let words = both_parts rest (step_part rest) behind.0 (body_words what.0) (reply_words why.0)
    (parted rest behind.0 behind.1) step.spelled reply.spelled in
    subst (IsCounted c (word ∷ rest)) {x = made who.0 what.0 why.0} (ok_is (made who.0 what.0 why.0) e why.2) (record {
      spelled = grammars.joined word (actor_word who.0) rest (body_words what.0 ++ codes "=" ∷ reply_words why.0) actor.spelled words;
      owned = step.owned;
      fits = (step.fits, reply.fits);
    })

one_of : (b : Bool) (r : Result Event Kind) (k : Kind) (e : Event) → cond b r (Err k) ≡ Ok e → (b ≡ true) × (r ≡ Ok e)
one_of true r k e h = (refl, h)
one_of false r k e h = absurd cc

-- an event, and its words
record AreWordsOf (c : Config) (n : ℕ) (words : List (List ℕ)) (e : Event) : Type 0 where
  counted : n ≤ large
  spelled : words ≡ event_words n e
  owned : IsEvent c e
  fits : EventFits e

event_is : (n : ℕ) (c : Config) (ws : List (List ℕ)) (e : Event) → event_of n c ws ≡ Ok e → AreWordsOf c n ws e
unfolding event_of
event_is n c [] e h = absurd cc
event_is n c (word ∷ rest) e h =
    let read = result_bind (or_fault (number_of large word) kinds.BadCount)
    (λ count. cond (eqb count n) (counted_of c rest) (Err kinds.BadCount)) e h in
    let number = number_of_is large word read.0 (or_fault_is (number_of large word) kinds.BadCount read.0 read.1) in
    let same = one_of (eqb read.0 n) (counted_of c rest) kinds.BadCount e read.2 in
    let is = counted_is c rest e same.1 in
    record {
      counted = (let le = number.1 in let is = eqb-true read.0 n same.0 in omega arith);
      spelled = grammars.joined word (decimal n) rest (actor_word e.actor ∷ (body_words e.step ++ codes "=" ∷ reply_words e.reply))
          (number.0 ∙ ap decimal (eqb-true read.0 n same.0)) is.spelled;
      owned = is.owned;
      fits = is.fits;
    }

-- words that are parted once are parted
spaced_on : (w v : List ℕ) (ws vs : List (List ℕ)) → spaced (w ∷ ws) ++ 32 ∷ spaced (v ∷ vs) ≡ spaced ((w ∷ ws) ++ v ∷ vs)
spaced_on w v [] vs = refl
spaced_on w v (x ∷ ws) vs =
    append_assoc w (32 ∷ spaced (x ∷ ws)) (32 ∷ spaced (v ∷ vs)) ∙ ap (λ (t : List ℕ). w ++ 32 ∷ t) (spaced_on x v ws vs)

flat : (a b x y : List ℕ) (body reply xs ys : List (List ℕ)) → body ≡ x ∷ xs → reply ≡ y ∷ ys
    → spaced (a ∷ b ∷ spaced body ∷ codes "=" ∷ spaced reply ∷ []) ≡ spaced (a ∷ b ∷ (body ++ codes "=" ∷ reply))
flat a b x y body reply xs ys e f = rw (e, f) (ap (λ (t : List ℕ). a ++ 32 ∷ (b ++ 32 ∷ t)) (spaced_on x (codes "=") xs (y ∷ ys)))

pub some_body : (s : Step) → (x : List ℕ) × (xs : List (List ℕ)) × (body_words s ≡ x ∷ xs)
some_body (steps.Mutator o) = (_, _, refl)
some_body (steps.Collector k) = (_, _, refl)

pub some_reply : (r : Reply) → (x : List ℕ) × (xs : List (List ℕ)) × (reply_words r ≡ x ∷ xs)
some_reply (replies.Named None) = (_, _, refl)
some_reply (replies.Named (Some n)) = (_, _, refl)
some_reply _ = (_, _, refl)

pub event_text_is : (n : ℕ) (e : Event) → event_text n e ≡ spaced (event_words n e)
event_text_is n e =
    let body = some_body e.step in
    let reply = some_reply e.reply in
    flat (decimal n) (actor_word e.actor) body.0 reply.0 (body_words e.step) (reply_words e.reply) body.1 reply.1 body.2 reply.2

-- an event, and its line
pub record IsEventLine (c : Config) (n : ℕ) (text : List ℕ) (e : Event) : Type 0 where
  pub counted : n ≤ large
  pub spelled : text ≡ event_text n e
  pub owned : IsEvent c e
  pub fits : EventFits e

pub event_line_is : (n : ℕ) (c : Config) (text : List ℕ) (e : Event) → event_line_of n c text ≡ Ok e → IsEventLine c n text e
unfolding event_line_of
event_line_is n c text e h =
    let is = event_is n c (words_of text) e (too_long (nat_lt 120 (length text)) kinds.LongLine (event_of n c (words_of text)) e h) in
    record {
      counted = is.counted;
      spelled = joined text (event_words n e) is.spelled ∙ sym (event_text_is n e);
      owned = is.owned;
      fits = is.fits;
    }

pub event_line_known : (n : ℕ) (c : Config) (text : List ℕ) (r : Result Event Kind) → r ≡ event_line_of n c text → IfOk r (IsEvent c)
event_line_known n c text (Ok e) h = (event_line_is n c text e (sym h)).owned
event_line_known n c text (Err k) h = tt
