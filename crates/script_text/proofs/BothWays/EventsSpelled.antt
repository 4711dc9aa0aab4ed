-- The words of an event, and that the event is read from them.
use Rattle.std.proofs.Common.{◌≡◌, ◌<◌, ◌≤◌, ◌∷◌, ◌++◌, ◌∙◌}
use Rattle.std.proofs.Common.{ℕ, zero, true, false, eqb, List, [], length, Some, None, Ok, refl, sym, ap, subst, arith}
use Rattle.std.specs.Prelude.{codes, nat_le}
use Rattle.std.specs.Fmt.{decimal}
use Rattle.std.specs.List.{All}
use Rattle.std.proofs.lemmas.Bool.{le-ltb, leb-true, ne_eqb}
use Rattle.std.proofs.lemmas.Bool.Decides.{Decides-eqb}
use Rattle.std.proofs.lemmas.List.Elements.{All-nil, All-cons, All-append}
use Rattle.heap_words.specs.declared.config.Config.{Config}
use Rattle.heap_steps.specs.Actors.{IsOp, IsStepOf, IsEvent}
use Rattle.heap_steps.specs.Forms.{Grammar, actions_grammar, collections_grammar}
use Rattle.heap_steps.specs.declared.form.Operand.{Operand}
use Rattle.heap_steps.specs.declared.form.Operand.TheVariants as operands
use Rattle.heap_steps.specs.declared.step.CollectorStep.TheVariants as collector
use Rattle.heap_steps.specs.declared.step.Actor.{Actor}
use Rattle.heap_steps.specs.declared.step.Actor.TheVariants as actors
use Rattle.heap_steps.specs.declared.step.Op.{Op}
use Rattle.heap_steps.specs.declared.step.Step.{Step}
use Rattle.heap_steps.specs.declared.step.Step.TheVariants as steps
use Rattle.heap_steps.specs.declared.step.Reply.{Reply}
use Rattle.heap_steps.specs.declared.step.Reply.TheVariants as replies
use Rattle.heap_steps.specs.declared.step.Refusal.{Refusal}
use Rattle.heap_steps.specs.declared.step.Refusal.TheVariants as refusals
use Rattle.heap_steps.specs.declared.step.Event.{Event}
use Rattle.script_text.specs.Reading.{small, large}
use Rattle.script_text.specs.Fits.{OperandFits, OperandsFit, FitsBy, Fits, StepFits, ReplyFits, EventFits}
use Rattle.script_text.specs.Spelling.{operand_word, operand_words, words_by, action_words, spaced}
use Rattle.script_text.specs.Records.{actor_word, body_words, refusal_words, reply_words}
use Rattle.script_text.specs.EventWords.{background_of, marker_step, refiner_step, taken_of, answer_of}
use Rattle.script_text.specs.Lines.{words_of}
use Rattle.script_text.specs.Events.{foreground_of, actor_of, counted_of, event_of, event_line_of}
use Rattle.script_text.proofs.Parts.Numbers.{number_of_some, first_is_digit}
use Rattle.script_text.proofs.BothWays.Allowed.{allowed_again}
use Rattle.script_text.proofs.BothWays.Collections.{collection_again}
use Rattle.script_text.proofs.BothWays.Grammars.{IsGrammar, words_are, words_long}
use Rattle.script_text.proofs.BothWays.Actions.{actions_are, collections_are}
use Rattle.script_text.proofs.BothWays.Lengths.{two_long, three_long, five_long}
use Rattle.script_text.proofs.Parts.Rows.{small_long, good_is}
use Rattle.script_text.proofs.Parts.Spelled.{IsWord, AreWords, literal, number_short, number_word, small_word}
use Rattle.script_text.proofs.Parts.Spelled.{lettered, word1, word2, word3, words_again, no_feed}
use Rattle.script_text.proofs.BothWays.StepsSpelled.{not_gc, mutator_again}
use Rattle.script_text.proofs.BothWays.ReplyLaws.{number_not, reply_read}
use Rattle.script_text.proofs.Reading.Parting.{is_equals, answered, step_again, reply_again}
use Rattle.script_text.proofs.BothWays.EventsRead.{event_words, event_text, event_text_is, some_reply, KnownActor}

-- no word of a step is `=`
abbrev ArePlain : List (List ℕ) → Type 0
ArePlain ws = All (λ w. is_equals w ≡ false) ws

plain_number : (n : ℕ) → n ≤ large → is_equals (decimal n) ≡ false
plain_number n fits = number_not n (codes "=") fits (omega arith)

operand_plain : (k : Operand) (n : ℕ) → OperandFits k n → is_equals (operand_word k n) ≡ false
operand_plain operands.Small n fits = plain_number n (omega (arith, fits))
operand_plain operands.Byte n fits = plain_number n (omega (arith, fits))
operand_plain operands.Large n fits = plain_number n fits
operand_plain operands.Value zero fits = refl
operand_plain _ n fits = refl

operands_plain : (ks : List Operand) (ns : List ℕ) → OperandsFit ks ns → ArePlain (operand_words ks ns)
operands_plain [] [] fits = All-nil (λ w. is_equals w ≡ false)
operands_plain (k ∷ ks) (n ∷ ns) fits =
    All-cons (λ w. is_equals w ≡ false) (operand_word k n) (operand_words ks ns) (operand_plain k n fits.0) (operands_plain ks ns fits.1)
operands_plain _ _ fits = absurd fits

words_plain : {V A : Type 0} (g : Grammar V A) (is : IsGrammar g) (x : A) → FitsBy g x → ArePlain (words_by g x)
words_plain g is x fits =
    All-cons (λ w. is_equals w ≡ false) (g.row (g.verb x)).word (operand_words (g.row (g.verb x)).operands (g.numbers x))
    (good_is (g.row (g.verb x)) (is.rows (g.verb x)).0).plain (operands_plain (g.row (g.verb x)).operands (g.numbers x) fits)

body_plain : (s : Step) → StepFits s → ArePlain (body_words s)
body_plain (steps.Mutator o) fits = words_plain actions_grammar actions_are o.action fits
body_plain (steps.Collector k) fits = words_plain collections_grammar collections_are k fits

-- how long the parts of a line are
body_long : (s : Step) → StepFits s → length (spaced (body_words s)) ≤ 49
body_long (steps.Mutator o) fits = words_long actions_grammar actions_are o.action fits
body_long (steps.Collector k) fits = words_long collections_grammar collections_are k fits

refused_long : (why : Refusal) → nat_le (length (spaced (codes "refused" ∷ refusal_words why))) 32 ≡ true
refused_long refusals.Nil = refl
refused_long _ = refl

reply_long : (r : Reply) → ReplyFits r → length (spaced (reply_words r)) ≤ 32
reply_long replies.Done fits = omega arith
reply_long (replies.Named None) fits = omega arith
reply_long (replies.Named (Some n)) fits = omega (arith, (number_word n fits).short)
reply_long (replies.Word w) fits = omega (arith, (number_word w fits).short)
reply_long (replies.Shape p d) fits = omega (arith, two_long (decimal p) (decimal d), small_long p fits.0, small_long d fits.1)
reply_long (replies.Marked n) fits = omega (arith, two_long (codes "marked") (decimal n), small_long n fits)
reply_long (replies.Reclaimed n) fits = omega (arith, two_long (codes "reclaimed") (decimal n), small_long n fits)
reply_long (replies.Refined n) fits = omega (arith, two_long (codes "refined") (decimal n), small_long n fits)
reply_long (replies.Moved n w) fits =
    omega (arith, three_long (codes "moved") (decimal n) (decimal w), small_long n fits.0, small_long w fits.1)
reply_long (replies.Refused why) fits = leb-true (length (spaced (codes "refused" ∷ refusal_words why))) 32 (refused_long why)

refused_words : (why : Refusal) → AreWords (codes "refused" ∷ refusal_words why)
refused_words refusals.Nil = word3 _ _ _ (literal _ refl refl) (literal _ refl refl) (literal _ refl refl)
refused_words _ = word3 _ _ _ (literal _ refl refl) (literal _ refl refl) (literal _ refl refl)

-- the words of the parts
reply_is_words : (r : Reply) → ReplyFits r → AreWords (reply_words r)
reply_is_words replies.Done fits = word1 _ (literal (codes "ok") refl refl)
reply_is_words (replies.Named None) fits = word1 _ (literal (codes "nil") refl refl)
reply_is_words (replies.Named (Some n)) fits = word1 _ (lettered 35 n (omega arith) fits)
reply_is_words (replies.Word w) fits = word1 _ (number_word w fits)
reply_is_words (replies.Shape p d) fits = word2 _ _ (small_word p fits.0) (small_word d fits.1)
reply_is_words (replies.Moved n w) fits = word3 _ _ _ (literal (codes "moved") refl refl) (small_word n fits.0) (small_word w fits.1)
reply_is_words (replies.Refused why) fits = refused_words why
reply_is_words _ fits = word2 _ _ (literal _ refl refl) (small_word _ fits)

body_is_words : (s : Step) → StepFits s → AreWords (body_words s)
body_is_words (steps.Mutator o) fits = words_are actions_grammar actions_are o.action fits
body_is_words (steps.Collector k) fits = words_are collections_grammar collections_are k fits

-- an actor's word
record IsActor (c : Config) (a : Actor) : Type 0 where
  word : IsWord (actor_word a)
  short : length (actor_word a) ≤ 11
  again : actor_of c (actor_word a) ≡ Ok a

no_background : (word : List ℕ) (m : ℕ) → m ≤ large → word ≡ decimal m → background_of word ≡ None
unfolding background_of
no_background [] m fits e = refl
no_background (b ∷ digits) m fits e =
    let digit = first_is_digit (b ∷ digits) m (omega arith) e in
    let no_marker : eqb b 109 ≡ false = ne_eqb b 109 (λ same. omega arith) in
    let no_refiner : eqb b 102 ≡ false = ne_eqb b 102 (λ same. omega arith) in
    rw (no_marker, no_refiner) refl

is_mutator : (c : Config) (m : ℕ) → m < c.mutators → m ≤ small → IsActor c (actors.Mutator m)
unfolding actor_of foreground_of background_of
is_mutator c m known fits =
    let short : length (decimal m) ≤ 10 = small_long m fits in
    record {
      word = small_word m fits;
      short = omega arith;
      again = rw (not_gc m (omega arith), no_background (decimal m) m (omega arith) refl, mutator_again c m known fits) refl;
    }

-- a mutator's number is that of its type
abbrev pub ActorFits : Actor → Type 0
ActorFits (actors.Mutator m) = m ≤ small
ActorFits _ = Unit {0}

actor_fits : (c : Config) (a : Actor) → c.mutators ≤ small → KnownActor c a → ActorFits a
actor_fits c (actors.Mutator m) few known = omega arith
actor_fits c _ few known = tt

is_actor : (c : Config) (a : Actor) → ActorFits a → KnownActor c a → IsActor c a
unfolding actor_of foreground_of background_of
is_actor c (actors.Mutator m) fits known = is_mutator c m known fits
is_actor c actors.Collector fits known = record { word = literal (codes "gc") refl refl; short = omega arith; again = refl }
is_actor c (actors.Marker i) fits known =
    let short : length (decimal i) ≤ 10 = small_long i (omega arith) in
    record {
      word = lettered 109 i (omega arith) (omega arith);
      short = omega arith;
      again = rw (number_of_some 7 (decimal i) i (omega arith) refl (omega arith)) refl;
    }
is_actor c (actors.Refiner i) fits known =
    let short : length (decimal i) ≤ 10 = small_long i (omega arith) in
    record {
      word = lettered 102 i (omega arith) (omega arith);
      short = omega arith;
      again = rw (number_of_some 7 (decimal i) i (omega arith) refl (omega arith)) refl;
    }

-- a step of its actor, read from its words
record IsOwn (c : Config) (a : Actor) (s : Step) : Type 0 where
  known : KnownActor c a
  again : taken_of c a (body_words s) ≡ Some s

is_own : (c : Config) (a : Actor) (s : Step) → IsStepOf c a s → StepFits s → IsOwn c a s
unfolding taken_of marker_step refiner_step
is_own c (actors.Mutator m) (steps.Mutator o) h fits = record {
  known = subst (λ (k : ℕ). k < c.mutators) h.0 h.1.at.mutator;
  again = rw (allowed_again c o h.1 fits) (ap (λ (k : ℕ). Some (steps.Mutator (record { mutator = k; action = o.action }))) (sym h.0));
}
is_own c actors.Collector (steps.Collector k) h fits = record { known = tt; again = rw (collection_again c.format k h fits) refl }
is_own c (actors.Marker i) (steps.Collector (collector.Mark k)) h fits = record {
  known = h;
  again = rw (collection_again c.format (collector.Mark k) tt fits) refl;
}
is_own c (actors.Refiner i) (steps.Collector (collector.Refine k)) h fits = record {
  known = h;
  again = rw (collection_again c.format (collector.Refine k) tt fits) refl;
}
is_own c _ _ h fits = absurd h

longer : (x : List ℕ) (xs ws : List (List ℕ)) → ws ≡ x ∷ xs → 1 ≤ length ws
longer x xs ws e = let count : length ws ≡ length (x ∷ xs) = ap length e in omega arith

answer_again : (body : List (List ℕ)) (r : Reply) → ArePlain body → ReplyFits r → answer_of (body ++ codes "=" ∷ reply_words r) ≡ Some r
unfolding answer_of
answer_again body r plain fits =
    let some = some_reply r in
    ap answered (reply_again body (reply_words r) plain (longer some.0 some.1 (reply_words r) some.2)) ∙ reply_read r fits

-- what a record may hold, of one event
pub record IsGood (n : ℕ) (c : Config) (e : Event) : Type 0 where
  pub counted : n ≤ large
  pub few : c.mutators ≤ small
  pub owned : IsEvent c e
  pub fits : EventFits e

-- an event is read from its words, as its actor is from its own
counted_with : (c : Config) (e : Event) → IsActor c e.actor → IsEvent c e → EventFits e
    → counted_of c (actor_word e.actor ∷ (body_words e.step ++ codes "=" ∷ reply_words e.reply)) ≡ Ok e
unfolding counted_of
counted_with c e actor owned fits =
    let own = is_own c e.actor e.step owned fits.0 in
    let plain = body_plain e.step fits.0 in
    let some = some_reply e.reply in
    rw (
      actor.again,
      step_again (body_words e.step) (reply_words e.reply) plain (longer some.0 some.1 (reply_words e.reply) some.2),
      own.again,
      answer_again (body_words e.step) e.reply plain fits.1,
    ) refl

event_with : (n : ℕ) (c : Config) (e : Event) → n ≤ large → IsActor c e.actor → IsEvent c e → EventFits e
    → event_of n c (event_words n e) ≡ Ok e
unfolding event_of
event_with n c e counted actor owned fits =
    let same : eqb n n ≡ true = (Decides-eqb n n).1 refl in
    rw (number_of_some large (decimal n) n (omega arith) refl counted, same) (counted_with c e actor owned fits)

-- its actor's word
good_actor : (n : ℕ) (c : Config) (e : Event) → IsGood n c e → IsActor c e.actor
good_actor n c e good =
    let own = is_own c e.actor e.step good.owned good.fits.0 in
    is_actor c e.actor (actor_fits c e.actor good.few own.known) own.known

event_again : (n : ℕ) (c : Config) (e : Event) → IsGood n c e → event_of n c (event_words n e) ≡ Ok e
event_again n c e good = event_with n c e good.counted (good_actor n c e good) good.owned good.fits

abbrev rest_words : Event → List (List ℕ)
rest_words e = actor_word e.actor ∷ (body_words e.step ++ codes "=" ∷ reply_words e.reply)

-- the line of an event, by its words
line_again : (n : ℕ) (c : Config) (line : List ℕ) (e : Event) → length line ≤ 120 → words_of line ≡ decimal n ∷ rest_words e
    → n ≤ large → ActorFits e.actor → IsEvent c e → EventFits e → event_line_of n c line ≡ Ok e
unfolding event_line_of
line_again n c line e short words counted few owned fits =
    let own = is_own c e.actor e.step owned fits.0 in
    rw (le-ltb 120 (length line) short) (ap (event_of n c) words
    ∙ event_with n c e counted (is_actor c e.actor few own.known) owned fits)

-- the line of a mutator's event, by its words
pub op_event_again : (n : ℕ) (c : Config) (line : List ℕ) (o : Op) (r : Reply) → length line ≤ 120
    → words_of line ≡ decimal n ∷ decimal o.mutator ∷ (action_words o.action ++ codes "=" ∷ reply_words r)
    → n ≤ large → o.mutator ≤ small → IsOp c o → Fits o.action → ReplyFits r
    → event_line_of n c line ≡ Ok (record { actor = actors.Mutator o.mutator; step = steps.Mutator o; reply = r })
op_event_again n c line o r short words counted few known fits replied =
    let e : Event = record { actor = actors.Mutator o.mutator; step = steps.Mutator o; reply = r } in
    line_again n c line e short words counted few (refl, known) (fits, replied)

-- a step of any heap is no mutator's
any_actor : (c : Config) (a : Actor) (s : Step) → ((c : Config) → IsStepOf c a s) → ActorFits a
any_actor c (actors.Mutator m) (steps.Mutator o) owned =
    let none : Config = record {
      format = c.format;
      regions = c.regions;
      words = c.words;
      buffer = c.buffer;
      mutators = 0;
      first_name = c.first_name;
    } in
    let known : o.mutator < none.mutators = (owned none).1.at.mutator in
    absurd (omega arith)
any_actor c (actors.Mutator m) (steps.Collector k) owned = absurd (owned c)
any_actor c _ s owned = tt

-- the line of an event of any heap, by its words
pub any_event_again : (n : ℕ) (c : Config) (line : List ℕ) (e : Event) → length line ≤ 120
    → words_of line ≡ decimal n ∷ actor_word e.actor ∷ (body_words e.step ++ codes "=" ∷ reply_words e.reply)
    → n ≤ large → ((c : Config) → IsEvent c e) → EventFits e → event_line_of n c line ≡ Ok e
any_event_again n c line e short words counted owned fits =
    line_again n c line e short words counted (any_actor c e.actor e.step owned) (owned c) fits

event_is_words : (n : ℕ) (c : Config) (e : Event) → IsGood n c e → AreWords (decimal n ∷ rest_words e)
event_is_words n c e good =
    let actor = good_actor n c e good in
    All-cons IsWord (decimal n) (rest_words e) (number_word n good.counted)
    (All-cons IsWord (actor_word e.actor) (body_words e.step ++ codes "=" ∷ reply_words e.reply) actor.word
    (All-append IsWord (body_words e.step) (codes "=" ∷ reply_words e.reply) (body_is_words e.step good.fits.0)
    (All-cons IsWord (codes "=") (reply_words e.reply) (literal (codes "=") refl refl) (reply_is_words e.reply good.fits.1))))

event_short : (n : ℕ) (c : Config) (e : Event) → IsGood n c e → length (event_text n e) ≤ 120
event_short n c e good =
    let actor = good_actor n c e good in
    let all = five_long (decimal n) (actor_word e.actor) (spaced (body_words e.step)) (codes "=") (spaced (reply_words e.reply)) in
    let count : length (decimal n) ≤ 20 = number_short n good.counted in
    let who : length (actor_word e.actor) ≤ 11 = actor.short in
    let body : length (spaced (body_words e.step)) ≤ 49 = body_long e.step good.fits.0 in
    let reply : length (spaced (reply_words e.reply)) ≤ 32 = reply_long e.reply good.fits.1 in
    omega arith

-- the line of an event is read as that event
pub event_line_again : (n : ℕ) (c : Config) (e : Event) → IsGood n c e → event_line_of n c (event_text n e) ≡ Ok e
unfolding event_line_of
event_line_again n c e good =
    let words : words_of (event_text n e) ≡ event_words n e =
    ap words_of (event_text_is n e) ∙ words_again (decimal n) (rest_words e) (event_is_words n c e good) in
    rw (le-ltb 120 (length (event_text n e)) (event_short n c e good)) (ap (event_of n c) words ∙ event_again n c e good)

-- no line feed is in the line of an event
pub event_no_feed : (n : ℕ) (c : Config) (e : Event) → IsGood n c e → All (λ b. eqb b 10 ≡ false) (event_text n e)
event_no_feed n c e good = subst (λ (t : List ℕ). All (λ b. eqb b 10 ≡ false) t) (sym (event_text_is n e))
    (no_feed (decimal n) (rest_words e) (event_is_words n c e good))
