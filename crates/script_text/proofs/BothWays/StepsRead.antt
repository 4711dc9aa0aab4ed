-- What is read of a line is spelled so.
use Rattle.std.proofs.Common.{◌≡◌, ◌<◌, ◌≤◌, ◌∷◌, ◌∙◌, ◌⊎◌}
use Rattle.std.proofs.Common.{ℕ, Bool, true, false, cond, List, [], length, Option, Some, None}
use Rattle.std.proofs.Common.{Result, Ok, Err, refl, sym, ap, subst, inl, inr}
use Rattle.std.specs.Prelude.{nat_lt, codes}
use Rattle.std.specs.Fmt.{decimal}
use Rattle.std.specs.Str.{bytes_eq}
use Rattle.std.proofs.lemmas.Bool.{ltb-true, ltb-false}
use Rattle.std.proofs.lemmas.List.Splits.{join_with_byte-slice_split}
use Rattle.std.proofs.lemmas.Slice.Eq.{bytes_eq-Decides}
use Rattle.heap_words.specs.declared.config.Config.{Config}
use Rattle.heap_steps.specs.Actors.{IsStep}
use Rattle.heap_steps.specs.declared.step.Action.{Action}
use Rattle.heap_steps.specs.declared.step.Step.{Step}
use Rattle.heap_steps.specs.declared.step.Step.TheVariants as steps
use Rattle.script_text.specs.declared.fault.Kind.{Kind}
use Rattle.script_text.specs.declared.fault.Kind.TheVariants as kinds
use Rattle.script_text.specs.Reading.{number_of, small, allowed_of, collection_of, sizes_of}
use Rattle.script_text.specs.Fits.{StepFits, ConfigFits}
use Rattle.script_text.specs.Spelling.{action_words, collection_words, step_words, heap_words, spaced}
use Rattle.script_text.specs.Lines.{◌>>=◌, or_fault, words_of, mutator_of, step_of, step_line_of, heap_line_of}
use Rattle.script_text.proofs.Parts.Numbers.{number_of_is}
use Rattle.script_text.proofs.BothWays.Grammars as grammars
use Rattle.script_text.proofs.BothWays.Allowed.{allowed_is}
use Rattle.script_text.proofs.BothWays.Collections.{collection_is, heap_is}

-- the steps of a reading that gave something
pub result_bind : {A B E : Type 0} (r : Result A E) (f : A → Result B E) (y : B) → (r >>= f) ≡ Ok y → (x : A) × (r ≡ Ok x) × (f x ≡ Ok y)
result_bind (Ok x) f y e = (x, refl, e)
result_bind (Err d) f y e = absurd cc

pub or_fault_is : {A : Type 0} (o : Option A) (k : Kind) (x : A) → or_fault o k ≡ Ok x → o ≡ Some x
or_fault_is None k x e = absurd cc
or_fault_is (Some y) k x e = cc

pub either : {A E : Type 0} (b : Bool) (x y : Result A E) (z : A) → cond b x y ≡ Ok z
    → ((b ≡ true) × (x ≡ Ok z)) ⊎ ((b ≡ false) × (y ≡ Ok z))
either true x y z e = inl (refl, e)
either false x y z e = inr (refl, e)

pub guarded : {A E : Type 0} (b : Bool) (x y : A) (f : E) → cond b (Ok x) (Err f) ≡ Ok y → (b ≡ true) × (x ≡ y)
guarded true x y f e = (refl, cc)
guarded false x y f e = absurd cc

abbrev pub found : {A E : Type 0} → A → Result A E
found x = Ok x

pub ok_is : {A E : Type 0} (x y : A) → found {E = E} x ≡ found y → x ≡ y
ok_is x y e = cc

-- a number of a mutator
pub mutator_is : (c : Config) (word : List ℕ) (m : ℕ) → mutator_of c word ≡ Ok m → (word ≡ decimal m) × (m < c.mutators)
unfolding mutator_of
mutator_is c word m e =
    let read =
    result_bind (or_fault (number_of small word) kinds.BadActor) (λ n. cond (nat_lt n c.mutators) (Ok n) (Err kinds.BadActor)) m e in
    let number = number_of_is small word read.0 (or_fault_is (number_of small word) kinds.BadActor read.0 read.1) in
    let known = guarded (nat_lt read.0 c.mutators) read.0 m kinds.BadActor read.2 in
    (number.0 ∙ ap decimal known.1, rw (← known.1) (ltb-true read.0 c.mutators known.0))

-- a step, and its words
pub record IsRead (c : Config) (words : List (List ℕ)) (s : Step) : Type 0 where
  pub spelled : words ≡ step_words s
  pub owned : IsStep c s
  pub fits : StepFits s

collector_read : (c : Config) (actor : List ℕ) (rest : List (List ℕ)) (s : Step) → bytes_eq actor (codes "gc") ≡ true
    → (or_fault (collection_of c.format rest) kinds.BadStep >>= λ k. Ok (steps.Collector k)) ≡ Ok s → IsRead c (actor ∷ rest) s
collector_read c actor rest s gc e =
    let read = result_bind (or_fault (collection_of c.format rest) kinds.BadStep) (λ k. Ok (steps.Collector k)) s e in
    let step = collection_is c.format rest read.0 (or_fault_is (collection_of c.format rest) kinds.BadStep read.0 read.1) in
    subst (IsRead c (actor ∷ rest)) (ok_is (steps.Collector read.0) s read.2) (record {
      spelled = grammars.joined actor (codes "gc") rest (collection_words read.0) ((bytes_eq-Decides actor (codes "gc")).0 gc) step.spelled;
      owned = step.known;
      fits = step.fits;
    })

abbrev mutator_step : ℕ → Action → Step
mutator_step m a = steps.Mutator (record { mutator = m; action = a })

mutator_read : (c : Config) (actor : List ℕ) (rest : List (List ℕ)) (s : Step)
    → (mutator_of c actor >>= λ m. or_fault (allowed_of c rest) kinds.BadStep >>= λ a. Ok (mutator_step m a)) ≡ Ok s
    → IsRead c (actor ∷ rest) s
mutator_read c actor rest s e =
    let who = result_bind (mutator_of c actor) (λ m. or_fault (allowed_of c rest) kinds.BadStep >>= λ a. Ok (mutator_step m a)) s e in
    let what = result_bind (or_fault (allowed_of c rest) kinds.BadStep) (λ a. Ok (mutator_step who.0 a)) s who.2 in
    let mutator = mutator_is c actor who.0 who.1 in
    let action = allowed_is c who.0 rest what.0 mutator.1 (or_fault_is (allowed_of c rest) kinds.BadStep what.0 what.1) in
    subst (IsRead c (actor ∷ rest)) (ok_is (mutator_step who.0 what.0) s what.2) (record {
      spelled = grammars.joined actor (decimal who.0) rest (action_words what.0) mutator.0 action.spelled;
      owned = action.owned;
      fits = action.fits;
    })

step_is : (c : Config) (ws : List (List ℕ)) (s : Step) → step_of c ws ≡ Ok s → IsRead c ws s
unfolding step_of
step_is c [] s e = absurd cc
step_is c (actor ∷ rest) s e =
    elim (either (bytes_eq actor (codes "gc")) (or_fault (collection_of c.format rest) kinds.BadStep >>= λ k. Ok (steps.Collector k))
    (mutator_of c actor >>= λ m. or_fault (allowed_of c rest) kinds.BadStep >>= λ a. Ok (mutator_step m a)) s e) [
      | inl h ↦ collector_read c actor rest s h.0 h.1
      | inr h ↦ mutator_read c actor rest s h.1
    ]

-- what a line gives, and the line
pub record IsLine (c : Config) (text : List ℕ) (s : Step) : Type 0 where
  pub spelled : text ≡ spaced (step_words s)
  pub owned : IsStep c s
  pub fits : StepFits s

pub joined : (text : List ℕ) (ws : List (List ℕ)) → words_of text ≡ ws → text ≡ spaced ws
joined text ws e = sym (join_with_byte-slice_split 32 text) ∙ ap spaced e

words_line : (c : Config) (text : List ℕ) (s : Step) → step_of c (words_of text) ≡ Ok s → IsLine c text s
words_line c text s e =
    let step = step_is c (words_of text) s e in
    record { spelled = joined text (step_words s) step.spelled; owned = step.owned; fits = step.fits }

pub too_long : {A : Type 0} (b : Bool) (k : Kind) (r : Result A Kind) (x : A) → cond b (Err k) r ≡ Ok x → r ≡ Ok x
too_long true k r x e = absurd cc
too_long false k r x e = e

pub step_line_is : (c : Config) (text : List ℕ) (s : Step) → step_line_of c text ≡ Ok s → IsLine c text s
unfolding step_line_of
step_line_is c text s e = words_line c text s (too_long (nat_lt 120 (length text)) kinds.LongLine (step_of c (words_of text)) s e)

-- a line that is read isn't too long
pub step_line_short : (c : Config) (text : List ℕ) (s : Step) → step_line_of c text ≡ Ok s → length text ≤ 120
unfolding step_line_of
step_line_short c text s e =
    elim (either (nat_lt 120 (length text)) (Err kinds.LongLine) (step_of c (words_of text)) s e) [
      | inl long ↦ absurd cc
      | inr short ↦ ltb-false 120 (length text) short.0
    ]

pub heap_line_is : (text : List ℕ) (c : Config) → heap_line_of text ≡ Ok c → (text ≡ spaced (heap_words c)) × ConfigFits c
unfolding heap_line_of
heap_line_is text c e =
    let sizes = heap_is (words_of text) c
    (or_fault_is (sizes_of (words_of text)) kinds.BadHeap c
    (too_long (nat_lt 120 (length text)) kinds.LongLine (or_fault (sizes_of (words_of text)) kinds.BadHeap) c e)) in
    (joined text (heap_words c) sizes.spelled, sizes.fits)
