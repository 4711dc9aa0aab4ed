-- Twelve words of an event's line tell as much as all.
use Rattle.std.proofs.Common.{◌≡◌, ◌+◌, ◌<◌, ◌≤◌, ◌∷◌, ◌-◌, ◌∙◌}
use Rattle.std.proofs.Common.{ℕ, true, false, cond, eqb, List, [], length, get_or, take, drop, Option, None}
use Rattle.std.proofs.Common.{Result, Ok, Err, refl, sym, ap, arith, inl, inr}
use Rattle.std.proofs.lemmas.Bool.{cases_lt, le-ltb}
use Rattle.std.proofs.lemmas.List.{take_all, take-take, length-take-le, length-drop, get_or-take}
use Rattle.std.proofs.lemmas.List.Sums.{fails_before_first, passes_at_first, position_or_len_is, prefix_len-le-length}
use Rattle.std.specs.Prelude.{not}
use Rattle.heap_words.specs.declared.config.Config.{Config}
use Rattle.heap_steps.specs.declared.step.Actor.{Actor}
use Rattle.heap_steps.specs.declared.step.Actor.TheVariants as actors
use Rattle.heap_steps.specs.declared.step.Step.{Step}
use Rattle.heap_steps.specs.declared.step.Reply.{Reply}
use Rattle.heap_steps.specs.declared.step.Event.{Event}
use Rattle.script_text.specs.declared.fault.Kind.{Kind}
use Rattle.script_text.specs.declared.fault.Kind.TheVariants as kinds
use Rattle.script_text.specs.Reading.{number_of, large}
use Rattle.script_text.specs.EventWords.{taken_of, equals_at, step_part, answer_of}
use Rattle.script_text.specs.Lines.{◌>>=◌, or_fault, words_of}
use Rattle.script_text.specs.Events.{actor_of, counted_of, event_of, event_line_of}
use Rattle.script_text.proofs.BothWays.ReplyLaws.{no_long_reply}
use Rattle.script_text.proofs.Reading.Twelve.{no_long_action, no_long_collection}
use Rattle.script_text.proofs.Reading.Parting.{is_equals, answered, step_before, step_all, reply_behind}

no_long_step : (c : Config) (a : Actor) (ws : List (List ℕ)) → 6 ≤ length ws → taken_of c a ws ≡ None
unfolding taken_of
no_long_step c (actors.Mutator m) ws many = rw (no_long_action c ws many) refl
no_long_step c actors.Collector ws many = rw (no_long_collection c.format ws many) refl
no_long_step c (actors.Marker i) ws many = rw (no_long_collection c.format ws many) refl
no_long_step c (actors.Refiner i) ws many = rw (no_long_collection c.format ws many) refl

at_most : (ws : List (List ℕ)) → equals_at ws ≤ length ws
at_most ws = prefix_len-le-length (λ w. not (is_equals w)) ws

-- the first `=` among ten words
same_place : (ws : List (List ℕ)) → 10 ≤ length ws → equals_at ws < 10 → equals_at (take 10 ws) ≡ equals_at ws
same_place ws many early =
    let ten : length (take 10 ws) ≡ 10 = length-take-le 10 ws many in
    position_or_len_is is_equals (take 10 ws) (equals_at ws) [] (omega arith)
    (λ k lt. ap is_equals (get_or-take 10 ws k [] (omega arith)) ∙ fails_before_first is_equals ws k [] lt)
    (λ inside. ap is_equals (get_or-take 10 ws (equals_at ws) [] early) ∙ passes_at_first is_equals ws [] (omega arith))

true_false : true ≡ false → ⊥
true_false e = cc

still_late : (ws : List (List ℕ)) → 10 ≤ length ws → 6 ≤ equals_at ws → 6 ≤ equals_at (take 10 ws)
still_late ws many late =
    let ten : length (take 10 ws) ≡ 10 = length-take-le 10 ws many in
    elim (cases_lt (equals_at (take 10 ws)) 6) [
      | inl early ↦ (
          let yes : is_equals (get_or (take 10 ws) (equals_at (take 10 ws)) []) ≡ true =
          passes_at_first is_equals (take 10 ws) [] (omega arith) in
          let same : is_equals (get_or (take 10 ws) (equals_at (take 10 ws)) []) ≡ is_equals (get_or ws (equals_at (take 10 ws)) []) =
          ap is_equals (get_or-take 10 ws (equals_at (take 10 ws)) [] (omega arith)) in
          let no : is_equals (get_or ws (equals_at (take 10 ws)) []) ≡ false =
          fails_before_first is_equals ws (equals_at (take 10 ws)) [] (omega arith) in
          absurd (true_false (sym yes ∙ same ∙ no)))
      | inr le ↦ le
    ]

long_step : (ws : List (List ℕ)) → 6 ≤ length ws → 6 ≤ equals_at ws → 6 ≤ length (step_part ws)
long_step ws many late =
    elim (cases_lt (equals_at ws + 1) (length ws)) [
      | inl lt ↦ (let long : length (take (equals_at ws) ws) ≡ equals_at ws = length-take-le (equals_at ws) ws (at_most ws) in
          omega (arith, ap length (step_before ws lt)))
      | inr le ↦ omega (arith, ap length (step_all ws le))
    ]

same_step : (ws : List (List ℕ)) → 11 ≤ length ws → equals_at ws < 6 → step_part (take 10 ws) ≡ step_part ws
same_step ws many early =
    let ten : length (take 10 ws) ≡ 10 = length-take-le 10 ws (omega arith) in
    let place : equals_at (take 10 ws) ≡ equals_at ws = same_place ws (omega arith) (omega arith) in
    step_before (take 10 ws) (omega arith) ∙ ap (λ (k : ℕ). take k (take 10 ws)) place
    ∙ take-take (equals_at ws) 10 ws (omega arith) ∙ sym (step_before ws (omega arith))

no_answer : (ws : List (List ℕ)) → equals_at ws < 6 → 10 ≤ length ws → answer_of ws ≡ None
unfolding answer_of
no_answer ws early many =
    let long : length (drop (equals_at ws + 1) ws) ≡ length ws - (equals_at ws + 1) = length-drop (equals_at ws + 1) ws in
    ap answered (reply_behind ws (omega arith)) ∙ no_long_reply (drop (equals_at ws + 1) ws) (omega arith)

bind_same : {A B : Type 0} (r : Result A Kind) (f g : A → Result B Kind) → ((x : A) → f x ≡ g x) → (r >>= f) ≡ (r >>= g)
bind_same (Ok x) f g same = same x
bind_same (Err k) f g same = refl

abbrev rest_of : Actor → Option Step → Option Reply → Result Event Kind
rest_of a s r = or_fault s kinds.BadStep >>= λ x. or_fault r kinds.BadReply >>= λ y. Ok (record { actor = a; step = x; reply = y })

many_rest : (c : Config) (a : Actor) (ws : List (List ℕ)) → 11 ≤ length ws
    → rest_of a (taken_of c a (step_part (take 10 ws))) (answer_of (take 10 ws)) ≡ rest_of a (taken_of c a (step_part ws)) (answer_of ws)
many_rest c a ws many =
    let ten : length (take 10 ws) ≡ 10 = length-take-le 10 ws (omega arith) in
    elim (cases_lt (equals_at ws) 6) [
      | inl early ↦ (
          let place : equals_at (take 10 ws) ≡ equals_at ws = same_place ws (omega arith) (omega arith) in
          let none : answer_of (take 10 ws) ≡ None = no_answer (take 10 ws) (omega arith) (omega arith) in
          ap (λ (s : List (List ℕ)). rest_of a (taken_of c a s) (answer_of (take 10 ws))) (same_step ws many early)
          ∙ ap (λ (r : Option Reply). rest_of a (taken_of c a (step_part ws)) r) (none ∙ sym (no_answer ws early (omega arith))))
      | inr late ↦ (
          let first : taken_of c a (step_part (take 10 ws)) ≡ None =
          no_long_step c a (step_part (take 10 ws)) (long_step (take 10 ws) (omega arith) (still_late ws (omega arith) late)) in
          let second : taken_of c a (step_part ws) ≡ None = no_long_step c a (step_part ws) (long_step ws (omega arith) late) in
          ap (λ (s : Option Step). rest_of a s (answer_of (take 10 ws))) first
          ∙ ap (λ (s : Option Step). rest_of a s (answer_of ws)) (sym second))
    ]

ten_rest : (c : Config) (a : Actor) (ws : List (List ℕ))
    → rest_of a (taken_of c a (step_part (take 10 ws))) (answer_of (take 10 ws)) ≡ rest_of a (taken_of c a (step_part ws)) (answer_of ws)
ten_rest c a ws =
    elim (cases_lt 10 (length ws)) [
      | inl many ↦ many_rest c a ws (omega arith)
      | inr few ↦ ap (λ (vs : List (List ℕ)). rest_of a (taken_of c a (step_part vs)) (answer_of vs)) (take_all 10 ws few)
    ]

counted_ten : (c : Config) (word : List ℕ) (ws : List (List ℕ)) → counted_of c (word ∷ take 10 ws) ≡ counted_of c (word ∷ ws)
unfolding counted_of
counted_ten c word ws = bind_same (actor_of c word) _ _ (λ a. ten_rest c a ws)

event_of_twelve : (n : ℕ) (c : Config) (ws : List (List ℕ)) → event_of n c (take 12 ws) ≡ event_of n c ws
unfolding event_of
event_of_twelve n c [] = refl
event_of_twelve n c (a ∷ []) = refl
event_of_twelve n c (a ∷ b ∷ ws) = bind_same (or_fault (number_of large a) kinds.BadCount) _ _
    (λ count. ap (λ (r : Result Event Kind). cond (eqb count n) r (Err kinds.BadCount)) (counted_ten c b ws))

pub event_line_words : (n : ℕ) (c : Config) (line : List ℕ) (ws : List (List ℕ)) → length line ≤ 120 → ws ≡ take 12 (words_of line)
    → event_of n c ws ≡ event_line_of n c line
unfolding event_line_of
event_line_words n c line ws le twelve = rw (le-ltb 120 (length line) le) (ap (event_of n c) twelve ∙ event_of_twelve n c (words_of line))
