-- The rounds of a schedule.
use Rattle.std.proofs.Common.{◌≡◌, ◌+◌, ◌<◌, ◌≤◌, ◌∷◌, ◌++◌, ◌∙◌, ◌==◌, ◌%◌, ℕ, zero, suc, Bool, true, false, cond, List, [], Some, None}
use Rattle.std.proofs.Common.{length, map, refl, ap, sym, subst, arith, get_or, take, drop, add-one, append_assoc, slice_set, slice_index}
use Rattle.std.proofs.Common.{slice_get, filter, All}
use Rattle.std.proofs.lemmas.Bool.{lt-ltb}
use Rattle.std.proofs.lemmas.List.{ext_get_or, map-append}
use Rattle.std.proofs.lemmas.List.Elements.{filter-append, All-append, All-cons}
use Rattle.std.proofs.lemmas.List.FromFn.{length-map-range_with_len, get_or-map-range_with_len}
use Rattle.std.proofs.lemmas.Option.{slice_get-get_or}
use Rattle.step_core.specs.Steps.{Actor, Event, Step}
use Rattle.heap_steps.specs.declared.step.Actor.TheVariants.{Mutator, Collector}
use Rattle.rand_pcg.specs.Lcg.{Lcg}
use Rattle.mutators.specs.declared.journal.Turn.{Turn}
use Rattle.mutators.specs.declared.journal.Turn.TheVariants.{Done, Idle, End}
use Rattle.mutators.specs.Scripts.{scripted, lines_of, is_scripted, mark_4}
use Rattle.mutators.specs.Journals.{JournalState, Keeps, mutators_of, script_at, event_of}
use Rattle.mutators.specs.Turns.{TurnIs, SamePlan, TakesTurn, next_step, next_at, moved}
use Rattle.mutators.specs.Interleavings.{IsAsked, AreAsked}
use Rattle.mutators.specs.Draws.{lefts, lefts_of, one_less, scripted_actors, Picks, open_places, pick, IsRound, LeavesScripts, rest_of}
use Rattle.mutators.specs.Draws.{drawn, total, after_round, counts_of, drawn_actors, has_background}
use Rattle.mutators.specs.Rounds.{HasTurn, HasTurnIf, TakesRound, TakesRounds, background_by}
use Rattle.mutators.proofs.Rows.{next_row, place_is}
use Rattle.mutators.proofs.Drops.{open_after}
use Rattle.mutators.proofs.Draws.{lefts_at, length-lefts, lefts_moved, open_is, open_few, drawn_more, drawn_none, none_open, total_less}

pub actors_push : (es : List Event) (e : Event) → is_scripted e.actor ≡ true
    → scripted_actors (es ++ e ∷ []) ≡ scripted_actors es ++ e.actor ∷ []
actors_push es e is =
    ap (λ l. filter is_scripted l) (map-append (λ (x : Event). x.actor) es (e ∷ []))
    ∙ filter-append is_scripted (map (λ (x : Event). x.actor) es) (e.actor ∷ []) ∙ rw is refl

-- a place with a line left is a place of a script
row_is : (ns : List ℕ) (k : ℕ) → 0 < get_or ns k 0 → k < length ns
row_is [] k some = absurd (omega arith)
row_is (n ∷ ns) zero some = omega arith
row_is (n ∷ ns) (suc k) some = let h = row_is ns k some in omega arith

line_is : (d : JournalState) (k : ℕ) → k < length d.scripts → 0 < get_or (lefts_of d) k 0 → next_at d k ≡ None → ⊥
line_is d k row some none =
    let at = lefts_at d.scripts d.places k row in
    let below : slice_index d.places k < length (script_at d k) = omega arith in
    let some' : (s : Step) → slice_get (script_at d k) (slice_index d.places k) ≡ Some (get_or (script_at d k) (slice_index d.places k) s) =
    λ s. slice_get-get_or (script_at d k) (slice_index d.places k) s below in
    cc (some' mark_4, none)

asked_row : (markers refiners m k : ℕ) → IsAsked markers refiners (scripted m k)
asked_row markers refiners m k = elim (k == m) as (λ b. IsAsked markers refiners (cond b Collector (Mutator k)))
    [ true ↦ refl | false ↦ refl ]

-- a scripted actor with a line left does it in its turn
pub takes_row : (d e : JournalState) (t : Turn) (a : Actor) (k : ℕ) → Keeps d → TurnIs t d e a → a ≡ scripted (mutators_of d) k
    → 0 < get_or (lefts_of d) k 0 → SamePlan d e
    → Picks d e k × TakesTurn d e (scripted (mutators_of d) k)
    × ((markers refiners : ℕ) → AreAsked markers refiners d.events → AreAsked markers refiners e.events)
takes_row d e Done a k keeps takes actor some same =
    let h = next_row d k in
    let m = mutators_of d in
    let row' : k < length (lefts_of d) = row_is (lefts_of d) k some in
    let row : k < length d.scripts = omega (arith, length-lefts d.scripts d.places) in
    let spot : k < length d.places = omega (arith, keeps.each_script, keeps.each_place) in
    let x : Event = event_of (scripted m k) takes.step takes.reply in
    let events : e.events ≡ d.events ++ x ∷ [] =
    takes.event ∙ ap (λ (y : Actor). d.events ++ event_of y takes.step takes.reply ∷ []) actor in
    let places : e.places ≡ slice_set d.places k (slice_index d.places k + 1) = takes.place ∙ ap (λ (y : Actor). moved d y) actor ∙ h.1 in (
      record {
        actors = ap (λ (l : List Event). scripted_actors l) events ∙ actors_push d.events x h.2;
        left =
            ap (λ (p : List (List Step) × List ℕ). lefts p.0 p.1) (λ i. (same.1 i, places i)) ∙ lefts_moved d.scripts d.places k row spot;
        some = some;
      },
      subst (λ (y : Actor). TakesTurn d e y) actor takes,
      λ markers refiners was.
          let P : Event → Type 0 = λ y. IsAsked markers refiners y.actor in
          let one = All-cons P x [] (asked_row markers refiners m k) (λ i y below. absurd (omega arith)) in
          subst (λ (l : List Event). All P l) (sym events) (All-append P d.events (x ∷ []) was one),
    )
takes_row d e Idle a k keeps turn actor some same =
    let h = next_row d k in absurd (cc (turn.0, actor, h.2, ap is_scripted actor))
takes_row d e End a k keeps turn actor some same =
    let h = next_row d k in
    let row' : k < length (lefts_of d) = row_is (lefts_of d) k some in
    let row : k < length d.scripts = omega (arith, length-lefts d.scripts d.places) in
    absurd (line_is d k row some (sym h.0 ∙ ap (λ (y : Actor). next_step d y) (sym actor) ∙ turn.1))

-- the words of a round with background actors
two_words : (next : Lcg → ℕ × Lcg) (markers refiners : ℕ) (g g' h : Lcg) → g' ≡ (next g).1 → h ≡ (next g').1 → 0 < markers + refiners
    → h ≡ after_round next (has_background markers refiners) g
two_words next markers refiners g g' h first second some =
    second ∙ ap (λ (x : Lcg). (next x).1) first
    ∙ ap (λ (b : Bool). after_round next b g) (sym (lt-ltb 0 (markers + refiners) some))

-- a round with background actors is a line of a script and a turn of one of those
pub two_turns : (next : Lcg → ℕ × Lcg) (markers refiners word other : ℕ) (d between e : JournalState) (g g' h : Lcg)
    → word ≡ (next g).0 → g' ≡ (next g).1 → other ≡ (next g').0 → h ≡ (next g').1 → 0 < markers + refiners
    → TakesTurn d between (scripted (mutators_of d) (pick word (lefts_of d)))
    → HasTurn between e (background_by other markers refiners) → TakesRound next markers refiners d g e h
two_turns next markers refiners word other d between e g g' h is first is' second some takes turn =
    let turn' : HasTurn between e (background_by (next (next g).1).0 markers refiners) =
    subst (λ (w : ℕ). HasTurn between e (background_by w markers refiners)) (is' ∙ ap (λ (x : Lcg). (next x).0) first) turn in
    record {
      between = between;
      line = subst (λ (w : ℕ). TakesTurn d between (scripted (mutators_of d) (pick w (lefts_of d)))) is takes;
      beside = subst (λ (b : Bool). HasTurnIf b between e (background_by (next (next g).1).0 markers refiners))
          (sym (lt-ltb 0 (markers + refiners) some)) turn';
      words = two_words next markers refiners g g' h first second some;
    }

pub two_picks : (next : Lcg → ℕ × Lcg) (markers refiners word : ℕ) (d between e : JournalState) (g g' h : Lcg)
    → word ≡ (next g).0 → g' ≡ (next g).1 → h ≡ (next g').1 → 0 < markers + refiners
    → Picks d between (pick word (lefts_of d)) → LeavesScripts between e → IsRound next (has_background markers refiners) d g e h
two_picks next markers refiners word d between e g g' h is first second some picks leaves =
    let here : Picks d between (pick (next g).0 (lefts_of d)) =
    subst (λ (w : ℕ). Picks d between (pick w (lefts_of d))) is picks in
    record {
      picks = record { actors = leaves.actors ∙ here.actors; left = leaves.left ∙ here.left; some = here.some };
      words = two_words next markers refiners g g' h first second some;
    }

-- one round more
round_more : (next : Lcg → ℕ × Lcg) (markers refiners n : ℕ) (d e f : JournalState) (g h k : Lcg)
    → TakesRounds next markers refiners n d g e h → TakesRound next markers refiners e h f k
    → TakesRounds next markers refiners (suc n) d g f k
round_more next markers refiners zero d e f g h k was round =
    (f, k, subst (λ (x : JournalState × Lcg). TakesRound next markers refiners x.0 x.1 f k) (λ i. (was.0 i, was.1 i)) round, (refl, refl))
round_more next markers refiners (suc n) d e f g h k was round =
    (was.0, was.1, was.2, round_more next markers refiners n was.0 e f was.1 h k was.3 round)

-- some rounds were taken, as many as there are fewer lines left
abbrev pub HasGone : (Lcg → ℕ × Lcg) → ℕ → ℕ → JournalState → Lcg → JournalState → Lcg → Type 0
HasGone next markers refiners d g e h =
    (n : ℕ) × (n + total (lefts_of e) ≡ total (lefts_of d)) × TakesRounds next markers refiners n d g e h

pub goes_on : (next : Lcg → ℕ × Lcg) (markers refiners : ℕ) (d e f : JournalState) (g h k : Lcg)
    → HasGone next markers refiners d g e h → IsRound next (has_background markers refiners) e h f k
    → TakesRound next markers refiners e h f k → HasGone next markers refiners d g f k
goes_on next markers refiners d e f g h k was round takes =
    let less = total_less (lefts_of e) (pick (next h).0 (lefts_of e)) round.picks.some in
    let left : total (lefts_of f) ≡ total (one_less (lefts_of e) (pick (next h).0 (lefts_of e))) = ap total round.picks.left in
    (suc was.0, omega (arith, was.1, less, left), round_more next markers refiners was.0 d e f g h k was.2 takes)

-- where no place is open, all rounds were taken
pub all_gone : (next : Lcg → ℕ × Lcg) (markers refiners : ℕ) (d e : JournalState) (g h : Lcg)
    → HasGone next markers refiners d g e h → length (open_places (lefts_of e)) ≡ 0
    → TakesRounds next markers refiners (total (lefts_of d)) d g e h
all_gone next markers refiners d e g h was over =
    let none = (none_open 0 (lefts_of e) over).0 in
    let all : was.0 ≡ total (lefts_of d) = omega (arith, was.1, none) in
    subst (λ (n : ℕ). TakesRounds next markers refiners n d g e h) all was.2

-- a word picks a place with a line left
pub picks_open : (d : JournalState) (word : ℕ) → Keeps d → 0 < length (open_places (lefts_of d))
    → (pick word (lefts_of d) ≤ mutators_of d) × (0 < get_or (lefts_of d) (pick word (lefts_of d)) 0)
picks_open d word keeps some =
    let h = open_is 0 (lefts_of d) (word % length (open_places (lefts_of d))) (omega arith) in
    let at : pick word (lefts_of d) ≡ h.0 = omega (arith, h.1) in
    (omega (arith, at, h.2, length-lefts d.scripts d.places, keeps.each_script), rw at h.3)

-- no more places are open than there are scripts
pub few_open : (d : JournalState) (items : List ℕ) → Keeps d → items ≡ open_places (lefts_of d) → length items ≤ 65
few_open d items keeps is =
    let h = open_few 0 (lefts_of d) in
    omega (arith, h, ap (λ (l : List ℕ). length l) is, length-lefts d.scripts d.places, keeps.each_script, keeps.few)

-- the code reads the place that the word picks, which has a line left
pub picked : (d : JournalState) (word len p : ℕ) (items : List ℕ) → Keeps d → items ≡ open_places (lefts_of d) → 0 < length items
    → len ≡ length items → p ≡ get_or items (word % len) p
    → (p ≡ pick word (lefts_of d)) × (p ≤ mutators_of d) × (0 < get_or (lefts_of d) p 0)
picked d word len p items keeps is some count here =
    let within : word % len < length items = omega (arith, count, some) in
    let place : p ≡ pick word (lefts_of d) = sym (place_is items (word % len) p within here)
    ∙ ap (λ (x : List ℕ × ℕ). get_or x.0 (word % x.1) 0) (λ i. (is i, (count ∙ ap (λ (l : List ℕ). length l) is) i)) in
    let some_left = picks_open d word keeps (subst (λ (l : List ℕ). 0 < length l) is some) in
    (place, omega (arith, some_left.0, place), subst (λ (k : ℕ). 0 < get_or (lefts_of d) k 0) (sym place) some_left.1)

-- the turn of the actor there
pub picked_turn : (d e : JournalState) (t : Turn) (a : Actor) (word p mutators : ℕ) → Keeps d → mutators ≡ mutators_of d
    → (p ≡ pick word (lefts_of d)) × (p ≤ mutators_of d) × (0 < get_or (lefts_of d) p 0) → a ≡ scripted mutators p → TurnIs t d e a
    → SamePlan d e → Picks d e (pick word (lefts_of d)) × TakesTurn d e (scripted (mutators_of d) (pick word (lefts_of d)))
    × ((markers refiners : ℕ) → AreAsked markers refiners d.events → AreAsked markers refiners e.events)
picked_turn d e t a word p mutators keeps m at actor turn same =
    let k = pick word (lefts_of d) in
    takes_row d e t a k keeps turn (actor ∙ ap (λ (x : ℕ × ℕ). scripted x.0 x.1) (λ i. (m i, at.0 i)))
    (subst (λ (j : ℕ). 0 < get_or (lefts_of d) j 0) at.0 at.2) same

-- the places that are kept after the turn are the open ones
pub kept : (ns ns' items : List ℕ) (n p : ℕ) (left : Bool) (after : List ℕ) → items ≡ open_places ns → n < length items
    → get_or items n 0 ≡ p → ns' ≡ one_less ns p → 0 < get_or ns p 0 → p < length ns
    → (left ≡ true → 0 < get_or ns' p 0) → (left ≡ false → get_or ns' p 0 ≡ 0)
    → after ≡ cond left items (take n items ++ drop (n + 1) items) → after ≡ open_places ns'
kept ns ns' items n p true after is below at less some within more none same =
    same ∙ (open_after ns ns' items n p is below at less some within).0 (more refl)
kept ns ns' items n p false after is below at less some within more none same =
    same ∙ ap (λ (k : ℕ). take n items ++ drop k items) (add-one n)
    ∙ (open_after ns ns' items n p is below at less some within).1 (none refl)

-- after a round the same actors are done or still to come
pub round_keeps : (next : Lcg → ℕ × Lcg) (b : Bool) (d e : JournalState) (g h : Lcg)
    (before : List Actor) → IsRound next b d g e h → SamePlan d e
    → scripted_actors d.events ++ rest_of next b g d ≡ before → scripted_actors e.events ++ rest_of next b h e ≡ before
round_keeps next b d e g h before round same was =
    let k = pick (next g).0 (lefts_of d) in
    let m = mutators_of d in
    let to : ℕ → Actor = λ j. scripted m j in
    let m' : mutators_of e ≡ m = ap (λ c. c.mutators) same.0 in
    let tail : List ℕ = drawn next b (total (one_less (lefts_of d) k)) (after_round next b g) (one_less (lefts_of d) k) in
    let now : rest_of next b h e ≡ map to tail = ap (λ (x : ℕ × List ℕ × Lcg). map (λ j. scripted x.0 j) (drawn next b (total x.1) x.2 x.1))
    (λ i. (m' i, round.picks.left i, round.words i)) in
    let then : rest_of next b g d ≡ to k ∷ map to tail =
    ap (λ l. map to l) (drawn_more next b g (lefts_of d) (total (lefts_of d)) refl round.picks.some) in
    ap (λ (x : List Actor × List Actor). x.0 ++ x.1) (λ i. (round.picks.actors i, now i))
    ∙ append_assoc (scripted_actors d.events) (to k ∷ []) (map to tail)
    ∙ ap (λ l. scripted_actors d.events ++ l) (sym then) ∙ was

-- the lines left get fewer
pub round_less : (next : Lcg → ℕ × Lcg) (b : Bool) (d e : JournalState) (g h : Lcg) → IsRound next b d g e h
    → total (lefts_of e) < total (lefts_of d)
round_less next b d e g h round =
    let less = total_less (lefts_of d) (pick (next g).0 (lefts_of d)) round.picks.some in
    omega (arith, less, ap total round.picks.left)

-- at the end no actor is still to come
pub rest_none : (next : Lcg → ℕ × Lcg) (b : Bool) (d : JournalState) (g : Lcg)
    → length (open_places (lefts_of d)) ≡ 0 → rest_of next b g d ≡ []
rest_none next b d g none = ap (λ l. map (λ j. scripted (mutators_of d) j) l)
    (drawn_none next b g (lefts_of d) (total (lefts_of d)) (none_open 0 (lefts_of d) none).0)

pub none_asked : (markers refiners : ℕ) (d : JournalState) → d.events ≡ [] → AreAsked markers refiners d.events
none_asked markers refiners d none =
    let P : Event → Type 0 = λ y. IsAsked markers refiners y.actor in
    subst (λ (l : List Event). All P l) (sym none) (λ k x below. absurd (omega arith))

-- at the start each actor has all its lines left
pub lefts_first : (d : JournalState) (m : ℕ) (lines : List Step) → Keeps d → mutators_of d ≡ m → ((k : ℕ) → slice_index d.places k ≡ 0)
    → ((k : ℕ) → k ≤ m → script_at d k ≡ lines_of (scripted m k) lines) → lefts_of d ≡ counts_of m lines
lefts_first d m lines keeps is zeros scripts =
    let f : ℕ → ℕ = λ k. length (lines_of (scripted m k) lines) in
    let len = length-lefts d.scripts d.places in
    let counts = length-map-range_with_len f 0 (m + 1) in
    ext_get_or 0 (lefts_of d) (counts_of m lines) (omega (arith, len, counts, keeps.each_script))
    (λ k below.
    let row : k < length d.scripts = omega (arith, len) in
    let within : k ≤ m = omega (arith, keeps.each_script) in
    let here = lefts_at d.scripts d.places k row in
    let there = get_or-map-range_with_len f 0 (m + 1) k k 0 (omega arith) (omega arith) in
    let lines' = ap (λ (l : List Step). length l) (scripts k within) in
    omega (arith, here, there, lines', zeros k))

pub picked_first : (next : Lcg → ℕ × Lcg) (b : Bool) (g g' : Lcg) (d : JournalState) (m : ℕ) (lines : List Step) → g ≡ g'
    → mutators_of d ≡ m → lefts_of d ≡ counts_of m lines → rest_of next b g d ≡ drawn_actors next b g' m lines
picked_first next b g g' d m lines same is lefts =
    ap (λ (x : ℕ × List ℕ × Lcg). map (λ k. scripted x.0 k) (drawn next b (total x.1) x.2 x.1)) (λ i. (is i, lefts i, same i))
