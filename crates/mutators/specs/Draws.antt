-- The schedule that a generator draws.
use Rattle.std.specs.Prelude.{◌≡◌, ◌+◌, ◌-◌, ◌%◌, ◌∷◌, if◌then◌else◌, ◌++◌, ◌<◌}
use Rattle.std.specs.Prelude.{ℕ, zero, suc, Bool, List, [], length, map, filter, slice_set, slice_index, nat_lt}
use Rattle.std.specs.List.{range_with_len}
use Rattle.step_core.specs.Steps.{Actor, Event, Step}
use Rattle.heap_steps.specs.Actors.{StepList}
use Rattle.rand_pcg.specs.Lcg.{Lcg, started, increment_of}
use Rattle.rand_pcg.specs.Pcg.{multiplier_64, pcg32}
use Rattle.mutators.specs.Scripts.{scripted, lines_of, is_scripted}
use Rattle.mutators.specs.Journals.{JournalState, mutators_of}

-- the places with lines left, in order, where the first one is k
abbrev pub open_from : ℕ → List ℕ → List ℕ
open_from k [] = []
open_from k (zero ∷ ns) = open_from (suc k) ns
open_from k (suc n ∷ ns) = k ∷ open_from (suc k) ns

abbrev pub open_places : List ℕ → List ℕ
open_places left = open_from 0 left

abbrev pub total : List ℕ → ℕ
total [] = 0
total (n ∷ ns) = n + total ns

abbrev pub one_less : List ℕ → ℕ → List ℕ
one_less ns k = slice_set ns k (slice_index ns k - 1)

-- the generator after a round: one word is drawn, and one more where there are background actors
abbrev pub after_round : (Lcg → ℕ × Lcg) → Bool → Lcg → Lcg
after_round next background g = if background then (next (next g).1).1 else (next g).1

-- the place that a word picks
abbrev pub pick : ℕ → List ℕ → ℕ
pick word left = slice_index (open_places left) (word % length (open_places left))

-- the places that the words of a generator pick, where each actor has so many lines left
unfoldable pub drawn : (Lcg → ℕ × Lcg) → Bool → ℕ → Lcg → List ℕ → List ℕ
drawn next background zero g left = []
drawn next background (suc n) g left =
    let k = pick (next g).0 left in k ∷ drawn next background n (after_round next background g) (one_less left k)

-- how many lines each scripted actor has left
abbrev pub lefts : List (List Step) → List ℕ → List ℕ
lefts [] places = []
lefts (s ∷ ss) [] = length s ∷ lefts ss []
lefts (s ∷ ss) (p ∷ ps) = (length s - p) ∷ lefts ss ps

abbrev pub lefts_of : JournalState → List ℕ
lefts_of d = lefts d.scripts d.places

-- how many lines each scripted actor of a plan has
abbrev pub counts_of : ℕ → List Step → List ℕ
counts_of m lines = map (λ k. length (lines_of (scripted m k) lines)) (range_with_len 0 (m + 1))

-- the scripted actors of the events, in order
abbrev pub scripted_actors : List Event → List Actor
scripted_actors es = filter is_scripted (map (λ (e : Event). e.actor) es)

-- whether there are background actors
abbrev pub has_background : ℕ → ℕ → Bool
has_background markers refiners = nat_lt 0 (markers + refiners)

-- a round's scripted turn: the actor at this place took its next line
pub record Picks (d e : JournalState) (k : ℕ) : Type 0 where
  pub actors : scripted_actors e.events ≡ scripted_actors d.events ++ scripted (mutators_of d) k ∷ []
  pub left : lefts_of e ≡ one_less (lefts_of d) k
  pub some : 0 < slice_index (lefts_of d) k

-- no scripted actor took a turn
pub record LeavesScripts (d e : JournalState) : Type 0 where
  pub actors : scripted_actors e.events ≡ scripted_actors d.events
  pub left : lefts_of e ≡ lefts_of d

-- the scripted actors that the words of a generator pick for a plan, in order
abbrev pub drawn_actors : (Lcg → ℕ × Lcg) → Bool → Lcg → ℕ → List Step → List Actor
drawn_actors next background g m lines = map (λ k. scripted m k) (drawn next background (total (counts_of m lines)) g (counts_of m lines))

-- a whole round: the word picks who takes a turn, and the generator moves on
pub record IsRound (next : Lcg → ℕ × Lcg) (background : Bool) (d : JournalState) (g : Lcg) (e : JournalState) (h : Lcg) : Type 0 where
  pub picks : Picks d e (pick (next g).0 (lefts_of d))
  pub words : h ≡ after_round next background g

-- the scripted actors that are still to come
abbrev pub rest_of : (Lcg → ℕ × Lcg) → Bool → Lcg → JournalState → List Actor
rest_of next background g d = map (λ k. scripted (mutators_of d) k) (drawn next background (total (lefts_of d)) g (lefts_of d))

-- the scripted actors that the words of a seed pick for a plan, in order
abbrev pub drawn_by : ℕ → ℕ → ℕ → StepList → List Actor
drawn_by seed markers refiners plan =
    drawn_actors pcg32 (has_background markers refiners)
    (started 64 multiplier_64 seed (increment_of 64 54)) plan.config.mutators plan.steps
