-- Which moments of a run are shown.
use Rattle.std.specs.Prelude.{◌≡◌, ◌<◌, ◌≤◌, ◌+◌, ◌*◌, ◌/◌, ◌%◌, ◌==◌, ◌&&◌, ◌||◌, ◌∷◌, ◌++◌, if◌then◌else◌}
use Rattle.std.specs.Prelude.{ℕ, zero, suc, min, max, Bool, true, false, List, [], Option, None, Some, length, take, slice_get}
use Rattle.heap_words.specs.declared.config.Config.{Config}
use Rattle.heap_steps.specs.declared.step.Step.{Step}
use Rattle.heap_steps.specs.declared.step.Step.TheVariants as steps
use Rattle.heap_steps.specs.declared.step.CollectorStep.TheVariants as collector
use Rattle.heap_steps.specs.declared.step.Event.{Event}
use Rattle.heap_life.specs.declared.pace.Pace.{Pace}

-- whether a step counts: a collector's, and `mark` and `refine` only where small steps count
abbrev pub counts_with : Bool → Step → Bool
counts_with small (steps.Mutator o) = false
counts_with small (steps.Collector (collector.Mark k)) = small
counts_with small (steps.Collector (collector.Refine k)) = small
counts_with small (steps.Collector _) = true

-- the same where the pace says so
abbrev pub counts : Pace → Step → Bool
counts p step = counts_with p.small step

abbrev pub one_if : Bool → ℕ
one_if true = 1
one_if false = 0

-- how many of some events count
abbrev pub counted_with : Bool → List Event → ℕ
counted_with small [] = 0
counted_with small (e ∷ es) = one_if (counts_with small e.step) + counted_with small es

abbrev pub counted : Pace → List Event → ℕ
counted p es = counted_with p.small es

-- whether the pace shows a step, where so many counted before it: it counts, and it is one of `stride`
abbrev pub shows : Pace → Step → ℕ → Bool
shows p step count = counts p step && count % p.stride == 0

-- whether an event has a moment before it and one after it, where so many counted before it
abbrev pub shows_event : Pace → ℕ → Option Event → Bool
shows_event p count None = false
shows_event p count (Some e) = shows p e.step count

-- the same of event i, from 0
abbrev pub shows_at : Pace → List Event → ℕ → Bool
shows_at p es i = shows_event p (counted p (take i es)) (slice_get es i)

-- whether there is a moment after n events for the last of them: for none, or where it is shown
abbrev pub shows_last : Pace → List Event → ℕ → Bool
shows_last p es zero = true
shows_last p es (suc i) = shows_at p es i

-- whether n events done are a moment: none, those up to an event that is shown, those before one, a multiple of `every`, or all
abbrev pub is_moment : Pace → List Event → ℕ → Bool
is_moment p es n = shows_last p es n || shows_at p es n || n % p.every == 0 || n == length es

-- the moments of fewer than n events, in rising order
abbrev pub moments_below : Pace → List Event → ℕ → List ℕ
moments_below p es zero = []
moments_below p es (suc n) = moments_below p es n ++ (if is_moment p es n then n ∷ [] else [])

-- about how many moments a life of such a heap has at most: few where a moment has many regions, or many words are looked at for it
abbrev pub most_moments : Config → ℕ
most_moments c = max (min (268435456 / max (c.regions * c.words) 1) (min (262144 / max c.regions 1) 8000)) 64

-- One of each `rate` of a whole is at most so many: the rate is the wish where that makes few enough, and else at most twice the least
-- rate that does
pub record IsRateFor (wish whole most rate : ℕ) : Type 0 where
  pub wished : whole / wish ≤ most → rate ≡ wish
  pub few : 0 < most → whole / rate ≤ most
  pub near : most < whole / wish → (other : ℕ) → 0 < other → whole / other ≤ most → rate ≤ 2 * other

-- The pace of some events, where a moment each `every` of them was asked for. Half of the most moments are for those: `every` is as asked
-- where that is few enough. A quarter of them is for steps that count, which have two each: `mark` and `refine` count where all fit, and
-- the stride is 1 where those that count fit
pub record IsPaceFor (wish most : ℕ) (es : List Event) (p : Pace) : Type 0 where
  pub every : IsRateFor (max wish 1) (length es) (most / 2) p.every
  pub stride : IsRateFor 1 (counted p es) (most / 4) p.stride
  pub all : counted_with true es ≤ most / 4 → p.small ≡ true
  pub fewer : most / 4 < counted_with true es → p.small ≡ false
