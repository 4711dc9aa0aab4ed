-- Moments that are added one by one.
use Rattle.std.proofs.Common.{◌≡◌, ◌+◌, ◌%◌, ◌<◌, ◌≤◌, ◌∷◌, ◌++◌, ◌∙◌}
use Rattle.std.proofs.Common.{ℕ, suc, Bool, true, false, Some, List, [], length, take, map, get_or, eq-eqb, ne_eqb, refl, sym, ap, ap₂}
use Rattle.std.proofs.Common.{subst, arith}
use Rattle.std.specs.Prelude.{min, slice_get, ◌||◌, ◌==◌, if◌then◌else◌}
use Rattle.std.proofs.lemmas.List.{append-nil, take_more, length-append, length-map, map-append, get_or-map}
use Rattle.std.proofs.lemmas.Option.{get_or_from_slice_get}
use Rattle.step_core.specs.Fresh.{fresh_core}
use Rattle.graph_runs.specs.State.{first_state}
use Rattle.heap_words.specs.declared.config.Config.{Config}
use Rattle.heap_steps.specs.Actors.{IsStep, IsStepOf}
use Rattle.heap_steps.specs.declared.step.Actor.{Actor}
use Rattle.heap_steps.specs.declared.step.Actor.TheVariants as actors
use Rattle.heap_steps.specs.declared.step.CollectorStep.TheVariants as collector
use Rattle.heap_steps.specs.declared.step.Step.{Step}
use Rattle.heap_steps.specs.declared.step.Step.TheVariants as steps
use Rattle.step_core.proofs.Cores.Following.{grown}
use Rattle.heap_steps.specs.declared.step.Event.{Event}
use Rattle.step_core.specs.Stands.{CoreState, Stands, IsCore}
use Rattle.step_core.specs.Passages.{Runs, RunsTo}
use Rattle.heap_life.specs.declared.life.Moment.{Moment}
use Rattle.heap_life.specs.declared.moment_text.Teller.{Teller}
use Rattle.heap_life.specs.declared.pace.Pace.{Pace}
use Rattle.heap_life.specs.Paces.{counts_with, counted, counted_with, one_if, shows, shows_event, shows_at, shows_last, is_moment}
use Rattle.heap_life.specs.Paces.{moments_below, IsPaceFor, most_moments}
use Rattle.heap_life.specs.Lives.{moved_by, moved_in, IsMomentIn, LeadsFrom, NotesTold, event_in}

-- ---- counts and sums over one event more

counted_more : (small : Bool) (es : List Event) (e : Event)
    → counted_with small (es ++ e ∷ []) ≡ counted_with small es + one_if (counts_with small e.step)
counted_more small [] e = omega arith
counted_more small (d ∷ es) e = let more = counted_more small es e in omega arith

counted_next : (small : Bool) (es : List Event) (i : ℕ) (d : Event) → i < length es
    → counted_with small (take (i + 1) es) ≡ counted_with small (take i es) + one_if (counts_with small (get_or es i d).step)
counted_next small es i d lt = ap (counted_with small) (take_more es i d lt) ∙ counted_more small (take i es) (get_or es i d)

moved_more : (es : List Event) (e : Event) → moved_in (es ++ e ∷ []) ≡ moved_in es + moved_by e.reply
moved_more [] e = omega arith
moved_more (d ∷ es) e = let more = moved_more es e in omega arith

pub moved_next : (es : List Event) (e : Event) (a b : ℕ) → a ≡ min (moved_in es) 18446744073709551615 → b ≡ moved_by e.reply
    → min (a + b) 18446744073709551615 ≡ min (moved_in (es ++ e ∷ [])) 18446744073709551615
moved_next es e a b is by = let more = moved_more es e in omega arith

-- the event at a place
here : (xs : List Event) (i : ℕ) (e : Event) → slice_get xs i ≡ Some e → get_or xs i e ≡ e
here xs i e at = get_or_from_slice_get xs i e e at

pub counted_at : (small : Bool) (xs : List Event) (i : ℕ) (e : Event) → i < length xs → slice_get xs i ≡ Some e
    → counted_with small (take (i + 1) xs) ≡ counted_with small (take i xs) + one_if (counts_with small e.step)
counted_at small xs i e lt at =
    counted_next small xs i e lt ∙ ap (λ (d : Event). counted_with small (take i xs) + one_if (counts_with small d.step)) (here xs i e at)

-- ---- what is due

or_false : (b : Bool) → b || false ≡ b
or_false true = refl
or_false false = refl

or_true : (b : Bool) → b || true ≡ true
or_true true = refl
or_true false = refl

pub ahead_is : (p : Pace) (xs : List Event) (n count : ℕ) (e : Event) → slice_get xs n ≡ Some e → count ≡ counted p (take n xs)
    → shows p e.step count ≡ shows_at p xs n
ahead_is p xs n count e at is = ap (shows p e.step) is ∙ ap (shows_event p (counted p (take n xs))) (sym at)

-- before the end
pub due_is : (p : Pace) (xs : List Event) (n : ℕ) (behind ahead : Bool) → n < length xs → behind ≡ shows_last p xs n
    → ahead ≡ shows_at p xs n → (behind || ahead || n % p.every == 0) ≡ is_moment p xs n
due_is p xs n behind ahead lt b a =
    ap₂ (λ (x y : Bool). x || y || n % p.every == 0) b a ∙ sym (or_false _)
    ∙ ap (λ (x : Bool). (shows_last p xs n || shows_at p xs n || n % p.every == 0) || x) (sym (ne_eqb n (length xs) (omega arith)))

-- at the end
end_is_due : (p : Pace) (xs : List Event) → is_moment p xs (length xs) ≡ true
end_is_due p xs = ap (λ (x : Bool). (shows_last p xs (length xs) || shows_at p xs (length xs) || length xs % p.every == 0) || x)
    (eq-eqb (length xs) (length xs) refl) ∙ or_true _

due_noted : (due : Bool) (c : CoreState) (event copied : ℕ) (ms ms' : List Moment) (x y : Teller)
    → NotesTold due c event copied ms ms' x y → map event_in ms' ≡ map event_in ms ++ (if due then event ∷ [] else [])
due_noted true c event copied ms ms' x y h =
    ap (map event_in) h.1 ∙ map-append event_in ms (h.0 ∷ []) ∙ ap (λ (n : ℕ). map event_in ms ++ n ∷ []) h.2
due_noted false c event copied ms ms' x y h = ap (map event_in) h.0 ∙ sym (append-nil _)

-- a moment more
pub due_more : (p : Pace) (xs : List Event) (n : ℕ) (due : Bool) (c : CoreState) (copied : ℕ) (ms ms' : List Moment) (x y : Teller)
    → NotesTold due c n copied ms ms' x y → due ≡ is_moment p xs n → map event_in ms ≡ moments_below p xs n
    → map event_in ms' ≡ moments_below p xs (suc n)
due_more p xs n due c copied ms ms' x y notes is earlier =
    due_noted due c n copied ms ms' x y notes
    ∙ ap₂ (λ (l : List ℕ) (b : Bool). l ++ (if b then n ∷ [] else [])) earlier is

pub due_whole : (p : Pace) (xs : List Event) (c : CoreState) (copied : ℕ) (ms ms' : List Moment) (x y : Teller)
    → NotesTold true c (length xs) copied ms ms' x y → map event_in ms ≡ moments_below p xs (length xs)
    → map event_in ms' ≡ moments_below p xs (suc (length xs))
due_whole p xs c copied ms ms' x y notes earlier =
    due_more p xs (length xs) true c copied ms ms' x y notes (sym (end_is_due p xs)) earlier

-- ---- events

pub is_step : (config : Config) (actor : Actor) (step : Step) → IsStepOf config actor step → IsStep config step
is_step config (actors.Mutator m) (steps.Mutator o) h = h.1
is_step config actors.Collector (steps.Collector k) h = h
is_step config (actors.Marker i) (steps.Collector (collector.Mark k)) h = tt
is_step config (actors.Refiner i) (steps.Collector (collector.Refine k)) h = tt
is_step config _ _ h = absurd h

pub grown_at : {A : Type 0} (f : Event → A) (es : List Event) (new : Event) (xs : List Event) (i : ℕ) (e : Event)
    → map f es ≡ take i (map f xs) → i < length xs → slice_get xs i ≡ Some e → f new ≡ f e
    → map f (es ++ new ∷ []) ≡ take (i + 1) (map f xs)
grown_at {A} f es new xs i e same lt at is =
    let l : length (map f xs) ≡ length xs = length-map xs f in
    grown f es new (map f xs) i (f e) same (omega arith) (is ∙ ap f (sym (here xs i e at)) ∙ sym (get_or-map f xs i e (f e) lt))

pub many_more : (es : List Event) (e : Event) (n : ℕ) → length es ≡ n → length (es ++ e ∷ []) ≡ n + 1
many_more es e n is = let l = length-append es (e ∷ []) in omega arith

pub one_most : (b : Bool) → one_if b ≤ 1
one_most true = omega arith
one_most false = omega arith

-- ---- from the core of a new heap

pub runs_to : (config : Config) (c0 c : CoreState) (es : List Event) → c0 ≡ fresh_core config → IsCore c0 → Stands (first_state config) c0
    → Runs (first_state config) c0 es c → RunsTo config es c
runs_to config c0 c es fresh core stands runs = record {
  core = subst IsCore fresh core;
  stands = subst (λ (d : CoreState). Stands (first_state config) d) fresh stands;
  runs = subst (λ (d : CoreState). Runs (first_state config) d es c) fresh runs;
}

pub of_new : (config : Config) (c0 : CoreState) (es : List Event) (m : Moment) (c : CoreState) → c0 ≡ fresh_core config → IsCore c0
    → Stands (first_state config) c0 → IsMomentIn (LeadsFrom c0) es m c → IsMomentIn (RunsTo config) es m c
of_new config c0 es m c fresh core stands h = record {
  within = h.within;
  leads = runs_to config c0 c (take m.event es) fresh core stands (h.leads (first_state config) stands);
  numbers = h.numbers;
  copied = h.copied;
}

-- ---- the pace that was asked for

pub pace_for : (every wish most : ℕ) (c k : Config) (es fs : List Event) (p q : Pace) → IsPaceFor wish most es q → wish ≡ every
    → most ≡ most_moments c → c ≡ k → es ≡ fs → p ≡ q
    → IsPaceFor every (most_moments k) fs p
pace_for every wish most c k es fs p q h ew em ec ee ep =
    subst (λ (x : Pace). IsPaceFor every (most_moments k) fs x) (sym ep)
    (subst (λ (l : List Event). IsPaceFor every (most_moments k) l q) ee
    (subst (λ (d : Config). IsPaceFor every (most_moments d) es q) ec
    (subst (λ (m : ℕ). IsPaceFor every m es q) em
    (subst (λ (w : ℕ). IsPaceFor w most es q) ew h))))
