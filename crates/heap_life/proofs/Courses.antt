-- A course with one event more.
use Rattle.std.proofs.Common.{◌≡◌, ◌+◌, ◌%◌, ◌<◌, ◌≤◌, ◌∙◌}
use Rattle.std.proofs.Common.{ℕ, Bool, true, false, Some, List, [], length, take, map, add-one, refl, sym, ap, subst, arith}
use Rattle.std.specs.Prelude.{min, slice_get, ◌||◌, ◌==◌}
use Rattle.std.proofs.lemmas.List.{take_all, length-map}
use Rattle.heap_words.specs.declared.config.Config.{Config}
use Rattle.heap_steps.specs.declared.step.Event.{Event}
use Rattle.step_core.specs.Stands.{CoreState}
use Rattle.step_core.specs.Passages.{Runs, step_in, actor_in}
use Rattle.heap_life.specs.Paces.{counts, counted, one_if, shows, shows_last, moments_below}
use Rattle.heap_life.specs.Lives.{moved_by, moved_in, LeadsFrom, NotesTold, IsToldOf, IsLived, event_in}
use Rattle.heap_life.specs.Tolds.{Told}
use Rattle.heap_life.specs.Tellers.{HasTold}
use Rattle.heap_life.specs.declared.moment_text.Teller.{Teller}
use Rattle.heap_life.proofs.Shown.{told_grown, told_noted, told_start}
use Rattle.heap_life.specs.Courses.{PassesEvent}
use Rattle.heap_life.specs.declared.life.Moment.{Moment}
use Rattle.heap_life.specs.declared.pace.Pace.{Pace}
use Rattle.heap_life.specs.declared.course.Course.{Course}
use Rattle.heap_life.proofs.Moments.{grown_at, many_more, counted_at, one_most, moved_next, ahead_is, due_is, due_more, due_whole}

-- n events of the list are done from a first core on
pub record IsCourseOf (most : ℕ) (t : Told) (first : CoreState) (p : Pace) (xs : List Event) (n : ℕ) (c : CoreState) (x : Course) : Type 0
  where
    pub leads : LeadsFrom first x.done.events c
    pub steps : map step_in x.done.events ≡ take n (map step_in xs)
    pub actors : map actor_in x.done.events ≡ take n (map actor_in xs)
    pub config : c.config ≡ first.config
    pub sizes : x.done.config ≡ first.config
    pub many : length x.done.events ≡ n
    pub counting : x.counted ≡ counted p (take n xs)
    pub few : x.counted ≤ n
    pub copying : x.copied ≡ min (moved_in x.done.events) 18446744073709551615
    pub behind : x.behind ≡ shows_last p xs n
    pub due : map event_in x.moments.items ≡ moments_below p xs n
    pub told : IsToldOf most t first x.done.events x.moments.items x.teller
    pub teller : length x.teller.last.items ≡ c.config.regions

teller_size : (due : Bool) (c : CoreState) (event copied : ℕ) (ms ms' : List Moment) (x y : Teller)
    → NotesTold due c event copied ms ms' x y → length y.last.items ≡ length x.last.items
teller_size true c event copied ms ms' x y (m, items, at, by, numbers, told) = told.size
teller_size false c event copied ms ms' x y (items, told) = ap (λ (z : Teller). length z.last.items) told

pub passed : (most : ℕ) (t : Told) (first : CoreState) (p : Pace) (xs : List Event) (n : ℕ) (e : Event) (c c' : CoreState) (x y : Course)
    → IsCourseOf most t first p xs n c x → n < length xs → slice_get xs n ≡ Some e → PassesEvent p e n c c' x y
    → IsCourseOf most t first p xs (n + 1) c' y
passed most t first p xs n e c c' x y inv lt at h =
    let made = h.made in
    let events = h.events in
    let due = x.behind || shows p e.step x.counted || n % p.every == 0 in
    let ahead = ahead_is p xs n x.counted e at inv.counting in
    record {
      leads = λ s st. subst (λ (es : List Event). Runs s first es c') (sym events) (h.passed.runs first x.done.events s (inv.leads s st));
      steps = ap (λ (es : List Event). map step_in es) events ∙ grown_at step_in x.done.events made xs n e inv.steps lt at h.passed.step;
      actors = ap (λ (es : List Event). map actor_in es) events ∙ grown_at actor_in x.done.events made xs n e inv.actors lt at
          h.passed.actor;
      config = h.passed.config ∙ inv.config;
      sizes = h.sizes ∙ inv.sizes;
      many = ap (λ (es : List Event). length es) events ∙ many_more x.done.events made n inv.many;
      counting = h.counted ∙ ap (λ (k : ℕ). k + one_if (counts p e.step)) inv.counting ∙ sym (counted_at p.small xs n e lt at);
      few = let most = one_most (counts p e.step) in let is = h.counted in let few = inv.few in omega (arith, most, is, few);
      copying = h.copied ∙ moved_next x.done.events made x.copied (moved_by made.reply) inv.copying refl
          ∙ ap (λ (es : List Event). min (moved_in es) 18446744073709551615) (sym events);
      behind = h.behind ∙ ahead ∙ ap (shows_last p xs) (sym (add-one n));
      due = due_more p xs n due c x.copied x.moments.items y.moments.items x.teller y.teller h.notes
          (due_is p xs n x.behind _ lt inv.behind ahead) inv.due ∙ ap (moments_below p xs) (sym (add-one n));
      told = subst (λ (es : List Event). IsToldOf most t first es y.moments.items y.teller) (sym events)
          (told_grown most t first x.done.events made y.moments.items y.teller
          (told_noted most t due first c x.done.events n x.copied x.moments.items y.moments.items x.teller y.teller h.notes
          (sym inv.many) inv.leads inv.copying inv.told));
      teller = teller_size due c n x.copied x.moments.items y.moments.items x.teller y.teller h.notes ∙ inv.teller
          ∙ sym (ap (λ (k : Config). k.regions) h.passed.config);
    }

-- ---- the whole course

pub begun : (most : ℕ) (t : Told) (first : CoreState) (p : Pace) (xs : List Event) (x : Course) → x.done.config ≡ first.config
    → x.done.events ≡ [] → x.counted ≡ 0 → x.copied ≡ 0 → x.behind ≡ true → x.moments.items ≡ []
    → LeadsFrom first [] first → HasTold t x.teller → x.teller.most ≡ most
    → length x.teller.last.items ≡ first.config.regions → IsCourseOf most t first p xs 0 first x
begun most t first p xs x sizes events counted copied behind moments leads told limit teller = record {
  told = told_start most t first x.done.events x.moments.items x.teller moments told limit;
  teller = teller;
  leads = λ s st. subst (λ (es : List Event). Runs s first es first) (sym events) (leads s st);
  steps = ap (λ (es : List Event). map step_in es) events;
  actors = ap (λ (es : List Event). map actor_in es) events;
  config = refl;
  sizes = sizes;
  many = ap (λ (es : List Event). length es) events;
  counting = counted;
  few = omega (arith, counted);
  copying = copied ∙ sym (ap (λ (es : List Event). min (moved_in es) 18446744073709551615) events);
  behind = behind;
  due = ap (λ (l : List Moment). map event_in l) moments;
}

pub lived : (most : ℕ) (t : Told) (first : CoreState) (p : Pace) (xs : List Event) (c : CoreState) (x : Course) (ms : List Moment)
    (y : Teller) (n : ℕ) → n ≡ length xs → IsCourseOf most t first p xs n c x
    → NotesTold true c (length xs) x.copied x.moments.items ms x.teller y → IsLived most t first p xs c x.done ms y
lived most t first p xs c x ms y n is inv noted = record {
  config = inv.sizes;
  steps = inv.steps ∙ take_all n (map step_in xs) (let l = length-map xs step_in in omega arith);
  actors = inv.actors ∙ take_all n (map actor_in xs) (let l = length-map xs actor_in in omega arith);
  leads = inv.leads;
  due = due_whole p xs c x.copied x.moments.items ms x.teller y noted (inv.due ∙ ap (moments_below p xs) is);
  told = told_noted most t true first c x.done.events (length xs) x.copied x.moments.items ms x.teller y noted
      (sym is ∙ sym inv.many) inv.leads inv.copying inv.told;
}
