-- Moments that are told, one after another.
use Rattle.std.proofs.Common.{◌≡◌, ◌∙◌, ℕ, Bool, true, false, List, [], ◌∷◌, ◌++◌, length, take, refl, sym, ap, subst, arith}
use Rattle.std.specs.Prelude.{min}
use Rattle.std.proofs.lemmas.List.{take_all, take-append-le, length-append, map-append}
use Rattle.std.proofs.lemmas.List.Elements.{All-append, All-cons, All-nil}
use Rattle.heap_steps.specs.declared.step.Event.{Event}
use Rattle.step_core.specs.Stands.{CoreState}
use Rattle.heap_dump.specs.Numbers.{IsNumbersOf}
use Rattle.heap_life.specs.Tolds.{Told, told_of, with_moment}
use Rattle.heap_life.specs.Tellers.{HasTold, TellsMoment}
use Rattle.heap_life.specs.Lives.{moved_in, IsMomentIn, LeadsFrom, IsToldOf, NotesTold, moment_in}
use Rattle.heap_life.specs.declared.life.Moment.{Moment}
use Rattle.heap_life.specs.declared.moment_text.Teller.{Teller}
use Rattle.heap_life.proofs.Tellings.{told_last}

pub noted_told : (due : Bool) (c : CoreState) (event copied : ℕ) (ms ms' : List Moment) (x y : Teller) (m : Moment) → due ≡ true
    → ms' ≡ ms ++ m ∷ [] → m.event ≡ event → m.copied ≡ copied → IsNumbersOf c m.numbers → TellsMoment c m x y
    → NotesTold due c event copied ms ms' x y
noted_told true c event copied ms ms' x y m e items at by numbers told = (m, items, at, by, numbers, told)
noted_told false c event copied ms ms' x y m e items at by numbers told = absurd (cc)

pub not_noted : (due : Bool) (c : CoreState) (event copied : ℕ) (ms : List Moment) (x : Teller) → due ≡ false
    → NotesTold due c event copied ms ms x x
not_noted true c event copied ms x e = absurd (cc)
not_noted false c event copied ms x e = (refl, refl)

-- moments are those of a run, whatever comes after them
later : (Leads : List Event → CoreState → Type 0) (es : List Event) (e : Event) (m : Moment) (c : CoreState) → IsMomentIn Leads es m c
    → IsMomentIn Leads (es ++ e ∷ []) m c
later Leads es e m c h =
    let same : take m.event (es ++ e ∷ []) ≡ take m.event es = take-append-le m.event es (e ∷ []) h.within in
    record {
      within = let len = length-append es (e ∷ []) in let w = h.within in omega (arith, len, w);
      leads = subst (λ (l : List Event). Leads l c) (sym same) h.leads;
      numbers = h.numbers;
      copied = h.copied ∙ ap (λ (l : List Event). min (moved_in l) 18446744073709551615) (sym same);
    }

pub told_grown : (most : ℕ) (t : Told) (first : CoreState) (es : List Event) (e : Event) (ms : List Moment) (x : Teller)
    → IsToldOf most t first es ms x → IsToldOf most t first (es ++ e ∷ []) ms x
told_grown most t first es e ms x h = record {
  shown = h.shown;
  moments = h.moments;
  each = λ k d lt. later (LeadsFrom first) es e _ _ (h.each k d lt);
  told = h.told;
  limit = h.limit;
}

pub told_start : (most : ℕ) (t : Told) (first : CoreState) (es : List Event) (ms : List Moment) (x : Teller) → ms ≡ [] → HasTold t x
    → x.most ≡ most → IsToldOf most t first es ms x
told_start most t first es ms x none told is = record {
  shown = [];
  moments = none;
  each = All-nil (λ (k : Moment × CoreState). IsMomentIn (LeadsFrom first) es k.0 k.1);
  told = told;
  limit = is;
}

pub told_noted : (most : ℕ) (t : Told) (due : Bool) (first c : CoreState) (es : List Event) (event copied : ℕ) (ms ms' : List Moment)
    (x y : Teller) → NotesTold due c event copied ms ms' x y → event ≡ length es → LeadsFrom first es c
    → copied ≡ min (moved_in es) 18446744073709551615 → IsToldOf most t first es ms x → IsToldOf most t first es ms' y
told_noted most t false first c es event copied ms ms' x y h len leads sum was =
    subst (λ (z : Teller). IsToldOf most t first es ms' z) (sym h.1) (subst (λ (l : List Moment). IsToldOf most t first es l x) (sym h.0)
    was)
told_noted most t true first c es event copied ms ms' x y (m, items, at, by, numbers, told) len leads sum was =
    let P : Moment × CoreState → Type 0 = λ k. IsMomentIn (LeadsFrom first) es k.0 k.1 in
    let whole : take m.event es ≡ es = take_all m.event es (omega arith) in
    let here : IsMomentIn (LeadsFrom first) es m c = record {
      within = omega arith;
      leads = subst (λ (l : List Event). LeadsFrom first l c) (sym whole) leads;
      numbers = numbers;
      copied = by ∙ sum ∙ ap (λ (l : List Event). min (moved_in l) 18446744073709551615) (sym whole);
    } in
    let next = told.told (told_of most t was.shown) was.told in
    record {
      shown = was.shown ++ (m, c) ∷ [];
      moments = items ∙ ap (λ (l : List Moment). l ++ m ∷ []) was.moments ∙ sym (map-append moment_in was.shown ((m, c) ∷ []));
      each = All-append P was.shown ((m, c) ∷ []) was.each (All-cons P (m, c) [] here (All-nil P));
      told = subst (λ (u : Told). HasTold u y) (sym (told_last most t was.shown m c))
          (subst (λ (n : ℕ). HasTold (with_moment n (told_of most t was.shown) m c) y) was.limit next);
      limit = told.limit ∙ was.limit;
    }
