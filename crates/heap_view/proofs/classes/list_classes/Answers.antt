use Rattle.std.proofs.Common.{◌≡◌, ◌∙◌, ◌++◌, ◌∷◌, ◌<◌, ◌+◌, [], ℕ, suc, zero, List, add-one, ap, arith, drop, get_or, length, map}
use Rattle.std.proofs.Common.{refl, sym, take}
use Rattle.std.specs.Prelude.{slice_set}
use Rattle.heap_model.proofs.Lists.{length-set}
use Rattle.heap_view.specs.Types.{listed_class}
use Rattle.heap_view.specs.declared.classes.Class.{Class}
use Rattle.heap_view.proofs.classes.list_classes.Goals as goal

-- one item more has its value in its place
one_more : {A : Type 0} (f : A → A) (xs : List A) (i : ℕ) (d : A) → i < length xs
    → slice_set (map f (take i xs) ++ drop i xs) i (f (get_or (map f (take i xs) ++ drop i xs) i d))
    ≡ map f (take (suc i) xs) ++ drop (suc i) xs
one_more f [] i d lt = absurd (omega (arith, lt))
one_more f (x ∷ xs) zero d lt = refl
one_more {A = A} f (x ∷ xs) (suc i) d lt = ap (λ (l : List A). f x ∷ l) (one_more f xs i d (omega (arith, lt)))

pub loop-place-preserved : goal.loop-place-preserved
loop-place-preserved c =
    let place = c.loop-place.place in
    let f = listed_class c.args.types.now in
    let all = c.args.classes.now.items in
    let item = c.index.result.now in
    let length = c.loop-place.invariant.length in
    record {
      done =
          ap (slice_set c.loop-place.classes.items place) (c.listed_class.ensures ∙ ap f c.index.ensures)
          ∙ ap (λ (cs : List Class). slice_set cs place (f (get_or cs place item))) c.loop-place.invariant.done
          ∙ one_more f all place item
          (let test = c.loop-place-test.true in let size = c.len-place-end.ensures in omega (arith, length, test, size))
          ∙ ap (λ (n : ℕ). map f (take n all) ++ drop n all) (sym (add-one place));
      length = length-set c.loop-place.classes.items place c.listed_class.result ∙ length;
    }
