-- Regions are forgotten one after another.
use Rattle.std.proofs.Common.{◌≡◌, ◌<◌, ◌∙◌, ℕ, Bool, true, false, List, length, refl, sym, ap, inl, inr, ◌||◌, ◌==◌, if◌then◌else◌}
use Rattle.std.proofs.Common.{set, slice_index, get_or-set_same, get_or-set_other, length-set}
use Rattle.std.proofs.lemmas.Bool.{cases_eq, eq-eqb, ne_eqb}
use Rattle.std.proofs.Math.Bool.{or-true, or-false}
use Rattle.region_choice.specs.Ages.{Ages, AgesAfter, stamp_of, with_forgotten}

-- none is forgotten yet
pub none_aged : (gone : ℕ → Bool) (a : Ages) → ((j : ℕ) → gone j ≡ false) → AgesAfter gone a a
none_aged gone a none =
    record { same = refl; each = λ j. sym (ap (λ (b : Bool). if b then 0 else stamp_of a j) (none j)); count = refl }

-- one region more
pub one_aged : (gone gone' : ℕ → Bool) (q : ℕ) → ((j : ℕ) → gone' j ≡ (gone j || (q == j))) → (a0 a a' : Ages) → q < length a.stamps
    → a' ≡ with_forgotten a q → AgesAfter gone a0 a → AgesAfter gone' a0 a'
one_aged gone gone' q more a0 a a' known is before = record {
  same = is ∙ ap (λ (x : Ages). record x { stamps = set a.stamps q 0 }) before.same
      ∙ ap (λ (s : List ℕ). record a0 { stamps = s }) (sym (ap (λ (x : Ages). x.stamps) is));
  each = λ j. ap (λ (x : Ages). stamp_of x j) is ∙ (elim (cases_eq j q) [
    | inl same ↦
        let here : gone' j ≡ true = more j ∙ ap (λ (b : Bool). gone j || b) (eq-eqb q j (sym same)) ∙ or-true (gone j) in
        ap (slice_index (set a.stamps q 0)) same ∙ get_or-set_same a.stamps q 0 0 known
        ∙ sym (ap (λ (b : Bool). if b then 0 else stamp_of a0 j) here)
    | inr apart ↦
        let there : gone' j ≡ gone j =
        more j ∙ ap (λ (b : Bool). gone j || b) (ne_eqb q j (λ e. apart (sym e))) ∙ or-false (gone j) in
        get_or-set_other a.stamps q j 0 0 apart ∙ before.each j
        ∙ sym (ap (λ (b : Bool). if b then 0 else stamp_of a0 j) there)
  ]);
  count = ap (λ (x : Ages). length x.stamps) is ∙ length-set a.stamps q 0 ∙ before.count;
}
