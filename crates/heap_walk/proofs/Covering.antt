-- Which kept objects a search has covered.
use Rattle.std.proofs.Common.{◌≡◌, ◌∙◌, ℕ, ◌+◌, ◌<◌, ◌≤◌, List, [], ◌∷◌, Option, Some, None, refl, sym, ap, subst}
use Rattle.std.proofs.Common.{arith, inl, inr}
use Rattle.std.specs.Prelude.{slice_get}
use Rattle.std.proofs.lemmas.Bool.{cases_lt, cases_eq}
use Rattle.step_core.specs.Stands.{CoreState}
use Rattle.heap_walk.specs.Starts.{IsTileFrom, place_of}
use Rattle.heap_walk.specs.Kept.{IsKeptFrom}
use Rattle.heap_walk.specs.Holders.{root_holders}
use Rattle.heap_walk.specs.Paths.{HoldsByRoot}
use Rattle.heap_walk.specs.Searching.{name_at, name_if, IsCovered}
use Rattle.heap_walk.specs.Searching.{IsRootOf, HasGrown}
use Rattle.heap_walk.specs.declared.holders.Holder.{Holder}
use Rattle.heap_walk.proofs.Placing.{onward, until}
use Rattle.heap_walk.proofs.Growing.{covered_none}

-- ---- all objects
pub grown_first : (c : CoreState) (q : List Holder) (low last next room : ℕ) → next ≡ low → HasGrown c q q low last next room
grown_first c q low last next room e = record {
  down = omega arith;
  same = λ x le. refl;
  steps = λ x le lt. absurd (omega arith);
  once = λ p x y n xl xu yl yu xn yn. p x y n (omega arith) xu (omega arith) yu xn yn;
}

abbrev pub CoversBelow : CoreState → List Holder → ℕ → ℕ → ℕ → ℕ → ℕ → Type 0
CoversBelow c q from to next room end = (a : ℕ) → a < end → IsCovered c q from to next room a

module _ (c : CoreState) (q : List Holder) (from to next room : ℕ) where
  pub covers_first : (o : Option ℕ) → IsTileFrom c.table 0 o → CoversBelow c q from to next room (place_of c.table o)
  covers_first o t = λ a lt. covered_none c q from to next room a (onward c 0 o t a (omega arith) lt)

  pub covers_next : (left o : Option ℕ) (at : ℕ) → o ≡ Some at → IsKeptFrom c (place_of c.table left) o
      → (tile : Option ℕ) → IsTileFrom c.table (at + 1) tile → IsCovered c q from to next room at
      → CoversBelow c q from to next room (place_of c.table left) → CoversBelow c q from to next room (place_of c.table tile)
  covers_next left o at is k tile t here p = λ a low. elim (cases_lt a (place_of c.table left)) [
    | inl lt ↦ p a lt
    | inr ge ↦ elim (cases_lt a at) [
      | inl before ↦ covered_none c q from to next room a (until c (place_of c.table left) at o is k a (omega arith) before)
      | inr after ↦ elim (cases_eq a at) [
        | inl same ↦ subst (λ (x : ℕ). IsCovered c q from to next room x) (sym same) here
        | inr above ↦ covered_none c q from to next room a (onward c (at + 1) tile t a (omega arith) low)
      ]
    ]
  ]

  pub covers_all : (left o : Option ℕ) → o ≡ None → IsKeptFrom c (place_of c.table left) o
      → CoversBelow c q from to next room (place_of c.table left) → (a : ℕ) → IsCovered c q from to next room a
  covers_all left None e k p = λ a. elim (cases_lt a (place_of c.table left)) [
    | inl lt ↦ p a lt
    | inr ge ↦ covered_none c q from to next room a (k a (omega arith))
  ]
  covers_all left (Some b) e k p = cc

-- ---- roots and a range of steps
abbrev pub IsRootless : CoreState → List Holder → ℕ → ℕ → Type 0
IsRootless c q from to = (x n : ℕ) (h : Holder) → from ≤ x → x < to → name_at q x ≡ Some n → HoldsByRoot c n h → ⊥

pub rootless_more : (c : CoreState) (q : List Holder) (from at : ℕ) (step : Holder) (r : Option Holder) → slice_get q at ≡ Some step
    → IsRootOf c step.name r → r ≡ None → IsRootless c q from at → IsRootless c q from (at + 1)
rootless_more c q from at step r is k e p = λ x n h on under named root. elim (cases_eq x at) [
  | inl same ↦
      let none : IsRootOf c step.name None = subst (λ (o : Option Holder). IsRootOf c step.name o) e k in
      let one = sym (ap name_if is) ∙ ap (name_at q) (sym same) ∙ named in
      let name : step.name ≡ n = cc in
      let two = sym (none root.place root.below) ∙ subst (λ (m : ℕ). root_holders c m root.place ≡ h ∷ []) (sym name) root.told in
      absurd (cc)
  | inr other ↦ p x n h on (omega arith) named root
]
