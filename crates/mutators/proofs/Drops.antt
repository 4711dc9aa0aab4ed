-- what is left to look at
use Rattle.std.proofs.Common.{◌≡◌, ◌+◌, ◌-◌, ◌<◌, ◌≤◌, ◌∷◌, ◌++◌, ◌∙◌, ℕ, zero, suc, List, [], length, take, drop, refl, ap, sym, arith}
use Rattle.std.proofs.Common.{get_or, get_or-set_same, add-one, drop-cons, subst, slice_index}
use Rattle.std.proofs.lemmas.List.{drop_all}
use Rattle.mutators.specs.Journals.{JournalState, Keeps, mutators_of, script_at}
use Rattle.mutators.specs.Draws.{open_from, lefts_of, one_less}
use Rattle.mutators.proofs.Draws.{lefts_at, length-lefts, open_same, open_gone}

-- a place with lines left is open, another isn't
pub open_here : (ns : List ℕ) (k : ℕ) → k < length ns → 0 < get_or ns k 0
    → open_from k (drop k ns) ≡ k ∷ open_from (k + 1) (drop (k + 1) ns)
open_here ns k below some = rw (add-one, drop-cons ns k 0) (here k (get_or ns k 0) (drop (suc k) ns) some)
  where
    here : (k n : ℕ) (ns : List ℕ) → 0 < n → open_from k (n ∷ ns) ≡ k ∷ open_from (suc k) ns
    here k zero ns some = absurd (omega arith)
    here k (suc n) ns some = refl

pub open_past : (ns : List ℕ) (k : ℕ) → k < length ns → get_or ns k 0 ≡ 0 → open_from k (drop k ns) ≡ open_from (k + 1) (drop (k + 1) ns)
open_past ns k below none = rw (add-one, drop-cons ns k 0, none) refl

-- a list to its end has none
pub open_end : (ns : List ℕ) (k : ℕ) → length ns ≤ k → open_from k (drop k ns) ≡ []
open_end ns k over = rw (drop_all k ns over) refl

pub lefts_len : (d w : JournalState) → w ≡ d → Keeps w
    → (length (lefts_of d) ≡ mutators_of w + 1) × (length d.scripts ≡ mutators_of w + 1) × (length d.places ≡ mutators_of w + 1)
lefts_len d w same keeps =
    let P : JournalState → Type 0 =
    λ d. (length (lefts_of d) ≡ mutators_of w + 1) × (length d.scripts ≡ mutators_of w + 1) × (length d.places ≡ mutators_of w + 1) in
    subst P same (length-lefts w.scripts w.places ∙ keeps.each_script, keeps.each_script, keeps.each_place)

-- whether a line is left
pub left_here : (d : JournalState) (k : ℕ) → k < length d.scripts
    → (slice_index d.places k < length (script_at d k) → 0 < get_or (lefts_of d) k 0)
    × (length (script_at d k) ≤ slice_index d.places k → get_or (lefts_of d) k 0 ≡ 0)
left_here d k below = let at = lefts_at d.scripts d.places k below in ((λ h. omega arith), λ h. omega arith)

-- The open places after an actor's turn: its place stays among them where lines are left, else it leaves them
pub open_after : (ns ns' places : List ℕ) (n p : ℕ) → places ≡ open_from 0 ns → n < length places → get_or places n 0 ≡ p
    → ns' ≡ one_less ns p → 0 < get_or ns p 0 → p < length ns
    → (0 < get_or ns' p 0 → places ≡ open_from 0 ns') × (get_or ns' p 0 ≡ 0 → take n places ++ drop (suc n) places ≡ open_from 0 ns')
open_after ns ns' places n p is below at less some within =
    let left : get_or ns' p 0 ≡ get_or ns p 0 - 1 =
    ap (λ (l : List ℕ). get_or l p 0) less ∙ get_or-set_same ns p (get_or ns p 0 - 1) 0 within in
    let to = ap (λ (l : List ℕ). open_from 0 l) (sym less) in (
      (λ more. is ∙ sym (open_same 0 ns p (omega (arith, left, more))) ∙ to),
      λ none.
          let below' : n < length (open_from 0 ns) = subst (λ (l : List ℕ). n < length l) is below in
          let at' : get_or (open_from 0 ns) n 0 ≡ 0 + p = (let same = ap (λ (l : List ℕ). get_or l n 0) is in omega (arith, same, at)) in
          ap (λ (l : List ℕ). take n l ++ drop (suc n) l) is ∙ sym (open_gone 0 ns n p (omega (arith, left, none, some)) below' at') ∙ to,
    )
