-- on the schedule that a generator draws
use Rattle.std.proofs.Common.{◌≡◌, ◌+◌, ◌-◌, ◌<◌, ◌≤◌, ◌∷◌, ◌++◌, ◌∙◌, ℕ, zero, suc, Bool, List, [], length, take, drop, refl, ap, sym}
use Rattle.std.proofs.Common.{arith, get_or, slice_set, slice_index}
use Rattle.heap_steps.specs.declared.step.Step.{Step}
use Rattle.rand_pcg.specs.Lcg.{Lcg}
use Rattle.mutators.specs.Draws.{open_from, total, one_less, after_round, pick, drawn, lefts}

pub lefts_at : (ss : List (List Step)) (ps : List ℕ) (k : ℕ) → k < length ss
    → get_or (lefts ss ps) k 0 ≡ length (get_or ss k []) - get_or ps k 0
lefts_at [] ps k below = absurd (omega arith)
lefts_at (s ∷ ss) [] zero below = omega arith
lefts_at (s ∷ ss) [] (suc k) below = lefts_at ss [] k (omega arith)
lefts_at (s ∷ ss) (p ∷ ps) zero below = refl
lefts_at (s ∷ ss) (p ∷ ps) (suc k) below = lefts_at ss ps k (omega arith)

pub length-lefts : (ss : List (List Step)) (ps : List ℕ) → length (lefts ss ps) ≡ length ss
length-lefts [] ps = refl
length-lefts (s ∷ ss) [] = ap suc (length-lefts ss [])
length-lefts (s ∷ ss) (p ∷ ps) = ap suc (length-lefts ss ps)

pub lefts_moved : (ss : List (List Step)) (ps : List ℕ) (k : ℕ) → k < length ss → k < length ps
    → lefts ss (slice_set ps k (slice_index ps k + 1)) ≡ one_less (lefts ss ps) k
lefts_moved [] ps k row spot = absurd (omega arith)
lefts_moved (s ∷ ss) [] k row spot = absurd (omega arith)
lefts_moved (s ∷ ss) (p ∷ ps) zero row spot =
    let less : length s - (p + 1) ≡ length s - p - 1 = omega arith in ap (λ n. n ∷ lefts ss ps) less
lefts_moved (s ∷ ss) (p ∷ ps) (suc k) row spot = ap (λ l. (length s - p) ∷ l) (lefts_moved ss ps k (omega arith) (omega arith))

-- an open place is one with a line left
pub open_is : (k : ℕ) (ns : List ℕ) (n : ℕ) → n < length (open_from k ns)
    → (p : ℕ) × (get_or (open_from k ns) n 0 ≡ k + p) × (p < length ns) × (0 < get_or ns p 0)
open_is k [] n below = absurd (omega arith)
open_is k (zero ∷ ns) n below = let h = open_is (suc k) ns n below in (suc h.0, omega (arith, h.1), omega (arith, h.2), h.3)
open_is k (suc m ∷ ns) zero below = (0, omega arith, omega arith, omega arith)
open_is k (suc m ∷ ns) (suc n) below = let h = open_is (suc k) ns n (omega arith) in (suc h.0, omega (arith, h.1), omega (arith, h.2), h.3)

pub open_few : (k : ℕ) (ns : List ℕ) → length (open_from k ns) ≤ length ns
open_few k [] = omega arith
open_few k (zero ∷ ns) = let h = open_few (suc k) ns in omega arith
open_few k (suc n ∷ ns) = let h = open_few (suc k) ns in omega arith

-- an actor that has lines left after its turn stays open
pub open_same : (k : ℕ) (ns : List ℕ) (p : ℕ) → 1 < get_or ns p 0 → open_from k (one_less ns p) ≡ open_from k ns
open_same k (suc (suc m) ∷ ns) zero more = let e : suc (suc m) - 1 ≡ suc m = omega arith in rw e refl
open_same k (zero ∷ ns) (suc p) more = open_same (suc k) ns p more
open_same k (suc m ∷ ns) (suc p) more = ap (λ (l : List ℕ). k ∷ l) (open_same (suc k) ns p more)
open_same k _ _ more = absurd (omega arith)

-- one whose last line is done doesn't
pub open_gone : (k : ℕ) (ns : List ℕ) (n p : ℕ) → get_or ns p 0 ≡ 1 → n < length (open_from k ns) → get_or (open_from k ns) n 0 ≡ k + p
    → open_from k (one_less ns p) ≡ take n (open_from k ns) ++ drop (suc n) (open_from k ns)
open_gone k [] n p one below at = absurd (omega arith)
open_gone k (zero ∷ ns) n zero one below at = absurd (omega arith)
open_gone k (zero ∷ ns) n (suc p) one below at = open_gone (suc k) ns n p one below (omega (arith, at))
open_gone k (suc m ∷ ns) zero zero one below at = let e : suc m - 1 ≡ 0 = omega (arith, one) in rw e refl
open_gone k (suc m ∷ ns) (suc n) zero one below at = let h = open_is (suc k) ns n (omega arith) in absurd (omega (arith, h.1, at))
open_gone k (suc m ∷ ns) zero (suc p) one below at = absurd (omega (arith, at))
open_gone k (suc m ∷ ns) (suc n) (suc p) one below at =
    ap (λ (l : List ℕ). k ∷ l) (open_gone (suc k) ns n p one (omega arith) (omega (arith, at)))

pub total_less : (ns : List ℕ) (k : ℕ) → 0 < get_or ns k 0 → suc (total (one_less ns k)) ≡ total ns
total_less [] k some = absurd (omega arith)
total_less (n ∷ ns) zero some = omega arith
total_less (n ∷ ns) (suc k) some = let h = total_less ns k some in omega arith

pub none_open : (k : ℕ) (ns : List ℕ) → length (open_from k ns) ≡ 0 → (total ns ≡ 0) × ((j : ℕ) → get_or ns j 0 ≡ 0)
none_open k [] none = (refl, λ j. refl)
none_open k (zero ∷ ns) none = let h = none_open (suc k) ns none in (omega (arith, h.0), λ j. at ns j h.1)
  where
    at : (ns : List ℕ) (j : ℕ) → ((j : ℕ) → get_or {A = ℕ} ns j 0 ≡ 0) → get_or (zero ∷ ns) j 0 ≡ 0
    at ns zero h = refl
    at ns (suc j) h = h j
none_open k (suc n ∷ ns) none = absurd (omega arith)

-- one round more
pub drawn_more : (next : Lcg → ℕ × Lcg) (b : Bool) (g : Lcg) (left : List ℕ) (n : ℕ) → n ≡ total left
    → 0 < get_or left (pick (next g).0 left) 0
    → drawn next b n g left ≡ pick (next g).0 left
    ∷ drawn next b (total (one_less left (pick (next g).0 left))) (after_round next b g) (one_less left (pick (next g).0 left))
drawn_more next b g left n is some = let h = total_less left (pick (next g).0 left) some in
    ap (λ m. drawn next b m g left) (is ∙ sym h) ∙ unfold drawn in refl

pub drawn_none : (next : Lcg → ℕ × Lcg) (b : Bool) (g : Lcg) (left : List ℕ) (n : ℕ) → n ≡ 0 → drawn next b n g left ≡ []
unfolding drawn
drawn_none next b g left n is = ap (λ m. drawn next b m g left) is
