-- The place of an item in a list in order.
use Rattle.std.proofs.Common.{◌≡◌, ◌∙◌, ◌<◌, ◌≤◌, ℕ, true, false, List, [], ◌∷◌, Some, Less, Equal, Greater, Ordering}
use Rattle.std.proofs.Common.{Contains, IsSorted, get_or, is_lt, length}
use Rattle.std.proofs.Common.{ap, arith, refl, sym, inl, inr, suc, zero, subst}
use Rattle.std.specs.Prelude.{slice_get}
use Rattle.std.specs.Cmp.{IsTotalOrder, Equal-is}
use Rattle.std.specs.List.{dedup}
use Rattle.std.specs.List.Sorted.{IsPartitionedBy, IsPartitionPoint, IsPermutation, IsStrictlySortedBy}
use Rattle.std.specs.Ordering.{MatchOrdering, nat_cmp, ordering_reverse, ordering_then}
use Rattle.std.proofs.lemmas.Bool.{cases_lt}
use Rattle.std.proofs.lemmas.Cmp.{eq_by_cmp_equiv, ranked}
use Rattle.std.proofs.lemmas.List.Elements.{All-contains_itself, All-weaker}
use Rattle.std.proofs.lemmas.List.Kept.{Contains-dedup, Contains-from_dedup, IsStrictlySortedBy-dedup}
use Rattle.std.proofs.lemmas.List.Sorted.{Contains-permutation, IsPermutation-sym}
use Rattle.std.proofs.lemmas.List.Sums.{prefix_len_is}
use Rattle.std.proofs.lemmas.Map.Keys.{Less-from_sorted}
use Rattle.heap_view.specs.Census.{class_cmp, is_same}
use Rattle.heap_view.proofs.Counting.{classes_total}
use Rattle.heap_view.specs.Snapshot.{IsClassTable, place_by}
use Rattle.heap_view.specs.declared.classes.Class.{Class}

module _ {X : Type 0} {R : X → X → Ordering} (o : IsTotalOrder R) where
  itself : (x : X) → R x x ≡ Equal
  itself x = go (R x x) refl
    where
      go : (r : Ordering) → R x x ≡ r → R x x ≡ Equal
      go Less e = absurd (let turned = o.antisymm x x ∙ ap ordering_reverse e in cc)
      go Equal e = e
      go Greater e = absurd (let turned = o.antisymm x x ∙ ap ordering_reverse e in cc)

  is_less : (r : Ordering) → is_lt r ≡ true → r ≡ Less
  is_less Less e = refl
  is_less Equal e = cc
  is_less Greater e = cc

  -- what comes before one is at the front
  pub parted : (xs : List X) (x : X) → IsStrictlySortedBy R xs → IsPartitionedBy (λ other. is_lt (R other x)) xs
  parted xs x up i j d le within e = elim (cases_lt i j) [
    | inl lt ↦ ap is_lt (o.trans _ _ _ (Less-from_sorted R xs i j d up lt within) (is_less _ e))
    | inr ge ↦ subst (λ (n : ℕ). is_lt (R (get_or xs n d) x) ≡ true) (let same : j ≡ i = omega (arith, le, ge) in same) e
  ]

  -- so many come before it
  pub placed : (xs : List X) (x : X) (n : ℕ) → n ≤ length xs
      → IsPartitionPoint (λ other. is_lt (R other x) ≡ true) (λ other. is_lt (R other x) ≡ false) xs n → n ≡ place_by R xs x
  placed xs x n within p =
      sym (prefix_len_is (λ other. is_lt (R other x)) xs n x within (λ k lt. p.0 k x (omega arith) lt)
      (λ lt. p.1 n x (omega arith) lt))

  -- an item of the list is at its place
  pub at_place : (xs : List X) (x : X) → IsStrictlySortedBy R xs → Contains xs x → slice_get xs (place_by R xs x) ≡ Some x
  at_place xs x up (i, within, e) =
      let before = prefix_len_is (λ other. is_lt (R other x)) xs i x (omega (arith, within))
      (λ k lt. ap is_lt (ap (R (get_or xs k x)) (sym e) ∙ Less-from_sorted R xs k i x up lt within))
      (λ lt. ap is_lt (ap (λ (y : X). R y x) e ∙ itself x)) in
      ap (slice_get xs) before ∙ found xs i within e
    where
      found : (ys : List X) (k : ℕ) → k < length ys → get_or ys k x ≡ x → slice_get ys k ≡ Some x
      found [] k lt f = absurd (omega arith)
      found (y ∷ ys) zero lt f = ap Some f
      found (y ∷ ys) (suc k) lt f = found ys k (omega arith) f

-- ---- classes
then_equal : (p q : Ordering) → ordering_then p q ≡ Equal → (p ≡ Equal) × (q ≡ Equal)
then_equal Less q e = cc
then_equal Equal q e = (refl, e)
then_equal Greater q e = cc

abbrev class_by : ℕ → ℕ → ℕ → ℕ → Class
class_by p w v x = record { pointers = p; weaks = w; values = v; word = x }

same_class : (p w v x q y u z : ℕ) → p ≡ q → w ≡ y → v ≡ u → x ≡ z
    → class_by p w v x ≡ class_by q y u z
same_class p w v x q y u z e f g h = rw (e, f, g, h) refl

equal_numbers : (m n : ℕ) → nat_cmp m n ≡ Equal → m ≡ n
equal_numbers m n e = subst (λ (r : Ordering). MatchOrdering r (m < n) (m ≡ n) (n < m)) e (ranked m n (nat_cmp m n) refl)

-- classes that are the same
pub one_class : (a b : Class) → is_same a b ≡ true → a ≡ b
one_class a b e =
    let all = (Equal-is (class_cmp a b)).0 e in
    let (three, word) = then_equal _ _ all in
    let (two, values) = then_equal _ _ three in
    let (pointers, weaks) = then_equal _ _ two in
    same_class _ _ _ _ _ _ _ _ (equal_numbers _ _ pointers) (equal_numbers _ _ weaks) (equal_numbers _ _ values)
    (equal_numbers _ _ word)

pub class_table : (ks sorted table : List Class) → IsPermutation ks sorted → IsSorted class_cmp sorted
    → table ≡ dedup is_same sorted → IsClassTable ks table
class_table ks sorted table moved up is =
    let strict = subst (λ (l : List Class). IsStrictlySortedBy class_cmp l) (sym is)
    (IsStrictlySortedBy-dedup classes_total (λ x y. refl) sorted up) in
    record {
      sorted = strict;
      from = All-weaker (Contains table) (Contains ks)
          (λ k h. Contains-permutation sorted ks k (IsPermutation-sym ks sorted moved)
          (Contains-from_dedup is_same sorted k (subst (λ (l : List Class). Contains l k) is h))) table (All-contains_itself table);
      named = All-weaker (Contains ks) (λ k. slice_get table (place_by class_cmp table k) ≡ Some k)
          (λ k h. at_place classes_total table k strict
          (subst (λ (l : List Class). Contains l k) (sym is)
          (Contains-dedup (eq_by_cmp_equiv classes_total) one_class sorted k (Contains-permutation ks sorted k moved h)))) ks
          (All-contains_itself ks);
    }
