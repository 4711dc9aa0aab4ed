-- The rows of classes that are in order, run by run.
use Rattle.std.proofs.Common.{◌≡◌, ◌∙◌, ◌<◌, ◌≤◌, ◌+◌, ◌-◌, ℕ, Bool, true, false, List, [], ◌∷◌, ◌++◌, Less, Equal, Greater, Ordering}
use Rattle.std.proofs.Common.{All, IsPermutation, IsSorted, cond, count_by, drop, get_or, is_eq, is_lt, length, take}
use Rattle.std.proofs.Common.{ap, arith, inl, inr, ne_eqb, refl, subst, sym, take-add}
use Rattle.std.specs.Cmp.{Equal-is, IsEquivalence, IsStrictWeakOrder, IsTotalOrder}
use Rattle.std.specs.List.{prefix_len}
use Rattle.std.specs.Ordering.{ordering_reverse}
use Rattle.std.proofs.lemmas.Bool.{cases_Bool, cases_lt, cond-false, cond-true, false_from_ne_true}
use Rattle.std.proofs.lemmas.Cmp.{back_total, eq_by_cmp_equiv, nat_cmp_total, on_total, then_total}
use Rattle.std.proofs.lemmas.List.{get_or-drop, get_or-take, get_or_default, length-drop, length-take, length-take-le, take_all}
use Rattle.std.proofs.lemmas.List.Elements.{All-head, All-nil, All-push, All-tail}
use Rattle.std.proofs.lemmas.List.Sorted.{All-permutation, length_permutation, ranks_by, sorted_far, sum_by-IsPermutation}
use Rattle.std.proofs.lemmas.List.Sums.{get_or-le-sum_by, prefix_len-drop_yes, prefix_len-le-length, prefix_len_is, prefix_len_passes}
use Rattle.std.proofs.lemmas.List.Sums.{prefix_len_stops, sum_by-append, sum_by-cons, sum_by_push}
use Rattle.heap_words.specs.Configs.{max_words}
use Rattle.heap_view.specs.Census.{AreRows, AreSmall, IsCensus, IsRow, class_cmp, class_size, is_same, objects_of, row_cmp, row_count}
use Rattle.heap_view.specs.Census.{row_of, rows_of}
use Rattle.heap_view.specs.declared.census.Row.{Row}
use Rattle.heap_view.specs.declared.classes.Class.{Class}

-- ---- orders
pub classes_total : IsTotalOrder class_cmp
classes_total = then_total (then_total (then_total
    (on_total (λ (k : Class). k.pointers) nat_cmp_total)
    (on_total (λ (k : Class). k.weaks) nat_cmp_total))
    (on_total (λ (k : Class). k.values) nat_cmp_total))
    (on_total (λ (k : Class). k.word) nat_cmp_total)

pub class_ranks : IsStrictWeakOrder (λ (a b : Class). is_lt (class_cmp a b))
class_ranks = ranks_by classes_total (λ (k : Class). k)

rows_total : IsTotalOrder row_cmp
rows_total = then_total (back_total (on_total (λ (r : Row). r.words) nat_cmp_total)) (on_total (λ (r : Row). r.class) classes_total)

pub row_ranks : IsStrictWeakOrder (λ (a b : Row). is_lt (row_cmp a b))
row_ranks = ranks_by rows_total (λ (r : Row). r)

same : IsEquivalence is_same
same = eq_by_cmp_equiv classes_total

-- what is the same as one that is no higher than a third is the same as that
module _ {K : Type 0} {R : K → K → Ordering} (o : IsTotalOrder R) where
  pub between : (a b d : K) → is_lt (R b a) ≡ false → is_lt (R d b) ≡ false → is_eq (R a d) ≡ true → is_eq (R d b) ≡ true
  between a b d up on e = go (R d b) refl
    where
      like : R a b ≡ R d b
      like = o.congr a d b ((Equal-is (R a d)).0 e)

      turned : R b a ≡ ordering_reverse (R d b)
      turned = o.antisymm b a ∙ ap ordering_reverse like

      go : (r : Ordering) → R d b ≡ r → is_eq (R d b) ≡ true
      go Less f = absurd (let t : is_lt (R d b) ≡ true = ap is_lt f in cc)
      go Equal f = ap is_eq f
      go Greater f = absurd (let t : is_lt (R b a) ≡ true = ap is_lt (turned ∙ ap ordering_reverse f) in cc)

-- ---- counts
module _ {X : Type 0} (p : X → Bool) where
  none_counted : (xs : List X) → All (λ x. p x ≡ false) xs → count_by p xs ≡ 0
  none_counted [] h = refl
  none_counted (x ∷ xs) h =
      let here = All-head (λ (y : X). p y ≡ false) x xs h in
      let rest = none_counted xs (All-tail (λ (y : X). p y ≡ false) x xs h) in
      let sum = sum_by-cons (λ (y : X). cond (p y) 1 0) x xs in
      let zero = cond-false {A = ℕ} (p x) 1 0 here in
      omega (arith, zero, rest, sum)

  all_counted : (xs : List X) → All (λ x. p x ≡ true) xs → count_by p xs ≡ length xs
  all_counted [] h = refl
  all_counted (x ∷ xs) h =
      let here = All-head (λ (y : X). p y ≡ true) x xs h in
      let rest = all_counted xs (All-tail (λ (y : X). p y ≡ true) x xs h) in
      let one = cond-true {A = ℕ} (p x) 1 0 here in
      let sum = sum_by-cons (λ (y : X). cond (p y) 1 0) x xs in
      omega (arith, one, rest, sum)

  none_passes : (xs : List X) → count_by p xs ≡ 0 → All (λ x. p x ≡ false) xs
  none_passes xs e i d l = elim (cases_Bool (p (get_or xs i d))) [
    | inl so ↦ absurd (
        let le = get_or-le-sum_by (λ (x : X). cond (p x) 1 0) xs i d l in
        let one = cond-true {A = ℕ} (p (get_or xs i d)) 1 0 so in
        omega (arith, le, one, e))
    | inr unlike ↦ unlike
  ]

-- objects that are all of one class
module _ (run : List Class) (k : Class) (all : All (λ o. is_same o k ≡ true) run) where
  run_same : (q : Class) → is_same k q ≡ true → objects_of run q ≡ length run
  run_same q e = all_counted (λ o. is_same o q) run (λ i d l. same.congr (get_or run i d) k q (all i d l) ∙ e)

  run_other : (q : Class) → is_same k q ≡ false → objects_of run q ≡ 0
  run_other q e = none_counted (λ o. is_same o q) run (λ i d l. same.congr (get_or run i d) k q (all i d l) ∙ e)

same_either : (k q o : Class) → is_same k q ≡ true → is_same o q ≡ is_same o k
same_either k q o e = same.symm o q ∙ sym (same.congr k q o e) ∙ same.symm k o

same_counts : (es : List Class) (k q : Class) → is_same k q ≡ true → objects_of es q ≡ objects_of es k
same_counts es k q e = ap (λ (p : Class → Bool). count_by p es) (λ i o. same_either k q o e i)

some_row : (m : ℕ) → 0 < m → row_count m ≡ 1
some_row m h = rw (ne_eqb m 0 (λ e. absurd (omega (arith, h, e)))) refl

-- ---- a run of one class more
module _ (es run : List Class) (rows : List Row) (k : Class) (n : ℕ) (long : n ≡ length run) (some : 0 < n)
    (all : All (λ o. is_same o k ≡ true) run) (none : objects_of es k ≡ 0) (p : AreRows es rows) where
  together : (q : Class) → objects_of (es ++ run) q ≡ objects_of es q + objects_of run q
  together q = sum_by-append (λ o. cond (is_same o q) 1 0) es run

  unchanged : (q : Class) → is_same k q ≡ false → objects_of (es ++ run) q ≡ objects_of es q
  unchanged q unlike = let a = together q in let b = run_other run k all q unlike in omega (arith, a, b)

  count : (q : Class) → is_same k q ≡ true → objects_of (es ++ run) q ≡ n
  count q so =
      let a = together q in
      let b = run_same run k all q so in
      let d = same_counts es k q so in
      omega (arith, a, b, d, none, long)

  apart : All (λ r. is_same r.class k ≡ false) rows
  apart = none_passes (λ (r : Row). is_same r.class k) rows (p.once k ∙ ap row_count none)

  old_rows : All (IsRow (es ++ run)) rows
  old_rows i d l =
      let r = get_or rows i d in
      p.each i d l ∙ ap (row_of r.class) (sym (unchanged r.class (same.symm k r.class ∙ apart i d l)))

  new_row : IsRow (es ++ run) (row_of k n)
  new_row = ap (row_of k) (sym (count k (same.refl k)))

  pushed : (q : Class) → rows_of (rows ++ row_of k n ∷ []) q ≡ rows_of rows q + cond (is_same k q) 1 0
  pushed q = sum_by_push (λ (r : Row). cond (is_same r.class q) 1 0) rows (row_of k n)

  once_here : (q : Class) → is_same k q ≡ true → rows_of (rows ++ row_of k n ∷ []) q ≡ row_count (objects_of (es ++ run) q)
  once_here q so =
      let a = pushed q in
      let one = cond-true {A = ℕ} (is_same k q) 1 0 so in
      let before : rows_of rows q ≡ 0 = p.once q ∙ ap row_count (same_counts es k q so ∙ none) in
      let now = count q so in
      let now_one : rows_of (rows ++ row_of k n ∷ []) q ≡ 1 = omega (arith, a, one, before) in
      now_one ∙ sym (some_row (objects_of (es ++ run) q) (omega (arith, now, some)))

  once_there : (q : Class) → is_same k q ≡ false → rows_of (rows ++ row_of k n ∷ []) q ≡ row_count (objects_of (es ++ run) q)
  once_there q unlike =
      let a : rows_of (rows ++ row_of k n ∷ []) q ≡ rows_of rows q + 0 = pushed q
      ∙ ap (λ (b : Bool). rows_of rows q + cond b 1 0) unlike in
      let still : rows_of (rows ++ row_of k n ∷ []) q ≡ rows_of rows q = omega (arith, a) in
      still ∙ p.once q ∙ ap row_count (sym (unchanged q unlike))

  pub rows_more : AreRows (es ++ run) (rows ++ row_of k n ∷ [])
  rows_more = record {
    each = All-push (IsRow (es ++ run)) rows (row_of k n) old_rows new_row;
    once = λ q. elim (cases_Bool (is_same k q)) [ inl so ↦ once_here q so | inr unlike ↦ once_there q unlike ];
  }

-- ---- the classes before a place are counted, and none of them is the same as one from there on
pub record IsCounted (ks : List Class) (place : ℕ) (rows : List Row) : Type 0 where
  pub within : place ≤ length ks
  pub told : AreRows (take place ks) rows
  pub fresh : (i : ℕ) (d : Class) → i < place → place < length ks → is_same (get_or ks i d) (get_or ks place d) ≡ false

pub counted_none : (ks : List Class) → IsCounted ks 0 []
counted_none ks = record {
  within = omega arith;
  told = record { each = All-nil (IsRow []); once = λ k. refl };
  fresh = λ i d l m. absurd (omega (arith, l));
}

pub counted_all : (ks : List Class) (place : ℕ) (rows : List Row) → length ks ≤ place → IsCounted ks place rows → AreRows ks rows
counted_all ks place rows past p = subst (λ (es : List Class). AreRows es rows) (take_all place ks past) p.told

module _ (ks : List Class) (place n : ℕ) (k : Class) (rows : List Row) (sorted : IsSorted class_cmp ks) (some : place < length ks)
    (long : n ≡ prefix_len (λ o. is_same o k) (drop place ks)) (here : (d : Class) → k ≡ get_or ks place d)
    (p : IsCounted ks place rows) where
  pub run_positive : 0 < n
  run_positive =
      let e = prefix_len-drop_yes (λ o. is_same o k) ks place k some (ap (λ (x : Class). is_same x k) (sym (here k)) ∙ same.refl k) in
      omega (arith, e, long)

  pub run_within : place + n ≤ length ks
  run_within =
      let le = prefix_len-le-length (λ o. is_same o k) (drop place ks) in
      let rest = length-drop place ks in
      omega (arith, le, rest, long, some)

  within_rest : n ≤ length (drop place ks)
  within_rest = let le = prefix_len-le-length (λ o. is_same o k) (drop place ks) in omega (arith, le, long)

  run_long : n ≡ length (take n (drop place ks))
  run_long = sym (length-take-le n (drop place ks) within_rest)

  rest_alike : (i : ℕ) (d : Class) → i < n → is_same (get_or (drop place ks) i d) k ≡ true
  rest_alike i d l = prefix_len_passes (λ o. is_same o k) (drop place ks) i d (omega (arith, l, long))

  run_alike : All (λ o. is_same o k ≡ true) (take n (drop place ks))
  run_alike i d l =
      let less : i < n = omega (arith, l, run_long) in
      ap (λ (x : Class). is_same x k) (get_or-take n (drop place ks) i d less) ∙ rest_alike i d less

  none_before : objects_of (take place ks) k ≡ 0
  none_before = none_counted (λ o. is_same o k) (take place ks) (λ i d l.
      let less : i < place = omega (arith, l, length-take place ks) in
      ap (λ (x : Class). is_same x k) (get_or-take place ks i d less)
      ∙ ap (λ (x : Class). is_same (get_or ks i d) x) (here d)
      ∙ p.fresh i d less some)

  stops : (d : Class) → place + n < length ks → is_same (get_or ks (place + n) d) k ≡ false
  stops d more =
      let rest = length-drop place ks in
      ap (λ (x : Class). is_same x k) (sym (get_or-drop place ks n d))
      ∙ ap (λ (m : ℕ). is_same (get_or (drop place ks) m d) k) long
      ∙ prefix_len_stops (λ o. is_same o k) (drop place ks) d (omega (arith, rest, more, long))

  alike_before : (i : ℕ) (d : Class) → place ≤ i → i < place + n → is_same (get_or ks i d) k ≡ true
  alike_before i d low high =
      let back : place + (i - place) ≡ i = omega (arith, low) in
      ap (λ (m : ℕ). is_same (get_or ks m d) k) (sym back)
      ∙ ap (λ (x : Class). is_same x k) (sym (get_or-drop place ks (i - place) d))
      ∙ rest_alike (i - place) d (omega (arith, low, high))

  same_after : (i : ℕ) (d : Class) → i < place + n → place + n < length ks → is_same (get_or ks i d) (get_or ks (place + n) d) ≡ true
      → is_same (get_or ks (place + n) d) k ≡ true
  same_after i d l more e = elim (cases_lt i place) [
    | inl less ↦ between classes_total (get_or ks i d) k (get_or ks (place + n) d)
        (ap (λ (x : Class). is_lt (class_cmp x (get_or ks i d))) (here d)
        ∙ sorted_far (λ (a b : Class). is_lt (class_cmp a b)) class_ranks ks sorted i place d (omega (arith, less)) some)
        (ap (λ (x : Class). is_lt (class_cmp (get_or ks (place + n) d) x)) (here d)
        ∙ sorted_far (λ (a b : Class). is_lt (class_cmp a b)) class_ranks ks sorted place (place + n) d (omega arith) more)
        e
    | inr past ↦ sym (same.congr (get_or ks i d) (get_or ks (place + n) d) k e) ∙ alike_before i d past l
  ]

  pub counted_more : IsCounted ks (place + n) (rows ++ row_of k n ∷ [])
  counted_more = record {
    within = run_within;
    told = subst (λ (es : List Class). AreRows es (rows ++ row_of k n ∷ [])) (sym (take-add place n ks))
        (rows_more (take place ks) (take n (drop place ks)) rows k n run_long run_positive run_alike none_before p.told);
    fresh = λ i d l more. false_from_ne_true (is_same (get_or ks i d) (get_or ks (place + n) d)) (λ e.
        let so = same_after i d l more e in let unlike = stops d more in cc);
  }

-- ---- where a run ends
pub IsAlike : List Class → Class → ℕ → ℕ → Type 0
IsAlike ks k from place = (i : ℕ) (d : Class) → from ≤ i → i < place → is_same (get_or ks i d) k ≡ true

module _ (ks : List Class) (k : Class) (from place : ℕ) where
  pub alike_none : place ≤ from → IsAlike ks k from place
  unfolding IsAlike
  alike_none le = λ i d low high. absurd (omega (arith, le, low, high))

  pub alike_more : (e : Class) → place < length ks → is_same (get_or ks place e) k ≡ true → IsAlike ks k from place
      → IsAlike ks k from (place + 1)
  unfolding IsAlike
  alike_more e lt is p = λ i d low high. elim (cases_lt i place) [
    | inl less ↦ p i d low less
    | inr past ↦
        let same_place : place ≡ i = omega (arith, past, high) in
        ap (λ (m : ℕ). is_same (get_or ks m d) k) (sym same_place)
        ∙ ap (λ (y : Class). is_same y k) (get_or_default ks place d e lt) ∙ is
  ]

  pub run_ends : (n : ℕ) → from ≤ place → place ≤ length ks → n ≡ place - from → IsAlike ks k from place
      → (place < length ks → (e : Class) × (is_same (get_or ks place e) k ≡ false))
      → n ≡ prefix_len (λ o. is_same o k) (drop from ks)
  unfolding IsAlike
  run_ends n low high e p other =
      let rest = length-drop from ks in
      sym (prefix_len_is (λ o. is_same o k) (drop from ks) n k (omega (arith, rest, low, high, e))
      (λ i l. ap (λ (x : Class). is_same x k) (get_or-drop from ks i k) ∙ p (from + i) k (omega arith) (omega (arith, l, e, low)))
      (λ l.
      let less : place < length ks = omega (arith, l, rest, e, low) in
      let (d, unlike) = other less in
      let there : from + n ≡ place = omega (arith, e, low) in
      ap (λ (y : Class). is_same y k) (get_or-drop from ks n k ∙ ap (λ (m : ℕ). get_or ks m k) there
      ∙ get_or_default ks place k d less) ∙ unlike))

-- ---- in another order
module _ (ks ls : List Class) (h : IsPermutation ks ls) where
  same_objects : (q : Class) → objects_of ls q ≡ objects_of ks q
  same_objects q = sum_by-IsPermutation (λ o. cond (is_same o q) 1 0) ks ls h

  pub small_reordered : AreSmall ks → AreSmall ls
  small_reordered s = record {
    few = (let e = length_permutation ks ls h in let few = s.few in omega (arith, e, few));
    each = All-permutation (λ k. class_size k ≤ max_words) ks ls h s.each;
  }

  pub census_reordered : (rows others : List Row) → AreRows ls rows → IsPermutation rows others → IsSorted row_cmp others
      → IsCensus ks others
  census_reordered rows others p moved sorted = record {
    counted = record {
      each = All-permutation (IsRow ks) rows others moved (λ i d l.
          p.each i d l ∙ ap (row_of (get_or rows i d).class) (same_objects (get_or rows i d).class));
      once = λ q. sum_by-IsPermutation (λ (r : Row). cond (is_same r.class q) 1 0) rows others moved ∙ p.once q
          ∙ ap row_count (same_objects q);
    };
    sorted = sorted;
  }
