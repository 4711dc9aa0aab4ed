-- How many addresses are marked, and how many words the marked objects have.
use Rattle.std.proofs.Common.{◌≡◌, ℕ, ◌+◌, ◌-◌, ◌<◌, ◌≤◌, Bool, true, false, cond, List, length, take, set, zero, suc, sym, ap, ◌∙◌, arith}
use Rattle.std.proofs.lemmas.List.Sums.{sum_by-set, count_by_more_yes, count_by_more_no}
use Rattle.mark_bitmap.specs.Marks.{is_marked, marked_count}

abbrev pub bit : Bool → ℕ
bit b = cond b 1 0

pub marked_count-set : (marks : List Bool) (a : ℕ) → a < length marks → is_marked marks a ≡ false
    → marked_count (set marks a true) ≡ marked_count marks + 1
marked_count-set marks a h e = omega (arith, sum_by-set bit marks a true false h, ap bit e)

-- the count of the front doesn't change where nothing is marked
count_stays : (marks : List Bool) (from n : ℕ) → from + n ≤ length marks → ((a : ℕ) → from ≤ a → a < from + n → is_marked marks a ≡ false)
    → marked_count (take (from + n) marks) ≡ marked_count (take from marks)
count_stays marks from zero h none = ap (λ k. marked_count (take k marks)) (omega arith)
count_stays marks from (suc n) h none =
    let e : from + suc n ≡ (from + n) + 1 = omega arith in
    ap (λ k. marked_count (take k marks)) e
    ∙ count_by_more_no (λ b. b) marks (from + n) false (omega arith) (none (from + n) (omega arith) (omega arith))
    ∙ count_stays marks from n (omega arith) (λ a k l. none a k (omega arith))

pub count_to : (marks : List Bool) (from to : ℕ) → from ≤ to → to ≤ length marks → ((a : ℕ) → from ≤ a → a < to → is_marked marks a ≡ false)
    → marked_count (take to marks) ≡ marked_count (take from marks)
count_to marks from to h k none =
    let e : from + (to - from) ≡ to = omega arith in
    ap (λ n. marked_count (take n marks)) (sym e) ∙ count_stays marks from (to - from) (omega arith) (λ a l m. none a l (omega arith))

pub count_next : (marks : List Bool) (from found : ℕ) → from ≤ found → found < length marks → is_marked marks found ≡ true
    → ((a : ℕ) → from ≤ a → a < found → is_marked marks a ≡ false)
    → marked_count (take (found + 1) marks) ≡ marked_count (take from marks) + 1
count_next marks from found h k here none =
    count_by_more_yes (λ b. b) marks found false k here ∙ ap (λ n. n + 1) (count_to marks from found h (omega arith) none)
