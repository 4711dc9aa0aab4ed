-- Each change of the cards keeps each dirty card listed once.
use Rattle.std.proofs.Common.{◌≡◌, ◌+◌, ◌<◌, ◌≤◌, ◌∷◌, ◌++◌, ◌∙◌}
use Rattle.std.proofs.Common.{ℕ, Bool, true, false, cond, eqb, List, [], length, get_or, set, replicate, zero, suc, sum_by, count_by, All}
use Rattle.std.proofs.Common.{⊎_elim, lit<, refl, sym, ap, arith, get_or-set_same, get_or-set_other, length-set, length-append}
use Rattle.std.proofs.lemmas.Bool.{cases_lt, cases_eq, eq-eqb, ne_eqb, false≢true}
use Rattle.std.proofs.lemmas.List.{get_or_past}
use Rattle.std.proofs.lemmas.List.Elements.{All-replicate}
use Rattle.std.proofs.lemmas.List.Sums.{sum_by-set, sum_by_push, sum_by-cons, sum_by-append, count_by-le-length}
use Rattle.cards.specs.Cards.{Cards, is_dirty, times_in, times_listed, ListsDirtyOnce, log_of, clean_cards, entered, sent}
use Rattle.cards.specs.Inside.{IsCounted, listed_count}
use Rattle.cards.proofs.Flagged.{all_clear}

abbrev pub bit : Bool → ℕ
bit b = cond b 1 0

-- how many flags are set
abbrev flags : List Bool → ℕ
flags bs = count_by (λ b. b) bs

flag_set : (bs : List Bool) (c : ℕ) → c < length bs → get_or bs c false ≡ false → flags (set bs c true) ≡ flags bs + 1
flag_set bs c h e = omega (arith, sum_by-set bit bs c true false h, ap bit e)

flag_cleared : (bs : List Bool) (c : ℕ) → c < length bs → get_or bs c false ≡ true → flags (set bs c false) + 1 ≡ flags bs
flag_cleared bs c h e = omega (arith, sum_by-set bit bs c false false h, ap bit e)

-- fewer cards are listed than there are, where one is clean
pub room_for_clean : (t : Cards) (c : ℕ) → IsCounted t → c < length t.dirty → is_dirty t c ≡ false → listed_count t < length t.dirty
room_for_clean t c all h clean =
    omega (arith, all.counted, flag_set t.dirty c h clean, count_by-le-length (λ b. b) (set t.dirty c true), length-set t.dirty c true)

pub room_for_listed : (t : Cards) → IsCounted t → listed_count t ≤ length t.dirty
room_for_listed t all = omega (arith, all.counted, count_by-le-length (λ b. b) t.dirty)

-- 1 at the card itself
abbrev one_at : ℕ → ℕ → ℕ
one_at c x = bit (eqb c x)

-- a card that is listed is dirty, and so it is a card
pub dirty_from_listed : (t : Cards) (c : ℕ) → ListsDirtyOnce t → 0 < times_listed t c → is_dirty t c ≡ true
dirty_from_listed t c once h = elim (is_dirty t c) as
    (λ b. is_dirty t c ≡ b → b ≡ true) [ true ↦ λ e. refl | false ↦ λ e. absurd (omega (arith, once.each c, ap bit e)) ] refl

card_from_dirty : (t : Cards) (c : ℕ) → is_dirty t c ≡ true → c < length t.dirty
card_from_dirty t c e = ⊎_elim (λ h. h) (λ h. absurd (false≢true (sym (get_or_past t.dirty c false h) ∙ e))) (cases_lt c (length t.dirty))

-- the front of the queue is a dirty card
pub front_is_dirty : (t : Cards) (c : ℕ) (rest : List ℕ) → IsCounted t → t.queue ≡ c ∷ rest → is_dirty t c ≡ true
front_is_dirty t c rest all front =
    let queue : times_in c t.queue ≡ one_at c c + times_in c rest = ap (times_in c) front ∙ sum_by-cons (λ y. bit (eqb y c)) c rest in
    dirty_from_listed t c all.listed (omega (arith, queue, ap bit (eq-eqb c c refl)))

pub front_is_card : (t : Cards) (c : ℕ) (rest : List ℕ) → IsCounted t → t.queue ≡ c ∷ rest → c < length t.dirty
front_is_card t c rest all front = card_from_dirty t c (front_is_dirty t c rest all front)

-- a flag is set or cleared at a card, and the other flags stay
dirty_same : (t u : Cards) (c x : ℕ) (v : Bool) → u.dirty ≡ set t.dirty c v → c < length t.dirty → c ≡ x → is_dirty u x ≡ v
dirty_same t u c x v flag h e =
    ap (λ d. get_or d x false) flag ∙ ap (λ k. get_or (set t.dirty c v) k false) (sym e) ∙ get_or-set_same t.dirty c v false h

dirty_other : (t u : Cards) (c x : ℕ) (v : Bool) → u.dirty ≡ set t.dirty c v → (c ≡ x → ⊥) → is_dirty u x ≡ is_dirty t x
dirty_other t u c x v flag differs = ap (λ d. get_or d x false) flag ∙ get_or-set_other t.dirty c x v false (λ e. differs (sym e))

-- a clean card becomes dirty, and is listed once more
IsCounted-more : (t u : Cards) (c : ℕ) → IsCounted t → c < length t.dirty → is_dirty t c ≡ false → u.dirty ≡ set t.dirty c true
    → ((x : ℕ) → times_listed u x ≡ times_listed t x + one_at c x) → listed_count u ≡ listed_count t + 1 → IsCounted u
IsCounted-more t u c all h clean flag times count = record {
  listed = record {
    each = λ x. ⊎_elim
        (λ same.
        let was : is_dirty t x ≡ false = ap (is_dirty t) (sym same) ∙ clean in
        omega (arith, times x, all.listed.each x, ap bit (dirty_same t u c x true flag h same), ap bit was, ap bit (eq-eqb c x same)))
        (λ differs. omega (arith, times x, all.listed.each x, ap bit (dirty_other t u c x true flag differs), ap bit (ne_eqb c x differs)))
        (cases_eq c x);
  };
  counted = omega (arith, all.counted, count, flag_set t.dirty c h clean, ap flags flag);
}

-- the front of the queue leaves it, and becomes clean
pub IsCounted-taken : (t u : Cards) (c : ℕ) → IsCounted t → t.queue ≡ c ∷ u.queue → u.dirty ≡ set t.dirty c false → u.logs ≡ t.logs
    → IsCounted u
IsCounted-taken t u c all front flag same =
    let queue : (x : ℕ) → times_in x t.queue ≡ one_at c x + times_in x u.queue =
    λ x. ap (times_in x) front ∙ sum_by-cons (λ y. bit (eqb y x)) c u.queue in
    let logs : (x : ℕ) → sum_by (times_in x) u.logs ≡ sum_by (times_in x) t.logs = λ x. ap (λ l. sum_by (times_in x) l) same in
    let dirty = front_is_dirty t c u.queue all front in
    let inside = front_is_card t c u.queue all front in
    record {
      listed = record {
        each = λ x. ⊎_elim
            (λ e.
            let was : is_dirty t x ≡ true = ap (is_dirty t) (sym e) ∙ dirty in
            omega (
              arith,
              queue x,
              logs x,
              all.listed.each x,
              ap bit (dirty_same t u c x false flag inside e),
              ap bit was,
              ap bit (eq-eqb c x e),
            ))
            (λ differs. omega (
              arith,
              queue x,
              logs x,
              all.listed.each x,
              ap bit (dirty_other t u c x false flag differs),
              ap bit (ne_eqb c x differs),
            ))
            (cases_eq c x);
      };
      counted = omega (
        arith,
        all.counted,
        flag_cleared t.dirty c inside dirty,
        ap flags flag,
        ap length front,
        ap (λ l. sum_by length l) same,
      );
    }

pub IsCounted-entered : (t : Cards) (m c : ℕ) → IsCounted t → m < length t.logs → c < length t.dirty → is_dirty t c ≡ false
    → IsCounted (entered t m c)
IsCounted-entered t m c all known h clean =
    let log : List ℕ = log_of t m ++ c ∷ [] in
    IsCounted-more t (entered t m c) c all h clean refl
    (λ x. omega (arith, sum_by-set (times_in x) t.logs m log [] known, sum_by_push (λ y. bit (eqb y x)) (log_of t m) c))
    (omega (arith, sum_by-set (λ (l : List ℕ). length l) t.logs m log [] known, length-append (log_of t m) (c ∷ [])))

-- a log goes to the queue
pub IsCounted-sent : (t : Cards) (m : ℕ) → IsCounted t → m < length t.logs → IsCounted (sent t m)
IsCounted-sent t m all known = record {
  listed = record {
    each = λ x. omega (
      arith,
      all.listed.each x,
      sum_by-append (λ y. bit (eqb y x)) t.queue (log_of t m),
      sum_by-set (times_in x) t.logs m [] [] known,
    );
  };
  counted = omega (arith, all.counted, length-append t.queue (log_of t m), sum_by-set (λ (l : List ℕ). length l) t.logs m [] [] known);
}

times_none : (x : ℕ) (k : ℕ) → sum_by (times_in x) (replicate k []) ≡ 0
times_none x zero = refl
times_none x (suc k) = omega (arith, sum_by-cons (times_in x) [] (replicate k []), times_none x k)

no_length : (k : ℕ) → sum_by (λ (log : List ℕ). length log) (replicate k []) ≡ 0
no_length zero = refl
no_length (suc k) = omega (arith, sum_by-cons (λ (log : List ℕ). length log) [] (replicate k []), no_length k)

no_flags : (k : ℕ) → flags (replicate k false) ≡ 0
no_flags zero = refl
no_flags (suc k) = omega (arith, sum_by-cons bit false (replicate k false), no_flags k)

-- no card is dirty and none is listed
pub IsCounted-new : (cards mutators : ℕ) → IsCounted (clean_cards cards mutators)
IsCounted-new cards mutators = record {
  listed = record { each = λ x. omega (arith, times_none x mutators, ap bit (all_clear cards x)) };
  counted = omega (arith, no_length mutators, no_flags cards);
}

pub no_log_is_full : (mutators : ℕ) → All (λ (log : List ℕ). length log < 4) (replicate mutators [])
no_log_is_full mutators = All-replicate (λ log. length log < 4) mutators [] (lit< tt)
