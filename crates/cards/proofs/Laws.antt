-- Which cards are dirty after each change, and that the dirty cards are those that are listed.
use Rattle.std.proofs.Common.{◌≡◌, ◌⊎◌, ◌||◌, ◌&&◌, ◌<◌, ◌≤◌, ◌∷◌, ◌∙◌, inl, inr, not, ℕ, Bool, true, false, cond, eqb, List, [], length}
use Rattle.std.proofs.Common.{get_or, set, sum_by, ⊎_elim, refl, ap, arith, get_or-set_same, get_or-set_other, eq-eqb, ne_eqb}
use Rattle.std.specs.List.{Contains, concat}
use Rattle.std.proofs.lemmas.Bool.{cases_eq, cases_lt}
use Rattle.std.proofs.lemmas.List.Elements.{Contains-append_right, Contains-append_cases, Contains-push_cases}
use Rattle.std.proofs.lemmas.List.Sums.{sum_by-cons, sum_by-append}
use Rattle.cards.specs.Cards.{Cards, is_dirty, times_in, ListsDirtyOnce, entered, dirtied}
use Rattle.cards.proofs.Listed.{bit, dirty_from_listed}
use Rattle.cards.proofs.Dirtied.{dirtied_cases, sent_cases}

or_of : (b v : Bool) → cond b true v ≡ (b || v)
or_of true v = refl
or_of false v = refl

and_of : (b v : Bool) → cond b false v ≡ (not b && v)
and_of true v = refl
and_of false v = refl

flag_after : (flags : List Bool) (c x : ℕ) (v : Bool) → c < length flags
    → get_or (set flags c v) x false ≡ cond (eqb x c) v (get_or flags x false)
flag_after flags c x v h = ⊎_elim
    (λ (same : x ≡ c). rw (same, eq-eqb c c refl) (get_or-set_same flags c v false h))
    (λ differs. rw (ne_eqb x c differs) (get_or-set_other flags c x v false differs))
    (cases_eq x c)

pub flag_set_after : (flags : List Bool) (c x : ℕ) → c < length flags
    → get_or (set flags c true) x false ≡ (eqb x c || get_or flags x false)
flag_set_after flags c x h = flag_after flags c x true h ∙ or_of (eqb x c) (get_or flags x false)

pub flag_cleared_after : (flags : List Bool) (c x : ℕ) → c < length flags
    → get_or (set flags c false) x false ≡ (not (eqb x c) && get_or flags x false)
flag_cleared_after flags c x h = flag_after flags c x false h ∙ and_of (eqb x c) (get_or flags x false)

-- a card that is dirty already
dirty_already : (t : Cards) (c x : ℕ) → is_dirty t c ≡ true → is_dirty t x ≡ (eqb x c || is_dirty t x)
dirty_already t c x was = ⊎_elim
    (λ (same : x ≡ c). rw (same, eq-eqb c c refl) was)
    (λ differs. rw (ne_eqb x c differs) refl)
    (cases_eq x c)

pub dirty_after : (t : Cards) (m c x : ℕ) → c < length t.dirty → is_dirty (dirtied t m c) x ≡ (eqb x c || is_dirty t x)
dirty_after t m c x h =
    let P : Cards → Type 0 = λ u. is_dirty u x ≡ (eqb x c || is_dirty t x) in
    dirtied_cases P t m c (dirty_already t c x) (λ clean.
    sent_cases P (entered t m c) m (λ full. flag_set_after t.dirty c x h) (λ short. flag_set_after t.dirty c x h))

-- ---- where a dirty card is
counted_in : (xs : List ℕ) (c : ℕ) → 0 < times_in c xs → Contains xs c
counted_in [] c h = absurd (omega (arith, h))
counted_in (x ∷ xs) c h = ⊎_elim
    (λ (same : x ≡ c). (0, omega arith, same))
    (λ differs. Contains-append_right (x ∷ []) xs c
    (counted_in xs c (omega (arith, h, sum_by-cons (λ y. bit (eqb y c)) x xs, ap bit (ne_eqb x c differs)))))
    (cases_eq x c)

none : (c : ℕ) → Contains [] c → ⊥
none c h = omega (arith, h.1)

counts : (xs : List ℕ) (c : ℕ) → Contains xs c → 0 < times_in c xs
counts [] c h = absurd (none c h)
counts (x ∷ xs) c h = ⊎_elim
    (λ first. ⊎_elim
    (λ here. absurd (none c here))
    (λ (same : x ≡ c). omega (arith, sum_by-cons (λ y. bit (eqb y c)) x xs, ap bit (eq-eqb x c same)))
    (Contains-push_cases [] x c first))
    (λ rest. omega (arith, sum_by-cons (λ y. bit (eqb y c)) x xs, counts xs c rest))
    (Contains-append_cases (x ∷ []) xs c h)

times_in-concat : (x : ℕ) (logs : List (List ℕ)) → times_in x (concat logs) ≡ sum_by (times_in x) logs
times_in-concat x [] = refl
times_in-concat x (log ∷ logs) = omega (
  arith,
  sum_by-append (λ y. bit (eqb y x)) log (concat logs),
  sum_by-cons (times_in x) log logs,
  times_in-concat x logs,
)

pub where_dirty : (t : Cards) (c : ℕ) → ListsDirtyOnce t → is_dirty t c ≡ true → Contains t.queue c ⊎ Contains (concat t.logs) c
where_dirty t c once e = ⊎_elim
    (λ queued. inl (counted_in t.queue c queued))
    (λ (not_queued : times_in c t.queue ≤ 0). inr
    (counted_in (concat t.logs) c (omega (arith, not_queued, once.each c, ap bit e, times_in-concat c t.logs))))
    (cases_lt 0 (times_in c t.queue))

pub queued_is_dirty : (t : Cards) (c : ℕ) → ListsDirtyOnce t → Contains t.queue c → is_dirty t c ≡ true
queued_is_dirty t c once h = dirty_from_listed t c once (omega (arith, counts t.queue c h))

pub logged_is_dirty : (t : Cards) (c : ℕ) → ListsDirtyOnce t → Contains (concat t.logs) c → is_dirty t c ≡ true
logged_is_dirty t c once h = dirty_from_listed t c once (omega (arith, counts (concat t.logs) c h, times_in-concat c t.logs))
