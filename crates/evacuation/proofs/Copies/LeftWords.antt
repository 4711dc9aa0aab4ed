-- The words that are left to copy.
use Rattle.std.proofs.Common.{◌≡◌, ◌≢◌, ◌+◌, ◌<◌, ◌≤◌, ◌⊎◌, ◌∙◌, ℕ, suc, zero, Bool, true, false, Option, Some, None, refl, ap, inl, inr}
use Rattle.std.proofs.Common.{arith, eqb, if◌then◌else◌, ◌||◌}
use Rattle.std.proofs.lemmas.Bool.Decides.{eqb_tells}
use Rattle.std.proofs.lemmas.Bool.{cases_eq}
use Rattle.heap_model.specs.Heap.{Stored}
use Rattle.evacuation.specs.Evacuates.{stored_words}
use Rattle.evacuation.specs.Space.{words_of}
use Rattle.evacuation.specs.Turns.{left_words}

here_same : (b : Bool) (x y : Option Stored) → (b ≡ true → y ≡ x) → (if b then stored_words y else 0) ≡ (if b then stored_words x else 0)
here_same true x y f = ap stored_words (f refl)
here_same false x y f = refl

pub left_same : (kept kept' : ℕ → Option Stored) (set : ℕ → Bool) (n : ℕ) → ((a : ℕ) → set a ≡ true → kept' a ≡ kept a)
    → left_words kept' set n ≡ left_words kept set n
left_same kept kept' set zero f = refl
left_same kept kept' set (suc n) f =
    let e = left_same kept kept' set n f in
    let h = here_same (set n) (kept n) (kept' n) (f n) in
    omega arith

below_same : (kept kept' : ℕ → Option Stored) (set : ℕ → Bool) (n a : ℕ) → n ≤ a → ((b : ℕ) → b ≢ a → set b ≡ true → kept' b ≡ kept b)
    → left_words kept' set n ≡ left_words kept set n
below_same kept kept' set zero a h f = refl
below_same kept kept' set (suc n) a h f =
    let e = below_same kept kept' set n a (omega arith) f in
    let k = here_same (set n) (kept n) (kept' n) (f n (λ q. absurd (omega arith))) in
    omega arith

-- an object of the set goes
pub left_less : (kept kept' : ℕ → Option Stored) (set : ℕ → Bool) (n a : ℕ) (x : Stored) → a < n → set a ≡ true → kept a ≡ Some x
    → kept' a ≡ None → ((b : ℕ) → b ≢ a → set b ≡ true → kept' b ≡ kept b)
    → left_words kept' set n + words_of x ≡ left_words kept set n
left_less kept kept' set zero a x h i at gone f = absurd (omega arith)
left_less kept kept' set (suc n) a x h i at gone f = elim (cases_eq n a) [
  | inl q ↦
      let e = below_same kept kept' set n a (omega arith) f in
      let s = ap set q ∙ i in
      let k = ap stored_words (ap kept q ∙ at) in
      let k' = ap stored_words (ap kept' q ∙ gone) in
      rw s (omega (arith, e, k, k'))
  | inr q ↦
      let e = left_less kept kept' set n a x (omega arith) i at gone f in
      let k = here_same (set n) (kept n) (kept' n) (f n q) in
      omega (arith, e, k)
]

pub left_has : (kept : ℕ → Option Stored) (set : ℕ → Bool) (n a : ℕ) (x : Stored) → a < n → set a ≡ true
    → kept a ≡ Some x → words_of x ≤ left_words kept set n
left_has kept set zero a x h i at = absurd (omega arith)
left_has kept set (suc n) a x h i at = elim (cases_eq n a) [
  | inl q ↦
      let s = ap set q ∙ i in
      let k = ap stored_words (ap kept q ∙ at) in
      rw s (omega (arith, k))
  | inr q ↦ let e = left_has kept set n a x (omega arith) i at in omega (arith, e)
]

-- ---- no more words than live bounds say
left_both : (kept : ℕ → Option Stored) (p q s : ℕ → Bool) (n : ℕ) → ((a : ℕ) → s a ≡ true → (p a ≡ true) ⊎ (q a ≡ true))
    → left_words kept s n ≤ left_words kept p n + left_words kept q n
left_both kept p q s zero f = omega arith
left_both kept p q s (suc n) f =
    let e = left_both kept p q s n f in
    let h = here (s n) (p n) (q n) (stored_words (kept n)) (f n) in
    omega arith
  where
    here : (c a b : Bool) (w : ℕ) → (c ≡ true → (a ≡ true) ⊎ (b ≡ true))
        → (if c then w else 0) ≤ (if a then w else 0) + (if b then w else 0)
    here false a b w g = omega arith
    here true a b w g = elim (g refl) [ inl e ↦ rw e (omega arith) | inr e ↦ rw e (omega arith) ]

left_none : (kept : ℕ → Option Stored) (s : ℕ → Bool) (n : ℕ) → ((a : ℕ) → s a ≡ true → ⊥) → left_words kept s n ≡ 0
left_none kept s zero f = refl
left_none kept s (suc n) f = let e = left_none kept s n f in let h = off (s n) (f n) in rw h (omega arith)
  where
    off : (b : Bool) → (b ≡ true → ⊥) → b ≡ false
    off true g = absurd (g refl)
    off false g = refl

-- the words of the objects at n addresses from a on
abbrev pub words_from : (ℕ → Option Stored) → ℕ → ℕ → ℕ
words_from kept a zero = 0
words_from kept a (suc n) = stored_words (kept a) + words_from kept (suc a) n

one_word : (kept : ℕ → Option Stored) (lo n : ℕ) → left_words kept (λ a. eqb a lo) n ≤ stored_words (kept lo)
one_word kept lo zero = omega arith
one_word kept lo (suc n) = elim (eqb_tells n lo) [
  | inl q ↦ (let z = below_none n q.1 in rw q.0 (let e = ap (λ (m : ℕ). stored_words (kept m)) q.1 in omega arith))
  | inr q ↦ rw q.0 (let e = one_word kept lo n in omega arith)
]
  where
    none_to : (m : ℕ) → m ≤ lo → left_words kept (λ a. eqb a lo) m ≡ 0
    none_to zero h = refl
    none_to (suc m) h = elim (eqb_tells m lo) [
      | inl q ↦ absurd (let e = q.1 in omega arith)
      | inr q ↦ rw q.0 (let e = none_to m (omega arith) in omega arith)
    ]

    below_none : (m : ℕ) → m ≡ lo → left_words kept (λ a. eqb a lo) m ≡ 0
    below_none m e = none_to m (omega arith)

abbrev without : ℕ → (ℕ → Bool) → ℕ → Bool
without lo s a = if eqb a lo then false else s a

was : (lo : ℕ) (s : ℕ → Bool) (a : ℕ) → without lo s a ≡ true → s a ≡ true
was lo s a q = elim (eqb_tells a lo) [
  | inl e ↦ absurd (let q' : false ≡ true = rw e.0 at q in cc)
  | inr e ↦ (let q' : s a ≡ true = rw e.0 at q in q')
]

not_lo : (lo : ℕ) (s : ℕ → Bool) (a : ℕ) → without lo s a ≡ true → a ≢ lo
not_lo lo s a q g = elim (eqb_tells a lo) [ inl e ↦ absurd (let q' : false ≡ true = rw e.0 at q in cc) | inr e ↦ e.1 g ]

-- with one address more there are no more words than its object's
left_more : (kept : ℕ → Option Stored) (lo : ℕ) (s : ℕ → Bool) (n : ℕ)
    → left_words kept s n ≤ stored_words (kept lo) + left_words kept (without lo s) n
left_more kept lo s n =
    let o = one_word kept lo n in
    let u = left_both kept (λ a. eqb a lo) (without lo s) s n (λ a q. split a q) in
    omega arith
  where
    split : (a : ℕ) → s a ≡ true → (eqb a lo ≡ true) ⊎ (without lo s a ≡ true)
    split a q = elim (eqb_tells a lo) [ inl e ↦ inl e.0 | inr e ↦ inr (rw e.0 q) ]

pub left_window : (kept : ℕ → Option Stored) (m lo n : ℕ) (s : ℕ → Bool) → ((a : ℕ) → s a ≡ true → (lo ≤ a) × (a < lo + m))
    → left_words kept s n ≤ words_from kept lo m
left_window kept zero lo n s f = let e = left_none kept s n (λ a q. let (x, y) = f a q in omega arith) in omega arith
left_window kept (suc m) lo n s f =
    let u = left_more kept lo s n in
    let w = left_window kept m (suc lo) n (without lo s)
    (λ a q. let (x, y) = f a (was lo s a q) in let z = not_lo lo s a q in (omega arith, omega arith)) in
    omega arith

pub left_zero : (kept : ℕ → Option Stored) (s : ℕ → Bool) (n : ℕ) → ((a : ℕ) → s a ≡ false) → left_words kept s n ≡ 0
left_zero kept s n f = left_none kept s n (λ a e. let g = f a in cc)

pub left_two : (kept : ℕ → Option Stored) (p q : ℕ → Bool) (n : ℕ)
    → left_words kept (λ a. p a || q a) n ≤ left_words kept p n + left_words kept q n
left_two kept p q n = left_both kept p q (λ a. p a || q a) n (λ a e. cases (p a) (q a) e)
  where
    cases : (a b : Bool) → (a || b) ≡ true → (a ≡ true) ⊎ (b ≡ true)
    cases true b e = inl refl
    cases false b e = inr e
