-- Objects that are found, each once.
use Rattle.std.proofs.Common.{◌≡◌, ◌∙◌, ◌⊎◌, ℕ, zero, suc, ◌<◌, ◌≤◌, Bool, true, false, List, [], ◌∷◌, ◌++◌, Some}
use Rattle.std.proofs.Common.{ap, arith, inl, inr, length, length-append, refl, replicate, subst, sym}
use Rattle.std.specs.Prelude.{IsSome, slice_get, slice_set}
use Rattle.std.proofs.lemmas.Bool.{cases_eq}
use Rattle.std.proofs.lemmas.Option.{slice_get_within}
use Rattle.bit_sets.specs.Bits.{has}
use Rattle.step_core.specs.Stands.{CoreState, kept_of}
use Rattle.heap_walk.specs.Starts.{word_count}
use Rattle.heap_view.specs.Search.{AreFound, IsFoundBy, IsReached, left_out}
use Rattle.heap_view.specs.declared.search.Stage.{Stage}

-- ---- lists
-- the items of a list are at the same places of a longer one
pub at_front : {A : Type 0} (xs ys : List A) (i : ℕ) (x : A) → slice_get xs i ≡ Some x → slice_get (xs ++ ys) i ≡ Some x
at_front [] ys i x e = let within = slice_get_within [] i x e in absurd (omega (arith, within))
at_front (z ∷ xs) ys zero x e = e
at_front (z ∷ xs) ys (suc i) x e = at_front xs ys i x e

pub at_end : {A : Type 0} (xs : List A) (y : A) → slice_get (xs ++ y ∷ []) (length xs) ≡ Some y
at_end [] y = refl
at_end (z ∷ xs) y = at_end xs y

-- and of one with another item at its end, the others are at none
pub old_or_new : {A : Type 0} (xs : List A) (y : A) (i : ℕ) (x : A) → slice_get (xs ++ y ∷ []) i ≡ Some x
    → (slice_get xs i ≡ Some x) ⊎ ((i ≡ length xs) × (y ≡ x))
old_or_new [] y zero x e = inr (refl, (cc))
old_or_new [] y (suc i) x e = let within = slice_get_within (y ∷ []) (suc i) x e in absurd (omega (arith, within))
old_or_new (z ∷ xs) y zero x e = inl e
old_or_new (z ∷ xs) y (suc i) x e = elim (old_or_new xs y i x e) [
  | inl old ↦ inl old
  | inr new ↦ let (at, is) = new in inr (omega (arith, at), is)
]

-- ---- sets
pub set_here : (flags : List Bool) (a : ℕ) → a < length flags → has (slice_set flags a true) a ≡ true
set_here [] a lt = absurd (omega (arith, lt))
set_here (b ∷ flags) zero lt = refl
set_here (b ∷ flags) (suc a) lt = set_here flags a (omega (arith, lt))

pub set_other : (flags : List Bool) (a b : ℕ) → (a ≡ b → ⊥) → has (slice_set flags a true) b ≡ has flags b
set_other [] a b other = refl
set_other (x ∷ flags) zero zero other = absurd (other refl)
set_other (x ∷ flags) zero (suc b) other = refl
set_other (x ∷ flags) (suc a) zero other = refl
set_other (x ∷ flags) (suc a) (suc b) other = set_other flags a b (λ e. other (omega (arith, e)))

set_length : (flags : List Bool) (a : ℕ) → length (slice_set flags a true) ≡ length flags
set_length [] a = refl
set_length (x ∷ flags) zero = refl
set_length (x ∷ flags) (suc a) = let same = set_length flags a in omega (arith, same)

set_fewer : (flags : List Bool) (a : ℕ) → a < length flags → has flags a ≡ false
    → suc (left_out (slice_set flags a true)) ≡ left_out flags
set_fewer [] a lt none = absurd (omega (arith, lt))
set_fewer (true ∷ flags) zero lt none = absurd (cc)
set_fewer (false ∷ flags) zero lt none = refl
set_fewer (true ∷ flags) (suc a) lt none = set_fewer flags a (omega (arith, lt)) none
set_fewer (false ∷ flags) (suc a) lt none = let fewer = set_fewer flags a (omega (arith, lt)) none in omega (arith, fewer)

none_in : (n a : ℕ) → has (replicate n false) a ≡ true → ⊥
none_in zero a e = cc
none_in (suc n) zero e = cc
none_in (suc n) (suc a) e = none_in n a e

all_out : (n : ℕ) → left_out (replicate n false) ≡ n
all_out zero = refl
all_out (suc n) = let same = all_out n in omega (arith, same)

false_length : (n : ℕ) → length (replicate n false) ≡ n
false_length zero = refl
false_length (suc n) = let same = false_length n in omega (arith, same)

-- ---- what is found
pub stage_more : (c : CoreState) (q xs : List Stage) (s : Stage) (d : ℕ) → IsFoundBy c q s d → IsFoundBy c (q ++ xs) s d
stage_more c q xs s zero by = by
stage_more c q xs s (suc d) by =
    record { before = by.before; there = at_front q xs s.from by.before by.there; depth = by.depth; leads = by.leads }

pub reached_more : (q xs : List Stage) (a d : ℕ) → IsReached q a d → IsReached (q ++ xs) a d
reached_more q xs a d r = record {
  place = r.place;
  stage = r.stage;
  there = at_front q xs r.place r.stage r.there;
  at = r.at;
  near = r.near;
}

pub reached_last : (q : List Stage) (s : Stage) (d : ℕ) → s.depth ≤ d → IsReached (q ++ s ∷ []) s.at d
reached_last q s d near = record { place = length q; stage = s; there = at_end q s; at = refl; near = near }

pub found_none : (c : CoreState) → AreFound c [] (replicate (word_count c.table) false)
found_none c = record {
  each = λ i s e. nothing i s e;
  kept = λ i s e. nothing i s e;
  short = λ i s e. nothing i s e;
  once = λ i j s t e f same. nothing i s e;
  noted = λ i s e. nothing i s e;
  found = λ a e. absurd (none_in (word_count c.table) a e);
  room = false_length (word_count c.table);
  counted = let out = all_out (word_count c.table) in let all = false_length (word_count c.table) in omega (arith, out, all);
}
  where
    nothing : {P : Type 0} (i : ℕ) (s : Stage) → slice_get [] i ≡ Some s → P
    nothing i s e = let within = slice_get_within [] i s e in absurd (omega (arith, within))

-- one object more
pub found_more : (c : CoreState) (q : List Stage) (seen : List Bool) (s : Stage) → AreFound c q seen → IsSome (kept_of c s.at)
    → IsFoundBy c q s s.depth → s.depth ≤ length q → s.at < length seen → has seen s.at ≡ false
    → AreFound c (q ++ s ∷ []) (slice_set seen s.at true)
found_more c q seen s f kept by short lt none = record {
  each = λ i t e. elim (old_or_new q s i t e) [
    | inl old ↦ stage_more c q (s ∷ []) t t.depth (f.each i t old)
    | inr new ↦ subst (λ (x : Stage). IsFoundBy c (q ++ s ∷ []) x x.depth) new.1 (stage_more c q (s ∷ []) s s.depth by)
  ];
  kept = λ i t e. elim (old_or_new q s i t e) [
    | inl old ↦ f.kept i t old
    | inr new ↦ subst (λ (x : Stage). IsSome (kept_of c x.at)) new.1 kept
  ];
  short = λ i t e. elim (old_or_new q s i t e) [
    | inl old ↦ f.short i t old
    | inr new ↦ subst (λ (x : Stage). x.depth ≤ i) new.1 (let at = new.0 in omega (arith, at, short))
  ];
  once = λ i j t u e g same. elim (old_or_new q s i t e) [
    | inl old ↦ elim (old_or_new q s j u g) [
      | inl too ↦ f.once i j t u old too same
      | inr new ↦ absurd (fresh i t old (same ∙ sym (ap (λ (x : Stage). x.at) new.1)))
    ]
    | inr new ↦ elim (old_or_new q s j u g) [
      | inl too ↦ absurd (fresh j u too (sym same ∙ sym (ap (λ (x : Stage). x.at) new.1)))
      | inr too ↦ new.0 ∙ sym too.0
    ]
  ];
  noted = λ i t e. elim (old_or_new q s i t e) [
    | inl old ↦ set_other seen s.at t.at (λ same. fresh i t old (sym same)) ∙ f.noted i t old
    | inr new ↦ subst (λ (x : Stage). has (slice_set seen s.at true) x.at ≡ true) new.1 (set_here seen s.at lt)
  ];
  found = λ a e. elim (cases_eq s.at a) [
    | inl same ↦ (s.depth, subst (λ (x : ℕ). IsReached (q ++ s ∷ []) x s.depth) same (reached_last q s s.depth (omega arith)))
    | inr other ↦
        let (d, r) = f.found a (sym (set_other seen s.at a other) ∙ e) in
        (d, reached_more q (s ∷ []) a d r)
  ];
  room = set_length seen s.at ∙ f.room;
  counted =
      let counted = f.counted in
      let fewer = set_fewer seen s.at lt none in
      let same = set_length seen s.at in
      let more = length-append q (s ∷ []) in
      omega (arith, counted, fewer, same, more);
}
  where
    fresh : (i : ℕ) (t : Stage) → slice_get q i ≡ Some t → t.at ≡ s.at → ⊥
    fresh i t e same =
        let yes = subst (λ (a : ℕ). has seen a ≡ true) same (f.noted i t e) in
        cc
