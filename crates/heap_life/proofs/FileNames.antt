-- What is told of a name is safe, and tells names apart.
use Rattle.std.proofs.Common.{◌≡◌, ◌∙◌, ◌+◌, ◌*◌, ◌-◌, ◌<◌, ℕ, zero, suc, Bool, true, false, List, [], ◌∷◌, ◌++◌}
use Rattle.std.proofs.Common.{refl, sym, ap, inl, inr, arith, drop, get_or, subst}
use Rattle.std.specs.Prelude.{◌⊎◌, ◌&&◌, ◌==◌, ◌/◌, ◌%◌, All, if◌then◌else◌, nat_lt}
use Rattle.std.proofs.lemmas.Bool.{cases_lt, eqb-true}
use Rattle.std.proofs.lemmas.List.Elements.{All-nil, All-cons, All-head, All-tail, All-append}
use Rattle.heap_life.specs.FileNames.{IsByte, IsSafe, byte_text, digit_text, is_plain, name_text}

-- ---- digits

both : (p q : Bool) → (p && q) ≡ true → (p ≡ true) × (q ≡ true)
both true true same = (refl, refl)
both true false same = absurd (cc)
both false q same = absurd (cc)

-- whether each number below one is so
each_below : (ℕ → Bool) → ℕ → Bool
each_below f zero = true
each_below f (suc n) = each_below f n && f n

each_is : (f : ℕ → Bool) (n k : ℕ) → each_below f n ≡ true → k < n → f k ≡ true
unfolding each_below
each_is f zero k so few = absurd (omega (arith, few))
each_is f (suc n) k so few =
    let (before, here) = both (each_below f n) (f n) so in
    elim (below_or_last k n few) [
      | inl lower ↦ each_is f n k before lower
      | inr last ↦ subst (λ (m : ℕ). f m ≡ true) (sym last) here
    ]
  where
    below_or_last : (k n : ℕ) → k < suc n → (k < n) ⊎ (k ≡ n)
    below_or_last k n few = elim (cases_lt k n) [
      | inl lower ↦ inl lower
      | inr not_lower ↦ inr (omega (arith, few, not_lower))
    ]

digit_plain : (n : ℕ) → n < 16 → is_plain (digit_text n) ≡ true
unfolding each_below
digit_plain n few = each_is (λ (m : ℕ). is_plain (digit_text m)) 16 n refl few

-- the number of a digit
digit_value : ℕ → ℕ
digit_value d = if nat_lt d 58 then d - 48 else d - 55

value_back : (n : ℕ) → n < 16 → digit_value (digit_text n) ≡ n
unfolding each_below digit_value
value_back n few = eqb-true _ _ (each_is (λ (m : ℕ). digit_value (digit_text m) == m) 16 n refl few)

digits_apart : (m n : ℕ) → m < 16 → n < 16 → digit_text m ≡ digit_text n → m ≡ n
digits_apart m n few fewer same = sym (value_back m few) ∙ ap digit_value same ∙ value_back n fewer

high : (b : ℕ) → IsByte b → b / 16 < 16
high b byte = omega (arith, byte)

low : (b : ℕ) → b % 16 < 16
low b = omega arith

-- ---- each byte is safe

true_or_false : (p : Bool) → (p ≡ true) ⊎ (p ≡ false)
true_or_false true = inl refl
true_or_false false = inr refl

byte_safe : (b : ℕ) → IsByte b → All IsSafe (byte_text b)
byte_safe b byte = elim (true_or_false (is_plain b)) [
  | inl plain ↦ rw plain (All-cons IsSafe b [] (inl plain) (All-nil IsSafe))
  | inr not_plain ↦ rw not_plain (All-cons IsSafe 37 (digit_text (b / 16) ∷ digit_text (b % 16) ∷ []) (inr refl)
      (All-cons IsSafe (digit_text (b / 16)) (digit_text (b % 16) ∷ []) (inl (digit_plain (b / 16) (high b byte)))
      (All-cons IsSafe (digit_text (b % 16)) [] (inl (digit_plain (b % 16) (low b))) (All-nil IsSafe))))
]

pub all_safe : (name : List ℕ) → All IsByte name → All IsSafe (name_text name)
all_safe [] bytes = All-nil IsSafe
all_safe (b ∷ name) bytes =
    All-append IsSafe (byte_text b) (name_text name) (byte_safe b (All-head IsByte b name bytes))
    (all_safe name (All-tail IsByte b name bytes))

-- ---- names are told apart

heads : (x y : ℕ) (xs ys : List ℕ) → x ∷ xs ≡ y ∷ ys → x ≡ y
heads x y xs ys same = ap (λ (l : List ℕ). get_or l 0 x) same

tails : (x y : ℕ) (xs ys : List ℕ) → x ∷ xs ≡ y ∷ ys → xs ≡ ys
tails x y xs ys same = ap (λ (l : List ℕ). drop 1 l) same

whole : (b : ℕ) → b ≡ b / 16 * 16 + b % 16
whole b = omega arith

byte_apart : (p q : Bool) (a b : ℕ) (us vs : List ℕ) → is_plain a ≡ p → is_plain b ≡ q → IsByte a → IsByte b
    → byte_text a ++ us ≡ byte_text b ++ vs → (a ≡ b) × (us ≡ vs)
byte_apart true true a b us vs pa pb byte other same =
    let s : a ∷ us ≡ b ∷ vs = rw (pa, pb) at same in (heads a b us vs s, tails a b us vs s)
byte_apart true false a b us vs pa pb byte other same =
    let s : a ∷ us ≡ 37 ∷ digit_text (b / 16) ∷ digit_text (b % 16) ∷ vs = rw (pa, pb) at same in
    let e : is_plain 37 ≡ true = subst (λ (n : ℕ). is_plain n ≡ true) (heads a 37 us _ s) pa in
    absurd (cc)
byte_apart false true a b us vs pa pb byte other same =
    let s : 37 ∷ digit_text (a / 16) ∷ digit_text (a % 16) ∷ us ≡ b ∷ vs = rw (pa, pb) at same in
    let e : is_plain 37 ≡ true = subst (λ (n : ℕ). is_plain n ≡ true) (sym (heads 37 b _ vs s)) pb in
    absurd (cc)
byte_apart false false a b us vs pa pb byte other same =
    let s : 37 ∷ digit_text (a / 16) ∷ digit_text (a % 16) ∷ us ≡ 37 ∷ digit_text (b / 16) ∷ digit_text (b % 16) ∷ vs =
    rw (pa, pb) at same in
    let t = tails 37 37 (digit_text (a / 16) ∷ digit_text (a % 16) ∷ us) (digit_text (b / 16) ∷ digit_text (b % 16) ∷ vs) s in
    let u = tails (digit_text (a / 16)) (digit_text (b / 16)) (digit_text (a % 16) ∷ us) (digit_text (b % 16) ∷ vs) t in
    let first = digits_apart (a / 16) (b / 16) (high a byte) (high b other)
    (heads (digit_text (a / 16)) (digit_text (b / 16)) (digit_text (a % 16) ∷ us) (digit_text (b % 16) ∷ vs) t) in
    let second = digits_apart (a % 16) (b % 16) (low a) (low b) (heads (digit_text (a % 16)) (digit_text (b % 16)) us vs u) in (
      whole a ∙ ap (λ (n : ℕ). n * 16 + a % 16) first ∙ ap (λ (n : ℕ). b / 16 * 16 + n) second ∙ sym (whole b),
      tails (digit_text (a % 16)) (digit_text (b % 16)) us vs u,
    )

-- something is told of each byte
never_nothing : (p : Bool) (b : ℕ) (us : List ℕ) → is_plain b ≡ p → [] ≡ byte_text b ++ us → ⊥
never_nothing true b us plain same = let s : [] ≡ b ∷ us = rw plain at same in cc
never_nothing false b us plain same =
    let s : [] ≡ 37 ∷ digit_text (b / 16) ∷ digit_text (b % 16) ∷ us = rw plain at same in cc

pub told_apart : (a b : List ℕ) → All IsByte a → All IsByte b → name_text a ≡ name_text b → a ≡ b
told_apart [] [] bytes others same = refl
told_apart [] (y ∷ b) bytes others same = absurd (never_nothing (is_plain y) y (name_text b) refl same)
told_apart (x ∷ a) [] bytes others same = absurd (never_nothing (is_plain x) x (name_text a) refl (sym same))
told_apart (x ∷ a) (y ∷ b) bytes others same =
    let (first, rest) = byte_apart (is_plain x) (is_plain y) x y (name_text a) (name_text b) refl refl (All-head IsByte x a bytes)
    (All-head IsByte y b others) same in
    let left = told_apart a b (All-tail IsByte x a bytes) (All-tail IsByte y b others) rest in
    ap (λ (n : ℕ). n ∷ a) first ∙ ap (λ (l : List ℕ). y ∷ l) left
