-- What a root place holds, in two numbers.
use Rattle.std.specs.Prelude.{◌≡◌, ◌⊎◌, ℕ, zero, suc, Option, Some, None}
use Rattle.std.proofs.Common.{refl, inl, inr}

-- an address, unless the first number says that it is nil
abbrev pub root_of : ℕ → ℕ → Option ℕ
root_of zero word = None
root_of (suc n) word = Some word

-- the two numbers: 1 and the address, or 0 twice
abbrev pub named_of : Option ℕ → ℕ
named_of None = 0
named_of (Some a) = 1

abbrev pub word_of : Option ℕ → ℕ
word_of None = 0
word_of (Some a) = a

pub parts_of : (named word : ℕ) → (named ≡ 0) ⊎ (named ≡ 1) → (named ≡ 0 → word ≡ 0)
    → (named_of (root_of named word) ≡ named) × (word_of (root_of named word) ≡ word)
parts_of zero word which none = (refl, (let e : word ≡ 0 = none refl in cc))
parts_of (suc zero) word which none = (refl, refl)
parts_of (suc (suc n)) word which none = absurd (elim which [ inl e ↦ cc | inr e ↦ cc ])
