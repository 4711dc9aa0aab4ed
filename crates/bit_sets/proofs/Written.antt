-- Zeros that are written after the last word, and a number that comes into a set that has it.
use Rattle.std.proofs.Common.{◌≡◌, ◌<◌, ◌≤◌, ◌∙◌, ℕ, Bool, false, true, not, refl, List, length, get_or, set, sym, subst, arith}
use Rattle.std.proofs.Common.{get_or-set_other, get_or-set_same, length-set, ⊎_elim}
use Rattle.std.proofs.lemmas.Bool.{cases_lt, cases_eq}
use Rattle.std.proofs.lemmas.List.{get_or_past}
use Rattle.bit_sets.specs.Bits.{has}
use Rattle.bit_sets.specs.BitWords.{bit_of, flags_of, AreSame}
use Rattle.bit_sets.proofs.BitWords.{length-flags_of, has-flags_of, flags_of_is}

-- zeros are written behind the words
pub zeros_written : (old new : List ℕ) (n : ℕ) → length old ≤ n → length new ≡ n
    → ((k d : ℕ) → k < n → k < length old → get_or new k d ≡ get_or old k d)
    → ((k d : ℕ) → length old ≤ k → k < n → get_or new k d ≡ 0) → AreSame new old
zeros_written old new n h e kept zero i =
    let past : n ≤ i → get_or new i 0 ≡ get_or old i 0 =
    λ b. get_or_past new i 0 (omega (arith, e)) ∙ sym (get_or_past old i 0 (omega (arith, h))) in
    let there : length old ≤ i → i < n → get_or new i 0 ≡ get_or old i 0 = λ b k. zero i 0 b k ∙ sym (get_or_past old i 0 b) in
    ⊎_elim (λ b. kept i 0 (omega (arith, h)) b) (λ b. ⊎_elim (λ k. there b k) past (cases_lt i n)) (cases_lt i (length old))

-- a number that is in the set comes into it
pub same_set : (ws : List ℕ) (n a : ℕ) → a < n → bit_of ws a ≡ true → flags_of ws n ≡ set (flags_of ws n) a true
same_set ws n a h e =
    let long : a < length (flags_of ws n) = omega (arith, length-flags_of ws n) in
    flags_of_is ws n (set (flags_of ws n) a true) (length-set (flags_of ws n) a true ∙ length-flags_of ws n)
    (λ b below. ⊎_elim
    (λ same. subst (λ (x : ℕ). has (set (flags_of ws n) a true) x ≡ bit_of ws x) same
    (get_or-set_same (flags_of ws n) a true false long ∙ sym e))
    (λ differs. get_or-set_other (flags_of ws n) a b true false (λ q. differs (sym q)) ∙ has-flags_of ws n b below) (cases_eq a b))

pub not_false : (b : Bool) → false ≡ not b → b ≡ true
not_false true e = refl
not_false false e = absurd cc

pub either_way : {P : Type 0} → (b : Bool) → (b ≡ true → P) → (b ≡ false → P) → P
either_way true if_true if_false = if_true refl
either_way false if_true if_false = if_false refl
