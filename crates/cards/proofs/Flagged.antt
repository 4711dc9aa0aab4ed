-- Flags of which the first are written: the others are clear.
use Rattle.std.proofs.Common.{◌≡◌, ◌+◌, ◌-◌, ◌<◌, ◌≤◌, ◌++◌, ◌∙◌, ℕ, Bool, false, List, length, get_or, set, replicate, refl, sym, ap}
use Rattle.std.proofs.Common.{arith, take, ⊎_elim, length-set, length-append, ext_get_or}
use Rattle.std.proofs.lemmas.Bool.{cases_lt}
use Rattle.std.proofs.lemmas.List.{length-replicate, get_or-append_right, get_or_append_left, get_or_past, get_or-replicate}
use Rattle.std.proofs.lemmas.List.{set-append_left, length-take-le, get_or-take, get_or_default}
use Rattle.cards.specs.Flags.{flags_of, AreClearFrom}

pub all_clear : (k i : ℕ) → get_or (replicate k false) i false ≡ false
all_clear k i =
    ⊎_elim (λ b. get_or-replicate k i false false b) (λ b. get_or_past (replicate k false) i false
    (omega (arith, length-replicate {A = Bool} k false)))
    (cases_lt i k)

-- a card's flag, written or not
pub flag_is : (xs : List Bool) (n i : ℕ) → get_or (flags_of xs n) i false ≡ get_or xs i false
flag_is xs n i =
    ⊎_elim (λ b. get_or_append_left xs (replicate {A = Bool} (n - length xs) false) false i b)
    (λ b. get_or-append_right xs (replicate (n - length xs) false) (length xs) i false refl b ∙ all_clear (n - length xs) (i - length xs)
    ∙ sym (get_or_past xs i false b)) (cases_lt i (length xs))

-- how many flags there are
pub length_flags : (xs row : List Bool) (n : ℕ) → length xs ≤ n → flags_of xs n ≡ row → length row ≡ n
length_flags xs row n h view =
    sym (ap (λ (l : List Bool). length l) view) ∙ length-append xs (replicate (n - length xs) false)
    ∙ ap (λ (k : ℕ). length xs + k) (length-replicate {A = Bool} (n - length xs) false) ∙ (omega arith)

-- a flag that is written there
pub flag_set : (xs row : List Bool) (n i : ℕ) (v : Bool) → i < length xs → flags_of xs n ≡ row → flags_of (set xs i v) n ≡ set row i v
flag_set xs row n i v h view =
    ap (λ (k : ℕ). set xs i v ++ replicate (n - k) false) (length-set xs i v)
    ∙ sym (set-append_left xs (replicate (n - length xs) false) i v h) ∙ ap (λ (l : List Bool). set l i v) view

-- clear flags that are written after those that were
pub clear_written : (old new : List Bool) (n m : ℕ) → length old ≤ m → length new ≡ m → m ≤ n
    → ((k : ℕ) (d : Bool) → k < m → k < length old → get_or new k d ≡ get_or old k d)
    → ((k : ℕ) (d : Bool) → length old ≤ k → k < m → get_or new k d ≡ false) → flags_of new n ≡ flags_of old n
clear_written old new n m h e fits kept clear =
    let long : length (flags_of new n) ≡ length (flags_of old n) =
    length_flags new (flags_of new n) n (omega (arith, e)) refl ∙ sym (length_flags old (flags_of old n) n (omega arith) refl) in
    let same : (i : ℕ) → get_or new i false ≡ get_or old i false = λ i.
    let past : m ≤ i → get_or new i false ≡ get_or old i false =
    λ b. get_or_past new i false (omega (arith, e)) ∙ sym (get_or_past old i false (omega (arith, h))) in
    let there : length old ≤ i → i < m → get_or new i false ≡ get_or old i false =
    λ b k. clear i false b k ∙ sym (get_or_past old i false b) in
    ⊎_elim (λ b. kept i false (omega (arith, h)) b) (λ b. ⊎_elim (λ k. there b k) past (cases_lt i m)) (cases_lt i (length old)) in
    ext_get_or false (flags_of new n) (flags_of old n) long (λ i b. flag_is new n i ∙ same i ∙ sym (flag_is old n i))

-- clear flags that are given up after those that stay
pub clear_given : (items : List Bool) (n end : ℕ) → end ≤ length items → length items ≤ n → AreClearFrom end items
    → flags_of (take end items) n ≡ flags_of items n
clear_given items n end h fits clear =
    let long : length (take end items) ≡ end = length-take-le end items h in
    sym (clear_written (take end items) items n (length items) (omega (arith, long, h)) refl fits
    (λ k d b l. sym (get_or-take end items k d (omega (arith, long, l))))
    (λ k d l b. get_or_default items k d false b ∙ clear k (omega (arith, long, l))))
