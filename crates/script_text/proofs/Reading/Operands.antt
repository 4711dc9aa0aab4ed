-- The numbers of the words after a verb, read one by one.
use Rattle.std.proofs.Common.{◌≡◌, ◌≤◌, ◌<◌, ◌∷◌, ◌∙◌}
use Rattle.std.proofs.Common.{ℕ, zero, suc, List, [], length, get_or, map, Bor, Option, Some, None, refl, sym, ap, arith}
use Rattle.std.proofs.lemmas.List.{get_or-map, length-map}
use Rattle.heap_steps.specs.Forms.{low, numbers_in}
use Rattle.heap_steps.specs.declared.form.Operand.{Operand}
use Rattle.heap_steps.specs.declared.form.Operand.TheVariants as operands
use Rattle.script_text.specs.Fits.{OperandFits, OperandsFit}
use Rattle.script_text.specs.Reading.{◌>>=◌, operand_of, operands_of, operand_at}
use Rattle.script_text.proofs.BothWays.Grammars.{operands_is, too_many}

pub behind_form : (ks : List Operand) (ws : List (List ℕ)) (i : ℕ) → length ks ≤ i → operand_at ks ws i ≡ Some 0
behind_form (k ∷ ks) (w ∷ ws) zero le = absurd (omega (arith, le))
behind_form (k ∷ ks) (w ∷ ws) (suc i) le = behind_form ks ws i (omega (arith, le))
behind_form _ _ i le = refl

pub behind_words : (ks : List Operand) (ws : List (List ℕ)) (i : ℕ) → length ws ≤ i → operand_at ks ws i ≡ Some 0
behind_words (k ∷ ks) (w ∷ ws) zero le = absurd (omega (arith, le))
behind_words (k ∷ ks) (w ∷ ws) (suc i) le = behind_words ks ws i (omega (arith, le))
behind_words _ _ i le = refl

pub inside : (ks : List Operand) (ws : List (List ℕ)) (i : ℕ) (k : Operand) (w : List ℕ) → i < length ks → i < length ws
    → operand_of (get_or ks i k) (get_or ws i w) ≡ operand_at ks ws i
inside (x ∷ ks) (y ∷ ws) zero k w le lt = refl
inside (x ∷ ks) (y ∷ ws) (suc i) k w le lt = inside ks ws i k w (omega (arith, le)) (omega (arith, lt))
inside _ _ i k w le lt = absurd (omega (arith, le, lt))

abbrev texts : List (Bor (List ℕ)) → List (List ℕ)
texts ws = map (λ w. w.now) ws

pub number_is : (ks : List Operand) (ws : List (Bor (List ℕ))) (i : ℕ) (k : Operand) (d : Bor (List ℕ)) (r : Option ℕ)
    → i < length ks → i < length ws → r ≡ operand_of (get_or ks i k) (get_or ws i d).now → r ≡ operand_at ks (texts ws) i
number_is ks ws i k d r le lt e =
    let long : length (texts ws) ≡ length ws = length-map ws (λ w. w.now) in
    e ∙ ap (operand_of (get_or ks i k)) (sym (get_or-map (λ w. w.now) ws i d [] lt))
    ∙ inside ks (texts ws) i k [] le (omega (arith, lt, long))

pub no_number : (ks : List Operand) (ws : List (Bor (List ℕ))) (i : ℕ) → length ws ≤ i → Some 0 ≡ operand_at ks (texts ws) i
no_number ks ws i le =
    let long : length (texts ws) ≡ length ws = length-map ws (λ w. w.now) in sym (behind_words ks (texts ws) i (omega (arith, le, long)))

-- a word that is none makes all of them none
pub none_at : (ks : List Operand) (ws : List (List ℕ)) (i : ℕ) → operand_at ks ws i ≡ None → operands_of ks ws ≡ None
none_at (k ∷ ks) (w ∷ ws) zero e = rw e refl
none_at (k ∷ ks) (w ∷ ws) (suc i) e = go (operand_of k w) (none_at ks ws i e)
  where
    go : (o : Option ℕ) → operands_of ks ws ≡ None → (o >>= λ n. operands_of ks ws >>= λ ns. Some (n ∷ ns)) ≡ None
    go None rest = refl
    go (Some n) rest = rw rest refl
none_at _ _ i e = absurd cc

-- numbers at all places are those of all words
all_at : (ks : List Operand) (ws : List (List ℕ)) (n : ℕ → ℕ) → length ks ≡ length ws → ((i : ℕ) → operand_at ks ws i ≡ Some (n i))
    → (ns : List ℕ) × (operands_of ks ws ≡ Some ns) × ((i : ℕ) → n i ≡ get_or ns i 0)
all_at [] [] n e at = ([], refl, λ i. sym (some_number 0 (n i) (at i)))
  where
    some_number : (a b : ℕ) → Some a ≡ Some b → a ≡ b
    some_number a b e = cc
all_at (k ∷ ks) (w ∷ ws) n e at =
    let rest = all_at ks ws (λ i. n (suc i)) (omega (arith, e)) (λ i. at (suc i)) in
    (n 0 ∷ rest.0, rw (at 0, rest.1) refl, each rest.0 rest.2)
  where
    each : (ns : List ℕ) → ((i : ℕ) → n (suc i) ≡ get_or ns i 0) → (i : ℕ) → n i ≡ get_or (n 0 ∷ ns) i 0
    each ns same zero = refl
    each ns same (suc i) = same i
all_at _ _ n e at = absurd (omega (arith, e))

-- a number that fits its operand is all in its bits
low_same : (k : Operand) (n : ℕ) → OperandFits k n → low k n ≡ n
low_same operands.Value zero fits = refl
low_same operands.Large n fits = refl
low_same _ n fits = omega (arith, fits)

low_all : (ks : List Operand) (ns : List ℕ) → OperandsFit ks ns → (i : ℕ) → numbers_in ks ns i ≡ get_or ns i 0
low_all [] [] fits i = refl
low_all (k ∷ ks) (n ∷ ns) fits zero = low_same k n fits.0
low_all (k ∷ ks) (n ∷ ns) fits (suc i) = low_all ks ns fits.1 i
low_all _ _ fits i = absurd fits

pub all_read : (ks : List Operand) (ws : List (List ℕ)) (numbers : List ℕ) → length ks ≡ length ws
    → ((i : ℕ) → operand_at ks ws i ≡ Some (get_or numbers i 0))
    → (ns : List ℕ) × (operands_of ks ws ≡ Some ns) × ((i : ℕ) → numbers_in ks numbers i ≡ get_or ns i 0)
all_read ks ws numbers e at =
    let all = all_at ks ws (λ i. get_or numbers i 0) e at in
    let fits = (operands_is ks ws all.0 all.1).1 in
    (all.0, all.1, λ i. ap (low (get_or ks i operands.Small)) (all.2 i) ∙ low_all ks all.0 fits i)

-- the first four numbers are all
pub four_read : (ks : List Operand) (ws : List (Bor (List ℕ))) (a b c d : ℕ) → length ks ≤ 4 → length ks ≡ length ws
    → operand_at ks (texts ws) 0 ≡ Some a → operand_at ks (texts ws) 1 ≡ Some b → operand_at ks (texts ws) 2 ≡ Some c
    → operand_at ks (texts ws) 3 ≡ Some d
    → (ns : List ℕ) × (operands_of ks (texts ws) ≡ Some ns) × ((i : ℕ) → numbers_in ks (a ∷ b ∷ c ∷ d ∷ []) i ≡ get_or ns i 0)
four_read ks ws a b c d few e p q r s =
    let long : length (texts ws) ≡ length ws = length-map ws (λ w. w.now) in
    all_read ks (texts ws) (a ∷ b ∷ c ∷ d ∷ []) (e ∙ sym long) at
  where
    at : (i : ℕ) → operand_at ks (texts ws) i ≡ Some (get_or (a ∷ b ∷ c ∷ d ∷ []) i 0)
    at zero = p
    at (suc zero) = q
    at (suc (suc zero)) = r
    at (suc (suc (suc zero))) = s
    at (suc (suc (suc (suc i)))) = behind_form ks (texts ws) (suc (suc (suc (suc i)))) (omega (arith, few))

pub other_count : (ks : List Operand) (ws : List (Bor (List ℕ))) → (length ks ≡ length ws → ⊥) → operands_of ks (texts ws) ≡ None
other_count ks ws other =
    let long : length (texts ws) ≡ length ws = length-map ws (λ w. w.now) in too_many ks (texts ws) (λ e. other (e ∙ long))
