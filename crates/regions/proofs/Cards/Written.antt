-- Entries of which the first are written: the others are 0.
use Rattle.regions.proofs.Common.{◌≡◌, ◌+◌, ◌-◌, ◌*◌, ◌^◌, ◌≤◌, ◌++◌, ◌∙◌, ℕ, List, length, get_or, replicate, take, refl, sym, ap, subst}
use Rattle.regions.proofs.Common.{arith}
use Rattle.regions.proofs.Common.{⊎_elim, cases_lt, div_ceil, div_ceil_times, mul-le, pow_pos, length-append, length-replicate}
use Rattle.regions.proofs.Common.{get_or_append_left, get_or_past, take_at, AreEntriesPut}
use Rattle.std.proofs.lemmas.List.{get_or-append_right}
use Rattle.heap_words.specs.Memory.{memory}
use Rattle.bit_sets.proofs.BitWords.{all_zeros}
use Rattle.regions.proofs.Cards.FirstTiles.{cards_fit}

-- a card's entry, written or not
pub entry_is : (xs : List ℕ) (n i : ℕ) → get_or (memory xs n).all i 0 ≡ get_or xs i 0
entry_is xs n i =
    ⊎_elim (λ b. get_or_append_left xs (replicate {A = ℕ} (n - length xs) 0) 0 i b)
    (λ b. get_or-append_right xs (replicate (n - length xs) 0) (length xs) i 0 refl b ∙ all_zeros (n - length xs) (i - length xs)
    ∙ sym (get_or_past xs i 0 b)) (cases_lt i (length xs))

-- the same, as a slice of those that are written was lent and came back
entry_lent : (xs rest : List ℕ) (len n i : ℕ) → length xs ≡ len → get_or (memory (take len (xs ++ rest)) n).all i 0 ≡ get_or xs i 0
entry_lent xs rest len n i h = ap (λ (ys : List ℕ). get_or (memory ys n).all i 0) (take_at xs rest len h) ∙ entry_is xs n i

-- how many entries there are
pub length_all : (xs : List ℕ) (n : ℕ) → length xs ≤ n → length (memory xs n).all ≡ n
length_all xs n h = length-append xs (replicate (n - length xs) 0)
    ∙ ap (λ (k : ℕ). length xs + k) (length-replicate {A = ℕ} (n - length xs) 0) ∙ (omega arith)

-- those of the cards below an end are written
pub end_written : (end shift n past : ℕ) → past ≡ div_ceil end (2 ^ shift) → past ≤ n → end ≤ n * 2 ^ shift
end_written end shift n past e h =
    let reached : end ≤ div_ceil end (2 ^ shift) * 2 ^ shift = (div_ceil_times end (2 ^ shift) (pow_pos shift)).0 in
    omega (arith, rw (sym e) at reached, mul-le past (2 ^ shift) n (2 ^ shift) h (omega arith))

pub cards_reached : (end shift n past : ℕ) → past ≡ div_ceil end (2 ^ shift) → end ≤ n * 2 ^ shift → past ≤ n
cards_reached end shift n past e h = rw e (cards_fit end (2 ^ shift) n (pow_pos shift) h)

-- what a write to those that are written makes of all
entries_put : (R : ℕ → ℕ → Type 0) (old items lent new rest : List ℕ) (len n i : ℕ) → length new ≡ len → lent ≡ items
    → (memory items n).all ≡ (memory old n).all → R (get_or lent i 0) (get_or new i 0)
    → R (get_or (memory old n).all i 0) (get_or (memory (take len (new ++ rest)) n).all i 0)
entries_put R old items lent new rest len n i h same all r =
    subst (λ (k : ℕ). R (get_or (memory old n).all i 0) k) (sym (entry_lent new rest len n i h))
    (subst (λ (k : ℕ). R k (get_or new i 0)) (ap (λ (l : List ℕ). get_or l i 0) same ∙ sym (entry_is items n i)
    ∙ ap (λ (l : List ℕ). get_or l i 0) all) r)

pub entries_all : (cw : ℕ) (R : ℕ → ℕ → ℕ → Type 0) (old items lent new rest : List ℕ) (len n : ℕ) → length new ≡ len → lent ≡ items
    → length old ≤ n → len ≤ n → (memory items n).all ≡ (memory old n).all
    → ((c : ℕ) → R (c * cw) (get_or lent c 0) (get_or new c 0))
    → AreEntriesPut R (record { card_words = cw; starts = (memory old n).all })
    (record { card_words = cw; starts = (memory (take len (new ++ rest)) n).all })
entries_all cw R old items lent new rest len n h same short fits all r = record {
  card_words = refl;
  len = length_all (take len (new ++ rest)) n (let t = take_at new rest len h in rw t (omega arith)) ∙ sym (length_all old n short);
  entries = λ c. entries_put (R (c * cw)) old items lent new rest len n c h same all (r c);
}
