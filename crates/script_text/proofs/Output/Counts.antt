-- The digits of the counts of events.
use Rattle.std.proofs.Common.{◌≡◌, ◌+◌, ◌/◌, ◌%◌, ◌^◌, ◌<◌, ◌≤◌, ◌∷◌, ◌++◌, ◌∙◌}
use Rattle.std.proofs.Common.{ℕ, List, [], length, take, drop, sym, ap, append_assoc, arith, inl, inr}
use Rattle.std.specs.Fmt.{decimal}
use Rattle.std.proofs.Math.Seq.{take-append-add}
use Rattle.std.proofs.lemmas.Bool.Decides.{leb_tells}
use Rattle.std.proofs.lemmas.Fmt.{decimal_step, decimal_digit}
use Rattle.std.proofs.lemmas.List.{length-append, length-take-le, take-append-le, take-append-drop}
use Rattle.script_text.specs.declared.write.counts.Count.{Count}
use Rattle.script_text.specs.Counts.{Spells}

-- a beginning of what is after the first bytes
pub begun : (old middle front : List ℕ) (at width : ℕ) → at ≤ length old → width ≤ length front
    → take (at + length front) middle ≡ take at old ++ front → take (at + width) middle ≡ take at old ++ take width front
begun old middle front at width within short e =
    let first : length (take at old) ≡ at = length-take-le at old within in
    let long : length (take at old ++ front) ≡ length (take at old) + length front = length-append (take at old) front in
    let whole : middle ≡ (take at old ++ front) ++ drop (at + length front) middle =
    sym (take-append-drop (at + length front) middle) ∙ ap (λ (t : List ℕ). t ++ drop (at + length front) middle) e in
    ap (take (at + width)) whole
    ∙ take-append-le (at + width) (take at old ++ front) (drop (at + length front) middle) (omega arith)
    ∙ ap (λ (k : ℕ). take (k + width) (take at old ++ front)) (sym first)
    ∙ take-append-add (take at old) front width

-- the digits before the last, and that
both_digits : (c : Count) (n : ℕ) → n < 2 ^ 64 → Spells c n → take c.width c.front ++ c.last ∷ [] ≡ decimal n
both_digits c n small s = elim (leb_tells 10 n) [
  | inl many ↦ ap (λ (t : List ℕ). t ++ c.last ∷ []) (s.3 many.1)
      ∙ ap (λ (d : ℕ). decimal (n / 10) ++ d ∷ []) s.0 ∙ sym (decimal_step n many.1 small)
  | inr few ↦
      let one : n < 10 = few.1 in
      let same : 48 + n % 10 ≡ 48 + n = omega arith in
      ap (λ (k : ℕ). take k c.front ++ c.last ∷ []) (s.2 one) ∙ ap (λ (d : ℕ). d ∷ []) (s.0 ∙ same) ∙ sym (decimal_digit n one)
]

-- what is put of them
pub count_put : (c : Count) (old middle new : List ℕ) (at n : ℕ) → at ≤ length old → length c.front ≡ 20 → n < 2 ^ 64 → Spells c n
    → take (at + length c.front) middle ≡ take at old ++ c.front
    → new ≡ take (at + c.width) middle ++ c.last ∷ [] → new ≡ take at old ++ decimal n
count_put c old middle new at n within room small s e last =
    let short : c.width ≤ length c.front = omega (arith, s.1) in
    last
    ∙ ap (λ (t : List ℕ). t ++ c.last ∷ []) (begun old middle c.front at c.width within short e)
    ∙ append_assoc (take at old) (take c.width c.front) (c.last ∷ [])
    ∙ ap (λ (t : List ℕ). take at old ++ t) (both_digits c n small s)

-- a count, a space, what is after it, and a line feed
pub line_put : (old counted parted told new count text : List ℕ) → counted ≡ old ++ count
    → parted ≡ counted ++ 32 ∷ [] → told ≡ parted ++ text → new ≡ told ++ 10 ∷ [] → new ≡ old ++ ((count ++ 32 ∷ text) ++ 10 ∷ [])
line_put old counted parted told new count text e f g h =
    h
    ∙ ap (λ (t : List ℕ). t ++ 10 ∷ []) (g
    ∙ ap (λ (t : List ℕ). t ++ text) (f ∙ ap (λ (t : List ℕ). t ++ 32 ∷ []) e)
    ∙ append_assoc (old ++ count) (32 ∷ []) text
    ∙ append_assoc old count (32 ∷ text))
    ∙ append_assoc old (count ++ 32 ∷ text) (10 ∷ [])
