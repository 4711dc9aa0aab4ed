-- A line that a script tells, put behind other texts.
use Rattle.std.proofs.Common.{◌≡◌, ◌+◌, ◌-◌, ◌≤◌, ◌++◌, ◌∙◌, ℕ, List, length, take, drop, sym, ap, append_assoc, arith}
use Rattle.std.specs.Prelude.{codes}
use Rattle.std.proofs.lemmas.List.{length-take-le, take-take, take-append-drop}
use Rattle.script_text.proofs.Output.Counts.{begun}

-- a text is put by its first eight bytes and what is after all but its last eight
pub both_ends : (old middle new text : List ℕ) (at mid end : ℕ) → at ≤ length old → 8 ≤ length text → length text ≤ 16
    → mid ≡ at + 8 → take mid middle ≡ take at old ++ take 8 text
    → take end new ≡ take (at + length text - 8) middle ++ drop (length text - 8) text → take end new ≡ take at old ++ text
both_ends old middle new text at mid end within long short is first last =
    let k : ℕ = length text - 8 in
    let eight : length (take 8 text) ≡ 8 = length-take-le 8 text long in
    let same : mid ≡ at + length (take 8 text) = is ∙ ap (λ (n : ℕ). at + n) (sym eight) in
    let few : k ≤ length (take 8 text) = omega arith in
    let place : at + length text - 8 ≡ at + k = omega arith in
    let front : take (at + k) middle ≡ take at old ++ take k text =
    begun old middle (take 8 text) at k within few (ap (λ (n : ℕ). take n middle) (sym same) ∙ first)
    ∙ ap (λ (t : List ℕ). take at old ++ t) (take-take k 8 text (omega arith)) in
    last
    ∙ ap (λ (n : ℕ). take n middle ++ drop k text) place
    ∙ ap (λ (t : List ℕ). t ++ drop k text) front
    ∙ append_assoc (take at old) (take k text) (drop k text)
    ∙ ap (λ (t : List ℕ). take at old ++ t) (take-append-drop k text)

-- a line, an equals sign between spaces, and a reply
pub told_put : (parted lined parting new line reply text : List ℕ) → lined ≡ parted ++ line → parting ≡ lined ++ codes " = "
    → new ≡ parting ++ reply → text ≡ line ++ codes " = " ++ reply → new ≡ parted ++ text
told_put parted lined parting new line reply text e f g told =
    g
    ∙ ap (λ (t : List ℕ). t ++ reply) (f ∙ ap (λ (t : List ℕ). t ++ codes " = ") e ∙ append_assoc parted line (codes " = "))
    ∙ append_assoc parted (line ++ codes " = ") reply
    ∙ ap (λ (t : List ℕ). parted ++ t) (sym told)
