use Rattle.std.proofs.Common.{◌≡◌, ◌≤◌, ◌<◌, ◌∙◌, ◌∷◌, [], ℕ, List, ap, arith, codes, length, map, refl, slice_index_or}
use Rattle.std.proofs.Common.{string_bytes, subst, sym}
use Rattle.std.proofs.lemmas.Slice.Eq.{bytes_eq-Decides}
use Rattle.g1heap_run.specs.Alone.{IsPathWord}
use Rattle.g1heap_run.proofs.program.path_in.Goals as goal

-- three words, by the second and the third
three : {A : Type 0} (bytes : A → List ℕ) (words : List A) (verb path : A) → 3 ≤ length words → length words < 4
    → verb ≡ slice_index_or words 1 verb → path ≡ slice_index_or words 2 path
    → (name : List ℕ) × (map bytes words ≡ name ∷ bytes verb ∷ bytes path ∷ [])
three bytes [] verb path least below second third = absurd (omega (arith, least))
three bytes (x ∷ []) verb path least below second third = absurd (omega (arith, least))
three bytes (x ∷ y ∷ []) verb path least below second third = absurd (omega (arith, least))
three bytes (x ∷ y ∷ z ∷ []) verb path least below second third =
    (bytes x, rw (second, third) refl)
three bytes (x ∷ y ∷ z ∷ w ∷ rest) verb path least below second third = absurd (omega (arith, below))

pub returns-then-is_path-clause-some : goal.returns-then-is_path-clause-some
returns-then-is_path-clause-some c =
    let verb = c.verb-item.result in
    let path = c.path-item.result in
    let found = three string_bytes c.args.words.now verb path c.in-len3.len_at_least c.in-len3.len_below c.verb-item.is c.path-item.is in
    let run : string_bytes verb ≡ codes "run" = sym c.as_str.ensures.value
    ∙ (bytes_eq-Decides c.as_str.result.now (codes "run")).0 (sym c.eq.ensures ∙ c.if-eq.true) in
    let same = sym c.as_str-then-is_path.ensures.value in
    let words : map string_bytes c.args.words.now ≡ found.0 ∷ codes "run" ∷ c.as_str-then-is_path.result.now ∷ [] =
    found.1 ∙ ap (λ (x : List ℕ). found.0 ∷ x ∷ string_bytes path ∷ []) run
    ∙ ap (λ (x : List ℕ). found.0 ∷ codes "run" ∷ x ∷ []) same in
    ((found.0, words), subst IsPathWord (c.as_str-then-eq.ensures.value ∙ same) (c.is_path.ensures.yes c.if-is_path.true))
