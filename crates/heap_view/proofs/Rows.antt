-- Rows of roots, place by place.
use Rattle.std.proofs.Common.{◌≡◌, ◌∙◌, ◌+◌, ◌-◌, ◌<◌, ◌≤◌, ℕ, suc, Bool, true, false, List, [], ◌∷◌, ◌++◌, Option, Some, None}
use Rattle.std.proofs.Common.{length, take, drop, refl, sym, ap, ap₂, arith, drop-cons}
use Rattle.std.specs.Prelude.{◌||◌, is_some, slice_index_or}
use Rattle.std.specs.List.{flat_map}
use Rattle.std.proofs.lemmas.List.{drop_all, get_or-take, length-take, length-take-le}
use Rattle.regions.specs.Table.{Table}
use Rattle.heap_dump.specs.Lists.{named}
use Rattle.heap_view.specs.Actors.{listed_roots, next_text, none_text, place_text}

-- what is left to be told of a row, by whether roots of it come before
abbrev pub rest_text : Table → List ℕ → Bool → List (ℕ × ℕ) → List ℕ
rest_text t letter true roots = flat_map (next_text t letter) roots
rest_text t letter false roots = listed_roots t letter roots

one_place : (t : Table) (letter : List ℕ) (some : Bool) (number : ℕ) (root : Option ℕ) (ws : List (Option ℕ))
    → rest_text t letter some (named number (root ∷ ws))
    ≡ place_text t letter some number root ++ rest_text t letter (some || is_some root) (named (suc number) ws)
one_place t letter true number None ws = refl
one_place t letter false number None ws = refl
one_place t letter true number (Some a) ws = refl
one_place t letter false number (Some a) ws = refl

-- the root at a place of a row, and those after it
row_at : (ws : List (Option ℕ)) (place end : ℕ) → place < end → end ≤ length ws
    → drop place (take end ws) ≡ slice_index_or ws place None ∷ drop (place + 1) (take end ws)
row_at ws place end below within =
    let long = length-take-le end ws within in
    let next : suc place ≡ place + 1 = omega arith in
    drop-cons (take end ws) place None (omega (arith, long, below))
    ∙ ap₂ (λ (w : Option ℕ) (n : ℕ). w ∷ drop n (take end ws)) (get_or-take end ws place None below) next

pub next_place : (t : Table) (letter : List ℕ) (ws : List (Option ℕ)) (first place end : ℕ) (some next : Bool) (root : Option ℕ)
    → first ≤ place → place < end → end ≤ length ws → root ≡ slice_index_or ws place None → next ≡ (some || is_some root)
    → rest_text t letter some (named (place - first) (drop place (take end ws)))
    ≡ place_text t letter some (place - first) root ++ rest_text t letter next (named (place + 1 - first) (drop (place + 1) (take end ws)))
next_place t letter ws first place end some next root order below within same more =
    let number : suc (place - first) ≡ place + 1 - first = omega arith in
    let rest = drop (place + 1) (take end ws) in
    ap (λ (l : List (Option ℕ)). rest_text t letter some (named (place - first) l))
    (row_at ws place end below within ∙ ap (λ (r : Option ℕ). r ∷ rest) (sym same))
    ∙ one_place t letter some (place - first) root rest
    ∙ ap (λ (n : ℕ). place_text t letter some (place - first) root ++ rest_text t letter (some || is_some root) (named n rest)) number
    ∙ ap (λ (b : Bool). place_text t letter some (place - first) root ++ rest_text t letter b (named (place + 1 - first) rest)) (sym more)

pub no_place : (t : Table) (letter : List ℕ) (ws : List (Option ℕ)) (number place end : ℕ) (some : Bool) → end ≤ place
    → rest_text t letter some (named number (drop place (take end ws))) ≡ none_text some
no_place t letter ws number place end some past =
    let short = length-take end ws in
    ap (λ (l : List (Option ℕ)). rest_text t letter some (named number l)) (drop_all place (take end ws) (omega (arith, short, past)))
    ∙ none some
  where
    none : (some : Bool) → rest_text t letter some [] ≡ none_text some
    none true = refl
    none false = refl
