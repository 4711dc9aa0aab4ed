-- The cards of one marked region after another.
use Rattle.std.proofs.Common.{◌≡◌, ◌≢◌, ◌+◌, ◌*◌, ◌/◌, ◌<◌, ◌≤◌, ◌∙◌, inl, inr, ℕ, Bool, List, sym, ap, ap₂, arith}
use Rattle.std.proofs.Common.{zero, suc, refl, false, true, length, replicate}
use Rattle.std.specs.Prelude.{◌||◌, ◌&&◌}
use Rattle.std.proofs.lemmas.Bool.{cases_eq, cases_lt, eq-eqb, ne_eqb}
use Rattle.bit_sets.specs.Bits.{has, is_between, IsLowest}
use Rattle.remembered_sets.proofs.Laws.{in_region_is}
use Rattle.remembered_sets.proofs.Filters.{or_none}

-- a card of another region is as it was
other_region : (w source k : ℕ) (cur new member : Bool) → 0 < w → k / w ≢ source
    → new ≡ (cur || (is_between (source * w) (source * w + w) k && member)) → new ≡ cur
other_region w source k cur new member some ne after =
    after ∙ ap (λ (b : Bool). cur || (b && member)) (in_region_is w source k some ∙ ne_eqb (k / w) source ne) ∙ or_none cur

pub flagged_above : (w source k : ℕ) (cur new member : Bool) → 0 < w → source + 1 ≤ k / w
    → new ≡ (cur || (is_between (source * w) (source * w + w) k && member)) → new ≡ cur
flagged_above w source k cur new member some h after = other_region w source k cur new member some (λ e. absurd (omega (arith, e, h))) after

pub flagged_below : (w source start k : ℕ) (sources : List Bool) (old cur new member : Bool) → 0 < w → k / w < source + 1
    → IsLowest (has sources) start source → (k / w < start → cur ≡ (old || (has sources (k / w) && member)))
    → (start ≤ k / w → cur ≡ old) → new ≡ (cur || (is_between (source * w) (source * w + w) k && member))
    → new ≡ (old || (has sources (k / w) && member))
flagged_below w source start k sources old cur new member some h lowest below above after = elim (cases_eq (k / w) source) [
  | inl same ↦
      let low = lowest.at_least in
      after ∙ ap₂ (λ (x b : Bool). x || (b && member)) (above (omega (arith, low, same)))
      (in_region_is w source k some ∙ eq-eqb (k / w) source same)
      ∙ ap (λ (b : Bool). old || (b && member)) (sym (ap (has sources) same ∙ lowest.is_in))
  | inr ne ↦
      other_region w source k cur new member some ne after ∙ elim (cases_lt (k / w) start) [
        | inl early ↦ below early
        | inr late ↦ above late ∙ sym (or_none old)
            ∙ ap (λ (b : Bool). old || (b && member)) (sym (lowest.lowest (k / w) late (omega (arith, h, ne))))
      ]
]

-- where no region is marked a flag stays
none_in : (n i : ℕ) → has (replicate n false) i ≡ false
none_in zero i = refl
none_in (suc n) zero = refl
none_in (suc n) (suc i) = none_in n i

pub unmarked_stays : (sources : List Bool) (region : ℕ) (flag passes : Bool) → sources ≡ replicate (length sources) false
    → flag ≡ (flag || (has sources region && passes))
unmarked_stays sources region true passes e = refl
unmarked_stays sources region false passes e =
    sym (ap (λ (b : Bool). b && passes) (ap (λ (l : List Bool). has l region) e ∙ none_in (length sources) region))
