-- The sets of the regions from one up to another are emptied, and their own cards have entered none.
use Rattle.std.proofs.Common.{◌≡◌, ◌*◌, ◌/◌, ◌<◌, ◌≤◌, ◌∙◌, inl, inr, ℕ, Bool, true, false, List, length, get_or, refl, sym, ap, ap₂, subst}
use Rattle.std.proofs.Common.{arith, if◌then◌else◌}
use Rattle.std.proofs.Math.Nat.{div-lt_iff_lt-mul, le-div_iff_mul-le}
use Rattle.std.proofs.lemmas.Bool.{cases_lt}
use Rattle.std.proofs.lemmas.List.{get_or_past}
use Rattle.std.proofs.lemmas.List.Elements.{All-get_or, All-from_get_or}
use Rattle.bit_sets.specs.Bits.{is_between}
use Rattle.bit_sets.proofs.BitRanges.{between_yes, between_no_below, between_no_above}
use Rattle.remembered_sets.specs.Sets.{CardFilter, CardSet, Sets, AreSets, IsSet, emptied, emptied_filter, no_set}
use Rattle.remembered_sets.specs.Sharing.{filter_of, with_filter, with_filters}
use Rattle.remembered_sets.proofs.Covered.{IsSet-emptied}
use Rattle.remembered_sets.proofs.Kept.{length-with, with_at}

-- a card lies in one of the regions if and only if it is one of their cards
pub in_regions_is : (w first past card : ℕ) → 0 < w → is_between (first * w) (past * w) card ≡ is_between first past (card / w)
in_regions_is w first past card some = elim (cases_lt (card / w) first) [
  | inl low ↦ between_no_below (first * w) (past * w) card ((div-lt_iff_lt-mul some).0 low)
      ∙ sym (between_no_below first past (card / w) low)
  | inr from ↦ elim (cases_lt (card / w) past) [
    | inl below ↦ between_yes (first * w) (past * w) card ((le-div_iff_mul-le some).0 from) ((div-lt_iff_lt-mul some).0 below)
        ∙ sym (between_yes first past (card / w) from below)
    | inr above ↦ between_no_above (first * w) (past * w) card ((le-div_iff_mul-le some).0 above)
        ∙ sym (between_no_above first past (card / w) above)
  ]
]

-- a set that is emptied where the test holds
abbrev pub emptied_if : Bool → CardSet → CardSet
emptied_if b s = if b then emptied s else s

both_emptied : (b : Bool) (s : CardSet) (f : CardFilter)
    → with_filter (emptied_if b s) (if b then emptied_filter f else f) ≡ emptied_if b (with_filter s f)
both_emptied true s f = refl
both_emptied false s f = refl

-- what a region's set is with its filter, once the sets and the filters are emptied
pub emptied_at : (tables tables' : List (List CardFilter)) (sets sets' : List CardSet) (first past k : ℕ) → past ≤ length sets
    → length sets' ≡ length sets → get_or sets' k no_set ≡ emptied_if (is_between first past k) (get_or sets k no_set)
    → filter_of tables' k ≡ (if is_between first past k then emptied_filter (filter_of tables k) else filter_of tables k)
    → get_or (with_filters tables' sets') k no_set ≡ emptied_if (is_between first past k) (get_or (with_filters tables sets) k no_set)
emptied_at tables tables' sets sets' first past k within len set filter = elim (cases_lt k (length sets)) [
  | inl h ↦
      with_at tables' sets' k (omega (arith, h, len)) ∙ ap₂ with_filter set filter
      ∙ both_emptied (is_between first past k) (get_or sets k no_set) (filter_of tables k)
      ∙ ap (emptied_if (is_between first past k)) (sym (with_at tables sets k h))
  | inr above ↦
      get_or_past (with_filters tables' sets') k no_set (omega (arith, above, len, length-with tables' sets'))
      ∙ sym (ap₂ emptied_if (between_no_above first past k (omega (arith, above, within)))
      (get_or_past (with_filters tables sets) k no_set (omega (arith, above, length-with tables sets))))
]

still_set : (n w : ℕ) (b : Bool) (s : CardSet) → IsSet n w s → IsSet n w (emptied_if b s)
still_set n w true s is = IsSet-emptied n w s is
still_set n w false s is = is

-- they are still what all sets are
pub AreSets-emptied : (s s' : Sets) (first past : ℕ) → s'.cards_per_region ≡ s.cards_per_region → length s'.sets ≡ length s.sets
    → length s'.entered ≡ length s.entered
    → ((k : ℕ) → get_or s'.sets k no_set ≡ emptied_if (is_between first past k) (get_or s.sets k no_set)) → AreSets s → AreSets s'
AreSets-emptied s s' first past cards len len' each all = record {
  some_cards = subst (λ (w : ℕ). 0 < w) (sym cards) all.some_cards;
  each = All-from_get_or (IsSet (length s'.sets) s'.cards_per_region) s'.sets no_set (λ k h.
      subst (IsSet (length s'.sets) s'.cards_per_region) (sym (each k))
      (still_set (length s'.sets) s'.cards_per_region (is_between first past k) (get_or s.sets k no_set)
      (subst (λ (w : ℕ). IsSet (length s'.sets) w (get_or s.sets k no_set)) (sym cards)
      (subst (λ (n : ℕ). IsSet n s.cards_per_region (get_or s.sets k no_set)) (sym len)
      (All-get_or (IsSet (length s.sets) s.cards_per_region) s.sets k no_set (omega (arith, h, len)) all.each)))));
  each_card = len' ∙ all.each_card ∙ sym (ap₂ (λ (n w : ℕ). n * w) len cards);
}

-- the filters' rows stay none
pub none_emptied : (b : Bool) (f f' : CardFilter) → f' ≡ (if b then emptied_filter f else f) → f.rows ≡ 0 → f'.rows ≡ 0
none_emptied true f f' is none = ap (λ (g : CardFilter). g.rows) is ∙ none
none_emptied false f f' is none = ap (λ (g : CardFilter). g.rows) is ∙ none
