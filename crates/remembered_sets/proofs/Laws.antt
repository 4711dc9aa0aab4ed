-- What the sets of all regions cover, as cards are added and sets are emptied.
use Rattle.std.proofs.Common.{◌≡◌, ◌≢◌, ◌⊎◌, ◌+◌, ◌*◌, ◌/◌, ◌%◌, ◌<◌, ◌≤◌, if◌then◌else◌, ◌∙◌, inl, inr, ℕ, Bool, true, false, eqb, refl}
use Rattle.std.proofs.Common.{sym, subst, ap, ⊎_elim, arith, List, [], ◌∷◌, length, set, All, get_or-set_same, get_or-set_other, length-set}
use Rattle.std.proofs.Common.{◌&&◌, eq-eqb, ne_eqb}
use Rattle.std.proofs.Math.Nat.{lt_of_mul-lt-mul_right, lt_irrefl}
use Rattle.std.proofs.lemmas.Bool.{cases_eq, cases_lt, and_from, and_parts}
use Rattle.std.proofs.lemmas.List.Elements.{All-head, All-tail, All-set}
use Rattle.std.proofs.lemmas.List.{get_or_past, set-get_or}
use Rattle.std.proofs.lemmas.List.FromFn.{fill_by_all, length-map-range_with_len, get_or-map-range_with_len}
use Rattle.bit_sets.specs.Bits.{has, is_between}
use Rattle.bit_sets.proofs.BitRanges.{between_yes, between_no_below, between_no_above}
use Rattle.remembered_sets.specs.Sets.{Sets, CardSet, set_of, set_after, set_covers, set_leads, emptied, no_set, covers, may_lead, added}
use Rattle.remembered_sets.specs.Sets.{cleared, letting, lets_through, without_region, card_count, IsSet, AreSets, Change, changed}
use Rattle.remembered_sets.specs.Sets.{CardFilter, after_all, LeavesSet, set_with}
use Rattle.remembered_sets.specs.Sets.Change.{Add, Clear}
use Rattle.remembered_sets.proofs.Filters.{filter_again, marks_grow, region_of, set_again}
use Rattle.remembered_sets.proofs.Covered.{set_grows, set_covers-with, set_only, set_only_card, emptied_covers, IsSet-after, IsSet-emptied}
use Rattle.remembered_sets.proofs.Covered.{set_lets_after, set_lets_still, with_cases}

-- a card lies in one of the regions
pub source_known : (card w n : ℕ) → 0 < w → card < n * w → card / w < n
source_known card w n some h =
    let near : (card / w) * w < n * w = omega arith in
    lt_of_mul-lt-mul_right w near

-- ---- the cards that entered a set
pub length-without : (w region : ℕ) (flags : List Bool) → length (without_region w region flags) ≡ length flags
length-without w region flags = length-map-range_with_len (λ card. if eqb (card / w) region then false else has flags card) 0 (length flags)

pub has-without : (w region : ℕ) (flags : List Bool) (card : ℕ)
    → has (without_region w region flags) card ≡ (if eqb (card / w) region then false else has flags card)
has-without w region flags card = elim (cases_lt card (length flags)) [
  | inl below ↦ get_or-map-range_with_len (λ c. if eqb (c / w) region then false else has flags c) 0
      (length flags) card card false below (omega arith)
  | inr past ↦
      get_or_past (without_region w region flags) card false (omega (arith, past, length-without w region flags))
      ∙ sym (elim (eqb (card / w) region) as (λ b. (if b then false else has flags card) ≡ false) [
        | true ↦ refl
        | false ↦ get_or_past flags card false past
      ])
]

-- a card lies in the region where it is between the region's first card and the next region's
pub in_region_is : (w region card : ℕ) → 0 < w → is_between (region * w) (region * w + w) card ≡ eqb (card / w) region
in_region_is w region card some = elim (cases_lt card (region * w)) [
  | inl low ↦
      let ne : card / w ≢ region = λ e. lt_irrefl card (omega (arith, low, starts e)) in
      between_no_below (region * w) (region * w + w) card low ∙ sym (ne_eqb (card / w) region ne)
  | inr from ↦ elim (cases_lt card (region * w + w)) [
    | inl below ↦ between_yes (region * w) (region * w + w) card from below
        ∙ sym (eq-eqb (card / w) region (region_of region w card some from below))
    | inr past ↦
        let ne : card / w ≢ region = λ e. lt_irrefl card (omega (arith, past, ends e)) in
        between_no_above (region * w) (region * w + w) card past ∙ sym (ne_eqb (card / w) region ne)
  ]
]
  where
    starts : card / w ≡ region → region * w ≤ card
    starts e =
        let f : card / w * w + card % w ≡ card = omega arith in
        let r : card / w * w ≤ card = omega arith in
        subst (λ (k : ℕ). k * w ≤ card) e r

    ends : card / w ≡ region → card < region * w + w
    ends e =
        let f : card / w * w + card % w ≡ card = omega arith in
        let r : card < card / w * w + w = omega arith in
        subst (λ (k : ℕ). card < k * w + w) e r

-- flags that agree are the ones without the region's
pub cleared_by : (w region : ℕ) (flags after : List Bool) → 0 < w → length after ≡ length flags
    → ((card : ℕ) → has after card ≡ (if is_between (region * w) (region * w + w) card then false else has flags card))
    → after ≡ without_region w region flags
cleared_by w region flags after some len each =
    fill_by_all (λ card. if eqb (card / w) region then false else has flags card) after (length flags) false len
    (λ card h. each card ∙ ap (λ (b : Bool). if b then false else has flags card) (in_region_is w region card some))

pub own_gone : (w region : ℕ) (flags : List Bool) (card : ℕ) → card / w ≡ region → has (without_region w region flags) card ≡ false
own_gone w region flags card e = has-without w region flags card ∙ rw (eq-eqb (card / w) region e) refl

pub others_left : (w region : ℕ) (flags : List Bool) (card : ℕ) → card / w ≢ region
    → has (without_region w region flags) card ≡ has flags card
others_left w region flags card ne = has-without w region flags card ∙ rw (ne_eqb (card / w) region ne) refl

pub entered_still : (flags : List Bool) (card c : ℕ) → has flags c ≡ true → has (set flags card true) c ≡ true
entered_still flags card c h = marks_grow flags card c h

pub entered_only : (flags : List Bool) (card c : ℕ) → has (set flags card true) c ≡ true → (has flags c ≡ true) ⊎ (c ≡ card)
entered_only flags card c h = elim (cases_eq c card) [
  | inl same ↦ inr same
  | inr ne ↦ inl (sym (get_or-set_other flags card c true false ne) ∙ h)
]

-- ---- what all sets are
all_sets : (l : List CardSet) (w n : ℕ) (entered : List Bool) → length l ≡ n → 0 < w → All (IsSet n w) l → length entered ≡ n * w
    → AreSets (record { sets = l; cards_per_region = w; entered = entered })
all_sets l w n entered e some h each = record {
  some_cards = some;
  each = subst (λ m. All (IsSet m w) l) (sym e) h;
  each_card = each ∙ ap (λ (m : ℕ). m * w) (sym e);
}

with_set : (s : Sets) (region : ℕ) (new : CardSet) (entered : List Bool) → AreSets s
    → IsSet (length s.sets) s.cards_per_region new → length entered ≡ length s.entered
    → AreSets (record { sets = set s.sets region new; cards_per_region = s.cards_per_region; entered = entered })
with_set s region new entered all h len =
    all_sets (set s.sets region new) s.cards_per_region (length s.sets) entered (length-set s.sets region new) all.some_cards
    (All-set (IsSet (length s.sets) s.cards_per_region) s.sets region new h all.each) (len ∙ all.each_card)

pub AreSets-added : (s : Sets) (region card : ℕ) → AreSets s → region < length s.sets → card < card_count s → AreSets (added s region card)
AreSets-added s region card all known h =
    with_set s region (set_after (set_of s region) s.cards_per_region card) (set s.entered card true) all
    (IsSet-after (length s.sets) s.cards_per_region (set_of s region) card (all.each region no_set known) h)
    (length-set s.entered card true)

pub AreSets-cleared : (s : Sets) (region : ℕ) → AreSets s → region < length s.sets → AreSets (cleared s region)
AreSets-cleared s region all known =
    with_set s region (emptied (set_of s region)) (without_region s.cards_per_region region s.entered) all
    (IsSet-emptied (length s.sets) s.cards_per_region (set_of s region) (all.each region no_set known))
    (length-without s.cards_per_region region s.entered)

-- ---- a card is added
same_set : (s : Sets) (region card : ℕ) → region < length s.sets
    → set_of (added s region card) region ≡ set_after (set_of s region) s.cards_per_region card
same_set s region card known =
    get_or-set_same s.sets region (set_after (set_of s region) s.cards_per_region card) no_set known

pub added_other : (s : Sets) (region card r : ℕ) → r ≢ region → set_of (added s region card) r ≡ set_of s r
added_other s region card r differs =
    get_or-set_other s.sets region r (set_after (set_of s region) s.cards_per_region card) no_set differs

pub covers-added : (s : Sets) (region card : ℕ) → AreSets s → region < length s.sets → card < card_count s
    → covers (added s region card) region card ≡ true
covers-added s region card shaped known h =
    ap (λ (t : CardSet). set_covers t card (card / s.cards_per_region)) (same_set s region card known)
    ∙ set_covers-with (letting (set_of s region) s.cards_per_region card) card (card / s.cards_per_region)
    (omega (arith, source_known card s.cards_per_region (length s.sets) shaped.some_cards h, (shaped.each region no_set known).marks))

pub covers_grows : (s : Sets) (region card r c : ℕ) → region < length s.sets → covers s r c ≡ true → covers (added s region card) r c ≡ true
covers_grows s region card r c known was =
    let k : ℕ = c / s.cards_per_region in
    ⊎_elim
    (λ (same : r ≡ region).
    let here : set_covers (set_of s region) c k ≡ true = ap (λ i. set_covers (set_of s i) c k) (sym same) ∙ was in
    ap (λ i. set_covers (set_of (added s region card) i) c k) same ∙ ap (λ (t : CardSet). set_covers t c k) (same_set s region card known)
    ∙ set_grows (letting (set_of s region) s.cards_per_region card) card (card / s.cards_per_region) c k here)
    (λ differs. ap (λ (t : CardSet). set_covers t c k) (added_other s region card r differs) ∙ was)
    (cases_eq r region)

-- ---- where a field may lead
-- it depends on the region's set, and on whether the card entered one
pub leads_alike : (s s' : Sets) (region card : ℕ) → s'.cards_per_region ≡ s.cards_per_region → set_of s' region ≡ set_of s region
    → has s'.entered card ≡ has s.entered card → may_lead s' region card ≡ may_lead s region card
leads_alike s s' region card cards set entered =
    ap (λ (n : ℕ). set_leads (set_of s' region) n (has s'.entered card) card) cards
    ∙ ap (λ (t : CardSet). set_leads t s.cards_per_region (has s'.entered card) card) set
    ∙ ap (λ (b : Bool). set_leads (set_of s region) s.cards_per_region b card) entered

-- what it is made of
pub leads_parts : (s : Sets) (region card : ℕ) → may_lead s region card ≡ true → (covers s region card ≡ true)
    × ((has s.entered card ≡ true) × (lets_through (set_of s region).filter s.cards_per_region card ≡ true))
leads_parts s region card was =
    let lets : Bool = lets_through (set_of s region).filter s.cards_per_region card in
    let (covered, rest) = and_parts (covers s region card) (has s.entered card && lets) was in
    let (is_in, through) = and_parts (has s.entered card) lets rest in
    (covered, (is_in, through))

pub leads_from : (s : Sets) (region card : ℕ) → covers s region card ≡ true → has s.entered card ≡ true
    → lets_through (set_of s region).filter s.cards_per_region card ≡ true → may_lead s region card ≡ true
leads_from s region card covered is_in through =
    let lets : Bool = lets_through (set_of s region).filter s.cards_per_region card in
    and_from (covers s region card) (has s.entered card && lets) covered (and_from (has s.entered card) lets is_in through)

pub leads-added : (s : Sets) (region card : ℕ) → AreSets s → region < length s.sets → card < card_count s
    → may_lead (added s region card) region card ≡ true
leads-added s region card all known h =
    leads_from (added s region card) region card (covers-added s region card all known h)
    (get_or-set_same s.entered card true false (omega (arith, h, all.each_card)))
    (ap (λ (t : CardSet). lets_through t.filter s.cards_per_region card) (same_set s region card known)
    ∙ set_lets_after (set_of s region) (length s.sets) s.cards_per_region card all.some_cards (all.each region no_set known))

pub leads_grow : (s : Sets) (region card r c : ℕ) → region < length s.sets → may_lead s r c ≡ true
    → may_lead (added s region card) r c ≡ true
leads_grow s region card r c known was =
    let (covered, (is_in, through)) = leads_parts s r c was in
    leads_from (added s region card) r c (covers_grows s region card r c known covered) (entered_still s.entered card c is_in)
    (still_through (cases_eq r region) through)
  where
    still_through : (r ≡ region) ⊎ (r ≢ region) → lets_through (set_of s r).filter s.cards_per_region c ≡ true
        → lets_through (set_of (added s region card) r).filter s.cards_per_region c ≡ true
    still_through (inl same) e =
        let here : lets_through (set_of s region).filter s.cards_per_region c ≡ true =
        ap (λ (i : ℕ). lets_through (set_of s i).filter s.cards_per_region c) (sym same) ∙ e in
        ap (λ (i : ℕ). lets_through (set_of (added s region card) i).filter s.cards_per_region c) same
        ∙ ap (λ (t : CardSet). lets_through t.filter s.cards_per_region c) (same_set s region card known)
        ∙ set_lets_still (set_of s region) s.cards_per_region card c here
    still_through (inr differs) e =
        ap (λ (t : CardSet). lets_through t.filter s.cards_per_region c) (added_other s region card r differs) ∙ e

-- a card that may lead there already changes nothing
after_again : (s : CardSet) (w card : ℕ) → set_covers s card (card / w) ≡ true → lets_through s.filter w card ≡ true
    → set_after s w card ≡ s
after_again s w card covered through =
    let same : letting s w card ≡ s =
    ap (λ (f : CardFilter). record { inline = s.inline; sources = s.sources; filter = f }) (filter_again s.filter w card through) in
    ap (λ (t : CardSet). set_with t card (card / w)) same
    ∙ with_cases (λ t. t ≡ s) s card (card / w) (λ was. refl) (λ missing short. absurd cc) (λ missing full. absurd cc)

pub added_again : (s : Sets) (region card : ℕ) → may_lead s region card ≡ true → added s region card ≡ s
added_again s region card was =
    let (covered, (is_in, through)) = leads_parts s region card was in
    let made : List CardSet → List Bool → Sets =
    λ sets entered. record { sets = sets; cards_per_region = s.cards_per_region; entered = entered } in
    ap (λ (x : CardSet). made (set s.sets region x) (set s.entered card true))
    (after_again (set_of s region) s.cards_per_region card covered through)
    ∙ ap (λ (xs : List CardSet). made xs (set s.entered card true)) (set-get_or s.sets region no_set)
    ∙ ap (λ (xs : List Bool). made s.sets xs) (set_again s.entered card is_in)

-- what is covered anew is the card, or lies in its region
pub covers_only : (s : Sets) (region card c : ℕ) → region < length s.sets → covers (added s region card) region c ≡ true
    → (covers s region c ≡ true) ⊎ (c / s.cards_per_region ≡ card / s.cards_per_region)
covers_only s region card c known now =
    let w : ℕ = s.cards_per_region in
    ⊎_elim inl (λ new. inr (⊎_elim (λ e. ap (λ x. x / w) e) (λ e. e) new))
    (set_only (letting (set_of s region) w card) card (card / w) c (c / w)
    (ap (λ (t : CardSet). set_covers t c (c / w)) (sym (same_set s region card known)) ∙ now))

pub covers_only_card : (s : Sets) (region card c : ℕ) → region < length s.sets → length (set_of s region).inline < 16
    → covers (added s region card) region c ≡ true → (covers s region c ≡ true) ⊎ (c ≡ card)
covers_only_card s region card c known few now =
    let w : ℕ = s.cards_per_region in
    set_only_card (letting (set_of s region) w card) card (card / w) c (c / w) few
    (ap (λ (t : CardSet). set_covers t c (c / w)) (sym (same_set s region card known)) ∙ now)

-- ---- a set is emptied
pub cleared_covers : (s : Sets) (region c : ℕ) → region < length s.sets → covers (cleared s region) region c ≡ false
cleared_covers s region c known =
    ap (λ (t : CardSet). set_covers t c (c / s.cards_per_region))
    (get_or-set_same s.sets region (emptied (set_of s region)) no_set known)
    ∙ emptied_covers (set_of s region) c (c / s.cards_per_region)

pub cleared_other : (s : Sets) (region r : ℕ) → r ≢ region → set_of (cleared s region) r ≡ set_of s r
cleared_other s region r differs = get_or-set_other s.sets region r (emptied (set_of s region)) no_set differs

pub cleared_same : (s : Sets) (region : ℕ) → region < length s.sets → set_of (cleared s region) region ≡ emptied (set_of s region)
cleared_same s region known = get_or-set_same s.sets region (emptied (set_of s region)) no_set known

-- ---- over a run
change_keeps : (s : Sets) (change : Change) (region card : ℕ) → region < length s.sets → LeavesSet region change
    → covers s region card ≡ true → covers (changed s change) region card ≡ true
change_keeps s (Add r c) region card known leaves was = ⊎_elim
    (λ (same : region ≡ r). covers_grows s r c region card (omega (arith, known, same)) was)
    (λ differs. ap (λ (t : CardSet). set_covers t card (card / s.cards_per_region)) (added_other s r c region differs) ∙ was)
    (cases_eq region r)
change_keeps s (Clear r) region card known leaves was =
    ap (λ (t : CardSet). set_covers t card (card / s.cards_per_region)) (cleared_other s r region (λ e. leaves (sym e))) ∙ was

-- a card that entered a set stays among those until its own region's set is emptied
entered_keeps : (s : Sets) (change : Change) (card : ℕ) → LeavesSet (card / s.cards_per_region) change → has s.entered card ≡ true
    → has (changed s change).entered card ≡ true
entered_keeps s (Add r c) card leaves was = entered_still s.entered c card was
entered_keeps s (Clear r) card leaves was = others_left s.cards_per_region r s.entered card (λ e. leaves (sym e)) ∙ was

same_size : (s : Sets) (change : Change) → (changed s change).cards_per_region ≡ s.cards_per_region
same_size s (Add r c) = refl
same_size s (Clear r) = refl

pub run_entered : (changes : List Change) (s : Sets) (w card : ℕ) → s.cards_per_region ≡ w → All (LeavesSet (card / w)) changes
    → has s.entered card ≡ true → has (after_all changes s).entered card ≡ true
run_entered [] s w card e leave was = was
run_entered (change ∷ changes) s w card e leave was =
    run_entered changes (changed s change) w card (same_size s change ∙ e) (All-tail (LeavesSet (card / w)) change changes leave)
    (entered_keeps s change card
    (subst (λ (n : ℕ). LeavesSet (card / n) change) (sym e) (All-head (LeavesSet (card / w)) change changes leave)) was)

length-changed : (s : Sets) (change : Change) → length (changed s change).sets ≡ length s.sets
length-changed s (Add r c) = length-set s.sets r (set_after (set_of s r) s.cards_per_region c)
length-changed s (Clear r) = length-set s.sets r (emptied (set_of s r))

pub run_keeps : (changes : List Change) (s : Sets) (region card : ℕ) → region < length s.sets → All (LeavesSet region) changes
    → covers s region card ≡ true → covers (after_all changes s) region card ≡ true
run_keeps [] s region card known leave was = was
run_keeps (change ∷ changes) s region card known leave was =
    run_keeps changes (changed s change) region card (omega (arith, known, length-changed s change))
    (All-tail (LeavesSet region) change changes leave)
    (change_keeps s change region card known (All-head (LeavesSet region) change changes leave) was)

pub added_stays : (changes : List Change) (s : Sets) (region card : ℕ) → AreSets s → region < length s.sets → card < card_count s
    → All (LeavesSet region) changes → covers (after_all changes (added s region card)) region card ≡ true
added_stays changes s region card shaped known h leave =
    run_keeps changes (added s region card) region card
    (omega (arith, known, length-set s.sets region (set_after (set_of s region) s.cards_per_region card))) leave
    (covers-added s region card shaped known h)

-- what is let through stays so until the region's set is cleared
lets_keeps : (s : Sets) (change : Change) (region card : ℕ) → region < length s.sets → LeavesSet region change
    → lets_through (set_of s region).filter s.cards_per_region card ≡ true
    → lets_through (set_of (changed s change) region).filter s.cards_per_region card ≡ true
lets_keeps s (Add r c) region card known leaves was = ⊎_elim
    (λ (same : region ≡ r).
    let here : lets_through (set_of s r).filter s.cards_per_region card ≡ true =
    ap (λ (i : ℕ). lets_through (set_of s i).filter s.cards_per_region card) (sym same) ∙ was in
    ap (λ (i : ℕ). lets_through (set_of (added s r c) i).filter s.cards_per_region card) same
    ∙ ap (λ (t : CardSet). lets_through t.filter s.cards_per_region card) (same_set s r c (omega (arith, known, same)))
    ∙ set_lets_still (set_of s r) s.cards_per_region c card here)
    (λ differs. ap (λ (t : CardSet). lets_through t.filter s.cards_per_region card) (added_other s r c region differs) ∙ was)
    (cases_eq region r)
lets_keeps s (Clear r) region card known leaves was =
    ap (λ (t : CardSet). lets_through t.filter s.cards_per_region card) (cleared_other s r region (λ e. leaves (sym e))) ∙ was

pub run_lets : (changes : List Change) (s : Sets) (region card : ℕ) → region < length s.sets → All (LeavesSet region) changes
    → lets_through (set_of s region).filter s.cards_per_region card ≡ true
    → lets_through (set_of (after_all changes s) region).filter (after_all changes s).cards_per_region card ≡ true
run_lets [] s region card known leave was = was
run_lets (change ∷ changes) s region card known leave was =
    run_lets changes (changed s change) region card (omega (arith, known, length-changed s change))
    (All-tail (LeavesSet region) change changes leave)
    (ap (λ (n : ℕ). lets_through (set_of (changed s change) region).filter n card) (same_size s change)
    ∙ lets_keeps s change region card known (All-head (LeavesSet region) change changes leave) was)

pub leads_stays : (changes : List Change) (s : Sets) (region card : ℕ) → AreSets s → region < length s.sets → card < card_count s
    → All (LeavesSet region) changes → All (LeavesSet (card / s.cards_per_region)) changes
    → may_lead (after_all changes (added s region card)) region card ≡ true
leads_stays changes s region card shaped known h leave leave_own =
    let (covered, (is_in, through)) = leads_parts (added s region card) region card (leads-added s region card shaped known h) in
    leads_from (after_all changes (added s region card)) region card (added_stays changes s region card shaped known h leave)
    (run_entered changes (added s region card) s.cards_per_region card refl leave_own is_in)
    (run_lets changes (added s region card) region card
    (omega (arith, known, length-set s.sets region (set_after (set_of s region) s.cards_per_region card))) leave through)
