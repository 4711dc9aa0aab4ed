-- What is covered once a card was added to the sets of some regions.
use Rattle.std.proofs.Common.{◌≡◌, ◌⊎◌, ◌/◌, ◌<◌, ◌∷◌, ◌++◌, ◌∙◌, inl, inr, ℕ, true, Option, Some, None, List, [], length, All, ⊎_elim}
use Rattle.std.proofs.Common.{refl, sym, ap, subst, length-set, slice_get, if◌then◌else◌}
use Rattle.std.proofs.lemmas.Bool.{cases_eq}
use Rattle.std.proofs.lemmas.Bool.Decides.{eqb_tells}
use Rattle.std.proofs.lemmas.List.Elements.{All-nil, All-cons, All-head, All-tail, All-append}
use Rattle.heap_model.specs.Heap.{Stored, fields}
use Rattle.remembered_sets.specs.Sets.{Sets, CardSet, added, covers, may_lead, set_of, set_covers, set_after}
use Rattle.remembered_sets.proofs.Laws.{covers_grows, covers_only, added_other, leads_grow}
use Rattle.refinement.specs.Remembering.{IsCrossing, LeadsInto, LeadsInside, Gains, field_word, field_card}
use Rattle.refinement.specs.Refining.{added_to, AddsCard, with_field}

-- ---- how many sets there are
added_sets : (s : Sets) (region card : ℕ) → length (added s region card).sets ≡ length s.sets
added_sets s region card = length-set s.sets region (set_after (set_of s region) s.cards_per_region card)

all_sets : (regions : List ℕ) (card : ℕ) (s : Sets)
    → (length (added_to regions card s).sets ≡ length s.sets) × ((added_to regions card s).cards_per_region ≡ s.cards_per_region)
all_sets [] card s = (refl, refl)
all_sets (r ∷ rs) card s = let i = all_sets rs card (added s r card) in (i.0 ∙ added_sets s r card, i.1)

pub adds_sets : (words : ℕ) (kept : ℕ → Option Stored) (len card : ℕ) (old new : Sets) → AddsCard words kept len card old new
    → (length new.sets ≡ length old.sets) × (new.cards_per_region ≡ old.cards_per_region)
adds_sets words kept len card old new a =
    let i = all_sets a.regions card old in
    (ap (λ (s : Sets). length s.sets) a.new_is ∙ i.0, ap (λ (s : Sets). s.cards_per_region) a.new_is ∙ i.1)

-- ---- one after another
all_append : (xs ys : List ℕ) (card : ℕ) (s : Sets) → added_to (xs ++ ys) card s ≡ added_to ys card (added_to xs card s)
all_append [] ys card s = refl
all_append (x ∷ xs) ys card s = all_append xs ys card (added s x card)

pub adds_none : (words : ℕ) (kept : ℕ → Option Stored) (len card : ℕ) (s : Sets) → AddsCard words kept len card s s
adds_none words kept len card s = record { regions = []; asked = All-nil (LeadsInto words kept len card); new_is = refl }

pub adds_more : (words : ℕ) (kept : ℕ → Option Stored) (len card : ℕ) (s u v : Sets) → AddsCard words kept len card s u
    → AddsCard words kept len card u v → AddsCard words kept len card s v
adds_more words kept len card s u v a b = record {
  regions = a.regions ++ b.regions;
  asked = All-append (LeadsInto words kept len card) a.regions b.regions a.asked b.asked;
  new_is = b.new_is ∙ ap (added_to b.regions card) a.new_is ∙ sym (all_append a.regions b.regions card s);
}

pub adds_one : (words : ℕ) (kept : ℕ → Option Stored) (len card region : ℕ) (s : Sets) → LeadsInto words kept len card region
    → AddsCard words kept len card s (added s region card)
adds_one words kept len card region s l = record {
  regions = region ∷ [];
  asked = All-cons (LeadsInto words kept len card) region [] l (All-nil (LeadsInto words kept len card));
  new_is = refl;
}

-- ---- what is covered
leads_known : (words n : ℕ) (kept : ℕ → Option Stored) (len card region : ℕ) → LeadsInside words n kept
    → LeadsInto words kept len card region → region < n
leads_known words n kept len card region inside l =
    let c = l.crossing in
    let known = inside.each l.at l.index l.target c.object c.kept_is c.field_is in
    subst (λ (r : ℕ). r < n) l.into known

all_grows : (words : ℕ) (kept : ℕ → Option Stored) (len card : ℕ) (regions : List ℕ) (s : Sets) (r c : ℕ)
    → LeadsInside words (length s.sets) kept → All (LeadsInto words kept len card) regions → covers s r c ≡ true
    → covers (added_to regions card s) r c ≡ true
all_grows words kept len card [] s r c inside asked was = was
all_grows words kept len card (x ∷ xs) s r c inside asked was =
    let known = leads_known words (length s.sets) kept len card x inside (All-head (LeadsInto words kept len card) x xs asked) in
    let inside' = subst (λ (n : ℕ). LeadsInside words n kept) (sym (added_sets s x card)) inside in
    all_grows words kept len card xs (added s x card) r c inside'
    (All-tail (LeadsInto words kept len card) x xs asked) (covers_grows s x card r c known was)

all_lead : (words : ℕ) (kept : ℕ → Option Stored) (len card : ℕ) (regions : List ℕ) (s : Sets) (r c : ℕ)
    → LeadsInside words (length s.sets) kept → All (LeadsInto words kept len card) regions → may_lead s r c ≡ true
    → may_lead (added_to regions card s) r c ≡ true
all_lead words kept len card [] s r c inside asked was = was
all_lead words kept len card (x ∷ xs) s r c inside asked was =
    let known = leads_known words (length s.sets) kept len card x inside (All-head (LeadsInto words kept len card) x xs asked) in
    let inside' = subst (λ (n : ℕ). LeadsInside words n kept) (sym (added_sets s x card)) inside in
    all_lead words kept len card xs (added s x card) r c inside'
    (All-tail (LeadsInto words kept len card) x xs asked) (leads_grow s x card r c known was)

-- what a card newly covers in region r
abbrev pub IsNew : ℕ → (ℕ → Option Stored) → ℕ → ℕ → Sets → ℕ → ℕ → Type 0
IsNew words kept len card s r c = LeadsInto words kept len card r × (c / s.cards_per_region ≡ card / s.cards_per_region)

one_only : (words : ℕ) (kept : ℕ → Option Stored) (len card x : ℕ) (s : Sets) (r c : ℕ) → x < length s.sets
    → LeadsInto words kept len card x → covers (added s x card) r c ≡ true → (covers s r c ≡ true) ⊎ IsNew words kept len card s r c
one_only words kept len card x s r c known asked now =
    let w : ℕ = s.cards_per_region in
    ⊎_elim
    (λ (same : r ≡ x).
    let here : covers (added s x card) x c ≡ true = ap (λ (i : ℕ). covers (added s x card) i c) (sym same) ∙ now in
    ⊎_elim
    (λ was. inl (ap (λ (i : ℕ). covers s i c) same ∙ was))
    (λ near. inr (subst (λ (i : ℕ). LeadsInto words kept len card i) (sym same) asked, near))
    (covers_only s x card c known here))
    (λ differs. inl (ap (λ (t : CardSet). set_covers t c (c / w)) (sym (added_other s x card r differs)) ∙ now))
    (cases_eq r x)

all_only : (words : ℕ) (kept : ℕ → Option Stored) (len card : ℕ) (regions : List ℕ) (s : Sets) (r c : ℕ)
    → LeadsInside words (length s.sets) kept → All (LeadsInto words kept len card) regions → covers (added_to regions card s) r c ≡ true
    → (covers s r c ≡ true) ⊎ IsNew words kept len card s r c
all_only words kept len card [] s r c inside asked now = inl now
all_only words kept len card (x ∷ xs) s r c inside asked now =
    let first = All-head (LeadsInto words kept len card) x xs asked in
    let known = leads_known words (length s.sets) kept len card x inside first in
    let inside' = subst (λ (n : ℕ). LeadsInside words n kept) (sym (added_sets s x card)) inside in
    ⊎_elim (λ was. one_only words kept len card x s r c known first was) inr
    (all_only words kept len card xs (added s x card) r c inside' (All-tail (LeadsInto words kept len card) x xs asked) now)

pub adds_grows : (words : ℕ) (kept : ℕ → Option Stored) (len card : ℕ) (old new : Sets) → LeadsInside words (length old.sets) kept
    → AddsCard words kept len card old new → (r c : ℕ) → covers old r c ≡ true → covers new r c ≡ true
adds_grows words kept len card old new inside a r c was =
    ap (λ (s : Sets). covers s r c) a.new_is ∙ all_grows words kept len card a.regions old r c inside a.asked was

pub adds_lead : (words : ℕ) (kept : ℕ → Option Stored) (len card : ℕ) (old new : Sets) → LeadsInside words (length old.sets) kept
    → AddsCard words kept len card old new → (r c : ℕ) → may_lead old r c ≡ true → may_lead new r c ≡ true
adds_lead words kept len card old new inside a r c was =
    ap (λ (s : Sets). may_lead s r c) a.new_is ∙ all_lead words kept len card a.regions old r c inside a.asked was

pub adds_gains : (words : ℕ) (kept : ℕ → Option Stored) (len card : ℕ) (old new : Sets) → LeadsInside words (length old.sets) kept
    → AddsCard words kept len card old new → Gains words kept len old.cards_per_region card (covers old) (covers new)
adds_gains words kept len card old new inside a = record {
  stays = adds_grows words kept len card old new inside a;
  only = λ r c now. all_only words kept len card a.regions old r c inside a.asked (ap (λ (s : Sets). covers s r c) (sym a.new_is) ∙ now);
}

-- ---- one field
pub field_adds : (words : ℕ) (kept : ℕ → Option Stored) (len card a i : ℕ) (o : Stored) (target : Option ℕ) (s u : Sets) → kept a ≡ Some o
    → slice_get (fields o) i ≡ Some target → field_card len a i ≡ card
    → u ≡ with_field words card (field_word a i) target s → AddsCard words kept len card s u
field_adds words kept len card a i o None s u k f c e =
    subst (λ (v : Sets). AddsCard words kept len card s v) (sym e) (adds_none words kept len card s)
field_adds words kept len card a i o (Some v) s u k f c e =
    elim (eqb_tells (v / words) (field_word a i / words)) [
      | inl q ↦
          let same : u ≡ s = e ∙ ap (λ b. if b then s else added s (v / words) card) q.0 in
          subst (λ (x : Sets). AddsCard words kept len card s x) (sym same) (adds_none words kept len card s)
      | inr q ↦
          let more : u ≡ added s (v / words) card = e ∙ ap (λ b. if b then s else added s (v / words) card) q.0 in
          let crossing : IsCrossing words kept a i v = record { object = o; kept_is = k; field_is = f; leaves = q.1 } in
          subst (λ (x : Sets). AddsCard words kept len card s x) (sym more)
          (adds_one words kept len card (v / words) s
          (record { at = a; index = i; target = v; crossing = crossing; in_card = c; into = refl }))
    ]

pub field_grows : (words card word n : ℕ) (target : Option ℕ) (s u : Sets) → ((v : ℕ) → target ≡ Some v → v / words < length s.sets)
    → u ≡ with_field words card word target s → (r c : ℕ) → may_lead s r c ≡ true → may_lead u r c ≡ true
field_grows words card word n None s u known e r c was = ap (λ (v : Sets). may_lead v r c) e ∙ was
field_grows words card word n (Some v) s u known e r c was =
    elim (eqb_tells (v / words) (word / words)) [
      | inl q ↦ ap (λ (x : Sets). may_lead x r c) (e ∙ ap (λ b. if b then s else added s (v / words) card) q.0) ∙ was
      | inr q ↦ ap (λ (x : Sets). may_lead x r c) (e ∙ ap (λ b. if b then s else added s (v / words) card) q.0)
          ∙ leads_grow s (v / words) card r c (known v refl) was
    ]
