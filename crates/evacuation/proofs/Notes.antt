-- What a pause notes, note after note.
use Rattle.std.proofs.Common.{◌≡◌, ◌⊎◌, ◌/◌, ◌<◌, ◌∙◌, ℕ, Bool, true, false, List, length, refl, sym, ap, subst, inl, inr}
use Rattle.std.proofs.Common.{replicate, if◌then◌else◌, slice_set}
use Rattle.std.proofs.lemmas.Bool.{cases_Bool, cases_eq, or_cases, or_left, or_right}
use Rattle.std.proofs.lemmas.List.{get_or-set_same, get_or-set_other, length-set}
use Rattle.remembered_sets.specs.Sets.{CardFilter, CardSet, Sets, added, covers, emptied, emptied_filter, may_lead, set_after, set_of}
use Rattle.remembered_sets.specs.Sets.{letting, no_set, set_covers}
use Rattle.remembered_sets.proofs.Filters.{filter_cases}
use Rattle.remembered_sets.proofs.Covered.{with_cases}
use Rattle.remembered_sets.proofs.Laws.{added_other, covers_only, entered_only, leads_grow}
use Rattle.evacuation.specs.Space.{NotesFor, NotesGrow, SetsGrow, flag, with_note}
use Rattle.evacuation.specs.declared.room.Notes.{Notes}

-- ---- nothing is noted
pub sets_stay : (s : Sets) → SetsGrow s s
sets_stay s = record { cards = refl; count = refl; emptied_same = λ k. refl; leads = λ k c e. e }

pub notes_stay : (n : Notes) → NotesGrow n n
notes_stay n = record {
  at_once = refl;
  noted = λ c k e. e;
  count = refl;
  sets = sets_stay n.sets;
  late = λ e. refl;
  early = λ e. refl;
}

pub none_for : (may : ℕ → ℕ → Type 0) (n : Notes) → NotesFor may n n
none_for may n = record { cards = λ c e. inl e; entered = λ c e. inl e; covered = λ c k e. inl e }

-- ---- one note after another
sets_further : (a b c : Sets) → SetsGrow a b → SetsGrow b c → SetsGrow a c
sets_further a b c one other = record {
  cards = other.cards ∙ one.cards;
  count = other.count ∙ one.count;
  emptied_same = λ k. other.emptied_same k ∙ one.emptied_same k;
  leads = λ k card e. other.leads k card (one.leads k card e);
}

pub notes_further : (a b c : Notes) → NotesGrow a b → NotesGrow b c → NotesGrow a c
notes_further a b c one other = record {
  at_once = other.at_once ∙ one.at_once;
  noted = λ card k e. other.noted card k (one.noted card k e);
  count = other.count ∙ one.count;
  sets = sets_further a.sets b.sets c.sets one.sets other.sets;
  late = λ e. other.late (one.at_once ∙ e) ∙ one.late e;
  early = λ e. other.early (one.at_once ∙ e) ∙ one.early e;
}

pub for_others : (may may' : ℕ → ℕ → Type 0) (n n' : Notes) → ((c k : ℕ) → may c k → may' c k) → NotesFor may n n' → NotesFor may' n n'
for_others may may' n n' f x = record {
  cards = λ c e. elim (x.cards c e) [ inl o ↦ inl o | inr q ↦ inr (q.0, f c q.0 q.1) ];
  entered = λ c e. elim (x.entered c e) [ inl o ↦ inl o | inr q ↦ inr (q.0, f c q.0 q.1) ];
  covered = λ c k e. elim (x.covered c k e) [ inl o ↦ inl o | inr q ↦ inr (q.0, q.1, f q.0 k q.2) ];
}

pub for_further : (may : ℕ → ℕ → Type 0) (a b c : Notes) → NotesGrow a b → NotesFor may a b → NotesFor may b c → NotesFor may a c
for_further may a b c grows one other = record {
  cards = λ x e. elim (other.cards x e) [ inl o ↦ one.cards x o | inr q ↦ inr q ];
  entered = λ x e. elim (other.entered x e) [ inl o ↦ one.entered x o | inr q ↦ inr q ];
  covered = λ x k e. elim (other.covered x k e) [
    | inl o ↦ one.covered x k o
    | inr q ↦ inr (q.0, subst (λ (w : ℕ). q.0 / w ≡ x / w) grows.sets.cards q.1, q.2)
  ];
}

-- ---- a card is added to a set
emptied_letting : (s : CardSet) (w card : ℕ) → emptied (letting s w card) ≡ emptied s
emptied_letting s w card =
    ap (λ (f : CardFilter). record { inline = (emptied s).inline; sources = replicate (length s.sources) false; filter = f })
    (filter_cases (λ g. emptied_filter g ≡ emptied_filter s.filter) s.filter w card (λ none. refl)
    (λ some. ap (λ (n : ℕ). record { rows = s.filter.rows; flags = replicate n false })
    (length-set _ _ true ∙ length-set s.filter.flags _ true)))

emptied_after : (s : CardSet) (w card : ℕ) → emptied (set_after s w card) ≡ emptied s
emptied_after s w card =
    with_cases (λ t. emptied t ≡ emptied s) (letting s w card) card (card / w) (λ was. emptied_letting s w card)
    (λ missing short. emptied_letting s w card)
    (λ missing full. ap (λ (n : ℕ). record {
      inline = (emptied s).inline;
      sources = replicate n false;
      filter = emptied_filter (letting s w card).filter;
    }) (length-set s.sources (card / w) true) ∙ emptied_letting s w card)

pub sets_grow : (s : Sets) (region card : ℕ) → region < length s.sets → SetsGrow s (added s region card)
sets_grow s region card known = record {
  cards = refl;
  count = length-set s.sets region (set_after (set_of s region) s.cards_per_region card);
  emptied_same = λ k. elim (cases_eq k region) [
    | inl same ↦ subst (λ (j : ℕ). emptied (set_of (added s region card) j) ≡ emptied (set_of s j)) (sym same)
        (ap emptied (get_or-set_same s.sets region (set_after (set_of s region) s.cards_per_region card) no_set known)
        ∙ emptied_after (set_of s region) s.cards_per_region card)
    | inr differs ↦ ap emptied (added_other s region card k differs)
  ];
  leads = λ k c e. leads_grow s region card k c known e;
}

-- ---- one note
pub flag_grows : (flags : List Bool) (card c : ℕ) → card < length flags → flag flags c ≡ true → flag (slice_set flags card true) c ≡ true
flag_grows flags card c known e = elim (cases_eq c card) [
  | inl same ↦ subst (λ (j : ℕ). flag (slice_set flags card true) j ≡ true) (sym same) (get_or-set_same flags card true false known)
  | inr differs ↦ get_or-set_other flags card c true false differs ∙ e
]

pub flag_only : (flags : List Bool) (card c : ℕ) → flag (slice_set flags card true) c ≡ true → (flag flags c ≡ true) ⊎ (c ≡ card)
flag_only flags card c e = elim (cases_eq c card) [ inl q ↦ inr q | inr q ↦ inl (sym (get_or-set_other flags card c true false q) ∙ e) ]

-- the card and the region of a note
abbrev pub IsNoteOf : ℕ → ℕ → ℕ → ℕ → Type 0
IsNoteOf card region c k = (c ≡ card) × (k ≡ region)

module _ (n : Notes) (card region : ℕ) (in_cards : card < length n.cards) (known : region < length n.sets.sets) where
  abbrev once : Notes
  once = record n { sets = added n.sets region card }

  abbrev late : Notes
  late = record n { cards = slice_set n.cards card true }

  once_grows : n.at_once ≡ true → NotesGrow n once
  once_grows e = record {
    at_once = refl;
    noted = λ c k was. elim (or_cases (flag n.cards c) (may_lead n.sets k c) was) [
      | inl o ↦ or_left (flag n.cards c) (may_lead once.sets k c) o
      | inr o ↦ or_right (flag n.cards c) (may_lead once.sets k c) (leads_grow n.sets region card k c known o)
    ];
    count = refl;
    sets = sets_grow n.sets region card known;
    late = λ f. absurd cc;
    early = λ f. refl;
  }

  late_grows : n.at_once ≡ false → NotesGrow n late
  late_grows e = record {
    at_once = refl;
    noted = λ c k was. elim (or_cases (flag n.cards c) (may_lead n.sets k c) was) [
      | inl o ↦ or_left (flag late.cards c) (may_lead n.sets k c) (flag_grows n.cards card c in_cards o)
      | inr o ↦ or_right (flag late.cards c) (may_lead n.sets k c) o
    ];
    count = length-set n.cards card true;
    sets = sets_stay n.sets;
    late = λ f. refl;
    early = λ f. absurd cc;
  }

  covered_once : (c k : ℕ) → covers once.sets k c ≡ true → (covers n.sets k c ≡ true)
      ⊎ ((d : ℕ) × (d / n.sets.cards_per_region ≡ c / n.sets.cards_per_region) × IsNoteOf card region d k)
  covered_once c k e = elim (cases_eq k region) [
    | inl same ↦
        let e' : covers once.sets region c ≡ true = subst (λ (j : ℕ). covers once.sets j c ≡ true) same e in
        elim (covers_only n.sets region card c known e') [
          | inl o ↦ inl (subst (λ (j : ℕ). covers n.sets j c ≡ true) (sym same) o)
          | inr o ↦ inr (card, sym o, (refl, same))
        ]
    | inr differs ↦ inl (
        ap (λ (t : CardSet). set_covers t c (c / n.sets.cards_per_region)) (sym (added_other n.sets region card k differs)) ∙ e)
  ]

  once_for : NotesFor (IsNoteOf card region) n once
  once_for = record {
    cards = λ c e. inl e;
    entered = λ c e. elim (entered_only n.sets.entered card c e) [ inl o ↦ inl o | inr q ↦ inr (region, (q, refl)) ];
    covered = covered_once;
  }

  late_for : NotesFor (IsNoteOf card region) n late
  late_for = record {
    cards = λ c e. elim (flag_only n.cards card c e) [ inl o ↦ inl o | inr q ↦ inr (region, (q, refl)) ];
    entered = λ c e. inl e;
    covered = λ c k e. inl e;
  }

  pub note_grows : NotesGrow n (with_note n card region)
  note_grows = elim (cases_Bool n.at_once) [
    | inl e ↦ subst (NotesGrow n) (sym (ap (λ (b : Bool). if b then once else late) e)) (once_grows e)
    | inr e ↦ subst (NotesGrow n) (sym (ap (λ (b : Bool). if b then once else late) e)) (late_grows e)
  ]

  pub note_for : NotesFor (IsNoteOf card region) n (with_note n card region)
  note_for = elim (cases_Bool n.at_once) [
    | inl e ↦ subst (NotesFor (IsNoteOf card region) n) (sym (ap (λ (b : Bool). if b then once else late) e)) once_for
    | inr e ↦ subst (NotesFor (IsNoteOf card region) n) (sym (ap (λ (b : Bool). if b then once else late) e)) late_for
  ]
