-- A word's card is noted, or need not be.
use Rattle.std.proofs.Common.{◌≡◌, ◌≢◌, ◌/◌, ◌<◌, ◌∙◌, ℕ, Bool, true, false, List, length, refl, sym, ap, subst, inl, inr, slice_set}
use Rattle.std.proofs.lemmas.List.{get_or-set_same, length-set}
use Rattle.evacuation.specs.Space.{flag}
use Rattle.evacuation.specs.Sliding.{NotesCard, Slide}
use Rattle.evacuation.proofs.Notes.{flag_grows, flag_only}

pub flag_set : (noted : List Bool) (c d : ℕ) → c < length noted → c ≡ d → flag (slice_set noted c true) d ≡ true
flag_set noted c d h e = subst (λ (m : ℕ). flag (slice_set noted c true) m ≡ true) e (get_or-set_same noted c true false h)

-- it is noted, and no other one
pub notes_card : (s : Slide) (noted noted' : List Bool) (word target card : ℕ) → card < length noted → card ≡ word / s.card_words
    → target / s.words ≢ word / s.words → noted' ≡ slice_set noted card true → NotesCard s noted noted' word target
notes_card s noted noted' word target card known place out is = record {
  is_noted = inr (ap (λ (m : List Bool). flag m (word / s.card_words)) is ∙ flag_set noted card (word / s.card_words) known place);
  grows = λ c e. ap (λ (m : List Bool). flag m c) is ∙ flag_grows noted card c known e;
  count = ap (λ (m : List Bool). length m) is ∙ length-set noted card true;
  only = λ c e. elim (flag_only noted card c (ap (λ (m : List Bool). flag m c) (sym is) ∙ e)) [
    | inl o ↦ inl o
    | inr q ↦ inr (q ∙ place, out)
  ];
}

-- the word leads to its own region, and no card is noted for it
pub notes_none : (s : Slide) (noted : List Bool) (word target : ℕ) → target / s.words ≡ word / s.words → NotesCard s noted noted word target
notes_none s noted word target same = record { is_noted = inl same; grows = λ c e. e; count = refl; only = λ c e. inl e }
