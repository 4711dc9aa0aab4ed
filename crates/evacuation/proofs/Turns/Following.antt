-- One turn after another.
use Rattle.std.proofs.Common.{◌≡◌, ◌+◌, ◌*◌, ◌/◌, ◌≤◌, ◌∙◌, ℕ, get_or, ap, false, Option, Some, None, refl}
use Rattle.std.proofs.Common.{sym, subst, inl, inr, arith, slice_get}
use Rattle.std.proofs.lemmas.Option.{slice_get-get_or}
use Rattle.evacuation.proofs.Lists.{get_below}
use Rattle.heap_model.specs.Heap.{Stored, fields}
use Rattle.regions.specs.Table.{Table}
use Rattle.object_copy.specs.Copies.{Destinations}
use Rattle.refinement.specs.Remembering.{field_word}
use Rattle.evacuation.specs.Space.{Layout, Space, IsDestination, IsAfter, NewCrossing, IsSpaceObject, IsOutsideSet, IsCardNoted}
use Rattle.evacuation.specs.Space.{IsSettled, IsUpdated}
use Rattle.evacuation.specs.Space.{IsFieldClean, IsFieldSettled, NotesFor, NotesGrow}
use Rattle.evacuation.specs.declared.room.Notes.{Notes}
use Rattle.evacuation.proofs.Notes.{for_further, for_others, none_for, notes_further, notes_stay}
use Rattle.evacuation.specs.Turns.{AreNotes, IsTurn, Pause, PauseStands, PauseGoesOn, in_set, layout, space}
use Rattle.evacuation.specs.declared.room.Context.{Context}

pub noted_grows : (l : Layout) (t t' : Notes) (at : ℕ) (w : Option ℕ) → NotesGrow t t' → IsCardNoted l t at w → IsCardNoted l t' at w
noted_grows l t t' at None f s = tt
noted_grows l t t' at (Some c) f s = elim s [ inl q ↦ inl q | inr q ↦ inr (f.noted (at / l.card_words) (c / l.words) q) ]

pub settled_grows : (l : Layout) (t t' : Notes) (at : ℕ) (w : Option ℕ) → NotesGrow t t' → IsSettled l t at w → IsSettled l t' at w
settled_grows l t t' at w f s = (s.0, noted_grows l t t' at w f s.1)

pub updated_grows : (l : Layout) (t t' : Notes) (at : ℕ) (v w : Option ℕ) → NotesGrow t t' → IsUpdated l t at v w → IsUpdated l t' at v w
updated_grows l t t' at v w f u = record {
  target = u.target;
  named = u.named;
  inside = u.inside;
  settled = settled_grows l t t' at w f u.settled;
}

-- a word that names nothing of the set isn't updated
clean_stays : (l : Layout) (t : Notes) (at : ℕ) (v w : Option ℕ) → IsOutsideSet l v → IsUpdated l t at v w → ⊥
clean_stays l t at v w c u =
    let c' : IsOutsideSet l (Some u.target) = subst (IsOutsideSet l) u.named c in
    let i = u.inside in
    absurd cc

pub same_after : (l : Layout) (t : Notes) (s : Space) (d : Destinations) → IsAfter l t t s s d d
same_after l t s d = record {
  noted_grows = notes_stay t;
  noted_for = none_for (NewCrossing l s s d) t;
  forward_grows = λ a b e. e;
  taken_grows = λ i j e. e;
  used_grows = λ k. omega arith;
  stays = λ b y o e. (y, e, refl);
  new_above = λ b y o e. inl (y, e);
  closed = λ k w n. (λ b y r e. (y, e), n);
  fields = λ b y y' i w o e e' g. inl (let r : y ≡ y' = cc in subst (λ (z : Stored). slice_get (fields z) i ≡ Some w) (sym r) g);
}

-- more is noted, and nothing else changes
pub noted_after : (l : Layout) (t t' : Notes) (s : Space) (d : Destinations) → NotesGrow t t' → NotesFor (NewCrossing l s s d) t t'
    → IsAfter l t t' s s d d
noted_after l t t' s d f g = record {
  noted_grows = f;
  noted_for = g;
  forward_grows = λ a b e. e;
  taken_grows = λ i j e. e;
  used_grows = λ k. omega arith;
  stays = λ b y o e. (y, e, refl);
  new_above = λ b y o e. inl (y, e);
  closed = λ k w n. (λ b y r e. (y, e), n);
  fields = λ b y y' i w o e e' g. inl (let r : y ≡ y' = cc in subst (λ (z : Stored). slice_get (fields z) i ≡ Some w) (sym r) g);
}

above_more : (at a b c : ℕ) → at + b ≤ c → a ≤ b → at + a ≤ c
above_more at a b c h k = omega arith

-- a clean field stays as it is
crossing_on : (l : Layout) (t t' t'' : Notes) (s s' s'' : Space) (d d' d'' : Destinations) (c r : ℕ) → IsAfter l t' t'' s' s'' d' d''
    → NewCrossing l s s' d' c r → NewCrossing l s s'' d'' c r
crossing_on l t t' t'' s s' s'' d d' d'' c r b x =
    let (z, e, n) = b.stays x.at x.object x.outside x.here in
    let within = get_below (fields x.object) x.index (Some x.target) x.field in
    let w = get_or (fields z) x.index None in
    let is : slice_get (fields z) x.index ≡ Some w = slice_get-get_or (fields z) x.index None (omega arith) in
    record {
      at = x.at;
      index = x.index;
      target = x.target;
      object = z;
      here = e;
      outside = x.outside;
      field = elim (b.fields x.at x.object z x.index w x.outside x.here e is) [
        | inl h ↦ (let f = x.field in let same : w ≡ Some x.target = cc in is ∙ ap Some same)
        | inr h ↦ absurd (let f = x.field in
            let same : Some x.target ≡ h.0 = (let g = h.1 in cc) in
            clean_stays l t'' (field_word x.at x.index) h.0 w (subst (IsOutsideSet l) same x.clean) h.2)
      ];
      clean = x.clean;
      in_card = x.in_card;
      into = x.into;
      leaves = x.leaves;
      is_new = elim x.is_new [ inl k ↦ inl (record { at = k.at; is = b.taken_grows k.at (x.at / l.words) k.is }) | inr k ↦ inr k ];
    }

crossing_back : (l : Layout) (t t' : Notes) (s s' s'' : Space) (d d' d'' : Destinations) (c r : ℕ) → IsAfter l t t' s s' d d'
    → NewCrossing l s' s'' d'' c r → NewCrossing l s s'' d'' c r
crossing_back l t t' s s' s'' d d' d'' c r a x = record {
  at = x.at;
  index = x.index;
  target = x.target;
  object = x.object;
  here = x.here;
  outside = x.outside;
  field = x.field;
  clean = x.clean;
  in_card = x.in_card;
  into = x.into;
  leaves = x.leaves;
  is_new = elim x.is_new [
    | inl k ↦ inl k
    | inr k ↦ inr (λ y e.
        let (z, f, n) = a.stays x.at y x.outside e in
        let (v, g, i) = k z f in
        elim (a.fields x.at y z x.index (Some v) x.outside e f g) [ inl h ↦ (v, h, i) | inr h ↦ absurd (let q = h.2.settled.0 in cc) ])
  ];
}

pub after_after : (l : Layout) (t t' t'' : Notes) (s s' s'' : Space) (d d' d'' : Destinations) → IsAfter l t t' s s' d d'
    → IsAfter l t' t'' s' s'' d' d'' → IsAfter l t t'' s s'' d d''
after_after l t t' t'' s s' s'' d d' d'' a b = record {
  noted_grows = notes_further t t' t'' a.noted_grows b.noted_grows;
  noted_for = for_further (NewCrossing l s s'' d'') t t' t'' a.noted_grows
      (for_others (NewCrossing l s s' d') (NewCrossing l s s'' d'') t t' (λ c r x. crossing_on l t t' t'' s s' s'' d d' d'' c r b x)
      a.noted_for)
      (for_others (NewCrossing l s' s'' d'') (NewCrossing l s s'' d'') t' t'' (λ c r x. crossing_back l t t' s s' s'' d d' d'' c r a x)
      b.noted_for);
  forward_grows = λ c f e. b.forward_grows c f (a.forward_grows c f e);
  taken_grows = λ i j e. b.taken_grows i j (a.taken_grows i j e);
  used_grows = λ k. let p = a.used_grows k in let q = b.used_grows k in omega arith;
  stays = λ c y o e. let (z, q, n) = a.stays c y o e in let (z', q', n') = b.stays c z o q in (z', q', n' ∙ n);
  new_above = λ c y o e. elim (b.new_above c y o e) [
    | inl q ↦ a.new_above c q.0 o q.1
    | inr q ↦ inr (above_more (c / l.words * l.words) (s.used (c / l.words)) (s'.used (c / l.words)) c q (a.used_grows (c / l.words)))
  ];
  closed = λ k w n.
      let (e, m) = a.closed k w n in
      let (e', m') = b.closed k (record { at = w.at; is = a.taken_grows w.at k w.is }) m in
      (λ c y r q. let (y', q') = e' c y r q in e c y' r q', m');
  fields = λ c y y' i w o e e' g.
      let (z, q, n) = a.stays c y o e in
      elim (b.fields c z y' i w o q e' g) [
        | inl h ↦ elim (a.fields c y z i w o e q h) [
          | inl m ↦ inl m
          | inr m ↦ inr (m.0, m.1, updated_grows l t' t'' (field_word c i) m.0 w b.noted_grows m.2)
        ]
        | inr h ↦ elim (a.fields c y z i h.0 o e q h.1) [
          | inl m ↦ inr (h.0, m, h.2)
          | inr m ↦ absurd (clean_stays l t'' (field_word c i) h.0 w m.2.settled.0 h.2)
        ]
      ];
}

-- ---- the pause goes on
pub stays_on : {p : Pause} {t : Table} {c : Context} → PauseStands p t c → PauseGoesOn p t t c c
stays_on {p} {t} {c} s = record { stands = s; after = same_after (layout p) c.noted (space p t) c.destinations }

-- its next state stands: the turn does, the notes are, and the rest of the context is the same
pub turned : {p : Pause} {t t' : Table} {c c' : Context} → PauseStands p t c → c'.chosen ≡ c.chosen → c'.card_words ≡ c.card_words
    → IsTurn p t' c'.destinations → AreNotes p c'.noted → PauseStands p t' c'
turned {p} {t} {t'} {c} {c'} s chosen words turn notes = record {
  premises = s.premises;
  turn = turn;
  flags = rw chosen s.flags;
  card = words ∙ s.card;
  notes = notes;
}

pub goes_further : {p : Pause} {t t' t'' : Table} {c c' c'' : Context} → PauseGoesOn p t t' c c' → PauseGoesOn p t' t'' c' c''
    → PauseGoesOn p t t'' c c''
goes_further {p} {t} {t'} {t''} {c} {c'} {c''} a b = record {
  stands = b.stands;
  after = after_after (layout p) c.noted c'.noted c''.noted (space p t) (space p t') (space p t'') c.destinations c'.destinations
      c''.destinations a.after b.after;
}

module _ {p : Pause} {t t' : Table} {c c' : Context} (on : PauseGoesOn p t t' c c') where
  -- what is clean or settled stays so
  pub clean_after : (b i : ℕ) → in_set p b ≡ false → IsSpaceObject (space p t) b → IsFieldClean (layout p) (space p t) b i
      → IsFieldClean (layout p) (space p t') b i
  clean_after b i out o clean z w e g = elim (on.after.fields b o.0 z i w out o.1 e g) [ inl q ↦ clean o.0 w o.1 q | inr q ↦ q.2.settled.0 ]

  pub settled_after : (b i : ℕ) → in_set p b ≡ false → IsSpaceObject (space p t) b → IsFieldSettled (layout p) c.noted (space p t) b i
      → IsFieldSettled (layout p) c'.noted (space p t') b i
  settled_after b i out o settled z w e g =
      elim (on.after.fields b o.0 z i w out o.1 e g) [
        | inl q ↦ settled_grows (layout p) c.noted c'.noted (field_word b i) w on.after.noted_grows (settled o.0 w o.1 q)
        | inr q ↦ q.2.settled
      ]

  pub taken_after : (k : ℕ) → IsDestination c.destinations k → IsDestination c'.destinations k
  taken_after k w = record { at = w.at; is = on.after.taken_grows w.at k w.is }
