-- Steps of a search: a level that grows.
use Rattle.std.proofs.Common.{◌≡◌, ◌∙◌, ℕ, suc, ◌<◌, ◌≤◌, List, [], ◌∷◌, Option, Some, None, length, refl, sym, ap, subst}
use Rattle.std.proofs.Common.{arith, inl, inr}
use Rattle.std.specs.Prelude.{IsSome, slice_get, slice_set}
use Rattle.std.proofs.lemmas.Bool.{cases_eq}
use Rattle.heap_model.specs.Heap.{Stored}
use Rattle.step_core.specs.Stands.{CoreState, kept_of, name_of}
use Rattle.heap_walk.specs.Holders.{holder_if, holder_by, field_holder}
use Rattle.heap_walk.specs.Searching.{name_at, name_if, entry_of_step, IsAmong, LeadsInto, IsCovered, IsNewStep, HasGrown}
use Rattle.heap_walk.specs.declared.holders.Holder.{Holder}
use Rattle.heap_walk.proofs.Places.{other_place, this_place, this_name}

-- ---- what an entry of a kept object says of it
by_name : (name : ℕ) (p w : Option ℕ) (k : ℕ) (h : Holder) → holder_by name p w k ≡ h ∷ [] → name ≡ h.name
by_name name (Some i) w k h e = let is : field_holder name 2 i k ≡ h = cc in ap (λ (x : Holder). x.name) is
by_name name None (Some i) k h e = let is : field_holder name 3 i k ≡ h = cc in ap (λ (x : Holder). x.name) is
by_name name None None k h e = absurd (cc)

by_none : (name : ℕ) (p w : Option ℕ) (k : ℕ) (h : Holder) → holder_by name p w k ≡ h ∷ [] → h.mutator ≡ 0
by_none name (Some i) w k h e = let is : field_holder name 2 i k ≡ h = cc in sym (ap (λ (x : Holder). x.mutator) is)
by_none name None (Some i) k h e = let is : field_holder name 3 i k ≡ h = cc in sym (ap (λ (x : Holder). x.mutator) is)
by_none name None None k h e = absurd (cc)

pub held_name : (c : CoreState) (n a : ℕ) (h : Holder) → holder_if c n a (kept_of c a) ≡ h ∷ [] → name_of (kept_of c a) ≡ Some h.name
held_name c n a h e = go (kept_of c a) refl
  where
    go : (o : Option Stored) → kept_of c a ≡ o → name_of (kept_of c a) ≡ Some h.name
    go None is = absurd (let none = sym (ap (holder_if c n a) is) ∙ e in cc)
    go (Some s) is = ap name_of is ∙ ap Some (by_name s.name _ _ _ h (sym (ap (holder_if c n a) is) ∙ e))

pub held_plain : (c : CoreState) (n a : ℕ) (h : Holder) → holder_if c n a (kept_of c a) ≡ h ∷ [] → h.mutator ≡ 0
held_plain c n a h e = go (kept_of c a) refl
  where
    go : (o : Option Stored) → kept_of c a ≡ o → h.mutator ≡ 0
    go None is = absurd (let none = sym (ap (holder_if c n a) is) ∙ e in cc)
    go (Some s) is = by_none s.name _ _ _ h (sym (ap (holder_if c n a) is) ∙ e)

-- the entry of a step is what was told
pub step_entry : (h : Holder) (at : ℕ) → h.mutator ≡ 0
    → entry_of_step (record { name = h.name; kind = h.kind; mutator = at; place = h.place; fields = h.fields }) ≡ h
step_entry h at e =
    ap (λ (m : ℕ). record { name = h.name; kind = h.kind; mutator = m; place = h.place; fields = h.fields }) (sym e)

-- what isn't kept is covered
pub covered_none : (c : CoreState) (q : List Holder) (from to next room a : ℕ) → (IsSome (kept_of c a) → ⊥)
    → IsCovered c q from to next room a
covered_none c q from to next room a none = λ x n h on under named told strong. go n h (kept_of c a) refl told
  where
    go : (n : ℕ) (h : Holder) (o : Option Stored) → kept_of c a ≡ o → holder_if c n a (kept_of c a) ≡ h ∷ [] → IsAmong q next room h.name
    go n h None is told = absurd (let gone = sym (ap (holder_if c n a) is) ∙ told in cc)
    go n h (Some s) is told = absurd (none (rw is refl))

-- ---- a step that leads into a range does so in a buffer with the same steps there
pub leads_same : (c : CoreState) (q r : List Holder) (from to : ℕ) (h : Holder)
    → ((y : ℕ) → from ≤ y → slice_get r y ≡ slice_get q y) → LeadsInto c q from to h → LeadsInto c r from to h
leads_same c q r from to h same l = record {
  on = l.on;
  under = l.under;
  next = l.next;
  named = ap name_if (same h.mutator l.on) ∙ l.named;
  holds = l.holds;
}

pub leads_wider : (c : CoreState) (q : List Holder) (from to low high : ℕ) (h : Holder) → low ≤ from → to ≤ high → LeadsInto c q from to h
    → LeadsInto c q low high h
leads_wider c q from to low high h down up l = record {
  on = (let on = l.on in omega arith);
  under = (let under = l.under in omega arith);
  next = l.next;
  named = l.named;
  holds = l.holds;
}

pub among_same : (q r : List Holder) (from low to n : ℕ) → low ≤ from → ((y : ℕ) → from ≤ y → slice_get r y ≡ slice_get q y)
    → IsAmong q from to n → IsAmong r low to n
among_same q r from low to n down same i = record {
  at = i.at;
  on = (let on = i.on in omega arith);
  under = i.under;
  named = ap name_if (same i.at i.on) ∙ i.named;
}

-- ---- one step more
module _ (c : CoreState) (q : List Holder) (low last next room : ℕ) (h : Holder) (below : ℕ) (is : next ≡ suc below)
    (within : below < length q) where
  r : List Holder
  r = slice_set q below h

  stays : (y : ℕ) → next ≤ y → slice_get r y ≡ slice_get q y
  unfolding r
  stays y le = other_place q below y h (λ e. absurd {A = ⊥} (omega arith))

  module _ (down : next ≤ low) (new : IsNewStep c q low last next room h) where
    pub grown_more : (old : List Holder) → HasGrown c old q low last next room → HasGrown c old (slice_set q below h) low last below room
    unfolding r stays
    grown_more old g = record {
      down = omega arith;
      same = λ x le. stays x (omega arith) ∙ g.same x le;
      steps = λ x le lt. elim (cases_eq x below) [
        | inl e ↦ record {
          step = h;
          at = subst (λ (y : ℕ). slice_get (slice_set q below h) y ≡ Some h) (sym e) (this_place q below h within);
          leads = leads_same c q (slice_set q below h) low last h (λ y on. stays y (omega arith)) new.0;
        }
        | inr other ↦
            let s = g.steps x (omega arith) lt in
            record {
              step = s.step;
              at = stays x (omega arith) ∙ s.at;
              leads = leads_same c q (slice_set q below h) low last s.step (λ y on. stays y (omega arith)) s.leads;
            }
      ];
      once = λ was x y n xl xu yl yu xn yn. elim (cases_eq x below) [
        | inl ex ↦ elim (cases_eq y below) [
          | inl ey ↦ ex ∙ sym ey
          | inr ny ↦ absurd (new.1 (record {
            at = y;
            on = omega arith;
            under = yu;
            named = sym (ap name_if (stays y (omega arith))) ∙ yn ∙ sym (here x n ex xn);
          }))
        ]
        | inr nx ↦ elim (cases_eq y below) [
          | inl ey ↦ absurd (new.1 (record {
            at = x;
            on = omega arith;
            under = xu;
            named = sym (ap name_if (stays x (omega arith))) ∙ xn ∙ sym (here y n ey yn);
          }))
          | inr ny ↦ g.once was x y n (omega arith) xu (omega arith) yu (sym (ap name_if (stays x (omega arith))) ∙ xn)
              (sym (ap name_if (stays y (omega arith))) ∙ yn)
        ]
      ];
    }
      where
        here : (x n : ℕ) → x ≡ below → name_at (slice_set q below h) x ≡ Some n → Some h.name ≡ Some n
        here x n e named = sym (this_name q below h within)
            ∙ subst (λ (y : ℕ). name_at (slice_set q below h) y ≡ Some n) e named

    pub covered_more : (a : ℕ) → IsCovered c q low last next room a → IsCovered c (slice_set q below h) low last below room a
    unfolding r stays
    covered_more a k = λ x n t on under named told strong.
        among_same q (slice_set q below h) next below room t.name (omega arith) (λ y le. stays y le)
        (k x n t on under (sym (ap name_if (stays x (omega arith))) ∙ named) told strong)

    pub covered_this : (a : ℕ) → name_of (kept_of c a) ≡ Some h.name → below < room
        → IsCovered c (slice_set q below h) low last below room a
    covered_this a mine under = λ x n t on lt named told strong. record {
      at = below;
      on = omega arith;
      under = under;
      named = this_name q below h within ∙ sym mine ∙ held_name c n a t told;
    }
