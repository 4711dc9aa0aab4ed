-- How a way is searched for: steps in a buffer, from its end downward.
use Rattle.std.specs.Prelude.{◌≡◌, ◌<◌, ◌≤◌, ℕ, zero, suc, List, [], ◌∷◌, Option, Some, None, length, slice_get}
use Rattle.step_core.specs.Stands.{CoreState, kept_of, name_of}
use Rattle.heap_walk.specs.Holders.{holder_if, root_holders}
use Rattle.heap_walk.specs.Paths.{HoldsByPointer, HoldsByRoot}
use Rattle.heap_walk.specs.declared.holders.Holder.{Holder}
use Rattle.heap_walk.specs.declared.steps.RootStep.{RootStep}

-- a root that holds the object of a name, none if no root does
abbrev pub IsRootOf : CoreState → ℕ → Option Holder → Type 0
IsRootOf c n None = (p : ℕ) → p < length c.roots → root_holders c n p ≡ []
IsRootOf c n (Some h) = HoldsByRoot c n h

-- the entry of a kept object, if a pointer of it leads to the object of a name
abbrev pub IsPointerOf : CoreState → ℕ → ℕ → Option Holder → Type 0
IsPointerOf c a n None = (h : Holder) → holder_if c n a (kept_of c a) ≡ h ∷ [] → h.kind ≡ 2 → ⊥
IsPointerOf c a n (Some h) = (holder_if c n a (kept_of c a) ≡ h ∷ []) × (h.kind ≡ 2)

-- the name of the step at a place of the buffer
abbrev pub name_if : Option Holder → Option ℕ
name_if None = None
name_if (Some h) = Some h.name

abbrev pub name_at : List Holder → ℕ → Option ℕ
name_at q x = name_if (slice_get q x)

-- a step of this name is among those from one place on to below another
pub record IsAmong (q : List Holder) (from to n : ℕ) : Type 0 where
  pub at : ℕ
  pub on : from ≤ at
  pub under : at < to
  pub named : name_at q at ≡ Some n

-- a step has the place of the step that it leads to where the entry of an object has 0
abbrev pub entry_of_step : Holder → Holder
entry_of_step h = record { name = h.name; kind = h.kind; mutator = 0; place = h.place; fields = h.fields }

-- a step leads by a pointer to one at a place from one on to below another
pub record LeadsInto (c : CoreState) (q : List Holder) (from to : ℕ) (h : Holder) : Type 0 where
  pub on : from ≤ h.mutator
  pub under : h.mutator < to
  pub next : ℕ
  pub named : name_at q h.mutator ≡ Some next
  pub holds : HoldsByPointer c next (entry_of_step h)

-- and is at a place
pub record IsStepAt (c : CoreState) (q : List Holder) (from to x : ℕ) : Type 0 where
  pub step : Holder
  pub at : slice_get q x ≡ Some step
  pub leads : LeadsInto c q from to step

-- no pointer of the object at an address leads to a step from one place on to below another
abbrev pub LeadsNowhere : CoreState → List Holder → ℕ → ℕ → ℕ → Type 0
LeadsNowhere c q from to a = (x n : ℕ) (h : Holder) → from ≤ x → x < to → name_at q x ≡ Some n
    → holder_if c n a (kept_of c a) ≡ h ∷ [] → h.kind ≡ 2 → ⊥

-- a step of a kept object into such a range, none if no pointer of it leads there
abbrev pub IsLinkOf : CoreState → ℕ → List Holder → ℕ → ℕ → Option Holder → Type 0
IsLinkOf c a q from to None = LeadsNowhere c q from to a
IsLinkOf c a q from to (Some h) = LeadsInto c q from to h × (name_of (kept_of c a) ≡ Some h.name)

-- if a pointer of the object at an address leads there, the object is among the steps
abbrev pub IsCovered : CoreState → List Holder → ℕ → ℕ → ℕ → ℕ → ℕ → Type 0
IsCovered c q from to next room a = (x n : ℕ) (h : Holder) → from ≤ x → x < to → name_at q x ≡ Some n
    → holder_if c n a (kept_of c a) ≡ h ∷ [] → h.kind ≡ 2 → IsAmong q next room h.name

-- a step of an object that isn't among the steps yet
abbrev pub IsNewStep : CoreState → List Holder → ℕ → ℕ → ℕ → ℕ → Holder → Type 0
IsNewStep c q from to next room h = LeadsInto c q from to h × (IsAmong q next room h.name → ⊥)

-- the step of a kept object, if it is new; else the object is covered
abbrev pub IsNewStepOf : CoreState → ℕ → List Holder → ℕ → ℕ → ℕ → ℕ → Option Holder → Type 0
IsNewStepOf c a q from to next room None = IsCovered c q from to next room a
IsNewStepOf c a q from to next room (Some h) = IsNewStep c q from to next room h × (name_of (kept_of c a) ≡ Some h.name)

-- no two steps have the same name
abbrev pub IsOnce : List Holder → ℕ → ℕ → Type 0
IsOnce q from to = (x y n : ℕ) → from ≤ x → x < to → from ≤ y → y < to → name_at q x ≡ Some n → name_at q y ≡ Some n → x ≡ y

-- new steps came before a level, each into it
pub record HasGrown (c : CoreState) (old new : List Holder) (low last next room : ℕ) : Type 0 where
  pub down : next ≤ low
  pub same : (x : ℕ) → low ≤ x → slice_get new x ≡ slice_get old x
  pub steps : (x : ℕ) → next ≤ x → x < low → IsStepAt c new low last x
  pub once : IsOnce old low room → IsOnce new next room

-- a level is added: all objects of which a pointer leads to the last one are steps then; or one was left out, since there was no room
abbrev pub GrowsTo : CoreState → List Holder → List Holder → ℕ → ℕ → ℕ → Option ℕ → Type 0
GrowsTo c old new low last room None = HasGrown c old new low last 1 room × ((h : Holder) × IsNewStep c new low last 1 room h)
GrowsTo c old new low last room (Some next) =
    (0 < next) × HasGrown c old new low last next room × ((a : ℕ) → IsCovered c new low last next room a)

-- a root that holds a step of a level, none if no root holds one
pub record IsRootStep (c : CoreState) (q : List Holder) (from to : ℕ) (r : RootStep) : Type 0 where
  pub on : from ≤ r.at
  pub under : r.at < to
  pub name : ℕ
  pub named : name_at q r.at ≡ Some name
  pub root : HoldsByRoot c name r.root

abbrev pub IsRootStepIn : CoreState → List Holder → ℕ → ℕ → Option RootStep → Type 0
IsRootStepIn c q from to None = (x n : ℕ) (h : Holder) → from ≤ x → x < to → name_at q x ≡ Some n → HoldsByRoot c n h → ⊥
IsRootStepIn c q from to (Some r) = IsRootStep c q from to r

-- so many steps lead from a place to the last one, each to a higher place
abbrev pub Chain : CoreState → List Holder → ℕ → ℕ → ℕ → Type 0
Chain c q room x zero = suc x ≡ room
Chain c q room x (suc d) = (h : Holder) × (slice_get q x ≡ Some h) × LeadsInto c q (suc x) room h × Chain c q room h.mutator d
