-- The fields of an object, one after another.
use Rattle.std.proofs.Common.{◌≡◌, ℕ, ◌+◌, ◌<◌, ◌≤◌, length, sym, ap, subst, inl, inr, arith, false}
use Rattle.std.proofs.lemmas.Bool.{cases_eq}
use Rattle.heap_model.specs.Heap.{Stored, fields}
use Rattle.regions.specs.Table.{Table}
use Rattle.evacuation.specs.Space.{IsField, IsFieldSettled, IsSpaceObject, IsObjectSettled, IsStill}
use Rattle.evacuation.specs.Turns.{Pause, PauseGoesOn, in_set, layout, space}
use Rattle.evacuation.specs.declared.room.Context.{Context}
use Rattle.evacuation.specs.Cursors.{AreFieldsSettled}
use Rattle.evacuation.proofs.Lists.{get_below}
use Rattle.evacuation.proofs.Turns.Following.{settled_after}
use Rattle.evacuation.specs.declared.room.Notes.{Notes}

pub still_field : (p : Pause) (t : Table) (at n i : ℕ) → IsStill (space p t) at n → i < n → IsField (space p t) at i
still_field p t at n i s h = let (y, e, c) = s in record { object = y; at = e; within = omega arith }

pub fields_more : {p : Pause} {t t' : Table} {c c' : Context} (at n : ℕ) → PauseGoesOn p t t' c c' → in_set p at ≡ false
    → IsSpaceObject (space p t) at → AreFieldsSettled p c.noted t at n → IsFieldSettled (layout p) c'.noted (space p t') at n
    → AreFieldsSettled p c'.noted t' at (n + 1)
fields_more {p} {t} {t'} {c} {c'} at n on out o settled last i k = elim (cases_eq i n) [
  | inl q ↦ subst (IsFieldSettled (layout p) c'.noted (space p t') at) (sym q) last
  | inr q ↦ settled_after on at i out o (settled i (omega arith))
]

pub fields_all : (p : Pause) (noted : Notes) (t : Table) (at m n : ℕ) → AreFieldsSettled p noted t at n → IsStill (space p t) at m
    → m ≤ n → IsObjectSettled (layout p) noted (space p t) at
fields_all p noted t at m n settled still h i y w e f =
    let (z, e1, count) = still in
    let same : z ≡ y = cc in
    let within = get_below (fields y) i w f in
    let c' = ap (λ (v : Stored). length (fields v)) same in
    settled i (omega arith) y w e f
