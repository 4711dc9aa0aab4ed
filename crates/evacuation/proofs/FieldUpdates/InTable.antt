-- A field that names the set, over the table: its target is copied, and it is written.
use Rattle.std.proofs.Common.{◌≡◌, ℕ, ◌<◌, true, false, Option, Some, subst, slice_get}
use Rattle.heap_model.specs.Heap.{Stored, fields}
use Rattle.regions.specs.Table.{Table, moved_to, fields_at, set_field, tile_in}
use Rattle.object_copy.specs.Copies.{Destinations}
use Rattle.refinement.specs.Remembering.{field_word}
use Rattle.evacuation.specs.Space.{IsOutsideSet, IsField, IsFieldClean, IsFieldSettled, IsNamed, IsCardNoted, NotesWord, WritesField}
use Rattle.evacuation.specs.Turns.{Pause, IsPause, IsTurn, After, in_set, kept_now, layout, plan, space}
use Rattle.evacuation.proofs.Turns.Following.{after_after}
use Rattle.evacuation.proofs.FieldUpdates.Updated.{field_named, updated_after, updated_copying, updated_settled}
use Rattle.evacuation.proofs.FieldUpdates.FieldCards.{pointer_is}
use Rattle.evacuation.proofs.FieldUpdates.Written.{sets_field, write_stays, write_taken}
use Rattle.evacuation.specs.declared.room.Notes.{Notes}

module _ (p : Pause) (q : IsPause p) (t : Table) (d : Destinations) (turn : IsTurn p t d) (at i : ℕ) (out : in_set p at ≡ false)
    (field : IsField (space p t) at i) where
  pub named : (a : ℕ) → slice_get (fields_at t at) i ≡ Some (Some a) → in_set p a ≡ true → IsNamed (layout p) (plan p) a
  named a e inside = field_named (layout p) (plan p) (space p t) d q.plan_is turn.copying at i a field.object out field.at
      (pointer_is p t at i field.object (Some a) field.at e) inside

  -- what a field that isn't updated names
  pub unchanged : (v : Option ℕ) → slice_get (fields_at t at) i ≡ Some v → IsOutsideSet (layout p) v
      → IsFieldClean (layout p) (space p t) at i
  unchanged v e c y w here f = let k = pointer_is p t at i y v here e in let same : v ≡ w = cc in subst (IsOutsideSet (layout p)) same c

  module _ (t1 t2 : Table) (d1 : Destinations) (turn1 : IsTurn p t1 d1) (after1 : (noted : Notes) → After p noted noted t t1 d d1)
      (frame : (b : ℕ) (y : Stored) → in_set p b ≡ false → kept_now p t b ≡ Some y → kept_now p t1 b ≡ Some y) (a b : ℕ)
      (names : slice_get (fields_at t at) i ≡ Some (Some a)) (inside : in_set p a ≡ true)
      (place : moved_to (tile_in t1 a) ≡ Some b) where
    abbrev y : Stored
    y = field.object

    here : kept_now p t1 at ≡ Some y
    here = frame at y out field.at

    pub there : IsField (space p t1) at i
    there = record { object = y; at = here; within = field.within }

    named_there : slice_get (fields y) i ≡ Some (Some a)
    named_there = pointer_is p t at i y (Some a) field.at names

    module _ (positive : 0 < t1.words_per_region) (is : t2 ≡ set_field t1 at i (Some b)) where
      sets : WritesField (space p t1) (space p t2) at i (Some b) y
      sets = sets_field p q t1 t2 d1 turn1 positive at i (Some b) y out here is

      update_turn : IsTurn p t2 d1
      update_turn = record {
        copying = updated_copying (layout p) (plan p) (space p t1) (space p t2) d1 turn1.copying at i a
            b y out here named_there inside place sets;
        table = write_stays p q t1 t2 d1 turn1 positive at i (Some b) y out here is;
        taken = write_taken p q t1 t2 d1 turn1 positive at i (Some b) y out here is;
      }

      -- what stays once the word's card is noted, and that the field is settled then
      pub updated : IsTurn p t2 d1 × ((noted noted' : Notes) → NotesWord (layout p) noted noted' (field_word at i) b
          → After p noted noted' t t2 d d1 × IsFieldSettled (layout p) noted' (space p t2) at i)
      updated = (
        update_turn,
        λ noted noted' notes. (
          after_after (layout p) noted noted noted' (space p t) (space p t1) (space p t2) d d1 d1 (after1 noted)
              (updated_after (layout p) (plan p) (space p t1) (space p t2) d1 turn1.copying at i a b y out here named_there inside place
              sets noted noted' notes),
          updated_settled (layout p) (plan p) (space p t1) (space p t2) d1 turn1.copying at i a b y out here named_there
              inside place sets noted noted' notes,
        ),
      )

-- a clean field whose card is noted
pub noted_settled : (p : Pause) (t : Table) (at i : ℕ) (noted : Notes) (v : Option ℕ) → slice_get (fields_at t at) i ≡ Some v
    → IsFieldClean (layout p) (space p t) at i → IsCardNoted (layout p) noted (field_word at i) v
    → IsFieldSettled (layout p) noted (space p t) at i
noted_settled p t at i noted v e c n y w here f =
    let k = pointer_is p t at i y v here e in
    let same : v ≡ w = cc in
    (c y w here f, subst (IsCardNoted (layout p) noted (field_word at i)) same n)
