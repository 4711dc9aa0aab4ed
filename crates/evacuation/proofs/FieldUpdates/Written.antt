-- A field is written, as copying sees it.
use Rattle.std.proofs.Common.{◌≡◌, ℕ, ◌*◌, ◌/◌, ◌<◌, ◌≤◌, ◌≢◌, false, None, Option, Some, length, sym, ap, ◌∙◌, subst, inl, inr}
use Rattle.std.proofs.Common.{arith}
use Rattle.std.proofs.lemmas.Bool.{cases_eq}
use Rattle.heap_model.specs.Heap.{Stored, with_field}
use Rattle.heap_model.proofs.Fields.{field_set}
use Rattle.regions.specs.Tiles.{Object, tile_size}
use Rattle.regions.specs.Table.{Table, kind_of, moved_to, object_at, set_field, tile_in, EachForwardedIn}
use Rattle.regions.specs.Rows.{kind_is_free}
use Rattle.regions.specs.declared.row.Kind.TheVariants as kinds
use Rattle.regions.proofs.Words.FieldAccess.{set_field-is}
use Rattle.regions.proofs.Words.Fields.{field_held}
use Rattle.regions.proofs.Tiles.Changes.{WritesObject, field_put, field_size, field_weaks, object_same}
use Rattle.regions.proofs.Tiles.Kept.{put_object-moved}
use Rattle.object_copy.specs.Copies.{Destinations}
use Rattle.object_copy.proofs.Frees.{free_by_kind, same_free}
use Rattle.object_copy.proofs.Copied.{tile_of_object}
use Rattle.evacuation.specs.Evacuates.{IsSameBut}
use Rattle.evacuation.specs.Space.{WritesField, IsDestination}
use Rattle.evacuation.specs.Turns.{Pause, IsPause, IsTurn, TableStays, all_words, in_set, kept_now, space}
use Rattle.evacuation.proofs.Copies.LeftWords.{left_same}
use Rattle.evacuation.proofs.Turns.KeptObjects.{kept_as, kept_object, kept_some}

module _ (p : Pause) (q : IsPause p) (t t' : Table) (d : Destinations) (turn : IsTurn p t d)
    (positive : 0 < t.words_per_region) (at i : ℕ) (v : Option ℕ) (y : Stored)
    (out : in_set p at ≡ false) (here : kept_now p t at ≡ Some y) (is : t' ≡ set_field t at i v) where
  object : object_at t at ≡ Some y
  object = kept_object p t at y here

  w : WritesObject t t' at y (with_field y i v)
  w = subst (λ (u : Table). WritesObject t u at y (with_field y i v)) (sym is) (field_put t at i v y positive object)

  other : (a : ℕ) → (a ≡ at → ⊥) → object_at t' a ≡ object_at t a
  other a n = object_same t t' a (w.others a n)

  tile' : tile_in t' at ≡ Some (Object (with_field y i v))
  tile' = tile_of_object t' at (with_field y i v) w.is

  tile : tile_in t at ≡ Some (Object y)
  tile = tile_of_object t at y object

  kept_other : (a : ℕ) → (a ≡ at → ⊥) → kept_now p t' a ≡ kept_now p t a
  kept_other a n = kept_as p t t' a w.size (other a n)

  pub sets_field : WritesField (space p t) (space p t') at i v y
  sets_field = record {
    object = kept_some p t t' at y here w.size ∙ w.is;
    others = kept_other;
    forward = λ a. elim (cases_eq a at) [
      | inl e ↦ subst (λ (m : ℕ). moved_to (tile_in t' m) ≡ moved_to (tile_in t m)) (sym e) (ap moved_to tile' ∙ sym (ap moved_to tile))
      | inr n ↦ ap moved_to (w.others a n)
    ];
    used = w.used;
    free = λ k. free_by_kind t' k ∙ ap kind_is_free (w.kinds k) ∙ sym (free_by_kind t k);
    free_count = same_free t t' w.count w.kinds;
    left = left_same (kept_now p t) (kept_now p t') (in_set p) (all_words p)
        (λ a e. kept_other a (λ f. let g = ap (in_set p) f in let h = out in absurd cc));
  }

  same : (x : Stored) → IsSameBut x y → IsSameBut x (with_field y i v)
  same x s =
      let f = field_set y i v in
      record {
        name = f.name ∙ s.name;
        values = f.values ∙ s.values;
        pointers = f.shape ∙ s.pointers;
        weaks = field_weaks y i v ∙ s.weaks;
        held = field_held y i v ∙ s.held;
      }

  pub write_stays : TableStays p t'
  write_stays =
      let s = turn.table in
      record {
        size = w.size ∙ s.size;
        count = w.count ∙ s.count;
        chosen = λ k e. w.kinds k ∙ s.chosen k e;
        was_free = λ k e. elim (s.was_free k e) [ inl f ↦ inl (w.kinds k ∙ f) | inr f ↦ inr (w.kinds k ∙ f) ];
        lowest = λ j k fj free f o. s.lowest j k fj (sym (w.kinds j) ∙ free) f (sym (w.kinds k) ∙ o);
        kinds_same = λ k e n. w.kinds k ∙ s.kinds_same k e n;
        used = λ k e n. w.used k ∙ s.used k e n;
        objects = λ a x o e.
            let (z, f, r) = s.objects a x o e in
            elim (cases_eq a at) [
              | inl g ↦
                  let h = ap (object_at t) g in
                  let k = object in
                  let m : z ≡ y = cc in
                  (with_field y i v, ap (object_at t') g ∙ w.is, same x (subst (IsSameBut x) m r))
              | inr n ↦ (z, other a n ∙ f, r)
            ];
        none =
            λ a o n e. other a (λ f. let g = s.none a o n e in let h = ap (object_at t) f in let k = object in absurd cc) ∙ s.none a o n e;
        unkept = λ a o n e. w.others a (λ f. stood a o n e f) ∙ s.unkept a o n e;
        filled = λ k f o. let b = s.filled k f (sym (w.kinds k) ∙ o) in let u = w.used k in omega arith;
        small = λ a x o f e. elim (cases_eq a at) [
          | inl g ↦
              let h = ap (object_at t') g in
              let k = w.is in
              let r : with_field y i v ≡ x = cc in
              let before = s.small a y o f (ap (object_at t) g ∙ object) in
              let n = field_size y i v in
              subst (λ (m : Stored). 2 * tile_size (Object m) ≤ p.start.words_per_region) r (omega arith)
          | inr n ↦ s.small a x o f (sym (other a n) ∙ e)
        ];
        moved = λ a b n e. s.moved a b n (sym (w.others a (λ f. let g = ap (tile_in t') f in let h = tile' in absurd cc)) ∙ e);
        live = λ a u f e. elim (cases_eq a at) [
          | inl g ↦ (with_field y i v, (let h = ap (tile_in t') g in let k = tile' in cc))
          | inr n ↦ s.live a u f (sym (w.others a n) ∙ e)
        ];
        targets = subst (λ (u : Table). EachForwardedIn (λ a. in_set p a ≡ false) u.regions) (sym (is ∙ set_field-is t at i v y object))
            (put_object-moved (λ a. in_set p a ≡ false) t at (with_field y i v) s.targets);
      }
    where
      -- what is written was kept at the start
      stood : (a : ℕ) → in_set p a ≡ false → kind_of p.start (a / p.start.words_per_region) ≢ kinds.Free
          → kept_now p p.start a ≡ None → a ≡ at → ⊥
      stood a o n e f =
          let now : kept_now p t a ≡ Some y = ap (kept_now p t) f ∙ here in
          let start = kept_some p t p.start a y now (sym turn.table.size) in
          let none = turn.table.none a o n (sym start ∙ e) in
          let some = ap (object_at t) f ∙ object in
          cc

  pub write_taken : (j : ℕ) → IsDestination d j
      → (kind_of p.start j ≡ kinds.Free) × (kind_of t' j ≡ kinds.Ordinary) × (j < length p.start.regions)
  write_taken j k = let r = turn.taken j k in (r.0, w.kinds j ∙ r.1, r.2)
