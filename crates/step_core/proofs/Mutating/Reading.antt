-- What is read of a core, in the words of its graph.
use Rattle.std.proofs.Common.{◌≡◌, ◌<◌, ◌≤◌, ◌∷◌, ◌∙◌, ℕ, zero, suc, Option, Some, None, List, [], length, get_or, refl, sym, ap, subst}
use Rattle.std.proofs.Common.{arith, inl, inr, slice_get, IsSome}
use Rattle.std.specs.List.{AllZip}
use Rattle.std.proofs.lemmas.Option.{slice_get-get_or}
use Rattle.heap_model.specs.Graph.{Graph}
use Rattle.heap_model.specs.Heap.{Heap, Stored, IsShown, IsRoot, IsHeld, fields}
use Rattle.heap_model.proofs.Lists.{AllZip-get}
use Rattle.heap_model.proofs.Changed.{at_least, named_at}
use Rattle.heap_model.proofs.Waiting.{slot_read}
use Rattle.heap_model.specs.Clearing.{IsWeakShown, kept_word}
use Rattle.regions.specs.Table.{object_at, pointers_at, weaks_at, fields_at, object_pointers, object_weaks, object_fields}
use Rattle.heap_model.proofs.Shown.{stands_once}
use Rattle.regions.specs.Shaped.{IsShaped}
use Rattle.regions.proofs.Tiles.InUse.{object_in_use}
use Rattle.marker.proofs.Views.{kept_object}
use Rattle.graph_runs.specs.State.{State, root_at}
use Rattle.step_core.specs.Stands.{CoreState, kept_of, heap_of, ShowsGraph, Stands, IsCore, IsWordOf}
use Rattle.step_core.specs.Stands.{IsRootWord, RootNames, Leads, name_in, name_of, IsWhole}

pub get_or-get : {A : Type 0} (xs : List A) (i : ℕ) (d x : A) → slice_get xs i ≡ Some x → get_or xs i d ≡ x
get_or-get [] i d x e = cc
get_or-get (y ∷ xs) zero d x e = cc
get_or-get (y ∷ xs) (suc i) d x e = get_or-get xs i d x e

-- the root's word shows what the graph has there
pub record RootRead (g : Graph) (c : CoreState) (place : ℕ) (w : Option ℕ) : Type 0 where
  pub here : slice_get c.roots place ≡ Some w
  pub shown : IsShown (heap_of c) w (root_at g place)

pub root_shown : (g : Graph) (c : CoreState) (place : ℕ) (w : Option ℕ) → ShowsGraph g c → place < length c.roots
    → w ≡ get_or c.roots place None → RootRead g c place w
root_shown g c place w s k e =
    let here : slice_get c.roots place ≡ Some w = slice_get-get_or c.roots place None k ∙ ap Some (sym e) in
    let (v, is, shown) = AllZip-get (IsShown (heap_of c)) c.roots g.roots s.shows.roots place w here in
    record { here = here; shown = subst (IsShown (heap_of c) w) (sym (get_or-get g.roots place None v is)) shown }

shown_nil : (h : Heap) (v : Option ℕ) → IsShown h None v → v ≡ None
shown_nil h None s = refl
shown_nil h (Some n) s = absurd s

pub shown_there : (h : Heap) (a : ℕ) (v : Option ℕ) → IsShown h (Some a) v → (x : Stored) × (h.kept a ≡ Some x) × (v ≡ Some x.name)
shown_there h a None s = absurd s
shown_there h a (Some n) s = (s.0, s.1, ap Some (sym s.2))

object_there : (g : Graph) (c : CoreState) (place a : ℕ) → ShowsGraph g c
    → IsShown (heap_of c) (Some a) (root_at g place) → RootNames g c place a
object_there g c place a s shown =
    let (x, at, root) = shown_there (heap_of c) a (root_at g place) shown in
    let o = s.shows.objects a x at in
    record {
      stored = x;
      at = at;
      root = root;
      object = o.object;
      named = o.named;
      found = sym (named_at g x.name (at_least g x.name o.object o.named)) ∙ o.named;
      pointers = o.pointers;
      weaks = o.weaks;
      held = o.held;
      keyed = o.keyed;
      values = o.values;
    }

pub leads : (c : CoreState) (place : ℕ) (w : Option ℕ) → place < length c.roots → w ≡ get_or c.roots place None → Leads c place w
leads c place None k e = λ g s. shown_nil (heap_of c) (root_at g place) (root_shown g c place None s k e).shown
leads c place (Some a) k e = λ g s. object_there g c place a s (root_shown g c place (Some a) s k e).shown

pub root_word : (c : CoreState) (place : ℕ) (w : Option ℕ) → IsCore c → place < length c.roots
    → w ≡ get_or c.roots place None → IsWordOf (heap_of c) w
root_word c place w i k e = record {
  name = root_at i.footing.graph place;
  shown = (root_shown i.footing.graph c place w i.rests.shows k e).shown;
}

pub root_rooted : (c : CoreState) (place : ℕ) (w : Option ℕ) → place < length c.roots
    → w ≡ get_or c.roots place None → IsRootWord (heap_of c) w
root_rooted c place None k e = tt
root_rooted c place (Some a) k e = record { place = place; is = slice_get-get_or c.roots place None k ∙ ap Some (sym e) }

-- what is kept is stored
pub object_kept : (c : CoreState) (a : ℕ) (x : Stored) → kept_of c a ≡ Some x → object_at c.table a ≡ Some x
unfolding kept_of
object_kept c a x e = kept_object c.table c.marker.tams c.marker.bitmaps.previous a x e

pub led_object : (c : CoreState) (place a : ℕ) → IsCore c → Leads c place (Some a) → IsSome (object_at c.table a)
led_object c place a i l = let o = l i.footing.graph i.rests.shows in let e = object_kept c a o.stored o.at in rw e refl

pub pointers_there : (c : CoreState) (a : ℕ) (x : Stored) → kept_of c a ≡ Some x → pointers_at c.table a ≡ x.pointers
unfolding pointers_at
pointers_there c a x e = ap object_pointers (object_kept c a x e)

pub weaks_there : (c : CoreState) (a : ℕ) (x : Stored) → kept_of c a ≡ Some x → weaks_at c.table a ≡ x.weaks
unfolding weaks_at
weaks_there c a x e = ap object_weaks (object_kept c a x e)

pub fields_there : (c : CoreState) (a : ℕ) (x : Stored) → kept_of c a ≡ Some x → fields_at c.table a ≡ fields x
unfolding fields_at
fields_there c a x e = ap object_fields (object_kept c a x e)

-- what a pointer of an object holds that a root names can be stored
pub field_held : (c : CoreState) (b i : ℕ) (x : Stored) (w : Option ℕ) → IsRoot (heap_of c) b → kept_of c b ≡ Some x
    → slice_get x.pointers i ≡ Some w → IsHeld (heap_of c) w
field_held c b i x None root at is = tt
field_held c b i x (Some a) root at is = inr (inl (b, root, record { object = x; at = at; field = i; is = is }))

-- what stands in the graph in a place of a list, which a word shows
pub record FieldRead (c : CoreState) (vs : List (Option ℕ)) (i : ℕ) (w : Option ℕ) : Type 0 where
  pub name : Option ℕ
  pub there : slice_get vs i ≡ Some name
  pub shown : IsShown (heap_of c) w name

pub field_shown : (g : Graph) (c : CoreState) (place a i : ℕ) (w : Option ℕ) (h : RootNames g c place a)
    → slice_get h.stored.pointers i ≡ Some w → FieldRead c h.object.pointers i w
field_shown g c place a i w h e =
    let (v, is, shown) = AllZip-get (IsShown (heap_of c)) h.stored.pointers h.object.pointers h.pointers i w e in
    record { name = v; there = is; shown = shown }

pub slot_shown : (g : Graph) (c : CoreState) (place a i : ℕ) (w : Option ℕ) (h : RootNames g c place a)
    → slice_get h.stored.weaks i ≡ Some w → FieldRead c h.object.weaks i (kept_word (kept_of c) w)
slot_shown g c place a i w h e =
    let (v, is, shown) = AllZip-get (IsWeakShown (heap_of c)) h.stored.weaks h.object.weaks h.weaks i w e in
    record { name = v; there = is; shown = slot_read (heap_of c) w v shown }

past_end : {A : Type 0} (xs : List A) (i : ℕ) → length xs ≤ i → slice_get xs i ≡ None
past_end [] i k = refl
past_end (x ∷ xs) zero k = absurd (omega arith)
past_end (x ∷ xs) (suc i) k = past_end xs i (omega arith)

pub AllZip-length : {A B : Type 0} (R : A → B → Type 0) (xs : List A) (ys : List B) → AllZip R xs ys → length xs ≡ length ys
AllZip-length R [] [] z = refl
AllZip-length R [] (y ∷ ys) z = absurd z
AllZip-length R (x ∷ xs) [] z = absurd z
AllZip-length R (x ∷ xs) (y ∷ ys) z = ap suc (AllZip-length R xs ys z.1)

pub no_field : (g : Graph) (c : CoreState) (place a i : ℕ) (h : RootNames g c place a)
    → length h.stored.pointers ≤ i → slice_get h.object.pointers i ≡ None
no_field g c place a i h k =
    let e = AllZip-length (IsShown (heap_of c)) h.stored.pointers h.object.pointers h.pointers in
    past_end h.object.pointers i (omega arith)

pub no_slot : (g : Graph) (c : CoreState) (place a i : ℕ) (h : RootNames g c place a)
    → length h.stored.weaks ≤ i → slice_get h.object.weaks i ≡ None
no_slot g c place a i h k =
    let e = AllZip-length (IsWeakShown (heap_of c)) h.stored.weaks h.object.weaks h.weaks in
    past_end h.object.weaks i (omega arith)

pub no_value : (g : Graph) (c : CoreState) (place a i : ℕ) (h : RootNames g c place a)
    → length h.stored.values ≤ i → slice_get h.object.values i ≡ None
no_value g c place a i h k = past_end h.object.values i (rw (← h.values) k)

-- the name of what a word shows
pub shown_name : (c : CoreState) (w v : Option ℕ) → IsShown (heap_of c) w v → name_in c.table w ≡ v
shown_name c None None s = refl
shown_name c None (Some n) s = absurd s
shown_name c (Some a) None s = absurd s
shown_name c (Some a) (Some n) s = ap name_of (object_kept c a s.0 s.1) ∙ ap Some s.2

pub word_object : (c : CoreState) (a : ℕ) → IsWordOf (heap_of c) (Some a) → IsSome (object_at c.table a)
word_object c a w = let (x, at, e) = shown_there (heap_of c) a w.name w.shown in let is = object_kept c a x at in rw is refl

-- each reachable object stands, whole and once, in regions in use
pub whole_core : (c : CoreState) → IsShaped c.table → (s : State) → Stands s c → IsWhole s.graph c
whole_core c shaped s st = record {
  once = λ n r. stands_once s.graph (heap_of c) st.shows.shows n r;
  in_use = λ a x at. object_in_use c.table shaped a x (object_kept c a x at);
}
