-- What entries have to do with the graph.
use Rattle.std.proofs.Common.{◌≡◌, ◌∙◌, ℕ, List, [], ◌∷◌, Option, Some, None, length, map, refl, sym, ap, subst, arith}
use Rattle.std.specs.Prelude.{slice_index}
use Rattle.std.specs.List.{AllZip}
use Rattle.heap_model.specs.Graph.{object_named}
use Rattle.heap_model.specs.Heap.{IsShown, Stored}
use Rattle.heap_model.specs.Clearing.{IsWeakShown, kept_word, where_kept}
use Rattle.regions.specs.Table.{object_pointers, object_weaks, pointers_at, weaks_at}
use Rattle.regions.specs.Shaped.{IsShaped}
use Rattle.graph_runs.specs.State.{State}
use Rattle.step_core.specs.Stands.{CoreState, IsWhole, Stands, kept_of, heap_of, name_in, name_of}
use Rattle.step_core.specs.Mutators.{weaks_shown}
use Rattle.heap_walk.specs.Walks.{EntriesShow, entries_at, entry_if, entry_of}
use Rattle.heap_walk.specs.Holders.{LinksShow, names_of}
use Rattle.heap_walk.specs.declared.objects.Entry.{Entry}
use Rattle.heap_walk.proofs.Keeping.{kept_is, kept_tile}
use Rattle.heap_walk.proofs.TileStarts.{tile_below}

-- an entry is that of a kept object
pub record IsOf (c : CoreState) (a : ℕ) (e : Entry) : Type 0 where
  pub object : Stored
  pub at : kept_of c a ≡ Some object
  pub is : entry_of object ≡ e

pub told_of : (c : CoreState) (a : ℕ) (e : Entry) → entries_at c a ≡ e ∷ [] → IsOf c a e
told_of c a e told = go (kept_of c a) refl
  where
    go : (o : Option Stored) → kept_of c a ≡ o → IsOf c a e
    go None is = absurd (let none = sym told ∙ ap entry_if is in cc)
    go (Some s) is = record { object = s; at = is; is = (let one = sym (ap entry_if is) ∙ told in cc) }

same_length : {A B : Type 0} (P : A → B → Type 0) (xs : List A) (ys : List B) → AllZip P xs ys → length xs ≡ length ys
same_length P [] [] h = refl
same_length P (x ∷ xs) (y ∷ ys) h = let e = same_length P xs ys h.1 in omega (arith, e)
same_length P [] (y ∷ ys) h = absurd h
same_length P (x ∷ xs) [] h = absurd h

pub entries_show : (s : State) (c : CoreState) → IsShaped c.table → Stands s c → IsWhole s.graph c → EntriesShow s.graph c
entries_show s c g stands whole = record {
  each = λ a e told.
      let o = told_of c a e told in
      let shown = stands.shows.shows.objects a o.object o.at in
      record {
        object = shown.object;
        named = subst (λ (x : Entry). object_named s.graph x.name ≡ Some shown.object) o.is shown.named;
        word = subst (λ (x : Entry). x.word ≡ slice_index shown.object.values 0) o.is (ap (λ (vs : List ℕ). slice_index vs 0) shown.values);
        pointers = subst (λ (x : Entry). x.pointers ≡ length shown.object.pointers) o.is (same_length _ _ _ shown.pointers);
        weaks = subst (λ (x : Entry). x.weaks ≡ length shown.object.weaks) o.is (same_length _ _ _ shown.weaks);
        values = subst (λ (x : Entry). x.values ≡ length shown.object.values) o.is (ap length shown.values);
      };
  once = λ a b e d p q same.
      let o = told_of c a e p in
      let u = told_of c b d q in
      stands.shows.shows.distinct a b o.object u.object o.at u.at
      (ap (λ (x : Entry). x.name) o.is ∙ same ∙ sym (ap (λ (x : Entry). x.name) u.is));
  reached = λ n r.
      let once = whole.once n r in
      record {
        address = once.address;
        entry = entry_of once.object;
        below = tile_below c.table once.address g (kept_tile c once.address (rw once.at refl));
        told = ap entry_if once.at;
        named = once.named;
      };
}

-- ---- links
shown_name : (c : CoreState) (a n : ℕ) (x : Stored) → kept_of c a ≡ Some x → x.name ≡ n → name_in c.table (Some a) ≡ Some n
shown_name c a n x is named = ap name_of (kept_is c a x is) ∙ ap Some named

word_shows : (c : CoreState) (w v : Option ℕ) → IsShown (heap_of c) w v → name_in c.table w ≡ v
word_shows c None None h = refl
word_shows c None (Some n) h = absurd h
word_shows c (Some a) None h = absurd h
word_shows c (Some a) (Some n) h = shown_name c a n h.0 h.1 h.2

weak_shows : (c : CoreState) (w v : Option ℕ) → IsWeakShown (heap_of c) w v → name_in c.table (kept_word (kept_of c) w) ≡ v
weak_shows c None None h = refl
weak_shows c None (Some n) h = absurd h
weak_shows c (Some a) None h = ap (λ (o : Option Stored). name_in c.table (where_kept o a)) h
weak_shows c (Some a) (Some n) h = ap (λ (o : Option Stored). name_in c.table (where_kept o a)) h.1 ∙ shown_name c a n h.0 h.1 h.2

all_show : (P : Option ℕ → Option ℕ → Type 0) (f : Option ℕ → Option ℕ) → ((w v : Option ℕ) → P w v → f w ≡ v)
    → (ws vs : List (Option ℕ)) → AllZip P ws vs → map f ws ≡ vs
all_show P f one [] [] h = refl
all_show P f one (w ∷ ws) (v ∷ vs) h =
    ap (λ (x : Option ℕ). x ∷ map f ws) (one w v h.0) ∙ ap (λ (l : List (Option ℕ)). v ∷ l) (all_show P f one ws vs h.1)
all_show P f one [] (v ∷ vs) h = absurd h
all_show P f one (w ∷ ws) [] h = absurd h

map_twice : (f g : Option ℕ → Option ℕ) (ws : List (Option ℕ)) → map f (map g ws) ≡ map (λ (w : Option ℕ). f (g w)) ws
map_twice f g [] = refl
map_twice f g (w ∷ ws) = ap (λ (l : List (Option ℕ)). f (g w) ∷ l) (map_twice f g ws)

pub links_show : (s : State) (c : CoreState) → Stands s c → LinksShow s.graph c
unfolding pointers_at weaks_at
links_show s c stands = record {
  roots = all_show (IsShown (heap_of c)) (name_in c.table) (word_shows c) c.roots s.graph.roots stands.shows.shows.roots;
  fields = λ a x is.
      let shown = stands.shows.shows.objects a x is in
      let there = kept_is c a x is in
      let slots : weaks_shown c a ≡ map (kept_word (kept_of c)) (weaks_at c.table a) = rw is refl in
      record {
        object = shown.object;
        named = shown.named;
        pointers = ap (λ (o : Option Stored). names_of c (object_pointers o)) there
            ∙ all_show (IsShown (heap_of c)) (name_in c.table) (word_shows c) x.pointers shown.object.pointers shown.pointers;
        weaks = ap (names_of c) slots
            ∙ ap (λ (o : Option Stored). names_of c (map (kept_word (kept_of c)) (object_weaks o))) there
            ∙ map_twice (name_in c.table) (kept_word (kept_of c)) x.weaks
            ∙ all_show (IsWeakShown (heap_of c)) (λ (w : Option ℕ). name_in c.table (kept_word (kept_of c) w)) (weak_shows c) x.weaks
            shown.object.weaks shown.weaks;
      };
}
