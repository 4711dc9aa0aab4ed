-- What a write to an object changes, with no word in it.
use Rattle.regions.proofs.Common.{◌≡◌, ◌≢◌, ℕ, ◌+◌, ◌/◌, ◌%◌, ◌<◌, Option, Some, length, get_or, refl, sym, ◌∙◌, ap, subst, inl, inr}
use Rattle.regions.proofs.Common.{get_or-set_same, get_or-set_other, length-set, cases_eq, Object, tile_size, Stored}
use Rattle.regions.proofs.Common.{with_field, Region, Free, Ordinary, First, Rest, Table, region_at, nth_region, tile_in, tile_object}
use Rattle.regions.proofs.Common.{object_at, with_object, put_object, set_pointer, set_weak, set_field, set_value, kind_of, region_kind}
use Rattle.regions.proofs.Common.{used_of, HasNoForwarded}
use Rattle.heap_model.proofs.Fields.{field_set}
use Rattle.regions.proofs.Tiles.Laws.{object_tile, known_region, object_at-put_same, tile_in-put_other}
pub use Rattle.regions.proofs.Words.Fields.{field_size}
use Rattle.regions.proofs.Words.Fields.{with_pointer, with_weak, with_held}
use Rattle.regions.specs.Table.{set_held}
use Rattle.regions.proofs.Words.HeldSlots.{set_held-is}
use Rattle.regions.proofs.Words.Values.{with_value, set_value-is}
use Rattle.regions.proofs.Words.Access.{set_pointer-is, set_weak-is}
use Rattle.regions.proofs.Tiles.Kept.{put_object-moved}
use Rattle.regions.proofs.Tiles.Totals.{used_put}

-- one object is written, and no other tile changed
pub record WritesObject (t t' : Table) (x : ℕ) (s s' : Stored) : Type 0 where
  pub size : t'.words_per_region ≡ t.words_per_region
  pub count : length t'.regions ≡ length t.regions
  pub was : object_at t x ≡ Some s
  pub is : object_at t' x ≡ Some s'
  pub others : (y : ℕ) → y ≢ x → tile_in t' y ≡ tile_in t y
  pub kinds : (k : ℕ) → kind_of t' k ≡ kind_of t k
  pub unmoved : HasNoForwarded t → HasNoForwarded t'
  pub used : (k : ℕ) → used_of t' k ≡ used_of t k

kind_with : (r : Region) (o : ℕ) (s : Stored) → region_kind (with_object r o s) ≡ region_kind r
kind_with Free o s = refl
kind_with (Ordinary ts) o s = refl
kind_with (First old) o s = refl
kind_with (Rest n) o s = refl

kind_put : (t : Table) (x : ℕ) (s s' : Stored) (k : ℕ) → object_at t x ≡ Some s → kind_of (put_object t x s') k ≡ kind_of t k
unfolding kind_of nth_region put_object region_at object_at tile_in
kind_put t x s s' k h =
    let tile = object_tile _ s h in
    let j : ℕ = x / t.words_per_region in
    let r : Region = with_object (get_or t.regions j Free) (x % t.words_per_region) s' in
    elim (cases_eq k j) [
      | inl q ↦ rw q (ap region_kind (get_or-set_same t.regions j r Free (known_region t.regions j _ _ tile))
          ∙ kind_with (get_or t.regions j Free) (x % t.words_per_region) s')
      | inr q ↦ ap region_kind (get_or-set_other t.regions j k r Free q)
    ]

put_size : (t : Table) (x : ℕ) (s : Stored) → (put_object t x s).words_per_region ≡ t.words_per_region
unfolding put_object
put_size t x s = refl

put_count : (t : Table) (x : ℕ) (s : Stored) → length (put_object t x s).regions ≡ length t.regions
unfolding put_object
put_count t x s = length-set t.regions _ _

pub object_put : (t : Table) (x : ℕ) (s s' : Stored) → 0 < t.words_per_region → object_at t x ≡ Some s
    → tile_size (Object s') ≡ tile_size (Object s) → WritesObject t (put_object t x s') x s s'
object_put t x s s' z h e = record {
  size = put_size t x s';
  count = put_count t x s';
  was = h;
  is = object_at-put_same t x s s' h;
  others = λ y n. tile_in-put_other t x y s s' z h e n;
  kinds = λ k. kind_put t x s s' k h;
  unmoved = λ m. put_object-moved (λ _. ⊥) t x s' m;
  used = λ k. used_put t x s s' k h e;
}

pub pointer_put : (t : Table) (x i : ℕ) (v : Option ℕ) (s : Stored) → 0 < t.words_per_region → object_at t x ≡ Some s
    → WritesObject t (set_pointer t x i v) x s (with_pointer s i v)
pointer_put t x i v s z h =
    subst (λ (u : Table). WritesObject t u x s (with_pointer s i v)) (sym (set_pointer-is t x i v s h))
    (object_put t x s (with_pointer s i v) z h
    (ap (λ n. 2 + n + (length s.weaks + length s.held) + length s.values) (length-set s.pointers i v)))

pub weak_put : (t : Table) (x i : ℕ) (v : Option ℕ) (s : Stored) → 0 < t.words_per_region → object_at t x ≡ Some s
    → WritesObject t (set_weak t x i v) x s (with_weak s i v)
weak_put t x i v s z h =
    subst (λ (u : Table). WritesObject t u x s (with_weak s i v)) (sym (set_weak-is t x i v s h))
    (object_put t x s (with_weak s i v) z h
    (ap (λ n. 2 + length s.pointers + (n + length s.held) + length s.values) (length-set s.weaks i v)))

pub held_put : (t : Table) (x i : ℕ) (v : Option ℕ) (s : Stored) → 0 < t.words_per_region → object_at t x ≡ Some s
    → WritesObject t (set_held t x i v) x s (with_held s i v)
held_put t x i v s z h =
    subst (λ (u : Table). WritesObject t u x s (with_held s i v)) (sym (set_held-is t x i v s h))
    (object_put t x s (with_held s i v) z h
    (ap (λ n. 2 + length s.pointers + (length s.weaks + n) + length s.values) (length-set s.held i v)))

-- a field that is set leaves as many weak slots
pub field_weaks : (s : Stored) (i : ℕ) (v : Option ℕ) → length (with_field s i v).weaks ≡ length s.weaks
field_weaks s i v = (field_set s i v).slots

-- and as many held slots
pub field_held : (s : Stored) (i : ℕ) (v : Option ℕ) → length (with_field s i v).held ≡ length s.held
field_held s i v = (field_set s i v).held

pub field_put : (t : Table) (x i : ℕ) (v : Option ℕ) (s : Stored) → 0 < t.words_per_region → object_at t x ≡ Some s
    → WritesObject t (set_field t x i v) x s (with_field s i v)
unfolding set_field
field_put t x i v s z h =
    let same = field_size s i v in
    let is : set_field t x i v ≡ put_object t x (with_field s i v) = rw h refl in
    subst (λ (u : Table). WritesObject t u x s (with_field s i v)) (sym is) (object_put t x s (with_field s i v) z h same)

pub value_put : (t : Table) (x i v : ℕ) (s : Stored) → 0 < t.words_per_region → object_at t x ≡ Some s
    → WritesObject t (set_value t x i v) x s (with_value s i v)
value_put t x i v s z h =
    subst (λ (u : Table). WritesObject t u x s (with_value s i v)) (sym (set_value-is t x i v s h))
    (object_put t x s (with_value s i v) z h
    (ap (λ n. 2 + length s.pointers + (length s.weaks + length s.held) + n) (length-set s.values i v)))

pub object_of_tile : (t : Table) (y : ℕ) → object_at t y ≡ tile_object (tile_in t y)
unfolding object_at
object_of_tile t y = refl

-- other tiles that stay are other objects that stay
pub object_same : (t t' : Table) (y : ℕ) → tile_in t' y ≡ tile_in t y → object_at t' y ≡ object_at t y
unfolding object_at
object_same t t' y e = ap tile_object e
