-- Clearing slot after slot, and object after object, clears them all.
use Rattle.std.proofs.Common.{◌≡◌, ◌+◌, ◌<◌, ◌∷◌, ◌++◌, ◌∙◌}
use Rattle.std.proofs.Common.{ℕ, zero, suc, List, [], Option, Some, slice_get, length, set, map, take, drop, refl, sym, ap, arith}
use Rattle.std.proofs.lemmas.List.{get_or-set_same}
use Rattle.std.proofs.lemmas.List.Edits.{map_over_more}
use Rattle.std.proofs.lemmas.Option.{get_or_from_slice_get, slice_get-get_or}
use Rattle.heap_model.specs.Graph.{Object, held_by}
use Rattle.object_graph.specs.Fields.{object_in}

-- the object with its first slots cleared
abbrev pub cleared_part : (Option ℕ → Option ℕ) → ℕ → Object → Object
cleared_part f slot x = record x { weaks = map f (take slot x.weaks) ++ drop slot x.weaks }

-- the objects with the first slots of one of them cleared
abbrev pub cleared_in : (Option ℕ → Option ℕ) → List Object → ℕ → ℕ → List Object
cleared_in f objects place slot = set objects place (cleared_part f slot (object_in objects place))

set-set : (xs : List Object) (i : ℕ) (a b : Object) → set (set xs i a) i b ≡ set xs i b
set-set [] i a b = refl
set-set (x ∷ xs) zero a b = refl
set-set (x ∷ xs) (suc i) a b = ap (λ (ys : List Object). x ∷ ys) (set-set xs i a b)

part_at : (f : Option ℕ → Option ℕ) (old cur : List Object) (place slot : ℕ) → place < length old → cur ≡ cleared_in f old place slot
    → object_in cur place ≡ cleared_part f slot (object_in old place)
part_at f old cur place slot inside is = ap (λ (xs : List Object). object_in xs place) is
    ∙ get_or-set_same old place (cleared_part f slot (object_in old place)) _ inside

-- one slot more
pub part_more : (f : Option ℕ → Option ℕ) (old cur new : List Object) (place slot : ℕ) (was value : Option ℕ) → place < length old
    → slot < length (object_in old place).weaks → cur ≡ cleared_in f old place slot
    → slice_get (object_in cur place).weaks slot ≡ Some was → value ≡ f was
    → new ≡ set cur place (record (object_in cur place) { weaks = set (object_in cur place).weaks slot value })
    → new ≡ cleared_in f old place (slot + 1)
part_more f old cur new place slot was value inside field is there given made =
    let now = part_at f old cur place slot inside is in
    let weaks = ap (λ (x : Object). x.weaks) now in
    let read = sym (get_or_from_slice_get (object_in cur place).weaks slot was was there) in
    let more = map_over_more f (object_in old place).weaks (object_in cur place).weaks slot was field weaks read in
    let changed = same_but (object_in cur place) (object_in old place) (ap (λ (x : Object). x.pointers) now)
    (ap (λ (x : Object). x.held) now) (ap (λ (x : Object). x.values) now)
    (ap (λ (v : Option ℕ). set (object_in cur place).weaks slot v) given ∙ more) in
    made ∙ ap (λ (x : Object). set cur place x) changed
    ∙ ap (λ (xs : List Object). set xs place (cleared_part f (slot + 1) (object_in old place))) is
    ∙ set-set old place (cleared_part f slot (object_in old place)) (cleared_part f (slot + 1) (object_in old place))
  where
    same_but : (x y : Object) {u v : List (Option ℕ)} → x.pointers ≡ y.pointers → x.held ≡ y.held → x.values ≡ y.values → u ≡ v
        → ◌≡◌ {A = Object} (record x { weaks = u }) (record y { weaks = v })
    same_but x y a b c d = cc

-- all its slots, where it has no held slots
pub part_all : (f : Option ℕ → Option ℕ) (x : Object) (slot : ℕ) → slot ≡ length x.weaks → x.held ≡ []
    → cleared_part f slot x ≡ record x { weaks = map f x.weaks; held = held_by (map f x.weaks) x.held }
part_all f x slot all none =
    let weaks : map f (take slot x.weaks) ++ drop slot x.weaks ≡ map f x.weaks = whole f x.weaks slot all in
    let held : x.held ≡ held_by (map f x.weaks) x.held = none ∙ sym (ap (held_by (map f x.weaks)) none) in
    both x weaks held
  where
    whole : (f : Option ℕ → Option ℕ) (ws : List (Option ℕ)) (n : ℕ) → n ≡ length ws → map f (take n ws) ++ drop n ws ≡ map f ws
    whole f [] n e = rw e refl
    whole f (w ∷ ws) zero e = absurd (omega arith)
    whole f (w ∷ ws) (suc n) e = ap (λ (l : List (Option ℕ)). f w ∷ l) (whole f ws n (omega arith))

    both : (x : Object) {u v p : List (Option ℕ)} → u ≡ v → x.held ≡ p
        → ◌≡◌ {A = Object} (record x { weaks = u }) (record x { weaks = v; held = p })
    both x a b = cc

-- one object more
pub object_more : (f : Object → Object) (old cur new : List Object) (place : ℕ) → place < length old → place < length cur
    → cur ≡ map f (take place old) ++ drop place old → new ≡ set cur place (f (object_in cur place))
    → new ≡ map f (take (place + 1) old) ++ drop (place + 1) old
object_more f old cur new place inside there is made =
    let read = sym (get_or_from_slice_get cur place (object_in cur place) (object_in cur place) (slice_get-get_or cur place _ there)) in
    made ∙ map_over_more f old cur place (object_in cur place) inside is read

pub objects_length : (f : Object → Object) (old cur : List Object) (place : ℕ) → cur ≡ map f (take place old) ++ drop place old
    → length cur ≡ length old
objects_length f old cur place is = ap length is ∙ by_length old place
  where
    by_length : (xs : List Object) (n : ℕ) → length (map f (take n xs) ++ drop n xs) ≡ length xs
    by_length [] zero = refl
    by_length [] (suc n) = refl
    by_length (x ∷ xs) zero = refl
    by_length (x ∷ xs) (suc n) = ap suc (by_length xs n)
