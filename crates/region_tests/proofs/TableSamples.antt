-- The tables that the tests go through.
use Rattle.regions.proofs.Common.{◌≡◌, ◌≢◌, ℕ, zero, suc, ◌+◌, ◌-◌, ◌*◌, ◌/◌, ◌<◌, ◌≤◌, ◌++◌, Option, Some, None, List, [], ◌∷◌, length}
use Rattle.regions.proofs.Common.{refl, ap, ◌∙◌, arith, IsSome, Stored, Tile, Object, Filler, Forwarded, Table, Region, Free, Ordinary}
use Rattle.regions.proofs.Common.{First, Rest, region_at, tile_in, object_at, pointers_at, fields_at, values_at, put_object, set_pointer}
use Rattle.regions.proofs.Common.{set_field, set_value, EachForwardedIn, object_words, IsOrdinary, is_free, first_free, taken, nth_region}
use Rattle.regions.proofs.Common.{used_of, push_tile, new_object, kind_of, free_table, replace_tile, remainder, first_run, with_run}
use Rattle.regions.proofs.Common.{IsReleasable, released}
use Rattle.region_tests.specs.Filled.{moving, stepped, twice}
use Rattle.region_tests.specs.Samples.{one_object}
use Rattle.regions.specs.declared.row.Kind.TheVariants as kinds

abbrev pub sample : List Region → Table
sample regions = record { words_per_region = 16; regions = regions }

-- a region is filled
abbrev pub filled1 : Table
filled1 = sample (Ordinary [] ∷ Free ∷ Free ∷ Free ∷ [])

abbrev pub filled2 : Table
filled2 = sample (Ordinary (Filler 10 ∷ []) ∷ Free ∷ Free ∷ Free ∷ [])

abbrev pub filled3 : Table
filled3 = sample (Ordinary (Filler 5 ∷ Filler 5 ∷ []) ∷ Free ∷ Free ∷ Free ∷ [])

abbrev pub with_sample : Stored → Table
with_sample s = sample (Ordinary (Object s ∷ Filler 1 ∷ Filler 5 ∷ []) ∷ Free ∷ Free ∷ Free ∷ [])

abbrev pub sample_object : Option ℕ → ℕ → Stored
sample_object p d = record { name = 7; pointers = p ∷ []; weaks = []; held = []; values = d ∷ [] }

pub fill_take : (t t' : Table) → t ≡ free_table 4 16 → t' ≡ taken t (first_free t) → t' ≡ filled1
unfolding free_table
fill_take t t' e f = f ∙ ap (λ (u : Table). taken u (first_free u)) e

pub fill_push : (t t' : Table) (k n : ℕ) → t ≡ filled1 → t' ≡ push_tile t k (Filler n) → k ≡ 0 → n ≡ 10 → t' ≡ filled2
unfolding push_tile nth_region
fill_push t t' k n e f p q = rw (f, e, p, q) refl

pub fill_split : (t t' : Table) (a n m : ℕ) → t ≡ filled2
    → t' ≡ replace_tile t a (Filler m ∷ remainder (n - m)) → a ≡ 0 → n ≡ 10 → m ≡ 5 → t' ≡ filled3
unfolding replace_tile region_at
fill_split t t' a n m e f p q r = rw (f, e, p, q, r) refl

pub fill_make : (t t' : Table) (a n p weak d : ℕ) → t ≡ filled3
    → t' ≡ replace_tile t a (Object (new_object 7 p weak d) ∷ remainder (n - (2 + p + weak + d))) → a ≡ 0 → n ≡ 5 → p ≡ 1 → weak ≡ 0 → d ≡ 1
    → t' ≡ with_sample (sample_object None 0)
unfolding replace_tile region_at
fill_make t t' a n p weak d e f h i j l k = rw (f, e, h, i, j, l, k) refl

pub fill_pointer : (t t' : Table) (a to : ℕ) → t ≡ with_sample (sample_object None 0) → t' ≡ set_pointer t a 0 (Some to) → a ≡ 0 → to ≡ 5
    → t' ≡ with_sample (sample_object (Some 5) 0)
unfolding set_pointer object_at tile_in region_at put_object
fill_pointer t t' a to e f p q = rw (f, e, p, q) refl

pub fill_value : (t t' : Table) (a : ℕ) → t ≡ with_sample (sample_object (Some 5) 0) → t' ≡ set_value t a 0 9 → a ≡ 0
    → t' ≡ with_sample (sample_object (Some 5) 9)
unfolding set_value object_at tile_in region_at put_object
fill_value t t' a e f p = rw (f, e, p) refl

-- ---- an object is made in a filler of m words
abbrev pub cut : ℕ → Table
cut n = sample (Ordinary (Filler n ∷ []) ∷ Free ∷ Free ∷ Free ∷ [])

-- what the calls ask for
pub record IsUsable (t : Table) (k n : ℕ) : Type 0 where
  pub known : k < length t.regions
  pub ordinary : kind_of t k ≡ kinds.Ordinary
  pub room : used_of t k + n ≤ t.words_per_region

pub usable : (t : Table) (k n : ℕ) → t ≡ filled1 → k ≡ 0 → n ≤ 16 → IsUsable t k n
unfolding kind_of nth_region used_of
usable t k n e p q = rw (e, p) (record { known = omega arith; ordinary = refl; room = omega arith })

pub is_cut : (t t' : Table) (k n m : ℕ) → t ≡ filled1 → t' ≡ push_tile t k (Filler n) → k ≡ 0 → n ≡ m → t' ≡ cut m
unfolding push_tile nth_region
is_cut t t' k n m e g p q = rw (g, e, p, q) refl

pub filler_there : (t : Table) (a n m : ℕ) → t ≡ cut m → a ≡ 0 → n ≡ m → tile_in t a ≡ Some (Filler n)
unfolding tile_in region_at
filler_there t a n m e p q = rw (e, p, q) refl

nothing_after : (n : ℕ) → remainder n ++ [] ≡ remainder n
nothing_after zero = refl
nothing_after (suc n) = refl

pub is_made : (t t' : Table) (a n p weak d m : ℕ) → t ≡ cut m
    → t' ≡ replace_tile t a (Object (new_object 7 p weak d) ∷ remainder (n - (2 + p + weak + d))) → a ≡ 0 → n ≡ m
    → t' ≡ one_object m p weak d
unfolding replace_tile region_at
is_made t t' a n p weak d m e g x y = rw (g, e, x, y) (ap (λ (ts : List Tile).
    sample (Ordinary (Object (new_object 7 p weak d) ∷ ts) ∷ Free ∷ Free ∷ Free ∷ [])) (nothing_after (m - (2 + p + weak + d))))

pub usable_filled : (s : Stored) (t : Table) (k : ℕ) → t ≡ with_sample s → k ≡ 0 → (k < length t.regions) × (kind_of t k ≡ kinds.Ordinary)
unfolding kind_of nth_region
usable_filled s t k e p = rw (e, p) (omega arith, refl)

pub filler2 : (t : Table) (a n : ℕ) → t ≡ filled2 → a ≡ 0 → n ≡ 10 → tile_in t a ≡ Some (Filler n)
unfolding tile_in region_at
filler2 t a n e p q = rw (e, p, q) refl

pub filler3 : (t : Table) (a n : ℕ) → t ≡ filled3 → a ≡ 0 → n ≡ 5 → tile_in t a ≡ Some (Filler n)
unfolding tile_in region_at
filler3 t a n e p q = rw (e, p, q) refl

pub record IsSample (t : Table) (a : ℕ) : Type 0 where
  pub object : IsSome (object_at t a)
  pub pointers : 0 < length (pointers_at t a)
  pub values : 0 < length (values_at t a)

pub sample_is : (p : Option ℕ) (d : ℕ) (t : Table) (a : ℕ) → t ≡ with_sample (sample_object p d) → a ≡ 0 → IsSample t a
unfolding object_at tile_in region_at pointers_at values_at
sample_is p d t a e h = rw (e, h) (record { object = refl; pointers = omega arith; values = omega arith })

pub rest_is_tile : (p : Option ℕ) (d : ℕ) (t : Table) (a : ℕ) → t ≡ with_sample (sample_object p d) → a ≡ 5 → IsSome (tile_in t a)
unfolding tile_in region_at
rest_is_tile p d t a e h = rw (e, h) refl

-- a word of a table of four regions
pub word_inside : (rs : List Region) (t : Table) (w n : ℕ) → t ≡ sample rs → length rs ≡ 4 → w ≡ n → n < 64
    → w < length t.regions * t.words_per_region
word_inside rs t w n e l p h = rw (e, l, p) h

-- an object moves
abbrev pub moved3 : Table
moved3 = sample (Ordinary (Object moving ∷ []) ∷ Ordinary [] ∷ Free ∷ Free ∷ [])

abbrev pub moved5 : Table
moved5 = sample (Ordinary (Forwarded 16 4 ∷ []) ∷ Ordinary (Object moving ∷ []) ∷ Free ∷ Free ∷ [])

abbrev pub moved6 : Table
moved6 = sample (Free ∷ Ordinary (Object moving ∷ []) ∷ Free ∷ Free ∷ [])

pub move_take : (t t' : Table) → t ≡ one_object 4 0 2 0 → t' ≡ taken t (first_free t) → t' ≡ moved3
move_take t t' e f = rw (f, e) refl

pub move_copy : (t t' : Table) (a k : ℕ) → t ≡ moved3
    → ((s : Stored) → object_at t a ≡ Some s → t' ≡ push_tile t k (Object s)) → a ≡ 0 → k ≡ 1 → t' ≡ twice
unfolding object_at tile_in region_at push_tile nth_region
move_copy t t' a k e f p q = f moving (rw (e, p) refl) ∙ rw (e, q) refl

pub move_forward : (t t' : Table) (a b : ℕ) → t ≡ twice
    → t' ≡ replace_tile t a (Forwarded b (object_words t a) ∷ []) → a ≡ 0 → b ≡ 16 → t' ≡ moved5
unfolding replace_tile region_at object_words object_at tile_in
move_forward t t' a b e f p q = rw (f, e, p, q) refl

pub move_release : (t t' : Table) (k : ℕ) → t ≡ moved5 → t' ≡ released t k → k ≡ 0 → t' ≡ moved6
unfolding released nth_region
move_release t t' k e f p = rw (f, e, p) refl

pub record IsCopyable (t : Table) (a k : ℕ) : Type 0 where
  pub object : IsSome (object_at t a)
  pub usable : IsUsable t k (object_words t a)

pub copyable3 : (t : Table) (a k : ℕ) → t ≡ moved3 → a ≡ 0 → k ≡ 1 → IsCopyable t a k
unfolding object_at tile_in region_at kind_of nth_region used_of object_words
copyable3 t a k e p q =
    rw (e, p, q) (record { object = refl; usable = record { known = omega arith; ordinary = refl; room = omega arith } })

pub record IsForwardable (t : Table) (a b : ℕ) : Type 0 where
  pub object : IsSome (object_at t a)
  pub ordinary : IsOrdinary (region_at t a)
  pub copy : object_words t b ≡ object_words t a
  pub untargeted : EachForwardedIn (λ x. x ≢ a) t.regions

pub forwardable4 : (t : Table) (a b : ℕ) → t ≡ twice → a ≡ 0 → b ≡ 16 → IsForwardable t a b
unfolding object_at tile_in region_at object_words
forwardable4 t a b e p q = rw (e, p, q) (record { object = refl; ordinary = tt; copy = refl; untargeted = (tt, (tt, tt)) })

pub tile5 : (t : Table) (a : ℕ) → t ≡ moved5 → a ≡ 0 → IsSome (tile_in t a)
unfolding tile_in region_at
tile5 t a e p = rw (e, p) refl

pub record CanRelease (t : Table) (k : ℕ) : Type 0 where
  pub known : k < length t.regions
  pub releasable : IsReleasable (kind_of t k)
  pub untargeted : EachForwardedIn (λ to. k ≢ to / t.words_per_region) t.regions

pub releasable5 : (t : Table) (k : ℕ) → t ≡ moved5 → k ≡ 0 → CanRelease t k
unfolding nth_region kind_of
releasable5 t k e p = rw (e, p) (record { known = omega arith; releasable = tt; untargeted = ((λ z. omega arith, tt), (tt, tt)) })

pub known6 : (t : Table) (k n : ℕ) → t ≡ moved6 → k ≡ n → n < 4 → k < length t.regions
known6 t k n e p h = rw (e, p) h

-- a run
abbrev pub large : Stored
large = new_object 8 3 1 19

abbrev pub run1 : Table
run1 = sample (Ordinary [] ∷ First large ∷ Rest 9 ∷ Free ∷ [])

pub run_take : (t t' : Table) (p weak d : ℕ) → t ≡ filled1
    → t' ≡ with_run t 2 (new_object 8 p weak d) (first_run is_free 2 t.regions) → p ≡ 3 → weak ≡ 1 → d ≡ 19 → t' ≡ run1
run_take t t' p weak d e f h l i = rw (f, e, h, l, i) refl

pub run_release : (t t' : Table) (k : ℕ) → t ≡ run1 → t' ≡ released t k → k ≡ 1 → t' ≡ filled1
unfolding released nth_region
run_release t t' k e f p = rw (f, e, p) refl

pub releasable_run : (t : Table) (k : ℕ) → t ≡ run1 → k ≡ 1 → CanRelease t k
unfolding nth_region kind_of
releasable_run t k e p = rw (e, p) (record { known = omega arith; releasable = tt; untargeted = (tt, tt) })

pub run_fits : (t : Table) (p weak d : ℕ) → t ≡ filled1 → p ≡ 3 → weak ≡ 1 → d ≡ 19
    → (2 + p + weak + d ≤ 2 * t.words_per_region) × (2 * t.words_per_region < 2 + p + weak + d + t.words_per_region)
run_fits t p weak d e h l i = rw (e, h, l, i) (omega arith, omega arith)

pub known_region : (rs : List Region) (t : Table) (k n : ℕ) → t ≡ sample rs → length rs ≡ 4 → k ≡ n → n < 4 → k < length t.regions
known_region rs t k n e l p h = rw (e, l, p) h

-- from tile to tile
pub step_field : (t t' : Table) (a to : ℕ) → t ≡ one_object 6 1 0 1 → t' ≡ set_field t a 0 (Some to) → a ≡ 0 → to ≡ 4
    → t' ≡ stepped (Some 4)
unfolding set_field object_at tile_in region_at put_object
step_field t t' a to e f p q = rw (f, e, p, q) refl

pub record IsStepped (t : Table) (a : ℕ) : Type 0 where
  pub object : IsSome (object_at t a)
  pub tile : IsSome (tile_in t a)
  pub fields : 0 < length (fields_at t a)

pub stepped_is : (p : Option ℕ) (t : Table) (a : ℕ) → t ≡ stepped p → a ≡ 0 → IsStepped t a
unfolding object_at tile_in region_at fields_at
stepped_is p t a e h = rw (e, h) (record { object = refl; tile = refl; fields = omega arith })

pub stepped_rest : (p : Option ℕ) (t : Table) (a : ℕ) → t ≡ stepped p → a ≡ 4 → IsSome (tile_in t a)
unfolding tile_in region_at
stepped_rest p t a e h = rw (e, h) refl
