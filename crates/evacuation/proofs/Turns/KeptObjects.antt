-- What is kept as objects come and go: tops at mark start and marks stay as they were at the start.
use Rattle.std.proofs.Common.{◌≡◌, ◌≢◌, ◌+◌, ◌*◌, ◌/◌, ◌%◌, ◌<◌, ◌≤◌, ◌⊎◌, ◌∙◌, ℕ, Bool, true, false, List, Option, Some, None, length}
use Rattle.std.proofs.Common.{get_or, refl, sym, ap, inl, inr, arith, if◌then◌else◌}
use Rattle.std.proofs.lemmas.Bool.{le-ltb}
use Rattle.heap_model.specs.Heap.{Stored}
use Rattle.regions.specs.Tiles.{Tile}
use Rattle.regions.specs.Table.{Region, Free, Table, region_used, region_kind, nth_region}
use Rattle.regions.specs.Table.{kind_of, used_of, object_at, tile_in, tile_object}
use Rattle.regions.specs.declared.row.Kind.{Kind}
use Rattle.regions.specs.declared.row.Kind.TheVariants as kinds
use Rattle.mark_bitmap.specs.Marks.{is_marked}
use Rattle.mark_bitmap.specs.Tops.{is_below}
use Rattle.evacuation.specs.Turns.{Pause, IsPause, kept_now, plan}

keep : Bool → Bool → Option Stored → Option Stored
keep below marked x = if below then (if marked then x else None) else x

kept_is_keep : (p : Pause) (t : Table) (a : ℕ)
    → kept_now p t a ≡ keep (is_below t.words_per_region p.tams.previous a) (is_marked p.previous a) (object_at t a)
unfolding kept_now keep
kept_is_keep p t a = refl

keep_none : (b m : Bool) → keep b m None ≡ None
unfolding keep
keep_none true true = refl
keep_none true false = refl
keep_none false m = refl

keep_some : (b m : Bool) (o o' : Option Stored) (y : Stored) → keep b m o ≡ Some y → keep b m o' ≡ o'
unfolding keep
keep_some true true o o' y e = refl
keep_some true false o o' y e = cc
keep_some false m o o' y e = refl

keep_same : (p : Pause) (t t' : Table) (a : ℕ) → t'.words_per_region ≡ t.words_per_region
    → kept_now p t' a ≡ keep (is_below t.words_per_region p.tams.previous a) (is_marked p.previous a) (object_at t' a)
keep_same p t t' a e = kept_is_keep p t' a ∙ ap (λ (n : ℕ). keep (is_below n p.tams.previous a) (is_marked p.previous a) (object_at t' a)) e

pub kept_as : (p : Pause) (t t' : Table) (a : ℕ) → t'.words_per_region ≡ t.words_per_region
    → object_at t' a ≡ object_at t a → kept_now p t' a ≡ kept_now p t a
kept_as p t t' a e o =
    keep_same p t t' a e ∙ ap (keep (is_below t.words_per_region p.tams.previous a) (is_marked p.previous a)) o ∙ sym (kept_is_keep p t a)

pub kept_some : (p : Pause) (t t' : Table) (a : ℕ) (y : Stored) → kept_now p t a ≡ Some y
    → t'.words_per_region ≡ t.words_per_region → kept_now p t' a ≡ object_at t' a
kept_some p t t' a y e w = keep_same p t t' a w ∙ keep_some (is_below t.words_per_region p.tams.previous a) (is_marked p.previous a)
    (object_at t a) (object_at t' a) y (sym (kept_is_keep p t a) ∙ e)

pub kept_none : (p : Pause) (t : Table) (a : ℕ) → object_at t a ≡ None → kept_now p t a ≡ None
kept_none p t a o =
    kept_is_keep p t a ∙ ap (keep (is_below t.words_per_region p.tams.previous a) (is_marked p.previous a)) o ∙ keep_none _ _

pub kept_object : (p : Pause) (t : Table) (a : ℕ) (y : Stored) → kept_now p t a ≡ Some y → object_at t a ≡ Some y
kept_object p t a y e = sym (kept_some p t t a y e refl) ∙ e

pub free_used : (t : Table) (k : ℕ) → kind_of t k ≡ kinds.Free → used_of t k ≡ 0
unfolding kind_of used_of
free_used t k e = go (nth_region t k) e
  where
    go : (r : Region) → region_kind r ≡ kinds.Free → region_used t.words_per_region r ≡ 0
    go Free q = refl
    go _ q = absurd cc

pub object_of : (t : Table) (a : ℕ) (u : Option Tile) → tile_in t a ≡ u → object_at t a ≡ tile_object u
unfolding object_at
object_of t a u e = ap tile_object e

pub cases_free : (k : Kind) → (k ≡ kinds.Free) ⊎ (k ≢ kinds.Free)
cases_free kinds.Free = inl refl
cases_free _ = inr (λ e. cc)

pub not_below : (words a : ℕ) (tops : List ℕ) → get_or tops (a / words) 0 ≡ a / words * words
    → a / words * words ≤ a → is_below words tops a ≡ false
unfolding is_below
not_below words a tops e h = le-ltb _ _ (omega arith)

clear : (m : Bool) (o : Option Stored) → keep false m o ≡ o
unfolding keep
clear m o = refl

-- what stands in a region that was free at the start is kept
pub kept_fresh : (p : Pause) (t : Table) (a : ℕ) → IsPause p → t.words_per_region ≡ p.start.words_per_region
    → a / p.start.words_per_region < length p.start.regions
    → kind_of p.start (a / p.start.words_per_region) ≡ kinds.Free → kept_now p t a ≡ object_at t a
kept_fresh p t a q w known f =
    let k : ℕ = a / p.start.words_per_region in
    let low = q.previous_stands.bottom k known in
    let high = q.previous_stands.top k known in
    let none = free_used p.start k f in
    let top : get_or p.tams.previous k 0 ≡ k * p.start.words_per_region = omega arith in
    let z = q.shaped.positive in
    let whole : a / p.start.words_per_region * p.start.words_per_region + a % p.start.words_per_region ≡ a = omega arith in
    let above = not_below p.start.words_per_region a p.tams.previous top (omega (arith, whole)) in
    keep_same p p.start t a w ∙ ap (λ (b : Bool). keep b (is_marked p.previous a) (object_at t a)) above
    ∙ clear (is_marked p.previous a) (object_at t a)

-- the heap at the start is what is kept in its table
pub start_kept : (p : Pause) (a : ℕ) → kept_now p p.start a ≡ (plan p).heap.kept a
unfolding kept_now
start_kept p a = refl
