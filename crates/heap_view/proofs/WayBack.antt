-- The way back to a root, from object to object.
use Rattle.std.proofs.Common.{◌≡◌, ◌∙◌, ℕ, zero, suc, ◌+◌, ◌-◌, ◌<◌, ◌≤◌, Bool, true, false, List, [], ◌∷◌, ◌++◌, Option, Some, None}
use Rattle.std.proofs.Common.{ap, arith, inl, inr, length, lt-ltb, length-append, refl, reverse, subst, sym}
use Rattle.std.specs.Prelude.{IsSome, slice_get, position}
use Rattle.std.specs.List.{position_or_len}
use Rattle.std.proofs.lemmas.Bool.{cases_lt, eq-eqb}
use Rattle.std.proofs.lemmas.List.{length-reverse, reverse-append}
use Rattle.std.proofs.lemmas.List.Sums.{fails_before_first}
use Rattle.std.proofs.lemmas.Option.{get_or_from_slice_get, slice_get_within}
use Rattle.heap_model.specs.Heap.{Stored}
use Rattle.regions.specs.Shaped.{IsShaped}
use Rattle.step_core.specs.Mutators.{root_of}
use Rattle.step_core.specs.Stands.{CoreState, IsCore, kept_of, name_in, name_of, root_counts_of}
use Rattle.heap_walk.specs.Holders.{both_counts, field_holder, first_link, holder_by, holder_if, holders_at, leads_to, links_at}
use Rattle.heap_walk.specs.Holders.{place_count, root_holder}
use Rattle.heap_walk.specs.Paths.{HoldsByPointer, IsWay, Leads}
use Rattle.heap_walk.specs.Walks.{told_between}
use Rattle.heap_walk.specs.declared.holders.Holder.{Holder}
use Rattle.heap_walk.proofs.Keeping.{kept_is, kept_tile, some_kept}
use Rattle.heap_walk.proofs.Linking.{one_root}
use Rattle.heap_walk.proofs.Placing.{at_object}
use Rattle.heap_walk.proofs.Telling.{between_more, between_one}
use Rattle.heap_walk.proofs.TileStarts.{tile_below}
use Rattle.heap_view.specs.Nexts.{IsNext}
use Rattle.heap_view.specs.Search.{IsFoundBy, IsFromObject, IsFromRoot, IsLink, IsSearch, IsWayTo, PointsTo}
use Rattle.heap_view.specs.declared.search.Stage.{Stage}

-- ---- how an object was found
pub from_object : (c : CoreState) (q : List Stage) (s : Stage) (d : ℕ) → IsFoundBy c q s d → 0 < d → IsFromObject c q s (d - 1)
from_object c q s zero by lt = absurd (omega (arith, lt))
from_object c q s (suc d) by lt = subst (λ (x : ℕ). IsFromObject c q s x) (let e : d ≡ suc d - 1 = omega arith in e) by

pub from_root : (c : CoreState) (q : List Stage) (s : Stage) (d : ℕ) → IsFoundBy c q s d → d ≤ 0 → IsFromRoot c s
from_root c q s zero by le = by
from_root c q s (suc d) by le = absurd (omega (arith, le))

-- ---- object by object
-- from one object on the entries lead to another one, and come last first
pub record IsBack (c : CoreState) (q : List Stage) (last s : Stage) (way : List Holder) : Type 0 where
  pub place : ℕ
  pub there : slice_get q place ≡ Some s
  pub long : length way + s.depth ≡ last.depth
  pub leads : (m n : ℕ) → name_of (kept_of c s.at) ≡ Some m → name_of (kept_of c last.at) ≡ Some n → Leads c m (reverse way) n

module _ (c : CoreState) (q : List Stage) where
  pub back_first : (place : ℕ) (s last : Stage) (way : List Holder) → way ≡ [] → slice_get q place ≡ Some s → slice_get q place ≡ Some last
      → IsBack c q last s way
  back_first place s last way none there e =
      let same : s ≡ last = (let two = sym there ∙ e in cc) in
      subst (λ (l : List Holder). IsBack c q last s l) (sym none)
      (subst (λ (x : Stage). IsBack c q x s []) same (record {
        place = place;
        there = there;
        long = let e : 0 + s.depth ≡ s.depth = omega arith in e;
        leads = λ m n a b. let two = sym a ∙ b in cc;
      }))

  pub back_more : (last s before : Stage) (way way' : List Holder) (h : Holder) → IsSearch c q → IsBack c q last s way → 0 < s.depth
      → slice_get q s.from ≡ Some before → IsLink c before.at s.at h → way' ≡ way ++ h ∷ [] → IsBack c q last before way'
  back_more last s before way way' h w b lt there (name, holds) is =
      let found = from_object c q s s.depth (w.over.are.each b.place s b.there) lt in
      let same : found.before ≡ before = (let two = sym found.there ∙ there in cc) in
      let deep = ap (λ (x : Stage). x.depth) (sym same) ∙ found.depth in
      let (stored, kept) = some_kept c s.at (w.over.are.kept b.place s b.there) in
      let here : name_of (kept_of c s.at) ≡ Some stored.name = ap name_of kept in
      let long = b.long in
      subst (λ (l : List Holder). IsBack c q last before l) (sym is) (record {
        place = s.from;
        there = there;
        long = (let more = length-append way (h ∷ []) in omega (arith, more, deep, long, lt));
        leads = λ m n bm ln.
            subst (λ (l : List Holder). Leads c m l n) (sym (reverse-append way (h ∷ [])))
            ((let two = sym name ∙ bm in cc), (stored.name, holds stored.name here, b.leads stored.name n here ln));
      })

  pub back_less : (s before : Stage) (place : ℕ) → IsSearch c q → slice_get q place ≡ Some s → 0 < s.depth
      → slice_get q s.from ≡ Some before → before.depth < s.depth
  back_less s before place w here lt there =
      let found = from_object c q s s.depth (w.over.are.each place s here) lt in
      let same : found.before ≡ before = (let two = sym found.there ∙ there in cc) in
      let deep = ap (λ (x : Stage). x.depth) (sym same) ∙ found.depth in
      omega (arith, deep, lt)

  pub back_last : (last s : Stage) (way way' all : List Holder) (h : Holder) → IsCore c → IsSearch c q → IsBack c q last s way → s.depth ≤ 0
      → h ≡ root_holder (root_counts_of c.config) s.from → way' ≡ way ++ h ∷ [] → all ≡ reverse way'
      → IsWayTo c last.at last.depth all
  back_last last s way way' all h core w b le entry is turned =
      let found = from_root c q s s.depth (w.over.are.each b.place s b.there) le in
      let whole : all ≡ h ∷ reverse way = turned ∙ ap reverse is ∙ reverse-append way (h ∷ []) in
      let (stored, kept) = some_kept c s.at (w.over.are.kept b.place s b.there) in
      let here : name_of (kept_of c s.at) ≡ Some stored.name = ap name_of kept in
      let long = b.long in
      let back = length-reverse way in
      let leads : leads_to c.table stored.name (root_of c s.from) ≡ true =
      ap (leads_to c.table stored.name) found.leads ∙ named_leads c stored.name s.at (ap name_of (kept_is c s.at stored kept)) in (
        ap length whole ∙ (let e : length (h ∷ reverse way) ≡ suc last.depth = omega (arith, long, back, le) in e),
        λ n ln. subst (λ (l : List Holder). IsWay c l n) (sym whole) (
          stored.name,
          record {
            place = s.from;
            below = found.place;
            told = one_root c stored.name s.from leads ∙ ap (λ (x : Holder). x ∷ []) (sym entry);
          },
          b.leads stored.name n here ln,
        ),
      )
    where
      named_leads : (c : CoreState) (n a : ℕ) → name_in c.table (Some a) ≡ Some n → leads_to c.table n (Some a) ≡ true
      named_leads c n a e = rw e (eq-eqb n n refl)

-- ---- the entry of a pointer
position_there : {A : Type 0} (p : A → Bool) (xs : List A) (i : ℕ) (x : A) → slice_get xs i ≡ Some x → p x ≡ true
    → position p xs ≡ Some (position_or_len p xs)
position_there p xs i x at is = elim (cases_lt (position_or_len p xs) (length xs)) [
  | inl lt ↦ rw (lt-ltb (position_or_len p xs) (length xs) lt) refl
  | inr ge ↦
      let within = slice_get_within xs i x at in
      let no = fails_before_first p xs i x (omega (arith, within, ge)) in
      let same = get_or_from_slice_get xs i x x at in
      absurd (let two = sym is ∙ ap p (sym same) ∙ no in cc)
]

pub link_entry : (c : CoreState) (a b n : ℕ) (s : Stored) → kept_of c a ≡ Some s → PointsTo c a b → name_in c.table (Some b) ≡ Some n
    → (h : Holder) × (holder_if c n a (kept_of c a) ≡ h ∷ []) × (h.kind ≡ 2) × (h.name ≡ s.name)
link_entry c a b n s is p e =
    let leads : leads_to c.table n (Some b) ≡ true = rw e (eq-eqb n n refl) in
    let j = position_or_len (leads_to c.table n) (links_at false c a) in
    let first : first_link c n a false ≡ Some j =
    position_there (leads_to c.table n) (links_at false c a) p.index (Some b) p.leads leads in (
      field_holder s.name 2 j (both_counts c n a),
      ap (holder_if c n a) is
          ∙ ap (λ (o : Option ℕ). holder_by s.name o (first_link c n a true) (both_counts c n a)) first,
      refl,
      refl,
    )

next_is : {A : Type 0} (f : ℕ → List A) (end from to : ℕ) (r : Option A) (x : A) (rest : List A) → told_between f from end ≡ x ∷ rest
    → IsNext f end from to r → r ≡ Some x
next_is f end from to None x rest e p = absurd (let two = sym p.told ∙ e in cc)
next_is f end from to (Some y) x rest e p = let two = sym p.told ∙ e in let same : y ≡ x = cc in ap Some same

-- the next entry from an object's place on is the object's
pub next_link : (c : CoreState) (a b n from to : ℕ) (s : Stored) (r : Option Holder) → IsShaped c.table → kept_of c a ≡ Some s
    → PointsTo c a b → name_in c.table (Some b) ≡ Some n → from ≡ length c.roots + a
    → IsNext (holders_at c n) (place_count c) from to r
    → (h : Holder) × (r ≡ Some h) × (holder_if c n a (kept_of c a) ≡ h ∷ []) × (h.kind ≡ 2) × (h.name ≡ s.name)
next_link c a b n from to s r g is p e at next =
    let (h, told, strong, name) = link_entry c a b n s is p e in
    let below = tile_below c.table a g (kept_tile c a (rw is refl)) in
    let away : from - length c.roots ≡ a = omega (arith, at) in
    let here : holders_at c n from ≡ h ∷ [] =
    at_object c n from (omega (arith, at)) ∙ ap (λ (x : ℕ). holder_if c n x (kept_of c x)) away ∙ told in
    let whole = between_more (holders_at c n) from (from + 1) (place_count c) (omega arith) (omega (arith, at, below)) in
    let first = between_one (holders_at c n) from ∙ here in (
      h,
      next_is (holders_at c n) (place_count c) from to r h (told_between (holders_at c n) (from + 1) (place_count c))
          (whole ∙ ap (λ (l : List Holder). l ++ told_between (holders_at c n) (from + 1) (place_count c)) first) next,
      told,
      strong,
      name,
    )

-- it is a link where the objects have these names
pub is_link : (c : CoreState) (a b n : ℕ) (s : Stored) (h : Holder) → kept_of c a ≡ Some s → name_of (kept_of c b) ≡ Some n
    → holder_if c n a (kept_of c a) ≡ h ∷ [] → h.kind ≡ 2 → h.name ≡ s.name → IsLink c a b h
is_link c a b n s h is named told strong name = (
  ap name_of is ∙ ap Some (sym name),
  λ m e.
      let same : n ≡ m = (let two = sym named ∙ e in cc) in
      subst (λ (k : ℕ). HoldsByPointer c k h) same (record { address = a; told = told; strong = strong }),
)

pub link_told : (c : CoreState) (a b n from to : ℕ) (r : Option Holder) → IsShaped c.table → IsSome (kept_of c a) → PointsTo c a b
    → IsSome (kept_of c b) → name_of (kept_of c b) ≡ Some n → from ≡ length c.roots + a
    → IsNext (holders_at c n) (place_count c) from to r → (h : Holder) × (r ≡ Some h) × IsLink c a b h
link_told c a b n from to r g kept p some e at next =
    let (s, is) = some_kept c a kept in
    let (t, there) = some_kept c b some in
    let name : name_in c.table (Some b) ≡ Some n = ap name_of (kept_is c b t there) ∙ sym (ap name_of there) ∙ e in
    let (h, found, told, strong, same) = next_link c a b n from to s r g is p name at next in
    (h, found, is_link c a b n s h is e told strong same)
