-- Ways of a heap, and those of the graph.
use Rattle.std.proofs.Common.{◌≡◌, ◌∙◌, ℕ, zero, suc, ◌+◌, ◌<◌, Bool, true, false, cond, List, [], ◌∷◌, Option, Some, None, length}
use Rattle.std.proofs.Common.{map, refl, sym, ap, subst, arith, inl, inr, lt-ltb, le-ltb}
use Rattle.std.specs.Prelude.{IsSome, slice_get, position}
use Rattle.std.specs.List.{position_or_len}
use Rattle.std.specs.Option.{option_map}
use Rattle.std.proofs.lemmas.Bool.{cases_lt, eq-eqb, eqb-true}
use Rattle.std.proofs.lemmas.Option.{get_or_from_slice_get, slice_get-get_or, slice_get-map, slice_get_within}
use Rattle.std.proofs.lemmas.List.Recursion.{is_position_or_len}
use Rattle.heap_model.specs.Graph.{Graph, Object, object_named}
use Rattle.heap_model.specs.Heap.{Stored}
use Rattle.regions.specs.Table.{Table, pointers_at}
use Rattle.graph_runs.specs.State.{State, root_counts_of}
use Rattle.step_core.specs.Mutators.{root_of}
use Rattle.step_core.specs.Stands.{CoreState, IsCore, Stands, kept_of, name_in, name_of}
use Rattle.heap_walk.specs.Holders.{LinksShow, both_counts, field_holder, first_link, holder_by, holder_if, is_name, leads_to}
use Rattle.heap_walk.specs.Holders.{root_holder, root_holders}
use Rattle.heap_walk.specs.Paths.{HoldsByPointer, HoldsByRoot, IsWay, IsWayIn, Leads, LeadsIn, NamesByField, NamesByRoot, WaysShow}
use Rattle.heap_walk.specs.declared.holders.Holder.{Holder}
use Rattle.heap_walk.proofs.Keeping.{kept_is, some_kept}
use Rattle.heap_walk.proofs.Linking.{link_kept, one_root, root_kept}
use Rattle.heap_walk.proofs.Showing.{links_show}

-- ---- the first item that passes
abbrev first_in : {A : Type 0} → (A → Bool) → List A → ℕ
first_in p [] = 0
first_in p (x ∷ xs) = cond (p x) 0 (suc (first_in p xs))

first_is : {A : Type 0} (p : A → Bool) (xs : List A) → first_in p xs ≡ position_or_len p xs
first_is p xs = is_position_or_len (first_in p) p refl (λ x ys. ap (λ (n : ℕ). cond (p x) 0 n) (more (first_in p ys))) xs
  where
    more : (n : ℕ) → suc n ≡ 1 + n
    more n = omega arith

first_passes : {A : Type 0} (p : A → Bool) (xs : List A) → first_in p xs < length xs
    → (x : A) × (slice_get xs (first_in p xs) ≡ Some x) × (p x ≡ true)
first_passes p [] lt = absurd (omega arith)
first_passes {A = A} p (x ∷ xs) lt = go (p x) refl lt (λ less. first_passes p xs less)
  where
    go : (b : Bool) → p x ≡ b → cond b 0 (suc (first_in p xs)) < suc (length xs)
        → (first_in p xs < length xs → (y : A) × (slice_get xs (first_in p xs) ≡ Some y) × (p y ≡ true))
        → (y : A) × (slice_get (x ∷ xs) (cond (p x) 0 (suc (first_in p xs))) ≡ Some y) × (p y ≡ true)
    go true e lt later = (x, rw e refl, e)
    go false e lt later = let (y, at, is) = later (omega arith) in (y, rw e at, is)

first_below : {A : Type 0} (p : A → Bool) (xs : List A) (i : ℕ) (x : A) → slice_get xs i ≡ Some x → p x ≡ true → first_in p xs < length xs
first_below p [] i x at is = absurd (cc)
first_below p (y ∷ xs) zero x at is = (let same : y ≡ x = cc in rw (same, is) (omega arith))
first_below p (y ∷ xs) (suc i) x at is = go (p y) refl (first_below p xs i x at is)
  where
    go : (b : Bool) → p y ≡ b → first_in p xs < length xs → cond (p y) 0 (suc (first_in p xs)) < suc (length xs)
    go true e less = rw e (omega arith)
    go false e less = rw e (omega arith)

position_some : {A : Type 0} (p : A → Bool) (xs : List A) (i : ℕ) → position p xs ≡ Some i
    → (x : A) × (slice_get xs i ≡ Some x) × (p x ≡ true)
position_some {A = A} p xs i e = elim (cases_lt (position_or_len p xs) (length xs)) [
  | inl lt ↦
      let is : position p xs ≡ Some (position_or_len p xs) = rw (lt-ltb (position_or_len p xs) (length xs) lt) refl in
      let two = sym is ∙ e in
      let same : position_or_len p xs ≡ i = cc in
      let first = first_is p xs in
      subst (λ (k : ℕ). (x : A) × (slice_get xs k ≡ Some x) × (p x ≡ true)) (first ∙ same) (first_passes p xs (omega (arith, first, lt)))
  | inr ge ↦
      let is : position p xs ≡ None = rw (le-ltb (position_or_len p xs) (length xs) ge) refl in
      absurd (let two = sym is ∙ e in cc)
]

position_there : {A : Type 0} (p : A → Bool) (xs : List A) (i : ℕ) (x : A) → slice_get xs i ≡ Some x → p x ≡ true
    → position p xs ≡ Some (position_or_len p xs)
position_there p xs i x at is =
    let first = first_is p xs in
    let less = first_below p xs i x at is in
    rw (lt-ltb (position_or_len p xs) (length xs) (omega (arith, first, less))) refl

-- ---- names
is_named : (m : ℕ) (o : Option ℕ) → is_name m o ≡ true → o ≡ Some m
is_named m None e = absurd (cc)
is_named m (Some k) e = ap Some (eqb-true k m e)

names_itself : (m : ℕ) (o : Option ℕ) → o ≡ Some m → is_name m o ≡ true
names_itself m None e = absurd (cc)
names_itself m (Some k) e = let same : k ≡ m = cc in eq-eqb k m same

-- a link's name is one of the names of all
name_there : (t : Table) (ws names : List (Option ℕ)) (i : ℕ) (w : Option ℕ) → map (name_in t) ws ≡ names → slice_get ws i ≡ Some w
    → slice_get names i ≡ Some (name_in t w)
name_there t ws names i w e at =
    ap (λ (l : List (Option ℕ)). slice_get l i) (sym e) ∙ slice_get-map (name_in t) ws i ∙ ap (option_map (name_in t)) at

-- and back
name_from : (t : Table) (ws names : List (Option ℕ)) (i k : ℕ) → map (name_in t) ws ≡ names → slice_get names i ≡ Some (Some k)
    → (b : ℕ) × (slice_get ws i ≡ Some (Some b)) × (name_in t (Some b) ≡ Some k)
name_from t ws names i k e at =
    go (slice_get ws i) refl (sym (slice_get-map (name_in t) ws i) ∙ ap (λ (l : List (Option ℕ)). slice_get l i) e ∙ at)
  where
    go : (o : Option (Option ℕ)) → slice_get ws i ≡ o → option_map (name_in t) (slice_get ws i) ≡ Some (Some k)
        → (b : ℕ) × (slice_get ws i ≡ Some (Some b)) × (name_in t (Some b) ≡ Some k)
    go None is f = absurd (let two = sym (ap (option_map (name_in t)) is) ∙ f in cc)
    go (Some None) is f = absurd (let two = sym (ap (option_map (name_in t)) is) ∙ f in cc)
    go (Some (Some b)) is f = (b, is, (let two = sym (ap (option_map (name_in t)) is) ∙ f in cc))

by_pointer : (name : ℕ) (p w : Option ℕ) (k : ℕ) (h : Holder) → holder_by name p w k ≡ h ∷ [] → h.kind ≡ 2
    → (p ≡ Some h.place) × (name ≡ h.name)
by_pointer name (Some i) w k h e two =
    let is : field_holder name 2 i k ≡ h = cc in
    (ap (λ (x : Holder). Some x.place) is, ap (λ (x : Holder). x.name) is)
by_pointer name None (Some i) k h e two =
    let is : field_holder name 3 i k ≡ h = cc in
    let three = ap (λ (x : Holder). x.kind) is in
    absurd (omega (arith, three, two))
by_pointer name None None k h e two = absurd (cc)

held_by : (c : CoreState) (k a : ℕ) (s : Stored) (j : ℕ) → kept_of c a ≡ Some s → first_link c k a false ≡ Some j
    → holder_if c k a (kept_of c a) ≡ field_holder s.name 2 j (both_counts c k a) ∷ []
held_by c k a s j is first =
    ap (holder_if c k a) is ∙ ap (λ (o : Option ℕ). holder_by s.name o (first_link c k a true) (both_counts c k a)) first

module _ (g : Graph) (c : CoreState) (links : LinksShow g c) where
  -- ---- each way of the heap
  root_each : (m : ℕ) (h : Holder) → HoldsByRoot c m h → NamesByRoot g (root_counts_of c.config) m h
  root_each m h r = go (leads_to c.table m (root_of c r.place)) refl
    where
      go : (b : Bool) → leads_to c.table m (root_of c r.place) ≡ b → NamesByRoot g (root_counts_of c.config) m h
      go false e = absurd (let none : root_holders c m r.place ≡ [] = rw e refl in let two = sym none ∙ r.told in cc)
      go true e = record {
        place = r.place;
        entry = (let two = sym (one_root c m r.place e) ∙ r.told in cc);
        named = name_there c.table c.roots g.roots r.place (root_of c r.place) links.roots (slice_get-get_or c.roots r.place None r.below)
            ∙ ap Some (is_named m (name_in c.table (root_of c r.place)) e);
      }

  field_each : (k : ℕ) (h : Holder) → HoldsByPointer c k h → NamesByField g h k
  field_each k h p = go (kept_of c p.address) refl
    where
      go : (o : Option Stored) → kept_of c p.address ≡ o → NamesByField g h k
      go None is = absurd (let two = sym (ap (holder_if c k p.address) is) ∙ p.told in cc)
      go (Some s) is =
          let (first, name) = by_pointer s.name _ _ _ h (sym (ap (holder_if c k p.address) is) ∙ p.told) p.strong in
          let (w, at, leads) = position_some (leads_to c.table k) (pointers_at c.table p.address) h.place first in
          let has = links.fields p.address s is in
          record {
            object = has.object;
            named = ap (object_named g) (sym name) ∙ has.named;
            holds = name_there c.table (pointers_at c.table p.address) has.object.pointers h.place w has.pointers at
                ∙ ap Some (is_named k (name_in c.table w) leads);
          }

  leads_each : (m : ℕ) (hs : List Holder) (n : ℕ) → Leads c m hs n → LeadsIn g m hs n
  leads_each m [] n e = e
  leads_each m (h ∷ hs) n (e, (k, p, l)) = (e, (k, field_each k h p, leads_each k hs n l))

  pub way_each : (hs : List Holder) (n : ℕ) → IsWay c hs n → IsWayIn g (root_counts_of c.config) hs n
  way_each [] n w = w
  way_each (h ∷ hs) n (m, r, l) = (m, root_each m h r, leads_each m hs n l)

  -- ---- each way of the graph
  module _ (core : IsCore c) where
    named_kept : (b k : ℕ) → IsSome (kept_of c b) → name_in c.table (Some b) ≡ Some k → (s : Stored) × (kept_of c b ≡ Some s) × (s.name ≡ k)
    named_kept b k h e =
        let (s, is) = some_kept c b h in
        let two : Some s.name ≡ Some k = sym (ap name_of (kept_is c b s is)) ∙ e in
        (s, is, (cc))

    leads_back : (m : ℕ) (hs : List Holder) (n a : ℕ) (s : Stored) → kept_of c a ≡ Some s → s.name ≡ m → LeadsIn g m hs n
        → (ks : List Holder) × (length ks ≡ length hs) × Leads c m ks n
    leads_back m [] n a s is name e = ([], refl, e)
    leads_back m (h ∷ hs) n a s is name (e, (k, f, l)) =
        let has = links.fields a s is in
        let objects = sym has.named ∙ ap (object_named g) (name ∙ sym e) ∙ f.named in
        let same : has.object ≡ f.object = cc in
        let (b, at, named) = name_from c.table (pointers_at c.table a) f.object.pointers h.place k
        (has.pointers ∙ ap (λ (o : Object). o.pointers) same) f.holds in
        let first = position_there (leads_to c.table k) (pointers_at c.table a) h.place (Some b) at
        (names_itself k (name_in c.table (Some b)) named) in
        let there : IsSome (kept_of c a) = rw is refl in
        let (t, kept, called) = named_kept b k (link_kept c false a h.place b core there at) named in
        let (ks, long, on) = leads_back k hs n b t kept called l in
        let entry = field_holder s.name 2 (position_or_len (leads_to c.table k) (pointers_at c.table a)) (both_counts c k a) in (
          entry ∷ ks,
          ap suc long,
          (
            name,
            (
              k,
              record {
                address = a;
                told = held_by c k a s (position_or_len (leads_to c.table k) (pointers_at c.table a)) is first;
                strong = refl;
              },
              on,
            ),
          ),
        )

    pub way_back : (hs : List Holder) (n : ℕ) → IsWayIn g (root_counts_of c.config) hs n
        → (ks : List Holder) × (length ks ≡ length hs) × IsWay c ks n
    way_back [] n w = absurd w
    way_back (h ∷ hs) n (m, r, l) =
        let (b, at, named) = name_from c.table c.roots g.roots r.place m links.roots r.named in
        let word : root_of c r.place ≡ Some b = get_or_from_slice_get c.roots r.place (Some b) None at in
        let (s, kept, called) = named_kept b m (root_kept c r.place b core word) named in
        let (ks, long, on) = leads_back m hs n b s kept called l in
        let leads = names_itself m (name_in c.table (root_of c r.place)) (ap (name_in c.table) word ∙ named) in (
          root_holder (root_counts_of c.config) r.place ∷ ks,
          ap suc long,
          (
            m,
            record {
              place = r.place;
              below = slice_get_within c.roots r.place (Some b) at;
              told = one_root c m r.place leads;
            },
            on,
          ),
        )

pub ways_show : (s : State) (c : CoreState) → IsCore c → Stands s c → WaysShow s.graph c
ways_show s c core stands =
    let links = links_show s c stands in
    record { each = way_each s.graph c links; back = way_back s.graph c links core }
