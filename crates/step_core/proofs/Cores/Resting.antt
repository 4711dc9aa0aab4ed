-- A core whose layers and roots change is one still: names are below the next one, and what the snapshot doesn't reach has the pointers
-- that it had.
use Rattle.std.proofs.Common.{◌≡◌, ℕ, ◌<◌, ◌≤◌, ◌⊎◌, Option, Some, None, List, length, refl, sym, ◌∙◌, ap, subst, inl, inr, slice_get}
use Rattle.std.proofs.Common.{◌++◌}
use Rattle.std.specs.List.{AllZip}
use Rattle.heap_model.specs.Graph.{Graph, Object, IsReachable, FromRoot, IsSound, next_name, object_named, with_root, with_changed}
use Rattle.heap_model.specs.Heap.{Stored, IsShown, IsRoot}
use Rattle.heap_model.specs.Clearing.{IsWeakShown}
use Rattle.heap_model.specs.Marking.{KeepsSnapshot}
use Rattle.heap_model.proofs.Lists.{AllZip-get, AllZip-get_right, get-append_cases}
use Rattle.heap_model.proofs.Names.{named_below}
use Rattle.heap_model.proofs.Touched.{reached_known}
use Rattle.heap_model.proofs.Unreached.{root_sound, changed_sound}
use Rattle.regions.specs.Table.{Table}
use Rattle.alloc_buffers.specs.Placement.{Buffers}
use Rattle.marker.specs.declared.marker.Marker.{Marker}
use Rattle.cards.specs.Cards.{Cards}
use Rattle.remembered_sets.specs.Sets.{Sets}
use Rattle.region_choice.specs.Ages.{Ages}
use Rattle.step_core.specs.Stands.{CoreState, kept_of, heap_of, marking_of, ShowsGraph, KeepsFrom, LayersFit, CardsFit, RemembersFields}
use Rattle.step_core.specs.Stands.{Footing, RestsOn, IsClearing, IsCore}

module _ (k : CoreState) (core : IsCore k) (t : Table) (b : Buffers) (m : Marker) (cs : Cards) (ss : Sets) (roots : List (Option ℕ))
    (ages : Ages) (many : length roots ≡ length k.roots) (as_many : length ages.stamps ≡ length k.ages.stamps)
    (layers : LayersFit k.config t b m) (cards : CardsFit k.config cs ss) where
  abbrev aged : CoreState
  aged = record k { table = t; buffers = b; marker = m; cards = cs; sets = ss; roots = roots; ages = ages }

  -- the layers fit, all stays remembered, and it rests on something
  pub aged_over : RemembersFields aged → IsClearing aged → (f : Footing) → RestsOn f aged → IsCore aged
  aged_over remembers slots f rests = record {
    suits = core.suits;
    layers = layers;
    cards = cards;
    remembers = remembers;
    room = core.room;
    rows = core.rows;
    ages = as_many ∙ core.ages;
    placed = core.placed;
    places = many ∙ core.places;
    names = core.names;
    slots = slots;
    footing = f;
    rests = rests;
  }

  -- it rests on what it did: the same graphs are shown, and the same snapshots kept
  pub aged_stays : RemembersFields aged → IsClearing aged → ((g : Graph) → ShowsGraph g k → ShowsGraph g aged)
      → ((s : Graph) → KeepsFrom s k → KeepsFrom s aged) → IsCore aged
  aged_stays remembers slots shows keeps = aged_over remembers slots core.footing (record {
    shows = shows core.footing.graph core.rests.shows;
    keeps = keeps core.footing.snapshot core.rests.keeps;
    sound = core.rests.sound;
    unreached = core.rests.unreached;
    pairs = core.rests.pairs;
  })

-- the same where regions are as old as they were
module _ (k : CoreState) (core : IsCore k) (t : Table) (b : Buffers) (m : Marker) (cs : Cards) (ss : Sets) (roots : List (Option ℕ))
    (many : length roots ≡ length k.roots) (layers : LayersFit k.config t b m) (cards : CardsFit k.config cs ss) where
  abbrev d : CoreState
  d = record k { table = t; buffers = b; marker = m; cards = cs; sets = ss; roots = roots }

  pub core_over : RemembersFields d → IsClearing d → (f : Footing) → RestsOn f d → IsCore d
  core_over = aged_over k core t b m cs ss roots k.ages many refl layers cards

  pub core_stays : RemembersFields d → IsClearing d → ((g : Graph) → ShowsGraph g k → ShowsGraph g d)
      → ((s : Graph) → KeepsFrom s k → KeepsFrom s d) → IsCore d
  core_stays = aged_stays k core t b m cs ss roots k.ages many refl layers cards

-- the same where clearing goes on from another place
pub core_clearing : (k : CoreState) → IsCore k → (t : Table) (m : Marker) (to : Option ℕ) → LayersFit k.config t k.buffers m
    → RemembersFields (record k { table = t; marker = m; clearing = to }) → IsClearing (record k { table = t; marker = m; clearing = to })
    → (f : Footing) → RestsOn f (record k { table = t; marker = m; clearing = to })
    → IsCore (record k { table = t; marker = m; clearing = to })
core_clearing k core t m to layers remembers slots f rests = record {
  suits = core.suits;
  layers = layers;
  cards = core.cards;
  remembers = remembers;
  room = core.room;
  rows = core.rows;
  ages = core.ages;
  placed = core.placed;
  places = core.places;
  names = core.names;
  slots = slots;
  footing = f;
  rests = rests;
}

-- a name that a word shows is below the next one
pub shown_below : (g : Graph) (c : CoreState) (w v : Option ℕ) (n : ℕ) → ShowsGraph g c
    → IsShown (heap_of c) w v → v ≡ Some n → n < next_name g
shown_below g c None None n s shown e = cc
shown_below g c None (Some m) n s shown e = absurd shown
shown_below g c (Some a) None n s shown e = absurd shown
shown_below g c (Some a) (Some m) n s shown e =
    let (x, at, is) = shown in
    let o = s.shows.objects a x at in
    let name : x.name ≡ n = is ∙ (let q = e in cc) in
    subst (λ (k : ℕ). k < next_name g) name (named_below g x.name o.object o.named)

-- so are all names of a list that words show
fields_below : (g : Graph) (c : CoreState) (ws vs : List (Option ℕ)) → ShowsGraph g c → AllZip (IsShown (heap_of c)) ws vs → (i n : ℕ)
    → slice_get vs i ≡ Some (Some n) → n < next_name g
fields_below g c ws vs s z i n e =
    let (w, is, shown) = AllZip-get_right (IsShown (heap_of c)) ws vs z i (Some n) e in
    shown_below g c w (Some n) n s shown refl

slots_below : (g : Graph) (c : CoreState) (ws vs : List (Option ℕ)) → ShowsGraph g c → AllZip (IsWeakShown (heap_of c)) ws vs → (i n : ℕ)
    → slice_get vs i ≡ Some (Some n) → n < next_name g
slots_below g c ws vs s z i n e =
    let (w, is, shown) = AllZip-get_right (IsWeakShown (heap_of c)) ws vs z i (Some n) e in
    shown_below g c w (Some n) n s (named w shown) refl
  where
    named : (w : Option ℕ) → IsWeakShown (heap_of c) w (Some n) → IsShown (heap_of c) w (Some n)
    named None k = absurd k
    named (Some a) k = k

-- a root takes what a word shows
pub root_rests : (g : Graph) (c : CoreState) (place : ℕ) (w v : Option ℕ) → ShowsGraph g c → IsShown (heap_of c) w v
    → IsSound g → IsSound (with_root g place v)
root_rests g c place w v s shown sound = root_sound g place v sound (λ n e. shown_below g c w v n s shown e)

-- an object has other fields, which words show
pub object_rests : (g : Graph) (c : CoreState) (n : ℕ) (o p : Object) (ps ws hs : List (Option ℕ)) → ShowsGraph g c
    → object_named g n ≡ Some o → AllZip (IsShown (heap_of c)) ps p.pointers → AllZip (IsWeakShown (heap_of c)) ws p.weaks
    → AllZip (IsShown (heap_of c)) hs p.held → IsSound g → IsSound (with_changed g n p)
object_rests g c n o p ps ws hs s named pointers weaks held sound =
    changed_sound g n o p sound named (λ i k e. elim (get-append_cases p.pointers (p.weaks ++ p.held) i (Some k) e) [
      | inl q ↦ fields_below g c ps p.pointers s pointers i k q
      | inr q ↦ elim (get-append_cases p.weaks p.held q.0 (Some k) q.1) [
        | inl r ↦ slots_below g c ws p.weaks s weaks q.0 k r
        | inr r ↦ fields_below g c hs p.held s held r.0 k r.1
      ]
    ])

-- the object that a root names was reachable in the snapshot, or is newer
pub rooted_known : (g s : Graph) (c : CoreState) (a : ℕ) (x : Stored) → ShowsGraph g c → KeepsSnapshot s (heap_of c) (marking_of c)
    → IsRoot (heap_of c) a → kept_of c a ≡ Some x → IsReachable s x.name ⊎ (next_name s ≤ x.name)
rooted_known g s c a x shows keeps root at = reached_known s g (heap_of c) (marking_of c) shows.shows keeps x.name
    (reach (AllZip-get (IsShown (heap_of c)) c.roots g.roots shows.shows.roots root.place (Some a) root.is))
  where
    reach : (v : Option ℕ) × (slice_get g.roots root.place ≡ Some v) × IsShown (heap_of c) (Some a) v → IsReachable g x.name
    reach (None, is, shown) = absurd shown
    reach (Some n, is, shown) =
        let (y, there, name) = shown in
        let same : y ≡ x = let e1 = at in let e2 = there in cc in
        FromRoot root.place x.name (is ∙ ap (λ (k : ℕ). Some (Some k)) (sym name ∙ ap (λ (z : Stored). z.name) same))
