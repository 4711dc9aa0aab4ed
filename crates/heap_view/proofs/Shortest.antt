-- No way is shorter than the one that a search finds.
use Rattle.std.proofs.Common.{◌≡◌, ◌∙◌, ℕ, suc, ◌+◌, ◌≤◌, Bool, true, false, List, [], ◌∷◌, Option, Some, None}
use Rattle.std.proofs.Common.{ap, arith, get_or, length, refl, subst, sym}
use Rattle.std.specs.Prelude.{IsSome, slice_get}
use Rattle.std.proofs.lemmas.Bool.{eqb-true}
use Rattle.std.proofs.lemmas.List.Quantifiers.{position-Some}
use Rattle.std.proofs.lemmas.Option.{slice_get_within, slice_get-get_or}
use Rattle.heap_model.specs.Heap.{Stored}
use Rattle.regions.specs.Table.{Table, pointers_at}
use Rattle.step_core.specs.Mutators.{root_of}
use Rattle.step_core.specs.Stands.{CoreState, IsCore, kept_of, name_in, name_of}
use Rattle.heap_walk.specs.Holders.{both_counts, field_holder, first_link, holder_by, holder_if, is_name, leads_to, links_at, root_holders}
use Rattle.heap_walk.specs.Paths.{HoldsByRoot, IsShortest, IsWay, Leads}
use Rattle.heap_walk.specs.declared.holders.Holder.{Holder}
use Rattle.heap_walk.proofs.Keeping.{kept_is, some_kept}
use Rattle.heap_walk.proofs.Linking.{link_kept, root_kept}
use Rattle.heap_view.specs.Search.{IsPlaceOf, IsReached, IsSearch, IsWayTo}
use Rattle.heap_view.specs.declared.search.Stage.{Stage}

-- ---- names
pub record IsNamed (o : Option Stored) (n : ℕ) : Type 0 where
  pub object : Stored
  pub is : o ≡ Some object
  pub name : object.name ≡ n

pub named : (o : Option Stored) (n : ℕ) → name_of o ≡ Some n → IsNamed o n
named None n e = absurd (cc)
named (Some s) n e = record { object = s; is = refl; name = (let same : Some s.name ≡ Some n = e in cc) }

-- kept objects of one name start at one address
pub same_place : (c : CoreState) (a b n : ℕ) → IsCore c → name_of (kept_of c a) ≡ Some n → name_of (kept_of c b) ≡ Some n → a ≡ b
same_place c a b n core p q =
    let s = named (kept_of c a) n p in
    let t = named (kept_of c b) n q in
    core.rests.shows.shows.distinct a b s.object t.object s.is t.is (s.name ∙ sym t.name)

pub kept_name : (c : CoreState) (a n : ℕ) → IsSome (kept_of c a) → name_in c.table (Some a) ≡ Some n → name_of (kept_of c a) ≡ Some n
kept_name c a n kept e =
    let (s, is) = some_kept c a kept in
    ap name_of is ∙ sym (ap name_of (kept_is c a s is)) ∙ e

is_named : (m : ℕ) (o : Option ℕ) → is_name m o ≡ true → o ≡ Some m
is_named m None e = absurd (cc)
is_named m (Some k) e = ap Some (eqb-true k m e)

-- what a word leads to that leads to the object of a name
leads_where : (t : Table) (n : ℕ) (w : Option ℕ) → leads_to t n w ≡ true → (b : ℕ) × (w ≡ Some b) × (name_in t (Some b) ≡ Some n)
leads_where t n None e = absurd (cc)
leads_where t n (Some b) e = (b, refl, is_named n (name_in t (Some b)) e)

-- ---- entries
by_pointer : (name : ℕ) (p w : Option ℕ) (k : ℕ) (h : Holder) → holder_by name p w k ≡ h ∷ [] → h.kind ≡ 2
    → (p ≡ Some h.place) × (name ≡ h.name)
by_pointer name (Some i) w k h e two =
    let is : field_holder name 2 i k ≡ h = cc in
    (ap (λ (x : Holder). Some x.place) is, ap (λ (x : Holder). x.name) is)
by_pointer name None (Some i) k h e two =
    let is : field_holder name 3 i k ≡ h = cc in
    let three = ap (λ (x : Holder). x.kind) is in
    absurd (omega (arith, three, two))
by_pointer name None None k h e two = absurd (cc)

-- the object of an entry, and where its pointer leads
record HasPointer (c : CoreState) (n a : ℕ) (h : Holder) : Type 0 where
  pub named : name_of (kept_of c a) ≡ Some h.name
  pub index : ℕ
  pub target : ℕ
  pub leads : slice_get (links_at false c a) index ≡ Some (Some target)
  pub is : name_in c.table (Some target) ≡ Some n

pointer_of : (c : CoreState) (n a : ℕ) (h : Holder) → holder_if c n a (kept_of c a) ≡ h ∷ [] → h.kind ≡ 2 → HasPointer c n a h
pointer_of c n a h told strong = go (kept_of c a) refl
  where
    go : (o : Option Stored) → kept_of c a ≡ o → HasPointer c n a h
    go None e = absurd (let none = sym (ap (holder_if c n a) e) ∙ told in cc)
    go (Some s) e =
        let (first, name) = by_pointer s.name (first_link c n a false) (first_link c n a true) (both_counts c n a) h
        (sym (ap (holder_if c n a) e) ∙ told) strong in
        let (lt, passes, below) = position-Some (leads_to c.table n) (links_at false c a) h.place None first in
        let (b, is, leads) = leads_where c.table n (get_or (links_at false c a) h.place None) passes in
        record {
          named = ap name_of e ∙ ap Some name;
          index = h.place;
          target = b;
          leads = slice_get-get_or (links_at false c a) h.place None lt ∙ ap Some is;
          is = leads;
        }

-- what the root of an entry names
record HasRoot (c : CoreState) (m : ℕ) : Type 0 where
  pub place : ℕ
  pub target : ℕ
  pub leads : root_of c place ≡ Some target
  pub is : name_in c.table (Some target) ≡ Some m

root_has : (c : CoreState) (m : ℕ) (h : Holder) → HoldsByRoot c m h → HasRoot c m
root_has c m h r = go (leads_to c.table m (root_of c r.place)) refl
  where
    go : (b : Bool) → leads_to c.table m (root_of c r.place) ≡ b → HasRoot c m
    go false e = absurd (let none : root_holders c m r.place ≡ [] = rw e refl in let two = sym none ∙ r.told in cc)
    go true e =
        let (a, is, leads) = leads_where c.table m (root_of c r.place) e in
        record { place = r.place; target = a; leads = is; is = leads }

weaker : (q : List Stage) (a d e : ℕ) → d ≤ e → IsReached q a d → IsReached q a e
weaker q a d e le r = record {
  place = r.place;
  stage = r.stage;
  there = r.there;
  at = r.at;
  near = let near = r.near in omega (arith, near, le);
}

module _ (c : CoreState) (core : IsCore c) (q : List Stage) (s : IsSearch c q) where
  -- ---- where a way leads is found
  reach : (hs : List Holder) (m n a d b : ℕ) → name_of (kept_of c a) ≡ Some m → IsReached q a d → Leads c m hs n
      → name_of (kept_of c b) ≡ Some n → IsReached q b (d + length hs)
  reach [] m n a d b na r l nb =
      let same = same_place c a b n core (na ∙ ap Some l) nb in
      weaker q b d (d + 0) (omega arith) (subst (λ (x : ℕ). IsReached q x d) same r)
  reach (h ∷ hs) m n a d b na r (is, (next, holds, l)) nb =
      let p = pointer_of c next holds.address h holds.told holds.strong in
      let here : holds.address ≡ r.stage.at = same_place c holds.address a m core (p.named ∙ ap Some is) na ∙ sym r.at in
      let leads = subst (λ (x : ℕ). slice_get (pointers_at c.table x) p.index ≡ Some (Some p.target)) here p.leads in
      let to = s.over.closed r.place p.index p.target r.stage (slice_get_within q r.place r.stage r.there) r.there leads in
      let kept = link_kept c false r.stage.at p.index p.target core (s.over.are.kept r.place r.stage r.there) leads in
      let near = r.near in
      let on = reach hs next n p.target (suc d) b (kept_name c p.target next kept p.is)
      (weaker q p.target (suc r.stage.depth) (suc d) (omega (arith, near)) to) l nb in
      weaker q b (suc d + length hs) (d + length (h ∷ hs)) (omega arith) on

  record IsLong (hs : List Holder) (b : ℕ) : Type 0 where
    pub behind : ℕ
    pub long : length hs ≡ suc behind
    pub reached : IsReached q b behind

  way_reaches : (hs : List Holder) (n b : ℕ) → name_of (kept_of c b) ≡ Some n → IsWay c hs n → IsLong hs b
  way_reaches [] n b nb w = absurd w
  way_reaches (h ∷ hs) n b nb (m, root, l) =
      let r = root_has c m h root in
      let kept = root_kept c r.place r.target core r.leads in
      record {
        behind = length hs;
        long = refl;
        reached = weaker q b (0 + length hs) (length hs) (omega arith)
            (reach hs m n r.target 0 b (kept_name c r.target m kept r.is) (s.over.roots r.place r.target r.leads) l nb);
      }

  pub no_way : (b n : ℕ) → name_of (kept_of c b) ≡ Some n → IsPlaceOf q b None → (hs : List Holder) → IsWay c hs n → ⊥
  no_way b n nb none hs w =
      let r = (way_reaches hs n b nb w).reached in
      none r.place r.stage r.there r.at

  pub shortest : (place : ℕ) (t : Stage) (n : ℕ) (hs : List Holder) → slice_get q place ≡ Some t → name_of (kept_of c t.at) ≡ Some n
      → IsWayTo c t.at t.depth hs → IsShortest c hs n
  shortest place t n hs there nt (long, way) = record { way = way n nt; least = least }
    where
      least : (other : List Holder) → IsWay c other n → length hs ≤ length other
      least other w =
          let l = way_reaches other n t.at nt w in
          let r = l.reached in
          let at = s.over.are.once r.place place r.stage t r.there there r.at in
          let same : r.stage ≡ t = (let two = sym (ap (slice_get q) at) ∙ r.there in let three = sym there ∙ two in cc) in
          let near = subst (λ (x : Stage). x.depth ≤ l.behind) same r.near in
          let all = l.long in
          omega (arith, near, all, long)
