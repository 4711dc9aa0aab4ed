-- What the heap shows of the graph.
use Rattle.std.proofs.Common.{◌≡◌, ℕ, List, ◌++◌, Option, Some, None, refl, sym, ap, ◌∙◌, subst, slice_get, map}
use Rattle.heap_model.specs.Graph.{Graph, Object, object_named, object_fields, HasPair, held_by, IsReachable, FromRoot, FromObject}
use Rattle.heap_model.specs.Graph.{FromHeld}
use Rattle.std.specs.List.{AllZip}
use Rattle.heap_model.specs.Heap.{Heap, Stored, Points, Holds, IsRoot, IsShown, IsObjectShown, Shows, IsClosed, fields}
use Rattle.heap_model.specs.Clearing.{IsWeakShown, WillShowObject, WillShow, StandsOnce, CanBeFollowed, kept_word, kept_held}
use Rattle.heap_model.proofs.Lists.{AllZip-get, AllZip-get_right, AllZip_map, AllZip-append}
use Rattle.heap_model.proofs.Held.{held_by_get, held_by_was, kept_all, kept_get}
use Rattle.heap_model.proofs.Names.{same_some}

-- the object of this name is at the end of this pointer
pub record PointsTo (h : Heap) (a n : ℕ) : Type 0 where
  pub address : ℕ
  pub points : Points h a address
  pub object : Stored
  pub at : h.kept address ≡ Some object
  pub named : object.name ≡ n

pub record StandsRoot (h : Heap) (n : ℕ) : Type 0 where
  pub address : ℕ
  pub root : IsRoot h address
  pub object : Stored
  pub at : h.kept address ≡ Some object
  pub named : object.name ≡ n

root_to : (h : Heap) (j n : ℕ) (w : Option ℕ) → slice_get h.roots j ≡ Some w → IsShown h w (Some n) → StandsRoot h n
root_to h j n None at s = absurd s
root_to h j n (Some a) at s = record { address = a; root = record { place = j; is = at }; object = s.0; at = s.1; named = s.2 }

pointer_to : (h : Heap) (a : ℕ) (x : Stored) (i n : ℕ) (w : Option ℕ) → h.kept a ≡ Some x → slice_get x.pointers i ≡ Some w
    → IsShown h w (Some n) → PointsTo h a n
pointer_to h a x i n None at is s = absurd s
pointer_to h a x i n (Some b) at is s = record {
  address = b;
  points = record { object = x; at = at; field = i; is = is };
  object = s.0;
  at = s.1;
  named = s.2;
}

pub shown_name : (h : Heap) (a : ℕ) (v : Option ℕ) → IsShown h (Some a) v
    → (n : ℕ) × (v ≡ Some n) × (x : Stored) × (h.kept a ≡ Some x) × (x.name ≡ n)
shown_name h a None s = absurd s
shown_name h a (Some n) s = (n, refl, s.0, s.1, s.2)

-- where a word that shows a name leads
pub word_at : (h : Heap) (w : Option ℕ) (n : ℕ) → IsShown h w (Some n)
    → (a : ℕ) × (w ≡ Some a) × (x : Stored) × (h.kept a ≡ Some x) × (x.name ≡ n)
word_at h None n s = absurd s
word_at h (Some a) n s = (a, refl, s.0, s.1, s.2)

-- the same of a weak slot's word
weak_at : (h : Heap) (w : Option ℕ) (n : ℕ) → IsWeakShown h w (Some n)
    → (a : ℕ) × (w ≡ Some a) × (x : Stored) × (h.kept a ≡ Some x) × (x.name ≡ n)
weak_at h None n s = absurd s
weak_at h (Some a) n s = (a, refl, s.0, s.1, s.2)

-- what a weak slot shows whose target is kept
weak_name : (h : Heap) (a : ℕ) (x : Stored) (v : Option ℕ) → h.kept a ≡ Some x → IsWeakShown h (Some a) v
    → (n : ℕ) × (v ≡ Some n) × (y : Stored) × (h.kept a ≡ Some y) × (y.name ≡ n)
weak_name h a x None at s = cc
weak_name h a x (Some n) at s = (n, refl, s.0, s.1, s.2)

-- the objects of a pair's names
pub record HoldsFor (h : Heap) (a k n : ℕ) : Type 0 where
  pub key : ℕ
  pub address : ℕ
  pub holds : Holds h a key address
  pub key_object : Stored
  pub key_at : h.kept key ≡ Some key_object
  pub key_named : key_object.name ≡ k
  pub object : Stored
  pub at : h.kept address ≡ Some object
  pub named : object.name ≡ n

-- the names of a pair's objects
pub record ShowsPair (g : Graph) (h : Heap) (a k b : ℕ) (p : Holds h a k b) : Type 0 where
  pub key_object : Stored
  pub key_at : h.kept k ≡ Some key_object
  pub object : Stored
  pub at : h.kept b ≡ Some object
  pub pair : HasPair g p.object.name p.slot key_object.name object.name

-- so all fields show what the graph has
pub fields_shown : {g : Graph} {h : Heap} (x : Stored) (shown : IsObjectShown g h x)
    → AllZip (IsShown h) (fields x) (object_fields shown.object)
fields_shown {g} {h} x shown = AllZip-append
    (IsShown h) x.pointers shown.object.pointers (x.weaks ++ x.held) (shown.object.weaks ++ shown.object.held) shown.pointers
    (AllZip-append (IsShown h) x.weaks shown.object.weaks x.held shown.object.held shown.weaks shown.held)

-- a weak slot shows nil also where nothing is kept
pub weak_shown : (h : Heap) (w v : Option ℕ) → IsShown h w v → IsWeakShown h w v
weak_shown h None None s = tt
weak_shown h (Some a) (Some n) s = s
weak_shown h _ _ s = absurd s

-- where all keys are kept, the held slots show what they hold
pub held_kept : (h : Heap) (x : Stored) (vs : List (Option ℕ)) → AllZip (IsShown h) x.weaks vs → held_by x.weaks x.held ≡ x.held
    → kept_held h.kept x ≡ x.held
held_kept h x vs weaks keyed = ap (λ ws. held_by ws x.held) (kept_all h x.weaks vs weaks) ∙ keyed

pub will_show_object : (g : Graph) (h : Heap) (x : Stored) → IsObjectShown g h x → WillShowObject g h x
will_show_object g h x o = record {
  object = o.object;
  named = o.named;
  pointers = o.pointers;
  weaks = AllZip_map (IsShown h) (IsWeakShown h) (weak_shown h) x.weaks o.object.weaks o.weaks;
  held = subst (λ vs. AllZip (IsShown h) vs o.object.held) (sym (held_kept h x o.object.weaks o.weaks o.keyed)) o.held;
  keyed = o.keyed;
  values = o.values;
}

-- a heap that shows a graph will show it
pub will_show : (g : Graph) (h : Heap) → Shows g h → WillShow g h
will_show g h s = record { roots = s.roots; distinct = s.distinct; objects = λ a x at. will_show_object g h x (s.objects a x at) }

module _ (g : Graph) (h : Heap) (shows : WillShow g h) where
  pub root_stands : (j n : ℕ) → slice_get g.roots j ≡ Some (Some n) → StandsRoot h n
  root_stands j n e =
      let (w, at, s) = AllZip-get_right (IsShown h) h.roots g.roots shows.roots j (Some n) e in
      root_to h j n w at s

  pub pointer_stands : (a : ℕ) (x : Stored) (o : Object) (i n : ℕ) → h.kept a ≡ Some x → object_named g x.name ≡ Some o
      → slice_get o.pointers i ≡ Some (Some n) → PointsTo h a n
  pointer_stands a x o i n at named e =
      let shown = shows.objects a x at in
      let same : shown.object ≡ o = let n1 = shown.named in cc in
      let e' : slice_get shown.object.pointers i ≡ Some (Some n) = rw same e in
      let (w, is, s) = AllZip-get_right (IsShown h) x.pointers shown.object.pointers shown.pointers i (Some n) e' in
      pointer_to h a x i n w at is s

  pub held_stands : (a : ℕ) (x : Stored) (m i k n : ℕ) → h.kept a ≡ Some x → x.name ≡ m → HasPair g m i k n → HoldsFor h a k n
  held_stands a x m i k n at named p =
      let shown = shows.objects a x at in
      let same = same_some (object_named g m) p.object shown.object p.named (ap (object_named g) (sym named) ∙ shown.named) in
      let (w, is, s) = AllZip-get_right (IsWeakShown h) x.weaks shown.object.weaks shown.weaks i (Some k)
      (ap (λ (o : Object). slice_get o.weaks i) (sym same) ∙ p.pair.0) in
      let (u, us, t) = AllZip-get_right (IsShown h) (kept_held h.kept x) shown.object.held shown.held i (Some n)
      (ap (λ (o : Object). slice_get o.held i) (sym same) ∙ p.pair.1) in
      let (key, e, y, key_at, key_named) = weak_at h w k s in
      let (b, f, z, here, called) = word_at h u n t in
      let held = held_by_was (map (kept_word h.kept) x.weaks) x.held i b (us ∙ ap Some f) in
      record {
        key = key;
        address = b;
        holds = record { object = x; at = at; slot = i; is = (is ∙ ap Some e, held); key = y; key_at = key_at };
        key_object = y;
        key_at = key_at;
        key_named = key_named;
        object = z;
        at = here;
        named = called;
      }

  pub held_shown : (a k b : ℕ) → (p : Holds h a k b) → ShowsPair g h a k b p
  held_shown a k b p =
      let shown = shows.objects a p.object p.at in
      let (v, is, s) = AllZip-get (IsWeakShown h) p.object.weaks shown.object.weaks shown.weaks p.slot (Some k) p.is.0 in
      let key = kept_get h.kept p.object.weaks p.slot k p.key p.is.0 p.key_at in
      let (u, us, t) = AllZip-get (IsShown h) (kept_held h.kept p.object) shown.object.held shown.held p.slot (Some b)
      (held_by_get (map (kept_word h.kept) p.object.weaks) p.object.held p.slot k key ∙ p.is.1) in
      let (n, e, y, key_at, key_named) = weak_name h k p.key v p.key_at s in
      let (l, f, z, here, called) = shown_name h b u t in
      record {
        key_object = y;
        key_at = key_at;
        object = z;
        at = here;
        pair = record {
          object = shown.object;
          named = shown.named;
          pair = (is ∙ ap Some (e ∙ ap Some (sym key_named)), us ∙ ap Some (f ∙ ap Some (sym called)));
        };
      }

  -- a pointer of a kept object whose name is reachable leads to a kept object whose name is reachable
  pub target_reachable : (r : Graph) (a b : ℕ) → (p : Points h a b)
      → (y : Stored) × (h.kept b ≡ Some y) × (IsReachable g p.object.name → IsReachable g y.name)
  target_reachable r a b p =
      let shown = shows.objects a p.object p.at in
      let (v, is, s) = AllZip-get (IsShown h) p.object.pointers shown.object.pointers shown.pointers p.field (Some b) p.is in
      let (n, is', y, here, called) = shown_name h b v s in
      (y, here, λ reach. FromObject p.object.name y.name p.field shown.object reach shown.named (is ∙ ap Some (is' ∙ ap Some (sym called))))

  pub root_reachable : (a : ℕ) → IsRoot h a → (y : Stored) × (h.kept a ≡ Some y) × IsReachable g y.name
  root_reachable a r =
      let (v, is, s) = AllZip-get (IsShown h) h.roots g.roots shows.roots r.place (Some a) r.is in
      let (n, is', y, here, called) = shown_name h a v s in
      (y, here, FromRoot r.place y.name (is ∙ ap Some (is' ∙ ap Some (sym called))))

  pub followed : CanBeFollowed h
  followed = record {
    root = λ j a e.
        let (v, is, s) = AllZip-get (IsShown h) h.roots g.roots shows.roots j (Some a) e in
        let (n, is', y, here, called) = shown_name h a v s in
        (y, here);
    pointer = λ b i a y at e.
        let shown = shows.objects b y at in
        let (v, is, s) = AllZip-get (IsShown h) y.pointers shown.object.pointers shown.pointers i (Some a) e in
        let (n, is', z, here, called) = shown_name h a v s in
        (z, here);
    held = λ a k b p. let t = held_shown a k b p in (t.object, t.at);
  }

  -- an object of this name is kept
  stands_somewhere : (n : ℕ) → IsReachable g n → (a : ℕ) × (x : Stored) × (h.kept a ≡ Some x) × (x.name ≡ n)
  stands_somewhere n (FromRoot j k e) = let t = root_stands j k e in (t.address, t.object, t.at, t.named)
  stands_somewhere n (FromObject k l i o r e q) =
      let (a, x, at, named) = stands_somewhere k r in
      let t = pointer_stands a x o i l at (ap (object_named g) named ∙ e) q in
      (t.address, t.object, t.at, t.named)
  stands_somewhere n (FromHeld q k l i p r key) =
      let (a, x, at, named) = stands_somewhere q r in
      let t = held_stands a x q i k l at named p in
      (t.address, t.object, t.at, t.named)

  pub stands_once : (n : ℕ) → IsReachable g n → StandsOnce g h n
  stands_once n r =
      let (a, x, at, named) = stands_somewhere n r in
      record {
        address = a;
        object = x;
        at = at;
        named = named;
        only = λ b y here called. shows.distinct b a y x here at (called ∙ sym named);
        contents = shows.objects a x at;
      }

module _ (g : Graph) (h : Heap) (shows : Shows g h) where
  pub closed : IsClosed h
  closed = record {
    root = λ j a e.
        let (v, is, s) = AllZip-get (IsShown h) h.roots g.roots shows.roots j (Some a) e in
        let (n, is', y, here, called) = shown_name h a v s in
        (y, here);
    field = λ b i a y at e.
        let shown = shows.objects b y at in
        let (v, is, s) = AllZip-get (IsShown h) (fields y) (object_fields shown.object) (fields_shown y shown) i (Some a) e in
        let (n, is', z, here, called) = shown_name h a v s in
        (z, here);
  }
