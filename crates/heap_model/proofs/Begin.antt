-- `begin` makes the invariant, with the present graph as the snapshot.
use Rattle.std.proofs.Common.{◌≡◌, ℕ, Some, sym, ap, ◌∙◌, subst, inl, inr, arith}
use Rattle.heap_model.specs.Graph.{Graph, object_named, IsReachable, FromRoot, FromObject, FromHeld}
use Rattle.heap_model.specs.Heap.{Heap, Stored, IsRoot}
use Rattle.heap_model.specs.Clearing.{WillShow}
use Rattle.heap_model.specs.Marking.{Marking, Pending, FromMarked, FromLogged, Through, ThroughHeld, IsOldLive, IsKnownAt, IsFound, ByRoot}
use Rattle.heap_model.specs.Marking.{ByLive, ByNew, ByHeld, KeepsSnapshot, Begins}
use Rattle.heap_model.proofs.Names.{named_below, same_some, both_ways}
use Rattle.heap_model.proofs.Shown.{root_stands, pointer_stands, held_stands, held_shown, target_reachable, root_reachable}

pub record IsPending (h : Heap) (m : Marking) (n : ℕ) : Type 0 where
  pub address : ℕ
  pub object : Stored
  pub at : h.kept address ≡ Some object
  pub named : object.name ≡ n
  pub pending : Pending h m address

module _ (g : Graph) (h : Heap) (m : Marking) (shows : WillShow g h) (b : Begins h m) where
  each_pending : (n : ℕ) → IsReachable g n → IsPending h m n
  each_pending n (FromRoot j k e) =
      let t = root_stands g h shows j k e in
      record {
        address = t.address;
        object = t.object;
        at = t.at;
        named = t.named;
        pending = elim (b.roots t.address t.root) [
          | inl marked ↦ FromMarked t.address marked
          | inr logged ↦ FromLogged t.address logged
        ];
      }
  each_pending n (FromObject k l i o r e q) =
      let before = each_pending k r in
      let t = pointer_stands g h shows before.address before.object o i l before.at (ap (object_named g) before.named ∙ e) q in
      record {
        address = t.address;
        object = t.object;
        at = t.at;
        named = t.named;
        pending = Through before.address t.address before.pending (b.old before.address before.object before.at)
            (b.scanned before.address)
            (record { points = t.points; left = let none = b.done before.address in omega (arith, none) });
      }
  each_pending n (FromHeld q k l i p r rk) =
      let before = each_pending q r in
      let key = each_pending k rk in
      let t = held_stands g h shows before.address before.object q i k l before.at before.named p in
      let same = shows.distinct key.address t.key key.object t.key_object key.at t.key_at (key.named ∙ sym t.key_named) in
      record {
        address = t.address;
        object = t.object;
        at = t.at;
        named = t.named;
        pending = ThroughHeld before.address t.key t.address before.pending (subst (Pending h m) same key.pending)
            (b.old before.address before.object before.at) (b.old t.key t.key_object t.key_at) (b.old t.address t.object t.at) t.holds;
      }

  known_live : (a : ℕ) (x : Stored) → h.kept a ≡ Some x → IsKnownAt (IsReachable g) h m a → IsReachable g x.name
  known_live a x at (inl p) = subst (λ (z : Stored). IsReachable g z.name) (same_some (h.kept a) p.0 x p.1 at) p.2
  known_live a x at (inr new) = absurd (both_ways (m.old a) (b.old a x at) new)

  root_live : (a : ℕ) → IsRoot h a → IsOldLive (IsReachable g) h m a
  root_live a root =
      let (y, at, r) = root_reachable g h shows a root in
      record { object = y; at = at; old = b.old a y at; is_live = r }

  found_reachable : (a : ℕ) (x : Stored) → h.kept a ≡ Some x → IsFound (IsReachable g) h m a → IsReachable g x.name
  found_reachable a x at (ByRoot c r) =
      let (y, here, reach) = root_reachable g h shows c r in
      let same : y ≡ x = cc in
      subst (λ (z : Stored). IsReachable g z.name) same reach
  found_reachable a x at (ByLive c d p r) =
      let (y, here, reach) = target_reachable g h shows g c d p in
      let same : y ≡ x = cc in
      subst (λ (z : Stored). IsReachable g z.name) same (reach r)
  found_reachable a x at (ByNew c d p new) =
      let old = b.old c p.object p.at in
      absurd cc
  found_reachable a x at (ByHeld c k d pc pk p) =
      let t = held_shown g h shows c k d p in
      let holder = known_live c p.object p.at pc in
      let key = known_live k t.key_object t.key_at pk in
      subst (λ (z : Stored). IsReachable g z.name) (same_some (h.kept d) t.object x t.at at)
      (FromHeld p.object.name t.key_object.name t.object.name p.slot t.pair holder key)

  pub begins : KeepsSnapshot g h m
  begins = record {
    below = λ n r. let p = each_pending n r in let o = shows.objects p.address p.object p.at in
        let k = named_below g p.object.name o.object o.named in let named = p.named in omega arith;
    all = λ n r. let p = each_pending n r in
        record { address = p.address; object = p.object; at = p.at; named = p.named; why = inr p.pending };
    marked = λ a k. root_live a (b.marked a k);
    logged = λ a l. root_live a (b.logged a l);
    found = λ a x at o f. found_reachable a x at f;
    old_names = λ a x at o. let s = shows.objects a x at in named_below g x.name s.object s.named;
    new_names = λ a x at o. let old = b.old a x at in absurd cc;
  }
