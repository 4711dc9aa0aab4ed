-- The end of marking.
use Rattle.std.proofs.Common.{◌≡◌, ℕ, ◌≤◌, ◌⊎◌, true, false, Some, refl, sym, ap, ◌∙◌, subst, inl, inr, arith, slice_get}
use Rattle.heap_model.specs.Graph.{Graph, next_name, IsReachable}
use Rattle.heap_model.specs.Heap.{Heap, Stored, Holds}
use Rattle.heap_model.specs.Clearing.{WillShow}
use Rattle.heap_model.specs.Marking.{Marking, Pending, FromMarked, FromLogged, Through, ThroughHeld, IsKnownAt, IsFound, ByLive, ByNew}
use Rattle.heap_model.specs.Marking.{ByHeld, KeepsSnapshot, IsDone}
use Rattle.heap_model.specs.Marking.{IsMarkedName, MarksExactly, kept_after}
use Rattle.heap_model.proofs.Names.{bool_cases, nothing_in, named_below, both_ways}

pending_marked : (h : Heap) (m : Marking) (a : ℕ) → IsDone h m → Pending h m a → m.marked a ≡ true
pending_marked h m a d (FromMarked c k) = k
pending_marked h m a d (FromLogged c e) = absurd (nothing_in m.logged c d.logged e)
pending_marked h m a d (Through c b p _ un _) = absurd (both_ways (m.scanned c) (d.grey c (pending_marked h m c d p)) un)
pending_marked h m a d (ThroughHeld c k b p q _ _ old e) = d.held c k b (pending_marked h m c d p) (pending_marked h m k d q) e old

module _ (s g : Graph) (h : Heap) (m : Marking) (i : KeepsSnapshot s h m) (done : IsDone h m) where
  pub reachable_marked : (n : ℕ) → IsReachable s n → IsMarkedName h m n
  reachable_marked n r =
      let w = i.all n r in
      record {
        address = w.address;
        object = w.object;
        at = w.at;
        named = w.named;
        marked = elim w.why [ inl k ↦ k | inr p ↦ pending_marked h m w.address done p ];
      }

  pub marked_reachable : (n : ℕ) → IsMarkedName h m n → IsReachable s n
  marked_reachable n k =
      let r = i.marked k.address k.marked in
      let same : r.object ≡ k.object = let e1 = r.at in let e2 = k.at in cc in
      subst (IsReachable s) (ap (λ (z : Stored). z.name) same ∙ k.named) r.is_live

  pub exact : MarksExactly s h m
  exact n = (reachable_marked n, marked_reachable n)

  pub kept_before_here : (a : ℕ) (x : Stored) → kept_after h m a ≡ Some x → (h.kept a ≡ Some x) × ((m.marked a ≡ true) ⊎ (m.old a ≡ false))
  kept_before_here a x e =
      elim (bool_cases (m.marked a)) [
        | inl k ↦ (rw k at e, inl k)
        | inr k ↦ elim (bool_cases (m.old a)) [
          | inl o ↦ absurd (let q = rw (k, o) at e in cc)
          | inr o ↦ (rw (k, o) at e, inr o)
        ]
      ]

  module _ (shows : WillShow g h) where
    -- an old object that is reachable in the snapshot is marked
    pub old_marked : (a : ℕ) (x : Stored) → h.kept a ≡ Some x → IsReachable s x.name → m.marked a ≡ true
    old_marked a x at r =
        let k = reachable_marked x.name r in
        let same = shows.distinct k.address a k.object x k.at at k.named in
        sym (ap m.marked same) ∙ k.marked

    pub found_kept : (a : ℕ) (x : Stored) → h.kept a ≡ Some x → IsFound (IsReachable s) h m a → kept_after h m a ≡ Some x
    found_kept a x at f =
        elim (bool_cases (m.marked a)) [
          | inl k ↦ rw k at
          | inr k ↦ elim (bool_cases (m.old a)) [
            | inl o ↦ absurd (let e = old_marked a x at (i.found a x at o f) in cc)
            | inr o ↦ rw (k, o) at
          ]
        ]

    pub pointer_found : (a : ℕ) (x : Stored) (j b : ℕ) → h.kept a ≡ Some x → ((m.marked a ≡ true) ⊎ (m.old a ≡ false))
        → slice_get x.pointers j ≡ Some (Some b) → IsFound (IsReachable s) h m b
    pointer_found a x j b at (inl k) e =
        let r = i.marked a k in
        let same : r.object ≡ x = let e1 = r.at in cc in
        ByLive a b (record { object = x; at = at; field = j; is = e }) (subst (λ (z : Stored). IsReachable s z.name) same r.is_live)
    pointer_found a x j b at (inr n) e = ByNew a b (record { object = x; at = at; field = j; is = e }) n

    known_kept : (a : ℕ) → ((m.marked a ≡ true) ⊎ (m.old a ≡ false)) → IsKnownAt (IsReachable s) h m a
    known_kept a (inl k) = let r = i.marked a k in inl (r.object, r.at, r.is_live)
    known_kept a (inr n) = inr n

    pub held_found : (a k b : ℕ) → ((m.marked a ≡ true) ⊎ (m.old a ≡ false)) → ((m.marked k ≡ true) ⊎ (m.old k ≡ false)) → Holds h a k b
        → IsFound (IsReachable s) h m b
    held_found a k b why key p = ByHeld a k b (known_kept a why) (known_kept k key) p

  -- each kept object was reachable in the snapshot, or was made since
  pub kept_or_new : (a : ℕ) (x : Stored) → kept_after h m a ≡ Some x → IsReachable s x.name ⊎ (next_name s ≤ x.name)
  kept_or_new a x e =
      let unfolded : (h.kept a ≡ Some x) × ((m.marked a ≡ true) ⊎ (m.old a ≡ false)) = kept_before_here a x e in
      elim unfolded.1 [
        | inl k ↦ inl (marked_reachable x.name (record { address = a; object = x; at = unfolded.0; named = refl; marked = k }))
        | inr n ↦ inr (i.new_names a x unfolded.0 n)
      ]

-- with no step of a mutator since, the kept names are those that are reachable
pub quiet_kept : (g : Graph) (h : Heap) (m : Marking) → KeepsSnapshot g h m → IsDone h m → WillShow g h → (a : ℕ) (x : Stored)
    → kept_after h m a ≡ Some x → IsReachable g x.name
quiet_kept g h m i done shows a x e =
    elim (kept_or_new g g h m i done a x e) [
      | inl r ↦ r
      | inr above ↦
          let at : h.kept a ≡ Some x = (kept_before_here g g h m i done a x e).0 in
          let o = shows.objects a x at in
          let below = named_below g x.name o.object o.named in
          absurd (omega arith)
    ]

pub reachable_kept : (s g : Graph) (h : Heap) (m : Marking) → KeepsSnapshot s h m → IsDone h m → (n : ℕ) → IsReachable s n
    → (a : ℕ) × (x : Stored) × (kept_after h m a ≡ Some x) × (x.name ≡ n)
reachable_kept s g h m i done n r =
    let k = reachable_marked s g h m i done n r in
    (k.address, k.object, rw k.marked k.at, k.named)
