-- The clearing of weak slots at the end of marking.
use Rattle.std.proofs.Common.{◌≡◌, ◌-◌, ◌<◌, ◌≤◌, ◌⊎◌, ◌∷◌, ◌∙◌, ℕ, zero, suc, Bool, true, false, List, [], Option, Some, None, refl, sym}
use Rattle.std.proofs.Common.{ap, subst, inl, inr, arith, slice_get, map, lt-ltb}
use Rattle.std.specs.List.{AllZip}
use Rattle.std.proofs.lemmas.Bool.{cases_eq, cases_lt}
use Rattle.heap_model.specs.Graph.{Graph, Object, object_named, next_name, HasPair, held_by, IsReachable, FromRoot, FromObject, FromHeld}
use Rattle.heap_model.specs.Heap.{Heap, Stored, IsShown, IsObjectShown, Shows}
use Rattle.heap_model.specs.Clearing.{IsWeakShown, WillShowObject, WillShow, kept_word}
use Rattle.heap_model.specs.Marking.{Marking, IsFound, ByRoot, KeepsSnapshot, IsDone, kept_after}
use Rattle.heap_model.specs.Count.{IsReachableCount}
use Rattle.heap_model.specs.Weak.{IsKnown, IsClearedSlot, ClearsObject, Clears, cleared_word, cleared, cleared_object, cleared_after}
use Rattle.heap_model.specs.Weak.{AreReached}
use Rattle.heap_model.specs.Weak.{cleared_slot, cleared_names, cleared_graph}
use Rattle.heap_model.proofs.Names.{bool_cases, apart}
use Rattle.heap_model.proofs.Fields.{ltb_above}
use Rattle.heap_model.proofs.Lists.{AllZip_map_at, AllZip-get, AllZip-get_right}
use Rattle.heap_model.proofs.Changed.{named_at, at_least}
use Rattle.heap_model.proofs.Held.{held_by_get, held_by_was, held_by_again, held_by_tail, held_by_ends}
use Rattle.heap_model.proofs.Shown.{will_show, shown_name}
use Rattle.heap_model.proofs.Finish.{kept_before_here, old_marked, found_kept, pointer_found, held_found, marked_reachable}
use Rattle.heap_model.proofs.Finish.{reachable_kept, kept_or_new, quiet_kept}

-- a slot that is cleared holds what it held, or nil
pub slot_was : (s : Graph) (v v' : Option ℕ) (k : ℕ) → IsClearedSlot s v v' → v' ≡ Some k → v ≡ Some k
slot_was s None (Some l) k c e = absurd c
slot_was s (Some n) (Some l) k c e = let same = c.0 in cc
slot_was s _ None k c e = cc

-- what is known stays
slot_known : (s : Graph) (k : ℕ) (v : Option ℕ) → IsClearedSlot s (Some k) v → IsKnown s k → v ≡ Some k
slot_known s k None c (inl r) = absurd (c.1 r)
slot_known s k None c (inr above) = absurd (apart k (next_name s) c.0 above)
slot_known s k (Some l) c known = ap Some c.0

-- a name's object before and after
module _ (s g g' : Graph) (c : Clears s g g') where
  pub cleared_named : (n : ℕ) (o : Object) → object_named g n ≡ Some o → (p : Object) × (object_named g' n ≡ Some p) × ClearsObject s o p
  cleared_named n o e =
      let k = at_least g n o e in
      let (p, is, z) = AllZip-get (ClearsObject s) g.objects g'.objects c.objects (n - g.first_name) o (sym (named_at g n k) ∙ e) in
      (p, named_at g' n (subst (λ f. f ≤ n) (sym c.first_name) k) ∙ ap (λ f. slice_get g'.objects (n - f)) c.first_name ∙ is, z)

  pub cleared_named_back : (n : ℕ) (p : Object) → object_named g' n ≡ Some p
      → (o : Object) × (object_named g n ≡ Some o) × ClearsObject s o p
  cleared_named_back n p e =
      let k = at_least g' n p e in
      let k' = subst (λ f. f ≤ n) c.first_name k in
      let (o, is, z) = AllZip-get_right (ClearsObject s) g.objects g'.objects c.objects (n - g.first_name) p
      (ap (λ f. slice_get g'.objects (n - f)) (sym c.first_name) ∙ sym (named_at g' n k) ∙ e) in
      (o, named_at g n k' ∙ is, z)

  -- a pair whose key is known stays, and none comes
  pair_on : (m i k n : ℕ) → IsKnown s k → HasPair g m i k n → HasPair g' m i k n
  pair_on m i k n known p =
      let (o, is, z) = cleared_named m p.object p.named in
      let (v, at, slot) = AllZip-get (IsClearedSlot s) p.object.weaks o.weaks z.weaks i (Some k) p.pair.0 in
      let key = at ∙ ap Some (slot_known s k v slot known) in
      record {
        object = o;
        named = is;
        pair = (key, ap (λ l. slice_get l i) z.held ∙ held_by_get o.weaks p.object.held i k key ∙ p.pair.1);
      }

  pub pair_back : (m i k n : ℕ) → HasPair g' m i k n → HasPair g m i k n
  pair_back m i k n p =
      let (o, is, z) = cleared_named_back m p.object p.named in
      let (v, at, slot) = AllZip-get_right (IsClearedSlot s) o.weaks p.object.weaks z.weaks i (Some k) p.pair.0 in
      record {
        object = o;
        named = is;
        pair = (
          at ∙ ap Some (slot_was s v (Some k) k slot refl),
          held_by_was p.object.weaks o.held i n (ap (λ l. slice_get l i) (sym z.held) ∙ p.pair.1),
        );
      }

  -- pointers stay, and so do pairs whose key is reachable, since that is known: so what is reachable stays
  pub reach_on : ((n : ℕ) → IsReachable g n → IsKnown s n) → (n : ℕ) → IsReachable g n → IsReachable g' n
  reach_on known n (FromRoot j k e) = FromRoot j k (ap (λ r. slice_get r j) c.roots ∙ e)
  reach_on known n (FromObject m k i o r e q) =
      let (p, is, z) = cleared_named m o e in
      FromObject m k i p (reach_on known m r) is (ap (λ l. slice_get l i) z.pointers ∙ q)
  reach_on known n (FromHeld m k l i p r key) =
      FromHeld m k l i (pair_on m i k l (known k key) p) (reach_on known m r) (reach_on known k key)

  pub reach_back : (n : ℕ) → IsReachable g' n → IsReachable g n
  reach_back n (FromRoot j k e) = FromRoot j k (ap (λ r. slice_get r j) (sym c.roots) ∙ e)
  reach_back n (FromObject m k i p r e q) =
      let (o, is, z) = cleared_named_back m p e in
      FromObject m k i o (reach_back m r) is (ap (λ l. slice_get l i) (sym z.pointers) ∙ q)
  reach_back n (FromHeld m k l i p r key) = FromHeld m k l i (pair_back m i k l p) (reach_back m r) (reach_back k key)

cleared_from : (m : Marking) (o : Option Stored) (y : Stored) → cleared_object m o ≡ Some y
    → (x : Stored) × (o ≡ Some x) × (y ≡ cleared m x)
cleared_from m None y e = cc
cleared_from m (Some x) y e = (x, refl, cc)

-- what is kept and cleared was kept, and bears the same name
pub cleared_was : (h : Heap) (m : Marking) (a : ℕ) (y : Stored) → cleared_after h m a ≡ Some y
    → (x : Stored) × (kept_after h m a ≡ Some x) × (y ≡ cleared m x)
cleared_was h m a y e = cleared_from m (kept_after h m a) y e

pub cleared_is : (h : Heap) (m : Marking) (a : ℕ) (x : Stored) → kept_after h m a ≡ Some x → cleared_after h m a ≡ Some (cleared m x)
cleared_is h m a x e = ap (cleared_object m) e

module _ (s g g' : Graph) (h : Heap) (m : Marking) (i : KeepsSnapshot s h m) (done : IsDone h m) (shows : WillShow g h)
    (c : Clears s g g') where
  -- an old target that isn't to be marked is unmarked
  unmarked : (a : ℕ) (x : Stored) → h.kept a ≡ Some x → (IsReachable s x.name → ⊥) → m.marked a ≡ false
  unmarked a x at away = elim (bool_cases (m.marked a)) [
    | inl k ↦ absurd (away (marked_reachable s g h m i done x.name (record { address = a; object = x; at = at; named = refl; marked = k })))
    | inr k ↦ k
  ]

  is_old : (a : ℕ) (x : Stored) → h.kept a ≡ Some x → x.name < next_name s → m.old a ≡ true
  is_old a x at below = elim (bool_cases (m.old a)) [ inl o ↦ o | inr o ↦ absurd (let above = i.new_names a x at o in omega arith) ]

  is_new : (a : ℕ) (x : Stored) → h.kept a ≡ Some x → next_name s ≤ x.name → m.old a ≡ false
  is_new a x at above = elim (bool_cases (m.old a)) [ inl o ↦ absurd (let below = i.old_names a x at o in omega arith) | inr o ↦ o ]

  new_kept : (a : ℕ) (x : Stored) → h.kept a ≡ Some x → m.old a ≡ false → kept_after h m a ≡ Some x
  new_kept a x at o = elim (bool_cases (m.marked a)) [ inl k ↦ rw k at | inr k ↦ rw (k, o) at ]

  -- the same where no slot is written
  ended : Heap
  ended = record { kept = kept_after h m; roots = h.roots }

  shown_ended : (w v : Option ℕ) → ((a : ℕ) → w ≡ Some a → IsFound (IsReachable s) h m a) → IsShown h w v → IsShown ended w v
  unfolding ended
  shown_ended None None f z = tt
  shown_ended (Some a) (Some n) f z = (z.0, found_kept s g h m i done shows a z.0 z.1 (f a refl), z.2)
  shown_ended _ _ f z = absurd z

  none_ended : (a : ℕ) → h.kept a ≡ None → kept_after h m a ≡ None
  none_ended a none = elim (bool_cases (m.marked a)) [
    | inl k ↦ rw k none
    | inr k ↦ elim (bool_cases (m.old a)) [ inl o ↦ rw (k, o) refl | inr o ↦ rw (k, o) none ]
  ]

  weak_ended : (w v v' : Option ℕ) → IsWeakShown h w v → IsClearedSlot s v v' → IsWeakShown ended w v'
  unfolding ended
  weak_ended None None None z q = tt
  weak_ended None None (Some k) z q = absurd q
  weak_ended (Some a) None None z q = none_ended a z
  weak_ended (Some a) None (Some k) z q = absurd q
  weak_ended (Some a) (Some n) None z q =
      let old = is_old a z.0 z.1 (subst (λ k. k < next_name s) (sym z.2) q.0) in
      let un = unmarked a z.0 z.1 (λ r. q.1 (subst (IsReachable s) z.2 r)) in
      rw (un, old) refl
  weak_ended (Some a) (Some n) (Some k) z q =
      elim q.1 [
        | inl live ↦
            let marked = old_marked s g h m i done shows a z.0 z.1 (subst (IsReachable s) (sym z.2) live) in
            let kept : kept_after h m a ≡ Some z.0 = rw marked z.1 in
            (z.0, kept, z.2 ∙ sym q.0)
        | inr above ↦
            let new = is_new a z.0 z.1 (subst (λ k. next_name s ≤ k) (sym z.2) above) in
            (z.0, new_kept a z.0 z.1 new, z.2 ∙ sym q.0)
      ]
  weak_ended _ _ v' z q = absurd z

  weaks_ended : (ws vs vs' : List (Option ℕ)) → AllZip (IsWeakShown h) ws vs → AllZip (IsClearedSlot s) vs vs'
      → AllZip (IsWeakShown ended) ws vs'
  weaks_ended [] [] [] z q = tt
  weaks_ended [] (v ∷ vs) vs' z q = absurd z
  weaks_ended (w ∷ ws) [] vs' z q = absurd z
  weaks_ended (w ∷ ws) (v ∷ vs) (v' ∷ vs') z q = (weak_ended w v v' z.0 q.0, weaks_ended ws vs vs' z.1 q.1)
  weaks_ended _ _ _ z q = absurd q

  -- what is held for keys that are kept is found, so it shows what it did
  helds_ended : (ws vs vs' us ts : List (Option ℕ)) → AllZip (IsWeakShown h) ws vs → AllZip (IsClearedSlot s) vs vs'
      → AllZip (IsWeakShown ended) ws vs' → AllZip (IsShown h) (held_by (map (kept_word h.kept) ws) us) ts
      → ((j k b : ℕ) (x : Stored) → slice_get ws j ≡ Some (Some k) → kept_after h m k ≡ Some x → slice_get us j ≡ Some (Some b)
      → IsFound (IsReachable s) h m b)
      → AllZip (IsShown ended) (held_by (map (kept_word (kept_after h m)) ws) us) (held_by vs' ts)
  unfolding ended
  helds_ended ws vs vs' [] [] z y e q f = tt
  helds_ended ws vs vs' [] (t ∷ ts) z y e q f = absurd q
  helds_ended ws vs vs' (u ∷ us) [] z y e q f = absurd (held_by_ends (IsShown h) u (map (kept_word h.kept) ws) us q)
  helds_ended [] [] [] (u ∷ us) (t ∷ ts) z y e q f = (tt, helds_ended [] [] [] us ts tt tt tt q.1 (λ j k b x is. cc))
  helds_ended [] [] (v' ∷ vs') (u ∷ us) (t ∷ ts) z y e q f = absurd y
  helds_ended [] (v ∷ vs) vs' (u ∷ us) (t ∷ ts) z y e q f = absurd z
  helds_ended (w ∷ ws) [] vs' (u ∷ us) (t ∷ ts) z y e q f = absurd z
  helds_ended (w ∷ ws) (v ∷ vs) [] (u ∷ us) (t ∷ ts) z y e q f = absurd y
  helds_ended (None ∷ ws) (v ∷ vs) (None ∷ vs') (u ∷ us) (t ∷ ts) z y e q f =
      (tt, helds_ended ws vs vs' us ts z.1 y.1 e.1 q.1 (λ j k b x is at held. f (suc j) k b x is at held))
  helds_ended (None ∷ ws) (v ∷ vs) (Some n ∷ vs') (u ∷ us) (t ∷ ts) z y e q f = absurd e.0
  helds_ended (Some a ∷ ws) (v ∷ vs) (None ∷ vs') (u ∷ us) (t ∷ ts) z y e q f =
      let rest = held_by_tail (IsShown h) (kept_word h.kept (Some a)) u t (map (kept_word h.kept) ws) us ts q in
      let gone : kept_after h m a ≡ None = e.0 in
      rw gone (tt, helds_ended ws vs vs' us ts z.1 y.1 e.1 rest (λ j k b x is at held. f (suc j) k b x is at held))
  helds_ended (Some a ∷ ws) (None ∷ vs) (Some n ∷ vs') (u ∷ us) (t ∷ ts) z y e q f = absurd y.0
  helds_ended (Some a ∷ ws) (Some l ∷ vs) (Some n ∷ vs') (u ∷ us) (t ∷ ts) z y e q f =
      let was : h.kept a ≡ Some z.0.0 = z.0.1 in
      let stays : kept_after h m a ≡ Some e.0.0 = e.0.1 in
      let q' = rw was at q in
      rw stays (
        shown_ended u t (λ b is. f zero a b e.0.0 refl stays (ap Some is)) q'.0,
        helds_ended ws vs vs' us ts z.1 y.1 e.1 q'.1 (λ j k b x is at held. f (suc j) k b x is at held),
      )

  object_ended : (a : ℕ) (x : Stored) → kept_after h m a ≡ Some x → WillShowObject g' ended x
  unfolding ended
  object_ended a x e =
      let (at, why) = kept_before_here s g h m i done a x e in
      let o = shows.objects a x at in
      let (p, named, z) = cleared_named s g g' c x.name o.object o.named in
      record {
        object = p;
        named = named;
        values = o.values ∙ sym z.values;
        pointers = subst (λ ps. AllZip (IsShown ended) x.pointers ps) (sym z.pointers)
            (AllZip_map_at (IsShown h) (IsShown ended) x.pointers o.object.pointers
            (λ j w v is k. shown_ended w v (λ b q. pointer_found s g h m i done shows a x j b at why (is ∙ ap Some q)) k) o.pointers);
        weaks = weaks_ended x.weaks o.object.weaks p.weaks o.weaks z.weaks;
        keyed = o.keyed;
        held = subst (λ vs. AllZip (IsShown ended) (held_by (map (kept_word (kept_after h m)) x.weaks) x.held) vs) (sym z.held)
            (helds_ended x.weaks o.object.weaks p.weaks x.held o.object.held o.weaks z.weaks
            (weaks_ended x.weaks o.object.weaks p.weaks o.weaks z.weaks) o.held
            (λ j k b y is key held. let (key_at, key_why) = kept_before_here s g h m i done k y key in
            held_found s g h m i done shows a k b why key_why
            (record { object = x; at = at; slot = j; is = (is, held); key = y; key_at = key_at })));
      }

  pub will_show_ended : WillShow g' (record { kept = kept_after h m; roots = h.roots })
  unfolding ended
  will_show_ended = record {
    roots = subst (λ rs. AllZip (IsShown ended) h.roots rs) (sym c.roots) (AllZip_map_at (IsShown h) (IsShown ended) h.roots g.roots
        (λ j w v is z. shown_ended w v (λ a q. ByRoot a (record { place = j; is = is ∙ ap Some q })) z) shows.roots);
    distinct = λ a b x y ea eb e.
        shows.distinct a b x y (kept_before_here s g h m i done a x ea).0 (kept_before_here s g h m i done b y eb).0 e;
    objects = object_ended;
  }

module _ (s g g' : Graph) (h : Heap) (m : Marking) (i : KeepsSnapshot s h m) (done : IsDone h m) (shows : Shows g h)
    (c : Clears s g g') where
  shown_now : WillShow g h
  shown_now = will_show g h shows

  after : Heap
  after = record { kept = cleared_after h m; roots = h.roots }

  -- a word that names only what is found shows the same value
  shown_after : (w v : Option ℕ) → ((a : ℕ) → w ≡ Some a → IsFound (IsReachable s) h m a) → IsShown h w v → IsShown after w v
  unfolding after
  shown_after None None f z = tt
  shown_after (Some a) (Some n) f z = (cleared m z.0, cleared_is h m a z.0 (found_kept s g h m i done shown_now a z.0 z.1 (f a refl)), z.2)
  shown_after _ _ f z = absurd z

  -- a weak slot and what the graph has for it
  weak_after : (w v v' : Option ℕ) → IsShown h w v → IsClearedSlot s v v' → IsShown after (cleared_word m w) v'
  unfolding after
  weak_after None None None z q = tt
  weak_after None None (Some k) z q = absurd q
  weak_after (Some a) (Some n) None z q =
      let old = is_old s g g' h m i done shown_now c a z.0 z.1 (subst (λ k. k < next_name s) (sym z.2) q.0) in
      let un = unmarked s g g' h m i done shown_now c a z.0 z.1 (λ r. q.1 (subst (IsReachable s) z.2 r)) in
      rw (old, un) tt
  weak_after (Some a) (Some n) (Some k) z q =
      elim q.1 [
        | inl live ↦
            let marked = old_marked s g h m i done shown_now a z.0 z.1 (subst (IsReachable s) (sym z.2) live) in
            let old = (i.marked a marked).old in
            let kept : kept_after h m a ≡ Some z.0 = rw marked z.1 in
            let is = cleared_is h m a z.0 kept in
            rw (old, marked) (cleared m z.0, is, z.2 ∙ sym q.0)
        | inr above ↦
            let new = is_new s g g' h m i done shown_now c a z.0 z.1 (subst (λ k. next_name s ≤ k) (sym z.2) above) in
            let is = cleared_is h m a z.0 (new_kept s g g' h m i done shown_now c a z.0 z.1 new) in
            rw new (cleared m z.0, is, z.2 ∙ sym q.0)
      ]
  weak_after _ _ v' z q = absurd z

  weaks_after : (ws vs vs' : List (Option ℕ)) → AllZip (IsShown h) ws vs → AllZip (IsClearedSlot s) vs vs'
      → AllZip (IsShown after) (map (cleared_word m) ws) vs'
  weaks_after [] [] [] z q = tt
  weaks_after [] (v ∷ vs) vs' z q = absurd z
  weaks_after (w ∷ ws) [] vs' z q = absurd z
  weaks_after (w ∷ ws) (v ∷ vs) (v' ∷ vs') z q = (weak_after w v v' z.0 q.0, weaks_after ws vs vs' z.1 q.1)
  weaks_after _ _ _ z q = absurd q

  -- a key that stays was there, and is marked or new
  word_was : (w : Option ℕ) (k : ℕ) → cleared_word m w ≡ Some k → (w ≡ Some k) × ((m.marked k ≡ true) ⊎ (m.old k ≡ false))
  word_was None k e = cc
  word_was (Some a) k e = elim (bool_cases (m.old a)) [
    | inl o ↦ elim (bool_cases (m.marked a)) [
      | inl t ↦ let q : Some a ≡ Some k = rw (o, t) at e in let same : a ≡ k = cc in (q, inl (subst (λ z. m.marked z ≡ true) same t))
      | inr t ↦ absurd (let q = rw (o, t) at e in cc)
    ]
    | inr o ↦ let q : Some a ≡ Some k = rw o at e in let same : a ≡ k = cc in (q, inr (subst (λ z. m.old z ≡ false) same o))
  ]

  words_were : (ws : List (Option ℕ)) (j k : ℕ) → slice_get (map (cleared_word m) ws) j ≡ Some (Some k)
      → (slice_get ws j ≡ Some (Some k)) × ((m.marked k ≡ true) ⊎ (m.old k ≡ false))
  words_were [] j k e = cc
  words_were (w ∷ ws) zero k e = let q : cleared_word m w ≡ Some k = cc in let t = word_was w k q in (ap Some t.0, t.1)
  words_were (w ∷ ws) (suc j) k e = words_were ws j k e

  -- what is held for keys that stay is found
  helds_after : (ws vs us ts : List (Option ℕ)) → AllZip (IsShown after) ws vs → AllZip (IsShown h) us ts
      → ((j k b : ℕ) → slice_get ws j ≡ Some (Some k) → slice_get us j ≡ Some (Some b) → IsFound (IsReachable s) h m b)
      → AllZip (IsShown after) (held_by ws us) (held_by vs ts)
  helds_after ws vs [] [] z q f = tt
  helds_after ws vs [] (t ∷ ts) z q f = absurd q
  helds_after ws vs (u ∷ us) [] z q f = absurd q
  helds_after [] [] (u ∷ us) (t ∷ ts) z q f = (tt, helds_after [] [] us ts tt q.1 (λ j k b e l. f (suc j) k b e l))
  helds_after [] (v ∷ vs) (u ∷ us) (t ∷ ts) z q f = absurd z
  helds_after (w ∷ ws) [] (u ∷ us) (t ∷ ts) z q f = absurd z
  helds_after (None ∷ ws) (None ∷ vs) (u ∷ us) (t ∷ ts) z q f =
      (tt, helds_after ws vs us ts z.1 q.1 (λ j k b e l. f (suc j) k b e l))
  helds_after (None ∷ ws) (Some n ∷ vs) (u ∷ us) (t ∷ ts) z q f = absurd z.0
  helds_after (Some a ∷ ws) (None ∷ vs) (u ∷ us) (t ∷ ts) z q f = absurd z.0
  helds_after (Some a ∷ ws) (Some n ∷ vs) (u ∷ us) (t ∷ ts) z q f =
      (shown_after u t (λ b e. f zero a b refl (ap Some e)) q.0, helds_after ws vs us ts z.1 q.1 (λ j k b e l. f (suc j) k b e l))

  object_after : (a : ℕ) (x : Stored) → kept_after h m a ≡ Some x → IsObjectShown g' after (cleared m x)
  object_after a x e =
      let (at, why) = kept_before_here s g h m i done a x e in
      let o = shows.objects a x at in
      let (p, named, z) = cleared_named s g g' c x.name o.object o.named in
      record {
        object = p;
        named = named;
        values = o.values ∙ sym z.values;
        pointers = subst (λ ps. AllZip (IsShown after) x.pointers ps) (sym z.pointers)
            (AllZip_map_at (IsShown h) (IsShown after) x.pointers o.object.pointers
            (λ j w v is k. shown_after w v (λ b q. pointer_found s g h m i done shown_now a x j b at why (is ∙ ap Some q)) k) o.pointers);
        weaks = weaks_after x.weaks o.object.weaks p.weaks o.weaks z.weaks;
        held = subst (λ vs. AllZip (IsShown after) (held_by (map (cleared_word m) x.weaks) x.held) vs) (sym z.held)
            (helds_after (map (cleared_word m) x.weaks) p.weaks x.held o.object.held
            (weaks_after x.weaks o.object.weaks p.weaks o.weaks z.weaks) o.held
            (λ j k b e l. let t = words_were x.weaks j k e in
            let (v, _, shown) = AllZip-get (IsShown h) x.weaks o.object.weaks o.weaks j (Some k) t.0 in
            let (_, _, key, key_at, _) = shown_name h k v shown in
            held_found s g h m i done shown_now a k b why t.1
            (record { object = x; at = at; slot = j; is = (t.0, l); key = key; key_at = key_at })));
        keyed = held_by_again (map (cleared_word m) x.weaks) x.held;
      }

  pub shows_cleared : Shows g' (record { kept = cleared_after h m; roots = h.roots })
  unfolding after
  shows_cleared = record {
    roots = subst (λ rs. AllZip (IsShown after) h.roots rs) (sym c.roots) (AllZip_map_at (IsShown h) (IsShown after) h.roots g.roots
        (λ j w v is z. shown_after w v (λ a q. ByRoot a (record { place = j; is = is ∙ ap Some q })) z) shows.roots);
    distinct = λ a b y z ea eb e.
        let (x, ka, na) = cleared_was h m a y ea in
        let (u, kb, nb) = cleared_was h m b z eb in
        shows.distinct a b x u (kept_before_here s g h m i done a x ka).0 (kept_before_here s g h m i done b u kb).0
        (ap (λ (k : Stored). k.name) (sym na) ∙ e ∙ ap (λ (k : Stored). k.name) nb);
    objects = λ a y e.
        let (x, k, n) = cleared_was h m a y e in
        subst (λ (u : Stored). IsObjectShown g' after u) (sym n) (object_after a x k);
  }

-- a name is in a list, or not
member : (xs : List ℕ) (n : ℕ) → ((i : ℕ) × (slice_get xs i ≡ Some n)) ⊎ ((i : ℕ) → slice_get xs i ≡ Some n → ⊥)
member [] n = inr (λ i e. cc)
member (x ∷ xs) n = elim (cases_eq x n) [
  | inl q ↦ inl (0, ap Some q)
  | inr ne ↦ elim (member xs n) [
    | inl k ↦ inl (suc k.0, k.1)
    | inr none ↦ inr (nowhere x xs n ne none)
  ]
]
  where
    nowhere : (x : ℕ) (xs : List ℕ) (n : ℕ) → (x ≡ n → ⊥) → ((i : ℕ) → slice_get xs i ≡ Some n → ⊥) → (i : ℕ)
        → slice_get (x ∷ xs) i ≡ Some n → ⊥
    nowhere x xs n ne none zero e = ne cc
    nowhere x xs n ne none (suc i) e = none i e

-- where it can be told which names are reachable in the snapshot, slots can be cleared
module _ (s : Graph) (k : ℕ) (count : IsReachableCount s k) where
  tells : (n : ℕ) → IsReachable s n ⊎ (IsReachable s n → ⊥)
  tells n = elim (member count.names n) [
    | inl q ↦ inl (count.reachable q.0 n q.1)
    | inr none ↦ inr (λ r. let (i, e) = count.each n r in none i e)
  ]

  slot : (v : Option ℕ) → (v' : Option ℕ) × IsClearedSlot s v v'
  slot None = (None, tt)
  slot (Some n) = elim (cases_lt n (next_name s)) [
    | inl below ↦ elim (tells n) [ inl r ↦ (Some n, (refl, inl r)) | inr away ↦ (None, (below, away)) ]
    | inr above ↦ (Some n, (refl, inr above))
  ]

  slots : (vs : List (Option ℕ)) → (vs' : List (Option ℕ)) × AllZip (IsClearedSlot s) vs vs'
  slots [] = ([], tt)
  slots (v ∷ vs) = let (v', z) = slot v in let (vs', zs) = slots vs in (v' ∷ vs', (z, zs))

  objects : (os : List Object) → (os' : List Object) × AllZip (ClearsObject s) os os'
  objects [] = ([], tt)
  objects (o ∷ os) =
      let (ws, z) = slots o.weaks in
      let (os', zs) = objects os in
      (record o { weaks = ws; held = held_by ws o.held } ∷ os', (record { pointers = refl; weaks = z; held = refl; values = refl }, zs))

  pub clears_exists : (g : Graph) → (g' : Graph) × Clears s g g'
  clears_exists g =
      let (os, z) = objects g.objects in
      (record g { objects = os }, record { room = refl; first_name = refl; places = refl; roots = refl; objects = z })

-- what a relation that has one value for each makes of a list
AllZip-once : {A B : Type 0} (R : A → B → Type 0) → ((x : A) (y z : B) → R x y → R x z → y ≡ z) → (xs : List A) (us ws : List B)
    → AllZip R xs us → AllZip R xs ws → us ≡ ws
AllZip-once R once [] [] [] p q = refl
AllZip-once R once [] (a ∷ us) ws p q = absurd p
AllZip-once R once (v ∷ vs) [] ws p q = absurd p
AllZip-once R once (v ∷ vs) (a ∷ us) (b ∷ ws) p q =
    let e = once v a b p.0 q.0 in let es = AllZip-once R once vs us ws p.1 q.1 in cc
AllZip-once R once _ _ _ p q = absurd q

module _ (s : Graph) where
  slot_once : (v a b : Option ℕ) → IsClearedSlot s v a → IsClearedSlot s v b → a ≡ b
  slot_once None None (Some k) p q = absurd q
  slot_once None (Some k) b p q = absurd p
  slot_once (Some n) None (Some k) p q = absurd (elim q.1 [ inl r ↦ p.1 r | inr above ↦ let below = p.0 in omega arith ])
  slot_once (Some n) (Some k) None p q = absurd (elim p.1 [ inl r ↦ q.1 r | inr above ↦ let below = q.0 in omega arith ])
  slot_once (Some n) (Some k) (Some l) p q = ap Some (p.0 ∙ sym q.0)
  slot_once _ None None p q = refl

  object_once : (o a b : Object) → ClearsObject s o a → ClearsObject s o b → a ≡ b
  object_once o a b p q =
      let slots = AllZip-once (IsClearedSlot s) slot_once o.weaks a.weaks b.weaks p.weaks q.weaks in
      ap (λ u. record { pointers = u; weaks = a.weaks; held = a.held; values = a.values }) (p.pointers ∙ sym q.pointers)
      ∙ ap (λ u. record { pointers = b.pointers; weaks = u; held = a.held; values = a.values }) slots
      ∙ ap (λ u. record { pointers = b.pointers; weaks = b.weaks; held = u; values = a.values })
      (p.held ∙ ap (λ u. held_by u o.held) slots ∙ sym q.held)
      ∙ ap (λ u. record { pointers = b.pointers; weaks = b.weaks; held = b.held; values = u }) (p.values ∙ sym q.values)

  pub clears_once : (g a b : Graph) → Clears s g a → Clears s g b → a ≡ b
  clears_once g a b p q =
      ap (λ u. record { room = u; first_name = a.first_name; places = a.places; objects = a.objects; roots = a.roots })
      (p.room ∙ sym q.room)
      ∙ ap (λ u. record { room = b.room; first_name = u; places = a.places; objects = a.objects; roots = a.roots })
      (p.first_name ∙ sym q.first_name)
      ∙ ap (λ u. record { room = b.room; first_name = b.first_name; places = u; objects = a.objects; roots = a.roots })
      (p.places ∙ sym q.places)
      ∙ ap (λ u. record { room = b.room; first_name = b.first_name; places = b.places; objects = u; roots = a.roots })
      (AllZip-once (ClearsObject s) object_once g.objects a.objects b.objects p.objects q.objects)
      ∙ ap (λ u. record { room = b.room; first_name = b.first_name; places = b.places; objects = b.objects; roots = u })
      (p.roots ∙ sym q.roots)

-- what is kept at the end, cleared: each name that was reachable, and of those that were there nothing else
pub cleared_all : (s : Graph) (h : Heap) (m : Marking) → KeepsSnapshot s h m → IsDone h m → (n : ℕ) → IsReachable s n
    → (a : ℕ) × (x : Stored) × (cleared_after h m a ≡ Some x) × (x.name ≡ n)
cleared_all s h m i done n r = let (a, x, at, named) = reachable_kept s s h m i done n r in (a, cleared m x, cleared_is h m a x at, named)

pub cleared_only : (s : Graph) (h : Heap) (m : Marking) → KeepsSnapshot s h m → IsDone h m → (a : ℕ) (y : Stored)
    → cleared_after h m a ≡ Some y → IsReachable s y.name ⊎ (next_name s ≤ y.name)
cleared_only s h m i done a y e =
    let (x, k, same) = cleared_was h m a y e in
    subst (λ (z : Stored). IsReachable s z.name ⊎ (next_name s ≤ z.name)) (sym same) (kept_or_new s s h m i done a x k)

pub cleared_quiet : (g : Graph) (h : Heap) (m : Marking) → KeepsSnapshot g h m → IsDone h m → WillShow g h → (a : ℕ) (y : Stored)
    → cleared_after h m a ≡ Some y → IsReachable g y.name
cleared_quiet g h m i done shows a y e =
    let (x, k, same) = cleared_was h m a y e in
    subst (λ (z : Stored). IsReachable g z.name) (sym same) (quiet_kept g h m i done shows a x k)

-- what flags tell, and the clearing by them
module _ (s : Graph) (flag : ℕ → Bool) (reached : AreReached s flag) where
  pub flags_each : (n : ℕ) → IsReachable s n → flag n ≡ true
  flags_each n (FromRoot j k e) = reached.roots j k e
  flags_each n (FromObject m k i o r e q) = reached.pointers m k i o (flags_each m r) e q
  flags_each n (FromHeld m k l i p r key) = reached.held m k l i (flags_each m r) (flags_each k key) p

  slot_by : (v : Option ℕ) → IsClearedSlot s v (cleared_slot flag (next_name s) v)
  slot_by None = tt
  slot_by (Some n) = elim (cases_lt n (next_name s)) [
    | inl below ↦
        let b = lt-ltb n (next_name s) below in
        elim (bool_cases (flag n)) [
          | inl f ↦ rw (b, f) (refl, inl (reached.only n f))
          | inr f ↦ rw (b, f) (below, λ r. let t = flags_each n r in absurd cc)
        ]
    | inr above ↦ let b = ltb_above n (next_name s) above in rw b (refl, inr above)
  ]

  slots_by : (vs : List (Option ℕ)) → AllZip (IsClearedSlot s) vs (map (cleared_slot flag (next_name s)) vs)
  slots_by [] = tt
  slots_by (v ∷ vs) = (slot_by v, slots_by vs)

  objects_by : (os : List Object) → AllZip (ClearsObject s) os (map (cleared_names flag (next_name s)) os)
  objects_by [] = tt
  objects_by (o ∷ os) = (record { pointers = refl; weaks = slots_by o.weaks; held = refl; values = refl }, objects_by os)

  pub cleared_by : (g : Graph) → Clears s g (cleared_graph flag (next_name s) g)
  cleared_by g = record { room = refl; first_name = refl; places = refl; roots = refl; objects = objects_by g.objects }
