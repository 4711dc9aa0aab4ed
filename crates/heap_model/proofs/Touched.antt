-- What a mutator reads from a weak slot while marking runs: its target is saved, its name touched.
use Rattle.std.proofs.Common.{◌≡◌, ℕ, ◌<◌, ◌≤◌, ◌⊎◌, ◌∷◌, true, false, List, [], Option, Some, None, refl, sym, ap, ◌∙◌, subst, inl, inr}
use Rattle.std.proofs.Common.{arith, length, slice_get, slice_set}
use Rattle.heap_model.specs.Graph.{Graph, Object, object_named, next_name, IsReachable, FromRoot, FromObject, FromHeld}
use Rattle.heap_model.specs.Heap.{Heap, Stored, Points, Holds, IsShown, RootSet}
use Rattle.heap_model.specs.Clearing.{WillShow}
use Rattle.heap_model.specs.Marking.{Marking, LeadsOn, Pending, FromMarked, FromLogged, Through, ThroughHeld, WillBeMarked, IsOldLive}
use Rattle.heap_model.specs.Marking.{IsKnownAt, IsFound, ByRoot, ByLive, ByNew, ByHeld, KeepsSnapshot, IsSaved}
use Rattle.heap_model.specs.Weak.{touched, IsKnown, KeepsUnreached}
use Rattle.heap_model.proofs.Names.{bool_cases, same_some, apart, named_below}
use Rattle.heap_model.proofs.Lists.{get-set_cases, AllZip-get}
use Rattle.heap_model.proofs.Shown.{pointer_stands, root_stands, held_stands, held_shown, shown_name}
use Rattle.heap_model.proofs.Unreached.{touched_next, touched_reaches, touched_sound, touched_named, touched_root_cases, touched_reached}
use Rattle.heap_model.proofs.Unreached.{sound_reaches, weak_field, touched_pair, pair_before}

-- where a word that shows a name leads
shown_target : (h : Heap) (w v : Option ℕ) (k : ℕ) → IsShown h w v → v ≡ Some k
    → (a : ℕ) × (w ≡ Some a) × (x : Stored) × (h.kept a ≡ Some x) × (x.name ≡ k)
shown_target h None None k sh e = cc
shown_target h (Some a) (Some n) k sh e = (a, refl, sh.0, sh.1, sh.2 ∙ (let q : n ≡ k = cc in q))
shown_target h _ _ k sh e = absurd sh

none_done : (k n : ℕ) → k ≡ 0 → k ≤ n
none_done k n e = omega arith

module _ (s g : Graph) (h : Heap) (m : Marking) (shows : WillShow g h) (i : KeepsSnapshot s h m) where
  known_at : (a : ℕ) (x : Stored) → h.kept a ≡ Some x → IsFound (IsReachable s) h m a → IsKnown s x.name
  known_at a x at f = elim (bool_cases (m.old a)) [ inl o ↦ inl (i.found a x at o f) | inr o ↦ inr (i.new_names a x at o) ]

  -- a pointer of such an object is found
  found_from : (a b : ℕ) (p : Points h a b) → IsKnown s p.object.name → IsFound (IsReachable s) h m b
  found_from a b p (inl r) = ByLive a b p r
  found_from a b p (inr above) = elim (bool_cases (m.old a)) [
    | inl o ↦ absurd (apart p.object.name (next_name s) (i.old_names a p.object p.at o) above)
    | inr o ↦ ByNew a b p o
  ]

  -- and such an object is known
  known_address : (a : ℕ) (x : Stored) → h.kept a ≡ Some x → IsKnown s x.name → IsKnownAt (IsReachable s) h m a
  known_address a x at (inl r) = inl (x, at, r)
  known_address a x at (inr above) = elim (bool_cases (m.old a)) [
    | inl o ↦ absurd (apart x.name (next_name s) (i.old_names a x at o) above)
    | inr o ↦ inr o
  ]

  pub record Kept (n : ℕ) : Type 0 where
    pub address : ℕ
    pub object : Stored
    pub at : h.kept address ≡ Some object
    pub named : object.name ≡ n
    pub known : IsKnown s n

  reached_kept : (n : ℕ) → IsReachable g n → Kept n
  reached_kept n (FromRoot j k e) =
      let t = root_stands g h shows j k e in
      record {
        address = t.address;
        object = t.object;
        at = t.at;
        named = t.named;
        known = subst (IsKnown s) t.named (known_at t.address t.object t.at (ByRoot t.address t.root));
      }
  reached_kept n (FromObject q k j o r e is) =
      let b = reached_kept q r in
      let t = pointer_stands g h shows b.address b.object o j k b.at (ap (object_named g) b.named ∙ e) is in
      let same = same_some (h.kept b.address) t.points.object b.object t.points.at b.at in
      let known = subst (IsKnown s) (sym (ap (λ (z : Stored). z.name) same ∙ b.named)) b.known in
      record {
        address = t.address;
        object = t.object;
        at = t.at;
        named = t.named;
        known = subst (IsKnown s) t.named (known_at t.address t.object t.at (found_from b.address t.address t.points known));
      }
  reached_kept n (FromHeld q k l j p r rk) =
      let b = reached_kept q r in
      let key = reached_kept k rk in
      let t = held_stands g h shows b.address b.object q j k l b.at b.named p in
      let holder = known_address b.address b.object b.at (subst (IsKnown s) (sym b.named) b.known) in
      let by = known_address t.key t.key_object t.key_at (subst (IsKnown s) (sym t.key_named) key.known) in
      record {
        address = t.address;
        object = t.object;
        at = t.at;
        named = t.named;
        known = subst (IsKnown s) t.named (known_at t.address t.object t.at (ByHeld b.address t.key t.address holder by t.holds));
      }

  pub reached_known : (n : ℕ) → IsReachable g n → IsKnown s n
  reached_known n r = (reached_kept n r).known

  -- a root place takes a word that shows a name; the target is saved, and the name touched
  module _ (u : KeepsUnreached s g) (scanned : (a : ℕ) → m.scanned a ≡ true → m.marked a ≡ true)
      (undone : (a : ℕ) → m.marked a ≡ false → m.done a ≡ 0)
      (h' : Heap) (m' : Marking) (place : ℕ) (w v : Option ℕ) (shown : IsShown h w v) (step : RootSet h h' place w)
      (saved : IsSaved m m' w) where
    on : (n : ℕ) → IsReachable s n → IsReachable (touched s v) n
    on n r = touched_reaches s v n r

    leads_on : (a b : ℕ) → LeadsOn h m a b → LeadsOn h' m' a b
    leads_on a b l = record {
      points = record { object = l.points.object; at = step.kept a ∙ l.points.at; field = l.points.field; is = l.points.is };
      left = subst (λ (k : ℕ). k ≤ l.points.field) (sym (saved.done a)) l.left;
    }

    holds_on : (a k b : ℕ) → Holds h a k b → Holds h' a k b
    holds_on a k b p = record {
      object = p.object;
      at = step.kept a ∙ p.at;
      slot = p.slot;
      is = p.is;
      key = p.key;
      key_at = step.kept k ∙ p.key_at;
    }

    pending_of : (a : ℕ) → (m'.marked a ≡ true) ⊎ Pending h' m' a → Pending h' m' a
    pending_of a (inl k) = FromMarked a k
    pending_of a (inr p) = p

    pending_on : (a : ℕ) → Pending h m a → Pending h' m' a
    pending_on a (FromMarked b k) = FromMarked b (saved.marked b ∙ k)
    pending_on a (FromLogged b e) = FromLogged b (saved.kept b e)
    pending_on a (Through b c p o sc e) = Through b c (pending_on b p) (saved.old b ∙ o) (saved.scanned b ∙ sc)
        (leads_on b c e)
    pending_on a (ThroughHeld b k c p q ob ok oc e) = ThroughHeld b k c (pending_on b p) (pending_on k q) (saved.old b ∙ ob)
        (saved.old k ∙ ok) (saved.old c ∙ oc) (holds_on b k c e)

    will_on : (n : ℕ) → WillBeMarked h m n → WillBeMarked h' m' n
    will_on n k = record {
      address = k.address;
      object = k.object;
      at = step.kept k.address ∙ k.at;
      named = k.named;
      why = elim k.why [ inl q ↦ inl (saved.marked k.address ∙ q) | inr q ↦ inr (pending_on k.address q) ];
    }

    old_on : (a : ℕ) → IsOldLive (IsReachable s) h m a → IsOldLive (IsReachable (touched s v)) h' m' a
    old_on a r = record { object = r.object; at = step.kept a ∙ r.at; old = saved.old a ∙ r.old; is_live = on r.object.name r.is_live }

    below : (n : ℕ) → IsReachable (touched s v) n → n < next_name (touched s v)
    below n r = sound_reaches (touched s v) (touched_sound s v u.sound) n r

    below_s : (n : ℕ) → IsReachable (touched s v) n → n < next_name s
    below_s n r = subst (λ l. n < l) (touched_next s v) (below n r)

    old_at : (a : ℕ) (x : Stored) → h.kept a ≡ Some x → x.name < next_name s → m.old a ≡ true
    old_at a x at k = elim (bool_cases (m.old a)) [ inl o ↦ o | inr o ↦ absurd (apart x.name (next_name s) k (i.new_names a x at o)) ]

    -- a name that was touched, or is reachable in the snapshot, is that of a kept object that is marked or will be
    all_on : (n : ℕ) → IsReachable (touched s v) n → WillBeMarked h' m' n
    all_on n (FromRoot j k e) = elim (touched_root_cases s v j k e) [
      | inl q ↦
          let (a, is, x, at, named) = shown_target h w v k shown q in
          let old = old_at a x at (subst (λ l. l < next_name s) (sym named) (below_s k (FromRoot j k e))) in
          record { address = a; object = x; at = step.kept a ∙ at; named = named; why = inr (FromLogged a (saved.saved a is old)) }
      | inr q ↦ will_on k (i.all k (FromRoot q.0 k q.1))
    ]
    all_on n (FromObject q k j o r e is) =
        let b = all_on q r in
        let e' : object_named s q ≡ Some o = sym (touched_named s v q) ∙ e in
        let at = sym (step.kept b.address) ∙ b.at in
        let t = shows.objects b.address b.object at in
        let named : object_named g q ≡ Some t.object = ap (object_named g) (sym b.named) ∙ t.named in
        let live_on : IsReachable s q → WillBeMarked h' m' k = λ rs. will_on k (i.all k (FromObject q k j o rs e' is)) in
        elim (u.each q t.object named (below_s q r)) [
          | inl rs ↦ live_on rs
          | inr same ↦
              let is' : slice_get t.object.pointers j ≡ Some (Some k) =
              ap (λ l. slice_get l j) (same.2 ∙ ap (λ (z : Object). z.pointers) (same_some (object_named s q) same.0 o same.1 e'))
              ∙ is in
              let c = pointer_stands g h shows b.address b.object t.object j k at t.named is' in
              let marked_on : m.marked b.address ≡ true → WillBeMarked h' m' k = λ k1.
              let l = i.marked b.address k1 in
              let here = same_some (h.kept b.address) l.object b.object l.at at in
              live_on (subst (IsReachable s) (ap (λ (z : Stored). z.name) here ∙ b.named) l.is_live) in
              let old = old_at b.address b.object at (subst (λ l. l < next_name s) (sym b.named) (below_s q r)) in
              elim b.why [
                | inl k1 ↦ marked_on (sym (saved.marked b.address) ∙ k1)
                | inr p ↦ elim (bool_cases (m.marked b.address)) [
                  | inl marked ↦ marked_on marked
                  | inr unmarked ↦ elim (bool_cases (m.scanned b.address)) [
                    | inl sc ↦ marked_on (scanned b.address sc)
                    | inr un ↦ record {
                      address = c.address;
                      object = c.object;
                      at = step.kept c.address ∙ c.at;
                      named = c.named;
                      why = inr (Through b.address c.address p (saved.old b.address ∙ old) (saved.scanned b.address ∙ un)
                          (leads_on b.address c.address
                          (record { points = c.points; left = none_done (m.done b.address) c.points.field (undone b.address unmarked) })));
                    }
                  ]
                ]
              ]
        ]
    all_on n (FromHeld q k l j p r rk) =
        elim (u.pairs.went q j k l (pair_before s v q j k l p)) [
          | inr known ↦ elim known [
            | inl rs ↦ will_on l (i.all l rs)
            | inr above ↦ absurd (apart l (next_name s) (below_s l (FromHeld q k l j p r rk)) above)
          ]
          | inl pg ↦
              let b = all_on q r in
              let key = all_on k rk in
              let at = sym (step.kept b.address) ∙ b.at in
              let t = held_stands g h shows b.address b.object q j k l at b.named pg in
              let same = shows.distinct key.address t.key key.object t.key_object (sym (step.kept key.address) ∙ key.at) t.key_at
              (key.named ∙ sym t.key_named) in
              let ob = old_at b.address b.object at (subst (λ c. c < next_name s) (sym b.named) (below_s q r)) in
              let ok = old_at t.key t.key_object t.key_at (subst (λ c. c < next_name s) (sym t.key_named) (below_s k rk)) in
              let ol = old_at t.address t.object t.at
              (subst (λ c. c < next_name s) (sym t.named) (below_s l (FromHeld q k l j p r rk))) in
              record {
                address = t.address;
                object = t.object;
                at = step.kept t.address ∙ t.at;
                named = t.named;
                why = inr (ThroughHeld b.address t.key t.address (pending_of b.address b.why)
                    (subst (Pending h' m') same (pending_of key.address key.why)) (saved.old b.address ∙ ob) (saved.old t.key ∙ ok)
                    (saved.old t.address ∙ ol) (holds_on b.address t.key t.address t.holds));
              }
        ]

    back : (a b : ℕ) (p : Points h' a b) → Points h a b
    back a b p = record { object = p.object; at = sym (step.kept a) ∙ p.at; field = p.field; is = p.is }

    -- a word that shows the touched value names a reachable object
    word_live : (a : ℕ) (x : Stored) → h.kept a ≡ Some x → m.old a ≡ true → w ≡ Some a → IsReachable (touched s v) x.name
    word_live a x at o q =
        let (n, vq, y, here, named) = shown_name h a v (subst (λ k. IsShown h k v) q shown) in
        let same = same_some (h.kept a) y x here at in
        let vq' : v ≡ Some x.name = vq ∙ ap Some (sym named ∙ ap (λ (z : Stored). z.name) same) in
        subst (λ k. IsReachable (touched s k) x.name) (sym vq') (touched_reached s x.name (i.old_names a x at o))

    pointer_live : (c a : ℕ) (x : Stored) → h.kept a ≡ Some x → m.old a ≡ true → (p : Points h c a)
        → IsReachable (touched s v) p.object.name → IsReachable (touched s v) x.name
    pointer_live c a x at o p l =
        let t = shows.objects c p.object p.at in
        elim (u.each p.object.name t.object t.named (below_s p.object.name l)) [
          | inl r ↦ on x.name (i.found a x at o (ByLive c a p r))
          | inr same ↦
              let (v0, is, sh) = AllZip-get (IsShown h) p.object.pointers t.object.pointers t.pointers p.field (Some a) p.is in
              let (n, vq, y, here, named) = shown_name h a v0 sh in
              let yx = same_some (h.kept a) y x here at in
              let nx : n ≡ x.name = sym named ∙ ap (λ (z : Stored). z.name) yx in
              FromObject p.object.name x.name p.field same.0 l (touched_named s v p.object.name ∙ same.1)
              (ap (λ k. slice_get k p.field) (sym same.2) ∙ is ∙ ap Some (vq ∙ ap Some nx))
        ]

    -- a known object that was there is live
    live_at : (c : ℕ) (z : Stored) → h.kept c ≡ Some z → z.name < next_name s → IsKnownAt (IsReachable (touched s v)) h' m' c
        → IsReachable (touched s v) z.name
    live_at c z at b (inl p) = subst (λ (y : Stored). IsReachable (touched s v) y.name)
        (same_some (h.kept c) p.0 z (sym (step.kept c) ∙ p.1) at) p.2
    live_at c z at b (inr new) = absurd (apart z.name (next_name s) b (i.new_names c z at (sym (saved.old c) ∙ new)))

    held_live : (c k a : ℕ) (x : Stored) → h.kept a ≡ Some x → m.old a ≡ true → IsKnownAt (IsReachable (touched s v)) h' m' c
        → IsKnownAt (IsReachable (touched s v)) h' m' k → (p : Holds h c k a) → IsReachable (touched s v) x.name
    held_live c k a x at o pc pk p =
        let t = held_shown g h shows c k a p in
        let same = same_some (h.kept a) t.object x t.at at in
        subst (λ (z : Stored). IsReachable (touched s v) z.name) same
        (elim (u.pairs.came p.object.name p.slot t.key_object.name t.object.name t.pair) [
          | inr known ↦ elim known [
            | inl r ↦ on t.object.name r
            | inr above ↦ absurd (apart t.object.name (next_name s) (i.old_names a t.object t.at o) above)
          ]
          | inl q ↦
              let (f, is) = weak_field q.object p.slot t.key_object.name q.pair.0 in
              let holder = live_at c p.object p.at (named_below s p.object.name q.object q.named) pc in
              let key = live_at k t.key_object t.key_at (u.sound.fields p.object.name f t.key_object.name q.object q.named is) pk in
              FromHeld p.object.name t.key_object.name t.object.name p.slot
              (touched_pair s v p.object.name p.slot t.key_object.name t.object.name q) holder key
        ])

    found_on : (a : ℕ) (x : Stored) → h.kept a ≡ Some x → m.old a ≡ true → IsFound (IsReachable (touched s v)) h' m' a
        → IsReachable (touched s v) x.name
    unfolding back
    found_on a x at o (ByRoot c r) = elim (get-set_cases h.roots place r.place w (Some c)
        (sym (ap (λ l. slice_get l r.place) step.roots) ∙ r.is)) [
          | inl q ↦ word_live c x at o (sym q)
          | inr q ↦ on x.name (i.found c x at o (ByRoot c (record { place = r.place; is = q })))
        ]
    found_on a x at o (ByLive c d p l) = pointer_live c d x at o (back c d p) l
    found_on a x at o (ByNew c d p n) = on x.name (i.found d x at o (ByNew c d (back c d p) (sym (saved.old c) ∙ n)))
    found_on a x at o (ByHeld c k d pc pk p) = held_live c k d x at o pc pk
        (record {
          object = p.object;
          at = sym (step.kept c) ∙ p.at;
          slot = p.slot;
          is = p.is;
          key = p.key;
          key_at = sym (step.kept k) ∙ p.key_at;
        })

    saved_live : (a : ℕ) → w ≡ Some a → m.old a ≡ true → IsOldLive (IsReachable (touched s v)) h' m' a
    saved_live a q o =
        let (n, vq, x, at, named) = shown_name h a v (subst (λ k. IsShown h k v) q shown) in
        record { object = x; at = step.kept a ∙ at; old = saved.old a ∙ o; is_live = word_live a x at o q }

    pub touched_invariant : KeepsSnapshot (touched s v) h' m'
    touched_invariant = record {
      below = below;
      all = all_on;
      marked = λ a k. old_on a (i.marked a (sym (saved.marked a) ∙ k));
      logged = λ a e. elim (saved.only a e) [ inl k ↦ old_on a (i.logged a k) | inr k ↦ saved_live a k.0 k.1 ];
      found = λ a x at o f. found_on a x (sym (step.kept a) ∙ at) (sym (saved.old a) ∙ o) f;
      old_names = λ a x at o. subst (λ l. x.name < l) (sym (touched_next s v))
          (i.old_names a x (sym (step.kept a) ∙ at) (sym (saved.old a) ∙ o));
      new_names = λ a x at o. subst (λ l. l ≤ x.name) (sym (touched_next s v))
          (i.new_names a x (sym (step.kept a) ∙ at) (sym (saved.old a) ∙ o));
    }

-- the same with the roots as they are
module _ (s g : Graph) (h : Heap) (m : Marking) (shows : WillShow g h) (i : KeepsSnapshot s h m) (u : KeepsUnreached s g)
    (scanned : (a : ℕ) → m.scanned a ≡ true → m.marked a ≡ true) (undone : (a : ℕ) → m.marked a ≡ false → m.done a ≡ 0)
    (m' : Marking) (w v : Option ℕ) (shown : IsShown h w v) (saved : IsSaved m m' w) where
  pub saved_invariant : KeepsSnapshot (touched s v) h m'
  saved_invariant = touched_invariant s g h m shows i u scanned undone h m' (length h.roots) w v shown
      (record { kept = λ a. refl; roots = sym (set_behind h.roots w) }) saved
    where
      set_behind : (rs : List (Option ℕ)) (w : Option ℕ) → slice_set rs (length rs) w ≡ rs
      set_behind [] w = refl
      set_behind (r ∷ rs) w = ap (λ l. r ∷ l) (set_behind rs w)
