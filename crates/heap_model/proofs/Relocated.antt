-- Moves keep what the heap shows, and the snapshot invariant.
use Rattle.std.proofs.Common.{◌≡◌, ℕ, true, false, Option, Some, None, refl, sym, ap, ◌∙◌, subst, inl, inr, arith}
use Rattle.std.specs.List.{AllZip}
use Rattle.heap_model.specs.Graph.{Graph, object_named}
use Rattle.heap_model.specs.Heap.{Heap, Stored, Points, Holds, IsRoot, IsShown, Shows}
use Rattle.heap_model.specs.Marking.{Marking, LeadsOn, IsKnownAt, IsFound, ByRoot, ByLive, ByNew, ByHeld, MarkingInvariant}
use Rattle.heap_model.specs.Relocation.{IsMoved, Relocates, KeepsOld}
use Rattle.heap_model.proofs.Names.{bool_cases, same_some}
use Rattle.heap_model.proofs.Lists.{AllZip-get, AllZip-get_right, AllZip_through}
use Rattle.heap_model.proofs.Held.{held_by_keys}
use Rattle.heap_model.proofs.Shown.{will_show, target_reachable, root_reachable, held_shown, shown_name}
use Rattle.heap_model.proofs.Advance.{invariant_after}

moved_from : (place : ℕ → Option ℕ) (w : Option ℕ) (b : ℕ) → IsMoved place w (Some b) → (a : ℕ) × (w ≡ Some a) × (place a ≡ Some b)
moved_from place None b s = absurd s
moved_from place (Some a) b s = (a, refl, s)

moved_to : (place : ℕ → Option ℕ) (a : ℕ) (w : Option ℕ) → IsMoved place (Some a) w → (b : ℕ) × (w ≡ Some b) × (place a ≡ Some b)
moved_to place a None s = absurd s
moved_to place a (Some b) s = (b, refl, s)

-- nil stays nil
moved_nil : (place : ℕ → Option ℕ) (w : Option ℕ) → IsMoved place None w → w ≡ None
moved_nil place None s = refl
moved_nil place (Some b) s = absurd s

module _ (place : ℕ → Option ℕ) (g : Graph) (h h' : Heap) (shows : Shows g h) (r : Relocates place h h') where
  shown_moved : (w v w' : Option ℕ) → IsShown h w v → IsMoved place w w' → IsShown h' w' v
  shown_moved None None None s t = tt
  shown_moved None (Some n) w' s t = absurd s
  shown_moved (Some a) None w' s t = absurd s
  shown_moved (Some a) (Some n) (Some b) s t = let c = r.kept a b s.0 s.1 t in (c.copy, c.at, c.name ∙ s.2)
  shown_moved _ _ _ s t = absurd t

  -- the copy that is at b, and the object that it came from
  pub record Origin (b : ℕ) (y : Stored) : Type 0 where
    pub from : ℕ
    pub object : Stored
    pub at : h.kept from ≡ Some object
    pub placed : place from ≡ Some b
    pub name : y.name ≡ object.name
    pub values : y.values ≡ object.values
    pub pointers : AllZip (IsMoved place) object.pointers y.pointers
    pub weaks : AllZip (IsMoved place) object.weaks y.weaks
    pub held : AllZip (IsMoved place) object.held y.held

  origin : (b : ℕ) (y : Stored) → h'.kept b ≡ Some y → Origin b y
  origin b y e =
      let c = r.came b y e in
      let k = r.kept c.from b c.object c.at c.placed in
      let same : k.copy ≡ y = let e1 = k.at in cc in
      record {
        from = c.from;
        object = c.object;
        at = c.at;
        placed = c.placed;
        name = ap (λ (z : Stored). z.name) (sym same) ∙ k.name;
        values = ap (λ (z : Stored). z.values) (sym same) ∙ k.values;
        pointers = subst (λ (z : Stored). AllZip (IsMoved place) c.object.pointers z.pointers) same k.pointers;
        weaks = subst (λ (z : Stored). AllZip (IsMoved place) c.object.weaks z.weaks) same k.weaks;
        held = subst (λ (z : Stored). AllZip (IsMoved place) c.object.held z.held) same k.held;
      }

  pub relocated_shows : Shows g h'
  relocated_shows = record {
    roots = AllZip_through (IsShown h) (IsMoved place) (IsShown h') shown_moved h.roots g.roots h'.roots shows.roots r.roots;
    distinct = λ a b x y ea eb e.
        let p = origin a x ea in
        let q = origin b y eb in
        let same = shows.distinct p.from q.from p.object q.object p.at q.at (sym p.name ∙ e ∙ q.name) in
        let e1 = ap place same in
        let e2 = p.placed in
        let e3 = q.placed in
        cc;
    objects = λ a x e.
        let p = origin a x e in
        let o = shows.objects p.from p.object p.at in
        record {
          object = o.object;
          named = ap (object_named g) p.name ∙ o.named;
          values = p.values ∙ o.values;
          pointers = AllZip_through (IsShown h) (IsMoved place)
              (IsShown h') shown_moved p.object.pointers o.object.pointers x.pointers o.pointers p.pointers;
          weaks = AllZip_through (IsShown h) (IsMoved place) (IsShown h') shown_moved p.object.weaks o.object.weaks x.weaks o.weaks p.weaks;
          held = AllZip_through (IsShown h) (IsMoved place) (IsShown h') shown_moved p.object.held o.object.held x.held o.held p.held;
          keyed = held_by_keys (IsMoved place) (λ k e. absurd e) (λ k e. absurd e) (IsMoved place) (moved_nil place) p.object.weaks x.weaks
              p.object.held x.held p.weaks p.held o.keyed;
        };
  }

  module _ (live : ℕ → Type 0) (limit : ℕ) (m : Marking) (i : MarkingInvariant live limit h m) (keeps : KeepsOld place h m) where
    edge : (a b : ℕ) → m.old a ≡ true → (l : LeadsOn h m a b) → m.old b ≡ true → LeadsOn h' m a b
    edge a b oa l ob =
        let p = l.points in
        let k = r.kept a a p.object p.at (keeps.stays a p.object p.at oa) in
        let (w, is, t) = AllZip-get (IsMoved place) p.object.pointers k.copy.pointers k.pointers p.field (Some b) p.is in
        let (c, e, placed) = moved_to place b w t in
        let (y, at, _) = target_reachable g h (will_show g h shows) g a b p in
        let stays = keeps.stays b y at ob in
        let same : c ≡ b = cc in
        record { points = record { object = k.copy; at = k.at; field = p.field; is = is ∙ ap Some (e ∙ ap Some same) }; left = l.left }

    -- a word that names an old object names it still, and one that does named it
    word_stays : (b : ℕ) (y : Stored) (w : Option ℕ) → h.kept b ≡ Some y → m.old b ≡ true → IsMoved place (Some b) w → w ≡ Some b
    word_stays b y w at ob t =
        let (c, e, placed) = moved_to place b w t in
        let stays = keeps.stays b y at ob in
        let same : c ≡ b = cc in
        e ∙ ap Some same

    pairs_edge : (a k b : ℕ) → m.old a ≡ true → m.old k ≡ true → m.old b ≡ true → Holds h a k b → Holds h' a k b
    pairs_edge a k b oa ok ob p =
        let c = r.kept a a p.object p.at (keeps.stays a p.object p.at oa) in
        let s = held_shown g h (will_show g h shows) a k b p in
        let key = r.kept k k p.key p.key_at (keeps.stays k p.key p.key_at ok) in
        let (w, is, t) = AllZip-get (IsMoved place) p.object.weaks c.copy.weaks c.weaks p.slot (Some k) p.is.0 in
        let (u, us, q) = AllZip-get (IsMoved place) p.object.held c.copy.held c.held p.slot (Some b) p.is.1 in
        record {
          object = c.copy;
          at = c.at;
          slot = p.slot;
          is = (is ∙ ap Some (word_stays k s.key_object w s.key_at ok t), us ∙ ap Some (word_stays b s.object u s.at ob q));
          key = key.copy;
          key_at = key.at;
        }

    root_back : (c : ℕ) → m.old c ≡ true → IsRoot h' c → IsRoot h c
    root_back c o root =
        let (w, is, t) = AllZip-get_right (IsMoved place) h.roots h'.roots r.roots root.place (Some c) root.is in
        let (a, e, placed) = moved_from place w c t in
        let before : IsRoot h a = record { place = root.place; is = is ∙ ap Some e } in
        let (y, at, _) = root_reachable g h (will_show g h shows) a before in
        subst (IsRoot h) (keeps.none_comes a c y at placed o) before

    pub record Before (c d : ℕ) (y : Stored) : Type 0 where
      pub origin : Origin c y
      pub points : Points h origin.from d
      pub name : points.object.name ≡ y.name

    points_back : (c d : ℕ) → m.old d ≡ true → (p : Points h' c d) → Before c d p.object
    points_back c d o p =
        let k = origin c p.object p.at in
        let (w, is, t) = AllZip-get_right (IsMoved place) k.object.pointers p.object.pointers k.pointers p.field (Some d) p.is in
        let (a, e, placed) = moved_from place w d t in
        let before : Points h k.from a = record { object = k.object; at = k.at; field = p.field; is = is ∙ ap Some e } in
        let (y, at, _) = target_reachable g h (will_show g h shows) g k.from a before in
        let same = keeps.none_comes a d y at placed o in
        record {
          origin = k;
          points = record { object = k.object; at = k.at; field = p.field; is = is ∙ ap Some (e ∙ ap Some same) };
          name = sym k.name;
        }

    -- what came to a new address was new
    from_new : (c : ℕ) (y : Stored) → (k : Origin c y) → m.old c ≡ false → m.old k.from ≡ false
    from_new c y k new = elim (bool_cases (m.old k.from)) [
      | inl o ↦ absurd (let stays = keeps.stays k.from k.object k.at o in let placed = k.placed in let same : k.from ≡ c = cc in
          let here = ap m.old same in cc)
      | inr n ↦ n
    ]

    -- where a kept object was
    known_back : (c k : ℕ) (y : Stored) → h.kept c ≡ Some y → place c ≡ Some k → IsKnownAt live h' m k → IsKnownAt live h m c
    known_back c k y at placed (inl p) =
        let n = r.kept c k y at placed in
        let same = same_some (h'.kept k) p.0 n.copy p.1 n.at in
        inl (y, at, subst live (ap (λ (z : Stored). z.name) same ∙ n.name) p.2)
    known_back c k y at placed (inr new) = elim (bool_cases (m.old c)) [
      | inl o ↦ absurd (let stays = keeps.stays c y at o in let same : c ≡ k = cc in let here = ap m.old same in cc)
      | inr n ↦ inr n
    ]

    pub record HeldBefore (c k d : ℕ) : Type 0 where
      pub from : ℕ
      pub key : ℕ
      pub holds : Holds h from key d
      pub from_known : IsKnownAt live h m from
      pub key_known : IsKnownAt live h m key

    holds_back : (c k d : ℕ) → m.old d ≡ true → IsKnownAt live h' m c → IsKnownAt live h' m k → (p : Holds h' c k d) → HeldBefore c k d
    holds_back c k d o pc pk p =
        let b = origin c p.object p.at in
        let (w, is, t) = AllZip-get_right (IsMoved place) b.object.weaks p.object.weaks b.weaks p.slot (Some k) p.is.0 in
        let (u, us, q) = AllZip-get_right (IsMoved place) b.object.held p.object.held b.held p.slot (Some d) p.is.1 in
        let (kf, e, placed_k) = moved_from place w k t in
        let (df, f, placed_d) = moved_from place u d q in
        let shown = shows.objects b.from b.object b.at in
        let (v, vs, z) = AllZip-get (IsShown h) b.object.weaks shown.object.weaks shown.weaks p.slot (Some kf) (is ∙ ap Some e) in
        let (l, _, key, key_at, _) = shown_name h kf v z in
        let before : Holds h b.from kf df = record {
          object = b.object;
          at = b.at;
          slot = p.slot;
          is = (is ∙ ap Some e, us ∙ ap Some f);
          key = key;
          key_at = key_at;
        } in
        let s = held_shown g h (will_show g h shows) b.from kf df before in
        let same = keeps.none_comes df d s.object s.at placed_d o in
        record {
          from = b.from;
          key = kf;
          holds = subst (λ z. Holds h b.from kf z) same before;
          from_known = known_back b.from c b.object b.at b.placed pc;
          key_known = known_back kf k s.key_object s.key_at placed_k pk;
        }

    found_back : (a : ℕ) → m.old a ≡ true → IsFound live h' m a → IsFound live h m a
    found_back a o (ByRoot c root) = ByRoot c (root_back c o root)
    found_back a o (ByLive c d p reach) = let b = points_back c d o p in ByLive b.origin.from d b.points (subst live (sym b.name) reach)
    found_back a o (ByNew c d p new) = let b = points_back c d o p in ByNew b.origin.from d b.points (from_new c p.object b.origin new)
    found_back a o (ByHeld c k d pc pk p) = let b = holds_back c k d o pc pk p in ByHeld b.from b.key d b.from_known b.key_known b.holds

    pub relocated_invariant : MarkingInvariant live limit h' m
    relocated_invariant = invariant_after live limit h m h' m (record {
      old = λ a. refl;
      marked = λ a k. k;
      logged = λ a e. inr e;
      edges = λ a b _ o un p ob. inl (un, edge a b o p ob);
      held = λ a k b oa ok ob p. inl (pairs_edge a k b oa ok ob p);
      stays = λ a x at o. let k = r.kept a a x at (keeps.stays a x at o) in record { object = k.copy; at = k.at; named = k.name };
      came = λ a x at o. let k = origin a x at in let same = keeps.none_comes k.from a k.object k.at k.placed o in
          record { object = k.object; at = ap h.kept (sym same) ∙ k.at; named = sym k.name };
      newly_marked = λ a k. inl k;
      newly_logged = λ a e. inl e;
      found = λ a o f. found_back a o f;
      fresh = λ a x at n. let k = origin a x at in let above = i.new_names k.from k.object k.at (from_new a x k n) in let named = k.name in
          omega arith;
    }) i
