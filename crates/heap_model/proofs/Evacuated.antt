-- The turns of the copying.
use Rattle.std.proofs.Common.{◌≡◌, ◌⊎◌, ◌↔◌, ◌∷◌, ◌++◌, ◌∙◌, ℕ, zero, suc, Bool, true, false, List, [], length, Option, Some, None, refl}
use Rattle.std.proofs.Common.{sym}
use Rattle.std.proofs.Common.{ap, subst, inl, inr, slice_set, slice_get}
use Rattle.std.specs.List.{AllZip}
use Rattle.std.proofs.lemmas.Bool.{cases_eq}
use Rattle.heap_model.specs.Heap.{Heap, Stored, fields, HasField, IsRoot, IsClosed, RootSet, ObjectSet}
use Rattle.heap_model.specs.Relocation.{IsMoved, Relocates}
use Rattle.heap_model.specs.Evacuation.{IsReached, ByRootWord, ByOutside, ByInside, place_after, IsWord, IsEvacuating, IsClean, IsEvacuated}
use Rattle.heap_model.specs.Evacuation.{released, Copies}
use Rattle.heap_model.proofs.Names.{bool_cases}
use Rattle.heap_model.proofs.Lists.{get_as, AllZip-get, AllZip-get_right, AllZip_map, AllZip-split}

placed_inside : (set : ℕ → Bool) (forward : ℕ → Option ℕ) (a : ℕ) → set a ≡ true → place_after set forward a ≡ forward a
placed_inside set forward a e = rw e refl

placed_outside : (set : ℕ → Bool) (forward : ℕ → Option ℕ) (a : ℕ) → set a ≡ false → place_after set forward a ≡ Some a
placed_outside set forward a e = rw e refl

-- a clean word that is as it was names what stays
clean_moved : (set : ℕ → Bool) (forward : ℕ → Option ℕ) (w w' : Option ℕ) → ((a : ℕ) → w' ≡ Some a → set a ≡ false)
    → IsWord (place_after set forward) w w' → IsMoved (place_after set forward) w w'
clean_moved set forward w w' clean (inr m) = m
clean_moved set forward None None clean (inl e) = tt
clean_moved set forward (Some a) (Some b) clean (inl e) =
    let same : a ≡ b = cc in
    rw same (placed_outside set forward b (clean b refl))
clean_moved set forward _ _ clean (inl e) = cc

same_words : (place : ℕ → Option ℕ) (ws : List (Option ℕ)) → AllZip (IsWord place) ws ws
same_words place [] = tt
same_words place (w ∷ ws) = (inl refl, same_words place ws)

-- nothing is there at the start
pub start : (set : ℕ → Bool) (h : Heap) → IsEvacuating set h (λ a. None) h
start set h = record {
  roots = same_words (place_after set (λ a. None)) h.roots;
  objects = λ a b x at placed. elim (bool_cases (set a)) [
    | inl e ↦ absurd (let q = placed_inside set (λ a. None) a e in cc)
    | inr e ↦
        let q = placed_outside set (λ a. None) a e in
        let same : a ≡ b = cc in
        let words = same_words (place_after set (λ a. None)) (fields x) in
        record { part = x; at = ap h.kept (sym same) ∙ at; name = refl; values = refl; shape = refl; slots = refl; words = words }
  ];
  came = λ b y at out. record { from = b; object = y; at = at; placed = placed_outside set (λ a. None) b out };
  untouched = λ a _ _. refl;
  reached = λ a b _ e. cc;
  out = λ a b _ e. cc;
}

module _ (set : ℕ → Bool) (h : Heap) (forward : ℕ → Option ℕ) (now : Heap) (v : IsEvacuating set h forward now) where
  -- what is placed is placed outside the set
  out_of : (c d : ℕ) → place_after set forward c ≡ Some d → set d ≡ false
  out_of c d e = elim (bool_cases (set c)) [
    | inl k ↦ v.out c d k (sym (placed_inside set forward c k) ∙ e)
    | inr k ↦ let q = placed_outside set forward c k in let same : c ≡ d = cc in ap set (sym same) ∙ k
  ]

  module _ (done : IsEvacuated set now) where
    clean_words : (xs ys : List (Option ℕ)) → IsClean set ys → AllZip (IsWord (place_after set forward)) xs ys
        → AllZip (IsMoved (place_after set forward)) xs ys
    clean_words [] [] c z = tt
    clean_words (x ∷ xs) (y ∷ ys) c z = (
      clean_moved set forward x y (λ a e. c zero a (ap Some e)) z.0,
      clean_words xs ys (λ i a e. c (suc i) a e) z.1,
    )
    clean_words _ _ c z = absurd z

    pub evacuated_relocates : Relocates (place_after set forward) h (released set now)
    evacuated_relocates = record {
      roots = clean_words h.roots now.roots done.roots v.roots;
      kept = λ a b x at e.
          let p = v.objects a b x at e in
          let out = out_of a b e in
          let moved = clean_words (fields x) (fields p.part) (done.objects b p.part p.at out) p.words in
          let (pointers, behind) = AllZip-split (IsMoved (place_after set forward)) x.pointers p.part.pointers (x.weaks ++ x.held)
          (p.part.weaks ++ p.part.held) p.shape moved in
          let (weaks, held) = AllZip-split (IsMoved (place_after set forward)) x.weaks p.part.weaks x.held p.part.held p.slots behind in
          record { copy = p.part; at = rw out p.at; name = p.name; values = p.values; pointers = pointers; weaks = weaks; held = held };
      came = λ b y e. elim (bool_cases (set b)) [
        | inl k ↦ absurd (let q = rw k at e in cc)
        | inr k ↦ let o = v.came b y (rw k at e) k in record { from = o.from; object = o.object; at = o.at; placed = o.placed }
      ];
    }

    -- the word of a moved pointer to the set
    moved_inside : (a : ℕ) (w : Option ℕ) → IsMoved (place_after set forward) (Some a) w → set a ≡ true → (b : ℕ) × (forward a ≡ Some b)
    moved_inside a None m e = absurd m
    moved_inside a (Some b) m e = (b, sym (placed_inside set forward a e) ∙ m)

    field_forwarded : (b c a : ℕ) (p : HasField h b a) → place_after set forward b ≡ Some c → set a ≡ true → (d : ℕ) × (forward a ≡ Some d)
    field_forwarded b c a p e inside =
        let k = v.objects b c p.object p.at e in
        let moved = clean_words (fields p.object) (fields k.part) (done.objects c k.part k.at (out_of b c e)) k.words in
        let (w, is, m) = AllZip-get (IsMoved (place_after set forward)) (fields p.object) (fields k.part) moved p.field (Some a) p.is in
        moved_inside a w m inside

    -- what is reached is copied
    reached_copied : (a : ℕ) → IsReached set h a → (b : ℕ) × (forward a ≡ Some b)
    reached_copied a (ByRootWord c r inside) =
        let (w, is, m) = AllZip-get (IsMoved (place_after set forward)) h.roots now.roots
        (clean_words h.roots now.roots done.roots v.roots) r.place (Some c) r.is in
        moved_inside c w m inside
    reached_copied a (ByOutside b c out p inside) = field_forwarded b b c p (placed_outside set forward b out) inside
    reached_copied a (ByInside b c r p inside) =
        let (d, e) = reached_copied b r in
        field_forwarded b d c p (place_after_reached b r ∙ e) inside
      where
        place_after_reached : (b : ℕ) → IsReached set h b → place_after set forward b ≡ forward b
        place_after_reached b (ByRootWord _ _ inside) = placed_inside set forward b inside
        place_after_reached b (ByOutside _ _ _ _ inside) = placed_inside set forward b inside
        place_after_reached b (ByInside _ _ _ _ inside) = placed_inside set forward b inside

    -- what is copied is what is reached
    pub reached_exactly : (a : ℕ) → IsReached set h a ↔ ((set a ≡ true) × (b : ℕ) × (forward a ≡ Some b))
    reached_exactly a = (λ r. let (b, e) = reached_copied a r in (reached_inside a r, b, e), λ q. v.reached a q.1 q.0 q.2)
      where
        reached_inside : (a : ℕ) → IsReached set h a → set a ≡ true
        reached_inside a (ByRootWord _ _ inside) = inside
        reached_inside a (ByOutside _ _ _ _ inside) = inside
        reached_inside a (ByInside _ _ _ _ inside) = inside

  -- a root word is updated
  pub root_updated : (now' : Heap) (j : ℕ) (w w' : Option ℕ) → slice_get h.roots j ≡ Some w → IsMoved (place_after set forward) w w'
      → RootSet now now' j w' → IsEvacuating set h forward now'
  root_updated now' j w w' at moved step = record {
    roots = subst (λ ws. AllZip (IsWord (place_after set forward)) h.roots ws) (sym step.roots) (set_one h.roots now.roots j v.roots at);
    objects = λ a b x e p. let k = v.objects a b x e p in
        record {
          part = k.part;
          at = step.kept b ∙ k.at;
          name = k.name;
          values = k.values;
          shape = k.shape;
          slots = k.slots;
          words = k.words;
        };
    came = λ b y e out. v.came b y (sym (step.kept b) ∙ e) out;
    untouched = λ a e u. step.kept a ∙ v.untouched a e u;
    reached = v.reached;
    out = v.out;
  }
    where
      set_one : (xs ys : List (Option ℕ)) (i : ℕ) → AllZip (IsWord (place_after set forward)) xs ys → slice_get xs i ≡ Some w
          → AllZip (IsWord (place_after set forward)) xs (slice_set ys i w')
      set_one [] [] i z e = tt
      set_one (x ∷ xs) (y ∷ ys) zero z e = let same : w ≡ x = cc in
          (inr (subst (λ u. IsMoved (place_after set forward) u w') same moved), z.1)
      set_one (x ∷ xs) (y ∷ ys) (suc i) z e = (z.0, set_one xs ys i z.1 e)
      set_one _ _ i z e = absurd z

  -- a word that still names the set is as it was
  pub word_was : (w : Option ℕ) (c : ℕ) → IsWord (place_after set forward) w (Some c) → set c ≡ true → w ≡ Some c
  word_was w c (inl e) inside = sym e
  word_was None c (inr m) inside = absurd m
  word_was (Some a) c (inr m) inside = absurd (let out = out_of a c m in cc)

  -- what is forwarded is its new value
  word_updated : (w : Option ℕ) (c d : ℕ) → IsWord (place_after set forward) w (Some c) → set c ≡ true → forward c ≡ Some d
      → IsMoved (place_after set forward) w (Some d)
  word_updated w c d k inside f = subst (λ u. IsMoved (place_after set forward) u (Some d)) (sym (word_was w c k inside))
      (placed_inside set forward c inside ∙ f)

  -- what a present word outside the set still names is reached
  pub root_reached : (j c : ℕ) → slice_get now.roots j ≡ Some (Some c) → set c ≡ true → IsRoot h c
  root_reached j c e inside =
      let (w, is, k) = AllZip-get_right (IsWord (place_after set forward)) h.roots now.roots v.roots j (Some c) e in
      record { place = j; is = get_as h.roots j w (Some c) is (word_was w c k inside) }

  pub field_reached : (b i c : ℕ) (y : Stored) → now.kept b ≡ Some y → set b ≡ false → slice_get (fields y) i ≡ Some (Some c)
      → set c ≡ true → IsReached set h c
  field_reached b i c y at out e inside =
      let o = v.came b y at out in
      let k = v.objects o.from b o.object o.at o.placed in
      let same : y ≡ k.part = let e1 = k.at in cc in
      let e' = subst (λ (z : Stored). slice_get (fields z) i ≡ Some (Some c)) same e in
      let (w, is, s) = AllZip-get_right (IsWord (place_after set forward)) (fields o.object) (fields k.part) k.words i (Some c) e' in
      let p : HasField h o.from c = record {
        object = o.object;
        at = o.at;
        field = i;
        is = get_as (fields o.object) i w (Some c) is (word_was w c s inside);
      } in
      elim (bool_cases (set o.from)) [
        | inl q ↦ ByInside o.from c (v.reached o.from b q (sym (placed_inside set forward o.from q) ∙ o.placed)) p inside
        | inr q ↦ ByOutside o.from c q p inside
      ]

  -- a pointer field of an object outside the set is updated
  pub field_updated : (now' : Heap) (b i c d : ℕ) (y y' : Stored) → set b ≡ false → slice_get (fields y) i ≡ Some (Some c) → set c ≡ true
      → forward c ≡ Some d → ObjectSet now now' b y y' → y'.values ≡ y.values → length y'.pointers ≡ length y.pointers
      → length y'.weaks ≡ length y.weaks → fields y' ≡ slice_set (fields y) i (Some d) → IsEvacuating set h forward now'
  field_updated now' b i c d y y' out e inside f step values shape slots words = record {
    roots = subst (λ ws. AllZip (IsWord (place_after set forward)) h.roots ws) (sym step.roots) v.roots;
    objects = λ a b0 x at p.
        let k = v.objects a b0 x at p in
        elim (cases_eq b0 b) [
          | inl q ↦
              let same : k.part ≡ y = let e1 = k.at in let e2 = ap now.kept q in let e3 = step.was in cc in
              record {
                part = y';
                at = ap now'.kept q ∙ step.is;
                name = step.name ∙ ap (λ (z : Stored). z.name) (sym same) ∙ k.name;
                values = values ∙ ap (λ (z : Stored). z.values) (sym same) ∙ k.values;
                shape = shape ∙ ap (λ (z : Stored). length z.pointers) (sym same) ∙ k.shape;
                slots = slots ∙ ap (λ (z : Stored). length z.weaks) (sym same) ∙ k.slots;
                words = subst (λ ws. AllZip (IsWord (place_after set forward)) (fields x) ws) (sym words)
                    (set_one (fields x) (fields y) i
                    (subst (λ (z : Stored). AllZip (IsWord (place_after set forward)) (fields x) (fields z)) same k.words) e);
              }
          | inr n ↦ record {
            part = k.part;
            at = step.others b0 n
                ∙ k.at;
            name = k.name;
            values = k.values;
            shape = k.shape;
            slots = k.slots;
            words = k.words;
          }
        ];
    came = λ b0 z at o. elim (cases_eq b0 b) [
      | inl q ↦ let k = v.came b y step.was out in
          record { from = k.from; object = k.object; at = k.at; placed = k.placed ∙ ap Some (sym q) }
      | inr n ↦ v.came b0 z (sym (step.others b0 n) ∙ at) o
    ];
    untouched = λ a k u. step.others a (λ q. let here = ap set q in absurd cc) ∙ v.untouched a k u;
    reached = v.reached;
    out = v.out;
  }
    where
      set_one : (xs ys : List (Option ℕ)) (j : ℕ) → AllZip (IsWord (place_after set forward)) xs ys → slice_get ys j ≡ Some (Some c)
          → AllZip (IsWord (place_after set forward)) xs (slice_set ys j (Some d))
      set_one [] [] j z e = tt
      set_one (x ∷ xs) (y ∷ ys) zero z e = let same : y ≡ Some c = cc in
          (inr (word_updated x c d (subst (λ u. IsWord (place_after set forward) x u) same z.0) inside f), z.1)
      set_one (x ∷ xs) (y ∷ ys) (suc j) z e = (z.0, set_one xs ys j z.1 e)
      set_one _ _ j z e = absurd z

  module _ (forward' : ℕ → Option ℕ) (now' : Heap) (a b : ℕ) (x : Stored) (step : Copies set forward forward' now now' a b x)
      (r : IsReached set h a) where
    grows : (c d : ℕ) → place_after set forward c ≡ Some d → place_after set forward' c ≡ Some d
    grows c d e = elim (bool_cases (set c)) [
      | inl k ↦ elim (cases_eq c a) [
        | inl q ↦ absurd (let un = step.unforwarded in let here = ap forward q in let p = placed_inside set forward c k in cc)
        | inr n ↦ placed_inside set forward' c k ∙ step.forward_others c n ∙ sym (placed_inside set forward c k) ∙ e
      ]
      | inr k ↦ placed_outside set forward' c k ∙ sym (placed_outside set forward c k) ∙ e
    ]

    word_grows : (w w' : Option ℕ) → IsWord (place_after set forward) w w' → IsWord (place_after set forward') w w'
    word_grows w w' (inl e) = inl e
    word_grows None None (inr m) = inr tt
    word_grows (Some c) (Some d) (inr m) = inr (grows c d m)
    word_grows _ _ (inr m) = absurd m

    -- what is placed anew is placed as before, or is the copy
    placed_before : (c d : ℕ) → place_after set forward' c ≡ Some d
        → ((c ≡ a) × (d ≡ b)) ⊎ ((c ≡ a → ⊥) × (place_after set forward c ≡ Some d))
    placed_before c d e = elim (cases_eq c a) [
      | inl q ↦ inl (
        q,
        (let p = placed_inside set forward' a step.inside in let f = step.forwarded in
            let here = ap (place_after set forward') q in cc),
      )
      | inr n ↦ inr (
        n,
        elim (bool_cases (set c)) [
          | inl k ↦ placed_inside set forward c k ∙ sym (step.forward_others c n) ∙ sym (placed_inside set forward' c k) ∙ e
          | inr k ↦ placed_outside set forward c k ∙ sym (placed_outside set forward' c k) ∙ e
        ],
      )
    ]

    kept_on : (c : ℕ) (y : Stored) → now.kept c ≡ Some y → set c ≡ false → now'.kept c ≡ Some y
    kept_on c y e out = step.others c (λ q. let here = ap set q in let i = step.inside in absurd cc)
        (λ q. let here = ap now.kept q in let room = step.room in absurd cc) ∙ e

    pub copied : IsEvacuating set h forward' now'
    copied = record {
      roots = subst (λ ws. AllZip (IsWord (place_after set forward')) h.roots ws) (sym step.roots)
          (AllZip_map (IsWord (place_after set forward)) (IsWord (place_after set forward')) word_grows h.roots now.roots v.roots);
      objects = λ c d z at e. elim (placed_before c d e) [
        | inl q ↦
            let same : z ≡ x = let e1 = ap h.kept q.0 in let e2 = v.untouched a step.inside step.unforwarded in let e3 = step.object in
            cc in
            record {
              part = x;
              at = ap now'.kept q.1
                  ∙ step.copy;
              name = ap (λ (y : Stored). y.name) (sym same);
              values = ap (λ (y : Stored). y.values) (sym same);
              shape =
                  ap (λ (y : Stored). length y.pointers) (sym same);
              slots =
                  ap (λ (y : Stored). length y.weaks) (sym same);
              words =
                  subst (λ (y : Stored). AllZip (IsWord (place_after set forward')) (fields y) (fields x)) (sym same)
                  (same_words (place_after set forward') (fields x));
            }
        | inr q ↦
            let k = v.objects c d z at q.1 in
            record {
              part = k.part;
              at = kept_on d k.part k.at (out_of c d q.1);
              name = k.name;
              values = k.values;
              shape = k.shape;
              slots = k.slots;
              words = AllZip_map (IsWord (place_after set forward)) (IsWord (place_after set forward')) word_grows (fields z)
                  (fields k.part) k.words;
            }
      ];
      came = λ d y e out. elim (cases_eq d b) [
        | inl q ↦ record {
          from = a;
          object = x;
          at = sym (v.untouched a step.inside step.unforwarded)
              ∙ step.object;
          placed = placed_inside set forward' a step.inside ∙ step.forwarded ∙ ap Some (sym q);
        }
        | inr n ↦
            let k = v.came d y (sym (step.others d (λ q. let here = ap set q in let i = step.inside in absurd cc) n) ∙ e) out in
            record { from = k.from; object = k.object; at = k.at; placed = grows k.from d k.placed }
      ];
      untouched = λ c k u.
          let n : c ≡ a → ⊥ = λ q. let here = ap forward' q in let f = step.forwarded in absurd cc in
          step.others c n (λ q. let here = ap set q in let o = step.outside in absurd cc)
          ∙ v.untouched c k (sym (step.forward_others c n) ∙ u);
      reached = λ c d k e. elim (cases_eq c a) [
        | inl q ↦ subst (IsReached set h) (sym q) r
        | inr n ↦ v.reached c d k (sym (step.forward_others c n) ∙ e)
      ];
      out = λ c d k e. elim (cases_eq c a) [
        | inl q ↦ let here = ap forward' q in let f = step.forwarded in let same : d ≡ b = cc in ap set same ∙ step.outside
        | inr n ↦ v.out c d k (sym (step.forward_others c n) ∙ e)
      ];
    }

  -- a present word names an object of the set, as it was, or a present object outside the set
  pub word_names : (w : Option ℕ) (c : ℕ) → IsWord (place_after set forward) w (Some c)
      → ((a : ℕ) → w ≡ Some a → (x : Stored) × (h.kept a ≡ Some x))
      → ((set c ≡ true) × (x : Stored) × (h.kept c ≡ Some x)) ⊎ ((set c ≡ false) × (y : Stored) × (now.kept c ≡ Some y))
  word_names None c (inl e) f = cc
  word_names None c (inr m) f = absurd m
  word_names (Some a) c (inl e) f =
      let same : a ≡ c = cc in
      let (x, at) = f a refl in
      elim (bool_cases (set c)) [
        | inl k ↦ inl (k, x, ap h.kept (sym same) ∙ at)
        | inr k ↦ let p = v.objects c c x (ap h.kept (sym same) ∙ at) (placed_outside set forward c k) in inr (k, p.part, p.at)
      ]
  word_names (Some a) c (inr m) f =
      let (x, at) = f a refl in
      let p = v.objects a c x at m in
      inr (out_of a c m, p.part, p.at)

  pub field_names : IsClosed h → (b i c : ℕ) (y : Stored) → now.kept b ≡ Some y → set b ≡ false → slice_get (fields y) i ≡ Some (Some c)
      → ((set c ≡ true) × (x : Stored) × (h.kept c ≡ Some x)) ⊎ ((set c ≡ false) × (z : Stored) × (now.kept c ≡ Some z))
  field_names closed b i c y at out e =
      let o = v.came b y at out in
      let k = v.objects o.from b o.object o.at o.placed in
      let same : y ≡ k.part = let e1 = k.at in cc in
      let e' = subst (λ (z : Stored). slice_get (fields z) i ≡ Some (Some c)) same e in
      let (w, is, s) = AllZip-get_right (IsWord (place_after set forward)) (fields o.object) (fields k.part) k.words i (Some c) e' in
      word_names w c s (λ a q. closed.field o.from i a o.object o.at (get_as (fields o.object) i w (Some a) is q))
