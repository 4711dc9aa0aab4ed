-- One object that moves, and what names it.
use Rattle.std.proofs.Common.{◌≡◌, ◌≢◌, ◌==◌, ◌∷◌, ◌++◌, ◌∙◌, ℕ, Bool, true, false, List, [], map, Option, Some, None, refl, sym, ap}
use Rattle.std.proofs.Common.{subst, inl, inr}
use Rattle.std.specs.Prelude.{if◌then◌else◌}
use Rattle.std.specs.List.{AllZip}
use Rattle.std.proofs.lemmas.Bool.{cases_eq, eq-eqb, ne_eqb}
use Rattle.heap_model.specs.Heap.{Heap, Stored, fields}
use Rattle.heap_model.specs.Relocation.{IsMoved, IsCopy, Came, Relocates}
use Rattle.heap_model.specs.Redirection.{place_moved, redirected, IsRedirected, ObjectMoved, Redirects}
use Rattle.heap_model.proofs.Lists.{AllZip-split}

place_from : (from to a : ℕ) → a ≡ from → place_moved from to a ≡ Some to
place_from from to a e = rw (eq-eqb a from e) refl

place_other : (from to a : ℕ) → a ≢ from → place_moved from to a ≡ Some a
place_other from to a n = rw (ne_eqb a from n) refl

word_moved : (from to : ℕ) (w : Option ℕ) → IsMoved (place_moved from to) w (redirected from to w)
word_moved from to None = tt
word_moved from to (Some a) = go (a == from) refl
  where
    go : (b : Bool) → place_moved from to a ≡ (if b then Some to else Some a)
        → IsMoved (place_moved from to) (Some a) (if b then Some to else Some a)
    go true e = e
    go false e = e

words_moved : (from to : ℕ) (ws : List (Option ℕ)) → AllZip (IsMoved (place_moved from to)) ws (map (redirected from to) ws)
words_moved from to [] = tt
words_moved from to (w ∷ ws) = (word_moved from to w, words_moved from to ws)

module _ (from to : ℕ) (h now h' : Heap) (object : Stored) (r : Redirects from to h now) (m : ObjectMoved now h' from to object) where
  -- where an object came from
  came : (b : ℕ) (a : ℕ) (y : Stored) → now.kept a ≡ Some y → place_moved from to a ≡ Some b → Came (place_moved from to) h b
  came b a y e p = go (h.kept a) refl
    where
      go : (o : Option Stored) → h.kept a ≡ o → Came (place_moved from to) h b
      go None q = absurd (let n = r.none a q in cc)
      go (Some x) q = record { from = a; object = x; at = q; placed = p }

  copied : (a b : ℕ) (x y : Stored) → h'.kept b ≡ Some y → IsRedirected from to x y → IsCopy (place_moved from to) h' x b
  copied a b x y at s =
      let moved = subst (λ (ws : List (Option ℕ)). AllZip (IsMoved (place_moved from to)) (fields x) ws) (sym s.fields_are)
      (words_moved from to (fields x)) in
      let (pointers, rest) =
      AllZip-split (IsMoved (place_moved from to)) x.pointers y.pointers (x.weaks ++ x.held) (y.weaks ++ y.held) s.shape moved in
      let (weaks, held) = AllZip-split (IsMoved (place_moved from to)) x.weaks y.weaks x.held y.held s.slots rest in
      record { copy = y; at = at; name = s.name; values = s.values; pointers = pointers; weaks = weaks; held = held }

  pub moved_relocates : Relocates (place_moved from to) h h'
  moved_relocates = record {
    roots = subst (λ (ws : List (Option ℕ)). AllZip (IsMoved (place_moved from to)) h.roots ws) (sym (m.roots ∙ r.roots))
        (words_moved from to h.roots);
    kept = λ a b x at placed.
        let (y, is, s) = r.objects a x at in
        elim (cases_eq a from) [
          | inl e ↦
              let there : to ≡ b = let p = place_from from to a e in cc in
              let same : y ≡ object = let e1 = ap now.kept e in let e2 = m.was in cc in
              copied a b x y (ap h'.kept (sym there) ∙ m.is ∙ ap Some (sym same)) s
          | inr n ↦
              let there : a ≡ b = let p = place_other from to a n in cc in
              let apart : a ≢ to = λ e. let e1 = ap now.kept e in let e2 = m.room in absurd cc in
              copied a b x y (ap h'.kept (sym there) ∙ m.others a n apart ∙ is) s
        ];
    came = λ b y at. elim (cases_eq b to) [
      | inl e ↦ came b from object m.was (place_from from to from refl ∙ ap Some (sym e))
      | inr n ↦
          let away : b ≢ from = λ e. let e1 = ap h'.kept e in let e2 = m.gone in absurd cc in
          came b b y (sym (m.others b away n) ∙ at) (place_other from to b away)
    ];
  }
