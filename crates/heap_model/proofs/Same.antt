-- The invariant reads heaps and marking at each address alone.
use Rattle.std.proofs.Common.{ℕ, ◌≤◌, refl, sym, ap, ◌∙◌, subst, inl, inr, slice_get}
use Rattle.heap_model.specs.Heap.{Heap, Points, Holds, SameHeap}
use Rattle.heap_model.specs.Marking.{Marking, MarkingInvariant, IsKnownAt, IsFound, ByRoot, ByLive, ByNew, ByHeld, SameMarking}
use Rattle.heap_model.proofs.Advance.{invariant_after}

module _ (live : ℕ → Type 0) (limit : ℕ) (h h' : Heap) (m m' : Marking) (heap : SameHeap h h') (marks : SameMarking m m')
    (i : MarkingInvariant live limit h m) where
  points : (a b : ℕ) → Points h' a b → Points h a b
  points a b p = record { object = p.object; at = sym (heap.kept a) ∙ p.at; field = p.field; is = p.is }

  holds : (a k b : ℕ) → Holds h' a k b → Holds h a k b
  holds a k b p = record {
    object = p.object;
    at = sym (heap.kept a) ∙ p.at;
    slot = p.slot;
    is = p.is;
    key = p.key;
    key_at = sym (heap.kept k) ∙ p.key_at;
  }

  known : (a : ℕ) → IsKnownAt live h' m' a → IsKnownAt live h m a
  known a (inl p) = inl (p.0, sym (heap.kept a) ∙ p.1, p.2)
  known a (inr n) = inr (sym (marks.old a) ∙ n)

  found : (a : ℕ) → IsFound live h' m' a → IsFound live h m a
  unfolding points
  found a (ByRoot b r) = ByRoot b (record { place = r.place; is = sym (ap (λ l. slice_get l r.place) heap.roots) ∙ r.is })
  found a (ByLive b c p l) = ByLive b c (points b c p) l
  found a (ByNew b c p n) = ByNew b c (points b c p) (sym (marks.old b) ∙ n)
  found a (ByHeld b k c pb pk p) = ByHeld b k c (known b pb) (known k pk) (holds b k c p)

  pub same_invariant : MarkingInvariant live limit h' m'
  same_invariant = invariant_after live limit h m h' m' (record {
    old = marks.old;
    marked = λ a k. marks.marked a ∙ k;
    logged = λ a e. inr ((marks.logged a).0 e);
    edges = λ a b _ _ un p _. inl (
      marks.scanned a ∙ un,
      record {
        points = record { object = p.points.object; at = heap.kept a ∙ p.points.at; field = p.points.field; is = p.points.is };
        left = subst (λ (k : ℕ). k ≤ p.points.field) (sym (marks.done a)) p.left;
      },
    );
    held = λ a k b _ _ _ p. inl (record {
      object = p.object;
      at = heap.kept a ∙ p.at;
      slot = p.slot;
      is = p.is;
      key = p.key;
      key_at = heap.kept k ∙ p.key_at;
    });
    stays = λ a x at _. record { object = x; at = heap.kept a ∙ at; named = refl };
    came = λ a x at _. record { object = x; at = sym (heap.kept a) ∙ at; named = refl };
    newly_marked = λ a k. inl (sym (marks.marked a) ∙ k);
    newly_logged = λ a e. inl ((marks.logged a).1 e);
    found = λ a _ f. found a f;
    fresh = λ a x at o. i.new_names a x (sym (heap.kept a) ∙ at) o;
  }) i
