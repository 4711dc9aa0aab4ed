-- The names of the objects that a pause copies.
use Rattle.std.proofs.Common.{◌≡◌, ℕ, zero, suc, ◌+◌, Bool, List, [], ◌∷◌, Option, Some, None, length, map, refl, sym, ◌∙◌, ap, arith}
use Rattle.std.specs.Prelude.{slice_get}
use Rattle.heap_model.specs.Graph.{Graph, object_named}
use Rattle.heap_model.specs.Heap.{Heap, Stored, IsClosed, IsShown}
use Rattle.heap_model.specs.Clearing.{WillShow, IsWeakShown, kept_held, kept_word}
use Rattle.heap_model.specs.Evacuation.{IsReached, ByRootWord, ByOutside, ByInside}
use Rattle.regions.specs.Tiles.{Object, tile_size}
use Rattle.regions.proofs.Words.Fields.{held_by_long}
use Rattle.evacuation.specs.Evacuates.{AreReachedWords, stored_words, words_at}
use Rattle.step_core.specs.Pause.{AreCopiedNames, named_words, words_of}
use Rattle.step_core.proofs.Mutating.Reading.{AllZip-length}

module _ (g : Graph) (h : Heap) (shows : WillShow g h) (set : ℕ → Bool) where
  -- what is reached is kept
  reached_kept : IsClosed h → (a : ℕ) → IsReached set h a → (x : Stored) × (h.kept a ≡ Some x)
  reached_kept all a (ByRootWord b r i) = all.root r.place b r.is
  reached_kept all a (ByOutside b c o f i) = all.field b f.field c f.object f.at f.is
  reached_kept all a (ByInside b c r f i) = all.field b f.field c f.object f.at f.is

  pub name_at : Option Stored → ℕ
  name_at None = 0
  name_at (Some x) = x.name

  pub names_of : List ℕ → List ℕ
  names_of [] = []
  names_of (a ∷ rest) = name_at (h.kept a) ∷ names_of rest

  pub record NamedAt (addresses : List ℕ) (i n : ℕ) : Type 0 where
    pub address : ℕ
    pub there : slice_get addresses i ≡ Some address
    pub name : name_at (h.kept address) ≡ n

  pub names_get : (addresses : List ℕ) (i n : ℕ) → slice_get (names_of addresses) i ≡ Some n → NamedAt addresses i n
  unfolding names_of
  names_get [] i n e = absurd (let f = e in cc)
  names_get (a ∷ rest) zero n e = record { address = a; there = refl; name = (let same : name_at (h.kept a) ≡ n = cc in same) }
  names_get (a ∷ rest) (suc i) n e = let r = names_get rest i n e in record { address = r.address; there = r.there; name = r.name }

  names_there : (addresses : List ℕ) (i a : ℕ) → slice_get addresses i ≡ Some a
      → slice_get (names_of addresses) i ≡ Some (name_at (h.kept a))
  unfolding names_of
  names_there [] i a e = absurd (let f = e in cc)
  names_there (b ∷ rest) zero a e = let same : b ≡ a = cc in ap (λ (c : ℕ). Some (name_at (h.kept c))) same
  names_there (b ∷ rest) (suc i) a e = names_there rest i a e

  pub name_is : (a : ℕ) (x : Stored) → h.kept a ≡ Some x → name_at (h.kept a) ≡ x.name
  unfolding name_at
  name_is a x e = ap name_at e

  -- an object has as many words in the graph
  pub same_words : (a : ℕ) (x : Stored) → h.kept a ≡ Some x → named_words (object_named g (name_at (h.kept a))) ≡ stored_words (h.kept a)
  same_words a x e =
      let o = shows.objects a x e in
      let count = AllZip-length (IsShown h) x.pointers o.object.pointers o.pointers in
      let slots = AllZip-length (IsWeakShown h) x.weaks o.object.weaks o.weaks in
      let held = AllZip-length (IsShown h) (kept_held h.kept x) o.object.held o.held in
      let long = held_by_long (map (kept_word h.kept) x.weaks) x.held in
      let values = ap (λ (vs : List ℕ). length vs) o.values in
      let in_graph : named_words (object_named g (name_at (h.kept a)))
      ≡ 2 + length o.object.pointers + (length o.object.weaks + length o.object.held) + length o.object.values =
      ap (λ (n : ℕ). named_words (object_named g n)) (name_is a x e) ∙ ap named_words o.named in
      let in_heap : stored_words (h.kept a) ≡ tile_size (Object x) = ap stored_words e in
      omega (arith, in_graph, in_heap, count, slots, held, long, values)

  pub words_same : (addresses : List ℕ) → ((i a : ℕ) → slice_get addresses i ≡ Some a → (x : Stored) × (h.kept a ≡ Some x))
      → words_of g (names_of addresses) ≡ words_at h.kept addresses
  unfolding names_of
  words_same [] kept = refl
  words_same (a ∷ rest) kept =
      let here = kept 0 a refl in
      omega (arith, same_words a here.0 here.1, words_same rest (λ i b e. kept (suc i) b e))

  pub copied_names : IsClosed h → (w : ℕ) → AreReachedWords set h w → AreCopiedNames g set h w
  copied_names all w r =
      let kept : (i a : ℕ) → slice_get r.addresses i ≡ Some a → (x : Stored) × (h.kept a ≡ Some x) =
      λ i a e. reached_kept all a (r.reached i a e) in
      record {
        names = names_of r.addresses;
        distinct = λ i j n ei ej.
            let p = names_get r.addresses i n ei in
            let q = names_get r.addresses j n ej in
            let x = kept i p.address p.there in
            let y = kept j q.address q.there in
            let same = shows.distinct p.address q.address x.0 y.0 x.1 y.1
            (sym (name_is p.address x.0 x.1) ∙ p.name ∙ sym q.name ∙ name_is q.address y.0 y.1) in
            r.distinct i j p.address p.there (q.there ∙ ap Some (sym same));
        copied = λ i n e.
            let p = names_get r.addresses i n e in
            let x = kept i p.address p.there in
            record {
              address = p.address;
              object = x.0;
              at = x.1;
              named = sym (name_is p.address x.0 x.1) ∙ p.name;
              reached = r.reached i p.address p.there;
            };
        each = λ n c.
            let (i, there) = r.each c.address c.reached in
            (i, names_there r.addresses i c.address there ∙ ap Some (name_is c.address c.object c.at ∙ c.named));
        total = words_same r.addresses kept ∙ r.total;
      }
