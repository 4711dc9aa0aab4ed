-- What a graph whose weak slots are cleared reaches, the graph before reached too.
use Rattle.std.proofs.Common.{◌≡◌, ◌+◌, ◌-◌, ◌∷◌, ◌∙◌, ℕ, List, [], Option, Some, None, length, refl, sym, ap, subst, arith}
use Rattle.heap_model.specs.Graph.{Graph, Object, object_named}
use Rattle.heap_model.specs.Weak.{Clears, IsClearedSlot}
use Rattle.heap_model.proofs.Cleared.{cleared_named, cleared_named_back, reach_back}
use Rattle.regions.proofs.Words.Fields.{held_by_long}
use Rattle.step_core.specs.Stands.{CoreState}
use Rattle.step_core.specs.Pause.{words_of, named_words}
use Rattle.step_core.proofs.Mutating.Reading.{AllZip-length}
use Rattle.graph_runs.specs.Run.{ClearsBy}
use Rattle.collection.specs.Space.{AreReachable, FillHalf, HasReached, IsPacked, IsPackedBut, ordinary_count, run_count}

pub none_cleared : (g : Graph) → HasReached g g
none_cleared g = record { back = λ n r. r; words = λ n. refl }

pub then_cleared : (g h k : Graph) → HasReached g h → HasReached h k → HasReached g k
then_cleared g h k p q = record { back = λ n r. p.back n (q.back n r); words = λ n. q.words n ∙ p.words n }

some_clash : (o : Option Object) (x : Object) → o ≡ None → o ≡ Some x → ⊥
some_clash o x e f = cc

pub cleared_reached : (s g g' : Graph) → Clears s g g' → HasReached g g'
cleared_reached s g g' c = record { back = reach_back s g g' c; words = λ n. go n (object_named g' n) refl (object_named g n) refl }
  where
    go : (n : ℕ) (o' : Option Object) → object_named g' n ≡ o' → (o : Option Object) → object_named g n ≡ o
        → named_words (object_named g' n) ≡ named_words (object_named g n)
    go n (Some p) e o f =
        let (x, is, z) = cleared_named_back s g g' c n p e in
        let a = AllZip-length (IsClearedSlot s) x.weaks p.weaks z.weaks in
        let b = ap (λ (l : List (Option ℕ)). length l) z.pointers in
        let d = ap (λ (l : List ℕ). length l) z.values in
        let c = ap (λ (l : List (Option ℕ)). length l) z.held ∙ held_by_long p.weaks x.held in
        let h = ap named_words e in
        let i = ap named_words is in
        omega (arith, a, b, c, d, h, i)
    go n None e (Some x) f = absurd (let (p, is, z) = cleared_named s g g' c n x f in some_clash (object_named g' n) p e is)
    go n None e None f = ap named_words e ∙ sym (ap named_words f)

pub by_reached : (snapshot : Option Graph) (g g' : Graph) → ClearsBy snapshot g g' → HasReached g g'
by_reached None g g' e = subst (HasReached g) (sym e) (none_cleared g)
by_reached (Some s) g g' c = cleared_reached s g g' c

same_words : (g g' : Graph) → HasReached g g' → (ns : List ℕ) → words_of g ns ≡ words_of g' ns
same_words g g' h [] = refl
same_words g g' h (n ∷ ns) = let a = h.words n in let b = same_words g g' h ns in omega (arith, a, b)

-- so what fills a core was reached before
reachable_before : (g g' : Graph) (words : ℕ) → HasReached g g' → AreReachable g' words → AreReachable g words
reachable_before g g' words h r = record {
  names = r.names;
  distinct = r.distinct;
  each = λ i n e. h.back n (r.each i n e);
  total = same_words g g' h r.names ∙ r.total;
}

fill_before : (g g' : Graph) (c : CoreState) (regions : ℕ) → HasReached g g' → FillHalf g' c regions → FillHalf g c regions
fill_before g g' c regions h f = record { words = f.words; reachable = reachable_before g g' f.words h f.reachable; half = f.half }

pub packed_before : (g g' : Graph) (c : CoreState) → HasReached g g' → IsPacked g' c → IsPacked g c
unfolding reachable_before
packed_before g g' c h p = record {
  words = p.words;
  reachable = reachable_before g g' p.words h p.reachable;
  small = λ i n e. let a = p.small i n e in let b = h.words n in omega (arith, a, b);
  half = p.half;
  in_use = λ ne some. fill_before g g' c (ordinary_count c.table + run_count c.table) h (p.in_use ne some);
  in_runs = λ one some. fill_before g g' c (run_count c.table) h (p.in_runs one some);
}

pub packed_but_before : (g g' : Graph) (c : CoreState) (more : ℕ) → HasReached g g' → IsPackedBut g' c more → IsPackedBut g c more
packed_but_before g g' c more h p = record {
  packed = packed_before g g' c h p.packed;
  two = p.two;
  few = p.few;
  regions = p.regions;
  all_but = fill_before g g' c (c.config.regions - (2 + more)) h p.all_but;
  all_but_fewer = λ ne. fill_before g g' c (c.config.regions - (1 + more)) h (p.all_but_fewer ne);
  runs = λ k e. let (x, is, reach) = p.runs k e in (x, is, h.back x.name reach);
}
