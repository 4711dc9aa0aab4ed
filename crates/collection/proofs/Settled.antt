-- What is said of a heap whose weak slots are still to be cleared holds of it once they are.
use Rattle.std.proofs.Common.{◌≡◌, ◌+◌, ◌-◌, ◌*◌, ◌⊎◌, ◌∙◌, ℕ, zero, suc, Bool, true, false}
use Rattle.std.proofs.Common.{List, Option, Some, None, length, inl, inr, refl, sym, ap, subst, arith, if◌then◌else◌, slice_index}
use Rattle.heap_model.specs.Graph.{Graph, IsReachable}
use Rattle.heap_model.specs.Heap.{Stored}
use Rattle.heap_model.specs.Weak.{cleared, cleared_object}
use Rattle.regions.specs.Table.{Table, kind_of, free_count, object_at, object_words, stored_size, top_of}
use Rattle.mark_bitmap.specs.Marks.{is_marked}
use Rattle.mark_bitmap.specs.Tops.{is_below}
use Rattle.mark_bitmap.specs.Live.{live_bound_of, marked_words}
use Rattle.marker.specs.Views as views
use Rattle.marker.specs.declared.marker.Marker.{Marker}
use Rattle.graph_runs.specs.State.{State}
use Rattle.step_core.specs.Stands.{CoreState, Stands, kept_of}
use Rattle.step_core.specs.Cycle.{HasLooked, HasSettled, IsAhead, ClearsAtOnce}
use Rattle.heap_words.specs.declared.config.Format.{Format}
use Rattle.heap_words.specs.declared.config.Format.TheVariants.{V1, V2, V3}
use Rattle.step_core.specs.Measures.{sum_below}
use Rattle.step_core.proofs.Cores.Snapshots.{keeps_for}
use Rattle.step_core.proofs.Cores.Settled.{looked_count, looked_kinds, settled_running}
use Rattle.step_core.proofs.Cycles.Settling.{words_same}
use Rattle.collection.specs.Space.{IsExact, IsPacked, IsQuiet, ordinary_count, run_count, ordinary_one, run_one}
use Rattle.collection.specs.Space.{ordinary_end, ordinary_end_of, is_ordinary}
use Rattle.collection.proofs.Counts.{more_free}
use Rattle.collection.proofs.Names.{total, total_kept}
use Rattle.collection.proofs.Packed.{still_packed}
use Rattle.collection.proofs.Sums.{sum_same}

-- as many words are marked where objects have as many
marked_same : (t t' : Table) (marks : List Bool) → ((b : ℕ) → object_words t' b ≡ object_words t b) → (a n : ℕ)
    → marked_words t' marks a n ≡ marked_words t marks a n
marked_same t t' marks same a zero = refl
marked_same t t' marks same a (suc n) =
    ap (λ (m : ℕ). (if is_marked marks a then m else 0) + marked_words t' marks (suc a) n) (same a)
    ∙ ap (λ (m : ℕ). (if is_marked marks a then object_words t a else 0) + m) (marked_same t t' marks same (suc a) n)

sizes_total : (f g : ℕ → Option Stored) → ((x : ℕ) → stored_size (f x) ≡ stored_size (g x)) → (a n : ℕ) → total f a n ≡ total g a n
sizes_total f g same a zero = refl
sizes_total f g same a (suc n) = let h = same a in let r = sizes_total f g same (suc a) n in omega (arith, h, r)

-- a remark cleared at once, or left it for later
pub once_cases : (f : Format) (e d : CoreState) → ClearsAtOnce f e d → HasSettled e d ⊎ (d ≡ e)
once_cases V1 e d h = inl h
once_cases (V2 card) e d h = inl h
once_cases (V3 card globals registers) e d h = inr h

end_same : (t t' : Table) → ((k : ℕ) → kind_of t' k ≡ kind_of t k) → (n : ℕ) → ordinary_end_of t' n ≡ ordinary_end_of t n
end_same t t' same zero = refl
end_same t t' same (suc n) =
    ap (λ k. if is_ordinary k then suc n else ordinary_end_of t' n) (same n)
    ∙ ap (λ (m : ℕ). if is_ordinary (kind_of t n) then suc n else m) (end_same t t' same n)

-- while clearing goes on as many regions are free
pub free_looked : (k n : ℕ) (c d : CoreState) → HasLooked k n c d → free_count d.table ≡ free_count c.table
free_looked k n c d h =
    let a = more_free c.table d.table (looked_count k n c d h) (λ i f. looked_kinds k n c d h i ∙ f) in
    let b = more_free d.table c.table (sym (looked_count k n c d h)) (λ i f. sym (looked_kinds k n c d h i) ∙ f) in
    omega (arith, a, b)

module _ (c d : CoreState) (h : HasSettled c d) where
  pub kinds_are : (k : ℕ) → kind_of d.table k ≡ kind_of c.table k
  kinds_are = h.cleared.kinds

  pub next_settled : d.next ≡ c.next
  next_settled = ap (λ (x : CoreState). x.next) h.same

  pub free_settled : free_count d.table ≡ free_count c.table
  free_settled =
      let a = more_free c.table d.table h.cleared.count (λ k f. kinds_are k ∙ f) in
      let b = more_free d.table c.table (sym h.cleared.count) (λ k f. sym (kinds_are k) ∙ f) in
      omega (arith, a, b)

  pub end_settled : ordinary_end d.table ≡ ordinary_end c.table
  end_settled = ap (ordinary_end_of d.table) h.cleared.count ∙ end_same c.table d.table kinds_are (length c.table.regions)

  ordinary_settled : ordinary_count d.table ≡ ordinary_count c.table
  ordinary_settled = ap (sum_below (λ k. ordinary_one (kind_of d.table k))) h.cleared.count
      ∙ sum_same (λ k. ordinary_one (kind_of d.table k)) (λ k. ordinary_one (kind_of c.table k)) (length c.table.regions)
      (λ k lt. ap ordinary_one (kinds_are k))

  runs_settled : run_count d.table ≡ run_count c.table
  runs_settled = ap (sum_below (λ k. run_one (kind_of d.table k))) h.cleared.count
      ∙ sum_same (λ k. run_one (kind_of d.table k)) (λ k. run_one (kind_of c.table k)) (length c.table.regions)
      (λ k lt. ap run_one (kinds_are k))

  pub packed_settled : (g : Graph) → IsPacked g c → IsPacked g d
  packed_settled g p = let e = ordinary_settled in still_packed g c d h.cleared.size runs_settled (omega (arith, e)) p

  pub stands_settled : (s : State) → Stands s c → Stands s d
  stands_settled s st = record {
    shows = h.shows s.graph st.shows;
    keeps = keeps_for s.snapshot c d (settled_running c d h) h.keeps st.keeps;
    sound = st.sound;
    since = st.since;
  }

  words_are : (a : ℕ) → object_words d.table a ≡ object_words c.table a
  words_are a = words_same (views.ended_marking_of c.table c.marker) c.table d.table (IsAhead c.clearing) h.cleared a

  marker_is : d.marker ≡ c.marker
  marker_is = ap (λ (x : CoreState). x.marker) h.same

  -- what is kept of an object in its place
  abbrev part : Option Stored → ℕ → Option Stored
  part o a = if is_below c.table.words_per_region c.marker.tams.previous a
      then (if is_marked c.marker.bitmaps.previous a then o else None) else o

  kept_there : (a : ℕ) → kept_of d a ≡ part (object_at d.table a) a
  unfolding kept_of
  kept_there a = rw (h.cleared.size, marker_is) refl

  kept_before : (a : ℕ) → kept_of c a ≡ part (object_at c.table a) a
  unfolding kept_of
  kept_before a = refl

  kept_sizes : (a : ℕ) → stored_size (kept_of d a) ≡ stored_size (kept_of c a)
  unfolding object_words
  kept_sizes a = ap stored_size (kept_there a)
      ∙ go (is_below c.table.words_per_region c.marker.tams.previous a) (is_marked c.marker.bitmaps.previous a)
      ∙ ap stored_size (sym (kept_before a))
    where
      go : (b k : Bool) → stored_size (if b then (if k then object_at d.table a else None) else object_at d.table a)
          ≡ stored_size (if b then (if k then object_at c.table a else None) else object_at c.table a)
      go true true = words_are a
      go true false = refl
      go false k = words_are a

  -- an object that is kept was, under the same name
  pub kept_named : (a : ℕ) (x : Stored) → kept_of d a ≡ Some x → (y : Stored) × (kept_of c a ≡ Some y) × (y.name ≡ x.name)
  kept_named a x e = go (is_below c.table.words_per_region c.marker.tams.previous a) (is_marked c.marker.bitmaps.previous a)
      (kept_before a) (sym (kept_there a) ∙ e)
    where
      was : (o : Option Stored) → object_at c.table a ≡ o → object_at d.table a ≡ Some x
          → (y : Stored) × (object_at c.table a ≡ Some y) × (y.name ≡ x.name)
      was None is q = absurd (elim (h.cleared.each a) [
        | inl same ↦ (let w = sym same ∙ q in let n = is in cc)
        | inr k ↦ (let w : cleared_object (views.ended_marking_of c.table c.marker) None ≡ Some x
            = ap (cleared_object (views.ended_marking_of c.table c.marker)) (sym is) ∙ sym k.1 ∙ q in cc)
      ])
      was (Some y) is q = (
        y,
        is,
        elim (h.cleared.each a) [
          | inl same ↦ (let w : Some y ≡ Some x = sym is ∙ sym same ∙ q in let z : y ≡ x = cc in ap (λ (u : Stored). u.name) z)
          | inr k ↦ (let w : Some (cleared (views.ended_marking_of c.table c.marker) y) ≡ Some x
              = ap (cleared_object (views.ended_marking_of c.table c.marker)) (sym is) ∙ sym k.1 ∙ q in
              let z : cleared (views.ended_marking_of c.table c.marker) y ≡ x = cc in ap (λ (u : Stored). u.name) z)
        ],
      )

      go : (b k : Bool) → kept_of c a ≡ (if b then (if k then object_at c.table a else None) else object_at c.table a)
          → (if b then (if k then object_at d.table a else None) else object_at d.table a) ≡ Some x
          → (y : Stored) × (kept_of c a ≡ Some y) × (y.name ≡ x.name)
      go true true here q = let (y, is, name) = was (object_at c.table a) refl q in (y, here ∙ is, name)
      go true false here q = absurd cc
      go false k here q = let (y, is, name) = was (object_at c.table a) refl q in (y, here ∙ is, name)

  bound_settled : (k : ℕ) → live_bound_of d.table d.marker.tams.previous d.marker.bitmaps.previous k
      ≡ live_bound_of c.table c.marker.tams.previous c.marker.bitmaps.previous k
  unfolding live_bound_of
  bound_settled k =
      let tops : List ℕ = c.marker.tams.previous in
      let marks : List Bool = c.marker.bitmaps.previous in
      ap (λ (m : Marker). marked_words d.table m.bitmaps.previous (k * d.table.words_per_region)
      (slice_index m.tams.previous k - k * d.table.words_per_region) + (top_of d.table k - slice_index m.tams.previous k)) marker_is
      ∙ ap (λ (w : ℕ). marked_words d.table marks (k * w) (slice_index tops k - k * w) + (top_of d.table k - slice_index tops k))
      h.cleared.size
      ∙ ap (λ (n : ℕ). n + (top_of d.table k - slice_index tops k)) (marked_same c.table d.table marks words_are
      (k * c.table.words_per_region) (slice_index tops k - k * c.table.words_per_region))
      ∙ ap (λ (n : ℕ). marked_words c.table marks (k * c.table.words_per_region) (slice_index tops k - k * c.table.words_per_region)
      + (n - slice_index tops k)) (h.cleared.tops k)

  pub exact_settled : IsExact c → IsExact d
  exact_settled e = record {
    idle = settled_running c d h ∙ e.idle;
    exact = λ k lt o.
        let z = e.exact k (let n = h.cleared.count in omega (arith, n, lt)) (sym (kinds_are k) ∙ o) in
        let b = bound_settled k in
        let p = total_kept c c.table.words_per_region (k * c.table.words_per_region) in
        let q = total_kept d d.table.words_per_region (k * d.table.words_per_region) in
        let r = sizes_total (kept_of d) (kept_of c) kept_sizes (k * d.table.words_per_region) d.table.words_per_region in
        let y = ap (λ (m : ℕ). total (kept_of c) (k * m) m) h.cleared.size in
        omega (arith, z, b, p, q, r, y);
  }

  pub quiet_settled : (s : State) → IsQuiet s c → IsQuiet s d
  quiet_settled s q = record {
    stands = stands_settled s q.stands;
    exact = exact_settled q.exact;
    reached = λ a x e. let (y, at, name) = kept_named a x e in subst (λ (n : ℕ). IsReachable s.graph n) name (q.reached a y at);
    runs = λ k first none. q.runs k (sym (kinds_are k) ∙ first) (gone k none);
  }
    where
      gone : (k : ℕ) → kept_of d (k * d.table.words_per_region) ≡ None → kept_of c (k * c.table.words_per_region) ≡ None
      gone k none = none_size (kept_of c (k * c.table.words_per_region))
          (sym (ap (λ (w : ℕ). stored_size (kept_of c (k * w))) h.cleared.size)
          ∙ sym (kept_sizes (k * d.table.words_per_region)) ∙ ap stored_size none)
        where
          none_size : (o : Option Stored) → stored_size o ≡ 0 → o ≡ None
          none_size None e = refl
          none_size (Some x) e = absurd (omega (arith, e))

-- what holds of a heap whose marking is over holds of it after what a remark clears
module _ (f : Format) (e d : CoreState) (o : ClearsAtOnce f e d) where
  pub once_running : d.marker.running ≡ e.marker.running
  once_running = elim (once_cases f e d o) [ inl h ↦ settled_running e d h | inr q ↦ ap (λ (x : CoreState). x.marker.running) q ]

  pub once_free : free_count d.table ≡ free_count e.table
  once_free = elim (once_cases f e d o) [ inl h ↦ free_settled e d h | inr q ↦ ap (λ (x : CoreState). free_count x.table) q ]

  pub once_next : d.next ≡ e.next
  once_next = elim (once_cases f e d o) [ inl h ↦ next_settled e d h | inr q ↦ ap (λ (x : CoreState). x.next) q ]

  pub once_exact : IsExact e → IsExact d
  once_exact x = elim (once_cases f e d o) [ inl h ↦ exact_settled e d h x | inr q ↦ subst IsExact (sym q) x ]

  pub once_named : (a : ℕ) (x : Stored) → kept_of d a ≡ Some x → (y : Stored) × (kept_of e a ≡ Some y) × (y.name ≡ x.name)
  once_named a x k = elim (once_cases f e d o) [
    | inl h ↦ kept_named e d h a x k
    | inr q ↦ (x, ap (λ (c : CoreState). kept_of c a) (sym q) ∙ k, refl)
  ]
