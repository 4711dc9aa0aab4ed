-- What a pause leaves that frees no region.
use Rattle.std.proofs.Common.{◌≡◌, ◌≢◌, ◌+◌, ◌-◌, ◌*◌, ◌/◌, ◌<◌, ◌≤◌, ◌⊎◌, ◌∷◌, ◌∙◌, ◌^◌, ℕ, true, false, List, [], Some, length, All, inl}
use Rattle.std.proofs.Common.{inr, refl, sym, ap, subst, arith, slice_get}
use Rattle.std.proofs.lemmas.Bool.{cases_Bool, cases_eq, cases_lt}
use Rattle.std.proofs.lemmas.Nat.{mul-le}
use Rattle.std.proofs.lemmas.List.Elements.{All-head, All-take}
use Rattle.std.proofs.lemmas.List.Sums.{sum_by-cons, count_by-le-length}
use Rattle.regions.specs.Table.{Table, is_free, kind_of, nth_region, free_count}
use Rattle.regions.specs.Shaped.{IsShaped}
use Rattle.regions.specs.declared.row.Kind.{Kind}
use Rattle.regions.specs.declared.row.Kind.TheVariants as kinds
use Rattle.region_choice.specs.declared.LiveRow.{LiveRow}
use Rattle.region_choice.specs.Choice.{copy_limit, live_sum}
use Rattle.evacuation.specs.Evacuates.{is_chosen, RegionsAfter}
use Rattle.evacuation.proofs.WholePause.Asked.{found, get_is}
use Rattle.heap_model.specs.Graph.{Graph}
use Rattle.graph_runs.specs.State.{State}
use Rattle.step_core.specs.Stands.{CoreState, IsCore, Stands, kept_of}
use Rattle.step_core.specs.Measures.{sum_below}
use Rattle.step_core.specs.declared.candidates.Choice.{Choice}
use Rattle.step_core.specs.declared.candidates.Choice.TheVariants as choices
use Rattle.step_core.specs.Pause.{HasMoved, HasPaused}
use Rattle.step_core.proofs.Pauses.Chosen.{chosen_rows, set_moves}
use Rattle.collection.specs.Space.{run_one, run_count, ordinary_count, kept_sum, kept_by_kind, bound_by_kind, bound_sum}
use Rattle.collection.specs.Space.{FillHalf, IsDense, IsExact, IsQuiet, IsPacked}
use Rattle.collection.proofs.Sums.{sum_same, sum_le}
use Rattle.collection.proofs.Counts.{Taken, some_taken, two_stay, count_all}
use Rattle.collection.proofs.Bound.{half_kept}
use Rattle.collection.proofs.Names.{reachable, named_size, total, in_ordinary, ordinary_kept, ordinary_small, ordinary_total, all_total}
use Rattle.collection.proofs.Wide.{wide_below, first_words}
use Rattle.collection.proofs.Paused as paused
use Rattle.collection.proofs.Runs.{paused_runs}

none_sum : (rows : List LiveRow) → length rows ≡ 0 → live_sum rows ≡ 0
none_sum [] e = refl
none_sum (x ∷ xs) e = absurd (omega arith)

one_sum : (words : ℕ) (rows : List LiveRow) → All (λ row. row.live_bound < words) rows → length rows ≡ 1 → live_sum rows < words
one_sum words [] h e = absurd (omega arith)
one_sum words (x ∷ []) h e =
    let a = All-head (λ (row : LiveRow). row.live_bound < words) x [] h in
    let b = sum_by-cons (λ (row : LiveRow). row.live_bound) x [] in
    omega (arith, a, b)
one_sum words (x ∷ y ∷ xs) h e = absurd (omega arith)

limit_le : (words budget frees : ℕ) → copy_limit words budget frees ≤ frees * words / 2
limit_le words budget frees = omega arith

-- half of the free regions' words is no more than any number of 32 bits
pub half_small : (t : Table) (budget : ℕ) → IsShaped t → 2 ^ 30 ≤ budget → free_count t * t.words_per_region / 2 ≤ budget
half_small t budget shape h =
    let a = count_by-le-length is_free t.regions in
    let m = mul-le (free_count t) t.words_per_region (length t.regions) t.words_per_region a (omega arith) in
    let s = shape.in_all in
    omega (arith, h, m, s)

-- runs that objects have more than half of, and ordinary regions of which more than half is kept, if these are two or more
runs_alone : (runs words firsts : ℕ) → 0 < runs → (runs ≡ 0) ⊎ (runs * words < 2 * firsts) → runs * words < 2 * firsts
runs_alone runs words firsts some (inl none) = absurd (omega (arith, some, none))
runs_alone runs words firsts some (inr half) = half

mixed : (ordinary runs words kept firsts : ℕ) → ordinary ≢ 1 → 0 < ordinary + runs
    → (2 ≤ ordinary → ordinary * words < 2 * kept) → (runs ≡ 0) ⊎ (runs * words < 2 * firsts)
    → (ordinary + runs) * words < 2 * (kept + firsts)
mixed ordinary runs words kept firsts ne some half wide =
    let e : (ordinary + runs) * words ≡ ordinary * words + runs * words = omega arith in
    elim (cases_lt 1 ordinary) [
      | inl two ↦
          (let h = half (omega (arith, two)) in
          elim wide [
            | inl none ↦ (let z = ap (λ (m : ℕ). m * words) none in omega (arith, e, h, z))
            | inr over ↦ omega (arith, e, h, over)
          ])
      | inr few ↦
          (let none : ordinary ≡ 0 = omega (arith, few, ne) in
          let z = ap (λ (m : ℕ). m * words) none in
          let over = runs_alone runs words firsts (omega (arith, some, none)) wide in
          omega (arith, e, z, over))
    ]

-- ---- what roots reach in a quiet core, more than half of the words of the ordinary regions of another
module _ (c c' : CoreState) (core : IsCore c) (shape : IsShaped c.table) (s : State) (q : IsQuiet s c)
    (size : c'.table.words_per_region ≡ c.table.words_per_region) (runs : run_count c'.table ≡ run_count c.table)
    (kept : 2 ≤ ordinary_count c'.table → ordinary_count c'.table * c.table.words_per_region < 2 * kept_sum c) where
  abbrev first_sum : ℕ
  first_sum = sum_below (λ k. first_words (nth_region c.table k)) (length c.table.regions)

  wide_runs : (run_count c.table ≡ 0) ⊎ (run_count c.table * c.table.words_per_region < 2 * first_sum)
  wide_runs = wide_below c.table shape core.layers.wide (length c.table.regions) (length c.table.regions) (omega arith)

  -- all that is kept is reachable
  fills : (m : ℕ) → m * c.table.words_per_region < 2 * (kept_sum c + first_sum) → FillHalf s.graph c' m
  fills m half = record {
    words = total (kept_of c) 0 (length c.table.regions * c.table.words_per_region);
    reachable = reachable c s.graph q.stands.shows.shows q.reached (kept_of c) (λ a x e. e);
    half =
        (let a = all_total c shape q.runs in
        let b = ap (λ (k : ℕ). m * k) size in
        omega (arith, half, a, b));
  }

  pub filled : IsPacked s.graph c'
  filled = record {
    words = total (in_ordinary c) 0 (length c.table.regions * c.table.words_per_region);
    reachable = reachable c s.graph q.stands.shows.shows q.reached (in_ordinary c) (ordinary_kept c);
    small = λ i k e.
        let (at, x, is, bytes) = named_size c s.graph q.stands.shows.shows q.reached (in_ordinary c) (ordinary_kept c) i k e in
        let le = ordinary_small c core.layers.halves at x is in
        omega (arith, le, bytes, size);
    half = λ some.
        (let h = kept some in
        let i = ap (λ (m : ℕ). ordinary_count c'.table * m) size in
        let k = ordinary_total c in
        omega (arith, h, i, k));
    in_use = λ ne some. fills (ordinary_count c'.table + run_count c'.table)
        (let h = mixed (ordinary_count c'.table) (run_count c.table) c.table.words_per_region (kept_sum c) first_sum ne
        (omega (arith, some, runs)) kept wide_runs in
        let i = ap (λ (m : ℕ). (ordinary_count c'.table + m) * c.table.words_per_region) runs in
        omega (arith, h, i));
    in_runs = λ one some. fills (run_count c'.table)
        (let h = runs_alone (run_count c.table) c.table.words_per_region first_sum (omega (arith, some, runs)) wide_runs in
        let i = ap (λ (m : ℕ). m * c.table.words_per_region) runs in
        omega (arith, h, i));
  }

-- so it is where the live bounds are more than half of these words
kept_bound : (c : CoreState) → IsExact c → bound_sum c ≤ kept_sum c
kept_bound c exact =
    sum_le (λ k. bound_by_kind (kind_of c.table k) c k) (λ k. kept_by_kind (kind_of c.table k) c k) (length c.table.regions)
    (λ k lt. each k lt (kind_of c.table k) refl)
  where
    each : (k : ℕ) → k < length c.table.regions → (o : Kind) → kind_of c.table k ≡ o → bound_by_kind o c k ≤ kept_by_kind o c k
    each k lt kinds.Ordinary e = exact.exact k lt e
    each k lt _ e = omega arith

pub dense_packed : (s : State) (c : CoreState) → IsCore c → IsShaped c.table → IsQuiet s c → IsDense c → IsPacked s.graph c
dense_packed s c core shape q dense =
    filled c c core shape s q refl refl (λ some.
    (let a = dense some in
    let b = kept_bound c q.exact in
    omega (arith, a, b)))

-- ---- a pause or a compaction
module _ (which : Choice) (budget n w : ℕ) (c c' : CoreState) (shape : IsShaped c.table) (p : HasMoved which budget n w c c') where
  same_table : p.ready.table ≡ c.table
  same_table = ap (λ (k : CoreState). k.table) p.is_ready.same

  -- what it took, and what it gave back
  pub moved_taken : Taken c.table.words_per_region (free_count c.table) (length p.evacuates.chosen) p.evacuates.evacuated.spares.taken w
      (live_sum p.evacuates.chosen)
  moved_taken = record {
    positive = shape.positive;
    within = p.evacuates.evacuated.within;
    limit = (let a = (set_moves which c.table c.marker.tams c.marker.bitmaps.previous c.marker.running p.ready.sets c.ages budget
        p.evacuates.chosen p.evacuates.choice).within in
        let b = limit_le c.table.words_per_region budget (free_count c.table) in
        omega (arith, a, b));
    empty = none_sum p.evacuates.chosen;
    none = p.evacuates.evacuated.spares.none;
    full = λ two. (let a = p.evacuates.evacuated.spares.full two in
        let b = ap (λ (u : Table). p.evacuates.evacuated.spares.taken * u.words_per_region) same_table in
        omega (arith, a, b));
  }

  pub moved_counted : free_count c'.table + p.evacuates.evacuated.spares.taken ≡ free_count c.table + length p.evacuates.chosen
  moved_counted = let a = p.evacuates.evacuated.spares.count in let b = ap free_count same_table in omega (arith, a, b)

  pub moved_regions : RegionsAfter p.evacuates.chosen c.table c'.table
  moved_regions = subst (λ (u : Table). RegionsAfter p.evacuates.chosen u c'.table) same_table p.evacuates.evacuated.regions

  ordinary_chosen : (k : ℕ) → is_chosen p.evacuates.chosen k ≡ true → kind_of c.table k ≡ kinds.Ordinary
  ordinary_chosen k e =
      let (i, row, at, same) = found p.evacuates.chosen k e in
      let (lt, is) = get_is p.evacuates.chosen i row at in
      let r = chosen_rows c.table c.marker.tams c.marker.bitmaps.previous c.marker.running budget p.evacuates.chosen
      (set_moves which c.table c.marker.tams c.marker.bitmaps.previous c.marker.running p.ready.sets c.ages budget p.evacuates.chosen
      p.evacuates.choice)
      i row lt in
      subst (λ (j : ℕ). kind_of c.table j ≡ kinds.Ordinary) (ap (λ (x : LiveRow). x.region) is ∙ same) r.ordinary

  run_each : (k : ℕ) → run_one (kind_of c'.table k) ≡ run_one (kind_of c.table k)
  run_each k = elim (cases_Bool (is_chosen p.evacuates.chosen k)) [
    | inl i ↦ ap run_one (moved_regions.chosen k i) ∙ sym (ap run_one (ordinary_chosen k i))
    | inr out ↦ by_kind k out (kind_of c.table k) refl
  ]
    where
      by_kind : (k : ℕ) → is_chosen p.evacuates.chosen k ≡ false → (o : Kind) → kind_of c.table k ≡ o
          → run_one (kind_of c'.table k) ≡ run_one (kind_of c.table k)
      by_kind k out kinds.Free e = elim (moved_regions.was_free k e) [
        | inl f ↦ ap run_one f ∙ sym (ap run_one e)
        | inr o ↦ ap run_one o ∙ sym (ap run_one e)
      ]
      by_kind k out _ e = ap run_one (moved_regions.kinds_same k out (λ f. let g = e in absurd {A = ⊥} cc))

  pub runs_stay : run_count c'.table ≡ run_count c.table
  runs_stay =
      sum_same (λ k. run_one (kind_of c'.table k)) (λ k. run_one (kind_of c.table k)) (length c'.table.regions) (λ k h. run_each k)
      ∙ ap (sum_below (λ k. run_one (kind_of c.table k))) moved_regions.count

  pub two_free : 2 ≤ free_count c.table → 2 ≤ free_count c'.table
  two_free two = two_stay c.table.words_per_region (free_count c.table) (free_count c'.table) (length p.evacuates.chosen)
      p.evacuates.evacuated.spares.taken w (live_sum p.evacuates.chosen) moved_taken moved_counted two

  pub quiet_stays : IsCore c → IsShaped c'.table → (s : State) → Stands s c' → IsQuiet s c → IsQuiet s c'
  quiet_stays core shape' s stands q = record {
    stands = stands;
    exact = paused.paused_exact which budget n w c c' core shape shape' p q.exact;
    reached = paused.paused_reached which budget n w c c' core shape shape' p q.exact s.graph q.reached;
    runs = paused_runs which budget n w c c' core shape shape' p q.exact q.runs;
  }

module _ (budget n w : ℕ) (c c' : CoreState) (core : IsCore c) (shape : IsShaped c.table) (shape' : IsShaped c'.table)
    (p : HasPaused budget n w c c') where
  abbrev t : Table
  t = c.table

  abbrev t' : Table
  t' = c'.table

  abbrev words : ℕ
  words = t.words_per_region

  abbrev chosen : List LiveRow
  chosen = p.evacuates.chosen

  -- a single region isn't full
  single : length chosen ≡ 1 → live_sum chosen < words
  single = one_sum words chosen below
    where
      below : All (λ (row : LiveRow). row.live_bound < words) chosen
      below = subst (λ (rows : List LiveRow). All (λ (row : LiveRow). row.live_bound < words) rows) (sym p.evacuates.choice.front)
          (All-take (λ (row : LiveRow). row.live_bound < words) (length chosen) p.evacuates.choice.rows (λ i d l.
          (let a = (p.evacuates.choice.candidates.each i d l).candidate.frees in
          let b = (p.evacuates.choice.candidates.are_rows.each i d l).bound in
          omega (arith, a, b))))

  regions : RegionsAfter chosen t t'
  regions = moved_regions choices.Best budget n w c c' shape p

  counted : free_count t' + p.evacuates.evacuated.spares.taken ≡ free_count t + length chosen
  counted = moved_counted choices.Best budget n w c c' shape p

  pub packed : (s : State) → IsQuiet s c → 2 ≤ free_count t → free_count t' ≤ free_count t → free_count t * words / 2 ≤ budget
      → IsPacked s.graph c'
  packed s q two gain enough =
      let a = count_all t in
      let b = count_all t' in
      let d = runs_stay choices.Best budget n w c c' shape p in
      let e = regions.count in
      let f = counted in
      filled c c' core shape s q regions.size d
      (half_kept budget n w c c' p q.exact shape.positive two gain enough (ordinary_count t') (omega (arith, a, b, d, e, f)) single)

-- fewer regions are half full too
fewer_filled : (g : Graph) (c : CoreState) (m n : ℕ) → m ≤ n → FillHalf g c n → FillHalf g c m
fewer_filled g c m n le f = record {
  words = f.words;
  reachable = f.reachable;
  half = (let a = f.half in
      let b = mul-le m c.table.words_per_region n c.table.words_per_region le (omega arith) in
      omega (arith, a, b));
}

-- ---- fewer ordinary regions, and the same runs
module _ (g : Graph) (c c' : CoreState) (size : c'.table.words_per_region ≡ c.table.words_per_region)
    (runs : run_count c'.table ≡ run_count c.table) (fewer : ordinary_count c'.table ≤ ordinary_count c.table) (p : IsPacked g c) where
  fill_moved : (m n : ℕ) → n ≤ m → FillHalf g c m → FillHalf g c' n
  fill_moved m n le f = record {
    words = f.words;
    reachable = f.reachable;
    half = (let a = f.half in
        let b = mul-le n c.table.words_per_region m c.table.words_per_region le (omega arith) in
        let e = ap (λ (k : ℕ). n * k) size in
        omega (arith, a, b, e));
  }

  by_runs : 0 < run_count c'.table → FillHalf g c' (run_count c'.table)
  by_runs some = elim (cases_eq (ordinary_count c.table) 1) [
    | inl one ↦ fill_moved (run_count c.table) (run_count c'.table) (omega (arith, runs)) (p.in_runs one (omega (arith, some, runs)))
    | inr ne ↦ fill_moved (ordinary_count c.table + run_count c.table) (run_count c'.table) (omega (arith, runs))
        (p.in_use ne (omega (arith, some, runs)))
  ]

  pub still_packed : IsPacked g c'
  still_packed = record {
    words = p.words;
    reachable = p.reachable;
    small = λ i n e. (let a = p.small i n e in omega (arith, a, size));
    half = λ some. (let a = p.half (omega (arith, some, fewer)) in
        let b = mul-le (ordinary_count c'.table) c.table.words_per_region (ordinary_count c.table) c.table.words_per_region fewer
        (omega arith) in
        let e = ap (λ (k : ℕ). ordinary_count c'.table * k) size in
        omega (arith, a, b, e));
    in_use = λ ne some. elim (cases_eq (ordinary_count c.table) 1) [
      | inl one ↦ (let none : ordinary_count c'.table ≡ 0 = omega (arith, ne, one, fewer) in
          let f = p.in_runs one (omega (arith, some, none, runs)) in
          fill_moved (run_count c.table) (ordinary_count c'.table + run_count c'.table) (omega (arith, none, runs)) f)
      | inr more ↦ fill_moved (ordinary_count c.table + run_count c.table) (ordinary_count c'.table + run_count c'.table)
          (omega (arith, fewer, runs)) (p.in_use more (omega (arith, some, fewer, runs)))
    ];
    in_runs = λ one some. by_runs some;
  }

-- a compaction that copies a region of words or fewer takes one destination at most
pub set_packed : (budget n w : ℕ) (c c' : CoreState) (shape : IsShaped c.table) → HasMoved choices.Highest budget n w c c'
    → w ≤ c.table.words_per_region → (g : Graph) → IsPacked g c → IsPacked g c'
set_packed budget n w c c' shape p few g packed =
    let words : ℕ = c.table.words_per_region in
    let d : ℕ = p.evacuates.evacuated.spares.taken in
    let t = moved_taken choices.Highest budget n w c c' shape p in
    let count = moved_counted choices.Highest budget n w c c' shape p in
    let regions = moved_regions choices.Highest budget n w c c' shape p in
    let runs = runs_stay choices.Highest budget n w c c' shape p in
    let a = count_all c.table in
    let b = count_all c'.table in
    let e = regions.count in
    let le = no_more words (free_count c.table) (length p.evacuates.chosen) d w (live_sum p.evacuates.chosen) t few in
    still_packed g c c' regions.size runs (omega (arith, count, runs, a, b, e, le)) packed
  where
    no_more : (r f k d w s : ℕ) → Taken r f k d w s → w ≤ r → d ≤ k
    no_more r f k d w s t small = elim (cases_lt 1 d) [
      | inl more ↦
          (let a = t.full (omega (arith, more)) in
          let m = mul-le 2 r d r (omega (arith, more)) (omega arith) in
          absurd (omega (arith, a, m, small)))
      | inr less ↦ elim (cases_lt 0 d) [
        | inl one ↦ (let b = some_taken r f k d w s t one in omega (arith, b, less))
        | inr zero' ↦ omega (arith, zero')
      ]
    ]

-- where fewer regions are free than two and so many, which leave some of all
module _ (g : Graph) (c : CoreState) (more : ℕ) (p : IsPacked g c) (few : free_count c.table < 2 + more)
    (counts : ordinary_count c.table + run_count c.table + free_count c.table ≡ c.config.regions) (some : 2 + more < c.config.regions) where
  pub all_but_fewer : ordinary_count c.table ≢ 1 → FillHalf g c (c.config.regions - (1 + more))
  all_but_fewer ne = fewer_filled g c (c.config.regions - (1 + more)) (ordinary_count c.table + run_count c.table)
      (omega (arith, counts, few)) (p.in_use ne (omega (arith, counts, few, some)))

  pub all_but : FillHalf g c (c.config.regions - (2 + more))
  all_but = elim (cases_eq (ordinary_count c.table) 1) [
    | inl one ↦ fewer_filled g c (c.config.regions - (2 + more)) (run_count c.table) (omega (arith, counts, few, one))
        (p.in_runs one (omega (arith, counts, few, some, one)))
    | inr ne ↦ fewer_filled g c (c.config.regions - (2 + more)) (c.config.regions - (1 + more)) (omega arith) (all_but_fewer ne)
  ]

-- where all regions are free there is nothing to be reachable
pub all_free : (g : Graph) (c : CoreState) → IsCore c → c.config.regions ≤ free_count c.table → IsPacked g c
all_free g c core all = record {
  words = 0;
  reachable = record { names = []; distinct = λ i j n e f. absurd (no_name i n e); each = λ i n e. absurd (no_name i n e); total = refl };
  small = λ i n e. absurd (no_name i n e);
  half = λ some. absurd (let a = count_all c.table in let b = core.layers.region_count in omega (arith, a, b, all, some));
  in_use = λ ne some. absurd (let a = count_all c.table in let b = core.layers.region_count in omega (arith, a, b, all, some));
  in_runs = λ one some. absurd (let a = count_all c.table in let b = core.layers.region_count in omega (arith, a, b, all, some));
}
  where
    no_name : (i n : ℕ) → slice_get (let none : List ℕ = [] in none) i ≡ Some n → ⊥
    no_name i n e = cc
