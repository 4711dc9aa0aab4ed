-- A run that moves down, and a compaction as a whole: as many regions are free, ordinary, and of runs as before.
use Rattle.std.proofs.Common.{◌≡◌, ◌≢◌, ◌⊎◌, ◌+◌, ◌-◌, ◌*◌, ◌/◌, ◌<◌, ◌≤◌, ◌∙◌, ℕ, zero, suc, Bool, List, Option, Some, None, length}
use Rattle.std.proofs.Common.{refl, sym, ap, subst}
use Rattle.std.proofs.Common.{ap₂, arith, inl, inr}
use Rattle.std.proofs.lemmas.Bool.{cases_eq, cases_lt, eq-eqb, ne_eqb}
use Rattle.heap_model.specs.Graph.{Graph, IsReachable}
use Rattle.heap_model.specs.Heap.{Stored}
use Rattle.heap_model.specs.Redirection.{place_moved}
use Rattle.std.proofs.lemmas.List.{get_or_past}
use Rattle.regions.specs.Table.{Table, Free, free_count, kind_of, nth_region, region_kind, stored_size}
use Rattle.regions.specs.Shaped.{IsShaped}
use Rattle.regions.specs.declared.row.Kind.{Kind}
use Rattle.regions.specs.declared.row.Kind.TheVariants as kinds
use Rattle.regions.proofs.LongRuns.Blocks.{block_within, later_rest}
use Rattle.regions.proofs.Words.Divides.{div_is}
use Rattle.mark_bitmap.specs.Live.{kept_words}
use Rattle.mark_bitmap.specs.Tops.{Tops}
use Rattle.mark_bitmap.specs.Kept.{kept_in}
use Rattle.marker.specs.declared.marker.Marker.{Marker}
use Rattle.step_core.specs.declared.candidates.Choice.TheVariants as choices
use Rattle.step_core.specs.Measures.{sum_below}
use Rattle.step_core.specs.Pause.{HasMoved}
use Rattle.step_core.specs.Stands.{CoreState, Stands, IsCore, kept_of}
use Rattle.step_core.specs.Sliding.{HasCompacted, MovesRun, RunKinds, Slides}
use Rattle.graph_runs.specs.State.{State}
use Rattle.collection.specs.Space.{IsExact, IsPacked, IsQuiet, LieBelowFree, ordinary_count, ordinary_end, ordinary_one}
use Rattle.collection.specs.Space.{run_count, run_one}
use Rattle.collection.proofs.Counts.{count_all}
use Rattle.collection.proofs.Exact.{ordinary_known}
use Rattle.collection.proofs.Sums.{sum_same}
use Rattle.collection.proofs.Lowered.{lowered, none_down, nothing_above}
use Rattle.collection.proofs.Packed.{set_packed, still_packed, two_free}
use Rattle.collection.proofs.Paused as paused
use Rattle.collection.proofs.Runs.{AreKept, paused_runs}

-- ---- sums
range_sum : (f : ℕ → ℕ) (a d v n : ℕ) → n ≡ a + d → ((k : ℕ) → a ≤ k → k < n → f k ≡ v) → sum_below f n ≡ sum_below f a + d * v
range_sum f a zero v n e same = ap (sum_below f) (let q : n ≡ a = omega (arith, e) in q)
    ∙ (let q : sum_below f a ≡ sum_below f a + 0 * v = omega arith in q)
range_sum f a (suc d) v zero e same = absurd (omega (arith, e))
range_sum f a (suc d) v (suc n) e same =
    let rest = range_sum f a d v n (omega (arith, e)) (λ k low high. same k low (omega (arith, high))) in
    let last = same n (omega (arith, e)) (omega arith) in
    let more : suc d * v ≡ d * v + v = omega arith in
    omega (arith, rest, last, more)

tail_sum : (f g : ℕ → ℕ) (e n : ℕ) → e ≤ n → ((k : ℕ) → e ≤ k → f k ≡ g k) → sum_below f e ≡ sum_below g e → sum_below f n ≡ sum_below g n
tail_sum f g e zero le same front = ap (sum_below f) (let q : 0 ≡ e = omega (arith, le) in q) ∙ front
    ∙ ap (sum_below g) (let q : e ≡ 0 = omega (arith, le) in q)
tail_sum f g e (suc n) le same front = elim (cases_eq e (suc n)) [
  | inl q ↦ ap (sum_below f) (sym q) ∙ front ∙ ap (sum_below g) q
  | inr apart ↦
      let rest = tail_sum f g e n (omega (arith, le, apart)) same front in
      let last = same n (omega (arith, le, apart)) in
      omega (arith, rest, last)
]

-- a run of n regions from `first` on is one of n from `to` on
module _ (t t' : Table) (first to n : ℕ) (down : to < first) (run : kind_of t first ≡ kinds.First) (known : first + n ≤ length t.regions)
    (rest : (k : ℕ) → first < k → k < first + n → kind_of t k ≡ kinds.Rest) (free : (k : ℕ) → to ≤ k → k < first → kind_of t k ≡ kinds.Free)
    (some : 0 < n) (p : RunKinds first to n t t') where
  kinds_sum : (cost : Kind → ℕ) → cost kinds.First ≡ cost kinds.Rest
      → sum_below (λ k. cost (kind_of t' k)) (length t'.regions) ≡ sum_below (λ k. cost (kind_of t k)) (length t.regions)
  kinds_sum cost alike =
      let f : ℕ → ℕ = λ k. cost (kind_of t k) in
      let g : ℕ → ℕ = λ k. cost (kind_of t' k) in
      let gap : ℕ = first - to in
      let front = sum_same g f to (λ k h. ap cost (p.others k (inl h))) in
      let f1 = range_sum f to gap (cost kinds.Free) first (omega (arith, down)) (λ k low high. ap cost (free k low high)) in
      let f2 = range_sum f first n (cost kinds.Rest) (first + n) refl (λ k low high. elim (cases_eq k first) [
        | inl e ↦ ap (λ (j : ℕ). cost (kind_of t j)) e ∙ ap cost run ∙ alike
        | inr apart ↦ ap cost (rest k (omega (arith, low, apart)) high)
      ]) in
      let g1 = range_sum g to n (cost kinds.Rest) (to + n) refl (λ k low high. elim (cases_eq k to) [
        | inl e ↦ ap (λ (j : ℕ). cost (kind_of t' j)) e ∙ ap cost p.head ∙ alike
        | inr apart ↦ ap cost (p.later k (omega (arith, low, apart)) high)
      ]) in
      let g2 = range_sum g (to + n) gap (cost kinds.Free) (first + n) (omega (arith, down)) (λ k low high. ap cost (p.left k low high)) in
      let whole = tail_sum g f (first + n) (length t.regions) known (λ k past. ap cost (p.others k (inr past)))
      (omega (arith, front, f1, f2, g1, g2)) in
      ap (sum_below g) p.count ∙ whole

kept_words_same : (t t' : Table) (tops tops' : Tops) (marks marks' : List Bool) (n a : ℕ)
    → ((x : ℕ) → a ≤ x → x < a + n → stored_size (kept_in t' tops' marks' x) ≡ stored_size (kept_in t tops marks x))
    → kept_words t' tops' marks' a n ≡ kept_words t tops marks a n
kept_words_same t t' tops tops' marks marks' zero a same = refl
kept_words_same t t' tops tops' marks marks' (suc n) a same =
    let here = same a (omega arith) (omega arith) in
    let rest = kept_words_same t t' tops tops' marks marks' n (suc a) (λ x low high. same x (omega (arith, low)) (omega (arith, high))) in
    omega (arith, here, rest)

pub first_known : (t : Table) (k : ℕ) → kind_of t k ≡ kinds.First → k < length t.regions
unfolding kind_of nth_region
first_known t k e = elim (cases_lt k (length t.regions)) [
  | inl h ↦ h
  | inr past ↦ absurd (let p = ap region_kind (get_or_past t.regions k Free past) in let q : kinds.Free ≡ kinds.First = sym p ∙ e in cc)
]

-- ---- a run moves
module _ (first to n w : ℕ) (c c' : CoreState) (shape : IsShaped c.table) (p : MovesRun first to n w c c') where
  abbrev words : ℕ
  words = c.table.words_per_region

  run_known : first < length c.table.regions
  run_known = first_known c.table first p.movable.run

  fits : first + n ≤ length c.table.regions
  fits = let b = block_within c.table first run_known in let e = p.regions in omega (arith, b, e)

  pub some_run : 0 < n
  some_run = let e = p.regions in omega (arith, e)

  rests : (k : ℕ) → first < k → k < first + n → kind_of c.table k ≡ kinds.Rest
  rests k low high = let e = p.regions in
      later_rest c.table first (k - first) k (omega (arith, low)) (omega (arith, low)) (omega (arith, low, high, e))

  sums : (cost : Kind → ℕ) → cost kinds.First ≡ cost kinds.Rest
      → sum_below (λ k. cost (kind_of c'.table k)) (length c'.table.regions) ≡ sum_below (λ k. cost (kind_of c.table k))
      (length c.table.regions)
  sums = kinds_sum c.table c'.table first to n p.movable.below p.movable.run fits rests p.movable.free some_run p.kinds_are

  pub slid_runs : run_count c'.table ≡ run_count c.table
  slid_runs = sums run_one refl

  pub slid_ordinary : ordinary_count c'.table ≡ ordinary_count c.table
  slid_ordinary = sums ordinary_one refl

  pub slid_free : free_count c'.table ≡ free_count c.table
  slid_free =
      let a = count_all c.table in
      let b = count_all c'.table in
      let r = slid_runs in
      let o = slid_ordinary in
      let e = p.kinds_are.count in
      omega (arith, a, b, r, o, e)

  pub slid_packed : (g : Graph) → IsPacked g c → IsPacked g c'
  slid_packed g packed =
      still_packed g c c' p.kinds_are.size slid_runs (let o = slid_ordinary in omega (arith, o)) packed

  -- a region that is ordinary afterwards was, and is none of the run's
  was_ordinary : (k : ℕ) → kind_of c'.table k ≡ kinds.Ordinary → ((k < to) ⊎ (first + n ≤ k)) × (kind_of c.table k ≡ kinds.Ordinary)
  was_ordinary k o = elim (cases_lt k to) [
    | inl under ↦ (inl under, sym (p.kinds_are.others k (inl under)) ∙ o)
    | inr over ↦ elim (cases_lt k (first + n)) [
      | inr past ↦ (inr past, sym (p.kinds_are.others k (inr past)) ∙ o)
      | inl within ↦ elim (cases_lt k (to + n)) [
        | inr left ↦ absurd (let f = p.kinds_are.left k left within in cc)
        | inl inside ↦ elim (cases_eq k to) [
          | inl e ↦ absurd (let h = p.kinds_are.head in let q = ap (kind_of c'.table) e in cc)
          | inr apart ↦ absurd (let l = p.kinds_are.later k (omega (arith, over, apart)) inside in cc)
        ]
      ]
    ]
  ]

  pub slid_below : LieBelowFree c.table → LieBelowFree c'.table
  slid_below below j k less free ordinary =
      let (out, was) = was_ordinary k ordinary in
      let down = p.movable.below in
      let to_free = p.movable.free to (omega arith) down in
      elim (cases_lt to k) [
        | inl above ↦ below to k above to_free was
        | inr le ↦
            let under : j < to = omega (arith, less, le) in
            below j k less (sym (p.kinds_are.others j (inl under)) ∙ free) was
      ]

  region_of : (a k : ℕ) → k * words ≤ a → a < k * words + words → a / words ≡ k
  region_of a k low high = div_is a words k low high

  pub slid_exact : IsExact c → IsExact c'
  unfolding kept_of
  slid_exact exact = record {
    idle = ap (λ (m : Marker). m.running) p.forgotten.same ∙ exact.idle;
    exact = λ k lt o.
        let (out, was) = was_ordinary k o in
        let known : k < length c.table.regions = ordinary_known c.table k was in
        let size = p.kinds_are.size in
        let down = p.movable.below in
        let z = shape.positive in
        let bound = p.others.bounds k out in
        let at : k * c'.table.words_per_region ≡ k * words = ap (λ (x : ℕ). k * x) size in
        let same = ap₂ (λ (a b : ℕ). kept_words c'.table c'.marker.tams c'.marker.bitmaps.previous a b) at size
        ∙ kept_words_same c.table c'.table c.marker.tams c'.marker.tams c.marker.bitmaps.previous c'.marker.bitmaps.previous words
        (k * words)
        (λ x low high.
        let r = region_of x k low high in
        p.others.words x
        (λ e. (let q = ap (λ (b : ℕ). b / words) e ∙ region_of (first * words) first (omega arith) (omega (arith, z)) in
        elim out [ inl under ↦ omega (arith, under, down, q, r) | inr past ↦ (let s = some_run in omega (arith, past, q, r, s)) ]))
        (λ e. (let q = ap (λ (b : ℕ). b / words) e ∙ region_of (to * words) to (omega arith) (omega (arith, z)) in
        elim out [ inl under ↦ omega (arith, under, q, r) | inr past ↦ omega (arith, past, q, r, down) ]))) in
        let le = exact.exact k known was in
        omega (arith, bound, same, le);
  }

  pub slid_reached : (g : Graph) → ((a : ℕ) (x : Stored) → kept_of c a ≡ Some x → IsReachable g x.name)
      → (a : ℕ) (x : Stored) → kept_of c' a ≡ Some x → IsReachable g x.name
  slid_reached g reached a x e =
      let came = p.relocates.came a x e in
      let copy = p.relocates.kept came.from a came.object came.at came.placed in
      let at = copy.at in
      let same : copy.copy ≡ x = cc in
      subst (λ (name : ℕ). IsReachable g name) (sym copy.name ∙ ap (λ (s : Stored). s.name) same) (reached came.from came.object came.at)

  pub slid_kept : AreKept c → AreKept c'
  slid_kept kept k e none =
      let size = p.kinds_are.size in
      let at : k * c'.table.words_per_region ≡ k * words = ap (λ (x : ℕ). k * x) size in
      let gone : kept_of c' (k * words) ≡ None = ap (kept_of c') (sym at) ∙ none in
      let z = shape.positive in
      elim (cases_eq k to) [
        | inl same ↦
            let copy = p.relocates.kept (first * words) (to * words) p.movable.object p.movable.is_kept
            (place_here (first * words) (to * words)) in
            let there = copy.at in
            let q = ap (λ (j : ℕ). kept_of c' (j * words)) same in
            cc
        | inr apart ↦
            let was = was_first k e apart in
            elim (option_cases (kept_of c (k * words))) [
              | inr void ↦ kept k was void
              | inl some ↦
                  let away : k * words ≢ first * words = λ q.
                  (let r = sym (region_of (k * words) k (omega arith) (omega (arith, z))) ∙ ap (λ (b : ℕ). b / words) q
                  ∙ region_of (first * words) first (omega arith) (omega (arith, z)) in
                  first_gone k e apart r) in
                  let copy = p.relocates.kept (k * words) (k * words) some.0 some.1
                  (place_stays (first * words) (to * words) (k * words) away) in
                  let there = copy.at in
                  cc
            ]
      ]
    where
      place_here : (from place : ℕ) → place_moved from place from ≡ Some place
      place_here from place = rw (eq-eqb from from refl) refl

      place_stays : (from place a : ℕ) → a ≢ from → place_moved from place a ≡ Some a
      place_stays from place a n = rw (ne_eqb a from n) refl

      option_cases : (o : Option Stored) → ((x : Stored) × (o ≡ Some x)) ⊎ (o ≡ None)
      option_cases None = inr refl
      option_cases (Some x) = inl (x, refl)

      was_first : (k : ℕ) → kind_of c'.table k ≡ kinds.First → k ≢ to → kind_of c.table k ≡ kinds.First
      was_first k e apart = elim (cases_lt k to) [
        | inl under ↦ sym (p.kinds_are.others k (inl under)) ∙ e
        | inr over ↦ elim (cases_lt k (first + n)) [
          | inr past ↦ sym (p.kinds_are.others k (inr past)) ∙ e
          | inl within ↦ absurd (elim (cases_lt k (to + n)) [
            | inl inside ↦ (let l = p.kinds_are.later k (omega (arith, over, apart)) inside in cc)
            | inr left ↦ (let f = p.kinds_are.left k left within in cc)
          ])
        ]
      ]

      -- a run doesn't begin at its old place any more
      first_gone : (k : ℕ) → kind_of c'.table k ≡ kinds.First → k ≢ to → k ≡ first → ⊥
      first_gone k e apart q =
          let down = p.movable.below in
          let some = some_run in
          elim (cases_lt k (to + n)) [
            | inl inside ↦ (let l = p.kinds_are.later k (omega (arith, q, down)) inside in cc)
            | inr left ↦ (let f = p.kinds_are.left k left (omega (arith, q, some)) in cc)
          ]

-- ---- a compaction as a whole
module _ (budget n w : ℕ) (c c' : CoreState) (core : IsCore c) (shape : IsShaped c.table) (p : HasCompacted budget n w c c') where
  pub compacted_free : 2 ≤ free_count c.table → 2 ≤ free_count c'.table
  compacted_free two = go p
    where
      go : HasCompacted budget n w c c' → 2 ≤ free_count c'.table
      go (inl h) = two_free choices.Highest budget n w c c' shape h.1 two
      go (inr q) = by_slide q.slides
        where
          between : 2 ≤ free_count q.after.table
          between = two_free choices.Highest budget 0 0 c q.after shape q.empty two

          by_slide : Slides budget n w q.after c' → 2 ≤ free_count c'.table
          by_slide (inl still) = subst (λ (k : CoreState). 2 ≤ free_count k.table) (sym still.same) between
          by_slide (inr (first, to, idle, lowest, moves)) =
              (let e = slid_free first to n w q.after c' q.shaped moves in let b = between in omega (arith, b, e))

  pub compacted_next : c'.next ≡ c.next
  compacted_next = go p
    where
      go : HasCompacted budget n w c c' → c'.next ≡ c.next
      go (inl h) = ap (λ (x : CoreState). x.next) h.1.evacuates.same ∙ ap (λ (x : CoreState). x.next) h.1.is_ready.same
      go (inr q) = by_slide q.slides ∙ ap (λ (x : CoreState). x.next) q.empty.evacuates.same
          ∙ ap (λ (x : CoreState). x.next) q.empty.is_ready.same
        where
          by_slide : Slides budget n w q.after c' → c'.next ≡ q.after.next
          by_slide (inl still) = ap (λ (x : CoreState). x.next) still.same
          by_slide (inr (first, to, idle, lowest, moves)) = ap (λ (x : CoreState). x.next) moves.same

  -- ordinary regions stay as many at most, if they do where some are evacuated
  by_parts : (g : Graph) → ((0 < n) × HasMoved choices.Highest budget n w c c' → IsPacked g c') → IsPacked g c → IsPacked g c'
  by_parts g moved packed = go p
    where
      go : HasCompacted budget n w c c' → IsPacked g c'
      go (inl h) = moved h
      go (inr q) = by_slide q.slides
        where
          between : IsPacked g q.after
          between = set_packed budget 0 0 c q.after shape q.empty (omega arith) g packed

          by_slide : Slides budget n w q.after c' → IsPacked g c'
          by_slide (inl still) = subst (λ (k : CoreState). IsPacked g k) (sym still.same) between
          by_slide (inr (first, to, idle, lowest, moves)) = slid_packed first to n w q.after c' q.shaped moves g between

  pub compacted_packed : budget ≤ c.table.words_per_region → (g : Graph) → IsPacked g c → IsPacked g c'
  compacted_packed few g packed =
      by_parts g (λ h. (let q = h.1.evacuates.within in set_packed budget n w c c' shape h.1 (omega (arith, few, q)) g packed)) packed

  -- where no ordinary region is above a free one none is evacuated
  pub low_packed : LieBelowFree c.table → (g : Graph) → IsPacked g c → IsPacked g c'
  low_packed low g packed = by_parts g (λ h. absurd (none_down budget n w c c' core shape h.1 low h.0)) packed

  pub compacted_quiet : IsShaped c'.table → (s : State) → Stands s c' → IsQuiet s c → IsQuiet s c'
  compacted_quiet shape' s stands quiet = go p
    where
      go : HasCompacted budget n w c c' → IsQuiet s c'
      go (inl h) = record {
        stands = stands;
        exact = paused.paused_exact choices.Highest budget n w c c' core shape shape' h.1 quiet.exact;
        reached = paused.paused_reached choices.Highest budget n w c c' core shape shape' h.1 quiet.exact s.graph quiet.reached;
        runs = paused_runs choices.Highest budget n w c c' core shape shape' h.1 quiet.exact quiet.runs;
      }
      go (inr q) = by_slide q.slides
        where
          exact : IsExact q.after
          exact = paused.paused_exact choices.Highest budget 0 0 c q.after core shape q.shaped q.empty quiet.exact

          reached : (a : ℕ) (x : Stored) → kept_of q.after a ≡ Some x → IsReachable s.graph x.name
          reached = paused.paused_reached choices.Highest budget 0 0 c q.after core shape q.shaped q.empty quiet.exact s.graph quiet.reached

          runs : AreKept q.after
          runs = paused_runs choices.Highest budget 0 0 c q.after core shape q.shaped q.empty quiet.exact quiet.runs

          by_slide : Slides budget n w q.after c' → IsQuiet s c'
          by_slide (inl still) = record {
            stands = stands;
            exact = subst IsExact (sym still.same) exact;
            reached = subst (λ (k : CoreState). (a : ℕ) (x : Stored) → kept_of k a ≡ Some x → IsReachable s.graph x.name)
                (sym still.same) reached;
            runs = subst AreKept (sym still.same) runs;
          }
          by_slide (inr (first, to, idle, lowest, moves)) = record {
            stands = stands;
            exact = slid_exact first to n w q.after c' q.shaped moves exact;
            reached = slid_reached first to n w q.after c' q.shaped moves s.graph reached;
            runs = slid_kept first to n w q.after c' q.shaped moves runs;
          }

  -- where the highest ordinary region is no lower, none is above a free one
  pub compacted_below : ordinary_end c.table ≤ ordinary_end c'.table → IsExact c → 2 ≤ free_count c.table
      → c.table.words_per_region ≤ budget
      → budget ≤ c.table.words_per_region → LieBelowFree c'.table
  compacted_below as_high exact two enough few = go p
    where
      go : HasCompacted budget n w c c' → LieBelowFree c'.table
      go (inl h) = absurd (let low = lowered budget n w c c' core shape h.1 few h.0 in omega (arith, low, as_high))
      go (inr q) = by_slide q.slides
        where
          between : LieBelowFree q.after.table
          between = nothing_above budget 0 0 c q.after core shape q.empty refl exact two enough

          by_slide : Slides budget n w q.after c' → LieBelowFree c'.table
          by_slide (inl still) = subst (λ (k : CoreState). LieBelowFree k.table) (sym still.same) between
          by_slide (inr (first, to, idle, lowest, moves)) = slid_below first to n w q.after c' q.shaped moves between
