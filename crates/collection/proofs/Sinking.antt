-- Runs that move down, one after another, where no ordinary region is above a free one: in the end no region in use is.
use Rattle.std.proofs.Common.{◌≡◌, ◌≢◌, ◌+◌, ◌-◌, ◌*◌, ◌^◌, ◌<◌, ◌≤◌, ◌∙◌, ℕ, zero, suc, Some, None, Option, length, false}
use Rattle.std.proofs.Common.{inl, inr, refl, sym, ap, subst, arith}
use Rattle.std.proofs.lemmas.Bool.{cases_eq, cases_lt}
use Rattle.heap_model.specs.Graph.{Graph}
use Rattle.heap_model.specs.Heap.{Stored}
use Rattle.regions.specs.Table.{Table, First, kind_of}
use Rattle.regions.specs.Tiles.{Object, tile_size}
use Rattle.regions.specs.Shaped.{IsShaped}
use Rattle.regions.specs.declared.row.Kind.{Kind}
use Rattle.regions.specs.declared.row.Kind.TheVariants as kinds
use Rattle.regions.proofs.LongRuns.Blocks.{kind_is, product_le, rest_number}
use Rattle.regions.proofs.Tiles.Laws.{tile_of}
use Rattle.graph_runs.specs.State.{State}
use Rattle.step_core.specs.declared.candidates.Choice.TheVariants as choices
use Rattle.step_core.specs.Steps.{Event}
use Rattle.step_core.specs.Stands.{CoreState, IsCore, kept_of}
use Rattle.step_core.specs.Sliding.{HasCompacted, IsLowestMovable, IsMovable, MovesRun, Slides, SlidesAfter}
use Rattle.step_core.proofs.Mutating.Reading.{object_kept}
use Rattle.collection.specs.Space.{IsCompact, IsExact, IsPacked, IsQuiet, LieBelowFree, RunsRestBelow}
use Rattle.collection.specs.Steps.{CollectsWithin}
use Rattle.collection.proofs.Lowered.{kinds_stay, none_down}
use Rattle.collection.proofs.Paused as paused
use Rattle.collection.proofs.Runs.{AreKept, paused_runs}
use Rattle.collection.proofs.Slides.{first_known, slid_below, some_run}
use Rattle.collection.proofs.Took.{chain, none}

-- ---- kinds alone
-- the same kinds
module _ (t t' : Table) (same : (k : ℕ) → kind_of t' k ≡ kind_of t k) where
  pub below_same : LieBelowFree t → LieBelowFree t'
  below_same low j k less free ordinary = low j k less (sym (same j) ∙ free) (sym (same k) ∙ ordinary)

  pub rests_same : (n : ℕ) → RunsRestBelow n t → RunsRestBelow n t'
  rests_same n rests j free first = rests j (sym (same j) ∙ free) (sym (same (suc j)) ∙ first)

  compact_same : IsCompact t → IsCompact t'
  compact_same low j k less free = same k ∙ low j k less (sym (same j) ∙ free)

-- a later region of a run is above another region of it
rest_above : (t : Table) (j : ℕ) → IsShaped t → kind_of t (suc j) ≡ kinds.Rest → kind_of t j ≡ kinds.Free → ⊥
rest_above t j shape rest free =
    let (n, is) = rest_number t (suc j) rest in
    let l = shape.later (suc j) n is in
    let number = l.number in
    let some = l.behind in
    let head = kind_is t l.first (First l.object) l.begins in
    elim (cases_eq l.later 1) [
      | inl one ↦
          (let at : l.first ≡ j = omega (arith, number, one) in
          let q : kinds.First ≡ kinds.Free = sym head ∙ ap (kind_of t) at ∙ free in
          cc)
      | inr more ↦
          (let i : ℕ = l.later - 1 in
          let at : l.first + i ≡ j = omega (arith, number, some, more) in
          let reach = l.reaches in
          let less : i * t.words_per_region ≤ l.later * t.words_per_region = product_le i l.later t.words_per_region (omega arith) in
          let inner = shape.run l.first i l.object l.begins (omega (arith, some, more)) (omega (arith, less, reach)) in
          let q : kinds.Rest ≡ kinds.Free = sym inner ∙ ap (kind_of t) at ∙ free in
          cc)
    ]

-- where no ordinary region and no run is above a free region, from the lowest free one on all are free
pub compact_by : (t : Table) → IsShaped t → LieBelowFree t → ((j : ℕ) → kind_of t j ≡ kinds.Free → kind_of t (suc j) ≡ kinds.First → ⊥)
    → IsCompact t
compact_by t shape low none j zero less free = absurd (omega (arith, less))
compact_by t shape low none j (suc k) less free =
    let under : kind_of t k ≡ kinds.Free = elim (cases_eq j k) [
      | inl same ↦ ap (kind_of t) (sym same) ∙ free
      | inr apart ↦ compact_by t shape low none j k (omega (arith, less, apart)) free
    ] in
    by_kind (kind_of t (suc k)) refl under
  where
    by_kind : (o : Kind) → kind_of t (suc k) ≡ o → kind_of t k ≡ kinds.Free → kind_of t (suc k) ≡ kinds.Free
    by_kind kinds.Free is under = is
    by_kind kinds.Ordinary is under = absurd (low j (suc k) less free is)
    by_kind kinds.First is under = absurd (none k under is)
    by_kind kinds.Rest is under = absurd (rest_above t k shape is under)

-- so it is where each run rests on a region in use
pub compact_rests : (t : Table) (n : ℕ) → IsShaped t → LieBelowFree t → length t.regions ≤ n → RunsRestBelow n t → IsCompact t
compact_rests t n shape low all rests = compact_by t shape low
    (λ j free first. (let known = first_known t (suc j) first in let le = rests j free first in omega (arith, known, le, all)))

-- ---- a run that moves, the lowest that can
option_kept : (o : Option Stored) → o ≢ None → (x : Stored) × (o ≡ Some x)
option_kept None n = absurd (n refl)
option_kept (Some x) n = (x, refl)

-- in a quiet core each run with a free region directly below can move, with a budget of 32 bits
module _ (c : CoreState) (shape : IsShaped c.table) (kept : AreKept c) where
  movable : (j k : ℕ) → j < k → kind_of c.table k ≡ kinds.First → ((i : ℕ) → j ≤ i → i < k → kind_of c.table i ≡ kinds.Free)
      → IsMovable c k j
  movable j k less first free =
      let (x, is) = option_kept (kept_of c (k * c.table.words_per_region)) (kept k first) in
      record { run = first; object = x; is_kept = is; below = less; free = free }

  just_below : (j : ℕ) → kind_of c.table j ≡ kinds.Free → kind_of c.table (suc j) ≡ kinds.First → IsMovable c (suc j) j
  just_below j free first = movable j (suc j) (omega arith) first
      (λ i low high. ap (kind_of c.table) (let e : i ≡ j = omega (arith, low, high) in e) ∙ free)

  object_within : (k j : ℕ) (m : IsMovable c k j) → tile_size (Object m.object) ≤ 2 ^ 32 - 1
  object_within k j m =
      let a : ℕ = k * c.table.words_per_region in
      let inside = shape.within a (Object m.object) (tile_of c.table a m.object (object_kept c a m.object m.is_kept)) in
      let all = shape.in_all in
      omega (arith, inside, all)

  -- where none of them can move no region in use is above a free one
  pub still_compact : LieBelowFree c.table → ((k j : ℕ) (m : IsMovable c k j) → tile_size (Object m.object) ≤ 2 ^ 32 - 1 → ⊥)
      → IsCompact c.table
  still_compact low none = compact_by c.table shape low
      (λ j free first. none (suc j) j (just_below j free first) (object_within (suc j) j (just_below j free first)))

  module _ (first to n w : ℕ) (c' : CoreState) (lowest : IsLowestMovable c (2 ^ 32 - 1) first to) (p : MovesRun first to n w c c') where
    -- after it each run below that can move begins above where it was
    pub slid_rests : (m : ℕ) → RunsRestBelow m c.table → RunsRestBelow (m + 1) c'.table
    slid_rests m rests j free' first' =
        let down = p.movable.below in
        let some = some_run first to n w c c' shape p in
        let above : first + n ≤ suc j = elim (cases_lt (suc j) (first + n)) [
          | inr past ↦ past
          | inl within ↦ absurd (elim (cases_lt (suc j) to) [
            | inl under ↦ from_below under
            | inr over ↦ elim (cases_eq (suc j) to) [
              | inl same ↦ at_place same
              | inr apart ↦ elim (cases_lt (suc j) (to + n)) [
                | inl inside ↦ (let l = p.kinds_are.later (suc j) (omega (arith, over, apart)) inside in cc)
                | inr left ↦ (let f = p.kinds_are.left (suc j) left within in cc)
              ]
            ]
          ])
        ] in
        let before = here m rests in
        omega (arith, above, some, before)
      where
        -- a region below where it comes to is as it was
        from_below : suc j < to → ⊥
        from_below under =
            let free = sym (p.kinds_are.others j (inl (omega (arith, under)))) ∙ free' in
            let is = sym (p.kinds_are.others (suc j) (inl under)) ∙ first' in
            let m = just_below j free is in
            let le = lowest.lowest (suc j) j m (object_within (suc j) j m) in
            let down = p.movable.below in
            omega (arith, le, under, down)

        -- it comes to lie on a region in use
        at_place : suc j ≡ to → ⊥
        at_place same =
            let free = sym (p.kinds_are.others j (inl (omega (arith, same)))) ∙ free' in
            let down = p.movable.below in
            let le = lowest.bottom j (movable j first (omega (arith, same, down)) p.movable.run
            (λ i low high. elim (cases_eq i j) [
              | inl e ↦ ap (kind_of c.table) e ∙ free
              | inr apart ↦ p.movable.free i (omega (arith, low, apart, same)) high
            ])) in
            omega (arith, le, same)

        here : (m : ℕ) → RunsRestBelow m c.table → m ≤ first
        here m rests =
            let down = p.movable.below in
            let i : ℕ = first - 1 in
            let next : first ≡ suc i = omega (arith, down) in
            let le = rests i (p.movable.free i (omega (arith, down)) (omega (arith, down)))
            (ap (kind_of c.table) (sym next) ∙ p.movable.run) in
            omega (arith, le, next)

-- ---- a compaction with no budget, as a whole
module _ (n w : ℕ) (c c' : CoreState) (core : IsCore c) (shape : IsShaped c.table) (p : HasCompacted (2 ^ 32 - 1) n w c c')
    (low : LieBelowFree c.table) where
  -- no ordinary region was evacuated
  slides_after : SlidesAfter (2 ^ 32 - 1) n w c c'
  slides_after = go p
    where
      go : HasCompacted (2 ^ 32 - 1) n w c c' → SlidesAfter (2 ^ 32 - 1) n w c c'
      go (inl h) = absurd (none_down (2 ^ 32 - 1) n w c c' core shape h.1 low h.0)
      go (inr q) = q

  abbrev mid : CoreState
  mid = slides_after.after

  mid_kinds : (k : ℕ) → kind_of mid.table k ≡ kind_of c.table k
  mid_kinds = kinds_stay (2 ^ 32 - 1) 0 0 c mid core shape slides_after.empty refl refl

  mid_below : LieBelowFree mid.table
  mid_below = below_same c.table mid.table mid_kinds low

  pub sunk_below : LieBelowFree c'.table
  sunk_below = go slides_after.slides
    where
      go : Slides (2 ^ 32 - 1) n w mid c' → LieBelowFree c'.table
      go (inl still) = subst (λ (k : CoreState). LieBelowFree k.table) (sym still.same) mid_below
      go (inr (first, to, idle, lowest, moves)) = slid_below first to n w mid c' slides_after.shaped moves mid_below

  module _ (exact : IsExact c) (kept : AreKept c) where
    mid_kept : AreKept mid
    mid_kept = paused_runs choices.Highest (2 ^ 32 - 1) 0 0 c mid core shape slides_after.shaped slides_after.empty exact kept

    mid_idle : mid.marker.running ≡ false
    mid_idle = (paused.paused_exact choices.Highest (2 ^ 32 - 1) 0 0 c mid core shape slides_after.shaped slides_after.empty exact).idle

    pub sunk_rests : 0 < n → (m : ℕ) → RunsRestBelow m c.table → RunsRestBelow (m + 1) c'.table
    sunk_rests some m rests = go slides_after.slides
      where
        go : Slides (2 ^ 32 - 1) n w mid c' → RunsRestBelow (m + 1) c'.table
        go (inl still) = absurd (let e = still.regions in omega (arith, e, some))
        go (inr (first, to, idle, lowest, moves)) =
            slid_rests mid slides_after.shaped mid_kept first to n w c' lowest moves m (rests_same c.table mid.table mid_kinds m rests)

    pub sunk_compact : n ≡ 0 → IsCompact c'.table
    sunk_compact none = go slides_after.slides
      where
        go : Slides (2 ^ 32 - 1) n w mid c' → IsCompact c'.table
        go (inl still) = subst (λ (k : CoreState). IsCompact k.table) (sym still.same)
            (still_compact mid slides_after.shaped mid_kept mid_below (still.none mid_idle))
        go (inr (first, to, idle, lowest, moves)) =
            absurd (let some = some_run first to n w mid c' slides_after.shaped moves in omega (arith, some, none))

-- ---- moves one after another
-- so many runs moved, one by one
pub record HasSunk {W : Type 0} (sees : W → Event → W → Type 0) (n : ℕ) (c : CoreState) (x : W) (d : CoreState) (y : W) : Type 0 where
  pub collects : CollectsWithin sees n c x d y
  pub quiet : (s : State) → IsQuiet s c → IsQuiet s d
  pub packed : (g : Graph) → LieBelowFree c.table → IsPacked g c → IsPacked g d
  pub below : LieBelowFree c.table → LieBelowFree d.table
  pub rests : (s : State) → IsQuiet s c → LieBelowFree c.table → RunsRestBelow n d.table

module _ {W : Type 0} (sees : W → Event → W → Type 0) (c : CoreState) (x : W) where
  pub none_sunk : HasSunk sees 0 c x c x
  none_sunk = record {
    collects = none sees c x;
    quiet = λ s q. q;
    packed = λ g low p. p;
    below = λ low. low;
    rests = λ s q low j free first. omega arith;
  }

  module _ (n : ℕ) (d : CoreState) (y : W) (h : HasSunk sees n c x d y) where
    pub one_sunk : (e : CoreState) (z : W) → CollectsWithin sees 1 d y e z → ((s : State) → IsQuiet s d → IsQuiet s e)
        → ((g : Graph) → LieBelowFree d.table → IsPacked g d → IsPacked g e) → (LieBelowFree d.table → LieBelowFree e.table)
        → ((s : State) → IsQuiet s d → LieBelowFree d.table → (m : ℕ) → RunsRestBelow m d.table → RunsRestBelow (m + 1) e.table)
        → HasSunk sees (n + 1) c x e z
    one_sunk e z collects quiet packed below rests = record {
      collects = chain sees n 1 (n + 1) c d e x y z (omega arith) h.collects collects;
      quiet = λ s q. quiet s (h.quiet s q);
      packed = λ g low p. packed g (h.below low) (h.packed g low p);
      below = λ low. below (h.below low);
      rests = λ s q low. rests s (h.quiet s q) (h.below low) n (h.rests s q low);
    }

    -- once so many moved as there are regions
    pub all_sunk : IsCore d → IsShaped d.table → d.config.regions ≤ n → (s : State) → IsQuiet s c → LieBelowFree c.table → IsCompact d.table
    all_sunk core shape all s q low =
        compact_rests d.table n shape (h.below low) (let e = core.layers.region_count in omega (arith, e, all)) (h.rests s q low)
