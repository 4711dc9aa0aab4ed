-- What is dead is released, one region or run after another.
use Rattle.std.proofs.Common.{◌≡◌, ◌≢◌, ◌+◌, ◌-◌, ◌*◌, ◌/◌, ◌<◌, ◌≤◌, ◌∷◌, ◌∙◌, ℕ, zero, suc, Bool, true, false, not, List, [], Option}
use Rattle.std.proofs.Common.{Some, None, length, refl, sym, ap, subst, arith, inl, inr, ◌↔◌, IsTrue, slice_get}
use Rattle.std.proofs.lemmas.Bool.{cases_lt, cases_eq}
use Rattle.std.proofs.lemmas.List.{get_or_past}
use Rattle.heap_model.specs.Heap.{Stored}
use Rattle.regions.specs.Table.{Table, Free, First, nth_region, region_kind, kind_of, object_at, run_length}
use Rattle.regions.specs.Shaped.{IsShaped}
use Rattle.regions.specs.declared.row.Kind.TheVariants as kinds
use Rattle.regions.proofs.Tiles.ShapedMade.{first_object}
use Rattle.regions.proofs.LongRuns.Blocks.{kind_is, later_rest, next_head, block_within, first_number, rest_number}
use Rattle.regions.proofs.LongRuns.Blocks.{first_not_rest, reaches, alone, block_cases, product_le}
use Rattle.mark_bitmap.specs.Marks.{is_marked}
use Rattle.mark_bitmap.specs.Tops.{is_below, is_in_region}
use Rattle.marker.specs.declared.marker.Marker.{Marker}
use Rattle.remembered_sets.specs.Sets.{emptied}
use Rattle.region_choice.specs.Ages.{Ages}
use Rattle.step_core.specs.Stands.{CoreState, kept_of}
use Rattle.step_core.specs.Reclaimed.{IsReclaimed}
use Rattle.step_core.specs.Cycle.{IsDeadRegion, IsDead, IsAsNew, IsAsBefore, ChangesRegions, HasCleaned}
use Rattle.step_core.specs.Cleaning.{IsDeadHead, HasReleased}
use Rattle.step_core.proofs.Cycles.Releasing.{keeps, kept_by_parts}

-- whether a humongous object is kept
pub run_new : (c : CoreState) (q : ℕ) → 0 < c.table.words_per_region → kind_of c.table q ≡ kinds.First
    → is_below c.table.words_per_region c.marker.tams.previous (q * c.table.words_per_region) ≡ false
    → kept_of c (q * c.table.words_per_region) ≡ None → ⊥
run_new c q z first above none =
    let r = first_number c.table q first in
    let a : ℕ = q * c.table.words_per_region in
    let is : kept_of c a ≡ Some r.0 = kept_by_parts c a
    ∙ ap (λ (b : Bool). keeps b (is_marked c.marker.bitmaps.previous a) (object_at c.table a)) above ∙ first_object c.table q r.0 z r.1 in
    cc

run_marked : (c : CoreState) (q : ℕ) → 0 < c.table.words_per_region → kind_of c.table q ≡ kinds.First
    → is_marked c.marker.bitmaps.previous (q * c.table.words_per_region) ≡ true
    → kept_of c (q * c.table.words_per_region) ≡ None → ⊥
run_marked c q z first marked none =
    let r = first_number c.table q first in
    let a : ℕ = q * c.table.words_per_region in
    let is : kept_of c a ≡ Some r.0 =
    kept_by_parts c a ∙ ap (λ (b : Bool). keeps (is_below c.table.words_per_region c.marker.tams.previous a) b (object_at c.table a)) marked
    ∙ keeps_marked (is_below c.table.words_per_region c.marker.tams.previous a) (object_at c.table a) ∙ first_object c.table q r.0 z r.1 in
    cc
  where
    keeps_marked : (below : Bool) (x : Option Stored) → keeps below true x ≡ x
    keeps_marked true x = refl
    keeps_marked false x = refl

run_dead : (c : CoreState) (a : ℕ) → is_below c.table.words_per_region c.marker.tams.previous a ≡ true
    → is_marked c.marker.bitmaps.previous a ≡ false → kept_of c a ≡ None
run_dead c a below unmarked = kept_by_parts c a
    ∙ ap (λ (b : Bool). keeps b (is_marked c.marker.bitmaps.previous a) (object_at c.table a)) below
    ∙ ap (λ (b : Bool). keeps true b (object_at c.table a)) unmarked

-- its mark tells, where it lies below its region's top at mark start
pub run_tells : (c : CoreState) (q : ℕ) (marked : Bool) → 0 < c.table.words_per_region → kind_of c.table q ≡ kinds.First
    → is_below c.table.words_per_region c.marker.tams.previous (q * c.table.words_per_region) ≡ true
    → is_marked c.marker.bitmaps.previous (q * c.table.words_per_region) ≡ marked
    → IsTrue (not marked) ↔ (kept_of c (q * c.table.words_per_region) ≡ None)
run_tells c q true z first below is = (λ h. absurd (let no : false ≡ true = h in cc), λ none. absurd (run_marked c q z first is none))
run_tells c q false z first below is = (λ h. run_dead c (q * c.table.words_per_region) below is, λ none. refl)

-- all regions that belong to a dead one are dead
head_dead : (c : CoreState) (i k : ℕ) → IsShaped c.table → IsDeadHead c i → i ≤ k → k < i + run_length c.table i → IsDead c k
head_dead c i k shaped (inl d) low high =
    let o = d.ordinary in
    let one = alone c.table i shaped (λ e. cc) (λ e. cc) in
    let same : k ≡ i = omega arith in
    inl (subst (λ (j : ℕ). IsDeadRegion c j) (sym same) d)
head_dead c i k shaped (inr d) low high =
    let r = first_number c.table i d.0 in
    inr (record {
      first = i;
      object = r.0;
      begins = r.1;
      low = low;
      reaches = reaches c.table i (k - i) r.0 shaped r.1 (omega arith);
      dead = d.1;
    })

-- and no others
dead_head : (c : CoreState) (i k : ℕ) → IsShaped c.table → kind_of c.table i ≢ kinds.Rest → i ≤ k
    → k < i + run_length c.table i → IsDead c k → IsDeadHead c i
dead_head c i k shaped head low high (inl d) = elim (cases_eq k i) [
  | inl same ↦ inl (subst (λ (j : ℕ). IsDeadRegion c j) same d)
  | inr ne ↦ absurd (let o = d.ordinary in let rest = later_rest c.table i (k - i) k (omega arith) (omega arith) (omega arith) in cc)
]
dead_head c i k shaped head low high (inr d) = elim (cases_eq d.first i) [
  | inl same ↦ inr (
    ap (kind_of c.table) (sym same) ∙ kind_is c.table d.first (First d.object) d.begins,
    ap (λ (j : ℕ). kept_of c (j * c.table.words_per_region)) (sym same) ∙ d.dead,
  )
  | inr ne ↦ absurd (elim (cases_lt d.first i) [
    | inl below ↦
        let at : d.first + (i - d.first) ≡ i = omega arith in
        let less = product_le (i - d.first) (k - d.first) c.table.words_per_region (omega arith) in
        let far = d.reaches in
        head (ap (kind_of c.table) (sym at) ∙ shaped.run d.first (i - d.first) d.object d.begins (omega arith) (omega arith))
    | inr above ↦ (let low = d.low in
        first_not_rest c.table d.first d.object d.begins
        (later_rest c.table i (d.first - i) d.first (omega arith) (omega arith) (omega arith)))
  ])
]

-- changes one after another
changes_twice : (c0 c c' : CoreState) → ChangesRegions c0 c → ChangesRegions c c' → ChangesRegions c0 c'
changes_twice c0 c c' p r = record {
  same = r.same ∙ ap (λ (d : CoreState). record d { table = c'.table; marker = c'.marker; sets = c'.sets; ages = c'.ages }) p.same;
  ages = r.ages ∙ ap (λ (x : Ages). record x { stamps = c'.ages.stamps }) p.ages;
  marker = r.marker ∙ ap (λ (x : Marker). record x { tams = c'.marker.tams; bitmaps = c'.marker.bitmaps; live = c'.marker.live }) p.marker;
  size = r.size ∙ p.size;
  kept = λ a. r.kept a ∙ p.kept a;
}

before_twice : (c0 c c' : CoreState) (k : ℕ) → c.table.words_per_region ≡ c0.table.words_per_region → IsAsBefore c0 c k
    → IsAsBefore c c' k → IsAsBefore c0 c' k
before_twice c0 c c' k size p r = record {
  region = r.region ∙ p.region;
  set = r.set ∙ p.set;
  cards = r.cards ∙ p.cards;
  entered = λ card own. r.entered card (ap (λ (n : ℕ). card / n) p.cards ∙ own) ∙ p.entered card own;
  previous_top = r.previous_top ∙ p.previous_top;
  next_top = r.next_top ∙ p.next_top;
  previous_marks = λ a i. r.previous_marks a (subst (λ (w : ℕ). is_in_region w k a ≡ true) (sym size) i) ∙ p.previous_marks a i;
  next_marks = λ a i. r.next_marks a (subst (λ (w : ℕ). is_in_region w k a ≡ true) (sym size) i) ∙ p.next_marks a i;
  age = r.age ∙ p.age;
}

new_still : (c c' : CoreState) (k : ℕ) → c'.table.words_per_region ≡ c.table.words_per_region → IsAsNew c k → IsAsBefore c c' k
    → IsAsNew c' k
new_still c c' k size p r = record {
  free = r.region ∙ p.free;
  set = r.set ∙ p.set ∙ ap emptied (sym r.set);
  entered = λ card own. let own' = ap (λ (n : ℕ). card / n) (sym r.cards) ∙ own in r.entered card own' ∙ p.entered card own';
  previous_top = r.previous_top ∙ p.previous_top ∙ ap (λ (w : ℕ). k * w) (sym size);
  next_top = r.next_top ∙ p.next_top ∙ ap (λ (w : ℕ). k * w) (sym size);
  previous_marks = λ a i. let inside = subst (λ (w : ℕ). is_in_region w k a ≡ true) size i in
      r.previous_marks a inside ∙ p.previous_marks a inside;
  next_marks = λ a i. let inside = subst (λ (w : ℕ). is_in_region w k a ≡ true) size i in r.next_marks a inside ∙ p.next_marks a inside;
  age = r.age ∙ p.age;
}

before_self : (c : CoreState) (k : ℕ) → IsAsBefore c c k
before_self c k = record {
  region = refl;
  set = refl;
  cards = refl;
  entered = λ card own. refl;
  previous_top = refl;
  next_top = refl;
  previous_marks = λ a i. refl;
  next_marks = λ a i. refl;
  age = refl;
}

-- the dead ones among the first i regions
pub record DeadBelow (i n : ℕ) (c : CoreState) : Type 0 where
  pub regions : List ℕ
  pub distinct : (p q k : ℕ) → slice_get regions p ≡ Some k → slice_get regions q ≡ Some k → p ≡ q
  pub only : (p k : ℕ) → slice_get regions p ≡ Some k → (k < i) × IsDead c k
  pub each : (k : ℕ) → k < i → IsDead c k → (p : ℕ) × (slice_get regions p ≡ Some k)
  pub count : n ≡ length regions

none_below : (c : CoreState) → DeadBelow 0 0 c
none_below c = record {
  regions = [];
  distinct = λ p q k e f. absurd (nothing p k e);
  only = λ p k e. absurd (nothing p k e);
  each = λ k lt d. absurd (omega (arith, lt));
  count = refl;
}
  where
    nothing : (p k : ℕ) → slice_get [] p ≡ Some k → ⊥
    nothing p k e = let none : None ≡ Some k = e in cc

below_left : (i n m : ℕ) (c : CoreState) → DeadBelow i n c → ((k : ℕ) → i ≤ k → k < i + m → IsDead c k → ⊥) → DeadBelow (i + m) n c
below_left i n m c d alive = record {
  regions = d.regions;
  distinct = d.distinct;
  only = λ p k e. let o = d.only p k e in (omega (arith, o.0), o.1);
  each = λ k lt dead. elim (cases_lt k i) [ inl less ↦ d.each k less dead | inr le ↦ absurd (alive k le lt dead) ];
  count = d.count;
}

below_one : (i n : ℕ) (c : CoreState) → DeadBelow i n c → IsDead c i → DeadBelow (i + 1) (n + 1) c
below_one i n c d dead = record {
  regions = i ∷ d.regions;
  distinct = apart;
  only = those;
  each = λ k lt dk. elim (cases_eq k i) [
    | inl q ↦ (0, ap Some (sym q))
    | inr ne ↦ let old = d.each k (omega (arith, lt, ne)) dk in (suc old.0, old.1)
  ];
  count = omega (arith, d.count);
}
  where
    not_again : (p : ℕ) → slice_get d.regions p ≡ Some i → ⊥
    not_again p e = let o = d.only p i e in omega (arith, o.0)

    apart : (p q k : ℕ) → slice_get (i ∷ d.regions) p ≡ Some k → slice_get (i ∷ d.regions) q ≡ Some k → p ≡ q
    apart zero zero k e f = refl
    apart zero (suc q) k e f =
        absurd (let is : Some i ≡ Some k = e in let there : slice_get d.regions q ≡ Some k = f in not_again q (there ∙ sym is))
    apart (suc p) zero k e f =
        absurd (let is : Some i ≡ Some k = f in let there : slice_get d.regions p ≡ Some k = e in not_again p (there ∙ sym is))
    apart (suc p) (suc q) k e f = ap suc (d.distinct p q k e f)

    those : (p k : ℕ) → slice_get (i ∷ d.regions) p ≡ Some k → (k < i + 1) × IsDead c k
    those zero k e = let is : i ≡ k = (let same : Some i ≡ Some k = e in cc) in (omega (arith, is), subst (λ (j : ℕ). IsDead c j) is dead)
    those (suc p) k e = let o = d.only p k e in (omega (arith, o.0), o.1)

below_dead : (i n m : ℕ) (c : CoreState) → DeadBelow i n c → ((k : ℕ) → i ≤ k → k < i + m → IsDead c k) → DeadBelow (i + m) (n + m) c
below_dead i n zero c d dead = subst (λ (j : ℕ). DeadBelow j (n + 0) c) (omega arith) (subst (λ (j : ℕ). DeadBelow i j c) (omega arith) d)
below_dead i n (suc m) c d dead =
    let more : DeadBelow (i + 1 + m) (n + 1 + m) c = below_dead (i + 1) (n + 1) m c (below_one i n c d (dead i (omega arith) (omega arith)))
    (λ k low high. dead k (omega arith) (omega arith)) in
    subst (λ (j : ℕ). DeadBelow j (n + suc m) c) (omega arith) (subst (λ (j : ℕ). DeadBelow (i + 1 + m) j c) (omega arith) more)

-- so many of the first i regions were dead, and are as new; the others are as they were. No run reaches over region i
pub record Cleans (i n : ℕ) (c0 c : CoreState) : Type 0 where
  pub changes : ChangesRegions c0 c
  pub idle : c.marker.running ≡ false
  pub size : length c.table.regions ≡ length c0.table.regions
  pub each_set : length c.sets.sets ≡ length c0.sets.sets
  pub done : (k : ℕ) → k < i → IsReclaimed c0.table c.table k ↔ IsDead c0 k
  pub dead : (k : ℕ) → k < i → IsDead c0 k → IsAsNew c k
  pub others : (k : ℕ) → (k < i → IsDead c0 k → ⊥) → IsAsBefore c0 c k
  pub rest_dead : (k : ℕ) → i ≤ k → IsDead c k ↔ IsDead c0 k
  pub head : kind_of c.table i ≢ kinds.Rest
  pub within : i ≤ length c.table.regions
  pub counted : DeadBelow i n c0
  pub few : n ≤ i

pub none_cleaned : (c : CoreState) → IsShaped c.table → c.marker.running ≡ false → Cleans 0 0 c c
none_cleaned c shaped idle = record {
  changes = record { same = refl; marker = refl; ages = refl; size = refl; kept = λ a. refl };
  idle = idle;
  size = refl;
  each_set = refl;
  done = λ k lt. absurd (omega arith);
  dead = λ k lt d. absurd (omega arith);
  others = λ k alive. before_self c k;
  rest_dead = λ k le. (λ d. d, λ d. d);
  head = λ e. first_head e;
  within = omega arith;
  counted = none_below c;
  few = omega arith;
}
  where
    -- the first region is behind no other
    first_head : kind_of c.table 0 ≡ kinds.Rest → ⊥
    first_head e =
        let r = rest_number c.table 0 e in
        let l = shaped.later 0 r.0 r.1 in
        let number = l.number in
        let behind = l.behind in absurd (omega arith)

kind_by : (t t' : Table) (k : ℕ) → nth_region t' k ≡ nth_region t k → kind_of t' k ≡ kind_of t k
unfolding kind_of
kind_by t t' k e = ap region_kind e

not_reclaimed : (t t' : Table) (k : ℕ) → nth_region t' k ≡ nth_region t k → IsReclaimed t t' k → ⊥
not_reclaimed t t' k e r = r.used (sym (kind_by t t' k e) ∙ r.free)

free_after : (t t' : Table) (k : ℕ) → nth_region t' k ≡ Free → kind_of t' k ≡ kinds.Free
unfolding kind_of
free_after t t' k e = ap region_kind e

-- a region that isn't come to yet
rest_of : (i n k : ℕ) (c0 c : CoreState) → Cleans i n c0 c → i ≤ k → nth_region c.table k ≡ nth_region c0.table k
rest_of i n k c0 c p le = (p.others k (λ lt d. absurd (omega (arith, lt, le)))).region

pub one_left : (i n m : ℕ) (c0 c : CoreState) → IsShaped c.table → Cleans i n c0 c → i < length c.table.regions → m ≡ run_length c.table i
    → (IsDeadHead c i → ⊥) → Cleans (i + m) n c0 c
one_left i n m c0 c shaped p known together alive = record {
  changes = p.changes;
  idle = p.idle;
  size = p.size;
  each_set = p.each_set;
  done = λ k lt. elim (cases_lt k i) [
    | inl less ↦ p.done k less
    | inr last ↦ (
      λ r. absurd (not_reclaimed c0.table c.table k (rest_of i n k c0 c p last) r),
      λ d. absurd (not_dead k last (omega arith) d),
    )
  ];
  dead = λ k lt d. elim (cases_lt k i) [ inl less ↦ p.dead k less d | inr last ↦ absurd (not_dead k last (omega arith) d) ];
  others = λ k alive'. p.others k (λ lt d. alive' (omega (arith, lt)) d);
  rest_dead = λ k le. p.rest_dead k (omega arith);
  head = next_head c.table i (i + m) (omega arith);
  within = (let fits = block_within c.table i known in omega arith);
  counted = below_left i n m c0 p.counted (λ k low high d. not_dead k low (omega arith) d);
  few = (let few = p.few in omega arith);
}
  where
    not_dead : (k : ℕ) → i ≤ k → k < i + run_length c.table i → IsDead c0 k → ⊥
    not_dead k low high d = alive (dead_head c i k shaped p.head low high ((p.rest_dead k low).1 d))

used_now : (c : CoreState) (i k : ℕ) → IsDeadHead c i → i ≤ k → k < i + run_length c.table i → kind_of c.table k ≡ kinds.Free → ⊥
used_now c i k dead low high free = elim (cases_eq k i) [
  | inl same ↦ (let here = ap (kind_of c.table) same in elim dead [ inl d ↦ (let o = d.ordinary in cc) | inr d ↦ (let o = d.0 in cc) ])
  | inr ne ↦ (let rest = later_rest c.table i (k - i) k (omega arith) (omega arith) (omega arith) in cc)
]

pub one_cleaned : (i n m : ℕ) (c0 c c' : CoreState) → IsShaped c.table → Cleans i n c0 c → m ≡ run_length c.table i → IsDeadHead c i
    → HasReleased i m c c' → Cleans (i + m) (n + m) c0 c'
one_cleaned i n m c0 c c' shaped p together dead r = record {
  changes = changes_twice c0 c c' p.changes r.changes;
  idle = ap (λ (x : Marker). x.running) r.changes.marker ∙ p.idle;
  size = r.count ∙ p.size;
  each_set = r.each_set ∙ p.each_set;
  done = λ k lt. elim (cases_lt k i) [
    | inl less ↦
        let same = kind_by c.table c'.table k (r.others k (inl less)).region in
        let old = p.done k less in (
          λ q. old.0 (record { used = q.used; free = sym same ∙ q.free }),
          λ d. let q = old.1 d in record { used = q.used; free = same ∙ q.free },
        )
    | inr last ↦ (
      λ q. was_dead k last (omega arith),
      λ d. record {
        used = λ free. used_now c i k dead last (omega arith) (kind_by c0.table c.table k (rest_of i n k c0 c p last) ∙ free);
        free = free_after c.table c'.table k (r.released k last lt).free;
      },
    )
  ];
  dead = λ k lt d. elim (cases_lt k i) [
    | inl less ↦ new_still c c' k r.changes.size (p.dead k less d) (r.others k (inl less))
    | inr last ↦ r.released k last lt
  ];
  others = λ k alive. elim (block_cases i m k) [
    | inl out ↦ before_twice c0 c c' k p.changes.size (p.others k (λ lt d. alive (omega (arith, lt)) d)) (r.others k out)
    | inr q ↦ absurd (alive q.1 (was_dead k q.0 (omega (arith, q.1, together))))
  ];
  rest_dead = λ k le.
      let step = r.dead k (inr le) in
      let old = p.rest_dead k (omega arith) in
      (λ d. old.0 (step.0 d), λ d. step.1 (old.1 d));
  head = λ e.
      next_head c.table i (i + m) (omega arith) (sym (kind_by c.table c'.table (i + m) (r.others (i + m) (inr (omega arith))).region) ∙ e);
  within = (let fits = r.within in let same = r.count in omega arith);
  counted = below_dead i n m c0 p.counted (λ k low high. was_dead k low (omega arith));
  few = (let few = p.few in omega arith);
}
  where
    was_dead : (k : ℕ) → i ≤ k → k < i + run_length c.table i → IsDead c0 k
    was_dead k low high = (p.rest_dead k low).0 (head_dead c i k shaped dead low high)

past_end : (t : Table) (k : ℕ) → length t.regions ≤ k → nth_region t k ≡ Free
unfolding nth_region
past_end t k le = get_or_past t.regions k Free le

pub all_cleaned : (i n : ℕ) (c0 c : CoreState) → IsShaped c0.table → Cleans i n c0 c → length c0.table.regions ≤ i → HasCleaned n c0 c
all_cleaned i n c0 c shaped p le = record {
  changes = p.changes;
  count = record {
    regions = p.counted.regions;
    distinct = p.counted.distinct;
    only = λ j k e. (p.counted.only j k e).1;
    each = λ k d. p.counted.each k (within k d) d;
    count = p.counted.count;
  };
  reclaimed = λ k. elim (cases_lt k i) [
    | inl less ↦ p.done k less
    | inr past ↦ (
      λ q. absurd (q.used (kind_is c0.table k Free (past_end c0.table k (omega arith)))),
      λ d. absurd (none_past k (omega arith) d),
    )
  ];
  dead = λ k d. p.dead k (within k d) d;
  others = λ k alive. p.others k (λ lt d. alive d);
}
  where
    none_past : (k : ℕ) → length c0.table.regions ≤ k → IsDead c0 k → ⊥
    none_past k past (inl d) =
        let free = kind_is c0.table k Free (past_end c0.table k past) in let o = d.ordinary in cc
    none_past k past (inr d) =
        elim (cases_eq d.first k) [
          | inl same ↦ (let free = past_end c0.table k past in
              let begins = d.begins in let here = ap (nth_region c0.table) same in cc)
          | inr ne ↦
              let low = d.low in
              let at : d.first + (k - d.first) ≡ k = omega arith in
              let rest = ap (kind_of c0.table) (sym at) ∙ shaped.run d.first (k - d.first) d.object d.begins (omega arith) d.reaches in
              let free = kind_is c0.table k Free (past_end c0.table k past) in cc
        ]

    within : (k : ℕ) → IsDead c0 k → k < i
    within k d = elim (cases_lt k i) [ inl lt ↦ lt | inr past ↦ absurd (none_past k (omega arith) d) ]
