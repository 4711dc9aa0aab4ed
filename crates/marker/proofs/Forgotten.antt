-- A region is forgotten or released, and the table changes beneath the marker.
use Rattle.std.proofs.Common.{◌≡◌, ◌≢◌, ◌+◌, ◌*◌, ◌/◌, ◌<◌, ◌≤◌, ◌∙◌, inl, inr, ℕ, Bool, true, false, List, Some, length, get_or, set}
use Rattle.std.proofs.Common.{refl, sym, ap, subst, arith, get_or-set_other, length-set, if◌then◌else◌}
use Rattle.std.proofs.lemmas.Bool.{cases_eq, cases_Bool}
use Rattle.heap_model.specs.Heap.{Stored}
use Rattle.regions.specs.Table.{Table, Region, Free, Ordinary, First, Rest, nth_region, region_kind, kind_of, region_at, tile_in, object_at}
use Rattle.regions.specs.Table.{stored_size, object_words, pointers_at, used_of, top_of, with_region, released_as, released}
use Rattle.regions.specs.declared.row.Kind.TheVariants as kinds
use Rattle.mark_bitmap.specs.Marks.{is_between, is_marked}
use Rattle.mark_bitmap.specs.Tops.{Tops, is_in_region, with_bottom}
use Rattle.mark_bitmap.specs.Kept.{MarksObjects}
use Rattle.mark_bitmap.proofs.ObjectLaws.{reset_objects}
use Rattle.mark_bitmap.proofs.Ranges.{other_region}
use Rattle.mark_bitmap.proofs.LiveWords.{words_none}
use Rattle.marker.specs.Stands.{MarkerStands, CanFollow}
use Rattle.marker.specs.Live.{LiveCounts, CountsWords, with_none}
use Rattle.marker.specs.declared.marker.Marker.{Marker}
use Rattle.marker.proofs.LiveCounts.{counts_same, counts_forgotten}
use Rattle.marker.proofs.Scanned.{grey_is}

was_marked : (inside was now : Bool) → now ≡ (if inside then false else was) → now ≡ true → was ≡ true
was_marked true was now e h = cc
was_marked false was now e h = cc

-- the marks from one address up to another are cleared
abbrev pub Clears : ℕ → ℕ → List Bool → List Bool → Type 0
Clears from to marks marks' = (a : ℕ) → is_marked marks' a ≡ (if is_between from to a then false else is_marked marks a)

-- a region's marks go, and its top falls to its bottom
role_forgotten : (t : Table) (tops : List ℕ) (marks marks' : List Bool) (k from to : ℕ) → 0 < t.words_per_region → MarksObjects t tops marks
    → from ≡ k * t.words_per_region → to ≡ k * t.words_per_region + t.words_per_region
    → length marks' ≡ length marks → Clears from to marks marks' → MarksObjects t (set tops k from) marks'
role_forgotten t tops marks marks' k from to z m low high len cleared =
    let each : (a : ℕ) → is_marked marks' a ≡ (if is_in_region t.words_per_region k a then false else is_marked marks a) =
    rw (low, high) at cleared in
    let was : (a : ℕ) → is_marked marks' a ≡ true → is_marked marks a ≡ true =
    λ a h. was_marked (is_in_region t.words_per_region k a) (is_marked marks a) (is_marked marks' a) (each a) h in
    let fewer : MarksObjects t tops marks' = record {
      each_region = m.each_region;
      each_word = len ∙ m.each_word;
      bottom = m.bottom;
      top = m.top;
      object = λ a h. m.object a (was a h);
      below = λ a h. m.below a (was a h);
    } in
    subst (λ (n : ℕ). MarksObjects t (set tops k n) marks') (sym low)
    (reset_objects t tops marks' k z fewer (λ a i. each a ∙ ap (λ b. if b then false else is_marked marks a) i))

-- the marker with other marks, tops and counts
abbrev pub with_roles : Marker → List Bool → List Bool → Tops → LiveCounts → Marker
with_roles m previous next tops live = record {
  bitmaps = record { previous = previous; next = next };
  tams = tops;
  grey = m.grey;
  logs = m.logs;
  running = m.running;
  scans = m.scans;
  live = live;
  waiting = m.waiting;
}

pub forgotten_stands : (t : Table) (m : Marker) (k from to : ℕ) (previous next : List Bool) (tops : Tops) (live : LiveCounts)
    → 0 < t.words_per_region → MarkerStands t m → m.running ≡ false → k < length t.regions
    → from ≡ k * t.words_per_region → to ≡ k * t.words_per_region + t.words_per_region
    → length previous ≡ length m.bitmaps.previous → Clears from to m.bitmaps.previous previous
    → length next ≡ length m.bitmaps.next → Clears from to m.bitmaps.next next
    → tops ≡ with_bottom m.tams k from → live ≡ with_none m.live k → MarkerStands t (with_roles m previous next tops live)
forgotten_stands t m k from to previous next tops live z st off known low high len cleared len' cleared' lowered none =
    record {
      previous = subst (λ (x : Tops). MarksObjects t x.previous previous) (sym lowered)
          (role_forgotten t m.tams.previous m.bitmaps.previous previous k from to z st.previous low high len cleared);
      next = subst (λ (x : Tops). MarksObjects t x.next next) (sym lowered)
          (role_forgotten t m.tams.next m.bitmaps.next next k from to z st.next low high len' cleared');
      scanned = st.scanned ∙ sym len';
      finger = λ on. absurd (let e = off in cc);
      newer = λ on. absurd (let e = off in cc);
      follows = λ on. absurd (let e = off in cc);
      idle = λ _. st.idle off;
      none_wait = λ _. st.none_wait off;
      scanned_marked = λ on. absurd (let e = off in cc);
      counted = λ on. absurd (let e = off in cc);
      part = λ on. absurd (let e = off in cc);
      live = subst (λ (l : LiveCounts). CountsWords t previous l.previous) (sym none)
          (counts_forgotten t m.bitmaps.previous previous m.live.previous k st.live known z (rw (low, high) at cleared));
      live_next = subst (λ (l : LiveCounts). CountsWords t next l.next) (sym none)
          (counts_forgotten t m.bitmaps.next next m.live.next k st.live_next known z (rw (low, high) at cleared'));
    }

pub role_stays : (t t' : Table) (tops : List ℕ) (marks : List Bool) → MarksObjects t tops marks → length t'.regions ≡ length t.regions
    → t'.words_per_region ≡ t.words_per_region → ((k : ℕ) → k < length t.regions → get_or tops k 0 ≤ top_of t' k)
    → ((a : ℕ) (x : Stored) → is_marked marks a ≡ true → object_at t a ≡ Some x → (y : Stored) × (object_at t' a ≡ Some y))
    → MarksObjects t' tops marks
role_stays t t' tops marks m count size tops_are stays = record {
  each_region = m.each_region ∙ sym count;
  each_word = rw (count, size) m.each_word;
  bottom = λ k h. rw size (m.bottom k (omega (arith, h, count)));
  top = λ k h. tops_are k (omega (arith, h, count));
  object = λ a h. let o = m.object a h in stays a o.0 h o.1;
  below = λ a h. rw size (m.below a h);
}

-- no top falls below one at mark start, and marked objects stay, with as many words and pointers
pub table_stands : (t t' : Table) (m : Marker) → MarkerStands t m → length t'.regions ≡ length t.regions
    → t'.words_per_region ≡ t.words_per_region → ((k : ℕ) → k < length t.regions → get_or m.tams.previous k 0 ≤ top_of t' k)
    → ((k : ℕ) → k < length t.regions → get_or m.tams.next k 0 ≤ top_of t' k)
    → ((a : ℕ) (x : Stored) → is_marked m.bitmaps.previous a ≡ true → object_at t a ≡ Some x → (y : Stored) × (object_at t' a ≡ Some y))
    → ((a : ℕ) (x : Stored) → is_marked m.bitmaps.next a ≡ true → object_at t a ≡ Some x → (y : Stored) × (object_at t' a ≡ Some y))
    → ((a : ℕ) → is_marked m.bitmaps.previous a ≡ true → object_words t' a ≡ object_words t a)
    → ((a : ℕ) → is_marked m.bitmaps.next a ≡ true → object_words t' a ≡ object_words t a)
    → (m.running ≡ true → (a : ℕ) → is_marked m.bitmaps.next a ≡ true → length (pointers_at t' a) ≡ length (pointers_at t a))
    → (m.running ≡ true → CanFollow t' m) → MarkerStands t' m
table_stands t t' m st count size low high stays stays' words words' pointers follows = record {
  previous = role_stays t t' m.tams.previous m.bitmaps.previous st.previous count size low stays;
  next = role_stays t t' m.tams.next m.bitmaps.next st.next count size high stays';
  scanned = st.scanned;
  finger = st.finger;
  newer = st.newer;
  follows = follows;
  idle = st.idle;
  none_wait = st.none_wait;
  scanned_marked = st.scanned_marked;
  counted = st.counted;
  part = λ run a held.
      let marked = (grey_is m.bitmaps.next m.grey a ((st.finger run).held a held)).0 in
      omega (arith, st.part run a held, pointers run a marked);
  live = counts_same t t' m.bitmaps.previous m.bitmaps.previous m.live.previous st.live count size (λ a. refl) words;
  live_next = counts_same t t' m.bitmaps.next m.bitmaps.next m.live.next st.live_next count size (λ a. refl) words';
}

released_is : (t : Table) (k : ℕ) → kind_of t k ≡ kinds.Ordinary → released t k ≡ with_region t k Free
unfolding released kind_of
released_is t k ordinary = go (nth_region t k) refl ordinary
  where
    go : (r : Region) → nth_region t k ≡ r → region_kind r ≡ kinds.Ordinary → released_as (nth_region t k) t k ≡ with_region t k Free
    go Free e f = cc
    go (Ordinary ts) e f = rw e refl
    go (First s) e f = cc
    go (Rest n) e f = cc

-- another region keeps its objects and its top
same_object : (t : Table) (k a : ℕ) → a / t.words_per_region ≢ k → object_at (with_region t k Free) a ≡ object_at t a
unfolding object_at tile_in region_at
same_object t k a apart = rw (get_or-set_other t.regions k (a / t.words_per_region) Free Free apart) refl

same_top : (t : Table) (k j : ℕ) → j ≢ k → top_of (with_region t k Free) j ≡ top_of t j
unfolding used_of nth_region
same_top t k j apart = rw (get_or-set_other t.regions k j Free Free apart) refl

low_tops : (t : Table) (tops : List ℕ) (marks : List Bool) (k : ℕ) → MarksObjects t tops marks → get_or tops k 0 ≡ k * t.words_per_region
    → (j : ℕ) → j < length t.regions → get_or tops j 0 ≤ top_of (with_region t k Free) j
low_tops t tops marks k m low j h = elim (cases_eq j k) [
  | inl e ↦ rw e (omega (arith, low))
  | inr e ↦ omega (arith, same_top t k j e, m.top j h)
]

stays_marked : (t : Table) (marks : List Bool) (k : ℕ) → 0 < t.words_per_region
    → ((a : ℕ) → is_in_region t.words_per_region k a ≡ true → is_marked marks a ≡ false)
    → (a : ℕ) (x : Stored) → is_marked marks a ≡ true → object_at t a ≡ Some x
    → (y : Stored) × (object_at (with_region t k Free) a ≡ Some y)
stays_marked t marks k z none a x marked o = elim (cases_Bool (is_in_region t.words_per_region k a)) [
  | inl inside ↦ absurd (let e = none a inside in let f = marked in cc)
  | inr outside ↦ (x, same_object t k a (other_region t.words_per_region k a z outside) ∙ o)
]

words_marked : (t : Table) (marks : List Bool) (k : ℕ) → 0 < t.words_per_region
    → ((a : ℕ) → is_in_region t.words_per_region k a ≡ true → is_marked marks a ≡ false)
    → (a : ℕ) → is_marked marks a ≡ true → object_words (with_region t k Free) a ≡ object_words t a
unfolding object_words
words_marked t marks k z none a marked = elim (cases_Bool (is_in_region t.words_per_region k a)) [
  | inl inside ↦ absurd (let e = none a inside in let f = marked in cc)
  | inr outside ↦ ap stored_size (same_object t k a (other_region t.words_per_region k a z outside))
]

pub released_stands : (t : Table) (m : Marker) (k : ℕ) → 0 < t.words_per_region → MarkerStands t m
    → m.running ≡ false → kind_of t k ≡ kinds.Ordinary
    → ((a : ℕ) → is_in_region t.words_per_region k a ≡ true → is_marked m.bitmaps.previous a ≡ false)
    → ((a : ℕ) → is_in_region t.words_per_region k a ≡ true → is_marked m.bitmaps.next a ≡ false)
    → get_or m.tams.previous k 0 ≡ k * t.words_per_region → get_or m.tams.next k 0 ≡ k * t.words_per_region → MarkerStands (released t k) m
released_stands t m k z st off ordinary none none' low low' =
    subst (λ (u : Table). MarkerStands u m) (sym (released_is t k ordinary))
    (table_stands t (with_region t k Free) m st (length-set t.regions k Free) refl
    (low_tops t m.tams.previous m.bitmaps.previous k st.previous low) (low_tops t m.tams.next m.bitmaps.next k st.next low')
    (stays_marked t m.bitmaps.previous k z none) (stays_marked t m.bitmaps.next k z none') (words_marked t m.bitmaps.previous k z none)
    (words_marked t m.bitmaps.next k z none') (λ on. absurd (let e = off in cc)) (λ on. absurd (let e = off in cc)))

-- where no word of a region is counted none of its addresses is marked
pub none_counted : (t : Table) (tops : List ℕ) (marks : List Bool) (counts : List ℕ) (k from to : ℕ) → MarksObjects t tops marks
    → CountsWords t marks counts → k < length t.regions → from ≡ k * t.words_per_region
    → to ≡ k * t.words_per_region + t.words_per_region → get_or counts k 0 ≡ 0
    → (a : ℕ) → from ≤ a → a < to → is_marked marks a ≡ false
none_counted t tops marks counts k from to m c known low high none a l h =
    words_none t tops marks t.words_per_region (k * t.words_per_region) a m (sym (c.each k known) ∙ none) (omega (arith, l, low))
    (omega (arith, h, high))
