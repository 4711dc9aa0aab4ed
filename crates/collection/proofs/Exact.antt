-- What keeps live words exact: what counts as live in an ordinary region is kept.
use Rattle.std.proofs.Common.{◌≡◌, ◌-◌, ◌*◌, ◌<◌, ◌≤◌, ◌∙◌, ℕ, suc, zero, Bool, true, false, List, None, length, get_or, inl, inr, sym, ap}
use Rattle.std.proofs.Common.{arith, if◌then◌else◌}
use Rattle.std.proofs.lemmas.Bool.{cases_lt}
use Rattle.std.proofs.lemmas.List.{get_or_past}
use Rattle.regions.specs.Table.{Table, Free, kind_of, top_of, nth_region, region_kind}
use Rattle.regions.specs.Table.{object_at, object_words, stored_size}
use Rattle.regions.specs.Shaped.{IsShaped}
use Rattle.regions.specs.declared.row.Kind.TheVariants as kinds
use Rattle.mark_bitmap.specs.Marks.{is_marked}
use Rattle.mark_bitmap.specs.Tops.{Tops, below_previous}
use Rattle.mark_bitmap.specs.Kept.{kept_in}
use Rattle.mark_bitmap.specs.Live.{live_bound_of, kept_words, marked_words}
use Rattle.mark_bitmap.proofs.LiveWords.{same_bound, used_le}
use Rattle.marker.specs.declared.marker.Marker.{Marker}
use Rattle.step_core.specs.Stands.{CoreState, IsCore, kept_of}
use Rattle.step_core.specs.Cycle.{HasBegun, HasRemarked, HasCleaned, IsDead}
use Rattle.collection.specs.Space.{IsExact}
use Rattle.collection.proofs.Names.{total, total_same, total_kept}

-- what is marked is kept
marked_kept : (t : Table) (tops : Tops) (marks : List Bool) (a : ℕ)
    → (if is_marked marks a then object_words t a else 0) ≤ stored_size (kept_in t tops marks a)
unfolding object_words
marked_kept t tops marks a = go (is_marked marks a) (below_previous t tops a)
  where
    go : (marked below : Bool) → (if marked then stored_size (object_at t a) else 0)
        ≤ stored_size (if below then (if marked then object_at t a else None) else object_at t a)
    go true true = omega arith
    go true false = omega arith
    go false below = omega arith

marked_le_kept : (t : Table) (tops : Tops) (marks : List Bool) (n a : ℕ) → marked_words t marks a n ≤ kept_words t tops marks a n
marked_le_kept t tops marks zero a = omega arith
marked_le_kept t tops marks (suc n) a =
    let h = marked_kept t tops marks a in
    let r = marked_le_kept t tops marks n (suc a) in
    omega (arith, h, r)

kept_more : (t : Table) (tops : Tops) (marks : List Bool) (n m a : ℕ) → n ≤ m → kept_words t tops marks a n ≤ kept_words t tops marks a m
kept_more t tops marks zero m a h = omega arith
kept_more t tops marks (suc n) zero a h = absurd (omega arith)
kept_more t tops marks (suc n) (suc m) a h = let r = kept_more t tops marks n m (suc a) (omega arith) in omega (arith, r)

-- a region that is ordinary is one of the table's
pub ordinary_known : (t : Table) (k : ℕ) → kind_of t k ≡ kinds.Ordinary → k < length t.regions
unfolding kind_of nth_region
ordinary_known t k e = elim (cases_lt k (length t.regions)) [
  | inl h ↦ h
  | inr past ↦ absurd (let p = ap region_kind (get_or_past t.regions k Free past) in let q : kinds.Free ≡ kinds.Ordinary = sym p ∙ e in cc)
]

-- ---- after a quiet marking
-- where a region's top at mark start is its top, what is live is kept
low_exact : (t : Table) (tams : Tops) (marks : List Bool) (k : ℕ) → IsShaped t → get_or tams.previous k 0 ≡ top_of t k
    → live_bound_of t tams.previous marks k ≤ kept_words t tams marks (k * t.words_per_region) t.words_per_region
unfolding live_bound_of
low_exact t tams marks k shape e =
    let u = used_le t k shape in
    let a = marked_le_kept t tams marks (get_or tams.previous k 0 - k * t.words_per_region) (k * t.words_per_region) in
    let b = kept_more t tams marks (get_or tams.previous k 0 - k * t.words_per_region) t.words_per_region (k * t.words_per_region)
    (omega (arith, e, u)) in
    omega (arith, a, b, e)

pub remarked_exact : (n : ℕ) (c d e : CoreState) → HasBegun c d → HasRemarked n d e → IsShaped e.table → IsExact e
remarked_exact n c d e b r shape = record {
  idle = r.over;
  exact = λ k h o.
      let t = ap (λ (x : CoreState). x.table) r.same in
      let z = ap (λ (u : Table). length u.regions) t in
      let s = ap (λ (x : CoreState). x.table) b.same in
      let y = ap (λ (u : Table). length u.regions) s in
      let top = b.tops k (omega (arith, h, z, y)) in
      low_exact e.table e.marker.tams e.marker.bitmaps.previous k shape
      (ap (λ (v : Tops). get_or v.previous k 0) r.tops ∙ top ∙ ap (λ (u : Table). top_of u k) (sym s)
      ∙ ap (λ (u : Table). top_of u k) (sym t));
}

-- ---- after a cleanup
pub kind_by : (t u : Table) (k : ℕ) → nth_region u k ≡ nth_region t k → kind_of u k ≡ kind_of t k
unfolding kind_of
kind_by t u k e = ap region_kind e

pub kind_free : (t : Table) (k : ℕ) → nth_region t k ≡ Free → kind_of t k ≡ kinds.Free
unfolding kind_of
kind_free t k e = ap region_kind e

pub cleaned_exact : (n : ℕ) (c d : CoreState) → IsCore c → IsShaped c.table → HasCleaned n c d → IsExact c → IsExact d
cleaned_exact n c d core shape w exact = record {
  idle = ap (λ (m : Marker). m.running) w.changes.marker ∙ exact.idle;
  exact = λ k h o.
      let live = (λ (dead : IsDead c k). (let f = kind_free d.table k
      (w.dead k dead).free in let q : kinds.Free ≡ kinds.Ordinary = sym f ∙ o in absurd {A = ⊥} cc)) in
      let b = w.others k live in
      let before = sym (kind_by c.table d.table k b.region) ∙ o in
      let z = exact.exact k (ordinary_known c.table k before) before in
      let s = same_bound c.table d.table c.marker.tams.previous d.marker.tams.previous c.marker.bitmaps.previous
      d.marker.bitmaps.previous k shape
      w.changes.size b.region b.previous_top b.previous_marks core.layers.marker.previous in
      let p = total_kept c c.table.words_per_region (k * c.table.words_per_region) in
      let q = total_kept d d.table.words_per_region (k * d.table.words_per_region) in
      let r = total_same (kept_of d) (kept_of c) d.table.words_per_region (k * d.table.words_per_region) (λ x l u. w.changes.kept x) in
      let y = ap (λ (m : ℕ). total (kept_of c) (k * m) m) w.changes.size in
      omega (arith, z, s, p, q, r, y);
}
