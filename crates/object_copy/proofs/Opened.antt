-- A destination is opened.
use Rattle.std.proofs.Common.{◌≡◌, ◌≢◌, ℕ, ◌+◌, ◌<◌, ◌≤◌, ◌⊎◌, [], Some, length, refl, sym, ap, ◌∙◌, subst, inl, inr, arith, IfSome}
use Rattle.std.proofs.lemmas.List.{get_or-set_other}
use Rattle.regions.specs.Table.{Region, Free, Ordinary, Table, first_free, taken, tile_in, kind_of, region_kind, nth_region}
use Rattle.regions.specs.Table.{used_of, EachForwardedIn, with_region, free_count}
use Rattle.regions.specs.declared.row.Kind.TheVariants as kinds
use Rattle.regions.proofs.Tiles.Placing.{region_taken}
use Rattle.regions.proofs.Words.Sizes.{EachForwardedIn-set}
use Rattle.object_copy.specs.Copies.{Destinations, Opens, OpensLowest, fill_of}
use Rattle.object_copy.proofs.Frees.{fewer_free}

-- what that changes: a free region may be ordinary now
pub record Opened (t t' : Table) (k : ℕ) : Type 0 where
  pub size : t'.words_per_region ≡ t.words_per_region
  pub count : length t'.regions ≡ length t.regions
  pub known : k < length t.regions
  pub ordinary : kind_of t' k ≡ kinds.Ordinary
  pub was_free : (kind_of t k ≡ kinds.Ordinary) ⊎ (kind_of t k ≡ kinds.Free)
  pub kinds_same : (j : ℕ) → j ≢ k → kind_of t' j ≡ kind_of t j
  pub stays : (j : ℕ) → kind_of t j ≡ kinds.Ordinary → kind_of t' j ≡ kinds.Ordinary
  pub tiles : (y : ℕ) → tile_in t' y ≡ tile_in t y
  pub used : (j : ℕ) → used_of t' j ≡ used_of t j
  pub free_same : kind_of t k ≡ kinds.Ordinary → free_count t' ≡ free_count t
  pub free_less : kind_of t k ≡ kinds.Free → free_count t' + 1 ≡ free_count t

same_opened : (t : Table) (k : ℕ) → k < length t.regions → kind_of t k ≡ kinds.Ordinary → Opened t t k
same_opened t k known o = record {
  size = refl;
  count = refl;
  known = known;
  ordinary = o;
  was_free = inl o;
  kinds_same = λ j n. refl;
  stays = λ j e. e;
  tiles = λ y. refl;
  used = λ j. refl;
  free_same = λ e. refl;
  free_less = λ e. absurd (let n : kinds.Ordinary ≡ kinds.Free = sym o ∙ e in cc);
}

kind_other : (t : Table) (k j : ℕ) (r : Region) → j ≢ k → kind_of (with_region t k r) j ≡ kind_of t j
unfolding kind_of nth_region
kind_other t k j r n = ap region_kind (get_or-set_other t.regions k j r Free n)

taken_opened : (t : Table) (k : ℕ) → first_free t ≡ Some k → Opened t (taken t (Some k)) k
taken_opened t k e =
    let w = region_taken t k e in
    record {
      size = w.size;
      count = w.count;
      known = (let c = w.count in let n = w.known in omega arith);
      ordinary = w.ordinary;
      was_free = inr w.was;
      kinds_same = λ j n. kind_other t k j (Ordinary []) n;
      stays = w.kinds_same;
      tiles = w.others;
      used = w.used;
      free_same = λ o. absurd (let n : kinds.Ordinary ≡ kinds.Free = sym o ∙ w.was in cc);
      free_less = λ o. fewer_free t k e;
    }

pub opened : (t t' : Table) (d d' : Destinations) (size k : ℕ) → IfSome d.last (λ j. j < length t.regions)
    → IfSome d.last (λ j. kind_of t j ≡ kinds.Ordinary) → Opens t t' d d' size k → Opened t t' k
opened t t' d d' size k known o w = elim w.how [
  | inl q ↦
      let e : d.last ≡ Some k = ap (λ (u : Destinations). u.last) (sym q.1) ∙ w.last in
      let known' : k < length t.regions = rw e at known in
      let o' : kind_of t k ≡ kinds.Ordinary = rw e at o in
      subst (λ (u : Table). Opened t u k) (sym q.0) (same_opened t k known' o')
  | inr q ↦ subst (λ (u : Table). Opened t u k) (sym q.0.table) (taken_opened t k q.0.lowest)
]

-- what holds of each moved tile still does
pub opened_moved : (P : ℕ → Type 0) (t t' : Table) (d d' : Destinations) (size k : ℕ) → Opens t t' d d' size k
    → EachForwardedIn P t.regions → EachForwardedIn P t'.regions
opened_moved P t t' d d' size k w m = elim w.how [
  | inl q ↦ subst (λ (u : Table). EachForwardedIn P u.regions) (sym q.0) m
  | inr q ↦ subst (λ (u : Table). EachForwardedIn P u.regions) (sym q.0.table) (EachForwardedIn-set P t.regions k (Ordinary []) (tt, tt) m)
]

pub taken_opens : (t t' : Table) (d d' : Destinations) (size k : ℕ) → OpensLowest t t' d d' k → size ≤ t.words_per_region
    → ((f : ℕ) → fill_of t d.last ≡ Some f → t.words_per_region < f + size) → Opens t t' d d' size k
taken_opens t t' d d' size k w small full =
    let r = region_taken t k w.lowest in
    record {
      last = w.last;
      fits =
          subst (λ (u : Table). used_of u k + size ≤ u.words_per_region) (sym w.table) (let e = r.empty in let q = r.size in omega arith);
      how = inr (w, full);
    }
