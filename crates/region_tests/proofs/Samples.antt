-- Tables that tests build: each pointer leads into a region.
use Rattle.regions.proofs.Common.{◌≡◌, ◌+◌, ◌-◌, ◌*◌, ◌/◌, ◌%◌, ◌<◌, ◌≤◌, ◌∷◌, ◌∙◌, inl, inr, ℕ, zero, suc, Bool, List, Option, Some, None}
use Rattle.regions.proofs.Common.{length, set, refl, sym, ap, subst, arith, slice_get, IsSome, IfSome, cases_eq, length-replicate, Stored}
use Rattle.regions.proofs.Common.{fields, with_field, Tile, Object, Filler, Region, Free, First, Table, nth_region, first_run, is_free}
use Rattle.regions.proofs.Common.{with_run, region_tile, region_at, tile_in, tile_object, object_at, free_table, taken, first_free}
use Rattle.regions.proofs.Common.{set_field, push_tile, replace_tile, new_object, remainder, used_of, top_of, kind_of, fields_at, IsShaped}
use Rattle.regions.proofs.Common.{tile_shape, Forwarded}
use Rattle.std.proofs.lemmas.Nat.{div_below}
use Rattle.heap_model.proofs.Fields.{field_set}
use Rattle.regions.proofs.Tiles.Changes.{field_put, object_same}
use Rattle.regions.proofs.Tiles.Placing.{region_taken}
use Rattle.regions.proofs.LongRuns.RunLaws.{TakesRun, run_made, tile_of_region, frees}
use Rattle.mark_bitmap.specs.Tops.{Tops}
use Rattle.remembered_sets.specs.Sets.{Sets}
use Rattle.refinement.specs.Refining.{CanScan}
use Rattle.region_tests.specs.Samples.{IsSample}
use Rattle.regions.proofs.Words.Divides.{div_is}
use Rattle.refinement.proofs.Holders.{field_at, kept_object}
use Rattle.refinement.proofs.Remembered.{set_here, set_there}
use Rattle.regions.proofs.Tiles.Made.{nil_fields, object_made}
use Rattle.regions.specs.declared.row.Kind.TheVariants as kinds
use Rattle.regions.specs.declared.row.Shape.{Shape}
use Rattle.regions.specs.declared.row.Shape.TheVariants as shapes

pub free_sample : (t : Table) → t ≡ free_table 4 16 → IsSample t
unfolding object_at tile_in region_at free_table
free_sample t e = record {
  count = ap (λ (u : Table). length u.regions) e ∙ length-replicate 4 Free;
  words = ap (λ (u : Table). u.words_per_region) e;
  inside = λ a i b x o f.
      let none : object_at t a ≡ None =
      ap (λ (u : Table). object_at u a) e ∙ ap (λ (r : Region). tile_object (region_tile r (a % 16))) (frees 4 (a / 16)) in
      absurd (cc);
}

same_objects : (t t' : Table) → length t'.regions ≡ length t.regions → t'.words_per_region ≡ t.words_per_region
    → ((a : ℕ) → object_at t' a ≡ object_at t a) → IsSample t → IsSample t'
same_objects t t' count size same s = record {
  count = count ∙ s.count;
  words = size ∙ s.words;
  inside = λ a i b x o f. let h = s.inside a i b x (sym (same a) ∙ o) f in rw (count, size) h;
}

pub take_sample : (t t' : Table) (o : Option ℕ) → first_free t ≡ o → t' ≡ taken t o → IsSample t → IsSample t'
take_sample t t' None f e s = subst IsSample (sym e) s
take_sample t t' (Some k) f e s =
    let p = region_taken t k f in
    subst IsSample (sym e) (same_objects t (taken t (Some k)) p.count p.size (λ a. object_same t (taken t (Some k)) a (p.others a)) s)

-- a field is set to an address of the heap
pub link_sample : (t t' : Table) (a i b : ℕ) → 0 < t.words_per_region → i < length (fields_at t a) → b < 64
    → t' ≡ set_field t a i (Some b) → IsSample t → IsSample t'
link_sample t t' a i b z known small e s =
    let f = field_at t a i known in
    let u : Table = set_field t a i (Some b) in
    let w = field_put t a i (Some b) f.object z f.is in
    let near : b / t.words_per_region < length t.regions = rw (s.count, s.words) (div_below b 16 4 (omega arith) small) in
    subst IsSample (sym e) (record {
      count = w.count ∙ s.count;
      words = w.size ∙ s.words;
      inside = λ c j v x o g. rw (w.count, w.size) (elim (cases_eq c a) [
        | inl same ↦
            let is = w.is in
            let o' : object_at u a ≡ Some x = ap (object_at u) (sym same) ∙ o in
            let x_is : x ≡ with_field f.object i (Some b) = cc in
            let set_is : fields (with_field f.object i (Some b)) ≡ set (fields f.object) i (Some b) =
            (field_set f.object i (Some b)).fields_are in
            let now : slice_get (set (fields f.object) i (Some b)) j ≡ Some (Some v) =
            ap (λ l. slice_get l j) (sym set_is) ∙ ap (λ (q : Stored). slice_get (fields q) j) (sym x_is) ∙ g in
            elim (cases_eq j i) [
              | inl at ↦
                  let v_is : Some v ≡ Some b = set_here (fields f.object) i (Some b) (Some v)
                  (ap (λ (k : ℕ). slice_get (set (fields f.object) i (Some b)) k) (sym at) ∙ now) in
                  let end : v ≡ b = cc in
                  subst (λ (k : ℕ). k / t.words_per_region < length t.regions) (sym end) near
              | inr apart ↦ s.inside a j v f.object f.is (set_there (fields f.object) i j (Some b) (Some v) apart now)
            ]
        | inr other ↦ s.inside c j v x (sym (object_same t u c (w.others c other)) ∙ o) g
      ]);
    })

-- an object with nil fields is made where a filler was pushed
module _ (t t' t'' : Table) (k a n p weak name : ℕ) (shape : IsShaped t) (shape' : IsShaped t') (known : k < length t.regions)
    (ordinary : kind_of t k ≡ kinds.Ordinary) (room : used_of t k + n ≤ t.words_per_region) (size : n ≡ 2 + p + weak)
    (at : a ≡ top_of t k) (e : t' ≡ push_tile t k (Filler n))
    (e' : t'' ≡ replace_tile t' a (Object (new_object name p weak 0) ∷ remainder (n - (2 + p + weak + 0)))) where
  pub add_sample : IsSample t → IsSample t''
  add_sample s =
      let m = object_made t t' t'' k a n p weak name shape shape' known ordinary room size at e e' in
      record {
        count = m.count ∙ s.count;
        words = m.size ∙ s.words;
        inside = λ y i b x o f. elim (cases_eq y a) [
          | inl same ↦
              let x_is : x ≡ new_object name p weak 0 = let is = m.is in let o' = sym (ap (object_at t'') same) ∙ o in cc in
              absurd (nil_fields name p weak i b (ap (λ (q : Stored). slice_get (fields q) i) (sym x_is) ∙ f))
          | inr apart ↦ rw (m.count, m.size) (s.inside y i b x (sym (m.others y apart) ∙ o) f)
        ];
      }

-- an object of nil pointers in the first region of a run
first_alone : (p name o : ℕ) (x : Stored) → tile_object (region_tile (First (new_object name p 0 0)) o) ≡ Some x → x ≡ new_object name p 0 0
first_alone p name zero x e = cc
first_alone p name (suc o) x e = cc

-- a humongous object is made
pub run_sample : (t t' : Table) (m p name : ℕ) (o : Option ℕ) → 0 < t.words_per_region → 0 < m → first_run is_free m t.regions ≡ o
    → t' ≡ with_run t m (new_object name p 0 0) o → IsSample t → IsSample t'
unfolding object_at
run_sample t t' m p name None z n f e s = subst IsSample (sym e) s
run_sample t t' m p name (Some k) z n f e s = subst IsSample (sym e) (record {
  count = r.count ∙ s.count;
  words = r.size ∙ s.words;
  inside = λ y i b x h g. rw (r.count, r.size) (elim (cases_eq y (k * t.words_per_region)) [
    | inl same ↦
        let region : y / u.words_per_region ≡ k =
        ap (λ (w : ℕ). y / w) r.size ∙ div_is y t.words_per_region k (omega arith) (omega arith) in
        let tile = tile_of_region u y (First new) (ap (nth_region u) region ∙ r.first) in
        let is : x ≡ new = first_alone p name (y % u.words_per_region) x (ap tile_object (sym tile) ∙ h) in
        absurd (nil_fields name p 0 i b (ap (λ (q : Stored). slice_get (fields q) i) (sym is) ∙ g))
    | inr apart ↦ s.inside y i b x (ap tile_object (sym (r.others y apart)) ∙ h) g
  ]);
})
  where
    new : Stored
    new = new_object name p 0 0

    u : Table
    u = with_run t m new (Some k)

    r : TakesRun t u k m new
    r = run_made t k m new z n f

-- the marks and sets of such a table
pub sample_scans : (t : Table) (tops : Tops) (previous : List Bool) (sets : Sets) → IsSample t → length previous ≡ 64 → length sets.sets ≡ 4
    → sets.cards_per_region ≡ 2 → CanScan t tops previous 8 sets
sample_scans t tops previous sets s marks count cards = record {
  fit = record { whole_cards = s.words ∙ rw cards refl; each_region = count ∙ sym s.count };
  each_word = rw (s.count, s.words) marks;
  inside = record { each = λ a i v x k f. s.inside a i v x (kept_object t tops previous a x k) f };
}

-- a tile with an object's shape is one
object_tile_is : (o : Option Tile) (p weak d : ℕ) (shape : Shape) → IfSome o (λ u. shape ≡ tile_shape u) → IsSome o
    → shape ≡ shapes.Object p weak d → IsSome (tile_object o)
object_tile_is None p weak d shape h some e = cc
object_tile_is (Some (Object s)) p weak d shape h some e = refl
object_tile_is (Some (Filler m)) p weak d shape h some e = cc
object_tile_is (Some (Forwarded to m)) p weak d shape h some e = cc

pub is_object : (t : Table) (a p weak d : ℕ) (shape : Shape) → IfSome (tile_in t a) (λ u. shape ≡ tile_shape u) → IsSome (tile_in t a)
    → shape ≡ shapes.Object p weak d → IsSome (object_at t a)
unfolding object_at
is_object t a p weak d shape h some e = object_tile_is (tile_in t a) p weak d shape h some e
