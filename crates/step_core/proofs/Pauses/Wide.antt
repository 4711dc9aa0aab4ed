-- After a pause each object that has a run is still a large one.
use Rattle.std.proofs.Common.{◌≡◌, ◌≢◌, ◌/◌, ◌∙◌, ℕ, List, false, length, inl, inr, sym, ap, arith}
use Rattle.std.proofs.lemmas.Bool.{cases_Bool}
use Rattle.heap_model.specs.Heap.{Stored}
use Rattle.regions.specs.Tiles.{Object, tile_size}
use Rattle.regions.specs.Table.{Table, kind_of, object_at}
use Rattle.regions.specs.declared.row.Kind.TheVariants as kinds
use Rattle.region_choice.specs.declared.LiveRow.{LiveRow}
use Rattle.evacuation.specs.Evacuates.{IsSameBut, RegionsAfter, is_chosen}
use Rattle.step_core.specs.Stands.{AreWide}
use Rattle.step_core.proofs.Mutating.Small.{option_is}

free_first : kinds.Free ≡ kinds.First → ⊥
free_first e = cc

ordinary_first : kinds.Ordinary ≡ kinds.First → ⊥
ordinary_first e = cc

-- the same but for pointers is as large
same_size : (x y : Stored) → IsSameBut x y → tile_size (Object y) ≡ tile_size (Object x)
same_size x y s =
    let pointers = s.pointers in
    let weaks = s.weaks in
    let held = s.held in
    let values = ap (λ (vs : List ℕ). length vs) s.values in
    omega (arith, pointers, weaks, held, values)

module _ (rows : List LiveRow) (t t' : Table) (r : RegionsAfter rows t t') where
  -- a region of a run was one before, and wasn't evacuated
  was_first : (k : ℕ) → kind_of t' k ≡ kinds.First → (is_chosen rows k ≡ false) × (kind_of t k ≢ kinds.Free)
  was_first k e = elim (cases_Bool (is_chosen rows k)) [
    | inl inside ↦ absurd (free_first (sym (r.chosen k inside) ∙ e))
    | inr out ↦ (out, λ free. elim (r.was_free k free) [ inl f ↦ free_first (sym f ∙ e) | inr o ↦ ordinary_first (sym o ∙ e) ])
  ]

  pub wide_after : AreWide t → AreWide t'
  wide_after wide a x e o =
      let at : kind_of t' (a / t.words_per_region) ≡ kinds.First = ap (λ (w : ℕ). kind_of t' (a / w)) (sym r.size) ∙ o in
      let (out, used) = was_first (a / t.words_per_region) at in
      elim (option_is (object_at t a)) [
        | inl some ↦
            let (y, there, same) = r.objects a some.0 out some.1 in
            let is : y ≡ x = cc in
            let size = ap (λ (s : Stored). tile_size (Object s)) is in
            let over = wide a some.0 some.1 (sym (r.kinds_same (a / t.words_per_region) out used) ∙ at) in
            omega (arith, size, over, same_size some.0 y same, r.size)
        | inr none ↦ absurd (let gone = r.none a out used none in cc)
      ]
