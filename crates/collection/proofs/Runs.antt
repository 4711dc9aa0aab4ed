-- After a cleanup each humongous object is kept, and after a pause it still is.
use Rattle.std.proofs.Common.{◌≡◌, ◌≢◌, ◌-◌, ◌*◌, ◌/◌, ◌⊎◌, ◌∙◌, ℕ, Bool, true, false, Option, Some, None, inl, inr, refl, sym, ap, arith}
use Rattle.std.proofs.Common.{if◌then◌else◌}
use Rattle.std.proofs.lemmas.Bool.{cases_Bool}
use Rattle.heap_model.specs.Heap.{Stored}
use Rattle.regions.specs.Table.{Table, Region, Free, Ordinary, First, Rest, kind_of, nth_region, region_kind}
use Rattle.regions.specs.Shaped.{IsShaped}
use Rattle.regions.specs.declared.row.Kind.TheVariants as kinds
use Rattle.mark_bitmap.proofs.Ranges.{div_is}
use Rattle.evacuation.specs.Evacuates.{is_chosen}
use Rattle.step_core.specs.Stands.{CoreState, IsCore, kept_of}
use Rattle.step_core.specs.Cycle.{HasCleaned, IsDead}
use Rattle.step_core.specs.declared.candidates.Choice.{Choice}
use Rattle.step_core.specs.Pause.{HasMoved}
use Rattle.collection.specs.Space.{IsExact}
use Rattle.collection.proofs.Exact.{kind_by, kind_free}
use Rattle.collection.proofs.Paused as paused

abbrev pub AreKept : CoreState → Type 0
AreKept c = (k : ℕ) → kind_of c.table k ≡ kinds.First → kept_of c (k * c.table.words_per_region) ≢ None

free_first : kinds.Free ≡ kinds.First → ⊥
free_first e = cc

ordinary_first : kinds.Ordinary ≡ kinds.First → ⊥
ordinary_first e = cc

rest_first : kinds.Rest ≡ kinds.First → ⊥
rest_first e = cc

first_of : (t : Table) (k : ℕ) → kind_of t k ≡ kinds.First → (x : Stored) × (nth_region t k ≡ First x)
unfolding kind_of
first_of t k e = go (nth_region t k) refl e
  where
    go : (r : Region) → nth_region t k ≡ r → region_kind r ≡ kinds.First → (x : Stored) × (nth_region t k ≡ First x)
    go Free q f = absurd (free_first f)
    go (Ordinary ts) q f = absurd (ordinary_first f)
    go (First x) q f = (x, q)
    go (Rest n) q f = absurd (rest_first f)

pub cleaned_runs : (n : ℕ) (c d : CoreState) → IsShaped c.table → HasCleaned n c d → AreKept d
cleaned_runs n c d shape w k e none =
    let live = (λ (dead : IsDead c k). free_first (sym (kind_free d.table k (w.dead k dead).free) ∙ e)) in
    let before = sym (kind_by c.table d.table k (w.others k live).region) ∙ e in
    let (x, is) = first_of c.table k before in
    let gone : kept_of c (k * c.table.words_per_region) ≡ None =
    sym (w.changes.kept (k * c.table.words_per_region)) ∙ ap (λ (m : ℕ). kept_of d (k * m)) (sym w.changes.size) ∙ none in
    live (inr (record {
      first = k;
      object = x;
      begins = is;
      low = omega arith;
      reaches = (let z : k - k ≡ 0 = omega arith in let y = ap (λ (m : ℕ). m * c.table.words_per_region) z in omega (arith, y));
      dead = gone;
    }))

option_cases : (o : Option Stored) → (o ≡ None) ⊎ ((s : Stored) × (o ≡ Some s))
option_cases None = inl refl
option_cases (Some s) = inr (s, refl)

none_some : (o : Option Stored) (x : Stored) → o ≡ None → o ≡ Some x → ⊥
none_some o x e f = cc

place_is : (b : Bool) (x y : Option ℕ) → b ≡ false → (if b then x else y) ≡ y
place_is true x y e = absurd cc
place_is false x y e = refl

module _ (which : Choice) (budget n w : ℕ) (c c' : CoreState) (core : IsCore c) (shape : IsShaped c.table)
    (shape' : IsShaped c'.table) (p : HasMoved which budget n w c c') (exact : IsExact c) where
  pub paused_runs : AreKept c → AreKept c'
  unfolding kept_of
  paused_runs kept k e none =
      let ev = paused.ev which budget n w c c' core shape shape' p exact in
      let out : is_chosen p.evacuates.chosen k ≡ false = elim (cases_Bool (is_chosen p.evacuates.chosen k)) [
        | inl i ↦ absurd (free_first (sym (ev.regions.chosen k i) ∙ e))
        | inr o ↦ o
      ] in
      let used : kind_of c.table k ≢ kinds.Free = λ f. elim (ev.regions.was_free k f) [
        | inl g ↦ free_first (sym g ∙ e)
        | inr g ↦ ordinary_first (sym g ∙ e)
      ] in
      let before : kind_of c.table k ≡ kinds.First = sym (ev.regions.kinds_same k out used) ∙ e in
      elim (option_cases (kept_of c (k * c.table.words_per_region))) [
        | inl gone ↦ kept k before gone
        | inr some ↦
            let z = shape.positive in
            let row : k * c.table.words_per_region / c.table.words_per_region ≡ k =
            div_is (k * c.table.words_per_region) c.table.words_per_region k (omega arith) (omega (arith, z)) in
            let outside = ap (is_chosen p.evacuates.chosen) row ∙ out in
            let copy = ev.relocates.kept (k * c.table.words_per_region) (k * c.table.words_per_region) some.0 some.1
            (place_is (is_chosen p.evacuates.chosen (k * c.table.words_per_region / c.table.words_per_region)) _ _ outside) in
            none_some (kept_of c' (k * c.table.words_per_region)) copy.copy
            (ap (λ (m : ℕ). kept_of c' (k * m)) (sym ev.regions.size) ∙ none) copy.at
      ]
