-- Where the set is empty, a pause or a compaction leaves no card dirty.
use Rattle.std.proofs.Common.{◌≡◌, ◌≢◌, ◌≤◌, ◌∷◌, ◌++◌, ◌∙◌, ℕ, false, Bool, List, [], Option, Some, None, length, refl, sym, ap}
use Rattle.std.proofs.Common.{ap₂, subst, arith, inl, inr}
use Rattle.std.proofs.Common.{slice_get}
use Rattle.std.specs.List.{AllZip}
use Rattle.std.proofs.lemmas.Bool.{cases_Bool}
use Rattle.heap_model.specs.Heap.{Stored, fields}
use Rattle.heap_model.specs.Relocation.{IsMoved}
use Rattle.heap_model.specs.Evacuation.{place_after}
use Rattle.alloc_buffers.specs.Placement.{Buffers}
use Rattle.alloc_buffers.specs.declared.buffers.Buffer.{Buffer}
use Rattle.std.proofs.lemmas.List.{length-replicate}
use Rattle.alloc_buffers.specs.Placement as placement
use Rattle.cards.specs.Cards.{is_dirty}
use Rattle.region_choice.specs.declared.LiveRow.{LiveRow}
use Rattle.evacuation.specs.Evacuates.{Layers, HasEvacuated, is_chosen, set_by}
use Rattle.region_choice.specs.Choice.{live_sum}
use Rattle.regions.specs.Table.{kind_of}
use Rattle.regions.specs.declared.row.Kind.TheVariants as kinds
use Rattle.evacuation.specs.Evacuates as layers
use Rattle.step_core.specs.declared.candidates.Choice.{Choice}
use Rattle.step_core.specs.Stands.{CoreState}
use Rattle.step_core.specs.Pause.{HasMoved, layers_of}
use Rattle.heap_words.specs.Configs.{card_words}
use Rattle.heap_steps.specs.Actors.{is_third}

-- where each object stays, the words are the same
words_same : (place : ℕ → Option ℕ) → ((a : ℕ) → place a ≡ Some a) → (xs ys : List (Option ℕ)) → AllZip (IsMoved place) xs ys → ys ≡ xs
words_same place stays [] [] z = refl
words_same place stays [] (y ∷ ys) z = absurd z
words_same place stays (x ∷ xs) [] z = absurd z
words_same place stays (None ∷ xs) (None ∷ ys) z = ap (λ (l : List (Option ℕ)). None ∷ l) (words_same place stays xs ys z.1)
words_same place stays (None ∷ xs) (Some b ∷ ys) z = absurd z.0
words_same place stays (Some a ∷ xs) (None ∷ ys) z = absurd z.0
words_same place stays (Some a ∷ xs) (Some b ∷ ys) z =
    let same : b ≡ a = let e = z.0 in let f = stays a in cc in
    ap₂ (λ (w : Option ℕ) (l : List (Option ℕ)). w ∷ l) (ap Some same) (words_same place stays xs ys z.1)

none_dirty : (at_once : Bool) (card_words w : ℕ) (h h' : Layers) → HasEvacuated [] at_once card_words w h h' → (card : ℕ)
    → is_dirty h'.cards card ≡ false
none_dirty at_once card_words w h h' ev card = elim (cases_Bool (is_dirty h'.cards card)) [
  | inr clean ↦ clean
  | inl dirty ↦ absurd (
      let x = (ev.dirty card dirty).1.1 in
      let r = ev.relocates in
      let stays : (a : ℕ) → place_after (set_by h []) ev.forward a ≡ Some a = λ a. refl in
      let c = r.came x.at x.object x.is_kept in
      let here : c.from ≡ x.at = let e = c.placed in let f = stays c.from in cc in
      let k = r.kept c.from x.at c.object c.at c.placed in
      let copy : k.copy ≡ x.object = let e = k.at in let f = x.is_kept in cc in
      let pointers = words_same (place_after (set_by h []) ev.forward) stays c.object.pointers k.copy.pointers k.pointers in
      let weaks = words_same (place_after (set_by h []) ev.forward) stays c.object.weaks k.copy.weaks k.weaks in
      let held = words_same (place_after (set_by h []) ev.forward) stays c.object.held k.copy.held k.held in
      let behind = ap₂ (λ (p q : List (Option ℕ)). p ++ q) weaks held in
      let whole : fields x.object ≡ fields c.object =
      ap (λ (s : Stored). fields s) (sym copy) ∙ ap₂ (λ (p q : List (Option ℕ)). p ++ q) pointers behind in
      x.is_new c.object (ap (layers.kept_of h) (sym here) ∙ c.at) (ap (λ (l : List (Option ℕ)). slice_get l x.index) (sym whole) ∙ x.field))
]

no_rows : (rows : List LiveRow) → 0 ≡ length rows → rows ≡ []
no_rows [] e = refl
no_rows (r ∷ rows) e = absurd (omega arith)

module _ (which : Choice) (budget w : ℕ) (c d : CoreState) (h : HasMoved which budget 0 w c d) where
  pub still_clean : (card : ℕ) → is_dirty d.cards card ≡ false
  still_clean = none_dirty (is_third c.config.format) (card_words c.config) w (layers_of h.ready) (layers_of d)
      (subst (λ (rs : List LiveRow). HasEvacuated rs (is_third c.config.format) (card_words c.config) w (layers_of h.ready) (layers_of d))
      (no_rows h.evacuates.chosen h.evacuates.regions) h.evacuates.evacuated)

  pub still_settled : c.clearing ≡ None → d.clearing ≡ None
  still_settled e = ap (λ (k : CoreState). k.clearing) h.evacuates.same ∙ ap (λ (k : CoreState). k.clearing) h.is_ready.same ∙ e

  pub still_closed : d.buffers ≡ placement.closed d.buffers.words (length d.buffers.open_buffers)
  still_closed =
      let e : d.buffers ≡ placement.closed c.buffers.words (length c.buffers.open_buffers) =
      ap (λ (k : CoreState). k.buffers) h.evacuates.same ∙ ap (λ (k : CoreState). k.buffers) h.is_ready.same in
      let w : c.buffers.words ≡ d.buffers.words = sym (ap (λ (b : Buffers). b.words) e) in
      let n : length c.buffers.open_buffers ≡ length d.buffers.open_buffers =
      sym (ap (λ (b : Buffers). length b.open_buffers) e ∙ length-replicate {A = Option Buffer} (length c.buffers.open_buffers) None) in
      e ∙ ap₂ placement.closed w n

-- and it copied nothing
pub still_nothing : (which : Choice) (budget n w : ℕ) (c d : CoreState) → HasMoved which budget n w c d → n ≡ 0
    → HasMoved which budget 0 0 c d
still_nothing which budget n w c d h e =
    let rows : h.evacuates.chosen ≡ [] = no_rows h.evacuates.chosen (sym e ∙ h.evacuates.regions) in
    let most : w ≤ live_sum [] = subst (λ (r : List LiveRow). w ≤ live_sum r) rows h.evacuates.evacuated.within in
    let none : w ≡ 0 = omega (arith, most) in
    subst (λ (m : ℕ). HasMoved which budget m 0 c d) e (subst (λ (x : ℕ). HasMoved which budget n x c d) none h)

-- nothing is reclaimed
pub still_used : (which : Choice) (budget w : ℕ) (c d : CoreState) → HasMoved which budget 0 w c d → (i : ℕ)
    → kind_of c.table i ≢ kinds.Free
    → kind_of d.table i ≢ kinds.Free
still_used which budget w c d h i used free =
    let chosen = (h.evacuates.reclaimed i).0 (record { used = used; free = free }) in
    let none = ap (λ (rows : List LiveRow). is_chosen rows i) (no_rows h.evacuates.chosen h.evacuates.regions) in
    cc
