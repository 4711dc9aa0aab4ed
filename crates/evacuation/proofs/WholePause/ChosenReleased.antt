-- The chosen regions, one after another.
use Rattle.std.proofs.Common.{◌≡◌, ◌≢◌, ◌+◌, ◌*◌, ◌/◌, ◌<◌, ◌⊎◌, ◌∷◌, ◌++◌, ◌∙◌, ℕ, suc, zero, Bool, true, false, List, [], Some, length}
use Rattle.std.proofs.Common.{get_or, set, take, refl, sym, ap, subst, inl, inr, arith, eqb, slice_get, ◌||◌, ◌==◌, if◌then◌else◌}
use Rattle.std.specs.List.{list_any}
use Rattle.std.specs.Cmp.{nat_eq_equiv}
use Rattle.std.proofs.Math.Bool.{or-false}
use Rattle.std.proofs.lemmas.Bool.{cases_eq, cases_lt, cases_Bool, or_cases, or_parts}
use Rattle.std.proofs.lemmas.List.Folds.{list_any-append}
use Rattle.std.proofs.lemmas.List.{get_or-set_same, get_or-set_other, get_or_past, length-set, take_more}
use Rattle.regions.specs.Table.{Free, Table, kind_of, region_kind, nth_region, released}
use Rattle.regions.specs.declared.row.Kind.TheVariants as kinds
use Rattle.regions.proofs.Tiles.Released as one
use Rattle.regions.proofs.Tiles.Released.{region_released, released_one}
use Rattle.regions.proofs.Words.Sizes.{EachForwardedIn-set}
use Rattle.mark_bitmap.specs.Marks.{is_marked}
use Rattle.mark_bitmap.specs.Tops.{is_in_region}
use Rattle.bit_sets.specs.Bits.{has}
use Rattle.remembered_sets.specs.Sets.{Sets, cleared, emptied, set_of}
use Rattle.remembered_sets.proofs.Laws.{has-without, cleared_same, cleared_other}
use Rattle.remembered_sets.proofs.Covered.{emptied_twice}
use Rattle.region_choice.specs.declared.LiveRow.{LiveRow}
use Rattle.mark_bitmap.proofs.Ranges as ranges
use Rattle.std.proofs.lemmas.Bool.{eq-eqb, eqb-true, eqb-false}
use Rattle.std.proofs.lemmas.Bool.Decides.{eqb_tells}
use Rattle.evacuation.specs.Evacuates.{is_chosen, AreDistinct, MarksAfter}
use Rattle.evacuation.specs.Releasing.{AreCleared, AreReleased, NoneForwardedInto}

any_push : (f : LiveRow → Bool) (rows : List LiveRow) (row : LiveRow) → list_any f (rows ++ row ∷ []) ≡ (list_any f rows || f row)
any_push f rows row = list_any-append f rows (row ∷ []) ∙ ap (λ (b : Bool). list_any f rows || b) (or-false (f row))

pub chosen_more : (rows : List LiveRow) (n : ℕ) (row : LiveRow) (k : ℕ) → n < length rows → get_or rows n row ≡ row
    → is_chosen (take (n + 1) rows) k ≡ (is_chosen (take n rows) k || (row.region == k))
chosen_more rows n row k h e =
    ap (λ (rs : List LiveRow). is_chosen rs k) (take_more rows n row h ∙ ap (λ (r : LiveRow). take n rows ++ r ∷ []) e)
    ∙ any_push (λ r. r.region == k) (take n rows) row

region_is : (words r a : ℕ) → 0 < words → is_in_region words r a ≡ eqb r (a / words)
region_is words r a z = elim (cases_Bool (is_in_region words r a)) [
  | inl e ↦ e ∙ sym (eq-eqb r (a / words) (sym (ranges.nth_region words r a e)))
  | inr e ↦ elim (eqb_tells r (a / words)) [ inl q ↦ absurd (ranges.other_region words r a z e (sym q.1)) | inr q ↦ e ∙ sym q.0 ]
]

module _ (xs ys : ℕ → Bool) (r : ℕ) (more : (k : ℕ) → ys k ≡ (xs k || (r == k))) where
  new_cases : (k : ℕ) → ys k ≡ true → (xs k ≡ true) ⊎ (r ≡ k)
  new_cases k e = elim (or_cases (xs k) (r == k) (sym (more k) ∙ e)) [ inl q ↦ inl q | inr q ↦ inr (eqb-true r k q) ]

  old_both : (k : ℕ) → ys k ≡ false → (xs k ≡ false) × (k ≢ r)
  old_both k e = let n = or_parts (xs k) (r == k) (sym (more k) ∙ e) in (n.0, λ q. eqb-false r k n.1 (sym q))

  pub step_released : (t0 t1 t2 : Table) → 0 < t1.words_per_region → r < length t1.regions → kind_of t1 r ≡ kinds.Ordinary
      → t2 ≡ released t1 r → AreReleased xs t0 t1 → AreReleased ys t0 t2
  step_released t0 t1 t2 z known o is done =
      let w = subst (λ (u : Table). one.Releases t1 u r) (sym is) (region_released t1 r z known o) in
      record {
        size = w.size ∙ done.size;
        count = w.count ∙ done.count;
        freed = λ k e. elim (cases_eq k r) [
          | inl q ↦ ap (nth_region t2) q ∙ w.free
          | inr q ↦ elim (new_cases k e) [ inl g ↦ w.others k q ∙ done.freed k g | inr g ↦ absurd (q (sym g)) ]
        ];
        others = λ k e. let (a, b) = old_both k e in w.others k b ∙ done.others k a;
      }

  if_both : {A : Type 0} (a b : Bool) (x y : A) → (if b then x else (if a then x else y)) ≡ (if a || b then x else y)
  if_both true true x y = refl
  if_both true false x y = refl
  if_both false true x y = refl
  if_both false false x y = refl

  pub step_cleared : (s0 s1 s2 : Sets) → r < length s1.sets → s2 ≡ cleared s1 r → AreCleared xs s0 s1 → AreCleared ys s0 s2
  step_cleared s0 s1 s2 known is done = subst (AreCleared ys s0) (sym is) (record {
    cards = done.cards;
    count = length-set s1.sets r (emptied (set_of s1 r)) ∙ done.count;
    cleared = λ k e. elim (cases_eq k r) [
      | inl q ↦ ap (set_of (cleared s1 r)) q ∙ cleared_same s1 r known ∙ at_last ∙ ap (λ (m : ℕ). emptied (set_of s0 m)) (sym q)
      | inr q ↦ cleared_other s1 r k q
          ∙ elim (new_cases k e) [ inl g ↦ done.cleared k g | inr g ↦ absurd (q (sym g)) ]
    ];
    others = λ k e. let (a, b) = old_both k e in cleared_other s1 r k b ∙ done.others k a;
    entered = λ card.
        has-without s1.cards_per_region r s1.entered card
        ∙ ap (λ (n : ℕ). if eqb (card / n) r then false else has s1.entered card) done.cards
        ∙ ap (λ (b : Bool). if b then false else has s1.entered card) (nat_eq_equiv.symm (card / s0.cards_per_region) r)
        ∙ ap (λ (b : Bool). if eqb r (card / s0.cards_per_region) then false else b) (done.entered card)
        ∙ if_both (xs (card / s0.cards_per_region)) (eqb r (card / s0.cards_per_region)) false (has s0.entered card)
        ∙ ap (λ (b : Bool). if b then false else has s0.entered card) (sym (more (card / s0.cards_per_region)));
  })
    where
      -- the set that is emptied now was the first one's, or was empty already
      at_last : emptied (set_of s1 r) ≡ emptied (set_of s0 r)
      at_last = elim (cases_Bool (xs r)) [
        | inl e ↦ ap emptied (done.cleared r e) ∙ emptied_twice (set_of s0 r)
        | inr e ↦ ap emptied (done.others r e)
      ]

  pub step_marks : (words : ℕ) (tops0 tops1 tops2 : List ℕ) (marks0 marks1 marks2 : List Bool) → 0 < words → r < length tops1
      → tops2 ≡ set tops1 r (r * words) → length marks2 ≡ length marks1
      → ((a : ℕ) → is_marked marks2 a ≡ (if is_in_region words r a then false else is_marked marks1 a))
      → MarksAfter words xs tops0 tops1 marks0 marks1 → MarksAfter words ys tops0 tops2 marks0 marks2
  step_marks words tops0 tops1 tops2 marks0 marks1 marks2 z known is len marks done = record {
    count = ap (λ (m : List ℕ). length m) is ∙ length-set tops1 r (r * words) ∙ done.count;
    each_top = λ k h. ap (λ (m : List ℕ). get_or m k 0) is ∙ rw (more k) (elim (eqb_tells r k) [
      | inl q ↦ (let e : k ≡ r = sym q.1 in
          subst (λ (m : ℕ). get_or (set tops1 r (r * words)) m 0 ≡ (if xs m || (r == m) then m * words else get_or tops0 m 0)) q.1
          (get_or-set_same tops1 r (r * words) 0 known
          ∙ sym (yes (xs r) (r == r) (r * words) (get_or tops0 r 0) (eq-eqb r r refl))))
      | inr q ↦ get_or-set_other tops1 r k (r * words) 0 (λ e. q.1 (sym e)) ∙ done.each_top k h
          ∙ sym (no (xs k) (r == k) (k * words) (get_or tops0 k 0) q.0)
    ]);
    each_word = len ∙ done.each_word;
    each_mark = λ a. marks a ∙ ap (λ (b : Bool). if b then false else is_marked marks1 a) (region_is words r a z)
        ∙ ap (λ (m : Bool). if eqb r (a / words) then false else m) (done.each_mark a)
        ∙ if_both (xs (a / words)) (eqb r (a / words)) false (is_marked marks0 a)
        ∙ ap (λ (b : Bool). if b then false else is_marked marks0 a) (sym (more (a / words)));
  }
    where
      yes : (a b : Bool) (x y : ℕ) → b ≡ true → (if a || b then x else y) ≡ x
      yes true b x y e = refl
      yes false b x y e = rw e refl

      no : (a b : Bool) (x y : ℕ) → b ≡ false → (if a || b then x else y) ≡ (if a then x else y)
      no true b x y e = refl
      no false b x y e = rw e refl

-- what was of the regions that are gone, and of the others
module _ {words : ℕ} {gone : ℕ → Bool} {tops tops' : List ℕ} {marks marks' : List Bool}
    (after : MarksAfter words gone tops tops' marks marks') where
  pub top_gone : (k : ℕ) → k < length tops → gone k ≡ true → get_or tops' k 0 ≡ k * words
  top_gone k known e = after.each_top k known ∙ ap (λ (b : Bool). if b then k * words else get_or tops k 0) e

  pub top_left : (k : ℕ) → gone k ≡ false → get_or tops' k 0 ≡ get_or tops k 0
  top_left k e = elim (cases_lt k (length tops)) [
    | inl known ↦ after.each_top k known ∙ ap (λ (b : Bool). if b then k * words else get_or tops k 0) e
    | inr past ↦ get_or_past tops' k 0 (omega (arith, past, after.count)) ∙ sym (get_or_past tops k 0 past)
  ]

  pub mark_gone : (a : ℕ) → gone (a / words) ≡ true → is_marked marks' a ≡ false
  mark_gone a e = after.each_mark a ∙ ap (λ (b : Bool). if b then false else is_marked marks a) e

  pub mark_left : (a : ℕ) → gone (a / words) ≡ false → is_marked marks' a ≡ is_marked marks a
  mark_left a e = after.each_mark a ∙ ap (λ (b : Bool). if b then false else is_marked marks a) e

pub none_moved : (rows : List LiveRow) (words : ℕ) (t t' : Table) (r : ℕ) → 0 < t.words_per_region → r < length t.regions
    → kind_of t r ≡ kinds.Ordinary → t' ≡ released t r → NoneForwardedInto rows words t → NoneForwardedInto rows words t'
none_moved rows words t t' r z known o is m = subst (NoneForwardedInto rows words) (sym (is ∙ released_one t r o))
    (EachForwardedIn-set (λ to. is_chosen rows (to / words) ≡ false) t.regions r Free tt m)

-- a row isn't among those before it
pub not_before : (rows : List LiveRow) (n : ℕ) (row : LiveRow) → AreDistinct rows → slice_get rows n ≡ Some row
    → is_chosen (take n rows) row.region ≡ false
not_before rows n row distinct e = go (is_chosen (take n rows) row.region) refl
  where
    found : (xs : List LiveRow) (k : ℕ) → is_chosen xs k ≡ true → (i : ℕ) × (x : LiveRow) × (slice_get xs i ≡ Some x) × (x.region ≡ k)
    found [] k q = absurd cc
    found (x ∷ xs) k q = elim (eqb_tells x.region k) [
      | inl f ↦ (0, x, refl, f.1)
      | inr f ↦ (let q' : (eqb x.region k || is_chosen xs k) ≡ true = q in
          let q'' : is_chosen xs k ≡ true = rw f.0 at q' in
          let (i, y, g, h) = found xs k q'' in
          (suc i, y, g, h))
    ]

    in_take : (xs : List LiveRow) (m i : ℕ) (x : LiveRow) → slice_get (take m xs) i ≡ Some x → (i < m) × (slice_get xs i ≡ Some x)
    in_take [] zero i x q = absurd cc
    in_take [] (suc m) i x q = absurd cc
    in_take (y ∷ xs) zero i x q = absurd cc
    in_take (y ∷ xs) (suc m) zero x q = (omega arith, q)
    in_take (y ∷ xs) (suc m) (suc i) x q = let (a, b) = in_take xs m i x q in (omega arith, b)

    go : (b : Bool) → is_chosen (take n rows) row.region ≡ b → is_chosen (take n rows) row.region ≡ false
    go false q = q
    go true q = absurd (let (i, x, f, g) = found (take n rows) row.region q in
        let (a, h) = in_take rows n i x f in
        let same = distinct i n x row h e g in
        omega arith)

pub kind_by : (t t' : Table) (k : ℕ) → nth_region t' k ≡ nth_region t k → kind_of t' k ≡ kind_of t k
unfolding kind_of
kind_by t t' k e = ap region_kind e

pub chosen_at : (rows : List LiveRow) (n : ℕ) (row : LiveRow) → slice_get rows n ≡ Some row → is_chosen rows row.region ≡ true
chosen_at [] n row e = absurd cc
chosen_at (x ∷ rows) zero row e =
    let same : x ≡ row = cc in
    let q = eq-eqb x.region row.region (ap (λ (r : LiveRow). r.region) same) in
    rw q refl
chosen_at (x ∷ rows) (suc n) row e = elim (eqb_tells x.region row.region) [ inl q ↦ rw q.0 refl | inr q ↦ rw q.0 (chosen_at rows n row e) ]
