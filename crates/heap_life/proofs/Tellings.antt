-- Regions and moments that are told.
use Rattle.std.proofs.Common.{◌≡◌, ◌∙◌, ◌+◌, ◌<◌, ◌≤◌, ℕ, Bool, true, false, List, [], ◌∷◌, ◌++◌, Option, Some, None}
use Rattle.std.proofs.Common.{length, set, refl, sym, ap, subst, arith, inl, inr}
use Rattle.std.specs.Prelude.{slice_get, ◌&&◌, nat_le, if◌then◌else◌}
use Rattle.std.specs.Str.{bytes_eq}
use Rattle.std.proofs.Math.ListN.{length-set}
use Rattle.std.proofs.lemmas.Bool.{cases_lt}
use Rattle.std.proofs.lemmas.Slice.Eq.{bytes_eq-Decides}
use Rattle.heap_model.proofs.Lists.{get-set_other, get-set_same}
use Rattle.script_text.specs.Texts.{Adds, AddsText, emptied, are_same, text_length}
use Rattle.step_core.specs.Stands.{CoreState}
use Rattle.heap_dump.specs.Lists.{text_below}
use Rattle.heap_life.specs.Tolds.{Told, AreLast, TellsRegion, TellsRegions, end_text, news_of, told_of, with_moment}
use Rattle.heap_life.specs.declared.life.Moment.{Moment}
use Rattle.heap_dump.proofs.Putting.{adds_as, adds_below, adds_nothing}

-- ---- one region

same_bytes : (xs ys : List ℕ) → bytes_eq xs ys ≡ true → xs ≡ ys
same_bytes xs ys e = grind (arith, bytes_eq-Decides)

same_texts : (a b : Option (List ℕ)) (x : List ℕ) → a ≡ Some x → are_same a b ≡ true → b ≡ Some x
same_texts None b x is e = absurd (cc)
same_texts (Some y) None x is e = absurd (cc)
same_texts (Some y) (Some z) x is e = let f : y ≡ z = same_bytes y z e in let g : y ≡ x = cc in cc

-- an empty text got these lines
pub lines_are : (b block : Option (List ℕ)) (lines x : List ℕ) → Adds (emptied b) lines block → block ≡ Some x → x ≡ lines
lines_are b None lines x h e = absurd (cc)
lines_are None (Some y) lines x h e = absurd (let f = h.1 in cc)
lines_are (Some z) (Some y) lines x h e =
    let first : h.0 ≡ [] = (let f = h.1 in cc) in
    let same : y ≡ h.0 ++ lines = h.2 in
    let is : y ≡ x = cc in
    sym is ∙ same ∙ ap (λ (l : List ℕ). l ++ lines) first

-- what was told of it last is the same
pub told_before : (b block was text : Option (List ℕ)) (lines : List ℕ) → Adds (emptied b) lines block → are_same block was ≡ true
    → TellsRegion lines was was text text
told_before b None was text lines h e after is = absurd (cc)
told_before b (Some x) was text lines h e after is =
    let these : x ≡ lines = lines_are b (Some x) lines x h refl in
    let same : was ≡ Some x = same_texts (Some x) was x refl e in
    let last : was ≡ Some lines = same ∙ ap (λ (l : List ℕ). Some l) these in
    let alike : bytes_eq lines lines ≡ true = grind (arith, bytes_eq-Decides) in
    (lines, last, last, adds_as text text [] (if bytes_eq lines lines then [] else lines) (rw alike refl) (adds_nothing text))

-- it isn't
pub told_anew : (b block was now text text' : Option (List ℕ)) (lines : List ℕ) → Adds (emptied b) lines block
    → are_same block was ≡ false → AddsText (emptied was) block now → AddsText text now text' → TellsRegion lines was now text text'
told_anew b None was now text text' lines h e p q after is = absurd (let f : now ≡ None = p in go now f q)
  where
    go : (now : Option (List ℕ)) → now ≡ None → AddsText text now text' → ⊥
    go None f q = let g : text' ≡ None = q in cc
    go (Some y) f q = cc
told_anew b (Some x) was None text text' lines h e p q after is = absurd (let g : text' ≡ None = q in cc)
told_anew b (Some x) None (Some y) text text' lines h e p q after is = absurd (let f = p.1 in cc)
told_anew b (Some x) (Some w) (Some y) text text' lines h e p q after is =
    let these : x ≡ lines = lines_are b (Some x) lines x h refl in
    let first : p.0 ≡ [] = (let f = p.1 in cc) in
    let now : y ≡ lines = p.2 ∙ ap (λ (l : List ℕ). l ++ x) first ∙ these in
    let other : bytes_eq lines w ≡ false = subst (λ (l : List ℕ). bytes_eq l w ≡ false) these e in (
      w,
      refl,
      ap (λ (l : List ℕ). Some l) now,
      adds_as text text' y (if bytes_eq lines w then [] else lines) (now ∙ rw other refl) q,
    )

-- ---- all regions

-- of the regions below n is told, of the others not yet
pub record IsTold (lines : ℕ → List ℕ) (n : ℕ) (was now : List (Option (List ℕ))) (old new : Option (List ℕ)) : Type 0 where
  pub size : length now ≡ length was
  pub whole : (after : List ℕ) → new ≡ Some after → (before : List ℕ) × (old ≡ Some before)
  pub told : (after : List ℕ) → new ≡ Some after → (k : ℕ) → k < n → k < length now → slice_get now k ≡ Some (Some (lines k))
  pub left : (after : List ℕ) → new ≡ Some after → (last : ℕ → List ℕ) → AreLast last was → (k : ℕ) → n ≤ k → k < length now
      → slice_get now k ≡ Some (Some (last k))
  pub adds : (after : List ℕ) → new ≡ Some after → (last : ℕ → List ℕ) → AreLast last was
      → Adds old (text_below (news_of last lines) n) new

pub none_told : (lines : ℕ → List ℕ) (was : List (Option (List ℕ))) (old : Option (List ℕ)) → IsTold lines 0 was was old old
none_told lines was old = record {
  size = refl;
  whole = λ after is. (after, is);
  told = λ after is k less lt. absurd (omega (arith, less));
  left = λ after is last h k le lt. h k lt;
  adds = λ after is last h. adds_nothing old;
}

had_bytes : (a b : Option (List ℕ)) (p after : List ℕ) → Adds a p b → b ≡ Some after → (before : List ℕ) × (a ≡ Some before)
had_bytes a None p after h e = absurd (cc)
had_bytes a (Some x) p after h e = (h.0, h.1)

pub told_more : (lines : ℕ → List ℕ) (n : ℕ) (was now : List (Option (List ℕ))) (old new new' text text' : Option (List ℕ))
    → IsTold lines n was now old new → n < length now → slice_get now n ≡ Some text → TellsRegion (lines n) text text' new new'
    → IsTold lines (n + 1) was (set now n text') old new'
told_more lines n was now old new new' text text' inv lt at h = record {
  size = length-set now n text' ∙ inv.size;
  whole = λ after is. let b = before after is in inv.whole b.0 b.1;
  told = λ after is k less within.
      elim (cases_lt k n) [
        | inl below ↦ get-set_other now n k text' (λ e. absurd (omega (arith, below, e)))
            ∙ inv.told (before after is).0 (before after is).1 k below (let l = length-set now n text' in omega (arith, l, within))
        | inr ge ↦
            let same : n ≡ k = omega (arith, less, ge) in
            let lines_now : text' ≡ Some (lines n) = (h after is).2 in
            subst (λ (i : ℕ). slice_get (set now n text') i ≡ Some (Some (lines i))) same
            (get-set_same now n text' text at ∙ ap (λ (t : Option (List ℕ)). Some t) lines_now)
      ];
  left = λ after is last earlier k ge within.
      get-set_other now n k text' (λ e. absurd (omega (arith, ge, e)))
      ∙ inv.left (before after is).0 (before after is).1 last earlier k (omega (arith, ge))
      (let l = length-set now n text' in omega (arith, l, within));
  adds = λ after is last earlier.
      let b = before after is in
      let found = h after is in
      let was_last : Some text ≡ Some (Some (last n)) = sym at ∙ inv.left b.0 b.1 last earlier n (omega arith) lt in
      let first : text ≡ Some found.0 = found.1 in
      let same : found.0 ≡ last n = cc in
      adds_below (news_of last lines) n old new new' (inv.adds b.0 b.1 last earlier)
      (subst (λ (l : List ℕ). Adds new (if bytes_eq (lines n) l then [] else lines n) new') same found.3);
}
  where
    before : (after : List ℕ) → new' ≡ Some after → (x : List ℕ) × (new ≡ Some x)
    before after is = let found = h after is in had_bytes new new' (if bytes_eq (lines n) found.0 then [] else lines n) after found.3 is

pub all_told : (lines : ℕ → List ℕ) (n count : ℕ) (was now : List (Option (List ℕ))) (old new : Option (List ℕ))
    → IsTold lines n was now old new → n ≡ count → length was ≡ count → TellsRegions lines count was now old new
all_told lines n count was now old new inv is size after e = (
  inv.whole after e,
  λ last earlier. (
    λ k lt. inv.told after e k (let s = inv.size in omega (arith, s, lt)) lt,
    subst (λ (m : ℕ). Adds old (text_below (news_of last lines) m) new) is (inv.adds after e last earlier),
  ),
)

-- ---- a moment

added : (x y : Option (List ℕ)) (x0 y0 p : List ℕ) → Adds x p y → x ≡ Some x0 → y ≡ Some y0 → y0 ≡ x0 ++ p
added x None x0 y0 p h ex ey = absurd (cc)
added x (Some z) x0 y0 p h ex ey =
    let f : h.0 ≡ x0 = (let g = h.1 in cc) in
    let z_is : z ≡ y0 = cc in
    sym z_is ∙ h.2 ∙ ap (λ (l : List ℕ). l ++ p) f

-- what is told with a moment more
abbrev moment_text : List ℕ → (Bool → ℕ → List ℕ) → ℕ → (ℕ → List ℕ) → Bool → Bool → List ℕ
moment_text text lines count last flag tiles = text ++ end_text flag tiles ++ text_below (news_of last (lines tiles)) count

pub moment_told : (heap : List ℕ) (lines : Bool → ℕ → List ℕ) (count most : ℕ) (text : List ℕ) (last : ℕ → List ℕ) (flag : Bool)
    (a b d e : Option (List ℕ)) (was now : List (Option (List ℕ))) (before tiles : Bool)
    → ((bytes : List ℕ) → a ≡ Some bytes → (bytes ≡ text) × (before ≡ flag) × AreLast last was)
    → Adds a heap b → tiles ≡ (before && nat_le (text_length b) most) → Adds b (end_text before tiles) d
    → TellsRegions (lines tiles) count was now d e → (bytes : List ℕ) → e ≡ Some bytes
    → (bytes ≡ moment_text (text ++ heap) lines count last flag (flag && nat_le (length (text ++ heap)) most))
    × (tiles ≡ (flag && nat_le (length (text ++ heap)) most)) × AreLast (lines (flag && nat_le (length (text ++ heap)) most)) now
moment_told heap lines count most text last flag a b d e was now before tiles first heaped is ended regions bytes whole =
    let told = regions bytes whole in
    let (d0, d_is) = told.0 in
    let (b0, b_is) = had_bytes b d (end_text before tiles) d0 ended d_is in
    let (a0, a_is) = had_bytes a b heap b0 heaped b_is in
    let start = first a0 a_is in
    let same_text : a0 ≡ text = start.0 in
    let same_flag : before ≡ flag = start.1 in
    let b_text : b0 ≡ text ++ heap = added a b a0 b0 heap heaped a_is b_is ∙ ap (λ (l : List ℕ). l ++ heap) same_text in
    let long : text_length b ≡ length (text ++ heap) = ap text_length b_is ∙ ap (λ (l : List ℕ). length l) b_text in
    let tiles_now : tiles ≡ (flag && nat_le (length (text ++ heap)) most) =
    is ∙ ap (λ (n : ℕ). before && nat_le n most) long ∙ ap (λ (x : Bool). x && nat_le (length (text ++ heap)) most) same_flag in
    let d_text : d0 ≡ text ++ heap ++ end_text before tiles =
    added b d b0 d0 (end_text before tiles) ended b_is d_is ∙ ap (λ (l : List ℕ). l ++ end_text before tiles) b_text in
    let news = told.1 last start.2 in
    let e_text : bytes ≡ moment_text (text ++ heap) lines count last before tiles =
    added d e d0 bytes (text_below (news_of last (lines tiles)) count) news.1 d_is whole
    ∙ ap (λ (l : List ℕ). l ++ text_below (news_of last (lines tiles)) count) d_text in (
      e_text ∙ ap (λ (x : Bool). moment_text (text ++ heap) lines count last x tiles) same_flag
          ∙ ap (λ (x : Bool). moment_text (text ++ heap) lines count last flag x) tiles_now,
      tiles_now,
      subst (λ (x : Bool). AreLast (lines x) now) tiles_now news.0,
    )

pub told_last : (most : ℕ) (t : Told) (xs : List (Moment × CoreState)) (m : Moment) (c : CoreState)
    → told_of most t (xs ++ (m, c) ∷ []) ≡ with_moment most (told_of most t xs) m c
told_last most t [] m c = refl
told_last most t (x ∷ xs) m c = told_last most (with_moment most t x.0 x.1) xs m c
