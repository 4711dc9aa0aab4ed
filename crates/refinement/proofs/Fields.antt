-- What is covered as a scan goes over the fields of an object.
use Rattle.std.proofs.Common.{◌≡◌, ◌≢◌, ◌+◌, ◌-◌, ◌*◌, ◌/◌, ◌<◌, ◌≤◌, ◌∙◌, inl, inr, ℕ, Bool, true, Option, Some, None, List, length, min}
use Rattle.std.proofs.Common.{get_or, refl, sym, ap, subst, arith, slice_get}
use Rattle.std.proofs.lemmas.Bool.{cases_eq, cases_lt}
use Rattle.std.proofs.lemmas.Option.{slice_get_within, slice_get-get_or}
use Rattle.std.proofs.Math.Nat.{mul-div-mul_right}
use Rattle.heap_model.specs.Heap.{Stored, fields}
use Rattle.regions.specs.Table.{Table, object_at, fields_at}
use Rattle.remembered_sets.specs.Sets.{Sets, may_lead, card_count}
use Rattle.refinement.specs.Remembering.{field_word, field_card, IsCrossing}
use Rattle.refinement.specs.Refining.{AddsCard, IsObjectCovered, IsScanned, FieldsInside, LeadInto, SetsFit, with_field}
use Rattle.regions.proofs.Words.Divides.{card_has_words, card_region, card_within, div_is, div_low, div_high}
use Rattle.refinement.proofs.Entered.{adds_more, adds_sets, field_adds, field_grows}
use Rattle.refinement.proofs.Holders.{Stands, field_at, fields_of}

-- the fields of an object from one on up to another are done
pub record IsPartly (words : ℕ) (kept : ℕ → Option Stored) (len card at start field : ℕ) (old new : Sets) : Type 0 where
  pub adds : AddsCard words kept len card old new
  pub done : (i v : ℕ) → start ≤ i → i < field → IsCrossing words kept at i v → may_lead new (v / words) card ≡ true

pub partly_next : (t : Table) (kept : ℕ → Option Stored) (len card at start field next : ℕ) (old mid new : Sets) → kept at ≡ object_at t at
    → FieldsInside t at → length mid.sets ≡ length t.regions → field < length (fields_at t at)
    → field_card len at field ≡ card → next ≡ field + 1 → ((target : Option ℕ) → slice_get (fields_at t at) field ≡ Some target
    → new ≡ with_field t.words_per_region card (field_word at field) target mid)
    → ((target : ℕ) → slice_get (fields_at t at) field ≡ Some (Some target)
    → target / t.words_per_region ≢ field_word at field / t.words_per_region → may_lead new (target / t.words_per_region) card ≡ true)
    → IsPartly t.words_per_region kept len card at start field old mid → IsPartly t.words_per_region kept len card at start next old new
partly_next t kept len card at start field next old mid new same inside count known in_card n after covered p =
    let f = field_at t at field known in
    let s : Stored = f.object in
    let target : Option ℕ = get_or (fields s) field None in
    let there : slice_get (fields s) field ≡ Some target = slice_get-get_or (fields s) field None f.within in
    let pointers : fields_at t at ≡ (fields s) = fields_of t at s f.is in
    let read : slice_get (fields_at t at) field ≡ Some target = ap (λ (l : List (Option ℕ)). slice_get l field) pointers ∙ there in
    let kept_is : kept at ≡ Some s = same ∙ f.is in
    let step = after target read in
    let grows = field_grows t.words_per_region card (field_word at field) (length t.regions) target mid new
    (λ v e. let h = inside field v (read ∙ ap Some e) in omega (arith, h, count)) step in
    record {
      adds = adds_more t.words_per_region kept len card old mid new p.adds
          (field_adds t.words_per_region kept len card at field s target mid new kept_is there in_card step);
      done = λ i v l h x. elim (cases_lt i field) [
        | inl lt ↦ grows (v / t.words_per_region) card (p.done i v l lt x)
        | inr ge ↦
            let e : i ≡ field = omega arith in
            let k = x.kept_is in
            let o : x.object ≡ s = cc in
            let now : slice_get (fields_at t at) field ≡ Some (Some v) =
            ap (λ (l : List (Option ℕ)). slice_get l field) pointers ∙ ap (λ (q : Stored). slice_get (fields q) field) (sym o)
            ∙ ap (λ (j : ℕ). slice_get (fields x.object) j) (sym e) ∙ x.field_is in
            covered v now (subst (λ (j : ℕ). v / t.words_per_region ≢ field_word at j / t.words_per_region) e x.leaves)
      ];
    }

-- nil fields lead nowhere
pub partly_nil : (t : Table) (kept : ℕ → Option Stored) (len card at start field next : ℕ) (old new : Sets) → kept at ≡ object_at t at
    → ((i : ℕ) → field ≤ i → i < next → slice_get (fields_at t at) i ≡ Some None)
    → IsPartly t.words_per_region kept len card at start field old new → IsPartly t.words_per_region kept len card at start next old new
partly_nil t kept len card at start field next old new same nil p = record {
  adds = p.adds;
  done = λ i v l h x. elim (cases_lt i field) [
    | inl lt ↦ p.done i v l lt x
    | inr ge ↦ absurd (
        let none = nil i ge h in
        let pointers = fields_of t at x.object (sym same ∙ x.kept_is) in
        let some : slice_get (fields_at t at) i ≡ Some (Some v) = ap (λ (l : List (Option ℕ)). slice_get l i) pointers ∙ x.field_is in
        let both : Some None ≡ Some (Some v) = sym none ∙ some in
        cc)
  ];
}

-- the region of a word's card is the word's
pub region_of_card : (words len cards w : ℕ) → 0 < words → words ≡ cards * len → w / len / cards ≡ w / words
region_of_card words len cards w z e =
    let some : 0 < len = card_has_words len words cards z e in
    sym (mul-div-mul_right (w / len) cards some) ∙ ap (λ (n : ℕ). w / len * len / n) (sym e)
    ∙ sym (card_region w len words cards (w / len) z e refl)

-- the region of a card's first word is the card's
pub region_of_first : (words len cards card : ℕ) → 0 < words → words ≡ cards * len → card / cards ≡ card * len / words
region_of_first words len cards card z e =
    let some = card_has_words len words cards z e in
    ap (λ (n : ℕ). n / cards) (sym (div_is (card * len) len card (omega arith) (omega arith)))
    ∙ region_of_card words len cards (card * len) z e

-- the fields from start up to end are those in the card
pub record AreInCard (len card at count start end : ℕ) : Type 0 where
  pub within : end ≤ count
  pub in_card : (i : ℕ) → start ≤ i → i < end → field_card len at i ≡ card
  pub all : (i : ℕ) → i < count → field_card len at i ≡ card → (start ≤ i) × (i < end)

pub fields_in_card : (len card at count w n start upto end : ℕ) → 0 < len → w ≡ at → n ≡ card → start ≡ n * len - (w + 2)
    → upto ≡ n * len + len - (w + 2) → end ≡ min upto count → AreInCard len card at count start end
fields_in_card len card at count w n start upto end z f g h u e =
    let from : n * len ≡ card * len = ap (λ (m : ℕ). m * len) g in
    record {
      within = omega arith;
      in_card = λ i l b. div_is (field_word at i) len card (omega arith) (omega arith);
      all = λ i b q.
          let low = div_low (field_word at i) len card z q in
          let high = div_high (field_word at i) len card z q in
          (omega (arith, low), omega (arith, high));
    }

pub partly_last : (t : Table) (kept : ℕ → Option Stored) (len card at count start end field : ℕ) (old new : Sets) → kept at ≡ object_at t at
    → count ≡ length (fields_at t at) → AreInCard len card at count start end → end ≤ field
    → IsPartly t.words_per_region kept len card at start field old new → IsScanned t.words_per_region kept len card at old new
partly_last t kept len card at count start end field old new same e r past p = record {
  adds = p.adds;
  covered = record {
    each = λ i v x y.
        let inside = slice_get_within (fields x.object) i (Some v) x.field_is in
        let pointers = fields_of t at x.object (sym same ∙ x.kept_is) in
        let q = r.all i (omega (arith, inside, e, ap (λ (l : List (Option ℕ)). length l) pointers)) y in
        p.done i v q.0 (omega (arith, q.1)) x;
  };
}

-- ---- sizes
-- a card ends where the heap does or before
pub card_end : (t : Table) (len card : ℕ) (s : Sets) → SetsFit t len s → card < card_count s
    → card * len + len ≤ length t.regions * t.words_per_region
card_end t len card s f h =
    let known : card < length t.regions * s.cards_per_region = subst (λ (n : ℕ). card < n * s.cards_per_region) f.each_region h in
    card_within card len t.words_per_region s.cards_per_region (length t.regions) f.whole_cards known

-- there are as many sets and cards as before
pub adds_fit : (t : Table) (kept : ℕ → Option Stored) (len card : ℕ) (old new : Sets) → SetsFit t len old
    → AddsCard t.words_per_region kept len card old new → SetsFit t len new × (card_count new ≡ card_count old)
adds_fit t kept len card old new f a =
    let e = adds_sets t.words_per_region kept len card old new a in
    (record { whole_cards = f.whole_cards ∙ ap (λ (q : ℕ). q * len) (sym e.1); each_region = e.0 ∙ f.each_region }, rw (e.0, e.1) refl)

-- where the fields that are in the card lead into two regions, the card's own and one whose set has the card, they are covered
pub covered_near : (t : Table) (kept : ℕ → Option Stored) (len card at count start end home last : ℕ) (covered : ℕ → ℕ → Bool)
    → Stands t kept → AreInCard len card at count start end → count ≡ length (fields_at t at) → LeadInto t at start end home last
    → ((w : ℕ) → w / len ≡ card → w / t.words_per_region ≡ home) → (last ≢ home → covered last card ≡ true)
    → IsObjectCovered t.words_per_region kept len card covered at
covered_near t kept len card at count start end home last covered stands r e near own known = record {
  each = λ i v x y.
      let inside = slice_get_within (fields x.object) i (Some v) x.field_is in
      let pointers = fields_of t at x.object (stands at x.object x.kept_is) in
      let now : slice_get (fields_at t at) i ≡ Some (Some v) = ap (λ (l : List (Option ℕ)). slice_get l i) pointers ∙ x.field_is in
      let q = r.all i (omega (arith, inside, e, ap (λ (l : List (Option ℕ)). length l) pointers)) y in
      let here = own (field_word at i) y in
      elim (near i v q.0 q.1 now) [
        | inl home_is ↦ absurd (x.leaves (home_is ∙ sym here))
        | inr last_is ↦ elim (cases_eq last home) [
          | inl same ↦ absurd (x.leaves (last_is ∙ same ∙ sym here))
          | inr differs ↦ ap (λ (k : ℕ). covered k card) last_is ∙ known differs
        ]
      ];
}
