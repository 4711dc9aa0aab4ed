use Rattle.std.proofs.Common.{◌≡◌, ◌∙◌, ◌+◌, ◌<◌, ◌≤◌, ℕ, List, Option, Some, None, false, ap, refl, inl, inr, arith, slice_get}
use Rattle.std.specs.Option.{is_some}
use Rattle.std.proofs.lemmas.Bool.{cases_lt}
use Rattle.regions.specs.Table.{fields_at}
use Rattle.refinement.proofs.links.next_link_counted.Goals as goal

none_of : (o : Option ℕ) → is_some o ≡ false → o ≡ None
none_of None e = refl
none_of (Some a) e = cc

-- one more field is nil
nil_on : (xs : List (Option ℕ)) (start field : ℕ) (o : Option ℕ) → ((i : ℕ) → start ≤ i → i < field → slice_get xs i ≡ Some None)
    → slice_get xs field ≡ Some o → o ≡ None → (i : ℕ) → start ≤ i → i < field + 1 → slice_get xs i ≡ Some None
nil_on xs start field o nil here none i l h = elim (cases_lt i field) [
  | inl lt ↦ nil i l lt
  | inr ge ↦
      let e : i ≡ field = omega arith in
      ap (λ (n : ℕ). slice_get xs n) e ∙ here ∙ ap Some none
]

pub fields-init : goal.fields-init
fields-init c = record { low = omega arith; high = omega arith; spent = omega arith; nil = λ i l h. absurd (omega arith) }

pub fields-preserved : goal.fields-preserved
fields-preserved c =
    let v = c.fields.invariant in
    record {
      low = omega (arith, v.low);
      high = omega arith;
      spent = omega (arith, v.spent, c.tick.ensures);
      nil = λ i l h. nil_on (fields_at c.args.table.now c.args.object) c.args.start c.fields.field c.get_field.result v.nil
          c.get_field.ensures (none_of c.get_field.result (cc)) i l (omega arith);
    }

pub returns-in-Some-clause-nil : goal.returns-in-Some-clause-nil
returns-in-Some-clause-nil c = λ i l h k. c.fields.invariant.nil i l k

pub returns-then-field-end-clause-nil : goal.returns-then-field-end-clause-nil
returns-then-field-end-clause-nil c =
    let v = c.fields.invariant in
    λ i l h k. nil_on (fields_at c.args.table.now c.args.object) c.args.start c.fields.field c.get_field.result v.nil
    c.get_field.ensures (none_of c.get_field.result (cc)) i l (omega arith)
