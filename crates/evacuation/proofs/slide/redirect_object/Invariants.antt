use Rattle.std.proofs.Common.{◌≡◌, ◌≤◌, ◌<◌, ◌-◌, ℕ, IsSome, length}
use Rattle.regions.specs.Table.{fields_at}
use Rattle.refinement.proofs.Fields.{AreInCard}
use Rattle.evacuation.specs.Sliding.{SlideGoesOn, Names, kept_at}
use Rattle.evacuation.proofs.slide.redirect_object.Given as goal

abbrev pub ghost-redirect_field : goal.ghost-redirect_field
ghost-redirect_field g a = g.slide

abbrev pub invariant-fields : goal.invariant-fields
invariant-fields g l = record {
  on : SlideGoesOn g.slide (λ c. c ≡ l.card) l.initial.table l.table l.initial.noted l.noted;
  object : IsSome (kept_at g.slide l.table l.at);
  count : length (fields_at l.table l.at) ≡ l.count;
  lie : AreInCard g.slide.card_words l.card l.at l.count l.start l.end;
  low : l.start ≤ l.next;
  unnamed : (i : ℕ) → l.start ≤ i → i < l.next → Names g.slide l.table l.at i g.slide.from → ⊥;
}

abbrev pub decreases-fields : goal.decreases-fields
decreases-fields g l = l.end - l.next
