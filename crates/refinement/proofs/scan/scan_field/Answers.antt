use Rattle.std.proofs.Common.{◌≡◌, ◌≢◌, ◌∙◌, ◌/◌, ℕ, Bool, true, false, refl, sym, subst, if◌then◌else◌}
use Rattle.remembered_sets.specs.Sets.{Sets, added, may_lead}
use Rattle.remembered_sets.proofs.Laws.{added_again}
use Rattle.refinement.proofs.scan.scan_field.Goals as goal

-- a card that may lead into the region already is added without a change
nothing_new : (s : Sets) (is_home : Bool) (region card : ℕ) → may_lead s region card ≡ true
    → s ≡ (if is_home then s else added s region card)
nothing_new s true region card leads = refl
nothing_new s false region card leads = sym (added_again s region card leads)

pub returns-then-number-last-clause-after : goal.returns-then-number-last-clause-after
returns-then-number-last-clause-after c =
    let last : c.args.target / c.args.table.now.words_per_region ≡ c.args.last =
    sym (c.number-2.ensures ∙ c.region_of-region.ensures) ∙ c.if-number-last.true in
    let away : c.args.last ≢ c.args.home = λ e. c.if-number-home.false (c.number.ensures ∙ c.region_of-region.ensures ∙ last ∙ e) in
    nothing_new c.args.sets.now _ (c.args.target / c.args.table.now.words_per_region) c.args.card
    (subst (λ (k : ℕ). may_lead c.args.sets.now k c.args.card ≡ true) (sym last) (c.requires.last away))
