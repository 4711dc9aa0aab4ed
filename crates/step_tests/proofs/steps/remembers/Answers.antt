use Rattle.std.specs.Prelude.{ℕ, ◌≡◌, ◌*◌, ◌<◌, length}
use Rattle.std.proofs.Common.{arith, subst, sym}
use Rattle.std.proofs.Math.Nat.{mul-div_cancel}
use Rattle.heap_words.specs.declared.config.Config.{Config}
use Rattle.heap_words.specs.Configs.{card_words}
use Rattle.regions.specs.Table.{Table}
use Rattle.cards.specs.Cards.{Cards}
use Rattle.remembered_sets.specs.Sets.{Sets, card_count}
use Rattle.step_core.specs.Stands.{CoreState, IsCore}
use Rattle.step_core.proofs.Mutating.Noting.{some_card, card_inside}
use Rattle.step_tests.proofs.steps.remembers.Goals as goal

-- a card whose first word lies in the heap is one of the cards
card_known : (k : CoreState) (t : Table) (config : Config) (card long regions words : ℕ) → IsCore k → t ≡ k.table → config ≡ k.config
    → regions ≡ length t.regions → words ≡ t.words_per_region → long ≡ card_words config → card * long < regions * words
    → card < length k.cards.dirty
card_known k t config card long regions words core et ec er ew el lt =
    let whole : ℕ = card_words k.config in
    let e : long ≡ whole = subst (λ (x : Config). long ≡ card_words x) ec el in
    let lt' : card * whole < length t.regions * t.words_per_region =
    subst (λ (n : ℕ). card * n < length t.regions * t.words_per_region) e
    (subst (λ (n : ℕ). card * long < n * t.words_per_region) er (subst (λ (w : ℕ). card * long < regions * w) ew lt)) in
    let inside = subst (λ (x : Table). card * whole < length x.regions * x.words_per_region) et lt' in
    subst (λ (n : ℕ). n < length k.cards.dirty) (mul-div_cancel card (some_card k core)) (card_inside k (card * whole) core inside)

pub covers-covered-requires-clause-card : goal.covers-covered-requires-clause-card
covers-covered-requires-clause-card c =
    let known = card_known _ _ _ c.args.card _ _ _ c.law_remembers.ensures.core c.table-table.ensures c.config.ensures.config
    c.region_count-regions.ensures c.words_per_region.ensures c.card_words-length.ensures (omega (arith, c.if-card-length.false)) in
    subst (λ (s : Sets). c.new-2.result < card_count s) (sym c.sets.ensures)
    (omega (arith, known, c.new-2.ensures, c.law_remembers.ensures.core.cards.each_card))

pub is_dirty-requires : goal.is_dirty-requires
is_dirty-requires c =
    let known = card_known _ _ _ c.args.card _ _ _ c.law_remembers.ensures.core c.table-table.ensures c.config.ensures.config
    c.region_count-regions.ensures c.words_per_region.ensures c.card_words-length.ensures (omega (arith, c.if-card-length.false)) in
    subst (λ (s : Cards). c.new-3.result < length s.dirty) (sym c.cards.ensures) (omega (arith, known, c.new-3.ensures))
