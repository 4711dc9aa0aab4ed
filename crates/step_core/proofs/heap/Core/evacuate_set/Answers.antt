use Rattle.std.proofs.Common.{rules, ◌≡◌, ℕ, None, false, length, take, ◌∙◌, sym, ap}
use Rattle.alloc_buffers.specs.Placement.{closed}
use Rattle.cards.specs.Cards.{is_dirty}
use Rattle.evacuation.specs.Rooms.{RoomSizes}
use Rattle.step_core.specs.Stands.{ShowsGraph, KeepsFrom}
use Rattle.step_core.proofs.Mutating.Reading.{AllZip-length}
use Rattle.step_core.proofs.Cycles.Cycling.{to_fields}
use Rattle.step_core.proofs.Pauses.Pausing.{can_evacuate, chosen_known, next_count, cards_room}
use Rattle.step_core.proofs.Pauses.Pausing.{paused_shows, paused_keeps, paused_kept, evacuates_from}
use Rattle.step_core.proofs.heap.Core.evacuate_set.Goals as goal

pub evacuate-requires-clause-can : goal.evacuate-requires-clause-can
evacuate-requires-clause-can c =
    let clean = to_fields _ _ c.self.view_is (λ d. (card : ℕ) → is_dirty d.cards card ≡ false) c.requires.clean in
    let none = to_fields _ _ c.self.view_is (λ d. d.clearing ≡ None) c.requires.settled in
    rw (c.card_words.ensures, c.deref-3.ensures.value)
    (can_evacuate _ c.self.invariant c.args.choice c.args.budget _ c.choose_set-count.ensures.chosen clean none)

pub evacuate-requires-clause-each_region : goal.evacuate-requires-clause-each_region
evacuate-requires-clause-each_region c =
    ap (λ (r : RoomSizes). r.regions) c.choose_set-count.ensures.pause_room ∙ c.self.invariant.room.regions
    ∙ sym c.self.invariant.layers.region_count

pub evacuate-requires-clause-each_card : goal.evacuate-requires-clause-each_card
evacuate-requires-clause-each_card c =
    ap (λ (r : RoomSizes). r.cards) c.choose_set-count.ensures.pause_room ∙ cards_room _ c.self.invariant

pub choose_set-count-requires-clause-each_region : goal.choose_set-count-requires-clause-each_region
choose_set-count-requires-clause-each_region c = c.self.invariant.cards.each_region ∙ sym c.self.invariant.layers.region_count

pub choose_set-count-requires-clause-each_card : goal.choose_set-count-requires-clause-each_card
choose_set-count-requires-clause-each_card c = cards_room _ c.self.invariant

pub forget_counts-requires-clause-previous : goal.forget_counts-requires-clause-previous
forget_counts-requires-clause-previous c =
    let clean = to_fields _ _ c.self.view_is (λ d. (card : ℕ) → is_dirty d.cards card ≡ false) c.requires.clean in
    let none = to_fields _ _ c.self.view_is (λ d. d.clearing ≡ None) c.requires.settled in
    rw c.deref.ensures.value
    (chosen_known _ c.self.invariant c.args.choice c.args.budget _ c.choose_set-count.ensures.chosen clean none _
    c.self.invariant.layers.marker.live.each_region)

pub forget_counts-requires-clause-next : goal.forget_counts-requires-clause-next
forget_counts-requires-clause-next c =
    let clean = to_fields _ _ c.self.view_is (λ d. (card : ℕ) → is_dirty d.cards card ≡ false) c.requires.clean in
    let none = to_fields _ _ c.self.view_is (λ d. d.clearing ≡ None) c.requires.settled in
    rw c.deref.ensures.value
    (chosen_known _ c.self.invariant c.args.choice c.args.budget _ c.choose_set-count.ensures.chosen clean none _
    (next_count _ c.self.invariant c.args.choice c.args.budget _ c.choose_set-count.ensures.chosen clean none))

pub forget_ages-requires : goal.forget_ages-requires
forget_ages-requires c =
    let clean = to_fields _ _ c.self.view_is (λ d. (card : ℕ) → is_dirty d.cards card ≡ false) c.requires.clean in
    let none = to_fields _ _ c.self.view_is (λ d. d.clearing ≡ None) c.requires.settled in
    rw c.deref-2.ensures.value
    (chosen_known _ c.self.invariant c.args.choice c.args.budget _ c.choose_set-count.ensures.chosen clean none _
    (c.self.invariant.ages ∙ sym c.self.invariant.layers.region_count))

pub invariant_of-self : goal.invariant_of-self
invariant_of-self c =
    let clean = to_fields _ _ c.self.view_is (λ d. (card : ℕ) → is_dirty d.cards card ≡ false) c.requires.clean in
    let none = to_fields _ _ c.self.view_is (λ d. d.clearing ≡ None) c.requires.settled in
    let closed_all =
    to_fields _ _ c.self.view_is (λ d. d.buffers ≡ closed d.buffers.words (length d.buffers.open_buffers)) c.requires.closed in
    let e = c.evacuate.ensures in
    let ev = rw (c.is_third.ensures, c.card_words.ensures, c.deref-3.ensures.value) at e.evacuated in
    let places = sym (AllZip-length _ _ _ ev.relocates.roots) in
    rw (e.places, e.room, c.choose_set-count.ensures.pause_room, c.choose_set-count.ensures.room)
    (paused_kept _ c.self.invariant c.args.choice c.args.budget _ c.choose_set-count.ensures.chosen clean none _ _ _ _ _ _ _ _ ev
    (rw c.deref.ensures.value at c.forget_counts.ensures) _ (rw c.deref-2.ensures.value at c.forget_ages.ensures) closed_all places)

pub returns : goal.returns
returns c =
    let clean = to_fields _ _ c.self.view_is (λ d. (card : ℕ) → is_dirty d.cards card ≡ false) c.requires.clean in
    let none = to_fields _ _ c.self.view_is (λ d. d.clearing ≡ None) c.requires.settled in
    let closed_all =
    to_fields _ _ c.self.view_is (λ d. d.buffers ≡ closed d.buffers.words (length d.buffers.open_buffers)) c.requires.closed in
    let e = c.evacuate.ensures in
    let ev = rw (c.is_third.ensures, c.card_words.ensures, c.deref-3.ensures.value) at e.evacuated in
    let forgets = rw c.deref.ensures.value at c.forget_counts.ensures in
    let aged = rw c.deref-2.ensures.value at c.forget_ages.ensures in
    let rows = c.choose_set-count.ensures in
    record {
      shows = λ g' s. rw (e.places, e.room, rows.pause_room, rows.room) (paused_shows _ c.self.invariant c.args.choice c.args.budget _
          rows.chosen clean none _ _ _ _ _ _ _ _ ev forgets _ aged g' (to_fields _ _ c.self.view_is (λ d. ShowsGraph g' d) s));
      keeps = λ s f. rw (e.places, e.room, rows.pause_room, rows.room) (paused_keeps _ c.self.invariant c.args.choice c.args.budget _
          rows.chosen clean none _ _ _ _ _ _ _ _ ev forgets _ aged s (to_fields _ _ c.self.view_is (λ d. KeepsFrom s d) f));
      evacuates = rw (e.places, e.room, rows.pause_room, rows.room) (evacuates_from _ c.self.invariant c.args.choice c.args.budget _
          rows.chosen clean none _ _ _ _ _ _ _ _ ev forgets _ aged closed_all _ c.self.view_is _
          (e.regions ∙ ap (λ xs. length (take c.choose_set-count.result xs)) c.deref-3.ensures.value));
      few = search rules;
    }
