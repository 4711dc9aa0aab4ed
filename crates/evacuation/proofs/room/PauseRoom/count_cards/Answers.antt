use Rattle.std.proofs.Common.{◌≡◌, ◌+◌, ◌∙◌, ◌||◌, ℕ, Bool, false, List, length, replicate, count_by, ap}
use Rattle.std.proofs.lemmas.List.{length-replicate}
use Rattle.std.specs.List.{range_with_len}
use Rattle.bit_sets.specs.Bits.{has}
use Rattle.bit_sets.proofs.BitWords.{has_none}
use Rattle.bit_sets.proofs.Counts.{count_flags, count_same}
use Rattle.remembered_sets.specs.Sets.{Sets, card_count, cards_into, may_lead}
use Rattle.evacuation.specs.Rooms.{RoomSizes}
use Rattle.evacuation.proofs.room.PauseRoom.count_cards.Goals as goal

-- the flags, none of which was set, are those of the cards that may lead into the region
flags_into : (s : Sets) (region n : ℕ) (flags : List Bool) → length flags ≡ card_count s
    → ((c : ℕ) → has flags c ≡ (has (replicate n false) c || may_lead s region c))
    → count_by (λ is_in. is_in) flags ≡ cards_into s region
flags_into s region n flags len are = count_flags flags
    ∙ count_same (has flags) (may_lead s region) 0 0 (length flags)
    (λ i l. are (0 + i) ∙ ap (λ (b : Bool). b || may_lead s region (0 + i)) (has_none n (0 + i)))
    ∙ ap (λ (m : ℕ). count_by (may_lead s region) (range_with_len 0 m)) len

pub returns-clause-count : goal.returns-clause-count
returns-clause-count c =
    let room = c.self.inside in
    let cards : length room.visited ≡ card_count c.args.sets.now =
    c.self.invariant.each_card ∙ ap (λ (s : RoomSizes). s.cards) c.self.view_is ∙ c.requires.each_card in
    let len = c.mark_cards.ensures.len ∙ ap length c.clear.ensures ∙ length-replicate (length room.visited) false ∙ cards in
    c.count.ensures ∙ flags_into c.args.sets.now c.args.region (length room.visited) c.mark_cards.new.flags len
    (λ card. c.mark_cards.ensures.flags card ∙ ap (λ (v : List Bool). has v card || may_lead c.args.sets.now c.args.region card)
    c.clear.ensures)
