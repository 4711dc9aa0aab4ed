use Rattle.regions.proofs.Common.{◌∙◌, sym, ap, refl}
use Rattle.evacuation.specs.Rooms.{RoomSizes}
use Rattle.evacuation.specs.Evacuates.{Layers}
use Rattle.region_tests.specs.Evacuated.{IsFresh}
use Rattle.region_tests.proofs.PauseSamples.{can_evacuate}
use Rattle.region_tests.proofs.pauses.pause.Goals as goal

pub evacuate-moved-requires-clause-can : goal.evacuate-moved-requires-clause-can
evacuate-moved-requires-clause-can c =
    let h : Layers = record {
      table = c.args.table;
      tams = c.in_ok-tams.tams;
      previous = c.in_ok-bitmaps.bitmaps.previous;
      next = c.in_ok-bitmaps.bitmaps.next;
      cards = c.in_ok-cards.cards;
      sets = c.args.sets;
      roots = c.in_ok-roots.roots.words;
    } in
    let fresh : IsFresh c.args.table c.args.sets h = record {
      table_is = refl;
      previous_tops = c.in_ok-tams.ensures.previous;
      next_tops = c.in_ok-tams.ensures.next;
      previous = c.in_ok-bitmaps.ensures.previous;
      next = c.in_ok-bitmaps.ensures.next;
      cards = c.in_ok-cards.ensures;
      sets_are = refl;
      roots = c.in_ok-roots.ensures;
    } in
    can_evacuate c.args.table c.args.sets c.args.row c.requires h fresh

pub evacuate-moved-requires-clause-each_region : goal.evacuate-moved-requires-clause-each_region
evacuate-moved-requires-clause-each_region c = ap (λ (r : RoomSizes). r.regions) c.in_ok-room.ensures ∙ sym c.requires.count

pub evacuate-moved-requires-clause-each_card : goal.evacuate-moved-requires-clause-each_card
evacuate-moved-requires-clause-each_card c =
    let two = c.requires.cards in
    let four = c.requires.each in
    ap (λ (r : RoomSizes). r.cards) c.in_ok-room.ensures ∙ sym (rw (two, four) refl)

pub returns-clause-count : goal.returns-clause-count
returns-clause-count c = c.evacuate-moved.ensures.evacuated.regions.count ∙ c.requires.count

pub returns-clause-words : goal.returns-clause-words
returns-clause-words c = c.evacuate-moved.ensures.evacuated.regions.size ∙ c.requires.words
