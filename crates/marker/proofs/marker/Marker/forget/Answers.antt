use Rattle.std.proofs.Common.{◌≡◌, ◌+◌, ◌*◌, sym, ◌∙◌}
use Rattle.marker.proofs.Forgotten.{forgotten_stands, none_counted}
use Rattle.marker.proofs.marker.Marker.forget.Goals as goal

pub returns-clause-stands : goal.returns-clause-stands
returns-clause-stands c =
    let from : c.new-from.result ≡ c.args.region * c.args.table.now.words_per_region = cc in
    let to : c.new-to.result ≡ c.args.region * c.args.table.now.words_per_region + c.args.table.now.words_per_region = cc in
    forgotten_stands c.args.table.now c.args.self.now c.args.region c.new-from.result c.new-to.result c.clear_counted.new.marks
    c.clear_counted-2.new.marks c.reset.new.self c.forget.new.self c.law.ensures.positive
    c.requires.stands c.requires.idle c.requires.known from to c.clear_counted.ensures.len c.clear_counted.ensures.marks
    c.clear_counted-2.ensures.len c.clear_counted-2.ensures.marks c.reset.ensures c.forget.ensures

-- src/cycle.rt:272:9
pub clear_counted-requires-clause-counted : goal.clear_counted-requires-clause-counted
clear_counted-requires-clause-counted c none =
    let from : c.new-from.result ≡ c.args.region * c.args.table.now.words_per_region = cc in
    let to : c.new-to.result ≡ c.args.region * c.args.table.now.words_per_region + c.args.table.now.words_per_region = cc in
    none_counted c.args.table.now c.args.self.now.tams.previous c.args.self.now.bitmaps.previous c.args.self.now.live.previous
    c.args.region c.new-from.result c.new-to.result c.requires.stands.previous c.requires.stands.live c.requires.known from to
    (sym c.previous-previous.ensures ∙ none)

-- src/cycle.rt:274:9
pub clear_counted-requires-2-clause-counted : goal.clear_counted-requires-2-clause-counted
clear_counted-requires-2-clause-counted c none =
    let from : c.new-from.result ≡ c.args.region * c.args.table.now.words_per_region = cc in
    let to : c.new-to.result ≡ c.args.region * c.args.table.now.words_per_region + c.args.table.now.words_per_region = cc in
    none_counted c.args.table.now c.args.self.now.tams.next c.args.self.now.bitmaps.next c.args.self.now.live.next
    c.args.region c.new-from.result c.new-to.result c.requires.stands.next c.requires.stands.live_next c.requires.known from to
    (sym c.next-next.ensures ∙ none)
