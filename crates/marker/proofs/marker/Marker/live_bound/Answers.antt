use Rattle.std.proofs.Common.{◌∙◌, refl, arith}
use Rattle.marker.proofs.LiveCounts.{look_is, look_small}
use Rattle.marker.proofs.marker.Marker.live_bound.Goals as goal

pub overflow_add-result : goal.overflow_add-result
overflow_add-result c =
    let st = c.requires.stands in
    let is = look_is c.args.table.now c.args.self.now.tams.previous c.args.self.now.bitmaps.previous c.args.self.now.live.previous
    c.args.region c.previous-2.result _ c.word.result c.word-2.result
    c.law.ensures st.previous st.live c.requires.known c.previous-2.ensures (c.word.ensures ∙ c.top.ensures)
    (c.word-2.ensures ∙ c.previous.ensures) refl in
    omega (
      arith,
      is,
      look_small c.args.table.now c.args.self.now.tams.previous c.args.self.now.bitmaps.previous c.args.region c.law.ensures
          st.previous c.requires.known c.requires.ordinary,
    )

pub returns : goal.returns
returns c =
    let st = c.requires.stands in
    look_is c.args.table.now c.args.self.now.tams.previous c.args.self.now.bitmaps.previous c.args.self.now.live.previous c.args.region
    c.previous-2.result _ c.word.result c.word-2.result c.law.ensures st.previous st.live c.requires.known c.previous-2.ensures
    (c.word.ensures ∙ c.top.ensures) (c.word-2.ensures ∙ c.previous.ensures) refl
