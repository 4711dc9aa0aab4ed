use Rattle.std.proofs.Common.{◌∙◌, refl, sym, inl, inr, arith}
use Rattle.std.proofs.lemmas.Bool.{cases_eq, cases_lt}
use Rattle.refinement.proofs.Fields.{fields_in_card}
use Rattle.refinement.proofs.Holders.{object_within}
use Rattle.evacuation.proofs.Slides.KeptObjects.{some_kept, kept_object, is_some}
use Rattle.evacuation.proofs.Slides.Redirecting.{stays_on, goes_further, names_before, object_stays, count_stays}
use Rattle.evacuation.proofs.Slides.Written.{names_nil, names_within, names_at}
use Rattle.evacuation.proofs.Slides.Cards.{card_small, has_words}
use Rattle.evacuation.proofs.slide.redirect_object.Goals as goal

pub overflow_add-first : goal.overflow_add-first
overflow_add-first g c =
    let (stands, (way, (words, (known, object)))) = c.requires in
    let (y, here) = some_kept g.slide c.args.table.now c.args.at object in
    let a = object_within c.args.table.now c.args.at y c.law.ensures (kept_object g.slide c.args.table.now c.args.at y here) in
    let s = c.law.ensures.in_all in
    let w = c.word-first.ensures in
    omega (arith, a, s, w)

pub overflow_mul-from : goal.overflow_mul-from
overflow_mul-from g c =
    let (stands, (way, (words, (known, object)))) = c.requires in
    let a = card_small g.slide c.args.table.now c.args.noted.now c.args.card stands known in
    let s = c.law.ensures.in_all in
    rw words (omega (arith, a, s))

pub overflow_add-to : goal.overflow_add-to
overflow_add-to g c =
    let (stands, (way, (words, (known, object)))) = c.requires in
    let a = card_small g.slide c.args.table.now c.args.noted.now c.args.card stands known in
    let s = c.law.ensures.in_all in
    rw words (omega (arith, a, s))

pub field_count-count-requires : goal.field_count-count-requires
field_count-count-requires g c =
    let (stands, (way, (words, (known, object)))) = c.requires in
    let (y, here) = some_kept g.slide c.args.table.now c.args.at object in
    is_some _ y (kept_object g.slide c.args.table.now c.args.at y here)

pub next_link-requires : goal.next_link-requires
next_link-requires g c =
    let v = c.fields.invariant in
    let m = v.lie.within in
    let n = v.count in
    omega (arith, m, n)

pub fields-init : goal.fields-init
fields-init g c =
    let (stands, (way, (words, (known, object)))) = c.requires in
    let z = has_words g.slide c.args.table.now c.args.noted.now stands c.law.ensures c.args.card in
    record {
      on = stays_on g.slide _ c.args.table.now c.args.noted.now stands;
      object = object;
      count = sym c.field_count-count.ensures;
      lie = fields_in_card g.slide.card_words c.args.card c.args.at c.field_count-count.result c.word-first.result
          c.args.card c.saturating_sub-start.result c.saturating_sub.result c.min-end.result z c.word-first.ensures refl
          (rw words at c.saturating_sub-start.ensures) (rw words at c.saturating_sub.ensures) c.min-end.ensures;
      low = omega arith;
      unnamed = λ i l h. absurd (omega arith);
    }

pub redirect_field-requires : goal.redirect_field-requires
redirect_field-requires g c =
    let (stands, (way, (words, (known, object)))) = c.requires in
    let v = c.fields.invariant in
    let found = c.in-Some.ensures in
    let low = v.low in
    let at_least = found.low in
    let in_card = v.lie.in_card c.in-Some.link.0 (omega arith) found.high in
    let same = v.on.stands.each_card in
    let was = stands.each_card in
    (v.on.stands, (way, (omega (arith, known, same, was), (in_card, (v.object, found.link)))))

pub fields-preserved : goal.fields-preserved
fields-preserved g c =
    let (stands, (way, (words, (known, object)))) = c.requires in
    let v = c.fields.invariant in
    let on = c.redirect_field.ensures.goes_on in
    let apart = stands.apart in
    record {
      on = goes_further g.slide _ c.args.table.now c.fields.table c.redirect_field.new.table c.args.noted.now c.fields.noted
          c.redirect_field.new.noted v.on on;
      object = object_stays g.slide apart c.fields.table c.redirect_field.new.table on.table c.args.at v.object;
      count = count_stays g.slide apart c.fields.table c.redirect_field.new.table on.table c.args.at v.object ∙ v.count;
      lie = v.lie;
      low = (let a = c.in-Some.ensures.low in let b = v.low in omega arith);
      unnamed = λ i l h n.
          let before = names_before g.slide apart c.fields.table c.redirect_field.new.table on.table c.args.at i n in
          elim (cases_lt i c.fields.next) [
            | inl low ↦ v.unnamed i l low before
            | inr high ↦ elim (cases_eq i c.in-Some.link.0) [
              | inl e ↦ c.redirect_field.ensures.unnamed
                  (names_at g.slide c.redirect_field.new.table c.args.at i c.in-Some.link.0 g.slide.from e n)
              | inr o ↦ names_nil g.slide c.fields.table c.args.at i g.slide.from
                  (c.in-Some.ensures.nil i high (let z = c.in-Some.ensures.high in omega arith) (omega arith)) before
            ]
          ];
    }

pub returns-clause-unnamed : goal.returns-clause-unnamed
returns-clause-unnamed g c =
    let v = c.fields.invariant in
    λ i n e.
    let low = names_within g.slide c.fields.table c.args.at i g.slide.from n in
    let count = v.count in
    let (a, b) = v.lie.all i (omega (arith, low, count)) e in
    elim (cases_lt i c.fields.next) [
      | inl under ↦ v.unnamed i a under n
      | inr high ↦ names_nil g.slide c.fields.table c.args.at i g.slide.from (c.in_default.ensures.nil i high b tt) n
    ]
