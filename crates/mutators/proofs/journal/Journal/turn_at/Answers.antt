-- The line that was read is the actor's next, so the turn is done as `row_turn` says.
use Rattle.std.proofs.Common.{rules, ◌<◌, ◌≤◌, ap, arith, length}
use Rattle.std.proofs.lemmas.List.{length-map}
use Rattle.mutators.specs.Journals.{mutators_of}
use Rattle.mutators.proofs.Rows.{row_turn, line_at, next_is, none_is, none_turn, place_is}
use Rattle.mutators.proofs.journal.Journal.turn_at.Goals as goal

pub returns-then-place-len-clause-turn : goal.returns-then-place-len-clause-turn
returns-then-place-len-clause-turn c =
    let d = c.self.inside in
    let k = c.args.k in
    let below : k ≤ d.core.config.mutators = omega (arith, ap mutators_of c.self.view_is) in
    let spot : k < length d.places.items = omega (arith, c.self.invariant.each_place) in
    let row : k < length d.scripts.items = omega (arith, simp length-map at c.self.invariant.each_script) in
    none_turn c.args.self.now _ c.args.actor k c.self.view_is c.requires.actor
    (none_is (λ v. v.items) d.scripts.items d.places.items k c.index-script.result.now c.index-place.result.now row spot
    c.index-place.ensures c.index-script.ensures (search rules))

pub invariant_of-self-2 : goal.invariant_of-self-2
invariant_of-self-2 c =
    let d = c.self.inside in
    let k = c.args.k in
    let below : k ≤ d.core.config.mutators = omega (arith, ap mutators_of c.self.view_is) in
    let spot : k < length d.places.items = omega (arith, c.self.invariant.each_place) in
    let row : k < length d.scripts.items = omega (arith, simp length-map at c.self.invariant.each_script) in
    let next = next_is (λ v. v.items) d.scripts.items d.places.items k c.index-script.result.now c.index-place.result.now
    c.index-step.result.now row spot c.index-place.ensures c.index-script.ensures (search rules) c.index-step.ensures in
    (row_turn c.args.self.now _ c.record.new.core c.args.actor c.args.k c.index-place.result.now c.index-step.result.now
    c.in_ok-record.field-0 c.record.new.events.items c.self.view_is c.self.invariant c.requires.seat c.requires.actor next
    (place_is d.places.items k c.index-place.result.now spot c.index-place.ensures) c.in_ok-record.ensures.runs c.in_ok-record.ensures.does
    c.in_ok-record.ensures.config c.in_ok-record.ensures.events).0

pub returns-clause-turn : goal.returns-clause-turn
returns-clause-turn c =
    let d = c.self.inside in
    let k = c.args.k in
    let below : k ≤ d.core.config.mutators = omega (arith, ap mutators_of c.self.view_is) in
    let spot : k < length d.places.items = omega (arith, c.self.invariant.each_place) in
    let row : k < length d.scripts.items = omega (arith, simp length-map at c.self.invariant.each_script) in
    let next = next_is (λ v. v.items) d.scripts.items d.places.items k c.index-script.result.now c.index-place.result.now
    c.index-step.result.now row spot c.index-place.ensures c.index-script.ensures (search rules) c.index-step.ensures in
    (row_turn c.args.self.now _ c.record.new.core c.args.actor c.args.k c.index-place.result.now c.index-step.result.now
    c.in_ok-record.field-0 c.record.new.events.items c.self.view_is c.self.invariant c.requires.seat c.requires.actor next
    (place_is d.places.items k c.index-place.result.now spot c.index-place.ensures) c.in_ok-record.ensures.runs c.in_ok-record.ensures.does
    c.in_ok-record.ensures.config c.in_ok-record.ensures.events).1

pub record-requires : goal.record-requires
record-requires c =
    let d = c.self.inside in
    let k = c.args.k in
    let below : k ≤ d.core.config.mutators = omega (arith, ap mutators_of c.self.view_is) in
    let spot : k < length d.places.items = omega (arith, c.self.invariant.each_place) in
    let row : k < length d.scripts.items = omega (arith, simp length-map at c.self.invariant.each_script) in
    let next = next_is (λ v. v.items) d.scripts.items d.places.items k c.index-script.result.now c.index-place.result.now
    c.index-step.result.now row spot c.index-place.ensures c.index-script.ensures (search rules) c.index-step.ensures in
    (line_at _ k c.index-step.result.now c.self.invariant below next).0
