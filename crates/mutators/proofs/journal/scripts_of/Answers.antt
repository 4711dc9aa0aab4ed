use Rattle.std.proofs.Common.{◌∙◌, ◌≡◌, ◌≤◌, refl, map, ap, sym, subst, ℕ, length, get_or, List, vec_capacity}
use Rattle.std.proofs.lemmas.List.{length-map}
use Rattle.mutators.specs.Scripts.{scripted, lines_of}
use Rattle.mutators.proofs.Filling.{filled, as_many, has_room}
use Rattle.mutators.proofs.journal.scripts_of.Goals as goal

pub add_line-requires-clause-room : goal.add_line-requires-clause-room
add_line-requires-clause-room c =
    let was = c.loop-step.invariant in
    let m = c.args.config.now.mutators in
    has_room m (map (λ s. s.items) c.loop-step.scripts.items) (map (λ s. vec_capacity s) c.loop-step.scripts.items) c.args.steps.now
    c.loop-step.step-index c.place_of.result _ _ c.place_of.ensures.within c.place_of.ensures.is c.loop-step-test.true refl was.1
    (subst (λ (rs : List ℕ). (k : ℕ) → k ≤ m → get_or rs k 0 ≡ length (lines_of (scripted m k) c.args.steps.now)) (sym was.2)
    c.in_ok-rooms.ensures.each)

pub loop-step-preserved : goal.loop-step-preserved
loop-step-preserved c =
    let was = c.loop-step.invariant in
    let old = c.loop-step.scripts.items in
    let added = c.add_line.ensures.lines in (
      as_many (λ s. s.items) old c.add_line.new.scripts.items c.place_of.result _ added ∙ was.0,
      filled c.args.config.now.mutators (map (λ s. s.items) old) (map (λ s. s.items) c.add_line.new.scripts.items) c.args.steps.now
          c.loop-step.step-index c.place_of.result _ _ (length-map old (λ s. s.items) ∙ was.0) c.place_of.ensures.within
          c.place_of.ensures.is c.loop-step-test.true refl added was.1,
      c.add_line.ensures.rooms ∙ was.2,
    )
