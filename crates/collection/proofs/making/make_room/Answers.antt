use Rattle.std.proofs.Common.{◌+◌, ◌*◌, ◌∙◌, Bool, inl, refl, sym, ap, subst, arith}
use Rattle.heap_words.specs.declared.config.Config.{Config}
use Rattle.heap_steps.specs.declared.step.Event.{Event}
use Rattle.step_core.specs.Stands.{CoreState}
use Rattle.collection.specs.Asked.{due_steps}
use Rattle.collection.specs.Steps.{CollectsWithin, AsksWithin}
use Rattle.collection.proofs.Leaving.{filled_after, last_after, leaves_after}
use Rattle.collection.proofs.Paced.{look_most}
use Rattle.collection.proofs.Took.{chain, more, none}
use Rattle.collection.proofs.making.make_room.Goals as goal

-- after what was due, and the end of the cycle
looked_on : {W : Type 0} (sees : W → Event → W → Type 0) (due : Bool) (c d e : CoreState) (x y z : W)
    → CollectsWithin sees (due_steps c.config due) c x d y → CollectsWithin sees (2 + d.config.regions) d y e z
    → CollectsWithin sees (7 + 2 * c.config.regions) c x e z
looked_on sees due c d e x y z h k =
    let regions = ap (λ (q : Config). q.regions) h.config in
    chain sees (c.config.regions + 5) (2 + d.config.regions) (7 + 2 * c.config.regions) c d e x y z (omega (arith, regions))
    (look_most sees due c d x y h) k

pub is_spared-requires : goal.is_spared-requires
is_spared-requires g c = record {
  asked = subst (λ (x : Config). AsksWithin x c.args.op.now c.args.size) (sym c.look.ensures.collects.config) c.requires.asked;
}

pub returns-then-is_spared-clause-collects : goal.returns-then-is_spared-clause-collects
returns-then-is_spared-clause-collects g c =
    more g.W.Watch.sees _ _ c.args.core.now c.look.new.core c.args.watch.now c.look.new.watch (omega arith)
    (look_most g.W.Watch.sees c.args.due c.args.core.now c.look.new.core c.args.watch.now c.look.new.watch c.look.ensures.collects)

pub returns-then-is_spared-clause-room : goal.returns-then-is_spared-clause-room
returns-then-is_spared-clause-room g c e = inl (c.is_spared.ensures.spared c.if-is_spared.true)

pub is_spared-requires-2 : goal.is_spared-requires-2
is_spared-requires-2 g c = record {
  asked = subst (λ (x : Config). AsksWithin x c.args.op.now c.args.size)
      (sym (c.finish_cycle.ensures.config ∙ c.look.ensures.collects.config)) c.requires.asked;
}

pub returns-then-is_spared-2-clause-collects : goal.returns-then-is_spared-2-clause-collects
returns-then-is_spared-2-clause-collects g c =
    more g.W.Watch.sees (7 + 2 * c.args.core.now.config.regions) _ c.args.core.now c.finish_cycle.new.core c.args.watch.now
    c.finish_cycle.new.watch (omega arith)
    (looked_on g.W.Watch.sees c.args.due _ _ _ _ _ _ c.look.ensures.collects c.finish_cycle.ensures)

pub returns-then-is_spared-2-clause-room : goal.returns-then-is_spared-2-clause-room
returns-then-is_spared-2-clause-room g c e = inl (c.is_spared-2.ensures.spared c.if-is_spared-2.true)

pub collect_all-requires : goal.collect_all-requires
collect_all-requires g c = record {
  asked = subst (λ (x : Config). AsksWithin x c.args.op.now c.args.size)
      (sym (c.finish_cycle.ensures.config ∙ c.look.ensures.collects.config)) c.requires.asked;
}

pub returns-clause-collects : goal.returns-clause-collects
returns-clause-collects g c =
    let f = ap (λ (x : Config). x.regions) c.finish_cycle.ensures.config in
    let e = ap (λ (x : Config). x.regions) c.look.ensures.collects.config in
    chain g.W.Watch.sees (7 + 2 * c.args.core.now.config.regions) (5 + 3 * c.finish_cycle.new.core.config.regions) _
    c.args.core.now c.finish_cycle.new.core c.collect_all.new.core c.args.watch.now c.finish_cycle.new.watch c.collect_all.new.watch
    (omega (arith, e, f)) (looked_on g.W.Watch.sees c.args.due _ _ _ _ _ _ c.look.ensures.collects c.finish_cycle.ensures)
    c.collect_all.ensures.collects

pub returns-clause-room : goal.returns-clause-room
returns-clause-room g c e = last_after g.W.Watch.sees _ _ _ _ _
    (looked_on g.W.Watch.sees c.args.due _ _ _ _ _ _ c.look.ensures.collects c.finish_cycle.ensures)
    c.args.op.now c.collect_all.new.core (c.collect_all.ensures.room e)

pub returns-clause-leaves : goal.returns-clause-leaves
returns-clause-leaves g c e = leaves_after g.W.Watch.sees _ _ _ _ _
    (looked_on g.W.Watch.sees c.args.due _ _ _ _ _ _ c.look.ensures.collects c.finish_cycle.ensures)
    c.args.op.now.action (c.collect_all.ensures.leaves e)

pub returns-clause-filled : goal.returns-clause-filled
returns-clause-filled g c e s stands = filled_after g.W.Watch.sees _ _ _ _ _
    (looked_on g.W.Watch.sees c.args.due _ _ _ _ _ _ c.look.ensures.collects c.finish_cycle.ensures)
    c.args.op.now.action c.collect_all.new.core s stands (c.collect_all.ensures.filled e)

-- ---- what was due, and more only where there was no room
pub returns-then-is_spared-clause-paced : goal.returns-then-is_spared-clause-paced
returns-then-is_spared-clause-paced g c = record {
  looked = c.look.new.core;
  seen = c.look.new.watch;
  look = c.look.ensures.collects;
  some = c.look.ensures.some;
  rest = 0;
  few = omega arith;
  none = λ h. refl;
  more = none g.W.Watch.sees c.look.new.core c.look.new.watch;
}

pub returns-then-is_spared-2-clause-paced : goal.returns-then-is_spared-2-clause-paced
returns-then-is_spared-2-clause-paced g c = record {
  looked = c.look.new.core;
  seen = c.look.new.watch;
  look = c.look.ensures.collects;
  some = c.look.ensures.some;
  rest = 2 + c.look.new.core.config.regions;
  few = (let e = ap (λ (x : Config). x.regions) c.look.ensures.collects.config in omega (arith, e));
  none = λ h. absurd (c.is_spared.ensures.full c.if-is_spared.false h);
  more = c.finish_cycle.ensures;
}

pub returns-clause-paced : goal.returns-clause-paced
returns-clause-paced g c = record {
  looked = c.look.new.core;
  seen = c.look.new.watch;
  look = c.look.ensures.collects;
  some = c.look.ensures.some;
  rest = 7 + 4 * c.look.new.core.config.regions;
  few = (let e = ap (λ (x : Config). x.regions) c.look.ensures.collects.config in omega (arith, e));
  none = λ h. absurd (c.is_spared.ensures.full c.if-is_spared.false h);
  more = (let f = ap (λ (x : Config). x.regions) c.finish_cycle.ensures.config in
      chain g.W.Watch.sees (2 + c.look.new.core.config.regions) (5 + 3 * c.finish_cycle.new.core.config.regions)
      (7 + 4 * c.look.new.core.config.regions) c.look.new.core c.finish_cycle.new.core c.collect_all.new.core
      c.look.new.watch c.finish_cycle.new.watch c.collect_all.new.watch (omega (arith, f)) c.finish_cycle.ensures
      c.collect_all.ensures.collects);
}
