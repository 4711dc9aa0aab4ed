use Rattle.std.proofs.Common.{◌≡◌, ◌<◌, ◌∙◌, arith, rules, subst, sym, ap, inl}
use Rattle.heap_model.specs.Graph.{RootCounts}
use Rattle.step_core.proofs.Cores.Keeping.{placed_in, register_there}
use Rattle.step_core.specs.Stands.{CoreState, ShowsGraph, KeepsFrom}
use Rattle.step_core.proofs.Cores.Added.{creates}
use Rattle.step_core.proofs.Mutating.Creating.{new_acts, new_kept, new_keeps, new_leaves}
use Rattle.step_core.proofs.Mutating.Done.{made_in_place, has_place}
use Rattle.step_core.proofs.Mutating.Made.{made_named, register_taken}
use Rattle.heap_words.specs.Configs.{object_limit, registers_of}
use Rattle.step_core.proofs.heap.Core.new_here.Goals as goal

pub invariant_of-self-2 : goal.invariant_of-self-2
invariant_of-self-2 c =
    let m = c.in-Ok.ensures.made.1 in
    let fits = c.is_too_big.ensures.fits c.if-is_too_big.false in
    let same : object_limit c.self.inside.config ≡ object_limit c.args.self.now.config =
    ap (λ (d : CoreState). object_limit d.config) c.self.view_is in
    let layers = c.self.invariant.layers in
    let w = creates _ _ _ _ _ _ c.self.inside.next c.args.counts.pointers c.args.weaks c.args.counts.values c.law.ensures
    m.positive m.fitting layers.unmoved layers.buffers m.placed (omega (arith, c.size-size.ensures)) in
    rw (
      c.set_register.ensures,
      register_there _ c.self.invariant c.args.mutator c.args.to.number,
      m.at,
      m.made,
      c.in-Ok.ensures.aged,
      m.buffers,
    )
    (new_kept _ c.args.mutator c.args.to _ _ _ c.args.counts.pointers c.args.weaks c.args.counts.values c.self.invariant w
    (omega (arith, fits, same, c.size-size.ensures)) c.if-self.false)

pub returns : goal.returns
returns c =
    let m = c.in-Ok.ensures.made.1 in
    let fits = c.is_too_big.ensures.fits c.if-is_too_big.false in
    let same : object_limit c.self.inside.config ≡ object_limit c.args.self.now.config =
    ap (λ (d : CoreState). object_limit d.config) c.self.view_is in
    let layers = c.self.invariant.layers in
    let w = creates _ _ _ _ _ _ c.self.inside.next c.args.counts.pointers c.args.weaks c.args.counts.values c.law.ensures
    m.positive m.fitting layers.unmoved layers.buffers m.placed (omega (arith, c.size-size.ensures)) in
    rw (
      c.set_register.ensures,
      register_there _ c.self.invariant c.args.mutator c.args.to.number,
      m.at,
      m.made,
      c.in-Ok.ensures.aged,
      m.buffers,
    ) (record {
      makes = record {
        acts = λ g s. inl (new_acts _ c.args.mutator c.args.to _ _ _ c.args.counts.pointers c.args.weaks c.args.counts.values
            c.self.invariant w (omega (arith, fits, same, c.size-size.ensures)) c.if-self.false g
            (subst (λ (d : CoreState). ShowsGraph g d) (sym c.self.view_is) s));
        keeps = λ s f. new_keeps _ c.args.mutator c.args.to _ _ _ c.args.counts.pointers c.args.weaks c.args.counts.values
            c.self.invariant w (omega (arith, fits, same, c.size-size.ensures)) c.if-self.false s
            (subst (λ (d : CoreState). KeepsFrom s d) (sym c.self.view_is) f);
        after = made_in_place _ _ c.args.mutator c.args.to c.args.counts c.args.weaks c.size-size.result _ _ _ c.self.view_is m.place
            c.size-size.ensures;
        leaves = new_leaves _ c.args.mutator c.args.to _ _ _ c.args.counts.pointers c.args.weaks c.args.counts.values c.self.invariant w
            (omega (arith, fits, same, c.size-size.ensures)) c.if-self.false _ c.self.view_is;
        full = λ none name e. has_place _ _ c.args.mutator c.size-size.result _ _ c.self.view_is m.place c.size-size.ensures none;
        within = search rules;
        made = made_named _ c.args.mutator c.args.to _ _ _ _ c.args.counts.pointers c.args.weaks c.args.counts.values c.self.invariant
            known inside w.is;
      };
      at = register_taken _ c.args.mutator c.args.to _ c.self.invariant known inside;
    })
  where
    known : c.args.mutator < c.self.inside.config.mutators
    known = subst (λ (d : CoreState). c.args.mutator < d.config.mutators) (sym c.self.view_is) c.requires.mutator

    inside : c.args.to.number < registers_of c.self.inside.config
    inside = subst (λ (d : CoreState). c.args.to.number < registers_of d.config) (sym c.self.view_is) c.requires.to

pub create-requires-clause-each : goal.create-requires-clause-each
create-requires-clause-each c = c.self.invariant.ages ∙ sym c.self.invariant.layers.region_count

pub set_register-requires-clause-mutator : goal.set_register-requires-clause-mutator
set_register-requires-clause-mutator c =
    subst (λ (p : RootCounts). c.args.mutator < p.mutators) (sym (placed_in _ _ c.self.view_is c.self.invariant)) c.requires.mutator

pub set_register-requires-clause-register : goal.set_register-requires-clause-register
set_register-requires-clause-register c =
    subst (λ (p : RootCounts). c.args.to.number < p.registers) (sym (placed_in _ _ c.self.view_is c.self.invariant)) c.requires.to
