use Rattle.std.proofs.Common.{◌≡◌, ap, inl, inr, true, false}
use Rattle.std.specs.Prelude.{Bool, Some}
use Rattle.step_core.specs.Stands.{CoreState}
use Rattle.heap_calls.specs.Steps.{given_back}
use Rattle.g1heap_c.specs.Policies.{ShrinksIn}
use Rattle.g1heap_c.proofs.giving.shrink_in.Goals as goal

pub returns : goal.returns
returns g c = elim c.give_back_of.ensures.given [
  | inl tells ↦ inl (given true tells)
  | inr tells ↦ inr (given false tells)
]
  where
    given : (granted : Bool) → c.give_back_of.result ≡ given_back granted
        → ShrinksIn g.W.Watch.sees granted c.args.core.now c.args.watch.now c.give_back_of.result (Some c.give_back_of.new.core)
        c.collect_down.new.watch
    given granted tells = record {
      core = c.collect_down.new.core;
      tells = tells;
      held = ap (λ (x : CoreState). Some x) c.give_back_of.ensures.same;
      collects = c.collect_down.ensures.collects;
      collected = c.collect_down.ensures.quiet;
      packed = c.collect_down.ensures.packed;
      compact = c.collect_down.ensures.compact;
    }
