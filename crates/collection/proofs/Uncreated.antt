-- An object that the graph wouldn't create takes no free region.
use Rattle.std.proofs.Common.{◌≡◌, ◌⊎◌, ◌+◌, ◌^◌, ◌-◌, ◌≤◌, ℕ, Option, Some, None, inl, inr, refl, ap, subst, arith}
use Rattle.std.proofs.lemmas.Bool.Decides.{eqb_tells}
use Rattle.heap_words.specs.declared.config.Config.{Config}
use Rattle.heap_words.specs.Configs.{object_limit}
use Rattle.regions.specs.Table.{free_count}
use Rattle.alloc_buffers.specs.Placement.{Placement, allocation_of}
use Rattle.step_core.specs.Steps.{Action, Counts, Op, Refusal, Reply}
use Rattle.heap_steps.specs.declared.step.Action.TheVariants as actions
use Rattle.heap_steps.specs.declared.step.Reply.TheVariants as replies
use Rattle.graph_runs.specs.Run.{IsNew}
use Rattle.step_core.specs.Stands.{CoreState, IsCore}
use Rattle.step_core.specs.Answers.{IsWithin}
use Rattle.step_core.specs.Mutators.{ActsOn, HasActed, core_after, with_made}
use Rattle.collection.specs.Rooms.{IsCreatable}
use Rattle.collection.specs.Steps.{asked_words}

after_next : (c : CoreState) (m : ℕ) (a : Action) → IsNew a
    → ((core_after c m a).next ≡ c.next + 1) ⊎ ((core_after c m a).table ≡ c.table)
after_next c m a new = go a new
  where
    made : (p : ℕ) (counts : Counts) (weaks : ℕ) (o : Option Placement)
        → ((with_made c p counts weaks o).next ≡ c.next + 1) ⊎ ((with_made c p counts weaks o).table ≡ c.table)
    made p counts weaks None = inr refl
    made p counts weaks (Some x) = inl refl

    go : (a : Action) → IsNew a → ((core_after c m a).next ≡ c.next + 1) ⊎ ((core_after c m a).table ≡ c.table)
    go (actions.New to counts) new = made _ counts 0 (allocation_of c.table c.buffers m (asked_words (actions.New to counts)))
    go (actions.NewWeak to counts weaks) new = made _ counts weaks (allocation_of c.table c.buffers m (asked_words
        (actions.NewWeak to counts weaks)))
    go _ new = absurd new

-- a new object that isn't refused is no larger than an object may be
within_new : (config : Config) (a : Action) (r : Reply) → IsNew a → IsWithin config a r
    → (asked_words a ≤ object_limit config) ⊎ ((why : Refusal) × (r ≡ replies.Refused why))
within_new config a (replies.Refused why) new h = inr (why, refl)
within_new config (actions.New to counts) _ new h = inl h
within_new config (actions.NewWeak to counts weaks) _ new h = inl h
within_new config _ _ new h = absurd new

module _ (c d : CoreState) (op : Op) (new : IsNew op.action) (core' : IsCore d)
    (not : IsCreatable c op.action → ⊥) (two : 2 ≤ free_count c.table) where
  spent : asked_words op.action ≤ object_limit c.config → c.next ≡ 2 ^ 64 - 1
  spent fits = elim (eqb_tells c.next (2 ^ 64 - 1)) [ inl q ↦ q.1 | inr q ↦ absurd (not (record { fits = fits; named = q.1 })) ]

  acted : asked_words op.action ≤ object_limit c.config → HasActed op.mutator op.action c d → 2 ≤ free_count d.table
  acted fits h = elim (after_next c op.mutator op.action new) [
    | inl more ↦ (let e = ap (λ (x : CoreState). x.next) h.core in let n = core'.names in let s = spent fits in absurd (omega
        (arith, e, n, s, more)))
    | inr same ↦ (let e = ap (λ (x : CoreState). free_count x.table) h.core in let f = ap free_count same in omega (arith, e, f, two))
  ]

  -- where the object is no larger than an object may be
  made_two : asked_words op.action ≤ object_limit c.config → (r : Reply) → ActsOn op.mutator op.action r c d → 2 ≤ free_count d.table
  made_two fits (replies.Refused why) h = let e = ap (λ (x : CoreState). free_count x.table) h in omega (arith, e, two)
  made_two fits _ h = acted fits h

  refused_two : (r : Reply) (why : Refusal) → r ≡ replies.Refused why → ActsOn op.mutator op.action r c d → 2 ≤ free_count d.table
  refused_two r why is h =
      let same : d ≡ c = subst (λ (x : Reply). ActsOn op.mutator op.action x c d) is h in
      let e = ap (λ (x : CoreState). free_count x.table) same in
      omega (arith, e, two)

  pub uncreated_two : (r : Reply) → IsWithin c.config op.action r → ActsOn op.mutator op.action r c d → 2 ≤ free_count d.table
  uncreated_two r within h = elim (within_new c.config op.action r new within) [
    | inl fits ↦ made_two fits r h
    | inr refused ↦ refused_two r refused.0 refused.1 h
  ]
