-- What each step of a mutator ensures.
use Rattle.std.proofs.Common.{◌≡◌, ℕ, ◌⊎◌, Option, Some, None, false, refl, sym, ◌∙◌, ap, subst, inl, inr, ◌↔◌, ◌≢◌}
use Rattle.heap_words.specs.Sizes.{size_of}
use Rattle.heap_model.specs.Graph.{Graph}
use Rattle.graph_runs.specs.State.{State}
use Rattle.graph_runs.specs.Run.{snapshot_after}
use Rattle.step_core.specs.Steps.{Action, Counts, Op, Register, Reply}
use Rattle.heap_steps.specs.declared.step.Action.TheVariants as actions
use Rattle.heap_steps.specs.declared.step.Step.TheVariants as steps
use Rattle.heap_steps.specs.declared.step.Reply.TheVariants as replies
use Rattle.heap_steps.specs.declared.step.Refusal.TheVariants as refusals
use Rattle.graph_runs.proofs.MachineLaws.{act-not_full}
use Rattle.step_core.specs.Stands.{CoreState, ShowsGraph, KeepsFor, Stands}
use Rattle.step_core.specs.Answers.{Acts, HasNoPlace, IsFull, RepliesFull}
use Rattle.step_core.specs.Cycle.{LeavesRegions}
use Rattle.step_core.specs.Making.{MakesObject}
use Rattle.step_core.specs.Mutators.{ActsOn, weaks_made}
use Rattle.step_core.specs.Reclaimed.{IsReclaimed}
use Rattle.step_core.specs.Parts.{DoesAction}
use Rattle.step_core.specs.Words.{Takes, making}
use Rattle.step_core.proofs.Cores.Following.{acted, created}
use Rattle.step_core.proofs.Cores.Snapshots.{touches, keeps_after}

-- an action that makes an object says how many weak slots that has, or it makes a plain one, which is one with none
pub by_new : (P : Action → Type 0) (a : Action) (to : Register) (counts : Counts) (weaks : ℕ)
    → (a ≡ actions.New to counts) ⊎ ((w : ℕ) × (a ≡ actions.NewWeak to counts w)) → weaks ≡ weaks_made a
    → (P (actions.NewWeak to counts 0) → P (actions.New to counts)) → P (actions.NewWeak to counts weaks) → P a
by_new P a to counts weaks (inl e) many plain p =
    rw e (plain (subst (λ (n : ℕ). P (actions.NewWeak to counts n)) (many ∙ ap weaks_made e) p))
by_new P a to counts weaks (inr (w, e)) many plain p =
    rw e (subst (λ (n : ℕ). P (actions.NewWeak to counts n)) (many ∙ ap weaks_made e) p)

reclaims_none : (c c' : CoreState) → LeavesRegions c c' → (k : ℕ) → IsReclaimed c.table c'.table k → ⊥
reclaims_none c c' leaves k h = leaves.in_use k h.used h.free

pub still : (c : CoreState) → LeavesRegions c c
still c = record { config = refl; in_use = λ k h. h }

-- by an action that makes no object
pub acted_by : (o : Op) (a : Action) (r : Reply) (c c' : CoreState) → o.action ≡ a → ((g : Graph) → IsFull g o.mutator a c → ⊥)
    → ((g : Graph) → ShowsGraph g c → Acts g o.mutator a r c') → ((s : State) → Stands s c → KeepsFor (snapshot_after s.snapshot a r) c')
    → ActsOn o.mutator a r c c' → LeavesRegions c c' → Takes c (steps.Mutator o) r c'
acted_by o a r c c' e never acts keeps after leaves =
    subst (λ (b : Action). Takes c (steps.Mutator (record { mutator = o.mutator; action = b })) r c') (sym e) (record {
      follows = λ s st. acted s o.mutator a r c c' st (acts s.graph st.shows) (keeps s st);
      does = after;
      reclaims = reclaims_none c c' leaves;
      full = λ s st. (
        λ full. absurd (act-not_full s.graph o.mutator a (sym (acts s.graph st.shows).reply_is ∙ full)),
        λ f. absurd (never s.graph f),
      );
    })

-- and by one that touches no name either
pub acted_plain : (o : Op) (a : Action) (r : Reply) (c c' : CoreState) → o.action ≡ a → touches a ≡ false
    → ((g : Graph) → IsFull g o.mutator a c → ⊥) → DoesAction o.mutator a r c c' → Takes c (steps.Mutator o) r c'
acted_plain o a r c c' e plain never d = acted_by o a r c c' e never d.acts
    (λ s st. keeps_after s.snapshot o.mutator a r c c' plain d.after d.keeps st.keeps) d.after d.leaves

full_new : (g : Graph) (m : ℕ) (to : Register) (counts : Counts) (weaks : ℕ) (r : Reply) (c c' : CoreState)
    → Acts g m (actions.NewWeak to counts weaks) r c' ⊎ RepliesFull g m (actions.NewWeak to counts weaks) c r c'
    → (HasNoPlace c m (size_of counts.pointers weaks counts.values) → (n : Option ℕ) → r ≢ replies.Named n)
    → (r ≡ replies.Refused refusals.Full) ↔ IsFull g m (actions.NewWeak to counts weaks) c
full_new g m to counts weaks r c c' (inl h) none =
    ((λ e. absurd (act-not_full g m (actions.NewWeak to counts weaks) (sym h.reply_is ∙ e))), (λ f. absurd (none f.1 _ (h.reply_is ∙ f.0))))
full_new g m to counts weaks r c c' (inr h) none = ((λ e. h.full), (λ f. h.reply_is))

-- a plain object is one with no weak slots
taken_plain : (m : ℕ) (to : Register) (counts : Counts) (r : Reply) (c c' : CoreState)
    → Takes c (steps.Mutator (record { mutator = m; action = actions.NewWeak to counts 0 })) r c' → Takes c (making m to counts) r c'
taken_plain m to counts r c c' t = record {
  follows = λ s st. (let f = t.follows s st in record {
    after = f.after;
    happens = elim f.happens [
      | inl h ↦ inl (h.0, h.1 ∙ untouched s.snapshot)
      | inr h ↦ inr h
    ];
    stands = f.stands;
  });
  does = acts_plain r t.does;
  reclaims = t.reclaims;
  full = t.full;
}
  where
    untouched : (sn : Option Graph) → snapshot_after sn (actions.NewWeak to counts 0) r ≡ snapshot_after sn (actions.New to counts) r
    untouched None = refl
    untouched (Some x) = refl

    acts_plain : (q : Reply) → ActsOn m (actions.NewWeak to counts 0) q c c' → ActsOn m (actions.New to counts) q c c'
    acts_plain (replies.Refused why) h = h
    acts_plain _ h = record { core = h.core; marker = h.marker }

-- by an action that makes an object with as many weak slots as it says, 0 where it says none
pub acted_new : (o : Op) (to : Register) (counts : Counts) (weaks : ℕ) (r : Reply) (c c' : CoreState)
    → (o.action ≡ actions.New to counts) ⊎ ((w : ℕ) × (o.action ≡ actions.NewWeak to counts w)) → weaks ≡ weaks_made o.action
    → MakesObject o.mutator to counts weaks r c c' → Takes c (steps.Mutator o) r c'
acted_new o to counts weaks r c c' is many h =
    by_new (λ a. Takes c (steps.Mutator (record { mutator = o.mutator; action = a })) r c') o.action to counts weaks is many
    (taken_plain o.mutator to counts r c c') (record {
      follows = λ s st. created s o.mutator (actions.NewWeak to counts weaks) r c c' tt st (h.acts s.graph st.shows) (λ f. f.0)
          (keeps_after s.snapshot o.mutator (actions.NewWeak to counts weaks) r c c' refl h.after h.keeps st.keeps);
      does = h.after;
      reclaims = reclaims_none c c' h.leaves;
      full = λ s st. full_new s.graph o.mutator to counts weaks r c c' (h.acts s.graph st.shows) h.full;
    })
