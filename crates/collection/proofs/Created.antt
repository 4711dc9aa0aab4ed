-- Whether the graph creates an object.
use Rattle.std.proofs.Common.{◌≡◌, ◌^◌, ◌-◌, ◌≤◌, ◌∙◌, ℕ, Bool, true, false, Some, inl, inr, refl, sym, ap, arith, nat_lt, ◌==◌}
use Rattle.std.proofs.Common.{if◌then◌else◌}
use Rattle.std.proofs.lemmas.Bool.{cases_lt, le-ltb, lt-ltb}
use Rattle.std.proofs.lemmas.Bool.Decides.{eqb_tells}
use Rattle.heap_words.specs.Configs.{object_limit}
use Rattle.heap_words.specs.Sizes.{size_of}
use Rattle.heap_model.specs.Graph.{Graph, next_name}
use Rattle.step_core.specs.Steps.{Action, Counts, Op, Register, Reply}
use Rattle.heap_steps.specs.declared.step.Action.TheVariants as actions
use Rattle.heap_steps.specs.declared.step.Reply.TheVariants as replies
use Rattle.heap_steps.specs.declared.step.Refusal.TheVariants as refusals
use Rattle.graph_runs.specs.Machine.{Outcome, act, made, refused}
use Rattle.graph_runs.specs.Run.{Creates, IsNew}
use Rattle.step_core.specs.Stands.{CoreState, ShowsGraph}
use Rattle.step_core.specs.Answers.{IsFull}
use Rattle.collection.specs.Steps.{asked_words}
use Rattle.collection.specs.Rooms.{IsCreatable}

-- what a new object is replied, by two tests
reply_by : Bool → Bool → ℕ → Reply
reply_by true spent n = replies.Refused refusals.TooBig
reply_by false true n = replies.Refused refusals.NamesSpent
reply_by false false n = replies.Named (Some n)

first_of : (b d : Bool) (g : Graph) (x : Outcome) (n : ℕ) → x.0 ≡ replies.Named (Some n)
    → (if b then refused g refusals.TooBig else if d then refused g refusals.NamesSpent else x).0 ≡ reply_by b d n
unfolding reply_by
first_of true d g x n e = refl
first_of false true g x n e = refl
first_of false false g x n e = e

made_is : (g : Graph) (m : ℕ) (to : Register) (counts : Counts) (weaks : ℕ)
    → (made g m to counts weaks).0 ≡ reply_by (nat_lt g.room (size_of counts.pointers weaks counts.values))
    (next_name g == 2 ^ 64 - 1) (next_name g)
made_is g m to counts weaks =
    first_of (nat_lt g.room (size_of counts.pointers weaks counts.values)) (next_name g == 2 ^ 64 - 1) g _ (next_name g) refl

fits_named : (n : ℕ) → reply_by false false n ≡ replies.Named (Some n)
unfolding reply_by
fits_named n = refl

big_named : (d : Bool) (n : ℕ) → reply_by true d n ≡ replies.Named (Some n) → ⊥
unfolding reply_by
big_named d n e = let f = e in cc

spent_named : (b : Bool) (n : ℕ) → reply_by b true n ≡ replies.Named (Some n) → ⊥
unfolding reply_by
spent_named true n e = let f = e in cc
spent_named false n e = let f = e in cc

module _ (g : Graph) (c : CoreState) (shows : ShowsGraph g c) where
  pub new_made : (m : ℕ) (to : Register) (counts : Counts) (weaks : ℕ)
      → size_of counts.pointers weaks counts.values ≤ object_limit c.config → (c.next ≡ 2 ^ 64 - 1 → ⊥)
      → (made g m to counts weaks).0 ≡ replies.Named (Some (next_name g))
  new_made m to counts weaks fits names =
      made_is g m to counts weaks
      ∙ ap (λ (b : Bool). reply_by b (next_name g == 2 ^ 64 - 1) (next_name g))
      (le-ltb g.room (size_of counts.pointers weaks counts.values) (let e = shows.room in omega (arith, e, fits)))
      ∙ ap (λ (b : Bool). reply_by false b (next_name g)) left
      ∙ fits_named (next_name g)
    where
      left : (next_name g == 2 ^ 64 - 1) ≡ false
      left = elim (eqb_tells (next_name g) (2 ^ 64 - 1)) [ inl q ↦ absurd (names (sym shows.next ∙ q.1)) | inr q ↦ q.0 ]

  creates_new : (op : Op) → IsNew op.action → asked_words op.action ≤ object_limit c.config → (c.next ≡ 2 ^ 64 - 1 → ⊥)
      → Creates g op
  creates_new op new fits names = (new, go op.action new fits)
    where
      go : (a : Action) → IsNew a → asked_words a ≤ object_limit c.config
          → (act g op.mutator a).0 ≡ replies.Named (Some (next_name g))
      go (actions.New to counts) new fits = new_made op.mutator to counts 0 fits names
      go (actions.NewWeak to counts weaks) new fits = new_made op.mutator to counts weaks fits names
      go _ new fits = absurd new

  named_fits : (m : ℕ) (to : Register) (counts : Counts) (weaks : ℕ) → (made g m to counts weaks).0 ≡ replies.Named (Some (next_name g))
      → (size_of counts.pointers weaks counts.values ≤ object_limit c.config) × (c.next ≡ 2 ^ 64 - 1 → ⊥)
  named_fits m to counts weaks e = (fits, names)
    where
      by : reply_by (nat_lt g.room (size_of counts.pointers weaks counts.values)) (next_name g == 2 ^ 64 - 1) (next_name g)
          ≡ replies.Named (Some (next_name g))
      by = sym (made_is g m to counts weaks) ∙ e

      fits : size_of counts.pointers weaks counts.values ≤ object_limit c.config
      fits = elim (cases_lt g.room (size_of counts.pointers weaks counts.values)) [
        | inl big ↦ absurd (big_named (next_name g == 2 ^ 64 - 1) (next_name g)
            (sym (ap (λ (b : Bool). reply_by b (next_name g == 2 ^ 64 - 1) (next_name g)) (lt-ltb g.room _ big)) ∙ by))
        | inr small ↦ (let r = shows.room in omega (arith, r, small))
      ]

      names : c.next ≡ 2 ^ 64 - 1 → ⊥
      names spent =
          spent_named (nat_lt g.room (size_of counts.pointers weaks counts.values)) (next_name g)
          (sym (ap (λ (b : Bool). reply_by (nat_lt g.room (size_of counts.pointers weaks counts.values)) b (next_name g)) is_spent) ∙ by)
        where
          is_spent : (next_name g == 2 ^ 64 - 1) ≡ true
          is_spent = elim (eqb_tells (next_name g) (2 ^ 64 - 1)) [ inl q ↦ q.0 | inr q ↦ absurd (q.1 (shows.next ∙ spent)) ]

  pub creates_by : (op : Op) → IsNew op.action → IsCreatable c op.action → Creates g op
  creates_by op new h = creates_new op new h.fits h.named

  pub by_creates : (op : Op) → Creates g op → IsCreatable c op.action
  by_creates op h = go op.action h.0 h.1
    where
      packed : (a : Action) → (asked_words a ≤ object_limit c.config) × (c.next ≡ 2 ^ 64 - 1 → ⊥) → IsCreatable c a
      packed a p = record { fits = p.0; named = p.1 }

      go : (a : Action) → IsNew a → (act g op.mutator a).0 ≡ replies.Named (Some (next_name g)) → IsCreatable c a
      go (actions.New to counts) new e = packed (actions.New to counts) (named_fits op.mutator to counts 0 e)
      go (actions.NewWeak to counts weaks) new e = packed (actions.NewWeak to counts weaks) (named_fits op.mutator to counts weaks e)
      go _ new e = absurd new

-- a step that is refused as Full would create an object
pub full_creates : (g : Graph) (op : Op) (c : CoreState) → IsFull g op.mutator op.action c → Creates g op
full_creates g op c f = (is_new op.action f, named op.action f)
  where
    is_new : (a : Action) → IsFull g op.mutator a c → IsNew a
    is_new (actions.New to counts) f = tt
    is_new (actions.NewWeak to counts weaks) f = tt
    is_new _ f = absurd f

    named : (a : Action) → IsFull g op.mutator a c → (act g op.mutator a).0 ≡ replies.Named (Some (next_name g))
    named (actions.New to counts) f = f.0
    named (actions.NewWeak to counts weaks) f = f.0
    named _ f = absurd f
