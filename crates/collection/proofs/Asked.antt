-- An object that is asked for: the collector's steps, and then the mutator's own, or none.
use Rattle.std.proofs.Common.{◌≡◌, ◌⊎◌, ◌≤◌, ◌∙◌, ℕ, inl, inr, sym, subst, refl, arith}
use Rattle.heap_words.specs.Configs.{object_limit}
use Rattle.heap_words.specs.declared.config.Config.{Config}
use Rattle.step_core.specs.Steps.{Event, Op, Reply}
use Rattle.heap_steps.specs.declared.step.Reply.TheVariants as replies
use Rattle.heap_steps.specs.declared.step.Refusal.TheVariants as refusals
use Rattle.graph_runs.specs.State.{State}
use Rattle.graph_runs.specs.Run.{IsNew}
use Rattle.regions.specs.Table.{free_count}
use Rattle.step_core.specs.Stands.{CoreState, Stands}
use Rattle.step_core.specs.Mutators.{ActsOn}
use Rattle.collection.specs.Space.{IsCollected}
use Rattle.collection.specs.Steps.{CollectsWithin, FitsLeavingTwo, LeavesTwo, Makes, TakesOwn, asked_words}
use Rattle.collection.specs.Rooms.{IsCreatable, IsFilled, IsLastResort, IsSpared}
use Rattle.collection.proofs.Created.{by_creates, creates_by, full_creates}
use Rattle.collection.proofs.Spared.{spared_made, spared_two}
use Rattle.collection.proofs.Took.{more, none, reached}

module _ {W : Type 0} (sees : W → Event → W → Type 0) (most : ℕ) (op : Op) (c d : CoreState) (x y : W)
    (before : CollectsWithin sees most c x d y) where
  -- the object's own step
  module _ (reply : Reply) (c' : CoreState) (x' : W) (own : TakesOwn sees op reply d y c' x') where
    pub own_makes : Makes sees most op reply c x c' x'
    own_makes = record { core = d; watch = y; collects = before; own = inl own }

    pub spared_full : IsSpared d op → reply ≡ replies.Refused refusals.Full → (s : State) → Stands s c → IsFilled s.graph c op.action c'
    spared_full s e state stands =
        let (mid, there, reach) = reached sees most c d x y state before stands in
        absurd (spared_made mid.graph d op s ((own.passes mid there).full.0 e))

    pub room_full : ActsOn op.mutator op.action reply d c' → IsSpared d op ⊎ IsLastResort c op d → reply ≡ replies.Refused refusals.Full
        → (s : State) → Stands s c → IsFilled s.graph c op.action c'
    room_full does (inl s) e state stands = spared_full s e state stands
    room_full does (inr l) e state stands =
        let same : c' ≡ d = subst (λ (r : Reply). ActsOn op.mutator op.action r d c') e does in
        record {
          collected = subst (λ (k : CoreState). IsCollected state.graph k) (sym same) (l.collected state stands);
          full = λ leaves. absurd (l.few leaves);
          large = λ leaves. absurd (l.few leaves);
          dense = λ leaves. absurd (l.few leaves);
          compact = λ third leaves. absurd (l.few leaves);
        }

    pub room_two : ActsOn op.mutator op.action reply d c' → IsSpared d op ⊎ IsLastResort c op d → LeavesTwo c.config op.action
        → 2 ≤ free_count c.table → 2 ≤ free_count c'.table
    room_two does (inl s) leaves two = spared_two reply d c' op s does (before.two two)
    room_two does (inr l) leaves two = absurd (l.few leaves)

    -- where the graph wouldn't create it
    pub uncreated_full : (IsCreatable d op.action → ⊥) → reply ≡ replies.Refused refusals.Full → (s : State) → Stands s c
        → IsFilled s.graph c op.action c'
    uncreated_full not e state stands =
        let (mid, there, reach) = reached sees most c d x y state before stands in
        absurd (not (by_creates mid.graph d there.shows op (full_creates mid.graph op d ((own.passes mid there).full.0 e))))

  -- no step of its own
  pub held_makes : IsNew op.action → IsCreatable c op.action → LeavesTwo c.config op.action → (FitsLeavingTwo d op → ⊥)
      → Makes sees most op (replies.Refused refusals.Full) c x d y
  held_makes new h leaves none = record {
    core = d;
    watch = y;
    collects = before;
    own = inr (record {
      reply_is = refl;
      creates = λ s there. creates_by s.graph d there.shows op new (record {
        fits = subst (λ (k : Config). asked_words op.action ≤ object_limit k) (sym before.config) h.fits;
        named = λ e. h.named (sym before.next ∙ e);
      });
      core = refl;
      watch = refl;
      leaves = subst (λ (k : Config). LeavesTwo k op.action) (sym before.config) leaves;
      no_room = none;
    });
  }

-- its own step, with none of the collector before
pub own_at_once : {W : Type 0} (sees : W → Event → W → Type 0) (most : ℕ) (op : Op) (c c' : CoreState) (x x' : W) (reply : Reply)
    → TakesOwn sees op reply c x c' x' → Makes sees most op reply c x c' x'
own_at_once sees most op c c' x x' reply own =
    own_makes sees most op c c x x (more sees 0 most c c x x (omega arith) (none sees c x)) reply c' x' own
