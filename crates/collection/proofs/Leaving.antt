-- Whether a heap has regions enough, of one configuration and the same.
use Rattle.std.proofs.Common.{◌≡◌, ◌+◌, ◌*◌, ◌<◌, ◌≤◌, ◌⊎◌, ℕ, Bool, true, false, inl, inr, sym, ap, subst, arith}
use Rattle.std.proofs.Common.{if◌then◌else◌}
use Rattle.std.proofs.lemmas.Bool.{cases_lt, le-leb, lt-leb}
use Rattle.heap_words.specs.declared.config.Config.{Config}
use Rattle.heap_steps.specs.Actors.{IsThird}
use Rattle.step_core.specs.Steps.{Action, Event, Op}
use Rattle.graph_runs.specs.State.{State}
use Rattle.step_core.specs.Stands.{CoreState, Stands}
use Rattle.alloc_buffers.specs.Placement.{run_count}
use Rattle.collection.specs.Steps.{CollectsWithin, LeavesTwo, asked_words, regions_for}
use Rattle.collection.specs.Space.{IsPackedBut}
use Rattle.collection.specs.Rooms.{IsFilled, IsLastResort, IsSpared}
use Rattle.collection.proofs.Reached.{packed_before, packed_but_before, then_cleared}
use Rattle.collection.proofs.Took.{collected_after, reached}

pub clash : (b : Bool) → b ≡ true → b ≡ false → ⊥
clash b t f = cc

pub leaves_not : (k l : Config) (a : Action) → k ≡ l → (LeavesTwo k a → ⊥) → LeavesTwo l a → ⊥
leaves_not k l a e not h = not (subst (λ (x : Config). LeavesTwo x a) (sym e) h)

pub leaves_still : (k l : Config) (a : Action) → k ≡ l → ((LeavesTwo k a → ⊥) → ⊥) → LeavesTwo l a
leaves_still k l a e not = elim (cases_lt (regions_for k.words (asked_words a) + 2) k.regions) [
  | inl h ↦ subst (λ (x : Config). LeavesTwo x a) e h
  | inr h ↦ absurd (not (λ f. absurd (omega (arith, f, h))))
]

-- how many regions an object takes
pub takes_one : (words size : ℕ) → 2 * size ≤ words → regions_for words size ≡ 1
takes_one words size small = ap (λ (b : Bool). if b then 1 else run_count words size) (le-leb (2 * size) words small)

pub takes_run : (words size : ℕ) → words < 2 * size → regions_for words size ≡ run_count words size
takes_run words size large = ap (λ (b : Bool). if b then 1 else run_count words size) (lt-leb (2 * size) words large)

-- what a last part of the work came to, after other steps
module _ {W : Type 0} (sees : W → Event → W → Type 0) (m : ℕ) (c d : CoreState) (x y : W) (before : CollectsWithin sees m c x d y) where
  pub last_after : (op : Op) (c' : CoreState) → IsSpared c' op ⊎ IsLastResort d op c' → IsSpared c' op ⊎ IsLastResort c op c'
  last_after op c' (inl s) = inl s
  last_after op c' (inr l) = inr (record {
    few = leaves_not d.config c.config op.action before.config l.few;
    collected = λ s stands. collected_after sees m c d c' x y s before stands l.collected;
  })

  pub leaves_after : (a : Action) → LeavesTwo d.config a → LeavesTwo c.config a
  leaves_after a h = subst (λ (k : Config). LeavesTwo k a) before.config h

  pub filled_after : (a : Action) (c' : CoreState) (s : State) → Stands s c → ((r : State) → Stands r d → IsFilled r.graph d a c')
      → IsFilled s.graph c a c'
  filled_after a c' s stands f =
      let (mid, there, reach) = reached sees m c d x y s before stands in
      let w = f mid there in
      record {
        collected = record {
          after = w.collected.after;
          quiet = w.collected.quiet;
          reached = then_cleared s.graph mid.graph w.collected.after.graph reach w.collected.reached;
        };
        full = λ leaves two how.
            subst (λ (k : Config). IsPackedBut s.graph c' (regions_for k.words (asked_words a))) before.config
            (packed_but_before s.graph mid.graph c' (regions_for d.config.words (asked_words a)) reach
            (w.full (there_leaves leaves) (before.two two) (there_how how)));
        large = λ leaves large. w.large (there_leaves leaves) (there_large large);
        dense = λ leaves large two. packed_before s.graph mid.graph c' reach
            (w.dense (there_leaves leaves) (there_large large) (before.two two));
        compact = λ third leaves large two.
            w.compact (there_third third) (there_leaves leaves) (there_large large) (before.two two);
      }
    where
      there_leaves : LeavesTwo c.config a → LeavesTwo d.config a
      there_leaves leaves = subst (λ (k : Config). LeavesTwo k a) (sym before.config) leaves

      there_third : IsThird c.config.format → IsThird d.config.format
      there_third third = subst (λ (k : Config). IsThird k.format) (sym before.config) third

      there_large : c.config.words < 2 * asked_words a → d.config.words < 2 * asked_words a
      there_large large = let e = ap (λ (k : Config). k.words) before.config in omega (arith, e, large)

      there_how : (2 * asked_words a ≤ c.config.words) ⊎ IsThird c.config.format
          → (2 * asked_words a ≤ d.config.words) ⊎ IsThird d.config.format
      there_how (inl small) = inl (let e = ap (λ (k : Config). k.words) before.config in omega (arith, e, small))
      there_how (inr third) = inr (there_third third)
