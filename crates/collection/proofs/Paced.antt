-- What is due at a look, and what comes after it.
use Rattle.std.proofs.Common.{◌≡◌, ◌+◌, ◌≤◌, ◌∙◌, ℕ, Bool, true, false, refl, sym, subst, arith, if◌then◌else◌, not}
use Rattle.heap_words.specs.Configs.{object_limit}
use Rattle.heap_words.specs.declared.config.Config.{Config}
use Rattle.step_core.specs.Steps.{Action, Event, Op, Refusal, Reply}
use Rattle.heap_steps.specs.declared.step.Action.TheVariants as actions
use Rattle.heap_steps.specs.declared.step.Reply.TheVariants as replies
use Rattle.step_core.specs.Making.{HasMade}
use Rattle.step_core.specs.Stands.{CoreState}
use Rattle.collection.specs.Asked.{MakesByPolicy, MakesRoom, due_steps}
use Rattle.collection.specs.Rooms.{IsCreatable}
use Rattle.collection.specs.Steps.{CollectsWithin, asked_words}
use Rattle.collection.proofs.Leaving.{clash}
use Rattle.collection.proofs.Took.{more, none}

due_most : (config : Config) (due : Bool) → due_steps config due ≤ config.regions + 5
due_most config true = omega arith
due_most config false = omega arith

module _ {W : Type 0} (sees : W → Event → W → Type 0) where
  pub look_most : (due : Bool) (c d : CoreState) (x y : W) → CollectsWithin sees (due_steps c.config due) c x d y
      → CollectsWithin sees (c.config.regions + 5) c x d y
  look_most due c d x y h = more sees (due_steps c.config due) (c.config.regions + 5) c d x y (due_most c.config due) h

  -- nothing is due, and there is room
  pub room_there : (due : Bool) (begin_at : ℕ) (op : Op) (c : CoreState) (x : W) → due ≡ false → MakesRoom sees due begin_at op c x c x
  room_there due begin_at op c x e = record {
    looked = c;
    seen = x;
    look = more sees 0 (due_steps c.config due) c c x x (omega arith) (none sees c x);
    some = λ t. absurd (clash due t e);
    rest = 0;
    few = omega arith;
    none = λ h. refl;
    more = none sees c x;
  }

  -- the same with names for what is due, and for what was left
  pub asked_as : (due due' : Bool) (left left' was begin_at begin' : ℕ) (op : Op) (reply : Reply) (c : CoreState) (x : W) (c' : CoreState)
      (x' : W) → MakesByPolicy sees due left was begin_at op reply c x c' x' → due ≡ due' → (due' ≡ false → left ≡ left')
      → begin_at ≡ begin'
      → MakesByPolicy sees due' left' was begin' op reply c x c' x'
  asked_as due due' left left' was begin_at begin' op reply c x c' x' m same before begins =
      let m' = subst (λ (b : Bool). MakesByPolicy sees b left was begin_at op reply c x c' x') same m in
      let n = subst (λ (b : ℕ). MakesByPolicy sees due' left was b op reply c x c' x') begins m' in
      record {
        makes = n.makes;
        paced = n.paced;
        uncreated = n.uncreated;
        spent = λ e. n.spent e ∙ before e;
        renewed = n.renewed;
        full = n.full;
        two = n.two;
        made = n.made;
        config = n.config;
      }

pub creatable_after : (a : Action) (c d : CoreState) → d.config ≡ c.config → d.next ≡ c.next → IsCreatable c a → IsCreatable d a
creatable_after a c d config next h = record {
  fits = subst (λ (k : Config). asked_words a ≤ object_limit k) (sym config) h.fits;
  named = λ e. h.named (sym next ∙ e);
}

pub if_due : (due : Bool) (m n : ℕ) → due ≡ true → (if due then m else n) ≡ m
if_due true m n e = refl
if_due false m n e = absurd (clash false e refl)

pub if_not_due : (due : Bool) (m n : ℕ) → due ≡ false → (if due then m else n) ≡ n
if_not_due true m n e = absurd (clash true refl e)
if_not_due false m n e = refl

-- where words are left nothing is due
pub due_not : (b q : Bool) → q ≡ (if b then false else true) → b ≡ true → q ≡ false
due_not true q e t = e
due_not false q e t = absurd (clash false t refl)

pub due_is : (b q : Bool) → q ≡ (if b then false else true) → not b ≡ q
due_is true q e = sym e
due_is false q e = sym e

pub due_left : (b q : Bool) → q ≡ (if b then false else true) → q ≡ false → b ≡ true
due_left true q e f = refl
due_left false q e f = absurd (clash q e f)

-- a refused object isn't there
pub refused_made : (m : ℕ) (a : Action) (why : Refusal) (c : CoreState) → HasMade m a (replies.Refused why) c
refused_made m (actions.New to counts) why c = tt
refused_made m (actions.NewWeak to counts weaks) why c = tt
refused_made m _ why c = tt
