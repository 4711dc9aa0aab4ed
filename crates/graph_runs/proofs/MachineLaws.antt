-- What each step keeps.
use Rattle.std.proofs.Common.{◌≡◌, ◌-◌, ◌^◌, ◌∙◌, ℕ, [], Option, Some, None, Bool, true, false, cond, slice_get, replicate, refl, ap}
use Rattle.std.proofs.Common.{Result, Ok, Err}
use Rattle.heap_words.specs.Sizes.{size_of}
use Rattle.std.specs.Prelude.{◌==◌, nat_lt, IfOk, OnErr}
use Rattle.heap_steps.specs.declared.step.Reply.{Reply}
use Rattle.heap_steps.specs.declared.step.Reply.TheVariants as replies
use Rattle.heap_model.specs.Graph.{Object, Graph, next_name, with_object}
use Rattle.graph_runs.specs.State.{root_at, register_place}
use Rattle.graph_runs.specs.Machine.{Outcome, refused, on_contents, on_name, on_object, on_field, made, act, outcome_of}
use Rattle.heap_steps.specs.declared.step.Action.{Action}
use Rattle.heap_steps.specs.declared.step.Action.TheVariants as actions
use Rattle.heap_steps.specs.declared.step.Counts.{Counts}
use Rattle.heap_steps.specs.declared.step.Op.{Op}
use Rattle.heap_steps.specs.declared.step.Register.{Register}
use Rattle.heap_steps.specs.declared.step.Refusal.TheVariants as refusals

cond_law : (P : Outcome → Type 0) (b : Bool) (x y : Outcome) → P x → P y → P (cond b x y)
cond_law P true x y p q = p
cond_law P false x y p q = q

-- what a step that makes an object leaves, by its cases
pub made_law : (P : Outcome → Type 0) (g : Graph) (m : ℕ) (to : Register) (counts : Counts) (weaks : ℕ) → P (refused g refusals.TooBig)
    → P (refused g refusals.NamesSpent)
    → P (
      replies.Named (Some (next_name g)),
      with_object g
          (record {
            pointers = replicate counts.pointers None;
            weaks = replicate weaks None;
            held = [];
            values = replicate counts.values 0;
          })
          (register_place g.places m to.number),
    )
    → P (made g m to counts weaks)
made_law P g m to counts weaks big spent new =
    cond_law P (nat_lt g.room (size_of counts.pointers weaks counts.values)) (refused g refusals.TooBig) _ big
    (cond_law P (next_name g == 2 ^ 64 - 1) (refused g refusals.NamesSpent) _ spent new)

-- what one does with an object leaves
pub object_law : (P : Outcome → Type 0) (g : Graph) (m : ℕ) (r : Register) (f : ℕ → Object → Outcome) → P (refused g refusals.Nil)
    → ((n : ℕ) (x : Object) → root_at g (register_place g.places m r.number) ≡ Some n → slice_get g.objects (n - g.first_name) ≡ Some x
    → P (f n x)) → P (on_object g m r f)
object_law P g m r f nil each = named (root_at g (register_place g.places m r.number)) each
  where
    contents : (n : ℕ) (o : Option Object) → ((x : Object) → o ≡ Some x → P (f n x)) → P (on_contents g o (f n))
    contents n None each = nil
    contents n (Some x) each = each x refl

    named : (o : Option ℕ) → ((n : ℕ) (x : Object) → o ≡ Some n → slice_get g.objects (n - g.first_name) ≡ Some x → P (f n x))
        → P (on_name g o f)
    named None each = nil
    named (Some n) each = contents n (slice_get g.objects (n - g.first_name)) (λ x e. each n x refl e)

-- and with a field of it
pub field_law : {X : Type 0} (P : Outcome → Type 0) (g : Graph) (m : ℕ) (r : Register) (read : Object → Option X)
    (f : ℕ → Object → X → Outcome) → P (refused g refusals.Nil) → P (refused g refusals.NoField)
    → ((n : ℕ) (x : Object) (v : X) → root_at g (register_place g.places m r.number) ≡ Some n
    → slice_get g.objects (n - g.first_name) ≡ Some x → read x ≡ Some v → P (f n x v))
    → P (on_object g m r (λ n x. on_field g (read x) (f n x)))
field_law {X = X} P g m r read f nil none each =
    object_law P g m r _ nil (λ n x is at. field n x (read x) (λ v e. each n x v is at e))
  where
    field : (n : ℕ) (x : Object) (o : Option X) → ((v : X) → o ≡ Some v → P (f n x v)) → P (on_field g o (f n x))
    field n x None each = none
    field n x (Some v) each = each v refl

-- A step that changes roots and objects alone keeps the places of roots, and its reply is never Full.
abbrev Kept : Graph → Outcome → Type 0
Kept g out = (out.1.places ≡ g.places) × (out.0 ≡ replies.Refused refusals.Full → ⊥)

field_kept : {X : Type 0} (g : Graph) (m : ℕ) (r : Register) (read : Object → Option X) (f : ℕ → Object → X → Outcome)
    → ((n : ℕ) (x : Object) (v : X) → Kept g (f n x v)) → Kept g (on_object g m r (λ n x. on_field g (read x) (f n x)))
field_kept g m r read f each = field_law (Kept g) g m r read f (refl, λ h. cc) (refl, λ h. cc) (λ n x v is at e. each n x v)

act_kept : (g : Graph) (m : ℕ) (a : Action) → Kept g (act g m a)
act_kept g m (actions.New to counts) = made_law (Kept g) g m to counts 0 (refl, λ h. cc) (refl, λ h. cc) (refl, λ h. cc)
act_kept g m (actions.Get to object i) = field_kept g m object (λ x. slice_get x.pointers i) _ (λ n x v. (refl, λ h. cc))
act_kept g m (actions.Put object i value) = field_kept g m object (λ x. slice_get x.pointers i) _ (λ n x v. (refl, λ h. cc))
act_kept g m (actions.Read object i) = field_kept g m object (λ x. slice_get x.values i) _ (λ n x v. (refl, λ h. cc))
act_kept g m (actions.Write object i value) = field_kept g m object (λ x. slice_get x.values i) _ (λ n x v. (refl, λ h. cc))
act_kept g m (actions.Shape object) = object_law (Kept g) g m object _ (refl, λ h. cc) (λ n x is at. (refl, λ h. cc))
act_kept g m (actions.NewWeak to counts weaks) = made_law (Kept g) g m to counts weaks (refl, λ h. cc) (refl, λ h. cc) (refl, λ h. cc)
act_kept g m (actions.GetWeak to object i) = field_kept g m object (λ x. slice_get x.weaks i) _ (λ n x v. (refl, λ h. cc))
act_kept g m (actions.PutWeak object i value) = field_kept g m object (λ x. slice_get x.weaks i) _ (λ n x v. (refl, λ h. cc))
act_kept g m (actions.Weaks object) = object_law (Kept g) g m object _ (refl, λ h. cc) (λ n x is at. (refl, λ h. cc))
act_kept g m _ = (refl, λ h. cc)

pub act-not_full : (g : Graph) (m : ℕ) (a : Action) → (act g m a).0 ≡ replies.Refused refusals.Full → ⊥
act-not_full g m a = (act_kept g m a).1

pub outcome_of-places : (g : Graph) (o : Op) → (outcome_of g o).1.places ≡ g.places
outcome_of-places g o = (act_kept g o.mutator o.action).0

-- an answer, and what it left
pub served-places : {E : Type 0} (r : Result Reply E) (old new : Graph) (o : Op) → IfOk r (λ reply. (reply, new) ≡ outcome_of old o)
    → OnErr r (new ≡ old) → new.places ≡ old.places
served-places (Ok reply) old new o ok err = ap (λ (out : Outcome). out.1.places) ok ∙ outcome_of-places old o
served-places (Err e) old new o ok err = ap (λ (g : Graph). g.places) err
