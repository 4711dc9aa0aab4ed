-- What a mutator's step replies, and the graph after it. The graph alone gives both: there is no heap here, and
-- nothing is ever freed or moved.
use Rattle.std.specs.Prelude.{ℕ, ◌-◌, ◌^◌, [], Option, Some, None, length, slice_get, slice_set, replicate, nat_lt, ◌==◌, if◌then◌else◌}
use Rattle.heap_words.specs.Sizes.{size_of}
use Rattle.heap_model.specs.Graph.{Object, Graph, next_name, with_root, with_object, with_changed}
use Rattle.graph_runs.specs.State.{register_place, root_at, with_nil_roots}
use Rattle.heap_steps.specs.declared.step.Action.{Action}
use Rattle.heap_steps.specs.declared.step.Action.TheVariants as actions
use Rattle.heap_steps.specs.declared.step.Counts.{Counts}
use Rattle.heap_steps.specs.declared.step.Op.{Op}
use Rattle.heap_steps.specs.declared.step.Register.{Register}
use Rattle.heap_steps.specs.declared.step.Reply.{Reply}
use Rattle.heap_steps.specs.declared.step.Reply.TheVariants as replies
use Rattle.heap_steps.specs.declared.step.Refusal.{Refusal}
use Rattle.heap_steps.specs.declared.step.Refusal.TheVariants as refusals

-- a reply, and the graph after the step
abbrev pub Outcome : Type 0
Outcome = Reply × Graph

-- a refusal leaves the graph as it is
abbrev pub refused : Graph → Refusal → Outcome
refused g why = (replies.Refused why, g)

-- what is done with the object in a place, Nil where there is none
abbrev pub on_contents : Graph → Option Object → (Object → Outcome) → Outcome
on_contents g None f = refused g refusals.Nil
on_contents g (Some x) f = f x

-- what is done with the object of a name, Nil where the name is nil
abbrev pub on_name : Graph → Option ℕ → (ℕ → Object → Outcome) → Outcome
on_name g None f = refused g refusals.Nil
on_name g (Some name) f = on_contents g (slice_get g.objects (name - g.first_name)) (f name)

-- what is done with the object that a register names
abbrev pub on_object : Graph → ℕ → Register → (ℕ → Object → Outcome) → Outcome
on_object g mutator register f = on_name g (root_at g (register_place g.places mutator register.number)) f

-- what is done with a field, NoField where the object has none in that place
abbrev pub on_field : {X : Type 0} → Graph → Option X → (X → Outcome) → Outcome
on_field g None f = refused g refusals.NoField
on_field g (Some value) f = f value

-- the name to be stored: nil, or what a register holds
abbrev pub stored : Graph → ℕ → Option Register → Option ℕ
stored g mutator None = None
stored g mutator (Some register) = root_at g (register_place g.places mutator register.number)

-- a new object is made, all its fields nil and its data words 0
abbrev pub made : Graph → ℕ → Register → Counts → ℕ → Outcome
made g m to counts weaks =
    if nat_lt g.room (size_of counts.pointers weaks counts.values) then refused g refusals.TooBig
    else if next_name g == 2 ^ 64 - 1 then refused g refusals.NamesSpent
    else (
      replies.Named (Some (next_name g)),
      with_object g
          (record {
            pointers = replicate counts.pointers None;
            weaks = replicate weaks None;
            held = [];
            values = replicate counts.values 0;
          })
          (register_place g.places m to.number),
    )

-- the steps of a mutator
abbrev pub act : Graph → ℕ → Action → Outcome
act g m (actions.New to counts) = made g m to counts 0
act g m (actions.Get to object i) = on_object g m object (λ name x.
    on_field g (slice_get x.pointers i) (λ value. (replies.Named value, with_root g (register_place g.places m to.number) value)))
act g m (actions.Put object i value) = on_object g m object (λ name x.
    on_field g (slice_get x.pointers i) (λ old.
    (replies.Done, with_changed g name (record x { pointers = slice_set x.pointers i (stored g m value) }))))
act g m (actions.Read object j) = on_object g m object (λ name x. on_field g (slice_get x.values j) (λ word. (replies.Word word, g)))
act g m (actions.Write object j value) = on_object g m object (λ name x.
    on_field g (slice_get x.values j) (λ old. (replies.Done, with_changed g name (record x { values = slice_set x.values j value }))))
act g m (actions.Move to from) = (
  replies.Done,
  with_root g (register_place g.places m to.number) (root_at g (register_place g.places m from.number)),
)
act g m (actions.Drop register) = (replies.Done, with_root g (register_place g.places m register.number) None)
act g m (actions.Load to from) = (
  replies.Named (root_at g from.number),
  with_root g (register_place g.places m to.number) (root_at g from.number),
)
act g m (actions.Save to from) = (replies.Done, with_root g to.number (root_at g (register_place g.places m from.number)))
act g m (actions.Shape object) = on_object g m object (λ name x. (replies.Shape (length x.pointers) (length x.values), g))
act g m (actions.NewWeak to counts weaks) = made g m to counts weaks
act g m (actions.GetWeak to object i) = on_object g m object (λ name x.
    on_field g (slice_get x.weaks i) (λ value. (replies.Named value, with_root g (register_place g.places m to.number) value)))
act g m (actions.PutWeak object i value) = on_object g m object (λ name x.
    on_field g (slice_get x.weaks i) (λ old.
    (replies.Done, with_changed g name (record x { weaks = slice_set x.weaks i (stored g m value) }))))
act g m (actions.Weaks object) = on_object g m object (λ name x. (replies.Word (length x.weaks), g))
act g m (actions.Scope from) = (replies.Done, with_nil_roots g (register_place g.places m from.number) (g.places.registers - from.number))

-- what an operation replies, and the graph after it
abbrev pub outcome_of : Graph → Op → Outcome
outcome_of g o = act g o.mutator o.action

abbrev pub reply_of : Graph → Op → Reply
reply_of g o = (outcome_of g o).0

abbrev pub graph_after : Graph → Op → Graph
graph_after g o = (outcome_of g o).1
