-- A step on the object that a register names, by the place in which that is.
use Rattle.std.proofs.Common.{◌≡◌, ◌-◌, ◌<◌, ◌≤◌, ◌∷◌, ◌∙◌}
use Rattle.std.proofs.Common.{ℕ, zero, suc, List, [], Option, Some, None, length, slice_get, slice_set, refl, sym, ap, subst, arith}
use Rattle.std.proofs.lemmas.Bool.Decides.{nat_tests}
use Rattle.std.proofs.lemmas.Option.{slice_get_past, slice_get-get_or}
use Rattle.heap_steps.specs.declared.step.Register.{Register}
use Rattle.heap_steps.specs.declared.step.Reply.TheVariants as replies
use Rattle.heap_steps.specs.declared.step.Refusal.TheVariants as refusals
use Rattle.heap_model.specs.Graph.{Object, Graph, with_changed}
use Rattle.object_graph.specs.Fields.{object_in}
use Rattle.graph_runs.specs.State.{within, index_of, root_at, register_place}
use Rattle.graph_runs.specs.Machine.{Outcome, refused, on_contents, on_name, on_object, on_field}

within-none : (objects : List Object) (at : ℕ) → within objects at ≡ None → length objects ≤ at
within-none objects at none = grind (arith, nat_tests)

within-some : (objects : List Object) (at place : ℕ) → within objects at ≡ Some place → (at ≡ place) × (place < length objects)
within-some objects at place some = grind (arith, nat_tests)

-- Where a root names no object.
pub no_object : (g : Graph) (root : Option ℕ) (f : ℕ → Object → Outcome) → index_of g root ≡ None
    → refused g refusals.Nil ≡ on_name g root f
no_object g None f none = refl
no_object g (Some name) f none =
    ap (λ (o : Option Object). on_contents g o (f name))
    (sym (slice_get_past g.objects (name - g.first_name) (within-none g.objects (name - g.first_name) none)))

on_place : (g : Graph) (root : Option ℕ) (place : ℕ) (f : Object → Outcome) → index_of g root ≡ Some place
    → f (object_in g.objects place) ≡ on_name g root (λ name. f)
on_place g None place f some = absurd (cc)
on_place g (Some name) place f some =
    let at = within-some g.objects (name - g.first_name) place some in
    ap (λ (o : Option Object). on_contents g o f) (sym (slice_get-get_or g.objects place _ at.1))
    ∙ ap (λ (k : ℕ). on_contents g (slice_get g.objects k) f) (sym at.0)

on_no_field : {X : Type 0} (g : Graph) (root : Option ℕ) (place i : ℕ) (fields : Object → List X) (done : ℕ → Object → X → Outcome)
    → index_of g root ≡ Some place → slice_get (fields (object_in g.objects place)) i ≡ None
    → refused g refusals.NoField ≡ on_name g root (λ name x. on_field g (slice_get (fields x) i) (done name x))
on_no_field g None place i fields done at none = absurd (cc)
on_no_field {X = X} g (Some name) place i fields done at none =
    ap (λ (o : Option X). on_field g o (done name (object_in g.objects place))) (sym none)
    ∙ on_place g (Some name) place (λ x. on_field g (slice_get (fields x) i) (done name x)) at

on_field_there : {X : Type 0} (g : Graph) (xs : List X) (i : ℕ) (out : Outcome) → i < length xs
    → out ≡ on_field g (slice_get xs i) (λ old. out)
on_field_there g [] i out lt = absurd (omega arith)
on_field_there g (x ∷ xs) zero out lt = refl
on_field_there g (x ∷ xs) (suc i) out lt = on_field_there g xs i out (omega arith)

on_changed : {X : Type 0} (g : Graph) (root : Option ℕ) (place i : ℕ) (fields : Object → List X) (change : Object → Object)
    → index_of g root ≡ Some place → i < length (fields (object_in g.objects place))
    → (replies.Done, record g { objects = slice_set g.objects place (change (object_in g.objects place)) }) ≡ on_name g root
    (λ name x. on_field g (slice_get (fields x) i) (λ old. (replies.Done, with_changed g name (change x))))
on_changed g None place i fields change at lt = absurd (cc)
on_changed g (Some name) place i fields change at lt =
    let in_place = within-some g.objects (name - g.first_name) place at in
    let x = object_in g.objects place in
    ap (λ (k : ℕ). (replies.Done, record g { objects = slice_set g.objects k (change x) })) (sym in_place.0)
    ∙ on_field_there g (fields x) i (replies.Done, with_changed g name (change x)) lt
    ∙ on_place g (Some name) place (λ y. on_field g (slice_get (fields y) i) (λ old. (replies.Done, with_changed g name (change y)))) at

-- Where it names the object in a place.
pub the_object : (v g : Graph) (m : ℕ) (r : Register) (place : ℕ) (f : Object → Outcome) → v ≡ g
    → index_of g (root_at g (register_place g.places m r.number)) ≡ Some place → f (object_in v.objects place) ≡ on_object g m r (λ name. f)
the_object v g m r place f same some = ap (λ (u : Graph). f (object_in u.objects place)) same
    ∙ on_place g (root_at g (register_place g.places m r.number)) place f some

-- That object has no such field.
pub no_field : {X : Type 0} (v g : Graph) (m : ℕ) (r : Register) (place i : ℕ) (fields : Object → List X) (done : ℕ → Object → X → Outcome)
    → v ≡ g → index_of g (root_at g (register_place g.places m r.number)) ≡ Some place
    → slice_get (fields (object_in v.objects place)) i ≡ None
    → refused g refusals.NoField ≡ on_object g m r (λ name x. on_field g (slice_get (fields x) i) (done name x))
no_field v g m r place i fields done same at none =
    on_no_field g (root_at g (register_place g.places m r.number)) place i fields done at
    (ap (λ (u : Graph). slice_get (fields (object_in u.objects place)) i) (sym same) ∙ none)

-- The same, by how many there are.
pub past_fields : {X : Type 0} (v g : Graph) (m : ℕ) (r : Register) (place i n : ℕ) (fields : Object → List X)
    (done : ℕ → Object → X → Outcome) → v ≡ g → index_of g (root_at g (register_place g.places m r.number)) ≡ Some place
    → n ≡ length (fields (object_in v.objects place)) → n ≤ i
    → refused g refusals.NoField ≡ on_object g m r (λ name x. on_field g (slice_get (fields x) i) (done name x))
past_fields v g m r place i n fields done same at long le =
    no_field v g m r place i fields done same at (slice_get_past (fields (object_in v.objects place)) i (omega (arith, long, le)))

-- The field has this value.
pub the_field : {X : Type 0} (v g : Graph) (m : ℕ) (r : Register) (place i : ℕ) (fields : Object → List X) (done : X → Outcome) (value : X)
    → v ≡ g → index_of g (root_at g (register_place g.places m r.number)) ≡ Some place
    → slice_get (fields (object_in v.objects place)) i ≡ Some value
    → done value ≡ on_object g m r (λ name x. on_field g (slice_get (fields x) i) done)
the_field {X = X} v g m r place i fields done value same at some =
    ap (λ (o : Option X). on_field g o done) (sym some)
    ∙ the_object v g m r place (λ x. on_field g (slice_get (fields x) i) done) same at

-- The object has the field, and is changed.
pub changed_object : {X : Type 0} (v g : Graph) (m : ℕ) (r : Register) (place i n : ℕ) (fields : Object → List X)
    (change : Object → Object) (objects : List Object) → v ≡ g → index_of g (root_at g (register_place g.places m r.number)) ≡ Some place
    → n ≡ length (fields (object_in v.objects place)) → i < n → objects ≡ slice_set v.objects place (change (object_in v.objects place))
    → (replies.Done, record v { objects = objects }) ≡ on_object g m r
    (λ name x. on_field g (slice_get (fields x) i) (λ old. (replies.Done, with_changed g name (change x))))
changed_object v g m r place i n fields change objects same at long lt set =
    ap (λ (os : List Object). (replies.Done, record v { objects = os })) set
    ∙ ap (λ (u : Graph). (replies.Done, record u { objects = slice_set u.objects place (change (object_in u.objects place)) })) same
    ∙ on_changed g (root_at g (register_place g.places m r.number)) place i fields change at
    (subst (λ (u : Graph). i < length (fields (object_in u.objects place))) same (omega (arith, long, lt)))
