use Rattle.std.proofs.Common.{◌≡◌, ℕ, List, Option, ◌-◌, length, subst, ap, ◌∙◌, arith}
use Rattle.std.proofs.lemmas.List.{with_items_is}
use Rattle.heap_model.specs.Graph.{Graph, with_nils, with_nil_roots, register_place}
use Rattle.root_table.specs.Roots.{RootTable}
use Rattle.root_table.proofs.Nils.{left_in, left_whole, left_nothing, length-nils}
use Rattle.heap_steps.specs.declared.step.Reply.TheVariants as replies
use Rattle.object_graph.specs.declared.graph.Graph.TheInside.{Inside}
use Rattle.graph_runs.specs.Machine.{Outcome}
use Rattle.object_graph.proofs.graph.Graph.scope.Goals as goal

-- what the step leaves: by the words of the roots, and by the graph
abbrev left : Inside → RootTable → Outcome
left k t = (replies.Done, record { room = k.room; first_name = k.first_name; places = k.places; objects = k.objects; roots = t.words })

abbrev scoped : ℕ → ℕ → Graph → Outcome
scoped m from g = (replies.Done, with_nil_roots g (register_place g.places m from) (g.places.registers - from))

pub returns-then-used-from : goal.returns-then-used-from
returns-then-used-from c =
    let mutators = ap (λ (g : Graph). g.places.mutators) c.self.view_is in
    let registers = ap (λ (g : Graph). g.places.registers) c.self.view_is in
    let nothing = left_nothing (record { places = c.self.inside.places; words = c.self.inside.roots.items }) c.self.inside.used.items
    c.args.mutator c.args.from.number c.index-used.result.now c.self.invariant.bounds
    (omega (arith, c.requires.mutator, mutators)) (omega (arith, c.requires.from, registers)) c.if-used-from.true c.index-used.ensures in
    subst (λ (g : Graph). (replies.Done, g) ≡ scoped c.args.mutator c.args.from.number g) c.self.view_is (ap (left c.self.inside) nothing)

pub invariant_of-self : goal.invariant_of-self
invariant_of-self c =
    let mutators = ap (λ (g : Graph). g.places.mutators) c.self.view_is in
    let filled = c.fill_nil.ensures ∙ ap (λ (ws : List (Option ℕ)). with_nils ws c.register-first.result
    (c.index-used.result.now - c.args.from.number)) c.deref_mut.ensures.value in
    let nils = length-nils c.self.inside.roots.items c.register-first.result (c.index-used.result.now - c.args.from.number) in
    let len : length c.fill_nil.new.roots ≡ c.self.inside.roots.len = omega (arith, ap length filled, nils, c.self.inside.roots.ok.0) in
    let is = with_items_is c.self.inside.roots c.fill_nil.new.roots len ∙ filled in
    record {
      state = record {
        names = c.self.invariant.state.names;
        roots = ap (λ (ws : List (Option ℕ)). length ws) is ∙ nils
            ∙ c.self.invariant.state.roots;
      };
      bounds = left_in c.self.inside.places c.self.inside.roots.items _ c.self.inside.used.items c.args.mutator c.args.from.number
          c.index-used.result.now c.register-first.result c.self.invariant.bounds
          (omega (arith, c.requires.mutator, mutators)) c.if-used-from.false c.register-first.ensures is c.index-used.ensures;
    }

pub returns : goal.returns
returns c =
    let mutators = ap (λ (g : Graph). g.places.mutators) c.self.view_is in
    let filled = c.fill_nil.ensures ∙ ap (λ (ws : List (Option ℕ)). with_nils ws c.register-first.result
    (c.index-used.result.now - c.args.from.number)) c.deref_mut.ensures.value in
    let nils = length-nils c.self.inside.roots.items c.register-first.result (c.index-used.result.now - c.args.from.number) in
    let len : length c.fill_nil.new.roots ≡ c.self.inside.roots.len = omega (arith, ap length filled, nils, c.self.inside.roots.ok.0) in
    let whole = left_whole (record { places = c.self.inside.places; words = c.self.inside.roots.items }) _ c.self.inside.used.items
    c.args.mutator c.args.from.number c.index-used.result.now c.register-first.result c.self.invariant.bounds
    (omega (arith, c.requires.mutator, mutators)) c.if-used-from.false c.register-first.ensures
    (with_items_is c.self.inside.roots c.fill_nil.new.roots len ∙ filled) c.index-used.ensures in
    ap (left c.self.inside) whole
    ∙ ap (scoped c.args.mutator c.args.from.number) c.self.view_is
