use Rattle.std.proofs.Common.{ap, ◌∙◌, arith, length-set}
use Rattle.heap_model.specs.Graph.{Graph}
use Rattle.root_table.proofs.Rows.{register_stored, register_kept}
use Rattle.object_graph.proofs.graph.Graph.set_register.Goals as goal

pub invariant_of-self : goal.invariant_of-self
invariant_of-self c =
    let mutators = ap (λ (g : Graph). g.places.mutators) c.self.view_is in
    let registers = ap (λ (g : Graph). g.places.registers) c.self.view_is in
    record {
      state = record {
        names = c.self.invariant.state.names;
        roots = length-set c.self.inside.roots.items c.register-place.result c.args.value ∙ c.self.invariant.state.roots;
      };
      bounds = register_stored c.self.inside.places c.self.inside.roots.items c.self.inside.used.items c.args.mutator
          c.args.register.number c.register-place.result c.index.result.now c.args.value c.self.invariant.bounds
          (omega (arith, c.requires.mutator, mutators))
          (omega (arith, c.requires.register, registers)) c.register-place.ensures c.index.ensures c.if-index-register.true;
    }

pub invariant_of-self-else-index-register : goal.invariant_of-self-else-index-register
invariant_of-self-else-index-register c =
    let mutators = ap (λ (g : Graph). g.places.mutators) c.self.view_is in
    let registers = ap (λ (g : Graph). g.places.registers) c.self.view_is in
    record {
      state = record {
        names = c.self.invariant.state.names;
        roots = length-set c.self.inside.roots.items c.register-place.result c.args.value ∙ c.self.invariant.state.roots;
      };
      bounds = register_kept c.self.inside.places c.self.inside.roots.items c.self.inside.used.items c.args.mutator c.args.register.number
          c.register-place.result c.index.result.now c.args.value c.self.invariant.bounds
          (omega (arith, c.requires.mutator, mutators))
          (omega (arith, c.requires.register, registers)) c.register-place.ensures c.index.ensures c.if-index-register.false;
    }
