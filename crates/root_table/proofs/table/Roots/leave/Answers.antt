use Rattle.std.proofs.Common.{◌≡◌, ◌+◌, ◌-◌, ◌++◌, ℕ, List, Option, get_or, length, set, refl, ap, subst, sym, arith, ◌∙◌}
use Rattle.std.proofs.lemmas.List.{with_items_is}
use Rattle.heap_model.specs.Graph.{with_nils}
use Rattle.root_table.specs.Bounds.{IsRootTable}
use Rattle.root_table.proofs.Nils.{length-nils}
use Rattle.root_table.proofs.Apart.{frame_is_nil, frame_left, mutator_in, place_in, table_left}
use Rattle.root_table.proofs.table.Roots.leave.Goals as goal

pub returns-then-used-register : goal.returns-then-used-register
returns-then-used-register c = frame_is_nil _ _ _ _ _ c.args.mutator c.args.register c.self.view_is refl c.self.invariant
    c.requires.mutator c.requires.register c.if-used-register.true

pub invariant_of-self : goal.invariant_of-self
invariant_of-self c =
    let count = get_or c.self.inside.used (c.args.mutator + 1) 0 - c.args.register in
    let filled : c.fill_nil.new.words ≡ with_nils c.self.inside.registers.items c.among_registers-first.result count =
    c.fill_nil.ensures ∙ ap (λ (ws : List (Option ℕ)). with_nils ws c.among_registers-first.result count) c.deref_mut.ensures.value in
    let len : length c.fill_nil.new.words ≡ c.self.inside.registers.len = omega (
      arith,
      ap length filled,
      length-nils c.self.inside.registers.items c.among_registers-first.result count,
      c.self.inside.registers.ok.0,
    ) in
    subst (λ (ws : List (Option ℕ)). IsRootTable c.self.inside.places c.self.inside.globals.items ws
    (set c.self.inside.used (c.args.mutator + 1) c.args.register))
    (sym (with_items_is c.self.inside.registers c.fill_nil.new.words len ∙ filled))
    (table_left _ _ _ _ c.args.mutator c.args.register _ c.self.invariant
    (mutator_in _ _ c.args.mutator c.self.view_is c.requires.mutator)
    (place_in _ _ c.among_registers-first.result c.args.mutator c.args.register c.self.view_is c.among_registers-first.ensures)
    c.if-used-register.false)

pub returns : goal.returns
returns c =
    let count = get_or c.self.inside.used (c.args.mutator + 1) 0 - c.args.register in
    let filled : c.fill_nil.new.words ≡ with_nils c.self.inside.registers.items c.among_registers-first.result count =
    c.fill_nil.ensures ∙ ap (λ (ws : List (Option ℕ)). with_nils ws c.among_registers-first.result count) c.deref_mut.ensures.value in
    let len : length c.fill_nil.new.words ≡ c.self.inside.registers.len = omega (
      arith,
      ap length filled,
      length-nils c.self.inside.registers.items c.among_registers-first.result count,
      c.self.inside.registers.ok.0,
    ) in
    frame_left _ _ c.self.inside.globals.items c.self.inside.registers.items _ c.self.inside.used c.args.mutator c.args.register
    c.among_registers-first.result c.self.view_is refl c.self.invariant c.requires.mutator c.among_registers-first.ensures
    c.if-used-register.false
    (ap (λ (ws : List (Option ℕ)). c.self.inside.globals.items ++ ws)
    (with_items_is c.self.inside.registers c.fill_nil.new.words len ∙ filled))
