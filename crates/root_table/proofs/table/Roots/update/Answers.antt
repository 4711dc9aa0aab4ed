use Rattle.std.proofs.Common.{◌≡◌, ◌++◌, ◌<◌, ◌-◌, length, set, arith, subst, sym, ap, ◌∙◌, ℕ}
use Rattle.std.proofs.lemmas.List.{set-append_left}
use Rattle.root_table.specs.Bounds.{IsRootTable}
use Rattle.root_table.proofs.Apart.{some_in, global_updated, register_updated, later_set, set_in}
use Rattle.root_table.proofs.table.Roots.update.Goals as goal

pub invariant_of-self : goal.invariant_of-self
invariant_of-self c = rw c.of-held.ensures (global_updated _ _ _ _ c.args.place c.args.value c.self.invariant
    (omega (arith, c.if-place-globals.true, c.len-globals.ensures, c.self.inside.globals.ok.0))
    (some_in _ _ c.args.place c.self.view_is c.requires))

pub returns-then-place-globals : goal.returns-then-place-globals
returns-then-place-globals c = rw c.of-held.ensures (
    let inside : c.args.place < length c.self.inside.globals.items =
    omega (arith, c.if-place-globals.true, c.len-globals.ensures, c.self.inside.globals.ok.0) in
    set_in _ _ _ c.args.place c.args.value c.self.view_is
    (sym (set-append_left c.self.inside.globals.items c.self.inside.registers.items c.args.place c.args.value inside)))

pub invariant_of-self-else-place-globals : goal.invariant_of-self-else-place-globals
invariant_of-self-else-place-globals c = rw c.of-held.ensures (
    let count : length c.self.inside.globals.items ≡ c.len-globals.result =
    omega (arith, c.len-globals.ensures, c.self.inside.globals.ok.0) in
    subst (λ (n : ℕ). IsRootTable c.self.inside.places c.self.inside.globals.items
    (set c.self.inside.registers.items (c.args.place - n) c.args.value) c.self.inside.used) count
    (register_updated _ _ _ _ c.args.place c.args.value c.self.invariant (omega (arith, count, c.if-place-globals.false))
    (some_in _ _ c.args.place c.self.view_is c.requires)))

pub returns-else-place-globals : goal.returns-else-place-globals
returns-else-place-globals c = rw c.of-held.ensures (
    let count : length c.self.inside.globals.items ≡ c.len-globals.result =
    omega (arith, c.len-globals.ensures, c.self.inside.globals.ok.0) in
    set_in _ _ _ c.args.place c.args.value c.self.view_is
    (ap (λ (n : ℕ). c.self.inside.globals.items ++ set c.self.inside.registers.items (c.args.place - n) c.args.value) (sym count)
    ∙ later_set c.self.inside.globals.items c.self.inside.registers.items c.args.place c.args.value
    (omega (arith, count, c.if-place-globals.false))))
