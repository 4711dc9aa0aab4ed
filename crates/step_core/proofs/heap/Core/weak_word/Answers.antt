use Rattle.std.proofs.Common.{◌≡◌, ◌<◌, ◌∙◌, Option, Some, None, length, ap, refl, not, false, ℕ}
use Rattle.std.specs.Option.{is_some}
use Rattle.heap_model.specs.Heap.{IsRoot}
use Rattle.regions.specs.Table.{weaks_at}
use Rattle.step_core.specs.Stands.{CoreState, heap_of}
use Rattle.step_core.specs.Mutators.{weak_of}
use Rattle.step_core.proofs.Cycles.Cycling.{to_fields}
use Rattle.step_core.proofs.Mutating.WeakReading.{slot_by_marks, slot_settled}
use Rattle.step_core.proofs.heap.Core.weak_word.Goals as goal

pub get_weak-word-requires : goal.get_weak-word-requires
get_weak-word-requires c = to_fields _ _ c.self.view_is (λ d. c.args.slot < length (weaks_at d.table c.args.object)) c.requires.slot

none_of : (o : Option ℕ) → is_some o ≡ false → o ≡ None
none_of None e = refl
none_of (Some x) e = cc

pub returns-then-is_none : goal.returns-then-is_none
returns-then-is_none c =
    let root = to_fields _ _ c.self.view_is (λ d. IsRoot (heap_of d) c.args.object) c.requires.rooted in
    slot_settled _ c.self.invariant c.args.object c.args.slot root (none_of _ (c.is_none.ensures
    ∙ ap not c.if-is_none.true)) _ c.get_weak-word.ensures
    ∙ ap (λ (d : CoreState). weak_of d c.args.object c.args.slot) c.self.view_is

pub returns : goal.returns
returns c =
    let root = to_fields _ _ c.self.view_is (λ d. IsRoot (heap_of d) c.args.object) c.requires.rooted in
    c.lasting.ensures ∙ slot_by_marks _ c.self.invariant c.args.object c.args.slot root _ c.get_weak-word.ensures
    ∙ ap (λ (d : CoreState). weak_of d c.args.object c.args.slot) c.self.view_is
