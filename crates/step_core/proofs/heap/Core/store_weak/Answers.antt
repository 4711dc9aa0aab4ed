use Rattle.std.proofs.Common.{◌∙◌, ◌+◌, ◌<◌, ℕ, List, Option, length, ap, arith, subst, sym}
use Rattle.regions.specs.Table.{fields_at}
use Rattle.refinement.specs.Remembering.{field_word}
use Rattle.step_core.specs.Mutators.{noted}
use Rattle.step_core.proofs.Cores.Keeping.{pointers_of}
use Rattle.step_core.proofs.Mutating.Noting.{field_inside, word_noted}
use Rattle.step_core.proofs.Mutating.WeakStoring.{noted_weak, rooted_object, slot_within}
use Rattle.step_core.proofs.heap.Core.store_weak.Goals as goal

pub pointer_count-requires : goal.pointer_count-requires
pointer_count-requires c = rooted_object _ _ c.args.object c.self.view_is c.self.invariant c.requires.rooted

pub overflow_add-index : goal.overflow_add-index
overflow_add-index c =
    let inside = field_inside _ _ c.args.object _ c.self.view_is c.self.invariant c.law.ensures c.requires.rooted
    (slot_within c.args.self.now c.args.object c.args.slot c.requires.slot) in
    let count = c.pointer_count.ensures ∙ ap (λ (ps : List (Option ℕ)). length ps) (pointers_of _ _ c.args.object c.self.view_is) in
    omega (arith, inside, c.law.ensures.in_all, count)

pub note-requires-clause-field : goal.note-requires-clause-field
note-requires-clause-field c =
    let count = c.pointer_count.ensures ∙ ap (λ (ps : List (Option ℕ)). length ps) (pointers_of _ _ c.args.object c.self.view_is) in
    subst (λ (n : ℕ). n + c.args.slot < length (fields_at c.args.self.now.table c.args.object)) (sym count)
    (slot_within c.args.self.now c.args.object c.args.slot c.requires.slot)

pub store_weak_noted-requires-clause-word : goal.store_weak_noted-requires-clause-word
store_weak_noted-requires-clause-word c = word_noted c.args.self.now c.note.new.self c.args.target c.note.ensures.same c.requires.word

pub returns : goal.returns
returns c =
    let count = c.pointer_count.ensures ∙ ap (λ (ps : List (Option ℕ)). length ps) (pointers_of _ _ c.args.object c.self.view_is) in
    noted_weak c.args.self.now c.note.new.self _ c.args.object c.args.slot c.args.target _ c.note.ensures.same
    (c.note.ensures.cards
    ∙ ap (λ (n : ℕ). noted c.args.self.now c.args.mutator (field_word c.args.object (n + c.args.slot)) c.args.target) count)
    c.store_weak_noted.ensures
