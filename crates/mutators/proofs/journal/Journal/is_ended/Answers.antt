use Rattle.std.proofs.Common.{◌≤◌, ℕ, length, subst, ◌↔◌, IsTrue, slice_index}
use Rattle.mutators.specs.Journals.{JournalState, mutators_of, script_at}
use Rattle.mutators.proofs.Rows.{each_ended}
use Rattle.mutators.proofs.journal.Journal.is_ended.Goals as goal

pub returns : goal.returns
returns c =
    let d = c.self.inside in
    let b = c.are_ended.result in
    subst (λ (x : JournalState). IsTrue b ↔ ((k : ℕ) → k ≤ mutators_of x → length (script_at x k) ≤ slice_index x.places k)) c.self.view_is
    (each_ended (λ v. v.items) d.scripts.items c.deref.result.now d.places.items c.deref-2.result.now d.core.config.mutators b
    c.deref.ensures.value c.deref-2.ensures.value c.self.invariant.each_script c.are_ended.ensures)
