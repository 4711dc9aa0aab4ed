use Rattle.std.proofs.Common.{ap}
use Rattle.step_core.specs.Stands.{CoreState}
use Rattle.step_core.proofs.Cores.Keeping.{root_held}
use Rattle.step_core.proofs.Cores.Filling.{names_at}
use Rattle.step_core.proofs.Mutating.Fields.{pointer_within}
use Rattle.step_core.proofs.Mutating.Logging.{idle_after}
use Rattle.step_core.proofs.Mutating.Near.{near_stores, put_does, put_fills}
use Rattle.step_core.proofs.heap.Core.put_near.Goals as goal

pub is_near-requires-clause-rooted : goal.is_near-requires-clause-rooted
is_near-requires-clause-rooted c =
    (names_at _ c.args.mutator c.args.object c.args.at c.law_remembers.ensures.core c.requires.mutator c.requires.object
    c.requires.held).rooted

pub is_near-requires-clause-field : goal.is_near-requires-clause-field
is_near-requires-clause-field c = pointer_within c.args.self.now.table c.args.at c.args.field c.requires.field

pub store_near-requires-clause-can : goal.store_near-requires-clause-can
store_near-requires-clause-can c = record {
  rooted = (names_at _ c.args.mutator c.args.object c.args.at c.law_remembers.ensures.core c.requires.mutator c.requires.object
      c.requires.held).rooted;
  field = c.requires.field;
  held = root_held _ _ c.stored_in-target.ensures.rooted;
}

pub store_far-requires-clause-can : goal.store_far-requires-clause-can
store_far-requires-clause-can c = record {
  rooted = (names_at _ c.args.mutator c.args.object c.args.at c.law_remembers.ensures.core c.requires.mutator c.requires.object
      c.requires.held).rooted;
  field = c.requires.field;
  held = root_held _ _ c.stored_in-target.ensures.rooted;
}

pub returns-then-is_near-clause-fills : goal.returns-then-is_near-clause-fills
returns-then-is_near-clause-fills c =
    put_fills _ _ c.args.mutator c.args.object c.args.at c.args.field c.args.value c.stored_in-target.result c.law_remembers.ensures.core
    c.requires.field (ap (λ (d : CoreState). d.table) (c.store_near.ensures c.args.mutator).core)
    (put_does _ _ c.args.mutator c.args.object c.args.at c.args.field c.args.value _
    (names_at _ c.args.mutator c.args.object c.args.at c.law_remembers.ensures.core c.requires.mutator c.requires.object c.requires.held)
    c.requires.field c.stored_in-target.ensures
    (near_stores _ _ c.args.mutator c.args.at c.args.field _ (c.is_near.ensures.near c.if-is_near.true)
    (c.store_near.ensures c.args.mutator)))

pub returns-else-is_near-clause-fills : goal.returns-else-is_near-clause-fills
returns-else-is_near-clause-fills c =
    put_fills _ _ c.args.mutator c.args.object c.args.at c.args.field c.args.value c.stored_in-target.result c.law_remembers.ensures.core
    c.requires.field (ap (λ (d : CoreState). d.table) c.store_far.ensures.core)
    (put_does _ _ c.args.mutator c.args.object c.args.at c.args.field c.args.value _
    (names_at _ c.args.mutator c.args.object c.args.at c.law_remembers.ensures.core c.requires.mutator c.requires.object c.requires.held)
    c.requires.field c.stored_in-target.ensures c.store_far.ensures)

pub returns-then-is_near-clause-idle : goal.returns-then-is_near-clause-idle
returns-then-is_near-clause-idle c = idle_after c.args.self.now c.store_near.new.self c.args.mutator _ c.requires.idle
    (c.store_near.ensures c.args.mutator).marker
