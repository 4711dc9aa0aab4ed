use Rattle.std.proofs.Common.{◌∙◌, Some, subst, sym, ap, ap₂, IsSome}
use Rattle.heap_model.specs.Weak.{cleared_word}
use Rattle.marker.specs.Views.{ended_marking_of}
use Rattle.marker.specs.declared.marker.Marker.{Marker}
use Rattle.regions.specs.Table.{Table, object_at, tile_in}
use Rattle.step_core.proofs.Objects.{is_object, filler_object, forwarded_object}
use Rattle.heap_walk.proofs.Keeping.{kept_by, kept_not}
use Rattle.heap_walk.proofs.kept.is_kept.Goals as goal

pub returns-in-Filler : goal.returns-in-Filler
unfolding object_at
returns-in-Filler c =
    kept_not c.args.core.now c.args.at (ap (λ (t : Table). object_at t c.args.at) (sym c.table.ensures)
    ∙ filler_object _ c.in-Filler.size c.in-Filler.ensures)

pub returns-in-Forwarded : goal.returns-in-Forwarded
unfolding object_at
returns-in-Forwarded c =
    kept_not c.args.core.now c.args.at
    (ap (λ (t : Table). object_at t c.args.at) (sym c.table.ensures) ∙ forwarded_object _ c.in-Forwarded.to c.in-Forwarded.size
    c.in-Forwarded.ensures)

pub returns-in-Object : goal.returns-in-Object
unfolding object_at
returns-in-Object c =
    let there = subst (λ (t : Table). IsSome (object_at t c.args.at)) c.table.ensures
    (is_object _ c.in-Object.pointers c.in-Object.slots c.in-Object.values
    (subst (λ (t : Table). IsSome (tile_in t c.args.at)) (sym c.table.ensures) c.requires) c.in-Object.ensures) in
    kept_by c.args.core.now c.law_remembers.ensures.core c.args.at c.lasting.result c.is_some.result there
    (c.lasting.ensures ∙ ap₂ (λ (t : Table) (m : Marker). cleared_word (ended_marking_of t m) (Some c.args.at)) c.table-in-Object.ensures
    c.marker.ensures) c.is_some.ensures
