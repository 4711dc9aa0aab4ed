use Rattle.std.proofs.Common.{ap, sym}
use Rattle.regions.specs.Table.{object_at}
use Rattle.step_core.specs.Stands.{name_of}
use Rattle.step_core.proofs.Objects.{is_object, has_name, filler_object, forwarded_object}
use Rattle.step_core.proofs.names.tile_name.Goals as goal

pub name-requires : goal.name-requires
unfolding object_at
name-requires c = is_object _ c.in-Object.pointers c.in-Object.slots c.in-Object.values c.requires c.in-Object.ensures

pub returns-in-Object : goal.returns-in-Object
unfolding object_at
returns-in-Object c = sym (has_name _ c.name.result
    (is_object _ c.in-Object.pointers c.in-Object.slots c.in-Object.values c.requires c.in-Object.ensures) c.name.ensures)

pub returns-in-Filler : goal.returns-in-Filler
unfolding object_at
returns-in-Filler c = sym (ap name_of (filler_object _ c.in-Filler.size c.in-Filler.ensures))

pub returns-in-Forwarded : goal.returns-in-Forwarded
unfolding object_at
returns-in-Forwarded c = sym (ap name_of (forwarded_object _ c.in-Forwarded.to c.in-Forwarded.size c.in-Forwarded.ensures))
