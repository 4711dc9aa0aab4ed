use Rattle.std.proofs.Common.{◌≡◌, ◌+◌, ◌≤◌, List, length}
use Rattle.script_text.specs.Lines.{pieces_of}
use Rattle.type_names.specs.NamedLines.{TypeName}
use Rattle.type_names.specs.Naming.{types_from, types_of}
use Rattle.type_names.specs.Tables.{AreNames}
use Rattle.type_names.proofs.types.read_types.Given as goal

abbrev pub invariant-lines : goal.invariant-lines
invariant-lines l = record {
  so_far : (ts : List TypeName) × AreNames ts l.names × (types_from l.number ts (pieces_of l.rest) ≡ types_of l.text);
  number : l.number + length l.rest ≤ 1 + length l.text;
}

abbrev pub decreases-lines : goal.decreases-lines
decreases-lines l = length l.rest
