use Rattle.std.proofs.Common.{◌≡◌, drop}
use Rattle.type_names.specs.NamedLines.{is_plain}
use Rattle.type_names.proofs.lines.is_plain.Given as goal

abbrev pub invariant-loop-byte : goal.invariant-loop-byte
invariant-loop-byte l = is_plain l.before (drop l.byte-index l.bytes) ≡ is_plain 0 l.bytes
