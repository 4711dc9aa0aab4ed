-- How faults are printed.
use Rattle.std.specs.Prelude.{◌≡◌, ℕ, List, ◌++◌, codes, map, take, nat_lt, if◌then◌else◌}
use Rattle.std.specs.Fmt.{decimal}
use Rattle.script_text.specs.declared.fault.Kind.{Kind}
use Rattle.script_text.specs.declared.fault.Kind.TheVariants as kinds
use Rattle.script_text.specs.declared.fault.LineFault.{LineFault}
use Rattle.script_text.specs.declared.fault.ReadFault.{ReadFault}
use Rattle.script_text.specs.declared.fault.ReadFault.TheVariants as reads
use Rattle.script_text.specs.declared.fault.WriteFault.{WriteFault}
use Rattle.script_text.specs.declared.fault.WriteFault.TheVariants as writes

abbrev pub kind_text : Kind → List ℕ
kind_text kinds.Cut = codes "1 Cut"
kind_text kinds.LongLine = codes "2 LongLine"
kind_text kinds.BadHeap = codes "3 BadHeap"
kind_text kinds.BadActor = codes "4 BadActor"
kind_text kinds.BadStep = codes "5 BadStep"
kind_text kinds.BadCount = codes "6 BadCount"
kind_text kinds.BadReply = codes "7 BadReply"
kind_text kinds.NoMemory = codes "8 NoMemory"

abbrev pub fault_text : LineFault → List ℕ
fault_text f = codes "line " ++ decimal f.line ++ codes ": " ++ kind_text f.kind

abbrev pub read_fault_text : ReadFault → List ℕ
read_fault_text reads.CannotRead = codes "1 CannotRead"
read_fault_text reads.NoMemory = codes "2 NoMemory"

abbrev pub write_fault_text : WriteFault → List ℕ
write_fault_text writes.CannotWrite = codes "1 CannotWrite"
write_fault_text writes.NoMemory = codes "2 NoMemory"

-- a byte as a person reads it: `?` where it is no printable one of ASCII
abbrev pub shown_byte : ℕ → ℕ
shown_byte b = if nat_lt b 32 then 63 else (if nat_lt 126 b then 63 else b)

-- the first 120 bytes of a line so
abbrev pub shown : List ℕ → List ℕ
shown line = map shown_byte (take 120 line)

-- some text was put behind the first bytes
abbrev pub PutsHint : ℕ → ℕ → List ℕ → List ℕ → Type 0
PutsHint at end old new = (hint : List ℕ) × (take end new ≡ take at old ++ hint)
