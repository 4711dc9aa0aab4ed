-- Readers and writers that remember a refusal, and what a call does to one.
use Rattle.std.specs.Prelude.{◌≡◌, ℕ, ◌<◌, Bool, IsTrue, List, Option, length, take}
use Rattle.std.specs.Io.KnownBytes.{Appends, Keeps, Consumes}
use Rattle.script_text.specs.declared.fault.ReadFault.{ReadFault}
use Rattle.script_text.specs.declared.fault.ReadFault.TheVariants as reads
use Rattle.script_text.specs.declared.fault.WriteFault.{WriteFault}
use Rattle.script_text.specs.declared.fault.WriteFault.TheVariants as writes

-- a reader: the bytes that it will give, where they are known, and whether it has refused a read
pub record Reader : Type 0 where
  pub left : Option (List ℕ)
  pub refused : Bool

-- a writer: the bytes that it holds, where they are known, and whether it has refused a write
pub record Writer : Type 0 where
  pub held : Option (List ℕ)
  pub refused : Bool

-- the reader gave these bytes, and refused nothing
abbrev pub Gives : Reader → Reader → List ℕ → Type 0
Gives old new bytes = Consumes old.left new.left bytes × (new.refused ≡ old.refused)

-- reading failed after some bytes: the reader refused, or else memory was refused
abbrev pub FailsToGive : ReadFault → Reader → Reader → Type 0
FailsToGive reads.CannotRead old new = ((some : List ℕ) × Consumes old.left new.left some) × IsTrue new.refused
FailsToGive reads.NoMemory old new = (some : List ℕ) × Gives old new some

-- the writer took these bytes, and refused nothing
abbrev pub TookBytes : Writer → Writer → List ℕ → Type 0
TookBytes old new bytes = Appends old.held new.held bytes × (new.refused ≡ old.refused)

-- the writer took a beginning of these bytes, not all, and refused to take more
abbrev pub TakesPart : Writer → Writer → List ℕ → Type 0
TakesPart old new bytes = ((n : ℕ) × (n < length bytes) × Appends old.held new.held (take n bytes)) × IsTrue new.refused

-- the writer was given nothing
abbrev pub WritesNothing : Writer → Writer → Type 0
WritesNothing old new = Keeps old.held new.held × (new.refused ≡ old.refused)

-- writing these bytes failed: the writer refused a part of them, or memory was refused before the first
abbrev pub FailsToTake : WriteFault → Writer → Writer → List ℕ → Type 0
FailsToTake writes.CannotWrite old new bytes = TakesPart old new bytes
FailsToTake writes.NoMemory old new bytes = WritesNothing old new
