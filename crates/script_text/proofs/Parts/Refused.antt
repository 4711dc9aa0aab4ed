-- Where no more can be read after what waits.
use Rattle.std.proofs.Common.{◌≡◌, ℕ, ◌<◌, Bool, List, [], ◌++◌, length, Result, Err, inr, subst, sym, ◌∙◌}
use Rattle.std.proofs.KnownBytes.{Consumes-trans}
use Rattle.std.proofs.lemmas.List.{append-nil}
use Rattle.script_text.specs.Awaited.{IsUnended, IsNext}
use Rattle.script_text.specs.Watched.{Reader, Gives, FailsToGive}
use Rattle.script_text.specs.declared.read.awaited.NextFault.{NextFault}
use Rattle.script_text.specs.declared.read.awaited.NextFault.TheVariants as nexts
use Rattle.script_text.specs.declared.fault.Kind.{Kind}
use Rattle.script_text.specs.declared.fault.Kind.TheVariants as kinds
use Rattle.script_text.specs.declared.fault.ReadFault.{ReadFault}
use Rattle.script_text.specs.declared.fault.ReadFault.TheVariants as reads

-- a reader that gave some bytes, and then more
pub gives_more : (given mid left : Reader) (front more : List ℕ) → Gives given mid front
    → Gives mid left more → Gives given left (front ++ more)
gives_more given mid left front more a b = (Consumes-trans given.left mid.left left.left front more a.0 b.0, b.1 ∙ a.1)

-- a reader that gave some bytes, and then refused
pub fails_behind : (given mid left : Reader) (front : List ℕ) (f : ReadFault) → Gives given mid front
    → FailsToGive f mid left → FailsToGive f given left
fails_behind given mid left front reads.CannotRead a b =
    ((front ++ b.0.0, Consumes-trans given.left mid.left left.left front b.0.0 a.0 b.0.1), b.1)
fails_behind given mid left front reads.NoMemory a b = (front ++ b.0, gives_more given mid left front b.0 a b.1)

-- what waits is too long, or the reader failed
pub next_fails : {A : Type 0} (read : List ℕ → Result A Kind) (waited now after : List ℕ) (given mid left : Reader)
    (r : Result Bool NextFault) (fault : NextFault) (more : List ℕ) → r ≡ Err fault → Gives given mid more
    → now ≡ waited ++ more → IsUnended now
    → ((k : Kind) → r ≡ Err (nexts.Line k) → Gives mid left [] × (after ≡ now) × (120 < length now) × (k ≡ kinds.LongLine)) →
    ((f : ReadFault) → r ≡ Err (nexts.Read f) → FailsToGive f mid left) → IsNext read waited after given left (Err fault)
next_fails read waited now after given mid left r (nexts.Line k) more is gives behind unended line fails =
    let l = line k is in (
      more,
      subst (λ (t : List ℕ). Gives given left t) (append-nil more) (gives_more given mid left more [] gives l.0),
      l.1 ∙ behind,
      inr (subst IsUnended (sym l.1) unended, subst (λ (t : List ℕ). 120 < length t) (sym l.1) l.2, l.3),
    )
next_fails read waited now after given mid left r (nexts.Read f) more is gives behind unended line fails =
    fails_behind given mid left more f gives (fails f is)
