use Rattle.std.proofs.Common.{◌≡◌, ℕ, List, refl}
use Rattle.script_text.specs.declared.fault.Kind.{Kind}
use Rattle.script_text.specs.declared.fault.Kind.TheVariants as kinds
use Rattle.script_text.specs.declared.expected.TextKind.{TextKind}
use Rattle.script_text.specs.Hints.{IsHint, NamesMisfit}
use Rattle.script_text.proofs.hints.put_hint.Goals as goal

-- a fault of a step's words, or of an event's
of_words : (k : Kind) (kind : TextKind) (n : ℕ) (input line hint : List ℕ) → (k ≡ kinds.Cut → ⊥) → (k ≡ kinds.LongLine → ⊥)
    → (k ≡ kinds.BadHeap → ⊥) → (k ≡ kinds.NoMemory → ⊥) → NamesMisfit kind n input line hint → IsHint k kind n input line hint
of_words kinds.Cut kind n input line hint a b c d names = absurd (a refl)
of_words kinds.LongLine kind n input line hint a b c d names = absurd (b refl)
of_words kinds.BadHeap kind n input line hint a b c d names = absurd (c refl)
of_words kinds.NoMemory kind n input line hint a b c d names = absurd (d refl)
of_words _ kind n input line hint a b c d names = names

pub returns-in_default-clause-put : goal.returns-in_default-clause-put
returns-in_default-clause-put c =
    let told = c.put_step_hint.ensures.put in (
      told.0,
      (λ line words. of_words c.args.fault.kind c.args.kind c.args.fault.line c.args.text.now line told.0 c.in_default.not-Cut
          c.in_default.not-LongLine c.in_default.not-BadHeap c.in_default.not-NoMemory
          (λ first d stop begins heap ended is. told.1 line (words ended) first d stop begins heap ended is)),
      told.2,
    )
