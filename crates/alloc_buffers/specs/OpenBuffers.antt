-- What is left of a mutator's buffer.
use Rattle.std.specs.Prelude.{◌≡◌, ℕ, zero, suc, Option, Some, None}
use Rattle.std.proofs.Common.{refl}
use Rattle.alloc_buffers.specs.declared.buffers.Buffer.{Buffer}

-- an open buffer, unless it has no words
abbrev pub buffer_of : ℕ → ℕ → Option Buffer
buffer_of next zero = None
buffer_of next (suc n) = Some (record { next = next; rest = suc n })

-- where it begins, and how many words it has; 0 where there is none
abbrev pub next_of : Option Buffer → ℕ
next_of None = 0
next_of (Some x) = x.next

abbrev pub rest_of : Option Buffer → ℕ
rest_of None = 0
rest_of (Some x) = x.rest

pub parts_of : (next rest : ℕ) → (rest ≡ 0 → next ≡ 0) → (next_of (buffer_of next rest) ≡ next) × (rest_of (buffer_of next rest) ≡ rest)
parts_of next zero none = (let e : next ≡ 0 = none refl in cc, refl)
parts_of next (suc n) none = (refl, refl)
