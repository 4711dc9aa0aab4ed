use Rattle.std.proofs.Common.{◌≡◌, ◌+◌, ◌*◌, ◌≤◌, ◌∙◌, ℕ, List, Bool, length, slice_index, set, bit_and, bit_or, refl, sym, ap, arith}
use Rattle.std.specs.Int.Bits.{or_zero_r}
use Rattle.std.proofs.lemmas.List.{set-get_or}
use Rattle.bit_sets.specs.Bits.{has}
use Rattle.bit_sets.specs.BitWords.{flags_of}
use Rattle.bit_sets.proofs.BitWords.{len_is, length-flags_of}
use Rattle.bit_sets.proofs.LowestBits.{same_len}
use Rattle.bit_sets.proofs.BitFilters.{passing_put}
use Rattle.bit_sets.proofs.bits.Bits.set_passing.Goals as goal

pub get-requires : goal.get-requires
get-requires c = omega (arith, c.requires.first, c.filter.invariant, len_is _ _ _ c.filter.view_is)

pub get-requires-2 : goal.get-requires-2
get-requires-2 c = omega (arith, c.requires.second, c.filter.invariant, len_is _ _ _ c.filter.view_is)

pub get-requires-3 : goal.get-requires-3
get-requires-3 c = omega (arith, c.requires.within, c.requires.even, c.members.invariant, len_is _ _ _ c.members.view_is)

pub join-requires : goal.join-requires
join-requires c = omega (arith, c.requires.within, c.self.invariant, len_is _ _ _ c.self.view_is)

pub returns-then-more-ne0-clause-len : goal.returns-then-more-ne0-clause-len
returns-then-more-ne0-clause-len c = rw (← c.self.view_is) (length-flags_of _ _ ∙ sym (length-flags_of _ _))

pub returns-then-more-ne0-clause-flags : goal.returns-then-more-ne0-clause-flags
returns-then-more-ne0-clause-flags c = λ a.
    let ws = c.self.inside.words in
    let ms = c.members.inside.words in
    let fs = c.filter.inside.words in
    let n = c.self.inside.len in
    let even : c.members.inside.len ≡ n = same_len _ _ _ _ _ _ c.self.view_is c.members.view_is c.requires.even in
    let within : 64 * c.args.group + 64 ≤ n = omega (arith, c.requires.within, length-flags_of ws n, ap length c.self.view_is) in
    let first : 64 * c.args.first + 64 ≤ c.filter.inside.len =
    omega (arith, c.requires.first, length-flags_of fs c.filter.inside.len, ap length c.filter.view_is) in
    let second : 64 * c.args.second + 64 ≤ c.filter.inside.len =
    omega (arith, c.requires.second, length-flags_of fs c.filter.inside.len, ap length c.filter.view_is) in
    ap (λ (l : List ℕ). has (flags_of l n) a) c.join.ensures
    ∙ passing_put c.args.self.now c.args.members.now c.args.filter.now ws ms fs n c.members.inside.len c.filter.inside.len
    c.args.group c.args.first c.args.second (slice_index ws c.args.group) c.get-3.result c.get.result c.get-2.result
    c.self.view_is c.members.view_is c.filter.view_is even within (omega (arith, within, c.self.invariant)) first second
    refl c.get-3.ensures c.get.ensures c.get-2.ensures a

pub returns-else-more-ne0-clause-flags : goal.returns-else-more-ne0-clause-flags
returns-else-more-ne0-clause-flags c = λ a.
    let ws = c.self.inside.words in
    let ms = c.members.inside.words in
    let fs = c.filter.inside.words in
    let n = c.self.inside.len in
    let even : c.members.inside.len ≡ n = same_len _ _ _ _ _ _ c.self.view_is c.members.view_is c.requires.even in
    let within : 64 * c.args.group + 64 ≤ n = omega (arith, c.requires.within, length-flags_of ws n, ap length c.self.view_is) in
    let first : 64 * c.args.first + 64 ≤ c.filter.inside.len =
    omega (arith, c.requires.first, length-flags_of fs c.filter.inside.len, ap length c.filter.view_is) in
    let second : 64 * c.args.second + 64 ≤ c.filter.inside.len =
    omega (arith, c.requires.second, length-flags_of fs c.filter.inside.len, ap length c.filter.view_is) in
    let more : ℕ = bit_and c.get-3.result (bit_and c.get.result c.get-2.result) in
    let none : more ≡ 0 = omega (arith, c.if-more-ne0.false) in
    let same : set ws c.args.group (bit_or (slice_index ws c.args.group) more) ≡ ws =
    ap (λ (m : ℕ). set ws c.args.group (bit_or (slice_index ws c.args.group) m)) none
    ∙ ap (set ws c.args.group) (or_zero_r (slice_index ws c.args.group)) ∙ set-get_or ws c.args.group 0 in
    ap (λ (l : List Bool). has l a) (sym c.self.view_is) ∙ ap (λ (l : List ℕ). has (flags_of l n) a) (sym same)
    ∙ passing_put c.args.self.now c.args.members.now c.args.filter.now ws ms fs n c.members.inside.len c.filter.inside.len
    c.args.group c.args.first c.args.second (slice_index ws c.args.group) c.get-3.result c.get.result c.get-2.result
    c.self.view_is c.members.view_is c.filter.view_is even within (omega (arith, within, c.self.invariant)) first second
    refl c.get-3.ensures c.get.ensures c.get-2.ensures a
