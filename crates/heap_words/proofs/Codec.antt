-- Each header is what its word says.
use Rattle.std.proofs.Common.{◌≡◌, ℕ, ◌+◌, ◌*◌, ◌^◌, ◌<◌, Some, arith}
use Rattle.std.proofs.lemmas.Grind.{common_steps}
use Rattle.std.proofs.lemmas.Bool.Decides.{nat_tests}
use Rattle.heap_words.specs.declared.header.Header.{Header}
use Rattle.heap_words.specs.declared.header.Header.TheVariants as headers
use Rattle.heap_words.specs.Headers.{header_of, header_word, IsHeader}

object_again : (p w d : ℕ) → p < 2 ^ 24 → w < 2 ^ 8 → d < 2 ^ 24
    → header_of (p * 2 ^ 8 + d * 2 ^ 32 + w * 2 ^ 56) ≡ Some (headers.Object p w d)
unfolding header_of
object_again p w d h k g = grind (arith, common_steps, nat_tests)

pairs_again : (p n d : ℕ) → p < 2 ^ 8 → n < 2 ^ 23 → d < 2 ^ 24
    → header_of (n * 2 ^ 9 + d * 2 ^ 32 + p * 2 ^ 56 + 131) ≡ Some (headers.Pairs p n d)
unfolding header_of
pairs_again p n d h k g = grind (arith, common_steps, nat_tests)

filler_again : (n : ℕ) → 0 < n → n < 2 ^ 24 → header_of (n * 2 ^ 8 + 1) ≡ Some (headers.Filler n)
unfolding header_of
filler_again n h g = grind (arith, common_steps, nat_tests)

forwarded_again : (n : ℕ) → n < 2 ^ 32 → header_of (n * 2 ^ 8 + 2) ≡ Some (headers.Forwarded n)
unfolding header_of
forwarded_again n h = grind (arith, common_steps, nat_tests)

pub header_of-word : (h : Header) → IsHeader h → header_of (header_word h) ≡ Some h
header_of-word (headers.Object p w d) h = object_again p w d h.0 h.1 h.2
header_of-word (headers.Pairs p n d) h = pairs_again p n d h.0 h.1 h.2
header_of-word (headers.Filler n) h = filler_again n h.0 h.1
header_of-word (headers.Forwarded n) h = forwarded_again n h
