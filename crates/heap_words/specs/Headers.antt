-- The words of headers and pointers.
use Rattle.std.specs.Prelude.{ℕ, zero, suc, ◌+◌, ◌*◌, ◌/◌, ◌%◌, ◌^◌, ◌<◌, Option, Some, None, if◌then◌else◌, ◌==◌, ◌&&◌, nat_lt}
use Rattle.heap_words.specs.declared.header.Header.{Header}
use Rattle.heap_words.specs.declared.header.Header.TheVariants as headers

-- the word that a header is written as
abbrev pub header_word : Header → ℕ
header_word (headers.Object p w d) = p * 2 ^ 8 + d * 2 ^ 32 + w * 2 ^ 56
header_word (headers.Pairs p n d) = n * 2 ^ 9 + d * 2 ^ 32 + p * 2 ^ 56 + 131
header_word (headers.Filler size) = size * 2 ^ 8 + 1
header_word (headers.Forwarded to) = to * 2 ^ 8 + 2

-- the header's numbers are in their bits
abbrev pub IsHeader : Header → Type 0
IsHeader (headers.Object p w d) = (p < 2 ^ 24) × (w < 2 ^ 8) × (d < 2 ^ 24)
IsHeader (headers.Pairs p n d) = (p < 2 ^ 8) × (n < 2 ^ 23) × (d < 2 ^ 24)
IsHeader (headers.Filler size) = (0 < size) × (size < 2 ^ 24)
IsHeader (headers.Forwarded to) = to < 2 ^ 32

-- the header that a word is, if it is well-formed
unfoldable pub header_of : ℕ → Option Header
header_of w =
    if (w % 2 ^ 8 == 0) && nat_lt w (2 ^ 64) then Some (headers.Object (w / 2 ^ 8 % 2 ^ 24) (w / 2 ^ 56) (w / 2 ^ 32 % 2 ^ 24))
    else (if (w % 2 ^ 8 == 1) && (nat_lt 0 (w / 2 ^ 8) && nat_lt w (2 ^ 32)) then Some (headers.Filler (w / 2 ^ 8))
    else (if (w % 2 ^ 8 == 2) && nat_lt w (2 ^ 40) then Some (headers.Forwarded (w / 2 ^ 8))
    else (if (w % 2 ^ 9 == 131) && nat_lt w (2 ^ 64) then Some (headers.Pairs (w / 2 ^ 56) (w / 2 ^ 9 % 2 ^ 23) (w / 2 ^ 32 % 2 ^ 24))
    else None)))

-- the target that a pointer word names, unless it is nil
abbrev pub pointer_of : ℕ → Option ℕ
pointer_of zero = None
pointer_of (suc n) = Some (n % 2 ^ 32)

-- the word of a pointer
abbrev pub pointer_word : Option ℕ → ℕ
pointer_word None = 0
pointer_word (Some a) = a + 1
