use Rattle.regions.proofs.Common.{◌≡◌, ◌≢◌, ◌/◌, ◌^◌, ◌<◌, ◌≤◌, ℕ, true, false, nat_le, ap, arith, subst, common_steps, bit_xor, Table}
use Rattle.std.proofs.lemmas.Bool.Decides.{nat_tests}
use Rattle.regions.proofs.Blocks.{other_block, same_block}
use Rattle.regions.proofs.table.RegionTable.leads_out.Goals as goal

at_most : (n m : ℕ) → nat_le n m ≡ true → n ≤ m
at_most n m e = grind (arith, common_steps, nat_tests)

above : (n m : ℕ) → nat_le n m ≡ false → m < n
above n m e = grind (arith, common_steps, nat_tests)

apart : (size words k a x w : ℕ) → size ≡ words → size ≡ 2 ^ k → 0 < size → x ≡ a → nat_le size (bit_xor x w) ≡ true
    → a / words ≢ w / words
apart size words k a x w e power some same test =
    subst (λ (y : ℕ). y / words ≢ w / words) same
    (subst (λ (n : ℕ). x / n ≢ w / n) e (other_block x w size k power some (at_most size (bit_xor x w) test)))

together : (size words k a x w : ℕ) → size ≡ words → size ≡ 2 ^ k → x ≡ a → nat_le size (bit_xor x w) ≡ false
    → a / words ≡ w / words
together size words k a x w e power same test =
    subst (λ (y : ℕ). y / words ≡ w / words) same
    (subst (λ (n : ℕ). x / n ≡ w / n) e (same_block x w size k power (above size (bit_xor x w) test)))

pub returns-clause-out : goal.returns-clause-out
returns-clause-out c = λ test. apart _ _ c.self.inside.shift _ _ _ (ap (λ (t : Table). t.words_per_region) c.self.view_is)
    c.self.invariant.power c.self.invariant.table.region_size.0 c.word.ensures test

pub returns-clause-within : goal.returns-clause-within
returns-clause-within c = λ test. together _ _ c.self.inside.shift _ _ _ (ap (λ (t : Table). t.words_per_region) c.self.view_is)
    c.self.invariant.power c.word.ensures test
