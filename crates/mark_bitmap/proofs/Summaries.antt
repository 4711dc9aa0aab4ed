-- Sets with a summary above them.
use Rattle.regions.proofs.Common.{get_or-set_other, length-replicate, get_or-set_same, HasNoneBelow, MatchOption, HasNone}
use Rattle.regions.proofs.Common.{length-set, replicate, cases_eq, cases_lt, IsLowest, div_ceil, length, ⊎_elim, Option, IfSome, IsSome, ap}
use Rattle.regions.proofs.Common.{false, arith, Bool, true, List, refl, Some, None, ◌≡◌, ◌≢◌, ◌+◌, ◌*◌, ◌/◌, ◌<◌, ◌∙◌, set, sym, has, ℕ}
use Rattle.bit_sets.proofs.BitWords.{has_past}
use Rattle.mark_bitmap.specs.Summary.{HasMember, HasNoMember, IsMember, IsSummary, AreLevels}
pub use Rattle.bit_sets.proofs.BitWords.{has_none}

pub false_by : (b c : Bool) → (b ≡ true → c ≡ true) → c ≡ false → b ≡ false
false_by true c f e = let g : c ≡ true = f refl in absurd (cc)
false_by false c f e = refl

pub has_set_here : (flags : List Bool) (n i : ℕ) (b : Bool) → n < length flags → i ≡ n → has (set flags n b) i ≡ b
has_set_here flags n i b h e = ap (λ (k : ℕ). has (set flags n b) k) e ∙ get_or-set_same flags n b false h

pub has_set_there : (flags : List Bool) (n i : ℕ) (b : Bool) → i ≢ n → has (set flags n b) i ≡ has flags i
has_set_there flags n i b ne = get_or-set_other flags n i b false ne

pub has_set_true : (flags : List Bool) (n i : ℕ) → n < length flags → has flags i ≡ true → has (set flags n true) i ≡ true
has_set_true flags n i h e = ⊎_elim (λ same. has_set_here flags n i true h same) (λ ne. has_set_there flags n i true ne ∙ e) (cases_eq i n)

-- ---- the summary of no numbers, of one more, and of one less
pub empty_summary : (n k : ℕ) → IsSummary (has (replicate n false)) (replicate k false)
empty_summary n k = record {
  each = λ a e. let f = has_none n a in absurd (cc);
  only = λ i e. let f = has_none k i in absurd (cc);
}

module _ (members groups : List Bool) (n : ℕ) (inside : n < length members) (group : n / 64 < length groups)
    (s : IsSummary (has members) groups) where
  pub set_summary : IsSummary (has (set members n true)) (set groups (n / 64) true)
  set_summary = record {
    each = λ a e. ⊎_elim (λ same. has_set_here groups (n / 64) (a / 64) true group (ap (λ (k : ℕ). k / 64) same))
        (λ ne. has_set_true groups (n / 64) (a / 64) group (s.each a (sym (has_set_there members n a true ne) ∙ e))) (cases_eq a n);
    only = λ i e. ⊎_elim (λ same. record { number = n; inside = sym same; is_in = has_set_here members n n true inside refl })
        (λ ne. let m = s.only i (sym (has_set_there groups (n / 64) i true ne) ∙ e) in
        record { number = m.number; inside = m.inside; is_in = has_set_true members n m.number inside m.is_in }) (cases_eq i (n / 64));
  }

-- a number more in a group that has one
pub summary_more : (members groups : List Bool) (n : ℕ) → n < length members → HasMember (has members) (n / 64)
    → IsSummary (has members) groups → IsSummary (has (set members n true)) groups
summary_more members groups n inside m s = record {
  each = λ a e. ⊎_elim
      (λ same. ap (λ (k : ℕ). has groups (k / 64)) same ∙ ap (λ (i : ℕ). has groups i) (sym m.inside) ∙ s.each m.number m.is_in)
      (λ ne. s.each a (sym (has_set_there members n a true ne) ∙ e)) (cases_eq a n);
  only = λ i e.
      let k = s.only i e in
      record { number = k.number; inside = k.inside; is_in = has_set_true members n k.number inside k.is_in };
}

pub levels_more : (members groups blocks : List Bool) (n : ℕ) → n < length members → HasMember (has members) (n / 64)
    → AreLevels members groups blocks → AreLevels (set members n true) groups blocks
levels_more members groups blocks n inside m l = record {
  group_count = l.group_count ∙ ap (λ (k : ℕ). div_ceil k 64) (sym (length-set members n true));
  block_count = l.block_count;
  group_summary = summary_more members groups n inside m l.group_summary;
  block_summary = l.block_summary;
}

-- the lowest member is one
pub some_member : (test : ℕ → Bool) (group : ℕ) (found : Option ℕ) → MatchOption found (HasNoMember test group) (IsMember test group)
    → IsSome found → HasMember test group
some_member test group None m h = absurd (cc)
some_member test group (Some x) m h = record { number = x; inside = m.inside; is_in = m.lowest.is_in }

module _ (test less : ℕ → Bool) (groups : List Bool) (n : ℕ) (s : IsSummary test groups) where
  pub leave_others : ((a : ℕ) → a ≢ n → less a ≡ test a) → (i : ℕ) → i ≢ n / 64 → has groups i ≡ true → HasMember less i
  leave_others others i ne e =
      let m = s.only i e in
      record {
        number = m.number;
        inside = m.inside;
        is_in = others m.number (λ same. ne (sym m.inside ∙ ap (λ (k : ℕ). k / 64) same)) ∙ m.is_in;
      }

-- ---- the lowest number
-- of the lowest group
pub lowest_member : (test : ℕ → Bool) (groups : List Bool) (group : ℕ) (found : Option ℕ) → IsSummary test groups
    → IsLowest (has groups) 0 group → MatchOption found (HasNoMember test group) (IsMember test group)
    → MatchOption found (HasNone test 0) (IsLowest test 0)
lowest_member test groups group None s l none =
    let m = s.only group l.is_in in
    let f = none m.number m.inside in
    let e = m.is_in in
    absurd (cc)
lowest_member test groups group (Some x) s l m = record {
  at_least = omega arith;
  is_in = m.lowest.is_in;
  lowest = λ a h k. ⊎_elim (λ b. false_by (test a) (has groups (a / 64)) (s.each a) (l.lowest (a / 64) (omega arith) (omega arith)))
      (λ b. m.lowest.lowest a b k) (cases_lt a (64 * group));
}

pub found_within : (flags : List Bool) (found : Option ℕ)
    → MatchOption found (HasNone (has flags) 0) (IsLowest (has flags) 0) → IfSome found (λ x. x < length flags)
found_within flags None none = tt
found_within flags (Some x) l =
    ⊎_elim (λ h. h) (λ h. let f = has_past flags x h in let e = l.is_in in absurd (cc)) (cases_lt x (length flags))

-- ---- where the view is the lowest level
pub levels_clear : (members groups blocks : List Bool) → AreLevels members groups blocks
    → AreLevels (replicate (length members) false) (replicate (length groups) false) (replicate (length blocks) false)
levels_clear members groups blocks l = record {
  group_count = length-replicate (length groups) false ∙ l.group_count
      ∙ ap (λ (x : ℕ). div_ceil x 64) (sym (length-replicate (length members) false));
  block_count =
      length-replicate (length blocks) false ∙ l.block_count ∙ ap (λ (x : ℕ). div_ceil x 64) (sym (length-replicate (length groups) false));
  group_summary = empty_summary (length members) (length groups);
  block_summary = empty_summary (length groups) (length blocks);
}

pub levels_set : (members groups blocks : List Bool) (n : ℕ) → n < length members → AreLevels members groups blocks
    → AreLevels (set members n true) (set groups (n / 64) true) (set blocks (n / 64 / 64) true)
levels_set members groups blocks n inside l =
    let group : n / 64 < length groups = omega (arith, l.group_count) in
    let block : n / 64 / 64 < length blocks = omega (arith, l.block_count) in
    record {
      group_count = length-set groups (n / 64) true ∙ l.group_count ∙ ap (λ (x : ℕ). div_ceil x 64) (sym (length-set members n true));
      block_count =
          length-set blocks (n / 64 / 64) true ∙ l.block_count ∙ ap (λ (x : ℕ). div_ceil x 64) (sym (length-set groups (n / 64) true));
      group_summary = set_summary members groups n inside group l.group_summary;
      block_summary = set_summary groups blocks (n / 64) group block l.block_summary;
    }

-- a group that has a member has a lowest one
pub has_some : (test : ℕ → Bool) (group : ℕ) → HasMember test group → HasNoneBelow test (64 * group) (64 * group + 64) → ⊥
has_some test group m none =
    let inside = m.inside in
    let f = none m.number (omega arith) (omega arith) in
    let e = m.is_in in
    cc

pub levels_new : (members groups blocks : List Bool) (n k m : ℕ) → members ≡ replicate n false → groups ≡ replicate k false
    → blocks ≡ replicate m false → k ≡ div_ceil n 64 → m ≡ div_ceil k 64 → AreLevels members groups blocks
levels_new members groups blocks n k m e f g count above =
    rw (e, f, g) (record {
      group_count = length-replicate k false ∙ count ∙ ap (λ (x : ℕ). div_ceil x 64) (sym (length-replicate n false));
      block_count = length-replicate m false ∙ above ∙ ap (λ (x : ℕ). div_ceil x 64) (sym (length-replicate k false));
      group_summary = empty_summary n k;
      block_summary = empty_summary k m;
    })
