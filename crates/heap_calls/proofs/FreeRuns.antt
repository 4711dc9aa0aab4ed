-- The longest run of free regions, region by region.
use Rattle.std.proofs.Common.{◌≡◌, ◌≢◌, ◌+◌, ◌-◌, ◌≤◌, ◌∙◌, ℕ, zero, suc, inl, inr, ap, arith}
use Rattle.std.proofs.lemmas.Bool.{cases_eq, cases_lt}
use Rattle.regions.specs.Table.{Table, kind_of}
use Rattle.regions.specs.declared.row.Kind.TheVariants as kinds
use Rattle.heap_calls.specs.FreeRuns.{AreFree, IsLongest}

-- the first n regions were looked at: the last of them are free, so many and no more, and the longest run among them is known
pub record IsSeen (t : Table) (n last longest : ℕ) : Type 0 where
  pub within : last ≤ n
  pub free : AreFree t (n - last) last
  pub edge : (at m : ℕ) → at + m ≡ n → AreFree t at m → m ≤ last
  pub among : IsLongest t n longest

shorter : (t : Table) (at m : ℕ) → AreFree t at (suc m) → AreFree t at m
shorter t at m f k low high = f k low (omega (arith, high))

edge_free : (t : Table) (n last : ℕ) → ((at m : ℕ) → at + m ≡ n → AreFree t at m → m ≤ last)
    → (at m : ℕ) → at + m ≡ n + 1 → AreFree t at m → m ≤ last + 1
edge_free t n last edge at zero e f = omega arith
edge_free t n last edge at (suc m) e f = let le = edge at m (omega (arith, e)) (shorter t at m f) in omega (arith, le)

-- one more that is free
pub one_free : (t : Table) (n last longest next : ℕ) → IsSeen t n last longest → kind_of t n ≡ kinds.Free
    → (longest ≤ next) × (last + 1 ≤ next) × (next ≤ longest + (last + 1 - longest)) → IsSeen t (n + 1) (last + 1) next
one_free t n last longest next s here max = record {
  within = let w = s.within in omega (arith, w);
  free = ends;
  edge = edge_free t n last s.edge;
  among = elim (cases_lt longest (last + 1)) [
    | inl more ↦ record {
      at = n - last;
      within = let w = s.within in omega (arith, w, more, max.0, max.1, max.2);
      free = λ k low high. ends k (omega (arith, low)) (let w = s.within in omega (arith, high, w, more, max.0, max.1, max.2));
      most = λ other m within f. most other m within f;
    }
    | inr as_long ↦ record {
      at = s.among.at;
      within = let w = s.among.within in omega (arith, w, as_long, max.0, max.1, max.2);
      free = λ k low high. s.among.free k low (omega (arith, high, as_long, max.0, max.1, max.2));
      most = λ other m within f. most other m within f;
    }
  ];
}
  where
    ends : AreFree t (n + 1 - (last + 1)) (last + 1)
    ends k low high = elim (cases_eq k n) [
      | inl same ↦ ap (kind_of t) same ∙ here
      | inr apart ↦ s.free k (omega (arith, low)) (let w = s.within in omega (arith, low, high, apart, w))
    ]

    most : (other m : ℕ) → other + m ≤ n + 1 → AreFree t other m → m ≤ next
    most other m within f = elim (cases_lt (other + m) (n + 1)) [
      | inl less ↦ (let le = s.among.most other m (omega (arith, less)) f in omega (arith, le, max.0))
      | inr whole ↦ (let le = edge_free t n last s.edge other m (omega (arith, within, whole)) f in omega (arith, le, max.1))
    ]

-- one more that isn't
pub one_used : (t : Table) (n last longest : ℕ) → IsSeen t n last longest → kind_of t n ≢ kinds.Free → IsSeen t (n + 1) 0 longest
one_used t n last longest s used = record {
  within = omega arith;
  free = λ k low high. absurd (omega (arith, low, high));
  edge = none;
  among = record {
    at = s.among.at;
    within = let w = s.among.within in omega (arith, w);
    free = s.among.free;
    most = λ other m within f. elim (cases_lt (other + m) (n + 1)) [
      | inl less ↦ s.among.most other m (omega (arith, less)) f
      | inr whole ↦ (let le = none other m (omega (arith, within, whole)) f in omega (arith, le))
    ];
  };
}
  where
    none : (at m : ℕ) → at + m ≡ n + 1 → AreFree t at m → m ≤ 0
    none at zero e f = omega arith
    none at (suc m) e f = absurd (used (f n (omega (arith, e)) (omega (arith, e))))
