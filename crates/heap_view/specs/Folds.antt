-- A folded summary: free regions side by side are one line.
use Rattle.std.specs.Prelude.{ℕ, zero, suc, ◌+◌, ◌-◌, nat_lt, Bool, true, false, List, [], ◌++◌, drop, codes, if◌then◌else◌}
use Rattle.std.specs.Fmt.{decimal}
use Rattle.regions.specs.declared.row.Kind.{Kind}
use Rattle.regions.specs.declared.row.Kind.TheVariants as kinds
use Rattle.regions.specs.Table.{Table, front_count, kind_of, region_kind}
use Rattle.step_core.specs.Stands.{CoreState}
use Rattle.heap_view.specs.Areas.{region_line}

-- whether a region of this kind is free
abbrev pub is_free_kind : Kind → Bool
is_free_kind kinds.Free = true
is_free_kind _ = false

abbrev pub is_free_at : Table → ℕ → Bool
is_free_at t k = is_free_kind (kind_of t k)

-- whether the region below k is free
abbrev pub is_below_free : Table → ℕ → Bool
is_below_free t zero = false
is_below_free t (suc j) = is_free_at t j

-- how many free regions are side by side from region k on
abbrev pub free_run : Table → ℕ → ℕ
free_run t k = front_count (λ r. is_free_kind (region_kind r)) (drop k t.regions)

-- free regions side by side, n of them from k on: one line
abbrev pub run_line : CoreState → ℕ → ℕ → List ℕ
run_line c k n = if nat_lt 1 n then codes "regions " ++ decimal k ++ codes " to " ++ decimal (k + n - 1) ++ codes ": free\n"
    else region_line c k

-- a free region: the lowest of those side by side has the line of them all, and the others have none
abbrev pub free_line : CoreState → ℕ → List ℕ
free_line c k = if is_below_free c.table k then [] else run_line c k (free_run c.table k)

-- region k in a folded summary
abbrev pub folded_line : CoreState → ℕ → List ℕ
folded_line c k = if is_free_at c.table k then free_line c k else region_line c k
