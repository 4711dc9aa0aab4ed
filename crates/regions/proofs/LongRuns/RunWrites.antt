-- What a write behind the header of a humongous object does to the table.
use Rattle.regions.proofs.Common.{◌≡◌, ◌+◌, ◌-◌, ◌*◌, ◌<◌, ◌≤◌, ◌∷◌, ◌∙◌, ℕ, zero, suc, List, [], length, take, drop, get_or, set, refl}
use Rattle.regions.proofs.Common.{sym, ap, subst, arith, length-drop, drop-drop, drop-take, header_of, First, object_size, first_stored}
use Rattle.regions.proofs.Common.{region_by, regions_of, IsRow, left_by, AreRows, Row, Kind}
use Rattle.regions.proofs.Rows.RowLemmas.{start_at, rest_is}
use Rattle.regions.proofs.Rows.RowWrites.{same_row, same_rest}
use Rattle.regions.specs.declared.row.Kind.TheVariants as kinds

pub drop_more_same : (s m : ℕ) (xs ys : List ℕ) → s ≤ m → drop s xs ≡ drop s ys → drop m xs ≡ drop m ys
drop_more_same s m xs ys h e =
    let at : s + (m - s) ≡ m = omega arith in
    sym (drop-drop (m - s) s xs ∙ ap (λ j. drop j xs) at) ∙ ap (drop (m - s)) e ∙ (drop-drop (m - s) s ys ∙ ap (λ j. drop j ys) at)

behind_first : (s size : ℕ) (xs ys : List ℕ) → drop s xs ≡ drop s ys → drop (s - size) (drop size xs) ≡ drop (s - size) (drop size ys)
behind_first s size xs ys e =
    drop-drop (s - size) size xs ∙ drop_more_same s (size + (s - size)) xs ys (omega arith) e ∙ sym (drop-drop (s - size) size ys)

-- the rows of a run, and those behind it
pub rest_rows : (f : ℕ → ℕ) (size : ℕ) (rows : List Row) (left : ℕ) (ws ws' : List ℕ) → AreRows f size left ws rows
    → drop left ws' ≡ drop left ws → (regions_of f size ws' rows ≡ regions_of f size ws rows) × AreRows f size left ws' rows
rest_rows f size [] left ws ws' r e = (refl, r)
rest_rows f size (row ∷ rows) zero ws ws' r e =
    let same : ws ≡ ws' = sym e in
    (ap (λ (xs : List ℕ). regions_of f size xs (row ∷ rows)) (sym same), subst (λ (xs : List ℕ). AreRows f size 0 xs (row ∷ rows)) same r)
rest_rows f size (row ∷ rows) (suc left) ws ws' r e =
    let i = rest_rows f size rows (suc left - size) (drop size ws) (drop size ws') r.1 (behind_first (suc left) size ws' ws e) in
    let s = same_rest f size (suc left) ws ws' row.used row.kind r.0 in
    (rw (s, i.0) refl, (r.0, i.1))

pub record IsRunWritten (f : ℕ → ℕ) (size left k n : ℕ) (ws ws' : List ℕ) (rows : List Row) : Type 0 where
  pub regions_are : regions_of f size ws' rows ≡ set (regions_of f size ws rows) k (First (first_stored (drop n ws')))
  pub rows_are : AreRows f size left ws' rows

run_head : (f : ℕ → ℕ) (size used : ℕ) (kind : Kind) (rows : List Row) (ws ws' : List ℕ) → kind ≡ kinds.First
    → get_or ws' 0 0 ≡ get_or ws 0 0
    → drop (object_size (header_of (get_or ws 0 0))) ws' ≡ drop (object_size (header_of (get_or ws 0 0))) ws → IsRow f size ws used kind
    → AreRows f size (left_by size ws kind) (drop size ws) rows
    → (region_by f ws' used kind ≡ First (first_stored ws'))
    × (regions_of f size (drop size ws') rows ≡ regions_of f size (drop size ws) rows) × IsRow f size ws' used kind
    × AreRows f size (left_by size ws' kind) (drop size ws') rows
run_head f size used kinds.First rows ws ws' e h b r a =
    let s : ℕ = object_size (header_of (get_or ws 0 0)) in
    let i = rest_rows f size rows (s - size) (drop size ws) (drop size ws') a (behind_first s size ws' ws b) in
    (refl, i.0, (rw h r.0, rw h r.1), rw h i.1)
run_head f size used _ rows ws ws' e h b r a = cc

pub run_written : (f : ℕ → ℕ) (size : ℕ) (rows : List Row) (k n left : ℕ) (ws ws' : List ℕ) (d : Row) → n ≡ k * size → k < length rows
    → 0 < size → AreRows f size left ws rows → (get_or rows k d).kind ≡ kinds.First → length ws' ≡ length ws → n + size ≤ length ws
    → take n ws' ≡ take n ws → get_or (drop n ws') 0 0 ≡ get_or (drop n ws) 0 0
    → drop (object_size (header_of (get_or (drop n ws) 0 0))) (drop n ws')
    ≡ drop (object_size (header_of (get_or (drop n ws) 0 0))) (drop n ws) → IsRunWritten f size left k n ws ws' rows
run_written f size [] k n left ws ws' d e h z r p l g a w b = absurd (omega arith)
run_written f size (row ∷ rows) zero n zero ws ws' d e h z r p l g a w b =
    let at : n ≡ 0 = omega arith in
    let start' : drop n ws' ≡ ws' = ap (λ m. drop m ws') at in
    let start : drop n ws ≡ ws = ap (λ m. drop m ws) at in
    let w' : get_or ws' 0 0 ≡ get_or ws 0 0 = rw (start', start) at w in
    let b' : drop (object_size (header_of (get_or ws 0 0))) ws' ≡ drop (object_size (header_of (get_or ws 0 0))) ws =
    rw (start', start) at b in
    let i = run_head f size row.used row.kind rows ws ws' p w' b' r.0 r.1 in
    record { regions_are = rw (start', i.0, i.1) refl; rows_are = (i.2, i.3) }
run_written f size (row ∷ rows) zero n (suc left) ws ws' d e h z r p l g a w b =
    absurd (let c : kinds.First ≡ kinds.Rest = sym p ∙ rest_is _ _ _ _ r.0 in cc)
run_written f size (row ∷ rows) (suc k) n zero ws ws' d e h z r p l g a w b =
    let m : ℕ = k * size in
    let at : n ≡ size + m = omega arith in
    let place' : drop m (drop size ws') ≡ drop n ws' = drop-drop m size ws' ∙ sym (ap (λ j. drop j ws') at) in
    let place : drop m (drop size ws) ≡ drop n ws = drop-drop m size ws ∙ sym (ap (λ j. drop j ws) at) in
    let front : take (size + m) ws' ≡ take (size + m) ws = rw at at a in
    let before : take m (drop size ws') ≡ take m (drop size ws) = sym (drop-take size m ws') ∙ ap (drop size) front ∙ drop-take size m ws in
    let len : length (drop size ws') ≡ length (drop size ws) = simp length-drop (omega arith) in
    let room : m + size ≤ length (drop size ws) = simp length-drop (omega arith) in
    let st = start_at f size rows k m (left_by size ws row.kind) (drop size ws) d refl (omega arith) r.1
    (λ q. let c : kinds.First ≡ kinds.Rest = sym p ∙ q in cc) in
    let t = run_written f size rows k m (left_by size ws row.kind) (drop size ws) (drop size ws') d refl (omega arith) z r.1 p len room
    before (rw (place', place) w) (rw (place', place) b) in
    let s = same_row f size n ws ws' row.used row.kind a l (omega arith) (omega arith) z (omega (arith, st.1)) r.0 in
    record { regions_are = rw (s.region_is, t.regions_are, place') refl; rows_are = (s.row_is, rw s.left_is t.rows_are) }
run_written f size (row ∷ rows) (suc k) n (suc left) ws ws' d e h z r p l g a w b =
    let m : ℕ = k * size in
    let at : n ≡ size + m = omega arith in
    let place' : drop m (drop size ws') ≡ drop n ws' = drop-drop m size ws' ∙ sym (ap (λ j. drop j ws') at) in
    let place : drop m (drop size ws) ≡ drop n ws = drop-drop m size ws ∙ sym (ap (λ j. drop j ws) at) in
    let front : take (size + m) ws' ≡ take (size + m) ws = rw at at a in
    let before : take m (drop size ws') ≡ take m (drop size ws) = sym (drop-take size m ws') ∙ ap (drop size) front ∙ drop-take size m ws in
    let len : length (drop size ws') ≡ length (drop size ws) = simp length-drop (omega arith) in
    let room : m + size ≤ length (drop size ws) = simp length-drop (omega arith) in
    let t = run_written f size rows k m (suc left - size) (drop size ws) (drop size ws') d refl (omega arith) z r.1 p len room before
    (rw (place', place) w) (rw (place', place) b) in
    let s = same_rest f size (suc left) ws ws' row.used row.kind r.0 in
    record { regions_are = rw (s, t.regions_are, place') refl; rows_are = (r.0, t.rows_are) }
