-- What a change of one region's words and row does to the table.
-- a region whose words are its own
use Rattle.regions.proofs.Common.{◌≡◌, ◌+◌, ◌-◌, ◌*◌, ◌<◌, ◌≤◌, ◌∷◌, ◌++◌, ◌∙◌, ℕ, zero, suc, Option, Some, List, [], length, take}
use Rattle.regions.proofs.Common.{drop, get_or, set, refl, sym, ap, arith, length-take, length-drop, take-take, drop-drop, take-append-drop}
use Rattle.regions.proofs.Common.{drop-take, get_or-take, Header, header_of, stored_of, First, object_size, stored_by, first_stored}
use Rattle.regions.proofs.Common.{region_by, region_of, regions_of, IsObjectHeader, IsRow, IsRestRow, left_by, AreRows, Row, Kind}
use Rattle.heap_words.specs.declared.header.Header.TheVariants as headers
use Rattle.regions.proofs.Words.Parse.{stored_of-append}
use Rattle.regions.proofs.Rows.RowLemmas.{start_at, rest_is}
use Rattle.regions.specs.declared.row.Kind.TheVariants as kinds

abbrev pub IsPlain : Kind → Type 0
IsPlain kinds.First = ⊥
IsPlain kinds.Rest = ⊥
IsPlain _ = Unit {0}

plain_left : (size : ℕ) (ws : List ℕ) (kind : Kind) → IsPlain kind → left_by size ws kind ≡ 0
plain_left size ws kinds.First h = absurd h
plain_left size ws kinds.Rest h = absurd h
plain_left size ws _ h = refl

pub plain_not_rest : (kind : Kind) → IsPlain kind → kind ≡ kinds.Rest → ⊥
plain_not_rest kinds.First h e = h
plain_not_rest kinds.Rest h e = h
plain_not_rest _ h e = cc

-- two words lists that begin with the same n words
stored_by-front : (o : Option Header) (ws : List ℕ) (m : ℕ) → IsObjectHeader o → object_size o ≤ suc m → m ≤ length ws
    → stored_by (take m ws) o ≡ stored_by ws o
stored_by-front (Some (headers.Object p weak d)) ws m i h l =
    let fits : 1 + p + (weak + 0) + d ≤ length (take m ws) = simp length-take (omega arith) in
    let e : stored_of p weak 0 d (take m ws ++ drop m ws) ≡ stored_of p weak 0 d (take m ws) =
    stored_of-append p weak 0 d (take m ws) (drop m ws) fits in
    let whole : take m ws ++ drop m ws ≡ ws = take-append-drop m ws in
    cc
stored_by-front (Some (headers.Pairs p n d)) ws m i h l =
    let fits : 1 + p + (n + n) + d ≤ length (take m ws) = simp length-take (omega arith) in
    let e : stored_of p n n d (take m ws ++ drop m ws) ≡ stored_of p n n d (take m ws) =
    stored_of-append p n n d (take m ws) (drop m ws) fits in
    let whole : take m ws ++ drop m ws ≡ ws = take-append-drop m ws in
    cc
stored_by-front _ ws m i h l = absurd i

first_stored-front : (ws : List ℕ) (n : ℕ) → IsObjectHeader (header_of (get_or ws 0 0)) → object_size (header_of (get_or ws 0 0)) ≤ n
    → 0 < n
    → n ≤ length ws → first_stored (take n ws) ≡ first_stored ws
first_stored-front (w ∷ ws) (suc n) i h z l = stored_by-front (header_of w) ws n i h (omega arith)
first_stored-front _ _ i h z l = absurd (omega arith)

take_less : (m n : ℕ) (xs ys : List ℕ) → m ≤ n → take n xs ≡ take n ys → take m xs ≡ take m ys
take_less m n xs ys h e = sym (take-take m n xs h) ∙ ap (take m) e ∙ take-take m n ys h

front_word : (n : ℕ) (xs ys : List ℕ) → 0 < n → take n xs ≡ take n ys → get_or xs 0 0 ≡ get_or ys 0 0
front_word n xs ys z e = sym (get_or-take n xs 0 0 z) ∙ ap (λ (ws : List ℕ). get_or ws 0 0) e ∙ get_or-take n ys 0 0 z

-- what a row says depends on the words before the next plain region alone
pub record SameRow (sizes : ℕ → ℕ) (size : ℕ) (ws ws' : List ℕ) (used : ℕ) (kind : Kind) : Type 0 where
  pub region_is : region_by sizes ws' used kind ≡ region_by sizes ws used kind
  pub row_is : IsRow sizes size ws' used kind
  pub left_is : left_by size ws' kind ≡ left_by size ws kind

pub same_row : (sizes : ℕ → ℕ) (size n : ℕ) (ws ws' : List ℕ) (used : ℕ) (kind : Kind) → take n ws' ≡ take n ws
    → length ws' ≡ length ws → n ≤ length ws → size ≤ n → 0 < size → left_by size ws kind + size ≤ n
    → IsRow sizes size ws used kind → SameRow sizes size ws ws' used kind
same_row sizes size n ws ws' used kinds.Free e l f h z b r = record { region_is = refl; row_is = r; left_is = refl }
same_row sizes size n ws ws' used kinds.Ordinary e l f h z b r =
    let same = take_less used n ws' ws (omega (arith, r.0)) e in
    record { region_is = rw same refl; row_is = (r.0, rw same r.1); left_is = refl }
same_row sizes size n ws ws' used kinds.First e l f h z b r =
    let word = front_word n ws' ws (omega arith) e in
    let a = first_stored-front ws n r.0 (omega arith) (omega arith) f in
    let b' = first_stored-front ws' n (rw word r.0) (rw word (omega arith)) (omega arith) (omega arith) in
    record { region_is = ap First (sym b' ∙ ap first_stored e ∙ a); row_is = (rw word r.0, rw word r.1); left_is = rw word refl }
same_row sizes size n ws ws' used kinds.Rest e l f h z b r = absurd r

pub same_rest : (sizes : ℕ → ℕ) (size left : ℕ) (ws ws' : List ℕ) (used : ℕ) (kind : Kind) → IsRestRow size left used kind
    → region_by sizes ws' used kind ≡ region_by sizes ws used kind
same_rest sizes size left ws ws' used kind h = rw (rest_is size left used kind h) refl

-- the change, seen from behind the first region
pub record IsBehind (size m n : ℕ) (ws ws' : List ℕ) : Type 0 where
  pub length_is : length (drop size ws') ≡ length (drop size ws)
  pub room : m + size ≤ length (drop size ws)
  pub before : take m (drop size ws') ≡ take m (drop size ws)
  pub after : drop (m + size) (drop size ws') ≡ drop (m + size) (drop size ws)
  pub at : drop m (drop size ws') ≡ drop n ws'

pub behind : (size m n : ℕ) (ws ws' : List ℕ) → n ≡ size + m → length ws' ≡ length ws → n + size ≤ length ws → take n ws' ≡ take n ws
    → drop (n + size) ws' ≡ drop (n + size) ws → IsBehind size m n ws ws'
behind size m n ws ws' e l f a b =
    let from : n + size ≡ size + (m + size) = omega arith in
    let front : take (size + m) ws' ≡ take (size + m) ws = rw e at a in
    record {
      length_is = simp length-drop (omega arith);
      room = simp length-drop (omega arith);
      before = sym (drop-take size m ws') ∙ ap (drop size) front ∙ drop-take size m ws;
      after = drop-drop (m + size) size ws' ∙ sym (ap (λ j. drop j ws') from) ∙ b
          ∙ ap (λ j. drop j ws) from ∙ sym (drop-drop (m + size) size ws);
      at = drop-drop m size ws' ∙ sym (ap (λ j. drop j ws') e);
    }

pub record IsWritten (sizes : ℕ → ℕ) (size left k n : ℕ) (ws ws' : List ℕ) (rows : List Row) (row : Row) : Type 0 where
  pub regions_are : regions_of sizes size ws' (set rows k row) ≡ set (regions_of sizes size ws rows) k (region_of sizes (drop n ws') row)
  pub rows_are : AreRows sizes size left ws' (set rows k row)

-- A region's words and its row change, and nothing else of the table.
pub rows_written : (sizes : ℕ → ℕ) (size : ℕ) (rows : List Row) (k n left : ℕ) (ws ws' : List ℕ) (d row : Row) → n ≡ k * size
    → k < length rows → 0 < size → AreRows sizes size left ws rows → IsPlain (get_or rows k d).kind → length ws' ≡ length ws
    → n + size ≤ length ws → take n ws' ≡ take n ws → drop (n + size) ws' ≡ drop (n + size) ws
    → IsRow sizes size (drop n ws') row.used row.kind → IsPlain row.kind → IsWritten sizes size left k n ws ws' rows row
rows_written sizes size [] k n left ws ws' d row e h z r p l f a b i q = absurd (omega arith)
rows_written sizes size (old ∷ rows) zero n zero ws ws' d row e h z r p l f a b i q =
    let at : n ≡ 0 = omega arith in
    let start : drop n ws' ≡ ws' = ap (λ m. drop m ws') at in
    let behind : drop size ws' ≡ drop size ws = sym (ap (λ m. drop m ws') (omega arith)) ∙ b ∙ ap (λ m. drop m ws) (omega arith) in
    record {
      regions_are = rw (start, behind) refl;
      rows_are = (rw start at i, rw (plain_left size ws' row.kind q, behind) (rw (plain_left size ws old.kind p) at r.1));
    }
rows_written sizes size (old ∷ rows) zero n (suc left) ws ws' d row e h z r p l f a b i q =
    absurd (plain_not_rest old.kind p (rest_is _ _ _ _ r.0))
rows_written sizes size (old ∷ rows) (suc k) n zero ws ws' d row e h z r p l f a b i q =
    let u = behind size (k * size) n ws ws' (omega arith) l f a b in
    let st =
    start_at sizes size rows k (k * size) (left_by size ws old.kind) (drop size ws) d refl (omega arith) r.1 (plain_not_rest _ p) in
    let t = rows_written sizes size rows k (k * size) (left_by size ws old.kind) (drop size ws) (drop size ws') d row refl (omega arith) z
    r.1 p u.length_is u.room u.before u.after (rw u.at i) q in
    let s = same_row sizes size n ws ws' old.used old.kind a l (omega arith) (omega arith) z (omega (arith, st.1)) r.0 in
    record {
      regions_are = rw (s.region_is, t.regions_are, u.at) refl;
      rows_are = (s.row_is, rw s.left_is t.rows_are);
    }
rows_written sizes size (old ∷ rows) (suc k) n (suc left) ws ws' d row e h z r p l f a b i q =
    let u = behind size (k * size) n ws ws' (omega arith) l f a b in
    let t = rows_written sizes size rows k (k * size) (suc left - size) (drop size ws) (drop size ws') d row refl (omega arith) z r.1 p
    u.length_is u.room u.before u.after (rw u.at i) q in
    let s = same_rest sizes size (suc left) ws ws' old.used old.kind r.0 in
    record {
      regions_are = rw (s, t.regions_are, u.at) refl;
      rows_are = (r.0, t.rows_are);
    }
