-- Items that are told number by number.
use Rattle.std.proofs.Common.{◌≡◌, ◌∙◌, ℕ, zero, suc, ◌+◌, ◌-◌, ◌<◌, ◌≤◌, List, [], ◌∷◌, ◌++◌, length, drop, refl, sym, ap}
use Rattle.std.proofs.Common.{arith, append_assoc, length-append}
use Rattle.std.specs.Prelude.{slice_set}
use Rattle.std.proofs.lemmas.List.{append-nil}
use Rattle.heap_walk.specs.Walks.{told_among, told_between, FillsFrom, IsTelling}

module _ {A : Type 0} (f : ℕ → List A) where
  -- so many numbers more
  pub among_more : (a m n : ℕ) → told_among f a (m + n) ≡ told_among f a m ++ told_among f (a + m) n
  unfolding told_among
  among_more a zero n = ap (λ (x : ℕ). told_among f a x) (zero_left n) ∙ ap (λ (x : ℕ). told_among f x n) (sym (zero_right a))
    where
      zero_left : (n : ℕ) → zero + n ≡ n
      zero_left n = omega arith

      zero_right : (a : ℕ) → a + zero ≡ a
      zero_right a = omega arith
  among_more a (suc m) n =
      ap (λ (x : ℕ). told_among f a x) (suc_left m n)
      ∙ ap (λ (l : List A). f a ++ l) (among_more (suc a) m n ∙ ap (λ (x : ℕ). told_among f (suc a) m ++ told_among f x n) (suc_right a m))
      ∙ sym (append_assoc (f a) (told_among f (suc a) m) (told_among f (a + suc m) n))
    where
      suc_left : (m n : ℕ) → suc m + n ≡ suc (m + n)
      suc_left m n = omega arith

      suc_right : (a m : ℕ) → suc a + m ≡ a + suc m
      suc_right a m = omega arith

  -- numbers at which nothing is told
  pub among_none : (a n : ℕ) → ((x : ℕ) → a ≤ x → x < a + n → f x ≡ []) → told_among f a n ≡ []
  unfolding told_among
  among_none a zero none = refl
  among_none a (suc n) none =
      ap (λ (l : List A). l ++ told_among f (suc a) n) (none a (omega arith) (omega arith))
      ∙ among_none (suc a) n (λ x low high. none x (omega arith) (omega arith))

  pub among_one : (a : ℕ) → told_among f a 1 ≡ f a
  unfolding told_among
  among_one a = append-nil (f a)

  -- ---- from one number on to below another
  pub between_nothing : (a : ℕ) → told_between f a a ≡ []
  unfolding told_among
  between_nothing a = ap (λ (n : ℕ). told_among f a n) same
    where
      same : a - a ≡ zero
      same = omega arith

  pub between_more : (a b d : ℕ) → a ≤ b → b ≤ d → told_between f a d ≡ told_between f a b ++ told_between f b d
  between_more a b d low high =
      ap (λ (n : ℕ). told_among f a n) all ∙ among_more a (b - a) (d - b)
      ∙ ap (λ (x : ℕ). told_between f a b ++ told_among f x (d - b)) reached
    where
      all : d - a ≡ (b - a) + (d - b)
      all = omega arith

      reached : a + (b - a) ≡ b
      reached = omega arith

  pub between_none : (a b : ℕ) → ((x : ℕ) → a ≤ x → x < b → f x ≡ []) → told_between f a b ≡ []
  between_none a b none = among_none a (b - a) (λ x low high. none x low (omega arith))

  pub between_one : (a : ℕ) → told_between f a (a + 1) ≡ f a
  between_one a = ap (λ (n : ℕ). told_among f a n) one ∙ among_one a
    where
      one : (a + 1) - a ≡ 1
      one = omega arith

-- ---- a buffer takes items one after another
-- where nothing is told from one number on to below another
abbrev pub TellsNone : {A : Type 0} → (ℕ → List A) → ℕ → ℕ → Type 0
TellsNone f a b = (x : ℕ) → a ≤ x → x < b → f x ≡ []

module _ {A : Type 0} (f : ℕ → List A) where
  pub telling_first : (from : ℕ) (before : List A) → IsTelling f from from before before 0
  telling_first from before = record {
    on = omega arith;
    count = ap length (sym (between_nothing f from));
    filled = sym (ap (λ (l : List A). l ++ drop 0 before) (between_nothing f from));
  }

  -- nothing more is told further on
  skipped : (from place next : ℕ) → from ≤ place → place ≤ next → TellsNone f place next
      → told_between f from next ≡ told_between f from place
  skipped from place next low high none =
      between_more f from place next low high
      ∙ ap (λ (l : List A). told_between f from place ++ l) (between_none f place next none)
      ∙ append-nil (told_between f from place)

  pub telling_past : (from place next : ℕ) (before after : List A) (n : ℕ) → IsTelling f from place before after n → place ≤ next
      → TellsNone f place next → IsTelling f from next before after n
  telling_past from place next before after n p high none =
      let on = p.on in
      let same = skipped from place next on high none in
      record {
        on = omega arith;
        count = p.count ∙ ap length (sym same);
        filled = p.filled ∙ ap (λ (l : List A). l ++ drop n before) (sym same);
      }

  with_one : (from b : ℕ) (e : A) → from ≤ b → f b ≡ e ∷ [] → told_between f from (b + 1) ≡ told_between f from b ++ e ∷ []
  with_one from b e low is =
      between_more f from b (b + 1) low (omega arith) ∙ ap (λ (l : List A). told_between f from b ++ l) (between_one f b ∙ is)

  set_first : (xs ys : List A) (y e : A) → slice_set (xs ++ y ∷ ys) (length xs) e ≡ (xs ++ e ∷ []) ++ ys
  set_first [] ys y e = refl
  set_first (x ∷ xs) ys y e = ap (λ (l : List A). x ∷ l) (set_first xs ys y e)

  one_dropped : (n : ℕ) (l : List A) → n < length l → (y : A) × (drop n l ≡ y ∷ drop (n + 1) l)
  one_dropped n [] lt = absurd (omega arith)
  one_dropped zero (y ∷ ys) lt = (y, refl)
  one_dropped (suc n) (y ∷ ys) lt =
      let (z, e) = one_dropped n ys (omega arith) in
      (z, e ∙ ap (λ (l : List A). z ∷ l) (sym (ap (λ (m : ℕ). drop m (y ∷ ys)) (shift n))))
    where
      shift : (n : ℕ) → suc n + 1 ≡ suc (n + 1)
      shift n = omega arith

  -- one item more
  pub telling_one : (from b : ℕ) (before after : List A) (n : ℕ) (e : A) → IsTelling f from b before after n → f b ≡ e ∷ []
      → n < length before → IsTelling f from (b + 1) before (slice_set after n e) (n + 1)
  telling_one from b before after n e p is room =
      let on = p.on in
      let told = with_one from b e on is in
      let (y, cut) = one_dropped n before room in
      record {
        on = omega arith;
        count = (let k = p.count in let l = ap length told in let m = length-append (told_between f from b) (e ∷ []) in omega arith);
        filled =
            ap (λ (l : List A). slice_set l n e) (p.filled ∙ ap (λ (l : List A). told_between f from b ++ l) cut)
            ∙ ap (λ (k : ℕ). slice_set (told_between f from b ++ y ∷ drop (n + 1) before) k e) p.count
            ∙ set_first (told_between f from b) (drop (n + 1) before) y e
            ∙ ap (λ (l : List A). l ++ drop (n + 1) before) (sym told);
      }

  -- the buffer is full, or all is told
  pub telling_full : (from place end : ℕ) (before after : List A) (n : ℕ) → IsTelling f from place before after n → n ≡ length before
      → FillsFrom f from place end before after n
  telling_full from place end before after n p full = record {
    on = p.on;
    count_is = p.count;
    room = omega arith;
    filled = p.filled;
    over = λ few. absurd (omega arith);
  }

  pub telling_over : (from place end : ℕ) (before after : List A) (n : ℕ) → IsTelling f from place before after n → n ≤ length before
      → end ≤ place
      → FillsFrom f from place end before after n
  telling_over from place end before after n p room over = record {
    on = p.on;
    count_is = p.count;
    room = room;
    filled = p.filled;
    over = λ few. over;
  }

  -- the same from a lower number on, below which nothing is told
  pub fills_lower : (low from place end : ℕ) (before after : List A) (n : ℕ) → low ≤ from → TellsNone f low from
      → FillsFrom f from place end before after n → FillsFrom f low place end before after n
  fills_lower low from place end before after n le none p =
      let on = p.on in
      let same : told_between f low place ≡ told_between f from place =
      between_more f low from place le on ∙ ap (λ (l : List A). l ++ told_between f from place) (between_none f low from none) in
      record {
        on = omega arith;
        count_is = p.count_is ∙ ap length (sym same);
        room = p.room;
        filled = p.filled ∙ ap (λ (l : List A). l ++ drop n before) (sym same);
        over = p.over;
      }

  pub fills_nothing : (from end : ℕ) (before : List A) → end ≤ from → FillsFrom f from from end before before 0
  fills_nothing from end before past = telling_over from from end before before 0 (telling_first from before) (omega arith) past
