-- Words written in the place of others.
use Rattle.std.proofs.Common.{◌≡◌, ◌+◌, ◌-◌, ◌<◌, ◌≤◌, ◌∷◌, ◌++◌, ◌∙◌, ℕ, zero, suc, List, [], length, take, drop, get_or, set, refl, sym}
use Rattle.std.proofs.Common.{ap, ap₂, arith, add-zero, zero-add, replicate, drop-cons}
use Rattle.std.proofs.lemmas.List.{length-append, length-take, length-drop, append_assoc, set_at, replicate_more, take-append-drop}
use Rattle.std.proofs.lemmas.List.{drop-drop, length-replicate, take_at, drop_at, take-append-le, drop-append-le}
use Rattle.heap_words.specs.Contents.{put}
use Rattle.heap_words.specs.Memory.{Memory, memory}

pub put_none : (ws : List ℕ) (n : ℕ) → put ws n [] ≡ ws
put_none ws zero = refl
put_none [] (suc n) = refl
put_none (w ∷ ws) (suc n) = ap (λ xs. w ∷ xs) (put_none ws n)

pub put_more : (ws : List ℕ) (n m v : ℕ) (block : List ℕ) → length block ≡ m → n + m < length ws
    → set (put ws n block) (n + m) v ≡ put ws n (block ++ v ∷ [])
put_more ws zero m v block e h =
    let at : 0 + m ≡ length block = omega arith in
    let split : drop (length block) ws ≡ get_or ws m 0 ∷ drop (suc m) ws = rw e (drop-cons ws m 0 (omega arith)) in
    let l : length (block ++ v ∷ []) ≡ suc m = rw length-append (omega arith) in
    rw (at, split, l)
    (set_at block (get_or ws m 0) (drop (suc m) ws) v (length block) refl ∙ sym (append_assoc block (v ∷ []) (drop (suc m) ws)))
put_more [] (suc n) m v block e h = absurd (omega arith)
put_more (w ∷ ws) (suc n) m v block e h =
    let at : suc n + m ≡ suc (n + m) = omega arith in
    rw at (ap (λ xs. w ∷ xs) (put_more ws n m v block e (omega arith)))

-- an object's words, of which i behind the name are written
pub written_start : (ws : List ℕ) (n h name : ℕ) → n + 2 ≤ length ws → set (set ws n h) (n + 1) name ≡ put ws n (h ∷ name ∷ [])
written_start ws n h name l =
    let a = put_more ws n 0 h [] refl (omega arith) in
    let b = put_more ws n 1 name (h ∷ []) refl (omega arith) in
    let c : set ws n h ≡ put ws n (h ∷ []) = rw (add-zero, put_none) at a in
    rw c b

pub written_more : (ws : List ℕ) (n h name i : ℕ) → n + 2 + i < length ws
    → set (put ws n (h ∷ name ∷ replicate i 0)) (n + 2 + i) 0 ≡ put ws n (h ∷ name ∷ replicate (i + 1) 0)
written_more ws n h name i l =
    let e : n + 2 + i ≡ n + (2 + i) = omega arith in
    let len : length (h ∷ name ∷ replicate i 0) ≡ 2 + i = omega (arith, length-replicate {A = ℕ} i 0) in
    rw (e, ← replicate_more {X = ℕ} i 0) (put_more ws n (2 + i) 0 (h ∷ name ∷ replicate i 0) len (omega arith))

-- the words with a fresh object of n fields of which i are written: those fields, or all where there are no more
abbrev pub AreFresh : List ℕ → List ℕ → ℕ → ℕ → ℕ → ℕ → ℕ → Type 0
AreFresh old ws at h name n i = (i ≤ n → ws ≡ put old at (h ∷ name ∷ replicate i 0)) × (n ≤ i → ws ≡ put old at (h ∷ name ∷ replicate n 0))

same_count : (old ws : List ℕ) (at h name n m : ℕ) → n ≡ m → ws ≡ put old at (h ∷ name ∷ replicate n 0)
    → ws ≡ put old at (h ∷ name ∷ replicate m 0)
same_count old ws at h name n m e is = is ∙ ap (λ (k : ℕ). put old at (h ∷ name ∷ replicate k 0)) e

pub fresh_start : (old : List ℕ) (at h name n : ℕ) → at + 2 ≤ length old → AreFresh old (set (set old at h) (at + 1) name) at h name n 0
fresh_start old at h name n l =
    let none = written_start old at h name l in
    (λ _. none, λ le. same_count old _ at h name 0 n (omega (arith, le)) none)

-- one field more
pub fresh_more : (old ws : List ℕ) (at h name n i : ℕ) → at + 2 + n ≤ length old → i < n → AreFresh old ws at h name n i
    → AreFresh old (set ws (at + 2 + i) 0) at h name n (i + 1)
fresh_more old ws at h name n i l less f =
    let next : set ws (at + 2 + i) 0 ≡ put old at (h ∷ name ∷ replicate (i + 1) 0) =
    ap (λ (xs : List ℕ). set xs (at + 2 + i) 0) (f.0 (omega (arith, less))) ∙ written_more old at h name i (omega (arith, l, less)) in
    (λ _. next, λ le. same_count old _ at h name (i + 1) n (omega (arith, le, less)) next)

-- no field more, where all are written
pub fresh_still : (old ws : List ℕ) (at h name n i j : ℕ) → n ≤ i → n ≤ j → AreFresh old ws at h name n i → AreFresh old ws at h name n j
fresh_still old ws at h name n i j all there f =
    let whole = f.1 all in
    (λ le. same_count old ws at h name n j (omega (arith, le, there)) whole, λ _. whole)

-- a block is the words before it, its own, and those behind it
pub put_whole : (ws : List ℕ) (n : ℕ) (block : List ℕ) → n ≤ length ws → put ws n block ≡ take n ws ++ (block ++ drop (n + length block) ws)
put_whole ws zero block h = rw (zero-add (length block)) refl
put_whole [] (suc n) block h = absurd (omega arith)
put_whole (w ∷ ws) (suc n) block h =
    let e : suc n + length block ≡ suc (n + length block) = omega arith in
    rw e (ap (λ xs. w ∷ xs) (put_whole ws n block (omega arith)))

-- ---- words in front of others
put_length : (ws : List ℕ) (n : ℕ) (block : List ℕ) → n + length block ≤ length ws → length (put ws n block) ≡ length ws
put_length ws zero block h = simp (length-append, length-drop) (omega arith)
put_length [] (suc n) block h = absurd (omega arith)
put_length (w ∷ ws) (suc n) block h = ap suc (put_length ws n block (omega arith))

put_front : (ws rest : List ℕ) (n : ℕ) (block : List ℕ) → n + length block ≤ length ws
    → put (ws ++ rest) n block ≡ put ws n block ++ rest
put_front ws rest zero block h =
    ap (λ (xs : List ℕ). block ++ xs) (drop-append-le (length block) ws rest (omega arith))
    ∙ sym (append_assoc block (drop (length block) ws) rest)
put_front [] rest (suc n) block h = absurd (omega arith)
put_front (w ∷ ws) rest (suc n) block h = ap (λ xs. w ∷ xs) (put_front ws rest n block (omega arith))

-- what is read of the words in front
pub read_front : (ws rest : List ℕ) (from m : ℕ) → from + m ≤ length ws → take m (drop from (ws ++ rest)) ≡ take m (drop from ws)
read_front ws rest from m h =
    ap (take m) (drop-append-le from ws rest (omega arith))
    ∙ take-append-le m (drop from ws) rest (simp length-drop (omega arith))

-- a copy to a place behind its own, where the words are cut at that place: the words in front, the copy, and those behind it
pub copied_up : (ws low high block : List ℕ) (from to size n : ℕ) → from + size ≤ to → to + size ≤ length ws → low ≡ take to ws
    → high ≡ drop to ws → n ≡ size → block ≡ take n (drop from low)
    → low ++ (block ++ drop size high) ≡ put ws to (take size (drop from ws))
copied_up ws low high block from to size n h l low_is high_is size_is is =
    let front : length (take to ws) ≡ to = simp length-take (omega arith) in
    let copied : block ≡ take size (drop from ws) =
    is ∙ ap (λ (m : ℕ). take m (drop from low)) size_is ∙ ap (λ (xs : List ℕ). take size (drop from xs)) low_is
    ∙ sym (read_front (take to ws) (drop to ws) from size (omega (arith, front)))
    ∙ ap (λ (xs : List ℕ). take size (drop from xs)) (take-append-drop to ws) in
    let len : length (take size (drop from ws)) ≡ size = simp (length-take, length-drop) (omega arith) in
    let rest : drop size high ≡ drop (to + length (take size (drop from ws))) ws =
    ap (drop size) high_is ∙ drop-drop size to ws ∙ ap (λ (m : ℕ). drop (to + m) ws) (sym len) in
    rw (low_is, copied, rest) (sym (put_whole ws to (take size (drop from ws)) (omega arith)))

-- and to a place before its own, where they are cut at that one
pub copied_down : (ws low high block : List ℕ) (from to size n : ℕ) → to + size ≤ from → from + size ≤ length ws → low ≡ take from ws
    → high ≡ drop from ws → n ≡ size → block ≡ take size high
    → take to low ++ (block ++ drop n (drop to low)) ++ high ≡ put ws to (take size (drop from ws))
copied_down ws low high block from to size n h l low_is high_is size_is is =
    let all : low ++ high ≡ ws = ap₂ (λ (xs ys : List ℕ). xs ++ ys) low_is high_is ∙ take-append-drop from ws in
    let front : length low ≡ from = ap (λ (xs : List ℕ). length xs) low_is ∙ simp length-take (omega arith) in
    let copied : block ≡ take size (drop from ws) = is ∙ ap (take size) high_is in
    let len : length block ≡ size =
    ap (λ (xs : List ℕ). length xs) copied ∙ simp (length-take, length-drop) (omega arith) in
    let rest : drop n (drop to low) ≡ drop (to + length block) low =
    ap (λ (m : ℕ). drop m (drop to low)) (size_is ∙ sym len) ∙ drop-drop (length block) to low in
    let part : take to low ++ (block ++ drop n (drop to low)) ≡ put low to block =
    ap (λ (xs : List ℕ). take to low ++ (block ++ xs)) rest ∙ sym (put_whole low to block (omega (arith, front))) in
    ap (λ (xs : List ℕ). xs ++ high) part ∙ sym (put_front low high to block (omega (arith, front, len)))
    ∙ ap₂ (λ (xs ys : List ℕ). put xs to ys) all copied

-- the words with those in front written back, and the zeros behind them
pub put_back : (ws new : List ℕ) (count len n : ℕ) (block : List ℕ) → len ≡ length ws → new ≡ put ws n block → n + length block ≤ len
    → take len (new ++ drop (length new) ws) ++ replicate {A = ℕ} (count - length (take len (new ++ drop (length new) ws))) 0
    ≡ put (ws ++ replicate {A = ℕ} (count - length ws) 0) n block
put_back ws new count len n block e is h =
    let long : length new ≡ length ws = ap (λ (xs : List ℕ). length xs) is ∙ put_length ws n block (omega arith) in
    let all : take len (new ++ drop (length new) ws) ≡ new = take_at new (drop (length new) ws) len (long ∙ sym e) in
    let zeros : List ℕ = replicate {A = ℕ} (count - length ws) 0 in
    rw (all, long) (ap (λ (xs : List ℕ). xs ++ zeros) is ∙ sym (put_front ws zeros n block (omega arith)))

-- the same of a heap's words
pub memory_put : (ws new : List ℕ) (count len n : ℕ) (block : List ℕ) (m : Memory) → memory ws count ≡ m → len ≡ length ws
    → new ≡ put ws n block → n + length block ≤ m.written
    → (memory (take len (new ++ drop (length new) ws)) count).all ≡ put m.all n block
memory_put ws new count len n block m view e is h =
    put_back ws new count len n block e is (omega (arith, e, ap (λ (u : Memory). u.written) view))
    ∙ ap (λ (u : Memory). put u.all n block) view

-- a block copied into the middle of words
pub copied_in : (ws new block : List ℕ) (at n : ℕ) → at + length block ≤ length ws → n ≡ length block → new ≡ block
    → take at ws ++ (new ++ drop n (drop at ws)) ≡ put ws at block
copied_in ws new block at n h n_is is =
    let rest : drop n (drop at ws) ≡ drop (at + length block) ws =
    ap (λ (m : ℕ). drop m (drop at ws)) n_is ∙ drop-drop (length block) at ws in
    rw (is, rest) (sym (put_whole ws at block (omega arith)))

-- ---- words that move down over their own
put_after : (ws : List ℕ) (n : ℕ) (block : List ℕ) → n ≤ length ws → drop (n + length block) (put ws n block) ≡ drop (n + length block) ws
put_after ws zero block h = rw (zero-add (length block)) (drop_at block _ (length block) refl)
put_after [] (suc n) block h = absurd (omega arith)
put_after (w ∷ ws) (suc n) block h =
    let e : suc n + length block ≡ suc (n + length block) = omega arith in
    rw e (put_after ws n block (omega arith))

put_before : (ws : List ℕ) (n : ℕ) (block : List ℕ) → n ≤ length ws → take (n + length block) (put ws n block) ≡ take n ws ++ block
put_before ws zero block h = rw (zero-add (length block)) (take_at block _ (length block) refl)
put_before [] (suc n) block h = absurd (omega arith)
put_before (w ∷ ws) (suc n) block h =
    let e : suc n + length block ≡ suc (n + length block) = omega arith in
    rw e (ap (λ xs. w ∷ xs) (put_before ws n block (omega arith)))

take_more : (a b : ℕ) (ws : List ℕ) → take (a + b) ws ≡ take a ws ++ take b (drop a ws)
take_more zero b ws = rw (zero-add b) refl
take_more (suc a) b [] = take_nil (suc a + b) ∙ sym (take_nil b)
  where
    take_nil : (n : ℕ) → take n (let e : List ℕ = [] in e) ≡ []
    take_nil zero = refl
    take_nil (suc n) = refl
take_more (suc a) b (w ∷ ws) =
    let e : suc a + b ≡ suc (a + b) = omega arith in
    rw e (ap (λ xs. w ∷ xs) (take_more a b ws))

-- the words of which the first `done` have moved
pub record IsMovedDown (old now : List ℕ) (from to size done : ℕ) : Type 0 where
  pub within : done ≤ size
  pub is : now ≡ put old to (take done (drop from old))

pub none_moved : (ws : List ℕ) (from to size : ℕ) → IsMovedDown ws ws from to size 0
none_moved ws from to size = record { within = omega arith; is = sym (put_none ws to) }

-- one piece more, of words that none has moved over yet
pub more_moved : (old now new : List ℕ) (from to size done more next : ℕ) → to < from → from + size ≤ length old → done + more ≤ size
    → next ≡ done + more → IsMovedDown old now from to size done → new ≡ put now (to + done) (take more (drop (from + done) now))
    → IsMovedDown old new from to size next
more_moved old now new from to size done more next below fits less next_is m is =
    let a : List ℕ = take done (drop from old) in
    let len : length a ≡ done = simp (length-take, length-drop) (omega arith) in
    let after : drop (to + done) now ≡ drop (to + done) old =
    ap (drop (to + done)) m.is ∙ rw len at (put_after old to a (omega arith)) in
    let later : (n : ℕ) → to + done ≤ n → drop n now ≡ drop n old = λ n h.
    let at : to + done + (n - (to + done)) ≡ n = omega arith in
    sym (drop-drop (n - (to + done)) (to + done) now ∙ ap (λ j. drop j now) at) ∙ ap (drop (n - (to + done))) after
    ∙ (drop-drop (n - (to + done)) (to + done) old ∙ ap (λ j. drop j old) at) in
    let before : take (to + done) now ≡ take to old ++ a = ap (take (to + done)) m.is ∙ rw len at (put_before old to a (omega arith)) in
    let b : List ℕ = take more (drop (from + done) old) in
    let b_is : take more (drop (from + done) now) ≡ b = ap (take more) (later (from + done) (omega arith)) in
    let b_len : length b ≡ more = simp (length-take, length-drop) (omega arith) in
    let long : length now ≡ length old = ap (λ (xs : List ℕ). length xs) m.is ∙ put_length old to a (omega arith) in
    let both : take (done + more) (drop from old) ≡ a ++ b =
    take_more done more (drop from old) ∙ ap (λ (xs : List ℕ). a ++ take more xs) (drop-drop done from old) in
    let both_len : length (a ++ b) ≡ done + more = simp length-append (omega arith) in
    let end : to + done + more ≡ to + (done + more) = omega arith in
    record {
      within = omega arith;
      is = is ∙ ap (λ (xs : List ℕ). put now (to + done) xs) b_is
          ∙ put_whole now (to + done) b (omega arith)
          ∙ ap (λ (n : ℕ). take (to + done) now ++ (b ++ drop (to + done + n) now)) b_len
          ∙ ap (λ (xs : List ℕ). take (to + done) now ++ (b ++ xs)) (later (to + done + more) (omega arith) ∙ ap (λ n. drop n old) end)
          ∙ ap (λ (xs : List ℕ). xs ++ (b ++ drop (to + (done + more)) old)) before
          ∙ append_assoc (take to old) a (b ++ drop (to + (done + more)) old)
          ∙ ap (λ (xs : List ℕ). take to old ++ xs) (sym (append_assoc a b (drop (to + (done + more)) old)))
          ∙ ap (λ (n : ℕ). take to old ++ ((a ++ b) ++ drop (to + n) old)) (sym both_len)
          ∙ sym (put_whole old to (a ++ b) (omega arith))
          ∙ ap (λ (xs : List ℕ). put old to xs) (sym both ∙ ap (λ n. take n (drop from old)) (sym next_is));
    }

pub all_moved : (old now : List ℕ) (from to size done : ℕ) → size ≤ done → IsMovedDown old now from to size done
    → now ≡ put old to (take size (drop from old))
all_moved old now from to size done h m =
    let same : done ≡ size = let w = m.within in omega arith in
    m.is ∙ ap (λ n. put old to (take n (drop from old))) same
