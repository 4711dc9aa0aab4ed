-- Texts of items, one on a line: what is read is spelled so, and what is spelled so is read.
use Rattle.std.proofs.Common.{◌≡◌, ◌+◌, ◌∷◌, ◌++◌, ◌∙◌}
use Rattle.std.proofs.Common.{ℕ, false, eqb, List, [], length, Result, Ok, Err, refl, sym, ap, subst, append_assoc}
use Rattle.std.specs.Prelude.{◌==◌}
use Rattle.std.specs.List.{All, join_with_byte}
use Rattle.std.proofs.lemmas.Bool.{eqb-true}
use Rattle.std.proofs.lemmas.List.{nil_from_length}
use Rattle.std.proofs.lemmas.List.Elements.{All-nil, All-cons}
use Rattle.std.proofs.lemmas.List.Splits.{join_with_byte-slice_split}
use Rattle.heap_words.specs.declared.config.Config.{Config}
use Rattle.script_text.specs.declared.fault.Kind.{Kind}
use Rattle.script_text.specs.declared.fault.Kind.TheVariants as kinds
use Rattle.script_text.specs.declared.fault.LineFault.{LineFault}
use Rattle.script_text.specs.Fits.{ConfigFits}
use Rattle.script_text.specs.Spelling.{heap_words, spaced, line}
use Rattle.script_text.specs.Lines.{◌>>=◌, at, pieces_of, heap_line_of, items_of, headed}
use Rattle.script_text.proofs.Parts.FirstLines.{pieces_at}
use Rattle.script_text.proofs.Reading.ReadOn.{Items, items, fault, pieces_some, begins, items_more}
use Rattle.script_text.proofs.BothWays.StepsRead.{result_bind, ok_is, guarded, heap_line_is}
use Rattle.script_text.proofs.BothWays.StepsSpelled.{heap_line_again, heap_no_feed}

-- the lines of items that are counted from a number on
abbrev pub lines : {A : Type 0} → (ℕ → A → List ℕ) → ℕ → List A → List ℕ
lines text n [] = []
lines text n (x ∷ xs) = (text n x ++ 10 ∷ []) ++ lines text (n + 1) xs

-- each item is good by its number
abbrev pub AllGood : {A : Type 0} → (ℕ → A → Type 0) → ℕ → List A → Type 0
AllGood Good n [] = Unit {0}
AllGood Good n (x ∷ xs) = Good n x × AllGood Good (n + 1) xs

pub all_are : {A : Type 0} (Good : ℕ → A → Type 0) (Q : A → Type 0) (xs : List A) (n : ℕ) → ((k : ℕ) (x : A) → Good k x → Q x)
    → AllGood Good n xs → All Q xs
all_are Good Q [] n so good = All-nil Q
all_are Good Q (x ∷ xs) n so good = All-cons Q x xs (so n x good.0) (all_are Good Q xs (n + 1) so good.1)

-- the lines of good items are read as these, and only they are
pub record AreSpelled {A P : Type 0} (t : Items A P) (Good : ℕ → A → Type 0) (text : ℕ → A → List ℕ) : Type 0 where
  pub only : (n : ℕ) (line : List ℕ) (x : A) → t.read n line ≡ Ok x → (line ≡ text n x) × Good n x
  pub again : (n : ℕ) (x : A) → Good n x → t.read n (text n x) ≡ Ok x
  pub clear : (n : ℕ) (x : A) → Good n x → All (λ b. eqb b 10 ≡ false) (text n x)

at_ok : {A : Type 0} (n : ℕ) (r : Result A Kind) (x : A) → at n r ≡ Ok x → r ≡ Ok x
at_ok n (Ok y) x e = cc
at_ok n (Err k) x e = absurd cc

pub items_read : {A P : Type 0} (t : Items A P) (Good : ℕ → A → Type 0) (text : ℕ → A → List ℕ) (is : AreSpelled t Good text)
    (ps : List (List ℕ)) (n : ℕ) (p : List ℕ) (xs : List A) → items t n (p ∷ ps) ≡ Ok xs
    → (join_with_byte 10 (p ∷ ps) ≡ lines text n xs) × AllGood Good n xs
unfolding items_of
items_read t Good text is [] n p xs e =
    let g = guarded (length p == 0) [] xs (fault (t.number n) kinds.Cut) e in
    subst (λ (ys : List _). (p ≡ lines text n ys) × AllGood Good n ys) g.1 (nil_from_length p (eqb-true _ _ g.0), tt)
items_read t Good text is (q ∷ ps) n p xs e =
    let first = result_bind (at (t.number n) (t.read n p)) (λ x. items t (n + 1) (q ∷ ps) >>= λ more. Ok (x ∷ more)) xs e in
    let rest = result_bind (items t (n + 1) (q ∷ ps)) (λ more. Ok (first.0 ∷ more)) xs first.2 in
    let head = is.only n p first.0 (at_ok (t.number n) (t.read n p) first.0 first.1) in
    let tail = items_read t Good text is ps (n + 1) q rest.0 rest.1 in
    let cut : join_with_byte 10 (p ∷ q ∷ ps) ≡ lines text n (first.0 ∷ rest.0) =
    ap (λ (l : List ℕ). l ++ 10 ∷ join_with_byte 10 (q ∷ ps)) head.0 ∙ ap (λ (l : List ℕ). text n first.0 ++ 10 ∷ l) tail.0
    ∙ sym (append_assoc (text n first.0) (10 ∷ []) (lines text (n + 1) rest.0)) in
    subst (λ (ys : List _). (join_with_byte 10 (p ∷ q ∷ ps) ≡ lines text n ys) × AllGood Good n ys)
    (ok_is (first.0 ∷ rest.0) xs rest.2) (cut, (head.1, tail.1))

pub items_again : {A P : Type 0} (t : Items A P) (Good : ℕ → A → Type 0) (text : ℕ → A → List ℕ) (is : AreSpelled t Good text)
    (xs : List A) (n : ℕ) → AllGood Good n xs → items t n (pieces_of (lines text n xs)) ≡ Ok xs
unfolding items_of
items_again t Good text is [] n good = refl
items_again t Good text is (x ∷ xs) n good =
    let after = lines text (n + 1) xs in
    let some = pieces_some after in
    let cut : pieces_of (lines text n (x ∷ xs)) ≡ text n x ∷ pieces_of after =
    ap pieces_of (append_assoc (text n x) (10 ∷ []) after) ∙ pieces_at (text n x) after (is.clear n x good.0) in
    ap (items t n) cut ∙ items_more t n (text n x) (pieces_of after) some.0 some.1 x some.2 (is.again n x good.0)
    ∙ ap (λ (r : Result (List _) LineFault). r >>= λ ys. Ok (x ∷ ys)) (items_again t Good text is xs (n + 1) good.1)

-- what a text gives that begins with a heap line, by its other lines
pub record IsHeaded {Y : Type 0} (by : Config → List (List ℕ) → Result Y LineFault) (text : List ℕ) (y : Y) : Type 0 where
  pub config : Config
  pub next : List ℕ
  pub others : List (List ℕ)
  pub spelled : text ≡ line (heap_words config) ++ join_with_byte 10 (next ∷ others)
  pub fits : ConfigFits config
  pub read : by config (next ∷ others) ≡ Ok y

pieces_headed : {Y : Type 0} (by : Config → List (List ℕ) → Result Y LineFault) (ps : List (List ℕ)) (y : Y) → headed by ps ≡ Ok y
    → IsHeaded by (join_with_byte 10 ps) y
unfolding headed
pieces_headed by (first ∷ next ∷ ps) y e =
    let head = result_bind (at 1 (heap_line_of first)) (λ c. by c (next ∷ ps)) y e in
    let heap = heap_line_is first head.0 (at_ok 1 (heap_line_of first) head.0 head.1) in
    record {
      config = head.0;
      next = next;
      others = ps;
      spelled = ap (λ (t : List ℕ). t ++ 10 ∷ join_with_byte 10 (next ∷ ps)) heap.0
          ∙ sym (append_assoc (spaced (heap_words head.0)) (10 ∷ []) (join_with_byte 10 (next ∷ ps)));
      fits = heap.1;
      read = head.2;
    }
pieces_headed by _ y e = absurd cc

pub is_headed : {Y : Type 0} (by : Config → List (List ℕ) → Result Y LineFault) (text : List ℕ) (y : Y)
    → headed by (pieces_of text) ≡ Ok y → IsHeaded by text y
is_headed by text y e = subst (λ (t : List ℕ). IsHeaded by t y) (join_with_byte-slice_split 10 text) (pieces_headed by (pieces_of text) y e)

pub headed_again : {Y : Type 0} (by : Config → List (List ℕ) → Result Y LineFault) (c : Config) (rest : List ℕ) → ConfigFits c
    → headed by (pieces_of (line (heap_words c) ++ rest)) ≡ by c (pieces_of rest)
headed_again by c rest fits =
    let head = spaced (heap_words c) in
    let cut : pieces_of (line (heap_words c) ++ rest) ≡ head ∷ pieces_of rest =
    ap pieces_of (append_assoc head (10 ∷ []) rest) ∙ pieces_at head rest (heap_no_feed c fits) in
    sym (begins by (line (heap_words c) ++ rest) head rest c cut (heap_line_again c fits))
