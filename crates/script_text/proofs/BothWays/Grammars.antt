-- What is spelled by a grammar is read so, and nothing else is.
use Rattle.std.proofs.Common.{◌≡◌, ◌≤◌, ◌∷◌, ◌∙◌, ◌⊎◌}
use Rattle.std.proofs.Common.{ℕ, zero, suc, Bool, true, false, cond, List, [], length, get_or, Option, Some, None}
use Rattle.std.proofs.Common.{refl, sym, ap, subst, inl, inr, arith}
use Rattle.std.specs.Prelude.{codes}
use Rattle.std.specs.Fmt.{decimal}
use Rattle.std.specs.Str.{bytes_eq}
use Rattle.std.proofs.lemmas.List.Elements.{All-cons}
use Rattle.std.proofs.lemmas.Slice.Eq.{bytes_eq-Decides}
use Rattle.heap_steps.specs.Forms.{Row, Grammar}
use Rattle.heap_steps.specs.declared.form.Operand.{Operand}
use Rattle.heap_steps.specs.declared.form.Operand.TheVariants as operands
use Rattle.script_text.specs.Fits.{OperandFits, OperandsFit, FitsBy}
use Rattle.script_text.specs.Reading.{◌>>=◌, number_behind, small, large, most_weaks, operand_of, operands_of}
use Rattle.script_text.specs.Reading.{verb_among, verb_by, made_by, read_by}
use Rattle.script_text.specs.Spelling.{operand_word, operand_words, words_by, spaced}
use Rattle.script_text.proofs.Parts.Numbers.{number_of_some, number_of_is, behind_is, behind_again}
use Rattle.script_text.proofs.Parts.Rows.{is_good, good_is, operands_are_words, operands_long}
use Rattle.script_text.proofs.Parts.Spelled.{IsWord, AreWords}

-- the steps of a reading that gave something
pub option_bind : {A B : Type 0} (o : Option A) (f : A → Option B) (y : B) → (o >>= f) ≡ Some y → (x : A) × (o ≡ Some x) × (f x ≡ Some y)
option_bind (Some x) f y e = (x, refl, e)
option_bind None f y e = absurd cc

pub chosen : {A : Type 0} (b : Bool) (x y : Option A) (z : A) → cond b x y ≡ Some z
    → ((b ≡ true) × (x ≡ Some z)) ⊎ ((b ≡ false) × (y ≡ Some z))
chosen true x y z e = inl (refl, e)
chosen false x y z e = inr (refl, e)

some_or : {A : Type 0} → A → Option A → A
some_or x None = x
some_or x (Some y) = y

pub some_is : {A : Type 0} (x y : A) → Some x ≡ Some y → x ≡ y
unfolding some_or
some_is x y e = ap (some_or x) e

pub none_is : {A : Type 0} (x : A) → None ≡ Some x → ⊥
none_is x e = cc

-- an operand
pub operand_again : (k : Operand) (n : ℕ) → OperandFits k n → operand_of k (operand_word k n) ≡ Some n
unfolding operand_of
operand_again operands.Register n fits = behind_again 114 n fits
operand_again operands.Global n fits = behind_again 103 n fits
operand_again operands.Value zero fits = refl
operand_again operands.Value (suc n) fits = rw (behind_again 114 n fits) refl
operand_again operands.Small n fits = number_of_some small (decimal n) n (omega (arith, fits)) refl fits
operand_again operands.Byte n fits = number_of_some most_weaks (decimal n) n (omega (arith, fits)) refl fits
operand_again operands.Large n fits = number_of_some large (decimal n) n (omega (arith, fits)) refl fits

value_is : (w : List ℕ) (n : ℕ) → operand_of operands.Value w ≡ Some n
    → (w ≡ operand_word operands.Value n) × OperandFits operands.Value n
unfolding operand_of
value_is w n e =
    elim (chosen (bytes_eq w (codes "nil")) (Some 0) (number_behind 114 w >>= λ m. Some (suc m)) n e) [
      | inl h ↦
          (let zero_is : 0 ≡ n = some_is 0 n h.1 in
          rw (← zero_is) ((bytes_eq-Decides w (codes "nil")).0 h.0, tt))
      | inr h ↦
          (let b = option_bind (number_behind 114 w) (λ m. Some (suc m)) n h.1 in
          let is = behind_is 114 w b.0 b.1 in
          let next = some_is (suc b.0) n b.2 in
          rw (← next) is)
    ]

pub operand_is : (k : Operand) (w : List ℕ) (n : ℕ) → operand_of k w ≡ Some n → (w ≡ operand_word k n) × OperandFits k n
unfolding operand_of
operand_is operands.Register w n e = behind_is 114 w n e
operand_is operands.Global w n e = behind_is 103 w n e
operand_is operands.Value w n e = value_is w n e
operand_is operands.Small w n e = number_of_is small w n e
operand_is operands.Byte w n e = number_of_is most_weaks w n e
operand_is operands.Large w n e = number_of_is large w n e

-- operands
pub operands_again : (ks : List Operand) (ns : List ℕ) → OperandsFit ks ns → operands_of ks (operand_words ks ns) ≡ Some ns
operands_again [] [] fits = refl
operands_again (k ∷ ks) (n ∷ ns) fits = rw (operand_again k n fits.0, operands_again ks ns fits.1) refl
operands_again _ _ fits = absurd fits

pub joined : (a b : List ℕ) (xs ys : List (List ℕ)) → a ≡ b → xs ≡ ys → a ∷ xs ≡ b ∷ ys
joined a b xs ys e f = cc

pub operands_is : (ks : List Operand) (ws : List (List ℕ)) (ns : List ℕ) → operands_of ks ws ≡ Some ns
    → (ws ≡ operand_words ks ns) × OperandsFit ks ns
operands_is [] [] ns e = let none = some_is [] ns e in rw (← none) (refl, tt)
operands_is (k ∷ ks) (w ∷ ws) ns e =
    let p = option_bind (operand_of k w) (λ n. operands_of ks ws >>= λ ms. Some (n ∷ ms)) ns e in
    let q = option_bind (operands_of ks ws) (λ ms. Some (p.0 ∷ ms)) ns p.2 in
    let one = operand_is k w p.0 p.1 in
    let rest = operands_is ks ws q.0 q.1 in
    let same = some_is (p.0 ∷ q.0) ns q.2 in
    rw (← same) (joined w (operand_word k p.0) ws (operand_words ks q.0) one.0 rest.0, (one.1, rest.1))
operands_is _ _ ns e = absurd cc

pub same_length : (ks : List Operand) (ns : List ℕ) → OperandsFit ks ns → length ns ≡ length ks
same_length [] [] fits = refl
same_length (k ∷ ks) (n ∷ ns) fits = ap suc (same_length ks ns fits.1)
same_length _ _ fits = absurd fits

-- words of another number than the operands are none
pub too_many : (ks : List Operand) (ws : List (List ℕ)) → (length ks ≡ length ws → ⊥) → operands_of ks ws ≡ None
too_many [] [] other = absurd (other refl)
too_many (k ∷ ks) (w ∷ ws) other = go (operand_of k w) (too_many ks ws (λ e. other (ap suc e)))
  where
    go : (o : Option ℕ) → operands_of ks ws ≡ None → (o >>= λ n. operands_of ks ws >>= λ ns. Some (n ∷ ns)) ≡ None
    go None rest = refl
    go (Some n) rest = rw rest refl
too_many _ _ other = refl

-- the numbers at the first places
abbrev pub listed : (ℕ → ℕ) → ℕ → List ℕ
listed n zero = []
listed n (suc k) = n 0 ∷ listed (λ i. n (suc i)) k

listed_is : (ns : List ℕ) (k : ℕ) → length ns ≡ k → listed (λ i. get_or ns i 0) k ≡ ns
listed_is [] zero e = refl
listed_is (n ∷ ns) (suc k) e = ap (λ (ms : List ℕ). n ∷ ms) (listed_is ns k (omega (arith, e)))
listed_is _ _ e = absurd (omega (arith, e))

-- the laws of a verb's row: its lines are good ones, its word tells it from other verbs, and what it makes has it and its numbers
abbrev pub IsRow : {V A : Type 0} → Grammar V A → V → Type 0
IsRow g v = (is_good (g.row v) ≡ true) × (verb_by g (g.row v).word ≡ Some v) × ((n : ℕ → ℕ) → g.verb (g.make v n) ≡ v)
    × ((n : ℕ → ℕ) → g.numbers (g.make v n) ≡ listed n (length (g.row v).operands))

-- and all that a grammar has is made of its verb and its numbers
pub record IsGrammar {V A : Type 0} (g : Grammar V A) : Type 0 where
  pub rows : (v : V) → IsRow g v
  pub made : (x : A) → g.make (g.verb x) (λ i. get_or (g.numbers x) i 0) ≡ x

pub verb_is : {V : Type 0} (row : V → Row) (vs : List V) (w : List ℕ) (v : V) → verb_among row vs w ≡ Some v → w ≡ (row v).word
verb_is row [] w v e = absurd cc
verb_is row (u ∷ vs) w v e =
    elim (chosen (bytes_eq w (row u).word) (Some u) (verb_among row vs w) v e) [
      | inl h ↦ (bytes_eq-Decides w (row u).word).0 h.0 ∙ ap (λ (t : _). (row t).word) (some_is u v h.1)
      | inr h ↦ verb_is row vs w v h.1
    ]

-- what a verb and words stand for has that verb, and these are its words
pub record IsMade {V A : Type 0} (g : Grammar V A) (v : V) (ws : List (List ℕ)) (x : A) : Type 0 where
  pub verb : g.verb x ≡ v
  pub words : ws ≡ operand_words (g.row (g.verb x)).operands (g.numbers x)
  pub fits : FitsBy g x

made_so : {V A : Type 0} (g : Grammar V A) (is : IsGrammar g) (v : V) (ns : List ℕ) → OperandsFit (g.row v).operands ns
    → IsMade g v (operand_words (g.row v).operands ns) (g.make v (λ i. get_or ns i 0))
made_so g is v ns fits =
    let numbers = (is.rows v).3 (λ i. get_or ns i 0) ∙ listed_is ns (length (g.row v).operands) (same_length (g.row v).operands ns fits) in
    let verb = (is.rows v).2 (λ i. get_or ns i 0) in
    record { verb = verb; words = rw (verb, numbers) refl; fits = rw (verb, numbers) fits }

pub made_is : {V A : Type 0} (g : Grammar V A) (is : IsGrammar g) (v : V) (ws : List (List ℕ)) (x : A) → made_by g v ws ≡ Some x
    → IsMade g v ws x
made_is g is v ws x e =
    let p = option_bind (operands_of (g.row v).operands ws) (λ ns. Some (g.make v (λ i. get_or ns i 0))) x e in
    let words = operands_is (g.row v).operands ws p.0 p.1 in
    let same = some_is (g.make v (λ i. get_or p.0 i 0)) x p.2 in
    subst (IsMade g v ws) same (subst (λ (t : List (List ℕ)). IsMade g v t (g.make v (λ i. get_or p.0 i 0))) (sym words.0)
    (made_so g is v p.0 words.1))

-- the numbers of what a verb and words stand for are those of the words
pub numbers_are : {V A : Type 0} (g : Grammar V A) (is : IsGrammar g) (v : V) (ws : List (List ℕ)) (ns : List ℕ)
    → operands_of (g.row v).operands ws ≡ Some ns → g.numbers (g.make v (λ i. get_or ns i 0)) ≡ ns
numbers_are g is v ws ns e =
    (is.rows v).3 (λ i. get_or ns i 0)
    ∙ listed_is ns (length (g.row v).operands) (same_length (g.row v).operands ns (operands_is (g.row v).operands ws ns e).1)

-- what is spelled so is read so
pub read_again : {V A : Type 0} (g : Grammar V A) (is : IsGrammar g) (x : A) → FitsBy g x → read_by g (words_by g x) ≡ Some x
read_again g is x fits =
    rw ((is.rows (g.verb x)).1, operands_again (g.row (g.verb x)).operands (g.numbers x) fits) (ap (λ (y : _). Some y) (is.made x))

-- what is read is spelled so
pub read_is : {V A : Type 0} (g : Grammar V A) (is : IsGrammar g) (ws : List (List ℕ)) (x : A) → read_by g ws ≡ Some x
    → (ws ≡ words_by g x) × FitsBy g x
read_is g is [] x e = absurd cc
read_is g is (w ∷ ws) x e =
    let p = option_bind (verb_by g w) (λ v. made_by g v ws) x e in
    let made = made_is g is p.0 ws x p.2 in
    let word = verb_is g.row g.verbs w p.0 p.1 ∙ ap (λ (t : _). (g.row t).word) (sym made.verb) in
    (joined w (g.row (g.verb x)).word ws (operand_words (g.row (g.verb x)).operands (g.numbers x)) word made.words, made.fits)

-- the words of what a grammar has
pub words_are : {V A : Type 0} (g : Grammar V A) (is : IsGrammar g) (x : A) → FitsBy g x → AreWords (words_by g x)
words_are g is x fits =
    All-cons IsWord (g.row (g.verb x)).word (operand_words (g.row (g.verb x)).operands (g.numbers x))
    (good_is (g.row (g.verb x)) (is.rows (g.verb x)).0).word
    (operands_are_words (g.row (g.verb x)).operands (g.numbers x) fits)

pub words_long : {V A : Type 0} (g : Grammar V A) (is : IsGrammar g) (x : A) → FitsBy g x → length (spaced (words_by g x)) ≤ 49
words_long g is x fits =
    let good = (good_is (g.row (g.verb x)) (is.rows (g.verb x)).0).short in
    let all = operands_long (g.row (g.verb x)).word (g.row (g.verb x)).operands (g.numbers x) fits in
    omega (arith, good, all)

-- more than five words are none
pub never_long : {V A : Type 0} (g : Grammar V A) (is : IsGrammar g) (v : V) (ws : List (List ℕ)) → 5 ≤ length ws → made_by g v ws ≡ None
never_long g is v ws many =
    let few = (good_is (g.row v) (is.rows v).0).few in
    rw (too_many (g.row v).operands ws (λ e. omega (arith, few, many, e))) refl

pub never_read : {V A : Type 0} (g : Grammar V A) (is : IsGrammar g) (o : Option V) (ws : List (List ℕ)) → 5 ≤ length ws
    → (o >>= λ v. made_by g v ws) ≡ None
never_read g is None ws many = refl
never_read g is (Some v) ws many = never_long g is v ws many
