-- A reply is read from its words, and from no others.
use Rattle.std.proofs.Common.{◌≡◌, ◌<◌, ◌≤◌, ◌∷◌, ◌∙◌}
use Rattle.std.proofs.Common.{ℕ, Bool, true, false, cond, eqb, List, [], length, get_or, Option, Some, None, refl, sym, ap, subst, arith}
use Rattle.std.specs.Prelude.{codes}
use Rattle.std.specs.Fmt.{decimal}
use Rattle.std.specs.Str.{bytes_eq}
use Rattle.std.proofs.lemmas.Bool.{eqb-true, ne_eqb}
use Rattle.std.proofs.lemmas.Fmt.{decimal_nonempty}
use Rattle.std.proofs.lemmas.Slice.Eq.{bytes_eq-Decides}
use Rattle.heap_steps.specs.declared.step.Reply.{Reply}
use Rattle.heap_steps.specs.declared.step.Reply.TheVariants as replies
use Rattle.heap_steps.specs.declared.step.Refusal.{Refusal}
use Rattle.heap_steps.specs.declared.step.Refusal.TheVariants as refusals
use Rattle.script_text.specs.Records.{refusal_words, reply_words}
use Rattle.script_text.specs.Fits.{ReplyFits}
use Rattle.script_text.specs.Reading.{◌>>=◌, number_of, small, large}
use Rattle.script_text.specs.EventWords.{numbered, refusal_of, name_or_word, lone_reply_of, pair_reply_of, long_reply_of, reply_of}
use Rattle.script_text.proofs.Parts.Numbers.{number_of_some, number_of_is, first_is_digit}
use Rattle.script_text.proofs.BothWays.Grammars.{option_bind, some_is, none_is, joined}

-- a reply, and its words
pub record IsReply (words : List (List ℕ)) (r : Reply) : Type 0 where
  pub spelled : words ≡ reply_words r
  pub fits : ReplyFits r

same_reply : (ws : List (List ℕ)) (q r : Reply) → ws ≡ reply_words q → ReplyFits q → Some q ≡ Some r → IsReply ws r
same_reply ws q r spelled fits e = subst (IsReply ws) (some_is q r e) (record { spelled = spelled; fits = fits })

is_word : (a w : List ℕ) → bytes_eq a w ≡ true → a ≡ w
is_word a w e = (bytes_eq-Decides a w).0 e

one : (a b : List ℕ) → a ≡ b → a ∷ [] ≡ b ∷ []
one a b e = cc

two : (a b v w : List ℕ) → a ≡ v → b ≡ w → a ∷ b ∷ [] ≡ v ∷ w ∷ []
two a b v w e f = cc

three : (a b c v w x : List ℕ) → a ≡ v → b ≡ w → c ≡ x → a ∷ b ∷ c ∷ [] ≡ v ∷ w ∷ x ∷ []
three a b c v w x e f g = cc

-- one of two readings gave it
pub pick : {A P : Type 0} (b : Bool) (x y : Option A) (z : A) → cond b x y ≡ Some z
    → (b ≡ true → x ≡ Some z → P) → (b ≡ false → y ≡ Some z → P) → P
pick true x y z e first second = first refl e
pick false x y z e first second = second refl e

numbered_is : (number digit name verb : List ℕ) (x y : Refusal) → bytes_eq name verb ≡ true → numbered number digit x ≡ Some y
    → refusal_words x ≡ digit ∷ verb ∷ [] → number ∷ name ∷ [] ≡ refusal_words y
unfolding numbered
numbered_is number digit name verb x y named e words =
    pick (bytes_eq number digit) (Some x) None y e
    (λ same some.
    two number name digit verb (is_word number digit same) (is_word name verb named) ∙ sym words ∙ ap refusal_words (some_is x y some))
    (λ other none. absurd (none_is y none))

refusal_is : (number name : List ℕ) (y : Refusal) → refusal_of number name ≡ Some y → number ∷ name ∷ [] ≡ refusal_words y
unfolding refusal_of
refusal_is number name y e =
    pick (bytes_eq name (codes "Nil")) _ _ y e (λ h f. numbered_is number (codes "1") name (codes "Nil") refusals.Nil y h f refl) (λ h1 e1.
    pick (bytes_eq name (codes "NoField")) _ _ y e1
    (λ h f. numbered_is number (codes "2") name (codes "NoField") refusals.NoField y h f refl) (λ h2 e2.
    pick (bytes_eq name (codes "Full")) _ _ y e2
    (λ h f. numbered_is number (codes "3") name (codes "Full") refusals.Full y h f refl) (λ h3 e3.
    pick (bytes_eq name (codes "TooBig")) _ _ y e3
    (λ h f. numbered_is number (codes "4") name (codes "TooBig") refusals.TooBig y h f refl) (λ h4 e4.
    pick (bytes_eq name (codes "NamesSpent")) _ _ y e4
    (λ h f. numbered_is number (codes "5") name (codes "NamesSpent") refusals.NamesSpent y h f refl) (λ h5 e5.
    pick (bytes_eq name (codes "MarkRunning")) _ _ y e5
    (λ h f. numbered_is number (codes "6") name (codes "MarkRunning") refusals.MarkRunning y h f refl) (λ h6 e6.
    pick (bytes_eq name (codes "NotMarking")) _ _ y e6
    (λ h f. numbered_is number (codes "7") name (codes "NotMarking") refusals.NotMarking y h f refl)
    (λ h7 e7. absurd (none_is y e7))))))))

name_word : (b : ℕ) (digits : List ℕ) (n : ℕ) → b ≡ 35 → digits ≡ decimal n → (b ∷ digits) ∷ [] ≡ (35 ∷ decimal n) ∷ []
name_word b digits n e f = cc

name_or_word_is : (a : List ℕ) (r : Reply) → name_or_word a ≡ Some r → IsReply (a ∷ []) r
unfolding name_or_word
name_or_word_is [] r e = absurd (none_is r e)
name_or_word_is (b ∷ digits) r e =
    pick (eqb b 35) (number_of large digits >>= λ n. Some (replies.Named (Some n)))
    (number_of large (b ∷ digits) >>= λ w. Some (replies.Word w)) r e
    (λ hash f.
    let read = option_bind (number_of large digits) (λ n. Some (replies.Named (Some n))) r f in
    let number = number_of_is large digits read.0 read.1 in
    same_reply ((b ∷ digits) ∷ []) (replies.Named (Some read.0)) r
    (name_word b digits read.0 (eqb-true b 35 hash) number.0) number.1 read.2)
    (λ other f.
    let read = option_bind (number_of large (b ∷ digits)) (λ w. Some (replies.Word w)) r f in
    let number = number_of_is large (b ∷ digits) read.0 read.1 in
    same_reply ((b ∷ digits) ∷ []) (replies.Word read.0) r (one (b ∷ digits) (decimal read.0) number.0) number.1 read.2)

lone_is : (a : List ℕ) (r : Reply) → lone_reply_of a ≡ Some r → IsReply (a ∷ []) r
unfolding lone_reply_of
lone_is a r e =
    pick (bytes_eq a (codes "ok")) _ _ r e
    (λ h f. same_reply (a ∷ []) replies.Done r (one a (codes "ok") (is_word a (codes "ok") h)) tt f) (λ h1 e1.
    pick (bytes_eq a (codes "nil")) _ _ r e1
    (λ h f. same_reply (a ∷ []) (replies.Named None) r (one a (codes "nil") (is_word a (codes "nil") h)) tt f)
    (λ h2 e2. name_or_word_is a r e2))

-- a reply with a number after its verb
counted_is : (a w b : List ℕ) (make : ℕ → Reply) (r : Reply) → bytes_eq a w ≡ true → ((n : ℕ) → reply_words (make n) ≡ w ∷ decimal n ∷ [])
    → ((n : ℕ) → n ≤ small → ReplyFits (make n)) → (number_of small b >>= λ n. Some (make n)) ≡ Some r → IsReply (a ∷ b ∷ []) r
counted_is a w b make r same words fits e =
    let read = option_bind (number_of small b) (λ n. Some (make n)) r e in
    let number = number_of_is small b read.0 read.1 in
    same_reply (a ∷ b ∷ []) (make read.0) r
    (two a b w (decimal read.0) (is_word a w same) number.0 ∙ sym (words read.0)) (fits read.0 number.1) read.2

shape_is : (a b : List ℕ) (r : Reply)
    → (number_of small a >>= λ p. number_of small b >>= λ d. Some (replies.Shape p d)) ≡ Some r → IsReply (a ∷ b ∷ []) r
shape_is a b r e =
    let first = option_bind (number_of small a) (λ p. number_of small b >>= λ d. Some (replies.Shape p d)) r e in
    let second = option_bind (number_of small b) (λ d. Some (replies.Shape first.0 d)) r first.2 in
    let p = number_of_is small a first.0 first.1 in
    let d = number_of_is small b second.0 second.1 in
    same_reply (a ∷ b ∷ []) (replies.Shape first.0 second.0) r (two a b (decimal first.0) (decimal second.0) p.0 d.0) (p.1, d.1) second.2

pair_is : (a b : List ℕ) (r : Reply) → pair_reply_of a b ≡ Some r → IsReply (a ∷ b ∷ []) r
unfolding pair_reply_of
pair_is a b r e =
    pick (bytes_eq a (codes "marked")) _ _ r e
    (λ h f. counted_is a (codes "marked") b (λ n. replies.Marked n) r h (λ n. refl) (λ n le. le) f) (λ h1 e1.
    pick (bytes_eq a (codes "reclaimed")) _ _ r e1
    (λ h f. counted_is a (codes "reclaimed") b (λ n. replies.Reclaimed n) r h (λ n. refl) (λ n le. le) f) (λ h2 e2.
    pick (bytes_eq a (codes "refined")) _ _ r e2
    (λ h f. counted_is a (codes "refined") b (λ n. replies.Refined n) r h (λ n. refl) (λ n le. le) f) (λ h3 e3. shape_is a b r e3)))

moved_is : (a b c : List ℕ) (r : Reply) → bytes_eq a (codes "moved") ≡ true
    → (number_of small b >>= λ n. number_of small c >>= λ w. Some (replies.Moved n w)) ≡ Some r → IsReply (a ∷ b ∷ c ∷ []) r
moved_is a b c r same e =
    let first = option_bind (number_of small b) (λ n. number_of small c >>= λ w. Some (replies.Moved n w)) r e in
    let second = option_bind (number_of small c) (λ w. Some (replies.Moved first.0 w)) r first.2 in
    let n = number_of_is small b first.0 first.1 in
    let w = number_of_is small c second.0 second.1 in
    same_reply (a ∷ b ∷ c ∷ []) (replies.Moved first.0 second.0) r
    (three a b c (codes "moved") (decimal first.0) (decimal second.0) (is_word a (codes "moved") same) n.0 w.0) (n.1, w.1) second.2

refused_is : (a b c : List ℕ) (r : Reply) → bytes_eq a (codes "refused") ≡ true
    → (refusal_of b c >>= λ why. Some (replies.Refused why)) ≡ Some r → IsReply (a ∷ b ∷ c ∷ []) r
refused_is a b c r same e =
    let read = option_bind (refusal_of b c) (λ why. Some (replies.Refused why)) r e in
    same_reply (a ∷ b ∷ c ∷ []) (replies.Refused read.0) r
    (joined a (codes "refused") (b ∷ c ∷ []) (refusal_words read.0) (is_word a (codes "refused") same) (refusal_is b c read.0 read.1))
    tt read.2

long_is : (a b c : List ℕ) (r : Reply) → long_reply_of a b c ≡ Some r → IsReply (a ∷ b ∷ c ∷ []) r
unfolding long_reply_of
long_is a b c r e =
    pick (bytes_eq a (codes "moved")) _ _ r e (λ h f. moved_is a b c r h f) (λ h1 e1.
    pick (bytes_eq a (codes "refused")) _ _ r e1 (λ h f. refused_is a b c r h f) (λ h2 e2. absurd (none_is r e2)))

-- what is read is spelled so
pub reply_is : (ws : List (List ℕ)) (r : Reply) → reply_of ws ≡ Some r → IsReply ws r
unfolding reply_of
reply_is (a ∷ []) r e = lone_is a r e
reply_is (a ∷ b ∷ []) r e = pair_is a b r e
reply_is (a ∷ b ∷ c ∷ []) r e = long_is a b c r e
reply_is _ r e = absurd (none_is r e)

pub no_long_reply : (ws : List (List ℕ)) → 4 ≤ length ws → reply_of ws ≡ None
unfolding reply_of
no_long_reply (a ∷ b ∷ c ∷ d ∷ ws) le = refl
no_long_reply _ le = absurd (omega arith)

false_by : (b : Bool) → (b ≡ true → ⊥) → b ≡ false
false_by true never = absurd (never refl)
false_by false never = refl

-- a number is no word that begins with a letter or a sign
pub number_not : (n : ℕ) (w : List ℕ) → n ≤ large → 57 < get_or w 0 0 → bytes_eq (decimal n) w ≡ false
number_not n w fits letter = false_by (bytes_eq (decimal n) w) (λ e.
    let digit = first_is_digit (decimal n) n (omega arith) refl in
    let first : get_or (decimal n) 0 0 ≡ get_or w 0 0 = ap (λ (x : List ℕ). get_or x 0 0) (is_word (decimal n) w e) in
    omega arith)

num : (n : ℕ) → n ≤ small → number_of small (decimal n) ≡ Some n
num n fits = number_of_some small (decimal n) n (omega arith) refl fits

word_again : (a : List ℕ) (w : ℕ) → a ≡ decimal w → w ≤ large → name_or_word a ≡ Some (replies.Word w)
unfolding name_or_word
word_again [] w e fits = absurd (let some : 0 < length (decimal w) = decimal_nonempty w (omega arith) in
    let none : 0 ≡ length (decimal w) = ap length e in
    omega arith)
word_again (b ∷ digits) w e fits =
    let digit = first_is_digit (b ∷ digits) w (omega arith) e in
    let other : eqb b 35 ≡ false = ne_eqb b 35 (λ same. omega arith) in
    rw (other, number_of_some large (b ∷ digits) w (omega arith) e fits) refl

refusal_read : (why : Refusal) → reply_of (codes "refused" ∷ refusal_words why) ≡ Some (replies.Refused why)
unfolding reply_of long_reply_of refusal_of numbered
refusal_read refusals.Nil = refl
refusal_read _ = refl

-- what is spelled so is read so
pub reply_read : (r : Reply) → ReplyFits r → reply_of (reply_words r) ≡ Some r
unfolding reply_of lone_reply_of pair_reply_of long_reply_of refusal_of numbered name_or_word
reply_read replies.Done fits = refl
reply_read (replies.Named None) fits = refl
reply_read (replies.Named (Some n)) fits = rw (number_of_some large (decimal n) n (omega arith) refl fits) refl
reply_read (replies.Word w) fits =
    rw (number_not w (codes "ok") fits (omega arith), number_not w (codes "nil") fits (omega arith)) (word_again (decimal w) w refl fits)
reply_read (replies.Shape p d) fits =
    let le : p ≤ large = let f = fits.0 in omega arith in
    rw (
      number_not p (codes "marked") le (omega arith),
      number_not p (codes "reclaimed") le (omega arith),
      number_not p (codes "refined") le (omega arith),
      num p fits.0,
      num d fits.1,
    ) refl
reply_read (replies.Moved n w) fits = rw (num n fits.0, num w fits.1) refl
reply_read (replies.Refused why) fits = refusal_read why
reply_read _ fits = rw (num _ fits) refl
