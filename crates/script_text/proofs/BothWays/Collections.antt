-- The collector's steps and heap lines, read from their words.
use Rattle.std.proofs.Common.{◌≡◌, ℕ, ◌≤◌, true, cond, List, [], ◌∷◌, ◌++◌, Some, None, refl, sym, ap, subst, ◌∙◌, inl, inr}
use Rattle.std.specs.Prelude.{codes}
use Rattle.std.specs.Fmt.{decimal}
use Rattle.std.specs.Str.{bytes_eq}
use Rattle.std.proofs.lemmas.Slice.Eq.{bytes_eq-Decides}
use Rattle.heap_words.specs.declared.config.Config.{Config}
use Rattle.heap_words.specs.declared.config.Format.{Format}
use Rattle.heap_words.specs.declared.config.Format.TheVariants.{V1, V2, V3}
use Rattle.heap_steps.specs.Actors.{HasCollection, has_row}
use Rattle.heap_steps.specs.Forms.{collections_grammar, collection_row, collection_verbs, collection_verb, collection_numbers}
use Rattle.heap_steps.specs.declared.form.CollectionVerb.{CollectionVerb}
use Rattle.heap_steps.specs.declared.step.CollectorStep.{CollectorStep}
use Rattle.script_text.specs.Reading.{◌>>=◌, number_of, small, large, verb_by, verb_in, made_by, collection_of}
use Rattle.script_text.specs.Reading.{sizes_in, third_of, sizes_of}
use Rattle.script_text.specs.Fits.{CollectionFits, FormatFits, ConfigFits}
use Rattle.script_text.specs.Spelling.{collection_words, verb_of, size_words, format_words, heap_words}
use Rattle.script_text.proofs.Parts.Numbers.{number_of_is}
use Rattle.script_text.proofs.BothWays.Grammars.{option_bind, none_is, chosen, some_is, joined, made_is, verb_is, operands_again}
use Rattle.script_text.proofs.BothWays.Actions.{collections_are}
use Rattle.script_text.proofs.BothWays.Allowed.{guarded, row_is, row_again}

-- a step of the collector, and its words
pub record IsCollection (f : Format) (words : List (List ℕ)) (k : CollectorStep) : Type 0 where
  pub spelled : words ≡ collection_words k
  pub known : HasCollection f k
  pub fits : CollectionFits k

pub collection_is : (f : Format) (ws : List (List ℕ)) (k : CollectorStep) → collection_of f ws ≡ Some k → IsCollection f ws k
unfolding collection_of
collection_is f [] k e = absurd cc
collection_is f (word ∷ ws) k e =
    let p = option_bind (verb_in f collections_grammar word) (λ v. made_by collections_grammar v ws) k e in
    let q = option_bind (verb_by collections_grammar word)
    (λ v. cond (has_row f (collection_row v).third) (Some v) None) p.0 p.1 in
    let has = guarded (has_row f (collection_row q.0).third) q.0 p.0 q.2 in
    let made = made_is collections_grammar collections_are p.0 ws k p.2 in
    let verb = verb_is collection_row collection_verbs word q.0 q.1
    ∙ ap (λ (v : CollectionVerb). (collection_row v).word) (has.1 ∙ sym made.verb) in
    record {
      spelled = joined word (collection_row (collection_verb k)).word ws _ verb made.words;
      known = row_is f (collection_row (collection_verb k)).third
          (subst (λ (v : CollectionVerb). has_row f (collection_row v).third ≡ true) (has.1 ∙ sym made.verb) has.0);
      fits = made.fits;
    }

pub collection_again : (f : Format) (k : CollectorStep) → HasCollection f k → CollectionFits k
    → collection_of f (collection_words k) ≡ Some k
unfolding collection_of
collection_again f k known fits =
    rw (
      (collections_are.rows (collection_verb k)).1,
      row_again f (collection_row (collection_verb k)).third known,
      operands_again (collection_row (collection_verb k)).operands (collection_numbers k) fits,
    ) (ap (λ (x : CollectorStep). Some x) (collections_are.made k))

-- the sizes of a heap, and the words of its line
pub record AreSizes (words : List (List ℕ)) (c : Config) : Type 0 where
  pub spelled : words ≡ heap_words c
  pub fits : ConfigFits c

sizes : Format → ℕ → ℕ → ℕ → ℕ → ℕ → Config
sizes fm n r b m f = record { format = fm; regions = n; words = r; buffer = b; mutators = m; first_name = f }

config_some : (c d : Config) → Some c ≡ Some d → c ≡ d
config_some c d e = cc

words5 : (b c d e f x y z u v : List ℕ) → b ≡ x → c ≡ y → d ≡ z → e ≡ u → f ≡ v → b ∷ c ∷ d ∷ e ∷ f ∷ [] ≡ x ∷ y ∷ z ∷ u ∷ v ∷ []
words5 b c d e f x y z u v q r s t o = cc

-- sizes, the words of their numbers, and the format
record AreSpelled (words : List (List ℕ)) (fm : Format) (c : Config) : Type 0 where
  spelled : words ≡ size_words c
  format : c.format ≡ fm
  regions : c.regions ≤ small
  size : c.words ≤ small
  buffer : c.buffer ≤ small
  mutators : c.mutators ≤ small
  first_name : c.first_name ≤ large

sized : (fm : Format) (n r b m f : List ℕ) (vn vr vb vm vf : ℕ) (c : Config) → (n ≡ decimal vn) × (vn ≤ small)
    → (r ≡ decimal vr) × (vr ≤ small) → (b ≡ decimal vb) × (vb ≤ small) → (m ≡ decimal vm) × (vm ≤ small) → (f ≡ decimal vf) × (vf ≤ large)
    → Some (sizes fm vn vr vb vm vf) ≡ Some c → AreSpelled (n ∷ r ∷ b ∷ m ∷ f ∷ []) fm c
unfolding sizes
sized fm n r b m f vn vr vb vm vf c q0 q1 q2 q3 q4 e =
    subst (AreSpelled (n ∷ r ∷ b ∷ m ∷ f ∷ []) fm) (config_some (sizes fm vn vr vb vm vf) c e) (record {
      spelled = words5 n r b m f _ _ _ _ _ q0.0 q1.0 q2.0 q3.0 q4.0;
      format = refl;
      regions = q0.1;
      size = q1.1;
      buffer = q2.1;
      mutators = q3.1;
      first_name = q4.1;
    })

five : (fm : Format) (n r b m f : List ℕ) (c : Config) → sizes_in fm n r b m f ≡ Some c → AreSpelled (n ∷ r ∷ b ∷ m ∷ f ∷ []) fm c
unfolding sizes sizes_in
five fm n r b m f c e =
    let p0 = option_bind (number_of small n)
    (λ vn. number_of small r >>= λ vr.
    number_of small b >>= λ vb. number_of small m >>= λ vm. number_of large f >>= λ vf. Some (sizes fm vn vr vb vm vf)) c e in
    let p1 = option_bind (number_of small r)
    (λ vr. number_of small b >>= λ vb. number_of small m >>= λ vm. number_of large f >>= λ vf. Some (sizes fm p0.0 vr vb vm vf)) c p0.2 in
    let p2 = option_bind (number_of small b)
    (λ vb. number_of small m >>= λ vm. number_of large f >>= λ vf. Some (sizes fm p0.0 p1.0 vb vm vf)) c p1.2 in
    let p3 = option_bind (number_of small m) (λ vm. number_of large f >>= λ vf. Some (sizes fm p0.0 p1.0 p2.0 vm vf)) c p2.2 in
    let p4 = option_bind (number_of large f) (λ vf. Some (sizes fm p0.0 p1.0 p2.0 p3.0 vf)) c p3.2 in
    let q0 = number_of_is small n p0.0 p0.1 in
    let q1 = number_of_is small r p1.0 p1.1 in
    let q2 = number_of_is small b p2.0 p2.1 in
    let q3 = number_of_is small m p3.0 p3.1 in
    let q4 = number_of_is large f p4.0 p4.1 in
    sized fm n r b m f p0.0 p1.0 p2.0 p3.0 p4.0 c q0 q1 q2 q3 q4 p4.2

lined : (verb : List ℕ) (words : List (List ℕ)) (fm : Format) (c : Config) → verb ≡ verb_of fm → AreSpelled words fm c
    → verb ∷ words ++ format_words fm ≡ heap_words c
lined verb words fm c v a = rw (v, a.spelled, a.format) refl

fitted : (words : List (List ℕ)) (fm : Format) (c : Config) → AreSpelled words fm c → FormatFits fm → ConfigFits c
fitted words fm c a fits = record {
  format = subst FormatFits (sym a.format) fits;
  regions = a.regions;
  words = a.size;
  buffer = a.buffer;
  mutators = a.mutators;
  first_name = a.first_name;
}

-- the third format, and the words after the five sizes
record IsThird (words : List (List ℕ)) (f : Format) : Type 0 where
  spelled : words ≡ format_words f
  verb : verb_of f ≡ codes "heap3"
  fits : FormatFits f

words3 : (a b c x y z : List ℕ) → a ≡ x → b ≡ y → c ≡ z → a ∷ b ∷ c ∷ [] ≡ x ∷ y ∷ z ∷ []
words3 a b c x y z p q r = cc

third_is : (a b c : List ℕ) (f : Format) → third_of a b c ≡ Some f → IsThird (a ∷ b ∷ c ∷ []) f
unfolding third_of
third_is a b c f e =
    let p0 = option_bind (number_of small a) (λ x. number_of small b >>= λ y. number_of small c >>= λ z. Some (V3 x y z)) f e in
    let p1 = option_bind (number_of small b) (λ y. number_of small c >>= λ z. Some (V3 p0.0 y z)) f p0.2 in
    let p2 = option_bind (number_of small c) (λ z. Some (V3 p0.0 p1.0 z)) f p1.2 in
    let q0 = number_of_is small a p0.0 p0.1 in
    let q1 = number_of_is small b p1.0 p1.1 in
    let q2 = number_of_is small c p2.0 p2.1 in
    subst (IsThird (a ∷ b ∷ c ∷ [])) (some_is (V3 p0.0 p1.0 p2.0) f p2.2) (record {
      spelled = words3 a b c (decimal p0.0) (decimal p1.0) (decimal p2.0) q0.0 q1.0 q2.0;
      verb = refl;
      fits = (q0.1, q1.1, q2.1);
    })

pub heap_is : (ws : List (List ℕ)) (c : Config) → sizes_of ws ≡ Some c → AreSizes ws c
unfolding sizes_of
heap_is (verb ∷ n ∷ r ∷ b ∷ m ∷ f ∷ []) c e =
    elim (chosen (bytes_eq verb (codes "heap")) (sizes_in V1 n r b m f) None c e) [
      | inl h ↦
          let a = five V1 n r b m f c h.1 in
          record {
            spelled = lined verb (n ∷ r ∷ b ∷ m ∷ f ∷ []) V1 c ((bytes_eq-Decides verb (codes "heap")).0 h.0) a;
            fits = fitted (n ∷ r ∷ b ∷ m ∷ f ∷ []) V1 c a tt;
          }
      | inr h ↦ absurd (none_is c h.1)
    ]
heap_is (verb ∷ n ∷ r ∷ b ∷ m ∷ f ∷ card ∷ []) c e =
    elim (chosen (bytes_eq verb (codes "heap2")) (number_of small card >>= λ k. sizes_in (V2 k) n r b m f) None c e) [
      | inl h ↦
          let p = option_bind (number_of small card) (λ k. sizes_in (V2 k) n r b m f) c h.1 in
          let q = number_of_is small card p.0 p.1 in
          let a = five (V2 p.0) n r b m f c p.2 in
          record {
            spelled = ap (λ (w : List ℕ). verb ∷ n ∷ r ∷ b ∷ m ∷ f ∷ w ∷ []) q.0
                ∙ lined verb (n ∷ r ∷ b ∷ m ∷ f ∷ []) (V2 p.0) c ((bytes_eq-Decides verb (codes "heap2")).0 h.0) a;
            fits = fitted (n ∷ r ∷ b ∷ m ∷ f ∷ []) (V2 p.0) c a q.1;
          }
      | inr h ↦ absurd (none_is c h.1)
    ]
heap_is (verb ∷ n ∷ r ∷ b ∷ m ∷ f ∷ card ∷ globals ∷ registers ∷ []) c e =
    elim (chosen (bytes_eq verb (codes "heap3")) (third_of card globals registers >>= λ k. sizes_in k n r b m f) None c e) [
      | inl h ↦
          let p = option_bind (third_of card globals registers) (λ k. sizes_in k n r b m f) c h.1 in
          let q = third_is card globals registers p.0 p.1 in
          let a = five p.0 n r b m f c p.2 in
          record {
            spelled = ap (λ (ws : List (List ℕ)). verb ∷ n ∷ r ∷ b ∷ m ∷ f ∷ ws) q.spelled
                ∙ lined verb (n ∷ r ∷ b ∷ m ∷ f ∷ []) p.0 c ((bytes_eq-Decides verb (codes "heap3")).0 h.0 ∙ sym q.verb) a;
            fits = fitted (n ∷ r ∷ b ∷ m ∷ f ∷ []) p.0 c a q.fits;
          }
      | inr h ↦ absurd (none_is c h.1)
    ]
heap_is _ c e = absurd cc
