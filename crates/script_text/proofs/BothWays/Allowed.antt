-- Actions that the sizes of a heap allow: there is each root that they name, and the format has them.
use Rattle.std.proofs.Common.{◌≡◌, ℕ, suc, ◌<◌, Bool, true, false, cond, List, [], ◌∷◌, Some, None, refl, subst}
use Rattle.std.specs.Prelude.{◌&&◌}
use Rattle.std.proofs.lemmas.Bool.{lt-ltb, ltb-true}
use Rattle.heap_words.specs.declared.config.Config.{Config}
use Rattle.heap_words.specs.declared.config.Format.{Format}
use Rattle.heap_words.specs.declared.config.Format.TheVariants.{V3}
use Rattle.heap_model.specs.Graph.{RootCounts}
use Rattle.root_table.specs.Roots.{root_counts_of}
use Rattle.heap_steps.specs.declared.form.Operand.{Operand}
use Rattle.heap_steps.specs.declared.form.Operand.TheVariants as operands
use Rattle.heap_steps.specs.Forms.{action_row, action_verb}
use Rattle.heap_steps.specs.Roots.{Root, IsThere, is_there, AreThere, are_there, action_roots, names_roots}
use Rattle.heap_steps.specs.Actors.{IsThird, is_third, HasRow, has_row, has_action, allows, IsOp}
use Rattle.heap_steps.specs.declared.step.Action.{Action}
use Rattle.heap_steps.specs.declared.step.Op.{Op}
use Rattle.script_text.specs.Fits.{Fits}
use Rattle.script_text.specs.Reading.{action_of, allowed_of}
use Rattle.script_text.specs.Spelling.{action_words}
use Rattle.script_text.proofs.BothWays.Actions.{action_again, action_is}
use Rattle.script_text.proofs.BothWays.Grammars.{option_bind, some_is}
use Rattle.script_text.proofs.Parts.Spelled.{both_true}

true_both : (b d : Bool) → b ≡ true → d ≡ true → (b && d) ≡ true
true_both true d e f = f
true_both false d e f = absurd cc

pub third : (f : Format) → is_third f ≡ true → IsThird f
third (V3 card globals registers) e = tt
third _ e = absurd cc

pub third_again : (f : Format) → IsThird f → is_third f ≡ true
third_again (V3 card globals registers) h = refl
third_again _ h = absurd h

-- a format has a row if the test says so
pub row_is : (f : Format) (t : Bool) → has_row f t ≡ true → HasRow f t
row_is f true e = third f e
row_is f false e = tt

pub row_again : (f : Format) (t : Bool) → HasRow f t → has_row f t ≡ true
row_again f true h = third_again f h
row_again f false h = refl

-- a root is there if the test says so
there_is : (p : RootCounts) (k : Operand) (n : ℕ) → is_there p k n ≡ true → IsThere p k n
there_is p operands.Register n e = ltb-true n p.registers e
there_is p operands.Global n e = ltb-true n p.globals e
there_is p operands.Value (suc n) e = ltb-true n p.registers e
there_is p _ n e = tt

there_again : (p : RootCounts) (k : Operand) (n : ℕ) → IsThere p k n → is_there p k n ≡ true
there_again p operands.Register n h = lt-ltb n p.registers h
there_again p operands.Global n h = lt-ltb n p.globals h
there_again p operands.Value (suc n) h = lt-ltb n p.registers h
there_again p _ n h = refl

are_is : (p : RootCounts) (rs : List Root) → are_there p rs ≡ true → AreThere p rs
are_is p [] e = tt
are_is p (r ∷ []) e = there_is p r.operand r.number e
are_is p (r ∷ s ∷ rs) e =
    let tests = both_true (is_there p r.operand r.number) (are_there p (s ∷ rs)) e in
    (there_is p r.operand r.number tests.0, are_is p (s ∷ rs) tests.1)

are_again : (p : RootCounts) (rs : List Root) → AreThere p rs → are_there p rs ≡ true
are_again p [] h = refl
are_again p (r ∷ []) h = there_again p r.operand r.number h
are_again p (r ∷ s ∷ rs) h =
    true_both (is_there p r.operand r.number) (are_there p (s ∷ rs)) (there_again p r.operand r.number h.0) (are_again p (s ∷ rs) h.1)

-- a mutator may do what the sizes allow
op_is : (c : Config) (m : ℕ) (a : Action) → m < c.mutators → allows c a ≡ true → IsOp c (record { mutator = m; action = a })
op_is c m a few e =
    let tests = both_true (names_roots (root_counts_of c) a) (has_action c.format a) e in
    record {
      at = record { mutator = few; roots = are_is (root_counts_of c) (action_roots a) tests.0 };
      known = row_is c.format (action_row (action_verb a)).third tests.1;
    }

-- and the sizes allow what it may do
op_again : (c : Config) (m : ℕ) (a : Action) → IsOp c (record { mutator = m; action = a }) → allows c a ≡ true
op_again c m a h =
    true_both (names_roots (root_counts_of c) a) (has_action c.format a) (are_again (root_counts_of c) (action_roots a) h.at.roots)
    (row_again c.format (action_row (action_verb a)).third h.known)

pub guarded : {A : Type 0} (b : Bool) (x y : A) → cond b (Some x) None ≡ Some y → (b ≡ true) × (x ≡ y)
guarded true x y e = (refl, some_is x y e)
guarded false x y e = absurd cc

-- an action of a mutator, and its words
pub record IsAllowed (c : Config) (m : ℕ) (words : List (List ℕ)) (a : Action) : Type 0 where
  pub spelled : words ≡ action_words a
  pub owned : IsOp c (record { mutator = m; action = a })
  pub fits : Fits a

pub allowed_is : (c : Config) (m : ℕ) (ws : List (List ℕ)) (a : Action) → m < c.mutators → allowed_of c ws ≡ Some a → IsAllowed c m ws a
unfolding allowed_of
allowed_is c m ws a few e =
    let read = option_bind (action_of ws) (λ x. cond (allows c x) (Some x) None) a e in
    let is = action_is ws read.0 read.1 in
    let test = guarded (allows c read.0) read.0 a read.2 in
    subst (IsAllowed c m ws) test.1 (record { spelled = is.0; owned = op_is c m read.0 few test.0; fits = is.1 })

pub allowed_again : (c : Config) (o : Op) → IsOp c o → Fits o.action → allowed_of c (action_words o.action) ≡ Some o.action
unfolding allowed_of
allowed_again c o h fits = rw (action_again o.action fits, op_again c o.mutator o.action h) refl
