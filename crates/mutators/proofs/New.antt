-- A new journal keeps what every journal keeps.
use Rattle.std.proofs.Common.{◌≡◌, ◌+◌, ◌≤◌, ◌∷◌, ◌∙◌, ℕ, Bool, true, false, cond, List, [], length, map, get_or, refl, sym, ap, subst}
use Rattle.std.proofs.Common.{arith, suc, All, slice_index}
use Rattle.std.proofs.lemmas.Bool.{eqb-true}
use Rattle.std.proofs.lemmas.List.{length-map}
use Rattle.std.proofs.lemmas.List.Elements.{All-cons}
use Rattle.heap_words.specs.declared.config.Config.{Config}
use Rattle.heap_words.specs.Configs.{Suits}
use Rattle.heap_words.proofs.Limits.{few_mutators}
use Rattle.heap_steps.specs.Actors.{IsStep}
use Rattle.graph_runs.specs.State.{first_state}
use Rattle.step_core.specs.Steps.{Actor, Event, Step}
use Rattle.heap_steps.specs.declared.step.Actor.TheVariants.{Mutator, Collector, Marker, Refiner}
use Rattle.step_core.specs.Stands.{CoreState, Stands, IsCore}
use Rattle.step_core.specs.Fresh.{fresh_core}
use Rattle.step_core.specs.Passages.{actor_of, RunsTo}
use Rattle.mutators.specs.Scripts.{same_actor, scripted, lines_of}
use Rattle.mutators.specs.Journals.{Keeps, IsScriptLine}
use Rattle.step_core.proofs.Cores.Running.{runs_none}

same_is : (a b : Actor) → same_actor a b ≡ true → b ≡ a
same_is (Mutator i) (Mutator j) e = ap (λ (n : ℕ). Mutator n) (sym (eqb-true i j e))
same_is Collector Collector e = refl
same_is (Marker i) (Marker j) e = ap (λ (n : ℕ). Marker n) (sym (eqb-true i j e))
same_is (Refiner i) (Refiner j) e = ap (λ (n : ℕ). Refiner n) (sym (eqb-true i j e))
same_is _ _ e = absurd (cc)

abbrev IsLineOf : Config → Actor → Step → Type 0
IsLineOf config a s = IsStep config s × (actor_of s ≡ a)

lines_are : (config : Config) (a : Actor) (ss : List Step) → All (IsStep config) ss → All (IsLineOf config a) (lines_of a ss)
lines_are config a [] yet = λ k d below. absurd (omega arith)
lines_are config a (s ∷ ss) yet =
    both (same_actor a (actor_of s)) refl (lines_are config a ss (λ k d below. yet (suc k) d (omega arith)))
  where
    both : (b : Bool) → same_actor a (actor_of s) ≡ b → All (IsLineOf config a) (lines_of a ss)
        → All (IsLineOf config a) (cond b (s ∷ lines_of a ss) (lines_of a ss))
    both true e rest = All-cons (IsLineOf config a) s (lines_of a ss) (yet 0 s (omega arith), same_is a (actor_of s) e) rest
    both false e rest = rest

keeps_none : {V : Type 0} (f : V → List Step) (xs : List V) (config : Config) (steps : List Step) (c : CoreState) (places : List ℕ)
    → c.config ≡ config → Suits config → c ≡ fresh_core config → IsCore c → Stands (first_state config) c → All (IsStep config) steps
    → length xs ≡ config.mutators + 1
    → ((k : ℕ) → k ≤ config.mutators → get_or (map f xs) k [] ≡ lines_of (scripted config.mutators k) steps)
    → length places ≡ config.mutators + 1 → ((k : ℕ) → slice_index places k ≡ 0)
    → Keeps (record { core = c; scripts = map f xs; places = places; events = [] })
keeps_none {V} f xs config steps c places same suits fresh core stands yet rows each spots zeros =
    let m : c.config.mutators ≡ config.mutators = ap (λ (n : Config). n.mutators) same in
    record {
      runs = subst (λ (n : Config). RunsTo n [] c) (sym same) (runs_none config c fresh core stands);
      begins = λ k below. (rw (zeros k) refl, omega (arith, zeros k));
      own = λ k d below. absurd (omega arith);
      each_script = length-map xs f ∙ rows ∙ ap (λ n. n + 1) (sym m);
      each_place = spots ∙ ap (λ n. n + 1) (sym m);
      lines = subst (λ (n : Config). (k : ℕ) → k ≤ n.mutators → All (IsScriptLine n k) (get_or (map f xs) k [])) (sym same)
          (λ k below. subst (All (IsScriptLine config k)) (sym (each k below)) (lines_are config (scripted config.mutators k) steps yet));
      few = let few = few_mutators config suits in rw m few;
    }

pub keeps_new : {V : Type 0} (f : V → List Step) (xs : List V) (config : Config) (steps : List Step) (c : CoreState)
    (places : List ℕ) (events : List Event) → events ≡ [] → c.config ≡ config → Suits config → c ≡ fresh_core config → IsCore c
    → Stands (first_state config) c → All (IsStep config) steps → length xs ≡ config.mutators + 1
    → ((k : ℕ) → k ≤ config.mutators → get_or (map f xs) k [] ≡ lines_of (scripted config.mutators k) steps)
    → length places ≡ config.mutators + 1 → ((k : ℕ) → slice_index places k ≡ 0)
    → Keeps (record { core = c; scripts = map f xs; places = places; events = events })
keeps_new {V} f xs config steps c places events none same suits fresh core stands yet rows each spots zeros =
    subst (λ (es : List Event). Keeps (record { core = c; scripts = map f xs; places = places; events = es })) (sym none)
    (keeps_none f xs config steps c places same suits fresh core stands yet rows each spots zeros)
