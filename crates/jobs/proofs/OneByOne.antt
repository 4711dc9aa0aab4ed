-- A record whose events are judged one by one.
use Rattle.std.proofs.Common.{◌≡◌, ◌+◌, ◌-◌, ◌∷◌, ◌++◌, ◌∙◌}
use Rattle.std.proofs.Common.{ℕ, List, [], length, take, slice_get, Some, None, refl, sym, ap, subst, append_assoc, arith}
use Rattle.std.proofs.lemmas.List.{append-nil, length_push, take_at}
use Rattle.heap_words.specs.declared.config.Config.{Config}
use Rattle.graph_runs.specs.State.{first_state}
use Rattle.graph_runs.specs.Run.{IsRun}
use Rattle.object_graph.specs.Reasons.{Judging, HasJudged, JudgesNext, Refuses, Finds}
use Rattle.object_graph.specs.declared.given.Given.{Given}
use Rattle.object_graph.specs.declared.judge.Finding.TheVariants.{Allowed, Refused}
use Rattle.heap_steps.specs.declared.step.Event.{Event}

-- of all events the judge took the first n, and the others are left
pub record IsWithin (c : Config) (all : List Event) (j : Judging) (left : List Event) (n : ℕ) : Type 0 where
  pub es : List Event
  pub parted : all ≡ es ++ left
  pub count : n ≡ length es
  pub config : j.config ≡ c
  pub judged : HasJudged j es

pub starts : (c : Config) (all : List Event) (j : Judging) → j.config ≡ c → HasJudged j [] → IsWithin c all j all 0
starts c all j same taken = record { es = []; parted = refl; count = refl; config = same; judged = taken }

-- the judge took one more
pub goes_on : (c : Config) (all : List Event) (j k : Judging) (left after : List Event) (e : Event) (n : ℕ) → IsWithin c all j left n
    → left ≡ e ∷ after → k.config ≡ j.config → ((es : List Event) → HasJudged j es → JudgesNext j k es e None)
    → IsWithin c all k after (n + 1)
goes_on c all j k left after e n w first same told = record {
  es = w.es ++ e ∷ [];
  parted = w.parted ∙ ap (λ (ds : List Event). w.es ++ ds) first ∙ sym (append_assoc w.es (e ∷ []) after);
  count = (let count = w.count in let more = length_push w.es e in omega arith);
  config = same ∙ w.config;
  judged = told w.es w.judged;
}

-- the event after some
pub stands_behind : (es after : List Event) (e : Event) → slice_get (es ++ e ∷ after) (length es) ≡ Some e
stands_behind [] after e = refl
stands_behind (d ∷ es) after e = stands_behind es after e

-- the judge refused the next one
pub found_no : (c : Config) (all : List Event) (j k : Judging) (left after : List Event) (e : Event) (n : ℕ) (given : Given)
    → IsWithin c all j left n → left ≡ e ∷ after → ((es : List Event) → HasJudged j es → JudgesNext j k es e (Some given))
    → Finds (first_state c) all (Refused (n + 1) e given)
found_no c all j k left after e n given w first told =
    let parted : all ≡ w.es ++ e ∷ after = w.parted ∙ ap (λ (ds : List Event). w.es ++ ds) first in
    let count = w.count in
    let last : n + 1 - 1 ≡ length w.es = omega arith in
    let before : take (n + 1 - 1) all ≡ w.es = ap (take (n + 1 - 1)) parted ∙ take_at w.es (e ∷ after) (n + 1 - 1) (sym last) in
    let why : Refuses (first_state c) w.es e given =
    subst (λ (d : Config). Refuses (first_state d) w.es e given) w.config (told w.es w.judged) in (
      omega arith,
      ap (slice_get all) last ∙ ap (λ (ds : List Event). slice_get ds (length w.es)) parted ∙ stands_behind w.es after e,
      subst (λ (ds : List Event). Refuses (first_state c) ds e given) (sym before) why,
    )

-- none is left
pub found_yes : (c : Config) (all : List Event) (j : Judging) (left : List Event) (n : ℕ) → IsWithin c all j left n → left ≡ []
    → Finds (first_state c) all (Allowed n)
found_yes c all j left n w none =
    let same : all ≡ w.es = w.parted ∙ ap (λ (ds : List Event). w.es ++ ds) none ∙ append-nil w.es in
    let run : IsRun (first_state c) w.es w.judged.0 = subst (λ (d : Config). IsRun (first_state d) w.es w.judged.0) w.config w.judged.1 in (
      w.count ∙ sym (ap length same),
      w.judged.0,
      subst (λ (ds : List Event). IsRun (first_state c) ds w.judged.0) (sym same) run,
    )
