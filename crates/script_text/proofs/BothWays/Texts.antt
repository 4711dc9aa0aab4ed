-- Scripts: what is read is spelled so, and what is spelled so is read.
use Rattle.std.proofs.Common.{◌≡◌, ℕ, ◌+◌, ◌≤◌, List, [], ◌∷◌, ◌++◌, Result, Ok, refl, sym, ap, subst, ◌∙◌}
use Rattle.std.specs.List.{All, flat_map}
use Rattle.std.proofs.lemmas.List.Concat.{flat_map-cons}
use Rattle.std.proofs.lemmas.List.Elements.{All-head, All-tail}
use Rattle.heap_words.specs.declared.config.Config.{Config}
use Rattle.heap_steps.specs.Actors.{StepList, IsStep}
use Rattle.heap_steps.specs.declared.step.Step.{Step}
use Rattle.script_text.specs.declared.fault.LineFault.{LineFault}
use Rattle.script_text.specs.Reading.{small}
use Rattle.script_text.specs.Fits.{StepFits, IsScript}
use Rattle.script_text.specs.Spelling.{step_words, heap_words, spaced, line, script_text}
use Rattle.script_text.specs.Lines.{◌>>=◌, pieces_of, steps_of, script_by, script_of}
use Rattle.script_text.proofs.Reading.ReadOn.{script_items}
use Rattle.script_text.proofs.BothWays.StepsRead.{result_bind, ok_is, step_line_is}
use Rattle.script_text.proofs.BothWays.StepsSpelled.{step_line_again, step_no_feed}
use Rattle.script_text.proofs.BothWays.ItemTexts.{lines, AllGood, all_are, AreSpelled, items_read, items_again}
use Rattle.script_text.proofs.BothWays.ItemTexts.{is_headed, headed_again}

abbrev Good : Config → ℕ → Step → Type 0
Good c n s = IsStep c s × StepFits s

abbrev text : ℕ → Step → List ℕ
text n s = spaced (step_words s)

are_spelled : (c : Config) → c.mutators ≤ small → AreSpelled (script_items c) (Good c) text
are_spelled c few = record {
  only = λ n t s e. let is = step_line_is c t s e in (is.spelled, (is.owned, is.fits));
  again = λ n s good. step_line_again c s few good.0 good.1;
  clear = λ n s good. step_no_feed c s few good.0 good.1;
}

all_good : (c : Config) (ss : List Step) (n : ℕ) → All (IsStep c) ss → All StepFits ss → AllGood (Good c) n ss
all_good c [] n owned fits = tt
all_good c (s ∷ ss) n owned fits = (
  (All-head (IsStep c) s ss owned, All-head StepFits s ss fits),
  all_good c ss (n + 1) (All-tail (IsStep c) s ss owned) (All-tail StepFits s ss fits),
)

same_lines : (ss : List Step) (n : ℕ) → flat_map (λ s. line (step_words s)) ss ≡ lines text n ss
same_lines [] n = refl
same_lines (s ∷ ss) n =
    flat_map-cons (λ t. line (step_words t)) s ss ∙ ap (λ (t : List ℕ). line (step_words s) ++ t) (same_lines ss (n + 1))

abbrev plan : Config → List Step → StepList
plan c ss = record { config = c; steps = ss }

pub text_read : (t : List ℕ) (p : StepList) → script_of t ≡ Ok p → (t ≡ script_text p) × IsScript p
text_read t p e =
    let is = is_headed script_by t p e in
    let c = is.config in
    let read = result_bind (steps_of 2 c (is.next ∷ is.others)) (λ ss. Ok (plan c ss)) p is.read in
    let all = items_read (script_items c) (Good c) text (are_spelled c is.fits.mutators) is.others 2 is.next read.0 read.1 in
    subst (λ (q : StepList). (t ≡ script_text q) × IsScript q) (ok_is (plan c read.0) p read.2) (
      is.spelled ∙ ap (λ (l : List ℕ). line (heap_words c) ++ l) (all.0 ∙ sym (same_lines read.0 2)),
      record {
        config = is.fits;
        owned = all_are (Good c) (IsStep c) read.0 2 (λ k s good. good.0) all.1;
        fits = all_are (Good c) StepFits read.0 2 (λ k s good. good.1) all.1;
      },
    )

pub text_again : (p : StepList) → IsScript p → script_of (script_text p) ≡ Ok p
text_again p script =
    let c = p.config in
    let again = items_again (script_items c) (Good c) text (are_spelled c script.config.mutators) p.steps 2
    (all_good c p.steps 2 script.owned script.fits) in
    headed_again script_by c (flat_map (λ s. line (step_words s)) p.steps) script.config
    ∙ ap (λ (r : Result (List Step) LineFault). r >>= λ ss. Ok (plan c ss))
    (ap (λ (t : List ℕ). steps_of 2 c (pieces_of t)) (same_lines p.steps 2) ∙ again)
