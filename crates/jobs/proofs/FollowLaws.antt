-- What following tells is the verdict on the text without its cut last line.
use Rattle.std.proofs.Common.{◌≡◌, ◌-◌, ◌<◌, ◌↔◌, ◌∷◌, ◌++◌, ◌∙◌}
use Rattle.std.proofs.Common.{ℕ, zero, suc, Bool, true, false, List, [], length, take, slice_get, Some, Result, Ok, refl, sym, ap}
use Rattle.std.proofs.Common.{append_assoc, arith, subst}
use Rattle.std.specs.Io.KnownBytes.{IsAtEnd}
use Rattle.std.proofs.lemmas.List.{take-append-le, length-append}
use Rattle.heap_steps.specs.Actors.{EventList}
use Rattle.graph_runs.specs.State.{State, first_state}
use Rattle.graph_runs.specs.Run.{IsRun, BreaksAt}
use Rattle.object_graph.specs.Reasons.{verdict_of}
use Rattle.object_graph.proofs.ReasonLaws.{found_judged}
use Rattle.object_graph.specs.declared.given.Given.{Given}
use Rattle.object_graph.specs.declared.judge.Finding.{Finding}
use Rattle.object_graph.specs.declared.judge.Finding.TheVariants.{Allowed, Refused}
use Rattle.object_graph.specs.declared.judge.Verdict.{Verdict}
use Rattle.object_graph.specs.declared.judge.Verdict.TheVariants.{Yes, No}
use Rattle.heap_steps.specs.declared.step.Event.{Event}
use Rattle.script_text.specs.Awaited.{whole_lines}
use Rattle.script_text.specs.Events.{record_of}
use Rattle.script_text.specs.Watched.{Reader, Writer, TookBytes}
use Rattle.script_text.proofs.BothWays.Extended.{whole_behind, reads_behind}
use Rattle.jobs.specs.Verdicts.{verdict_line, IsJudged, IsTextOfRun, TellsVerdict}
use Rattle.jobs.specs.Explanations.{IsExplained, judged_by}
use Rattle.jobs.specs.Followed.{BreaksAlready, IsFinding, told_text, EndsFollowed, FollowedYes, FollowedNo}
use Rattle.job_ends.specs.declared.faults.JobFault.{JobFault}
use Rattle.jobs.proofs.Told.{YesLaw, NoLaw}

-- a yes has no more reason than its events
yes_explained : (lines : List ℕ) (n : ℕ) → IsJudged lines (Yes n) → IsExplained lines (Allowed n)
yes_explained lines n j = record { history = j.history; read = j.read; suits = j.suits; finds = j.judged }

pub explained_judged : (lines : List ℕ) (found : Finding) → IsExplained lines found → IsJudged lines (verdict_of found)
explained_judged lines found e =
    let judged = found_judged (first_state e.history.config) e.history.events found e.finds in
    record { history = e.history; read = e.read; suits = e.suits; judged = judged }

pub followed_yes : YesLaw → (text : List ℕ) (left : Reader) (n : ℕ)
    → IsFinding text left (Ok (Allowed n)) ↔ (IsAtEnd left.left × IsTextOfRun (whole_lines text) n)
followed_yes law text left n = (
  λ found. (found.0, (law (whole_lines text) n).0 (explained_judged (whole_lines text) (Allowed n) found.1)),
  λ run. (run.0, yes_explained (whole_lines text) n ((law (whole_lines text) n).1 run.1)),
)

-- what is in events is in them with more after them
stands : (es more : List Event) (k : ℕ) (e : Event) → k < length es → slice_get (es ++ more) k ≡ Some e → slice_get es k ≡ Some e
stands [] more k e lt is = absurd (omega arith)
stands (x ∷ es) more zero e lt is = is
stands (x ∷ es) more (suc k) e lt is = stands es more k e (omega arith) is

-- events that break do so with more after them
breaks_on : (first : State) (es more : List Event) (n : ℕ) → BreaksAt first es n → BreaksAt first (es ++ more) n
breaks_on first es more n b =
    let within = b.within in
    let positive = b.positive in
    let same : take (n - 1) (es ++ more) ≡ take (n - 1) es = take-append-le (n - 1) es more (omega arith) in
    record {
      positive = b.positive;
      within = omega (arith, length-append es more);
      before = b.before;
      run = subst (λ (xs : List Event). IsRun first xs b.before) (sym same) b.run;
      stops = λ e is. b.stops e (stands es more (n - 1) e (omega arith) is);
    }

broken_on : (q r : EventList) (more : List Event) (n : ℕ) → q ≡ record r { events = r.events ++ more }
    → BreaksAt (first_state r.config) r.events n → BreaksAt (first_state q.config) q.events n
broken_on q r more n is b = subst (λ (p : EventList). BreaksAt (first_state p.config) p.events n) (sym is)
    (breaks_on (first_state r.config) r.events more n b)

-- whatever comes, no other verdict can be
pub followed_no : ((input : List ℕ) (a b : Verdict) → IsJudged input a → IsJudged input b → a ≡ b)
    → (text : List ℕ) (n : ℕ) (e : Event) (given : Given) → BreaksAlready text n (Refused n e given) → (more : List ℕ) (v : Verdict)
    → IsJudged (whole_lines (text ++ more)) v → v ≡ No n
followed_no once text n e given found more v j =
    let lines = found.0 in
    let is = found.2.0 in
    let cut : text ++ more ≡ lines ++ (found.1.0 ++ more) = ap (λ (t : List ℕ). t ++ more) found.1.1 ∙ append_assoc lines found.1.0 more in
    let whole : whole_lines (text ++ more) ≡ lines ++ whole_lines (found.1.0 ++ more) =
    ap whole_lines cut ∙ whole_behind lines (found.1.0 ++ more) is.history is.read in
    let events = reads_behind lines (whole_lines (found.1.0 ++ more)) is.history j.history is.read (ap record_of (sym whole) ∙ j.read) in
    let broken : BreaksAt (first_state is.history.config) is.history.events n =
    found_judged (first_state is.history.config) is.history.events (Refused n e given) is.finds in
    let other : IsJudged (whole_lines (text ++ more)) (No n) =
    record {
      history = j.history;
      read = j.read;
      suits = j.suits;
      judged = broken_on j.history is.history events.0 n events.1 broken;
    } in
    once (whole_lines (text ++ more)) v (No n) j other

-- a yes is told without a reason
told_yes_text : (explained : Bool) (n : ℕ) → told_text explained (Allowed n) ≡ verdict_line (Yes n)
told_yes_text false n = refl
told_yes_text true n = refl

-- the status says which
pub yes_by : YesLaw → (outcome : Result Finding JobFault) (explained : Bool) (given left : Reader) (old new err told : Writer)
    → EndsFollowed explained given left old new outcome → TellsVerdict err told (judged_by outcome) 0
    → FollowedYes given left old new err told
yes_by law (Ok (Allowed n)) explained given left old new err told f t =
    let run = (followed_yes law f.0.0 left n).0 f.0.2 in
    (f.0.0, n, (f.0.1, run.0), run.1, subst (λ (l : List ℕ). TookBytes old new l) (told_yes_text explained n) f.1, t.1)
yes_by law _ explained given left old new err told f t = absurd (let bad = t.0 in omega arith)

pub no_by : NoLaw → (outcome : Result Finding JobFault) (explained : Bool) (given left : Reader) (old new err told : Writer)
    → EndsFollowed explained given left old new outcome → TellsVerdict err told (judged_by outcome) 3
    → FollowedNo explained given left old new err told
no_by law (Ok (Refused n e g)) explained given left old new err told f t =
    let breaks = f.0.2 in
    let judged = explained_judged breaks.0 (Refused n e g) breaks.2.0 in
    (f.0.0, breaks.0, Refused n e g, n, f.0.1, breaks.1, (law breaks.0 n).0 judged, refl, f.1, t.1)
no_by law _ explained given left old new err told f t = absurd (let bad = t.0 in omega arith)
