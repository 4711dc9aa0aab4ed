-- A record that is judged as it is written, event by event.
use Rattle.std.proofs.Common.{◌≡◌, ◌+◌, ◌-◌, ◌∷◌, ◌++◌, ◌∙◌}
use Rattle.std.proofs.Common.{ℕ, List, [], length, take, slice_get, Some, None, Ok, Err, refl, sym, ap, append_assoc, arith, inl, inr}
use Rattle.std.proofs.Common.{subst}
use Rattle.std.proofs.KnownBytes.{Consumes-trans}
use Rattle.std.proofs.lemmas.List.{length_push, take_at}
use Rattle.heap_words.specs.declared.config.Config.{Config}
use Rattle.heap_words.specs.Configs.{Suits}
use Rattle.heap_steps.specs.Actors.{EventList}
use Rattle.graph_runs.specs.State.{first_state}
use Rattle.graph_runs.specs.Run.{IsRun}
use Rattle.object_graph.specs.Reasons.{Judging, HasJudged, JudgesNext, Refuses}
use Rattle.object_graph.specs.declared.given.Given.{Given}
use Rattle.object_graph.specs.declared.judge.Finding.TheVariants.{Allowed, Refused}
use Rattle.heap_steps.specs.declared.step.Event.{Event}
use Rattle.script_text.specs.Awaited.{whole_lines, IsNext, IsWrong}
use Rattle.script_text.specs.Events.{event_line_of, record_of}
use Rattle.script_text.specs.Lines.{heap_line_of}
use Rattle.script_text.specs.Watched.{Reader, Gives, FailsToGive}
use Rattle.script_text.specs.declared.read.awaited.NextFault.TheVariants as nexts
use Rattle.script_text.specs.declared.fault.Kind.{Kind}
use Rattle.script_text.specs.declared.fault.Kind.TheVariants as kinds
use Rattle.script_text.specs.declared.fault.ReadFault.{ReadFault}
use Rattle.script_text.specs.declared.fault.ReadFault.TheVariants as reads
use Rattle.script_text.proofs.BothWays.Extended.{head_taken, head_wrong, event_taken, event_wrong, whole_of_record, whole_of_none}
use Rattle.jobs.specs.Explanations.{IsExplained}
use Rattle.jobs.proofs.OneByOne.{stands_behind}
use Rattle.jobs.specs.Followed.{IsWrongAlready, FindsBy}
use Rattle.job_ends.specs.declared.faults.JobFault.TheVariants as faults
use Rattle.job_ends.specs.declared.faults.JudgeFault.TheVariants as judges

abbrev made : Config → List Event → EventList
made c es = record { config = c; events = es }

-- a reader that gave some bytes, and then more
pub gives_more : (given mid left : Reader) (front more : List ℕ) → Gives given mid front → Gives mid left more
    → Gives given left (front ++ more)
gives_more given mid left front more a b = (Consumes-trans given.left mid.left left.left front more a.0 b.0, b.1 ∙ a.1)

pub fails_behind : (given mid left : Reader) (front : List ℕ) (f : ReadFault) → Gives given mid front → FailsToGive f mid left
    → FailsToGive f given left
fails_behind given mid left front reads.CannotRead a b =
    ((front ++ b.0.0, Consumes-trans given.left mid.left left.left front b.0.0 a.0 b.0.1), b.1)
fails_behind given mid left front reads.NoMemory a b = (front ++ b.0, gives_more given mid left front b.0 a b.1)

-- the lines of a record with these events were taken, and what waits is after them
abbrev pub HasRead : Config → List Event → Reader → Reader → List ℕ → Type 0
HasRead c es given left waits = (lines : List ℕ) × Gives given left (lines ++ waits) × (record_of lines ≡ Ok (made c es))

-- Events were judged one after another: wherever the heap line was read before, the lines of a record with these events were since.
pub record IsFollowing (c : Config) (j : Judging) (start : Reader) (first : List ℕ) (now : Reader) (waits : List ℕ) (n : ℕ) : Type 0 where
  pub es : List Event
  pub count : n ≡ length es + 1
  pub config : j.config ≡ c
  pub judged : HasJudged j es
  pub read : (given : Reader) (head : List ℕ) → Gives given start (head ++ first) → record_of head ≡ Ok (made c [])
      → HasRead c es given now waits

pub starts : (c : Config) (j : Judging) (start : Reader) (first : List ℕ) → j.config ≡ c → HasJudged j []
    → IsFollowing c j start first start first 1
starts c j start first same taken = record {
  es = [];
  count = refl;
  config = same;
  judged = taken;
  read = λ given head gives read. (head, gives, read);
}

-- one more line was taken
read_next : (c : Config) (es : List Event) (given now next : Reader) (waits left : List ℕ) (n : ℕ) (e : Event) → n ≡ length es + 1
    → HasRead c es given now waits → IsNext (event_line_of n c) waits left now next (Ok (Some e)) → HasRead c (es ++ e ∷ []) given next left
read_next c es given now next waits left n e count read taken =
    let line : event_line_of (length es + 1) c taken.1 ≡ Ok e = subst (λ (k : ℕ). event_line_of k c taken.1 ≡ Ok e) count taken.4 in
    let more = event_taken read.0 (waits ++ taken.0) taken.1 left (made c es) e read.2 taken.3 line in
    let all : (read.0 ++ waits) ++ taken.0 ≡ more.0 ++ left = append_assoc read.0 waits taken.0 ∙ more.1 in
    (more.0, subst (λ (t : List ℕ). Gives given next t) all (gives_more given now next (read.0 ++ waits) taken.0 read.1 taken.2), more.2)

pub goes_on : (c : Config) (j k : Judging) (start : Reader) (first : List ℕ) (now next : Reader) (waits left : List ℕ) (n : ℕ) (e : Event)
    → IsFollowing c j start first now waits n → IsNext (event_line_of n c) waits left now next (Ok (Some e)) →
    k.config ≡ j.config → ((es : List Event) → HasJudged j es → JudgesNext j k es e None) → IsFollowing c k start first next left (n + 1)
goes_on c j k start first now next waits left n e f taken same told = record {
  es = f.es ++ e ∷ [];
  count = (let count = f.count in let more = length_push f.es e in omega arith);
  config = same ∙ f.config;
  judged = told f.es f.judged;
  read = λ given head gives read. read_next c f.es given now next waits left n e f.count (f.read given head gives read) taken;
}

-- the input ended
pub found_yes : (c : Config) (j : Judging) (start : Reader) (first : List ℕ) (now next : Reader) (waits left : List ℕ) (n : ℕ) → Suits c
    → IsFollowing c j start first now waits n → IsNext {A = Event} (event_line_of n c) waits left now next (Ok None) →
    (given : Reader) (head : List ℕ) → Gives given start (head ++ first) → record_of head ≡ Ok (made c [])
    → FindsBy given next (Ok (Allowed (n - 1)))
found_yes c j start first now next waits left n suits f ended given head gives read =
    let so_far = f.read given head gives read in
    let text = so_far.0 ++ (waits ++ ended.0) in
    let all : (so_far.0 ++ waits) ++ ended.0 ≡ text = append_assoc so_far.0 waits ended.0 in
    let whole : whole_lines text ≡ so_far.0 = whole_of_record so_far.0 (waits ++ ended.0) (made c f.es) so_far.2 ended.3 in
    let count = f.count in
    let run = f.judged.1 in (
      text,
      subst (λ (t : List ℕ). Gives given next t) all (gives_more given now next (so_far.0 ++ waits) ended.0 so_far.1 ended.1),
      (
        ended.2,
        record {
          history = made c f.es;
          read = ap record_of whole ∙ so_far.2;
          suits = suits;
          finds = (omega arith, f.judged.0, subst (λ (d : Config). IsRun (first_state d) f.es f.judged.0) f.config run);
        },
      ),
    )

-- the event may not follow those before it
pub found_no : (c : Config) (j k : Judging) (start : Reader) (first : List ℕ) (now next : Reader) (waits left : List ℕ) (n : ℕ) (e : Event)
    (told : Given) → Suits c → IsFollowing c j start first now waits n → IsNext (event_line_of n c) waits left now next (Ok (Some e)) →
    ((es : List Event) → HasJudged j es → JudgesNext j k es e (Some told)) →
    (given : Reader) (head : List ℕ) → Gives given start (head ++ first) → record_of head ≡ Ok (made c [])
    → FindsBy given next (Ok (Refused n e told))
found_no c j k start first now next waits left n e told suits f taken refused given head gives read =
    let so_far = read_next c f.es given now next waits left n e f.count (f.read given head gives read) taken in
    let count = f.count in
    let last : n - 1 ≡ length f.es = omega arith in
    let before : take (n - 1) (f.es ++ e ∷ []) ≡ f.es = take_at f.es (e ∷ []) (n - 1) (sym last) in
    let why : Refuses (first_state c) f.es e told =
    subst (λ (d : Config). Refuses (first_state d) f.es e told) f.config (refused f.es f.judged) in
    let found : IsExplained so_far.0 (Refused n e told) = record {
      history = made c (f.es ++ e ∷ []);
      read = so_far.2;
      suits = suits;
      finds = (
        omega arith,
        ap (slice_get (f.es ++ e ∷ [])) last
            ∙ stands_behind f.es [] e,
        subst (λ (xs : List Event). Refuses (first_state c) xs e told) (sym before) why,
      );
    } in
    (so_far.0 ++ left, so_far.1, (so_far.0, (left, refl), (found, length_push f.es e ∙ sym count)))

-- the line has a fault
pub found_wrong : (c : Config) (j : Judging) (start : Reader) (first : List ℕ) (now next : Reader) (waits left : List ℕ) (n : ℕ)
    (kind : Kind) → IsFollowing c j start first now waits n
    → IsNext {A = Event} (event_line_of n c) waits left now next (Err (nexts.Line kind)) →
    (given : Reader) (head : List ℕ) → Gives given start (head ++ first) → record_of head ≡ Ok (made c [])
    → FindsBy given next (Err (faults.Line (record { line = n + 1; kind = kind })))
found_wrong c j start first now next waits left n kind f wrong given head gives read =
    let so_far = f.read given head gives read in
    let text = so_far.0 ++ left in
    let all : (so_far.0 ++ waits) ++ wrong.0 ≡ text =
    append_assoc so_far.0 waits wrong.0 ∙ ap (λ (t : List ℕ). so_far.0 ++ t) (sym wrong.2) in (
      text,
      subst (λ (t : List ℕ). Gives given next t) all (gives_more given now next (so_far.0 ++ waits) wrong.0 so_far.1 wrong.1),
      inl (subst (λ (m : ℕ). IsWrongAlready (record { line = m + 1; kind = kind }) text) (sym f.count)
          (λ more. event_wrong so_far.0 left more (made c f.es) kind so_far.2
          (subst (λ (m : ℕ). IsWrong (event_line_of m c) left kind) f.count wrong.3))),
    )

-- reading failed
pub found_unread : (c : Config) (j : Judging) (start : Reader) (first : List ℕ) (now next : Reader) (waits : List ℕ) (n : ℕ)
    (fault : ReadFault) → IsFollowing c j start first now waits n → FailsToGive fault now next →
    (given : Reader) (head : List ℕ) → Gives given start (head ++ first) → record_of head ≡ Ok (made c [])
    → FindsBy given next (Err (faults.Read fault))
found_unread c j start first now next waits n fault f fails given head gives read =
    let so_far = f.read given head gives read in
    fails_behind given now next (so_far.0 ++ waits) fault so_far.1 fails

-- memory was refused for the event that was taken
pub found_short : (c : Config) (j : Judging) (start : Reader) (first : List ℕ) (now next : Reader) (waits left : List ℕ) (n : ℕ)
    (e : Event) → Suits c → IsFollowing c j start first now waits n → IsNext (event_line_of n c) waits left now next (Ok (Some e)) →
    (given : Reader) (head : List ℕ) → Gives given start (head ++ first) → record_of head ≡ Ok (made c [])
    → FindsBy given next (Err (faults.Judge judges.NoMemory))
found_short c j start first now next waits left n e suits f taken given head gives read =
    let so_far = read_next c f.es given now next waits left n e f.count (f.read given head gives read) taken in
    (so_far.0 ++ left, so_far.1, (so_far.0, (left, refl), (made c (f.es ++ e ∷ []), so_far.2, suits)))

-- the heap line was taken
pub head_read : (given left : Reader) (waits : List ℕ) (c : Config) → IsNext heap_line_of [] waits given left (Ok (Some c))
    → HasRead c [] given left waits
head_read given left waits c taken =
    let head = head_taken taken.0 taken.1 waits c taken.3 taken.4 in
    (head.0, subst (λ (t : List ℕ). Gives given left t) head.1 taken.2, head.2)

-- no heap line came
pub head_missing : (given left : Reader) (waits : List ℕ) → IsNext {A = Config} heap_line_of [] waits given left (Ok None)
    → FindsBy given left (Err (faults.Line (record { line = 1; kind = kinds.BadHeap })))
head_missing given left waits ended = (ended.0, ended.1, inr (ended.2, whole_of_none ended.0 ended.3))

-- the heap line has a fault
pub head_fails : (given left : Reader) (waits : List ℕ) (kind : Kind)
    → IsNext {A = Config} heap_line_of [] waits given left (Err (nexts.Line kind))
    → FindsBy given left (Err (faults.Line (record { line = 1; kind = kind })))
head_fails given left waits kind wrong = (
  waits,
  subst (λ (t : List ℕ). Gives given left t) (sym wrong.2) wrong.1,
  inl (λ more. head_wrong waits more kind wrong.3),
)
