use Rattle.std.proofs.Common.{◌≡◌, ℕ, List, arith, refl, subst}
use Rattle.std.proofs.KnownBytes.{Keeps-refl}
use Rattle.g1heap_run.specs.Alone.{AskForRun, RunsScript}
use Rattle.g1heap_run.proofs.program.do_words.Goals as goal

-- words ask for one path
one_path : (words : List (List ℕ)) (a b : List ℕ) → AskForRun words a → AskForRun words b → a ≡ b
one_path words a b first second =
    let one = first.0.1 in
    let other = second.0.1 in
    cc

pub returns-in-Some-clause-asked : goal.returns-in-Some-clause-asked
returns-in-Some-clause-asked g c path asks =
    subst (λ (p : List ℕ). RunsScript p c.args.input.now c.run_at.new.input c.args.out.now c.run_at.new.out c.args.err.now
    c.run_at.new.err c.run_at.result) (one_path _ _ _ c.in-Some.ensures.some asks) c.run_at.ensures

pub returns-in-Some-clause-other : goal.returns-in-Some-clause-other
returns-in-Some-clause-other g c = λ not_asked. absurd (not_asked c.in-Some.path.now c.in-Some.ensures.some)

pub returns-in-None-clause-asked : goal.returns-in-None-clause-asked
returns-in-None-clause-asked g c = λ path asks. absurd (c.in-None.ensures.none path asks)

pub returns-in-None-clause-other : goal.returns-in-None-clause-other
returns-in-None-clause-other g c = λ not_asked. record {
  two = c.refuse_words.ensures.status;
  unread = refl;
  stays = (Keeps-refl c.args.out.now.held, refl);
  tells = c.refuse_words.ensures.tells;
}

pub returns-in-None-clause-most : goal.returns-in-None-clause-most
returns-in-None-clause-most g c = let two = c.refuse_words.ensures.status in omega arith
