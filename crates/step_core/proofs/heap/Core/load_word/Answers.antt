use Rattle.std.proofs.Common.{◌<◌, ◌∙◌, Option, ℕ, Some, None, ap, refl, slice_get, subst, sym}
use Rattle.heap_words.specs.declared.config.Config.{Config}
use Rattle.heap_steps.specs.Roots.{IsRegister}
use Rattle.heap_steps.specs.declared.step.Reply.TheVariants as replies
use Rattle.graph_runs.specs.State.{root_counts_of}
use Rattle.regions.specs.Table.{pointers_at}
use Rattle.step_core.specs.Stands.{CoreState, name_in}
use Rattle.step_core.proofs.heap.Core.load_word.Goals as goal

pub load_nil-requires-clause-there : goal.load_nil-requires-clause-there
load_nil-requires-clause-there c =
    ap (λ (d : CoreState). slice_get (pointers_at d.table c.args.at) c.args.field) (sym c.self.view_is) ∙ c.get_ptr.ensures
    ∙ ap (λ (w : Option ℕ). Some w) c.in-None.is

pub load_at-requires-clause-there : goal.load_at-requires-clause-there
load_at-requires-clause-there c =
    ap (λ (d : CoreState). slice_get (pointers_at d.table c.args.at) c.args.field) (sym c.self.view_is) ∙ c.get_ptr.ensures
    ∙ ap (λ (w : Option ℕ). Some w) c.in-Some.is

pub read_loaded-requires-clause-mutator : goal.read_loaded-requires-clause-mutator
read_loaded-requires-clause-mutator c =
    subst (λ (config : Config). c.args.mutator < config.mutators) (sym c.load_at.ensures.config) c.requires.mutator

pub read_loaded-requires-clause-to : goal.read_loaded-requires-clause-to
read_loaded-requires-clause-to c =
    subst (λ (config : Config). IsRegister (root_counts_of config) c.args.to) (sym c.load_at.ensures.config) c.requires.to

pub read_loaded-requires-clause-held : goal.read_loaded-requires-clause-held
read_loaded-requires-clause-held c = c.load_at.ensures.held

pub returns-in-None : goal.returns-in-None
returns-in-None c = record { loaded = replies.Named None; loads = c.load_nil.ensures.takes; reads = refl }

pub returns-in-Some : goal.returns-in-Some
returns-in-Some c = record {
  loaded = replies.Named (name_in c.load_at.new.self.table (Some c.in-Some.target));
  loads = c.load_at.ensures.takes;
  reads = c.read_loaded.ensures;
}
