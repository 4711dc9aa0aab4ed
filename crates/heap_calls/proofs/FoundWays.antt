-- What a search for a way tells.
use Rattle.std.proofs.Common.{◌≡◌, ◌⊎◌, ℕ, true, false, List, Option, Some, None, refl, inl, inr}
use Rattle.graph_runs.specs.State.{State}
use Rattle.step_core.specs.Stands.{CoreState, Stands}
use Rattle.heap_walk.specs.Holders.{LinksShow}
use Rattle.heap_walk.specs.Paths.{TellsWay, WaysShow}
use Rattle.heap_walk.specs.declared.holders.Holder.{Holder}
use Rattle.heap_calls.specs.Ways.{FindsWay, way_answer}
use Rattle.heap_calls.specs.declared.answer.Answer.{Answer}

pub found_way : (name : ℕ) (before after : List Holder) (c : CoreState) (answer : Answer) (count : Option ℕ) → answer ≡ way_answer count
    → TellsWay c name before after count → ((s : State) → Stands s c → LinksShow s.graph c)
    → ((s : State) → Stands s c → WaysShow s.graph c)
    → FindsWay name true before after c answer ⊎ FindsWay name false before after c answer
found_way name before after c answer (Some k) is tells shows ways =
    inl (record { count = Some k; ended_is = refl; is = is; tells = tells; shows = shows; ways = ways })
found_way name before after c answer None is tells shows ways =
    inr (record { count = None; ended_is = refl; is = is; tells = tells; shows = shows; ways = ways })
