-- Marking can follow every pointer of a heap that shows a graph, while it keeps a snapshot.
use Rattle.std.proofs.Common.{List, [], Option, ℕ}
use Rattle.heap_model.specs.Graph.{Graph}
use Rattle.heap_model.specs.Clearing.{WillShow, CanBeFollowed}
use Rattle.heap_model.specs.Marking.{KeepsSnapshot}
use Rattle.heap_model.proofs.Shown.{followed}
use Rattle.regions.specs.Table.{Table}
use Rattle.marker.specs.Views.{heap_of, marking_of}
use Rattle.marker.specs.Stands.{CanFollow}
use Rattle.marker.specs.declared.marker.Marker.{Marker}

-- without roots too
pub unrooted : (t : Table) (roots : List (Option ℕ)) (m : Marker) → CanBeFollowed (heap_of t roots m) → CanBeFollowed (heap_of t [] m)
unrooted t roots m all = record {
  root = λ j a e. absurd (let f = e in cc);
  pointer = all.pointer;
  held = λ a k b p.
      all.held a k b (record { object = p.object; at = p.at; slot = p.slot; is = p.is; key = p.key; key_at = p.key_at });
}

pub can_follow : (s g : Graph) (t : Table) (roots : List (Option ℕ)) (m : Marker) → WillShow g (heap_of t roots m)
    → KeepsSnapshot s (heap_of t roots m) (marking_of t m) → CanFollow t m
can_follow s g t roots m shows keeps =
    let all = followed g (heap_of t roots m) shows in
    record {
      closed = unrooted t roots m all;
      marked = λ a k. let o = keeps.marked a k in record { object = o.object; is = o.at };
      logged_kept = λ a l. let o = keeps.logged a l in record { object = o.object; is = o.at };
      logged_below = λ a l. (keeps.logged a l).old;
    }
