use Rattle.command_line.proofs.Explained.{check_explained, draw_explained, run_explained, view_explained}
use Rattle.command_line.proofs.Options.{at, census, every, heapsnapshot, names, no_names, no_types, object, redraw, types, way}
use Rattle.command_line.proofs.Paths.{check, draw, follow, run, sim, threads, view}
use Rattle.command_line.proofs.words_law.Goals as goal

pub returns : goal.returns
returns c = record {
  run = run;
  sim = sim;
  threads = threads;
  check = check;
  follow = follow;
  view = view;
  draw = draw;
  every = every;
  redraw = redraw;
  names = names;
  no_names = no_names;
  at = at;
  object = object;
  way = way;
  census = census;
  heapsnapshot = heapsnapshot;
  types = types;
  no_types = no_types;
  run_explained = run_explained;
  check_explained = check_explained;
  view_explained = view_explained;
  draw_explained = draw_explained;
}
