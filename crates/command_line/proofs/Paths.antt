-- What the plainest words ask for.
use Rattle.std.proofs.Common.{◌≡◌, ◌∷◌, [], None, true, false, codes, refl}
use Rattle.clap.proofs.OnLiterals.{clap_on_literals}
use Rattle.clap.specs.Words.{Text}
use Rattle.command_line.specs.Asked.{Asks, is_path}
use Rattle.command_line.specs.declared.Order.TheVariants.{Concurrent, Drawn, File}
use Rattle.command_line.specs.declared.Task.TheVariants.{Check, Draw, Script, View}
use Rattle.command_line.specs.declared.Viewed.TheVariants.{Regions}
use Rattle.command_line.proofs.Levels.{asks, to_check, to_draw, to_run, to_sim, to_threads, to_view}

pub run : (program path : Text) → is_path path ≡ true → Asks (program ∷ codes "run" ∷ path ∷ []) (path, Script File, false)
unfolding clap_on_literals
run program path h = asks _ _ to_run program path [] _ h refl refl

pub check : (program path : Text) → is_path path ≡ true → Asks (program ∷ codes "check" ∷ path ∷ []) (path, Check false, false)
unfolding clap_on_literals
check program path h = asks _ _ to_check program path [] _ h refl refl

pub follow : (program path : Text) → is_path path ≡ true
    → Asks (program ∷ codes "check" ∷ path ∷ codes "--follow" ∷ []) (path, Check true, false)
unfolding clap_on_literals
follow program path h = asks _ _ to_check program path (codes "--follow" ∷ []) _ h refl refl

pub view : (program path : Text) → is_path path ≡ true
    → Asks (program ∷ codes "view" ∷ path ∷ []) (path, View false None (Regions None false), false)
unfolding clap_on_literals
view program path h = asks _ _ to_view program path [] _ h refl refl

pub sim : (program path : Text) → is_path path ≡ true
    → Asks (program ∷ codes "sim" ∷ path ∷ codes "--schedule" ∷ codes "7" ∷ []) (path, Script (Drawn 7 0 0), false)
unfolding clap_on_literals
sim program path h = asks _ _ to_sim program path (codes "--schedule" ∷ codes "7" ∷ []) _ h refl refl

pub threads : (program path : Text) → is_path path ≡ true
    → Asks (program ∷ codes "threads" ∷ path ∷ codes "--workers" ∷ codes "2" ∷ []) (path, Script (Concurrent 2 0 0), false)
unfolding clap_on_literals
threads program path h = asks _ _ to_threads program path (codes "--workers" ∷ codes "2" ∷ []) _ h refl refl

pub draw : (program path : Text) → is_path path ≡ true → Asks (program ∷ codes "draw" ∷ path ∷ []) (path, Draw 1 false, false)
unfolding clap_on_literals
draw program path h = asks _ _ to_draw program path [] _ h refl refl
