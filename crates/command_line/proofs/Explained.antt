-- What words ask for whose faults are to be explained.
use Rattle.std.proofs.Common.{◌≡◌, ◌∷◌, [], None, false, true, codes, refl}
use Rattle.clap.proofs.OnLiterals.{clap_on_literals}
use Rattle.clap.specs.Words.{Text}
use Rattle.command_line.specs.Asked.{Asks, is_path}
use Rattle.command_line.specs.declared.Order.TheVariants.{File}
use Rattle.command_line.specs.declared.Task.TheVariants.{Check, Draw, Script, View}
use Rattle.command_line.specs.declared.Viewed.TheVariants.{Regions}
use Rattle.command_line.proofs.Levels.{asks, to_check, to_draw, to_run, to_view}

pub run_explained : (program path : Text) → is_path path ≡ true
    → Asks (program ∷ codes "run" ∷ path ∷ codes "--explain" ∷ []) (path, Script File, true)
unfolding clap_on_literals
run_explained program path h = asks _ _ to_run program path (codes "--explain" ∷ []) _ h refl refl

pub check_explained : (program path : Text) → is_path path ≡ true
    → Asks (program ∷ codes "check" ∷ path ∷ codes "--explain" ∷ []) (path, Check false, true)
unfolding clap_on_literals
check_explained program path h = asks _ _ to_check program path (codes "--explain" ∷ []) _ h refl refl

pub view_explained : (program path : Text) → is_path path ≡ true
    → Asks (program ∷ codes "view" ∷ path ∷ codes "--explain" ∷ []) (path, View false None (Regions None false), true)
unfolding clap_on_literals
view_explained program path h = asks _ _ to_view program path (codes "--explain" ∷ []) _ h refl refl

pub draw_explained : (program path : Text) → is_path path ≡ true
    → Asks (program ∷ codes "draw" ∷ path ∷ codes "--explain" ∷ []) (path, Draw 1 false, true)
unfolding clap_on_literals
draw_explained program path h = asks _ _ to_draw program path (codes "--explain" ∷ []) _ h refl refl
