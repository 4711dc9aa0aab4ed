-- A version as a number.
use Rattle.std.specs.Prelude.{ℕ, ◌+◌, ◌*◌}

-- its three numbers as the digits of one
abbrev pub version_number : ℕ → ℕ → ℕ → ℕ
version_number major minor patch = major * 65536 + minor * 256 + patch
