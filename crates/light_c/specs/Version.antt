-- The library's version as a number, for who links it. Definitions only. Assumes nothing.
use Rattle.std.specs.Prelude.{ℕ, ◌+◌, ◌*◌}

abbrev pub major : ℕ
major = 0

abbrev pub minor : ℕ
minor = 1

abbrev pub patch : ℕ
patch = 0

-- versions that are alike in major and minor have the same functions and layouts
abbrev pub library_version : ℕ
library_version = major * 10_000 + minor * 100 + patch
