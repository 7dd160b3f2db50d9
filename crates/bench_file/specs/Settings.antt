-- The numbers that lines of a bench file set: the word of each, its range, and the number that it has where no line sets it.
-- The bench file is a format of this project's own.
use Rattle.std.specs.Prelude.{ℕ, ◌==◌, Bool, List, codes, Option, Some, None, if◌then◌else◌}
use Rattle.std.specs.Str.{bytes_eq}
use Rattle.bench_file.specs.declared.setting.Setting.{Setting}
use Rattle.bench_file.specs.declared.setting.Setting.TheVariants as settings

-- the number that a word names
abbrev pub setting_of : List ℕ → Option Setting
setting_of word =
    if bytes_eq word (codes "regions") then Some settings.Regions
    else if bytes_eq word (codes "words") then Some settings.Words
    else if bytes_eq word (codes "ring") then Some settings.Ring
    else if bytes_eq word (codes "sessions") then Some settings.Sessions
    else if bytes_eq word (codes "desk") then Some settings.Desk
    else if bytes_eq word (codes "versions") then Some settings.Versions
    else None

-- the least and the greatest number that a line may set
abbrev pub least : Setting → ℕ
least settings.Regions = 2
least settings.Words = 1
least settings.Ring = 2
least settings.Sessions = 1
least settings.Desk = 0
least settings.Versions = 0

abbrev pub greatest : Setting → ℕ
greatest settings.Regions = 8
greatest settings.Words = 1048576
greatest settings.Ring = 16384
greatest settings.Sessions = 1024
greatest settings.Desk = 1024
greatest settings.Versions = 4294967295

-- the number where no line sets it
abbrev pub default_of : Setting → ℕ
default_of settings.Regions = 4
default_of settings.Words = 262144
default_of settings.Ring = 1024
default_of settings.Sessions = 1
default_of settings.Desk = 1
default_of settings.Versions = 4294967295

-- each number has a place of its own in the table, so that two are the same where their places are
abbrev pub place_of : Setting → ℕ
place_of settings.Regions = 0
place_of settings.Words = 1
place_of settings.Ring = 2
place_of settings.Sessions = 3
place_of settings.Desk = 4
place_of settings.Versions = 5

abbrev pub is_same : Setting → Setting → Bool
is_same a b = place_of a == place_of b
