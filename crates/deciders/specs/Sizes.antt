-- The size limits of a query, and the faults of what breaks them.
use Rattle.std.specs.Prelude.{if◌then◌else◌, ◌≡◌, ℕ, ◌||◌, Ok, Err, Result, ◌==◌, nat_lt}
use Rattle.rules.specs.declared.layer.Layer.{Layer}
use Rattle.rules.specs.declared.layer.Layer.TheVariants.{Finder}
use Rattle.deciders.specs.declared.limits.SizeFault.{SizeFault}
use Rattle.deciders.specs.declared.limits.SizeFault.TheVariants.{Sheet, Book}

-- the number of each fault
abbrev pub size_number : SizeFault → ℕ
size_number Sheet = 16
size_number Book = 17

-- the layer of each fault
abbrev pub size_layer : SizeFault → Layer
size_layer Sheet = Finder
size_layer Book = Finder

-- what breaks a limit: a sheet of no rows or of more than 4096, or else a book shorter than the
-- sheet or above 4096 places
abbrev pub size_refusal : ℕ → ℕ → Result Unit SizeFault
size_refusal m b =
    if m == 0 || nat_lt 4096 m then Err Sheet
    else (if nat_lt b m || nat_lt 4096 b then Err Book else Ok tt)

-- a sheet of m rows and a plan book of b places keep the size limits
abbrev pub WithinLimits : ℕ → ℕ → Type 0
WithinLimits m b = size_refusal m b ≡ Ok tt
