-- The kinds of frames and their bytes.
use Rattle.std.specs.Prelude.{◌≡◌, ◌≢◌, ℕ, Result, MatchResult}
use Rattle.frames.specs.declared.kind.Kind.{Kind}
use Rattle.frames.specs.declared.kind.Kind.TheVariants as kinds
use Rattle.frames.specs.declared.kind.UnknownKind.{UnknownKind}

-- the byte that stands for a kind
abbrev pub kind_byte : Kind → ℕ
kind_byte kinds.Open = 1
kind_byte kinds.Put = 2
kind_byte kinds.Grant = 3
kind_byte kinds.Lapse = 4
kind_byte kinds.Order = 5
kind_byte kinds.Cancel = 6
kind_byte kinds.Withdraw = 7
kind_byte kinds.Carry = 8
kind_byte kinds.Find = 9
kind_byte kinds.DrawAndSign = 10

-- the result is the kind that a byte stands for, or the byte itself where it stands for no kind
abbrev pub Decodes : ℕ → Result Kind UnknownKind → Type 0
Decodes byte r =
    MatchResult r (λ kind. kind_byte kind ≡ byte)
    (λ e. (e.0 ≡ byte) × ((kind : Kind) → kind_byte kind ≢ byte))
