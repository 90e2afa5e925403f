-- The lines of a text: a line feed (byte 10) ends a line, and the last line may lack it.
use Rattle.std.specs.Prelude.{◌≡◌, ℕ, ◌+◌, ◌<◌, ◌≢◌, ◌⊎◌, List, ◌∷◌, ◌++◌, length, All, drop}

-- no character of the line is a line feed
abbrev pub Unbroken : List ℕ → Type 0
Unbroken line = All (λ c. c ≢ 10) line

-- from a position on the text goes on with the line and a line feed, and then from the next
-- position
abbrev pub EndsByFeed : List ℕ → ℕ → List ℕ → ℕ → Type 0
EndsByFeed text position line next =
    (drop position text ≡ line ++ 10 ∷ drop next text) × (next ≡ position + length line + 1)

-- from a position on the text is the line, and the next position is its end
abbrev pub EndsText : List ℕ → ℕ → List ℕ → ℕ → Type 0
EndsText text position line next = (drop position text ≡ line) × (next ≡ length text)

-- the line that begins at a position of the text, and the position after it: the line ends by a
-- line feed, or with the text
abbrev pub LineAt : List ℕ → ℕ → List ℕ → ℕ → Type 0
LineAt text position line next =
    (position < length text) × Unbroken line
    × (EndsByFeed text position line next ⊎ EndsText text position line next)
