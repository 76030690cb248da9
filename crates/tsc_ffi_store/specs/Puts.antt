-- Texts that go into a buffer of a program in C.
use Rattle.std.specs.Prelude.{◌≡◌, ◌≤◌, ◌<◌, ◌++◌, ◌⊎◌, ℕ, List, length, drop}

-- A text stands at the beginning of a buffer, and what lies behind it there is as before.
pub record Stands (reported : ℕ) (text : List ℕ) (code : ℕ) (old new : List ℕ) (len : ℕ) : Type 0
  where
    pub fits : length text ≤ length old
    pub answer : code ≡ reported
    pub long : len ≡ length text
    pub put : new ≡ text ++ drop (length text) old

-- A text is longer than a buffer, which is as before.
pub record IsShort (text : List ℕ) (code : ℕ) (old new : List ℕ) (len : ℕ) : Type 0 where
  pub longer : length old < length text
  pub answer : code ≡ 17
  pub long : len ≡ length text
  pub same : new ≡ old

-- What becomes of a buffer into which a text is to go, and what is told then: the answer, and how
-- long the text is.
abbrev pub Puts : ℕ → List ℕ → ℕ → List ℕ → List ℕ → ℕ → Type 0
Puts reported text code old new len = Stands reported text code old new len ⊎ IsShort text code old
    new len
