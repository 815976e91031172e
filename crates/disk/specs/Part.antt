-- The name of a part file. Assumes nothing.
use Rattle.std.specs.Prelude.{List, [], ◌∷◌, ℕ}

-- `.part`
abbrev pub suffix : List ℕ
suffix = 46 ∷ 112 ∷ 97 ∷ 114 ∷ 116 ∷ []
