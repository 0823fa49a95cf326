-- The text that explains what is wrong at a place of a source.
use Rattle.std.specs.Prelude.{ℕ, List, ◌++◌, codes}
use Rattle.std.specs.Fmt.{decimal}
use Rattle.chi_token.specs.declared.place.Place.{Place}
use Rattle.chi_explain.specs.Excerpts.{ended, excerpt}

-- the file, the line and the column, as editors read them, and what is wrong; then the line and the caret
abbrev pub explained : List ℕ → List ℕ → Place → List ℕ → List ℕ
explained file source place words =
    ended (file ++ codes ":" ++ decimal place.line ++ codes ":" ++ decimal place.column ++ codes ": " ++ words) ++ excerpt source place
