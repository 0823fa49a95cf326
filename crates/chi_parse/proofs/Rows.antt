-- A token of the classes of a kind has a row in the table of what such tokens stand for.
use Rattle.std.proofs.Common.{◌≡◌, true, refl}
use Rattle.chi_token.specs.declared.place.Place.{Place}
use Rattle.chi_token.specs.declared.token.Token.{Token}
use Rattle.chi_tree.specs.Statements.{is_some}
use Rattle.chi_tree.specs.Tokens.{jump_of, ends_line, is_run}
use Rattle.chi_tree.specs.Words.{classes, jumps, write_words, launch_words}
use Rattle.chi_tree.proofs.ClassTokens.{row_of}
use Rattle.chi_parse_expr.proofs.Rows.{IsOf}

pub jump_row : (t : Token) (place : Place) → IsOf (classes jumps) t → is_some (jump_of t place) ≡ true
jump_row t place h = row_of (λ u. jump_of u place) (classes jumps) ((λ bytes. refl), ((λ bytes. refl), ((λ bytes. refl), tt))) t h

pub write_row : (t : Token) → IsOf (classes write_words) t → is_some (ends_line t) ≡ true
write_row t h = row_of ends_line (classes write_words) ((λ bytes. refl), ((λ bytes. refl), tt)) t h

pub launch_row : (t : Token) → IsOf (classes launch_words) t → is_some (is_run t) ≡ true
launch_row t h = row_of is_run (classes launch_words) ((λ bytes. refl), ((λ bytes. refl), tt)) t h
