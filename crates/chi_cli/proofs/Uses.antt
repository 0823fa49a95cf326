-- The rows that uses of arguments leave.
use Rattle.std.proofs.Common.{◌≡◌, ◌||◌, Bool, true, false, List, [], ◌∷◌, ◌++◌, Option, Some, None, if◌then◌else◌, refl, sym, ap, subst}
use Rattle.std.specs.Prelude.{bytes_eq, find, is_some}
use Rattle.std.proofs.lemmas.Slice.Eq.{bytes_eq-Decides}
use Rattle.clap.specs.Walk.{Row, has_row, stronger, with_values, without}
use Rattle.clap.specs.declared.builder.value_parser.Reading.{Reading}
use Rattle.clap.specs.declared.parser.matches.ValueSource.{ValueSource}
use Rattle.chi_cli.specs.Commands.{Text}

-- the row of an id
abbrev pub row_at : Text → List Row → Option Row
row_at id rows = find (λ r. bytes_eq r.id id) rows

pub same_text : (id : Text) → bytes_eq id id ≡ true
same_text id = (bytes_eq-Decides id id).1 refl

-- the row with more values, or a new one
abbrev pub grown : Text → Reading → ValueSource → List Text → Option Row → Row
grown id how s values None = record { id = id; values = values; count = None; source = Some s; reading = how }
grown id how s values (Some r) = record r { values = r.values ++ values; source = Some (stronger r.source s) }

pub row_grown : (id : Text) (how : Reading) (s : ValueSource) (values : List Text) (rows : List Row)
    → row_at id (with_values id how s values rows) ≡ Some (grown id how s values (row_at id rows))
row_grown id how s values [] = rw (same_text id) refl
row_grown id how s values (r ∷ rs) = each (bytes_eq r.id id) refl (row_grown id how s values rs) where
  each : (here : Bool) → bytes_eq r.id id ≡ here → row_at id (with_values id how s values rs) ≡ Some (grown id how s values (row_at id rs))
      → row_at id (with_values id how s values (r ∷ rs)) ≡ Some (grown id how s values (row_at id (r ∷ rs)))
  each true is rest = rw is (rw is refl)
  each false is rest = rw is (rw is rest)

pub row_kept : (id other : Text) (how : Reading) (s : ValueSource) (values : List Text) (rows : List Row) → bytes_eq id other ≡ false
    → row_at other (with_values id how s values rows) ≡ row_at other rows
row_kept id other how s values [] apart = rw apart refl
row_kept id other how s values (r ∷ rs) apart = each (bytes_eq r.id id) refl (row_kept id other how s values rs apart) where
  each : (here : Bool) → bytes_eq r.id id ≡ here → row_at other (with_values id how s values rs) ≡ row_at other rs
      → row_at other (with_values id how s values (r ∷ rs)) ≡ row_at other (r ∷ rs)
  each true is rest =
      let elsewhere : bytes_eq r.id other ≡ false = subst (λ (t : Text). bytes_eq t other ≡ false) (sym ((bytes_eq-Decides r.id id).0 is)) apart in
      rw (is, elsewhere) refl
  each false is rest = rw is (ap (λ (o : Option Row). if bytes_eq r.id other then Some r else o) rest)

pub has_row_is : (id : Text) (rows : List Row) → has_row id rows ≡ is_some (row_at id rows)
has_row_is id [] = refl
has_row_is id (r ∷ rs) = each (bytes_eq r.id id) (has_row_is id rs) where
  each : (here : Bool) → has_row id rs ≡ is_some (row_at id rs) → (here || has_row id rs) ≡ is_some (if here then Some r else row_at id rs)
  each true rest = refl
  each false rest = rest

-- there is none to take out
pub none_out : (id : Text) (rows : List Row) → row_at id rows ≡ None → without id rows ≡ rows
none_out id [] none = refl
none_out id (r ∷ rs) none = each (bytes_eq r.id id) refl (none_out id rs) where
  each : (here : Bool) → bytes_eq r.id id ≡ here → (row_at id rs ≡ None → without id rs ≡ rs) → without id (r ∷ rs) ≡ r ∷ rs
  each true is later =
      let some : row_at id (r ∷ rs) ≡ Some r = rw is refl in
      absurd (cc)
  each false is later =
      let rest : row_at id rs ≡ None = rw is at none in
      rw is (ap (λ (xs : List Row). r ∷ xs) (later rest))
