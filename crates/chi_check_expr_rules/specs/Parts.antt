-- Indexes, slices and fields, by the type of what they take a part of.
use Rattle.std.specs.Prelude.{ℕ, suc, Bool, true, false, ◌&&◌, List, [], ◌∷◌, Option, Some, None, option_map, is_some, if◌then◌else◌}
use Rattle.std.specs.List.{list_all}
use Rattle.std.specs.Str.{bytes_eq}
use Rattle.chi_token.specs.declared.place.Place.{Place}
use Rattle.chi_tree.specs.declared.type_tree.Name.{Name}
use Rattle.chi_types.specs.declared.ty.Ty.{Ty, Ty-F, out-Ty}
use Rattle.chi_types.specs.declared.ty.Ty.TheVariants as ty
use Rattle.chi_types.specs.Fits.{fits}
use Rattle.chi_core.specs.declared.expression.CExpr.TheVariants as expression
use Rattle.chi_core.specs.declared.op_name.OpName.TheVariants as op
use Rattle.chi_check_types.specs.declared.meant.Made.{Made}
use Rattle.chi_check_types.specs.declared.rules.TheConstants.{INDEX, FIELD}
use Rattle.chi_check_types.specs.Typed.{Typed}
use Rattle.chi_check_types.specs.TypeRules.{is_int}
use Rattle.chi_check_expr_rules.specs.declared.parts.Contents.{Contents}
use Rattle.chi_check_expr_rules.specs.declared.parts.Contents.TheVariants as what
use Rattle.chi_check_expr_rules.specs.Conversions.{made, converted, as_they_are}
use Rattle.chi_check_expr_rules.specs.Nodes.{of_one, of_two, all_made}

-- ---- indexes

-- what an index takes: an element, or what a key has
abbrev pub contents_of : Ty-F Ty → Contents
contents_of (Ty-F.ListOf element) = what.Element element
contents_of Ty-F.Text = what.Element ty.Text
contents_of (Ty-F.DictOf key value) = what.Entry key value
contents_of _ = what.Nothing

-- an element, a byte of a string
abbrev pub element_at : Ty → Made → Made → Option Made
element_at element whole index = if is_int (out-Ty index.ty) then Some (as_they_are op.Index (whole ∷ index ∷ []) element) else None

-- what a key has
abbrev pub with_key : Ty → Ty → Made → Made → Made
with_key key value whole index = made (expression.Op op.Lookup (whole.core ∷ converted index key ∷ [])) value

abbrev pub looked_up : Ty → Ty → Made → Made → Option Made
looked_up key value whole index = if fits index.ty key then Some (with_key key value whole index) else None

abbrev pub indexed_by : Ty-F Ty → Made → Made → Option Made
indexed_by (Ty-F.ListOf element) whole index = element_at element whole index
indexed_by Ty-F.Text whole index = element_at ty.Text whole index
indexed_by (Ty-F.DictOf key value) whole index = looked_up key value whole index
indexed_by _ whole index = None

abbrev pub indexed : Made → Made → Option Made
indexed whole index = indexed_by (out-Ty whole.ty) whole index

abbrev pub index_of : Place → Option Made → Option Made → Typed Made
index_of place whole index = of_two INDEX place indexed whole index

-- ---- slices

-- the bounds that are given, in order
abbrev pub if_given : {A : Type 0} → Option A → List A → List A
if_given None more = more
if_given (Some a) more = a ∷ more

-- three bounds, each of which may be left out
pub record Bounds (A : Type 0) : Type 0 where
  pub from : Option A
  pub upto : Option A
  pub by : Option A

abbrev pub given : {A : Type 0} → Bounds A → List A
given b = if_given b.from (if_given b.upto (if_given b.by []))

abbrev pub has_slices : Ty-F Ty → Bool
has_slices Ty-F.Text = true
has_slices (Ty-F.ListOf element) = true
has_slices _ = false

-- of a list or a string, with ints
abbrev pub sliced : Bool → Bool → Bool → Made → List Made → Option Made
sliced from upto by whole bounds =
    if has_slices (out-Ty whole.ty) && list_all (λ m. is_int (out-Ty m.ty)) bounds
    then Some (as_they_are (op.Slice from upto by) (whole ∷ bounds) whole.ty)
    else None

abbrev pub slice_of : Place → Option Made → Bounds (Option Made) → Typed Made
slice_of place whole b =
    of_two INDEX place (sliced (is_some b.from) (is_some b.upto) (is_some b.by)) whole (all_made (given b))

-- ---- fields

-- the position of a name among those of a tuple's parts, from a number on
abbrev pub position_from : ℕ → List ℕ → List (List ℕ × Ty) → Option (ℕ × Ty)
position_from number name [] = None
position_from number name (part ∷ parts) = if bytes_eq name part.0 then Some (number, part.1) else position_from (suc number) name parts

abbrev pub part_of : Made → ℕ × Ty → Made
part_of m found = made (expression.Part m.core found.0) found.1

abbrev pub field_in : Ty-F Ty → List ℕ → Option (ℕ × Ty)
field_in (Ty-F.TupleOf parts) name = position_from 0 name parts
field_in _ name = None

abbrev pub field : List ℕ → Made → Option Made
field name m = option_map (part_of m) (field_in (out-Ty m.ty) name)

abbrev pub field_of : Name → Option Made → Typed Made
field_of name m = of_one FIELD name.place (field name.text) m
