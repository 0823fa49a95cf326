-- Trees whose formals have types, as those of each tree that is parsed: the first of a header has its type before it.
use Rattle.std.specs.Prelude.{Bool, true, List, [], ◌∷◌, map, is_some}
use Rattle.std.specs.List.{list_all}
use Rattle.chi_tree.specs.declared.definition.Definition.{Definition}
use Rattle.chi_tree.specs.declared.definition.Definition.TheVariants as definition
use Rattle.chi_tree.specs.declared.definition.Program.{Program}
use Rattle.chi_tree.specs.declared.type_tree.Formal.{Formal}

abbrev pub begin_typed : List Formal → Bool
begin_typed [] = true
begin_typed (f ∷ fs) = is_some f.ty

abbrev pub formals_of : Definition → List Formal
formals_of (definition.Func place tree name formals steps) = formals
formals_of (definition.Proc place tree name formals steps) = formals
formals_of (definition.Model place tree name formals steps) = formals
formals_of (definition.Enum place name values) = []
formals_of (definition.Const place tree name equals value) = []
formals_of (definition.TypeWord place name tree) = []
formals_of (definition.Xper place name steps) = []

abbrev pub header_is_typed : Definition → Bool
header_is_typed d = begin_typed (formals_of d)

abbrev pub headers_are_typed : List Definition → Bool
headers_are_typed ds = list_all header_is_typed ds

-- of all definitions of a program
abbrev pub formals_are_typed : Program → Bool
formals_are_typed tree = headers_are_typed (map (λ item. item.definition) tree.items)
