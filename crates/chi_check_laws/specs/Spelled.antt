-- Trees whose names are names, as those of each tree that is parsed: those of enumerations' values, and of what has a body. An
-- enumeration has a value.
use Rattle.std.specs.Prelude.{◌<◌, List, [], ◌∷◌, map, length}
use Rattle.chi_tree.specs.declared.definition.Definition.{Definition}
use Rattle.chi_tree.specs.declared.definition.Definition.TheVariants as definition
use Rattle.chi_tree.specs.declared.definition.Program.{Program}
use Rattle.chi_tree.specs.declared.type_tree.Name.{Name}
use Rattle.chi_core.specs.Sound.{IsName}

abbrev pub AreNames : List Name → Type 0
AreNames [] = Unit {0}
AreNames (name ∷ names) = IsName name.text × AreNames names

abbrev pub Spelled : Definition → Type 0
Spelled (definition.Enum place name values) = (0 < length values) × AreNames values
Spelled (definition.Func place tree name formals steps) = IsName name.text
Spelled (definition.Proc place tree name formals steps) = IsName name.text
Spelled (definition.Model place tree name formals steps) = IsName name.text
Spelled (definition.Const place tree name equals value) = Unit {0}
Spelled (definition.TypeWord place name tree) = Unit {0}
Spelled (definition.Xper place name steps) = IsName name.text

abbrev pub EachSpelled : List Definition → Type 0
EachSpelled [] = Unit {0}
EachSpelled (d ∷ ds) = Spelled d × EachSpelled ds

-- of all definitions of a program
abbrev pub NamesAreNames : Program → Type 0
NamesAreNames tree = EachSpelled (map (λ item. item.definition) tree.items)
