-- Trees whose bodies are whole, as those of each tree that is parsed; and cores whose text literals are short.
use Rattle.std.specs.Prelude.{List, [], ◌∷◌, map, IsTrue}
use Rattle.chi_tree.specs.declared.definition.Definition.{Definition}
use Rattle.chi_tree.specs.declared.definition.Definition.TheVariants as definition
use Rattle.chi_tree.specs.declared.definition.Program.{Program}
use Rattle.chi_core.specs.declared.program.Core.{Core}
use Rattle.chi_core.specs.Kinds.{Every}
use Rattle.chi_check_laws.specs.TypedTexts.{texts_are_short}
use Rattle.chi_check_laws.specs.Texts.{body_texts}
use Rattle.chi_check_laws.specs.Trials.{trials_texts}
use Rattle.chi_check_laws.specs.Whole.{steps_are_whole}

abbrev pub BodyIsWhole : Definition → Type 0
BodyIsWhole (definition.Func place tree name formals steps) = IsTrue (steps_are_whole steps)
BodyIsWhole (definition.Proc place tree name formals steps) = IsTrue (steps_are_whole steps)
BodyIsWhole (definition.Model place tree name formals steps) = IsTrue (steps_are_whole steps)
BodyIsWhole (definition.Enum place name values) = Unit {0}
BodyIsWhole (definition.Const place tree name equals value) = Unit {0}
BodyIsWhole (definition.TypeWord place name tree) = Unit {0}
BodyIsWhole (definition.Xper place name steps) = IsTrue (steps_are_whole steps)

abbrev pub EachIsWhole : List Definition → Type 0
EachIsWhole [] = Unit {0}
EachIsWhole (d ∷ ds) = BodyIsWhole d × EachIsWhole ds

-- of all definitions of a program
abbrev pub BodiesAreWhole : Program → Type 0
BodiesAreWhole tree = EachIsWhole (map (λ item. item.definition) tree.items)

-- each text literal of a program is shorter than 2^32 bytes
pub record TextsAreShort (core : Core) : Type 0 where
  pub constants : Every (λ c. IsTrue (texts_are_short c.value)) core.consts
  pub functions : Every (λ f. IsTrue (body_texts f.body)) core.funcs
  pub processes : Every (λ d. IsTrue (body_texts d.body)) core.procs
  pub experiments : Every (λ x. IsTrue (trials_texts x.body)) core.xpers
