-- What is said of arguments that don't fit the parameters of a model.
use Rattle.std.specs.Prelude.{ℕ, List, ◌++◌, map, codes}
use Rattle.std.specs.Fmt.{decimal}
use Rattle.chi_types.specs.declared.ty.Ty.{Ty, Ty-F}
use Rattle.chi_explain.specs.Excerpts.{ended, shown}

-- what is of a type
abbrev pub type_words : Ty-F Ty → List ℕ
type_words Ty-F.Bool = codes "a bool"
type_words Ty-F.Int = codes "an int"
type_words Ty-F.Real = codes "a real"
type_words Ty-F.Text = codes "a string"
type_words Ty-F.Timer = codes "a timer"
type_words Ty-F.Inst = codes "an instance"
type_words Ty-F.Void = codes "nothing"
type_words (Ty-F.Choice k) = codes "an enumeration's value"
type_words (Ty-F.TupleOf parts) = codes "a tuple"
type_words (Ty-F.ListOf element) = codes "a list"
type_words (Ty-F.SetOf element) = codes "a set"
type_words (Ty-F.DictOf key value) = codes "a dictionary"
type_words (Ty-F.Chan way carried) = codes "a channel"
type_words (Ty-F.Dist sampled) = codes "a distribution"

-- which texts are arguments of a type
abbrev pub form_words : Ty-F Ty → List ℕ
form_words Ty-F.Bool = codes "`true` or `false`"
form_words Ty-F.Int = codes "digits, maybe after a `-`, and from -2^63 to 2^63 - 1"
form_words Ty-F.Real = codes "digits, maybe after a `-`, maybe with a point and digits, and from -9223372036.854775808 to 9223372036.854775807"
form_words Ty-F.Text = codes "tabs, line feeds and the bytes 0x20 to 0x7E"
form_words _ = codes "no text is one"

-- there are more or fewer arguments than the model has parameters
abbrev pub count_text : ℕ → ℕ → List ℕ
count_text wanted given =
    ended (codes "the model's parameters are " ++ decimal wanted ++ codes " in number, and the arguments that are given " ++ decimal given)

-- no text can be an argument for the parameter of this number, which is of this type
abbrev pub kind_text : ℕ → Ty-F Ty → List ℕ
kind_text number ty =
    ended (codes "parameter " ++ decimal number ++ codes " of the model is " ++ type_words ty
    ++ codes ", and an argument can be a bool, an int, a real or a string alone")

-- the text that is given for the parameter of this number isn't one of its type
abbrev pub argument_text : ℕ → Ty-F Ty → List ℕ → List ℕ
argument_text number ty text =
    ended (codes "argument " ++ decimal number ++ codes " is not " ++ type_words ty ++ codes " (" ++ form_words ty ++ codes "): `" ++ map shown text ++ codes "`")
