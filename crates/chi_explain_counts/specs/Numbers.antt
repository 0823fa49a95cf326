-- What is said of the numbers of arguments, targets, values and codes where a rule is broken by them.
use Rattle.std.specs.Prelude.{ℕ, ◌==◌, ◌||◌, Bool, List, ◌++◌, codes, Option, Some, None, if◌then◌else◌}
use Rattle.std.specs.Fmt.{decimal}
use Rattle.std.specs.Option.{option_map}
use Rattle.chi_token.specs.declared.place.Place.{Place}
use Rattle.chi_tree.specs.declared.definition.Program.{Program}
use Rattle.chi_check_types.specs.declared.predefined.Predefined.{Predefined}
use Rattle.chi_check_types.specs.declared.predefined.Predefined.TheVariants as predefined
use Rattle.chi_check_types.specs.declared.rules.TheConstants.{TARGET_COUNT, ELEMENT_ARGUMENTS, FORMAT, CALL_ARGUMENTS, PREDEFINED}
use Rattle.chi_check_types.specs.Predefined.{predefined_of}
use Rattle.chi_check_expr_rules.specs.PredefinedCalls.{is_count}
use Rattle.chi_explain_typing.specs.Names.{name_at}
use Rattle.chi_explain_typing.specs.Rules.{broken_words}
use Rattle.chi_explain_counts.specs.declared.counted.Counted.{Counted}
use Rattle.chi_explain_counts.specs.declared.counted.Counted.TheVariants as counted
use Rattle.chi_explain_counts.specs.Programs.{counted_at, parameters_of}

-- how many there are of some, and what is said of how many there should be
abbrev pub number_words : List ℕ → ℕ → List ℕ → List ℕ
number_words given n wanted = codes "the " ++ given ++ codes " are " ++ decimal n ++ codes " in number, and " ++ wanted

-- two numbers, where they differ
abbrev pub uneven : List ℕ → ℕ → List ℕ → ℕ → Option (List ℕ)
uneven given n wanted m = if n == m then None else Some (number_words given n (wanted ++ codes " " ++ decimal m))

-- arguments of what has a name
abbrev pub arguments_of : List ℕ → List ℕ
arguments_of name = codes "arguments of `" ++ name ++ codes "`"

-- how many arguments a predefined name takes
abbrev pub wanted_words : Predefined → List ℕ
wanted_words predefined.Min = codes "2 or more"
wanted_words predefined.Max = codes "2 or more"
wanted_words predefined.Range = codes "1 to 3"
wanted_words predefined.Insert = codes "3"
wanted_words predefined.Del = codes "2"
wanted_words predefined.Uniform = codes "2"
wanted_words predefined.Binomial = codes "2"
wanted_words _ = codes "1"

-- a number of arguments that a predefined name doesn't take
abbrev pub predefined_words : List ℕ → ℕ → Option Predefined → Option (List ℕ)
predefined_words name n None = None
predefined_words name n (Some p) = if is_count p n then None else Some (number_words (arguments_of name) n (codes "it takes " ++ wanted_words p))

-- another number of arguments than of parameters
abbrev pub parameter_words : List ℕ → ℕ → Option ℕ → Option (List ℕ)
parameter_words name n None = None
parameter_words name n (Some parameters) = uneven (arguments_of name) n (codes "its parameters") parameters

-- by the rule, what is said of the arguments of what has a name
abbrev pub argument_words : Program → List ℕ → ℕ → ℕ → Option (List ℕ)
argument_words tree name rule n =
    if rule == PREDEFINED then predefined_words name n (predefined_of name)
    else if rule == ELEMENT_ARGUMENTS || rule == CALL_ARGUMENTS then parameter_words name n (parameters_of name tree.items)
    else None

-- another number of values than of targets; of one value it may be that it is a tuple
abbrev pub value_words : ℕ → ℕ → Option (List ℕ)
value_words targets n =
    if n == 1 then Some (number_words (codes "targets") targets (codes "the one value is no tuple of so many parts"))
    else uneven (codes "targets") targets (codes "the values") n

-- what is said of codes, whose percent signs alone are counted
abbrev pub of_codes : List ℕ → List ℕ
of_codes words = words ++ codes ", if no code is bad; a percent sign alone is `%%`"

-- by the rule, what is said of what is counted at its place
abbrev pub counted_words : Program → List ℕ → ℕ → Option Counted → Option (List ℕ)
counted_words tree name rule None = None
counted_words tree name rule (Some (counted.Arguments n)) = argument_words tree name rule n
counted_words tree name rule (Some (counted.Values targets n)) = if rule == TARGET_COUNT then value_words targets n else None
counted_words tree name rule (Some (counted.Parts targets n)) =
    if rule == TARGET_COUNT then uneven (codes "targets") targets (codes "the parts of the tuple") n else None
counted_words tree name rule (Some (counted.Shown signs n)) =
    if rule == FORMAT then option_map of_codes (uneven (codes "codes") signs (codes "the values") n) else None

-- words of numbers, with the rule's number at the end, or the others where there are none
abbrev pub or_broken : ℕ → Option (List ℕ) → List ℕ → List ℕ
or_broken rule (Some words) others = words ++ codes ": rule " ++ decimal rule
or_broken rule None others = others

-- The whole that is said of a rule that a source breaks, which is this program: the numbers, where it is broken by them, or
-- the rule's own words.
unfoldable pub told_words : List ℕ → Program → ℕ → Place → List ℕ
told_words source tree rule place =
    or_broken rule (counted_words tree (name_at source place) rule (counted_at place tree)) (broken_words source rule place)
