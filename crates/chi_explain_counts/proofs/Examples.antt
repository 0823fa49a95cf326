-- What is counted in small parts, and what is said of it, computed.
use Rattle.std.proofs.Common.{◌≡◌, ◌++◌, List, ℕ, [], ◌∷◌, refl}
use Rattle.std.specs.Prelude.{codes, Option, None, Some, true, false}
use Rattle.std.specs.Fmt.{decimal}
use Rattle.chi_token.specs.declared.place.Place.{Place}
use Rattle.chi_tree.specs.declared.definition.Definition.TheVariants as definition
use Rattle.chi_tree.specs.declared.definition.Item.{Item}
use Rattle.chi_tree.specs.declared.definition.Program.{Program}
use Rattle.chi_tree.specs.declared.expr.Expr.{Expr-F}
use Rattle.chi_tree.specs.declared.statement.Element.{Element-F}
use Rattle.chi_tree.specs.declared.statement.Statement.{Statement-F}
use Rattle.chi_tree.specs.declared.type_tree.Formal.{Formal}
use Rattle.chi_tree.specs.declared.type_tree.Name.{Name}
use Rattle.chi_check_types.specs.Predefined.{predefined_of}
use Rattle.chi_explain_counts.specs.declared.counted.Counted.TheVariants as counted
use Rattle.chi_explain_counts.specs.Expressions.{expr_step}
use Rattle.chi_explain_counts.specs.Numbers.{counted_words}
use Rattle.chi_explain_counts.specs.Programs.{parameters_of}
use Rattle.chi_explain_counts.specs.Statements.{code_count, element_step, parts_or_values, statement_step}

-- a place on the first line
abbrev at : ℕ → Place
at column = record { line = 1; column = column }

abbrev name : List ℕ → ℕ → Name
name text column = record { text = text; place = at column }

-- a call at its place, and at another one, where only its arguments are looked at

a_call : expr_step (at 7) (Expr-F.Call (name (codes "f") 7) (None ∷ None ∷ [])) ≡ Some (counted.Arguments 2)
a_call = refl

a_call_elsewhere : expr_step (at 9) (Expr-F.Call (name (codes "f") 7) (None ∷ None ∷ [])) ≡ None
a_call_elsewhere = refl

a_call_within : expr_step (at 9) (Expr-F.Call (name (codes "f") 7) (None ∷ Some (counted.Arguments 0) ∷ [])) ≡ Some (counted.Arguments 0)
a_call_within = refl

-- what is started, and a write

an_element : element_step (at 5) (Element-F.Make None (name (codes "P") 5) []) ≡ Some (counted.Arguments 0)
an_element = refl

a_write : statement_step (at 7) (Statement-F.Write (at 1) true (codes "%d of %5.2f%%") (at 7) []) ≡ Some (counted.Shown 2 0)
a_write = refl

-- two targets with one value, which is a tuple of three parts or isn't written as one

a_tuple : parts_or_values 2 1 (Some 3) ≡ counted.Parts 2 3
a_tuple = refl

no_tuple : parts_or_values 2 1 None ≡ counted.Values 2 1
no_tuple = refl

-- percent signs: of codes, of the text, and one at the end

codes_there : code_count (codes "%d%%%s %") ≡ 2
codes_there = refl

no_codes : code_count (codes "a%%b") ≡ 0
no_codes = refl

-- definitions: the first of two with one name counts

a_formal : ℕ → Formal
a_formal column = record { ty = None; name = name (codes "x") column }

abbrev a_process : List Formal → Item
a_process formals = record { definition = definition.Proc (at 1) None (name (codes "P") 6) formals []; semicolon = false }

abbrev a_program : Program
a_program = record { items = a_process (a_formal 8 ∷ []) ∷ a_process [] ∷ []; last = at 50 }

the_first : parameters_of (codes "P") a_program.items ≡ Some 1
the_first = refl

no_definition : parameters_of (codes "Q") a_program.items ≡ None
no_definition = refl

-- what is said

of_a_process : counted_words a_program (codes "P") 28 (Some (counted.Arguments 2))
    ≡ Some (codes "the arguments of `P` are " ++ decimal 2 ++ codes " in number, and " ++ (codes "its parameters " ++ decimal 1))
of_a_process = refl

of_types : counted_words a_program (codes "P") 28 (Some (counted.Arguments 1)) ≡ None
of_types = refl

of_another_rule : counted_words a_program (codes "P") 30 (Some (counted.Arguments 2)) ≡ None
of_another_rule = refl

of_values : counted_words a_program [] 20 (Some (counted.Values 2 3))
    ≡ Some (codes "the targets are " ++ decimal 2 ++ codes " in number, and " ++ (codes "the values " ++ decimal 3))
of_values = refl

of_one_value : counted_words a_program [] 20 (Some (counted.Values 2 1))
    ≡ Some (codes "the targets are " ++ decimal 2 ++ codes " in number, and " ++ codes "the one value is no tuple of so many parts")
of_one_value = refl

of_parts : counted_words a_program [] 20 (Some (counted.Parts 2 3))
    ≡ Some (codes "the targets are " ++ decimal 2 ++ codes " in number, and " ++ (codes "the parts of the tuple " ++ decimal 3))
of_parts = refl

of_signs : counted_words a_program [] 32 (Some (counted.Shown 2 1))
    ≡ Some (codes "the codes are " ++ decimal 2 ++ codes " in number, and " ++ (codes "the values " ++ decimal 1) ++ codes ", if no code is bad; a percent sign alone is `%%`")
of_signs = refl

of_a_range : counted_words a_program (codes "range") 36 (Some (counted.Arguments 4))
    ≡ Some (codes "the arguments of `range` are " ++ decimal 4 ++ codes " in number, and " ++ codes "it takes 1 to 3")
unfolding predefined_of
of_a_range = refl

of_a_range_within : counted_words a_program (codes "range") 36 (Some (counted.Arguments 3)) ≡ None
unfolding predefined_of
of_a_range_within = refl

of_a_cast : counted_words a_program (codes "int") 36 (Some (counted.Arguments 3)) ≡ None
unfolding predefined_of
of_a_cast = refl
