-- Which expressions and types are formed: the grammar of the language, line by line, over the trees. The number is how
-- many levels of nesting there are for them: an open bracket, a prefix operator with its operand, the right side of a power
-- and a type inside a type are one level deeper.
use Rattle.std.specs.Prelude.{ℕ, suc, ◌≡◌, Bool, true, false, List, [], ◌∷◌, Option, Some, None}
use Rattle.chi_token.specs.declared.place.Place.{Place}
use Rattle.chi_tree.specs.declared.operator.Operator.{Operator}
use Rattle.chi_tree.specs.declared.operator.Operator.TheVariants as operator
use Rattle.chi_tree.specs.declared.operator.RelationSign.{RelationSign}
use Rattle.chi_tree.specs.declared.operator.PrefixSign.{PrefixSign}
use Rattle.chi_tree.specs.declared.operator.PrefixSign.TheVariants as prefix
use Rattle.chi_tree.specs.declared.operator.CastWord.{CastWord}
use Rattle.chi_tree.specs.declared.type_tree.Name.{Name}
use Rattle.chi_tree.specs.declared.type_tree.TypeWord.{TypeWord}
use Rattle.chi_tree.specs.declared.type_tree.Way.{Way}
use Rattle.chi_tree.specs.declared.type_tree.TypeTree.{TypeTree}
use Rattle.chi_tree.specs.declared.type_tree.TypeTree.TheVariants.{Word, Defined, List as ListType, Set, Dist, Dict, Tuple, Chan}
use Rattle.chi_tree.specs.declared.type_tree.Formal.{Formal}
use Rattle.chi_tree.specs.declared.expr.Expr.{Expr}
use Rattle.chi_tree.specs.declared.expr.Expr.TheVariants as expr
use Rattle.chi_tree.specs.declared.expr.Link.{Link}
use Rattle.chi_tree.specs.declared.expr.Entry.{Entry}
use Rattle.chi_tree.specs.declared.expr.Postfix.{Postfix}
use Rattle.chi_tree.specs.declared.expr.Postfix.TheVariants.{Index, Slice, Field}
use Rattle.chi_tree.specs.View.{chained, parted}
use Rattle.chi_tree_laws.specs.Levels.{Level, level_of, prefix_level}
use Rattle.chi_tree_laws.specs.Levels as level

abbrev pub formal : Option TypeTree → Name → Formal
formal ty name = record { ty = ty; name = name }

abbrev pub link : Operator → Place → Expr → Link
link operator place operand = record { operator = operator; place = place; operand = operand }

abbrev pub entry : Expr → Expr → Entry
entry key value = record { key = key; value = value }

mutual
  -- type = "bool" | "int" | "real" | "string" | "timer" | "inst" | name | "list" [ "(" expr ")" ] type | "set" type
  --      | "dist" type | "dict" "(" type ":" type ")" | "tuple" "(" formals ")" | "chan" [ "!" | "?" ] ( "void" | type )
  pub data FormedType : ℕ → TypeTree → Type 0 where
    word : {d : ℕ} {word : TypeWord} {place : Place} → FormedType d (Word word place)
    named : {d : ℕ} {name : Name} → FormedType d (Defined name)
    list : {d : ℕ} {place : Place} {t : TypeTree} → FormedType d t → FormedType (suc d) (ListType place None t)
    sized_list : {d : ℕ} {place : Place} {e : Expr} {t : TypeTree}
        → FormedExpr level.Expr d e → FormedType d t → FormedType (suc d) (ListType place (Some e) t)
    set : {d : ℕ} {place : Place} {t : TypeTree} → FormedType d t → FormedType (suc d) (Set place t)
    dist : {d : ℕ} {place : Place} {t : TypeTree} → FormedType d t → FormedType (suc d) (Dist place t)
    dict : {d : ℕ} {place : Place} {k v : TypeTree} → FormedType d k → FormedType d v → FormedType (suc (suc d)) (Dict place k v)
    -- two fields at least
    tuple : {d : ℕ} {place : Place} {first second : Formal} {more : List Formal}
        → FormedFormals d (first ∷ second ∷ more) → FormedType (suc (suc d)) (Tuple place (first ∷ second ∷ more))
    void : {d : ℕ} {place : Place} {way : Way} → FormedType d (Chan place way None)
    chan : {d : ℕ} {place : Place} {way : Way} {t : TypeTree} → FormedType d t → FormedType (suc d) (Chan place way (Some t))

  -- formals = type name { "," name } { ";" type name { "," name } }
  pub data FormedFormals : ℕ → List Formal → Type 0 where
    formals : {d : ℕ} {t : TypeTree} {name : Name} {more : List Formal}
        → FormedType d t → MoreFormals d more → FormedFormals d (formal (Some t) name ∷ more)

  pub data MoreFormals : ℕ → List Formal → Type 0 where
    no_more : {d : ℕ} → MoreFormals d []
    comma : {d : ℕ} {name : Name} {more : List Formal} → MoreFormals d more → MoreFormals d (formal None name ∷ more)
    semicolon : {d : ℕ} {t : TypeTree} {name : Name} {more : List Formal}
        → FormedType d t → MoreFormals d more → MoreFormals d (formal (Some t) name ∷ more)

  pub data FormedExpr : Level → ℕ → Expr → Type 0 where
    -- expr = conj { "or" conj }
    disjunction : {d : ℕ} {e : Expr} {links : List Link}
        → FormedExpr level.Conj d e → FormedLinks level.Expr d links → FormedExpr level.Expr d (chained e links)
    -- conj = neg { "and" neg }
    conjunction : {d : ℕ} {e : Expr} {links : List Link}
        → FormedExpr level.Neg d e → FormedLinks level.Conj d links → FormedExpr level.Conj d (chained e links)
    -- neg = { "not" } rel
    negation : {d : ℕ} {place : Place} {e : Expr} → FormedExpr level.Neg d e → FormedExpr level.Neg (suc d) (expr.Prefix prefix.Not place e)
    no_negation : {d : ℕ} {e : Expr} → FormedExpr level.Rel d e → FormedExpr level.Neg d e
    -- rel = sum [ ( "<" | "<=" | "==" | "!=" | ">" | ">=" | "in" | "sub" ) sum ]
    relation : {d : ℕ} {sign : RelationSign} {place : Place} {e f : Expr}
        → FormedExpr level.Sum d e → FormedExpr level.Sum d f → FormedExpr level.Rel d (expr.Relation e sign place f)
    no_relation : {d : ℕ} {e : Expr} → FormedExpr level.Sum d e → FormedExpr level.Rel d e
    -- sum = prod { ( "+" | "-" ) prod }
    sum : {d : ℕ} {e : Expr} {links : List Link}
        → FormedExpr level.Prod d e → FormedLinks level.Sum d links → FormedExpr level.Sum d (chained e links)
    -- prod = unary { ( "*" | "/" | "div" | "mod" ) unary }
    product : {d : ℕ} {e : Expr} {links : List Link}
        → FormedExpr level.Unary d e → FormedLinks level.Prod d links → FormedExpr level.Prod d (chained e links)
    -- unary = { "-" | "+" | "sample" } power
    prefixed : {d : ℕ} {sign : PrefixSign} {place : Place} {e : Expr} → prefix_level sign ≡ level.Unary
        → FormedExpr level.Unary d e → FormedExpr level.Unary (suc d) (expr.Prefix sign place e)
    no_prefix : {d : ℕ} {e : Expr} → FormedExpr level.Power d e → FormedExpr level.Unary d e
    -- power = post [ "^" unary ]
    power : {d : ℕ} {place : Place} {e f : Expr}
        → FormedExpr level.Post (suc d) e → FormedExpr level.Unary d f → FormedExpr level.Power (suc d) (expr.Power e place f)
    no_power : {d : ℕ} {e : Expr} → FormedExpr level.Post d e → FormedExpr level.Power d e
    -- post = primary { "[" expr "]" | "." name | "[" [ expr ] ":" [ expr ] [ ":" [ expr ] ] "]" }
    post : {d : ℕ} {e : Expr} {postfixes : List Postfix}
        → FormedExpr level.Primary d e → FormedPostfixes d postfixes → FormedExpr level.Post d (parted e postfixes)
    -- primary = int | real | text | "true" | "false" | "time" | name
    int : {d : ℕ} {digits : List ℕ} {place : Place} → FormedExpr level.Primary d (expr.Int digits place)
    real : {d : ℕ} {digits : List ℕ} {place : Place} → FormedExpr level.Primary d (expr.Real digits place)
    text : {d : ℕ} {text : List ℕ} {place : Place} → FormedExpr level.Primary d (expr.Text text place)
    bool : {d : ℕ} {truth : Bool} {place : Place} → FormedExpr level.Primary d (expr.Bool truth place)
    time : {d : ℕ} {place : Place} → FormedExpr level.Primary d (expr.Time place)
    name : {d : ℕ} {name : Name} → FormedExpr level.Primary d (expr.Named name)
    -- | name "(" [ exprs ] ")"
    call : {d : ℕ} {name : Name} {es : List Expr} → FormedExprs d es → FormedExpr level.Primary (suc d) (expr.Call name es)
    -- | ( "int" | "real" | "string" | "bool" | "timer" ) "(" expr ")"
    cast : {d : ℕ} {word : CastWord} {place : Place} {e : Expr}
        → FormedExpr level.Expr d e → FormedExpr level.Primary (suc d) (expr.Cast word place e)
    -- | "(" expr ")" | "(" expr "," exprs ")" | "[" exprs "]" | "{" exprs "}"
    round : {d : ℕ} {place : Place} {e : Expr} → FormedExpr level.Expr d e → FormedExpr level.Primary (suc d) (expr.Round place e)
    tuple_of : {d : ℕ} {place : Place} {e f : Expr} {es : List Expr}
        → FormedExprs d (e ∷ f ∷ es) → FormedExpr level.Primary (suc d) (expr.TupleOf place (e ∷ f ∷ es))
    list_of : {d : ℕ} {place : Place} {e : Expr} {es : List Expr}
        → FormedExprs d (e ∷ es) → FormedExpr level.Primary (suc d) (expr.ListOf place (e ∷ es))
    set_of : {d : ℕ} {place : Place} {e : Expr} {es : List Expr}
        → FormedExprs d (e ∷ es) → FormedExpr level.Primary (suc d) (expr.SetOf place (e ∷ es))
    -- | "{" expr ":" expr { "," expr ":" expr } "}"
    dict_of : {d : ℕ} {place : Place} {e : Entry} {es : List Entry}
        → FormedEntries d (e ∷ es) → FormedExpr level.Primary (suc d) (expr.DictOf place (e ∷ es))
    -- | "<" type ">" "[" "]" | "<" type ">" "{" "}" | "<" type ":" type ">" "{" "}"
    empty_list : {d : ℕ} {place : Place} {t : TypeTree}
        → FormedType (suc d) t → FormedExpr level.Primary (suc d) (expr.EmptyList place t)
    empty_set : {d : ℕ} {place : Place} {t : TypeTree}
        → FormedType (suc d) t → FormedExpr level.Primary (suc d) (expr.EmptySet place t)
    empty_dict : {d : ℕ} {place : Place} {k v : TypeTree}
        → FormedType (suc d) k → FormedType (suc d) v → FormedExpr level.Primary (suc d) (expr.EmptyDict place k v)

  -- the operators of a level, each with its operand
  pub data FormedLinks : Level → ℕ → List Link → Type 0 where
    no_links : {level : Level} {d : ℕ} → FormedLinks level d []
    or_link : {d : ℕ} {place : Place} {e : Expr} {links : List Link}
        → FormedExpr level.Conj d e → FormedLinks level.Expr d links → FormedLinks level.Expr d (link operator.Or place e ∷ links)
    and_link : {d : ℕ} {place : Place} {e : Expr} {links : List Link}
        → FormedExpr level.Neg d e → FormedLinks level.Conj d links → FormedLinks level.Conj d (link operator.And place e ∷ links)
    sum_link : {d : ℕ} {operator : Operator} {place : Place} {e : Expr} {links : List Link} → level_of operator ≡ level.Sum
        → FormedExpr level.Prod d e → FormedLinks level.Sum d links → FormedLinks level.Sum d (link operator place e ∷ links)
    product_link : {d : ℕ} {operator : Operator} {place : Place} {e : Expr} {links : List Link} → level_of operator ≡ level.Prod
        → FormedExpr level.Unary d e → FormedLinks level.Prod d links → FormedLinks level.Prod d (link operator place e ∷ links)

  pub data FormedPostfixes : ℕ → List Postfix → Type 0 where
    no_postfixes : {d : ℕ} → FormedPostfixes d []
    postfixes : {d : ℕ} {p : Postfix} {ps : List Postfix} → FormedPostfix d p → FormedPostfixes d ps → FormedPostfixes d (p ∷ ps)

  pub data FormedPostfix : ℕ → Postfix → Type 0 where
    index : {d : ℕ} {place : Place} {e : Expr} → FormedExpr level.Expr d e → FormedPostfix (suc d) (Index place e)
    slice : {d : ℕ} {place : Place} {from upto : Option Expr}
        → FormedIfAny d from → FormedIfAny d upto → FormedPostfix (suc d) (Slice place from upto false None)
    slice_by : {d : ℕ} {place : Place} {from upto by : Option Expr}
        → FormedIfAny d from → FormedIfAny d upto → FormedIfAny d by → FormedPostfix (suc d) (Slice place from upto true by)
    field : {d : ℕ} {name : Name} → FormedPostfix d (Field name)

  -- [ expr ]
  pub data FormedIfAny : ℕ → Option Expr → Type 0 where
    left_out : {d : ℕ} → FormedIfAny d None
    given : {d : ℕ} {e : Expr} → FormedExpr level.Expr d e → FormedIfAny d (Some e)

  -- [ exprs ], where exprs = expr { "," expr }
  pub data FormedExprs : ℕ → List Expr → Type 0 where
    no_exprs : {d : ℕ} → FormedExprs d []
    exprs : {d : ℕ} {e : Expr} {es : List Expr} → FormedExpr level.Expr d e → FormedExprs d es → FormedExprs d (e ∷ es)

  -- [ expr ":" expr { "," expr ":" expr } ]
  pub data FormedEntries : ℕ → List Entry → Type 0 where
    no_entries : {d : ℕ} → FormedEntries d []
    entries : {d : ℕ} {k v : Expr} {es : List Entry}
        → FormedExpr level.Expr d k → FormedExpr level.Expr d v → FormedEntries d es → FormedEntries d (entry k v ∷ es)
