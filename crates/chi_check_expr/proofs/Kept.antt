-- Private to proofs. What each rule keeps, the whole keeps: the facts of which the induction over trees is made. `Keeps` is
-- what has to be shown of each node whose parts are typed; `Good` is what follows of each tree.
use Rattle.std.proofs.Common.{ℕ, ◌≡◌, Bool, List, [], ◌∷◌, Option, Some, None}
use Rattle.std.specs.Prelude.{is_some}
use Rattle.chi_token.specs.declared.place.Place.{Place}
use Rattle.chi_tree.specs.declared.operator.Operator.{Operator}
use Rattle.chi_tree.specs.declared.operator.PrefixSign.{PrefixSign}
use Rattle.chi_tree.specs.declared.operator.RelationSign.{RelationSign}
use Rattle.chi_tree.specs.declared.operator.CastWord.{CastWord}
use Rattle.chi_tree.specs.declared.type_tree.Name.{Name}
use Rattle.chi_tree.specs.declared.type_tree.TypeWord.{TypeWord}
use Rattle.chi_tree.specs.declared.type_tree.Way.{Way}
use Rattle.chi_types.specs.declared.ty.Ty.{Ty}
use Rattle.chi_check_types.specs.declared.fault.Fault.{Fault}
use Rattle.chi_check_types.specs.declared.known.Known.{Known}
use Rattle.chi_check_types.specs.declared.meant.Made.{Made}
use Rattle.chi_check_types.specs.declared.meant.Meant.{Meant}
use Rattle.chi_check_types.specs.declared.predefined.Predefined.{Predefined}
use Rattle.chi_check_types.specs.declared.predefined.Predefined.TheVariants as predefined
use Rattle.chi_check_types.specs.declared.site.Site.{Site}
use Rattle.chi_check_types.specs.Names.{Names, known_in}
use Rattle.chi_check_types.specs.Typed.{Typed}
use Rattle.chi_check_types.specs.TypeRules as types
use Rattle.chi_check_expr_rules.specs.Nodes.{all_made}
use Rattle.chi_check_expr_rules.specs.Literals.{int_literal, real_literal, text_literal, bool_literal}
use Rattle.chi_check_expr_rules.specs.Named.{visible_value, time_of}
use Rattle.chi_check_expr_rules.specs.Operators.{chain_of, power_of, prefix_of}
use Rattle.chi_check_expr_rules.specs.Comparisons.{relation_of}
use Rattle.chi_check_expr_rules.specs.Casts.{cast_of}
use Rattle.chi_check_expr_rules.specs.Calls.{call_of}
use Rattle.chi_check_expr_rules.specs.PredefinedCalls.{predefined_call}
use Rattle.chi_check_expr_rules.specs.Parts.{Bounds, given, sliced, index_of, field_of}
use Rattle.chi_check_expr_rules.specs.Containers as literals

-- a fact about what was made, where no rule is broken; nothing was made only where one is
abbrev pub Good : {A : Type 0} → (A → Type 0) → List Fault → Option A → Type 0
Good T faults None = faults ≡ [] → ⊥
Good T faults (Some a) = (faults ≡ []) × T a

abbrev pub GoodTyped : {A : Type 0} → (A → Type 0) → Typed A → Type 0
GoodTyped T t = Good T t.faults t.made

-- a fact about each of a list
abbrev pub Each : {A : Type 0} → (A → Type 0) → List A → Type 0
Each T [] = Unit {0}
Each T (x ∷ xs) = T x × Each T xs

-- all parts, each of which has a type of which the fact holds
abbrev pub typed_parts : List Made → List (Option Made)
typed_parts [] = []
typed_parts (m ∷ ms) = Some m ∷ typed_parts ms

-- a fact about the type of a field: it is what a type tree meant
abbrev pub FieldOk : (Meant → Type 0) → List ℕ × Ty → Type 0
FieldOk U part = (m : Meant) × (U m) × (m.ty ≡ part.1)

-- a fact about a bound, where one is given
abbrev pub IfGiven : {A : Type 0} → (A → Type 0) → Option A → Type 0
IfGiven T None = Unit {0}
IfGiven T (Some a) = T a

-- Each node keeps the facts: T of what expressions come to, U of what types mean.
pub record Keeps (site : Site) (names : Names) (T : Made → Type 0) (U : Meant → Type 0) : Type 0 where
  -- expressions of one token
  pub int : (digits : List ℕ) (m : Made) → int_literal digits ≡ Some m → T m
  pub real : (digits : List ℕ) (m : Made) → real_literal digits ≡ Some m → T m
  pub text : (bytes : List ℕ) → T (text_literal bytes)
  pub bool : (truth : Bool) → T (bool_literal truth)
  pub time : (place : Place) (m : Made) → (time_of site place).made ≡ Some m → T m
  pub name : (name : Name) (k : Known) (m : Made) → known_in names name.text ≡ Some k → (visible_value name.place (Some k)).made ≡ Some m → T m
  -- operators and casts
  pub chain : (sign : Operator) (place : Place) (a b m : Made) → T a → T b → (chain_of sign place (Some a) (Some b)).made ≡ Some m → T m
  pub prefix : (sign : PrefixSign) (place : Place) (a m : Made) → T a → (prefix_of site sign place (Some a)).made ≡ Some m → T m
  pub relation : (sign : RelationSign) (place : Place) (a b m : Made) → T a → T b → (relation_of sign place (Some a) (Some b)).made ≡ Some m → T m
  pub power : (place : Place) (a b m : Made) → T a → T b → (power_of place (Some a) (Some b)).made ≡ Some m → T m
  pub cast : (word : CastWord) (place : Place) (a m : Made) → T a → (cast_of site word place (Some a)).made ≡ Some m → T m
  -- parts
  pub index : (place : Place) (whole i m : Made) → T whole → T i → (index_of place (Some whole) (Some i)).made ≡ Some m → T m
  pub slice : (whole : Made) (b : Bounds (Option Made)) (bounds : List Made) (m : Made) → T whole → Each T bounds → all_made (given b) ≡ Some bounds
      → sliced (is_some b.from) (is_some b.upto) (is_some b.by) whole bounds ≡ Some m → T m
  pub field : (name : Name) (whole m : Made) → T whole → (field_of name (Some whole)).made ≡ Some m → T m
  -- calls
  pub call : (name : Name) (k : Known) (ms : List Made) (m : Made) → known_in names name.text ≡ Some k → Each T ms
      → (call_of site name.place (Some k) (typed_parts ms)).made ≡ Some m → T m
  pub predefined_name : (p : Predefined) (place : Place) (ms : List Made) (m : Made) → Each T ms
      → (predefined_call site place p (typed_parts ms) None).made ≡ Some m → T m
  pub insertion : (place : Place) (list element : Made) (by : List ℕ) (k : Known) (m : Made) → T list → T element → known_in names by ≡ Some k
      → (predefined_call site place predefined.Insert (Some list ∷ Some element ∷ None ∷ []) (Some k)).made ≡ Some m → T m
  -- literals of several parts
  pub tuple : (place : Place) (ms : List Made) (m : Made) → Each T ms → (literals.tuple_of place (typed_parts ms)).made ≡ Some m → T m
  pub list : (place : Place) (ms : List Made) (m : Made) → Each T ms → (literals.list_of place (typed_parts ms)).made ≡ Some m → T m
  pub set : (place : Place) (ms : List Made) (m : Made) → Each T ms → (literals.set_of place (typed_parts ms)).made ≡ Some m → T m
  pub dict : (place : Place) (keys values : List Made) (m : Made) → Each T keys → Each T values → (literals.dict_of place (typed_parts keys) (typed_parts values)).made ≡ Some m → T m
  pub empty_list : (place : Place) (element : Meant) (m : Made) → U element → (literals.empty_list place (Some element)).made ≡ Some m → T m
  pub empty_set : (place : Place) (element : Meant) (m : Made) → U element → (literals.empty_set place (Some element)).made ≡ Some m → T m
  pub empty_dict : (place : Place) (key value : Meant) (m : Made) → U key → U value → (literals.empty_dict place (Some key) (Some value)).made ≡ Some m → T m
  -- types
  pub word : (place : Place) (w : TypeWord) (m : Meant) → (types.word_of place w).made ≡ Some m → U m
  pub named_type : (name : Name) (k : Known) (m : Meant) → known_in names name.text ≡ Some k → (types.visible_type name.place (Some k)).made ≡ Some m → U m
  pub list_type : (place : Place) (element m : Meant) → U element → (types.list_of place (Some element)).made ≡ Some m → U m
  pub sized_list : (place : Place) (sizes : Bool) (size : Made) (element m : Meant) → T size → U element → (types.sized_list_of place sizes (Some size) (Some element)).made ≡ Some m → U m
  pub set_type : (place : Place) (element m : Meant) → U element → (types.set_of place (Some element)).made ≡ Some m → U m
  pub dict_type : (place : Place) (key value m : Meant) → U key → U value → (types.dict_of place (Some key) (Some value)).made ≡ Some m → U m
  pub dist : (place : Place) (drawn m : Meant) → U drawn → (types.dist_of place (Some drawn)).made ≡ Some m → U m
  pub tuple_type : (place : Place) (fields : List Name) (parts : List (List ℕ × Ty)) (m : Meant) → Each (FieldOk U) parts → (types.tuple_of place fields (Some parts)).made ≡ Some m → U m
  pub chan : (place : Place) (way : Way) (carried m : Meant) → U carried → (types.chan_of place way (Some carried)).made ≡ Some m → U m
  pub void_chan : (place : Place) (way : Way) (m : Meant) → (types.void_chan_of place way).made ≡ Some m → U m
