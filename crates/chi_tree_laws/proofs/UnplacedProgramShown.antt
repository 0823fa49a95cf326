-- Definitions and programs are shown without their places where what was built has none.
use Rattle.std.proofs.Common.{◌≡◌, List, [], ◌∷◌, map, Option, Some, refl, ap, sym, ◌∙◌}
use Rattle.std.specs.Option.{option_map}
use Rattle.chi_grammar.specs.Rules.{leaf, node, pair, none, spelling}
use Rattle.chi_token.specs.declared.place.Spanned.{Spanned}
use Rattle.chi_tree.specs.declared.type_tree.Name.{Name}
use Rattle.chi_tree.specs.declared.type_tree.TypeTree.{TypeTree}
use Rattle.chi_tree.specs.declared.definition.Definition.TheVariants as definition
use Rattle.chi_tree.specs.Parts as s
use Rattle.chi_tree.specs.Tokens.{name_of}
use Rattle.chi_tree.specs.View.{Built, nowhere, optional}
use Rattle.chi_tree.specs.Statements.{is_some, head_of, parameters_of, definition_of, item_of, items_of, last_place, program_of}
use Rattle.chi_tree_laws.specs.Unplaced.{unplaced_name, unplaced_type, unplaced_formal}
use Rattle.chi_tree_laws.specs.UnplacedStatements.{unplaced_definition, unplaced_item, unplaced}
use Rattle.chi_tree_laws.proofs.UnplacedBuilt.{unplaced_token, unplaced_tree, unplaced_spelling}
use Rattle.chi_tree_laws.proofs.UnplacedTrees.{without-Defined}
use Rattle.chi_tree_laws.proofs.UnplacedParts.{shown_place, shown_name, shown_names}
use Rattle.chi_tree_laws.proofs.UnplacedShown.{shown_type, shown_formals, shown_expr}
use Rattle.chi_tree_laws.proofs.UnplacedStatementShown.{shown_body}

abbrev pub unplaced_head : Option TypeTree × Name → Option TypeTree × Name
unplaced_head head = (option_map unplaced_type head.0, unplaced_name head.1)

pub shown_head : (t : Built) → unplaced_head (head_of t) ≡ head_of (unplaced_tree t)
shown_head (node s.Head (pair (leaf x) none)) = refl
shown_head (node s.Head (pair (leaf x) n)) = λ i. (Some (without-Defined (name_of x) i), shown_name n i)
shown_head (node s.Head (pair t n)) = λ i. (Some (shown_type t i), shown_name n i)
shown_head _ = refl

pub shown_parameters : (t : Built) → map unplaced_formal (parameters_of t) ≡ parameters_of (unplaced_tree t)
shown_parameters (node s.Parameters (pair l (pair fs r))) = shown_formals fs
shown_parameters _ = refl

pub shown_definition : (t : Built) → unplaced_definition (definition_of t) ≡ definition_of (unplaced_tree t)
shown_definition (node s.Defined t) = shown_definition t
shown_definition (node s.EnumDef (pair w (pair n (pair eq (pair l (pair ns r)))))) =
    λ i. definition.Enum (shown_place w i) (shown_name n i) (shown_names ns i)
shown_definition (node s.ConstDef (pair w (pair t (pair n (pair eq e))))) =
    λ i. definition.Const (shown_place w i) (shown_type t i) (shown_name n i) (shown_place eq i) (shown_expr e i)
shown_definition (node s.TypeDef (pair w (pair n (pair eq t)))) = λ i. definition.TypeWord (shown_place w i) (shown_name n i) (shown_type t i)
shown_definition (node s.FuncDef (pair w (pair t (pair n (pair ps b))))) =
    λ i. definition.Func (shown_place w i) (shown_type t i) (shown_name n i) (shown_parameters ps i) (shown_body b i)
shown_definition (node s.ProcDef (pair w (pair h (pair ps b)))) =
    λ i. definition.Proc (shown_place w i) (shown_head h i).0 (shown_head h i).1 (shown_parameters ps i) (shown_body b i)
shown_definition (node s.ModelDef (pair w (pair h (pair ps b)))) =
    λ i. definition.Model (shown_place w i) (shown_head h i).0 (shown_head h i).1 (shown_parameters ps i) (shown_body b i)
shown_definition (node s.XperDef (pair w (pair n (pair ps b)))) =
    λ i. definition.Xper (shown_place w i) (shown_name n i) (shown_body b i)
shown_definition _ = refl

same_some : (t : Built) → is_some (optional t t) ≡ is_some (optional (unplaced_tree t) (unplaced_tree t))
same_some none = refl
same_some _ = refl

pub shown_item : (t : Built) → unplaced_item (item_of t) ≡ item_of (unplaced_tree t)
shown_item (node s.Definition (pair t semicolon)) = λ i. record { definition = shown_definition t i; semicolon = same_some semicolon i }
shown_item _ = refl

pub shown_items : (t : Built) → map unplaced_item (items_of t) ≡ items_of (unplaced_tree t)
shown_items (pair t ts) = λ i. shown_item t i ∷ shown_items ts i
shown_items _ = refl

-- the last token stands nowhere
last_nowhere : (xs : List Spanned) → last_place (map unplaced_token xs) ≡ nowhere
last_nowhere [] = refl
last_nowhere (x ∷ []) = refl
last_nowhere (x ∷ y ∷ xs) = last_nowhere (y ∷ xs)

shown_last : (t : Built) → nowhere ≡ last_place (spelling (unplaced_tree t))
shown_last t = sym (ap last_place (unplaced_spelling t) ∙ last_nowhere (spelling t))

pub shown_program : (t : Built) → unplaced (program_of t) ≡ program_of (unplaced_tree t)
shown_program (node s.Program (pair t ts)) =
    λ i. record { items = shown_item t i ∷ shown_items ts i; last = shown_last (node s.Program (pair t ts)) i }
shown_program _ = refl
