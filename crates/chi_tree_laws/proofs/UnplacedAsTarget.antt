-- An expression without its places is the same target, without its places.
use Rattle.std.proofs.Common.{◌≡◌, Bool, true, false, List, [], ◌∷◌, map, None, if◌then◌else◌, ◌&&◌, refl, ap, sym, ◌∙◌}
use Rattle.std.specs.List.{list_all}
use Rattle.std.specs.Option.{option_map}
use Rattle.chi_tree.specs.declared.type_tree.TypeTree.{TypeTree}
use Rattle.chi_tree.specs.declared.type_tree.Formal.{Formal}
use Rattle.chi_tree.specs.declared.expr.Expr.{Expr, Expr-F, out-Expr, roll-Expr, roll-out-Expr, out-roll-Expr}
use Rattle.chi_tree.specs.declared.expr.Expr.TheVariants as expr
use Rattle.chi_tree.specs.declared.expr.Postfix.{Postfix, Postfix-F, out-Postfix, roll-Postfix, roll-out-Postfix, out-roll-Postfix}
use Rattle.chi_tree.specs.declared.expr.Postfix.TheVariants as postfix
use Rattle.chi_tree.specs.declared.expr.Entry.{Entry}
use Rattle.chi_tree.specs.declared.expr.Link.{Link}
use Rattle.chi_tree.specs.View.{nowhere}
use Rattle.chi_tree.specs.Statements.{is_step_in, name_target, target_in, as_target}
use Rattle.chi_tree_laws.specs.Unplaced.{unplaced_name, unplaced_expr, unplaced_postfix, unplaced_type, unplaced_entry, unplaced_link}
use Rattle.chi_tree_laws.specs.UnplacedStatements.{unplaced_target}
use Rattle.chi_tree_laws.proofs.UnplacedTrees.{without-Chain, without-Prefix, without-Relation, without-Power, without-Part, without-Int, without-Real, without-Text, without-Bool, without-Time, without-Named, without-Call, without-Cast, without-Round, without-TupleOf, without-ListOf, without-SetOf, without-DictOf, without-EmptyList, without-EmptySet, without-EmptyDict, without-Index, without-Slice, without-Field}

abbrev Layer : Type 0
Layer = Expr-F Expr Postfix TypeTree Entry Link Formal

abbrev PostfixLayer : Type 0
PostfixLayer = Postfix-F Expr Postfix TypeTree Entry Link Formal

-- the outermost node without its place, and the parts of it without theirs
abbrev layer_without : Layer → Layer
layer_without (Expr-F.Chain first links) = Expr-F.Chain (unplaced_expr first) (map unplaced_link links)
layer_without (Expr-F.Prefix sign place operand) = Expr-F.Prefix sign nowhere (unplaced_expr operand)
layer_without (Expr-F.Relation left sign place right) = Expr-F.Relation (unplaced_expr left) sign nowhere (unplaced_expr right)
layer_without (Expr-F.Power base place exponent) = Expr-F.Power (unplaced_expr base) nowhere (unplaced_expr exponent)
layer_without (Expr-F.Part whole postfixes) = Expr-F.Part (unplaced_expr whole) (map unplaced_postfix postfixes)
layer_without (Expr-F.Int digits place) = Expr-F.Int digits nowhere
layer_without (Expr-F.Real digits place) = Expr-F.Real digits nowhere
layer_without (Expr-F.Text text place) = Expr-F.Text text nowhere
layer_without (Expr-F.Bool truth place) = Expr-F.Bool truth nowhere
layer_without (Expr-F.Time place) = Expr-F.Time nowhere
layer_without (Expr-F.Named name) = Expr-F.Named (unplaced_name name)
layer_without (Expr-F.Call name arguments) = Expr-F.Call (unplaced_name name) (map unplaced_expr arguments)
layer_without (Expr-F.Cast word place e) = Expr-F.Cast word nowhere (unplaced_expr e)
layer_without (Expr-F.Round place e) = Expr-F.Round nowhere (unplaced_expr e)
layer_without (Expr-F.TupleOf place parts) = Expr-F.TupleOf nowhere (map unplaced_expr parts)
layer_without (Expr-F.ListOf place items) = Expr-F.ListOf nowhere (map unplaced_expr items)
layer_without (Expr-F.SetOf place items) = Expr-F.SetOf nowhere (map unplaced_expr items)
layer_without (Expr-F.DictOf place entries) = Expr-F.DictOf nowhere (map unplaced_entry entries)
layer_without (Expr-F.EmptyList place t) = Expr-F.EmptyList nowhere (unplaced_type t)
layer_without (Expr-F.EmptySet place t) = Expr-F.EmptySet nowhere (unplaced_type t)
layer_without (Expr-F.EmptyDict place k v) = Expr-F.EmptyDict nowhere (unplaced_type k) (unplaced_type v)

-- the outermost node of what is made of one
with_layer : {e : Expr} {x : Layer} → e ≡ roll-Expr x → out-Expr e ≡ x
with_layer {x = x} is = ap out-Expr is ∙ out-roll-Expr x

unplaced_layer : (x : Layer) → out-Expr (unplaced_expr (roll-Expr x)) ≡ layer_without x
unplaced_layer (Expr-F.Chain first links) =
    with_layer (ap unplaced_expr (expr.rolls-Chain first links) ∙ without-Chain first links ∙ sym (expr.rolls-Chain (unplaced_expr first) (map unplaced_link links)))
unplaced_layer (Expr-F.Prefix sign place operand) =
    with_layer (ap unplaced_expr (expr.rolls-Prefix sign place operand) ∙ without-Prefix sign place operand ∙ sym (expr.rolls-Prefix sign nowhere (unplaced_expr operand)))
unplaced_layer (Expr-F.Relation left sign place right) =
    with_layer (ap unplaced_expr (expr.rolls-Relation left sign place right) ∙ without-Relation left sign place right ∙ sym (expr.rolls-Relation (unplaced_expr left) sign nowhere (unplaced_expr right)))
unplaced_layer (Expr-F.Power base place exponent) =
    with_layer (ap unplaced_expr (expr.rolls-Power base place exponent) ∙ without-Power base place exponent ∙ sym (expr.rolls-Power (unplaced_expr base) nowhere (unplaced_expr exponent)))
unplaced_layer (Expr-F.Part whole postfixes) =
    with_layer (ap unplaced_expr (expr.rolls-Part whole postfixes) ∙ without-Part whole postfixes ∙ sym (expr.rolls-Part (unplaced_expr whole) (map unplaced_postfix postfixes)))
unplaced_layer (Expr-F.Int digits place) =
    with_layer (ap unplaced_expr (expr.rolls-Int digits place) ∙ without-Int digits place ∙ sym (expr.rolls-Int digits nowhere))
unplaced_layer (Expr-F.Real digits place) =
    with_layer (ap unplaced_expr (expr.rolls-Real digits place) ∙ without-Real digits place ∙ sym (expr.rolls-Real digits nowhere))
unplaced_layer (Expr-F.Text text place) =
    with_layer (ap unplaced_expr (expr.rolls-Text text place) ∙ without-Text text place ∙ sym (expr.rolls-Text text nowhere))
unplaced_layer (Expr-F.Bool truth place) =
    with_layer (ap unplaced_expr (expr.rolls-Bool truth place) ∙ without-Bool truth place ∙ sym (expr.rolls-Bool truth nowhere))
unplaced_layer (Expr-F.Time place) =
    with_layer (ap unplaced_expr (expr.rolls-Time place) ∙ without-Time place ∙ sym (expr.rolls-Time nowhere))
unplaced_layer (Expr-F.Named name) =
    with_layer (ap unplaced_expr (expr.rolls-Named name) ∙ without-Named name ∙ sym (expr.rolls-Named (unplaced_name name)))
unplaced_layer (Expr-F.Call name arguments) =
    with_layer (ap unplaced_expr (expr.rolls-Call name arguments) ∙ without-Call name arguments ∙ sym (expr.rolls-Call (unplaced_name name) (map unplaced_expr arguments)))
unplaced_layer (Expr-F.Cast word place e) =
    with_layer (ap unplaced_expr (expr.rolls-Cast word place e) ∙ without-Cast word place e ∙ sym (expr.rolls-Cast word nowhere (unplaced_expr e)))
unplaced_layer (Expr-F.Round place e) =
    with_layer (ap unplaced_expr (expr.rolls-Round place e) ∙ without-Round place e ∙ sym (expr.rolls-Round nowhere (unplaced_expr e)))
unplaced_layer (Expr-F.TupleOf place parts) =
    with_layer (ap unplaced_expr (expr.rolls-TupleOf place parts) ∙ without-TupleOf place parts ∙ sym (expr.rolls-TupleOf nowhere (map unplaced_expr parts)))
unplaced_layer (Expr-F.ListOf place items) =
    with_layer (ap unplaced_expr (expr.rolls-ListOf place items) ∙ without-ListOf place items ∙ sym (expr.rolls-ListOf nowhere (map unplaced_expr items)))
unplaced_layer (Expr-F.SetOf place items) =
    with_layer (ap unplaced_expr (expr.rolls-SetOf place items) ∙ without-SetOf place items ∙ sym (expr.rolls-SetOf nowhere (map unplaced_expr items)))
unplaced_layer (Expr-F.DictOf place entries) =
    with_layer (ap unplaced_expr (expr.rolls-DictOf place entries) ∙ without-DictOf place entries ∙ sym (expr.rolls-DictOf nowhere (map unplaced_entry entries)))
unplaced_layer (Expr-F.EmptyList place t) =
    with_layer (ap unplaced_expr (expr.rolls-EmptyList place t) ∙ without-EmptyList place t ∙ sym (expr.rolls-EmptyList nowhere (unplaced_type t)))
unplaced_layer (Expr-F.EmptySet place t) =
    with_layer (ap unplaced_expr (expr.rolls-EmptySet place t) ∙ without-EmptySet place t ∙ sym (expr.rolls-EmptySet nowhere (unplaced_type t)))
unplaced_layer (Expr-F.EmptyDict place k v) =
    with_layer (ap unplaced_expr (expr.rolls-EmptyDict place k v) ∙ without-EmptyDict place k v ∙ sym (expr.rolls-EmptyDict nowhere (unplaced_type k) (unplaced_type v)))

out_unplaced : (e : Expr) → out-Expr (unplaced_expr e) ≡ layer_without (out-Expr e)
out_unplaced e = ap (λ d. out-Expr (unplaced_expr d)) (sym (roll-out-Expr e)) ∙ unplaced_layer (out-Expr e)

-- the same steps are indexes and fields

-- the same of a step
with_step : {p : Postfix} (x : PostfixLayer) → p ≡ roll-Postfix x → is_step_in (out-Postfix p) ≡ is_step_in x
with_step x is = ap (λ p. is_step_in (out-Postfix p)) is ∙ ap is_step_in (out-roll-Postfix x)

layer_step : (x : PostfixLayer) → is_step_in (out-Postfix (unplaced_postfix (roll-Postfix x))) ≡ is_step_in x
layer_step (Postfix-F.Index place e) =
    with_step _ (ap unplaced_postfix (postfix.rolls-Index place e) ∙ without-Index place e ∙ sym (postfix.rolls-Index nowhere (unplaced_expr e)))
layer_step (Postfix-F.Slice place from upto has_by by) =
    with_step _ (ap unplaced_postfix (postfix.rolls-Slice place from upto has_by by) ∙ without-Slice place from upto has_by by ∙ sym (postfix.rolls-Slice nowhere (option_map unplaced_expr from) (option_map unplaced_expr upto) has_by (option_map unplaced_expr by)))
layer_step (Postfix-F.Field name) =
    with_step _ (ap unplaced_postfix (postfix.rolls-Field name) ∙ without-Field name ∙ sym (postfix.rolls-Field (unplaced_name name)))

same_step : (p : Postfix) → is_step_in (out-Postfix (unplaced_postfix p)) ≡ is_step_in (out-Postfix p)
same_step p = ap (λ q. is_step_in (out-Postfix (unplaced_postfix q))) (sym (roll-out-Postfix p)) ∙ layer_step (out-Postfix p)

same_steps : (ps : List Postfix) → list_all (λ p. is_step_in (out-Postfix p)) (map unplaced_postfix ps) ≡ list_all (λ p. is_step_in (out-Postfix p)) ps
same_steps [] = refl
same_steps (p ∷ ps) = λ i. same_step p i && same_steps ps i

-- targets

same_name : (x : Layer) (steps : List Postfix) → name_target (layer_without x) (map unplaced_postfix steps) ≡ option_map unplaced_target (name_target x steps)
same_name (Expr-F.Named name) steps = refl
same_name _ steps = refl

same_whole : (b : Bool) (x : Layer) (steps : List Postfix)
    → (if b then name_target (layer_without x) (map unplaced_postfix steps) else None) ≡ option_map unplaced_target (if b then name_target x steps else None)
same_whole true x steps = same_name x steps
same_whole false x steps = refl

same_target : (x : Layer) → target_in (layer_without x) ≡ option_map unplaced_target (target_in x)
same_target (Expr-F.Part e steps) =
    (λ i. if same_steps steps i then name_target (out_unplaced e i) (map unplaced_postfix steps) else None)
    ∙ same_whole (list_all (λ p. is_step_in (out-Postfix p)) steps) (out-Expr e) steps
same_target x = same_name x []

pub shown_as_target : (e : Expr) → as_target (unplaced_expr e) ≡ option_map unplaced_target (as_target e)
shown_as_target e = ap target_in (out_unplaced e) ∙ same_target (out-Expr e)
