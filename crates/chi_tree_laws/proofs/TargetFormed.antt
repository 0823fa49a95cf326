-- Where an expression is formed and is a target too, it is a formed target.
use Rattle.std.proofs.Common.{◌≡◌, ℕ, Bool, true, false, List, [], ◌∷◌, None, if◌then◌else◌, ◌&&◌, ap, sym, ◌∙◌, subst}
use Rattle.std.specs.List.{list_all}
use Rattle.chi_tree.specs.declared.operator.PrefixSign.TheVariants as prefix
use Rattle.chi_tree.specs.declared.type_tree.TypeTree.{TypeTree}
use Rattle.chi_tree.specs.declared.type_tree.Formal.{Formal}
use Rattle.chi_tree.specs.declared.expr.Expr.{Expr, Expr-F, out-Expr, roll-Expr, out-roll-Expr}
use Rattle.chi_tree.specs.declared.expr.Expr.TheVariants as expr
use Rattle.chi_tree.specs.declared.expr.Entry.{Entry}
use Rattle.chi_tree.specs.declared.expr.Link.{Link}
use Rattle.chi_tree.specs.declared.expr.Postfix.{Postfix, Postfix-F, out-Postfix, roll-Postfix, out-roll-Postfix}
use Rattle.chi_tree.specs.declared.expr.Postfix.TheVariants as postfix
use Rattle.chi_tree.specs.Statements.{as_target, target_in, name_target, is_step_in, target_or_none}
use Rattle.chi_tree.specs.View.{chained, parted}
use Rattle.chi_tree_laws.specs.Levels.{Level}
use Rattle.chi_tree_laws.specs.Expressions.{FormedExpr, FormedPostfix, FormedPostfixes}
use Rattle.chi_tree_laws.specs.Expressions as formed
use Rattle.chi_tree_laws.specs.Statements.{FormedSteps, FormedTarget}
use Rattle.chi_tree_laws.specs.Statements as stated

abbrev Layer : Type 0
Layer = Expr-F Expr Postfix TypeTree Entry Link Formal

abbrev PostfixLayer : Type 0
PostfixLayer = Postfix-F Expr Postfix TypeTree Entry Link Formal

-- the target that an expression is, if it is one
abbrev Aimed : ℕ → Expr → Type 0
Aimed d e = FormedTarget d (target_or_none (as_target e))

-- an expression with this layer is the target that the layer is
layered : {d : ℕ} {e : Expr} (x : Layer) → roll-Expr x ≡ e → FormedTarget d (target_or_none (target_in x)) → Aimed d e
layered {d = d} x rolls p =
    subst (λ o. FormedTarget d (target_or_none o)) (sym (ap target_in (out-roll-Expr x)) ∙ ap as_target rolls) p

-- steps that are indexes and fields

abbrev StepsIf : Bool → ℕ → List Postfix → Type 0
StepsIf true d ps = FormedSteps d ps
StepsIf false d ps = Unit {0}

abbrev StepIf : Bool → ℕ → Postfix → Type 0
StepIf b d p = (ps : List Postfix) → FormedSteps d ps → StepsIf b d (p ∷ ps)

step_layered : {d : ℕ} {p : Postfix} (x : PostfixLayer) → roll-Postfix x ≡ p → StepIf (is_step_in x) d p → StepIf (is_step_in (out-Postfix p)) d p
step_layered {d = d} {p = p} x rolls s =
    subst (λ b. StepIf b d p) (sym (ap is_step_in (out-roll-Postfix x)) ∙ ap (λ q. is_step_in (out-Postfix q)) rolls) s

step_formed : {d : ℕ} {p : Postfix} → FormedPostfix d p → StepIf (is_step_in (out-Postfix p)) d p
step_formed (formed.index {place = place} {e = e} p) =
    step_layered (Postfix-F.Index place e) (postfix.rolls-Index place e) (λ ps s. stated.index_step p s)
step_formed (formed.slice {place = place} {from = from} {upto = upto} p q) =
    step_layered (Postfix-F.Slice place from upto false None) (postfix.rolls-Slice place from upto false None) (λ ps s. tt)
step_formed (formed.slice_by {place = place} {from = from} {upto = upto} {by = by} p q r) =
    step_layered (Postfix-F.Slice place from upto true by) (postfix.rolls-Slice place from upto true by) (λ ps s. tt)
step_formed (formed.field {name = n}) = step_layered (Postfix-F.Field n) (postfix.rolls-Field n) (λ ps s. stated.field_step s)

both : {d : ℕ} (p : Postfix) (ps : List Postfix) (b c : Bool) → StepIf b d p → StepsIf c d ps → StepsIf (b && c) d (p ∷ ps)
both p ps true true s t = s ps t
both p ps true false s t = tt
both p ps false c s t = tt

steps_formed : {d : ℕ} {ps : List Postfix} → FormedPostfixes d ps → StepsIf (list_all (λ p. is_step_in (out-Postfix p)) ps) d ps
steps_formed formed.no_postfixes = stated.no_steps
steps_formed (formed.postfixes {p = p} {ps = ps} q qs) =
    both p ps (is_step_in (out-Postfix p)) (list_all (λ p. is_step_in (out-Postfix p)) ps) (step_formed q) (steps_formed qs)

-- a name with these steps
named_formed : {d : ℕ} {ps : List Postfix} (x : Layer) → FormedSteps d ps → FormedTarget d (target_or_none (name_target x ps))
named_formed (Expr-F.Named n) s = s
named_formed _ s = stated.no_steps

chosen : {d : ℕ} (ps : List Postfix) (b : Bool) (x : Layer) → StepsIf b d ps
    → FormedTarget d (target_or_none (if b then name_target x ps else None))
chosen ps true x s = named_formed x s
chosen ps false x s = stated.no_steps

-- an operand alone is what it is

chain_formed : {d : ℕ} (e : Expr) (links : List Link) → Aimed d e → Aimed d (chained e links)
chain_formed e [] p = p
chain_formed e (l ∷ ls) p = layered (Expr-F.Chain e (l ∷ ls)) (expr.rolls-Chain e (l ∷ ls)) stated.no_steps

part_formed : {d : ℕ} (e : Expr) (ps : List Postfix) → FormedPostfixes d ps → Aimed d e → Aimed d (parted e ps)
part_formed e [] q p = p
part_formed e (x ∷ xs) q p =
    layered (Expr-F.Part e (x ∷ xs)) (expr.rolls-Part e (x ∷ xs))
    (chosen (x ∷ xs) (list_all (λ p. is_step_in (out-Postfix p)) (x ∷ xs)) (out-Expr e) (steps_formed q))

pub target_formed : {level : Level} {d : ℕ} {e : Expr} → FormedExpr level d e → FormedTarget d (target_or_none (as_target e))
target_formed (formed.disjunction {links = links} p q) = chain_formed _ links (target_formed p)
target_formed (formed.conjunction {links = links} p q) = chain_formed _ links (target_formed p)
target_formed (formed.negation {place = place} {e = e} p) = layered (Expr-F.Prefix prefix.Not place e) (expr.rolls-Prefix prefix.Not place e) stated.no_steps
target_formed (formed.no_negation p) = target_formed p
target_formed (formed.relation {sign = sign} {place = place} {e = e} {f = f} p q) =
    layered (Expr-F.Relation e sign place f) (expr.rolls-Relation e sign place f) stated.no_steps
target_formed (formed.no_relation p) = target_formed p
target_formed (formed.sum {links = links} p q) = chain_formed _ links (target_formed p)
target_formed (formed.product {links = links} p q) = chain_formed _ links (target_formed p)
target_formed (formed.prefixed {sign = sign} {place = place} {e = e} is p) = layered (Expr-F.Prefix sign place e) (expr.rolls-Prefix sign place e) stated.no_steps
target_formed (formed.no_prefix p) = target_formed p
target_formed (formed.power {place = place} {e = e} {f = f} p q) = layered (Expr-F.Power e place f) (expr.rolls-Power e place f) stated.no_steps
target_formed (formed.no_power p) = target_formed p
target_formed (formed.post {postfixes = ps} p q) = part_formed _ ps q (target_formed p)
target_formed (formed.int {digits = digits} {place = place}) = layered (Expr-F.Int digits place) (expr.rolls-Int digits place) stated.no_steps
target_formed (formed.real {digits = digits} {place = place}) = layered (Expr-F.Real digits place) (expr.rolls-Real digits place) stated.no_steps
target_formed (formed.text {text = text} {place = place}) = layered (Expr-F.Text text place) (expr.rolls-Text text place) stated.no_steps
target_formed (formed.bool {truth = truth} {place = place}) = layered (Expr-F.Bool truth place) (expr.rolls-Bool truth place) stated.no_steps
target_formed (formed.time {place = place}) = layered (Expr-F.Time place) (expr.rolls-Time place) stated.no_steps
target_formed (formed.name {name = n}) = layered (Expr-F.Named n) (expr.rolls-Named n) stated.no_steps
target_formed (formed.call {name = n} {es = es} p) = layered (Expr-F.Call n es) (expr.rolls-Call n es) stated.no_steps
target_formed (formed.cast {word = word} {place = place} {e = e} p) = layered (Expr-F.Cast word place e) (expr.rolls-Cast word place e) stated.no_steps
target_formed (formed.round {place = place} {e = e} p) = layered (Expr-F.Round place e) (expr.rolls-Round place e) stated.no_steps
target_formed (formed.tuple_of {place = place} {e = e} {f = f} {es = es} p) =
    layered (Expr-F.TupleOf place (e ∷ f ∷ es)) (expr.rolls-TupleOf place (e ∷ f ∷ es)) stated.no_steps
target_formed (formed.list_of {place = place} {e = e} {es = es} p) = layered (Expr-F.ListOf place (e ∷ es)) (expr.rolls-ListOf place (e ∷ es)) stated.no_steps
target_formed (formed.set_of {place = place} {e = e} {es = es} p) = layered (Expr-F.SetOf place (e ∷ es)) (expr.rolls-SetOf place (e ∷ es)) stated.no_steps
target_formed (formed.dict_of {place = place} {e = e} {es = es} p) = layered (Expr-F.DictOf place (e ∷ es)) (expr.rolls-DictOf place (e ∷ es)) stated.no_steps
target_formed (formed.empty_list {place = place} {t = t} p) = layered (Expr-F.EmptyList place t) (expr.rolls-EmptyList place t) stated.no_steps
target_formed (formed.empty_set {place = place} {t = t} p) = layered (Expr-F.EmptySet place t) (expr.rolls-EmptySet place t) stated.no_steps
target_formed (formed.empty_dict {place = place} {k = k} {v = v} p q) =
    layered (Expr-F.EmptyDict place k v) (expr.rolls-EmptyDict place k v) stated.no_steps
