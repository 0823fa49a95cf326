-- What the checker makes of a program of a short source has short text literals.
use Rattle.std.proofs.Common.{◌≡◌, ℕ, true, false, ◌++◌, List, [], ◌∷◌, map, length, take, Option, Some, None, subst}
use Rattle.std.specs.Prelude.{option_map}
use Rattle.std.specs.Option.{option_and_then}
use Rattle.chi_token.specs.declared.place.Place.{Place}
use Rattle.chi_token.specs.declared.token.Token.TheVariants as token
use Rattle.chi_token.specs.declared.sign.Sign.TheVariants as sign
use Rattle.chi_token.specs.declared.keyword.Keyword.TheVariants as keyword
use Rattle.chi_tree.specs.declared.definition.Definition.{Definition}
use Rattle.chi_tree.specs.declared.definition.Definition.TheVariants as definition
use Rattle.chi_tree.specs.declared.definition.Item.{Item}
use Rattle.chi_tree.specs.declared.definition.Program.{Program}
use Rattle.chi_tree.specs.declared.expr.Expr.{Expr}
use Rattle.chi_tree.specs.declared.statement.Step.{Step}
use Rattle.chi_tree.specs.declared.type_tree.Formal.{Formal}
use Rattle.chi_tree.specs.declared.type_tree.Name.{Name}
use Rattle.chi_tree.specs.declared.type_tree.TypeTree.{TypeTree}
use Rattle.chi_tree_spell.specs.Words.{all}
use Rattle.chi_tree_spell.specs.Expressions.{round, spelled_expr, spelled_type, spelled_formals}
use Rattle.chi_tree_spell.specs.Statements.{spelled_step, spelled_head, spelled_body, spelled_definition, spelled_item, spelled, semicolon_if}
use Rattle.chi_tree_laws.specs.Levels as level
use Rattle.chi_tree_laws.specs.Expressions.{FormedExpr}
use Rattle.chi_tree_laws.specs.Definitions as formed
use Rattle.chi_tree_laws.specs.Definitions.{FormedDefinition, FormedItems}
use Rattle.chi_tree_laws.specs.Statements.{FormedInner}
use Rattle.chi_types.specs.declared.ty.Ty.{Ty}
use Rattle.chi_core.specs.declared.experiment.XperDef.{XperDef}
use Rattle.chi_core.specs.declared.program.ConstDef.{ConstDef}
use Rattle.chi_core.specs.declared.program.Core.{Core}
use Rattle.chi_core.specs.declared.program.FuncDef.{FuncDef}
use Rattle.chi_core.specs.declared.program.ProcDef.{ProcDef}
use Rattle.chi_core.specs.declared.statement.CStat.{CStat}
use Rattle.chi_check_types.specs.declared.site.Site.TheVariants as site
use Rattle.chi_check_types.specs.Names.{Names}
use Rattle.chi_check_laws.specs.Below.chi_check_stat_rules.specs.Values.{constant_value}
use Rattle.chi_check_expr.specs.Typing.{typing}
use Rattle.chi_check_expr.proofs.Kept.{Each, IfGiven}
use Rattle.chi_check_laws.specs.Below.chi_check_stat_lines.specs.Stated.{in_turn}
use Rattle.chi_check_laws.specs.Below.chi_check_stat.specs.Statements.{stating_all}
use Rattle.chi_check_laws.specs.Below.chi_check_experiments.specs.Experiments.{trying_all}
use Rattle.chi_check_laws.specs.Below.chi_check_headers.specs.declared.header.Header.{Header}
use Rattle.chi_check_laws.specs.Below.chi_check_headers.specs.Definitions.{early_defined, constant, with_all_late, with_all_headed, sketching}
use Rattle.chi_check_laws.specs.Below.chi_check_headers.specs.Headers.{all_types, type_in, header_in}
use Rattle.chi_check_laws.specs.Below.chi_check.specs.Bodies.{formals_bound, body_in, function, process, result_of, exit_of, function_made, process_made, function_of, process_of, functions_of, processes_of, experiment, experiment_of, experiments_of}
use Rattle.chi_check_laws.specs.Below.chi_check.specs.Programs.{core_of, core, definitions_checked, checked, no_names, first_early, first_named, first_model}
use Rattle.chi_check_laws.specs.Texts.{statement_texts, body_texts}
use Rattle.chi_check_laws.specs.Trials.{trial_texts, trials_texts}
use Rattle.chi_check_laws.specs.CheckedBodies.{TextsAreShort}
use Rattle.chi_check_laws.proofs.Positions.{each_every}
use Rattle.chi_check_parsed.proofs.Tokens.{AllFit, fit_left, fit_right}
use Rattle.chi_check_parsed.proofs.Short.{on_map, on_any, on_then, Short}
use Rattle.chi_check_parsed.proofs.Trees.{expr_short}
use Rattle.chi_check_parsed.proofs.Lines.{StatementShort, all_mapped, any_given, constant_on}
use Rattle.chi_check_parsed.proofs.Parts.{TurnShort, both_on, turns_short}
use Rattle.chi_check_parsed.proofs.Blocks.{body_short}
use Rattle.chi_check_parsed.proofs.ModelRuns.{TrialShort}
use Rattle.chi_check_parsed.proofs.Trials.{trials_short}
use Rattle.chi_check_parsed.proofs.Premises.{definitions, item_spelled}

abbrev ConstantShort : ConstDef → Type 0
ConstantShort c = Short c.value

abbrev FunctionShort : FuncDef → Type 0
FunctionShort f = body_texts f.body ≡ true

abbrev ProcessShort : ProcDef → Type 0
ProcessShort d = body_texts d.body ≡ true

abbrev ExperimentShort : XperDef → Type 0
ExperimentShort x = trials_texts x.body ≡ true

abbrev BodyShort : List CStat × List Ty → Type 0
BodyShort b = body_texts b.0 ≡ true

abbrev pub CoreShort : Core → Type 0
CoreShort c = Each ConstantShort c.consts × Each FunctionShort c.funcs × Each ProcessShort c.procs × Each ExperimentShort c.xpers

-- ---- bodies

-- so are its tokens, of all those of what has it
callable_fits : (fs : List Formal) (xs : List Step) → AllFit (spelled_body fs xs) → AllFit (all (map spelled_step xs))
callable_fits fs xs fit =
    let rest : AllFit (token.Sign sign.Colon ∷ all (map spelled_step xs) ++ token.Word keyword.EndWord ∷ []) = fit_right (round (spelled_formals fs)) _ fit in
    fit_left (all (map spelled_step xs)) _ rest.1

body_on : (b d : ℕ) (h : Header) (fs : List Formal) (xs : List Step) (names : Names) → FormedInner b d xs → AllFit (spelled_body fs xs) → IfGiven BodyShort (body_in h fs xs names).made
body_on b d h fs xs names f fit =
    let bound = in_turn (formals_bound fs h.formals) (record { names = names; slots = [] }) in
    let body = stating_all h.home false xs bound.next in
    both_on (λ formals. Unit {0}) (Each StatementShort) BodyShort (λ formals b. (b, body.next.slots)) bound.made body.made (λ formals b h k. all_mapped statement_texts b k)
    (any_given bound.made) (body_short h.home b d xs f (callable_fits fs xs fit) false bound.next)

function_on : (b d : ℕ) (name : Name) (h : Header) (fs : List Formal) (xs : List Step) (names : Names) → FormedInner b d xs → AllFit (spelled_body fs xs) → IfGiven (Each FunctionShort) (function_made name.text h (body_in h fs xs names).made)
function_on b d name h fs xs names f fit =
    let body = (body_in h fs xs names).made in
    on_then (λ params. Unit {0}) (Each FunctionShort) (λ params. option_and_then (λ r. option_map (function name.text params r) body) (result_of h.home)) (all_types h.formals)
    (λ params k. on_then (λ r. Unit {0}) (Each FunctionShort) (λ r. option_map (function name.text params r) body) (result_of h.home)
    (λ r k. on_map BodyShort (Each FunctionShort) (function name.text params r) body (λ b k. (k, tt)) (body_on b d h fs xs names f fit)) (any_given (result_of h.home))) (any_given (all_types h.formals))

process_on : (b d : ℕ) (name : Name) (h : Header) (fs : List Formal) (xs : List Step) (names : Names) → FormedInner b d xs → AllFit (spelled_body fs xs) → IfGiven (Each ProcessShort) (process_made name.text h (body_in h fs xs names).made)
process_on b d name h fs xs names f fit =
    let body = (body_in h fs xs names).made in
    on_then (λ params. Unit {0}) (Each ProcessShort) (λ params. option_and_then (λ e. option_map (process name.text params e) body) (exit_of h.home)) (all_types h.formals)
    (λ params k. on_then (λ e. Unit {0}) (Each ProcessShort) (λ e. option_map (process name.text params e) body) (exit_of h.home)
    (λ e k. on_map BodyShort (Each ProcessShort) (process name.text params e) body (λ b k. (k, tt)) (body_on b d h fs xs names f fit)) (any_given (exit_of h.home))) (any_given (all_types h.formals))

-- ---- definitions

-- what comes of it at each of its turns
record DefinitionShort (x : Definition) : Type 0 where
  early : (names : Names) → TurnShort ConstantShort (early_defined names x)
  function : (h : Option Header) → TurnShort FunctionShort (function_of x h)
  process : (h : Option Header) → TurnShort ProcessShort (process_of x h)
  experiment : TurnShort ExperimentShort (experiment_of x)

constant_early : (d : ℕ) (place : Place) (t : TypeTree) (name : Name) (equals : Place) (e : Expr) → FormedExpr level.Expr d e → AllFit (spelled_definition (definition.Const place t name equals e)) → (names : Names) → TurnShort ConstantShort (early_defined names (definition.Const place t name equals e))
constant_early d place t name equals e f fit names s =
    let rest : AllFit (token.Name name.text ∷ token.Sign sign.Assign ∷ spelled_expr e) = fit_right (spelled_type t) _ fit.1 in
    let given = (type_in site.Constant s.names t).given in
    both_on (λ t. Unit {0}) Short (Each ConstantShort) (constant place.line) given (constant_value equals (typing site.Constant s.names e).made given).made (λ t e h k. (k, tt)) (any_given given)
    (constant_on equals (typing site.Constant s.names e).made given (expr_short site.Constant s.names level.Expr d e f rest.1.1))

function_short : (b d : ℕ) (place : Place) (t : TypeTree) (name : Name) (fs : List Formal) (xs : List Step) → FormedInner b d xs → AllFit (spelled_definition (definition.Func place t name fs xs)) → (h : Option Header) → TurnShort FunctionShort (function_of (definition.Func place t name fs xs) h)
function_short b d place t name fs xs f fit None names = tt
function_short b d place t name fs xs f fit (Some h) names =
    let rest : AllFit (token.Name name.text ∷ spelled_body fs xs) = fit_right (spelled_type t) _ fit.1 in
    function_on b d name h fs xs names f rest.1

process_short : (b d : ℕ) (place : Place) (t : Option TypeTree) (name : Name) (fs : List Formal) (xs : List Step) → FormedInner b d xs → AllFit (spelled_head t name ++ spelled_body fs xs) → (h : Option Header) → TurnShort ProcessShort (process_of (definition.Proc place t name fs xs) h)
process_short b d place t name fs xs f fit None names = tt
process_short b d place t name fs xs f fit (Some h) names = process_on b d name h fs xs names f (fit_right (spelled_head t name) (spelled_body fs xs) fit)

model_short : (b d : ℕ) (place : Place) (t : Option TypeTree) (name : Name) (fs : List Formal) (xs : List Step) → FormedInner b d xs → AllFit (spelled_head t name ++ spelled_body fs xs) → (h : Option Header) → TurnShort ProcessShort (process_of (definition.Model place t name fs xs) h)
model_short b d place t name fs xs f fit None names = tt
model_short b d place t name fs xs f fit (Some h) names = process_on b d name h fs xs names f (fit_right (spelled_head t name) (spelled_body fs xs) fit)

experiment_short : (b d : ℕ) (place : Place) (name : Name) (xs : List Step) → FormedInner b d xs → AllFit (spelled_definition (definition.Xper place name xs)) → TurnShort ExperimentShort (experiment_of (definition.Xper place name xs))
experiment_short b d place name xs f fit names =
    let body = trying_all false xs (record { names = names; slots = [] }) in
    on_map (Each TrialShort) (Each ExperimentShort) (experiment name.text body.next.slots) body.made (λ b k. (all_mapped trial_texts b k, tt))
    (trials_short b d xs f (callable_fits [] xs fit.1.1) false (record { names = names; slots = [] }))

definition_short : (b d : ℕ) (x : Definition) → FormedDefinition b d x → AllFit (spelled_definition x) → DefinitionShort x
definition_short _ _ _ formed.enumeration fit = record { early = λ names s. tt; function = λ h names. tt; process = λ h names. tt; experiment = λ names. tt }
definition_short _ _ _ (formed.constant {d = d} {place = place} {at = at} {t = t} {name = name} {e = e} f g) fit = record { early = constant_early d place t name at e g fit; function = λ h names. tt; process = λ h names. tt; experiment = λ names. tt }
definition_short _ _ _ (formed.type_name {name = name} {t = t} f) fit = record { early = λ names s. on_any (Each ConstantShort) (λ t. []) (type_in site.Constant s.names t).given (λ t. tt); function = λ h names. tt; process = λ h names. tt; experiment = λ names. tt }
definition_short _ _ _ (formed.function {b = b} {d = d} {place = place} {t = t} {name = name} {fs = fs} {block = xs} f g k) fit = record { early = λ names s. tt; function = function_short b d place t name fs xs k fit; process = λ h names. tt; experiment = λ names. tt }
definition_short _ _ _ (formed.process {b = b} {d = d} {place = place} {t = t} {name = name} {fs = fs} {block = xs} f g k) fit = record { early = λ names s. tt; function = λ h names. tt; process = process_short b d place t name fs xs k fit.1; experiment = λ names. tt }
definition_short _ _ _ (formed.model {b = b} {d = d} {place = place} {t = t} {name = name} {fs = fs} {block = xs} f g k) fit = record { early = λ names s. tt; function = λ h names. tt; process = model_short b d place t name fs xs k fit.1; experiment = λ names. tt }
definition_short _ _ _ (formed.experiment {b = b} {place = place} {name = name} {block = xs} k) fit = record { early = λ names s. tt; function = λ h names. tt; process = λ h names. tt; experiment = experiment_short b _ place name xs k fit }

definitions_short : (b d : ℕ) (items : List Item) → FormedItems b d items → AllFit (all (map spelled_item items)) → Each DefinitionShort (definitions items)
definitions_short _ _ _ (formed.one_item {b = b} {d = d} {definition = x} {semicolon = s} f) fit = (definition_short b d x f (item_spelled x s _ fit), tt)
definitions_short _ _ _ (formed.items {b = b} {d = d} {definition = x} {semicolon = s} {more = more} f fs) fit =
    (definition_short b d x f (item_spelled x s _ fit), definitions_short b d more fs (fit_right (spelled_definition x ++ semicolon_if s) _ fit))

earlies : (names : Names) (ds : List Definition) → Each DefinitionShort ds → Each (TurnShort ConstantShort) (map (early_defined names) ds)
earlies names [] h = tt
earlies names (d ∷ ds) h = (h.0.early names, earlies names ds h.1)

functions : (ds : List Definition) (hs : List (Option Header)) → Each DefinitionShort ds → Each (TurnShort FunctionShort) (functions_of ds hs)
functions [] hs k = tt
functions (d ∷ ds) [] k = tt
functions (d ∷ ds) (h ∷ hs) k = (k.0.function h, functions ds hs k.1)

processes : (ds : List Definition) (hs : List (Option Header)) → Each DefinitionShort ds → Each (TurnShort ProcessShort) (processes_of ds hs)
processes [] hs k = tt
processes (d ∷ ds) [] k = tt
processes (d ∷ ds) (h ∷ hs) k = (k.0.process h, processes ds hs k.1)

experiments : (ds : List Definition) → Each DefinitionShort ds → Each (TurnShort ExperimentShort) (experiments_of ds)
experiments [] k = tt
experiments (d ∷ ds) k = (k.0.experiment, experiments ds k.1)

-- ---- programs

core_on : (es : Option (List (List (List ℕ)))) (cs : Option (List ConstDef)) (fs : Option (List FuncDef)) (ps : Option (List ProcDef)) (xs : Option (List XperDef)) (model : Option ℕ)
    → IfGiven (Each ConstantShort) cs → IfGiven (Each FunctionShort) fs → IfGiven (Each ProcessShort) ps → IfGiven (Each ExperimentShort) xs → IfGiven CoreShort (core_of es cs fs ps xs model)
core_on None cs fs ps xs model h k l m = tt
core_on (Some es) None fs ps xs model h k l m = tt
core_on (Some es) (Some cs) None ps xs model h k l m = tt
core_on (Some es) (Some cs) (Some fs) None xs model h k l m = tt
core_on (Some es) (Some cs) (Some fs) (Some ps) None model h k l m = tt
core_on (Some es) (Some cs) (Some fs) (Some ps) (Some xs) None h k l m = tt
core_on (Some es) (Some cs) (Some fs) (Some ps) (Some xs) (Some model) h k l m = (h, k, l, m)

definitions_on : (ds : List Definition) (last : Place) → Each DefinitionShort ds → IfGiven CoreShort (definitions_checked ds last).made
definitions_on ds last h =
    let sketch = in_turn (map sketching ds) no_names in
    let early = in_turn (map (early_defined sketch.next.all) ds) (first_early sketch.next.early) in
    let late = with_all_late sketch.next.all early.next.names ds in
    let given = map (λ h. h.given) (map (header_in late) ds) in
    let named = with_all_headed sketch.next.all ds given (first_named (take (length early.next.names) late)) in
    let funcs = in_turn (functions_of ds given) named.names in
    let procs = in_turn (processes_of ds given) funcs.next in
    core_on sketch.made early.made funcs.made procs.made (in_turn (experiments_of ds) procs.next).made (first_model 0 ds)
    (turns_short ConstantShort (map (early_defined sketch.next.all) ds) (earlies sketch.next.all ds h) (first_early sketch.next.early)) (turns_short FunctionShort (functions_of ds given) (functions ds given h) named.names)
    (turns_short ProcessShort (processes_of ds given) (processes ds given h) funcs.next) (turns_short ExperimentShort (experiments_of ds) (experiments ds h) procs.next)

checked_on : (b d : ℕ) (tree : Program) → FormedItems b d tree.items → AllFit (spelled tree) → IfGiven CoreShort (checked tree).made
unfolding checked
checked_on b d tree f fit = definitions_on (definitions tree.items) tree.last (definitions_short b d tree.items f fit)

pub texts_short : (b d : ℕ) (tree : Program) (core : Core) → FormedItems b d tree.items → AllFit (spelled tree) → (checked tree).made ≡ Some core → TextsAreShort core
texts_short b d tree core f fit e =
    let short : CoreShort core = subst (IfGiven CoreShort) e (checked_on b d tree f fit) in
    record {
      constants = each_every ConstantShort core.consts short.0;
      functions = each_every FunctionShort core.funcs short.1;
      processes = each_every ProcessShort core.procs short.2;
      experiments = each_every ExperimentShort core.xpers short.3;
    }
