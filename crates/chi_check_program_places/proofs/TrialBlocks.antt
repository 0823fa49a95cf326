-- What each kind of statement of an experiment comes to, of what its parts come to, is the same without places, but for its
-- lines.
use Rattle.std.proofs.Common.{◌≡◌, ℕ, Bool, true, List, [], ◌∷◌, map, Option, refl, sym, ap, ◌∙◌}
use Rattle.std.specs.Prelude.{option_map}
use Rattle.chi_tree.specs.declared.expr.Expr.{Expr}
use Rattle.chi_tree.specs.declared.statement.Statement.{Statement-F}
use Rattle.chi_tree.specs.View.{nowhere}
use Rattle.chi_tree_laws.specs.Unplaced.{unplaced_expr, unplaced_type}
use Rattle.chi_tree_laws.specs.UnplacedStatements.{unplaced_variable, unplaced_target, unplaced_walk, unplaced_communication, unplaced_element}
use Rattle.chi_core.specs.declared.experiment.XBranch.{XBranch}
use Rattle.chi_core.specs.declared.experiment.XStat.{XStat}
use Rattle.chi_core.specs.declared.experiment.XStat.TheVariants as trial
use Rattle.chi_core.specs.declared.expression.CExpr.{CExpr}
use Rattle.chi_core.specs.declared.statement.CStat.{CStat}
use Rattle.chi_core.specs.declared.statement.CStat.TheVariants as statement
use Rattle.chi_check_types.specs.Typed.{Typed, unless}
use Rattle.chi_check.specs.Below.chi_check_stat_rules.specs.declared.home.Home.TheVariants as home
use Rattle.chi_check.specs.Below.chi_check_stat_rules.specs.Endings.{loop_rule}
use Rattle.chi_check.specs.Below.chi_check_stat_lines.specs.declared.state.Binder.TheVariants as binder
use Rattle.chi_check.specs.Below.chi_check_stat_lines.specs.declared.state.Opened.{Opened}
use Rattle.chi_check.specs.Below.chi_check_stat_lines.specs.declared.state.State.{State}
use Rattle.chi_check.specs.Below.chi_check_stat_lines.specs.Stated.{in_turn, staying, alone}
use Rattle.chi_check.specs.Below.chi_check_stat_lines.specs.States.{closed, block, Going, each_in}
use Rattle.chi_check.specs.Below.chi_check_stat_lines.specs.Values.{test_in}
use Rattle.chi_check.specs.Below.chi_check_stat_lines.specs.Declarations.{walk_in}
use Rattle.chi_check.specs.Below.chi_check_stat_lines.specs.Lines.{communicating, write_in, return_in, exit_in, finish_in}
use Rattle.chi_check.specs.Below.chi_check_experiments.specs.Experiments.{lined, assignment_tried, chosen, looped, walked, branched, trial_step, trial_branch}
use Rattle.chi_check_program_places.specs.Lineless.{lineless_statement, lineless_xstat, lineless_xbranch}
use Rattle.chi_check_program_places.proofs.By.{typed_by, stated_by, both-second, both-mapped, alone-by, sequence-of}
use Rattle.chi_check_program_places.proofs.Blocks.{going_by, turns-by, block-by, worded}
use Rattle.chi_check_program_places.proofs.Declarations.{walk-in-unplaced}
use Rattle.chi_check_program_places.proofs.LineRules.{loop-unplaced}
use Rattle.chi_check_program_places.proofs.Lines.{communicating-by, write-in-by, return-in-by, exit-in-by, finish-in-by}
use Rattle.chi_check_program_places.proofs.TrialLines.{lined-by, assignment-tried-by, declaration-tried-by}
use Rattle.chi_check_program_places.proofs.Values.{test-unplaced}
use Rattle.chi_check_program_places.proofs.Without.{without-Pass, without-Break, without-Continue}
use Rattle.chi_check_program_places.proofs.WithoutTrials as without

-- ---- what is made of the parts

chosen-same : (line : ℕ) (a : Option (List XBranch)) (b : Option (List XStat))
    → chosen 0 (option_map (map lineless_xbranch) a) (option_map (map lineless_xstat) b) ≡ option_map (map lineless_xstat) (chosen line a b)
chosen-same line a b =
    both-mapped (map lineless_xstat) (map lineless_xbranch) (map lineless_xstat) (λ bs xs. trial.If 0 bs xs ∷ []) (λ bs xs. trial.If line bs xs ∷ [])
    (λ bs xs i. sym (without.without-If line bs xs) i ∷ []) a b

looped-same : (line : ℕ) (a : Option CExpr) (b : Option (List XStat)) → looped 0 a (option_map (map lineless_xstat) b) ≡ option_map (map lineless_xstat) (looped line a b)
looped-same line a b =
    both-second (map lineless_xstat) (map lineless_xstat) (λ e xs. trial.While 0 e xs ∷ []) (λ e xs. trial.While line e xs ∷ [])
    (λ e xs i. sym (without.without-While line e xs) i ∷ []) a b

walked-same : (line : ℕ) (a : Option Opened) (b : Option (List XStat)) → walked 0 a (option_map (map lineless_xstat) b) ≡ option_map (map lineless_xstat) (walked line a b)
walked-same line a b =
    both-second (map lineless_xstat) (map lineless_xstat) (λ w xs. trial.For 0 w.slots w.container xs ∷ []) (λ w xs. trial.For line w.slots w.container xs ∷ [])
    (λ w xs i. sym (without.without-For line w.slots w.container xs) i ∷ []) a b

branched-same : (a : Option CExpr) (b : Option (List XStat)) → branched a (option_map (map lineless_xstat) b) ≡ option_map (map lineless_xbranch) (branched a b)
branched-same a b =
    both-second (map lineless_xbranch) (map lineless_xstat) (λ e xs. record { test = e; block = xs } ∷ []) (λ e xs. record { test = e; block = xs } ∷ [])
    (λ e xs i. sym (without.without-branch e xs) i ∷ []) a b

-- ---- layers

abbrev pub unplaced_layer : Statement-F (Unit {0}) (Going XStat) (Going XBranch) (Going XStat) → Statement-F (Unit {0}) (Going XStat) (Going XBranch) (Going XStat)
unplaced_layer (Statement-F.Declare tree variables) = Statement-F.Declare (unplaced_type tree) (map unplaced_variable variables)
unplaced_layer (Statement-F.Assign targets equals values) = Statement-F.Assign (map unplaced_target targets) nowhere (map unplaced_expr values)
unplaced_layer (Statement-F.Communicate c) = Statement-F.Communicate (unplaced_communication c)
unplaced_layer (Statement-F.Pass place) = Statement-F.Pass nowhere
unplaced_layer (Statement-F.Break place) = Statement-F.Break nowhere
unplaced_layer (Statement-F.Continue place) = Statement-F.Continue nowhere
unplaced_layer (Statement-F.Select place xs) = Statement-F.Select nowhere xs
unplaced_layer (Statement-F.If place xs ys) = Statement-F.If nowhere (map (going_by lineless_xbranch) xs) (map (going_by lineless_xstat) ys)
unplaced_layer (Statement-F.While place e xs) = Statement-F.While nowhere (unplaced_expr e) (map (going_by lineless_xstat) xs)
unplaced_layer (Statement-F.For place walk xs) = Statement-F.For nowhere (unplaced_walk walk) (map (going_by lineless_xstat) xs)
unplaced_layer (Statement-F.Return place e) = Statement-F.Return nowhere (unplaced_expr e)
unplaced_layer (Statement-F.Exit place e) = Statement-F.Exit nowhere (option_map unplaced_expr e)
unplaced_layer (Statement-F.Run place elements) = Statement-F.Run nowhere (map unplaced_element elements)
unplaced_layer (Statement-F.Start place elements) = Statement-F.Start nowhere (map unplaced_element elements)
unplaced_layer (Statement-F.Finish place es) = Statement-F.Finish nowhere (map unplaced_expr es)
unplaced_layer (Statement-F.Write place line text at es) = Statement-F.Write nowhere line text nowhere (map unplaced_expr es)

-- one statement that functions have too
alone-lined : (s : State) (t : Typed CStat) {t' : Typed CStat} → t' ≡ typed_by lineless_statement t → alone s (lined t') ≡ stated_by (map lineless_xstat) (alone s (lined t))
alone-lined s t r = alone-by lineless_xstat s (lined t) (lined-by t r)

pub statement-layer : (o : Statement-F (Unit {0}) (Going XStat) (Going XBranch) (Going XStat)) (loop : Bool) (s : State) → trial_step (unplaced_layer o) loop s ≡ stated_by (map lineless_xstat) (trial_step o loop s)
statement-layer (Statement-F.Declare tree vs) loop s = declaration-tried-by tree vs s
statement-layer (Statement-F.Assign ts equals es) loop s = alone-by lineless_xstat s (assignment_tried s.names ts equals es) (assignment-tried-by s.names ts equals es)
statement-layer (Statement-F.Communicate c) loop s = alone-lined s (communicating home.Experiment s.names c) (communicating-by home.Experiment s.names c)
statement-layer (Statement-F.Pass place) loop s =
    alone-lined s (unless [] (statement.Pass place.line)) (worded home.Experiment [] (statement.Pass 0) (statement.Pass place.line) refl (sym (without-Pass place.line)))
statement-layer (Statement-F.Break place) loop s =
    alone-lined s (unless (loop_rule loop place) (statement.Break place.line))
    (worded home.Experiment (loop_rule loop place) (statement.Break 0) (statement.Break place.line) (loop-unplaced loop place) (sym (without-Break place.line)))
statement-layer (Statement-F.Continue place) loop s =
    alone-lined s (unless (loop_rule loop place) (statement.Continue place.line))
    (worded home.Experiment (loop_rule loop place) (statement.Continue 0) (statement.Continue place.line) (loop-unplaced loop place) (sym (without-Continue place.line)))
statement-layer (Statement-F.Select place xs) loop s = refl
statement-layer (Statement-F.If place xs ys) loop s =
    sequence-of (option_map (map lineless_xbranch)) (option_map (map lineless_xstat)) (option_map (map lineless_xstat)) (chosen 0) (chosen place.line) (chosen-same place.line)
    (in_turn (each_in loop xs) s) (block (each_in loop ys)) (turns-by lineless_xbranch loop xs s) (block-by lineless_xstat loop ys)
statement-layer (Statement-F.While place e xs) loop s =
    sequence-of (λ o. o) (option_map (map lineless_xstat)) (option_map (map lineless_xstat)) (looped 0) (looped place.line) (looped-same place.line)
    (staying s (test_in home.Experiment s.names e)) (block (each_in true xs)) (ap (staying s) (test-unplaced home.Experiment s.names e)) (block-by lineless_xstat true xs)
statement-layer (Statement-F.For place walk xs) loop s =
    ap (closed s) (sequence-of (λ o. o) (option_map (map lineless_xstat)) (option_map (map lineless_xstat)) (walked 0) (walked place.line) (walked-same place.line)
    (walk_in home.Experiment binder.Variable walk s) (in_turn (each_in true xs)) (walk-in-unplaced home.Experiment binder.Variable walk s) (turns-by lineless_xstat true xs))
statement-layer (Statement-F.Return place e) loop s = alone-lined s (return_in home.Experiment s.names place e) (return-in-by home.Experiment s.names place e)
statement-layer (Statement-F.Exit place e) loop s = alone-lined s (exit_in home.Experiment s.names place e) (exit-in-by home.Experiment s.names place e)
statement-layer (Statement-F.Run place es) loop s = refl
statement-layer (Statement-F.Start place es) loop s = refl
statement-layer (Statement-F.Finish place es) loop s = alone-lined s (finish_in home.Experiment s.names place es) (finish-in-by home.Experiment s.names place es)
statement-layer (Statement-F.Write place line text at es) loop s = alone-lined s (write_in home.Experiment s.names place line text at es) (write-in-by home.Experiment s.names place line text at es)

pub branch-layer : (e : Expr) (xs : List (Going XStat)) (loop : Bool) (s : State)
    → trial_branch (record { condition = unplaced_expr e; block = map (going_by lineless_xstat) xs }) loop s ≡ stated_by (map lineless_xbranch) (trial_branch (record { condition = e; block = xs }) loop s)
branch-layer e xs loop s =
    sequence-of (λ o. o) (option_map (map lineless_xstat)) (option_map (map lineless_xbranch)) branched branched branched-same
    (staying s (test_in home.Experiment s.names e)) (block (each_in loop xs)) (ap (staying s) (test-unplaced home.Experiment s.names e)) (block-by lineless_xstat loop xs)
