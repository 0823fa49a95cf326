-- What each kind of statement comes to, of what its parts come to, is the same without places, but for its lines.
use Rattle.std.proofs.Common.{◌≡◌, ℕ, Bool, true, List, [], ◌∷◌, ◌++◌, map, Option, Some, None, refl, sym, ap, ◌∙◌}
use Rattle.std.specs.Prelude.{option_map}
use Rattle.chi_tree.specs.declared.expr.Expr.{Expr}
use Rattle.chi_tree.specs.declared.statement.Alternative.{Alternative-F}
use Rattle.chi_tree.specs.declared.statement.Statement.{Statement-F}
use Rattle.chi_tree.specs.View.{nowhere}
use Rattle.chi_tree_laws.specs.Unplaced.{unplaced_expr, unplaced_type}
use Rattle.chi_tree_laws.specs.UnplacedStatements.{unplaced_variable, unplaced_target, unplaced_walk, unplaced_communication, unplaced_element}
use Rattle.chi_core.specs.declared.communication.CComm.{CComm}
use Rattle.chi_core.specs.declared.element.CElem.{CElem}
use Rattle.chi_core.specs.declared.expression.CExpr.{CExpr}
use Rattle.chi_core.specs.declared.statement.Branch.{Branch as CBranch}
use Rattle.chi_core.specs.declared.statement.CAlt.{CAlt}
use Rattle.chi_core.specs.declared.statement.CAlt.TheVariants as alternative
use Rattle.chi_core.specs.declared.statement.CStat.{CStat}
use Rattle.chi_core.specs.declared.statement.CStat.TheVariants as statement
use Rattle.chi_check_types.specs.declared.fault.Fault.{Fault}
use Rattle.chi_check_types.specs.Typed.{unless}
use Rattle.chi_check.specs.Below.chi_check_stat_rules.specs.declared.home.Home.{Home}
use Rattle.chi_check.specs.Below.chi_check_stat_rules.specs.Endings.{loop_rule}
use Rattle.chi_check.specs.Below.chi_check_stat_rules.specs.Homes.{running_rule}
use Rattle.chi_check.specs.Below.chi_check_stat_lines.specs.declared.state.Binder.TheVariants as binder
use Rattle.chi_check.specs.Below.chi_check_stat_lines.specs.declared.state.Opened.{Opened}
use Rattle.chi_check.specs.Below.chi_check_stat_lines.specs.declared.state.State.{State}
use Rattle.chi_check.specs.Below.chi_check_stat_lines.specs.Stated.{in_turn, staying}
use Rattle.chi_check.specs.Below.chi_check_stat_lines.specs.States.{closed, block, Going, each_in}
use Rattle.chi_check.specs.Below.chi_check_stat_lines.specs.Values.{test_in, guard_in, assignment_in}
use Rattle.chi_check.specs.Below.chi_check_stat_lines.specs.Declarations.{walk_in}
use Rattle.chi_check.specs.Below.chi_check_stat_lines.specs.Lines.{communication_in, communicating, write_in, return_in, exit_in, finish_in}
use Rattle.chi_check.specs.Below.chi_check_stat_lines.specs.Blocks.{offers, runs, starts, chosen, looped, walked, branched, guarded, offered}
use Rattle.chi_check.specs.Below.chi_check_stat.specs.Statements.{starting, statement_step, branch_step, alternative_step}
use Rattle.chi_check_places.specs.UnplacedTyped.{unplaced_faults}
use Rattle.chi_check_places.proofs.Faults.{faults-append, both-faults}
use Rattle.chi_check_program_places.specs.Lineless.{lineless_statement, lineless_branch, lineless_alternative}
use Rattle.chi_check_program_places.proofs.By.{typed_by, stated_by, unplaced_stated, turn_by, mapped, both-second, both-mapped, unless-by, in-turn-by, in-turn-unplaced, alone-by, held-by, sequence-of}
use Rattle.chi_check_program_places.proofs.Declarations.{declaration-by, walk-in-unplaced}
use Rattle.chi_check_program_places.proofs.Elements.{all-starting}
use Rattle.chi_check_program_places.proofs.LineRules.{loop-unplaced}
use Rattle.chi_check_program_places.proofs.Lines.{communication-unplaced, communicating-by, write-in-by, return-in-by, exit-in-by, finish-in-by}
use Rattle.chi_check_program_places.proofs.Parts.{running-unplaced}
use Rattle.chi_check_program_places.proofs.Values.{test-unplaced, guard-unplaced, assignment-by}
use Rattle.chi_check_program_places.proofs.Without as without

-- ---- parts that go on, where a loop stands around them or not

abbrev pub going_by : {A : Type 0} → (A → A) → Going A → Going A
going_by f g loop s = stated_by (map f) (g loop s)

module _ {A : Type 0} (f : A → A) (loop : Bool) where
  each-by : (gs : List (Going A)) → each_in loop (map (going_by f) gs) ≡ map (turn_by f) (each_in loop gs)
  each-by [] = refl
  each-by (g ∷ gs) = ap (λ ts. turn_by f (g loop) ∷ ts) (each-by gs)

  pub turns-by : (gs : List (Going A)) (s : State) → in_turn (each_in loop (map (going_by f) gs)) s ≡ stated_by (map f) (in_turn (each_in loop gs) s)
  turns-by gs s = ap (λ ts. in_turn ts s) (each-by gs) ∙ in-turn-by f (each_in loop gs) s

  pub block-by : (gs : List (Going A)) (s : State) → block (each_in loop (map (going_by f) gs)) s ≡ stated_by (map f) (block (each_in loop gs) s)
  block-by gs s = ap (λ ts. block ts s) (each-by gs) ∙ ap (closed s) (in-turn-by f (each_in loop gs) s)

-- ---- what is made of the parts

offers-same : (line : ℕ) (o : Option (List CAlt)) → offers 0 (option_map (map lineless_alternative) o) ≡ option_map (map lineless_statement) (offers line o)
offers-same line None = refl
offers-same line (Some xs) = λ i. Some (sym (without.without-Select line xs) i ∷ [])

runs-same : (line : ℕ) (o : Option (List CElem)) → runs 0 o ≡ option_map (map lineless_statement) (runs line o)
runs-same line o = mapped (map lineless_statement) (λ es. statement.Run 0 es ∷ []) (λ es. statement.Run line es ∷ []) (λ es i. sym (without.without-Run line es) i ∷ []) o

starts-same : (line : ℕ) (o : Option (List CElem)) → starts 0 o ≡ option_map (map lineless_statement) (starts line o)
starts-same line o = mapped (map lineless_statement) (λ es. statement.Start 0 es ∷ []) (λ es. statement.Start line es ∷ []) (λ es i. sym (without.without-Start line es) i ∷ []) o

chosen-same : (line : ℕ) (a : Option (List CBranch)) (b : Option (List CStat))
    → chosen 0 (option_map (map lineless_branch) a) (option_map (map lineless_statement) b) ≡ option_map (map lineless_statement) (chosen line a b)
chosen-same line a b =
    both-mapped (map lineless_statement) (map lineless_branch) (map lineless_statement) (λ bs xs. statement.If 0 bs xs ∷ []) (λ bs xs. statement.If line bs xs ∷ [])
    (λ bs xs i. sym (without.without-If line bs xs) i ∷ []) a b

looped-same : (line : ℕ) (a : Option CExpr) (b : Option (List CStat)) → looped 0 a (option_map (map lineless_statement) b) ≡ option_map (map lineless_statement) (looped line a b)
looped-same line a b =
    both-second (map lineless_statement) (map lineless_statement) (λ e xs. statement.While 0 e xs ∷ []) (λ e xs. statement.While line e xs ∷ [])
    (λ e xs i. sym (without.without-While line e xs) i ∷ []) a b

walked-same : (line : ℕ) (a : Option Opened) (b : Option (List CStat)) → walked 0 a (option_map (map lineless_statement) b) ≡ option_map (map lineless_statement) (walked line a b)
walked-same line a b =
    both-second (map lineless_statement) (map lineless_statement) (λ w xs. statement.For 0 w.slots w.container xs ∷ []) (λ w xs. statement.For line w.slots w.container xs ∷ [])
    (λ w xs i. sym (without.without-For line w.slots w.container xs) i ∷ []) a b

branched-same : (a : Option CExpr) (b : Option (List CStat)) → branched a (option_map (map lineless_statement) b) ≡ option_map (map lineless_branch) (branched a b)
branched-same a b =
    both-second (map lineless_branch) (map lineless_statement) (λ e xs. record { test = e; block = xs } ∷ []) (λ e xs. record { test = e; block = xs } ∷ [])
    (λ e xs i. sym (without.without-branch e xs) i ∷ []) a b

offered-same : (a : Option Opened) (b : Option (List CAlt)) → offered a (option_map (map lineless_alternative) b) ≡ option_map (map lineless_alternative) (offered a b)
offered-same a b =
    both-second (map lineless_alternative) (map lineless_alternative) (λ w xs. alternative.Unwind w.slots w.container xs ∷ []) (λ w xs. alternative.Unwind w.slots w.container xs ∷ [])
    (λ w xs i. sym (without.without-Unwind w.slots w.container xs) i ∷ []) a b

guarded-same : (g : Option (Option CExpr)) (c : Option CComm) (b : Option (List CStat))
    → guarded g c (option_map (map lineless_statement) b) ≡ option_map (map lineless_alternative) (guarded g c b)
guarded-same None c b = refl
guarded-same (Some g) c b =
    both-second (map lineless_alternative) (map lineless_statement) (λ c xs. alternative.Guarded g c xs ∷ []) (λ c xs. alternative.Guarded g c xs ∷ [])
    (λ c xs i. sym (without.without-Guarded g c xs) i ∷ []) c b

-- ---- layers

module _ (home : Home) where
  abbrev pub unplaced_layer : Statement-F (Going CAlt) (Going CStat) (Going CBranch) (Going CStat) → Statement-F (Going CAlt) (Going CStat) (Going CBranch) (Going CStat)
  unplaced_layer (Statement-F.Declare tree variables) = Statement-F.Declare (unplaced_type tree) (map unplaced_variable variables)
  unplaced_layer (Statement-F.Assign targets equals values) = Statement-F.Assign (map unplaced_target targets) nowhere (map unplaced_expr values)
  unplaced_layer (Statement-F.Communicate c) = Statement-F.Communicate (unplaced_communication c)
  unplaced_layer (Statement-F.Pass place) = Statement-F.Pass nowhere
  unplaced_layer (Statement-F.Break place) = Statement-F.Break nowhere
  unplaced_layer (Statement-F.Continue place) = Statement-F.Continue nowhere
  unplaced_layer (Statement-F.Select place xs) = Statement-F.Select nowhere (map (going_by lineless_alternative) xs)
  unplaced_layer (Statement-F.If place xs ys) = Statement-F.If nowhere (map (going_by lineless_branch) xs) (map (going_by lineless_statement) ys)
  unplaced_layer (Statement-F.While place e xs) = Statement-F.While nowhere (unplaced_expr e) (map (going_by lineless_statement) xs)
  unplaced_layer (Statement-F.For place walk xs) = Statement-F.For nowhere (unplaced_walk walk) (map (going_by lineless_statement) xs)
  unplaced_layer (Statement-F.Return place e) = Statement-F.Return nowhere (unplaced_expr e)
  unplaced_layer (Statement-F.Exit place e) = Statement-F.Exit nowhere (option_map unplaced_expr e)
  unplaced_layer (Statement-F.Run place elements) = Statement-F.Run nowhere (map unplaced_element elements)
  unplaced_layer (Statement-F.Start place elements) = Statement-F.Start nowhere (map unplaced_element elements)
  unplaced_layer (Statement-F.Finish place es) = Statement-F.Finish nowhere (map unplaced_expr es)
  unplaced_layer (Statement-F.Write place line text at es) = Statement-F.Write nowhere line text nowhere (map unplaced_expr es)

  -- a word alone, with a rule of its own
  pub worded : (fs : List Fault) (x' x : CStat) {fs' : List Fault} → fs' ≡ unplaced_faults fs → x' ≡ lineless_statement x → unless fs' x' ≡ typed_by lineless_statement (unless fs x)
  worded fs x' x r h = (λ i. unless (r i) (h i)) ∙ unless-by lineless_statement fs x

  pub statement-layer : (o : Statement-F (Going CAlt) (Going CStat) (Going CBranch) (Going CStat)) (loop : Bool) (s : State)
      → statement_step home (unplaced_layer o) loop s ≡ stated_by (map lineless_statement) (statement_step home o loop s)
  statement-layer (Statement-F.Declare tree vs) loop s = declaration-by home tree vs s
  statement-layer (Statement-F.Assign ts equals es) loop s = alone-by lineless_statement s (assignment_in home s.names ts equals es) (assignment-by home s.names ts equals es)
  statement-layer (Statement-F.Communicate c) loop s = alone-by lineless_statement s (communicating home s.names c) (communicating-by home s.names c)
  statement-layer (Statement-F.Pass place) loop s =
      alone-by lineless_statement s (unless [] (statement.Pass place.line)) (worded [] (statement.Pass 0) (statement.Pass place.line) refl (sym (without.without-Pass place.line)))
  statement-layer (Statement-F.Break place) loop s =
      alone-by lineless_statement s (unless (loop_rule loop place) (statement.Break place.line))
      (worded (loop_rule loop place) (statement.Break 0) (statement.Break place.line) (loop-unplaced loop place) (sym (without.without-Break place.line)))
  statement-layer (Statement-F.Continue place) loop s =
      alone-by lineless_statement s (unless (loop_rule loop place) (statement.Continue place.line))
      (worded (loop_rule loop place) (statement.Continue 0) (statement.Continue place.line) (loop-unplaced loop place) (sym (without.without-Continue place.line)))
  statement-layer (Statement-F.Select place xs) loop s =
      let inner = in_turn (each_in loop xs) s in
      held-by (map lineless_statement) (running_rule home place) (record { next = inner.next; faults = inner.faults; made = offers place.line inner.made }) (running-unplaced home place)
      ((λ i. record { next = (turns-by lineless_alternative loop xs s i).next; faults = (turns-by lineless_alternative loop xs s i).faults; made = offers 0 (turns-by lineless_alternative loop xs s i).made })
      ∙ (λ i. record { next = inner.next; faults = unplaced_faults inner.faults; made = offers-same place.line inner.made i }))
  statement-layer (Statement-F.If place xs ys) loop s =
      sequence-of (option_map (map lineless_branch)) (option_map (map lineless_statement)) (option_map (map lineless_statement)) (chosen 0) (chosen place.line) (chosen-same place.line)
      (in_turn (each_in loop xs) s) (block (each_in loop ys)) (turns-by lineless_branch loop xs s) (block-by lineless_statement loop ys)
  statement-layer (Statement-F.While place e xs) loop s =
      sequence-of (λ o. o) (option_map (map lineless_statement)) (option_map (map lineless_statement)) (looped 0) (looped place.line) (looped-same place.line)
      (staying s (test_in home s.names e)) (block (each_in true xs)) (ap (staying s) (test-unplaced home s.names e)) (block-by lineless_statement true xs)
  statement-layer (Statement-F.For place walk xs) loop s =
      ap (closed s) (sequence-of (λ o. o) (option_map (map lineless_statement)) (option_map (map lineless_statement)) (walked 0) (walked place.line) (walked-same place.line)
      (walk_in home binder.Variable walk s) (in_turn (each_in true xs)) (walk-in-unplaced home binder.Variable walk s) (turns-by lineless_statement true xs))
  statement-layer (Statement-F.Return place e) loop s = alone-by lineless_statement s (return_in home s.names place e) (return-in-by home s.names place e)
  statement-layer (Statement-F.Exit place e) loop s = alone-by lineless_statement s (exit_in home s.names place e) (exit-in-by home s.names place e)
  statement-layer (Statement-F.Run place es) loop s =
      let ts = in_turn (map (starting home) es) s in
      let same : in_turn (map (starting home) (map unplaced_element es)) s ≡ unplaced_stated ts = ap (λ ts. in_turn ts s) (all-starting home es) ∙ in-turn-unplaced (map (starting home) es) s in
      held-by (map lineless_statement) (running_rule home place) (record { next = ts.next; faults = ts.faults; made = runs place.line ts.made }) (running-unplaced home place)
      ((λ i. record { next = (same i).next; faults = (same i).faults; made = runs 0 (same i).made }) ∙ (λ i. record { next = ts.next; faults = unplaced_faults ts.faults; made = runs-same place.line ts.made i }))
  statement-layer (Statement-F.Start place es) loop s =
      let ts = in_turn (map (starting home) es) s in
      let same : in_turn (map (starting home) (map unplaced_element es)) s ≡ unplaced_stated ts = ap (λ ts. in_turn ts s) (all-starting home es) ∙ in-turn-unplaced (map (starting home) es) s in
      held-by (map lineless_statement) (running_rule home place) (record { next = ts.next; faults = ts.faults; made = starts place.line ts.made }) (running-unplaced home place)
      ((λ i. record { next = (same i).next; faults = (same i).faults; made = starts 0 (same i).made }) ∙ (λ i. record { next = ts.next; faults = unplaced_faults ts.faults; made = starts-same place.line ts.made i }))
  statement-layer (Statement-F.Finish place es) loop s = alone-by lineless_statement s (finish_in home s.names place es) (finish-in-by home s.names place es)
  statement-layer (Statement-F.Write place line text at es) loop s = alone-by lineless_statement s (write_in home s.names place line text at es) (write-in-by home s.names place line text at es)

  pub branch-layer : (e : Expr) (xs : List (Going CStat)) (loop : Bool) (s : State)
      → branch_step home (record { condition = unplaced_expr e; block = map (going_by lineless_statement) xs }) loop s ≡ stated_by (map lineless_branch) (branch_step home (record { condition = e; block = xs }) loop s)
  branch-layer e xs loop s =
      sequence-of (λ o. o) (option_map (map lineless_statement)) (option_map (map lineless_branch)) branched branched branched-same
      (staying s (test_in home s.names e)) (block (each_in loop xs)) (ap (staying s) (test-unplaced home s.names e)) (block-by lineless_statement loop xs)

  abbrev pub unplaced_alternative_layer : Alternative-F (Going CAlt) (Going CStat) (Going CBranch) (Going CStat) → Alternative-F (Going CAlt) (Going CStat) (Going CBranch) (Going CStat)
  unplaced_alternative_layer (Alternative-F.Guarded guard c xs) = Alternative-F.Guarded (option_map unplaced_expr guard) (unplaced_communication c) (map (going_by lineless_statement) xs)
  unplaced_alternative_layer (Alternative-F.Unwind place walk xs) = Alternative-F.Unwind nowhere (unplaced_walk walk) (map (going_by lineless_alternative) xs)

  pub alternative-layer : (o : Alternative-F (Going CAlt) (Going CStat) (Going CBranch) (Going CStat)) (loop : Bool) (s : State)
      → alternative_step home (unplaced_alternative_layer o) loop s ≡ stated_by (map lineless_alternative) (alternative_step home o loop s)
  alternative-layer (Alternative-F.Guarded guard c xs) loop s =
      let g = guard_in home s.names guard in
      let offer = communication_in home s.names c in
      let b = block (each_in loop xs) s in
      (λ i. record {
        next = (block-by lineless_statement loop xs s i).next;
        faults = (guard-unplaced home s.names guard i).faults ++ (communication-unplaced home s.names c i).faults ++ (block-by lineless_statement loop xs s i).faults;
        made = guarded (guard-unplaced home s.names guard i).made (communication-unplaced home s.names c i).made (block-by lineless_statement loop xs s i).made;
      })
      ∙ (λ i. record {
        next = b.next;
        faults = both-faults (g.faults ++ offer.faults) b.faults (faults-append g.faults offer.faults) refl i;
        made = guarded-same g.made offer.made b.made i;
      })
  alternative-layer (Alternative-F.Unwind place walk xs) loop s =
      ap (closed s) (sequence-of (λ o. o) (option_map (map lineless_alternative)) (option_map (map lineless_alternative)) offered offered offered-same
      (walk_in home binder.Unwind walk s) (in_turn (each_in loop xs)) (walk-in-unplaced home binder.Unwind walk s) (turns-by lineless_alternative loop xs))
