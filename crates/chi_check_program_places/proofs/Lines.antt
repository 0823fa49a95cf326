-- What the statements without blocks come to is the same without places, but for their lines.
use Rattle.std.proofs.Common.{◌≡◌, ℕ, Bool, List, [], ◌∷◌, ◌++◌, map, Option, Some, None, refl, ap, sym, ◌∙◌}
use Rattle.std.specs.Prelude.{option_map}
use Rattle.chi_token.specs.declared.place.Place.{Place}
use Rattle.chi_tree.specs.declared.type_tree.Name.{Name}
use Rattle.chi_tree.specs.declared.expr.Expr.{Expr}
use Rattle.chi_tree.specs.declared.statement.Communication.{Communication}
use Rattle.chi_tree.specs.declared.statement.Communication.TheVariants as communication
use Rattle.chi_tree.specs.declared.statement.Target.{Target}
use Rattle.chi_tree.specs.View.{nowhere}
use Rattle.chi_tree_laws.specs.Unplaced.{unplaced_name, unplaced_expr}
use Rattle.chi_tree_laws.specs.UnplacedStatements.{unplaced_target, unplaced_communication}
use Rattle.chi_core.specs.declared.communication.CComm.{CComm}
use Rattle.chi_core.specs.declared.statement.CAlt.TheVariants as alternative
use Rattle.chi_core.specs.declared.statement.CStat.TheVariants as statement
use Rattle.chi_check_types.specs.declared.meant.Made.{Made}
use Rattle.chi_check_types.specs.Names.{Names}
use Rattle.chi_check_types.specs.Typed.{after}
use Rattle.chi_check.specs.Below.chi_check_stat_rules.specs.declared.home.Home.{Home}
use Rattle.chi_check.specs.Below.chi_check_stat_rules.specs.Channels.{send_of, receive_of, delay_of}
use Rattle.chi_check.specs.Below.chi_check_stat_rules.specs.Elements.{start_of, element_made}
use Rattle.chi_check.specs.Below.chi_check_stat_rules.specs.Endings.{return_of, exit_of}
use Rattle.chi_check.specs.Below.chi_check_stat_rules.specs.Homes.{running_rule, writing_rule}
use Rattle.chi_check.specs.Below.chi_check_stat_rules.specs.Writes.{ended, pieces_of, write_of}
use Rattle.chi_check.specs.Below.chi_check_stat_lines.specs.Values.{made_of, all_faults, faults_if, made_if, all_of, value_in, values_in, instance_in, target_in, goal_in}
use Rattle.chi_check.specs.Below.chi_check_stat_lines.specs.Lines.{communication_place, receiver_in, placed, selected, parts_in, communication_in, communicating, element_in, write_in, return_in, exit_in, finish_in}
use Rattle.chi_check_places.specs.UnplacedTyped.{unplaced_faults, unplaced_typed}
use Rattle.chi_check_places.proofs.Faults.{faults-append, both-faults, after-both, barred-both}
use Rattle.chi_check_program_places.specs.Lineless.{lineless_statement}
use Rattle.chi_check_program_places.proofs.By.{typed_by, mapped, after-by, barred-by}
use Rattle.chi_check_program_places.proofs.LineRules.{unplaced_written, return-by, exit-by, write-by}
use Rattle.chi_check_program_places.proofs.Parts.{running-unplaced, writing-unplaced, send-unplaced, receiver-unplaced, receive-unplaced, delay-unplaced, start-unplaced}
use Rattle.chi_check_program_places.proofs.Places.{expr-nowhere}
use Rattle.chi_check_program_places.proofs.Values.{faults-all, made-all, faults-if, made-if, all-of, each-same, if-same, value-unplaced, values-unplaced, instance-unplaced, target-unplaced, goal-unplaced}
use Rattle.chi_check_program_places.proofs.Without.{without-Guarded, without-Select, without-Finish}

communication-begins : (c : Communication) → communication_place (unplaced_communication c) ≡ nowhere
communication-begins (communication.Send target place value) = refl
communication-begins (communication.Receive target place name) = refl
communication-begins (communication.Delay place length) = refl

selected-same : (line : ℕ) (c : CComm) → selected 0 c ≡ lineless_statement (selected line c)
selected-same line c =
    sym (without-Select line (alternative.Guarded None c [] ∷ []) ∙ (λ i. statement.Select 0 (without-Guarded None c [] i ∷ [])))

placed-unplaced : (es : List Expr) (ms : List (Option Made)) → placed (map unplaced_expr es) ms ≡ map unplaced_written (placed es ms)
placed-unplaced [] [] = refl
placed-unplaced [] (m ∷ ms) = refl
placed-unplaced (e ∷ es) [] = refl
placed-unplaced (e ∷ es) (m ∷ ms) = λ i. (expr-nowhere e i, m) ∷ placed-unplaced es ms i

receivers : (place : Place) (names : Names) (o : Option Name) → option_map (receiver_in nowhere names) (option_map unplaced_name o) ≡ option_map unplaced_typed (option_map (receiver_in place names) o)
receivers place names None = refl
receivers place names (Some name) = ap Some (receiver-unplaced place names name)

module _ (home : Home) (names : Names) where
  -- ---- communications

  parts-unplaced : (c : Communication) → parts_in home names (unplaced_communication c) ≡ unplaced_typed (parts_in home names c)
  parts-unplaced (communication.Send target place value) =
      let to = target_in home names target in
      let v = option_map (value_in home names) value in
      let values = if-same unplaced_expr (value_in home names) (value-unplaced home names) value in
      (λ i. after ((target-unplaced home names target i).faults ++ faults_if (values i)) (send_of nowhere (target-unplaced home names target i).made (made_if (values i))))
      ∙ after-both (to.faults ++ faults_if v) (send_of place to.made (made_if v)) (both-faults to.faults (faults_if v) refl (faults-if v))
      (ap (send_of nowhere to.made) (made-if v) ∙ send-unplaced place to.made (made_if v))
  parts-unplaced (communication.Receive target place name) =
      let from = target_in home names target in
      let r = option_map (receiver_in place names) name in
      (λ i. after ((target-unplaced home names target i).faults ++ faults_if (receivers place names name i)) (receive_of nowhere (target-unplaced home names target i).made (made_if (receivers place names name i))))
      ∙ after-both (from.faults ++ faults_if r) (receive_of place from.made (made_if r)) (both-faults from.faults (faults_if r) refl (faults-if r))
      (ap (receive_of nowhere from.made) (made-if r) ∙ receive-unplaced place from.made (made_if r))
  parts-unplaced (communication.Delay place length) =
      let v = value_in home names length in
      (λ i. after (value-unplaced home names length i).faults (delay_of nowhere (value-unplaced home names length i).made))
      ∙ after-both v.faults (delay_of place v.made) refl (delay-unplaced place v.made)

  pub communication-unplaced : (c : Communication) → communication_in home names (unplaced_communication c) ≡ unplaced_typed (communication_in home names c)
  communication-unplaced c =
      barred-both (running_rule home (communication_place c)) (parts_in home names c)
      (ap (running_rule home) (communication-begins c) ∙ running-unplaced home (communication_place c)) (parts-unplaced c)

  pub communicating-by : (c : Communication) → communicating home names (unplaced_communication c) ≡ typed_by lineless_statement (communicating home names c)
  communicating-by c =
      let t = communication_in home names c in
      let line = (communication_place c).line in
      (λ i. record { faults = (communication-unplaced c i).faults; made = option_map (selected (communication-begins c i).line) (communication-unplaced c i).made })
      ∙ (λ i. record { faults = unplaced_faults t.faults; made = mapped lineless_statement (selected 0) (selected line) (selected-same line) t.made i })

  -- ---- what is run and started

  pub element-unplaced : (target : Option Target) (name : Name) (es : List Expr)
      → element_in home names (option_map unplaced_target target) (unplaced_name name) (map unplaced_expr es) ≡ unplaced_typed (element_in home names target name es)
  element-unplaced target name es =
      let to = option_map (goal_in home names) target in
      let given = values_in home names es in
      let s = start_of home names name (map made_of given) in
      let goals = if-same unplaced_target (goal_in home names) (goal-unplaced home names) target in
      let values = values-unplaced home names es in
      let starts : start_of home names (unplaced_name name) (map made_of (map unplaced_typed given)) ≡ unplaced_typed s =
      ap (start_of home names (unplaced_name name)) (made-all given) ∙ start-unplaced home names name (map made_of given) in
      (λ i. record {
        faults = faults_if (goals i) ++ all_faults (values i) ++ (start_of home names (unplaced_name name) (map made_of (values i))).faults;
        made = element_made (made_if (goals i)) (start_of home names (unplaced_name name) (map made_of (values i))).made;
      })
      ∙ (λ i. record { faults = faults-if to i ++ faults-all given i ++ (starts i).faults; made = element_made (made-if to i) (starts i).made })
      ∙ (λ i. record {
        faults = both-faults (faults_if to ++ all_faults given) s.faults (faults-append (faults_if to) (all_faults given)) refl i;
        made = element_made (made_if to) s.made;
      })

  -- ---- writes

  pub write-in-by : (place : Place) (ends_line : Bool) (text : List ℕ) (at : Place) (es : List Expr)
      → write_in home names nowhere ends_line text nowhere (map unplaced_expr es) ≡ typed_by lineless_statement (write_in home names place ends_line text at es)
  write-in-by place ends_line text at es =
      let given = values_in home names es in
      let ps = pieces_of (ended ends_line text) in
      barred-by lineless_statement (writing_rule home place) (after (all_faults given) (write_of place.line at ps (placed es (map made_of given)))) (writing-unplaced home place)
      ((λ i. after (all_faults (values-unplaced home names es i)) (write_of 0 nowhere ps (placed (map unplaced_expr es) (map made_of (values-unplaced home names es i)))))
      ∙ after-by lineless_statement (all_faults given) (write_of place.line at ps (placed es (map made_of given))) (faults-all given)
      (ap (λ ms. write_of 0 nowhere ps (placed (map unplaced_expr es) ms)) (made-all given) ∙ ap (write_of 0 nowhere ps) (placed-unplaced es (map made_of given))
      ∙ write-by place.line at ps (placed es (map made_of given))))

  -- ---- the others

  pub return-in-by : (place : Place) (e : Expr) → return_in home names nowhere (unplaced_expr e) ≡ typed_by lineless_statement (return_in home names place e)
  return-in-by place e =
      let v = value_in home names e in
      (λ i. after (value-unplaced home names e i).faults (return_of home nowhere (value-unplaced home names e i).made))
      ∙ after-by lineless_statement v.faults (return_of home place v.made) refl (return-by home place v.made)

  pub exit-in-by : (place : Place) (value : Option Expr) → exit_in home names nowhere (option_map unplaced_expr value) ≡ typed_by lineless_statement (exit_in home names place value)
  exit-in-by place value =
      let v = option_map (value_in home names) value in
      let values = if-same unplaced_expr (value_in home names) (value-unplaced home names) value in
      (λ i. after (faults_if (values i)) (exit_of home nowhere (made_if (values i))))
      ∙ after-by lineless_statement (faults_if v) (exit_of home place (made_if v)) (faults-if v) (ap (exit_of home nowhere) (made-if v) ∙ exit-by home place (made_if v))

  pub finish-in-by : (place : Place) (es : List Expr) → finish_in home names nowhere (map unplaced_expr es) ≡ typed_by lineless_statement (finish_in home names place es)
  finish-in-by place es =
      let all = all_of (map (instance_in home names) es) in
      let same : all_of (map (instance_in home names) (map unplaced_expr es)) ≡ unplaced_typed all =
      ap all_of (each-same unplaced_expr (instance_in home names) (instance-unplaced home names) es) ∙ all-of (map (instance_in home names) es) in
      barred-by lineless_statement (running_rule home place) (record { faults = all.faults; made = option_map (statement.Finish place.line) all.made }) (running-unplaced home place)
      ((λ i. record { faults = (same i).faults; made = option_map (statement.Finish 0) (same i).made })
      ∙ (λ i. record {
        faults = unplaced_faults all.faults;
        made = mapped lineless_statement (statement.Finish 0) (statement.Finish place.line) (λ xs. sym (without-Finish place.line xs)) all.made i;
      }))
