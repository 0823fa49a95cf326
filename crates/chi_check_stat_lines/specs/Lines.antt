-- The other statements without blocks: their broken rules, and what they come to.
use Rattle.std.specs.Prelude.{ℕ, Bool, List, [], ◌∷◌, ◌++◌, map, Option, None, option_map}
use Rattle.chi_token.specs.declared.place.Place.{Place}
use Rattle.chi_tree.specs.declared.type_tree.Name.{Name}
use Rattle.chi_tree.specs.declared.expr.Expr.{Expr}
use Rattle.chi_tree.specs.declared.statement.Communication.{Communication}
use Rattle.chi_tree.specs.declared.statement.Communication.TheVariants as communication
use Rattle.chi_tree.specs.declared.statement.Target.{Target}
use Rattle.chi_core.specs.declared.communication.CComm.{CComm}
use Rattle.chi_core.specs.declared.element.CElem.{CElem}
use Rattle.chi_core.specs.declared.statement.CAlt.TheVariants as alternative
use Rattle.chi_core.specs.declared.statement.CStat.{CStat}
use Rattle.chi_core.specs.declared.statement.CStat.TheVariants as statement
use Rattle.chi_check_types.specs.declared.meant.Made.{Made}
use Rattle.chi_check_types.specs.Names.{Names}
use Rattle.chi_check_types.specs.Typed.{Typed, after}
use Rattle.chi_check_expr_rules.specs.Nodes.{barred}
use Rattle.chi_check_stat_rules.specs.declared.home.Home.{Home}
use Rattle.chi_check_stat_rules.specs.declared.parts.Receiver.{Receiver}
use Rattle.chi_check_stat_rules.specs.Channels.{send_of, named_receiver, receive_of, delay_of}
use Rattle.chi_check_stat_rules.specs.Elements.{start_of, element_made}
use Rattle.chi_check_stat_rules.specs.Endings.{return_of, exit_of}
use Rattle.chi_check_stat_rules.specs.Homes.{running_rule, writing_rule}
use Rattle.chi_check_stat_rules.specs.Places.{expr_place}
use Rattle.chi_check_stat_rules.specs.Writes.{Written, ended, pieces_of, write_of}
use Rattle.chi_check_stat_lines.specs.Values.{made_of, all_faults, faults_if, made_if, all_of, value_in, values_in, instance_in, target_in, goal_in}

-- ---- parts that stand in no body

abbrev pub communication_place : Communication → Place
communication_place (communication.Send target place value) = target.name.place
communication_place (communication.Receive target place name) = target.name.place
communication_place (communication.Delay place length) = place

abbrev pub receiver_in : Place → Names → Name → Typed Receiver
receiver_in place names name = named_receiver place names name

-- each value with its place
abbrev pub placed : List Expr → List (Option Made) → List Written
placed (e ∷ es) (m ∷ ms) = (expr_place e, m) ∷ placed es ms
placed _ _ = []

-- one that stands alone is a select of one alternative
abbrev pub selected : ℕ → CComm → CStat
selected line c = statement.Select line (alternative.Guarded None c [] ∷ [])

-- ---- communications

module _ (home : Home) where
  abbrev pub parts_in : Names → Communication → Typed CComm
  parts_in names (communication.Send target place value) =
      let to = target_in home names target in
      let v = option_map (value_in home names) value in
      after (to.faults ++ faults_if v) (send_of place to.made (made_if v))
  parts_in names (communication.Receive target place name) =
      let from = target_in home names target in
      let r = option_map (receiver_in place names) name in
      after (from.faults ++ faults_if r) (receive_of place from.made (made_if r))
  parts_in names (communication.Delay place length) =
      let v = value_in home names length in
      after v.faults (delay_of place v.made)

  abbrev pub communication_in : Names → Communication → Typed CComm
  communication_in names c = barred (running_rule home (communication_place c)) (parts_in names c)

  abbrev pub communicating : Names → Communication → Typed CStat
  communicating names c = let t = communication_in names c in record { faults = t.faults; made = option_map (selected (communication_place c).line) t.made }

  -- ---- what is run and started

  abbrev pub element_in : Names → Option Target → Name → List Expr → Typed CElem
  element_in names target name arguments =
      let to = option_map (goal_in home names) target in
      let given = values_in home names arguments in
      let s = start_of home names name (map made_of given) in
      record { faults = faults_if to ++ all_faults given ++ s.faults; made = element_made (made_if to) s.made }

  -- ---- writes

  abbrev pub write_in : Names → Place → Bool → List ℕ → Place → List Expr → Typed CStat
  write_in names place ends_line format format_place values =
      barred (writing_rule home place)
      (after (all_faults (values_in home names values)) (write_of place.line format_place (pieces_of (ended ends_line format)) (placed values (map made_of (values_in home names values)))))

  -- ---- the other statements of one line

  abbrev pub return_in : Names → Place → Expr → Typed CStat
  return_in names place value = let v = value_in home names value in after v.faults (return_of home place v.made)

  abbrev pub exit_in : Names → Place → Option Expr → Typed CStat
  exit_in names place value = let v = option_map (value_in home names) value in after (faults_if v) (exit_of home place (made_if v))

  abbrev pub finish_in : Names → Place → List Expr → Typed CStat
  finish_in names place instances =
      let es = all_of (map (instance_in home names) instances) in
      barred (running_rule home place) (record { faults = es.faults; made = option_map (statement.Finish place.line) es.made })
