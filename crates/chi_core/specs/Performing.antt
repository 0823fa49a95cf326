-- What the items of a process do: those that it shares with functions, and its own statements.
use Rattle.std.specs.Prelude.{ℕ, nat_le, nat_lt, Option, Some, None, List, [], ◌∷◌, ◌++◌, length, map, if◌then◌else◌}
use Rattle.std.specs.List.{range_with_len}
use Rattle.chi_value.specs.declared.text.limit.TheConstants.{MOST_TEXT}
use Rattle.chi_value.specs.declared.value.Value.{Value}
use Rattle.chi_value.specs.declared.format.Piece.{Piece}
use Rattle.chi_format.specs.Format.{rendered}
use Rattle.chi_core.specs.declared.program.Core.{Core}
use Rattle.chi_core.specs.declared.expression.CExpr.{CExpr}
use Rattle.chi_core.specs.declared.statement.CStat.{CStat, CStat-F, out-CStat}
use Rattle.chi_core.specs.declared.statement.CAlt.{CAlt}
use Rattle.chi_core.specs.declared.statement.Branch.{Branch}
use Rattle.chi_core.specs.declared.fault.FaultKind.TheVariants.{TooLarge}
use Rattle.chi_core.specs.Answer.{Gives, Fails, Amiss, Does, then_do, gives, amiss, wanted, giving, in_turn}
use Rattle.chi_core.specs.Reading.{instance_of, quoted_in}
use Rattle.chi_core.specs.Evaluation.{Evaluates}
use Rattle.chi_core.specs.Terms.{Item, Do, Did, On, Returns, act_stat, act}
use Rattle.chi_core.specs.Config.{Config, Instance, State, Running, Waiting, Joining, settled, with_instance, value_in}
use Rattle.chi_core.specs.Opening.{Opening, opened}
use Rattle.chi_core.specs.Starting.{Started, all_started}

-- a process goes on in a configuration and has written a text; or the run is over
pub data Change : Type 0 where
  Goes : Config → List ℕ → Change
  Exits : Option Value → Change

abbrev pub quietly : Config → Change
quietly config = Goes config []

-- writing

-- a text that isn't too long
abbrev pub within_text : List ℕ → Does (List ℕ)
within_text text view = if nat_le (length text) MOST_TEXT then Gives text view else Fails TooLarge

-- the text of a format's pieces with the values of expressions
abbrev pub written : Core → Evaluates → List Piece → List CExpr → Does (List ℕ)
written core value_of pieces expressions view =
    then_do (in_turn (map value_of expressions) view) (λ values now.
    then_do (wanted (rendered core.names.kinds pieces values) now) within_text)

-- exits

-- the value of an exit, which is plain and whose quoted text isn't too long
abbrev pub exits_with : Core → Value → Does Change
exits_with core v view =
    then_do (wanted (quoted_in core.names.kinds v) view) (λ text now.
    giving (λ text. Exits (Some v)) (within_text text now))

abbrev pub exited : Core → Evaluates → Option CExpr → Does Change
exited core value_of None view = Gives (Exits None) view
exited core value_of (Some e) view = then_do (value_of e view) (exits_with core)

-- finish

-- the number of an instance that there is; none where the value names no instance
abbrev pub number_named : Option ℕ → Does (List ℕ)
number_named None view = Gives [] view
number_named (Some p) view = if nat_lt p view.instances then Gives (p ∷ []) view else Amiss

-- the instances that values name; no instance isn't waited for
abbrev pub all_named : List ℕ → List Value → Does (List ℕ)
all_named numbers [] view = Gives numbers view
all_named numbers (v ∷ values) view =
    then_do (wanted (instance_of v) view) (λ p now.
    then_do (number_named p now) (λ more. all_named (numbers ++ more) values))

-- instance p of a configuration, which does one item; its term is what is left after the item
module _ (core : Core) (config : Config) (p : ℕ) (i : Instance) where
  abbrev pub came_to : Did → Does Change
  came_to (On variables term) = gives (quietly (with_instance config p (record i { variables = variables; term = term })))
  came_to (Returns v) = amiss

  -- it waits with the offers of the select that it opened
  abbrev pub waits : Opening → Change
  waits o = quietly (with_instance config p (record i { variables = o.variables; state = Waiting o.offers }))

  -- it is in a state, and the new instances come last
  abbrev pub with_started : State → Started → Config
  with_started state s =
      let now : Config = with_instance config p (record i { variables = s.variables; state = state }) in
      record now { instances = now.instances ++ map settled s.made }

  -- it waits for the instances that it started
  abbrev pub joins_started : Started → Change
  joins_started s = quietly (with_started (Joining (range_with_len (length config.instances) (length s.made))) s)

  abbrev pub joins : List ℕ → Change
  joins numbers = quietly (with_instance config p (record i { state = Joining numbers }))

  abbrev pub performed_stat : CStat-F CAlt CStat Branch → Does Change
  performed_stat (CStat-F.Write line pieces values) view =
      giving (Goes (with_instance config p i)) (written core (value_in core config i.variables) pieces values view)
  performed_stat (CStat-F.Exit line e) view = exited core (value_in core config i.variables) e view
  performed_stat (CStat-F.Select line alternatives) view =
      giving waits (opened (value_in core config) config.clock i.variables alternatives view)
  performed_stat (CStat-F.Run line elements) view =
      giving joins_started (all_started (value_in core config) core.procs i.variables elements view)
  performed_stat (CStat-F.Start line elements) view =
      giving (λ s. quietly (with_started Running s)) (all_started (value_in core config) core.procs i.variables elements view)
  performed_stat (CStat-F.Finish line expressions) view =
      then_do (in_turn (map (value_in core config i.variables) expressions) view) (λ values now.
      giving joins (all_named [] values now))
  performed_stat other view = then_do (act_stat (value_in core config i.variables) i.variables other i.term view) came_to

  abbrev pub performed : Item → Does Change
  performed (Do s) view = performed_stat (out-CStat s) view
  performed item view = then_do (act (value_in core config i.variables) i.variables item i.term view) came_to
