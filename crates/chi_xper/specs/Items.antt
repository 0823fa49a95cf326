-- The items of an experiment: what is left of it to do, and how one item of it is done.
use Rattle.std.specs.Prelude.{ℕ, Bool, Option, Some, None, List, [], ◌∷◌, ◌++◌, map}
use Rattle.chi_value.specs.declared.value.Value.{Value}
use Rattle.chi_core.specs.declared.experiment.XBranch.{XBranch, out-XBranch}
use Rattle.chi_core.specs.declared.experiment.XStat.{XStat, XStat-F, out-XStat}
use Rattle.chi_core.specs.declared.expression.CExpr.{CExpr}
use Rattle.chi_core.specs.declared.program.Core.{Core}
use Rattle.chi_core.specs.declared.statement.Branch.{Branch}
use Rattle.chi_core.specs.declared.statement.CAlt.{CAlt}
use Rattle.chi_core.specs.declared.statement.CStat.{CStat, CStat-F, out-CStat}
use Rattle.chi_core.specs.declared.target.CTarget.{CTarget}
use Rattle.chi_core.specs.Answer.{Gives, Does, then_do, gives, amiss, wanted, giving, in_turn}
use Rattle.chi_core.specs.Evaluation.{Evaluates, on_truth}
use Rattle.chi_core.specs.Performing.{written}
use Rattle.chi_core.specs.Reading.{truth_of, elements_of}
use Rattle.chi_core.specs.Spots.{Spot, spot_of}
use Rattle.chi_core.specs.Step.{line_in}
use Rattle.chi_core.specs.Terms as terms
use Rattle.chi_core.specs.Terms.{act_stat}
use Rattle.chi_core.specs.Variables.{Variables, bound}

-- One thing that is left to do: a statement; a loop under way, which tests again; or a walk under way, with
-- the elements that are left. Loops and walks have the line of their statement first.
pub data Item : Type 0 where
  Do : XStat → Item
  Loop : ℕ → CExpr → List XStat → Item
  Walk : ℕ → List ℕ → List Value → List XStat → Item

abbrev pub Term : Type 0
Term = List Item

-- A model is called: its number, the arguments, where the value of its exit goes, and whether that is converted to a real.
pub record Call : Type 0 where
  pub model : ℕ
  pub arguments : List Value
  pub spot : Spot
  pub widen : Bool

-- after an item: the variables, what is left to do, and a text that is written; or a model is called before
-- what is left
pub data Did : Type 0 where
  On : Variables → Term → List ℕ → Did
  Calls : Call → Variables → Term → Did

-- nothing is written
abbrev pub quietly : Variables → Term → Did
quietly variables term = On variables term []

-- a block goes first
abbrev pub first_the : List XStat → Term → Term
first_the block term = map Do block ++ term

-- what is left after the nearest loop or walk, and from it on

abbrev pub after_loop : Term → Option Term
after_loop [] = None
after_loop (Do s ∷ term) = after_loop term
after_loop (Loop line test block ∷ term) = Some term
after_loop (Walk line slots elements block ∷ term) = Some term

abbrev pub from_loop : Term → Option Term
from_loop [] = None
from_loop (Do s ∷ term) = from_loop term
from_loop (Loop line test block ∷ term) = Some (Loop line test block ∷ term)
from_loop (Walk line slots elements block ∷ term) = Some (Walk line slots elements block ∷ term)

-- the line of an item

abbrev pub line_at : XStat-F XStat XBranch → ℕ
line_at (XStat-F.Line s) = line_in (out-CStat s)
line_at (XStat-F.If line branches otherwise) = line
line_at (XStat-F.While line test block) = line
line_at (XStat-F.For line slots e block) = line
line_at (XStat-F.RunModel line target model arguments widen) = line

abbrev pub line_of : Item → ℕ
line_of (Do s) = line_at (out-XStat s)
line_of (Loop line test block) = line
line_of (Walk line slots elements block) = line

-- a statement that functions have too, done where nothing else is left, leaves the variables alone
abbrev pub lined : Term → terms.Did → Does Did
lined term (terms.On variables []) = gives (quietly variables term)
lined term _ = amiss

abbrev pub goes_on : Variables → Option Term → Does Did
goes_on variables term view = giving (quietly variables) (wanted term view)

-- with this evaluation of expressions, and these variables
module _ (value_of : Evaluates) (variables : Variables) where
  -- where an element is left, the names are bound to it, and the block comes before the rest of the walk
  abbrev pub walked : ℕ → List ℕ → List Value → List XStat → Term → Does Did
  walked line slots [] block term view = Gives (quietly variables term) view
  walked line slots (x ∷ xs) block term view =
      giving (λ after. quietly after (first_the block (Walk line slots xs block ∷ term))) (wanted (bound slots x variables) view)

  -- the block of the first branch whose test is true, or else the last block
  abbrev pub chosen : List XBranch → List XStat → Term → Does Did
  chosen [] otherwise term view = Gives (quietly variables (first_the otherwise term)) view
  chosen (b ∷ bs) otherwise term view =
      then_do (value_of (out-XBranch b).test view) (λ x. on_truth (truth_of x)
      (gives (quietly variables (first_the (out-XBranch b).block term)))
      (chosen bs otherwise term))

  -- where the test is true, the block and then the loop again
  abbrev pub tested : ℕ → CExpr → List XStat → Term → Does Did
  tested line test block term view =
      then_do (value_of test view) (λ x. on_truth (truth_of x)
      (gives (quietly variables (first_the block (Loop line test block ∷ term))))
      (gives (quietly variables term)))

  -- a walk over the elements of the container
  abbrev pub walking : ℕ → List ℕ → CExpr → List XStat → Term → Does Did
  walking line slots e block term view =
      then_do (value_of e view) (λ x now.
      giving (λ elements. quietly variables (Walk line slots elements block ∷ term)) (wanted (elements_of x) now))

  -- the arguments, and then the target's indexes
  abbrev pub calling : CTarget → ℕ → List CExpr → Bool → Term → Does Did
  calling target model arguments widen term view =
      then_do (in_turn (map value_of arguments) view) (λ values now.
      giving (λ spot. Calls (record { model = model; arguments = values; spot = spot; widen = widen }) variables term) (spot_of value_of target now))

-- with this evaluation of expressions, and these variables
module _ (core : Core) (value_of : Evaluates) (variables : Variables) where
  -- a statement without blocks
  abbrev pub done_line : CStat-F CAlt CStat Branch → Term → Does Did
  done_line (CStat-F.Break line) term view = goes_on variables (after_loop term) view
  done_line (CStat-F.Continue line) term view = goes_on variables (from_loop term) view
  done_line (CStat-F.Write line pieces values) term view = giving (On variables term) (written core value_of pieces values view)
  done_line other term view = then_do (act_stat value_of variables other [] view) (lined term)

  abbrev pub done_stat : XStat-F XStat XBranch → Term → Does Did
  done_stat (XStat-F.Line s) term = done_line (out-CStat s) term
  done_stat (XStat-F.If line branches otherwise) term = chosen value_of variables branches otherwise term
  done_stat (XStat-F.While line test block) term = tested value_of variables line test block term
  done_stat (XStat-F.For line slots e block) term = walking value_of variables line slots e block term
  done_stat (XStat-F.RunModel line target model arguments widen) term = calling value_of variables target model arguments widen term

  -- an item, with what is left to do after it
  abbrev pub done : Item → Term → Does Did
  done (Do s) term = done_stat (out-XStat s) term
  done (Loop line test block) term = tested value_of variables line test block term
  done (Walk line slots elements block) term = walked value_of variables line slots elements block term
