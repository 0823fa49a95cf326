-- Terms: what is left to do, and how one item of it is done.
use Rattle.std.specs.Prelude.{ℕ, Option, Some, None, List, [], ◌∷◌, ◌++◌, map}
use Rattle.chi_value.specs.declared.value.Value.{Value}
use Rattle.chi_core.specs.declared.expression.CExpr.{CExpr}
use Rattle.chi_core.specs.declared.statement.CStat.{CStat, CStat-F, out-CStat}
use Rattle.chi_core.specs.declared.statement.Branch.{Branch, out-Branch}
use Rattle.chi_core.specs.declared.statement.CAlt.{CAlt}
use Rattle.chi_core.specs.declared.target.CTarget.{CTarget}
use Rattle.chi_core.specs.Answer.{Gives, Does, then_do, gives, amiss, wanted, giving, in_turn, through}
use Rattle.chi_core.specs.Reading.{truth_of, parts_of, elements_of}
use Rattle.chi_core.specs.Variables.{Variables, with_slot, side_by_side, bound}
use Rattle.chi_core.specs.Evaluation.{Evaluates, on_truth}
use Rattle.chi_core.specs.Spots.{spot_of, store}

-- One thing that is left to do: a statement; a loop under way, which tests again; or a walk under way, with
-- the elements that are left. Loops and walks have the line of their statement first.
pub data Item : Type 0 where
  Do : CStat → Item
  Loop : ℕ → CExpr → List CStat → Item
  Walk : ℕ → List ℕ → List Value → List CStat → Item

abbrev pub Term : Type 0
Term = List Item

-- after an item: the variables and what is left to do; or a function returns
pub data Did : Type 0 where
  On : Variables → Term → Did
  Returns : Value → Did

abbrev pub on_with : Term → Variables → Did
on_with term variables = On variables term

-- a block goes first
abbrev pub first_the : List CStat → Term → Term
first_the block term = map Do block ++ term

-- what is left after the nearest loop or walk, and from it on

abbrev pub after_loop : Term → Option Term
after_loop [] = None
after_loop (Do s ∷ term) = after_loop term
after_loop (Loop line test block ∷ term) = Some term
after_loop (Walk line slots elements block ∷ term) = Some term

abbrev pub from_loop : Term → Option Term
from_loop [] = None
from_loop (Do s ∷ term) = from_loop term
from_loop (Loop line test block ∷ term) = Some (Loop line test block ∷ term)
from_loop (Walk line slots elements block ∷ term) = Some (Walk line slots elements block ∷ term)

abbrev pub goes_on : Variables → Option Term → Does Did
goes_on variables term view = giving (On variables) (wanted term view)

-- where an element is left, the names are bound to it, and the block comes before the rest of the walk
abbrev pub walked : Variables → ℕ → List ℕ → List Value → List CStat → Term → Does Did
walked variables line slots [] block term view = Gives (On variables term) view
walked variables line slots (x ∷ xs) block term view =
    giving (on_with (first_the block (Walk line slots xs block ∷ term))) (wanted (bound slots x variables) view)

-- One value for each target; or one tuple, with a part for each of several.
abbrev pub spread : List CTarget → List Value → Option (List Value)
spread (t ∷ t2 ∷ ts) (x ∷ []) = parts_of x
spread targets values = Some values

-- with this evaluation of expressions, and these variables
module _ (value_of : Evaluates) (variables : Variables) where
  -- the block of the first branch whose test is true, or else the last block
  abbrev pub chosen : List Branch → List CStat → Term → Does Did
  chosen [] otherwise term view = Gives (On variables (first_the otherwise term)) view
  chosen (b ∷ bs) otherwise term view =
      then_do (value_of (out-Branch b).test view) (λ x. on_truth (truth_of x)
      (gives (On variables (first_the (out-Branch b).block term)))
      (chosen bs otherwise term))

  -- where the test is true, the block and then the loop again
  abbrev pub tested : ℕ → CExpr → List CStat → Term → Does Did
  tested line test block term view =
      then_do (value_of test view) (λ x. on_truth (truth_of x)
      (gives (On variables (first_the block (Loop line test block ∷ term))))
      (gives (On variables term)))

  -- the values, of which one tuple is taken apart for several targets; then the targets' indexes, then the stores, each
  -- from left to right
  abbrev pub assigned : List CTarget → List CExpr → Term → Does Did
  assigned targets expressions term view =
      then_do (in_turn (map value_of expressions) view) (λ given now.
      then_do (wanted (spread targets given) now) (λ values later.
      then_do (in_turn (map (spot_of value_of) targets) later) (λ spots new.
      then_do (wanted (side_by_side spots values) new) (λ stores last.
      giving (on_with term) (through store stores variables last)))))

  -- the slot has the value
  abbrev pub declared : ℕ → CExpr → Term → Does Did
  declared slot e term view = then_do (value_of e view) (λ x now. giving (on_with term) (wanted (with_slot slot x variables) now))

  -- a walk over the elements of the container
  abbrev pub walking : ℕ → List ℕ → CExpr → List CStat → Term → Does Did
  walking line slots e block term view =
      then_do (value_of e view) (λ x now.
      giving (λ elements. On variables (Walk line slots elements block ∷ term)) (wanted (elements_of x) now))

  abbrev pub returned : CExpr → Does Did
  returned e view = giving Returns (value_of e view)

  -- A statement that functions and processes share, with what is left to do after it.
  abbrev pub act_stat : CStat-F CAlt CStat Branch → Term → Does Did
  act_stat (CStat-F.Declare line slot e) term = declared slot e term
  act_stat (CStat-F.Assign line targets values) term = assigned targets values term
  act_stat (CStat-F.If line branches otherwise) term = chosen branches otherwise term
  act_stat (CStat-F.While line test block) term = tested line test block term
  act_stat (CStat-F.For line slots e block) term = walking line slots e block term
  act_stat (CStat-F.Break line) term = goes_on variables (after_loop term)
  act_stat (CStat-F.Continue line) term = goes_on variables (from_loop term)
  act_stat (CStat-F.Pass line) term = gives (On variables term)
  act_stat (CStat-F.Return line e) term = returned e
  act_stat _ term = amiss

  -- an item, with what is left to do after it
  abbrev pub act : Item → Term → Does Did
  act (Do s) term = act_stat (out-CStat s) term
  act (Loop line test block) term = tested line test block term
  act (Walk line slots elements block) term = walked variables line slots elements block term
