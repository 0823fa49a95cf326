-- What an item has done. Private to proofs.
use Rattle.std.specs.Prelude.{[], ◌∷◌, Bool, true, false}
use Rattle.chi_core.specs.declared.program.Core.{Core}
use Rattle.chi_core.specs.declared.statement.Branch.{Branch}
use Rattle.chi_core.specs.declared.statement.CAlt.{CAlt}
use Rattle.chi_core.specs.declared.statement.CStat.{CStat, CStat-F}
use Rattle.chi_core.specs.Answer.{Does, amiss}
use Rattle.chi_core.specs.Evaluation.{Evaluates}
use Rattle.chi_core.specs.Variables.{Variables}
use Rattle.chi_core_frame.specs.Spots.{spot_in}
use Rattle.chi_xper.specs.declared.deed.Call as declared
use Rattle.chi_xper.specs.declared.deed.Deed.{Deed}
use Rattle.chi_xper.specs.declared.deed.Deed.TheVariants as deed
use Rattle.chi_xper.specs.Items.{Call, Did, On, Calls, Term, quietly, done}

-- the first item is done
abbrev pub first_done : Core → Evaluates → Variables → Term → Does Did
first_done core value_of variables [] = amiss
first_done core value_of variables (item ∷ rest) = done core value_of variables item rest

abbrev pub call_in : declared.Call → Call
call_in call = record { model = call.model; arguments = call.arguments.items; spot = spot_in call.spot; widen = call.widen }

-- it has led to these variables and this that is left to do
abbrev pub did_of : Variables → Term → Deed → Did
did_of variables term deed.Goes = quietly variables term
did_of variables term (deed.Writes text) = On variables term text.items
did_of variables term (deed.Calls call) = Calls (call_in call) variables term

-- a statement that is done as where nothing else is left
abbrev pub is_alone : CStat-F CAlt CStat Branch → Bool
is_alone (CStat-F.Break line) = false
is_alone (CStat-F.Continue line) = false
is_alone (CStat-F.Write line pieces values) = false
is_alone _ = true
