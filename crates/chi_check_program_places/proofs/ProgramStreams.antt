-- The streams of a core are those of the core without its lines.
use Rattle.std.proofs.Common.{◌≡◌, List, map, refl, ap, ◌∙◌}
use Rattle.chi_core.specs.declared.experiment.XperDef.{XperDef}
use Rattle.chi_core.specs.declared.program.ConstDef.{ConstDef}
use Rattle.chi_core.specs.declared.program.Core.{Core}
use Rattle.chi_core.specs.declared.program.FuncDef.{FuncDef}
use Rattle.chi_core.specs.declared.program.ProcDef.{ProcDef}
use Rattle.chi_check.specs.Below.chi_check_streams.specs.Streams.{Counted, each, of_statement, of_xstat, of_constant, of_function, of_process, of_experiment, with_streams}
use Rattle.chi_check_program_places.specs.Lineless.{lineless_statement, lineless_xstat, lineless_constant, lineless_function, lineless_process, lineless_experiment, lineless}
use Rattle.chi_check_program_places.proofs.Streams.{counted_by, made-by, all-by, statement-streams}
use Rattle.chi_check_program_places.proofs.TrialStreams.{trial-streams}

constant-streams : (c : ConstDef) → of_constant (lineless_constant c) ≡ counted_by lineless_constant (of_constant c)
constant-streams c = refl

function-streams : (f : FuncDef) → of_function (lineless_function f) ≡ counted_by lineless_function (of_function f)
function-streams f = λ i count. made-by (map lineless_statement) lineless_function
    (λ body. record { name = f.name; arity = f.arity; result = f.result; slots = f.slots; body = body }) (λ body. record { name = f.name; arity = f.arity; result = f.result; slots = f.slots; body = body })
    (λ body. refl) (each (map of_statement f.body) count) (all-by lineless_statement of_statement statement-streams f.body count) i

process-streams : (p : ProcDef) → of_process (lineless_process p) ≡ counted_by lineless_process (of_process p)
process-streams p = λ i count. made-by (map lineless_statement) lineless_process
    (λ body. record { name = p.name; params = p.params; exit = p.exit; slots = p.slots; body = body }) (λ body. record { name = p.name; params = p.params; exit = p.exit; slots = p.slots; body = body })
    (λ body. refl) (each (map of_statement p.body) count) (all-by lineless_statement of_statement statement-streams p.body count) i

experiment-streams : (x : XperDef) → of_experiment (lineless_experiment x) ≡ counted_by lineless_experiment (of_experiment x)
experiment-streams x = λ i count. made-by (map lineless_xstat) lineless_experiment
    (λ body. record { name = x.name; slots = x.slots; body = body }) (λ body. record { name = x.name; slots = x.slots; body = body })
    (λ body. refl) (each (map of_xstat x.body) count) (all-by lineless_xstat of_xstat trial-streams x.body count) i

-- a program without lines, of what its first definitions have been counted

abbrev with_processes : Core → List ConstDef → List FuncDef → Counted (List ProcDef) → Core
with_processes core consts funcs procs = record {
  consts = consts;
  funcs = funcs;
  procs = procs.part;
  model = core.model;
  names = core.names;
  xpers = (each (map of_experiment (map lineless_experiment core.xpers)) procs.next).part;
}

abbrev with_functions : Core → List ConstDef → Counted (List FuncDef) → Core
with_functions core consts funcs = with_processes core consts funcs.part (each (map of_process (map lineless_process core.procs)) funcs.next)

abbrev with_constants : Core → Counted (List ConstDef) → Core
with_constants core consts = with_functions core consts.part (each (map of_function (map lineless_function core.funcs)) consts.next)

pub streams-lineless : (core : Core) → with_streams (lineless core) ≡ lineless (with_streams core)
unfolding with_streams
streams-lineless core =
    let consts = each (map of_constant core.consts) 0 in
    let funcs = each (map of_function core.funcs) consts.next in
    let procs = each (map of_process core.procs) funcs.next in
    (λ i. with_constants core (all-by lineless_constant of_constant constant-streams core.consts 0 i))
    ∙ (λ i. with_functions core (map lineless_constant consts.part) (all-by lineless_function of_function function-streams core.funcs consts.next i))
    ∙ (λ i. with_processes core (map lineless_constant consts.part) (map lineless_function funcs.part) (all-by lineless_process of_process process-streams core.procs funcs.next i))
    ∙ (λ i. record {
      consts = map lineless_constant consts.part;
      funcs = map lineless_function funcs.part;
      procs = map lineless_process procs.part;
      model = core.model;
      names = core.names;
      xpers = (all-by lineless_experiment of_experiment experiment-streams core.xpers procs.next i).part;
    })
