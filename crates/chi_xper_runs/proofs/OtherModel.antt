-- A sound program is sound whichever of its models is the one that is run.
use Rattle.std.proofs.Common.{◌≡◌, ℕ, Bool, false, List, Option, Some, None}
use Rattle.std.specs.Prelude.{slice_get}
use Rattle.chi_types.specs.declared.ty.Ty.{Ty}
use Rattle.chi_core.specs.declared.experiment.XBranch.{XBranch, out-XBranch}
use Rattle.chi_core.specs.declared.experiment.XStat.{XStat, out-XStat}
use Rattle.chi_core.specs.declared.expression.CExpr.{out-CExpr}
use Rattle.chi_core.specs.declared.experiment.XperDef.{XperDef}
use Rattle.chi_core.specs.declared.program.ConstDef.{ConstDef}
use Rattle.chi_core.specs.declared.program.Core.{Core}
use Rattle.chi_core.specs.declared.program.FuncDef.{FuncDef}
use Rattle.chi_core.specs.declared.program.ProcDef.{ProcDef}
use Rattle.chi_core.specs.declared.statement.Branch.{Branch, out-Branch}
use Rattle.chi_core.specs.declared.statement.CAlt.{CAlt, CAlt-F, out-CAlt}
use Rattle.chi_core.specs.declared.statement.CStat.{CStat, out-CStat}
use Rattle.chi_core.specs.Kinds.{kind_of}
use Rattle.chi_core.specs.Scopes.{Scope, constant_scope, function_home, process_home, experiment_scope}
use Rattle.chi_core.specs.SetSlots.{StatLayer, Known, also_all, sets, params_known}
use Rattle.chi_core.specs.Sound.{nothing_known, SoundIfAny, SoundConstant, SoundFunction, SoundProcess, SoundExperiment, Sound}
use Rattle.chi_core.specs.SoundExperiments as experiment
use Rattle.chi_core.specs.SoundExperiments.{XLayer, sets_by, SoundXStat, SoundXBlock, SoundXBranches}
use Rattle.chi_core.specs.SoundStatements as statement
use Rattle.chi_core.specs.SoundStatements.{SoundStat, SoundBlock, SoundBranches, SoundAlternatives, SoundAlternative}
use Rattle.chi_xper_runs.proofs.OtherParts.{other_model, other_scope, kind_there, kinds_there, target_there, targets_there, walks_there, comm_there, guard_there, exit_there, elements_there}

module _ (scope : Scope) (number : ℕ) where
  abbrev other : Scope
  other = other_scope scope number

  mutual
    stat_there : (loop : Bool) (known : Known) (s : StatLayer) → SoundStat scope loop known s → SoundStat other loop known s
    stat_there _ _ _ (statement.declares loop known line slot e T at may h) = statement.declares loop known line slot e T at may (kind_there scope number known (out-CExpr e) T h)
    stat_there _ _ _ (statement.assigns loop known line targets es Ts are take) =
        statement.assigns loop known line targets es Ts (kinds_there scope number known es Ts are) (targets_there scope number known targets Ts take)
    stat_there _ _ _ (statement.spreads loop known line t u more e parts h take) =
        statement.spreads loop known line t u more e parts (kind_there scope number known (out-CExpr e) _ h) (targets_there scope number known _ _ take)
    stat_there _ _ _ (statement.chooses loop known line branches otherwise h k) =
        statement.chooses loop known line branches otherwise (branches_there loop known branches h) (block_there loop known otherwise k)
    stat_there _ _ _ (statement.loops loop known line test block h k) =
        statement.loops loop known line test block (kind_there scope number known (out-CExpr test) _ h) (block_there _ known block k)
    stat_there _ _ _ (statement.walks loop known line slots container block walks k) =
        statement.walks loop known line slots container block (walks_there scope number known slots container walks) (block_there _ (also_all slots known) block k)
    stat_there _ _ _ (statement.breaks known line) = statement.breaks known line
    stat_there _ _ _ (statement.continues known line) = statement.continues known line
    stat_there _ _ _ (statement.passes loop known line) = statement.passes loop known line
    stat_there _ _ _ (statement.returns loop known line e T role h) = statement.returns loop known line e T role (kind_there scope number known (out-CExpr e) T h)
    stat_there _ _ _ (statement.exits loop known line e exit role h) = statement.exits loop known line e exit role (exit_there scope number known e exit h)
    stat_there _ _ _ (statement.writes loop known line pieces es exit Ts role are shows) =
        statement.writes loop known line pieces es exit Ts role (kinds_there scope number known es Ts are) shows
    stat_there _ _ _ (statement.selects loop known line alternatives exit role h) =
        statement.selects loop known line alternatives exit role (alternatives_there loop known alternatives h)
    stat_there _ _ _ (statement.runs loop known line elements exit role h) = statement.runs loop known line elements exit role (elements_there scope number exit known elements h)
    stat_there _ _ _ (statement.starts loop known line elements exit role h) = statement.starts loop known line elements exit role (elements_there scope number exit known elements h)
    stat_there _ _ _ (statement.finishes loop known line es exit role are) = statement.finishes loop known line es exit role (kinds_there scope number known es _ are)

    block_there : (loop : Bool) (known : Known) (block : List CStat) → SoundBlock scope loop known block → SoundBlock other loop known block
    block_there _ _ _ (statement.no_statement loop known) = statement.no_statement loop known
    block_there _ _ _ (statement.one_statement loop known x xs h more) =
        statement.one_statement loop known x xs (stat_there loop known (out-CStat x) h) (block_there loop (sets (out-CStat x) known) xs more)

    branches_there : (loop : Bool) (known : Known) (branches : List Branch) → SoundBranches scope loop known branches → SoundBranches other loop known branches
    branches_there _ _ _ (statement.no_branch loop known) = statement.no_branch loop known
    branches_there _ _ _ (statement.one_branch loop known b bs h block more) =
        statement.one_branch loop known b bs (kind_there scope number known (out-CExpr (out-Branch b).test) _ h) (block_there loop known (out-Branch b).block block)
        (branches_there loop known bs more)

    alternatives_there : (loop : Bool) (known : Known) (alternatives : List CAlt) → SoundAlternatives scope loop known alternatives → SoundAlternatives other loop known alternatives
    alternatives_there _ _ _ (statement.no_alternative loop known) = statement.no_alternative loop known
    alternatives_there _ _ _ (statement.one_alternative loop known a as_well h more) =
        statement.one_alternative loop known a as_well (alternative_there loop known (out-CAlt a) h) (alternatives_there loop known as_well more)

    alternative_there : (loop : Bool) (known : Known) (a : CAlt-F CAlt CStat Branch) → SoundAlternative scope loop known a → SoundAlternative other loop known a
    alternative_there _ _ _ (statement.guarded loop known guard communication block h c k) =
        statement.guarded loop known guard communication block (guard_there scope number known guard h) (comm_there scope number known communication c) (block_there loop known block k)
    alternative_there _ _ _ (statement.unwinds loop known slots container alternatives walks more) =
        statement.unwinds loop known slots container alternatives (walks_there scope number known slots container walks) (alternatives_there loop (also_all slots known) alternatives more)

  mutual
    xstat_there : (loop : Bool) (known : Known) (x : XLayer) → SoundXStat scope loop known x → SoundXStat other loop known x
    xstat_there _ _ _ (experiment.one_line loop known s is h) = experiment.one_line loop known s is (stat_there loop known (out-CStat s) h)
    xstat_there _ _ _ (experiment.one_write loop known s line pieces es Ts is are shows) =
        experiment.one_write loop known s line pieces es Ts is (kinds_there scope number known es Ts are) shows
    xstat_there _ _ _ (experiment.chooses loop known line branches otherwise h k) =
        experiment.chooses loop known line branches otherwise (xbranches_there loop known branches h) (xblock_there loop known otherwise k)
    xstat_there _ _ _ (experiment.loops loop known line test block h k) =
        experiment.loops loop known line test block (kind_there scope number known (out-CExpr test) _ h) (xblock_there _ known block k)
    xstat_there _ _ _ (experiment.walks loop known line slots container block walks k) =
        experiment.walks loop known line slots container block (walks_there scope number known slots container walks) (xblock_there _ (also_all slots known) block k)
    xstat_there _ _ _ (experiment.runs loop known line target model arguments widen d exit taken is exits plain are takes target_takes) =
        experiment.runs loop known line target model arguments widen d exit taken is exits plain (kinds_there scope number known arguments _ are) takes
        (target_there scope number known target.slot target.steps taken target_takes)

    xblock_there : (loop : Bool) (known : Known) (block : List XStat) → SoundXBlock scope loop known block → SoundXBlock other loop known block
    xblock_there _ _ _ (experiment.no_statement loop known) = experiment.no_statement loop known
    xblock_there _ _ _ (experiment.one_statement loop known x xs h more) =
        experiment.one_statement loop known x xs (xstat_there loop known (out-XStat x) h) (xblock_there loop (sets_by (out-XStat x) known) xs more)

    xbranches_there : (loop : Bool) (known : Known) (branches : List XBranch) → SoundXBranches scope loop known branches → SoundXBranches other loop known branches
    xbranches_there _ _ _ (experiment.no_branch loop known) = experiment.no_branch loop known
    xbranches_there _ _ _ (experiment.one_branch loop known b bs h block more) =
        experiment.one_branch loop known b bs (kind_there scope number known (out-CExpr (out-XBranch b).test) _ h) (xblock_there loop known (out-XBranch b).block block)
        (xbranches_there loop known bs more)

module _ (core : Core) (number : ℕ) where
  -- another program, which is the same but for the model that is run
  abbrev there : Core
  there = other_model core number

  constant_there : (n : ℕ) (c : ConstDef) → SoundConstant core n c → SoundConstant there n c
  constant_there n c h = record { ty = h.ty; value = kind_there (constant_scope core n) number nothing_known (out-CExpr c.value) (kind_of c.ty) h.value }

  function_there : (f : FuncDef) → SoundFunction core f → SoundFunction there f
  function_there f h = record {
    name = h.name;
    result = h.result;
    slots = h.slots;
    arity = h.arity;
    home = record { body = block_there (function_home core f).scope number false (params_known (function_home core f)) f.body h.home.body; unwinds = h.home.unwinds };
  }

  exit_type_there : (exit : Option Ty) → SoundIfAny core exit → SoundIfAny there exit
  exit_type_there None h = h
  exit_type_there (Some t) h = h

  process_there : (d : ProcDef) → SoundProcess core d → SoundProcess there d
  process_there d h = record {
    name = h.name;
    exit = exit_type_there d.exit h.exit;
    slots = h.slots;
    params = h.params;
    home = record { body = block_there (process_home core d).scope number false (params_known (process_home core d)) d.body h.home.body; unwinds = h.home.unwinds };
  }

  experiment_there : (x : XperDef) → SoundExperiment core x → SoundExperiment there x
  experiment_there x h = record { name = h.name; slots = h.slots; body = xblock_there (experiment_scope core x) number false nothing_known x.body h.body }

  -- where the number is that of a definition
  pub sound_there : (d : ProcDef) → slice_get core.procs number ≡ Some d → Sound core → Sound there
  sound_there d is fine = record {
    enumerations = fine.enumerations;
    constants = λ n c e. constant_there n c (fine.constants n c e);
    functions = λ k f e. function_there f (fine.functions k f e);
    processes = λ k d e. process_there d (fine.processes k d e);
    experiments = λ k x e. experiment_there x (fine.experiments k x e);
    model = (d, is);
  }
