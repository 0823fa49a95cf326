-- Private to proofs. Functions, processes and models are sound.
use Rattle.std.proofs.Common.{ℕ, ◌≡◌, ◌+◌, List, [], ◌∷◌, ◌++◌, length, take, Option, Some, None, refl, sym, ap, subst, ◌∙◌, arith}
use Rattle.std.specs.Prelude.{option_map, IsTrue}
use Rattle.chi_tree.specs.declared.definition.Definition.{Definition}
use Rattle.chi_tree.specs.declared.definition.Definition.TheVariants as definition
use Rattle.chi_tree.specs.declared.statement.Step.{Step}
use Rattle.chi_tree.specs.declared.type_tree.Formal.{Formal}
use Rattle.chi_tree.specs.declared.type_tree.Name.{Name}
use Rattle.chi_types.specs.declared.ty.Ty.{Ty}
use Rattle.chi_core.specs.declared.program.Core.{Core}
use Rattle.chi_core.specs.declared.program.FuncDef.{FuncDef}
use Rattle.chi_core.specs.declared.program.ProcDef.{ProcDef}
use Rattle.chi_core.specs.declared.statement.CStat.{CStat}
use Rattle.chi_core.specs.Kinds.{kind_of, kinds_of}
use Rattle.chi_core.specs.Scopes.{Role, function, process, Scope, params_of, may_read}
use Rattle.chi_core.specs.Sound.{IsName, SoundIn, SoundIfAny, SoundHome, SoundFunction, SoundProcess, nothing_known}
use Rattle.chi_check_types.specs.Names.{Names}
use Rattle.chi_check_expr.proofs.Kept.{Each}
use Rattle.chi_check.specs.Below.chi_check_stat_rules.specs.declared.home.ExitType.{ExitType}
use Rattle.chi_check.specs.Below.chi_check_stat_rules.specs.declared.home.ExitType.TheVariants as exit
use Rattle.chi_check.specs.Below.chi_check_stat_rules.specs.declared.home.Home.{Home}
use Rattle.chi_check.specs.Below.chi_check_stat_rules.specs.declared.home.Home.TheVariants as home
use Rattle.chi_check.specs.Below.chi_check_streams.specs.Streams.{of_function, of_process}
use Rattle.chi_check.specs.Below.chi_check_headers.specs.declared.header.Header.{Header}
use Rattle.chi_check.specs.Below.chi_check_headers.specs.Headers.{all_types}
use Rattle.chi_check.specs.Bodies.{body_in, exit_known, exit_of, result_of}
use Rattle.chi_check_laws.specs.KnownNames.{Stands}
use Rattle.chi_check_laws.specs.Bodies.{role_of, SoundBodyOf}
use Rattle.chi_check_laws.specs.Texts.{body_texts}
use Rattle.chi_check_laws.specs.Whole.{steps_are_whole}
use Rattle.chi_check_laws.proofs.Homes.{body_stands}
use Rattle.chi_check_laws.specs.Spelled.{Spelled, EachSpelled}
use Rattle.chi_check_laws.proofs.Entries.{Entries, known_entry, entries_so}
use Rattle.chi_check_laws.proofs.Fitting.{FunctionFits, ProcessFits, FitsOne, Fits, RunsOne, Runs}
use Rattle.chi_check_laws.proofs.Positions.{length_join, each_every, map_parts, some_same}
use Rattle.chi_check_laws.proofs.Seen.{Seen, seen_stands, result_home, kinds_first}
use Rattle.chi_check_laws.proofs.Signatures.{SoundGiven, SoundTypes, SoundHeader, HeaderSound, HeadersSound}

given_types : (n : ℕ) (types : List (Option Ty)) (params : List Ty) → all_types types ≡ Some params → Each (SoundGiven n) types → Each (λ t. SoundGiven n (Some t)) params
given_types n [] params e h = subst (Each (λ t. SoundGiven n (Some t))) (some_same [] params e) tt
given_types n (None ∷ types) params e h = absurd (cc)
given_types n (Some t ∷ types) params e h =
    let parts = map_parts (λ more. t ∷ more) (all_types types) params e in
    subst (Each (λ t. SoundGiven n (Some t))) parts.2 (h.0, given_types n types parts.0 parts.1 h.1)

module _ (core : Core) (names : Names) (seen : Entries (Seen core) names) where
  abbrev N : ℕ
  N = length core.names.kinds

  abbrev scope_of : List Ty → Role → Scope
  scope_of slots role = record { core = core; slots = kinds_of slots; role = role }

  -- a body, after the formals of its header
  body_sound : (formals : List Formal) (steps : List Step) (h : Header) (body : List CStat) (slots params : List Ty) (role : Role) → ((number : ℕ) → IsTrue (may_read role number)) → role_of h.home ≡ Some role
      → SoundHeader N formals h → all_types h.formals ≡ Some params → IsTrue (steps_are_whole steps) → (body_in h formals steps names).made ≡ Some (body, slots) → SoundBodyOf (scope_of slots role) params slots body
  body_sound formals steps h body slots params role reads is sound types whole made =
      let scope = scope_of slots role in
      let fine = each_every (SoundIn core) params (given_types N h.formals params types sound.formals) in
      let stands = entries_so (Seen core) (Stands scope nothing_known) (seen_stands scope nothing_known reads) names seen in
      body_stands h scope is formals steps names whole params slots body types (sym sound.counted) fine (λ name k found. known_entry (Stands scope nothing_known) names name k stands found) refl made

  function_sound : (name : Name) (formals : List Formal) (steps : List Step) (h : Header) (f : FuncDef) → IsName name.text → SoundHeader N formals h → FunctionFits name formals steps h names f → IsTrue (body_texts f.body)
      → SoundIn core f.result → (count : ℕ) → SoundFunction core (of_function f count).part
  function_sound name formals steps h f spelled sound fits texts result count =
      let g = (of_function f count).part in
      let role = function (kind_of f.result) in
      let is : role_of h.home ≡ Some role = subst (λ home. role_of home ≡ Some role) (sym (result_home h.home f.result fits.result)) refl in
      let sb = body_sound formals steps h f.body f.slots fits.params role (λ number. refl) is sound fits.types fits.whole fits.body in
      let takes : params_of g ≡ kinds_of fits.params = (λ i. take (fits.arity i) (kinds_of (sb.first.1 i))) ∙ kinds_first fits.params sb.first.0 in
      let total : length f.slots ≡ length fits.params + length sb.first.0 = ap length sb.first.1 ∙ length_join fits.params sb.first.0 in
      let arity = fits.arity in
      record {
        name = subst IsName (sym fits.called) spelled;
        result = result;
        slots = sb.types;
        arity = omega (arith, total, arity);
        home = subst (λ params. SoundHome (record { scope = scope_of f.slots role; params = params; body = g.body })) (sym takes) (sb.home texts count);
      }

  own_is : (own : ExitType) (t : Option Ty) → exit_known own ≡ Some t → role_of (home.Process own) ≡ Some (process (option_map kind_of t))
  own_is exit.Nothing t e = ap (λ t. Some (process (option_map kind_of t))) (some_same None t e)
  own_is exit.Untyped t e = absurd (cc)
  own_is (exit.Given u) t e = ap (λ t. Some (process (option_map kind_of t))) (some_same (Some u) t e)

  home_is : (h : Home) (t : Option Ty) → exit_of h ≡ Some t → role_of h ≡ Some (process (option_map kind_of t))
  home_is (home.Function result) t e = absurd (cc)
  home_is (home.Process own) t e = own_is own t e
  home_is home.Experiment t e = absurd (cc)

  own_sound : (own : ExitType) (t : Option Ty) → exit_known own ≡ Some t → SoundTypes N (home.Process own) → SoundIfAny core t
  own_sound exit.Nothing t e h = subst (SoundIfAny core) (some_same None t e) tt
  own_sound exit.Untyped t e h = absurd (cc)
  own_sound (exit.Given u) t e h = subst (SoundIfAny core) (some_same (Some u) t e) h

  exit_sound : (h : Home) (t : Option Ty) → exit_of h ≡ Some t → SoundTypes N h → SoundIfAny core t
  exit_sound (home.Function result) t e h = absurd (cc)
  exit_sound (home.Process own) t e h = own_sound own t e h
  exit_sound home.Experiment t e h = absurd (cc)

  process_sound : (name : Name) (formals : List Formal) (steps : List Step) (h : Header) (d : ProcDef) → IsName name.text → SoundHeader N formals h → ProcessFits name formals steps h names d → IsTrue (body_texts d.body)
      → (count : ℕ) → SoundProcess core (of_process d count).part
  process_sound name formals steps h d spelled sound fits texts count =
      let sb = body_sound formals steps h d.body d.slots d.params (process (option_map kind_of d.exit)) (λ number. refl) (home_is h.home d.exit fits.own) sound fits.types fits.whole fits.body in
      record {
        name = subst IsName (sym fits.called) spelled;
        exit = exit_sound h.home d.exit fits.own sound.home;
        slots = sb.types;
        params = sb.first;
        home = sb.home texts count;
      }

  sound_result : (h : Home) (t : Ty) → result_of h ≡ Some t → SoundTypes N h → SoundIn core t
  sound_result (home.Function None) t e h = absurd (cc)
  sound_result (home.Function (Some u)) t e h = subst (SoundIn core) (some_same u t e) h
  sound_result (home.Process own) t e h = absurd (cc)
  sound_result home.Experiment t e h = absurd (cc)

  -- ---- all of them

  abbrev pub SoundCounted : FuncDef → Type 0
  SoundCounted f = (count : ℕ) → SoundFunction core (of_function f count).part

  abbrev pub RunsSound : ProcDef → Type 0
  RunsSound d = (count : ℕ) → SoundProcess core (of_process d count).part

  abbrev Texts : FuncDef → Type 0
  Texts f = IsTrue (body_texts f.body)

  abbrev Spoken : ProcDef → Type 0
  Spoken d = IsTrue (body_texts d.body)

  none_more : (x more : List FuncDef) → [] ≡ x → Each Texts (x ++ more) → (Each Texts more → Each SoundCounted more) → Each SoundCounted (x ++ more)
  none_more x more e t rest = subst (λ x. Each SoundCounted (x ++ more)) e (rest (subst (λ x. Each Texts (x ++ more)) (sym e) t))

  none_runs : (x more : List ProcDef) → [] ≡ x → Each Spoken (x ++ more) → (Each Spoken more → Each RunsSound more) → Each RunsSound (x ++ more)
  none_runs x more e t rest = subst (λ x. Each RunsSound (x ++ more)) e (rest (subst (λ x. Each Spoken (x ++ more)) (sym e) t))

  one_function : (d : Definition) (h : Option Header) (x more : List FuncDef) → Spelled d → HeaderSound N d h → FitsOne names d h x → Each Texts (x ++ more) → (Each Texts more → Each SoundCounted more) → Each SoundCounted (x ++ more)
  one_function (definition.Func place tree name formals steps) None x more sp sound fits t rest = absurd sound
  one_function (definition.Func place tree name formals steps) (Some h) x more sp sound fits t rest =
      let texts : Each Texts (fits.0 ∷ more) = subst (λ x. Each Texts (x ++ more)) (sym fits.1) t in
      subst (λ x. Each SoundCounted (x ++ more)) fits.1 (function_sound name formals steps h fits.0 sp sound fits.2 texts.0 (sound_result h.home fits.0.result fits.2.result sound.home), rest texts.1)
  one_function (definition.Proc place tree name formals steps) h x more sp sound fits t rest = none_more x more fits t rest
  one_function (definition.Model place tree name formals steps) h x more sp sound fits t rest = none_more x more fits t rest
  one_function (definition.Enum place name values) h x more sp sound fits t rest = none_more x more fits t rest
  one_function (definition.Const place tree name equals value) h x more sp sound fits t rest = none_more x more fits t rest
  one_function (definition.TypeWord place name tree) h x more sp sound fits t rest = none_more x more fits t rest
  one_function (definition.Xper place name steps) h x more sp sound fits t rest = none_more x more fits t rest

  pub functions_sound : (ds : List Definition) (hs : List (Option Header)) (fs : List FuncDef) → EachSpelled ds → HeadersSound N ds hs → Fits names ds hs fs → Each Texts fs → Each SoundCounted fs
  functions_sound [] hs fs sp sound fits t = subst (Each SoundCounted) fits tt
  functions_sound (d ∷ ds) [] fs sp sound fits t = absurd sound
  functions_sound (d ∷ ds) (h ∷ hs) fs sp sound fits t =
      subst (Each SoundCounted) fits.4 (one_function d h fits.0 fits.1 sp.0 sound.0 fits.2 (subst (Each Texts) (sym fits.4) t) (λ t. functions_sound ds hs fits.1 sp.1 sound.1 fits.3 t))

  one_process : (d : Definition) (h : Option Header) (x more : List ProcDef) → Spelled d → HeaderSound N d h → RunsOne names d h x → Each Spoken (x ++ more) → (Each Spoken more → Each RunsSound more) → Each RunsSound (x ++ more)
  one_process (definition.Proc place tree name formals steps) None x more sp sound fits t rest = absurd sound
  one_process (definition.Proc place tree name formals steps) (Some h) x more sp sound fits t rest =
      let texts : Each Spoken (fits.0 ∷ more) = subst (λ x. Each Spoken (x ++ more)) (sym fits.1) t in
      subst (λ x. Each RunsSound (x ++ more)) fits.1 (process_sound name formals steps h fits.0 sp sound fits.2 texts.0, rest texts.1)
  one_process (definition.Model place tree name formals steps) None x more sp sound fits t rest = absurd sound
  one_process (definition.Model place tree name formals steps) (Some h) x more sp sound fits t rest =
      let texts : Each Spoken (fits.0 ∷ more) = subst (λ x. Each Spoken (x ++ more)) (sym fits.1) t in
      subst (λ x. Each RunsSound (x ++ more)) fits.1 (process_sound name formals steps h fits.0 sp sound fits.2 texts.0, rest texts.1)
  one_process (definition.Func place tree name formals steps) h x more sp sound fits t rest = none_runs x more fits t rest
  one_process (definition.Enum place name values) h x more sp sound fits t rest = none_runs x more fits t rest
  one_process (definition.Const place tree name equals value) h x more sp sound fits t rest = none_runs x more fits t rest
  one_process (definition.TypeWord place name tree) h x more sp sound fits t rest = none_runs x more fits t rest
  one_process (definition.Xper place name steps) h x more sp sound fits t rest = none_runs x more fits t rest

  pub processes_sound : (ds : List Definition) (hs : List (Option Header)) (ps : List ProcDef) → EachSpelled ds → HeadersSound N ds hs → Runs names ds hs ps → Each Spoken ps → Each RunsSound ps
  processes_sound [] hs ps sp sound runs t = subst (Each RunsSound) runs tt
  processes_sound (d ∷ ds) [] ps sp sound runs t = absurd sound
  processes_sound (d ∷ ds) (h ∷ hs) ps sp sound runs t =
      subst (Each RunsSound) runs.4 (one_process d h runs.0 runs.1 sp.0 sound.0 runs.2 (subst (Each Spoken) (sym runs.4) t) (λ t. processes_sound ds hs runs.1 sp.1 sound.1 runs.3 t))
