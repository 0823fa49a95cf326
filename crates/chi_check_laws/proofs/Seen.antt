-- Private to proofs. The names that bodies see agree with the program.
use Rattle.std.proofs.Common.{ℕ, ◌≡◌, ◌+◌, Bool, true, false, cond, List, [], ◌∷◌, ◌++◌, map, length, take, Option, Some, None, refl, sym, ap, subst, ◌∙◌, arith, append_assoc, append-nil}
use Rattle.std.specs.Prelude.{slice_get, IsTrue}
use Rattle.chi_tree.specs.declared.definition.Definition.{Definition}
use Rattle.chi_tree.specs.declared.definition.Definition.TheVariants as definition
use Rattle.chi_tree.specs.declared.statement.Step.{Step}
use Rattle.chi_tree.specs.declared.type_tree.Formal.{Formal}
use Rattle.chi_tree.specs.declared.type_tree.Name.{Name}
use Rattle.chi_types.specs.declared.ty.Ty.{Ty}
use Rattle.chi_value.specs.Names.{name_at}
use Rattle.chi_core.specs.declared.program.Core.{Core}
use Rattle.chi_core.specs.declared.program.FuncDef.{FuncDef}
use Rattle.chi_core.specs.declared.program.ProcDef.{ProcDef}
use Rattle.chi_core.specs.Kinds.{kind_of, kinds_of}
use Rattle.chi_core.specs.Scopes.{Scope, params_of, may_read}
use Rattle.chi_core.specs.SetSlots.{Known as Set}
use Rattle.chi_core.specs.Sound.{SoundIn}
use Rattle.chi_check_types.specs.declared.known.Known.{Known}
use Rattle.chi_check_types.specs.declared.known.Known.TheVariants as known
use Rattle.chi_check_types.specs.declared.known.NameKind.TheVariants as kind
use Rattle.chi_check_types.specs.Names.{Names, known_in}
use Rattle.chi_check.specs.Below.chi_check_stat_rules.specs.declared.home.ExitType.{ExitType}
use Rattle.chi_check.specs.Below.chi_check_stat_rules.specs.declared.home.ExitType.TheVariants as exit
use Rattle.chi_check.specs.Below.chi_check_stat_rules.specs.declared.home.Home.{Home}
use Rattle.chi_check.specs.Below.chi_check_stat_rules.specs.declared.home.Home.TheVariants as home
use Rattle.chi_check.specs.Below.chi_check_streams.specs.Streams.{each, of_function, of_process}
use Rattle.chi_check_laws.specs.KnownNames.{Stands}
use Rattle.chi_check.specs.Below.chi_check_stat_lines.specs.States.{with_name}
use Rattle.chi_check.specs.Below.chi_check_headers.specs.declared.header.Header.{Header}
use Rattle.chi_check.specs.Below.chi_check_headers.specs.declared.sketch.Named.{Named as Bodies}
use Rattle.chi_check.specs.Below.chi_check_headers.specs.Headers.{all_types, function_known, process_known, model_known, result_in, exit_in, function_headed, process_headed, model_headed}
use Rattle.chi_check.specs.Below.chi_check_headers.specs.Definitions.{means, with_definition, with_headed, with_all_headed}
use Rattle.chi_check.specs.Bodies.{result_of, exit_known, exit_of}
use Rattle.chi_check_laws.proofs.Constants.{ConstantIs}
use Rattle.chi_check_laws.proofs.Definitions.{meant_as}
use Rattle.chi_check_laws.proofs.Entries.{Entries, entries_with}
use Rattle.chi_check_laws.proofs.Fitting.{More, slots_begin, ProcessFits, FitsOne, Fits, RunsOne, Runs}
use Rattle.chi_check_laws.proofs.Positions.{length_join, get_seam, get_counted}
use Rattle.chi_check_laws.proofs.Shaped.{HasShape}
use Rattle.chi_check_laws.proofs.Signatures.{SoundTypes, HeaderSound, HeadersSound}
use Rattle.chi_check_laws.proofs.Sketches.{Named, EachNamed}

-- a function has these types, and a process or a model
pub record FunctionIs (core : Core) (number : ℕ) (params : List Ty) (result : Ty) : Type 0 where
  pub f : FuncDef
  pub is : slice_get core.funcs number ≡ Some f
  pub takes : params_of f ≡ kinds_of params
  pub gives : f.result ≡ result
  pub ty : SoundIn core result

pub record ProcessIs (core : Core) (number : ℕ) (params : List Ty) (exit : Option Ty) : Type 0 where
  pub d : ProcDef
  pub is : slice_get core.procs number ≡ Some d
  pub takes : d.params ≡ params
  pub exits : d.exit ≡ exit

-- what is known outside of bodies agrees with the program
abbrev pub Seen : Core → Known → Type 0
Seen core (known.Kind t) = SoundIn core t × HasShape t
Seen core (known.Value enumeration position) = (name : List ℕ) × (name_at core.names.kinds enumeration position ≡ Some name)
Seen core (known.Const number t) = ConstantIs core number t
Seen core (known.Func number params result) = FunctionIs core number params result
Seen core (known.Proc number params exit) = ProcessIs core number params exit
Seen core (known.Model number params exit) = ProcessIs core number params exit
Seen core (known.Xper number) = Unit {0}
Seen core (known.Var slot t) = ⊥
Seen core (known.Fixed slot t) = ⊥
Seen core (known.Untyped k) = ⊥

-- ---- what is known outside of bodies stands in each

module _ (scope : Scope) (set : Set) (reads : (number : ℕ) → IsTrue (may_read scope.role number)) where
  pub seen_stands : (k : Known) → Seen scope.core k → Stands scope set k
  seen_stands (known.Kind t) h = h.0
  seen_stands (known.Value enumeration position) h = record { name = h.0; is = h.1 }
  seen_stands (known.Const number t) h = record { c = h.c; is = h.is; read = reads number; typed = h.typed; ty = h.ty }
  seen_stands (known.Func number params result) h = record { f = h.f; is = h.is; takes = h.takes; gives = h.gives; ty = h.ty }
  seen_stands (known.Proc number params exit) h = record { d = h.d; is = h.is; takes = h.takes; exits = h.exits }
  seen_stands (known.Model number params exit) h = record { d = h.d; is = h.is; takes = h.takes; exits = h.exits }
  seen_stands (known.Xper number) h = tt
  seen_stands (known.Var slot t) h = absurd h
  seen_stands (known.Fixed slot t) h = absurd h
  seen_stands (known.Untyped k) h = absurd h

pub kinds_first : (params others : List Ty) → take (length params) (kinds_of (params ++ others)) ≡ kinds_of params
kinds_first [] others = refl
kinds_first (t ∷ params) others = ap (λ rest. kind_of t ∷ rest) (kinds_first params others)

pub result_home : (h : Home) (t : Ty) → result_of h ≡ Some t → h ≡ home.Function (Some t)
result_home (home.Function result) t e = ap home.Function e
result_home (home.Process own) t e = absurd (cc)
result_home home.Experiment t e = absurd (cc)

-- the exit type of a header that has types
abbrev own_of : Option Ty → ExitType
own_of None = exit.Nothing
own_of (Some t) = exit.Given t

own_is : (own : ExitType) (t : Option Ty) → exit_known own ≡ Some t → own ≡ own_of t
own_is exit.Nothing t e =
    let same : None ≡ t = cc in
    ap own_of same
own_is exit.Untyped t e = absurd (cc)
own_is (exit.Given u) t e =
    let same : Some u ≡ t = cc in
    ap own_of same

exit_is : (h : Home) (t : Option Ty) → exit_of h ≡ Some t → exit_in h ≡ own_of t
exit_is (home.Function result) t e = absurd (cc)
exit_is (home.Process own) t e = own_is own t e
exit_is home.Experiment t e = absurd (cc)

known_process : (number : ℕ) (params : List Ty) (t : Option Ty) → process_known number (Some params) (own_of t) ≡ known.Proc number params t
known_process number params None = refl
known_process number params (Some t) = refl

known_model : (number : ℕ) (params : List Ty) (t : Option Ty) → model_known number (Some params) (own_of t) ≡ known.Model number params t
known_model number params None = refl
known_model number params (Some t) = refl

module _ (core : Core) (funcs : List FuncDef) (procs : List ProcDef) (calls runs : ℕ)
    (functions : core.funcs ≡ (each (map of_function funcs) calls).part) (processes : core.procs ≡ (each (map of_process procs) runs).part) where
  abbrev N : ℕ
  N = length core.names.kinds

  either_definition : (b : Bool) (names : Names) (text : List ℕ) (k : Known) → Entries (Seen core) names → Seen core k → Entries (Seen core) (cond b (with_name names text k) names)
  either_definition true names text k h p = entries_with (Seen core) names text k h p
  either_definition false names text k h p = h

  function_there : (prior rest : List FuncDef) (f : FuncDef) (params : List Ty) → funcs ≡ prior ++ f ∷ rest → f.arity ≡ length params → More params f.slots → SoundIn core f.result → FunctionIs core (length prior) params f.result
  function_there prior rest f params e arity more sound =
      let at : slice_get funcs (length prior) ≡ Some f = ap (λ fs. slice_get fs (length prior)) e ∙ get_seam prior rest f in
      let found = get_counted of_function funcs calls (length prior) f at in
      record {
        f = (of_function f found.0).part;
        is = ap (λ fs. slice_get fs (length prior)) functions ∙ found.1;
        takes = (λ i. take (arity i) (kinds_of (more.1 i))) ∙ kinds_first params more.0;
        gives = refl;
        ty = sound;
      }

  process_there : (prior rest : List ProcDef) (d : ProcDef) → procs ≡ prior ++ d ∷ rest → ProcessIs core (length prior) d.params d.exit
  process_there prior rest d e =
      let at : slice_get procs (length prior) ≡ Some d = ap (λ ps. slice_get ps (length prior)) e ∙ get_seam prior rest d in
      let found = get_counted of_process procs runs (length prior) d at in
      record { d = (of_process d found.0).part; is = ap (λ ps. slice_get ps (length prior)) processes ∙ found.1; takes = refl; exits = refl }

  -- ---- one definition after another

  -- where a function or a process begins with the types of its header
  abbrev pub Before : List FuncDef → List ProcDef → Bodies → Type 0
  Before fs ps s = (s.functions ≡ length fs) × (s.processes ≡ length ps) × Entries (Seen core) s.names

  known_result : (number : ℕ) (types : Option (List Ty)) (h : Home) (params : List Ty) (result : Ty) → types ≡ Some params → h ≡ home.Function (Some result) → function_known number types (result_in h) ≡ known.Func number params result
  known_result number types h params result e f = (λ i. function_known number (e i) (result_in (f i)))

  seen_function : (all : Names) (name : Name) (h : Header) (s : Bodies) (params : List Ty) (result : Ty) → all_types h.formals ≡ Some params → result_of h.home ≡ Some result → FunctionIs core s.functions params result → Entries (Seen core) s.names
      → Entries (Seen core) (with_definition all kind.Function s.names name (function_headed s.functions h))
  seen_function all name h s params result e r is seen =
      either_definition (means kind.Function (known_in all name.text)) s.names name.text (function_headed s.functions h) seen
      (subst (Seen core) (sym (known_result s.functions (all_types h.formals) h.home params result e (result_home h.home result r))) is)

  seen_process : (all : Names) (name : Name) (h : Header) (s : Bodies) (params : List Ty) (exit : Option Ty) → all_types h.formals ≡ Some params → exit_of h.home ≡ Some exit → ProcessIs core s.processes params exit → Entries (Seen core) s.names
      → Entries (Seen core) (with_definition all kind.Process s.names name (process_headed s.processes h))
  seen_process all name h s params exit e x is seen =
      let own = exit_is h.home exit x in
      let same : process_headed s.processes h ≡ known.Proc s.processes params exit = (λ i. process_known s.processes (e i) (own i)) ∙ known_process s.processes params exit in
      either_definition (means kind.Process (known_in all name.text)) s.names name.text (process_headed s.processes h) seen (subst (Seen core) (sym same) is)

  seen_model : (all : Names) (name : Name) (h : Header) (s : Bodies) (params : List Ty) (exit : Option Ty) → all_types h.formals ≡ Some params → exit_of h.home ≡ Some exit → ProcessIs core s.processes params exit → Entries (Seen core) s.names
      → Entries (Seen core) (with_definition all kind.Model s.names name (model_headed s.processes h))
  seen_model all name h s params exit e x is seen =
      let own = exit_is h.home exit x in
      let same : model_headed s.processes h ≡ known.Model s.processes params exit = (λ i. model_known s.processes (e i) (own i)) ∙ known_model s.processes params exit in
      either_definition (means kind.Model (known_in all name.text)) s.names name.text (model_headed s.processes h) seen (subst (Seen core) (sym same) is)

  sound_result : (h : Home) (t : Ty) → result_of h ≡ Some t → SoundTypes N h → SoundIn core t
  sound_result (home.Function None) t e h = absurd (cc)
  sound_result (home.Function (Some u)) t e h =
      let same : u ≡ t = cc in
      subst (SoundIn core) same h
  sound_result (home.Process own) t e h = absurd (cc)
  sound_result home.Experiment t e h = absurd (cc)

  none_after : {A : Type 0} (xs x : List A) → [] ≡ x → length xs ≡ length (xs ++ x)
  none_after xs x e = ap length (sym (append-nil xs) ∙ ap (λ x. xs ++ x) e)

  one_after : {A : Type 0} (n : ℕ) (xs x : List A) (a : A) → n ≡ length xs → a ∷ [] ≡ x → n + 1 ≡ length (xs ++ x)
  one_after n xs x a c e =
      let l = length_join xs (a ∷ []) in
      let more : n + 1 ≡ length (xs ++ a ∷ []) = omega (arith, c, l) in
      more ∙ ap (λ x. length (xs ++ x)) e

  after_process : (all : Names) (name : Name) (formals : List Formal) (steps : List Step) (h : Header) (names : Names) (s : Bodies) (ps y rest : List ProcDef) → (d : ProcDef) × (d ∷ [] ≡ y) × ProcessFits name formals steps h names d
      → procs ≡ ps ++ (y ++ rest) → s.processes ≡ length ps → (d : ProcDef) × (all_types h.formals ≡ Some d.params) × (exit_of h.home ≡ Some d.exit) × ProcessIs core s.processes d.params d.exit
  after_process all name formals steps h names s ps y rest fits e c =
      (fits.0, fits.2.types, fits.2.own, subst (λ n. ProcessIs core n fits.0.params fits.0.exit) (sym c) (process_there ps rest fits.0 (subst (λ y. procs ≡ ps ++ (y ++ rest)) (sym fits.1) e)))

  headed_before : (all names : Names) (d : Definition) (h : Option Header) (s : Bodies) (fs x more : List FuncDef) (ps y rest : List ProcDef) → FitsOne names d h x → RunsOne names d h y → HeaderSound N d h → Named all d
      → funcs ≡ fs ++ (x ++ more) → procs ≡ ps ++ (y ++ rest) → Before fs ps s → Before (fs ++ x) (ps ++ y) (with_headed all d h s)
  headed_before all names (definition.Func place tree name formals steps) None s fs x more ps y rest fits runs sound n e f b = absurd sound
  headed_before all names (definition.Func place tree name formals steps) (Some h) s fs x more ps y rest fits runs sound n e f b =
      let made = fits.2 in
      let begin = slots_begin h formals steps names fits.0.body fits.0.slots made.params made.whole made.body sound.counted made.types in
      let there = function_there fs more fits.0 made.params (subst (λ x. funcs ≡ fs ++ (x ++ more)) (sym fits.1) e) made.arity begin (sound_result h.home fits.0.result made.result sound.home) in (
        one_after s.functions fs x fits.0 b.0 fits.1,
        b.1 ∙ none_after ps y runs,
        seen_function all name h s made.params fits.0.result made.types made.result (subst (λ n. FunctionIs core n made.params fits.0.result) (sym b.0) there) b.2,
      )
  headed_before all names (definition.Proc place tree name formals steps) None s fs x more ps y rest fits runs sound n e f b = absurd sound
  headed_before all names (definition.Proc place tree name formals steps) (Some h) s fs x more ps y rest fits runs sound n e f b =
      let there = after_process all name formals steps h names s ps y rest runs f b.1 in
      (b.0 ∙ none_after fs x fits, one_after s.processes ps y runs.0 b.1 runs.1, seen_process all name h s there.0.params there.0.exit there.1 there.2 there.3 b.2)
  headed_before all names (definition.Model place tree name formals steps) None s fs x more ps y rest fits runs sound n e f b = absurd sound
  headed_before all names (definition.Model place tree name formals steps) (Some h) s fs x more ps y rest fits runs sound n e f b =
      let there = after_process all name formals steps h names s ps y rest runs f b.1 in
      (b.0 ∙ none_after fs x fits, one_after s.processes ps y runs.0 b.1 runs.1, seen_model all name h s there.0.params there.0.exit there.1 there.2 there.3 b.2)
  headed_before all names (definition.Xper place name steps) h s fs x more ps y rest fits runs sound n e f b =
      (b.0 ∙ none_after fs x fits, b.1 ∙ none_after ps y runs, meant_as (Seen core) s.names name (known_in all name.text) (known.Xper n.0) n.1 (entries_with (Seen core) s.names name.text (known.Xper n.0) b.2 tt))
  headed_before all names (definition.Enum place name values) h s fs x more ps y rest fits runs sound n e f b = (b.0 ∙ none_after fs x fits, b.1 ∙ none_after ps y runs, b.2)
  headed_before all names (definition.Const place tree name equals value) h s fs x more ps y rest fits runs sound n e f b = (b.0 ∙ none_after fs x fits, b.1 ∙ none_after ps y runs, b.2)
  headed_before all names (definition.TypeWord place name tree) h s fs x more ps y rest fits runs sound n e f b = (b.0 ∙ none_after fs x fits, b.1 ∙ none_after ps y runs, b.2)

  pub all_seen : (all names : Names) (ds : List Definition) (hs : List (Option Header)) (s : Bodies) (fs more : List FuncDef) (ps rest : List ProcDef) → Fits names ds hs more → Runs names ds hs rest → HeadersSound N ds hs → EachNamed all ds
      → funcs ≡ fs ++ more → procs ≡ ps ++ rest → Before fs ps s → Entries (Seen core) (with_all_headed all ds hs s).names
  all_seen all names [] hs s fs more ps rest fits runs sound n e f b = b.2
  all_seen all names (d ∷ ds) [] s fs more ps rest fits runs sound n e f b = absurd sound
  all_seen all names (d ∷ ds) (h ∷ hs) s fs more ps rest fits runs sound n e f b =
      let e' : funcs ≡ fs ++ (fits.0 ++ fits.1) = e ∙ ap (λ more. fs ++ more) (sym fits.4) in
      let f' : procs ≡ ps ++ (runs.0 ++ runs.1) = f ∙ ap (λ rest. ps ++ rest) (sym runs.4) in
      all_seen all names ds hs (with_headed all d h s) (fs ++ fits.0) fits.1 (ps ++ runs.0) runs.1 fits.3 runs.3 sound.1 n.1
      (e' ∙ sym (append_assoc fs fits.0 fits.1)) (f' ∙ sym (append_assoc ps runs.0 runs.1)) (headed_before all names d h s fs fits.0 fits.1 ps runs.0 runs.1 fits.2 runs.2 sound.0 n.0 e' f' b)
