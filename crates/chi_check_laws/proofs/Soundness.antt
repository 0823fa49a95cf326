-- Private to proofs. What the checker makes of a program is sound.
use Rattle.std.proofs.Common.{ℕ, zero, suc, ◌≡◌, ◌+◌, List, [], ◌∷◌, ◌++◌, map, length, take, Option, Some, None, refl, sym, ap, subst, ◌∙◌, arith, append_assoc}
use Rattle.std.specs.Prelude.{slice_get, IsTrue}
use Rattle.chi_token.specs.declared.place.Place.{Place}
use Rattle.chi_tree.specs.declared.definition.Definition.{Definition}
use Rattle.chi_tree.specs.declared.definition.Definition.TheVariants as definition
use Rattle.chi_tree.specs.declared.definition.Program.{Program}
use Rattle.chi_core.specs.declared.experiment.XperDef.{XperDef}
use Rattle.chi_core.specs.declared.program.ConstDef.{ConstDef}
use Rattle.chi_core.specs.declared.program.Core.{Core}
use Rattle.chi_core.specs.declared.program.FuncDef.{FuncDef}
use Rattle.chi_core.specs.declared.program.ProcDef.{ProcDef}
use Rattle.chi_core.specs.Kinds.{Every}
use Rattle.chi_core.specs.Sound.{Sound, SoundConstant, SoundFunction, SoundProcess, SoundExperiment, SoundEnumeration}
use Rattle.chi_core.specs.SoundTypes.{SoundType, choice}
use Rattle.chi_check_types.specs.declared.known.Known.{Known}
use Rattle.chi_check_types.specs.declared.known.Known.TheVariants as known
use Rattle.chi_check_types.specs.Names.{Names}
use Rattle.chi_check_expr.proofs.Nodes.{left_nil, right_nil}
use Rattle.chi_check.specs.Below.chi_check_streams.specs.Streams.{each, of_constant, of_function, of_process, of_experiment, with_streams}
use Rattle.chi_check_laws.specs.TypedTexts.{texts_are_short}
use Rattle.chi_check.specs.Below.chi_check_stat_lines.specs.Stated.{Stated, in_turn}
use Rattle.chi_check.specs.Below.chi_check_headers.specs.declared.header.Header.{Header}
use Rattle.chi_check.specs.Below.chi_check_headers.specs.declared.sketch.Sketch.{Sketch}
use Rattle.chi_check.specs.Below.chi_check_headers.specs.declared.sketch.Early.{Early}
use Rattle.chi_check.specs.Below.chi_check_headers.specs.Headers.{header_in, header_faults}
use Rattle.chi_check.specs.Below.chi_check_headers.specs.Definitions.{sketching, early_defined, with_all_late, with_all_headed}
use Rattle.chi_check.specs.Bodies.{functions_of, processes_of, experiments_of}
use Rattle.chi_check.specs.Programs.{no_names, first_early, first_named, first_model, model_rule, core, core_of, definitions_checked, checked}
use Rattle.chi_check_laws.specs.Texts.{body_texts}
use Rattle.chi_check_laws.specs.Trials.{trials_texts}
use Rattle.chi_check_laws.specs.CheckedBodies.{EachIsWhole, BodiesAreWhole, TextsAreShort}
use Rattle.chi_check_laws.specs.Spelled.{EachSpelled, NamesAreNames}
use Rattle.chi_check_laws.proofs.Constants.{EarlyStands, ConstantAt, ConstantsFrom, Next, constants_next}
use Rattle.chi_check_laws.proofs.Definitions.{all_early_keep, all_late_continue, all_late_entries}
use Rattle.chi_check_laws.proofs.Entries.{Entries, entries_both, entries_so}
use Rattle.chi_check_laws.proofs.Enumerated.{Kinds, InKinds, Enumerated, all_enumerated, enumerations_sound}
use Rattle.chi_check_laws.proofs.Fitting.{Fits, Runs, functions_fit, functions_stay, processes_stay, processes_run}
use Rattle.chi_check_laws.proofs.Lookups.{first_again}
use Rattle.chi_check_laws.proofs.Positions.{length_join, get_seam, each_every, every_each, get_counted, counted_get, some_same}
use Rattle.chi_check_laws.proofs.Seen.{Seen, all_seen}
use Rattle.chi_check_laws.proofs.Shaped.{Fine}
use Rattle.chi_check_laws.proofs.Signatures.{StandsForSound, HeadersSound, headers_sound}
use Rattle.chi_check_laws.proofs.Sketches.{EachNamed, each_named, sketch_keeps}
use Rattle.chi_check_laws.proofs.Sounds.{functions_sound, processes_sound}
use Rattle.chi_check_laws.proofs.TrialPrograms.{experiments_sound}

-- ---- a core by its parts

record CoreParts (es : Option Kinds) (cs : Option (List ConstDef)) (fs : Option (List FuncDef)) (ps : Option (List ProcDef)) (xs : Option (List XperDef)) (m : Option ℕ) (c : Core) : Type 0 where
  kinds : Kinds
  consts : List ConstDef
  funcs : List FuncDef
  procs : List ProcDef
  xpers : List XperDef
  model : ℕ
  made_kinds : es ≡ Some kinds
  made_consts : cs ≡ Some consts
  made_funcs : fs ≡ Some funcs
  made_procs : ps ≡ Some procs
  made_xpers : xs ≡ Some xpers
  found_model : m ≡ Some model
  is : core kinds consts funcs procs xpers model ≡ c

core_parts : (es : Option Kinds) (cs : Option (List ConstDef)) (fs : Option (List FuncDef)) (ps : Option (List ProcDef)) (xs : Option (List XperDef)) (m : Option ℕ) (c : Core) → core_of es cs fs ps xs m ≡ Some c → CoreParts es cs fs ps xs m c
core_parts None cs fs ps xs m c h = absurd (cc)
core_parts (Some es) None fs ps xs m c h = absurd (cc)
core_parts (Some es) (Some cs) None ps xs m c h = absurd (cc)
core_parts (Some es) (Some cs) (Some fs) None xs m c h = absurd (cc)
core_parts (Some es) (Some cs) (Some fs) (Some ps) None m c h = absurd (cc)
core_parts (Some es) (Some cs) (Some fs) (Some ps) (Some xs) None c h = absurd (cc)
core_parts (Some es) (Some cs) (Some fs) (Some ps) (Some xs) (Some m) c h = record {
  kinds = es;
  consts = cs;
  funcs = fs;
  procs = ps;
  xpers = xs;
  model = m;
  made_kinds = refl;
  made_consts = refl;
  made_funcs = refl;
  made_procs = refl;
  made_xpers = refl;
  found_model = refl;
  is = some_same (core es cs fs ps xs m) c h;
}

-- where the streams of functions, of processes and of experiments begin
record Streamed (c whole : Core) : Type 0 where
  pub calls : ℕ
  pub runs : ℕ
  pub tries : ℕ
  pub consts : whole.consts ≡ (each (map of_constant c.consts) 0).part
  pub funcs : whole.funcs ≡ (each (map of_function c.funcs) calls).part
  pub procs : whole.procs ≡ (each (map of_process c.procs) runs).part
  pub xpers : whole.xpers ≡ (each (map of_experiment c.xpers) tries).part
  pub model : whole.model ≡ c.model
  pub kinds : whole.names.kinds ≡ c.names.kinds

streamed : (c : Core) → Streamed c (with_streams c)
unfolding with_streams
streamed c = record {
  calls = (each (map of_constant c.consts) 0).next;
  runs = (each (map of_function c.funcs) (each (map of_constant c.consts) 0).next).next;
  tries = (each (map of_process c.procs) (each (map of_function c.funcs) (each (map of_constant c.consts) 0).next).next).next;
  consts = refl;
  funcs = refl;
  procs = refl;
  xpers = refl;
  model = refl;
  kinds = refl;
}

-- ---- what is known at each stage

kinds_stand : (whole : Core) (k : Known) → InKinds whole.names.kinds k → EarlyStands whole 0 k
kinds_stand whole (known.Kind t) h = subst (SoundType (length whole.names.kinds)) (sym h.1) (choice h.0 h.2)
kinds_stand whole (known.Value enumeration position) h = h
kinds_stand whole (known.Var slot t) h = absurd h
kinds_stand whole (known.Fixed slot t) h = absurd h
kinds_stand whole (known.Const number t) h = absurd h
kinds_stand whole (known.Func number params result) h = absurd h
kinds_stand whole (known.Proc number params exit) h = absurd h
kinds_stand whole (known.Model number params exit) h = absurd h
kinds_stand whole (known.Xper number) h = absurd h
kinds_stand whole (known.Untyped k) h = absurd h

early_types : (whole : Core) (count : ℕ) (k : Known) → EarlyStands whole count k → StandsForSound (length whole.names.kinds) k
early_types whole count (known.Kind t) h = h
early_types whole count (known.Value enumeration position) h = tt
early_types whole count (known.Const number t) h = tt
early_types whole count (known.Var slot t) h = tt
early_types whole count (known.Fixed slot t) h = tt
early_types whole count (known.Func number params result) h = tt
early_types whole count (known.Proc number params exit) h = tt
early_types whole count (known.Model number params exit) h = tt
early_types whole count (known.Xper number) h = tt
early_types whole count (known.Untyped k) h = absurd h

early_seen : (whole : Core) (count : ℕ) (k : Known) → EarlyStands whole count k × Fine k → Seen whole k
early_seen whole count (known.Kind t) h = h
early_seen whole count (known.Value enumeration position) h = h.0
early_seen whole count (known.Const number t) h = h.0.1
early_seen whole count (known.Var slot t) h = absurd h.0
early_seen whole count (known.Fixed slot t) h = absurd h.0
early_seen whole count (known.Func number params result) h = absurd h.0
early_seen whole count (known.Proc number params exit) h = absurd h.0
early_seen whole count (known.Model number params exit) h = absurd h.0
early_seen whole count (known.Xper number) h = absurd h.0
early_seen whole count (known.Untyped k) h = absurd h.0

-- ---- the model is there

abbrev There : List ProcDef → ℕ → Type 0
There ps m = (d : ProcDef) × (slice_get ps m ≡ Some d)

passed_by : (names : Names) (ds : List Definition) (hs : List (Option Header)) (before x rest ps : List ProcDef) (n m : ℕ) → [] ≡ x → x ++ rest ≡ ps → There (before ++ rest) m → There (before ++ ps) m
passed_by names ds hs before x rest ps n m e w h = subst (λ ps. There (before ++ ps) m) (ap (λ x. x ++ rest) e ∙ w) h

model_there : (names : Names) (k : ℕ) (ds : List Definition) (hs : List (Option Header)) (before ps : List ProcDef) (n m : ℕ) → n ≡ length before → HeadersSound k ds hs → Runs names ds hs ps → first_model n ds ≡ Some m → There (before ++ ps) m
model_there names k [] hs before ps n m c s r e = absurd (cc)
model_there names k (d ∷ ds) [] before ps n m c s r e = absurd s
model_there names k (definition.Model place tree name formals steps ∷ ds) (None ∷ hs) before ps n m c s r e = absurd s.0
model_there names k (definition.Model place tree name formals steps ∷ ds) (Some h ∷ hs) before ps n m c s r e =
    let d = r.2.0 in
    let at : slice_get (before ++ d ∷ r.1) m ≡ Some d = ap (slice_get (before ++ d ∷ r.1)) (sym (some_same n m e) ∙ c) ∙ get_seam before r.1 d in
    (d, subst (λ ps. slice_get (before ++ ps) m ≡ Some d) (ap (λ x. x ++ r.1) r.2.1 ∙ r.4) at)
model_there names k (definition.Proc place tree name formals steps ∷ ds) (None ∷ hs) before ps n m c s r e = absurd s.0
model_there names k (definition.Proc place tree name formals steps ∷ ds) (Some h ∷ hs) before ps n m c s r e =
    let d = r.2.0 in
    let longer : n + 1 ≡ length (before ++ d ∷ []) = let l = length_join before (d ∷ []) in omega (arith, c, l) in
    let rest = model_there names k ds hs (before ++ d ∷ []) r.1 (n + 1) m longer s.1 r.3 e in
    subst (λ ps. There ps m) (append_assoc before (d ∷ []) r.1 ∙ ap (λ ps. before ++ ps) (ap (λ x. x ++ r.1) r.2.1 ∙ r.4)) rest
model_there names k (definition.Func place tree name formals steps ∷ ds) (h ∷ hs) before ps n m c s r e = passed_by names ds hs before r.0 r.1 ps n m r.2 r.4 (model_there names k ds hs before r.1 n m c s.1 r.3 e)
model_there names k (definition.Enum place name values ∷ ds) (h ∷ hs) before ps n m c s r e = passed_by names ds hs before r.0 r.1 ps n m r.2 r.4 (model_there names k ds hs before r.1 n m c s.1 r.3 e)
model_there names k (definition.Const place tree name equals value ∷ ds) (h ∷ hs) before ps n m c s r e = passed_by names ds hs before r.0 r.1 ps n m r.2 r.4 (model_there names k ds hs before r.1 n m c s.1 r.3 e)
model_there names k (definition.TypeWord place name tree ∷ ds) (h ∷ hs) before ps n m c s r e = passed_by names ds hs before r.0 r.1 ps n m r.2 r.4 (model_there names k ds hs before r.1 n m c s.1 r.3 e)
model_there names k (definition.Xper place name steps ∷ ds) (h ∷ hs) before ps n m c s r e = passed_by names ds hs before r.0 r.1 ps n m r.2 r.4 (model_there names k ds hs before r.1 n m c s.1 r.3 e)

-- ---- each constant, function, process and experiment with its streams

constant_of : (whole : Core) (start : ℕ) (cs : List ConstDef) (k : ℕ) (c : ConstDef) → ConstantsFrom whole start cs → slice_get cs k ≡ Some c → ConstantAt whole (start + k) c
constant_of whole start [] k c h e = absurd (cc)
constant_of whole start (x ∷ cs) zero c h e = subst (λ n. ConstantAt whole n c) (omega arith) (subst (ConstantAt whole start) (some_same x c e) h.0)
constant_of whole start (x ∷ cs) (suc k) c h e = subst (λ n. ConstantAt whole n c) (omega arith) (constant_of whole (start + 1) cs k c h.1 e)

constant_sound : (whole : Core) (cs : List ConstDef) → ConstantsFrom whole 0 cs → Every (λ c. IsTrue (texts_are_short c.value)) cs → whole.consts ≡ (each (map of_constant cs) 0).part
    → (number : ℕ) (c : ConstDef) → slice_get whole.consts number ≡ Some c → SoundConstant whole number c
constant_sound whole cs from texts streams number c e =
    let found = counted_get of_constant cs 0 number c (ap (λ cs. slice_get cs number) (sym streams) ∙ e) in
    let at : ConstantAt whole number found.0 = subst (λ n. ConstantAt whole n found.0) (omega arith) (constant_of whole 0 cs number found.0 from found.2) in
    subst (SoundConstant whole number) found.3 (record { ty = at.ty; value = at.value (texts number found.0 found.2) found.1 })

functions_stand : (whole : Core) (fs : List FuncDef) (calls : ℕ) → whole.funcs ≡ (each (map of_function fs) calls).part → Every (λ f. (count : ℕ) → SoundFunction whole (of_function f count).part) fs → Every (SoundFunction whole) whole.funcs
functions_stand whole fs calls streams sound k g e =
    let found = counted_get of_function fs calls k g (ap (λ fs. slice_get fs k) (sym streams) ∙ e) in
    subst (SoundFunction whole) found.3 (sound k found.0 found.2 found.1)

processes_stand : (whole : Core) (ps : List ProcDef) (runs : ℕ) → whole.procs ≡ (each (map of_process ps) runs).part → Every (λ d. (count : ℕ) → SoundProcess whole (of_process d count).part) ps → Every (SoundProcess whole) whole.procs
processes_stand whole ps runs streams sound k g e =
    let found = counted_get of_process ps runs k g (ap (λ ps. slice_get ps k) (sym streams) ∙ e) in
    subst (SoundProcess whole) found.3 (sound k found.0 found.2 found.1)

experiments_stand : (whole : Core) (xs : List XperDef) (tries : ℕ) → whole.xpers ≡ (each (map of_experiment xs) tries).part → Every (λ x. (count : ℕ) → SoundExperiment whole (of_experiment x count).part) xs → Every (SoundExperiment whole) whole.xpers
experiments_stand whole xs tries streams sound k g e =
    let found = counted_get of_experiment xs tries k g (ap (λ xs. slice_get xs k) (sym streams) ∙ e) in
    subst (SoundExperiment whole) found.3 (sound k found.0 found.2 found.1)

-- ---- the stages of a program

abbrev sketch_of : List Definition → Stated Sketch Kinds
sketch_of ds = in_turn (map sketching ds) no_names

abbrev early_of : List Definition → Stated Early (List ConstDef)
early_of ds = in_turn (map (early_defined (sketch_of ds).next.all) ds) (first_early (sketch_of ds).next.early)

abbrev late_of : List Definition → Names
late_of ds = with_all_late (sketch_of ds).next.all (early_of ds).next.names ds

abbrev given_of : List Definition → List (Option Header)
given_of ds = map (λ h. h.given) (map (header_in (late_of ds)) ds)

abbrev named_of : List Definition → Names
named_of ds = (with_all_headed (sketch_of ds).next.all ds (given_of ds) (first_named (take (length (early_of ds).next.names) (late_of ds)))).names

abbrev functions_at : List Definition → Stated Names (List FuncDef)
functions_at ds = in_turn (functions_of ds (given_of ds)) (named_of ds)

abbrev processes_at : List Definition → Stated Names (List ProcDef)
processes_at ds = in_turn (processes_of ds (given_of ds)) (functions_at ds).next

abbrev experiments_at : List Definition → Stated Names (List XperDef)
experiments_at ds = in_turn (experiments_of ds) (processes_at ds).next

-- no rule is broken in any of them
record Unbroken (ds : List Definition) : Type 0 where
  pub sketch : (sketch_of ds).faults ≡ []
  pub early : (early_of ds).faults ≡ []

unbroken : (ds : List Definition) (last : Place) → (definitions_checked ds last).faults ≡ [] → Unbroken ds
unbroken ds last e =
    let headers = header_faults (map (header_in (late_of ds)) ds) in
    let f1 = (sketch_of ds).faults ++ (early_of ds).faults in
    let f2 = f1 ++ headers in
    let f3 = f2 ++ (functions_at ds).faults in
    let f4 = f3 ++ (processes_at ds).faults in
    let f5 = f4 ++ (experiments_at ds).faults in
    let e5 = left_nil f5 (model_rule last (first_model 0 ds)) e in
    let e4 = left_nil f4 (experiments_at ds).faults e5 in
    let e3 = left_nil f3 (processes_at ds).faults e4 in
    let e2 = left_nil f2 (functions_at ds).faults e3 in
    let e1 = left_nil f1 headers e2 in
    record {
      sketch = left_nil (sketch_of ds).faults (early_of ds).faults e1;
      early = right_nil (sketch_of ds).faults (early_of ds).faults e1;
    }

-- ---- programs

module _ (ds : List Definition) (spelled : EachSpelled ds) (wholes : EachIsWhole ds) (u : Unbroken ds)
    (kinds : Kinds) (cs : List ConstDef) (fs : List FuncDef) (ps : List ProcDef) (xs : List XperDef) (m : ℕ) (named_kinds : (sketch_of ds).made ≡ Some kinds) (made_consts : (early_of ds).made ≡ Some cs)
    (made_functions : (functions_at ds).made ≡ Some fs) (made_processes : (processes_at ds).made ≡ Some ps) (made_experiments : (experiments_at ds).made ≡ Some xs) (found_model : first_model 0 ds ≡ Some m)
    (whole : Core) (s : Streamed (core kinds cs fs ps xs m) whole) where
  abbrev n : ℕ
  n = length whole.names.kinds

  enumerated : Enumerated kinds (sketch_of ds).next
  enumerated = all_enumerated ds [] kinds no_names named_kinds (record { counted = refl; visible = tt })

  visible : Entries (EarlyStands whole 0) (sketch_of ds).next.early
  visible = entries_so (InKinds whole.names.kinds) (EarlyStands whole 0) (kinds_stand whole) (sketch_of ds).next.early (subst (λ es. Entries (InKinds es) (sketch_of ds).next.early) (sym s.kinds) enumerated.visible)

  next : Next whole [] cs (early_of ds).next
  next = constants_next whole cs s.consts (sketch_of ds).next.all ds [] cs (first_early (sketch_of ds).next.early) made_consts refl (refl, visible)

  shapes : Entries Fine (early_of ds).next.names
  shapes = (all_early_keep (sketch_of ds).next.all ds (first_early (sketch_of ds).next.early) (sketch_keeps ds no_names tt u.sketch).1 u.early).1

  means : EachNamed (sketch_of ds).next.all ds
  means = each_named ds no_names u.sketch

  heads : HeadersSound n ds (given_of ds)
  heads = headers_sound n (late_of ds) (all_late_entries (StandsForSound n) tt tt tt (λ number. tt) (sketch_of ds).next.all (early_of ds).next.names ds means
      (entries_so (EarlyStands whole (length cs)) (StandsForSound n) (early_types whole (length cs)) (early_of ds).next.names next.visible)) ds

  fits : Fits (named_of ds) ds (given_of ds) fs
  fits = functions_fit ds (given_of ds) (named_of ds) fs wholes made_functions

  runs : Runs (named_of ds) ds (given_of ds) ps
  runs = subst (λ names. Runs names ds (given_of ds) ps) (functions_stay ds (given_of ds) (named_of ds) wholes) (processes_run ds (given_of ds) (functions_at ds).next ps wholes made_processes)

  before : Entries (Seen whole) (take (length (early_of ds).next.names) (late_of ds))
  before = subst (Entries (Seen whole)) (sym (first_again (early_of ds).next.names (late_of ds) (all_late_continue (sketch_of ds).next.all (early_of ds).next.names ds)))
      (entries_so (λ k. EarlyStands whole (length cs) k × Fine k) (Seen whole) (early_seen whole (length cs)) (early_of ds).next.names (entries_both (EarlyStands whole (length cs)) Fine (early_of ds).next.names next.visible shapes))

  seen : Entries (Seen whole) (named_of ds)
  seen = all_seen whole fs ps s.calls s.runs s.funcs s.procs (sketch_of ds).next.all (named_of ds) ds (given_of ds) (first_named (take (length (early_of ds).next.names) (late_of ds))) [] fs [] ps fits runs heads means refl refl (refl, refl, before)

  still_seen : Entries (Seen whole) (processes_at ds).next
  still_seen = subst (Entries (Seen whole)) (sym (processes_stay ds (given_of ds) (functions_at ds).next wholes ∙ functions_stay ds (given_of ds) (named_of ds) wholes)) seen

  model_is : (d : ProcDef) × (slice_get whole.procs whole.model ≡ Some d)
  model_is =
      let model = model_there (named_of ds) n ds (given_of ds) [] ps 0 m refl heads runs found_model in
      let found = get_counted of_process ps s.runs m model.0 model.1 in
      ((of_process model.0 found.0).part, ap (λ ps. slice_get ps whole.model) s.procs ∙ ap (slice_get (each (map of_process ps) s.runs).part) s.model ∙ found.1)

  sound_by_parts : TextsAreShort (core kinds cs fs ps xs m) → Sound whole
  sound_by_parts texts =
      let short_functions = every_each (λ f. IsTrue (body_texts f.body)) fs texts.functions in
      let short_processes = every_each (λ d. IsTrue (body_texts d.body)) ps texts.processes in
      let short_experiments = every_each (λ x. IsTrue (trials_texts x.body)) xs texts.experiments in
      record {
        enumerations = subst (Every SoundEnumeration) (sym s.kinds) (each_every SoundEnumeration kinds (enumerations_sound ds kinds no_names spelled named_kinds));
        constants = constant_sound whole cs next.sound texts.constants s.consts;
        functions = functions_stand whole fs s.calls s.funcs (each_every (λ f. (count : ℕ) → SoundFunction whole (of_function f count).part) fs (functions_sound whole (named_of ds) seen ds (given_of ds) fs spelled heads fits short_functions));
        processes = processes_stand whole ps s.runs s.procs (each_every (λ d. (count : ℕ) → SoundProcess whole (of_process d count).part) ps (processes_sound whole (named_of ds) seen ds (given_of ds) ps spelled heads runs short_processes));
        experiments = experiments_stand whole xs s.tries s.xpers (each_every (λ x. (count : ℕ) → SoundExperiment whole (of_experiment x count).part) xs (experiments_sound whole ds (processes_at ds).next xs still_seen spelled wholes made_experiments short_experiments));
        model = model_is;
      }

pub definitions_sound : (ds : List Definition) (last : Place) (c : Core) → EachSpelled ds → EachIsWhole ds → (definitions_checked ds last).faults ≡ []
    → (definitions_checked ds last).made ≡ Some c → TextsAreShort c → Sound (with_streams c)
definitions_sound ds last c spelled wholes e made texts =
    let p = core_parts (sketch_of ds).made (early_of ds).made (functions_at ds).made (processes_at ds).made (experiments_at ds).made (first_model 0 ds) c made in
    let whole = core p.kinds p.consts p.funcs p.procs p.xpers p.model in
    subst (λ c. Sound (with_streams c)) p.is
    (sound_by_parts ds spelled wholes (unbroken ds last e) p.kinds p.consts p.funcs p.procs p.xpers p.model p.made_kinds p.made_consts p.made_funcs p.made_procs p.made_xpers p.found_model (with_streams whole) (streamed whole) (subst TextsAreShort (sym p.is) texts))

pub program_sound : (tree : Program) (c : Core) → NamesAreNames tree → BodiesAreWhole tree → (checked tree).faults ≡ [] → (checked tree).made ≡ Some c
    → TextsAreShort c → Sound (with_streams c)
unfolding checked
program_sound tree c spelled wholes e made texts = definitions_sound (map (λ item. item.definition) tree.items) tree.last c spelled wholes e made texts
