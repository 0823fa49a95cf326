-- What the items of a process do: nothing is amiss, and the configuration that they lead to fits.
use Rattle.std.proofs.Common.{◌≡◌, ◌++◌, ◌<◌, ◌≤◌, ℕ, zero, suc, Bool, true, false, ◌&&◌, cond, nat_le, lt-ltb, leb-true, lt_of_lt_of_le, List, [], ◌∷◌, map, length, Option, Some, None, refl, sym, subst, ◌∙◌, arith}
use Rattle.std.specs.Prelude.{IsTrue}
use Rattle.std.specs.Option.{IsSomeAnd}
use Rattle.std.specs.List.{range_with_len}
use Rattle.chi_types.specs.declared.ty.Ty.{Ty-F}
use Rattle.chi_value.specs.declared.format.Piece.{Piece}
use Rattle.chi_value.specs.declared.text.limit.TheConstants.{MOST_TEXT}
use Rattle.chi_value.specs.declared.value.Value.{Value, Value-F, out-Value}
use Rattle.chi_value.specs.Plain.{is_plain, within}
use Rattle.chi_value.specs.Text.{quoted_text}
use Rattle.chi_format.specs.Format.{rendered}
use Rattle.chi_core.specs.declared.element.CElem.{CElem}
use Rattle.chi_core.specs.declared.expression.CExpr.{CExpr}
use Rattle.chi_core.specs.declared.limits.TheConstants.{MOST_OFFERS}
use Rattle.chi_core.specs.declared.program.Core.{Core}
use Rattle.chi_core.specs.declared.statement.CAlt.{CAlt}
use Rattle.chi_core.specs.declared.statement.CStat.{CStat, CStat-F, out-CStat}
use Rattle.chi_core.specs.Answer.{Gives, Amiss, then_do, gives, wanted, in_turn}
use Rattle.chi_core.specs.Config.{Config, Instance, State, Running, Waiting, Joining, with_instance, scene_of, run_of, value_in}
use Rattle.chi_core.specs.Evaluation.{Evaluates}
use Rattle.chi_core.specs.Kinded.{Held, WalksFit, OfferFits, StateFits, At, KindedInstance, Kinded}
use Rattle.chi_core.specs.Kinds.{Kind, kind_of, Every, is_plain_kind}
use Rattle.chi_core.specs.Of.{World, Wider, nowhere, IsOf, Of, of_no_instance, of_instance, AreOf}
use Rattle.chi_core.specs.Opening.{opened}
use Rattle.chi_core.specs.Performing.{Change, Goes, Exits, quietly, within_text, written, exits_with, exited, number_named, all_named, came_to, waits, with_started, joins_started, joins, performed_stat, performed}
use Rattle.chi_core.specs.Reading.{instance_in, instance_of, quoted_in}
use Rattle.chi_core.specs.Scopes.{Home, function, process, process_home, exit_of}
use Rattle.chi_core.specs.SetSlots.{StatLayer, Known, sets}
use Rattle.chi_core.specs.Sound.{Sound, SoundProcess}
use Rattle.chi_core.specs.SoundExpressions.{HaveKinds}
use Rattle.chi_core.specs.SoundParts.{Shows, SoundExit, without_value, with_value, SoundElements}
use Rattle.chi_core.specs.SoundStatements as sound
use Rattle.chi_core.specs.SoundStatements.{SoundStat, SoundAlternatives}
use Rattle.chi_core.specs.Standing.{Frame, term_of, is_within_loop, Standing}
use Rattle.chi_core.specs.Starting.{Started, all_started}
use Rattle.chi_core.specs.Terms.{Term, Did, On, Returns, act_stat}
use Rattle.chi_core.specs.Variables.{Variables}
use Rattle.chi_core.proofs.Lists.{every_nil, every_cons}
use Rattle.chi_core.proofs.Worlds.{wider_still, value_grows}
use Rattle.chi_core_kinds.specs.Well.{Kept, Grows, Same, Well}
use Rattle.chi_core_kinds.proofs.Composing.{grows_gives, grows_then, grows_giving, well_gives, well_if, well_then, well_weaker, well_wanted, every_append}
use Rattle.chi_core_kinds.proofs.Configs.{in_row, ConfigFits, ChangeFits, fits_with, fits_more}
use Rattle.chi_core_kinds.proofs.Expressions.{Provides, Reads, every_of, well_some, well_value, well_values}
use Rattle.chi_core_kinds.proofs.Operations.{Laws}
use Rattle.chi_core_kinds.proofs.Functions.{SceneFits, provided, calls_well}
use Rattle.chi_core_kinds.proofs.Held.{walks_grow, held_grows, held_less}
use Rattle.chi_core_kinds.proofs.Instances.{kinded_settled}
use Rattle.chi_core_kinds.proofs.Openings.{well_opened}
use Rattle.chi_core_kinds.proofs.Standings.{Ready, nothing_left, a_statement, a_loop, a_walk, ready}
use Rattle.chi_core_kinds.proofs.Starts.{StartFits, well_started}
use Rattle.chi_core_kinds.proofs.Statements.{Shared, DidFits, first_at, loop_test, place_after, well_walk, well_tested, well_shared}

-- texts

well_text : (w : World) (text : List ℕ) → Well w (λ v it. (it ≡ text) × (length text ≤ MOST_TEXT)) (within_text text)
well_text w text =
    well_if w (λ v it. (it ≡ text) × (length text ≤ MOST_TEXT)) (nat_le (length text) MOST_TEXT) (gives text) _
    (λ e. well_gives w (λ v it. (it ≡ text) × (length text ≤ MOST_TEXT)) text (refl, leb-true (length text) MOST_TEXT e)) (λ e view fits. tt)

-- a value with a quoted text is plain, and has names for its enumeration values
quoted_tells : (names : List (List (List ℕ))) (v : Value) (text : List ℕ) → quoted_in names v ≡ Some text → IsTrue (is_plain v) × IsTrue (within names v) × (text ≡ quoted_text names v)
quoted_tells names v text e = by_tests (is_plain v) (within names v) refl refl e
  where
    by_tests : (a b : Bool) → is_plain v ≡ a → within names v ≡ b → cond (a && b) (Some (quoted_text names v)) None ≡ Some text → IsTrue (is_plain v) × IsTrue (within names v) × (text ≡ quoted_text names v)
    by_tests true true p q e = (p, q, cc (sym e))
    by_tests true false p q e = absurd (cc)
    by_tests false b p q e = absurd (cc)

-- the instances that values name

abbrev AreThere : World → List ℕ → Type 0
AreThere w = Every (λ number. number < w.instances)

-- where a number is given, there is such an instance
abbrev IfNamed : World → Option ℕ → Type 0
IfNamed w None = Unit {0}
IfNamed w (Some number) = number < w.instances

named_in : (w : World) (x : Value-F Value) → Of w x Ty-F.Inst → IsSomeAnd (instance_in x) (IfNamed w)
named_in w _ of_no_instance = tt
named_in w _ (of_instance number l) = l

well_number : (w : World) (p : Option ℕ) → IfNamed w p → Well w AreThere (number_named p)
well_number w None h = well_gives w AreThere [] (every_nil (λ number. number < w.instances))
well_number w (Some p) h = λ view fits.
    subst (λ b. Kept w (Same w AreThere) (cond b (Gives (p ∷ []) view) Amiss)) (sym (lt-ltb p view.instances (subst (λ n. p < n) fits.instances h)))
    (well_gives w AreThere (p ∷ []) (every_cons (λ number. number < w.instances) p [] h (every_nil (λ number. number < w.instances))) view fits)

there_still : (w v : World) → Wider w v → (numbers : List ℕ) → AreThere w numbers → AreThere v numbers
there_still w v wider numbers h k n e = lt_of_lt_of_le (h k n e) wider.instances

well_all_named : (values : List Value) (w : World) (numbers : List ℕ) → Every (IsOf w Ty-F.Inst) values → AreThere w numbers → Well w AreThere (all_named numbers values)
well_all_named [] w numbers each h = well_gives w AreThere numbers h
well_all_named (x ∷ values) w numbers each h =
    well_then w (λ v. IfNamed v) AreThere _
    (λ v wider1 s1 p there. well_then v AreThere AreThere (λ more. all_named (numbers ++ more) values)
    (λ u wider2 s2 more those.
    let wu : Wider w u = wider_still w v u wider1 wider2 in
    well_all_named values u (numbers ++ more) (λ k y e. value_grows w u wu y Ty-F.Inst (each (suc k) y e))
    (every_append (λ number. number < u.instances) numbers more (there_still w u wu numbers h) those))
    (number_named p) (well_number v p there))
    (wanted (instance_of x)) (well_some w (λ v. IfNamed v) (instance_of x) (named_in w (out-Value x) (each zero x refl)))

-- instance p, which runs, in a kinded configuration of a sound program
module _ (laws : Laws) (core : Core) (fine : Sound core) (config : Config) (h : Kinded core config)
    (p : ℕ) (i : Instance) (k : KindedInstance core (exit_of h.model) h.world i) (running : i.state ≡ Running) where
  abbrev pub Fits : World → Change → Type 0
  Fits = ChangeFits core h.model

  abbrev home : Home
  home = process_home core k.d

  abbrev w0 : World
  w0 = h.world

  config_fits : ConfigFits core h.model w0 config
  config_fits = record { names = h.names; constants = h.constants; instances = h.instances; each = h.each; few = h.few }

  scene_fits : SceneFits core (scene_of core config)
  scene_fits = record {
    enumerations = λ n names e. (fine.enumerations n names e).values;
    names = refl;
    constants = λ number c e.
        let at = h.constants number c e in
        subst (λ o. IsSomeAnd o (IsOf (nowhere core.names.kinds) (kind_of c.ty))) (sym at.1) at.2;
  }

  provides : Provides home.scope (run_of core config) (scene_of core config)
  provides = provided core home.scope.slots home.scope.role (scene_of core config) (run_of core config) scene_fits (calls_well laws core fine (scene_of core config) scene_fits)

  body : SoundProcess core k.d
  body = fine.processes i.definition k.d k.is

  -- the instance goes on at a place
  goes_on_at : (v : World) → Wider w0 v → v.instances ≡ w0.instances → (variables : Variables) (term : Term) (s : State) → At v home variables term s → (text : List ℕ)
      → Fits v (Goes (with_instance config p (record i { variables = variables; term = term; state = s })) text)
  goes_on_at v wider same variables term s at text =
      let j : Instance = record i { variables = variables; term = term; state = s } in
      fits_with core h.model w0 config config_fits v wider same p j (kinded_settled core (exit_of h.model) v k.d j k.is k.exits at)

  -- what came of a statement that functions have too
  well_came : (rest : Term) (v : World) → Wider w0 v → v.instances ≡ w0.instances → (did : Did) → DidFits home v did → Grows v Fits (came_to core config p (record i { term = rest }) did)
  well_came rest v wider same (On variables term) at =
      grows_gives v Fits (quietly (with_instance config p (record i { variables = variables; term = term })))
      (subst (λ s. Fits v (quietly (with_instance config p (record i { variables = variables; term = term; state = s })))) (sym running) (goes_on_at v wider same variables term Running at []))
  well_came rest v wider same (Returns x) fit = absurd (let role : process (exit_of k.d) ≡ function fit.0 = fit.1 in cc)

  -- at a place at which a statement stands first
  module _ (known : Known) (x : CStat) (rest : List CStat) (frames : List Frame) (place : Standing home known (x ∷ rest) frames)
      (walks : WalksFit w0 home.scope frames) (held : Held w0 home.scope known i.variables) where
    abbrev its : Instance
    its = record i { term = term_of rest frames }

    abbrev value_of : Evaluates
    value_of = value_in core config i.variables

    reads : Reads w0 home.scope known i.variables
    reads = record { names = h.names; held = held }

    -- it stands after the statement, which sets nothing, in some state
    stands_after : (s : StatLayer) → out-CStat x ≡ s → sets s known ≡ known → (v : World) → Wider w0 v → (variables : Variables) (now : State) → Held v home.scope known variables
        → StateFits v home rest frames known now → At v home variables (term_of rest frames) now
    stands_after s e nothing v wider variables now held' fit = record {
      known = known;
      rest = rest;
      frames = frames;
      place = subst (λ z. Standing home z rest frames) nothing (place_after home known x rest frames place s e);
      left = refl;
      walks = walks_grow w0 v wider home.scope frames walks;
      held = held';
      state = fit;
    }

    still_held : (v : World) → Wider w0 v → Held v home.scope known i.variables
    still_held v wider = held_grows w0 v wider home.scope known i.variables held

    well_write : (line : ℕ) (pieces : List Piece) (es : List CExpr) (Ts : List Kind) → out-CStat x ≡ CStat-F.Write line pieces es → HaveKinds home.scope known es Ts → Shows pieces Ts
        → Grows w0 Fits (performed_stat core config p its (CStat-F.Write line pieces es))
    well_write line pieces es Ts e are shows =
        grows_giving w0 (Same w0 (λ v text. Unit {0})) Fits _
        (λ v wider text both. subst (λ s. Fits v (Goes (with_instance config p (record i { term = term_of rest frames; state = s })) text)) (sym running)
        (goes_on_at v wider both.0 i.variables (term_of rest frames) Running (stands_after (CStat-F.Write line pieces es) e refl v wider i.variables Running (still_held v wider) tt) text))
        (written core value_of pieces es)
        (well_then w0 (λ v xs. AreOf v xs Ts) (λ v text. Unit {0}) _
        (λ v wider same xs are'.
        let text = laws.formats v pieces Ts shows xs are' in
        well_then v (λ u it. Unit {0}) (λ u it. Unit {0}) within_text
        (λ u wider' same' it l. well_weaker u (λ z it'. (it' ≡ it) × (length it ≤ MOST_TEXT)) (λ z it'. Unit {0}) (λ z it' both. tt) (within_text it) (well_text u it))
        (wanted (rendered core.names.kinds pieces xs))
        (well_wanted v (λ u it. Unit {0}) (rendered core.names.kinds pieces xs) text.0
        (subst (λ names. rendered names pieces xs ≡ Some text.0) (wider.names ∙ h.names) text.1) tt))
        (in_turn (map value_of es)) (well_values laws home.scope (run_of core config) (scene_of core config) provides known i.variables es Ts are w0 reads))

    well_told : (v : World) → v.names ≡ core.names.kinds → (y : Value) (T : Kind) → IsTrue (is_plain_kind T) → IsOf v T y → Grows v Fits (exits_with core y)
    well_told v names y T plain is =
        let quoted = laws.quotes v y T plain is in
        let there : quoted_in core.names.kinds y ≡ Some quoted.0 = subst (λ names. quoted_in names y ≡ Some quoted.0) names quoted.1 in
        let tells = quoted_tells core.names.kinds y quoted.0 there in
        grows_then v (λ u text. text ≡ quoted.0) Fits _
        (λ u wider same text e. grows_giving u (Same u (λ z it. (it ≡ text) × (length text ≤ MOST_TEXT))) Fits (λ text. Exits (Some y))
        (λ z wider' it both. record {
          plain = tells.0;
          named = tells.1;
          short = subst (λ t. length t ≤ MOST_TEXT) (e ∙ tells.2) both.1.1;
        })
        (within_text text) (well_text u text))
        (wanted (quoted_in core.names.kinds y)) (well_wanted v (λ u text. text ≡ quoted.0) (quoted_in core.names.kinds y) quoted.0 there refl)

    well_exit : (e : Option CExpr) (exit : Option Kind) → SoundExit home.scope known e exit → Grows w0 Fits (exited core value_of e)
    well_exit _ _ without_value = grows_gives w0 Fits (Exits None) tt
    well_exit _ _ (with_value e T has plain) =
        grows_then w0 (λ v. IsOf v T) Fits (exits_with core) (λ v wider same y is. well_told v (wider.names ∙ h.names) y T plain is) (value_of e)
        (well_value laws home.scope (run_of core config) (scene_of core config) provides known i.variables e T has w0 reads)

    well_select : (line : ℕ) (alternatives : List CAlt) → out-CStat x ≡ CStat-F.Select line alternatives → SoundAlternatives home.scope (is_within_loop frames) known alternatives
        → Grows w0 Fits (performed_stat core config p its (CStat-F.Select line alternatives))
    well_select line alternatives e fine_alternatives =
        grows_giving w0 (Same w0 (λ v o. Held v home.scope known o.variables × Every (OfferFits v home.scope alternatives) o.offers × (length o.offers ≤ MOST_OFFERS))) Fits
        (waits core config p its)
        (λ v wider o both. goes_on_at v wider both.0 o.variables (term_of rest frames) (Waiting o.offers)
        (stands_after (CStat-F.Select line alternatives) e refl v wider o.variables (Waiting o.offers) both.1.0 (record {
          x = x;
          line = line;
          alternatives = alternatives;
          before = place;
          is = e;
          each = both.1.1;
          few = both.1.2;
        })) [])
        (opened (value_in core config) config.clock i.variables alternatives)
        (well_opened laws home.scope (run_of core config) (scene_of core config) provides config.clock known (is_within_loop frames) i.variables alternatives fine_alternatives w0 reads)

    abbrev Starts : World → Started → Type 0
    Starts = StartFits home.scope (length config.instances) (exit_of h.model) known

    well_starts : (elements : List CElem) → SoundElements home.scope (exit_of k.d) known elements → Grows w0 Starts (all_started (value_in core config) core.procs i.variables elements)
    well_starts elements fine_elements =
        well_started laws home.scope fine (run_of core config) (scene_of core config) provides (length config.instances) (exit_of h.model) (exit_of k.d) k.exits known i.variables elements fine_elements w0 reads
        h.instances h.few

    -- after a start or a run the instance goes on in a state, with the new instances last
    started_fits : (s : StatLayer) → out-CStat x ≡ s → sets s known ≡ known → (v : World) → Wider w0 v → (new : Started) → Starts v new → (now : State) → StateFits v home rest frames known now
        → Fits v (quietly (with_started core config p its now new))
    started_fits s e nothing v wider new fit now fits_now =
        let j : Instance = record i { variables = new.variables; term = term_of rest frames; state = now } in
        fits_more core h.model w0 config config_fits v wider p j
        (kinded_settled core (exit_of h.model) v k.d j k.is k.exits (stands_after s e nothing v wider new.variables now fit.held fits_now)) new.made fit.each fit.count fit.few

    well_run : (line : ℕ) (elements : List CElem) → out-CStat x ≡ CStat-F.Run line elements → SoundElements home.scope (exit_of k.d) known elements
        → Grows w0 Fits (performed_stat core config p its (CStat-F.Run line elements))
    well_run line elements e fine_elements =
        grows_giving w0 Starts Fits (joins_started core config p its)
        (λ v wider new fit. started_fits (CStat-F.Run line elements) e refl v wider new fit (Joining (range_with_len (length config.instances) (length new.made)))
        (in_row (length config.instances) (length new.made) v.instances (let c = fit.count in omega (arith, c))))
        (all_started (value_in core config) core.procs i.variables elements) (well_starts elements fine_elements)

    well_start : (line : ℕ) (elements : List CElem) → out-CStat x ≡ CStat-F.Start line elements → SoundElements home.scope (exit_of k.d) known elements
        → Grows w0 Fits (performed_stat core config p its (CStat-F.Start line elements))
    well_start line elements e fine_elements =
        grows_giving w0 Starts Fits _ (λ v wider new fit. started_fits (CStat-F.Start line elements) e refl v wider new fit Running tt)
        (all_started (value_in core config) core.procs i.variables elements) (well_starts elements fine_elements)

    well_finish : (line : ℕ) (es : List CExpr) → out-CStat x ≡ CStat-F.Finish line es → HaveKinds home.scope known es (map (λ e. Ty-F.Inst) es)
        → Grows w0 Fits (performed_stat core config p its (CStat-F.Finish line es))
    well_finish line es e are =
        grows_then w0 (λ v xs. AreOf v xs (map (λ e. Ty-F.Inst) es)) Fits _
        (λ v wider same xs are'. grows_giving v (Same v AreThere) Fits (joins core config p its)
        (λ u wider' numbers both.
        let wu : Wider w0 u = wider_still w0 v u wider wider' in
        goes_on_at u wu (both.0 ∙ same) i.variables (term_of rest frames) (Joining numbers)
        (stands_after (CStat-F.Finish line es) e refl u wu i.variables (Joining numbers) (still_held u wu) both.1) [])
        (all_named [] xs) (well_all_named xs v [] (every_of v es Ty-F.Inst xs are') (every_nil (λ number. number < v.instances))))
        (in_turn (map value_of es)) (well_values laws home.scope (run_of core config) (scene_of core config) provides known i.variables es (map (λ e. Ty-F.Inst) es) are w0 reads)

    -- a statement that functions have too
    well_common : (s : StatLayer) → SoundStat home.scope (is_within_loop frames) known s → out-CStat x ≡ s → Shared s
        → Grows w0 Fits (λ view. then_do (act_stat value_of i.variables s (term_of rest frames) view) (came_to core config p its))
    well_common s stat e shared =
        grows_then w0 (DidFits home) Fits (came_to core config p its) (λ v wider same did fit. well_came (term_of rest frames) v wider same did fit) (act_stat value_of i.variables s (term_of rest frames))
        (well_shared laws home (run_of core config) (scene_of core config) provides known x rest frames place i.variables (is_within_loop frames) s stat refl e shared w0 reads walks)

    exit_role : (exit : Option Kind) → home.scope.role ≡ process exit → exit ≡ exit_of k.d
    exit_role exit e = cc (sym e)

    well_stat : (loop : Bool) (s : StatLayer) → SoundStat home.scope loop known s → loop ≡ is_within_loop frames → out-CStat x ≡ s → Grows w0 Fits (performed_stat core config p its s)
    well_stat _ _ (sound.exits _ _ line e exit role has) l is = well_exit e exit has
    well_stat _ _ (sound.writes _ _ line pieces es exit Ts role has show) l is = well_write line pieces es Ts is has show
    well_stat _ _ (sound.selects _ _ line alternatives exit role has) l is = well_select line alternatives is (subst (λ z. SoundAlternatives home.scope z known alternatives) l has)
    well_stat _ _ (sound.runs _ _ line elements exit role has) l is = well_run line elements is (subst (λ z. SoundElements home.scope z known elements) (exit_role exit role) has)
    well_stat _ _ (sound.starts _ _ line elements exit role has) l is = well_start line elements is (subst (λ z. SoundElements home.scope z known elements) (exit_role exit role) has)
    well_stat _ _ (sound.finishes _ _ line es exit role has) l is = well_finish line es is has
    well_stat _ s stat l is = well_common s (subst (λ z. SoundStat home.scope z known s) l stat) is tt

  -- the first item of what is left, if there is one, does well
  abbrev pub FirstWell : Term → Type 0
  FirstWell [] = Unit {0}
  FirstWell (item ∷ rest) = Grows w0 Fits (performed core config p (record i { term = rest }) item)

  well_first : (known : Known) (term : Term) → Ready home w0 known term → Held w0 home.scope known i.variables → FirstWell term
  well_first known _ nothing_left held = tt
  well_first known _ (a_statement outer x rest frames place within walks) held =
      well_stat outer x rest frames place walks (held_less w0 home.scope outer known i.variables within held) (is_within_loop frames) (out-CStat x) (first_at home body.home outer x rest frames place) refl refl
  well_first known _ (a_loop line test block rest frames b walks) held =
      let before : Held w0 home.scope b.outer i.variables = held_less w0 home.scope b.outer known i.variables b.within held in
      grows_then w0 (DidFits home) Fits (came_to core config p (record i { term = term_of rest frames }))
      (λ v wider same did fit. well_came (term_of rest frames) v wider same did fit) _
      (well_tested laws home (run_of core config) (scene_of core config) provides b.outer b.x rest frames b.place i.variables line test block b.is
      (loop_test home (is_within_loop frames) b.outer line test block
      (subst (SoundStat home.scope (is_within_loop frames) b.outer) b.is (first_at home body.home b.outer b.x rest frames b.place)))
      w0 (record { names = h.names; held = before }) walks)
  well_first known _ (a_walk line slots elements container block rest frames b fit) held =
      grows_then w0 (DidFits home) Fits (came_to core config p (record i { term = term_of rest frames }))
      (λ v wider same did fit. well_came (term_of rest frames) v wider same did fit) _
      (well_walk home w0 known i.variables line slots elements container block rest frames b fit held)

  pub well_performed : FirstWell i.term
  well_performed =
      well_first k.at.known i.term (subst (Ready home w0 k.at.known) (sym k.at.left) (ready home w0 k.at.known k.at.rest k.at.frames k.at.place k.at.walks)) k.at.held
