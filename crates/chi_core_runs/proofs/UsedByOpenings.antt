-- What opening a select and starting processes leave of the bound: no more than there was.
use Rattle.std.proofs.Common.{ℕ, ◌+◌, le_refl, ℤ, List, [], ◌∷◌, ◌++◌, Option, Some, None, map, length, sym, subst}
use Rattle.std.specs.Prelude.{pos, ◌+ℤ◌, int_lt, nat_lt}
use Rattle.std.specs.Option.{option_map}
use Rattle.chi_num.specs.Results.{fits}
use Rattle.chi_value.specs.declared.value.Value.{Value}
use Rattle.chi_value.specs.declared.value.Value.TheVariants as value
use Rattle.chi_core.specs.declared.act.Act.{Act}
use Rattle.chi_core.specs.declared.act.Act.TheVariants.{Send, Receive, Delay}
use Rattle.chi_core.specs.declared.communication.CComm.{CComm}
use Rattle.chi_core.specs.declared.communication.CComm.TheVariants as comm
use Rattle.chi_core.specs.declared.element.CElem.{CElem, CElem-F, map-CElem, fold-roll-CElem, ind-CElem, roll-CElem}
use Rattle.chi_core.specs.declared.expression.CExpr.{CExpr}
use Rattle.chi_core.specs.declared.fault.FaultKind.TheVariants.{NegativeDelay, RealRange, TooLarge, TooManyInstances}
use Rattle.chi_core.specs.declared.limits.TheConstants.{MOST_INSTANCES, MOST_OFFERS}
use Rattle.chi_core.specs.declared.program.ProcDef.{ProcDef}
use Rattle.chi_core.specs.declared.statement.CStat.{CStat}
use Rattle.chi_core.specs.declared.statement.Branch.{Branch}
use Rattle.chi_core.specs.declared.statement.CAlt.{CAlt, CAlt-F, map-CAlt, para-roll-CAlt, ind-CAlt, roll-CAlt}
use Rattle.chi_core.specs.declared.target.CTarget.{CTarget}
use Rattle.chi_core.specs.Answer.{Gives, Fails, gives, wanted, through}
use Rattle.chi_core.specs.Evaluation.{Evaluates, on_truth}
use Rattle.chi_core.specs.Opening.{Opening, delayed_by, kept, act_of, offered, guarded, Opens, each_opens, itself, opens_step, opens, opened}
use Rattle.chi_core.specs.Opening.{unwound as unwound_alternatives, meaning}
use Rattle.chi_core.specs.Reading.{truth_of, channel_of, elements_of, real_of, due_of}
use Rattle.chi_core.specs.Spots.{Spot, store}
use Rattle.chi_core.specs.Starting.{Started, started_by, numbered, told, made_by, Starts, told_at, makes, unwound, starts_step, starts, all_started}
use Rattle.chi_core.specs.Variables.{Variables, bound, bindings_at}
use Rattle.chi_core.proofs.Used.{Uses, within-then, within-giving, within-if, uses-gives, uses-wanted, uses-through}
use Rattle.chi_core.proofs.UsedByExpressions.{uses-on_truth}
use Rattle.chi_core.proofs.UsedByTerms.{uses-store, uses-spot_of, uses-read_at, uses-values}

uses-delayed_by : (clock delay : ℤ) → Uses (delayed_by clock delay)
uses-delayed_by clock delay view =
    within-if (int_lt delay (pos 0)) view.left (Fails NegativeDelay) _ tt
    (within-if (fits (clock +ℤ delay)) view.left (Gives (Delay (clock +ℤ delay)) view) (Fails RealRange) (le_refl view.left) tt)

uses-kept : (names : List ℕ) (body : List CStat) (o : Opening) (act : Act) → Uses (kept names body o act)
uses-kept names body o act view =
    within-if (nat_lt (length o.offers) MOST_OFFERS) view.left _ (Fails TooLarge)
    (within-giving view.left (λ bindings. record o { offers = o.offers ++ record { act = act; bindings = bindings; body = body } ∷ [] })
    (wanted (bindings_at names o.variables) view) (uses-wanted (bindings_at names o.variables) view))
    tt

uses-told : (o : Option Spot) (number : ℕ) (s : Started) → Uses (told o number s)
uses-told None number s view = le_refl view.left
uses-told (Some spot) number s view =
    within-giving view.left (λ variables. record s { variables = variables }) (store (spot, value.Inst (Some number)) s.variables view)
    (uses-store (spot, value.Inst (Some number)) s.variables view)

uses-numbered : Uses numbered
uses-numbered view =
    within-if (nat_lt view.instances MOST_INSTANCES) view.left (Gives view.instances (record view { instances = view.instances + 1 })) (Fails TooManyInstances)
    (le_refl view.left) tt

uses-made_by : (process : ℕ) (d : ProcDef) (arguments : List Value) (spot : Option Spot) (s : Started) → Uses (made_by process d arguments spot s)
unfolding made_by
uses-made_by process d arguments spot s view = within-then _ _ _ (uses-numbered view) (λ number. uses-told spot number _)

-- where evaluation leaves no more
module _ (value_in : Variables → Evaluates) (each : (variables : Variables) (e : CExpr) → Uses (value_in variables e)) (clock : ℤ) where
  uses-act_of : (variables : Variables) (c : CComm) → Uses (act_of value_in clock variables c)
  uses-act_of variables (comm.Send target None) = λ view.
      within-then _ _ _ (uses-read_at (value_in variables) (each variables) variables target view)
      (λ channel. uses-wanted (option_map (λ number. Send number None) (channel_of channel)))
  uses-act_of variables (comm.Send target (Some e)) = λ view.
      within-then _ _ _ (uses-read_at (value_in variables) (each variables) variables target view) (λ channel now.
      within-then _ _ _ (each variables e now) (λ x. uses-wanted (option_map (λ number. Send number (Some x)) (channel_of channel))))
  uses-act_of variables (comm.Receive target slot) = λ view.
      within-then _ _ _ (uses-read_at (value_in variables) (each variables) variables target view)
      (λ channel. uses-wanted (option_map (λ number. Receive number slot) (channel_of channel)))
  uses-act_of variables (comm.Delay e) = λ view.
      within-then _ _ _ (each variables e view) (λ delay now. within-then _ _ _ (uses-wanted (real_of delay) now) (uses-delayed_by clock))
  uses-act_of variables (comm.Timer e) = λ view.
      within-then _ _ _ (each variables e view) (λ timer. uses-wanted (option_map Delay (due_of timer)))

  pub uses-offered : (names : List ℕ) (c : CComm) (body : List CStat) (o : Opening) → Uses (offered value_in clock names c body o)
  uses-offered names c body o view = within-then _ _ _ (uses-act_of o.variables c view) (uses-kept names body o)

  pub uses-guarded : (guard : Option CExpr) (names : List ℕ) (c : CComm) (body : List CStat) (o : Opening)
      → Uses (guarded value_in clock guard names c body o)
  uses-guarded None names c body o = uses-offered names c body o
  uses-guarded (Some guard) names c body o = λ view.
      within-then view.left (value_in o.variables guard view) (λ x. on_truth (truth_of x) (offered value_in clock names c body o) (gives o))
      (each o.variables guard view)
      (λ x. uses-on_truth (truth_of x) (offered value_in clock names c body o) (gives o) (uses-offered names c body o) (uses-gives o))

  abbrev OpenUses : CAlt → Type 0
  OpenUses a = (names : List ℕ) (o : Opening) → Uses (opens value_in clock a names o)

  -- an alternative that leaves no more; of statements and branches nothing is said
  abbrev HeldAlternative : Type 0
  HeldAlternative = (a : CAlt) × OpenUses a

  abbrev NoneSaid : {A : Type 0} → A → Type 0
  NoneSaid x = Unit {0}

  abbrev alternative_of : HeldAlternative → CAlt
  alternative_of h = h.0

  abbrev statement_of : (s : CStat) × Unit {0} → CStat
  statement_of h = h.0

  abbrev branch_of : (b : Branch) × Unit {0} → Branch
  branch_of h = h.0

  abbrev opened_by : CAlt → CAlt × Opens value_in clock
  opened_by a = (a, opens value_in clock a)

  alternatives_through : (alternatives : List HeldAlternative) (names : List ℕ) (o : Opening)
      → Uses (each_opens value_in clock names (map (meaning value_in clock) (map opened_by (map alternative_of alternatives))) o)
  alternatives_through [] names o view = le_refl view.left
  alternatives_through (h ∷ hs) names o view = within-then _ _ _ (h.1 names o view) (alternatives_through hs names)

  abbrev layer_of : CAlt-F HeldAlternative ((s : CStat) × Unit {0}) ((b : Branch) × Unit {0}) → CAlt-F CAlt CStat Branch
  layer_of y = map-CAlt HeldAlternative ((s : CStat) × Unit {0}) ((b : Branch) × Unit {0}) CAlt CStat Branch alternative_of statement_of branch_of y

  alternative_layer : (y : CAlt-F HeldAlternative ((s : CStat) × Unit {0}) ((b : Branch) × Unit {0})) → OpenUses (roll-CAlt (layer_of y))
  unfolding opens
  alternative_layer (CAlt-F.Guarded guard c body) names o =
      subst (λ (f : Opens value_in clock). Uses (f names o))
      (sym (para-roll-CAlt (Opens value_in clock) (Unit {0}) (Unit {0}) (opens_step value_in clock) (λ layer. tt) (λ layer. tt)
      (CAlt-F.Guarded guard c (map statement_of body))))
      (uses-guarded guard names c (map (itself value_in clock) (map (λ x. (x, tt)) (map statement_of body))) o)
  alternative_layer (CAlt-F.Unwind slots e alternatives) names o =
      subst (λ (f : Opens value_in clock). Uses (f names o))
      (sym (para-roll-CAlt (Opens value_in clock) (Unit {0}) (Unit {0}) (opens_step value_in clock) (λ layer. tt) (λ layer. tt)
      (CAlt-F.Unwind slots e (map alternative_of alternatives))))
      (λ view. within-then _ _ _ (each o.variables e view) (λ x now.
      within-then _ _ _ (uses-wanted (elements_of x) now) (λ elements.
      uses-through (unwound_alternatives value_in clock names slots (map (meaning value_in clock) (map opened_by (map alternative_of alternatives))))
      (λ element p later. within-then _ _ _ (uses-wanted (bound slots element p.variables) later)
      (λ variables. alternatives_through alternatives (names ++ slots) (record p { variables = variables }))) elements o)))

  uses-opens : (a : CAlt) → OpenUses a
  uses-opens = ind-CAlt OpenUses NoneSaid NoneSaid (λ x y e. subst (λ x. OpenUses (roll-CAlt x)) e (alternative_layer y)) (λ x y e. tt) (λ x y e. tt)

  pub uses-opened : (variables : Variables) (alternatives : List CAlt) → Uses (opened value_in clock variables alternatives)
  uses-opened variables alternatives = from alternatives (record { variables = variables; offers = [] })
    where
      from : (alts : List CAlt) (o : Opening) → Uses (each_opens value_in clock [] (map (opens value_in clock) alts) o)
      from [] o = λ view. le_refl view.left
      from (a ∷ alts) o = λ view. within-then _ _ _ (uses-opens a [] o view) (from alts)

-- starts

module _ (value_in : Variables → Evaluates) (each : (variables : Variables) (e : CExpr) → Uses (value_in variables e)) (processes : List ProcDef) where
  abbrev begins : CElem → Starts value_in processes
  begins = starts value_in processes

  uses-told_at : (variables : Variables) (target : Option CTarget) → Uses (told_at value_in processes variables target)
  unfolding told_at
  uses-told_at variables None view = le_refl view.left
  uses-told_at variables (Some target) view = within-giving _ _ _ (uses-spot_of (value_in variables) (each variables) target view)

  uses-makes : (target : Option CTarget) (process : ℕ) (arguments : List CExpr) (s : Started) → Uses (makes value_in processes target process arguments s)
  unfolding makes
  uses-makes target process arguments s view =
      within-then _ _ _ (uses-values (value_in s.variables) (each s.variables) arguments view) (λ values now.
      within-then _ _ _ (uses-told_at s.variables target now) (λ spot new.
      within-then _ _ _ (uses-wanted (started_by processes process (length values)) new) (λ d. uses-made_by process d values spot s)))

  -- an element that leaves no more
  abbrev Held : Type 0
  Held = (e : CElem) × ((s : Started) → Uses (begins e s))

  abbrev element_of : Held → CElem
  element_of h = h.0

  elements_through : (elements : List Held) (s : Started) → Uses (through (λ made. made) (map begins (map element_of elements)) s)
  elements_through [] s view = le_refl view.left
  elements_through (h ∷ hs) s view = within-then _ _ _ (h.1 s view) (elements_through hs)

  layer : (y : CElem-F Held) (s : Started)
      → Uses (starts_step value_in processes (map-CElem CElem (Starts value_in processes) begins (map-CElem Held CElem element_of y)) s)
  layer (CElem-F.Make target process arguments) s = uses-makes target process arguments s
  layer (CElem-F.Unwind slots e elements) s = λ view.
      within-then _ _ _ (each s.variables e view) (λ x now.
      within-then _ _ _ (uses-wanted (elements_of x) now) (λ xs.
      uses-through (unwound value_in processes slots (map begins (map element_of elements)))
      (λ x t later. within-then _ _ _ (uses-wanted (bound slots x t.variables) later)
      (λ variables. elements_through elements (record t { variables = variables }))) xs s))

  abbrev StartUses : CElem → Type 0
  StartUses e = (s : Started) → Uses (begins e s)

  uses-starts : (e : CElem) (s : Started) → Uses (starts value_in processes e s)
  unfolding starts
  uses-starts = ind-CElem StartUses (λ x y e. subst (λ x. StartUses (roll-CElem x)) e
      (subst (λ (m : Starts value_in processes). (s : Started) → Uses (m s))
      (sym (fold-roll-CElem (Starts value_in processes) (starts_step value_in processes) (map-CElem Held CElem element_of y))) (layer y)))

  pub uses-all_started : (variables : Variables) (elements : List CElem) → Uses (all_started value_in processes variables elements)
  uses-all_started variables elements = uses-through (starts value_in processes) uses-starts elements (record { variables = variables; made = [] })
