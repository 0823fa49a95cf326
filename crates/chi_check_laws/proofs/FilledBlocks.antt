-- What statements with blocks set, and what unwinds bind.
use Rattle.std.proofs.Common.{◌≡◌, Bool, true, List, [], ◌∷◌, ◌++◌, map, length, Option, Some, sym, subst, ◌∙◌, append-nil}
use Rattle.std.specs.Prelude.{option_map}
use Rattle.chi_token.specs.declared.place.Place.{Place}
use Rattle.chi_tree.specs.declared.expr.Expr.{Expr}
use Rattle.chi_tree.specs.declared.statement.Alternative.{Alternative-F}
use Rattle.chi_tree.specs.declared.statement.Branch.{Branch-F}
use Rattle.chi_tree.specs.declared.statement.Communication.{Communication}
use Rattle.chi_tree.specs.declared.statement.Element.{Element, Element-F}
use Rattle.chi_tree.specs.declared.statement.Statement.{Statement-F}
use Rattle.chi_tree.specs.declared.statement.Walk.{Walk}
use Rattle.chi_core.specs.declared.element.CElem.{CElem}
use Rattle.chi_core.specs.declared.element.CElem.TheVariants as element
use Rattle.chi_core.specs.declared.expression.CExpr.{CExpr}
use Rattle.chi_core.specs.declared.statement.Branch.{Branch as CBranch, roll-Branch, out-roll-Branch}
use Rattle.chi_core.specs.declared.statement.CAlt.{CAlt}
use Rattle.chi_core.specs.declared.statement.CAlt.TheVariants as alternative
use Rattle.chi_core.specs.declared.statement.CStat.{CStat}
use Rattle.chi_core.specs.declared.statement.CStat.TheVariants as statement
use Rattle.chi_core.specs.Fills.{Fills, one_after_another, by_communication, by_element, by_alternative, by_branch, by_statement}
use Rattle.chi_check_expr.proofs.Kept.{Each}
use Rattle.chi_check_laws.proofs.Conversions.{mapped, chained}
use Rattle.chi_check.specs.Below.chi_check_stat_rules.specs.declared.home.Home.{Home}
use Rattle.chi_check.specs.Below.chi_check_stat_rules.specs.declared.parts.Walked.{Walked}
use Rattle.chi_check.specs.Below.chi_check_stat_rules.specs.Homes.{running_rule}
use Rattle.chi_check.specs.Below.chi_check_stat_rules.specs.Places.{expr_place}
use Rattle.chi_check.specs.Below.chi_check_stat_rules.specs.Walks.{walk_of}
use Rattle.chi_check.specs.Below.chi_check_stat_lines.specs.declared.state.Binder.{Binder}
use Rattle.chi_check.specs.Below.chi_check_stat_lines.specs.declared.state.Binder.TheVariants as binder
use Rattle.chi_check.specs.Below.chi_check_stat_lines.specs.declared.state.Opened.{Opened}
use Rattle.chi_check.specs.Below.chi_check_stat_lines.specs.declared.state.State.{State}
use Rattle.chi_check.specs.Below.chi_check_stat_lines.specs.Stated.{Turn, both, in_turn}
use Rattle.chi_check.specs.Below.chi_check_stat_lines.specs.States.{bindings, block, Going, each_in}
use Rattle.chi_check.specs.Below.chi_check_stat_lines.specs.Values.{value_in, test_in, guard_in}
use Rattle.chi_check.specs.Below.chi_check_stat_lines.specs.Declarations.{opened, types_of, walk_place, walk_in}
use Rattle.chi_check.specs.Below.chi_check_stat_lines.specs.Lines.{communication_in}
use Rattle.chi_check.specs.Below.chi_check_stat_lines.specs.Blocks.{offers, runs, starts}
use Rattle.chi_check.specs.Below.chi_check_stat.specs.Statements.{starting, element_step, statement_step, branch_step, alternative_step}
use Rattle.chi_check_laws.specs.Bodies.{Grows}
use Rattle.chi_check_laws.specs.Whole.{has_any}
use Rattle.chi_check_laws.proofs.Filled.{Below, Filled, Filling, still_below, filled_on, filled_old, filled_cut, in_turn_filling, block_filling}
use Rattle.chi_check_laws.proofs.FilledLines.{communication_old}
use Rattle.chi_check_laws.proofs.FilledNames.{fill, bindings_filling, fills_are}
use Rattle.chi_check_laws.proofs.Nodes.{Goes}
use Rattle.chi_check_laws.proofs.Set.{branch_sets, choose_sets, while_sets, walk_sets, select_sets, run_sets, start_sets, guarded_sets, offered_sets, unwound_sets}
use Rattle.chi_check_laws.proofs.States.{grows_on, cut_grows}
use Rattle.chi_check_laws.proofs.Turns.{both_made, held_made}

-- what turns come to, where a loop stands around it or not
abbrev pub StatementFills : Bool → Turn State CStat → Type 0
StatementFills loop = Filling by_statement

abbrev pub BranchFills : Bool → Turn State CBranch → Type 0
BranchFills loop = Filling by_branch

abbrev pub OfferFills : Bool → Turn State CAlt → Type 0
OfferFills loop = Filling by_alternative

abbrev pub MakeFills : Turn State CElem → Type 0
MakeFills = Filling by_element

each_filling : {A : Type 0} (by : A → Fills) (loop : Bool) (gs : List (Going A)) → Each (Goes (λ loop. Filling by)) gs → Each (Filling by) (each_in loop gs)
each_filling by loop [] k = tt
each_filling by loop (g ∷ gs) k = (k.0 loop, each_filling by loop gs k.1)

going : {A : Type 0} (by : A → Fills) (loop : Bool) (gs : List (Going A)) → Each (Goes (λ loop. Filling by)) gs → Filling by (in_turn (each_in loop gs))
going by loop gs k = in_turn_filling by (each_in loop gs) (each_filling by loop gs k)

blocking : (loop : Bool) (gs : List (Going CStat)) → Each (Goes StatementFills) gs → Filling by_statement (block (each_in loop gs))
blocking loop gs k = block_filling by_statement (each_in loop gs) (each_filling by_statement loop gs k)

-- one that sets what its parts do
one_sets : {A : Type 0} (by : A → Fills) (s n : State) (x : A) (xs : List A) (fs : Fills) → x ∷ [] ≡ xs → by x ≡ fs → Filled s n fs → Filled s n (one_after_another (map by xs))
one_sets by s n x xs fs is sets h = subst (λ xs. Filled s n (one_after_another (map by xs))) is (subst (Filled s n) (sym (append-nil (by x) ∙ sets)) h)

module _ (h : Home) where
  -- ---- walks

  module _ (b : Binder) (walk : Walk) where
    abbrev over : State → Option Walked
    over s = (walk_of (expr_place walk.container) (walk_place walk.names (expr_place walk.container)) (length walk.names) (value_in h s.names walk.container).made).made

    pub walk_adds : (s : State) → Grows s (walk_in h b walk s).next
    walk_adds s = (bindings_filling b walk.names (types_of (over s))).grows s

    pub walk_fills : (s : State) (o : Opened) → Below s → (walk_in h b walk s).made ≡ Some o → Filled s (walk_in h b walk s).next (map (fill b) o.slots)
    walk_fills s o low e =
        let n = (walk_in h b walk s).next in
        let names = in_turn (bindings b walk.names (types_of (over s))) s in
        let m = both_made opened (option_map (λ w. w.container) (over s)) names.made o e in
        let f = (bindings_filling b walk.names (types_of (over s))).fills s m.1 low m.3 in
        subst (λ (o : Opened). Filled s n (map (fill b) o.slots)) m.4 (subst (Filled s n) (fills_are b m.1) f)

    -- a walk, and then what stands within it
    within : {A : Type 0} (by : A → Fills) (f : Turn State A) (s : State) (o : Opened) (xs : List A) → Filling by f → Below s → (walk_in h b walk s).made ≡ Some o → (f (walk_in h b walk s).next).made ≡ Some xs
        → Filled s (f (walk_in h b walk s).next).next (map (fill b) o.slots ++ one_after_another (map by xs))
    within by f s o xs k low e g =
        let middle = (walk_in h b walk s).next in
        let first = walk_fills s o low e in
        filled_on s middle _ low first (f middle).next _ (k.fills middle xs (still_below s middle _ low first) g)

    within_grows : {A : Type 0} (by : A → Fills) (f : Turn State A) (s : State) → Filling by f → Grows s (f (walk_in h b walk s).next).next
    within_grows by f s k = grows_on s (walk_in h b walk s).next _ (walk_adds s) (k.grows (walk_in h b walk s).next)

  -- ---- alternatives

  pub select_fills : (place : Place) (gs : List (Going CAlt)) → Each (Goes OfferFills) gs → Goes StatementFills (statement_step h (Statement-F.Select place gs))
  select_fills place gs k loop = let inner = going by_alternative loop gs k in record {
    grows = inner.grows;
    fills = λ s xs low e.
        let t = in_turn (each_in loop gs) s in
        let b = held_made (running_rule h place) (offers place.line t.made) xs e in
        let m = mapped (λ each. statement.Select place.line each ∷ []) t.made xs b.1 in
        one_sets by_statement s t.next (statement.Select place.line m.0) xs _ m.2 (select_sets place.line m.0) (inner.fills s m.0 low m.1);
  }

  pub guarded_fills : (guard : Option Expr) (c : Communication) (gs : List (Going CStat)) → Each (Goes StatementFills) gs → Goes OfferFills (alternative_step h (Alternative-F.Guarded guard c gs))
  guarded_fills guard c gs k loop = let inner = blocking loop gs k in record {
    grows = inner.grows;
    fills = λ s xs low e.
        let t = block (each_in loop gs) s in
        let g = chained (λ g. both (λ c b. alternative.Guarded g c b ∷ []) (communication_in h s.names c).made t.made) (guard_in h s.names guard).made xs e in
        let m = both_made (λ c b. alternative.Guarded g.0 c b ∷ []) (communication_in h s.names c).made t.made xs g.2 in
        let first = filled_old s (by_communication m.0) (communication_old h s.names c m.0 m.2) in
        one_sets by_alternative s t.next (alternative.Guarded g.0 m.0 m.1) xs _ m.4 (guarded_sets g.0 m.0 m.1) (filled_on s s _ low first t.next _ (inner.fills s m.1 low m.3));
  }

  pub offered_fills : (place : Place) (walk : Walk) (gs : List (Going CAlt)) → has_any walk.names ≡ true → Each (Goes OfferFills) gs → Goes OfferFills (alternative_step h (Alternative-F.Unwind place walk gs))
  offered_fills place walk gs some k loop = let inner = going by_alternative loop gs k in record {
    grows = λ s. cut_grows s _ (within_grows binder.Unwind walk by_alternative (in_turn (each_in loop gs)) s inner);
    fills = λ s xs low e.
        let w = walk_in h binder.Unwind walk s in
        let t = in_turn (each_in loop gs) w.next in
        let m = both_made (λ w inner. alternative.Unwind w.slots w.container inner ∷ []) w.made t.made xs e in
        let f = within binder.Unwind walk by_alternative (in_turn (each_in loop gs)) s m.0 m.1 inner low m.2 m.3 in
        let grown = within_grows binder.Unwind walk by_alternative (in_turn (each_in loop gs)) s inner in
        one_sets by_alternative s _ (alternative.Unwind m.0.slots m.0.container m.1) xs _ m.4 (offered_sets m.0.slots m.0.container m.1) (filled_cut s t.next _ grown f);
  }

  -- ---- branches

  pub choose_fills : (place : Place) (gs : List (Going CBranch)) (hs : List (Going CStat)) → Each (Goes BranchFills) gs → Each (Goes StatementFills) hs → Goes StatementFills (statement_step h (Statement-F.If place gs hs))
  choose_fills place gs hs k l loop =
      let first = going by_branch loop gs k in
      let last = blocking loop hs l in
      record {
        grows = λ s. let middle = (in_turn (each_in loop gs) s).next in grows_on s middle (block (each_in loop hs) middle).next (first.grows s) (last.grows middle);
        fills = λ s xs low e.
            let t = in_turn (each_in loop gs) s in
            let u = block (each_in loop hs) t.next in
            let m = both_made (λ branches otherwise. statement.If place.line branches otherwise ∷ []) t.made u.made xs e in
            let f = first.fills s m.0 low m.2 in
            one_sets by_statement s u.next (statement.If place.line m.0 m.1) xs _ m.4 (choose_sets place.line m.0 m.1) (filled_on s t.next _ low f u.next _ (last.fills t.next m.1 (still_below s t.next _ low f) m.3));
      }

  abbrev branch : CExpr → List CStat → CBranch
  branch test inner = roll-Branch (record { test = test; block = inner })

  pub branch_fills : (b : Branch-F (Going CAlt) (Going CStat) (Going CBranch) (Going CStat)) → Each (Goes StatementFills) b.block → Goes BranchFills (branch_step h b)
  branch_fills b k loop = let inner = blocking loop b.block k in record {
    grows = inner.grows;
    fills = λ s xs low e.
        let t = block (each_in loop b.block) s in
        let m = both_made (λ test inner. branch test inner ∷ []) (test_in h s.names b.condition).made t.made xs e in
        one_sets by_branch s t.next (branch m.0 m.1) xs _ m.4 (branch_sets (branch m.0 m.1) _ (out-roll-Branch _)) (inner.fills s m.1 low m.3);
  }

  -- ---- loops

  pub while_fills : (place : Place) (test : Expr) (gs : List (Going CStat)) → Each (Goes StatementFills) gs → Goes StatementFills (statement_step h (Statement-F.While place test gs))
  while_fills place test gs k loop = let inner = blocking true gs k in record {
    grows = inner.grows;
    fills = λ s xs low e.
        let t = block (each_in true gs) s in
        let m = both_made (λ test inner. statement.While place.line test inner ∷ []) (test_in h s.names test).made t.made xs e in
        one_sets by_statement s t.next (statement.While place.line m.0 m.1) xs _ m.4 (while_sets place.line m.0 m.1) (inner.fills s m.1 low m.3);
  }

  pub loop_fills : (place : Place) (walk : Walk) (gs : List (Going CStat)) → has_any walk.names ≡ true → Each (Goes StatementFills) gs → Goes StatementFills (statement_step h (Statement-F.For place walk gs))
  loop_fills place walk gs some k loop = let inner = going by_statement true gs k in record {
    grows = λ s. cut_grows s _ (within_grows binder.Variable walk by_statement (in_turn (each_in true gs)) s inner);
    fills = λ s xs low e.
        let w = walk_in h binder.Variable walk s in
        let t = in_turn (each_in true gs) w.next in
        let m = both_made (λ w inner. statement.For place.line w.slots w.container inner ∷ []) w.made t.made xs e in
        let f = within binder.Variable walk by_statement (in_turn (each_in true gs)) s m.0 m.1 inner low m.2 m.3 in
        let grown = within_grows binder.Variable walk by_statement (in_turn (each_in true gs)) s inner in
        one_sets by_statement s _ (statement.For place.line m.0.slots m.0.container m.1) xs _ m.4 (walk_sets place.line m.0.slots m.0.container m.1) (filled_cut s t.next _ grown f);
  }

  -- ---- elements

  pub unwound_fills : (place : Place) (walk : Walk) (fs : List (Turn State CElem)) → has_any walk.names ≡ true → Each MakeFills fs → MakeFills (element_step h (Element-F.Unwind place walk fs))
  unwound_fills place walk fs some k = let inner = in_turn_filling by_element fs k in record {
    grows = λ s. cut_grows s _ (within_grows binder.Unwind walk by_element (in_turn fs) s inner);
    fills = λ s xs low e.
        let w = walk_in h binder.Unwind walk s in
        let t = in_turn fs w.next in
        let m = both_made (λ w es. element.Unwind w.slots w.container es ∷ []) w.made t.made xs e in
        let f = within binder.Unwind walk by_element (in_turn fs) s m.0 m.1 inner low m.2 m.3 in
        let grown = within_grows binder.Unwind walk by_element (in_turn fs) s inner in
        one_sets by_element s _ (element.Unwind m.0.slots m.0.container m.1) xs _ m.4 (unwound_sets m.0.slots m.0.container m.1) (filled_cut s t.next _ grown f);
  }

  pub run_fills : (place : Place) (elements : List Element) → Each MakeFills (map (starting h) elements) → Goes StatementFills (statement_step h (Statement-F.Run place elements))
  run_fills place elements k loop = let inner = in_turn_filling by_element (map (starting h) elements) k in record {
    grows = inner.grows;
    fills = λ s xs low e.
        let t = in_turn (map (starting h) elements) s in
        let b = held_made (running_rule h place) (runs place.line t.made) xs e in
        let m = mapped (λ each. statement.Run place.line each ∷ []) t.made xs b.1 in
        one_sets by_statement s t.next (statement.Run place.line m.0) xs _ m.2 (run_sets place.line m.0) (inner.fills s m.0 low m.1);
  }

  pub start_fills : (place : Place) (elements : List Element) → Each MakeFills (map (starting h) elements) → Goes StatementFills (statement_step h (Statement-F.Start place elements))
  start_fills place elements k loop = let inner = in_turn_filling by_element (map (starting h) elements) k in record {
    grows = inner.grows;
    fills = λ s xs low e.
        let t = in_turn (map (starting h) elements) s in
        let b = held_made (running_rule h place) (starts place.line t.made) xs e in
        let m = mapped (λ each. statement.Start place.line each ∷ []) t.made xs b.1 in
        one_sets by_statement s t.next (statement.Start place.line m.0) xs _ m.2 (start_sets place.line m.0) (inner.fills s m.0 low m.1);
  }
