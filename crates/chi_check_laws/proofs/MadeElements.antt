-- Private to proofs. What is run and started comes to something where no rule is broken: by induction on its tree.
use Rattle.std.proofs.Common.{◌≡◌, List, [], ◌∷◌, ◌++◌, map, sym, subst}
use Rattle.chi_tree.specs.declared.statement.Element.{Element, Element-F, roll-Element, map-Element, fold-roll-Element, ind-Element}
use Rattle.chi_core.specs.declared.element.CElem.{CElem}
use Rattle.chi_check_expr.proofs.Nodes.{left_nil, right_nil}
use Rattle.chi_check.specs.Below.chi_check_stat_rules.specs.declared.home.Home.{Home}
use Rattle.chi_check.specs.Below.chi_check_stat_lines.specs.declared.state.Binder.TheVariants as binder
use Rattle.chi_check.specs.Below.chi_check_stat_lines.specs.declared.state.State.{State}
use Rattle.chi_check.specs.Below.chi_check_stat_lines.specs.Stated.{Turn, in_turn}
use Rattle.chi_check.specs.Below.chi_check_stat_lines.specs.Declarations.{walk_in}
use Rattle.chi_check.specs.Below.chi_check_stat_lines.specs.Lines.{element_in}
use Rattle.chi_check.specs.Below.chi_check_stat.specs.Statements.{element_step, starting, unwound}
use Rattle.chi_core.specs.declared.element.CElem.TheVariants as element
use Rattle.chi_check_laws.proofs.MadeCommunications.{element_whole}
use Rattle.chi_check_laws.proofs.ProgramTurns.{Keeps, EachKeeps, turns_keep, Holds, alone_leaves, closed_leaves}
use Rattle.chi_check_laws.proofs.WholeHeaders.{both_comes}

module _ (home : Home) (P : State → Type 0) (k : Holds home P) where
  abbrev Starts : Element → Type 0
  Starts x = Keeps P (starting home x)

  abbrev Such : Type 0
  Such = (x : Element) × Starts x

  each_such : (xs : List Such) → EachKeeps P (map (starting home) (map (λ x. x.0) xs))
  each_such [] = tt
  each_such (x ∷ xs) = (x.1, each_such xs)

  element_keeps : (y : Element-F Such) → Keeps P (element_step home (map-Element Element (Turn State CElem) (starting home) (map-Element Such Element (λ x. x.0) y)))
  element_keeps (Element-F.Make target name arguments) s p = alone_leaves P s (element_in home s.names target name arguments) p (element_whole home s.names (k.fine s p) target name arguments)
  element_keeps (Element-F.Unwind place walk elements) s p =
      let w = walk_in home binder.Unwind walk s in
      let inner = in_turn (map (starting home) (map (λ x. x.0) elements)) w.next in
      closed_leaves P k.closes s (record { next = inner.next; faults = w.faults ++ inner.faults; made = unwound w.made inner.made }) p (λ e.
      let first = k.walks binder.Unwind walk s p (left_nil w.faults inner.faults e) in
      let rest = turns_keep P (map (starting home) (map (λ x. x.0) elements)) (each_such elements) w.next first.1 (right_nil w.faults inner.faults e) in
      (both_comes (λ w es. element.Unwind w.slots w.container es ∷ []) w.made inner.made first.0 rest.0, rest.1))

  rolled : (o : Element-F Element) → starting home (roll-Element o) ≡ element_step home (map-Element Element (Turn State CElem) (starting home) o)
  rolled o = fold-roll-Element (Turn State CElem) (element_step home) o

  pub starting_keeps : (x : Element) → Keeps P (starting home x)
  starting_keeps = ind-Element Starts (λ x y h. subst (λ x. Starts (roll-Element x)) h (subst (Keeps P) (sym (rolled _)) (element_keeps y)))
