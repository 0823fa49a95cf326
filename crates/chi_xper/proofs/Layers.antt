-- What each kind of statement of an experiment is, and what its first item does.
use Rattle.std.proofs.Common.{◌≡◌, ◌≢◌, ℕ, Bool, List, [], ◌∷◌, Option, Some, None, ap, sym, refl, ◌∙◌}
use Rattle.std.specs.Prelude.{drop, option_map}
use Rattle.chi_core.specs.declared.expression.CExpr.{CExpr}
use Rattle.chi_core.specs.declared.experiment.XBranch.{XBranch}
use Rattle.chi_core.specs.declared.experiment.XStat.{XStat, XStat-F, out-XStat}
use Rattle.chi_core.specs.declared.experiment.XStat.TheVariants as x
use Rattle.chi_core.specs.declared.program.Core.{Core}
use Rattle.chi_core.specs.declared.statement.CStat.{CStat, out-CStat}
use Rattle.chi_core.specs.declared.target.CTarget.{CTarget}
use Rattle.chi_core.specs.declared.view.View.{View}
use Rattle.chi_core.specs.Answer.{Answer, Gives, Amiss, wanted, giving}
use Rattle.chi_core.specs.Evaluation.{Evaluates}
use Rattle.chi_core.specs.Variables.{Variables, bound}
use Rattle.chi_xper.specs.Deeds.{first_done}
use Rattle.chi_xper.specs.Items.{Item, Do, Loop, Walk, Term, Did, quietly, first_the, done_line, done_stat, done, chosen, tested, walking, calling}
use Rattle.chi_xper.specs.Tasks.{IsWalk, first_of, walk_done}

module _ (core : Core) (m : Evaluates) (variables : Variables) (s : XStat) (rest : Term) (view : View) where
  abbrev does : Answer Did
  does = done_stat core m variables (out-XStat s) rest view

  at_layer : (layer : XStat-F XStat XBranch) → out-XStat s ≡ layer → does ≡ done_stat core m variables layer rest view
  at_layer layer e = ap (λ l. done_stat core m variables l rest view) e

  pub line_is : (line : CStat) → s ≡ x.Line line → does ≡ done_line core m variables (out-CStat line) rest view
  line_is line is = at_layer (XStat-F.Line line) (ap out-XStat is ∙ x.outs-Line line)

  pub if_is : (l : ℕ) (branches bs : List XBranch) (otherwise os : List XStat) → s ≡ x.If l branches otherwise → bs ≡ branches → os ≡ otherwise
      → does ≡ chosen m variables bs os rest view
  if_is l branches bs otherwise os is same next =
      at_layer (XStat-F.If l branches otherwise) (ap out-XStat is ∙ x.outs-If l branches otherwise)
      ∙ (λ k. chosen m variables (sym same k) (sym next k) rest view)

  pub while_is : (l : ℕ) (test : CExpr) (block b : List XStat) → s ≡ x.While l test block → b ≡ block → does ≡ tested m variables l test b rest view
  while_is l test block b is same =
      at_layer (XStat-F.While l test block) (ap out-XStat is ∙ x.outs-While l test block) ∙ ap (λ b. tested m variables l test b rest view) (sym same)

  pub for_is : (l : ℕ) (slots ns : List ℕ) (e : CExpr) (block b : List XStat) → s ≡ x.For l slots e block → ns ≡ slots → b ≡ block
      → does ≡ walking m variables l ns e b rest view
  for_is l slots ns e block b is same next =
      at_layer (XStat-F.For l slots e block) (ap out-XStat is ∙ x.outs-For l slots e block)
      ∙ (λ k. walking m variables l (sym same k) e (sym next k) rest view)

  pub run_is : (l : ℕ) (target : CTarget) (model : ℕ) (arguments es : List CExpr) (widen : Bool) → s ≡ x.RunModel l target model arguments widen → es ≡ arguments
      → does ≡ calling m variables target model es widen rest view
  run_is l target model arguments es widen is same =
      at_layer (XStat-F.RunModel l target model arguments widen) (ap out-XStat is ∙ x.outs-RunModel l target model arguments widen)
      ∙ ap (λ es. calling m variables target model es widen rest view) (sym same)

pub ruleset statements = (line_is, if_is, while_is, for_is, run_is)

-- the first item, which there is
module _ (core : Core) (m : Evaluates) (variables : Variables) (term : Term) (view : View) where
  abbrev first : Answer Did
  first = first_done core m variables term view

  by_first : (t : Term) (i : Item) → first_of t ≡ Some i → first_done core m variables t view ≡ done core m variables i (drop 1 t) view
  by_first [] i e = absurd (cc)
  by_first (j ∷ rest) i e = let same : j ≡ i = cc in ap (λ j. done core m variables j rest view) same

  pub do_is : (s : XStat) → first_of term ≡ Some (Do s) → first ≡ done_stat core m variables (out-XStat s) (drop 1 term) view
  do_is s e = by_first term (Do s) e

  pub loop_is : (line : ℕ) (test : CExpr) (block : List XStat) → first_of term ≡ Some (Loop line test block) → first ≡ tested m variables line test block (drop 1 term) view
  loop_is line test block e = by_first term (Loop line test block) e

  pub none_is : term ≡ [] → first ≢ Amiss → ⊥
  none_is e h = h (ap (λ t. first_done core m variables t view) e)

-- a walk, as the first item

abbrev on_pair : Variables × Term → Did
on_pair p = quietly p.0 p.1

walk_is : (core : Core) (m : Evaluates) (variables : Variables) (term : Term) (view : View) → IsWalk (first_of term)
    → first_done core m variables term view ≡ giving on_pair (wanted (walk_done variables term) view)
walk_is core m variables [] view e = absurd e
walk_is core m variables (Do s ∷ rest) view e = absurd e
walk_is core m variables (Loop line test block ∷ rest) view e = absurd e
walk_is core m variables (Walk line slots [] block ∷ rest) view e = refl
walk_is core m variables (Walk line slots (x ∷ xs) block ∷ rest) view e = by_bound (bound slots x variables)
  where
    by_bound : (o : Option Variables)
        → giving (λ after. quietly after (first_the block (Walk line slots xs block ∷ rest))) (wanted o view)
        ≡ giving on_pair (wanted (option_map (λ new. (new, first_the block (Walk line slots xs block ∷ rest))) o) view)
    by_bound None = refl
    by_bound (Some new) = refl

pub walk_there : (core : Core) (m : Evaluates) (variables : Variables) (term : Term) (view : View) → IsWalk (first_of term) → first_done core m variables term view ≢ Amiss → walk_done variables term ≢ None
walk_there core m variables term view is h none = h (walk_is core m variables term view is ∙ ap (λ o. giving on_pair (wanted o view)) none)

pub walk_goes : (core : Core) (m : Evaluates) (variables variables2 : Variables) (term term2 : Term) (view : View) → IsWalk (first_of term) → walk_done variables term ≡ Some (variables2, term2)
    → first_done core m variables term view ≡ Gives (quietly variables2 term2) view
walk_goes core m variables variables2 term term2 view is e = walk_is core m variables term view is ∙ ap (λ o. giving on_pair (wanted o view)) e

pub ruleset items = (do_is, loop_is, none_is, walk_there, walk_goes)
