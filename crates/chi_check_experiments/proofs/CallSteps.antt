-- Private to proofs. Which expressions call models, and which assignments do.
use Rattle.std.proofs.Common.{◌≡◌, List, None, refl, sym, ap, ◌∙◌}
use Rattle.std.specs.Prelude.{option_map}
use Rattle.chi_tree.specs.declared.expr.Entry.{Entry}
use Rattle.chi_tree.specs.declared.expr.Expr.{Expr, Expr-F, out-Expr, roll-Expr, roll-out-Expr}
use Rattle.chi_tree.specs.declared.expr.Expr.TheVariants as expr
use Rattle.chi_tree.specs.declared.expr.Link.{Link}
use Rattle.chi_tree.specs.declared.expr.Postfix.{Postfix}
use Rattle.chi_tree.specs.declared.type_tree.Formal.{Formal}
use Rattle.chi_tree.specs.declared.type_tree.Name.{Name}
use Rattle.chi_tree.specs.declared.type_tree.TypeTree.{TypeTree}
use Rattle.chi_check_types.specs.Names.{Names, known_in}
use Rattle.chi_check_stat_rules.specs.ModelRuns.{model_known}
use Rattle.chi_check_experiments.specs.Experiments.{call_with, model_call_step, model_call}

module _ (names : Names) where
  pub call_is : (e : Expr) (name : Name) (arguments : List Expr) → e ≡ expr.Call name arguments → option_map (call_with name arguments) (model_known (known_in names name.text)) ≡ model_call names e
  call_is e name arguments h = sym (ap (model_call_step names) (ap out-Expr h ∙ expr.outs-Call name arguments))

  other_layer : (o : Expr-F Expr Postfix TypeTree Entry Link Formal) → ((name : Name) (arguments : List Expr) → o ≡ Expr-F.Call name arguments → ⊥) → model_call_step names o ≡ None
  other_layer (Expr-F.Call name arguments) h = absurd (h name arguments refl)
  other_layer _ h = refl

  pub other_is : (e : Expr) → ((name : Name) (arguments : List Expr) → e ≡ expr.Call name arguments → ⊥) → None ≡ model_call names e
  other_is e h = sym (other_layer (out-Expr e) (λ name arguments p. h name arguments (sym (roll-out-Expr e) ∙ ap roll-Expr p ∙ expr.rolls-Call name arguments)))
