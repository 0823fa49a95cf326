-- What an alternative of a select offers, a communication with or without a guard, is what the grammar builds of some tokens.
use Rattle.std.proofs.Common.{◌≡◌, ℕ, Bool, true, false, List, [], ◌∷◌, ◌++◌, map, append_assoc, Option, Some, None, if◌then◌else◌, refl, ap, sym, ◌∙◌}
use Rattle.std.specs.Prelude.{◌&&◌}
use Rattle.std.specs.List.{list_all}
use Rattle.std.specs.Option.{option_map}
use Rattle.chi_grammar.specs.declared.room.Room.{Room}
use Rattle.chi_grammar.specs.Rules.{node, pair, part}
use Rattle.chi_grammar.specs.Trees.{Is}
use Rattle.chi_grammar.specs.Trees as is
use Rattle.chi_token.specs.declared.keyword.Keyword.TheVariants.{DelayWord}
use Rattle.chi_token.specs.declared.sign.Sign.TheVariants.{Comma}
use Rattle.chi_tree.specs.declared.type_tree.Name.{Name}
use Rattle.chi_tree.specs.declared.expr.Expr.{Expr, Expr-F, out-Expr, out-roll-Expr}
use Rattle.chi_tree.specs.declared.expr.Expr.TheVariants as expr
use Rattle.chi_tree.specs.declared.expr.Postfix.{Postfix, Postfix-F, out-Postfix, out-roll-Postfix}
use Rattle.chi_tree.specs.declared.expr.Postfix.TheVariants as postfix
use Rattle.chi_tree.specs.declared.statement.Target.{Target}
use Rattle.chi_tree.specs.declared.statement.Communication.{Communication}
use Rattle.chi_tree.specs.declared.statement.Communication.TheVariants as communication
use Rattle.chi_tree.specs.Parts as s
use Rattle.chi_tree.specs.Rules.{grammar}
use Rattle.chi_tree.specs.View.{Built, parted, expr_of}
use Rattle.chi_tree.specs.Statements.{communicated, communication_of, is_step_in, name_target, target_in, as_target, target_or_none, is_some, is_target, offered, offer_of}
use Rattle.chi_tree_laws.specs.Levels as level
use Rattle.chi_tree_laws.specs.Expressions.{FormedExpr, FormedPostfixes, FormedIfAny}
use Rattle.chi_tree_laws.specs.Expressions as formed
use Rattle.chi_tree_laws.specs.Statements.{FormedSteps, FormedTarget, FormedCommunication}
use Rattle.chi_tree_laws.specs.Statements as led
use Rattle.chi_tree_laws.specs.Nestings.{Nestings, outside, if_any, all}
use Rattle.chi_tree_laws.specs.ExprNestings.{expr_nestings, postfix_nestings}
use Rattle.chi_tree_laws.specs.StatementNestings.{name_nestings, target_nestings, communication_nestings, guard_nestings}
use Rattle.chi_tree_laws.proofs.ExprNestingsIn.{expr-Named, parted-in}
use Rattle.chi_tree_laws.proofs.Leaves.{mark, word_at, Builds}
use Rattle.chi_tree_laws.proofs.ExprBuilt.{build_expr}
use Rattle.chi_tree_laws.proofs.TargetsBuilt.{BuildsEnd, build_sending, build_receiving, build_communication}

-- a formed target as an expression, which is that target

target_postfixes : {d : ℕ} {steps : List Postfix} → FormedSteps d steps → FormedPostfixes d steps
target_postfixes led.no_steps = formed.no_postfixes
target_postfixes (led.index_step p ps) = formed.postfixes (formed.index p) (target_postfixes ps)
target_postfixes (led.field_step ps) = formed.postfixes formed.field (target_postfixes ps)

abbrev target_expr : Target → Expr
target_expr target = parted (expr.Named target.name) target.steps

target_formed : {d : ℕ} (target : Target) → FormedTarget d target → FormedExpr level.Expr d (target_expr target)
target_formed target p =
    formed.disjunction (formed.conjunction (formed.no_negation (formed.no_relation (formed.sum (formed.product (formed.no_prefix (formed.no_power
    (formed.post formed.name (target_postfixes p)))) formed.no_links) formed.no_links))) formed.no_links) formed.no_links

abbrev is_step : Postfix → Bool
is_step p = is_step_in (out-Postfix p)

all_steps : {d : ℕ} {steps : List Postfix} → FormedSteps d steps → list_all (λ p. is_step p) steps ≡ true
all_steps led.no_steps = refl
all_steps (led.index_step {place = place} {e = e} {steps = steps} p ps) =
    ap (λ b. b && list_all (λ p. is_step p) steps)
    (ap is_step (sym (postfix.rolls-Index place e)) ∙ ap is_step_in (out-roll-Postfix (Postfix-F.Index place e)))
    ∙ all_steps ps
all_steps (led.field_step {name = n} {steps = steps} ps) =
    ap (λ b. b && list_all (λ p. is_step p) steps)
    (ap is_step (sym (postfix.rolls-Field n)) ∙ ap is_step_in (out-roll-Postfix (Postfix-F.Field n)))
    ∙ all_steps ps

out_named : (n : Name) → out-Expr (expr.Named n) ≡ Expr-F.Named n
out_named n = ap out-Expr (sym (expr.rolls-Named n)) ∙ out-roll-Expr (Expr-F.Named n)

out_part : (e : Expr) (ps : List Postfix) → out-Expr (expr.Part e ps) ≡ Expr-F.Part e ps
out_part e ps = ap out-Expr (sym (expr.rolls-Part e ps)) ∙ out-roll-Expr (Expr-F.Part e ps)

target_back : (n : Name) (steps : List Postfix) → list_all (λ p. is_step p) steps ≡ true
    → as_target (parted (expr.Named n) steps) ≡ Some (record { name = n; steps = steps })
target_back n [] e = ap target_in (out_named n)
target_back n (p ∷ ps) e =
    ap target_in (out_part (expr.Named n) (p ∷ ps))
    ∙ ap (λ b. if b then name_target (out-Expr (expr.Named n)) (p ∷ ps) else None) e
    ∙ ap (λ x. name_target x (p ∷ ps)) (out_named n)

as_target_back : {d : ℕ} (target : Target) → FormedTarget d target → as_target (target_expr target) ≡ Some target
as_target_back target p = target_back target.name target.steps (all_steps p)

-- offers

abbrev pub offer_nestings : Option Expr → Communication → Nestings
offer_nestings guard c = guard_nestings guard ++ communication_nestings c

-- a guard where there is one, and a communication
abbrev pub BuildsOffer : ℕ → ℕ → Option Expr → Communication → Type 0
BuildsOffer b d guard c = Builds {T = Option Expr × Communication} b d (part s.Offer) offer_of (guard, c) (offer_nestings guard c)

end_offered : {room : Room} {t : Built} → Is grammar room (part s.CommunicationEnd) t → (e : Expr)
    → offered e (node s.Offered t) ≡ (None, communicated (target_or_none (as_target e)) t)
end_offered (is.part p) e = refl

-- the expression is a target, and its communication goes on
ending : {b d : ℕ} {e : Expr} {target : Target} {ns : Nestings} {c : Target → Communication} → as_target e ≡ Some target
    → expr_nestings e ++ ns ≡ communication_nestings (c target) → Builds b d (part s.Expr) expr_of e (expr_nestings e)
    → BuildsEnd b d ns c → BuildsOffer b d None (c target)
ending {c = c} back same u v = record {
  tree = node s.Offer (pair u.tree (node s.Offered v.tree));
  built = is.part (is.right (is.chosen u.built (ap (λ e. is_some (as_target e)) u.shown ∙ ap is_some back) (is.part (is.right v.built))));
  shown = end_offered v.built (expr_of u.tree)
      ∙ (λ i. (None, v.shown i (target_or_none (as_target (u.shown i)))))
      ∙ ap (λ o. (None, c (target_or_none o))) back;
  nests = (λ i. u.nests i ++ v.nests i) ∙ same;
}

-- a target's tokens as those of an expression
target_expr_in : (target : Target) → expr_nestings (target_expr target) ≡ target_nestings target
target_expr_in target =
    parted-in (expr.Named target.name) target.steps ∙ ap (λ ns. ns ++ all (map postfix_nestings target.steps)) (expr-Named target.name)

guarded_in : (e : Expr) (c : Communication) (ns ms : Nestings) → ns ≡ expr_nestings e → ms ≡ communication_nestings c
    → ns ++ outside ∷ ms ≡ offer_nestings (Some e) c
guarded_in e c ns ms p q = (λ i. p i ++ outside ∷ q i) ∙ sym (append_assoc (expr_nestings e) (outside ∷ []) (communication_nestings c))

-- the expression is a guard, which may be a target too
guarding : {b d : ℕ} {e : Expr} {c : Communication} (u : Builds b d (part s.Expr) expr_of e (expr_nestings e)) → (truth : Bool) → is_target u.tree ≡ truth
    → Builds b d (part s.Communication) communication_of c (communication_nestings c) → BuildsOffer b d (Some e) c
guarding u true e v = record {
  tree = node s.Offer (pair u.tree (node s.Offered (node s.Guarded (pair (mark Comma) v.tree))));
  built = is.part (is.right (is.chosen u.built e (is.part (is.left (is.part (is.both (is.word refl) v.built))))));
  shown = λ i. (Some (u.shown i), v.shown i);
  nests = guarded_in _ _ _ _ u.nests v.nests;
}
guarding u false e v = record {
  tree = node s.Offer (pair u.tree (node s.Guarded (pair (mark Comma) v.tree)));
  built = is.part (is.right (is.otherwise u.built e (is.part (is.both (is.word refl) v.built))));
  shown = λ i. (Some (u.shown i), v.shown i);
  nests = guarded_in _ _ _ _ u.nests v.nests;
}

guarded : {b d : ℕ} {e : Expr} {c : Communication} → Builds b d (part s.Expr) expr_of e (expr_nestings e)
    → Builds b d (part s.Communication) communication_of c (communication_nestings c) → BuildsOffer b d (Some e) c
guarded u v = guarding u (is_target u.tree) refl v

unguarded : (b : ℕ) {d : ℕ} {c : Communication} → FormedCommunication d c → BuildsOffer b d None c
unguarded b (led.send {target = target} {place = place} {e = e} p q) =
    ending (as_target_back target p) (ap (λ ns. ns ++ outside ∷ if_any (option_map expr_nestings e)) (target_expr_in target))
    (build_expr b (target_formed target p)) (build_sending b place q)
unguarded b (led.receive {d = d} {target = target} {place = place} {name = n} p) =
    ending (as_target_back target p) (ap (λ ns. ns ++ outside ∷ if_any (option_map name_nestings n)) (target_expr_in target))
    (build_expr b (target_formed target p)) (build_receiving b d place n)
unguarded b (led.delay {place = place} p) = let u = build_expr b p in record {
  tree = node s.Offer (node s.Delay (pair (word_at place DelayWord) u.tree));
  built = is.part (is.left (is.part (is.both (is.word refl) u.built)));
  shown = λ i. (None, communication.Delay place (u.shown i));
  nests = ap (λ ns. outside ∷ ns) u.nests;
}

pub build_offer : (b : ℕ) {d : ℕ} {guard : Option Expr} {c : Communication} → FormedIfAny d guard → FormedCommunication d c → BuildsOffer b d guard c
build_offer b formed.left_out q = unguarded b q
build_offer b (formed.given p) q = guarded (build_expr b p) (build_communication b q)
