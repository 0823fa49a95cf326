-- Formed targets, variables, walks and communications are what the grammar builds of some tokens.
use Rattle.std.proofs.Common.{◌≡◌, ℕ, List, [], ◌∷◌, ◌++◌, map, Option, Some, None, refl, ap, sym, ◌∙◌}
use Rattle.std.specs.Option.{option_map}
use Rattle.chi_grammar.specs.Rules.{node, pair, none, part, ◌▸◌, many}
use Rattle.chi_grammar.specs.Trees.{Is}
use Rattle.chi_grammar.specs.Trees as is
use Rattle.chi_token.specs.declared.keyword.Keyword.TheVariants.{DelayWord, InWord}
use Rattle.chi_token.specs.declared.place.Place.{Place}
use Rattle.chi_token.specs.declared.sign.Sign.TheVariants.{LeftBracket, RightBracket, Assign, Bang, Comma, Dot, Question}
use Rattle.chi_tree.specs.declared.type_tree.Name.{Name}
use Rattle.chi_tree.specs.declared.expr.Postfix.{Postfix}
use Rattle.chi_tree.specs.declared.expr.Postfix.TheVariants as postfix
use Rattle.chi_tree.specs.declared.expr.Expr.{Expr}
use Rattle.chi_tree.specs.declared.statement.Target.{Target}
use Rattle.chi_tree.specs.declared.statement.Variable.{Variable}
use Rattle.chi_tree.specs.declared.statement.Walk.{Walk}
use Rattle.chi_tree.specs.declared.statement.Communication.{Communication}
use Rattle.chi_tree.specs.declared.statement.Communication.TheVariants as communication
use Rattle.chi_tree.specs.Parts as s
use Rattle.chi_tree.specs.Rules.{sign, name}
use Rattle.chi_tree.specs.View.{nowhere, more_names_in, names_in, postfixes_of}
use Rattle.chi_tree.specs.Statements.{target_of, more_targets_of, walk_of, variable_of, more_variables_of, variables_of, communicated, communication_of}
use Rattle.chi_tree_laws.specs.Expressions.{FormedIfAny}
use Rattle.chi_tree_laws.specs.Statements.{FormedSteps, FormedTarget, FormedTargets, FormedVariable, FormedVariables, FormedWalk, FormedCommunication, variable}
use Rattle.chi_tree_laws.specs.Statements as formed
use Rattle.chi_tree_laws.specs.Nestings.{Nestings, outside, bracketed, if_any, all, each_after, separated}
use Rattle.chi_tree_laws.specs.ExprNestings.{expr_nestings, postfix_nestings}
use Rattle.chi_tree_laws.specs.StatementNestings.{name_nestings, names_nestings, variable_nestings, target_nestings, walk_nestings, communication_nestings}
use Rattle.chi_tree_laws.proofs.ExprNestingsIn.{postfix-Index, postfix-Field}
use Rattle.chi_tree_laws.proofs.Leaves.{mark, mark_at, word_at, name_leaf, Builds, IfAny, if_tree, if_built, if_nests, if_shown}
use Rattle.chi_tree_laws.proofs.ExprBuilt.{build_expr, build_if}

-- names and targets

build_more_names : (b d : ℕ) (names : List Name) → Builds b d (many (sign Comma ▸ name)) more_names_in names (each_after (map name_nestings names))
build_more_names b d [] = record { tree = none; built = is.enough; shown = refl; nests = refl }
build_more_names b d (n ∷ names) = let v = build_more_names b d names in record {
  tree = pair (pair (mark Comma) (name_leaf n)) v.tree;
  built = is.more (is.both (is.word refl) (is.word refl)) v.built;
  shown = ap (λ ns. n ∷ ns) v.shown;
  nests = ap (λ ns. outside ∷ outside ∷ ns) v.nests;
}

pub build_names : (b d : ℕ) (n : Name) (names : List Name) → Builds b d (part s.Names) names_in (n ∷ names) (names_nestings (n ∷ names))
build_names b d n names = let v = build_more_names b d names in record {
  tree = node s.Names (pair (name_leaf n) v.tree);
  built = is.part (is.both (is.word refl) v.built);
  shown = ap (λ ns. n ∷ ns) v.shown;
  nests = ap (λ ns. outside ∷ ns) v.nests;
}

build_steps : (b : ℕ) {d : ℕ} {steps : List Postfix} → FormedSteps d steps → Builds b d (many (part s.TargetStep)) postfixes_of steps (all (map postfix_nestings steps))
build_steps b formed.no_steps = record { tree = none; built = is.enough; shown = refl; nests = refl }
build_steps b (formed.index_step {place = place} p ps) = let u = build_expr b p in let v = build_steps b ps in record {
  tree = pair (node s.TargetStep (node s.TargetIndex (pair (mark_at place LeftBracket) (pair u.tree (mark RightBracket))))) v.tree;
  built = is.more (is.part (is.left (is.deeper (refl, refl) (is.part (is.both (is.word refl) (is.both u.built (is.word refl))))))) v.built;
  shown = λ i. postfix.Index place (u.shown i) ∷ v.shown i;
  nests = let x = ap bracketed u.nests ∙ sym (postfix-Index place _) in (λ i. x i ++ v.nests i);
}
build_steps b (formed.field_step {name = n} ps) = let v = build_steps b ps in record {
  tree = pair (node s.TargetStep (node s.Field (pair (mark Dot) (name_leaf n)))) v.tree;
  built = is.more (is.part (is.right (is.part (is.both (is.word refl) (is.word refl))))) v.built;
  shown = ap (λ ps. postfix.Field n ∷ ps) v.shown;
  nests = λ i. sym (postfix-Field n) i ++ v.nests i;
}

pub build_target : (b : ℕ) {d : ℕ} (target : Target) → FormedTarget d target → Builds b d (part s.Target) target_of target (target_nestings target)
build_target b target p = let u = build_steps b p in record {
  tree = node s.Target (pair (name_leaf target.name) u.tree);
  built = is.part (is.both (is.word refl) u.built);
  shown = λ i. record { name = target.name; steps = u.shown i };
  nests = ap (λ ns. outside ∷ ns) u.nests;
}

pub build_more_targets : (b : ℕ) {d : ℕ} {ts : List Target} → FormedTargets d ts → Builds b d (many (sign Comma ▸ part s.Target)) more_targets_of ts (each_after (map target_nestings ts))
build_more_targets b (formed.one_target {target = target} p) = let u = build_target b target p in record {
  tree = pair (pair (mark Comma) u.tree) none;
  built = is.more (is.both (is.word refl) u.built) is.enough;
  shown = ap (λ t. t ∷ []) u.shown;
  nests = λ i. outside ∷ u.nests i ++ [];
}
build_more_targets b (formed.targets {target = target} p ps) = let u = build_target b target p in let v = build_more_targets b ps in record {
  tree = pair (pair (mark Comma) u.tree) v.tree;
  built = is.more (is.both (is.word refl) u.built) v.built;
  shown = λ i. u.shown i ∷ v.shown i;
  nests = λ i. outside ∷ u.nests i ++ v.nests i;
}

-- variables and walks

build_variable : (b : ℕ) {d : ℕ} {v : Variable} → FormedVariable d v → Builds b d (part s.Variable) variable_of v (variable_nestings v)
build_variable b (formed.bare {name = n}) = record {
  tree = node s.Variable (pair (name_leaf n) none);
  built = is.part (is.both (is.word refl) is.never);
  shown = refl;
  nests = refl;
}
build_variable b (formed.with_value {name = n} {place = place} p) = let u = build_expr b p in record {
  tree = node s.Variable (pair (name_leaf n) (node s.Initial (pair (mark_at place Assign) u.tree)));
  built = is.part (is.both (is.word refl) (is.once (is.part (is.both (is.word refl) u.built))));
  shown = λ i. variable n (Some (record { equals = place; value = u.shown i }));
  nests = ap (λ ns. outside ∷ outside ∷ ns) u.nests;
}

build_more_variables : (b : ℕ) {d : ℕ} {vs : List Variable} → FormedVariables d vs
    → Builds b d (many (sign Comma ▸ part s.Variable)) more_variables_of vs (each_after (map variable_nestings vs))
build_more_variables b (formed.one_variable p) = let u = build_variable b p in record {
  tree = pair (pair (mark Comma) u.tree) none;
  built = is.more (is.both (is.word refl) u.built) is.enough;
  shown = ap (λ v. v ∷ []) u.shown;
  nests = λ i. outside ∷ u.nests i ++ [];
}
build_more_variables b (formed.variables p ps) = let u = build_variable b p in let v = build_more_variables b ps in record {
  tree = pair (pair (mark Comma) u.tree) v.tree;
  built = is.more (is.both (is.word refl) u.built) v.built;
  shown = λ i. u.shown i ∷ v.shown i;
  nests = λ i. outside ∷ u.nests i ++ v.nests i;
}

pub build_variables : (b : ℕ) {d : ℕ} {vs : List Variable} → FormedVariables d vs → Builds b d (part s.Variables) variables_of vs (separated (map variable_nestings vs))
build_variables b (formed.one_variable p) = let u = build_variable b p in record {
  tree = node s.Variables (pair u.tree none);
  built = is.part (is.both u.built is.enough);
  shown = ap (λ v. v ∷ []) u.shown;
  nests = λ i. u.nests i ++ [];
}
build_variables b (formed.variables p ps) = let u = build_variable b p in let v = build_more_variables b ps in record {
  tree = node s.Variables (pair u.tree v.tree);
  built = is.part (is.both u.built v.built);
  shown = λ i. u.shown i ∷ v.shown i;
  nests = λ i. u.nests i ++ v.nests i;
}

pub build_walk : (b : ℕ) {d : ℕ} {walk : Walk} → FormedWalk d walk → Builds b d (part s.Walk) walk_of walk (walk_nestings walk)
build_walk b (formed.walk {d = d} {name = n} {names = names} p) = let u = build_names b d n names in let v = build_expr b p in record {
  tree = node s.Walk (pair u.tree (pair (word_at nowhere InWord) v.tree));
  built = is.part (is.both u.built (is.both (is.word refl) v.built));
  shown = λ i. record { names = u.shown i; container = v.shown i };
  nests = λ i. u.nests i ++ outside ∷ v.nests i;
}

-- communications

-- what stands after a target, as what it makes of one
abbrev pub BuildsEnd : ℕ → ℕ → Nestings → (Target → Communication) → Type 0
BuildsEnd b d ns c = Builds {T = Target → Communication} b d (part s.CommunicationEnd) (λ t target. communicated target t) c ns

sending : {b d : ℕ} {e : Option Expr} (place : Place) → IfAny b d e → BuildsEnd b d (outside ∷ if_any (option_map expr_nestings e)) (λ target. communication.Send target place e)
sending place u = record {
  tree = node s.CommunicationEnd (node s.Sending (pair (mark_at place Bang) (if_tree u)));
  built = is.part (is.left (is.part (is.both (is.word refl) (if_built u))));
  shown = λ i target. communication.Send target place (if_shown u i);
  nests = ap (λ ns. outside ∷ ns) (if_nests u);
}

pub build_sending : (b : ℕ) {d : ℕ} {e : Option Expr} (place : Place) → FormedIfAny d e
    → BuildsEnd b d (outside ∷ if_any (option_map expr_nestings e)) (λ target. communication.Send target place e)
build_sending b place p = sending place (build_if b p)

pub build_receiving : (b d : ℕ) (place : Place) (n : Option Name)
    → BuildsEnd b d (outside ∷ if_any (option_map name_nestings n)) (λ target. communication.Receive target place n)
build_receiving b d place None = record {
  tree = node s.CommunicationEnd (node s.Receiving (pair (mark_at place Question) none));
  built = is.part (is.right (is.part (is.both (is.word refl) is.never)));
  shown = refl;
  nests = refl;
}
build_receiving b d place (Some n) = record {
  tree = node s.CommunicationEnd (node s.Receiving (pair (mark_at place Question) (name_leaf n)));
  built = is.part (is.right (is.part (is.both (is.word refl) (is.once (is.word refl)))));
  shown = refl;
  nests = refl;
}

communicating : {b d : ℕ} {target : Target} {ns : Nestings} {c : Target → Communication}
    → target_nestings target ++ ns ≡ communication_nestings (c target) → Builds b d (part s.Target) target_of target (target_nestings target)
    → BuildsEnd b d ns c → Builds b d (part s.Communication) communication_of (c target) (communication_nestings (c target))
communicating e u v = record {
  tree = node s.Communication (pair u.tree v.tree);
  built = is.part (is.right (is.both u.built v.built));
  shown = λ i. v.shown i (u.shown i);
  nests = (λ i. u.nests i ++ v.nests i) ∙ e;
}

pub build_communication : (b : ℕ) {d : ℕ} {c : Communication} → FormedCommunication d c → Builds b d (part s.Communication) communication_of c (communication_nestings c)
build_communication b (formed.send {target = target} {place = place} p q) = communicating refl (build_target b target p) (build_sending b place q)
build_communication b (formed.receive {d = d} {target = target} {place = place} {name = n} p) =
    communicating refl (build_target b target p) (build_receiving b d place n)
build_communication b (formed.delay {place = place} p) = let u = build_expr b p in record {
  tree = node s.Communication (node s.Delay (pair (word_at place DelayWord) u.tree));
  built = is.part (is.left (is.part (is.both (is.word refl) u.built)));
  shown = ap (λ e. communication.Delay place e) u.shown;
  nests = ap (λ ns. outside ∷ ns) u.nests;
}
