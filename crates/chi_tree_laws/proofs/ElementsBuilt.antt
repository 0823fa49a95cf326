-- Formed elements are what the grammar builds of some tokens, and so are the statements that run or start them.
use Rattle.std.proofs.Common.{◌≡◌, ℕ, suc, Bool, true, false, List, [], ◌∷◌, ◌++◌, Some, None, map, refl, ap, sym, ◌∙◌, append_assoc}
use Rattle.chi_grammar.specs.Rules.{node, pair, none, part, ◌▸◌, many}
use Rattle.chi_grammar.specs.Trees.{Is}
use Rattle.chi_grammar.specs.Trees as is
use Rattle.chi_token.specs.declared.keyword.Keyword.TheVariants.{EndWord, UnwindWord}
use Rattle.chi_token.specs.declared.place.Place.{Place}
use Rattle.chi_token.specs.declared.sign.Sign.TheVariants.{LeftParen, RightParen, Assign, Colon, Comma}
use Rattle.chi_tree.specs.declared.type_tree.Name.{Name}
use Rattle.chi_tree.specs.declared.expr.Expr.{Expr}
use Rattle.chi_tree.specs.declared.statement.Target.{Target}
use Rattle.chi_tree.specs.declared.statement.Element.{Element, Element-F, out-Element, out-roll-Element}
use Rattle.chi_tree.specs.declared.statement.Element.TheVariants as element
use Rattle.chi_tree.specs.declared.statement.Walk.{Walk}
use Rattle.chi_tree.specs.Parts as s
use Rattle.chi_tree.specs.Rules.{grammar, sign}
use Rattle.chi_tree.specs.View.{Built, nowhere, arguments_of}
use Rattle.chi_tree.specs.Statements.{target_of, is_bare, walk_of, made, elements_of, more_elements_of, element_of, ends_element, last_ends}
use Rattle.chi_tree_laws.specs.Expressions.{FormedExprs}
use Rattle.chi_tree_laws.specs.Statements.{FormedElement, FormedElements}
use Rattle.chi_tree_laws.specs.Statements as formed
use Rattle.chi_tree_laws.specs.Nestings.{Nestings, outside, in_block, bracketed, each_after}
use Rattle.chi_tree_laws.specs.StatementNestings.{exprs_nestings, target_nestings, walk_nestings, element_nestings, elements_nestings}
use Rattle.chi_tree_laws.proofs.StatementNestingsIn.{element-Make, element-Unwind}
use Rattle.chi_tree_laws.proofs.Leaves.{mark, word_at, name_leaf, levels, Builds}
use Rattle.chi_tree_laws.proofs.ExprBuilt.{build_exprs_if}
use Rattle.chi_tree_laws.proofs.TargetsBuilt.{build_target, build_walk}

-- "(" [ exprs ] ")"
build_arguments : (b : ℕ) {d : ℕ} {es : List Expr} → FormedExprs d es → Builds b (suc d) (part s.Arguments) arguments_of es (bracketed (exprs_nestings es))
build_arguments b p = let u = build_exprs_if b p in record {
  tree = node s.Arguments (pair (mark LeftParen) (pair u.tree (mark RightParen)));
  built = is.part (is.deeper (refl, refl) (is.both (is.word refl) (is.both u.built (is.word refl))));
  shown = u.shown;
  nests = ap bracketed u.nests;
}

-- a call without a target: its name is a target without steps
made_alone : (target : Target) {b d : ℕ} {t : Built} → Is grammar (levels b d) (part s.Arguments) t
    → made target t ≡ element.Make None target.name (arguments_of t)
made_alone target (is.part p) = refl

alone : {b d : ℕ} {es : List Expr} (n : Name) → Builds b d (part s.Arguments) arguments_of es (bracketed (exprs_nestings es))
    → Builds b d (part s.Element) element_of (element.Make None n es) (element_nestings (element.Make None n es))
alone n u = record {
  tree = node s.Element (node s.Make (pair (node s.Target (pair (name_leaf n) none)) (node s.Made u.tree)));
  built = is.part (is.right (is.part (is.chosen (is.part (is.both (is.word refl) is.enough)) refl (is.part (is.left u.built)))));
  shown = made_alone (record { name = n; steps = [] }) u.built ∙ ap (λ es. element.Make None n es) u.shown;
  nests = ap (λ ns. outside ∷ ns) u.nests ∙ sym (element-Make None n _);
}

assigned_in : (target : Target) (n : Name) (es : List Expr) (ns ms : Nestings) → ns ≡ target_nestings target → ms ≡ bracketed (exprs_nestings es)
    → ns ++ (outside ∷ outside ∷ ms) ≡ element_nestings (element.Make (Some target) n es)
assigned_in target n es ns ms e f =
    (λ i. e i ++ (outside ∷ outside ∷ f i)) ∙ sym (append_assoc (target_nestings target) (outside ∷ []) (outside ∷ bracketed (exprs_nestings es)))
    ∙ sym (element-Make (Some target) n es)

assigned : {b d : ℕ} {target : Target} {es : List Expr} (n : Name) (bare : Bool) → is_bare target.steps ≡ bare
    → Builds b d (part s.Target) target_of target (target_nestings target) → Builds b d (part s.Arguments) arguments_of es (bracketed (exprs_nestings es))
    → Builds b d (part s.Element) element_of (element.Make (Some target) n es) (element_nestings (element.Make (Some target) n es))
assigned n true e u v = record {
  tree = node s.Element (node s.Make (pair u.tree (node s.Made (node s.AssignedMake (pair (mark Assign) (pair (name_leaf n) v.tree))))));
  built = is.part (is.right (is.part (is.chosen u.built (ap (λ t. is_bare t.steps) u.shown ∙ e)
      (is.part (is.right (is.part (is.both (is.word refl) (is.both (is.word refl) v.built))))))));
  shown = λ i. element.Make (Some (u.shown i)) n (v.shown i);
  nests = assigned_in _ n _ _ _ u.nests v.nests;
}
assigned n false e u v = record {
  tree = node s.Element (node s.Make (pair u.tree (node s.AssignedMake (pair (mark Assign) (pair (name_leaf n) v.tree)))));
  built = is.part (is.right (is.part (is.otherwise u.built (ap (λ t. is_bare t.steps) u.shown ∙ e)
      (is.part (is.both (is.word refl) (is.both (is.word refl) v.built))))));
  shown = λ i. element.Make (Some (u.shown i)) n (v.shown i);
  nests = assigned_in _ n _ _ _ u.nests v.nests;
}

unwound : {b d : ℕ} {walk : Walk} {es : List Element} (place : Place) → Builds (suc b) d (part s.Walk) walk_of walk (walk_nestings walk)
    → Builds b d (part s.Elements) elements_of es (elements_nestings es) → Builds (suc b) d (part s.Element) element_of (element.Unwind place walk es) (element_nestings (element.Unwind place walk es))
unwound place u v = record {
  tree = node s.Element (node s.UnwoundElements (pair (word_at place UnwindWord) (pair u.tree (pair (mark Colon) (pair v.tree (word_at nowhere EndWord))))));
  built = is.part (is.left (is.part (is.both (is.word refl) (is.both u.built (is.both (is.word refl)
      (is.both (is.deeper (refl, refl) v.built) (is.word refl)))))));
  shown = λ i. element.Unwind place (u.shown i) (v.shown i);
  nests = (λ i. outside ∷ u.nests i ++ (outside ∷ in_block (v.nests i) ++ outside ∷ [])) ∙ sym (element-Unwind place _ _);
}

mutual
  build_element : {ends : Bool} {b d : ℕ} {e : Element} → FormedElement ends b d e → Builds b d (part s.Element) element_of e (element_nestings e)
  build_element (formed.make {b = b} {name = n} p) = alone n (build_arguments b p)
  build_element (formed.assigned_make {b = b} {target = target} {name = n} p q) =
      assigned n (is_bare target.steps) refl (build_target b target p) (build_arguments b q)
  build_element (formed.unwind_elements {b = b} {place = place} p q) = unwound place (build_walk (suc b) p) (build_elements q)

  pub build_elements : {ends : Bool} {b d : ℕ} {es : List Element} → FormedElements ends b d es → Builds b d (part s.Elements) elements_of es (elements_nestings es)
  build_elements (formed.one_element p) = let u = build_element p in record {
    tree = node s.Elements (pair u.tree none);
    built = is.part (is.both u.built is.enough);
    shown = ap (λ e. e ∷ []) u.shown;
    nests = λ i. u.nests i ++ [];
  }
  build_elements (formed.elements p ps) = let u = build_element p in let v = build_more_elements ps in record {
    tree = node s.Elements (pair u.tree v.tree);
    built = is.part (is.both u.built v.built);
    shown = λ i. u.shown i ∷ v.shown i;
    nests = λ i. u.nests i ++ v.nests i;
  }

  build_more_elements : {ends : Bool} {b d : ℕ} {es : List Element} → FormedElements ends b d es
      → Builds b d (many (sign Comma ▸ part s.Element)) more_elements_of es (each_after (map element_nestings es))
  build_more_elements (formed.one_element p) = let u = build_element p in record {
    tree = pair (pair (mark Comma) u.tree) none;
    built = is.more (is.both (is.word refl) u.built) is.enough;
    shown = ap (λ e. e ∷ []) u.shown;
    nests = λ i. outside ∷ u.nests i ++ [];
  }
  build_more_elements (formed.elements p ps) = let u = build_element p in let v = build_more_elements ps in record {
    tree = pair (pair (mark Comma) u.tree) v.tree;
    built = is.more (is.both (is.word refl) u.built) v.built;
    shown = λ i. u.shown i ∷ v.shown i;
    nests = λ i. outside ∷ u.nests i ++ v.nests i;
  }

-- whether the last token of an element is "end", and of elements

element_ends : {ends : Bool} {b d : ℕ} {e : Element} → FormedElement ends b d e → ends_element (out-Element e) ≡ ends
element_ends (formed.make {name = n} {es = es} p) =
    ap (λ e. ends_element (out-Element e)) (sym (element.rolls-Make None n es)) ∙ ap ends_element (out-roll-Element (Element-F.Make None n es))
element_ends (formed.assigned_make {target = target} {name = n} {es = es} p q) =
    ap (λ e. ends_element (out-Element e)) (sym (element.rolls-Make (Some target) n es))
    ∙ ap ends_element (out-roll-Element (Element-F.Make (Some target) n es))
element_ends (formed.unwind_elements {place = place} {walk = walk} {es = es} p q) =
    ap (λ e. ends_element (out-Element e)) (sym (element.rolls-Unwind place walk es))
    ∙ ap ends_element (out-roll-Element (Element-F.Unwind place walk es))

more_ends : (e : Element) {ends : Bool} {b d : ℕ} {es : List Element} → FormedElements ends b d es → last_ends (e ∷ es) ≡ last_ends es
more_ends e (formed.one_element p) = refl
more_ends e (formed.elements p ps) = refl

pub elements_end : {ends : Bool} {b d : ℕ} {es : List Element} → FormedElements ends b d es → last_ends es ≡ ends
elements_end (formed.one_element p) = element_ends p
elements_end (formed.elements {e = e} p ps) = more_ends e ps ∙ elements_end ps
