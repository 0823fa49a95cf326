-- Sets, dictionaries and empty literals: what the grammar builds of them, by what it builds of their parts.
use Rattle.std.proofs.Common.{ℕ, suc, List, [], ◌∷◌, ◌++◌, map, refl, ap, sym, ◌∙◌, append-nil}
use Rattle.chi_grammar.specs.Rules.{node, pair, none, part, many}
use Rattle.chi_grammar.specs.Trees as is
use Rattle.chi_token.specs.declared.place.Place.{Place}
use Rattle.chi_token.specs.declared.sign.Sign.TheVariants.{LeftBracket, RightBracket, LeftBrace, RightBrace, Less, Greater, Colon, Comma}
use Rattle.chi_tree.specs.declared.type_tree.TypeTree.{TypeTree}
use Rattle.chi_tree.specs.declared.expr.Expr.{Expr}
use Rattle.chi_tree.specs.declared.expr.Expr.TheVariants as expr
use Rattle.chi_tree.specs.declared.expr.Entry.{Entry}
use Rattle.chi_tree.specs.Parts as s
use Rattle.chi_tree.specs.View.{type_of, expr_of, exprs_of, entries_of}
use Rattle.chi_tree_laws.specs.Expressions as formed
use Rattle.chi_tree_laws.specs.Nestings.{outside, bracketed, each_after, separated}
use Rattle.chi_tree_laws.specs.ExprNestings.{expr_nestings, type_nestings, entry_nestings}
use Rattle.chi_tree_laws.proofs.Depths.{depths}
use Rattle.chi_tree_laws.proofs.ExprNestingsIn.{expr-SetOf, expr-DictOf, expr-EmptyList, expr-EmptySet, expr-EmptyDict, in_brackets, entries_in}
use Rattle.chi_tree_laws.proofs.Leaves.{mark, mark_at, Builds}

-- an expression and a type that are built
abbrev BuildsExpr : ℕ → ℕ → Expr → Type 0
BuildsExpr b d e = Builds b d (part s.Expr) expr_of e (expr_nestings e)

abbrev BuildsType : ℕ → ℕ → TypeTree → Type 0
BuildsType b d t = Builds b d (part s.AnyType) type_of t (type_nestings t)

abbrev BuildsPrimary : ℕ → ℕ → Expr → Type 0
BuildsPrimary b d e = Builds b d (part s.Primary) expr_of e (expr_nestings e)

pub set_of_one : (b : ℕ) {d : ℕ} (place : Place) {e : Expr} → BuildsExpr b d e → BuildsPrimary b (suc d) (expr.SetOf place (e ∷ []))
set_of_one b place u = record {
  tree = node s.Primary (node s.Curly (pair (mark_at place LeftBrace) (pair u.tree (pair none (mark RightBrace)))));
  built = is.part (is.right (is.right (is.right (is.right (is.right (is.left (is.deeper (refl, refl) (is.part (is.both (is.word refl)
      (is.both u.built (is.both is.never (is.word refl))))))))))));
  shown = ap (λ e. expr.SetOf place (e ∷ [])) u.shown;
  nests = ap bracketed (u.nests ∙ sym (append-nil _)) ∙ sym (expr-SetOf place _);
}

pub set_of_more : (b : ℕ) {d : ℕ} (place : Place) {e f : Expr} {es : List Expr} → BuildsExpr b d e
    → Builds b d (part s.Exprs) exprs_of (f ∷ es) (separated (map expr_nestings (f ∷ es))) → BuildsPrimary b (suc d) (expr.SetOf place (e ∷ f ∷ es))
set_of_more b place u v = record {
  tree = node s.Primary (node s.Curly (pair (mark_at place LeftBrace) (pair u.tree
      (pair (node s.Contents (node s.Others (pair (mark Comma) v.tree))) (mark RightBrace)))));
  built = is.part (is.right (is.right (is.right (is.right (is.right (is.left (is.deeper (refl, refl) (is.part (is.both (is.word refl)
      (is.both u.built (is.both (is.once (is.part (is.left (is.part (is.both (is.word refl) v.built))))) (is.word refl))))))))))));
  shown = λ i. expr.SetOf place (u.shown i ∷ v.shown i);
  nests = in_brackets (depths u.built) (outside ∷ depths v.built) ∙ (λ i. bracketed (u.nests i ++ outside ∷ v.nests i)) ∙ sym (expr-SetOf place _);
}

pub dict_of_entries : (b : ℕ) {d : ℕ} (place : Place) {key value : Expr} {es : List Entry} → BuildsExpr b d key → BuildsExpr b d value
    → Builds b d (many (part s.MoreEntry)) entries_of es (each_after (map entry_nestings es))
    → BuildsPrimary b (suc d) (expr.DictOf place (formed.entry key value ∷ es))
dict_of_entries b place u v w = record {
  tree = node s.Primary (node s.Curly (pair (mark_at place LeftBrace) (pair u.tree
      (pair (node s.Contents (node s.Entries (pair (mark Colon) (pair v.tree w.tree)))) (mark RightBrace)))));
  built = is.part (is.right (is.right (is.right (is.right (is.right (is.left (is.deeper (refl, refl) (is.part (is.both (is.word refl)
      (is.both u.built (is.both (is.once (is.part (is.right (is.part (is.both (is.word refl) (is.both v.built w.built)))))) (is.word refl))))))))))));
  shown = λ i. expr.DictOf place (formed.entry (u.shown i) (v.shown i) ∷ w.shown i);
  nests = in_brackets (depths u.built) (outside ∷ depths v.built ++ depths w.built)
      ∙ (λ i. bracketed (u.nests i ++ (outside ∷ v.nests i ++ w.nests i))) ∙ entries_in _ _ _ ∙ sym (expr-DictOf place _);
}

pub empty_list : (b : ℕ) {d : ℕ} (place : Place) {t : TypeTree} → BuildsType b (suc d) t → BuildsPrimary b (suc d) (expr.EmptyList place t)
empty_list b place u = record {
  tree = node s.Primary (node s.Blank (pair (mark_at place Less) (pair u.tree
      (node s.BlankEnd (pair (mark Greater) (node s.BlankItems (pair (mark LeftBracket) (mark RightBracket))))))));
  built = is.part (is.right (is.right (is.right (is.right (is.right (is.right (is.part (is.both (is.word refl) (is.both u.built
      (is.part (is.left (is.both (is.word refl) (is.left (is.deeper (refl, refl) (is.part (is.both (is.word refl) (is.word refl)))))))))))))))));
  shown = ap (λ t. expr.EmptyList place t) u.shown;
  nests = ap (λ ns. outside ∷ ns ++ outside ∷ bracketed []) u.nests ∙ sym (expr-EmptyList place _);
}

pub empty_set : (b : ℕ) {d : ℕ} (place : Place) {t : TypeTree} → BuildsType b (suc d) t → BuildsPrimary b (suc d) (expr.EmptySet place t)
empty_set b place u = record {
  tree = node s.Primary (node s.Blank (pair (mark_at place Less) (pair u.tree
      (node s.BlankEnd (pair (mark Greater) (node s.BlankElements (pair (mark LeftBrace) (mark RightBrace))))))));
  built = is.part (is.right (is.right (is.right (is.right (is.right (is.right (is.part (is.both (is.word refl) (is.both u.built
      (is.part (is.left (is.both (is.word refl) (is.right (is.deeper (refl, refl) (is.part (is.both (is.word refl) (is.word refl)))))))))))))))));
  shown = ap (λ t. expr.EmptySet place t) u.shown;
  nests = ap (λ ns. outside ∷ ns ++ outside ∷ bracketed []) u.nests ∙ sym (expr-EmptySet place _);
}

pub empty_dict : (b : ℕ) {d : ℕ} (place : Place) {key value : TypeTree} → BuildsType b (suc d) key → BuildsType b (suc d) value
    → BuildsPrimary b (suc d) (expr.EmptyDict place key value)
empty_dict b place u v = record {
  tree = node s.Primary (node s.Blank (pair (mark_at place Less) (pair u.tree
      (node s.BlankEnd (pair (mark Colon) (pair v.tree (pair (mark Greater) (node s.BlankElements (pair (mark LeftBrace) (mark RightBrace))))))))));
  built = is.part (is.right (is.right (is.right (is.right (is.right (is.right (is.part (is.both (is.word refl) (is.both u.built
      (is.part (is.right (is.both (is.word refl) (is.both v.built (is.both (is.word refl)
      (is.deeper (refl, refl) (is.part (is.both (is.word refl) (is.word refl))))))))))))))))));
  shown = λ i. expr.EmptyDict place (u.shown i) (v.shown i);
  nests = (λ i. outside ∷ u.nests i ++ (outside ∷ v.nests i ++ outside ∷ bracketed [])) ∙ sym (expr-EmptyDict place _ _);
}
