-- A formed expression or type is what the grammar builds of some tokens, which have the places that the tree keeps.
use Rattle.std.proofs.Common.{ℕ, suc, true, false, List, [], ◌∷◌, ◌++◌, Option, Some, None, map, refl, ap, sym, ◌∙◌, append-nil}
use Rattle.chi_grammar.specs.Rules.{leaf, node, pair, none, part, ◌▸◌, maybe, many}
use Rattle.chi_grammar.specs.Trees as is
use Rattle.chi_token.specs.declared.keyword.Keyword.TheVariants.{AndWord, ChanWord, DictWord, DistWord, ListWord, NotWord, OrWord, SetWord, TimeWord, TupleWord, VoidWord}
use Rattle.chi_token.specs.declared.sign.Sign.TheVariants.{LeftParen, RightParen, LeftBracket, RightBracket, Caret, Colon, Comma, Dot, Semicolon}
use Rattle.chi_token.specs.declared.token.Token.TheVariants as token
use Rattle.chi_tree.specs.declared.operator.Operator.TheVariants as operator
use Rattle.chi_tree.specs.declared.operator.PrefixSign.TheVariants as prefix
use Rattle.chi_tree.specs.declared.type_tree.TypeTree.{TypeTree}
use Rattle.chi_tree.specs.declared.type_tree.TypeTree.TheVariants as type
use Rattle.chi_tree.specs.declared.type_tree.Formal.{Formal}
use Rattle.chi_tree.specs.declared.expr.Expr.{Expr}
use Rattle.chi_tree.specs.declared.expr.Expr.TheVariants as expr
use Rattle.chi_tree.specs.declared.expr.Link.{Link}
use Rattle.chi_tree.specs.declared.expr.Entry.{Entry}
use Rattle.chi_tree.specs.declared.expr.Postfix.{Postfix}
use Rattle.chi_tree.specs.declared.expr.Postfix.TheVariants as postfix
use Rattle.chi_tree.specs.Parts as s
use Rattle.chi_tree.specs.Rules.{sign}
use Rattle.chi_tree.specs.View.{nowhere, way_in, chained, parted, type_of, formals_of, more_formals_of, expr_of, links_of, postfixes_of, postfix_of, exprs_of, more_exprs_of, entries_of}
use Rattle.chi_tree_spell.specs.Words.{operator_token, relation_token, prefix_token, cast_token, type_token}
use Rattle.chi_tree_laws.specs.Levels.{Level}
use Rattle.chi_tree_laws.specs.Expressions.{FormedType, FormedFormals, MoreFormals, FormedExpr, FormedLinks, FormedPostfix, FormedPostfixes, FormedIfAny, FormedExprs, FormedEntries}
use Rattle.chi_tree_laws.specs.Expressions as formed
use Rattle.chi_tree_laws.specs.Nestings.{outside, in_level, bracketed, all, each_after, separated}
use Rattle.chi_tree_laws.specs.ExprNestings.{fields, expr_nestings, postfix_nestings, type_nestings, entry_nestings, link_nestings, declared}
use Rattle.chi_tree_laws.proofs.Depths.{depths, one-depths}
use Rattle.chi_tree_laws.proofs.ExprNestingsIn.{type-Word, type-Defined, type-List, type-Set, type-Dist, type-Dict, type-Tuple, type-Chan, expr-Prefix, expr-Relation, expr-Power, expr-Int, expr-Real, expr-Text, expr-Time, expr-Named, expr-Call, expr-Cast, expr-Round, expr-TupleOf, expr-ListOf, postfix-Index, postfix-Field, chained-in, parted-in, in_brackets, linked, entered, more_fields, fields-first, field-bare, field-typed}
use Rattle.chi_tree_laws.proofs.BracesBuilt.{set_of_one, set_of_more, dict_of_entries, empty_list, empty_set, empty_dict}
use Rattle.chi_tree_laws.proofs.Leaves.{levels, at, mark, mark_at, word_at, name_leaf, Builds, sum_is, product_is, operator_back, relation_is, relation_back, prefix_is, prefix_back, cast_is, cast_back, type_word_is, type_word_back, way_tree, way_is, way_nests, way_back, level_part, link_part, IfAny, if_tree, if_built, if_nests, if_shown, truth_built, carried_is, slice_built, left_out, given}

mutual
  pub build_type : (b : ℕ) {d : ℕ} {t : TypeTree} → FormedType d t → Builds b d (part s.AnyType) type_of t (type_nestings t)
  build_type b (formed.word {word = w} {place = place}) = record {
    tree = node s.AnyType (node s.BuiltType (node s.WordType (leaf (at place (type_token w)))));
    built = is.part (is.left (is.part (is.left (is.part (type_word_is w place)))));
    shown = ap (λ w. type.Word w place) (type_word_back w);
    nests = one-depths refl (type_word_is w place) ∙ sym (type-Word w place);
  }
  build_type b (formed.named {name = n}) = record {
    tree = node s.AnyType (node s.NamedType (name_leaf n));
    built = is.part (is.right (is.part (is.word refl)));
    shown = refl;
    nests = sym (type-Defined n);
  }
  build_type b (formed.list {place = place} p) = let u = build_type b p in record {
    tree = node s.AnyType (node s.BuiltType (node s.ListType (pair (word_at place ListWord) (pair none u.tree))));
    built = is.part (is.left (is.part (is.right (is.left (is.part (is.both (is.word refl) (is.both is.never (is.deeper (refl, refl) u.built))))))));
    shown = ap (λ t. type.List place None t) u.shown;
    nests = ap (λ ns. outside ∷ in_level ns) u.nests ∙ sym (type-List place None _);
  }
  build_type b (formed.sized_list {place = place} e p) = let u = build_type b p in let size = build_expr b e in record {
    tree = node s.AnyType (node s.BuiltType (node s.ListType (pair (word_at place ListWord) (pair (pair (mark LeftParen) (pair size.tree (mark RightParen))) u.tree))));
    built = is.part (is.left (is.part (is.right (is.left (is.part (is.both (is.word refl)
        (is.both (is.once (is.deeper (refl, refl) (is.both (is.word refl) (is.both size.built (is.word refl))))) (is.deeper (refl, refl) u.built))))))));
    shown = λ i. type.List place (Some (size.shown i)) (u.shown i);
    nests = (λ i. outside ∷ bracketed (size.nests i) ++ in_level (u.nests i)) ∙ sym (type-List place (Some _) _);
  }
  build_type b (formed.set {place = place} p) = let u = build_type b p in record {
    tree = node s.AnyType (node s.BuiltType (node s.SetType (pair (word_at place SetWord) u.tree)));
    built = is.part (is.left (is.part (is.right (is.right (is.left (is.part (is.both (is.word refl) (is.deeper (refl, refl) u.built))))))));
    shown = ap (λ t. type.Set place t) u.shown;
    nests = ap (λ ns. outside ∷ in_level ns) u.nests ∙ sym (type-Set place _);
  }
  build_type b (formed.dist {place = place} p) = let u = build_type b p in record {
    tree = node s.AnyType (node s.BuiltType (node s.DistType (pair (word_at place DistWord) u.tree)));
    built = is.part (is.left (is.part (is.right (is.right (is.right (is.left (is.part (is.both (is.word refl) (is.deeper (refl, refl) u.built)))))))));
    shown = ap (λ t. type.Dist place t) u.shown;
    nests = ap (λ ns. outside ∷ in_level ns) u.nests ∙ sym (type-Dist place _);
  }
  build_type b (formed.dict {place = place} p q) = let u = build_type b p in let v = build_type b q in record {
    tree = node s.AnyType (node s.BuiltType (node s.DictType (pair (word_at place DictWord)
        (pair (mark LeftParen) (pair u.tree (pair (mark Colon) (pair v.tree (mark RightParen))))))));
    built = is.part (is.left (is.part (is.right (is.right (is.right (is.right (is.left (is.part (is.both (is.word refl)
        (is.deeper (refl, refl) (is.both (is.word refl) (is.both (is.deeper (refl, refl) u.built)
        (is.both (is.word refl) (is.both (is.deeper (refl, refl) v.built) (is.word refl)))))))))))))));
    shown = λ i. type.Dict place (u.shown i) (v.shown i);
    nests = ap (λ ns. outside ∷ ns) (in_brackets (in_level (depths u.built)) (outside ∷ in_level (depths v.built)))
        ∙ (λ i. outside ∷ bracketed (in_level (u.nests i) ++ outside ∷ in_level (v.nests i))) ∙ sym (type-Dict place _ _);
  }
  build_type b (formed.tuple {place = place} p) = let u = build_fields b p in record {
    tree = node s.AnyType (node s.BuiltType (node s.TupleType (pair (word_at place TupleWord) (pair (mark LeftParen) (pair u.tree (mark RightParen))))));
    built = is.part (is.left (is.part (is.right (is.right (is.right (is.right (is.right (is.left (is.part (is.both (is.word refl)
        (is.deeper (refl, refl) (is.both (is.word refl) (is.both u.built (is.word refl))))))))))))));
    shown = ap (λ fs. type.Tuple place fs) u.shown;
    nests = ap (λ ns. outside ∷ bracketed ns) u.nests ∙ sym (type-Tuple place _);
  }
  build_type b (formed.void {place = place} {way = way}) = record {
    tree = node s.AnyType (node s.BuiltType (node s.ChanType (pair (word_at place ChanWord) (pair (way_tree way) (node s.Carried (word_at nowhere VoidWord))))));
    built = is.part (is.left (is.part (is.right (is.right (is.right (is.right (is.right (is.right (is.part (is.both (is.word refl)
        (is.both (way_is way) (is.part (is.left (is.word refl))))))))))))));
    shown = ap (λ w. type.Chan place w None) (way_back way);
    nests = ap (λ ns. outside ∷ ns ++ outside ∷ []) (way_nests _ way) ∙ sym (type-Chan place way None);
  }
  build_type b (formed.chan {d = d} {place = place} {way = way} p) = let u = build_type b p in record {
    tree = node s.AnyType (node s.BuiltType (node s.ChanType (pair (word_at place ChanWord) (pair (way_tree way) (node s.Carried u.tree)))));
    built = is.part (is.left (is.part (is.right (is.right (is.right (is.right (is.right (is.right (is.part (is.both (is.word refl)
        (is.both (way_is way) (is.part (is.right (is.deeper (refl, refl) u.built))))))))))))));
    shown = ap (λ c. type.Chan place (way_in (way_tree way)) c) (carried_is u.built) ∙ (λ i. type.Chan place (way_back way i) (Some (u.shown i)));
    nests = (λ i. outside ∷ way_nests (levels b (suc d)) way i ++ in_level (u.nests i)) ∙ sym (type-Chan place way (Some _));
  }

  build_fields : (b : ℕ) {d : ℕ} {first second : Formal} {more : List Formal} → FormedFormals d (first ∷ second ∷ more)
      → Builds b (suc d) (part s.Fields) formals_of (first ∷ second ∷ more) (fields (map declared (first ∷ second ∷ more)))
  build_fields b (formed.formals {name = n} p (formed.comma {name = m} {more = fs} q)) = let u = build_type b p in let v = build_more_fields b q in record {
    tree = node s.Fields (pair u.tree (pair (name_leaf n) (pair (node s.MoreField (pair (mark Comma) (name_leaf m))) v.tree)));
    built = is.part (is.both (is.deeper (refl, refl) u.built) (is.both (is.word refl)
        (is.both (is.part (is.left (is.both (is.word refl) (is.word refl)))) v.built)));
    shown = λ i. formed.formal (Some (u.shown i)) n ∷ formed.formal None m ∷ v.shown i;
    nests = (λ i. in_level (u.nests i) ++ outside ∷ (field-bare m i ++ v.nests i)) ∙ sym (fields-first _ n (formed.formal None m ∷ fs));
  }
  build_fields b (formed.formals {name = n} p (formed.semicolon {t = ty} {name = m} {more = fs} r q)) =
      let u = build_type b p in let v = build_more_fields b q in let w = build_type b r in record {
        tree = node s.Fields (pair u.tree (pair (name_leaf n) (pair (node s.MoreField (pair (mark Semicolon) (pair w.tree (name_leaf m)))) v.tree)));
        built = is.part (is.both (is.deeper (refl, refl) u.built) (is.both (is.word refl)
            (is.both (is.part (is.right (is.both (is.word refl) (is.both (is.deeper (refl, refl) w.built) (is.word refl))))) v.built)));
        shown = λ i. formed.formal (Some (u.shown i)) n ∷ formed.formal (Some (w.shown i)) m ∷ v.shown i;
        nests = let x = field-typed _ m _ w.nests in (λ i. in_level (u.nests i) ++ outside ∷ (x i ++ v.nests i)) ∙ sym (fields-first _ n (formed.formal (Some ty) m ∷ fs));
      }

  build_more_fields : (b : ℕ) {d : ℕ} {fs : List Formal} → MoreFormals d fs → Builds b (suc d) (many (part s.MoreField)) more_formals_of fs (more_fields fs)
  build_more_fields b formed.no_more = record { tree = none; built = is.enough; shown = refl; nests = refl }
  build_more_fields b (formed.comma {name = n} q) = let v = build_more_fields b q in record {
    tree = pair (node s.MoreField (pair (mark Comma) (name_leaf n))) v.tree;
    built = is.more (is.part (is.left (is.both (is.word refl) (is.word refl)))) v.built;
    shown = ap (λ fs. formed.formal None n ∷ fs) v.shown;
    nests = λ i. field-bare n i ++ v.nests i;
  }
  build_more_fields b (formed.semicolon {name = n} p q) = let u = build_type b p in let v = build_more_fields b q in record {
    tree = pair (node s.MoreField (pair (mark Semicolon) (pair u.tree (name_leaf n)))) v.tree;
    built = is.more (is.part (is.right (is.both (is.word refl) (is.both (is.deeper (refl, refl) u.built) (is.word refl))))) v.built;
    shown = λ i. formed.formal (Some (u.shown i)) n ∷ v.shown i;
    nests = let x = field-typed _ n _ u.nests in (λ i. x i ++ v.nests i);
  }

  pub build_expr : (b : ℕ) {level : Level} {d : ℕ} {e : Expr} → FormedExpr level d e → Builds b d (part (level_part level)) expr_of e (expr_nestings e)
  build_expr b (formed.disjunction p ls) = let u = build_expr b p in let v = build_links b ls in record {
    tree = node s.Expr (pair u.tree v.tree);
    built = is.part (is.both u.built v.built);
    shown = λ i. chained (u.shown i) (v.shown i);
    nests = (λ i. u.nests i ++ v.nests i) ∙ sym (chained-in _ _);
  }
  build_expr b (formed.conjunction p ls) = let u = build_expr b p in let v = build_links b ls in record {
    tree = node s.Conj (pair u.tree v.tree);
    built = is.part (is.both u.built v.built);
    shown = λ i. chained (u.shown i) (v.shown i);
    nests = (λ i. u.nests i ++ v.nests i) ∙ sym (chained-in _ _);
  }
  build_expr b (formed.negation {place = place} p) = let u = build_expr b p in record {
    tree = node s.Neg (node s.NotNeg (pair (word_at place NotWord) u.tree));
    built = is.part (is.left (is.deeper (refl, refl) (is.part (is.both (is.word refl) u.built))));
    shown = ap (λ e. expr.Prefix prefix.Not place e) u.shown;
    nests = ap (λ ns. in_level (outside ∷ ns)) u.nests ∙ sym (expr-Prefix prefix.Not place _);
  }
  build_expr b (formed.no_negation p) = let u = build_expr b p in record {
    tree = node s.Neg u.tree;
    built = is.part (is.right u.built);
    shown = u.shown;
    nests = u.nests;
  }
  build_expr b (formed.relation {sign = o} {place = place} p q) = let u = build_expr b p in let v = build_expr b q in record {
    tree = node s.Rel (pair u.tree (node s.RelLink (pair (leaf (at place (relation_token o))) v.tree)));
    built = is.part (is.both u.built (is.once (is.part (is.both (relation_is o place) v.built))));
    shown = λ i. expr.Relation (u.shown i) (relation_back o i) place (v.shown i);
    nests = let x = one-depths refl (relation_is {room = levels b _} o place) in (λ i. u.nests i ++ (x i ++ v.nests i)) ∙ sym (expr-Relation _ o place _);
  }
  build_expr b (formed.no_relation p) = let u = build_expr b p in record {
    tree = node s.Rel (pair u.tree none);
    built = is.part (is.both u.built is.never);
    shown = u.shown;
    nests = append-nil _ ∙ u.nests;
  }
  build_expr b (formed.sum p ls) = let u = build_expr b p in let v = build_links b ls in record {
    tree = node s.Sum (pair u.tree v.tree);
    built = is.part (is.both u.built v.built);
    shown = λ i. chained (u.shown i) (v.shown i);
    nests = (λ i. u.nests i ++ v.nests i) ∙ sym (chained-in _ _);
  }
  build_expr b (formed.product p ls) = let u = build_expr b p in let v = build_links b ls in record {
    tree = node s.Prod (pair u.tree v.tree);
    built = is.part (is.both u.built v.built);
    shown = λ i. chained (u.shown i) (v.shown i);
    nests = (λ i. u.nests i ++ v.nests i) ∙ sym (chained-in _ _);
  }
  build_expr b (formed.prefixed {sign = o} {place = place} e p) = let u = build_expr b p in record {
    tree = node s.Unary (node s.Prefixed (pair (leaf (at place (prefix_token o))) u.tree));
    built = is.part (is.left (is.deeper (refl, refl) (is.part (is.both (prefix_is o place e) u.built))));
    shown = λ i. expr.Prefix (prefix_back o i) place (u.shown i);
    nests = let x = one-depths refl (prefix_is {room = levels b _} o place e) in (λ i. in_level (x i ++ u.nests i)) ∙ sym (expr-Prefix o place _);
  }
  build_expr b (formed.no_prefix p) = let u = build_expr b p in record {
    tree = node s.Unary u.tree;
    built = is.part (is.right u.built);
    shown = u.shown;
    nests = u.nests;
  }
  build_expr b (formed.power {place = place} p q) = let u = build_expr b p in let v = build_expr b q in record {
    tree = node s.Power (pair u.tree (node s.PowerLink (pair (mark_at place Caret) v.tree)));
    built = is.part (is.both u.built (is.once (is.part (is.both (is.word refl) (is.deeper (refl, refl) v.built)))));
    shown = λ i. expr.Power (u.shown i) place (v.shown i);
    nests = (λ i. u.nests i ++ outside ∷ in_level (v.nests i)) ∙ sym (expr-Power _ place _);
  }
  build_expr b (formed.no_power p) = let u = build_expr b p in record {
    tree = node s.Power (pair u.tree none);
    built = is.part (is.both u.built is.never);
    shown = u.shown;
    nests = append-nil _ ∙ u.nests;
  }
  build_expr b (formed.post p ps) = let u = build_expr b p in let v = build_postfixes b ps in record {
    tree = node s.Post (pair u.tree v.tree);
    built = is.part (is.both u.built v.built);
    shown = λ i. parted (u.shown i) (v.shown i);
    nests = (λ i. u.nests i ++ v.nests i) ∙ sym (parted-in _ _);
  }
  build_expr b (formed.int {digits = digits} {place = place}) = record {
    tree = node s.Primary (node s.Literal (leaf (at place (token.Int digits))));
    built = is.part (is.left (is.part (is.left (is.word refl))));
    shown = refl;
    nests = sym (expr-Int digits place);
  }
  build_expr b (formed.real {digits = digits} {place = place}) = record {
    tree = node s.Primary (node s.Literal (leaf (at place (token.Real digits))));
    built = is.part (is.left (is.part (is.right (is.left (is.word refl)))));
    shown = refl;
    nests = sym (expr-Real digits place);
  }
  build_expr b (formed.text {text = text} {place = place}) = record {
    tree = node s.Primary (node s.Literal (leaf (at place (token.Text text))));
    built = is.part (is.left (is.part (is.right (is.right (is.left (is.word refl))))));
    shown = refl;
    nests = sym (expr-Text text place);
  }
  build_expr b (formed.bool {truth = truth} {place = place}) = truth_built b _ truth place
  build_expr b (formed.time {place = place}) = record {
    tree = node s.Primary (node s.Literal (word_at place TimeWord));
    built = is.part (is.left (is.part (is.right (is.right (is.right (is.right (is.right (is.word refl))))))));
    shown = refl;
    nests = sym (expr-Time place);
  }
  build_expr b (formed.name {name = n}) = record {
    tree = node s.Primary (node s.Named (pair (name_leaf n) none));
    built = is.part (is.right (is.left (is.part (is.both (is.word refl) is.never))));
    shown = refl;
    nests = sym (expr-Named n);
  }
  build_expr b (formed.call {name = n} p) = let u = build_exprs_if b p in record {
    tree = node s.Primary (node s.Named (pair (name_leaf n) (node s.Arguments (pair (mark LeftParen) (pair u.tree (mark RightParen))))));
    built = is.part (is.right (is.left (is.part (is.both (is.word refl)
        (is.once (is.part (is.deeper (refl, refl) (is.both (is.word refl) (is.both u.built (is.word refl))))))))));
    shown = ap (λ es. expr.Call n es) u.shown;
    nests = ap (λ ns. outside ∷ bracketed ns) u.nests ∙ sym (expr-Call n _);
  }
  build_expr b (formed.cast {word = w} {place = place} p) = let u = build_expr b p in record {
    tree = node s.Primary (node s.Cast (pair (leaf (at place (cast_token w))) (pair (mark LeftParen) (pair u.tree (mark RightParen)))));
    built = is.part (is.right (is.right (is.left (is.part (is.both (cast_is w place)
        (is.deeper (refl, refl) (is.both (is.word refl) (is.both u.built (is.word refl)))))))));
    shown = λ i. expr.Cast (cast_back w i) place (u.shown i);
    nests = let x = one-depths refl (cast_is {room = levels b _} w place) in (λ i. x i ++ bracketed (u.nests i)) ∙ sym (expr-Cast w place _);
  }
  build_expr b (formed.round {place = place} p) = let u = build_expr b p in record {
    tree = node s.Primary (node s.Round (pair (mark_at place LeftParen) (pair u.tree (pair none (mark RightParen)))));
    built = is.part (is.right (is.right (is.right (is.left (is.deeper (refl, refl) (is.part (is.both (is.word refl) (is.both u.built
        (is.both is.never (is.word refl))))))))));
    shown = ap (λ e. expr.Round place e) u.shown;
    nests = ap bracketed u.nests ∙ sym (expr-Round place _);
  }
  build_expr b (formed.tuple_of {place = place} (formed.exprs p ps)) = let u = build_expr b p in let v = build_exprs b ps in record {
    tree = node s.Primary (node s.Round (pair (mark_at place LeftParen) (pair u.tree (pair (node s.Others (pair (mark Comma) v.tree)) (mark RightParen)))));
    built = is.part (is.right (is.right (is.right (is.left (is.deeper (refl, refl) (is.part (is.both (is.word refl) (is.both u.built
        (is.both (is.once (is.part (is.both (is.word refl) v.built))) (is.word refl))))))))));
    shown = λ i. expr.TupleOf place (u.shown i ∷ v.shown i);
    nests = in_brackets (depths u.built) (outside ∷ depths v.built) ∙ (λ i. bracketed (u.nests i ++ outside ∷ v.nests i)) ∙ sym (expr-TupleOf place _);
  }
  build_expr b (formed.list_of {place = place} ps) = let v = build_exprs b ps in record {
    tree = node s.Primary (node s.Square (pair (mark_at place LeftBracket) (pair v.tree (mark RightBracket))));
    built = is.part (is.right (is.right (is.right (is.right (is.left (is.deeper (refl, refl) (is.part (is.both (is.word refl)
        (is.both v.built (is.word refl))))))))));
    shown = ap (λ es. expr.ListOf place es) v.shown;
    nests = ap bracketed v.nests ∙ sym (expr-ListOf place _);
  }
  build_expr b (formed.set_of {place = place} (formed.exprs p formed.no_exprs)) = set_of_one b place (build_expr b p)
  build_expr b (formed.set_of {place = place} (formed.exprs p (formed.exprs q qs))) = set_of_more b place (build_expr b p) (build_exprs b (formed.exprs q qs))
  build_expr b (formed.dict_of {place = place} (formed.entries p q es)) = dict_of_entries b place (build_expr b p) (build_expr b q) (build_entries b es)
  build_expr b (formed.empty_list {place = place} p) = empty_list b place (build_type b p)
  build_expr b (formed.empty_set {place = place} p) = empty_set b place (build_type b p)
  build_expr b (formed.empty_dict {place = place} p q) = empty_dict b place (build_type b p) (build_type b q)

  build_links : (b : ℕ) {level : Level} {d : ℕ} {ls : List Link} → FormedLinks level d ls → Builds b d (many (part (link_part level))) links_of ls (all (map link_nestings ls))
  build_links b formed.no_links = record { tree = none; built = is.enough; shown = refl; nests = refl }
  build_links b (formed.or_link {place = place} p ls) = let u = build_expr b p in let v = build_links b ls in record {
    tree = pair (node s.OrLink (pair (word_at place OrWord) u.tree)) v.tree;
    built = is.more (is.part (is.both (is.word refl) u.built)) v.built;
    shown = λ i. formed.link operator.Or place (u.shown i) ∷ v.shown i;
    nests = let x = linked (formed.link operator.Or place _) _ _ refl u.nests in (λ i. x i ++ v.nests i);
  }
  build_links b (formed.and_link {place = place} p ls) = let u = build_expr b p in let v = build_links b ls in record {
    tree = pair (node s.AndLink (pair (word_at place AndWord) u.tree)) v.tree;
    built = is.more (is.part (is.both (is.word refl) u.built)) v.built;
    shown = λ i. formed.link operator.And place (u.shown i) ∷ v.shown i;
    nests = let x = linked (formed.link operator.And place _) _ _ refl u.nests in (λ i. x i ++ v.nests i);
  }
  build_links b (formed.sum_link {operator = o} {place = place} e p ls) = let u = build_expr b p in let v = build_links b ls in record {
    tree = pair (node s.SumLink (pair (leaf (at place (operator_token o))) u.tree)) v.tree;
    built = is.more (is.part (is.both (sum_is o place e) u.built)) v.built;
    shown = λ i. formed.link (operator_back o i) place (u.shown i) ∷ v.shown i;
    nests = let x = linked (formed.link o place _) _ _ (one-depths refl (sum_is {room = levels b _} o place e)) u.nests in (λ i. x i ++ v.nests i);
  }
  build_links b (formed.product_link {operator = o} {place = place} e p ls) = let u = build_expr b p in let v = build_links b ls in record {
    tree = pair (node s.ProdLink (pair (leaf (at place (operator_token o))) u.tree)) v.tree;
    built = is.more (is.part (is.both (product_is o place e) u.built)) v.built;
    shown = λ i. formed.link (operator_back o i) place (u.shown i) ∷ v.shown i;
    nests = let x = linked (formed.link o place _) _ _ (one-depths refl (product_is {room = levels b _} o place e)) u.nests in (λ i. x i ++ v.nests i);
  }

  build_postfixes : (b : ℕ) {d : ℕ} {ps : List Postfix} → FormedPostfixes d ps → Builds b d (many (part s.Postfix)) postfixes_of ps (all (map postfix_nestings ps))
  build_postfixes b formed.no_postfixes = record { tree = none; built = is.enough; shown = refl; nests = refl }
  build_postfixes b (formed.postfixes p ps) = let u = build_postfix b p in let v = build_postfixes b ps in record {
    tree = pair u.tree v.tree;
    built = is.more u.built v.built;
    shown = λ i. u.shown i ∷ v.shown i;
    nests = λ i. u.nests i ++ v.nests i;
  }

  build_postfix : (b : ℕ) {d : ℕ} {p : Postfix} → FormedPostfix d p → Builds b d (part s.Postfix) postfix_of p (postfix_nestings p)
  build_postfix b (formed.index {place = place} p) = let u = build_expr b p in record {
    tree = node s.Postfix (node s.Bracket (pair (mark_at place LeftBracket) (pair (node s.Inside (pair u.tree none)) (mark RightBracket))));
    built = is.part (is.left (is.deeper (refl, refl) (is.part (is.both (is.word refl)
        (is.both (is.part (is.left (is.both u.built is.never))) (is.word refl))))));
    shown = ap (λ e. postfix.Index place e) u.shown;
    nests = ap bracketed (append-nil _ ∙ u.nests) ∙ sym (postfix-Index place _);
  }
  build_postfix b (formed.slice {place = place} p q) = slice_built place false None none (build_if b p) (build_if b q) is.never (λ a c. refl) refl
  build_postfix b (formed.slice_by {place = place} p q r) = let u = build_if b r in
      slice_built place true _ (node s.ByStep (pair (mark Colon) (if_tree u))) (build_if b p) (build_if b q)
      (is.once (is.part (is.both (is.word refl) (if_built u)))) (λ a c. ap (λ by. postfix.Slice place a c true by) (if_shown u))
      (ap (λ ns. outside ∷ ns) (if_nests u))
  build_postfix b (formed.field {name = n}) = record {
    tree = node s.Postfix (node s.Field (pair (mark Dot) (name_leaf n)));
    built = is.part (is.right (is.part (is.both (is.word refl) (is.word refl))));
    shown = refl;
    nests = sym (postfix-Field n);
  }

  pub build_if : (b : ℕ) {d : ℕ} {e : Option Expr} → FormedIfAny d e → IfAny b d e
  build_if b formed.left_out = left_out
  build_if b (formed.given p) = given (build_expr b p)

  pub build_exprs : (b : ℕ) {d : ℕ} {e : Expr} {es : List Expr} → FormedExprs d (e ∷ es) → Builds b d (part s.Exprs) exprs_of (e ∷ es) (separated (map expr_nestings (e ∷ es)))
  build_exprs b (formed.exprs p ps) = let u = build_expr b p in let v = build_more_exprs b ps in record {
    tree = node s.Exprs (pair u.tree v.tree);
    built = is.part (is.both u.built v.built);
    shown = λ i. u.shown i ∷ v.shown i;
    nests = λ i. u.nests i ++ v.nests i;
  }

  pub build_exprs_if : (b : ℕ) {d : ℕ} {es : List Expr} → FormedExprs d es → Builds b d (maybe (part s.Exprs)) exprs_of es (separated (map expr_nestings es))
  build_exprs_if b formed.no_exprs = record { tree = none; built = is.never; shown = refl; nests = refl }
  build_exprs_if b (formed.exprs p ps) = let u = build_expr b p in let v = build_more_exprs b ps in record {
    tree = node s.Exprs (pair u.tree v.tree);
    built = is.once (is.part (is.both u.built v.built));
    shown = λ i. u.shown i ∷ v.shown i;
    nests = λ i. u.nests i ++ v.nests i;
  }

  pub build_more_exprs : (b : ℕ) {d : ℕ} {es : List Expr} → FormedExprs d es → Builds b d (many (sign Comma ▸ part s.Expr)) more_exprs_of es (each_after (map expr_nestings es))
  build_more_exprs b formed.no_exprs = record { tree = none; built = is.enough; shown = refl; nests = refl }
  build_more_exprs b (formed.exprs p ps) = let u = build_expr b p in let v = build_more_exprs b ps in record {
    tree = pair (pair (mark Comma) u.tree) v.tree;
    built = is.more (is.both (is.word refl) u.built) v.built;
    shown = λ i. u.shown i ∷ v.shown i;
    nests = λ i. outside ∷ u.nests i ++ v.nests i;
  }

  build_entries : (b : ℕ) {d : ℕ} {es : List Entry} → FormedEntries d es → Builds b d (many (part s.MoreEntry)) entries_of es (each_after (map entry_nestings es))
  build_entries b formed.no_entries = record { tree = none; built = is.enough; shown = refl; nests = refl }
  build_entries b (formed.entries p q es) = let u = build_expr b p in let v = build_expr b q in let w = build_entries b es in record {
    tree = pair (node s.MoreEntry (pair (mark Comma) (pair u.tree (pair (mark Colon) v.tree)))) w.tree;
    built = is.more (is.part (is.both (is.word refl) (is.both u.built (is.both (is.word refl) v.built)))) w.built;
    shown = λ i. formed.entry (u.shown i) (v.shown i) ∷ w.shown i;
    nests = let x = entered _ _ _ _ u.nests v.nests in (λ i. outside ∷ x i ++ w.nests i);
  }
