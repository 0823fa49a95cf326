-- What an expression or a type is shown as is read as the tokens of which it was built: part by part.
use Rattle.std.proofs.Common.{◌≡◌, List, [], ◌∷◌, ◌++◌, map, Bool, true, false, Option, Some, None, refl, ap, sym, ◌∙◌}
use Rattle.std.proofs.lemmas.List.{append_assoc, append-nil}
use Rattle.std.specs.Option.{option_map}
use Rattle.chi_grammar.specs.declared.room.Room.{Room}
use Rattle.chi_grammar.specs.Rules.{node, part, ◌▸◌, maybe, many}
use Rattle.chi_token.specs.declared.place.Place.{Place}
use Rattle.chi_token.specs.declared.keyword.Keyword.TheVariants.{DictWord}
use Rattle.chi_token.specs.declared.sign.Sign.TheVariants.{Colon, Comma, Greater, LeftBrace, LeftParen, Less, RightBrace, RightParen}
use Rattle.chi_token.specs.declared.token.Token.TheVariants.{Sign, Word}
use Rattle.chi_tree.specs.declared.type_tree.Name.{Name}
use Rattle.chi_tree.specs.declared.type_tree.TypeTree.{TypeTree}
use Rattle.chi_tree.specs.declared.type_tree.Formal.{Formal}
use Rattle.chi_tree.specs.declared.expr.Expr.{Expr}
use Rattle.chi_tree.specs.declared.expr.Expr.TheVariants as expr
use Rattle.chi_tree.specs.declared.expr.Postfix.TheVariants as postfix
use Rattle.chi_tree.specs.declared.expr.Entry.{Entry}
use Rattle.chi_tree.specs.declared.operator.PrefixSign.TheVariants as prefix
use Rattle.chi_tree.specs.Parts.{Part}
use Rattle.chi_tree.specs.Parts as s
use Rattle.chi_tree.specs.Rules.{rule_of, sign}
use Rattle.chi_tree.specs.View.{Built, place_in, optional, type_of, more_formals_of, formal_of, expr_of, links_of, postfixes_of, exprs_of, more_exprs_of, entries_of}
use Rattle.chi_tree_spell.specs.Words.{all, each_after}
use Rattle.chi_tree_spell.specs.Expressions.{bare, kept, put_name, put_commas, declared_formals, put_further, put_curly, square_at, curly_at, put_by, put_expr, put_link, put_postfix, put_entry, put_type, put_declared, put_formals}
use Rattle.chi_tree_spell.proofs.ExprTokens.{put_if, expr-Prefix, expr-Power, expr-Named, expr-Call, expr-Round, expr-TupleOf, expr-ListOf, expr-SetOf, expr-DictOf, expr-EmptyList, expr-EmptySet, expr-EmptyDict, postfix-Index, postfix-Field, postfix-Slice, type-Defined, type-List, type-Set, type-Dist, type-Dict, type-Tuple, type-Chan, entry-tokens, formal-bare, formal-typed}
use Rattle.chi_tree_spell.proofs.ExprWords.{chained_tokens, parted_tokens, linked, sum_link_tokens, product_link_tokens, relation_tokens, prefix_tokens, cast_tokens, word_type_tokens, literal_tokens, way_tokens_of}
use Rattle.chi_tree_spell.proofs.BuiltTokens.{Reading, Spells, beside, within, nothing, also, one, one_kept, exactly, exactly_kept, a_name}
use Rattle.chi_tree.proofs.Made as made
use Rattle.chi_tree_spell.proofs.ShownTokens.{Shown, M}

module _ (reading : Reading) where
  -- types

  pub any_type : {room : Room} {t : Built} → M reading room (rule_of s.AnyType) t → Shown reading room s.AnyType (node s.AnyType t)
  any_type (made.left (made.part p)) = within p
  any_type (made.right (made.part p)) = within p

  pub named_type : {room : Room} {t : Built} → M reading room (rule_of s.NamedType) t → Shown reading room s.NamedType (node s.NamedType t)
  named_type n = also (within (a_name n)) (sym (type-Defined reading.put _))

  pub built_type : {room : Room} {t : Built} → M reading room (rule_of s.BuiltType) t → Shown reading room s.BuiltType (node s.BuiltType t)
  built_type (made.left (made.part p)) = within p
  built_type (made.right (made.left (made.part p))) = within p
  built_type (made.right (made.right (made.left (made.part p)))) = within p
  built_type (made.right (made.right (made.right (made.left (made.part p))))) = within p
  built_type (made.right (made.right (made.right (made.right (made.left (made.part p)))))) = within p
  built_type (made.right (made.right (made.right (made.right (made.right (made.left (made.part p))))))) = within p
  built_type (made.right (made.right (made.right (made.right (made.right (made.right (made.part p))))))) = within p

  pub list_type : {room : Room} {t : Built} → M reading room (rule_of s.ListType) t → Shown reading room s.ListType (node s.ListType t)
  list_type (made.both w (made.both made.never (made.deeper i (made.part {t = t} p)))) =
      also (within (beside (one_kept w) (beside nothing p))) (sym (type-List reading.put _ None (type_of (node s.AnyType t))))
  list_type (made.both w (made.both (made.once (made.deeper i (made.both l (made.both (made.part {t = u} e) r)))) (made.deeper j (made.part {t = t} p)))) =
      also (within (beside (one_kept w) (beside (beside (one l) (beside e (one r))) p)))
      (sym (type-List reading.put _ (Some (expr_of (node s.Expr u))) (type_of (node s.AnyType t))))

  pub set_type : {room : Room} {t : Built} → M reading room (rule_of s.SetType) t → Shown reading room s.SetType (node s.SetType t)
  set_type (made.both w (made.deeper i (made.part p))) = also (within (beside (one_kept w) p)) (sym (type-Set reading.put _ _))

  pub dist_type : {room : Room} {t : Built} → M reading room (rule_of s.DistType) t → Shown reading room s.DistType (node s.DistType t)
  dist_type (made.both w (made.deeper i (made.part p))) = also (within (beside (one_kept w) p)) (sym (type-Dist reading.put _ _))

  pub dict_type : {room : Room} {t : Built} → M reading room (rule_of s.DictType) t → Shown reading room s.DictType (node s.DictType t)
  dict_type (made.both {t = w} f (made.deeper i (made.both l (made.both (made.deeper j (made.part {t = k} p)) (made.both c (made.both (made.deeper n (made.part {t = v} q)) r)))))) =
      also (within (beside (one_kept f) (beside (one l) (beside p (beside (one c) (beside q (one r)))))))
      (ap (λ ts. kept reading.put (Word DictWord) (place_in w) ∷ bare reading.put (Sign LeftParen) ∷ ts)
      (sym (append_assoc (put_type reading.put (type_of (node s.AnyType k))) (bare reading.put (Sign Colon) ∷ put_type reading.put (type_of (node s.AnyType v))) (bare reading.put (Sign RightParen) ∷ [])))
      ∙ sym (type-Dict reading.put (place_in w) (type_of (node s.AnyType k)) (type_of (node s.AnyType v))))

  pub tuple_type : {room : Room} {t : Built} → M reading room (rule_of s.TupleType) t → Shown reading room s.TupleType (node s.TupleType t)
  tuple_type (made.both w (made.deeper i (made.both l (made.both (made.part p) r)))) =
      also (within (beside (one_kept w) (beside (one l) (beside p (one r))))) (sym (type-Tuple reading.put _ _))

  pub chan_type : {room : Room} {t : Built} → M reading room (rule_of s.ChanType) t → Shown reading room s.ChanType (node s.ChanType t)
  chan_type (made.both w (made.both way (made.part p))) =
      also (within (beside (one_kept w) (beside (way_tokens_of reading way) p))) (sym (type-Chan reading.put _ _ _))

  pub carried : {room : Room} {t : Built} → M reading room (rule_of s.Carried) t → Shown reading room s.Carried (node s.Carried t)
  carried (made.left (made.word {x = x} e)) = within (exactly x e)
  carried (made.right (made.deeper i (made.part p))) = within p

  -- formals and fields

  more_formals_tokens : {room : Room} {t : Built} → M reading room (many (part s.MoreFormal)) t → Spells reading t (all (map (put_further reading.put) (map (put_declared reading.put) (more_formals_of t))))
  more_formals_tokens made.enough = nothing
  more_formals_tokens (made.more (made.part p) ps) = beside p (more_formals_tokens ps)

  more_fields_tokens : {room : Room} {t : Built} → M reading room (many (part s.MoreField)) t → Spells reading t (all (map (put_further reading.put) (map (put_declared reading.put) (more_formals_of t))))
  more_fields_tokens made.enough = nothing
  more_fields_tokens (made.more (made.part p) ps) = beside p (more_fields_tokens ps)

  first_formal : (t : TypeTree) (n : Name) (fs : List Formal)
      → put_type reading.put t ++ (put_name reading.put n ∷ all (map (put_further reading.put) (map (put_declared reading.put) fs))) ≡ put_formals reading.put (record { ty = Some t; name = n } ∷ fs)
  first_formal t n fs = ap (λ d. declared_formals reading.put (d ∷ map (put_declared reading.put) fs)) (sym (formal-typed reading.put t n))

  pub formals_shown : {room : Room} {t : Built} → M reading room (rule_of s.Formals) t → Shown reading room s.Formals (node s.Formals t)
  formals_shown (made.both (made.part p) (made.both n fs)) =
      also (within (beside p (beside (a_name n) (more_formals_tokens fs)))) (first_formal _ _ _)

  pub fields_shown : {room : Room} {t : Built} → M reading room (rule_of s.Fields) t → Shown reading room s.Fields (node s.Fields t)
  fields_shown (made.both (made.deeper i (made.part p)) (made.both n (made.both {u = fs} (made.part {t = f} q) qs))) =
      also (within (beside p (beside (a_name n) (beside q (more_fields_tokens qs)))))
      (first_formal _ _ (formal_of (node s.MoreField f) ∷ more_formals_of fs))

  pub more_formal : {room : Room} {t : Built} → M reading room (rule_of s.MoreFormal) t → Shown reading room s.MoreFormal (node s.MoreFormal t)
  more_formal (made.left (made.both c (made.word {x = x} e))) =
      also (within (beside (one c) (exactly_kept x e))) (ap (put_further reading.put) (sym (formal-bare reading.put _)))
  more_formal (made.right (made.both c (made.both (made.part p) n))) =
      also (within (beside (one c) (beside p (a_name n)))) (ap (put_further reading.put) (sym (formal-typed reading.put _ _)))

  pub more_field : {room : Room} {t : Built} → M reading room (rule_of s.MoreField) t → Shown reading room s.MoreField (node s.MoreField t)
  more_field (made.left (made.both c (made.word {x = x} e))) =
      also (within (beside (one c) (exactly_kept x e))) (ap (put_further reading.put) (sym (formal-bare reading.put _)))
  more_field (made.right (made.both c (made.both (made.deeper i (made.part p)) n))) =
      also (within (beside (one c) (beside p (a_name n)))) (ap (put_further reading.put) (sym (formal-typed reading.put _ _)))

  -- chains

  or_links : {room : Room} {t : Built} → M reading room (many (part s.OrLink)) t → Spells reading t (all (map (put_link reading.put) (links_of t)))
  or_links made.enough = nothing
  or_links (made.more (made.part p) ps) = beside p (or_links ps)

  and_links : {room : Room} {t : Built} → M reading room (many (part s.AndLink)) t → Spells reading t (all (map (put_link reading.put) (links_of t)))
  and_links made.enough = nothing
  and_links (made.more (made.part p) ps) = beside p (and_links ps)

  sum_links : {room : Room} {t : Built} → M reading room (many (part s.SumLink)) t → Spells reading t (all (map (put_link reading.put) (links_of t)))
  sum_links made.enough = nothing
  sum_links (made.more (made.part p) ps) = beside p (sum_links ps)

  prod_links : {room : Room} {t : Built} → M reading room (many (part s.ProdLink)) t → Spells reading t (all (map (put_link reading.put) (links_of t)))
  prod_links made.enough = nothing
  prod_links (made.more (made.part p) ps) = beside p (prod_links ps)

  pub expr_shown : {room : Room} {t : Built} → M reading room (rule_of s.Expr) t → Shown reading room s.Expr (node s.Expr t)
  expr_shown (made.both (made.part p) ls) = also (within (beside p (or_links ls))) (sym (chained_tokens reading _ _))

  pub or_link : {room : Room} {t : Built} → M reading room (rule_of s.OrLink) t → Shown reading room s.OrLink (node s.OrLink t)
  or_link (made.both (made.word {x = x} e) (made.part p)) = within (linked reading x e refl p)

  pub conj : {room : Room} {t : Built} → M reading room (rule_of s.Conj) t → Shown reading room s.Conj (node s.Conj t)
  conj (made.both (made.part p) ls) = also (within (beside p (and_links ls))) (sym (chained_tokens reading _ _))

  pub and_link : {room : Room} {t : Built} → M reading room (rule_of s.AndLink) t → Shown reading room s.AndLink (node s.AndLink t)
  and_link (made.both (made.word {x = x} e) (made.part p)) = within (linked reading x e refl p)

  pub neg : {room : Room} {t : Built} → M reading room (rule_of s.Neg) t → Shown reading room s.Neg (node s.Neg t)
  neg (made.left (made.deeper i (made.part p))) = within p
  neg (made.right (made.part p)) = within p

  pub not_neg : {room : Room} {t : Built} → M reading room (rule_of s.NotNeg) t → Shown reading room s.NotNeg (node s.NotNeg t)
  not_neg (made.both w (made.part p)) = also (within (beside (one_kept w) p)) (sym (expr-Prefix reading.put prefix.Not _ _))

  pub rel : {room : Room} {t : Built} → M reading room (rule_of s.Rel) t → Shown reading room s.Rel (node s.Rel t)
  rel (made.both (made.part p) made.never) = also (within (beside p nothing)) (append-nil _)
  rel (made.both (made.part p) (made.once (made.part q))) = within (q _ _ p)

  pub rel_link : {room : Room} {t : Built} → M reading room (rule_of s.RelLink) t → Shown reading room s.RelLink (node s.RelLink t)
  rel_link (made.both w (made.part q)) = λ e u p. relation_tokens reading e w p q

  pub sum : {room : Room} {t : Built} → M reading room (rule_of s.Sum) t → Shown reading room s.Sum (node s.Sum t)
  sum (made.both (made.part p) ls) = also (within (beside p (sum_links ls))) (sym (chained_tokens reading _ _))

  pub sum_link : {room : Room} {t : Built} → M reading room (rule_of s.SumLink) t → Shown reading room s.SumLink (node s.SumLink t)
  sum_link (made.both w (made.part p)) = within (sum_link_tokens reading w p)

  pub prod : {room : Room} {t : Built} → M reading room (rule_of s.Prod) t → Shown reading room s.Prod (node s.Prod t)
  prod (made.both (made.part p) ls) = also (within (beside p (prod_links ls))) (sym (chained_tokens reading _ _))

  pub prod_link : {room : Room} {t : Built} → M reading room (rule_of s.ProdLink) t → Shown reading room s.ProdLink (node s.ProdLink t)
  prod_link (made.both w (made.part p)) = within (product_link_tokens reading w p)

  pub unary : {room : Room} {t : Built} → M reading room (rule_of s.Unary) t → Shown reading room s.Unary (node s.Unary t)
  unary (made.left (made.deeper i (made.part p))) = within p
  unary (made.right (made.part p)) = within p

  pub prefixed : {room : Room} {t : Built} → M reading room (rule_of s.Prefixed) t → Shown reading room s.Prefixed (node s.Prefixed t)
  prefixed (made.both w (made.part p)) = prefix_tokens reading w p

  pub power : {room : Room} {t : Built} → M reading room (rule_of s.Power) t → Shown reading room s.Power (node s.Power t)
  power (made.both (made.part p) made.never) = also (within (beside p nothing)) (append-nil _)
  power (made.both (made.part p) (made.once (made.part q))) = within (q _ _ p)

  pub power_link : {room : Room} {t : Built} → M reading room (rule_of s.PowerLink) t → Shown reading room s.PowerLink (node s.PowerLink t)
  power_link (made.both w (made.deeper i (made.part q))) = λ e u p. also (beside p (within (beside (one_kept w) q))) (sym (expr-Power reading.put e _ _))

  -- parts of an expression

  postfixes : {room : Room} {t : Built} → M reading room (many (part s.Postfix)) t → Spells reading t (all (map (put_postfix reading.put) (postfixes_of t)))
  postfixes made.enough = nothing
  postfixes (made.more (made.part p) ps) = beside p (postfixes ps)

  pub target_steps : {room : Room} {t : Built} → M reading room (many (part s.TargetStep)) t → Spells reading t (all (map (put_postfix reading.put) (postfixes_of t)))
  target_steps made.enough = nothing
  target_steps (made.more (made.part p) ps) = beside p (target_steps ps)

  pub post : {room : Room} {t : Built} → M reading room (rule_of s.Post) t → Shown reading room s.Post (node s.Post t)
  post (made.both (made.part p) ps) = also (within (beside p (postfixes ps))) (sym (parted_tokens reading _ _))

  pub postfix_shown : {room : Room} {t : Built} → M reading room (rule_of s.Postfix) t → Shown reading room s.Postfix (node s.Postfix t)
  postfix_shown (made.left (made.deeper i (made.part p))) = within p
  postfix_shown (made.right (made.part p)) = within p

  pub target_step : {room : Room} {t : Built} → M reading room (rule_of s.TargetStep) t → Shown reading room s.TargetStep (node s.TargetStep t)
  target_step (made.left (made.deeper i (made.part p))) = within p
  target_step (made.right (made.part p)) = within p

  pub target_index : {room : Room} {t : Built} → M reading room (rule_of s.TargetIndex) t → Shown reading room s.TargetIndex (node s.TargetIndex t)
  target_index (made.both l (made.both (made.part p) r)) = also (within (beside (one_kept l) (beside p (one r)))) (sym (postfix-Index reading.put _ _))

  pub field : {room : Room} {t : Built} → M reading room (rule_of s.Field) t → Shown reading room s.Field (node s.Field t)
  field (made.both d n) = also (within (beside (one d) (a_name n))) (sym (postfix-Field reading.put _))

  pub bracket : {room : Room} {t : Built} → M reading room (rule_of s.Bracket) t → Shown reading room s.Bracket (node s.Bracket t)
  bracket (made.both l (made.both (made.part p) r)) = also (within (beside (one_kept l) (beside p.spells (one r)))) (p.shown _)

  pub inside_shown : {room : Room} {t : Built} → M reading room (rule_of s.Inside) t → Shown reading room s.Inside (node s.Inside t)
  inside_shown (made.left (made.both (made.part p) made.never)) = record {
    tokens = _;
    spells = within (beside p nothing);
    shown = λ place. ap (square_at reading.put place) (append-nil _) ∙ sym (postfix-Index reading.put place _);
  }
  inside_shown (made.left (made.both (made.part p) (made.once (made.part q)))) = record {
    tokens = _;
    spells = within (beside p q.spells);
    shown = λ place. q.after place _;
  }
  inside_shown (made.right (made.part q)) = record { tokens = q.tokens; spells = within q.spells; shown = q.alone }

  pub expr_if : {room : Room} {t : Built} → M reading room (maybe (part s.Expr)) t → Spells reading t (put_if reading.put (optional t (expr_of t)))
  expr_if made.never = nothing
  expr_if (made.once (made.part p)) = p

  in_slice : (place : Place) (from upto : Option Expr) (has : Bool) (by : Option Expr)
      → square_at reading.put place (put_if reading.put from ++ (bare reading.put (Sign Colon) ∷ put_if reading.put upto ++ put_by reading.put has (option_map (put_expr reading.put) by))) ≡ put_postfix reading.put (postfix.Slice place from upto has by)
  in_slice place from upto has by =
      ap (square_at reading.put place) (sym (append_assoc (put_if reading.put from) (bare reading.put (Sign Colon) ∷ put_if reading.put upto) (put_by reading.put has (option_map (put_expr reading.put) by))))
      ∙ sym (postfix-Slice reading.put place from upto has by)

  pub upto_shown : {room : Room} {t : Built} → M reading room (rule_of s.Upto) t → Shown reading room s.Upto (node s.Upto t)
  upto_shown (made.both c (made.both p made.never)) = record {
    tokens = _;
    spells = within (beside (one c) (beside (expr_if p) nothing));
    after = λ place e. in_slice place (Some e) _ false None;
    alone = λ place. in_slice place None _ false None;
  }
  upto_shown (made.both c (made.both p (made.once (made.part q)))) = record {
    tokens = _;
    spells = within (beside (one c) (beside (expr_if p) q.spells));
    after = λ place e. q.shown place (Some e) _;
    alone = λ place. q.shown place None _;
  }

  pub by_step : {room : Room} {t : Built} → M reading room (rule_of s.ByStep) t → Shown reading room s.ByStep (node s.ByStep t)
  by_step (made.both c p) = record {
    tokens = _;
    spells = within (beside (one c) (expr_if p));
    shown = λ place from upto. in_slice place from upto true _;
  }

  -- what is no operator's operand

  pub primary : {room : Room} {t : Built} → M reading room (rule_of s.Primary) t → Shown reading room s.Primary (node s.Primary t)
  primary (made.left (made.part p)) = within p
  primary (made.right (made.left (made.part p))) = within p
  primary (made.right (made.right (made.left (made.part p)))) = within p
  primary (made.right (made.right (made.right (made.left (made.deeper i (made.part p)))))) = within p
  primary (made.right (made.right (made.right (made.right (made.left (made.deeper i (made.part p))))))) = within p
  primary (made.right (made.right (made.right (made.right (made.right (made.left (made.deeper i (made.part p)))))))) = within p
  primary (made.right (made.right (made.right (made.right (made.right (made.right (made.part p))))))) = within p

  pub named : {room : Room} {t : Built} → M reading room (rule_of s.Named) t → Shown reading room s.Named (node s.Named t)
  named (made.both n made.never) = also (within (beside (a_name n) nothing)) (sym (expr-Named reading.put _))
  named (made.both n (made.once (made.part p))) = also (within (beside (a_name n) p)) (sym (expr-Call reading.put _ _))

  pub arguments : {room : Room} {t : Built} → M reading room (rule_of s.Arguments) t → Shown reading room s.Arguments (node s.Arguments t)
  arguments (made.deeper i (made.both l (made.both made.never r))) = within (beside (one l) (beside nothing (one r)))
  arguments (made.deeper i (made.both l (made.both (made.once (made.part p)) r))) = within (beside (one l) (beside p.spells (one r)))

  pub cast_shown : {room : Room} {t : Built} → M reading room (rule_of s.Cast) t → Shown reading room s.Cast (node s.Cast t)
  cast_shown (made.both w (made.deeper i (made.both l (made.both (made.part p) r)))) = cast_tokens reading w (beside (one l) (beside p (one r)))

  -- what stands in brackets after what comes first in them
  in_brackets : (left right : reading.X) (first more : List reading.X) → left ∷ first ++ (more ++ right ∷ []) ≡ left ∷ (first ++ more) ++ right ∷ []
  in_brackets left right first more = ap (λ ts. left ∷ ts) (sym (append_assoc first more (right ∷ [])))

  pub round_shown : {room : Room} {t : Built} → M reading room (rule_of s.Round) t → Shown reading room s.Round (node s.Round t)
  round_shown (made.both l (made.both (made.part p) (made.both made.never r))) =
      also (within (beside (one_kept l) (beside p (beside nothing (one r))))) (sym (expr-Round reading.put _ _))
  round_shown (made.both l (made.both (made.part p) (made.both (made.once (made.part q)) r))) =
      also (within (beside (one_kept l) (beside p (beside q.spells (one r)))))
      (in_brackets (kept reading.put (Sign LeftParen) _) (bare reading.put (Sign RightParen)) (put_expr reading.put _) _ ∙ sym (ap (put_expr reading.put) (q.tuple _ _) ∙ expr-TupleOf reading.put _ (_ ∷ _)))

  pub others : {room : Room} {t : Built} → M reading room (rule_of s.Others) t → Shown reading room s.Others (node s.Others t)
  others (made.both c (made.part {t = t} p)) = record {
    others = exprs_of (node s.Exprs t);
    spells = also (within (beside (one c) p.spells))
        (ap (λ es. bare reading.put (Sign Comma) ∷ put_commas reading.put (map (put_expr reading.put) es)) p.are ∙ sym (ap (λ es. each_after (bare reading.put (Sign Comma)) (map (put_expr reading.put) es)) p.are));
    tuple = λ place e. refl;
    set = λ place e. refl;
  }

  pub square_shown : {room : Room} {t : Built} → M reading room (rule_of s.Square) t → Shown reading room s.Square (node s.Square t)
  square_shown (made.both l (made.both (made.part p) r)) = also (within (beside (one_kept l) (beside p.spells (one r)))) (sym (expr-ListOf reading.put _ _))

  pub curly_shown : {room : Room} {t : Built} → M reading room (rule_of s.Curly) t → Shown reading room s.Curly (node s.Curly t)
  curly_shown (made.both l (made.both (made.part p) (made.both made.never r))) =
      also (within (beside (one_kept l) (beside p (beside nothing (one r)))))
      (in_brackets (kept reading.put (Sign LeftBrace) _) (bare reading.put (Sign RightBrace)) (put_expr reading.put _) [] ∙ sym (expr-SetOf reading.put _ (_ ∷ [])))
  curly_shown (made.both l (made.both (made.part p) (made.both (made.once (made.part q)) r))) =
      also (within (beside (one_kept l) (beside p (beside q.spells (one r)))))
      (in_brackets (kept reading.put (Sign LeftBrace) _) (bare reading.put (Sign RightBrace)) (put_expr reading.put _) _ ∙ q.shown _ _)

  pub contents : {room : Room} {t : Built} → M reading room (rule_of s.Contents) t → Shown reading room s.Contents (node s.Contents t)
  contents (made.left (made.part q)) = record {
    tokens = _;
    spells = within q.spells;
    shown = λ place e. sym (ap (put_expr reading.put) (q.set place e) ∙ expr-SetOf reading.put place (e ∷ q.others));
  }
  contents (made.right (made.part q)) = record { tokens = _; spells = within q.spells; shown = q.shown }

  an_entry : (k v : Expr) → put_entry reading.put (record { key = k; value = v }) ≡ put_expr reading.put k ++ bare reading.put (Sign Colon) ∷ put_expr reading.put v
  an_entry k v = entry-tokens reading.put (record { key = k; value = v })

  in_entries : (place : Place) (k v : Expr) (es : List Entry)
      → curly_at reading.put place (put_expr reading.put k ++ (bare reading.put (Sign Colon) ∷ (put_expr reading.put v ++ each_after (bare reading.put (Sign Comma)) (map (put_entry reading.put) es))))
      ≡ put_expr reading.put (expr.DictOf place (record { key = k; value = v } ∷ es))
  in_entries place k v es =
      let more = each_after (bare reading.put (Sign Comma)) (map (put_entry reading.put) es) in
      ap (curly_at reading.put place) (sym (append_assoc (put_expr reading.put k) (bare reading.put (Sign Colon) ∷ put_expr reading.put v) more) ∙ ap (λ ts. ts ++ more) (sym (an_entry k v)))
      ∙ sym (expr-DictOf reading.put place (record { key = k; value = v } ∷ es))

  more_entries : {room : Room} {t : Built} → M reading room (many (part s.MoreEntry)) t → Spells reading t (each_after (bare reading.put (Sign Comma)) (map (put_entry reading.put) (entries_of t)))
  more_entries made.enough = nothing
  more_entries (made.more (made.part p) ps) = beside p (more_entries ps)

  pub entries : {room : Room} {t : Built} → M reading room (rule_of s.Entries) t → Shown reading room s.Entries (node s.Entries t)
  entries (made.both c (made.both {u = es} (made.part {t = v} p) qs)) = record {
    tokens = _;
    spells = within (beside (one c) (beside p (more_entries qs)));
    shown = λ place e. in_entries place e (expr_of (node s.Expr v)) (entries_of es);
  }

  pub more_entry : {room : Room} {t : Built} → M reading room (rule_of s.MoreEntry) t → Shown reading room s.MoreEntry (node s.MoreEntry t)
  more_entry (made.both c (made.both (made.part p) (made.both d (made.part q)))) =
      also (within (beside (one c) (beside p (beside (one d) q)))) (ap (λ ts. bare reading.put (Sign Comma) ∷ ts) (sym (an_entry _ _)))

  pub blank_shown : {room : Room} {t : Built} → M reading room (rule_of s.Blank) t → Shown reading room s.Blank (node s.Blank t)
  blank_shown (made.both l (made.both (made.part p) (made.part q))) = also (within (beside (one_kept l) (beside p q.spells))) (q.shown _ _)

  pub blank_end : {room : Room} {t : Built} → M reading room (rule_of s.BlankEnd) t → Shown reading room s.BlankEnd (node s.BlankEnd t)
  blank_end (made.left (made.both g (made.left (made.deeper i (made.part p))))) = record {
    tokens = _;
    spells = within (beside (one g) p);
    shown = λ place ty. sym (expr-EmptyList reading.put place ty);
  }
  blank_end (made.left (made.both g (made.right (made.deeper i (made.part p))))) = record {
    tokens = _;
    spells = within (beside (one g) p);
    shown = λ place ty. sym (expr-EmptySet reading.put place ty);
  }
  blank_end (made.right (made.both c (made.both (made.part q) (made.both g (made.deeper i (made.part p)))))) = record {
    tokens = _;
    spells = within (beside (one c) (beside q (beside (one g) p)));
    shown = λ place ty. ap (λ ts. kept reading.put (Sign Less) place ∷ ts) (sym (append_assoc (put_type reading.put ty) (bare reading.put (Sign Colon) ∷ put_type reading.put _) (bare reading.put (Sign Greater) ∷ put_curly reading.put [])))
        ∙ sym (expr-EmptyDict reading.put place ty _);
  }

  pub blank_items : {room : Room} {t : Built} → M reading room (rule_of s.BlankItems) t → Shown reading room s.BlankItems (node s.BlankItems t)
  blank_items (made.both l r) = within (beside (one l) (one r))

  pub blank_elements : {room : Room} {t : Built} → M reading room (rule_of s.BlankElements) t → Shown reading room s.BlankElements (node s.BlankElements t)
  blank_elements (made.both l r) = within (beside (one l) (one r))

  pub more_exprs : {room : Room} {t : Built} → M reading room (many (sign Comma ▸ part s.Expr)) t → Spells reading t (each_after (bare reading.put (Sign Comma)) (map (put_expr reading.put) (more_exprs_of t)))
  more_exprs made.enough = nothing
  more_exprs (made.more (made.both c (made.part p)) ps) = beside (beside (one c) p) (more_exprs ps)

  pub exprs : {room : Room} {t : Built} → M reading room (rule_of s.Exprs) t → Shown reading room s.Exprs (node s.Exprs t)
  exprs (made.both (made.part p) ps) = record { first = _; more = _; are = refl; spells = within (beside p (more_exprs ps)) }

  pub word_type : {room : Room} {t : Built} → M reading room (rule_of s.WordType) t → Shown reading room s.WordType (node s.WordType t)
  word_type w = word_type_tokens reading w

  pub literal_shown : {room : Room} {t : Built} → M reading room (rule_of s.Literal) t → Shown reading room s.Literal (node s.Literal t)
  literal_shown w = literal_tokens reading w
