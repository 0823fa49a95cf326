-- How what an operator or another word builds is read.
use Rattle.std.proofs.Common.{◌≡◌, ℕ, List, [], ◌∷◌, ◌++◌, map, true, false, refl, ap, sym, ◌∙◌}
use Rattle.std.proofs.lemmas.List.{append-nil}
use Rattle.chi_grammar.specs.declared.room.Room.{Room}
use Rattle.chi_grammar.specs.Rules.{leaf, node, pair, maybe, ◌∣◌}
use Rattle.chi_token.specs.declared.place.Spanned.{Spanned}
use Rattle.chi_token.specs.declared.sign.Sign.TheVariants.{Bang, Question}
use Rattle.chi_token.specs.declared.token.Token.{Token}
use Rattle.chi_tree.specs.declared.expr.Expr.{Expr}
use Rattle.chi_tree.specs.declared.expr.Link.{Link}
use Rattle.chi_tree.specs.declared.expr.Postfix.{Postfix}
use Rattle.chi_tree.specs.Classes.{class_of, number_of}
use Rattle.chi_tree.specs.Parts.{Part}
use Rattle.chi_tree.specs.Parts as s
use Rattle.chi_tree.specs.Rules.{sum_sign, product_sign, relation_sign, prefix_sign, type_word, cast_word, literal, sign}
use Rattle.chi_tree.specs.Tokens.{bytes_of}
use Rattle.chi_tree.specs.View.{operator_shown, relation_shown, prefix_shown, cast_shown, type_word_shown, way_shown, literal_shown, Built, chained, parted, expr_of, link_in, related, type_of, way_in}
use Rattle.chi_tree_spell.specs.Words.{operator_token, relation_token, prefix_token, cast_token, type_token, all}
use Rattle.chi_tree_spell.specs.Expressions.{kept, put_round, put_way, put_expr, put_link, put_postfix, put_type}
use Rattle.chi_tree.proofs.Made.{Made}
use Rattle.chi_tree.proofs.Made as made
use Rattle.chi_tree.proofs.ClassTokens.{token_at, token_is}
use Rattle.chi_tree_spell.proofs.ExprTokens.{expr-Chain, expr-Part, expr-Relation, expr-Prefix, expr-Cast, expr-Int, expr-Real, expr-Text, expr-Bool, expr-Time, link-tokens, type-Word}
use Rattle.chi_tree_spell.proofs.BuiltTokens.{Reading, Spells, beside, within, nothing, also, exactly, exactly_kept}

module _ (reading : Reading) where
  -- a token that is of a class, and that a function leaves as it is, with its place
  pub as_word : (f : Token → Token) (x : Spanned) {n : ℕ} → number_of (class_of x.token) ≡ n
      → f (token_at n (bytes_of x.token)) ≡ token_at n (bytes_of x.token) → Spells reading (leaf x) (kept reading.put (f x.token) x.place ∷ [])
  as_word f x e back = let h = token_is x.token e in also (exactly_kept x e) (ap (λ t. kept reading.put t x.place ∷ []) (sym back ∙ sym (ap f h)))

  -- what stands after an expression, where anything does

  pub chained_tokens : (e : Expr) (ls : List Link) → put_expr reading.put (chained e ls) ≡ put_expr reading.put e ++ all (map (put_link reading.put) ls)
  chained_tokens e [] = sym (append-nil (put_expr reading.put e))
  chained_tokens e (l ∷ ls) = expr-Chain reading.put e (l ∷ ls)

  pub parted_tokens : (e : Expr) (ps : List Postfix) → put_expr reading.put (parted e ps) ≡ put_expr reading.put e ++ all (map (put_postfix reading.put) ps)
  parted_tokens e [] = sym (append-nil (put_expr reading.put e))
  parted_tokens e (p ∷ ps) = expr-Part reading.put e (p ∷ ps)

  -- operators

  pub linked : (x : Spanned) {n : ℕ} {t : Built} → number_of (class_of x.token) ≡ n
      → operator_token (operator_shown (token_at n (bytes_of x.token))) ≡ token_at n (bytes_of x.token)
      → Spells reading t (put_expr reading.put (expr_of t)) → Spells reading (pair (leaf x) t) (put_link reading.put (link_in (pair (leaf x) t)))
  linked x {t = t} e back p =
      also (beside (as_word (λ w. operator_token (operator_shown w)) x e back) p)
      (sym (link-tokens reading.put (record { operator = operator_shown x.token; place = x.place; operand = expr_of t })))

  pub sum_link_tokens : {P : Room → Part → Built → Type 0} {room : Room} {u t : Built} → Made P room sum_sign u → Spells reading t (put_expr reading.put (expr_of t))
      → Spells reading (pair u t) (put_link reading.put (link_in (pair u t)))
  sum_link_tokens (made.left (made.word {x = x} e)) p = linked x e refl p
  sum_link_tokens (made.right (made.word {x = x} e)) p = linked x e refl p

  pub product_link_tokens : {P : Room → Part → Built → Type 0} {room : Room} {u t : Built} → Made P room product_sign u → Spells reading t (put_expr reading.put (expr_of t))
      → Spells reading (pair u t) (put_link reading.put (link_in (pair u t)))
  product_link_tokens (made.left (made.word {x = x} e)) p = linked x e refl p
  product_link_tokens (made.right (made.left (made.word {x = x} e))) p = linked x e refl p
  product_link_tokens (made.right (made.right (made.left (made.word {x = x} e)))) p = linked x e refl p
  product_link_tokens (made.right (made.right (made.right (made.word {x = x} e)))) p = linked x e refl p

  related_by : (e : Expr) (x : Spanned) {n : ℕ} {t u : Built} → number_of (class_of x.token) ≡ n
      → relation_token (relation_shown (token_at n (bytes_of x.token))) ≡ token_at n (bytes_of x.token)
      → Spells reading t (put_expr reading.put e) → Spells reading u (put_expr reading.put (expr_of u))
      → Spells reading (pair t (node s.RelLink (pair (leaf x) u))) (put_expr reading.put (related e (node s.RelLink (pair (leaf x) u))))
  related_by e x {u = u} h back p q =
      also (beside p (within (beside (as_word (λ w. relation_token (relation_shown w)) x h back) q)))
      (sym (expr-Relation reading.put e (relation_shown x.token) x.place (expr_of u)))

  pub relation_tokens : {P : Room → Part → Built → Type 0} {room : Room} {w t u : Built} (e : Expr) → Made P room relation_sign w → Spells reading t (put_expr reading.put e)
      → Spells reading u (put_expr reading.put (expr_of u)) → Spells reading (pair t (node s.RelLink (pair w u))) (put_expr reading.put (related e (node s.RelLink (pair w u))))
  relation_tokens f (made.left (made.word {x = x} e)) p q = related_by f x e refl p q
  relation_tokens f (made.right (made.left (made.word {x = x} e))) p q = related_by f x e refl p q
  relation_tokens f (made.right (made.right (made.left (made.word {x = x} e)))) p q = related_by f x e refl p q
  relation_tokens f (made.right (made.right (made.right (made.left (made.word {x = x} e))))) p q = related_by f x e refl p q
  relation_tokens f (made.right (made.right (made.right (made.right (made.left (made.word {x = x} e)))))) p q = related_by f x e refl p q
  relation_tokens f (made.right (made.right (made.right (made.right (made.right (made.left (made.word {x = x} e))))))) p q = related_by f x e refl p q
  relation_tokens f (made.right (made.right (made.right (made.right (made.right (made.right (made.left (made.word {x = x} e)))))))) p q = related_by f x e refl p q
  relation_tokens f (made.right (made.right (made.right (made.right (made.right (made.right (made.right (made.word {x = x} e)))))))) p q = related_by f x e refl p q

  prefixed : (x : Spanned) {n : ℕ} {t : Built} → number_of (class_of x.token) ≡ n
      → prefix_token (prefix_shown (token_at n (bytes_of x.token))) ≡ token_at n (bytes_of x.token) → Spells reading t (put_expr reading.put (expr_of t))
      → Spells reading (node s.Prefixed (pair (leaf x) t)) (put_expr reading.put (expr_of (node s.Prefixed (pair (leaf x) t))))
  prefixed x {t = t} e back p =
      also (within (beside (as_word (λ w. prefix_token (prefix_shown w)) x e back) p))
      (sym (expr-Prefix reading.put (prefix_shown x.token) x.place (expr_of t)))

  pub prefix_tokens : {P : Room → Part → Built → Type 0} {room : Room} {w t : Built} → Made P room prefix_sign w → Spells reading t (put_expr reading.put (expr_of t))
      → Spells reading (node s.Prefixed (pair w t)) (put_expr reading.put (expr_of (node s.Prefixed (pair w t))))
  prefix_tokens (made.left (made.word {x = x} e)) p = prefixed x e refl p
  prefix_tokens (made.right (made.left (made.word {x = x} e))) p = prefixed x e refl p
  prefix_tokens (made.right (made.right (made.word {x = x} e))) p = prefixed x e refl p

  cast : (x : Spanned) {n : ℕ} {l t u : Built} → number_of (class_of x.token) ≡ n
      → cast_token (cast_shown (token_at n (bytes_of x.token))) ≡ token_at n (bytes_of x.token)
      → Spells reading (pair l (pair t u)) (put_round reading.put (put_expr reading.put (expr_of t)))
      → Spells reading (node s.Cast (pair (leaf x) (pair l (pair t u)))) (put_expr reading.put (expr_of (node s.Cast (pair (leaf x) (pair l (pair t u))))))
  cast x {t = t} e back p =
      also (within (beside (as_word (λ w. cast_token (cast_shown w)) x e back) p)) (sym (expr-Cast reading.put (cast_shown x.token) x.place (expr_of t)))

  pub cast_tokens : {P : Room → Part → Built → Type 0} {room : Room} {w l t u : Built} → Made P room cast_word w
      → Spells reading (pair l (pair t u)) (put_round reading.put (put_expr reading.put (expr_of t)))
      → Spells reading (node s.Cast (pair w (pair l (pair t u)))) (put_expr reading.put (expr_of (node s.Cast (pair w (pair l (pair t u))))))
  cast_tokens (made.left (made.word {x = x} e)) p = cast x e refl p
  cast_tokens (made.right (made.left (made.word {x = x} e))) p = cast x e refl p
  cast_tokens (made.right (made.right (made.left (made.word {x = x} e)))) p = cast x e refl p
  cast_tokens (made.right (made.right (made.right (made.left (made.word {x = x} e))))) p = cast x e refl p
  cast_tokens (made.right (made.right (made.right (made.right (made.word {x = x} e))))) p = cast x e refl p

  worded : (x : Spanned) {n : ℕ} → number_of (class_of x.token) ≡ n
      → type_token (type_word_shown (token_at n (bytes_of x.token))) ≡ token_at n (bytes_of x.token)
      → Spells reading (node s.WordType (leaf x)) (put_type reading.put (type_of (node s.WordType (leaf x))))
  worded x e back = also (within (as_word (λ w. type_token (type_word_shown w)) x e back)) (sym (type-Word reading.put (type_word_shown x.token) x.place))

  pub word_type_tokens : {P : Room → Part → Built → Type 0} {room : Room} {t : Built} → Made P room type_word t
      → Spells reading (node s.WordType t) (put_type reading.put (type_of (node s.WordType t)))
  word_type_tokens (made.left (made.word {x = x} e)) = worded x e refl
  word_type_tokens (made.right (made.left (made.word {x = x} e))) = worded x e refl
  word_type_tokens (made.right (made.right (made.left (made.word {x = x} e)))) = worded x e refl
  word_type_tokens (made.right (made.right (made.right (made.left (made.word {x = x} e))))) = worded x e refl
  word_type_tokens (made.right (made.right (made.right (made.right (made.left (made.word {x = x} e)))))) = worded x e refl
  word_type_tokens (made.right (made.right (made.right (made.right (made.right (made.word {x = x} e)))))) = worded x e refl

  -- a literal of a class, whose tokens are these
  literally : (x : Spanned) {n : ℕ} → number_of (class_of x.token) ≡ n
      → put_expr reading.put (literal_shown (token_at n (bytes_of x.token)) x.place) ≡ kept reading.put (token_at n (bytes_of x.token)) x.place ∷ []
      → Spells reading (node s.Literal (leaf x)) (put_expr reading.put (expr_of (node s.Literal (leaf x))))
  literally x e is =
      let h = token_is x.token e in
      within (also (exactly_kept x e) (sym is ∙ sym (ap (λ t. put_expr reading.put (literal_shown t x.place)) h)))

  pub literal_tokens : {P : Room → Part → Built → Type 0} {room : Room} {t : Built} → Made P room literal t
      → Spells reading (node s.Literal t) (put_expr reading.put (expr_of (node s.Literal t)))
  literal_tokens (made.left (made.word {x = x} e)) = literally x e (expr-Int reading.put (bytes_of x.token) x.place)
  literal_tokens (made.right (made.left (made.word {x = x} e))) = literally x e (expr-Real reading.put (bytes_of x.token) x.place)
  literal_tokens (made.right (made.right (made.left (made.word {x = x} e)))) = literally x e (expr-Text reading.put (bytes_of x.token) x.place)
  literal_tokens (made.right (made.right (made.right (made.left (made.word {x = x} e))))) = literally x e (expr-Bool reading.put true x.place)
  literal_tokens (made.right (made.right (made.right (made.right (made.left (made.word {x = x} e)))))) = literally x e (expr-Bool reading.put false x.place)
  literal_tokens (made.right (made.right (made.right (made.right (made.right (made.word {x = x} e)))))) = literally x e (expr-Time reading.put x.place)

  pub way_tokens_of : {P : Room → Part → Built → Type 0} {room : Room} {t : Built} → Made P room (maybe (sign Bang ∣ sign Question)) t → Spells reading t (put_way reading.put (way_in t))
  way_tokens_of made.never = nothing
  way_tokens_of (made.once (made.left (made.word {x = x} e))) = also (exactly x e) (sym (ap (λ t. put_way reading.put (way_shown t)) (token_is x.token e)))
  way_tokens_of (made.once (made.right (made.word {x = x} e))) = also (exactly x e) (sym (ap (λ t. put_way reading.put (way_shown t)) (token_is x.token e)))
