-- What a statement is shown as is read as the tokens of which it was built: part by part.
use Rattle.std.proofs.Common.{◌≡◌, ℕ, List, [], ◌∷◌, ◌++◌, map, Bool, true, false, Option, Some, None, if◌then◌else◌, refl, ap, sym, ◌∙◌}
use Rattle.std.proofs.lemmas.List.{append_assoc, append-nil}
use Rattle.std.specs.List.{list_all}
use Rattle.chi_grammar.specs.declared.room.Room.{Room}
use Rattle.chi_grammar.specs.Rules.{leaf, node, pair, none, part, ◌▸◌, maybe, many}
use Rattle.chi_token.specs.declared.place.Place.{Place}
use Rattle.chi_token.specs.declared.place.Spanned.{Spanned}
use Rattle.chi_token.specs.declared.keyword.Keyword.TheVariants.{AltWord, ElifWord, ElseWord, EndWord, IfWord, UnwindWord}
use Rattle.chi_token.specs.declared.sign.Sign.TheVariants.{Assign, Colon, Comma}
use Rattle.chi_token.specs.declared.token.Token.TheVariants.{Sign, Word}
use Rattle.chi_tree.specs.declared.type_tree.TypeTree.TheVariants as type
use Rattle.chi_tree.specs.declared.type_tree.TypeTree.{TypeTree}
use Rattle.chi_tree.specs.declared.type_tree.Formal.{Formal}
use Rattle.chi_tree.specs.declared.expr.Expr.{Expr, Expr-F, out-Expr, roll-Expr, roll-out-Expr}
use Rattle.chi_tree.specs.declared.expr.Expr.TheVariants as expr
use Rattle.chi_tree.specs.declared.expr.Entry.{Entry}
use Rattle.chi_tree.specs.declared.expr.Link.{Link}
use Rattle.chi_tree.specs.declared.expr.Postfix.{Postfix, out-Postfix}
use Rattle.chi_tree.specs.declared.statement.Target.{Target}
use Rattle.chi_tree.specs.declared.statement.Statement.{Statement}
use Rattle.chi_tree.specs.declared.statement.Step.{Step}
use Rattle.chi_tree.specs.Classes.{class_of, number_of}
use Rattle.chi_tree.specs.Parts.{Part}
use Rattle.chi_tree.specs.Parts as s
use Rattle.chi_tree.specs.Rules.{rule_of, keyword}
use Rattle.chi_tree.specs.Tokens.{bytes_of}
use Rattle.chi_tree.specs.View.{Built, expr_of, exprs_of, more_exprs_of}
use Rattle.chi_tree.specs.Statements.{jump_shown, ends_line_shown, target_of, more_targets_of, variables_of, walk_of, communication_of, as_target, target_in, name_target, is_step_in, target_or_none, is_some, elements_of, launched, statement_of, block_of, followed, inner_of, elifs_of, else_of, alternatives_of, more_alternatives_of, step}
use Rattle.chi_tree_spell.specs.Words.{write_word, all, each_after, separated}
use Rattle.chi_tree_spell.specs.Expressions.{bare, kept, put_commas, put_expr, put_postfix}
use Rattle.chi_tree_spell.specs.Statements.{put_semicolon, put_exprs, put_target, put_walk, put_communication, put_elements, put_body, put_else, put_alternative, put_statement, put_branch, put_step, put_block}
use Rattle.chi_tree.proofs.ClassTokens.{token_at, token_is}
use Rattle.chi_tree_spell.proofs.ExprTokens.{expr-Named, expr-Part, type-Defined}
use Rattle.chi_tree_spell.proofs.StatementTokens.{statement-Declare, statement-Assign, statement-Communicate, statement-Pass, statement-Break, statement-Continue, statement-Select, statement-If, statement-While, statement-For, statement-Return, statement-Exit, statement-Run, statement-Start, statement-Finish, statement-Write, alternative-Guarded, alternative-Unwind, step-tokens, branch-tokens}
use Rattle.chi_tree_spell.proofs.BuiltTokens.{Reading, Spells, beside, within, nothing, also, one, one_kept, exactly_kept}
use Rattle.chi_tree_spell.proofs.ExprWords.{as_word}
use Rattle.chi_tree_spell.proofs.ExprSpelling.{more_exprs, expr_if}
use Rattle.chi_tree.proofs.Made as made
use Rattle.chi_tree_spell.proofs.ShownTokens.{Shown, M, WrittenTokens, BlockTokens}
use Rattle.chi_tree_spell.proofs.TargetSpelling.{target, more_targets, walk, inwards, bare_tokens, unwound}

module _ (reading : Reading) where
  -- statements

  pub closed_shown : {room : Room} {t : Built} → M reading room (rule_of s.Closed) t → Shown reading room s.Closed (node s.Closed t)
  closed_shown (made.left (made.part p)) = within p
  closed_shown (made.right (made.left (made.part p))) = within p
  closed_shown (made.right (made.right (made.left (made.part p)))) = within p
  closed_shown (made.right (made.right (made.right (made.part p)))) = within p

  pub open_shown : {room : Room} {t : Built} → M reading room (rule_of s.Open) t → Shown reading room s.Open (node s.Open t)
  open_shown (made.left (made.part p)) = within p
  open_shown (made.right (made.left (made.part p))) = within p
  open_shown (made.right (made.right (made.left (made.part p)))) = within p
  open_shown (made.right (made.right (made.right (made.left (made.part p))))) = within p
  open_shown (made.right (made.right (made.right (made.right (made.left (made.part p)))))) = within p
  open_shown (made.right (made.right (made.right (made.right (made.right (made.left (made.part p))))))) = within p
  open_shown (made.right (made.right (made.right (made.right (made.right (made.right (made.left (made.part p)))))))) = within p
  open_shown (made.right (made.right (made.right (made.right (made.right (made.right (made.right (made.part p)))))))) = within p

  pub declaration : {room : Room} {t : Built} → M reading room (rule_of s.Declaration) t → Shown reading room s.Declaration (node s.Declaration t)
  declaration (made.both (made.part p) (made.part q)) = also (within (beside p q)) (sym (statement-Declare reading.put _ _))

  pub name_led : {room : Room} {t : Built} → M reading room (rule_of s.NameLed) t → Shown reading room s.NameLed (node s.NameLed t)
  name_led (made.chosen (made.part {t = t} p) bare (made.part q)) = within (q (target_of (node s.Target t)) _ bare p)
  name_led (made.otherwise (made.part {t = t} p) bare (made.part q)) = within (q (target_of (node s.Target t)) _ p)

  pub after_name : {room : Room} {t : Built} → M reading room (rule_of s.AfterName) t → Shown reading room s.AfterName (node s.AfterName t)
  after_name (made.left (made.part {t = vs} p)) =
      λ target u bare q. also (beside (also q (bare_tokens reading target bare ∙ sym (type-Defined reading.put target.name))) (within p))
      (sym (statement-Declare reading.put (type.Defined target.name) (variables_of (node s.Variables vs))))
  after_name (made.right (made.part p)) = λ target u bare q. inwards reading (p target u q)

  pub after_target : {room : Room} {t : Built} → M reading room (rule_of s.AfterTarget) t → Shown reading room s.AfterTarget (node s.AfterTarget t)
  after_target (made.left (made.part p)) = λ target u q. also (inwards reading (p target u q)) (sym (statement-Communicate reading.put _))
  after_target (made.right (made.part p)) = λ target u q. inwards reading (p target u q)

  assignment_tokens : (place : Place) (target : Target) (ts : List Target) (es : List Expr)
      → put_target reading.put target ++ (each_after (bare reading.put (Sign Comma)) (map (put_target reading.put) ts) ++ (kept reading.put (Sign Assign) place ∷ put_exprs reading.put es))
      ≡ put_commas reading.put (map (put_target reading.put) (target ∷ ts)) ++ kept reading.put (Sign Assign) place ∷ put_exprs reading.put es
  assignment_tokens place target ts es = sym (append_assoc (put_target reading.put target) (each_after (bare reading.put (Sign Comma)) (map (put_target reading.put) ts)) (kept reading.put (Sign Assign) place ∷ put_exprs reading.put es))

  pub assignment : {room : Room} {t : Built} → M reading room (rule_of s.Assignment) t → Shown reading room s.Assignment (node s.Assignment t)
  assignment (made.both {t = ts} ps (made.both eq (made.part {t = es} p))) =
      λ target u q. also (beside q (within (beside (more_targets reading ps) (beside (one_kept eq) p.spells))))
      (assignment_tokens _ target (more_targets_of ts) (exprs_of (node s.Exprs es)) ∙ sym (statement-Assign reading.put (target ∷ more_targets_of ts) _ _))

  pub timed : {room : Room} {t : Built} → M reading room (rule_of s.Timed) t → Shown reading room s.Timed (node s.Timed t)
  timed (made.part p) = also (within p) (sym (statement-Communicate reading.put _))

  -- a word that is a statement
  jumping : (x : Spanned) {n : ℕ} → number_of (class_of x.token) ≡ n
      → put_statement reading.put (jump_shown (token_at n (bytes_of x.token)) x.place) ≡ kept reading.put (token_at n (bytes_of x.token)) x.place ∷ []
      → Spells reading (node s.Jump (leaf x)) (put_statement reading.put (statement_of (node s.Jump (leaf x))))
  jumping x e is =
      let h = token_is x.token e in
      within (also (exactly_kept x e) (sym is ∙ sym (ap (λ t. put_statement reading.put (jump_shown t x.place)) h)))

  pub jump_part_shown : {room : Room} {t : Built} → M reading room (rule_of s.Jump) t → Shown reading room s.Jump (node s.Jump t)
  jump_part_shown (made.left (made.word {x = x} e)) = jumping x e (statement-Pass reading.put x.place)
  jump_part_shown (made.right (made.left (made.word {x = x} e))) = jumping x e (statement-Break reading.put x.place)
  jump_part_shown (made.right (made.right (made.word {x = x} e))) = jumping x e (statement-Continue reading.put x.place)

  pub return_shown : {room : Room} {t : Built} → M reading room (rule_of s.Return) t → Shown reading room s.Return (node s.Return t)
  return_shown (made.both w (made.part p)) = also (within (beside (one_kept w) p)) (sym (statement-Return reading.put _ _))

  pub exit_shown : {room : Room} {t : Built} → M reading room (rule_of s.Exit) t → Shown reading room s.Exit (node s.Exit t)
  exit_shown (made.both w p) = also (within (beside (one_kept w) (expr_if reading p))) (sym (statement-Exit reading.put _ _))

  pub finish_shown : {room : Room} {t : Built} → M reading room (rule_of s.Finish) t → Shown reading room s.Finish (node s.Finish t)
  finish_shown (made.both w (made.part p)) = also (within (beside (one_kept w) p.spells)) (sym (statement-Finish reading.put _ _))

  writing : (x : Spanned) {n : ℕ} {t : Built} → number_of (class_of x.token) ≡ n
      → Word (write_word (ends_line_shown (token_at n (bytes_of x.token)))) ≡ token_at n (bytes_of x.token)
      → WrittenTokens reading t → Spells reading (node s.Write (pair (leaf x) t)) (put_statement reading.put (statement_of (node s.Write (pair (leaf x) t))))
  writing x e back p =
      also (within (beside (as_word reading (λ w. Word (write_word (ends_line_shown w))) x e back) p.spells))
      (sym (ap (put_statement reading.put) (p.shown x) ∙ statement-Write reading.put x.place (ends_line_shown x.token) p.text p.at p.values))

  pub write_shown : {room : Room} {t : Built} → M reading room (rule_of s.Write) t → Shown reading room s.Write (node s.Write t)
  write_shown (made.both (made.left (made.word {x = x} e)) (made.deeper i (made.part p))) = writing x e refl p
  write_shown (made.both (made.right (made.word {x = x} e)) (made.deeper i (made.part p))) = writing x e refl p

  pub written_shown : {room : Room} {t : Built} → M reading room (rule_of s.Written) t → Shown reading room s.Written (node s.Written t)
  written_shown (made.both l (made.both (made.word {x = x} e) (made.both {t = es} ps r))) =
      record {
        text = bytes_of x.token;
        at = x.place;
        values = more_exprs_of es;
        spells = within (beside (one l) (beside (exactly_kept x e) (beside (more_exprs reading ps) (one r))));
        shown = λ y. refl;
      }

  pub branch : {room : Room} {t : Built} → M reading room (rule_of s.Branch) t → Shown reading room s.Branch (node s.Branch t)
  branch (made.both (made.part p) (made.both c (made.part q))) =
      also (within (beside p (beside (one c) q.spells))) (sym (branch-tokens reading.put _ _))

  pub elif_shown : {room : Room} {t : Built} → M reading room (rule_of s.Elif) t → Shown reading room s.Elif (node s.Elif t)
  elif_shown (made.both w (made.part p)) = within (beside (one w) p)

  else_is : (block : List Step) (first : Step) (more : List Step) → block ≡ first ∷ more
      → bare reading.put (Word ElseWord) ∷ (bare reading.put (Sign Colon) ∷ put_block reading.put block) ≡ put_else reading.put (map (put_step reading.put) block)
  else_is block first more are =
      ap (λ b. bare reading.put (Word ElseWord) ∷ (bare reading.put (Sign Colon) ∷ put_block reading.put b)) are ∙ sym (ap (λ b. put_else reading.put (map (put_step reading.put) b)) are)

  pub else_shown : {room : Room} {t : Built} → M reading room (rule_of s.Else) t → Shown reading room s.Else (node s.Else t)
  else_shown (made.both w (made.both c (made.part {t = t} p))) =
      also (within (beside (one w) (beside (one c) p.spells))) (else_is (inner_of (node s.Inner t)) _ _ p.are)

  elifs : {room : Room} {t : Built} → M reading room (many (part s.Elif)) t → Spells reading t (each_after (bare reading.put (Word ElifWord)) (map (put_branch reading.put) (elifs_of t)))
  elifs made.enough = nothing
  elifs (made.more (made.part p) ps) = beside p (elifs ps)

  else_if_any : {room : Room} {t : Built} → M reading room (maybe (part s.Else)) t → Spells reading t (put_else reading.put (map (put_step reading.put) (else_of t)))
  else_if_any made.never = nothing
  else_if_any (made.once (made.part p)) = p

  if_tokens : (w first more other end : List reading.X) → w ++ (first ++ (more ++ (other ++ end))) ≡ w ++ (first ++ more) ++ other ++ end
  if_tokens w first more other end =
      ap (λ ts. w ++ ts) (sym (append_assoc first more (other ++ end)))
      ∙ sym (append_assoc (w ++ (first ++ more)) other end ∙ append_assoc w (first ++ more) (other ++ end))

  pub if_shown : {room : Room} {t : Built} → M reading room (rule_of s.If) t → Shown reading room s.If (node s.If t)
  if_shown (made.both w (made.both (made.part p) (made.both {t = bs} ps (made.both {t = other} q end)))) =
      also (within (beside (one_kept w) (beside p (beside (elifs ps) (beside (else_if_any q) (one end))))))
      (if_tokens (kept reading.put (Word IfWord) _ ∷ []) (put_branch reading.put _) (each_after (bare reading.put (Word ElifWord)) (map (put_branch reading.put) (elifs_of bs))) (put_else reading.put (map (put_step reading.put) (else_of other))) (bare reading.put (Word EndWord) ∷ [])
      ∙ sym (statement-If reading.put _ (_ ∷ elifs_of bs) (else_of other)))

  pub body : {room : Room} {t : Built} → M reading room (rule_of s.Body) t → Shown reading room s.Body (node s.Body t)
  body (made.both c (made.both (made.part p) end)) = within (beside (one c) (beside p.spells (one end)))

  pub while_shown : {room : Room} {t : Built} → M reading room (rule_of s.While) t → Shown reading room s.While (node s.While t)
  while_shown (made.both w (made.both (made.part p) (made.part q))) =
      also (within (beside (one_kept w) (beside p q))) (sym (statement-While reading.put _ _ _))

  pub for_shown : {room : Room} {t : Built} → M reading room (rule_of s.For) t → Shown reading room s.For (node s.For t)
  for_shown (made.both w (made.both (made.part p) (made.part q))) =
      also (within (beside (one_kept w) (beside p q))) (sym (statement-For reading.put _ _ _))

  -- selects

  more_alternatives : {room : Room} {t : Built} → M reading room (many (keyword AltWord ▸ part s.Alternative)) t
      → Spells reading t (each_after (bare reading.put (Word AltWord)) (map (put_alternative reading.put) (more_alternatives_of t)))
  more_alternatives made.enough = nothing
  more_alternatives (made.more (made.both c (made.part p)) ps) = beside (beside (one c) p) (more_alternatives ps)

  pub alternatives : {room : Room} {t : Built} → M reading room (rule_of s.Alternatives) t → Shown reading room s.Alternatives (node s.Alternatives t)
  alternatives (made.both (made.part p) ps) = within (beside p (more_alternatives ps))

  pub select_shown : {room : Room} {t : Built} → M reading room (rule_of s.Select) t → Shown reading room s.Select (node s.Select t)
  select_shown (made.both w (made.both (made.part p) end)) =
      also (within (beside (one_kept w) (beside p (one end)))) (sym (statement-Select reading.put _ _))

  pub alternative_shown : {room : Room} {t : Built} → M reading room (rule_of s.Alternative) t → Shown reading room s.Alternative (node s.Alternative t)
  alternative_shown (made.left (made.part p)) = within p
  alternative_shown (made.right (made.part p)) = within p

  pub unwound_alternatives : {room : Room} {t : Built} → M reading room (rule_of s.UnwoundAlternatives) t → Shown reading room s.UnwoundAlternatives (node s.UnwoundAlternatives t)
  unwound_alternatives (made.both w (made.both (made.part {t = walk} p) (made.both c (made.both (made.deeper i (made.part {t = xs} q)) end)))) =
      also (within (beside (one_kept w) (beside p (beside (one c) (beside q (one end))))))
      (unwound reading (kept reading.put (Word UnwindWord) _ ∷ []) (put_walk reading.put (walk_of (node s.Walk walk))) (bare reading.put (Sign Colon) ∷ separated (bare reading.put (Word AltWord)) (map (put_alternative reading.put) (alternatives_of (node s.Alternatives xs)))) (bare reading.put (Word EndWord) ∷ [])
      ∙ sym (alternative-Unwind reading.put _ _ _))

  body_is : (block : List Step) (first : Step) (more : List Step) → block ≡ first ∷ more
      → bare reading.put (Sign Colon) ∷ put_block reading.put block ≡ put_body reading.put (map (put_step reading.put) block)
  body_is block first more are = ap (λ b. bare reading.put (Sign Colon) ∷ put_block reading.put b) are ∙ sym (ap (λ b. put_body reading.put (map (put_step reading.put) b)) are)

  pub alternative_body : {room : Room} {t : Built} → M reading room (rule_of s.AlternativeBody) t → Shown reading room s.AlternativeBody (node s.AlternativeBody t)
  alternative_body (made.both c (made.part {t = t} p)) =
      also (within (beside (one c) p.spells)) (body_is (inner_of (node s.Inner t)) _ _ p.are)

  pub guarded_alternative : {room : Room} {t : Built} → M reading room (rule_of s.GuardedAlternative) t → Shown reading room s.GuardedAlternative (node s.GuardedAlternative t)
  guarded_alternative (made.both (made.part p) made.never) = also (within (beside p nothing)) (sym (alternative-Guarded reading.put _ _ []))
  guarded_alternative (made.both (made.part p) (made.once (made.part q))) = also (within (beside p q)) (sym (alternative-Guarded reading.put _ _ _))

  -- an expression that is a target has the target's tokens

  abbrev Layer : Type 0
  Layer = Expr-F Expr Postfix TypeTree Entry Link Formal

  name_tokens : (e : Expr) (steps : List Postfix) (target : Target) (x : Layer) → out-Expr e ≡ x → name_target x steps ≡ Some target
      → put_expr reading.put e ++ all (map (put_postfix reading.put) steps) ≡ put_target reading.put target
  name_tokens e steps target (Expr-F.Named n) h is =
      let named = sym (roll-out-Expr e) ∙ ap roll-Expr h ∙ expr.rolls-Named n in
      ap (λ d. put_expr reading.put d ++ all (map (put_postfix reading.put) steps)) named
      ∙ ap (λ ts. ts ++ all (map (put_postfix reading.put) steps)) (expr-Named reading.put n)
      ∙ ap (λ o. put_target reading.put (target_or_none o)) is
  name_tokens e steps target _ h is = cc

  parts_tokens : (w : Expr) (steps : List Postfix) (target : Target) (b : Bool) → (if b then name_target (out-Expr w) steps else None) ≡ Some target
      → put_expr reading.put w ++ all (map (put_postfix reading.put) steps) ≡ put_target reading.put target
  parts_tokens w steps target true is = name_tokens w steps target (out-Expr w) refl is
  parts_tokens w steps target false is = cc

  layer_tokens : (e : Expr) (target : Target) (x : Layer) → out-Expr e ≡ x → target_in x ≡ Some target → put_expr reading.put e ≡ put_target reading.put target
  layer_tokens e target (Expr-F.Part w steps) h is =
      ap (put_expr reading.put) (sym (roll-out-Expr e) ∙ ap roll-Expr h ∙ expr.rolls-Part w steps) ∙ expr-Part reading.put w steps
      ∙ parts_tokens w steps target (list_all (λ p. is_step_in (out-Postfix p)) steps) is
  layer_tokens e target x h is = sym (append-nil (put_expr reading.put e)) ∙ name_tokens e [] target x h is

  option_tokens : (e : Expr) (o : Option Target) → as_target e ≡ o → is_some o ≡ true → put_expr reading.put e ≡ put_target reading.put (target_or_none o)
  option_tokens e (Some target) is some = layer_tokens e target (out-Expr e) refl is
  option_tokens e None is some = cc

  target_tokens : (e : Expr) → is_some (as_target e) ≡ true → put_expr reading.put e ≡ put_target reading.put (target_or_none (as_target e))
  target_tokens e some = option_tokens e (as_target e) refl some

  pub offer_shown : {room : Room} {t : Built} → M reading room (rule_of s.Offer) t → Shown reading room s.Offer (node s.Offer t)
  offer_shown (made.left (made.part p)) = within p
  offer_shown (made.right (made.chosen (made.part {t = e} p) some (made.part q))) = within (q (expr_of (node s.Expr e)) _ some p)
  offer_shown (made.right (made.otherwise (made.part {t = e} p) some (made.part q))) = within (q (expr_of (node s.Expr e)) _ p)

  pub offered_shown : {room : Room} {t : Built} → M reading room (rule_of s.Offered) t → Shown reading room s.Offered (node s.Offered t)
  offered_shown (made.left (made.part p)) = λ e u some q. inwards reading (p e u q)
  offered_shown (made.right (made.part p)) = λ e u some q. inwards reading (p (target_or_none (as_target e)) u (also q (target_tokens e some)))

  pub guarded : {room : Room} {t : Built} → M reading room (rule_of s.Guarded) t → Shown reading room s.Guarded (node s.Guarded t)
  guarded (made.both c (made.part {t = m} p)) =
      λ e u q. also (beside q (within (beside (one c) p))) (sym (append_assoc (put_expr reading.put e) (bare reading.put (Sign Comma) ∷ []) (put_communication reading.put (communication_of (node s.Communication m)))))

  -- blocks

  launching : (x : Spanned) {n : ℕ} {t : Built} → number_of (class_of x.token) ≡ n
      → put_statement reading.put (launched (leaf (record x { token = token_at n (bytes_of x.token) })) (elements_of t)) ≡ kept reading.put (token_at n (bytes_of x.token)) x.place ∷ put_elements reading.put (elements_of t)
      → Spells reading t (put_elements reading.put (elements_of t)) → Spells reading (node s.Launch (pair (leaf x) t)) (put_statement reading.put (statement_of (node s.Launch (pair (leaf x) t))))
  launching x {t = t} e is p =
      let h = token_is x.token e in
      also (within (beside (exactly_kept x e) p)) (sym (ap (λ w. put_statement reading.put (launched (leaf (record x { token = w })) (elements_of t))) h ∙ is))

  pub launch : {room : Room} {t : Built} → M reading room (rule_of s.Launch) t → Shown reading room s.Launch (node s.Launch t)
  launch (made.both (made.left (made.word {x = x} e)) (made.part p)) = launching x e (statement-Run reading.put x.place _) p
  launch (made.both (made.right (made.word {x = x} e)) (made.part p)) = launching x e (statement-Start reading.put x.place _) p

  stepped : (statement : Statement) (semicolon : Bool) (block : List Step)
      → put_statement reading.put statement ++ (put_semicolon reading.put semicolon ++ put_block reading.put block) ≡ put_block reading.put (step statement semicolon ∷ block)
  stepped statement semicolon block =
      sym (append_assoc (put_statement reading.put statement) (put_semicolon reading.put semicolon) (put_block reading.put block))
      ∙ sym (ap (λ ts. ts ++ put_block reading.put block) (step-tokens reading.put (step statement semicolon)))

  last_of_all : (statement : Statement) (u : Built) → Spells reading u (put_statement reading.put statement) → BlockTokens reading (followed statement none) (pair u none)
  last_of_all statement u q = record { first = _; more = _; are = refl; spells = also (beside q nothing) (stepped statement false []) }

  after_end_if : {room : Room} {t : Built} → M reading room (maybe (part s.AfterEnd)) t
      → (statement : Statement) (u : Built) → Spells reading u (put_statement reading.put statement) → BlockTokens reading (followed statement t) (pair u t)
  after_end_if made.never = last_of_all
  after_end_if (made.once (made.part p)) = p

  after_open_if : {room : Room} {t : Built} → M reading room (maybe (part s.AfterOpen)) t
      → (statement : Statement) (u : Built) → Spells reading u (put_statement reading.put statement) → BlockTokens reading (followed statement t) (pair u t)
  after_open_if made.never = last_of_all
  after_open_if (made.once (made.part p)) = p

  in_block : {block : List Step} {t : Built} → BlockTokens reading block t → BlockTokens reading block (node s.Block t)
  in_block p = record { first = p.first; more = p.more; are = p.are; spells = within p.spells }

  pub block : {room : Room} {t : Built} → M reading room (rule_of s.Block) t → Shown reading room s.Block (node s.Block t)
  block (made.left (made.both (made.part {t = t} p) q)) = in_block (after_end_if q (statement_of (node s.Closed t)) _ p)
  block (made.right (made.left (made.chosen (made.part {t = t} p) ends q))) =
      in_block (after_end_if q (statement_of (node s.Launch t)) _ p)
  block (made.right (made.left (made.otherwise (made.part {t = t} p) ends q))) =
      in_block (after_open_if q (statement_of (node s.Launch t)) _ p)
  block (made.right (made.right (made.both (made.part {t = t} p) q))) =
      in_block (after_open_if q (statement_of (node s.Open t)) _ p)

  pub after_end : {room : Room} {t : Built} → M reading room (rule_of s.AfterEnd) t → Shown reading room s.AfterEnd (node s.AfterEnd t)
  after_end (made.left (made.both c made.never)) =
      λ statement u q. record { first = _; more = _; are = refl; spells = also (beside q (within (beside (one c) nothing))) (stepped statement true []) }
  after_end (made.left (made.both c (made.once (made.part {t = t} p)))) =
      λ statement u q. record { first = _; more = _; are = refl; spells = also (beside q (within (beside (one c) p.spells))) (stepped statement true (block_of (node s.Block t))) }
  after_end (made.right (made.part {t = t} p)) =
      λ statement u q. record { first = _; more = _; are = refl; spells = also (beside q (within p.spells)) (stepped statement false (block_of (node s.Block t))) }

  pub after_open : {room : Room} {t : Built} → M reading room (rule_of s.AfterOpen) t → Shown reading room s.AfterOpen (node s.AfterOpen t)
  after_open (made.both c made.never) =
      λ statement u q. record { first = _; more = _; are = refl; spells = also (beside q (within (beside (one c) nothing))) (stepped statement true []) }
  after_open (made.both c (made.once (made.part {t = t} p))) =
      λ statement u q. record { first = _; more = _; are = refl; spells = also (beside q (within (beside (one c) p.spells))) (stepped statement true (block_of (node s.Block t))) }

  pub inner : {room : Room} {t : Built} → M reading room (rule_of s.Inner) t → Shown reading room s.Inner (node s.Inner t)
  inner (made.deeper i (made.part p)) = record { first = p.first; more = p.more; are = p.are; spells = within p.spells }
