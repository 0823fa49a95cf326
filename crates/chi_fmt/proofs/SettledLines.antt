-- The lines of a kept statement are those of the statement, with those `;` written that are kept; and what is formed stays formed.
use Rattle.std.proofs.Common.{◌≡◌, ℕ, Bool, true, false, List, [], ◌∷◌, ◌++◌, map, refl, sym, ap, subst, ◌∙◌}
use Rattle.std.proofs.lemmas.List.{map-append}
use Rattle.chi_token.specs.declared.keyword.Keyword.TheVariants.{AltWord, BreakWord, ContinueWord, ElifWord, ElseWord, ExitWord, FinishWord, ForWord, IfWord, PassWord, ReturnWord, RunWord, SelectWord, StartWord, UnwindWord, WhileWord}
use Rattle.chi_token.specs.declared.sign.Sign.TheVariants.{Assign, Comma}
use Rattle.chi_token.specs.declared.token.Token.TheVariants.{Text}
use Rattle.chi_tree.specs.declared.expr.Expr.{Expr}
use Rattle.chi_tree.specs.declared.statement.Step.{Step}
use Rattle.chi_tree.specs.declared.statement.Statement.{Statement}
use Rattle.chi_tree.specs.declared.statement.Statement.TheVariants as statement
use Rattle.chi_tree.specs.declared.statement.Branch.{Branch}
use Rattle.chi_tree.specs.declared.statement.Alternative.{Alternative}
use Rattle.chi_tree.specs.Statements.{step}
use Rattle.chi_tree_spell.specs.Words.{each_after, write_word}
use Rattle.chi_tree_laws.specs.Statements.{FormedBlock, FormedInner, FormedStatement, FormedBranches, FormedAlternatives, FormedAlternative}
use Rattle.chi_tree_laws.specs.Statements as formed
use Rattle.chi_fmt.specs.declared.line.Line.{Line}
use Rattle.chi_fmt.specs.declared.line.Semicolon.{Semicolon}
use Rattle.chi_fmt.specs.declared.spot.Role.TheVariants.{Usual}
use Rattle.chi_fmt.specs.Expressions.{Spots, commas, expr_spots, exprs_spots, round, spot, type_spots}
use Rattle.chi_fmt.specs.Parts.{communication_spots, elements_spots, offer_spots, sign, target_spots, variable_spots, walk_spots, word}
use Rattle.chi_fmt.specs.Lines.{OfStatement, header, inside, no_semicolon, end_line, block_lines, led_lines, lines_with, else_lines, lines_to_end, is_some, one_line, step_lines, statement_lines, branch_lines, alternative_lines}
use Rattle.chi_fmt.specs.Kept.{kept_step, kept_statement, kept_branch, kept_alternative, kept_block}
use Rattle.chi_fmt.specs.Reread.{settled}
use Rattle.chi_fmt.proofs.LinesIn as lines
use Rattle.chi_fmt.proofs.KeptIn as kept
use Rattle.chi_fmt.proofs.SpotsIn as spots
use Rattle.chi_fmt.proofs.StatementLines.{at_lines, at_led, at_step, lines_with_some, else_some}

-- the `;` of the text
abbrev pub settle : Semicolon → Semicolon
settle semicolon = record { written = semicolon.kept; kept = semicolon.kept }

-- what is kept of a statement has these lines, and is formed
pub record KeptStatement (ends : Bool) (b d : ℕ) (s : Statement) : Type 0 where
  pub same : (margin : ℕ) (semicolon : Semicolon) → statement_lines (kept_statement s) margin (settle semicolon) ≡ map settled (statement_lines s margin semicolon)
  pub holds : FormedStatement ends b d (kept_statement s)

pub record KeptBlock (b d : ℕ) (block : List Step) : Type 0 where
  pub same : (margin : ℕ) → block_lines margin (map step_lines (kept_block block)) ≡ map settled (block_lines margin (map step_lines block))
  pub holds : FormedBlock b d (kept_block block)

pub record KeptInner (b d : ℕ) (block : List Step) : Type 0 where
  pub same : (margin : ℕ) → block_lines margin (map step_lines (kept_block block)) ≡ map settled (block_lines margin (map step_lines block))
  pub holds : FormedInner b d (kept_block block)

pub record KeptBranches (b d : ℕ) (bs : List Branch) : Type 0 where
  pub same : (margin : ℕ) (first others : Spots)
      → led_lines margin first others (map branch_lines (map kept_branch bs)) ≡ map settled (led_lines margin first others (map branch_lines bs))
  pub holds : FormedBranches b d (map kept_branch bs)

pub record KeptAlternatives (b d : ℕ) (xs : List Alternative) : Type 0 where
  pub same : (margin : ℕ) (first others : Spots)
      → led_lines margin first others (map alternative_lines (map kept_alternative xs)) ≡ map settled (led_lines margin first others (map alternative_lines xs))
  pub holds : FormedAlternatives b d (map kept_alternative xs)

pub record KeptAlternative (b d : ℕ) (x : Alternative) : Type 0 where
  pub same : (margin : ℕ) (first : Spots) → alternative_lines (kept_alternative x) margin first ≡ map settled (alternative_lines x margin first)
  pub holds : FormedAlternative b d (kept_alternative x)

-- lines one after another
pub both_settled : (ks ls ms ns : List Line) → ks ≡ map settled ls → ms ≡ map settled ns → ks ++ ms ≡ map settled (ls ++ ns)
both_settled ks ls ms ns e f = (λ i. e i ++ f i) ∙ sym (map-append settled ls ns)

-- a statement that stays as it is, on one line
stays : {ends : Bool} {b d : ℕ} (s : Statement) (xs : Spots) → FormedStatement ends b d s → statement_lines s ≡ one_line xs → kept_statement s ≡ s → KeptStatement ends b d s
stays {ends} {b} {d} s xs h one keeps = record {
  same = λ margin semicolon.
      ap (λ k. statement_lines k margin (settle semicolon)) keeps
      ∙ at_lines one margin (settle semicolon) ∙ ap (map settled) (sym (at_lines one margin semicolon));
  holds = subst (FormedStatement ends b d) (sym keeps) h;
}

-- a statement that is this one when kept
becomes : {ends : Bool} {b d : ℕ} (s k : Statement) (f g : OfStatement) → FormedStatement ends b d k → kept_statement s ≡ k
    → statement_lines k ≡ g → statement_lines s ≡ f
    → ((margin : ℕ) (semicolon : Semicolon) → g margin (settle semicolon) ≡ map settled (f margin semicolon)) → KeptStatement ends b d s
becomes {ends} {b} {d} s k f g h keeps now was same = record {
  same = λ margin semicolon.
      ap (λ k. statement_lines k margin (settle semicolon)) keeps
      ∙ at_lines now margin (settle semicolon) ∙ same margin semicolon ∙ ap (map settled) (sym (at_lines was margin semicolon));
  holds = subst (FormedStatement ends b d) (sym keeps) h;
}

-- blocks

step-settled : {ends : Bool} {b d : ℕ} (s : Statement) (c follows : Bool) (margin : ℕ) → KeptStatement ends b d s
    → step_lines (step (kept_step (step s c)).statement follows) margin follows ≡ map settled (step_lines (step s c) margin follows)
step-settled s c follows margin k =
    ap (λ (t : Step). step_lines (step t.statement follows) margin follows) (kept.kept-Step s c)
    ∙ at_step (lines.lines-Step (step (kept_statement s) follows)) margin follows
    ∙ k.same margin (record { written = c; kept = follows })
    ∙ ap (map settled) (sym (at_step (lines.lines-Step (step s c)) margin follows))

more-settled : {ends : Bool} {b d : ℕ} (s : Statement) (c : Bool) (more : List Step) (margin : ℕ) → KeptStatement ends b d s
    → block_lines margin (map step_lines (kept_block more)) ≡ map settled (block_lines margin (map step_lines more))
    → block_lines margin (map step_lines (kept_block (step s c ∷ more))) ≡ map settled (block_lines margin (map step_lines (step s c ∷ more)))
more-settled s c [] margin k e =
    both_settled _ (step_lines (step s c) margin false) _ (block_lines margin (map step_lines [])) (step-settled s c false margin k) e
more-settled s c (m ∷ ms) margin k e =
    both_settled _ (step_lines (step s c) margin true) _ (block_lines margin (map step_lines (m ∷ ms))) (step-settled s c true margin k) e

some-kept : {b d : ℕ} {block : List Step} → FormedBlock b d block → is_some (map kept_step block) ≡ true
some-kept (formed.last h) = refl
some-kept (formed.next h hs) = refl
some-kept (formed.after_end h hs) = refl

last-formed : {ends : Bool} {b d : ℕ} (s : Statement) (c : Bool) → FormedStatement ends b d (kept_statement s) → FormedBlock b d (kept_block (step s c ∷ []))
last-formed {ends} {b} {d} s c h = subst (λ (t : Step). FormedBlock b d (step t.statement false ∷ [])) (sym (kept.kept-Step s c)) (formed.last h)

next-formed : {ends : Bool} {b d : ℕ} (s : Statement) (c : Bool) (more : List Step) → FormedStatement ends b d (kept_statement s)
    → is_some (map kept_step more) ≡ true → FormedBlock b d (kept_block more) → FormedBlock b d (kept_block (step s c ∷ more))
next-formed {ends} {b} {d} s c more h e hs =
    subst (λ (t : Step). FormedBlock b d (step t.statement (is_some (map kept_step more)) ∷ kept_block more)) (sym (kept.kept-Step s c))
    (subst (λ follows. FormedBlock b d (step (kept_statement s) follows ∷ kept_block more)) (sym e) (formed.next h hs))

next-kept : {ends : Bool} {b d : ℕ} (s : Statement) (c : Bool) (more : List Step) → KeptStatement ends b d s → FormedBlock b d more → KeptBlock b d more
    → KeptBlock b d (step s c ∷ more)
next-kept s c more k h r = record {
  same = λ margin. more-settled s c more margin k (r.same margin);
  holds = next-formed s c more k.holds (some-kept h) r.holds;
}

-- the parts of a statement

to-end-settled : {b d : ℕ} {block : List Step} (margin : ℕ) (xs : Spots) (semicolon : Semicolon) → KeptInner b d block
    → lines_to_end margin xs (map step_lines (kept_block block)) (settle semicolon) ≡ map settled (lines_to_end margin xs (map step_lines block) semicolon)
to-end-settled {block = block} margin xs semicolon k =
    both_settled _ (header margin xs ∷ block_lines (inside margin) (map step_lines block)) _ (end_line margin semicolon ∷ [])
    (ap (λ ls. header margin xs ∷ ls) (k.same (inside margin))) refl

else-settled : {b d : ℕ} {block : List Step} (margin : ℕ) → FormedInner b d block → KeptInner b d block
    → else_lines margin (map step_lines (kept_block block)) ≡ map settled (else_lines margin (map step_lines block))
else-settled margin h k =
    else_some margin k.holds ∙ ap (λ ls. header margin (word ElseWord ∷ []) ∷ ls) (k.same (inside margin)) ∙ ap (map settled) (sym (else_some margin h))

with-settled : {b d : ℕ} {block : List Step} (margin : ℕ) (xs : Spots) → FormedInner b d block → KeptInner b d block
    → lines_with margin xs (map step_lines (kept_block block)) ≡ map settled (lines_with margin xs (map step_lines block))
with-settled margin xs h k =
    lines_with_some margin xs k.holds ∙ ap (λ ls. header margin xs ∷ ls) (k.same (inside margin)) ∙ ap (map settled) (sym (lines_with_some margin xs h))

branch-settled : {b d : ℕ} (e : Expr) (block : List Step) (margin : ℕ) (first : Spots) → KeptInner b d block
    → branch_lines (kept_branch (formed.branch e block)) margin first ≡ map settled (branch_lines (formed.branch e block) margin first)
branch-settled e block margin first k =
    ap (λ x. branch_lines x margin first) (kept.kept-Branch e block) ∙ at_led (lines.lines-Branch e (kept_block block)) margin first
    ∙ ap (λ ls. header margin (first ++ expr_spots e) ∷ ls) (k.same (inside margin)) ∙ ap (map settled) (sym (at_led (lines.lines-Branch e block) margin first))

mutual
  pub block-kept : {b d : ℕ} {block : List Step} → FormedBlock b d block → KeptBlock b d block
  block-kept (formed.last {semicolon = c} {s = s} h) =
      let k = statement-kept h in
      record { same = λ margin. more-settled s c [] margin k refl; holds = last-formed s c k.holds }
  block-kept (formed.next {s = s} {more = more} h hs) = next-kept s true more (statement-kept h) hs (block-kept hs)
  block-kept (formed.after_end {s = s} {more = more} h hs) = next-kept s false more (statement-kept h) hs (block-kept hs)

  pub inner-kept : {b d : ℕ} {block : List Step} → FormedInner b d block → KeptInner b d block
  inner-kept (formed.inner h) = let k = block-kept h in record { same = k.same; holds = formed.inner k.holds }

  statement-kept : {ends : Bool} {b d : ℕ} {s : Statement} → FormedStatement ends b d s → KeptStatement ends b d s
  statement-kept (formed.declare {t = t} {vs = vs} h hs) =
      stays _ (type_spots t ++ commas (map variable_spots vs)) (formed.declare h hs) (lines.lines-Declare t vs) (kept.kept-Declare t vs)
  statement-kept (formed.assign {ts = ts} {place = p} {e = e} {es = es} h hs) =
      stays _ (commas (map target_spots ts) ++ sign Assign ∷ exprs_spots (e ∷ es)) (formed.assign h hs) (lines.lines-Assign ts p (e ∷ es)) (kept.kept-Assign ts p (e ∷ es))
  statement-kept (formed.communicate {c = c} h) = stays _ (communication_spots c) (formed.communicate h) (lines.lines-Communicate c) (kept.kept-Communicate c)
  statement-kept (formed.pass {place = p}) = stays _ (word PassWord ∷ []) formed.pass (lines.lines-Pass p) (kept.kept-Pass p)
  statement-kept (formed.leave {place = p}) = stays _ (word BreakWord ∷ []) formed.leave (lines.lines-Break p) (kept.kept-Break p)
  statement-kept (formed.continue {place = p}) = stays _ (word ContinueWord ∷ []) formed.continue (lines.lines-Continue p) (kept.kept-Continue p)
  statement-kept (formed.select {place = p} {xs = xs} hs) =
      let k = alternatives-kept hs in
      becomes _ (statement.Select p (map kept_alternative xs)) _ _ (formed.select k.holds) (kept.kept-Select p xs)
      (lines.lines-Select p (map kept_alternative xs)) (lines.lines-Select p xs)
      (λ margin semicolon.
      both_settled _ (led_lines margin (word SelectWord ∷ []) (word AltWord ∷ []) (map alternative_lines xs)) _ (end_line margin semicolon ∷ [])
      (k.same margin (word SelectWord ∷ []) (word AltWord ∷ [])) refl)
  statement-kept (formed.if_branches {place = p} {bs = bs} hs) =
      let k = branches-kept hs in
      becomes _ (statement.If p (map kept_branch bs) []) _ _ (formed.if_branches k.holds) (kept.kept-If p bs [])
      (lines.lines-If p (map kept_branch bs) []) (lines.lines-If p bs [])
      (λ margin semicolon.
      both_settled _ (led_lines margin (word IfWord ∷ []) (word ElifWord ∷ []) (map branch_lines bs) ++ []) _ (end_line margin semicolon ∷ [])
      (both_settled _ (led_lines margin (word IfWord ∷ []) (word ElifWord ∷ []) (map branch_lines bs)) [] [] (k.same margin (word IfWord ∷ []) (word ElifWord ∷ [])) refl)
      refl)
  statement-kept (formed.if_else {place = p} {bs = bs} {block = block} hs j) =
      let k = branches-kept hs in
      let o = inner-kept j in
      becomes _ (statement.If p (map kept_branch bs) (kept_block block)) _ _ (formed.if_else k.holds o.holds) (kept.kept-If p bs block)
      (lines.lines-If p (map kept_branch bs) (kept_block block)) (lines.lines-If p bs block)
      (λ margin semicolon.
      both_settled _ (led_lines margin (word IfWord ∷ []) (word ElifWord ∷ []) (map branch_lines bs) ++ else_lines margin (map step_lines block)) _ (end_line margin semicolon ∷ [])
      (both_settled _ (led_lines margin (word IfWord ∷ []) (word ElifWord ∷ []) (map branch_lines bs)) _ (else_lines margin (map step_lines block))
      (k.same margin (word IfWord ∷ []) (word ElifWord ∷ [])) (else-settled margin j o))
      refl)
  statement-kept (formed.while {place = p} {e = e} {block = block} h j) =
      let k = inner-kept j in
      becomes _ (statement.While p e (kept_block block)) _ _ (formed.while h k.holds) (kept.kept-While p e block)
      (lines.lines-While p e (kept_block block)) (lines.lines-While p e block)
      (λ margin semicolon. to-end-settled margin (word WhileWord ∷ expr_spots e) semicolon k)
  statement-kept (formed.for_each {place = p} {walk = w} {block = block} h j) =
      let k = inner-kept j in
      becomes _ (statement.For p w (kept_block block)) _ _ (formed.for_each h k.holds) (kept.kept-For p w block)
      (lines.lines-For p w (kept_block block)) (lines.lines-For p w block)
      (λ margin semicolon. to-end-settled margin (word ForWord ∷ walk_spots w) semicolon k)
  statement-kept (formed.return {place = p} {e = e} h) =
      stays _ (word ReturnWord ∷ expr_spots e) (formed.return h) (lines.lines-Return p e) (kept.kept-Return p e)
  statement-kept (formed.exit {place = p} {e = e} h) =
      stays _ (word ExitWord ∷ spots.spots_if e) (formed.exit h) (lines.lines-Exit p e) (kept.kept-Exit p e)
  statement-kept (formed.run {place = p} {es = es} hs) =
      stays _ (word RunWord ∷ elements_spots es) (formed.run hs) (lines.lines-Run p es) (kept.kept-Run p es)
  statement-kept (formed.start {place = p} {es = es} hs) =
      stays _ (word StartWord ∷ elements_spots es) (formed.start hs) (lines.lines-Start p es) (kept.kept-Start p es)
  statement-kept (formed.finish {place = p} {e = e} {es = es} hs) =
      stays _ (word FinishWord ∷ exprs_spots (e ∷ es)) (formed.finish hs) (lines.lines-Finish p (e ∷ es)) (kept.kept-Finish p (e ∷ es))
  statement-kept (formed.write {place = p} {line = l} {text = text} {at = at} {es = es} hs) =
      stays _ (word (write_word l) ∷ round (spot (Text text) Usual ∷ each_after (sign Comma) (map expr_spots es))) (formed.write hs)
      (lines.lines-Write p l text at es) (kept.kept-Write p l text at es)

  branches-kept : {b d : ℕ} {bs : List Branch} → FormedBranches b d bs → KeptBranches b d bs
  branches-kept {b} {d} (formed.one_branch {e = e} {block = block} h j) =
      let k = inner-kept j in
      record {
        same = λ margin first others.
            both_settled _ (branch_lines (formed.branch e block) margin first) [] [] (branch-settled e block margin first k) refl;
        holds = subst (λ x. FormedBranches b d (x ∷ [])) (sym (kept.kept-Branch e block)) (formed.one_branch h k.holds);
      }
  branches-kept {b} {d} (formed.branches {e = e} {block = block} {more = more} h j hs) =
      let k = inner-kept j in
      let r = branches-kept hs in
      record {
        same = λ margin first others.
            both_settled _ (branch_lines (formed.branch e block) margin first) _ (led_lines margin others others (map branch_lines more))
            (branch-settled e block margin first k) (r.same margin others others);
        holds = subst (λ x. FormedBranches b d (x ∷ map kept_branch more)) (sym (kept.kept-Branch e block)) (formed.branches h k.holds r.holds);
      }

  alternatives-kept : {b d : ℕ} {xs : List Alternative} → FormedAlternatives b d xs → KeptAlternatives b d xs
  alternatives-kept (formed.one_alternative {x = x} h) =
      let k = alternative-kept h in
      record {
        same = λ margin first others. both_settled _ (alternative_lines x margin first) [] [] (k.same margin first) refl;
        holds = formed.one_alternative k.holds;
      }
  alternatives-kept (formed.alternatives {x = x} {more = more} h hs) =
      let k = alternative-kept h in
      let r = alternatives-kept hs in
      record {
        same = λ margin first others.
            both_settled _ (alternative_lines x margin first) _ (led_lines margin others others (map alternative_lines more)) (k.same margin first) (r.same margin others others);
        holds = formed.alternatives k.holds r.holds;
      }

  alternative-kept : {b d : ℕ} {x : Alternative} → FormedAlternative b d x → KeptAlternative b d x
  alternative-kept {b} {d} (formed.offer {guard = g} {c = c} h j) = record {
    same = λ margin first.
        ap (λ x. alternative_lines x margin first) (kept.kept-Guarded g c []) ∙ at_led (lines.lines-Guarded g c []) margin first
        ∙ ap (map settled) (sym (at_led (lines.lines-Guarded g c []) margin first));
    holds = subst (FormedAlternative b d) (sym (kept.kept-Guarded g c [])) (formed.offer h j);
  }
  alternative-kept {b} {d} (formed.offer_block {guard = g} {c = c} {block = block} h j i) =
      let k = inner-kept i in
      record {
        same = λ margin first.
            ap (λ x. alternative_lines x margin first) (kept.kept-Guarded g c block) ∙ at_led (lines.lines-Guarded g c (kept_block block)) margin first
            ∙ with-settled margin (first ++ offer_spots g c) i k
            ∙ ap (map settled) (sym (at_led (lines.lines-Guarded g c block) margin first));
        holds = subst (FormedAlternative b d) (sym (kept.kept-Guarded g c block)) (formed.offer_block h j k.holds);
      }
  alternative-kept {b} {d} (formed.unwind {place = p} {walk = w} {xs = xs} h hs) =
      let k = alternatives-kept hs in
      record {
        same = λ margin first.
            ap (λ x. alternative_lines x margin first) (kept.kept-Unwind p w xs) ∙ at_led (lines.lines-Unwind p w (map kept_alternative xs)) margin first
            ∙ both_settled _
            (header margin (first ++ word UnwindWord ∷ walk_spots w) ∷ led_lines (inside margin) [] (word AltWord ∷ []) (map alternative_lines xs)) _ (end_line margin no_semicolon ∷ [])
            (ap (λ ls. header margin (first ++ word UnwindWord ∷ walk_spots w) ∷ ls) (k.same (inside margin) [] (word AltWord ∷ []))) refl
            ∙ ap (map settled) (sym (at_led (lines.lines-Unwind p w xs) margin first));
        holds = subst (FormedAlternative b d) (sym (kept.kept-Unwind p w xs)) (formed.unwind h k.holds);
      }
