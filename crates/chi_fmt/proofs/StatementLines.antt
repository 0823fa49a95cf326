-- The lines of formed statements have sound rows, none without a token, and show the tokens of the source.
use Rattle.std.proofs.Common.{◌≡◌, ℕ, Bool, true, false, List, [], ◌∷◌, ◌++◌, map, refl, sym, ap, ◌∙◌, append_assoc, append-nil}
use Rattle.chi_token.specs.declared.keyword.Keyword.{Keyword}
use Rattle.chi_token.specs.declared.keyword.Keyword.TheVariants.{AltWord, BreakWord, ContinueWord, ElifWord, ElseWord, EndWord, ExitWord, FinishWord, ForWord, IfWord, PassWord, ReturnWord, RunWord, SelectWord, StartWord, UnwindWord, WhileWord, WriteWord, WritelnWord}
use Rattle.chi_token.specs.declared.sign.Sign.TheVariants.{Assign, Colon}
use Rattle.chi_token.specs.declared.token.Token.TheVariants.{Word, Sign, Text}
use Rattle.chi_tree.specs.declared.expr.Expr.{Expr}
use Rattle.chi_tree.specs.declared.statement.Step.{Step}
use Rattle.chi_tree.specs.declared.statement.Statement.{Statement}
use Rattle.chi_tree.specs.declared.statement.Branch.{Branch}
use Rattle.chi_tree.specs.declared.statement.Alternative.{Alternative}
use Rattle.chi_tree.specs.Statements.{step}
use Rattle.chi_tree_spell.specs.Marks.{plain}
use Rattle.chi_tree_spell.specs.Expressions.{spelled_expr}
use Rattle.chi_tree_spell.specs.Statements.{body_tokens, else_tokens, guard_tokens, semicolon_if, spelled_alternative, spelled_block, spelled_branch, spelled_communication, spelled_exprs, spelled_statement, spelled_step, spelled_walk, to_end}
use Rattle.chi_tree_spell.specs.Words.{Tokens, each_after, separated, write_word}
use Rattle.chi_tree_spell.proofs.StatementTokens as spelled
use Rattle.chi_tree_laws.specs.Statements.{FormedBlock, FormedInner, FormedStatement, FormedBranches, FormedAlternatives, FormedAlternative}
use Rattle.chi_tree_laws.specs.Statements as formed
use Rattle.chi_tree_laws.specs.Expressions.{FormedExpr, FormedExprs}
use Rattle.chi_tree_laws.specs.Expressions as formed_expr
use Rattle.chi_fmt.specs.declared.line.Semicolon.{Semicolon}
use Rattle.chi_fmt.specs.Expressions.{Spots, expr_spots, exprs_spots}
use Rattle.chi_fmt.specs.Parts.{word, offer_spots, walk_spots}
use Rattle.chi_fmt.specs.Lines.{Led, OfStatement, InBlock, line, header, inside, no_semicolon, end_line, block_lines, led_lines, lines_with, else_lines, lines_to_end, is_some, step_lines, statement_lines, branch_lines, alternative_lines}
use Rattle.chi_fmt.proofs.ExprRows.{expr-start, type-start, if-row, exprs-after}
use Rattle.chi_fmt.proofs.PartRows.{targets-start, variables-start, walk-start, communication-ending, offer-ending, elements-start}
use Rattle.chi_fmt.proofs.LineRows.{Sources, one, both, nothing, sources_as, one-plain, header-one}
use Rattle.chi_fmt.proofs.LinesIn as lines
use Rattle.chi_fmt.proofs.Starts.{Row, Start, Ending, row-start, row-after, row-round, start-after, start-one, start-then, within-start, ending-start, ending-after}

-- lines that depend on what they are given

pub at_lines : {f g : OfStatement} → f ≡ g → (margin : ℕ) (semicolon : Semicolon) → f margin semicolon ≡ g margin semicolon
at_lines e margin semicolon = ap (λ (h : OfStatement). h margin semicolon) e

pub at_led : {f g : Led} → f ≡ g → (margin : ℕ) (first : Spots) → f margin first ≡ g margin first
at_led e margin first = ap (λ (h : Led). h margin first) e

pub at_step : {f g : InBlock} → f ≡ g → (margin : ℕ) (follows : Bool) → f margin follows ≡ g margin follows
at_step e margin follows = ap (λ (h : InBlock). h margin follows) e

-- with what the first line of a part begins
abbrev Opens : Spots → Tokens → Type 0
Opens first ts = (xs : Spots) (us : Tokens) → Ending xs us → Ending (first ++ xs) (ts ++ us)

nothing-opens : Opens [] []
nothing-opens xs us e = e

-- `select`, `alt`, `if`, `elif`
word-opens : (k : Keyword) → Opens (word k ∷ []) (Word k ∷ [])
word-opens k xs us e = ending-after (Word k) refl refl refl e

-- a line with `end`
end-one : (margin : ℕ) (semicolon : Semicolon) → Sources (end_line margin semicolon ∷ []) (Word EndWord ∷ semicolon_if semicolon.written)
end-one margin semicolon = one (end_line margin semicolon) (Word EndWord ∷ []) (ending-start (start-one (Word EndWord) refl refl refl))

-- a statement on one line
line-sources : (s : Statement) (xs : Spots) (ts : Tokens) (margin : ℕ) (semicolon : Semicolon)
    → statement_lines s margin semicolon ≡ line margin xs semicolon ∷ [] → spelled_statement s ≡ ts → Ending xs ts
    → Sources (statement_lines s margin semicolon) (spelled_statement s ++ semicolon_if semicolon.written)
line-sources s xs ts margin semicolon e f end =
    sources_as e (ap (λ us. us ++ semicolon_if semicolon.written) f) (one (line margin xs semicolon) ts end)

-- a word and what follows it
led : {xs : Spots} {ts : Tokens} (k : Keyword) → Start xs ts → Ending (word k ∷ xs) (Word k ∷ ts)
led k s = ending-start (start-after (Word k) refl refl refl (row-start s))

lone : (k : Keyword) → Ending (word k ∷ []) (Word k ∷ [])
lone k = ending-start (start-one (Word k) refl refl refl)

exprs-start : {d : ℕ} {e : Expr} {es : List Expr} → FormedExprs d (e ∷ es) → Start (exprs_spots (e ∷ es)) (spelled_exprs (e ∷ es))
exprs-start (formed_expr.exprs h hs) = start-then (expr-start h) (exprs-after hs)

-- a statement of a block
step-sources : (s : Statement) (semi follows : Bool) (margin : ℕ)
    → ((semicolon : Semicolon) → Sources (statement_lines s margin semicolon) (spelled_statement s ++ semicolon_if semicolon.written))
    → Sources (step_lines (step s semi) margin follows) (spelled_step (step s semi))
step-sources s semi follows margin h =
    sources_as (at_step (lines.lines-Step (step s semi)) margin follows) (spelled.step-tokens plain (step s semi))
    (h (record { written = semi; kept = follows }))

-- a formed block is there

pub lines_with_some : {b d : ℕ} {block : List Step} (margin : ℕ) (xs : Spots) → FormedInner b d block
    → lines_with margin xs (map step_lines block) ≡ header margin xs ∷ block_lines (inside margin) (map step_lines block)
lines_with_some margin xs (formed.inner (formed.last h)) = refl
lines_with_some margin xs (formed.inner (formed.next h hs)) = refl
lines_with_some margin xs (formed.inner (formed.after_end h hs)) = refl

body_some : {b d : ℕ} {block : List Step} → FormedInner b d block → body_tokens (map spelled_step block) ≡ Sign Colon ∷ spelled_block block
body_some (formed.inner (formed.last h)) = refl
body_some (formed.inner (formed.next h hs)) = refl
body_some (formed.inner (formed.after_end h hs)) = refl

pub else_some : {b d : ℕ} {block : List Step} (margin : ℕ) → FormedInner b d block
    → else_lines margin (map step_lines block) ≡ header margin (word ElseWord ∷ []) ∷ block_lines (inside margin) (map step_lines block)
else_some margin (formed.inner (formed.last h)) = refl
else_some margin (formed.inner (formed.next h hs)) = refl
else_some margin (formed.inner (formed.after_end h hs)) = refl

else_tokens_some : {b d : ℕ} {block : List Step} → FormedInner b d block
    → else_tokens (map spelled_step block) ≡ Word ElseWord ∷ Sign Colon ∷ spelled_block block
else_tokens_some (formed.inner (formed.last h)) = refl
else_tokens_some (formed.inner (formed.next h hs)) = refl
else_tokens_some (formed.inner (formed.after_end h hs)) = refl

-- further alternatives and branches each stand after their word

alternatives_more : {b d : ℕ} {xs : List Alternative} → FormedAlternatives b d xs
    → each_after (Word AltWord) (map spelled_alternative xs) ≡ Word AltWord ∷ separated (Word AltWord) (map spelled_alternative xs)
alternatives_more (formed.one_alternative h) = refl
alternatives_more (formed.alternatives h hs) = refl

branches_more : {b d : ℕ} {bs : List Branch} → FormedBranches b d bs
    → each_after (Word ElifWord) (map spelled_branch bs) ≡ Word ElifWord ∷ separated (Word ElifWord) (map spelled_branch bs)
branches_more (formed.one_branch h j) = refl
branches_more (formed.branches h j hs) = refl

-- the lines of an inner block
pub record SourcesOf (block : List Step) (margin : ℕ) : Type 0 where
  pub are : Sources (block_lines (inside margin) (map step_lines block)) (spelled_block block)

-- brackets of tokens

to_end_tokens : (ts bs us : Tokens) → (ts ++ (Sign Colon ∷ bs ++ Word EndWord ∷ [])) ++ us ≡ ((ts ++ Sign Colon ∷ []) ++ bs) ++ Word EndWord ∷ us
to_end_tokens ts bs us = simp append_assoc

colon_tokens : (ts bs : Tokens) → ts ++ Sign Colon ∷ bs ≡ (ts ++ Sign Colon ∷ []) ++ bs
colon_tokens ts bs = simp append_assoc

closed_tokens : (ts us : Tokens) → (ts ++ Word EndWord ∷ []) ++ us ≡ ts ++ Word EndWord ∷ us
closed_tokens ts us = simp append_assoc

body_tokens_apart : (ts os bs : Tokens) → ts ++ (os ++ Sign Colon ∷ bs) ≡ ((ts ++ os) ++ Sign Colon ∷ []) ++ bs
body_tokens_apart ts os bs = simp append_assoc

unwound_tokens : (ts ws bs : Tokens) → ts ++ (ws ++ Sign Colon ∷ bs ++ Word EndWord ∷ []) ≡ (((ts ++ ws) ++ Sign Colon ∷ []) ++ bs) ++ Word EndWord ∷ []
unwound_tokens ts ws bs = simp append_assoc

write-ending : {xs : Spots} {ts : Tokens} (line : Bool) → Row xs ts → Ending (word (write_word line) ∷ xs) (Word (write_word line) ∷ ts)
write-ending true r = ending-start (start-after (Word WritelnWord) refl refl refl r)
write-ending false r = ending-start (start-after (Word WriteWord) refl refl refl r)

-- parts of statements, by the lines of their blocks

to-end-sources : {block : List Step} (xs : Spots) (ts : Tokens) (margin : ℕ) (semicolon : Semicolon) → Ending xs ts → SourcesOf block margin
    → Sources (lines_to_end margin xs (map step_lines block) semicolon) ((ts ++ to_end (map spelled_step block)) ++ semicolon_if semicolon.written)
to-end-sources {block = block} xs ts margin semicolon e r =
    sources_as refl (to_end_tokens ts (spelled_block block) (semicolon_if semicolon.written))
    (both (both (header-one margin xs ts e) r.are) (end-one margin semicolon))

-- from `else` on
else-sources : {b d : ℕ} {block : List Step} (margin : ℕ) → FormedInner b d block → SourcesOf block margin
    → Sources (else_lines margin (map step_lines block)) (else_tokens (map spelled_step block))
else-sources margin h r =
    sources_as (else_some margin h) (else_tokens_some h) (both (header-one margin (word ElseWord ∷ []) (Word ElseWord ∷ []) (lone ElseWord)) r.are)

-- a branch after its word
branch-sources : {block : List Step} (e : Expr) (margin : ℕ) (k : Keyword) → Start (expr_spots e) (spelled_expr e) → SourcesOf block margin
    → Sources (branch_lines (formed.branch e block) margin (word k ∷ [])) (Word k ∷ spelled_branch (formed.branch e block))
branch-sources {block} e margin k s r =
    sources_as (at_led (lines.lines-Branch e block) margin (word k ∷ []))
    (ap (λ us. Word k ∷ us) (spelled.branch-tokens plain e block) ∙ colon_tokens (Word k ∷ spelled_expr e) (spelled_block block))
    (both (header-one margin (word k ∷ expr_spots e) (Word k ∷ spelled_expr e) (led k s)) r.are)

mutual
  pub block-sources : {b d : ℕ} {block : List Step} → FormedBlock b d block → (margin : ℕ)
      → Sources (block_lines margin (map step_lines block)) (spelled_block block)
  block-sources (formed.last {semicolon = c} {s = s} h) margin =
      both (step-sources s c false margin (λ semicolon. statement-sources h margin semicolon)) nothing
  block-sources (formed.next {s = s} {more = more} h hs) margin =
      both (step-sources s true (is_some (map step_lines more)) margin (λ semicolon. statement-sources h margin semicolon)) (block-sources hs margin)
  block-sources (formed.after_end {s = s} {more = more} h hs) margin =
      both (step-sources s false (is_some (map step_lines more)) margin (λ semicolon. statement-sources h margin semicolon)) (block-sources hs margin)

  inner-sources : {b d : ℕ} {block : List Step} → FormedInner b d block → (margin : ℕ) → SourcesOf block margin
  inner-sources (formed.inner h) margin = record { are = block-sources h (inside margin) }

  pub statement-sources : {ends : Bool} {b d : ℕ} {s : Statement} → FormedStatement ends b d s → (margin : ℕ) (semicolon : Semicolon)
      → Sources (statement_lines s margin semicolon) (spelled_statement s ++ semicolon_if semicolon.written)
  statement-sources (formed.declare {t = t} {vs = vs} h hs) margin semicolon =
      line-sources _ _ _ margin semicolon (at_lines (lines.lines-Declare t vs) margin semicolon) (spelled.statement-Declare plain t vs)
      (ending-start (start-then (type-start h) (row-start (variables-start hs))))
  statement-sources (formed.assign {ts = ts} {place = p} {e = e} {es = es} h hs) margin semicolon =
      line-sources _ _ _ margin semicolon (at_lines (lines.lines-Assign ts p (e ∷ es)) margin semicolon) (spelled.statement-Assign plain ts p (e ∷ es))
      (ending-start (start-then (targets-start h) (row-after (Sign Assign) refl refl (row-start (exprs-start hs)))))
  statement-sources (formed.communicate {c = c} h) margin semicolon =
      line-sources _ _ _ margin semicolon (at_lines (lines.lines-Communicate c) margin semicolon) (spelled.statement-Communicate plain c)
      (communication-ending h)
  statement-sources (formed.pass {place = p}) margin semicolon =
      line-sources _ _ _ margin semicolon (at_lines (lines.lines-Pass p) margin semicolon) (spelled.statement-Pass plain p) (lone PassWord)
  statement-sources (formed.leave {place = p}) margin semicolon =
      line-sources _ _ _ margin semicolon (at_lines (lines.lines-Break p) margin semicolon) (spelled.statement-Break plain p) (lone BreakWord)
  statement-sources (formed.continue {place = p}) margin semicolon =
      line-sources _ _ _ margin semicolon (at_lines (lines.lines-Continue p) margin semicolon) (spelled.statement-Continue plain p) (lone ContinueWord)
  statement-sources (formed.select {place = p} {xs = xs} hs) margin semicolon =
      sources_as (at_lines (lines.lines-Select p xs) margin semicolon)
      (ap (λ us. us ++ semicolon_if semicolon.written) (spelled.statement-Select plain p xs)
      ∙ closed_tokens (Word SelectWord ∷ separated (Word AltWord) (map spelled_alternative xs)) (semicolon_if semicolon.written))
      (both (alternatives-sources hs margin (word SelectWord ∷ []) (Word SelectWord ∷ []) (word-opens SelectWord)) (end-one margin semicolon))
  statement-sources (formed.if_branches {place = p} {bs = bs} hs) margin semicolon =
      sources_as (at_lines (lines.lines-If p bs []) margin semicolon)
      (ap (λ us. us ++ semicolon_if semicolon.written) (spelled.statement-If plain p bs [])
      ∙ closed_tokens ((Word IfWord ∷ separated (Word ElifWord) (map spelled_branch bs)) ++ []) (semicolon_if semicolon.written))
      (both (both (branches-sources hs margin IfWord) nothing) (end-one margin semicolon))
  statement-sources (formed.if_else {place = p} {bs = bs} {block = block} hs j) margin semicolon =
      sources_as (at_lines (lines.lines-If p bs block) margin semicolon)
      (ap (λ us. us ++ semicolon_if semicolon.written) (spelled.statement-If plain p bs block)
      ∙ closed_tokens ((Word IfWord ∷ separated (Word ElifWord) (map spelled_branch bs)) ++ else_tokens (map spelled_step block)) (semicolon_if semicolon.written))
      (both (both (branches-sources hs margin IfWord) (else-sources margin j (inner-sources j margin))) (end-one margin semicolon))
  statement-sources (formed.while {place = p} {e = e} {block = block} h j) margin semicolon =
      sources_as (at_lines (lines.lines-While p e block) margin semicolon)
      (ap (λ us. us ++ semicolon_if semicolon.written) (spelled.statement-While plain p e block))
      (to-end-sources _ _ margin semicolon (led WhileWord (expr-start h)) (inner-sources j margin))
  statement-sources (formed.for_each {place = p} {walk = w} {block = block} h j) margin semicolon =
      sources_as (at_lines (lines.lines-For p w block) margin semicolon)
      (ap (λ us. us ++ semicolon_if semicolon.written) (spelled.statement-For plain p w block))
      (to-end-sources _ _ margin semicolon (led ForWord (walk-start h)) (inner-sources j margin))
  statement-sources (formed.return {place = p} {e = e} h) margin semicolon =
      line-sources _ _ _ margin semicolon (at_lines (lines.lines-Return p e) margin semicolon) (spelled.statement-Return plain p e) (led ReturnWord (expr-start h))
  statement-sources (formed.exit {place = p} {e = e} h) margin semicolon =
      line-sources _ _ _ margin semicolon (at_lines (lines.lines-Exit p e) margin semicolon) (spelled.statement-Exit plain p e)
      (ending-start (start-after (Word ExitWord) refl refl refl (if-row h)))
  statement-sources (formed.run {place = p} {es = es} hs) margin semicolon =
      line-sources _ _ _ margin semicolon (at_lines (lines.lines-Run p es) margin semicolon) (spelled.statement-Run plain p es) (led RunWord (elements-start hs))
  statement-sources (formed.start {place = p} {es = es} hs) margin semicolon =
      line-sources _ _ _ margin semicolon (at_lines (lines.lines-Start p es) margin semicolon) (spelled.statement-Start plain p es) (led StartWord (elements-start hs))
  statement-sources (formed.finish {place = p} {e = e} {es = es} hs) margin semicolon =
      line-sources _ _ _ margin semicolon (at_lines (lines.lines-Finish p (e ∷ es)) margin semicolon) (spelled.statement-Finish plain p (e ∷ es))
      (led FinishWord (exprs-start hs))
  statement-sources (formed.write {place = p} {line = line} {text = text} {at = at} {es = es} hs) margin semicolon =
      line-sources _ _ _ margin semicolon (at_lines (lines.lines-Write p line text at es) margin semicolon) (spelled.statement-Write plain p line text at es)
      (write-ending line (row-round (within-start (start-after (Text text) refl refl refl (exprs-after hs)))))

  -- branches, each after its word
  branches-sources : {b d : ℕ} {bs : List Branch} → FormedBranches b d bs → (margin : ℕ) (k : Keyword)
      → Sources (led_lines margin (word k ∷ []) (word ElifWord ∷ []) (map branch_lines bs)) (Word k ∷ separated (Word ElifWord) (map spelled_branch bs))
  branches-sources (formed.one_branch {e = e} {block = block} h j) margin k = both (branch-sources e margin k (expr-start h) (inner-sources j margin)) nothing
  branches-sources (formed.branches {e = e} {block = block} {more = more} h j hs) margin k =
      sources_as refl (ap (λ us. (Word k ∷ spelled_branch (formed.branch e block)) ++ us) (branches_more hs))
      (both (branch-sources e margin k (expr-start h) (inner-sources j margin)) (branches-sources hs margin ElifWord))

  -- alternatives, the first after what its line begins with
  alternatives-sources : {b d : ℕ} {xs : List Alternative} → FormedAlternatives b d xs → (margin : ℕ) (first : Spots) (ts : Tokens) → Opens first ts
      → Sources (led_lines margin first (word AltWord ∷ []) (map alternative_lines xs)) (ts ++ separated (Word AltWord) (map spelled_alternative xs))
  alternatives-sources (formed.one_alternative {x = x} h) margin first ts o =
      sources_as refl (sym (append_assoc ts (spelled_alternative x) [])) (both (alternative-sources h margin first ts o) nothing)
  alternatives-sources (formed.alternatives {x = x} {more = more} h hs) margin first ts o =
      sources_as refl
      (sym (append_assoc ts (spelled_alternative x) (each_after (Word AltWord) (map spelled_alternative more)))
      ∙ ap (λ us. (ts ++ spelled_alternative x) ++ us) (alternatives_more hs))
      (both (alternative-sources h margin first ts o) (alternatives-sources hs margin (word AltWord ∷ []) (Word AltWord ∷ []) (word-opens AltWord)))

  alternative-sources : {b d : ℕ} {x : Alternative} → FormedAlternative b d x → (margin : ℕ) (first : Spots) (ts : Tokens) → Opens first ts
      → Sources (alternative_lines x margin first) (ts ++ spelled_alternative x)
  alternative-sources (formed.offer {guard = g} {c = c} h j) margin first ts o =
      sources_as (at_led (lines.lines-Guarded g c []) margin first)
      (ap (λ us. ts ++ us) (spelled.alternative-Guarded plain g c [] ∙ append-nil (guard_tokens g ++ spelled_communication c)))
      (one-plain margin (first ++ offer_spots g c) (ts ++ (guard_tokens g ++ spelled_communication c)) (o _ _ (offer-ending h j)))
  alternative-sources (formed.offer_block {guard = g} {c = c} {block = block} h j k) margin first ts o =
      sources_as (at_led (lines.lines-Guarded g c block) margin first ∙ lines_with_some margin (first ++ offer_spots g c) k)
      (ap (λ us. ts ++ us) (spelled.alternative-Guarded plain g c block ∙ ap (λ us. (guard_tokens g ++ spelled_communication c) ++ us) (body_some k))
      ∙ body_tokens_apart ts (guard_tokens g ++ spelled_communication c) (spelled_block block))
      (both (header-one margin (first ++ offer_spots g c) (ts ++ (guard_tokens g ++ spelled_communication c)) (o _ _ (offer-ending h j))) (let r = inner-sources k margin in r.are))
  alternative-sources (formed.unwind {place = p} {walk = w} {xs = xs} h hs) margin first ts o =
      sources_as (at_led (lines.lines-Unwind p w xs) margin first)
      (ap (λ us. ts ++ us) (spelled.alternative-Unwind plain p w xs)
      ∙ unwound_tokens ts (Word UnwindWord ∷ spelled_walk w) (separated (Word AltWord) (map spelled_alternative xs)))
      (both
      (both (header-one margin (first ++ word UnwindWord ∷ walk_spots w) (ts ++ Word UnwindWord ∷ spelled_walk w) (o _ _ (led UnwindWord (walk-start h))))
      (alternatives-sources hs (inside margin) [] [] nothing-opens))
      (end-one margin no_semicolon))
