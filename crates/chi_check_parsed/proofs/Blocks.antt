-- What the checker makes of the statements of a short source has short text literals.
use Rattle.std.proofs.Common.{◌≡◌, ℕ, Bool, true, false, ◌++◌, List, [], ◌∷◌, map, Option, Some, None, sym, ap, subst, ◌∙◌}
use Rattle.std.specs.Prelude.{option_map}
use Rattle.chi_token.specs.declared.place.Place.{Place}
use Rattle.chi_token.specs.declared.token.Token.TheVariants as token
use Rattle.chi_token.specs.declared.sign.Sign.TheVariants as sign
use Rattle.chi_token.specs.declared.keyword.Keyword.TheVariants as keyword
use Rattle.chi_tree.specs.declared.expr.Expr.{Expr}
use Rattle.chi_tree.specs.declared.statement.Alternative.{Alternative, Alternative-F, map-Alternative, out-Alternative, fold_out-Alternative}
use Rattle.chi_tree.specs.declared.statement.Alternative.TheVariants as alternative
use Rattle.chi_tree.specs.declared.statement.Branch.{Branch, fold-roll-Branch}
use Rattle.chi_tree.specs.declared.statement.Communication.{Communication}
use Rattle.chi_tree.specs.declared.statement.Element.{Element, Element-F, map-Element, out-Element, fold_out-Element}
use Rattle.chi_tree.specs.declared.statement.Element.TheVariants as element
use Rattle.chi_tree.specs.declared.statement.Statement.{Statement, Statement-F, map-Statement, out-Statement, fold_out-Statement}
use Rattle.chi_tree.specs.declared.statement.Statement.TheVariants as statement
use Rattle.chi_tree.specs.declared.statement.Step.{Step, fold-roll-Step}
use Rattle.chi_tree.specs.declared.statement.Walk.{Walk}
use Rattle.chi_tree.specs.Statements.{step}
use Rattle.chi_tree_spell.specs.Words.{Tokens, if_any, all, each_after, separated}
use Rattle.chi_tree_spell.specs.Marks.{plain}
use Rattle.chi_tree_spell.specs.Expressions.{spelled_expr}
use Rattle.chi_tree_spell.specs.Statements as spell
use Rattle.chi_tree_spell.specs.Statements.{spelled_element, spelled_elements, spelled_statement, spelled_step, spelled_branch, spelled_alternative, spelled_walk, spelled_communication, semicolon_if, guard_tokens}
use Rattle.chi_tree_laws.specs.Expressions.{FormedExpr, FormedIfAny}
use Rattle.chi_tree_laws.specs.Levels as level
use Rattle.chi_tree_laws.specs.Statements as formed
use Rattle.chi_tree_laws.specs.Statements.{FormedWalk, FormedCommunication, FormedElement, FormedElements, FormedBlock, FormedInner, FormedStatement, FormedBranches, FormedAlternatives, FormedAlternative}
use Rattle.chi_core.specs.declared.element.CElem.{CElem}
use Rattle.chi_core.specs.declared.element.CElem.TheVariants as made_element
use Rattle.chi_core.specs.declared.expression.CExpr.{CExpr}
use Rattle.chi_core.specs.declared.statement.Branch.{Branch as CBranch, out-roll-Branch}
use Rattle.chi_core.specs.declared.statement.CAlt.{CAlt}
use Rattle.chi_core.specs.declared.statement.CAlt.TheVariants as made_offer
use Rattle.chi_core.specs.declared.statement.CStat.{CStat}
use Rattle.chi_core.specs.declared.statement.CStat.TheVariants as made
use Rattle.chi_check_types.specs.Typed.{Typed, unless}
use Rattle.chi_check_laws.specs.Below.chi_check_stat_rules.specs.declared.home.Home.{Home}
use Rattle.chi_check_laws.specs.Below.chi_check_stat_rules.specs.Endings.{loop_rule}
use Rattle.chi_check_laws.specs.Below.chi_check_stat_rules.specs.Homes.{running_rule}
use Rattle.chi_check_expr.proofs.Kept.{Each, IfGiven}
use Rattle.chi_check_laws.specs.Below.chi_check_stat_lines.specs.declared.state.Binder.TheVariants as binder
use Rattle.chi_check_laws.specs.Below.chi_check_stat_lines.specs.declared.state.Opened.{Opened}
use Rattle.chi_check_laws.specs.Below.chi_check_stat_lines.specs.declared.state.State.{State}
use Rattle.chi_check_laws.specs.Below.chi_check_stat_lines.specs.Stated.{Turn, both, in_turn, alone}
use Rattle.chi_check_laws.specs.Below.chi_check_stat_lines.specs.States.{block, Going, each_in}
use Rattle.chi_check_laws.specs.Below.chi_check_stat_lines.specs.Values.{test_in, guard_in, assignment_in}
use Rattle.chi_check_laws.specs.Below.chi_check_stat_lines.specs.Declarations.{walk_in}
use Rattle.chi_check_laws.specs.Below.chi_check_stat_lines.specs.Lines.{communication_in, communicating, element_in, return_in, exit_in, finish_in, write_in}
use Rattle.chi_check_laws.specs.Below.chi_check_stat_lines.specs.Blocks.{offers, runs, starts}
use Rattle.chi_check_laws.specs.Below.chi_check_stat.specs.Statements as check
use Rattle.chi_check_laws.specs.Below.chi_check_stat.specs.Statements.{starting, stating, stepping, branching, offering, stepping_in, stating_all}
use Rattle.chi_check_laws.proofs.Layers.{statement_short, alternative_short, branch_short, element_short}
use Rattle.chi_check_laws.specs.Texts.{statement_texts, branch_texts, alternative_texts, element_texts}
use Rattle.chi_check_parsed.proofs.Tokens.{AllFit, fit_left, fit_right}
use Rattle.chi_check_parsed.proofs.Short.{on_map, on_then, unless_on, Short, both_true}
use Rattle.chi_check_parsed.proofs.Lines.{ShortIfAny, CommunicationShort, StatementShort, BranchShort, OfferShort, MakeShort, all_mapped, if_any_true}
use Rattle.chi_check_parsed.proofs.Parts as part
use Rattle.chi_check_parsed.proofs.Parts.{TurnShort, OpenShort, both_on, one_of, held_on, turns_short, after_each, test_short, guard_short, walk_short, communication_short, communicating_short, assignment_short, declaration_short, made_element, assigned_element, write_short, return_short, exit_short, finish_short}

-- where a loop stands around it or not
abbrev pub GoesShort : {A : Type 0} → (A → Type 0) → Going A → Type 0
GoesShort P g = (loop : Bool) → TurnShort P (g loop)

all_in : {A : Type 0} (P : A → Type 0) (loop : Bool) (gs : List (Going A)) → Each (GoesShort P) gs → Each (TurnShort P) (each_in loop gs)
all_in P loop [] h = tt
all_in P loop (g ∷ gs) h = (h.0 loop, all_in P loop gs h.1)

pub in_turn_short : {A : Type 0} (P : A → Type 0) (loop : Bool) (gs : List (Going A)) → Each (GoesShort P) gs → TurnShort P (in_turn (each_in loop gs))
in_turn_short P loop gs h = turns_short P (each_in loop gs) (all_in P loop gs h)

pub alone_short : {A : Type 0} (P : A → Type 0) (s : State) (t : Typed A) → IfGiven P t.made → IfGiven (Each P) (alone s t).made
alone_short P s t h = one_of P t.made h

-- ---- what statements with blocks come to

choose_short : (line : ℕ) (bs : List CBranch) (xs : List CStat) → Each BranchShort bs → Each StatementShort xs → StatementShort (made.If line bs xs)
choose_short line bs xs h k = statement_short _ _ (made.outs-If line bs xs) ∙ both_true _ _ (all_mapped branch_texts bs h) (all_mapped statement_texts xs k)

while_short : (line : ℕ) (e : CExpr) (xs : List CStat) → Short e → Each StatementShort xs → StatementShort (made.While line e xs)
while_short line e xs h k = statement_short _ _ (made.outs-While line e xs) ∙ both_true _ _ h (all_mapped statement_texts xs k)

for_short : (line : ℕ) (o : Opened) (xs : List CStat) → OpenShort o → Each StatementShort xs → StatementShort (made.For line o.slots o.container xs)
for_short line o xs h k = statement_short _ _ (made.outs-For line o.slots o.container xs) ∙ both_true _ _ h (all_mapped statement_texts xs k)

select_short : (line : ℕ) (xs : List CAlt) → Each OfferShort xs → StatementShort (made.Select line xs)
select_short line xs h = statement_short _ _ (made.outs-Select line xs) ∙ all_mapped alternative_texts xs h

run_short : (line : ℕ) (xs : List CElem) → Each MakeShort xs → StatementShort (made.Run line xs)
run_short line xs h = statement_short _ _ (made.outs-Run line xs) ∙ all_mapped element_texts xs h

start_short : (line : ℕ) (xs : List CElem) → Each MakeShort xs → StatementShort (made.Start line xs)
start_short line xs h = statement_short _ _ (made.outs-Start line xs) ∙ all_mapped element_texts xs h

branch_made : (e : CExpr) (xs : List CStat) → Short e → Each StatementShort xs → BranchShort (record { test = e; block = xs })
branch_made e xs h k = branch_short _ _ (out-roll-Branch _) ∙ both_true _ _ h (all_mapped statement_texts xs k)

-- ---- statements

module _ (home : Home) where
  abbrev MakesShort : Element → Type 0
  MakesShort x = AllFit (spelled_element x) → TurnShort MakeShort (starting home x)

  abbrev StatesShort : Statement → Type 0
  StatesShort x = AllFit (spelled_statement x) → GoesShort StatementShort (stating home x)

  abbrev OffersShort : Alternative → Type 0
  OffersShort x = AllFit (spelled_alternative x) → GoesShort OfferShort (offering home x)

  -- ---- by the outermost layers

  at_element : (x : Element) (o : Element-F Element) → out-Element x ≡ o
      → (AllFit (spell.element_step plain (map-Element Element Tokens spelled_element o)) → TurnShort MakeShort (check.element_step home (map-Element Element (Turn State CElem) (starting home) o))) → MakesShort x
  at_element x o h k fit =
      subst (TurnShort MakeShort) (sym (fold_out-Element (Turn State CElem) (check.element_step home) x ∙ ap (λ o. check.element_step home (map-Element Element (Turn State CElem) (starting home) o)) h))
      (k (subst AllFit (fold_out-Element Tokens (spell.element_step plain) x ∙ ap (λ o. spell.element_step plain (map-Element Element Tokens spelled_element o)) h) fit))

  abbrev pub statement_tokens : Statement-F Alternative Statement Branch Step → Tokens
  statement_tokens o = spell.statement_step plain (map-Statement Alternative Statement Branch Step Tokens Tokens Tokens Tokens spelled_alternative spelled_statement spelled_branch spelled_step o)

  abbrev statement_made : Statement-F Alternative Statement Branch Step → Going CStat
  statement_made o = check.statement_step home (map-Statement Alternative Statement Branch Step (Going CAlt) (Going CStat) (Going CBranch) (Going CStat) (offering home) (stating home) (branching home) (stepping home) o)

  stating_is : (x : Statement) (o : Statement-F Alternative Statement Branch Step) → out-Statement x ≡ o → stating home x ≡ statement_made o
  unfolding stating stepping branching offering
  stating_is x o h = fold_out-Statement (Going CAlt) (Going CStat) (Going CBranch) (Going CStat) (check.alternative_step home) (check.statement_step home) (check.branch_step home) (check.step_step home) x ∙ ap statement_made h

  pub spelled_is : (x : Statement) (o : Statement-F Alternative Statement Branch Step) → out-Statement x ≡ o → spelled_statement x ≡ statement_tokens o
  spelled_is x o h = fold_out-Statement Tokens Tokens Tokens Tokens (spell.alternative_step plain) (spell.statement_step plain) (spell.branch_step plain) (spell.step_step plain) x ∙ ap statement_tokens h

  at_statement : (x : Statement) (o : Statement-F Alternative Statement Branch Step) → out-Statement x ≡ o → (AllFit (statement_tokens o) → GoesShort StatementShort (statement_made o)) → StatesShort x
  at_statement x o h k fit = subst (GoesShort StatementShort) (sym (stating_is x o h)) (k (subst AllFit (spelled_is x o h) fit))

  abbrev alternative_tokens : Alternative-F Alternative Statement Branch Step → Tokens
  alternative_tokens o = spell.alternative_step plain (map-Alternative Alternative Statement Branch Step Tokens Tokens Tokens Tokens spelled_alternative spelled_statement spelled_branch spelled_step o)

  abbrev alternative_made : Alternative-F Alternative Statement Branch Step → Going CAlt
  alternative_made o = check.alternative_step home (map-Alternative Alternative Statement Branch Step (Going CAlt) (Going CStat) (Going CBranch) (Going CStat) (offering home) (stating home) (branching home) (stepping home) o)

  offering_is : (x : Alternative) (o : Alternative-F Alternative Statement Branch Step) → out-Alternative x ≡ o → offering home x ≡ alternative_made o
  unfolding stating stepping branching offering
  offering_is x o h = fold_out-Alternative (Going CAlt) (Going CStat) (Going CBranch) (Going CStat) (check.alternative_step home) (check.statement_step home) (check.branch_step home) (check.step_step home) x ∙ ap alternative_made h

  at_alternative : (x : Alternative) (o : Alternative-F Alternative Statement Branch Step) → out-Alternative x ≡ o → (AllFit (alternative_tokens o) → GoesShort OfferShort (alternative_made o)) → OffersShort x
  at_alternative x o h k fit = subst (GoesShort OfferShort) (sym (offering_is x o h))
      (k (subst AllFit (fold_out-Alternative Tokens Tokens Tokens Tokens (spell.alternative_step plain) (spell.statement_step plain) (spell.branch_step plain) (spell.step_step plain) x ∙ ap alternative_tokens h) fit))

  stepping_is : (s : Statement) (semicolon : Bool) → stepping home (step s semicolon) ≡ stating home s
  unfolding stating stepping branching offering
  stepping_is s semicolon = fold-roll-Step (Going CAlt) (Going CStat) (Going CBranch) (Going CStat) (check.alternative_step home) (check.statement_step home) (check.branch_step home) (check.step_step home) (record { statement = s; semicolon = semicolon })

  pub step_spelled : (s : Statement) (semicolon : Bool) → spelled_step (step s semicolon) ≡ spelled_statement s ++ semicolon_if semicolon
  step_spelled s semicolon = fold-roll-Step Tokens Tokens Tokens Tokens (spell.alternative_step plain) (spell.statement_step plain) (spell.branch_step plain) (spell.step_step plain) (record { statement = s; semicolon = semicolon })

  step_short : (s : Statement) (semicolon : Bool) → StatesShort s → AllFit (spelled_step (step s semicolon)) → GoesShort StatementShort (stepping home (step s semicolon))
  step_short s semicolon h fit = subst (GoesShort StatementShort) (sym (stepping_is s semicolon)) (h (fit_left (spelled_statement s) (semicolon_if semicolon) (subst AllFit (step_spelled s semicolon) fit)))

  branching_is : (e : Expr) (xs : List Step) → branching home (formed.branch e xs) ≡ check.branch_step home (record { condition = e; block = map (stepping home) xs })
  unfolding stating stepping branching offering
  branching_is e xs = fold-roll-Branch (Going CAlt) (Going CStat) (Going CBranch) (Going CStat) (check.alternative_step home) (check.statement_step home) (check.branch_step home) (check.step_step home) (record { condition = e; block = xs })

  pub branch_spelled : (e : Expr) (xs : List Step) → spelled_branch (formed.branch e xs) ≡ spelled_expr e ++ token.Sign sign.Colon ∷ all (map spelled_step xs)
  branch_spelled e xs = fold-roll-Branch Tokens Tokens Tokens Tokens (spell.alternative_step plain) (spell.statement_step plain) (spell.branch_step plain) (spell.step_step plain) (record { condition = e; block = xs })

  -- ---- elements

  -- a walk, and what stands between its colon and its end
  walk_parts : (walk : Walk) (inner : Tokens) → AllFit (spelled_walk walk ++ token.Sign sign.Colon ∷ inner ++ token.Word keyword.EndWord ∷ []) → AllFit (spelled_walk walk) × AllFit inner
  walk_parts walk inner fit =
      let both = fit_left (spelled_walk walk ++ token.Sign sign.Colon ∷ inner) (token.Word keyword.EndWord ∷ []) fit in
      (fit_left (spelled_walk walk) (token.Sign sign.Colon ∷ inner) both, (fit_right (spelled_walk walk) (token.Sign sign.Colon ∷ inner) both).1)

  unwound_short : (place : Place) (d : ℕ) (walk : Walk) (fs : List (Turn State CElem)) → FormedWalk d walk → AllFit (spelled_walk walk) → Each (TurnShort MakeShort) fs → TurnShort MakeShort (check.element_step home (Element-F.Unwind place walk fs))
  unwound_short place d walk fs f fit h s =
      let w = walk_in home binder.Unwind walk s in
      both_on OpenShort (Each MakeShort) (Each MakeShort) (λ w es. made_element.Unwind w.slots w.container es ∷ []) w.made (in_turn fs w.next).made
      (λ o xs h k. (element_short _ _ (made_element.outs-Unwind o.slots o.container xs) ∙ both_true _ _ h (all_mapped element_texts xs k), tt))
      (walk_short home binder.Unwind d walk f fit s) (turns_short MakeShort fs h w.next)

  mutual
    element_makes : (ends : Bool) (b d : ℕ) (x : Element) → FormedElement ends b d x → MakesShort x
    element_makes _ _ _ _ (formed.make {d = d} {name = name} {es = es} f) = at_element _ _ (element.outs-Make None name es) (λ fit s. alone_short MakeShort s (element_in home s.names None name es) (part.made_element home s.names d name es f fit))
    element_makes _ _ _ _ (formed.assigned_make {d = d} {target = t} {name = name} {es = es} g f) = at_element _ _ (element.outs-Make (Some t) name es) (λ fit s. alone_short MakeShort s (element_in home s.names (Some t) name es) (assigned_element home s.names _ d t name es g f fit))
    element_makes _ _ _ _ (formed.unwind_elements {b = b} {d = d} {ends = ends} {place = place} {walk = walk} {es = es} w f) = at_element _ _ (element.outs-Unwind place walk es) (λ fit.
        let parts = walk_parts walk (separated (token.Sign sign.Comma) (map spelled_element es)) fit.1 in
        unwound_short place d walk (map (starting home) es) w parts.0 (elements_make ends b d es f (after_each (token.Sign sign.Comma) tt (map spelled_element es) parts.1)))

    elements_make : (ends : Bool) (b d : ℕ) (xs : List Element) → FormedElements ends b d xs → AllFit (each_after (token.Sign sign.Comma) (map spelled_element xs)) → Each (TurnShort MakeShort) (map (starting home) xs)
    elements_make _ _ _ _ (formed.one_element {ends = ends} {b = b} {d = d} {e = x} f) fit = (element_makes ends b d x f (fit_left (spelled_element x) _ fit.1), tt)
    elements_make _ _ _ _ (formed.elements {middle = middle} {ends = ends} {b = b} {d = d} {e = x} {more = xs} f fs) fit =
        (element_makes middle b d x f (fit_left (spelled_element x) _ fit.1), elements_make ends b d xs fs (fit_right (spelled_element x) _ fit.1))

  all_elements : (ends : Bool) (b d : ℕ) (xs : List Element) → FormedElements ends b d xs → AllFit (spelled_elements xs) → Each (TurnShort MakeShort) (map (starting home) xs)
  all_elements ends b d xs f fit = elements_make ends b d xs f (after_each (token.Sign sign.Comma) tt (map spelled_element xs) fit)

  -- ---- blocks after what stands before them

  body_fits : (xs : List Step) → AllFit (spell.put_body plain (map spelled_step xs)) → AllFit (all (map spelled_step xs))
  body_fits [] fit = tt
  body_fits (x ∷ xs) fit = fit.1

  pub else_fits : (xs : List Step) → AllFit (spell.else_tokens (map spelled_step xs)) → AllFit (all (map spelled_step xs))
  else_fits [] fit = tt
  else_fits (x ∷ xs) fit = fit.1.1

  guard_fits : (guard : Option Expr) → AllFit (guard_tokens guard) → AllFit (if_any (option_map spelled_expr guard))
  guard_fits None fit = tt
  guard_fits (Some e) fit = fit_left (spelled_expr e) _ fit

  guarded_short : (d : ℕ) (guard : Option Expr) (c : Communication) (xs : List Step) → FormedIfAny d guard → FormedCommunication d c
      → (AllFit (all (map spelled_step xs)) → Each (GoesShort StatementShort) (map (stepping home) xs)) → OffersShort (alternative.Guarded guard c xs)
  guarded_short d guard c xs g f inner = at_alternative _ _ (alternative.outs-Guarded guard c xs) (λ fit loop s.
      let body = spell.put_body plain (map spelled_step xs) in
      let front = fit_left (guard_tokens guard ++ spelled_communication c) body fit in
      let gs = map (stepping home) xs in
      let h = guard_short home s.names d guard g (guard_fits guard (fit_left (guard_tokens guard) (spelled_communication c) front)) in
      let k = communication_short home s.names d c f (fit_right (guard_tokens guard) (spelled_communication c) front) in
      let l = in_turn_short StatementShort loop gs (inner (body_fits xs (fit_right (guard_tokens guard ++ spelled_communication c) body fit))) s in
      let offer = (communication_in home s.names c).made in
      let made = (block (each_in loop gs) s).made in
      on_then ShortIfAny (Each OfferShort) (λ g. both (λ c b. made_offer.Guarded g c b ∷ []) offer made) (guard_in home s.names guard).made
      (λ g h. both_on CommunicationShort (Each StatementShort) (Each OfferShort) (λ c b. made_offer.Guarded g c b ∷ []) offer made
      (λ c b k l. (alternative_short _ _ (made_offer.outs-Guarded g c b) ∙ both_true _ _ (if_any_true g h) (both_true _ _ k (all_mapped statement_texts b l)), tt)) k l) h)

  branch_chooses : (d : ℕ) (e : Expr) (xs : List Step) → FormedExpr level.Expr d e → (AllFit (all (map spelled_step xs)) → Each (GoesShort StatementShort) (map (stepping home) xs))
      → AllFit (spelled_branch (formed.branch e xs)) → GoesShort BranchShort (branching home (formed.branch e xs))
  branch_chooses d e xs f inner fit =
      let own = subst AllFit (branch_spelled e xs) fit in
      let rest = fit_right (spelled_expr e) (token.Sign sign.Colon ∷ all (map spelled_step xs)) own in
      subst (GoesShort BranchShort) (sym (branching_is e xs)) (λ loop s.
      both_on Short (Each StatementShort) (Each BranchShort) (λ test inner. record { test = test; block = inner } ∷ []) (test_in home s.names e).made (block (each_in loop (map (stepping home) xs)) s).made (λ e xs h k. (branch_made e xs h k, tt))
      (test_short home s.names d e f (fit_left (spelled_expr e) _ own)) (in_turn_short StatementShort loop (map (stepping home) xs) (inner rest.1) s))

  -- ---- all statements

  mutual
    block_short : (b d : ℕ) (xs : List Step) → FormedBlock b d xs → AllFit (all (map spelled_step xs)) → Each (GoesShort StatementShort) (map (stepping home) xs)
    block_short _ _ _ (formed.last {ends = ends} {semicolon = semicolon} {b = b} {d = d} {s = s} f) fit = (step_short s semicolon (statement_states ends b d s f) (fit_left (spelled_step (step s semicolon)) _ fit), tt)
    block_short _ _ _ (formed.next {ends = ends} {b = b} {d = d} {s = s} {more = more} f fs) fit =
        (step_short s true (statement_states ends b d s f) (fit_left (spelled_step (step s true)) _ fit), block_short b d more fs (fit_right (spelled_step (step s true)) _ fit))
    block_short _ _ _ (formed.after_end {b = b} {d = d} {s = s} {more = more} f fs) fit =
        (step_short s false (statement_states true b d s f) (fit_left (spelled_step (step s false)) _ fit), block_short b d more fs (fit_right (spelled_step (step s false)) _ fit))

    inner_short : (b d : ℕ) (xs : List Step) → FormedInner b d xs → AllFit (all (map spelled_step xs)) → Each (GoesShort StatementShort) (map (stepping home) xs)
    inner_short _ _ _ (formed.inner {b = b} {d = d} {block = xs} f) fit = block_short b d xs f fit

    statement_states : (ends : Bool) (b d : ℕ) (x : Statement) → FormedStatement ends b d x → StatesShort x
    statement_states _ _ _ _ (formed.declare {d = d} {t = t} {vs = vs} f g) = at_statement _ _ (statement.outs-Declare t vs) (λ fit loop. declaration_short home d t vs f g fit)
    statement_states _ _ _ _ (formed.assign {d = d} {ts = ts} {place = place} {e = e} {es = es} f g) = at_statement _ _ (statement.outs-Assign ts place (e ∷ es)) (λ fit loop s. alone_short StatementShort s (assignment_in home s.names ts place (e ∷ es)) (assignment_short home s.names d ts place (e ∷ es) f g fit))
    statement_states _ _ _ _ (formed.communicate {d = d} {c = c} f) = at_statement _ _ (statement.outs-Communicate c) (λ fit loop s. alone_short StatementShort s (communicating home s.names c) (communicating_short home s.names d c f fit))
    statement_states _ _ _ _ (formed.pass {place = place}) = at_statement _ _ (statement.outs-Pass place) (λ fit loop s. alone_short StatementShort s (unless [] (made.Pass place.line)) (statement_short _ _ (made.outs-Pass place.line)))
    statement_states _ _ _ _ (formed.leave {place = place}) = at_statement _ _ (statement.outs-Break place) (λ fit loop s. alone_short StatementShort s (unless (loop_rule loop place) (made.Break place.line)) (unless_on StatementShort (loop_rule loop place) (made.Break place.line) (statement_short _ _ (made.outs-Break place.line))))
    statement_states _ _ _ _ (formed.continue {place = place}) = at_statement _ _ (statement.outs-Continue place) (λ fit loop s. alone_short StatementShort s (unless (loop_rule loop place) (made.Continue place.line)) (unless_on StatementShort (loop_rule loop place) (made.Continue place.line) (statement_short _ _ (made.outs-Continue place.line))))
    statement_states _ _ _ _ (formed.select {b = b} {d = d} {place = place} {xs = xs} f) = at_statement _ _ (statement.outs-Select place xs) (λ fit loop s.
        let inner = alternatives_offer b d xs f (after_each (token.Word keyword.AltWord) tt (map spelled_alternative xs) (fit_left (separated (token.Word keyword.AltWord) (map spelled_alternative xs)) _ fit.1)) in
        let turn = in_turn (each_in loop (map (offering home) xs)) s in
        held_on (Each StatementShort) (running_rule home place) (record { next = turn.next; faults = turn.faults; made = offers place.line turn.made })
        (on_map (Each OfferShort) (Each StatementShort) (λ each. made.Select place.line each ∷ []) turn.made (λ xs h. (select_short place.line xs h, tt)) (in_turn_short OfferShort loop (map (offering home) xs) inner s)))
    statement_states _ _ _ _ (formed.if_branches {b = b} {d = d} {place = place} {bs = bs} f) = at_statement _ _ (statement.outs-If place bs []) (λ fit loop s.
        let chosen = separated (token.Word keyword.ElifWord) (map spelled_branch bs) in
        let front = fit_left (chosen ++ []) (token.Word keyword.EndWord ∷ []) fit.1 in
        let first = branches_choose b d bs f (after_each (token.Word keyword.ElifWord) tt (map spelled_branch bs) (fit_left chosen [] front)) in
        both_on (Each BranchShort) (Each StatementShort) (Each StatementShort) (λ bs xs. made.If place.line bs xs ∷ []) (in_turn (each_in loop (map (branching home) bs)) s).made (Some []) (λ bs xs h k. (choose_short place.line bs xs h k, tt))
        (in_turn_short BranchShort loop (map (branching home) bs) first s) tt)
    statement_states _ _ _ _ (formed.if_else {b = b} {d = d} {place = place} {bs = bs} {block = xs} f g) = at_statement _ _ (statement.outs-If place bs xs) (λ fit loop s.
        let chosen = separated (token.Word keyword.ElifWord) (map spelled_branch bs) in
        let otherwise = spell.else_tokens (map spelled_step xs) in
        let front = fit_left (chosen ++ otherwise) (token.Word keyword.EndWord ∷ []) fit.1 in
        let first = branches_choose b d bs f (after_each (token.Word keyword.ElifWord) tt (map spelled_branch bs) (fit_left chosen otherwise front)) in
        let last = inner_short b d xs g (else_fits xs (fit_right chosen otherwise front)) in
        let turn = in_turn (each_in loop (map (branching home) bs)) s in
        both_on (Each BranchShort) (Each StatementShort) (Each StatementShort) (λ bs xs. made.If place.line bs xs ∷ []) turn.made (block (each_in loop (map (stepping home) xs)) turn.next).made (λ bs xs h k. (choose_short place.line bs xs h k, tt))
        (in_turn_short BranchShort loop (map (branching home) bs) first s) (in_turn_short StatementShort loop (map (stepping home) xs) last turn.next))
    statement_states _ _ _ _ (formed.while {b = b} {d = d} {place = place} {e = e} {block = xs} f g) = at_statement _ _ (statement.outs-While place e xs) (λ fit loop s.
        let rest = fit_right (spelled_expr e) _ fit.1 in
        let inner = inner_short b d xs g (fit_left (all (map spelled_step xs)) _ rest.1) in
        both_on Short (Each StatementShort) (Each StatementShort) (λ test inner. made.While place.line test inner ∷ []) (test_in home s.names e).made (block (each_in true (map (stepping home) xs)) s).made (λ e xs h k. (while_short place.line e xs h k, tt))
        (test_short home s.names d e f (fit_left (spelled_expr e) _ fit.1)) (in_turn_short StatementShort true (map (stepping home) xs) inner s))
    statement_states _ _ _ _ (formed.for_each {b = b} {d = d} {place = place} {walk = walk} {block = xs} f g) = at_statement _ _ (statement.outs-For place walk xs) (λ fit loop s.
        let rest = fit_right (spelled_walk walk) _ fit.1 in
        let inner = inner_short b d xs g (fit_left (all (map spelled_step xs)) _ rest.1) in
        both_on OpenShort (Each StatementShort) (Each StatementShort) (λ w inner. made.For place.line w.slots w.container inner ∷ []) (walk_in home binder.Variable walk s).made (in_turn (each_in true (map (stepping home) xs)) (walk_in home binder.Variable walk s).next).made (λ o xs h k. (for_short place.line o xs h k, tt))
        (walk_short home binder.Variable d walk f (fit_left (spelled_walk walk) _ fit.1) s) (in_turn_short StatementShort true (map (stepping home) xs) inner (walk_in home binder.Variable walk s).next))
    statement_states _ _ _ _ (formed.return {d = d} {place = place} {e = e} f) = at_statement _ _ (statement.outs-Return place e) (λ fit loop s. alone_short StatementShort s (return_in home s.names place e) (return_short home s.names place d e f fit.1))
    statement_states _ _ _ _ (formed.exit {d = d} {place = place} {e = e} f) = at_statement _ _ (statement.outs-Exit place e) (λ fit loop s. alone_short StatementShort s (exit_in home s.names place e) (exit_short home s.names place d e f fit.1))
    statement_states _ _ _ _ (formed.run {ends = ends} {b = b} {d = d} {place = place} {es = es} f) = at_statement _ _ (statement.outs-Run place es) (λ fit loop s.
        let turn = in_turn (map (starting home) es) s in
        held_on (Each StatementShort) (running_rule home place) (record { next = turn.next; faults = turn.faults; made = runs place.line turn.made })
        (on_map (Each MakeShort) (Each StatementShort) (λ each. made.Run place.line each ∷ []) turn.made (λ xs h. (run_short place.line xs h, tt)) (turns_short MakeShort (map (starting home) es) (all_elements ends b d es f fit.1) s)))
    statement_states _ _ _ _ (formed.start {ends = ends} {b = b} {d = d} {place = place} {es = es} f) = at_statement _ _ (statement.outs-Start place es) (λ fit loop s.
        let turn = in_turn (map (starting home) es) s in
        held_on (Each StatementShort) (running_rule home place) (record { next = turn.next; faults = turn.faults; made = starts place.line turn.made })
        (on_map (Each MakeShort) (Each StatementShort) (λ each. made.Start place.line each ∷ []) turn.made (λ xs h. (start_short place.line xs h, tt)) (turns_short MakeShort (map (starting home) es) (all_elements ends b d es f fit.1) s)))
    statement_states _ _ _ _ (formed.finish {d = d} {place = place} {e = e} {es = es} f) = at_statement _ _ (statement.outs-Finish place (e ∷ es)) (λ fit loop s. alone_short StatementShort s (finish_in home s.names place (e ∷ es)) (finish_short home s.names place d (e ∷ es) f fit.1))
    statement_states _ _ _ _ (formed.write {d = d} {place = place} {line = line} {text = text} {at = at} {es = es} f) = at_statement _ _ (statement.outs-Write place line text at es) (λ fit loop s.
        alone_short StatementShort s (write_in home s.names place line text at es) (write_short home s.names place line text at d es f (fit_left (each_after (token.Sign sign.Comma) (map spelled_expr es)) _ fit.1.1.1)))

    branches_choose : (b d : ℕ) (xs : List Branch) → FormedBranches b d xs → AllFit (each_after (token.Word keyword.ElifWord) (map spelled_branch xs)) → Each (GoesShort BranchShort) (map (branching home) xs)
    branches_choose _ _ _ (formed.one_branch {b = b} {d = d} {e = e} {block = xs} f g) fit = (branch_chooses d e xs f (inner_short b d xs g) (fit_left (spelled_branch (formed.branch e xs)) _ fit.1), tt)
    branches_choose _ _ _ (formed.branches {b = b} {d = d} {e = e} {block = xs} {more = more} f g fs) fit =
        (branch_chooses d e xs f (inner_short b d xs g) (fit_left (spelled_branch (formed.branch e xs)) _ fit.1), branches_choose b d more fs (fit_right (spelled_branch (formed.branch e xs)) _ fit.1))

    alternatives_offer : (b d : ℕ) (xs : List Alternative) → FormedAlternatives b d xs → AllFit (each_after (token.Word keyword.AltWord) (map spelled_alternative xs)) → Each (GoesShort OfferShort) (map (offering home) xs)
    alternatives_offer _ _ _ (formed.one_alternative {b = b} {d = d} {x = x} f) fit = (alternative_offers b d x f (fit_left (spelled_alternative x) _ fit.1), tt)
    alternatives_offer _ _ _ (formed.alternatives {b = b} {d = d} {x = x} {more = xs} f fs) fit = (alternative_offers b d x f (fit_left (spelled_alternative x) _ fit.1), alternatives_offer b d xs fs (fit_right (spelled_alternative x) _ fit.1))

    alternative_offers : (b d : ℕ) (x : Alternative) → FormedAlternative b d x → OffersShort x
    alternative_offers _ _ _ (formed.offer {d = d} {guard = guard} {c = c} g f) = guarded_short d guard c [] g f (λ fit. tt)
    alternative_offers _ _ _ (formed.offer_block {b = b} {d = d} {guard = guard} {c = c} {block = xs} g f k) = guarded_short d guard c xs g f (inner_short b d xs k)
    alternative_offers _ _ _ (formed.unwind {b = b} {d = d} {place = place} {walk = walk} {xs = xs} w f) = at_alternative _ _ (alternative.outs-Unwind place walk xs) (λ fit loop s.
        let parts = walk_parts walk (separated (token.Word keyword.AltWord) (map spelled_alternative xs)) fit.1 in
        let inner = alternatives_offer b d xs f (after_each (token.Word keyword.AltWord) tt (map spelled_alternative xs) parts.1) in
        both_on OpenShort (Each OfferShort) (Each OfferShort) (λ w inner. made_offer.Unwind w.slots w.container inner ∷ []) (walk_in home binder.Unwind walk s).made (in_turn (each_in loop (map (offering home) xs)) (walk_in home binder.Unwind walk s).next).made
        (λ o xs h k. (alternative_short _ _ (made_offer.outs-Unwind o.slots o.container xs) ∙ both_true _ _ h (all_mapped alternative_texts xs k), tt))
        (walk_short home binder.Unwind d walk w parts.0 s) (in_turn_short OfferShort loop (map (offering home) xs) inner (walk_in home binder.Unwind walk s).next))

  -- ---- bodies

  stepping_all : (loop : Bool) (xs : List Step) → Each (GoesShort StatementShort) (map (stepping home) xs) → Each (TurnShort StatementShort) (map (stepping_in home loop) xs)
  stepping_all loop [] h = tt
  stepping_all loop (x ∷ xs) h = (h.0 loop, stepping_all loop xs h.1)

  pub body_short : (b d : ℕ) (xs : List Step) → FormedInner b d xs → AllFit (all (map spelled_step xs)) → (loop : Bool) → TurnShort StatementShort (stating_all home loop xs)
  body_short b d xs f fit loop = turns_short StatementShort (map (stepping_in home loop) xs) (stepping_all loop xs (inner_short b d xs f fit))
