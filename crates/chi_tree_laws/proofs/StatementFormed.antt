-- What the grammar builds as a statement is shown as a formed one: part by part.
use Rattle.std.proofs.Common.{◌≡◌, ℕ, Bool, false, List, ◌∷◌, Some, None, refl, ap, sym, ◌∙◌, subst}
use Rattle.chi_grammar.specs.declared.room.Nesting.TheVariants as nesting
use Rattle.chi_grammar.specs.declared.room.Room.{Room}
use Rattle.chi_grammar.specs.Rooms.{IsInside}
use Rattle.chi_grammar.specs.Rules.{Rule, leaf, node, part, ◌▸◌, maybe, many}
use Rattle.chi_token.specs.declared.keyword.Keyword.TheVariants.{AltWord}
use Rattle.chi_token.specs.declared.place.Place.{Place}
use Rattle.chi_token.specs.declared.place.Spanned.{Spanned}
use Rattle.chi_token.specs.declared.sign.Sign.TheVariants.{Comma}
use Rattle.chi_tree.specs.declared.type_tree.Name.{Name}
use Rattle.chi_tree.specs.declared.expr.Expr.{Expr}
use Rattle.chi_tree.specs.declared.expr.Postfix.{Postfix}
use Rattle.chi_tree.specs.declared.statement.Target.{Target}
use Rattle.chi_tree.specs.declared.statement.Variable.{Variable}
use Rattle.chi_tree.specs.declared.statement.Walk.{Walk}
use Rattle.chi_tree.specs.declared.statement.Element.{Element, Element-F, out-Element, roll-Element, out-roll-Element}
use Rattle.chi_tree.specs.declared.statement.Element.TheVariants as element
use Rattle.chi_tree.specs.declared.statement.Branch.{Branch}
use Rattle.chi_tree.specs.declared.statement.Alternative.{Alternative}
use Rattle.chi_tree.specs.declared.statement.Statement.{Statement}
use Rattle.chi_tree.specs.declared.statement.Statement.TheVariants as statement
use Rattle.chi_tree.specs.declared.statement.Step.{Step}
use Rattle.chi_tree.specs.Classes.{class_of, number_of}
use Rattle.chi_tree.specs.Parts.{Part}
use Rattle.chi_tree.specs.Parts as s
use Rattle.chi_tree.specs.Rules.{rule_of, sign, keyword}
use Rattle.chi_tree.specs.Tokens.{bytes_of}
use Rattle.chi_tree.specs.View.{Built, expr_of, postfixes_of, optional, more_exprs_of}
use Rattle.chi_tree.specs.Statements.{jump_shown, more_targets_of, more_variables_of, more_elements_of, elifs_of, more_alternatives_of, ends_element, last_ends, launched}
use Rattle.chi_tree_laws.specs.Expressions.{FormedIfAny, FormedExprs}
use Rattle.chi_tree_laws.specs.Expressions as formed
use Rattle.chi_tree_laws.specs.Statements.{FormedSteps, FormedTarget, FormedTargets, FormedVariable, FormedVariables, FormedWalk, FormedElement, FormedElements, FormedInner, FormedStatement, FormedBranches, FormedAlternative, FormedAlternatives, FormedBlock}
use Rattle.chi_tree_laws.specs.Statements as stated
use Rattle.chi_tree.proofs.ClassTokens.{token_at, token_is}
use Rattle.chi_tree.proofs.Made.{Made}
use Rattle.chi_tree.proofs.Made as made
use Rattle.chi_tree_laws.proofs.ShownStatements.{Stated, StepFormed, IndexFormed, ElementFormed, BranchFormed, AfterFormed, AfterAnyFormed}
use Rattle.chi_tree_laws.proofs.TargetFormed.{target_formed}

-- what the rule builds, where each part in it is shown as a formed one
abbrev pub G : Room → Rule Spanned Part → Built → Type 0
G = Made Stated

-- expressions

expr_if : {room : Room} {t : Built} → G room (maybe (part s.Expr)) t → FormedIfAny room.expressions (optional t (expr_of t))
expr_if made.never = formed.left_out
expr_if (made.once (made.part p)) = formed.given p

more_exprs : {room : Room} {t : Built} → G room (many (sign Comma ▸ part s.Expr)) t → FormedExprs room.expressions (more_exprs_of t)
more_exprs made.enough = formed.no_exprs
more_exprs (made.more (made.both c (made.part p)) ps) = formed.exprs p (more_exprs ps)

-- names, targets, variables and walks

pub names : {room : Room} {t : Built} → G room (rule_of s.Names) t → Stated room s.Names (node s.Names t)
names (made.both n ns) = record { first = _; more = _; are = refl }

deep_step : {room inner : Room} {p : Postfix} → IsInside nesting.Expression room inner → IndexFormed inner p → StepFormed room p
deep_step {p = p} i q = subst (λ d. (steps : List Postfix) → FormedSteps d steps → FormedSteps d (p ∷ steps)) (sym i.1) q

pub target_step : {room : Room} {t : Built} → G room (rule_of s.TargetStep) t → Stated room s.TargetStep (node s.TargetStep t)
target_step (made.left (made.deeper i (made.part p))) = deep_step i p
target_step (made.right (made.part p)) = p

pub target_index : {room : Room} {t : Built} → G room (rule_of s.TargetIndex) t → Stated room s.TargetIndex (node s.TargetIndex t)
target_index (made.both l (made.both (made.part p) r)) = λ steps q. stated.index_step p q

pub field : {room : Room} {t : Built} → G room (rule_of s.Field) t → Stated room s.Field (node s.Field t)
field (made.both w n) = λ steps q. stated.field_step q

target_steps : {room : Room} {t : Built} → G room (many (part s.TargetStep)) t → FormedSteps room.expressions (postfixes_of t)
target_steps made.enough = stated.no_steps
target_steps (made.more (made.part p) ps) = p _ (target_steps ps)

pub target : {room : Room} {t : Built} → G room (rule_of s.Target) t → Stated room s.Target (node s.Target t)
target (made.both n ps) = target_steps ps

with_targets : {room : Room} {t : Built} (x : Target) → FormedTarget room.expressions x → G room (many (sign Comma ▸ part s.Target)) t
    → FormedTargets room.expressions (x ∷ more_targets_of t)
with_targets x p made.enough = stated.one_target p
with_targets x p (made.more (made.both c (made.part q)) qs) = stated.targets p (with_targets _ q qs)

pub initial : {room : Room} {t : Built} → G room (rule_of s.Initial) t → Stated room s.Initial (node s.Initial t)
initial (made.both c (made.part p)) = λ name. stated.with_value p

pub variable : {room : Room} {t : Built} → G room (rule_of s.Variable) t → Stated room s.Variable (node s.Variable t)
variable (made.both n made.never) = stated.bare
variable (made.both n (made.once (made.part p))) = p _

with_variables : {room : Room} {t : Built} {v : Variable} → FormedVariable room.expressions v → G room (many (sign Comma ▸ part s.Variable)) t
    → FormedVariables room.expressions (v ∷ more_variables_of t)
with_variables p made.enough = stated.one_variable p
with_variables p (made.more (made.both c (made.part q)) qs) = stated.variables p (with_variables q qs)

pub variables : {room : Room} {t : Built} → G room (rule_of s.Variables) t → Stated room s.Variables (node s.Variables t)
variables (made.both (made.part p) ps) = with_variables p ps

with_names : {d : ℕ} {e : Expr} {ns ms : List Name} → ns ≡ ms → FormedWalk d (record { names = ms; container = e })
    → FormedWalk d (record { names = ns; container = e })
with_names {d = d} {e = e} are p = subst (λ ns. FormedWalk d (record { names = ns; container = e })) (sym are) p

pub walk : {room : Room} {t : Built} → G room (rule_of s.Walk) t → Stated room s.Walk (node s.Walk t)
walk (made.both (made.part p) (made.both w (made.part q))) = with_names p.are (stated.walk q)

-- communications

pub delay : {room : Room} {t : Built} → G room (rule_of s.Delay) t → Stated room s.Delay (node s.Delay t)
delay (made.both w (made.part p)) = stated.delay p

pub sending : {room : Room} {t : Built} → G room (rule_of s.Sending) t → Stated room s.Sending (node s.Sending t)
sending (made.both w p) = λ target q. stated.send q (expr_if p)

pub receiving : {room : Room} {t : Built} → G room (rule_of s.Receiving) t → Stated room s.Receiving (node s.Receiving t)
receiving (made.both w p) = λ target q. stated.receive q

pub communication_end : {room : Room} {t : Built} → G room (rule_of s.CommunicationEnd) t → Stated room s.CommunicationEnd (node s.CommunicationEnd t)
communication_end (made.left (made.part p)) = p
communication_end (made.right (made.part p)) = p

pub communication_formed : {room : Room} {t : Built} → G room (rule_of s.Communication) t → Stated room s.Communication (node s.Communication t)
communication_formed (made.left (made.part p)) = p
communication_formed (made.right (made.both (made.part p) (made.part q))) = q _ p

-- what is run or started

with_elements : {room : Room} {t : Built} (e : Element) → ElementFormed room e → G room (many (sign Comma ▸ part s.Element)) t
    → FormedElements (last_ends (e ∷ more_elements_of t)) room.blocks room.expressions (e ∷ more_elements_of t)
with_elements e p made.enough = stated.one_element p
with_elements e p (made.more (made.both c (made.part q)) qs) = stated.elements p (with_elements _ q qs)

pub elements : {room : Room} {t : Built} → G room (rule_of s.Elements) t → Stated room s.Elements (node s.Elements t)
elements (made.both (made.part p) ps) = with_elements _ p ps

pub element_formed : {room : Room} {t : Built} → G room (rule_of s.Element) t → Stated room s.Element (node s.Element t)
element_formed (made.left (made.part p)) = p
element_formed (made.right (made.part p)) = p

-- an element with this layer
layered : {b d : ℕ} {e : Element} (x : Element-F Element) → roll-Element x ≡ e → FormedElement (ends_element x) b d e
    → FormedElement (ends_element (out-Element e)) b d e
layered {b = b} {d = d} {e = e} x rolls p =
    subst (λ ends. FormedElement ends b d e) (sym (ap ends_element (out-roll-Element x)) ∙ ap (λ f. ends_element (out-Element f)) rolls) p

-- at as many levels
element_at : {ends : Bool} {a b c d : ℕ} {e : Element} → a ≡ b → c ≡ d → FormedElement ends b d e → FormedElement ends a c e
element_at {ends = ends} {b = b} {c = c} {e = e} is are p =
    subst (λ b. FormedElement ends b c e) (sym is) (subst (λ d. FormedElement ends b d e) (sym are) p)

walk_at : {c d : ℕ} {w : Walk} → c ≡ d → FormedWalk c w → FormedWalk d w
walk_at {w = w} is p = subst (λ d. FormedWalk d w) is p

target_at : {c d : ℕ} (x : Target) → c ≡ d → FormedTarget c x → FormedTarget d x
target_at x is p = subst (λ d. FormedTarget d x) is p

pub unwound_elements : {room : Room} {t : Built} → G room (rule_of s.UnwoundElements) t → Stated room s.UnwoundElements (node s.UnwoundElements t)
unwound_elements (made.both w (made.both (made.part p) (made.both c (made.both (made.deeper i (made.part q)) end)))) =
    layered (Element-F.Unwind _ _ _) (element.rolls-Unwind _ _ _) (element_at i.0 i.1 (stated.unwind_elements (walk_at i.1 p) q))

pub make : {room : Room} {t : Built} → G room (rule_of s.Make) t → Stated room s.Make (node s.Make t)
make (made.chosen (made.part p) bare (made.part q)) = q _ p
make (made.otherwise (made.part p) bare (made.part q)) = q _ p

pub made_formed : {room : Room} {t : Built} → G room (rule_of s.Made) t → Stated room s.Made (node s.Made t)
made_formed (made.left (made.part p)) =
    λ target q. layered (Element-F.Make None target.name _) (element.rolls-Make None target.name _) (element_at refl p.is_inside.1 (stated.make p.formed))
made_formed (made.right (made.part p)) = p

pub assigned_make : {room : Room} {t : Built} → G room (rule_of s.AssignedMake) t → Stated room s.AssignedMake (node s.AssignedMake t)
assigned_make (made.both eq (made.both n (made.part p))) =
    λ target q. layered (Element-F.Make (Some target) _ _) (element.rolls-Make (Some target) _ _)
    (element_at refl p.is_inside.1 (stated.assigned_make (target_at target p.is_inside.1 q) p.formed))

-- statements

pub closed_formed : {room : Room} {t : Built} → G room (rule_of s.Closed) t → Stated room s.Closed (node s.Closed t)
closed_formed (made.left (made.part p)) = p
closed_formed (made.right (made.left (made.part p))) = p
closed_formed (made.right (made.right (made.left (made.part p)))) = p
closed_formed (made.right (made.right (made.right (made.part p)))) = p

pub open_formed : {room : Room} {t : Built} → G room (rule_of s.Open) t → Stated room s.Open (node s.Open t)
open_formed (made.left (made.part p)) = p
open_formed (made.right (made.left (made.part p))) = p
open_formed (made.right (made.right (made.left (made.part p)))) = p
open_formed (made.right (made.right (made.right (made.left (made.part p))))) = p
open_formed (made.right (made.right (made.right (made.right (made.left (made.part p)))))) = p
open_formed (made.right (made.right (made.right (made.right (made.right (made.left (made.part p))))))) = p
open_formed (made.right (made.right (made.right (made.right (made.right (made.right (made.left (made.part p)))))))) = p
open_formed (made.right (made.right (made.right (made.right (made.right (made.right (made.right (made.part p)))))))) = p

pub declaration : {room : Room} {t : Built} → G room (rule_of s.Declaration) t → Stated room s.Declaration (node s.Declaration t)
declaration (made.both (made.part p) (made.part q)) = stated.declare p q

pub name_led : {room : Room} {t : Built} → G room (rule_of s.NameLed) t → Stated room s.NameLed (node s.NameLed t)
name_led (made.chosen (made.part p) bare (made.part q)) = q _ p
name_led (made.otherwise (made.part p) bare (made.part q)) = q _ p

pub after_name : {room : Room} {t : Built} → G room (rule_of s.AfterName) t → Stated room s.AfterName (node s.AfterName t)
after_name (made.left (made.part p)) = λ target q. stated.declare formed.named p
after_name (made.right (made.part p)) = p

pub after_target : {room : Room} {t : Built} → G room (rule_of s.AfterTarget) t → Stated room s.AfterTarget (node s.AfterTarget t)
after_target (made.left (made.part p)) = λ target q. stated.communicate (p target q)
after_target (made.right (made.part p)) = p

assigned : {b d : ℕ} {ts : List Target} {place : Place} {es fs : List Expr} → es ≡ fs → FormedStatement false b d (statement.Assign ts place fs)
    → FormedStatement false b d (statement.Assign ts place es)
assigned {b = b} {d = d} {ts = ts} {place = place} are p = subst (λ es. FormedStatement false b d (statement.Assign ts place es)) (sym are) p

pub assignment : {room : Room} {t : Built} → G room (rule_of s.Assignment) t → Stated room s.Assignment (node s.Assignment t)
assignment (made.both ps (made.both eq (made.part p))) =
    λ target q. assigned p.are (stated.assign (with_targets target q ps) p.formed)

pub timed : {room : Room} {t : Built} → G room (rule_of s.Timed) t → Stated room s.Timed (node s.Timed t)
timed (made.part p) = stated.communicate p

jumping : (x : Spanned) {n b d : ℕ} → number_of (class_of x.token) ≡ n
    → FormedStatement false b d (jump_shown (token_at n (bytes_of x.token)) x.place) → FormedStatement false b d (jump_shown x.token x.place)
jumping x {b = b} {d = d} e p = subst (λ w. FormedStatement false b d (jump_shown w x.place)) (sym (token_is x.token e)) p

pub jump_formed : {room : Room} {t : Built} → G room (rule_of s.Jump) t → Stated room s.Jump (node s.Jump t)
jump_formed (made.left (made.word {x = x} e)) = jumping x e stated.pass
jump_formed (made.right (made.left (made.word {x = x} e))) = jumping x e stated.leave
jump_formed (made.right (made.right (made.word {x = x} e))) = jumping x e stated.continue

pub return_formed : {room : Room} {t : Built} → G room (rule_of s.Return) t → Stated room s.Return (node s.Return t)
return_formed (made.both w (made.part p)) = stated.return p

pub exit_formed : {room : Room} {t : Built} → G room (rule_of s.Exit) t → Stated room s.Exit (node s.Exit t)
exit_formed (made.both w p) = stated.exit (expr_if p)

finished : {b d : ℕ} {place : Place} {es fs : List Expr} → es ≡ fs → FormedStatement false b d (statement.Finish place fs)
    → FormedStatement false b d (statement.Finish place es)
finished {b = b} {d = d} {place = place} are p = subst (λ es. FormedStatement false b d (statement.Finish place es)) (sym are) p

pub finish_formed : {room : Room} {t : Built} → G room (rule_of s.Finish) t → Stated room s.Finish (node s.Finish t)
finish_formed (made.both w (made.part p)) = finished p.are (stated.finish p.formed)

statement_at : {ends : Bool} {a b c d : ℕ} {x : Statement} → a ≡ b → c ≡ d → FormedStatement ends b d x → FormedStatement ends a c x
statement_at {ends = ends} {b = b} {c = c} {x = x} is are p =
    subst (λ b. FormedStatement ends b c x) (sym is) (subst (λ d. FormedStatement ends b d x) (sym are) p)

pub write_formed : {room : Room} {t : Built} → G room (rule_of s.Write) t → Stated room s.Write (node s.Write t)
write_formed (made.both (made.left (made.word {x = x} e)) (made.deeper i (made.part p))) = statement_at i.0 i.1 (p x)
write_formed (made.both (made.right (made.word {x = x} e)) (made.deeper i (made.part p))) = statement_at i.0 i.1 (p x)

pub written_formed : {room : Room} {t : Built} → G room (rule_of s.Written) t → Stated room s.Written (node s.Written t)
written_formed (made.both l (made.both (made.word e) (made.both ps r))) = λ x. stated.write (more_exprs ps)

pub branch : {room : Room} {t : Built} → G room (rule_of s.Branch) t → Stated room s.Branch (node s.Branch t)
branch (made.both (made.part p) (made.both c (made.part q))) =
    record { last = stated.one_branch p q; next = λ more r. stated.branches p q r }

pub elif_formed : {room : Room} {t : Built} → G room (rule_of s.Elif) t → Stated room s.Elif (node s.Elif t)
elif_formed (made.both w (made.part p)) = p

pub else_formed : {room : Room} {t : Built} → G room (rule_of s.Else) t → Stated room s.Else (node s.Else t)
else_formed (made.both w (made.both c (made.part p))) = p

with_elifs : {room : Room} {t : Built} {b : Branch} → BranchFormed room b → G room (many (part s.Elif)) t
    → FormedBranches room.blocks room.expressions (b ∷ elifs_of t)
with_elifs p made.enough = p.last
with_elifs p (made.more (made.part q) qs) = p.next _ (with_elifs q qs)

pub if_formed : {room : Room} {t : Built} → G room (rule_of s.If) t → Stated room s.If (node s.If t)
if_formed (made.both w (made.both (made.part p) (made.both ps (made.both made.never end)))) = stated.if_branches (with_elifs p ps)
if_formed (made.both w (made.both (made.part p) (made.both ps (made.both (made.once (made.part q)) end)))) = stated.if_else (with_elifs p ps) q

pub body : {room : Room} {t : Built} → G room (rule_of s.Body) t → Stated room s.Body (node s.Body t)
body (made.both c (made.both (made.part p) end)) = p

pub while_formed : {room : Room} {t : Built} → G room (rule_of s.While) t → Stated room s.While (node s.While t)
while_formed (made.both w (made.both (made.part p) (made.part q))) = stated.while p q

pub for_formed : {room : Room} {t : Built} → G room (rule_of s.For) t → Stated room s.For (node s.For t)
for_formed (made.both w (made.both (made.part p) (made.part q))) = stated.for_each p q

-- selects

with_alternatives : {room : Room} {t : Built} {x : Alternative} → FormedAlternative room.blocks room.expressions x
    → G room (many (keyword AltWord ▸ part s.Alternative)) t → FormedAlternatives room.blocks room.expressions (x ∷ more_alternatives_of t)
with_alternatives p made.enough = stated.one_alternative p
with_alternatives p (made.more (made.both w (made.part q)) qs) = stated.alternatives p (with_alternatives q qs)

pub alternatives : {room : Room} {t : Built} → G room (rule_of s.Alternatives) t → Stated room s.Alternatives (node s.Alternatives t)
alternatives (made.both (made.part p) ps) = with_alternatives p ps

pub select_formed : {room : Room} {t : Built} → G room (rule_of s.Select) t → Stated room s.Select (node s.Select t)
select_formed (made.both w (made.both (made.part p) end)) = stated.select p

pub alternative_formed : {room : Room} {t : Built} → G room (rule_of s.Alternative) t → Stated room s.Alternative (node s.Alternative t)
alternative_formed (made.left (made.part p)) = p
alternative_formed (made.right (made.part p)) = p

alternative_at : {a b c d : ℕ} {x : Alternative} → a ≡ b → c ≡ d → FormedAlternative b d x → FormedAlternative a c x
alternative_at {b = b} {c = c} {x = x} is are p =
    subst (λ b. FormedAlternative b c x) (sym is) (subst (λ d. FormedAlternative b d x) (sym are) p)

pub unwound_alternatives : {room : Room} {t : Built} → G room (rule_of s.UnwoundAlternatives) t → Stated room s.UnwoundAlternatives (node s.UnwoundAlternatives t)
unwound_alternatives (made.both w (made.both (made.part p) (made.both c (made.both (made.deeper i (made.part q)) end)))) =
    alternative_at i.0 i.1 (stated.unwind (walk_at i.1 p) q)

pub alternative_body : {room : Room} {t : Built} → G room (rule_of s.AlternativeBody) t → Stated room s.AlternativeBody (node s.AlternativeBody t)
alternative_body (made.both c (made.part p)) = p

pub guarded_alternative : {room : Room} {t : Built} → G room (rule_of s.GuardedAlternative) t → Stated room s.GuardedAlternative (node s.GuardedAlternative t)
guarded_alternative (made.both (made.part p) made.never) = stated.offer p.guard p.communication
guarded_alternative (made.both (made.part p) (made.once (made.part q))) = stated.offer_block p.guard p.communication q

pub offer_formed : {room : Room} {t : Built} → G room (rule_of s.Offer) t → Stated room s.Offer (node s.Offer t)
offer_formed (made.left (made.part p)) = record { guard = formed.left_out; communication = p }
offer_formed (made.right (made.chosen (made.part p) some (made.part q))) = q _ p
offer_formed (made.right (made.otherwise (made.part p) some (made.part q))) = q _ p

pub offered_formed : {room : Room} {t : Built} → G room (rule_of s.Offered) t → Stated room s.Offered (node s.Offered t)
offered_formed (made.left (made.part p)) = p
offered_formed (made.right (made.part p)) = λ e q. record { guard = formed.left_out; communication = p _ (target_formed q) }

pub guarded : {room : Room} {t : Built} → G room (rule_of s.Guarded) t → Stated room s.Guarded (node s.Guarded t)
guarded (made.both c (made.part p)) = λ e q. record { guard = formed.given q; communication = p }

-- blocks

launching : (x : Spanned) {n b d : ℕ} {ends : Bool} (es : List Element) → number_of (class_of x.token) ≡ n
    → FormedStatement ends b d (launched (leaf (record x { token = token_at n (bytes_of x.token) })) es) → FormedStatement ends b d (launched (leaf x) es)
launching x {b = b} {d = d} {ends = ends} es e p =
    subst (λ w. FormedStatement ends b d (launched (leaf (record x { token = w })) es)) (sym (token_is x.token e)) p

pub launch : {room : Room} {t : Built} → G room (rule_of s.Launch) t → Stated room s.Launch (node s.Launch t)
launch (made.both (made.left (made.word {x = x} e)) (made.part p)) = launching x _ e (stated.run p)
launch (made.both (made.right (made.word {x = x} e)) (made.part p)) = launching x _ e (stated.start p)

after_end_if : {room : Room} {t : Built} → G room (maybe (part s.AfterEnd)) t → AfterFormed room t
after_end_if made.never = λ statement p. stated.last p
after_end_if (made.once (made.part p)) = p

after_open_if : {room : Room} {t : Built} → G room (maybe (part s.AfterOpen)) t → AfterAnyFormed room t
after_open_if made.never = λ ends statement p. stated.last p
after_open_if (made.once (made.part p)) = p

ending : {a b : Bool} {c d : ℕ} {x : Statement} → a ≡ b → FormedStatement a c d x → FormedStatement b c d x
ending {c = c} {d = d} {x = x} is p = subst (λ ends. FormedStatement ends c d x) is p

pub block : {room : Room} {t : Built} → G room (rule_of s.Block) t → Stated room s.Block (node s.Block t)
block (made.left (made.both (made.part p) q)) = after_end_if q _ p
block (made.right (made.left (made.chosen (made.part p) ends q))) = after_end_if q _ (ending ends p)
block (made.right (made.left (made.otherwise (made.part p) ends q))) = after_open_if q _ _ p
block (made.right (made.right (made.both (made.part p) q))) = after_open_if q _ _ p

pub after_end : {room : Room} {t : Built} → G room (rule_of s.AfterEnd) t → Stated room s.AfterEnd (node s.AfterEnd t)
after_end (made.left (made.both c made.never)) = λ statement p. stated.last p
after_end (made.left (made.both c (made.once (made.part q)))) = λ statement p. stated.next p q
after_end (made.right (made.part q)) = λ statement p. stated.after_end p q

pub after_open : {room : Room} {t : Built} → G room (rule_of s.AfterOpen) t → Stated room s.AfterOpen (node s.AfterOpen t)
after_open (made.both c made.never) = λ ends statement p. stated.last p
after_open (made.both c (made.once (made.part q))) = λ ends statement p. stated.next p q

inner_at : {a b c d : ℕ} {block : List Step} → a ≡ b → c ≡ d → FormedInner b d block → FormedInner a c block
inner_at {b = b} {c = c} {block = block} is are p =
    subst (λ b. FormedInner b c block) (sym is) (subst (λ d. FormedInner b d block) (sym are) p)

pub inner : {room : Room} {t : Built} → G room (rule_of s.Inner) t → Stated room s.Inner (node s.Inner t)
inner (made.deeper i (made.part p)) = inner_at i.0 i.1 (stated.inner p)
