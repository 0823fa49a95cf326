-- A statement's truth value tells whether its last token is "end".
use Rattle.std.proofs.Common.{◌≡◌, ◌↔◌, ℕ, Bool, true, false, List, [], ◌∷◌, ◌++◌, map, refl, ap, sym, ◌∙◌, if◌then◌else◌}
use Rattle.std.proofs.lemmas.List.{append-nil}
use Rattle.chi_grammar.specs.declared.room.Room.{Room}
use Rattle.chi_grammar.specs.Rules.{node, pair, none, spelling, part}
use Rattle.chi_grammar.specs.Trees.{Is}
use Rattle.chi_grammar.specs.Trees as is
use Rattle.chi_token.specs.declared.keyword.Keyword.TheVariants.{AltWord, ElifWord, EndWord, ForWord, IfWord, RunWord, SelectWord, StartWord, UnwindWord, WhileWord}
use Rattle.chi_token.specs.declared.place.Place.{Place}
use Rattle.chi_token.specs.declared.sign.Sign.TheVariants.{LeftParen, RightParen, Colon, Comma}
use Rattle.chi_token.specs.declared.token.Token.{Token}
use Rattle.chi_token.specs.declared.token.Token.TheVariants.{Word, Sign}
use Rattle.chi_tree.specs.declared.expr.Expr.{Expr}
use Rattle.chi_tree.specs.declared.statement.Alternative.{Alternative}
use Rattle.chi_tree.specs.declared.statement.Branch.{Branch}
use Rattle.chi_tree.specs.declared.statement.Step.{Step}
use Rattle.chi_tree.specs.declared.statement.Walk.{Walk}
use Rattle.chi_tree.specs.declared.statement.Element.{Element, Element-F, out-Element, roll-Element, roll-out-Element}
use Rattle.chi_tree.specs.declared.statement.Element.TheVariants as element
use Rattle.chi_tree.specs.declared.statement.Statement.{Statement}
use Rattle.chi_tree.specs.declared.statement.Statement.TheVariants as statement
use Rattle.chi_tree.specs.Parts as s
use Rattle.chi_tree.specs.Rules.{grammar}
use Rattle.chi_tree_spell.specs.Expressions.{spelled_expr}
use Rattle.chi_tree_spell.specs.Statements.{spelled_exprs, spelled_walk, assigned_tokens, spelled_element, spelled_elements, else_tokens, to_end, spelled_alternative, spelled_branch, spelled_step, spelled_statement}
use Rattle.chi_tree.specs.Statements.{is_run_shown, step, statement_of, elements_of, last_ends, ends_element, ends_in_end}
use Rattle.chi_tree.specs.View.{Built}
use Rattle.chi_tree_spell.specs.Marks.{plain}
use Rattle.chi_tree_spell.specs.Words.{Tokens, token_of, name_token, all, separated}
use Rattle.chi_tree_spell.proofs.ProgramSpelling.{block_spelling}
use Rattle.chi_tree_spell.proofs.StatementTokens.{element-Make, element-Unwind, statement-Select, statement-If, statement-While, statement-For, statement-Run, statement-Start, step-tokens}
use Rattle.chi_tree_laws.specs.Statements.{FormedStatement}
use Rattle.chi_tree_laws.specs.Statements as formed
use Rattle.chi_tree_laws.proofs.LastToken.{is_end, last_is_end, last_of, before_end, end_after}
use Rattle.chi_tree_laws.proofs.NoEnd.{ends_in_another}
use Rattle.chi_tree_laws.proofs.Leaves.{levels}
use Rattle.chi_tree_laws.proofs.ElementsBuilt.{elements_end}
use Rattle.chi_tree_laws.proofs.StatementsBuilt.{Stated, open_ended, launch, build_declare, build_assign, build_communicate, build_pass, build_break, build_continue, build_return, build_exit, build_finish, build_write}

-- an element ends as the grammar's test of it says, and so do elements and a launch; a token before it keeps it from being empty

layer_ends : (t : Token) (x : Element-F Element) → last_is_end (t ∷ spelled_element (roll-Element x)) ≡ ends_element x
layer_ends t (Element-F.Make target name arguments) =
    ap (λ e. last_is_end (t ∷ spelled_element e)) (element.rolls-Make target name arguments)
    ∙ ap (λ ts. last_is_end (t ∷ ts)) (element-Make plain target name arguments)
    ∙ last_of (t ∷ assigned_tokens target) (name_token name) (Sign LeftParen ∷ spelled_exprs arguments ++ Sign RightParen ∷ [])
    ∙ last_of (name_token name ∷ Sign LeftParen ∷ spelled_exprs arguments) (Sign RightParen) []
layer_ends t (Element-F.Unwind place walk elements) =
    ap (λ e. last_is_end (t ∷ spelled_element e)) (element.rolls-Unwind place walk elements)
    ∙ ap (λ ts. last_is_end (t ∷ ts)) (element-Unwind plain place walk elements)
    ∙ last_of (t ∷ Word UnwindWord ∷ spelled_walk walk ++ Sign Colon ∷ spelled_elements elements) (Word EndWord) []

element_ends : (t : Token) (e : Element) → last_is_end (t ∷ spelled_element e) ≡ ends_element (out-Element e)
element_ends t e = ap (λ e. last_is_end (t ∷ spelled_element e)) (sym (roll-out-Element e)) ∙ layer_ends t (out-Element e)

list_ends : (t : Token) → is_end t ≡ false → (es : List Element) → last_is_end (t ∷ spelled_elements es) ≡ last_ends es
list_ends t other [] = other
list_ends t other (e ∷ []) = ap (λ ts. last_is_end (t ∷ ts)) (append-nil (spelled_element e)) ∙ element_ends t e
list_ends t other (e ∷ f ∷ es) =
    last_of (t ∷ spelled_element e) (Sign Comma) (spelled_elements (f ∷ es)) ∙ list_ends (Sign Comma) refl (f ∷ es)

launched_ends : (runs : Bool) (place : Place) (es : List Element)
    → last_is_end (spelled_statement (if runs then statement.Run place es else statement.Start place es)) ≡ last_ends es
launched_ends true place es = ap last_is_end (statement-Run plain place es) ∙ list_ends (Word RunWord) refl es
launched_ends false place es = ap last_is_end (statement-Start plain place es) ∙ list_ends (Word StartWord) refl es

launch_ends : {room : Room} {t : Built} → Is grammar room (part s.Launch) t → last_is_end (spelled_statement (statement_of t)) ≡ ends_in_end t
launch_ends (is.part (is.both {u = u} (is.left (is.word {x = x} e)) p)) = launched_ends (is_run_shown x.token) x.place (elements_of u)
launch_ends (is.part (is.both {u = u} (is.right (is.word {x = x} e)) p)) = launched_ends (is_run_shown x.token) x.place (elements_of u)

-- a statement that is neither closed nor a launch holds no "end": it is spelled as a block of it alone

open_spelling : (room : Room) (t : Built) → Is grammar room (part s.Open) t → spelled_statement (statement_of t) ≡ map token_of (spelling t)
open_spelling room t p =
    sym (append-nil (spelled_statement (statement_of t))) ∙ sym (step-tokens plain (step (statement_of t) false))
    ∙ sym (append-nil (spelled_step (step (statement_of t) false)))
    ∙ block_spelling room (node s.Block (pair t none)) (is.part (is.right (is.right (is.both p is.never))))
    ∙ ap (map token_of) (append-nil (spelling t))

open_ends : (room : Room) (t : Built) → Is grammar room (part s.Open) t → last_is_end (spelled_statement (statement_of t)) ≡ false
open_ends room t p = ap last_is_end (open_spelling room t p) ∙ ends_in_another p refl

stated_open : {b d : ℕ} {st : Statement} → Stated b d false st → last_is_end (spelled_statement st) ≡ false
stated_open {b = b} {d = d} (open_ended u) =
    ap (λ st. last_is_end (spelled_statement st)) (sym u.shown) ∙ open_ends (levels b d) u.tree u.built
stated_open (launch u e) = ap (λ st. last_is_end (spelled_statement st)) (sym u.shown) ∙ launch_ends u.built ∙ e

-- the statements that hold a block or alternatives

select_ends : (place : Place) (xs : List Alternative) → last_is_end (spelled_statement (statement.Select place xs)) ≡ true
select_ends place xs =
    ap last_is_end (statement-Select plain place xs)
    ∙ last_of (Word SelectWord ∷ separated (Word AltWord) (map spelled_alternative xs)) (Word EndWord) []

if_ends : (place : Place) (bs : List Branch) (block : List Step) → last_is_end (spelled_statement (statement.If place bs block)) ≡ true
if_ends place bs block =
    ap last_is_end (statement-If plain place bs block)
    ∙ last_of (Word IfWord ∷ separated (Word ElifWord) (map spelled_branch bs) ++ else_tokens (map spelled_step block)) (Word EndWord) []

to_end_ends : (ts : Tokens) (block : List Step) → last_is_end (ts ++ to_end (map spelled_step block)) ≡ true
to_end_ends ts block =
    last_of ts (Sign Colon) (all (map spelled_step block) ++ Word EndWord ∷ [])
    ∙ last_of (Sign Colon ∷ all (map spelled_step block)) (Word EndWord) []

while_ends : (place : Place) (e : Expr) (block : List Step) → last_is_end (spelled_statement (statement.While place e block)) ≡ true
while_ends place e block = ap last_is_end (statement-While plain place e block) ∙ to_end_ends (Word WhileWord ∷ spelled_expr e) block

for_ends : (place : Place) (walk : Walk) (block : List Step) → last_is_end (spelled_statement (statement.For place walk block)) ≡ true
for_ends place walk block = ap last_is_end (statement-For plain place walk block) ∙ to_end_ends (Word ForWord ∷ spelled_walk walk) block

-- the last token of each formed statement
told : {ends : Bool} {b d : ℕ} {st : Statement} → FormedStatement ends b d st → last_is_end (spelled_statement st) ≡ ends
told (formed.declare {b = b} p q) = stated_open (build_declare b p q)
told (formed.assign {b = b} {place = place} p q) = stated_open (build_assign b place p q)
told (formed.communicate {b = b} p) = stated_open (build_communicate b p)
told (formed.pass {b = b} {d = d} {place = place}) = stated_open (build_pass b d place)
told (formed.leave {b = b} {d = d} {place = place}) = stated_open (build_break b d place)
told (formed.continue {b = b} {d = d} {place = place}) = stated_open (build_continue b d place)
told (formed.select {place = place} {xs = xs} ps) = select_ends place xs
told (formed.if_branches {place = place} {bs = bs} ps) = if_ends place bs []
told (formed.if_else {place = place} {bs = bs} {block = block} ps q) = if_ends place bs block
told (formed.while {place = place} {e = e} {block = block} p q) = while_ends place e block
told (formed.for_each {place = place} {walk = walk} {block = block} p q) = for_ends place walk block
told (formed.return {b = b} {place = place} p) = stated_open (build_return b place p)
told (formed.exit {b = b} {place = place} p) = stated_open (build_exit b place p)
told (formed.run {place = place} {es = es} ps) = launched_ends true place es ∙ elements_end ps
told (formed.start {place = place} {es = es} ps) = launched_ends false place es ∙ elements_end ps
told (formed.finish {b = b} {place = place} ps) = stated_open (build_finish b place ps)
told (formed.write {b = b} {place = place} {line = line} {text = text} {at = at} ps) = stated_open (build_write b place line text at ps)

-- the law
pub ends_with_end : (ends : Bool) (b d : ℕ) (st : Statement) → FormedStatement ends b d st
    → (ends ≡ true) ↔ ((ts : Tokens) × (spelled_statement st ≡ ts ++ Word EndWord ∷ []))
ends_with_end ends b d st p = (
  (λ e. before_end (spelled_statement st) (told p ∙ e)),
  (λ r. sym (told p) ∙ end_after (spelled_statement st) r.0 r.1),
)
