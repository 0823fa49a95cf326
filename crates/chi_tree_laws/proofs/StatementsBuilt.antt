-- Formed statements that hold no block are what the grammar builds of some tokens.
use Rattle.std.proofs.Common.{◌≡◌, ℕ, suc, Bool, true, false, List, [], ◌∷◌, ◌++◌, map, Option, refl, ap, sym, ◌∙◌, append_assoc}
use Rattle.chi_grammar.specs.Rules.{leaf, node, pair, none, part, ◌▸◌, many}
use Rattle.chi_grammar.specs.Trees.{Is}
use Rattle.chi_grammar.specs.Trees as is
use Rattle.chi_grammar.specs.declared.room.Room.{Room}
use Rattle.chi_token.specs.declared.keyword.Keyword.TheVariants.{BreakWord, ContinueWord, DelayWord, ExitWord, FinishWord, PassWord, ReturnWord, RunWord, StartWord, WriteWord, WritelnWord}
use Rattle.chi_token.specs.declared.place.Place.{Place}
use Rattle.chi_token.specs.declared.sign.Sign.TheVariants.{LeftParen, RightParen, Assign, Comma}
use Rattle.chi_token.specs.declared.token.Token.TheVariants as token
use Rattle.chi_tree.specs.declared.type_tree.Name.{Name}
use Rattle.chi_tree.specs.declared.type_tree.TypeTree.{TypeTree}
use Rattle.chi_tree.specs.declared.type_tree.TypeTree.TheVariants as type
use Rattle.chi_tree.specs.declared.expr.Expr.{Expr}
use Rattle.chi_tree.specs.declared.statement.Target.{Target}
use Rattle.chi_tree.specs.declared.statement.Variable.{Variable}
use Rattle.chi_tree.specs.declared.statement.Communication.{Communication}
use Rattle.chi_tree.specs.declared.statement.Communication.TheVariants as communication
use Rattle.chi_tree.specs.declared.statement.Element.{Element}
use Rattle.chi_tree.specs.declared.statement.Statement.{Statement}
use Rattle.chi_tree.specs.declared.statement.Statement.TheVariants as statement
use Rattle.chi_tree.specs.Parts as s
use Rattle.chi_tree.specs.Rules.{grammar, sign}
use Rattle.chi_tree.specs.Tokens.{name_of}
use Rattle.chi_tree.specs.View.{Built, type_of, exprs_of}
use Rattle.chi_tree.specs.Statements.{target_of, is_bare, more_targets_of, variables_of, communicated, led, last_ends, ends_in_end, statement_of}
use Rattle.chi_tree_laws.specs.Levels as level
use Rattle.chi_tree_laws.specs.Expressions.{FormedType, FormedExpr, FormedExprs, FormedIfAny}
use Rattle.chi_tree_laws.specs.Statements.{FormedTarget, FormedTargets, FormedVariables, FormedCommunication, FormedElements}
use Rattle.chi_tree_laws.specs.Statements as formed
use Rattle.chi_tree_laws.specs.Nestings.{Nestings, outside, bracketed, each_after, separated}
use Rattle.chi_tree_laws.specs.ExprNestings.{expr_nestings, type_nestings}
use Rattle.chi_tree_laws.specs.StatementNestings.{variable_nestings, target_nestings, communication_nestings, statement_nestings}
use Rattle.chi_tree_laws.proofs.Depths.{depths}
use Rattle.chi_tree_laws.proofs.ExprNestingsIn.{type-Defined}
use Rattle.chi_tree_laws.proofs.StatementNestingsIn.{statement-Declare, statement-Assign, statement-Communicate, statement-Pass, statement-Break, statement-Continue, statement-Return, statement-Exit, statement-Run, statement-Start, statement-Finish, statement-Write}
use Rattle.chi_tree_laws.proofs.Leaves.{at, mark, mark_at, word_at, name_leaf, levels, Builds, IfAny, if_tree, if_built, if_nests, if_shown}
use Rattle.chi_tree_laws.proofs.ExprBuilt.{build_type, build_expr, build_exprs, build_more_exprs, build_if}
use Rattle.chi_tree_laws.proofs.TargetsBuilt.{build_target, build_more_targets, build_variables, BuildsEnd, build_sending, build_receiving}
use Rattle.chi_tree_laws.proofs.ElementsBuilt.{build_elements, elements_end}

-- a type is a name, or begins with a word of its own
pub data Typed (b d : ℕ) (t : TypeTree) : Type 0 where
  by_name : (n : Name) → type.Defined n ≡ t → Typed b d t
  by_word : Builds b d (part s.BuiltType) type_of t (type_nestings t) → Typed b d t

named_type : {room : Room} {tree : Built} → Is grammar room (part s.NamedType) tree → (n : Name) × (type.Defined n ≡ type_of tree)
named_type (is.part (is.word {x = x} e)) = (name_of x, refl)

typed_as : {b d : ℕ} {tree : Built} {t : TypeTree} → (p : Is grammar (levels b d) (part s.AnyType) tree) → type_of tree ≡ t
    → depths p ≡ type_nestings t → Typed b d t
typed_as (is.part (is.left p)) shown nests = by_word (record { tree = _; built = p; shown = shown; nests = nests })
typed_as (is.part (is.right p)) shown nests = let n = named_type p in by_name n.0 (n.1 ∙ shown)

pub typed : (b : ℕ) {d : ℕ} {t : TypeTree} → FormedType d t → Typed b d t
typed b p = let u = build_type b p in typed_as u.built u.shown u.nests

-- the kinds of statements that a block tells apart, and whether the last token is "end"
pub data Stated (b d : ℕ) : Bool → Statement → Type 0 where
  closed : {st : Statement} → Builds b d (part s.Closed) statement_of st (statement_nestings st) → Stated b d true st
  open_ended : {st : Statement} → Builds b d (part s.Open) statement_of st (statement_nestings st) → Stated b d false st
  launch : {ends : Bool} {st : Statement} → (u : Builds b d (part s.Launch) statement_of st (statement_nestings st)) → ends_in_end u.tree ≡ ends → Stated b d ends st

-- statements that begin with a target

-- a target without steps might be a type's name, so there is one part more around what follows it
led_after : {b d : ℕ} {st : Statement} (target : Target) (bare : Bool) → is_bare target.steps ≡ bare
    → (u : Builds b d (part s.Target) target_of target (target_nestings target)) (rest : Built) → (p : Is grammar (levels b d) (part s.AfterTarget) rest)
    → led (target_of u.tree) rest ≡ st → target_nestings target ++ depths p ≡ statement_nestings st → Stated b d false st
led_after target true e u rest p shown nests = open_ended (record {
  tree = node s.Open (node s.NameLed (pair u.tree (node s.AfterName rest)));
  built = is.part (is.right (is.left (is.part (is.chosen u.built (ap (λ t. is_bare t.steps) u.shown ∙ e) (is.part (is.right p))))));
  shown = shown;
  nests = ap (λ ns. ns ++ depths p) u.nests ∙ nests;
})
led_after target false e u rest p shown nests = open_ended (record {
  tree = node s.Open (node s.NameLed (pair u.tree rest));
  built = is.part (is.right (is.left (is.part (is.otherwise u.built (ap (λ t. is_bare t.steps) u.shown ∙ e) p))));
  shown = shown;
  nests = ap (λ ns. ns ++ depths p) u.nests ∙ nests;
})

led_variables : {room : Room} {t : Built} → Is grammar room (part s.Variables) t → (target : Target)
    → led target t ≡ statement.Declare (type.Defined target.name) (variables_of t)
led_variables (is.part p) target = refl

-- a type that is a name begins as a target does
declared : {b d : ℕ} {t : TypeTree} {vs : List Variable} → Typed b d t → Builds b d (part s.Variables) variables_of vs (separated (map variable_nestings vs))
    → Stated b d false (statement.Declare t vs)
declared (by_name n e) v = open_ended (record {
  tree = node s.Open (node s.NameLed (pair (node s.Target (pair (name_leaf n) none)) (node s.AfterName v.tree)));
  built = is.part (is.right (is.left (is.part (is.chosen (is.part (is.both (is.word refl) is.enough)) refl (is.part (is.left v.built))))));
  shown = led_variables v.built (record { name = n; steps = [] }) ∙ (λ i. statement.Declare (e i) (v.shown i));
  nests = (λ i. (sym (type-Defined n) ∙ ap type_nestings e) i ++ v.nests i) ∙ sym (statement-Declare _ _);
})
declared (by_word u) v = open_ended (record {
  tree = node s.Open (node s.Declaration (pair u.tree v.tree));
  built = is.part (is.left (is.part (is.both u.built v.built)));
  shown = λ i. statement.Declare (u.shown i) (v.shown i);
  nests = (λ i. u.nests i ++ v.nests i) ∙ sym (statement-Declare _ _);
})

pub build_declare : (b : ℕ) {d : ℕ} {t : TypeTree} {vs : List Variable} → FormedType d t → FormedVariables d vs
    → Stated b d false (statement.Declare t vs)
build_declare b p q = declared (typed b p) (build_variables b q)

assigned : {b d : ℕ} {more : List Target} {es : List Expr} (target : Target) (place : Place) → Builds b d (part s.Target) target_of target (target_nestings target)
    → Builds b d (many (sign Comma ▸ part s.Target)) more_targets_of more (each_after (map target_nestings more)) → Builds b d (part s.Exprs) exprs_of es (separated (map expr_nestings es))
    → Stated b d false (statement.Assign (target ∷ more) place es)
assigned {more = more} {es = es} target place u v w =
    led_after target (is_bare target.steps) refl u
    (node s.AfterTarget (node s.Assignment (pair v.tree (pair (mark_at place Assign) w.tree))))
    (is.part (is.right (is.part (is.both v.built (is.both (is.word refl) w.built)))))
    (λ i. statement.Assign (u.shown i ∷ v.shown i) place (w.shown i))
    ((λ i. target_nestings target ++ (v.nests i ++ outside ∷ w.nests i))
    ∙ sym (append_assoc (target_nestings target) (each_after (map target_nestings more)) (outside ∷ separated (map expr_nestings es)))
    ∙ sym (statement-Assign (target ∷ more) place es))

pub build_assign : (b : ℕ) {d : ℕ} {ts : List Target} {e : Expr} {es : List Expr} (place : Place) → FormedTargets d ts → FormedExprs d (e ∷ es)
    → Stated b d false (statement.Assign ts place (e ∷ es))
build_assign b place (formed.one_target {target = target} p) q =
    assigned target place (build_target b target p) (record { tree = none; built = is.enough; shown = refl; nests = refl }) (build_exprs b q)
build_assign b place (formed.targets {target = target} p ps) q =
    assigned target place (build_target b target p) (build_more_targets b ps) (build_exprs b q)

led_end : {room : Room} {t : Built} → Is grammar room (part s.CommunicationEnd) t → (target : Target)
    → led target t ≡ statement.Communicate (communicated target t)
led_end (is.part p) target = refl

communicating : {b d : ℕ} {ns : Nestings} {c : Target → Communication} (target : Target) → target_nestings target ++ ns ≡ communication_nestings (c target)
    → Builds b d (part s.Target) target_of target (target_nestings target) → BuildsEnd b d ns c → Stated b d false (statement.Communicate (c target))
communicating {c = c} target same u v =
    led_after target (is_bare target.steps) refl u (node s.AfterTarget v.tree) (is.part (is.left v.built))
    (led_end v.built (target_of u.tree) ∙ (λ i. statement.Communicate (v.shown i (u.shown i))))
    (ap (λ ns. target_nestings target ++ ns) v.nests ∙ same ∙ sym (statement-Communicate (c target)))

pub build_communicate : (b : ℕ) {d : ℕ} {c : Communication} → FormedCommunication d c → Stated b d false (statement.Communicate c)
build_communicate b (formed.send {target = target} {place = place} p q) = communicating target refl (build_target b target p) (build_sending b place q)
build_communicate b (formed.receive {d = d} {target = target} {place = place} {name = n} p) =
    communicating target refl (build_target b target p) (build_receiving b d place n)
build_communicate b (formed.delay {place = place} p) = let u = build_expr b p in open_ended (record {
  tree = node s.Open (node s.Timed (node s.Delay (pair (word_at place DelayWord) u.tree)));
  built = is.part (is.right (is.right (is.left (is.part (is.part (is.both (is.word refl) u.built))))));
  shown = ap (λ e. statement.Communicate (communication.Delay place e)) u.shown;
  nests = ap (λ ns. outside ∷ ns) u.nests ∙ sym (statement-Communicate (communication.Delay place _));
})

-- statements that begin with a word

pub build_pass : (b d : ℕ) (place : Place) → Stated b d false (statement.Pass place)
build_pass b d place = open_ended (record {
  tree = node s.Open (node s.Jump (word_at place PassWord));
  built = is.part (is.right (is.right (is.right (is.left (is.part (is.left (is.word refl)))))));
  shown = refl;
  nests = sym (statement-Pass place);
})

pub build_break : (b d : ℕ) (place : Place) → Stated b d false (statement.Break place)
build_break b d place = open_ended (record {
  tree = node s.Open (node s.Jump (word_at place BreakWord));
  built = is.part (is.right (is.right (is.right (is.left (is.part (is.right (is.left (is.word refl))))))));
  shown = refl;
  nests = sym (statement-Break place);
})

pub build_continue : (b d : ℕ) (place : Place) → Stated b d false (statement.Continue place)
build_continue b d place = open_ended (record {
  tree = node s.Open (node s.Jump (word_at place ContinueWord));
  built = is.part (is.right (is.right (is.right (is.left (is.part (is.right (is.right (is.word refl))))))));
  shown = refl;
  nests = sym (statement-Continue place);
})

pub build_return : (b : ℕ) {d : ℕ} {e : Expr} (place : Place) → FormedExpr level.Expr d e → Stated b d false (statement.Return place e)
build_return b place p = let u = build_expr b p in open_ended (record {
  tree = node s.Open (node s.Return (pair (word_at place ReturnWord) u.tree));
  built = is.part (is.right (is.right (is.right (is.right (is.left (is.part (is.both (is.word refl) u.built)))))));
  shown = ap (λ e. statement.Return place e) u.shown;
  nests = ap (λ ns. outside ∷ ns) u.nests ∙ sym (statement-Return place _);
})

exited : {b d : ℕ} {e : Option Expr} (place : Place) → IfAny b d e → Stated b d false (statement.Exit place e)
exited place u = open_ended (record {
  tree = node s.Open (node s.Exit (pair (word_at place ExitWord) (if_tree u)));
  built = is.part (is.right (is.right (is.right (is.right (is.right (is.left (is.part (is.both (is.word refl) (if_built u)))))))));
  shown = ap (λ e. statement.Exit place e) (if_shown u);
  nests = ap (λ ns. outside ∷ ns) (if_nests u) ∙ sym (statement-Exit place _);
})

pub build_exit : (b : ℕ) {d : ℕ} {e : Option Expr} (place : Place) → FormedIfAny d e → Stated b d false (statement.Exit place e)
build_exit b place p = exited place (build_if b p)

pub build_finish : (b : ℕ) {d : ℕ} {e : Expr} {es : List Expr} (place : Place) → FormedExprs d (e ∷ es)
    → Stated b d false (statement.Finish place (e ∷ es))
build_finish b place ps = let u = build_exprs b ps in open_ended (record {
  tree = node s.Open (node s.Finish (pair (word_at place FinishWord) u.tree));
  built = is.part (is.right (is.right (is.right (is.right (is.right (is.right (is.left (is.part (is.both (is.word refl) u.built)))))))));
  shown = ap (λ es. statement.Finish place es) u.shown;
  nests = ap (λ ns. outside ∷ ns) u.nests ∙ sym (statement-Finish place _);
})

pub build_write : (b : ℕ) {d : ℕ} {es : List Expr} (place : Place) (line : Bool) (text : List ℕ) (text_place : Place) → FormedExprs d es
    → Stated b (suc d) false (statement.Write place line text text_place es)
build_write b place true text text_place ps = let u = build_more_exprs b ps in open_ended (record {
  tree = node s.Open (node s.Write (pair (word_at place WritelnWord)
      (node s.Written (pair (mark LeftParen) (pair (leaf (at text_place (token.Text text))) (pair u.tree (mark RightParen)))))));
  built = is.part (is.right (is.right (is.right (is.right (is.right (is.right (is.right (is.part (is.both (is.right (is.word refl))
      (is.deeper (refl, refl) (is.part (is.both (is.word refl) (is.both (is.word refl) (is.both u.built (is.word refl)))))))))))))));
  shown = ap (λ es. statement.Write place true text text_place es) u.shown;
  nests = ap (λ ns. outside ∷ bracketed (outside ∷ ns)) u.nests ∙ sym (statement-Write place true text text_place _);
})
build_write b place false text text_place ps = let u = build_more_exprs b ps in open_ended (record {
  tree = node s.Open (node s.Write (pair (word_at place WriteWord)
      (node s.Written (pair (mark LeftParen) (pair (leaf (at text_place (token.Text text))) (pair u.tree (mark RightParen)))))));
  built = is.part (is.right (is.right (is.right (is.right (is.right (is.right (is.right (is.part (is.both (is.left (is.word refl))
      (is.deeper (refl, refl) (is.part (is.both (is.word refl) (is.both (is.word refl) (is.both u.built (is.word refl)))))))))))))));
  shown = ap (λ es. statement.Write place false text text_place es) u.shown;
  nests = ap (λ ns. outside ∷ bracketed (outside ∷ ns)) u.nests ∙ sym (statement-Write place false text text_place _);
})

-- launches

pub build_run : {ends : Bool} {b d : ℕ} {es : List Element} (place : Place) → FormedElements ends b d es → Stated b d ends (statement.Run place es)
build_run place ps = let u = build_elements ps in launch (record {
  tree = node s.Launch (pair (word_at place RunWord) u.tree);
  built = is.part (is.both (is.left (is.word refl)) u.built);
  shown = ap (λ es. statement.Run place es) u.shown;
  nests = ap (λ ns. outside ∷ ns) u.nests ∙ sym (statement-Run place _);
}) (ap last_ends u.shown ∙ elements_end ps)

pub build_start : {ends : Bool} {b d : ℕ} {es : List Element} (place : Place) → FormedElements ends b d es → Stated b d ends (statement.Start place es)
build_start place ps = let u = build_elements ps in launch (record {
  tree = node s.Launch (pair (word_at place StartWord) u.tree);
  built = is.part (is.both (is.right (is.word refl)) u.built);
  shown = ap (λ es. statement.Start place es) u.shown;
  nests = ap (λ ns. outside ∷ ns) u.nests ∙ sym (statement-Start place _);
}) (ap last_ends u.shown ∙ elements_end ps)
