-- For each part: what it is shown as is read as the part's tokens.
use Rattle.std.proofs.Common.{◌≡◌, ℕ, List, [], ◌∷◌, ◌++◌, map, true, Option}
use Rattle.std.specs.Option.{option_map}
use Rattle.chi_grammar.specs.declared.room.Room.{Room}
use Rattle.chi_grammar.specs.Rules.{Rule, leaf, node, pair}
use Rattle.chi_token.specs.declared.place.Place.{Place}
use Rattle.chi_token.specs.declared.place.Spanned.{Spanned}
use Rattle.chi_token.specs.declared.keyword.Keyword.TheVariants.{AltWord, ElifWord}
use Rattle.chi_token.specs.declared.sign.Sign.TheVariants.{Colon, Comma, Less}
use Rattle.chi_token.specs.declared.token.Token.TheVariants.{Sign, Text, Word}
use Rattle.chi_tree.specs.declared.type_tree.Name.{Name}
use Rattle.chi_tree.specs.declared.type_tree.TypeTree.{TypeTree}
use Rattle.chi_tree.specs.declared.expr.Expr.{Expr}
use Rattle.chi_tree.specs.declared.expr.Expr.TheVariants as expr
use Rattle.chi_tree.specs.declared.statement.Target.{Target}
use Rattle.chi_tree.specs.declared.statement.Communication.{Communication}
use Rattle.chi_tree.specs.declared.statement.Statement.{Statement}
use Rattle.chi_tree.specs.declared.statement.Statement.TheVariants as statement
use Rattle.chi_tree.specs.declared.statement.Step.{Step}
use Rattle.chi_tree.specs.Parts.{Part}
use Rattle.chi_tree.specs.Parts as s
use Rattle.chi_tree.specs.View.{Built, type_of, carried_of, formals_of, formal_of, expr_of, link_of, related, powered, postfix_of, inside, indexed, stepped, arguments_of, exprs_of, bracketed, braced, entry_of, blank, names_in}
use Rattle.chi_tree.specs.Statements.{ends_line_shown, target_of, initial_of, variable_of, variables_of, walk_of, communicated, communication_of, as_target, is_some, offered, offer_of, made, elements_of, element_of, led, written, statement_of, block_of, followed, inner_of, body_of, branch_of, elif_of, else_of, alternatives_of, alternative_of, alternative_body_of, head_of, parameters_of, definition_of, item_of, program_of, is_bare}
use Rattle.chi_tree_spell.specs.Words.{each_after, separated}
use Rattle.chi_tree_spell.specs.Expressions.{bare, kept, put_commas, put_further, put_round, put_square, put_curly, square_at, curly_at, put_carried, put_expr, put_link, put_postfix, put_entry, put_type, put_declared, put_formals}
use Rattle.chi_tree_spell.specs.Statements.{put_names, put_initial, put_variable, put_target, put_walk, put_communication, put_element, put_elements, put_guard, put_body, put_else, put_to_end, put_alternative, put_statement, put_branch, put_step, put_block, put_head, put_definition, put_item, put_program}
use Rattle.chi_tree_spell.proofs.ExprTokens.{put_if}
use Rattle.chi_tree.proofs.Made.{Made}
use Rattle.chi_tree_spell.proofs.BuiltTokens.{Reading, Spells}

module _ (reading : Reading) where
  -- what goes on with an expression before it
  abbrev pub GoesOn : (Expr → Built → Expr) → Built → Type 0
  GoesOn shown t = (e : Expr) (u : Built) → Spells reading u (put_expr reading.put e) → Spells reading (pair u t) (put_expr reading.put (shown e t))

  -- the second colon of a slice, and what is after it
  pub record ByTokens (t : Built) : Type 0 where
    pub tokens : List reading.X
    pub spells : Spells reading t tokens
    pub shown : (place : Place) (from upto : Option Expr)
        → square_at reading.put place (put_if reading.put from ++ (bare reading.put (Sign Colon) ∷ put_if reading.put upto ++ tokens)) ≡ put_postfix reading.put (stepped place from upto t)

  -- a slice from its first colon on
  pub record UptoTokens (t : Built) : Type 0 where
    pub tokens : List reading.X
    pub spells : Spells reading t tokens
    pub after : (place : Place) (e : Expr) → square_at reading.put place (put_expr reading.put e ++ tokens) ≡ put_postfix reading.put (indexed place e t)
    pub alone : (place : Place) → square_at reading.put place tokens ≡ put_postfix reading.put (inside place (node s.Inside t))

  pub record InsideTokens (t : Built) : Type 0 where
    pub tokens : List reading.X
    pub spells : Spells reading t tokens
    pub shown : (place : Place) → square_at reading.put place tokens ≡ put_postfix reading.put (inside place t)

  -- expressions, one at least
  pub record ExprsTokens (t : Built) : Type 0 where
    pub first : Expr
    pub more : List Expr
    pub are : exprs_of t ≡ first ∷ more
    pub spells : Spells reading t (put_commas reading.put (map (put_expr reading.put) (exprs_of t)))

  -- further expressions in brackets
  pub record OthersTokens (t : Built) : Type 0 where
    pub others : List Expr
    pub spells : Spells reading t (each_after (bare reading.put (Sign Comma)) (map (put_expr reading.put) others))
    pub tuple : (place : Place) (e : Expr) → bracketed place e t ≡ expr.TupleOf place (e ∷ others)
    pub set : (place : Place) (e : Expr) → braced place e t ≡ expr.SetOf place (e ∷ others)

  -- what stands in braces after the first expression
  pub record BracedTokens (t : Built) : Type 0 where
    pub tokens : List reading.X
    pub spells : Spells reading t tokens
    pub shown : (place : Place) (e : Expr) → curly_at reading.put place (put_expr reading.put e ++ tokens) ≡ put_expr reading.put (braced place e t)

  -- an empty literal after its first type
  pub record BlankTokens (t : Built) : Type 0 where
    pub tokens : List reading.X
    pub spells : Spells reading t tokens
    pub shown : (place : Place) (ty : TypeTree) → kept reading.put (Sign Less) place ∷ put_type reading.put ty ++ tokens ≡ put_expr reading.put (blank place ty t)

  -- what stands after a target, after one that is a name, and after an expression in an alternative

  abbrev pub AfterATarget : (Target → List reading.X) → Built → Type 0
  AfterATarget shown t = (target : Target) (u : Built) → Spells reading u (put_target reading.put target) → Spells reading (pair u t) (shown target)

  abbrev pub AfterAName : (Target → List reading.X) → Built → Type 0
  AfterAName shown t = (target : Target) (u : Built) → is_bare target.steps ≡ true → Spells reading u (put_target reading.put target) → Spells reading (pair u t) (shown target)

  abbrev pub offer_tokens : Option Expr × Communication → List reading.X
  offer_tokens offer = put_guard reading.put offer.0 ++ put_communication reading.put offer.1

  abbrev pub AfterAGuard : Built → Type 0
  AfterAGuard t = (e : Expr) (u : Built) → Spells reading u (put_expr reading.put e) → Spells reading (pair u t) (offer_tokens (offered e t))

  abbrev pub AfterATargetExpr : Built → Type 0
  AfterATargetExpr t = (e : Expr) (u : Built) → is_some (as_target e) ≡ true → Spells reading u (put_expr reading.put e) → Spells reading (pair u t) (offer_tokens (offered e t))

  -- the format and the values of a write
  pub record WrittenTokens (t : Built) : Type 0 where
    pub text : List ℕ
    pub at : Place
    pub values : List Expr
    pub spells : Spells reading t (put_round reading.put (kept reading.put (Text text) at ∷ each_after (bare reading.put (Sign Comma)) (map (put_expr reading.put) values)))
    pub shown : (x : Spanned) → written (leaf x) t ≡ statement.Write x.place (ends_line_shown x.token) text at values

  -- statements, one at least
  pub record BlockTokens (block : List Step) (t : Built) : Type 0 where
    pub first : Step
    pub more : List Step
    pub are : block ≡ first ∷ more
    pub spells : Spells reading t (put_block reading.put block)

  abbrev pub AfterAStatement : Built → Type 0
  AfterAStatement t = (statement : Statement) (u : Built) → Spells reading u (put_statement reading.put statement) → BlockTokens (followed statement t) (pair u t)

  abbrev pub head_tokens : Option TypeTree × Name → List reading.X
  head_tokens head = put_head reading.put head.0 head.1

  abbrev pub Shown : Room → Part → Built → Type 0
  Shown room s.AnyType t = Spells reading t (put_type reading.put (type_of t))
  Shown room s.NamedType t = Spells reading t (put_type reading.put (type_of t))
  Shown room s.BuiltType t = Spells reading t (put_type reading.put (type_of t))
  Shown room s.WordType t = Spells reading t (put_type reading.put (type_of t))
  Shown room s.ListType t = Spells reading t (put_type reading.put (type_of t))
  Shown room s.SetType t = Spells reading t (put_type reading.put (type_of t))
  Shown room s.DistType t = Spells reading t (put_type reading.put (type_of t))
  Shown room s.DictType t = Spells reading t (put_type reading.put (type_of t))
  Shown room s.TupleType t = Spells reading t (put_type reading.put (type_of t))
  Shown room s.ChanType t = Spells reading t (put_type reading.put (type_of t))
  Shown room s.Carried t = Spells reading t (put_carried reading.put (option_map (put_type reading.put) (carried_of t)))
  Shown room s.Fields t = Spells reading t (put_formals reading.put (formals_of t))
  Shown room s.Formals t = Spells reading t (put_formals reading.put (formals_of t))
  Shown room s.MoreField t = Spells reading t (put_further reading.put (put_declared reading.put (formal_of t)))
  Shown room s.MoreFormal t = Spells reading t (put_further reading.put (put_declared reading.put (formal_of t)))
  Shown room s.Expr t = Spells reading t (put_expr reading.put (expr_of t))
  Shown room s.Conj t = Spells reading t (put_expr reading.put (expr_of t))
  Shown room s.Neg t = Spells reading t (put_expr reading.put (expr_of t))
  Shown room s.NotNeg t = Spells reading t (put_expr reading.put (expr_of t))
  Shown room s.Rel t = Spells reading t (put_expr reading.put (expr_of t))
  Shown room s.Sum t = Spells reading t (put_expr reading.put (expr_of t))
  Shown room s.Prod t = Spells reading t (put_expr reading.put (expr_of t))
  Shown room s.Unary t = Spells reading t (put_expr reading.put (expr_of t))
  Shown room s.Prefixed t = Spells reading t (put_expr reading.put (expr_of t))
  Shown room s.Power t = Spells reading t (put_expr reading.put (expr_of t))
  Shown room s.Post t = Spells reading t (put_expr reading.put (expr_of t))
  Shown room s.Primary t = Spells reading t (put_expr reading.put (expr_of t))
  Shown room s.Literal t = Spells reading t (put_expr reading.put (expr_of t))
  Shown room s.Named t = Spells reading t (put_expr reading.put (expr_of t))
  Shown room s.Cast t = Spells reading t (put_expr reading.put (expr_of t))
  Shown room s.Round t = Spells reading t (put_expr reading.put (expr_of t))
  Shown room s.Square t = Spells reading t (put_expr reading.put (expr_of t))
  Shown room s.Curly t = Spells reading t (put_expr reading.put (expr_of t))
  Shown room s.Blank t = Spells reading t (put_expr reading.put (expr_of t))
  Shown room s.OrLink t = Spells reading t (put_link reading.put (link_of t))
  Shown room s.AndLink t = Spells reading t (put_link reading.put (link_of t))
  Shown room s.SumLink t = Spells reading t (put_link reading.put (link_of t))
  Shown room s.ProdLink t = Spells reading t (put_link reading.put (link_of t))
  Shown room s.RelLink t = GoesOn related t
  Shown room s.PowerLink t = GoesOn powered t
  Shown room s.Postfix t = Spells reading t (put_postfix reading.put (postfix_of t))
  Shown room s.TargetStep t = Spells reading t (put_postfix reading.put (postfix_of t))
  Shown room s.TargetIndex t = Spells reading t (put_postfix reading.put (postfix_of t))
  Shown room s.Field t = Spells reading t (put_postfix reading.put (postfix_of t))
  Shown room s.Bracket t = Spells reading t (put_postfix reading.put (postfix_of t))
  Shown room s.Inside t = InsideTokens t
  Shown room s.Upto t = UptoTokens t
  Shown room s.ByStep t = ByTokens t
  Shown room s.Arguments t = Spells reading t (put_round reading.put (put_commas reading.put (map (put_expr reading.put) (arguments_of t))))
  Shown room s.Exprs t = ExprsTokens t
  Shown room s.Others t = OthersTokens t
  Shown room s.Contents t = BracedTokens t
  Shown room s.Entries t = BracedTokens t
  Shown room s.MoreEntry t = Spells reading t (bare reading.put (Sign Comma) ∷ put_entry reading.put (entry_of t))
  Shown room s.BlankEnd t = BlankTokens t
  Shown room s.BlankItems t = Spells reading t (put_square reading.put [])
  Shown room s.BlankElements t = Spells reading t (put_curly reading.put [])
  Shown room s.Names t = Spells reading t (put_names reading.put (names_in t))
  Shown room s.Target t = Spells reading t (put_target reading.put (target_of t))
  Shown room s.Initial t = Spells reading t (put_initial reading.put (initial_of t))
  Shown room s.Variable t = Spells reading t (put_variable reading.put (variable_of t))
  Shown room s.Variables t = Spells reading t (put_commas reading.put (map (put_variable reading.put) (variables_of t)))
  Shown room s.Walk t = Spells reading t (put_walk reading.put (walk_of t))
  Shown room s.Delay t = Spells reading t (put_communication reading.put (communication_of t))
  Shown room s.Communication t = Spells reading t (put_communication reading.put (communication_of t))
  Shown room s.CommunicationEnd t = AfterATarget (λ target. put_communication reading.put (communicated target t)) t
  Shown room s.Sending t = AfterATarget (λ target. put_communication reading.put (communicated target t)) t
  Shown room s.Receiving t = AfterATarget (λ target. put_communication reading.put (communicated target t)) t
  Shown room s.Elements t = Spells reading t (put_elements reading.put (elements_of t))
  Shown room s.Element t = Spells reading t (put_element reading.put (element_of t))
  Shown room s.UnwoundElements t = Spells reading t (put_element reading.put (element_of t))
  Shown room s.Make t = Spells reading t (put_element reading.put (element_of t))
  Shown room s.Made t = AfterAName (λ target. put_element reading.put (made target t)) t
  Shown room s.AssignedMake t = AfterATarget (λ target. put_element reading.put (made target t)) t
  Shown room s.Closed t = Spells reading t (put_statement reading.put (statement_of t))
  Shown room s.Open t = Spells reading t (put_statement reading.put (statement_of t))
  Shown room s.Declaration t = Spells reading t (put_statement reading.put (statement_of t))
  Shown room s.NameLed t = Spells reading t (put_statement reading.put (statement_of t))
  Shown room s.AfterName t = AfterAName (λ target. put_statement reading.put (led target t)) t
  Shown room s.AfterTarget t = AfterATarget (λ target. put_statement reading.put (led target t)) t
  Shown room s.Assignment t = AfterATarget (λ target. put_statement reading.put (led target t)) t
  Shown room s.Timed t = Spells reading t (put_statement reading.put (statement_of t))
  Shown room s.Jump t = Spells reading t (put_statement reading.put (statement_of t))
  Shown room s.Return t = Spells reading t (put_statement reading.put (statement_of t))
  Shown room s.Exit t = Spells reading t (put_statement reading.put (statement_of t))
  Shown room s.Finish t = Spells reading t (put_statement reading.put (statement_of t))
  Shown room s.Write t = Spells reading t (put_statement reading.put (statement_of t))
  Shown room s.Written t = WrittenTokens t
  Shown room s.If t = Spells reading t (put_statement reading.put (statement_of t))
  Shown room s.While t = Spells reading t (put_statement reading.put (statement_of t))
  Shown room s.For t = Spells reading t (put_statement reading.put (statement_of t))
  Shown room s.Select t = Spells reading t (put_statement reading.put (statement_of t))
  Shown room s.Launch t = Spells reading t (put_statement reading.put (statement_of t))
  Shown room s.Block t = BlockTokens (block_of t) t
  Shown room s.AfterEnd t = AfterAStatement t
  Shown room s.AfterOpen t = AfterAStatement t
  Shown room s.Inner t = BlockTokens (inner_of t) t
  Shown room s.Body t = Spells reading t (put_to_end reading.put (map (put_step reading.put) (body_of t)))
  Shown room s.Branch t = Spells reading t (put_branch reading.put (branch_of t))
  Shown room s.Elif t = Spells reading t (bare reading.put (Word ElifWord) ∷ put_branch reading.put (elif_of t))
  Shown room s.Else t = Spells reading t (put_else reading.put (map (put_step reading.put) (else_of t)))
  Shown room s.Alternatives t = Spells reading t (separated (bare reading.put (Word AltWord)) (map (put_alternative reading.put) (alternatives_of t)))
  Shown room s.Alternative t = Spells reading t (put_alternative reading.put (alternative_of t))
  Shown room s.UnwoundAlternatives t = Spells reading t (put_alternative reading.put (alternative_of t))
  Shown room s.GuardedAlternative t = Spells reading t (put_alternative reading.put (alternative_of t))
  Shown room s.AlternativeBody t = Spells reading t (put_body reading.put (map (put_step reading.put) (alternative_body_of t)))
  Shown room s.Offer t = Spells reading t (offer_tokens (offer_of t))
  Shown room s.Offered t = AfterATargetExpr t
  Shown room s.Guarded t = AfterAGuard t
  Shown room s.Parameters t = Spells reading t (put_round reading.put (put_formals reading.put (parameters_of t)))
  Shown room s.Head t = Spells reading t (head_tokens (head_of t))
  Shown room s.Defined t = Spells reading t (put_definition reading.put (definition_of t))
  Shown room s.EnumDef t = Spells reading t (put_definition reading.put (definition_of t))
  Shown room s.ConstDef t = Spells reading t (put_definition reading.put (definition_of t))
  Shown room s.TypeDef t = Spells reading t (put_definition reading.put (definition_of t))
  Shown room s.FuncDef t = Spells reading t (put_definition reading.put (definition_of t))
  Shown room s.ProcDef t = Spells reading t (put_definition reading.put (definition_of t))
  Shown room s.ModelDef t = Spells reading t (put_definition reading.put (definition_of t))
  Shown room s.XperDef t = Spells reading t (put_definition reading.put (definition_of t))
  Shown room s.Definition t = Spells reading t (put_item reading.put (item_of t))
  Shown room s.Program t = Spells reading t (put_program reading.put (program_of t))

  -- what the rule builds, where each part in it is shown so
  abbrev pub M : Room → Rule Spanned Part → Built → Type 0
  M = Made Shown
