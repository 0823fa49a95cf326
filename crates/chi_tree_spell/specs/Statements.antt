-- The spelling of a statement and of a definition, from left to right, in the same two readings: `spelled` keeps the
-- tokens, and `marked_program` the tokens and the places that the nodes keep.
use Rattle.std.specs.Prelude.{Bool, true, false, List, [], ◌∷◌, ◌++◌, Option, Some, None, map}
use Rattle.std.specs.Option.{option_map}
use Rattle.chi_token.specs.declared.keyword.Keyword.TheVariants.{AltWord, BreakWord, ConstWord, ContinueWord, DelayWord, ElifWord, ElseWord, EndWord, EnumWord, ExitWord, FinishWord, ForWord, FuncWord, IfWord, InWord, ModelWord, PassWord, ProcWord, ReturnWord, RunWord, SelectWord, StartWord, TypeWord, UnwindWord, WhileWord, XperWord}
use Rattle.chi_token.specs.declared.place.Place.{Place}
use Rattle.chi_token.specs.declared.place.Spanned.{Spanned}
use Rattle.chi_token.specs.declared.sign.Sign.TheVariants.{Assign, Bang, Question, Comma, Colon, Semicolon}
use Rattle.chi_token.specs.declared.token.Token.TheVariants.{Word, Sign, Text}
use Rattle.chi_tree.specs.declared.type_tree.Name.{Name}
use Rattle.chi_tree.specs.declared.type_tree.TypeTree.{TypeTree}
use Rattle.chi_tree.specs.declared.type_tree.Formal.{Formal}
use Rattle.chi_tree.specs.declared.expr.Expr.{Expr}
use Rattle.chi_tree.specs.declared.statement.Variable.{Variable}
use Rattle.chi_tree.specs.declared.statement.Initial.{Initial}
use Rattle.chi_tree.specs.declared.statement.Target.{Target}
use Rattle.chi_tree.specs.declared.statement.Walk.{Walk}
use Rattle.chi_tree.specs.declared.statement.Communication.{Communication}
use Rattle.chi_tree.specs.declared.statement.Communication.TheVariants.{Send, Receive, Delay}
use Rattle.chi_tree.specs.declared.statement.Element.{Element, Element-F, fold-Element}
use Rattle.chi_tree.specs.declared.statement.Step.{Step, Step-F, fold-Step}
use Rattle.chi_tree.specs.declared.statement.Statement.{Statement, Statement-F, fold-Statement}
use Rattle.chi_tree.specs.declared.statement.Branch.{Branch, Branch-F, fold-Branch}
use Rattle.chi_tree.specs.declared.statement.Alternative.{Alternative, Alternative-F, fold-Alternative}
use Rattle.chi_tree.specs.declared.definition.Definition.{Definition}
use Rattle.chi_tree.specs.declared.definition.Definition.TheVariants as definition
use Rattle.chi_tree.specs.declared.definition.Item.{Item}
use Rattle.chi_tree.specs.declared.definition.Program.{Program}
use Rattle.chi_tree_spell.specs.Marks.{Put, plain, Mark, mark, Agree}
use Rattle.chi_tree_spell.specs.Words.{Tokens, write_word, if_any, all, each_after, separated}
use Rattle.chi_tree_spell.specs.Expressions.{bare, kept, put_name, put_commas, put_round, put_curly, put_expr, put_postfix, put_type, put_formals}

module _ {X : Type 0} (put : Put X) where
  abbrev pub put_names : List Name → List X
  put_names names = put_commas put (map (λ n. put_name put n ∷ []) names)

  abbrev pub put_exprs : List Expr → List X
  put_exprs exprs = put_commas put (map (put_expr put) exprs)

  abbrev pub put_semicolon : Bool → List X
  put_semicolon false = []
  put_semicolon true = bare put (Sign Semicolon) ∷ []

  -- variables, targets, walks and communications

  abbrev pub put_initial : Option Initial → List X
  put_initial None = []
  put_initial (Some initial) = kept put (Sign Assign) initial.equals ∷ put_expr put initial.value

  abbrev pub put_variable : Variable → List X
  put_variable variable = put_name put variable.name ∷ put_initial variable.initial

  abbrev pub put_target : Target → List X
  put_target target = put_name put target.name ∷ all (map (put_postfix put) target.steps)

  abbrev pub put_walk : Walk → List X
  put_walk walk = put_names walk.names ++ bare put (Word InWord) ∷ put_expr put walk.container

  abbrev pub put_optional_name : Option Name → List X
  put_optional_name name = if_any (option_map (λ n. put_name put n ∷ []) name)

  abbrev pub put_communication : Communication → List X
  put_communication (Send target place e) = put_target target ++ kept put (Sign Bang) place ∷ if_any (option_map (put_expr put) e)
  put_communication (Receive target place name) = put_target target ++ kept put (Sign Question) place ∷ put_optional_name name
  put_communication (Delay place length) = kept put (Word DelayWord) place ∷ put_expr put length

  -- what is run or started

  abbrev pub put_assigned : Option Target → List X
  put_assigned None = []
  put_assigned (Some target) = put_target target ++ bare put (Sign Assign) ∷ []

  abbrev pub element_step : Element-F (List X) → List X
  element_step (Element-F.Make target name arguments) = put_assigned target ++ put_name put name ∷ put_round put (put_exprs arguments)
  element_step (Element-F.Unwind place walk elements) =
      kept put (Word UnwindWord) place ∷ put_walk walk ++ bare put (Sign Colon) ∷ put_commas put elements ++ bare put (Word EndWord) ∷ []

  abbrev pub put_element : Element → List X
  put_element = fold-Element (List X) element_step

  abbrev pub put_elements : List Element → List X
  put_elements elements = put_commas put (map put_element elements)

  -- statements

  abbrev pub put_guard : Option Expr → List X
  put_guard None = []
  put_guard (Some guard) = put_expr put guard ++ bare put (Sign Comma) ∷ []

  -- a block after its colon, if there is one
  abbrev pub put_body : List (List X) → List X
  put_body [] = []
  put_body (first ∷ more) = bare put (Sign Colon) ∷ all (first ∷ more)

  abbrev pub put_else : List (List X) → List X
  put_else [] = []
  put_else (first ∷ more) = bare put (Word ElseWord) ∷ bare put (Sign Colon) ∷ all (first ∷ more)

  -- a block from its colon to its end
  abbrev pub put_to_end : List (List X) → List X
  put_to_end block = bare put (Sign Colon) ∷ all block ++ bare put (Word EndWord) ∷ []

  abbrev pub statement_step : Statement-F (List X) (List X) (List X) (List X) → List X
  statement_step (Statement-F.Declare ty variables) = put_type put ty ++ put_commas put (map put_variable variables)
  statement_step (Statement-F.Assign targets equals values) =
      put_commas put (map put_target targets) ++ kept put (Sign Assign) equals ∷ put_exprs values
  statement_step (Statement-F.Communicate communication) = put_communication communication
  statement_step (Statement-F.Pass place) = kept put (Word PassWord) place ∷ []
  statement_step (Statement-F.Break place) = kept put (Word BreakWord) place ∷ []
  statement_step (Statement-F.Continue place) = kept put (Word ContinueWord) place ∷ []
  statement_step (Statement-F.Select place alternatives) =
      kept put (Word SelectWord) place ∷ separated (bare put (Word AltWord)) alternatives ++ bare put (Word EndWord) ∷ []
  statement_step (Statement-F.If place branches otherwise) =
      kept put (Word IfWord) place ∷ separated (bare put (Word ElifWord)) branches ++ put_else otherwise ++ bare put (Word EndWord) ∷ []
  statement_step (Statement-F.While place condition block) = kept put (Word WhileWord) place ∷ put_expr put condition ++ put_to_end block
  statement_step (Statement-F.For place walk block) = kept put (Word ForWord) place ∷ put_walk walk ++ put_to_end block
  statement_step (Statement-F.Return place value) = kept put (Word ReturnWord) place ∷ put_expr put value
  statement_step (Statement-F.Exit place value) = kept put (Word ExitWord) place ∷ if_any (option_map (put_expr put) value)
  statement_step (Statement-F.Run place elements) = kept put (Word RunWord) place ∷ put_elements elements
  statement_step (Statement-F.Start place elements) = kept put (Word StartWord) place ∷ put_elements elements
  statement_step (Statement-F.Finish place instances) = kept put (Word FinishWord) place ∷ put_exprs instances
  statement_step (Statement-F.Write place ends_line format format_place values) =
      kept put (Word (write_word ends_line)) place
      ∷ put_round put (kept put (Text format) format_place ∷ each_after (bare put (Sign Comma)) (map (put_expr put) values))

  abbrev pub step_step : Step-F (List X) (List X) (List X) (List X) → List X
  step_step step = step.statement ++ put_semicolon step.semicolon

  abbrev pub branch_step : Branch-F (List X) (List X) (List X) (List X) → List X
  branch_step branch = put_expr put branch.condition ++ bare put (Sign Colon) ∷ all branch.block

  abbrev pub alternative_step : Alternative-F (List X) (List X) (List X) (List X) → List X
  alternative_step (Alternative-F.Guarded guard communication block) =
      put_guard guard ++ put_communication communication ++ put_body block
  alternative_step (Alternative-F.Unwind place walk alternatives) =
      kept put (Word UnwindWord) place ∷ put_walk walk ++ bare put (Sign Colon) ∷ separated (bare put (Word AltWord)) alternatives ++ bare put (Word EndWord) ∷ []

  abbrev pub put_step : Step → List X
  put_step = fold-Step (List X) (List X) (List X) (List X) alternative_step statement_step branch_step step_step

  abbrev pub put_statement : Statement → List X
  put_statement = fold-Statement (List X) (List X) (List X) (List X) alternative_step statement_step branch_step step_step

  abbrev pub put_branch : Branch → List X
  put_branch = fold-Branch (List X) (List X) (List X) (List X) alternative_step statement_step branch_step step_step

  abbrev pub put_alternative : Alternative → List X
  put_alternative = fold-Alternative (List X) (List X) (List X) (List X) alternative_step statement_step branch_step step_step

  abbrev pub put_block : List Step → List X
  put_block block = all (map put_step block)

  -- definitions

  abbrev pub put_head : Option TypeTree → Name → List X
  put_head ty name = if_any (option_map (put_type put) ty) ++ put_name put name ∷ []

  abbrev pub put_callable : List Formal → List Step → List X
  put_callable formals block = put_round put (put_formals put formals) ++ put_to_end (map put_step block)

  abbrev pub put_definition : Definition → List X
  put_definition (definition.Enum place name values) =
      kept put (Word EnumWord) place ∷ put_name put name ∷ bare put (Sign Assign) ∷ put_curly put (put_names values)
  put_definition (definition.Const place ty name equals value) =
      kept put (Word ConstWord) place ∷ put_type put ty ++ put_name put name ∷ kept put (Sign Assign) equals ∷ put_expr put value
  put_definition (definition.TypeWord place name ty) =
      kept put (Word TypeWord) place ∷ put_name put name ∷ bare put (Sign Assign) ∷ put_type put ty
  put_definition (definition.Func place result_type name formals block) =
      kept put (Word FuncWord) place ∷ put_type put result_type ++ put_name put name ∷ put_callable formals block
  put_definition (definition.Proc place exit_type name formals block) =
      kept put (Word ProcWord) place ∷ put_head exit_type name ++ put_callable formals block
  put_definition (definition.Model place exit_type name formals block) =
      kept put (Word ModelWord) place ∷ put_head exit_type name ++ put_callable formals block
  put_definition (definition.Xper place name block) = kept put (Word XperWord) place ∷ put_name put name ∷ put_callable [] block

  abbrev pub put_item : Item → List X
  put_item item = put_definition item.definition ++ put_semicolon item.semicolon

  abbrev pub put_program : Program → List X
  put_program program = all (map put_item program.items)

-- the tokens alone

abbrev pub spelled_name : Name → Tokens
spelled_name n = put_name plain n ∷ []

abbrev pub spelled_names : List Name → Tokens
spelled_names = put_names plain

abbrev pub spelled_exprs : List Expr → Tokens
spelled_exprs = put_exprs plain

abbrev pub semicolon_if : Bool → Tokens
semicolon_if = put_semicolon plain

abbrev pub initial_tokens : Option Initial → Tokens
initial_tokens = put_initial plain

abbrev pub spelled_variable : Variable → Tokens
spelled_variable = put_variable plain

abbrev pub spelled_target : Target → Tokens
spelled_target = put_target plain

abbrev pub spelled_walk : Walk → Tokens
spelled_walk = put_walk plain

abbrev pub spelled_communication : Communication → Tokens
spelled_communication = put_communication plain

abbrev pub assigned_tokens : Option Target → Tokens
assigned_tokens = put_assigned plain

abbrev pub spelled_element : Element → Tokens
spelled_element = put_element plain

abbrev pub spelled_elements : List Element → Tokens
spelled_elements = put_elements plain

abbrev pub guard_tokens : Option Expr → Tokens
guard_tokens = put_guard plain

abbrev pub body_tokens : List Tokens → Tokens
body_tokens = put_body plain

abbrev pub else_tokens : List Tokens → Tokens
else_tokens = put_else plain

abbrev pub to_end : List Tokens → Tokens
to_end = put_to_end plain

abbrev pub spelled_step : Step → Tokens
spelled_step = put_step plain

abbrev pub spelled_statement : Statement → Tokens
spelled_statement = put_statement plain

abbrev pub spelled_branch : Branch → Tokens
spelled_branch = put_branch plain

abbrev pub spelled_alternative : Alternative → Tokens
spelled_alternative = put_alternative plain

abbrev pub spelled_block : List Step → Tokens
spelled_block = put_block plain

abbrev pub spelled_head : Option TypeTree → Name → Tokens
spelled_head = put_head plain

abbrev pub spelled_body : List Formal → List Step → Tokens
spelled_body = put_callable plain

abbrev pub spelled_definition : Definition → Tokens
spelled_definition = put_definition plain

abbrev pub spelled_item : Item → Tokens
spelled_item = put_item plain

-- the tokens of a source
abbrev pub spelled : Program → Tokens
spelled = put_program plain

-- the tokens with the places that the nodes keep

abbrev pub marked_block : List Step → List Mark
marked_block = put_block mark

abbrev pub marked_program : Program → List Mark
marked_program = put_program mark

-- the place of the last of these tokens
pub data IsLastPlace : List Spanned → Place → Type 0 where
  last : {x : Spanned} → IsLastPlace (x ∷ []) x.place
  later : {x : Spanned} {xs : List Spanned} {place : Place} → IsLastPlace xs place → IsLastPlace (x ∷ xs) place

-- Each place that the program keeps is that of its token: a node's, and that of the last token.
pub record AgreesWith (program : Program) (tokens : List Spanned) : Type 0 where
  pub nodes : Agree (marked_program program) tokens
  pub last : IsLastPlace tokens program.last
