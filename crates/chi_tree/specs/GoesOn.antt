-- The classes with which a tree of each part may go on where it might as well end there. What goes on with a part is what goes on
-- with its last part, and what begins the parts after that one which may be left out: each list is put together of those. The test
-- that one token decides the grammar (`Fine`) holds each line against its rule: a class too few is refused at the line of its part,
-- and one too many where two parts would no longer be told apart. A class may stand twice.
use Rattle.std.specs.Prelude.{List, [], ◌∷◌, ◌++◌}
use Rattle.chi_token.specs.declared.keyword.Keyword.TheVariants.{AltWord, AndWord, OrWord}
use Rattle.chi_token.specs.declared.sign.Sign.TheVariants.{Assign, Caret, Colon, Comma, LeftParen, Semicolon}
use Rattle.chi_tree.specs.declared.class.Class.{Class}
use Rattle.chi_tree.specs.declared.class.Class.TheVariants as class
use Rattle.chi_tree.specs.Parts.{Part}
use Rattle.chi_tree.specs.Parts as s
use Rattle.chi_tree.specs.Words.{classes, relation_signs, sum_signs, product_signs}
use Rattle.chi_tree.specs.Begins.{first_of_after_end, first_of_defined, first_of_expr, first_of_more_formal, first_of_postfix}

-- expressions, from the level that binds most

abbrev pub first_of_arguments : List Class
first_of_arguments = class.Sign LeftParen ∷ []

abbrev pub after_post : List Class
after_post = first_of_postfix ++ first_of_arguments

abbrev pub after_power : List Class
after_power = class.Sign Caret ∷ after_post

abbrev pub after_prod : List Class
after_prod = classes product_signs ++ after_power

abbrev pub after_sum : List Class
after_sum = classes sum_signs ++ after_prod

abbrev pub after_rel : List Class
after_rel = classes relation_signs ++ after_sum

abbrev pub after_conj : List Class
after_conj = class.Word AndWord ∷ after_rel

abbrev pub after_expr : List Class
after_expr = class.Word OrWord ∷ after_conj

-- several expressions
abbrev pub after_exprs : List Class
after_exprs = class.Sign Comma ∷ after_expr

-- what ends in an expression that may be left out
abbrev pub after_optional_expr : List Class
after_optional_expr = first_of_expr ++ after_expr

-- what stands in square brackets
abbrev pub after_upto : List Class
after_upto = class.Sign Colon ∷ after_optional_expr

-- statements

abbrev pub after_variable : List Class
after_variable = class.Sign Assign ∷ after_expr

abbrev pub after_variables : List Class
after_variables = class.Sign Comma ∷ after_variable

-- a communication, or values
abbrev pub after_target_led : List Class
after_target_led = class.Sign Comma ∷ after_optional_expr

-- those, or variables
abbrev pub after_name_led : List Class
after_name_led = class.Sign Assign ∷ after_target_led

abbrev pub after_open : List Class
after_open = after_name_led

abbrev pub after_block : List Class
after_block = first_of_after_end ++ after_open

abbrev pub after_alternative : List Class
after_alternative = class.Sign Colon ∷ after_block

abbrev pub after_alternatives : List Class
after_alternatives = class.Word AltWord ∷ after_alternative

-- definitions

abbrev pub after_definition : List Class
after_definition = class.Sign Semicolon ∷ after_expr

abbrev pub after_program : List Class
after_program = first_of_defined ++ after_definition

abbrev pub goes_on : Part → List Class
goes_on s.Program = after_program
goes_on s.Definition = after_definition
goes_on s.Defined = after_expr
goes_on s.EnumDef = []
goes_on s.ConstDef = after_expr
goes_on s.TypeDef = []
goes_on s.FuncDef = []
goes_on s.ProcDef = []
goes_on s.ModelDef = []
goes_on s.XperDef = []
goes_on s.Head = class.Name ∷ []
goes_on s.Parameters = []
goes_on s.Body = []
goes_on s.Formals = first_of_more_formal
goes_on s.MoreFormal = []
goes_on s.Names = class.Sign Comma ∷ []
goes_on s.AnyType = []
goes_on s.NamedType = []
goes_on s.BuiltType = []
goes_on s.WordType = []
goes_on s.ListType = []
goes_on s.SetType = []
goes_on s.DistType = []
goes_on s.DictType = []
goes_on s.TupleType = []
goes_on s.Fields = first_of_more_formal
goes_on s.MoreField = []
goes_on s.ChanType = []
goes_on s.Carried = []
goes_on s.Block = after_block
goes_on s.AfterEnd = after_block
goes_on s.AfterOpen = after_block
goes_on s.Inner = after_block
goes_on s.Closed = []
goes_on s.Open = after_open
goes_on s.Declaration = after_variables
goes_on s.Variables = after_variables
goes_on s.Variable = after_variable
goes_on s.Initial = after_expr
goes_on s.NameLed = after_name_led
goes_on s.AfterName = after_name_led
goes_on s.AfterTarget = after_target_led
goes_on s.Assignment = after_exprs
goes_on s.Timed = after_expr
goes_on s.Jump = []
goes_on s.Return = after_expr
goes_on s.Exit = after_optional_expr
goes_on s.Finish = after_exprs
goes_on s.Write = []
goes_on s.Written = []
goes_on s.If = []
goes_on s.Branch = after_block
goes_on s.Elif = after_block
goes_on s.Else = after_block
goes_on s.While = []
goes_on s.For = []
goes_on s.Walk = after_expr
goes_on s.Target = first_of_postfix
goes_on s.TargetStep = []
goes_on s.TargetIndex = []
goes_on s.Communication = after_optional_expr
goes_on s.CommunicationEnd = after_optional_expr
goes_on s.Sending = after_optional_expr
goes_on s.Receiving = class.Name ∷ []
goes_on s.Delay = after_expr
goes_on s.Select = []
goes_on s.Alternatives = after_alternatives
goes_on s.Alternative = after_alternative
goes_on s.UnwoundAlternatives = []
goes_on s.GuardedAlternative = after_alternative
goes_on s.AlternativeBody = after_block
goes_on s.Offer = after_optional_expr
goes_on s.Offered = after_optional_expr
goes_on s.Guarded = after_optional_expr
goes_on s.Launch = class.Sign Comma ∷ []
goes_on s.Elements = class.Sign Comma ∷ []
goes_on s.Element = []
goes_on s.UnwoundElements = []
goes_on s.Make = []
goes_on s.Made = []
goes_on s.AssignedMake = []
goes_on s.Exprs = after_exprs
goes_on s.Expr = after_expr
goes_on s.OrLink = after_conj
goes_on s.Conj = after_conj
goes_on s.AndLink = after_rel
goes_on s.Neg = after_rel
goes_on s.NotNeg = after_rel
goes_on s.Rel = after_rel
goes_on s.RelLink = after_sum
goes_on s.Sum = after_sum
goes_on s.SumLink = after_prod
goes_on s.Prod = after_prod
goes_on s.ProdLink = after_power
goes_on s.Unary = after_power
goes_on s.Prefixed = after_power
goes_on s.Power = after_power
goes_on s.PowerLink = after_power
goes_on s.Post = after_post
goes_on s.Postfix = []
goes_on s.Field = []
goes_on s.Bracket = []
goes_on s.Inside = after_upto
goes_on s.Upto = after_upto
goes_on s.ByStep = after_optional_expr
goes_on s.Primary = first_of_arguments
goes_on s.Literal = []
goes_on s.Named = first_of_arguments
goes_on s.Arguments = []
goes_on s.Cast = []
goes_on s.Round = []
goes_on s.Others = after_exprs
goes_on s.Square = []
goes_on s.Curly = []
goes_on s.Contents = after_exprs
goes_on s.Entries = after_exprs
goes_on s.MoreEntry = after_expr
goes_on s.Blank = []
goes_on s.BlankEnd = []
goes_on s.BlankItems = []
goes_on s.BlankElements = []
