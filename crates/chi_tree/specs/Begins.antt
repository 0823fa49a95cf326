-- The classes with which each part begins, in the order of the grammar's alternatives. The parts are lists of their own, put
-- together as the productions are. The test that one token decides the grammar (`Fine`) holds each line against its rule: a class
-- too few or too many is refused at the line of its part.
use Rattle.std.specs.Prelude.{List, [], ◌∷◌, ◌++◌}
use Rattle.chi_token.specs.declared.keyword.Keyword.TheVariants.{AndWord, ChanWord, ConstWord, DelayWord, DictWord, DistWord, ElifWord, ElseWord, EnumWord, ExitWord, FinishWord, ForWord, FuncWord, IfWord, ListWord, ModelWord, NotWord, OrWord, ProcWord, ReturnWord, SelectWord, SetWord, TupleWord, TypeWord, UnwindWord, VoidWord, WhileWord, XperWord}
use Rattle.chi_token.specs.declared.sign.Sign.TheVariants.{Assign, Bang, Caret, Colon, Comma, Dot, Greater, LeftBrace, LeftBracket, LeftParen, Less, Question, Semicolon}
use Rattle.chi_tree.specs.declared.class.Class.{Class}
use Rattle.chi_tree.specs.declared.class.Class.TheVariants as class
use Rattle.chi_tree.specs.Parts.{Part}
use Rattle.chi_tree.specs.Parts as s
use Rattle.chi_tree.specs.Words.{classes, relation_signs, sum_signs, product_signs, prefix_signs, type_words, cast_words, literals, jumps, write_words, launch_words}

-- expressions

abbrev pub first_of_primary : List Class
first_of_primary = classes literals ++ class.Name ∷ classes cast_words ++ class.Sign LeftParen ∷ class.Sign LeftBracket ∷ class.Sign LeftBrace ∷ class.Sign Less ∷ []

abbrev pub first_of_unary : List Class
first_of_unary = classes prefix_signs ++ first_of_primary

abbrev pub first_of_expr : List Class
first_of_expr = class.Word NotWord ∷ first_of_unary

-- what stands in square brackets
abbrev pub first_of_inside : List Class
first_of_inside = first_of_expr ++ class.Sign Colon ∷ []

abbrev pub first_of_postfix : List Class
first_of_postfix = class.Sign LeftBracket ∷ class.Sign Dot ∷ []

-- types

-- a type that is no name
abbrev pub first_of_built_type : List Class
first_of_built_type = classes type_words ++ class.Word ListWord ∷ class.Word SetWord ∷ class.Word DistWord ∷ class.Word DictWord ∷ class.Word TupleWord ∷ class.Word ChanWord ∷ []

abbrev pub first_of_type : List Class
first_of_type = first_of_built_type ++ class.Name ∷ []

-- what a channel carries
abbrev pub first_of_carried : List Class
first_of_carried = class.Word VoidWord ∷ first_of_type

-- a formal after another
abbrev pub first_of_more_formal : List Class
first_of_more_formal = class.Sign Comma ∷ class.Sign Semicolon ∷ []

-- communications and selects

abbrev pub first_of_communication_end : List Class
first_of_communication_end = class.Sign Bang ∷ class.Sign Question ∷ []

abbrev pub first_of_offer : List Class
first_of_offer = class.Word DelayWord ∷ first_of_expr

abbrev pub first_of_alternative : List Class
first_of_alternative = class.Word UnwindWord ∷ first_of_offer

abbrev pub first_of_element : List Class
first_of_element = class.Word UnwindWord ∷ class.Name ∷ []

-- statements

abbrev pub first_of_assignment : List Class
first_of_assignment = class.Sign Comma ∷ class.Sign Assign ∷ []

abbrev pub first_of_after_target : List Class
first_of_after_target = first_of_communication_end ++ first_of_assignment

abbrev pub first_of_after_name : List Class
first_of_after_name = class.Name ∷ first_of_after_target

-- a statement whose last token is "end"
abbrev pub first_of_closed : List Class
first_of_closed = class.Word SelectWord ∷ class.Word IfWord ∷ class.Word WhileWord ∷ class.Word ForWord ∷ []

-- a statement whose last token never is
abbrev pub first_of_open : List Class
first_of_open = first_of_built_type ++ class.Name ∷ class.Word DelayWord ∷ classes jumps ++ class.Word ReturnWord ∷ class.Word ExitWord ∷ class.Word FinishWord ∷ classes write_words

abbrev pub first_of_block : List Class
first_of_block = first_of_closed ++ classes launch_words ++ first_of_open

abbrev pub first_of_after_end : List Class
first_of_after_end = class.Sign Semicolon ∷ first_of_block

-- definitions

abbrev pub first_of_defined : List Class
first_of_defined = class.Word EnumWord ∷ class.Word ConstWord ∷ class.Word TypeWord ∷ class.Word FuncWord ∷ class.Word ProcWord ∷ class.Word ModelWord ∷ class.Word XperWord ∷ []

abbrev pub begins : Part → List Class
begins s.Program = first_of_defined
begins s.Definition = first_of_defined
begins s.Defined = first_of_defined
begins s.EnumDef = class.Word EnumWord ∷ []
begins s.ConstDef = class.Word ConstWord ∷ []
begins s.TypeDef = class.Word TypeWord ∷ []
begins s.FuncDef = class.Word FuncWord ∷ []
begins s.ProcDef = class.Word ProcWord ∷ []
begins s.ModelDef = class.Word ModelWord ∷ []
begins s.XperDef = class.Word XperWord ∷ []
begins s.Head = first_of_type
begins s.Parameters = class.Sign LeftParen ∷ []
begins s.Body = class.Sign Colon ∷ []
begins s.Formals = first_of_type
begins s.MoreFormal = first_of_more_formal
begins s.Names = class.Name ∷ []
begins s.AnyType = first_of_type
begins s.NamedType = class.Name ∷ []
begins s.BuiltType = first_of_built_type
begins s.WordType = classes type_words
begins s.ListType = class.Word ListWord ∷ []
begins s.SetType = class.Word SetWord ∷ []
begins s.DistType = class.Word DistWord ∷ []
begins s.DictType = class.Word DictWord ∷ []
begins s.TupleType = class.Word TupleWord ∷ []
begins s.Fields = first_of_type
begins s.MoreField = first_of_more_formal
begins s.ChanType = class.Word ChanWord ∷ []
begins s.Carried = first_of_carried
begins s.Block = first_of_block
begins s.AfterEnd = first_of_after_end
begins s.AfterOpen = class.Sign Semicolon ∷ []
begins s.Inner = first_of_block
begins s.Closed = first_of_closed
begins s.Open = first_of_open
begins s.Declaration = first_of_built_type
begins s.Variables = class.Name ∷ []
begins s.Variable = class.Name ∷ []
begins s.Initial = class.Sign Assign ∷ []
begins s.NameLed = class.Name ∷ []
begins s.AfterName = first_of_after_name
begins s.AfterTarget = first_of_after_target
begins s.Assignment = first_of_assignment
begins s.Timed = class.Word DelayWord ∷ []
begins s.Jump = classes jumps
begins s.Return = class.Word ReturnWord ∷ []
begins s.Exit = class.Word ExitWord ∷ []
begins s.Finish = class.Word FinishWord ∷ []
begins s.Write = classes write_words
begins s.Written = class.Sign LeftParen ∷ []
begins s.If = class.Word IfWord ∷ []
begins s.Branch = first_of_expr
begins s.Elif = class.Word ElifWord ∷ []
begins s.Else = class.Word ElseWord ∷ []
begins s.While = class.Word WhileWord ∷ []
begins s.For = class.Word ForWord ∷ []
begins s.Walk = class.Name ∷ []
begins s.Target = class.Name ∷ []
begins s.TargetStep = first_of_postfix
begins s.TargetIndex = class.Sign LeftBracket ∷ []
begins s.Communication = class.Word DelayWord ∷ class.Name ∷ []
begins s.CommunicationEnd = first_of_communication_end
begins s.Sending = class.Sign Bang ∷ []
begins s.Receiving = class.Sign Question ∷ []
begins s.Delay = class.Word DelayWord ∷ []
begins s.Select = class.Word SelectWord ∷ []
begins s.Alternatives = first_of_alternative
begins s.Alternative = first_of_alternative
begins s.UnwoundAlternatives = class.Word UnwindWord ∷ []
begins s.GuardedAlternative = first_of_offer
begins s.AlternativeBody = class.Sign Colon ∷ []
begins s.Offer = first_of_offer
begins s.Offered = class.Sign Comma ∷ class.Sign Bang ∷ class.Sign Question ∷ []
begins s.Guarded = class.Sign Comma ∷ []
begins s.Launch = classes launch_words
begins s.Elements = first_of_element
begins s.Element = first_of_element
begins s.UnwoundElements = class.Word UnwindWord ∷ []
begins s.Make = class.Name ∷ []
begins s.Made = class.Sign LeftParen ∷ class.Sign Assign ∷ []
begins s.AssignedMake = class.Sign Assign ∷ []
begins s.Exprs = first_of_expr
begins s.Expr = first_of_expr
begins s.OrLink = class.Word OrWord ∷ []
begins s.Conj = first_of_expr
begins s.AndLink = class.Word AndWord ∷ []
begins s.Neg = first_of_expr
begins s.NotNeg = class.Word NotWord ∷ []
begins s.Rel = first_of_unary
begins s.RelLink = classes relation_signs
begins s.Sum = first_of_unary
begins s.SumLink = classes sum_signs
begins s.Prod = first_of_unary
begins s.ProdLink = classes product_signs
begins s.Unary = first_of_unary
begins s.Prefixed = classes prefix_signs
begins s.Power = first_of_primary
begins s.PowerLink = class.Sign Caret ∷ []
begins s.Post = first_of_primary
begins s.Postfix = first_of_postfix
begins s.Field = class.Sign Dot ∷ []
begins s.Bracket = class.Sign LeftBracket ∷ []
begins s.Inside = first_of_inside
begins s.Upto = class.Sign Colon ∷ []
begins s.ByStep = class.Sign Colon ∷ []
begins s.Primary = first_of_primary
begins s.Literal = classes literals
begins s.Named = class.Name ∷ []
begins s.Arguments = class.Sign LeftParen ∷ []
begins s.Cast = classes cast_words
begins s.Round = class.Sign LeftParen ∷ []
begins s.Others = class.Sign Comma ∷ []
begins s.Square = class.Sign LeftBracket ∷ []
begins s.Curly = class.Sign LeftBrace ∷ []
begins s.Contents = class.Sign Comma ∷ class.Sign Colon ∷ []
begins s.Entries = class.Sign Colon ∷ []
begins s.MoreEntry = class.Sign Comma ∷ []
begins s.Blank = class.Sign Less ∷ []
begins s.BlankEnd = class.Sign Greater ∷ class.Sign Colon ∷ []
begins s.BlankItems = class.Sign LeftBracket ∷ []
begins s.BlankElements = class.Sign LeftBrace ∷ []
