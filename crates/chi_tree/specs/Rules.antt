-- The grammar: how each part is built, production by production.
use Rattle.std.specs.Prelude.{List, [], ◌∷◌}
use Rattle.chi_grammar.specs.declared.room.Nesting.TheVariants as nesting
use Rattle.chi_grammar.specs.Rules.{Tree, Rule, Grammar, part, ◌▸◌, ◌∣◌, maybe, many, when}
use Rattle.chi_grammar.specs.Rules as rule
use Rattle.chi_token.specs.declared.keyword.Keyword.{Keyword}
use Rattle.chi_token.specs.declared.keyword.Keyword.TheVariants.{AltWord, AndWord, ChanWord, ConstWord, DelayWord, DictWord, DistWord, ElifWord, ElseWord, EndWord, EnumWord, ExitWord, FinishWord, ForWord, FuncWord, IfWord, InWord, ListWord, ModelWord, NotWord, OrWord, ProcWord, ReturnWord, SelectWord, SetWord, TupleWord, TypeWord, UnwindWord, VoidWord, WhileWord, XperWord}
use Rattle.chi_token.specs.declared.sign.Sign.{Sign}
use Rattle.chi_token.specs.declared.sign.Sign.TheVariants.{LeftParen, RightParen, LeftBracket, RightBracket, LeftBrace, RightBrace, Less, Greater, Assign, Caret, Bang, Question, Comma, Semicolon, Colon, Dot}
use Rattle.chi_token.specs.declared.place.Spanned.{Spanned}
use Rattle.chi_tree.specs.declared.class.Class.{Class}
use Rattle.chi_tree.specs.declared.class.Class.TheVariants as class
use Rattle.chi_tree.specs.Classes.{class_of, number_of}
use Rattle.chi_tree.specs.Words.{Words, relation_signs, sum_signs, product_signs, prefix_signs, type_words, cast_words, literals, jumps, write_words, launch_words}
use Rattle.chi_tree.specs.Parts.{Part}
use Rattle.chi_tree.specs.Parts as s
use Rattle.chi_tree.specs.Statements.{is_name, is_target, ends_in_end}

-- one token: a keyword, a sign, a name, or the format of a write

abbrev pub keyword : Keyword → Rule Spanned Part
keyword k = rule.word (number_of (class.Word k))

abbrev pub sign : Sign → Rule Spanned Part
sign mark = rule.word (number_of (class.Sign mark))

abbrev pub name : Rule Spanned Part
name = rule.word (number_of class.Name)

abbrev pub text : Rule Spanned Part
text = rule.word (number_of class.Text)

-- one token of the classes, the first of which is this one
abbrev pub one_of : Class → List Class → Rule Spanned Part
one_of c [] = rule.word (number_of c)
one_of c (d ∷ ds) = rule.word (number_of c) ∣ one_of d ds

abbrev pub any_of : Words → Rule Spanned Part
any_of words = one_of words.first words.more

-- An open bracket, a prefix operator, the right side of a power, or a type inside a type: it is one level deeper in
-- expressions. An inner block, or what an unwind repeats, is one level deeper in blocks.

abbrev pub nested : Rule Spanned Part → Rule Spanned Part
nested = rule.deeper nesting.Expression

abbrev pub inner_block : Rule Spanned Part → Rule Spanned Part
inner_block = rule.deeper nesting.Block

-- the words of operators and types

abbrev pub relation_sign : Rule Spanned Part
relation_sign = any_of relation_signs

abbrev pub sum_sign : Rule Spanned Part
sum_sign = any_of sum_signs

abbrev pub product_sign : Rule Spanned Part
product_sign = any_of product_signs

abbrev pub prefix_sign : Rule Spanned Part
prefix_sign = any_of prefix_signs

abbrev pub type_word : Rule Spanned Part
type_word = any_of type_words

abbrev pub cast_word : Rule Spanned Part
cast_word = any_of cast_words

abbrev pub literal : Rule Spanned Part
literal = any_of literals

abbrev pub jump : Rule Spanned Part
jump = any_of jumps

abbrev pub write_word : Rule Spanned Part
write_word = any_of write_words

abbrev pub launch_word : Rule Spanned Part
launch_word = any_of launch_words

abbrev pub rule_of : Part → Rule Spanned Part
-- program = definition { definition }
rule_of s.Program = part s.Definition ▸ many (part s.Definition)
-- definition = ( enumdef | constdef | typedef | funcdef | procdef | modeldef | xperdef ) [ ";" ]
rule_of s.Definition = part s.Defined ▸ maybe (sign Semicolon)
rule_of s.Defined = part s.EnumDef ∣ part s.ConstDef ∣ part s.TypeDef ∣ part s.FuncDef ∣ part s.ProcDef ∣ part s.ModelDef ∣ part s.XperDef
-- enumdef = "enum" name "=" "{" name { "," name } "}"
rule_of s.EnumDef = keyword EnumWord ▸ name ▸ sign Assign ▸ nested (sign LeftBrace ▸ part s.Names ▸ sign RightBrace)
-- constdef = "const" type name "=" expr
rule_of s.ConstDef = keyword ConstWord ▸ part s.AnyType ▸ name ▸ sign Assign ▸ part s.Expr
-- typedef = "type" name "=" type
rule_of s.TypeDef = keyword TypeWord ▸ name ▸ sign Assign ▸ part s.AnyType
-- funcdef = "func" type name "(" [ formals ] ")" ":" block "end"
rule_of s.FuncDef = keyword FuncWord ▸ part s.AnyType ▸ name ▸ part s.Parameters ▸ part s.Body
-- procdef = "proc" [ type ] name "(" [ formals ] ")" ":" block "end"
rule_of s.ProcDef = keyword ProcWord ▸ part s.Head ▸ part s.Parameters ▸ part s.Body
-- modeldef = "model" [ type ] name "(" [ formals ] ")" ":" block "end"
rule_of s.ModelDef = keyword ModelWord ▸ part s.Head ▸ part s.Parameters ▸ part s.Body
-- xperdef = "xper" name "(" ")" ":" block "end"
rule_of s.XperDef = keyword XperWord ▸ name ▸ nested (sign LeftParen ▸ sign RightParen) ▸ part s.Body
-- [ type ] name: of two names the first is a type
rule_of s.Head = part s.BuiltType ▸ name ∣ name ▸ maybe name
-- "(" [ formals ] ")"
rule_of s.Parameters = nested (sign LeftParen ▸ maybe (part s.Formals) ▸ sign RightParen)
-- ":" block "end"
rule_of s.Body = sign Colon ▸ part s.Inner ▸ keyword EndWord
-- formals = type name { "," name } { ";" type name { "," name } }
rule_of s.Formals = part s.AnyType ▸ name ▸ many (part s.MoreFormal)
rule_of s.MoreFormal = sign Comma ▸ name ∣ sign Semicolon ▸ part s.AnyType ▸ name
-- name { "," name }
rule_of s.Names = name ▸ many (sign Comma ▸ name)
-- type = "bool" | "int" | "real" | "string" | "timer" | "inst" | name | "list" [ "(" expr ")" ] type | "set" type
--      | "dist" type | "dict" "(" type ":" type ")" | "tuple" "(" formals ")" | "chan" [ "!" | "?" ] ( "void" | type )
rule_of s.AnyType = part s.BuiltType ∣ part s.NamedType
rule_of s.NamedType = name
rule_of s.BuiltType = part s.WordType ∣ part s.ListType ∣ part s.SetType ∣ part s.DistType ∣ part s.DictType ∣ part s.TupleType ∣ part s.ChanType
rule_of s.WordType = type_word
rule_of s.ListType = keyword ListWord ▸ maybe (nested (sign LeftParen ▸ part s.Expr ▸ sign RightParen)) ▸ nested (part s.AnyType)
rule_of s.SetType = keyword SetWord ▸ nested (part s.AnyType)
rule_of s.DistType = keyword DistWord ▸ nested (part s.AnyType)
rule_of s.DictType = keyword DictWord ▸ nested (sign LeftParen ▸ nested (part s.AnyType) ▸ sign Colon ▸ nested (part s.AnyType) ▸ sign RightParen)
rule_of s.TupleType = keyword TupleWord ▸ nested (sign LeftParen ▸ part s.Fields ▸ sign RightParen)
-- the formals of a tuple have two names at least
rule_of s.Fields = nested (part s.AnyType) ▸ name ▸ part s.MoreField ▸ many (part s.MoreField)
rule_of s.MoreField = sign Comma ▸ name ∣ sign Semicolon ▸ nested (part s.AnyType) ▸ name
rule_of s.ChanType = keyword ChanWord ▸ maybe (sign Bang ∣ sign Question) ▸ part s.Carried
rule_of s.Carried = keyword VoidWord ∣ nested (part s.AnyType)
-- block = statement { [ ";" ] statement } [ ";" ], where the ";" between two statements may be left out only where the
-- first one's last token is "end"
rule_of s.Block =
    part s.Closed ▸ maybe (part s.AfterEnd)
    ∣ when (part s.Launch) ends_in_end (maybe (part s.AfterEnd)) (maybe (part s.AfterOpen))
    ∣ part s.Open ▸ maybe (part s.AfterOpen)
-- what stands after a statement whose last token is "end", and after one whose last token isn't
rule_of s.AfterEnd = sign Semicolon ▸ maybe (part s.Block) ∣ part s.Block
rule_of s.AfterOpen = sign Semicolon ▸ maybe (part s.Block)
rule_of s.Inner = inner_block (part s.Block)
-- statements whose last token is "end", and those whose last token never is
rule_of s.Closed = part s.Select ∣ part s.If ∣ part s.While ∣ part s.For
rule_of s.Open = part s.Declaration ∣ part s.NameLed ∣ part s.Timed ∣ part s.Jump ∣ part s.Return ∣ part s.Exit ∣ part s.Finish ∣ part s.Write
-- type name [ "=" expr ] { "," name [ "=" expr ] }, where the type isn't a name
rule_of s.Declaration = part s.BuiltType ▸ part s.Variables
rule_of s.Variables = part s.Variable ▸ many (sign Comma ▸ part s.Variable)
rule_of s.Variable = name ▸ maybe (part s.Initial)
rule_of s.Initial = sign Assign ▸ part s.Expr
-- Declarations whose type is a name, assignments, and communications but for delays begin with a target:
-- name name [ "=" expr ] { "," name [ "=" expr ] } | target { "," target } "=" expr { "," expr }
-- | target "!" [ expr ] | target "?" [ name ]
rule_of s.NameLed = when (part s.Target) is_name (part s.AfterName) (part s.AfterTarget)
rule_of s.AfterName = part s.Variables ∣ part s.AfterTarget
rule_of s.AfterTarget = part s.CommunicationEnd ∣ part s.Assignment
rule_of s.Assignment = many (sign Comma ▸ part s.Target) ▸ sign Assign ▸ part s.Exprs
rule_of s.Timed = part s.Delay
rule_of s.Jump = jump
rule_of s.Return = keyword ReturnWord ▸ part s.Expr
rule_of s.Exit = keyword ExitWord ▸ maybe (part s.Expr)
rule_of s.Finish = keyword FinishWord ▸ part s.Exprs
-- ( "write" | "writeln" ) "(" text { "," expr } ")"
rule_of s.Write = write_word ▸ nested (part s.Written)
rule_of s.Written = sign LeftParen ▸ text ▸ many (sign Comma ▸ part s.Expr) ▸ sign RightParen
-- "if" expr ":" block { "elif" expr ":" block } [ "else" ":" block ] "end"
rule_of s.If = keyword IfWord ▸ part s.Branch ▸ many (part s.Elif) ▸ maybe (part s.Else) ▸ keyword EndWord
rule_of s.Branch = part s.Expr ▸ sign Colon ▸ part s.Inner
rule_of s.Elif = keyword ElifWord ▸ part s.Branch
rule_of s.Else = keyword ElseWord ▸ sign Colon ▸ part s.Inner
rule_of s.While = keyword WhileWord ▸ part s.Expr ▸ part s.Body
rule_of s.For = keyword ForWord ▸ part s.Walk ▸ part s.Body
-- walk = name { "," name } "in" expr
rule_of s.Walk = part s.Names ▸ keyword InWord ▸ part s.Expr
-- target = name { "[" expr "]" | "." name }
rule_of s.Target = name ▸ many (part s.TargetStep)
rule_of s.TargetStep = nested (part s.TargetIndex) ∣ part s.Field
rule_of s.TargetIndex = sign LeftBracket ▸ part s.Expr ▸ sign RightBracket
-- comm = target "!" [ expr ] | target "?" [ name ] | "delay" expr
rule_of s.Communication = part s.Delay ∣ part s.Target ▸ part s.CommunicationEnd
rule_of s.CommunicationEnd = part s.Sending ∣ part s.Receiving
rule_of s.Sending = sign Bang ▸ maybe (part s.Expr)
rule_of s.Receiving = sign Question ▸ maybe name
rule_of s.Delay = keyword DelayWord ▸ part s.Expr
-- "select" alts "end", where alts = alt { "alt" alt }
rule_of s.Select = keyword SelectWord ▸ part s.Alternatives ▸ keyword EndWord
rule_of s.Alternatives = part s.Alternative ▸ many (keyword AltWord ▸ part s.Alternative)
-- alt = [ expr "," ] comm [ ":" block ] | "unwind" walk ":" alts "end"
rule_of s.Alternative = part s.UnwoundAlternatives ∣ part s.GuardedAlternative
rule_of s.UnwoundAlternatives = keyword UnwindWord ▸ part s.Walk ▸ sign Colon ▸ inner_block (part s.Alternatives) ▸ keyword EndWord
rule_of s.GuardedAlternative = part s.Offer ▸ maybe (part s.AlternativeBody)
rule_of s.AlternativeBody = sign Colon ▸ part s.Inner
-- [ expr "," ] comm: a guard and the target of a communication both begin as an expression; after one that is a target
-- either may go on
rule_of s.Offer = part s.Delay ∣ when (part s.Expr) is_target (part s.Offered) (part s.Guarded)
rule_of s.Offered = part s.Guarded ∣ part s.CommunicationEnd
rule_of s.Guarded = sign Comma ▸ part s.Communication
-- ( "run" | "start" ) elements, where elements = element { "," element }
rule_of s.Launch = launch_word ▸ part s.Elements
rule_of s.Elements = part s.Element ▸ many (sign Comma ▸ part s.Element)
-- element = [ target "=" ] name "(" [ exprs ] ")" | "unwind" walk ":" elements "end"
rule_of s.Element = part s.UnwoundElements ∣ part s.Make
rule_of s.UnwoundElements = keyword UnwindWord ▸ part s.Walk ▸ sign Colon ▸ inner_block (part s.Elements) ▸ keyword EndWord
-- a name alone may be what is made, or the target before "="
rule_of s.Make = when (part s.Target) is_name (part s.Made) (part s.AssignedMake)
rule_of s.Made = part s.Arguments ∣ part s.AssignedMake
rule_of s.AssignedMake = sign Assign ▸ name ▸ part s.Arguments
-- exprs = expr { "," expr }
rule_of s.Exprs = part s.Expr ▸ many (sign Comma ▸ part s.Expr)
-- expr = conj { "or" conj }
rule_of s.Expr = part s.Conj ▸ many (part s.OrLink)
rule_of s.OrLink = keyword OrWord ▸ part s.Conj
-- conj = neg { "and" neg }
rule_of s.Conj = part s.Neg ▸ many (part s.AndLink)
rule_of s.AndLink = keyword AndWord ▸ part s.Neg
-- neg = { "not" } rel
rule_of s.Neg = nested (part s.NotNeg) ∣ part s.Rel
rule_of s.NotNeg = keyword NotWord ▸ part s.Neg
-- rel = sum [ ( "<" | "<=" | "==" | "!=" | ">" | ">=" | "in" | "sub" ) sum ]
rule_of s.Rel = part s.Sum ▸ maybe (part s.RelLink)
rule_of s.RelLink = relation_sign ▸ part s.Sum
-- sum = prod { ( "+" | "-" ) prod }
rule_of s.Sum = part s.Prod ▸ many (part s.SumLink)
rule_of s.SumLink = sum_sign ▸ part s.Prod
-- prod = unary { ( "*" | "/" | "div" | "mod" ) unary }
rule_of s.Prod = part s.Unary ▸ many (part s.ProdLink)
rule_of s.ProdLink = product_sign ▸ part s.Unary
-- unary = { "-" | "+" | "sample" } power
rule_of s.Unary = nested (part s.Prefixed) ∣ part s.Power
rule_of s.Prefixed = prefix_sign ▸ part s.Unary
-- power = post [ "^" unary ]
rule_of s.Power = part s.Post ▸ maybe (part s.PowerLink)
rule_of s.PowerLink = sign Caret ▸ nested (part s.Unary)
-- post = primary { "[" expr "]" | "." name | "[" [ expr ] ":" [ expr ] [ ":" [ expr ] ] "]" }
rule_of s.Post = part s.Primary ▸ many (part s.Postfix)
rule_of s.Postfix = nested (part s.Bracket) ∣ part s.Field
rule_of s.Field = sign Dot ▸ name
rule_of s.Bracket = sign LeftBracket ▸ part s.Inside ▸ sign RightBracket
-- an index, and a slice with its first bound, both begin with an expression
rule_of s.Inside = part s.Expr ▸ maybe (part s.Upto) ∣ part s.Upto
rule_of s.Upto = sign Colon ▸ maybe (part s.Expr) ▸ maybe (part s.ByStep)
rule_of s.ByStep = sign Colon ▸ maybe (part s.Expr)
-- primary = int | real | text | "true" | "false" | "time" | name | name "(" [ exprs ] ")"
--         | ( "int" | "real" | "string" | "bool" | "timer" ) "(" expr ")" | "(" expr ")" | "(" expr "," exprs ")"
--         | "[" exprs "]" | "{" exprs "}" | "{" expr ":" expr { "," expr ":" expr } "}"
--         | "<" type ">" "[" "]" | "<" type ">" "{" "}" | "<" type ":" type ">" "{" "}"
rule_of s.Primary = part s.Literal ∣ part s.Named ∣ part s.Cast ∣ nested (part s.Round) ∣ nested (part s.Square) ∣ nested (part s.Curly) ∣ part s.Blank
rule_of s.Literal = literal
-- name | name "(" [ exprs ] ")"
rule_of s.Named = name ▸ maybe (part s.Arguments)
rule_of s.Arguments = nested (sign LeftParen ▸ maybe (part s.Exprs) ▸ sign RightParen)
rule_of s.Cast = cast_word ▸ nested (sign LeftParen ▸ part s.Expr ▸ sign RightParen)
-- "(" expr ")" | "(" expr "," exprs ")"
rule_of s.Round = sign LeftParen ▸ part s.Expr ▸ maybe (part s.Others) ▸ sign RightParen
rule_of s.Others = sign Comma ▸ part s.Exprs
rule_of s.Square = sign LeftBracket ▸ part s.Exprs ▸ sign RightBracket
-- "{" exprs "}" | "{" expr ":" expr { "," expr ":" expr } "}"
rule_of s.Curly = sign LeftBrace ▸ part s.Expr ▸ maybe (part s.Contents) ▸ sign RightBrace
rule_of s.Contents = part s.Others ∣ part s.Entries
rule_of s.Entries = sign Colon ▸ part s.Expr ▸ many (part s.MoreEntry)
rule_of s.MoreEntry = sign Comma ▸ part s.Expr ▸ sign Colon ▸ part s.Expr
-- the three empty literals begin with "<" type
rule_of s.Blank = sign Less ▸ part s.AnyType ▸ part s.BlankEnd
rule_of s.BlankEnd = sign Greater ▸ (nested (part s.BlankItems) ∣ nested (part s.BlankElements)) ∣ sign Colon ▸ part s.AnyType ▸ sign Greater ▸ nested (part s.BlankElements)
rule_of s.BlankItems = sign LeftBracket ▸ sign RightBracket
rule_of s.BlankElements = sign LeftBrace ▸ sign RightBrace

abbrev pub grammar : Grammar Spanned Part
grammar = record { rule_of = rule_of; class_of = λ x. number_of (class_of x.token) }
