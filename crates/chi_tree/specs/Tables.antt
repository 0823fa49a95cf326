-- The table of the grammar. The test that one token decides the grammar holds it against the rules.
use Rattle.std.specs.Prelude.{ℕ, map}
use Rattle.chi_grammar.specs.Lookahead.{Table}
use Rattle.chi_tree.specs.Classes.{number_of}
use Rattle.chi_tree.specs.Parts.{Part}
use Rattle.chi_tree.specs.Parts as s
use Rattle.chi_tree.specs.Begins.{begins}
use Rattle.chi_tree.specs.GoesOn.{goes_on}

-- it falls from a part to those at its beginning
abbrev pub rank : Part → ℕ
rank s.Program = 3
rank s.Definition = 2
rank s.Defined = 1
rank s.EnumDef = 0
rank s.ConstDef = 0
rank s.TypeDef = 0
rank s.FuncDef = 0
rank s.ProcDef = 0
rank s.ModelDef = 0
rank s.XperDef = 0
rank s.Head = 2
rank s.Parameters = 0
rank s.Body = 0
rank s.Formals = 3
rank s.MoreFormal = 0
rank s.Names = 0
rank s.AnyType = 2
rank s.NamedType = 0
rank s.BuiltType = 1
rank s.WordType = 0
rank s.ListType = 0
rank s.SetType = 0
rank s.DistType = 0
rank s.DictType = 0
rank s.TupleType = 0
rank s.Fields = 3
rank s.MoreField = 0
rank s.ChanType = 0
rank s.Carried = 3
rank s.Block = 4
rank s.AfterEnd = 5
rank s.AfterOpen = 0
rank s.Inner = 5
rank s.Closed = 1
rank s.Open = 3
rank s.Declaration = 2
rank s.Variables = 1
rank s.Variable = 0
rank s.Initial = 0
rank s.NameLed = 1
rank s.AfterName = 3
rank s.AfterTarget = 2
rank s.Assignment = 0
rank s.Timed = 1
rank s.Jump = 0
rank s.Return = 0
rank s.Exit = 0
rank s.Finish = 0
rank s.Write = 0
rank s.Written = 0
rank s.If = 0
rank s.Branch = 11
rank s.Elif = 0
rank s.Else = 0
rank s.While = 0
rank s.For = 0
rank s.Walk = 1
rank s.Target = 0
rank s.TargetStep = 1
rank s.TargetIndex = 0
rank s.Communication = 1
rank s.CommunicationEnd = 1
rank s.Sending = 0
rank s.Receiving = 0
rank s.Delay = 0
rank s.Select = 0
rank s.Alternatives = 14
rank s.Alternative = 13
rank s.UnwoundAlternatives = 0
rank s.GuardedAlternative = 12
rank s.AlternativeBody = 0
rank s.Offer = 11
rank s.Offered = 2
rank s.Guarded = 0
rank s.Launch = 0
rank s.Elements = 3
rank s.Element = 2
rank s.UnwoundElements = 0
rank s.Make = 1
rank s.Made = 1
rank s.AssignedMake = 0
rank s.Exprs = 11
rank s.Expr = 10
rank s.OrLink = 0
rank s.Conj = 9
rank s.AndLink = 0
rank s.Neg = 8
rank s.NotNeg = 0
rank s.Rel = 7
rank s.RelLink = 0
rank s.Sum = 6
rank s.SumLink = 0
rank s.Prod = 5
rank s.ProdLink = 0
rank s.Unary = 4
rank s.Prefixed = 0
rank s.Power = 3
rank s.PowerLink = 0
rank s.Post = 2
rank s.Postfix = 1
rank s.Field = 0
rank s.Bracket = 0
rank s.Inside = 11
rank s.Upto = 0
rank s.ByStep = 0
rank s.Primary = 1
rank s.Literal = 0
rank s.Named = 0
rank s.Arguments = 0
rank s.Cast = 0
rank s.Round = 0
rank s.Others = 0
rank s.Square = 0
rank s.Curly = 0
rank s.Contents = 1
rank s.Entries = 0
rank s.MoreEntry = 0
rank s.Blank = 0
rank s.BlankEnd = 0
rank s.BlankItems = 0
rank s.BlankElements = 0

abbrev pub table : Table Part
table = record { begins = λ part. map number_of (begins part); goes_on = λ part. map number_of (goes_on part); rank = rank }
