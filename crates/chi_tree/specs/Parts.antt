-- The names of the grammar's parts.

pub data Part : Type 0 where
  -- a source and its definitions
  Program Definition Defined EnumDef ConstDef TypeDef FuncDef ProcDef ModelDef XperDef : Part
  Head Parameters Body Formals MoreFormal Names : Part
  -- types
  AnyType NamedType BuiltType WordType ListType SetType DistType DictType TupleType ChanType Fields MoreField Carried : Part
  -- statements
  Block AfterEnd AfterOpen Closed Open : Part
  Declaration Variables Variable Initial NameLed AfterName AfterTarget Assignment Jump Return Exit Finish Write Written : Part
  If Branch Elif Else While For Walk Inner : Part
  -- communications and selects
  Target TargetStep TargetIndex CommunicationEnd Sending Receiving Delay Communication Timed : Part
  Select Alternatives Alternative UnwoundAlternatives GuardedAlternative Offer Offered Guarded AlternativeBody : Part
  -- what is run or started
  Launch Elements Element UnwoundElements Make Made AssignedMake : Part
  -- expressions, from the level that binds least to the one that binds most
  Expr OrLink Conj AndLink Neg NotNeg Rel RelLink Sum SumLink Prod ProdLink Unary Prefixed Power PowerLink : Part
  Post Postfix Field Bracket Inside Upto ByStep : Part
  Primary Literal Named Arguments Cast Round Others Square Curly Contents Entries MoreEntry : Part
  Blank BlankEnd BlankItems BlankElements : Part
  Exprs : Part
