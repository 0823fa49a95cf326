-- The laws of operations, as the contracts of chi_core_kinds give them.
use Rattle.chi_core_kinds.specs.Laws.{OperatorsKeepKinds, DistributionsKeepKinds, LiteralsAreOfKinds, TuplesKeepKinds, ListsKeepKinds, SetsKeepKinds, DictionariesKeepKinds, InsertionsKeepKinds, DefaultsKeepKinds, PartsKeepKinds, StoresKeepKinds, ElementsKeepKinds, EntriesKeepKinds, FormatsRender, PlainValuesQuote}

pub record Laws : Type 0 where
  pub operators : OperatorsKeepKinds
  pub distributions : DistributionsKeepKinds
  pub literals : LiteralsAreOfKinds
  pub tuples : TuplesKeepKinds
  pub lists : ListsKeepKinds
  pub sets : SetsKeepKinds
  pub dictionaries : DictionariesKeepKinds
  pub insertions : InsertionsKeepKinds
  pub defaults : DefaultsKeepKinds
  pub stores : StoresKeepKinds
  pub elements : ElementsKeepKinds
  pub entries : EntriesKeepKinds
  pub parts : PartsKeepKinds
  pub formats : FormatsRender
  pub quotes : PlainValuesQuote
