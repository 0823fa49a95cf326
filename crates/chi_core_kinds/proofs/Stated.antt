-- The laws, as they are stated.
use Rattle.chi_core_kinds.specs.Laws.{OperatorsKeepKinds, DistributionsKeepKinds, LiteralsAreOfKinds, TuplesKeepKinds, ListsKeepKinds, SetsKeepKinds, DictionariesKeepKinds, InsertionsKeepKinds, DefaultsKeepKinds, StoresKeepKinds, ElementsKeepKinds, EntriesKeepKinds, PartsKeepKinds, FormatsRender, PlainValuesQuote}
use Rattle.chi_core_kinds.proofs.Defaults.{well_default}
use Rattle.chi_core_kinds.proofs.Literals.{literal_of, well_tuple, well_list, well_set, well_dictionary}
use Rattle.chi_core_kinds.proofs.Operators.{well_applied, well_streamed}
use Rattle.chi_core_kinds.proofs.Parts.{well_element, well_entry, well_part}
use Rattle.chi_core_kinds.proofs.Sequences.{well_insert}
use Rattle.chi_core_kinds.proofs.Stores.{well_put}
use Rattle.chi_core_kinds.proofs.Texts.{format_renders, quoted_there}

pub operators : OperatorsKeepKinds
operators = well_applied

pub distributions : DistributionsKeepKinds
distributions = λ w scene name Ts T row streamed values are stream inside. well_streamed w scene stream inside name Ts T row streamed values are

pub literals : LiteralsAreOfKinds
literals = literal_of

pub tuples : TuplesKeepKinds
tuples = well_tuple

pub lists : ListsKeepKinds
lists = well_list

pub sets : SetsKeepKinds
sets = well_set

pub dictionaries : DictionariesKeepKinds
dictionaries = λ w values key has entries plain are. well_dictionary w key has values entries plain are

pub insertions : InsertionsKeepKinds
insertions = well_insert

pub defaults : DefaultsKeepKinds
defaults = well_default

pub stores : StoresKeepKinds
stores = well_put

pub elements : ElementsKeepKinds
elements = well_element

pub entries : EntriesKeepKinds
entries = well_entry

pub parts : PartsKeepKinds
parts = well_part

pub formats : FormatsRender
formats = format_renders

pub quotes : PlainValuesQuote
quotes = quoted_there
