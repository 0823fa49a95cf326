use Rattle.chi_core_kinds.proofs.Operations.{Laws}
use Rattle.chi_xper_runs.proofs.Exits.{exits_are_of_their_kinds}
use Rattle.chi_xper_runs.proofs.laws.exits_law.Goals as goal

pub returns : goal.returns
returns c =
    let laws : Laws = record {
      operators = c.operators_keep_kinds.ensures.operators;
      distributions = c.operators_keep_kinds.ensures.distributions;
      literals = c.literal_values.ensures.kept;
      tuples = c.literals_keep_kinds.ensures.tuples;
      lists = c.literals_keep_kinds.ensures.lists;
      sets = c.literals_keep_kinds.ensures.sets;
      dictionaries = c.literals_keep_kinds.ensures.dictionaries;
      insertions = c.literals_keep_kinds.ensures.insertions;
      defaults = c.defaults_keep_kinds.ensures.kept;
      stores = c.stores_keep_kinds.ensures.stores;
      elements = c.stores_keep_kinds.ensures.elements;
      entries = c.stores_keep_kinds.ensures.entries;
      parts = c.stores_keep_kinds.ensures.parts;
      formats = c.texts_are_there.ensures.formats;
      quotes = c.texts_are_there.ensures.quoted;
    } in
    record { exits = exits_are_of_their_kinds laws c.kinded_law.ensures.begins c.kinded_law.ensures.keeps c.picked_law.ensures.derived }
