-- What keeps its kind, and what that rests on at first.
use Rattle.std.proofs.Common.{ℕ, List, refl}
use Rattle.std.proofs.lemmas.List.{length-replicate}
use Rattle.chi_core.specs.Beginning.{constant_view}
use Rattle.chi_core.specs.Of.{nowhere}
use Rattle.chi_core_kinds.specs.Well.{FitsView}
use Rattle.chi_core_kinds.proofs.Operations.{Laws}
use Rattle.chi_core_kinds.proofs.Stated as stated

pub laws : Laws
laws = record {
  operators = stated.operators;
  distributions = stated.distributions;
  literals = stated.literals;
  tuples = stated.tuples;
  lists = stated.lists;
  sets = stated.sets;
  dictionaries = stated.dictionaries;
  insertions = stated.insertions;
  defaults = stated.defaults;
  parts = stated.parts;
  stores = stated.stores;
  elements = stated.elements;
  entries = stated.entries;
  formats = stated.formats;
  quotes = stated.quotes;
}

-- nothing has been made and nothing drawn
pub fits : (names : List (List (List ℕ))) (left : ℕ) → FitsView (nowhere names) (record constant_view { left = left })
fits names left = record { channels = refl; streams = let none : ℕ = 0 in length-replicate _ none; instances = refl }
