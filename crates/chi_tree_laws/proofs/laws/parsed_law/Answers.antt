use Rattle.chi_tree.specs.Limits.{whole_room}
use Rattle.chi_tree_laws.proofs.ParsedProgram.{formed_parsed}
use Rattle.chi_tree_laws.proofs.ProgramAnswers.{program_is, fault_is, depth_is}
use Rattle.chi_tree_laws.proofs.laws.parsed_law.Goals as goal

pub returns : goal.returns
returns c = record {
  tree = program_is;
  every_tree = formed_parsed whole_room;
  syntax = fault_is;
  too_deep = depth_is;
}
