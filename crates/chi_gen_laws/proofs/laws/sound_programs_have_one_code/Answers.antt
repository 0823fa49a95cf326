use Rattle.chi_code.proofs.Unique.{one_code}
use Rattle.chi_gen_laws.proofs.ProgramCode.{sound_has_code}
use Rattle.chi_gen_laws.proofs.laws.sound_programs_have_one_code.Goals as goal

pub returns : goal.returns
returns c = record { one = λ core h. let there = sound_has_code core h in (there.0, there.1, λ other k. one_code core there.0 other there.1 k) }
