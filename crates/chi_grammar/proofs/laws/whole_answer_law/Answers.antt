use Rattle.chi_grammar.proofs.OneWhole.{one_whole}
use Rattle.chi_grammar.proofs.SomeWhole.{some_whole}
use Rattle.chi_grammar.proofs.laws.whole_answer_law.Goals as goal

pub returns : goal.returns
returns g c = record {
  some = λ grammar table fine r d view tokens room.
      let a = some_whole grammar table fine r d view tokens room in (a.answer, a.remembers, a.exact);
  one = one_whole;
}
