use Rattle.std.proofs.Common.{Err, map, subst, sym}
use Rattle.chi_tree_spell.specs.Words.{token_of}
use Rattle.chi_explain_expected.proofs.Fronts.{Answers, told_program, told_end, told_deep}
use Rattle.chi_explain_expected.proofs.Asked.{Tells}
use Rattle.chi_explain_expected.proofs.following.begins.Goals as goal
use Rattle.chi_explain_expected.proofs.following.begins.Goals.{in-Ok, in-Err-Syntax, in-Err-TooDeep, in-Err-NoMemory}

pub returns : goal.returns
returns c =
    elim c.match-parse.branch [
      | in-Ok w ↦ subst (Tells (map token_of c.args.tokens.now)) (sym w.result-is) (told_program c.args.tokens.now _ w.in-Ok.ensures.parsed)
      | in-Err-Syntax w ↦ subst (Tells (map token_of c.args.tokens.now)) (sym w.result-is) (told_end c.args.tokens.now _
          (subst (λ fault. Answers c.args.tokens.now (Err fault)) w.in-Err-Syntax.field-0-is w.in-Err-Syntax.ensures.parsed))
      | in-Err-TooDeep w ↦ subst (Tells (map token_of c.args.tokens.now)) (sym w.result-is) (told_deep c.args.tokens.now _
          (subst (λ fault. Answers c.args.tokens.now (Err fault)) w.in-Err-TooDeep.field-0-is w.in-Err-TooDeep.ensures.parsed))
      | in-Err-NoMemory w ↦ subst (Tells (map token_of c.args.tokens.now)) (sym w.result-is) tt
    ]
