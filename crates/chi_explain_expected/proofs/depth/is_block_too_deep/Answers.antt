use Rattle.std.proofs.Common.{◌∙◌, Err, ap, map, subst}
use Rattle.chi_tree_spell.specs.Words.{token_of}
use Rattle.chi_explain_expected.proofs.Choices.{told_program_there, told_fault_there, told_depth_there}
use Rattle.chi_explain_expected.proofs.Fronts.{Answers}
use Rattle.chi_explain_expected.proofs.depth.is_block_too_deep.Goals as goal

pub returns-in-Ok : goal.returns-in-Ok
returns-in-Ok c =
    told_program_there c.args.tokens.now c.deref.result.now c.args.k (ap (map token_of) c.deref.ensures.value ∙ c.in_ok-all.ensures.tokens)
    _ c.in-Ok.ensures.parsed

pub returns-in-Err-Syntax : goal.returns-in-Err-Syntax
returns-in-Err-Syntax c =
    told_fault_there c.args.tokens.now c.deref.result.now c.args.k (ap (map token_of) c.deref.ensures.value ∙ c.in_ok-all.ensures.tokens)
    _ (subst (λ fault. Answers c.deref.result.now (Err fault)) c.in-Err-Syntax.field-0-is c.in-Err-Syntax.ensures.parsed)

pub returns-in-Err-TooDeep : goal.returns-in-Err-TooDeep
returns-in-Err-TooDeep c =
    told_depth_there c.args.tokens.now c.deref.result.now c.args.k (ap (map token_of) c.deref.ensures.value ∙ c.in_ok-all.ensures.tokens)
    c.in-Err-TooDeep.at (subst (λ fault. Answers c.deref.result.now (Err fault)) c.in-Err-TooDeep.field-0-is c.in-Err-TooDeep.ensures.parsed)
