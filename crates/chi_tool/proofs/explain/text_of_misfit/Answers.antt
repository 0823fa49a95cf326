use Rattle.std.proofs.Common.{◌∙◌, ap}
use Rattle.std.specs.Prelude.{Err}
use Rattle.chi_tool.proofs.explain.text_of_misfit.Goals as goal

pub text_of_kind-requires : goal.text_of_kind-requires
text_of_kind-requires c = c.faults_of_arguments_name_them.ensures.kind c.args.params.now c.args.texts.now c.in-Kind.k (c.requires ∙ ap (λ f. Err f) c.in-Kind.is)

pub text_of_argument-requires-clause-param : goal.text_of_argument-requires-clause-param
text_of_argument-requires-clause-param c = (c.faults_of_arguments_name_them.ensures.text c.args.params.now c.args.texts.now c.in-Text.k (c.requires ∙ ap (λ f. Err f) c.in-Text.is)).0

pub text_of_argument-requires-clause-text : goal.text_of_argument-requires-clause-text
text_of_argument-requires-clause-text c = (c.faults_of_arguments_name_them.ensures.text c.args.params.now c.args.texts.now c.in-Text.k (c.requires ∙ ap (λ f. Err f) c.in-Text.is)).1
