use Rattle.std.proofs.Common.{◌∙◌, ap, ◌++◌}
use Rattle.chi_num.specs.FixedText.{fixed_text_of}
use Rattle.chi_format.specs.Format.{steps_of}
use Rattle.chi_format.proofs.Fields.{fixed_is}
use Rattle.chi_format.proofs.rendering.shown.fixed_of.Goals as goal

pub returns : goal.returns
returns c =
    fixed_is c.args.places c.args.real _ _ c.requires c.in_ok-fixed_text.ensures.ok
    ∙ ap (λ s. s ++ fixed_text_of c.args.places (steps_of c.args.places c.args.real)) c.new-text.ensures.items
