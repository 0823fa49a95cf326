use Rattle.chi_tool.proofs.code.report_of_code.Goals as goal

pub listed-report-requires : goal.listed-report-requires
listed-report-requires c = record { told = λ p v h. c.literals_can_be_listed.ensures.told c.args.core.now c.in_ok-code.code c.requires.sound c.in_ok-code.ensures.code p v h }
