use Rattle.chi_tool.proofs.trials.report_of_trial.Goals as goal

pub returns : goal.returns
returns c =
    let of = c.in_ok-tale.ensures in
    record {
      trial = of.trial;
      is = of.is;
      ended = c.in_ok-tale.tale.ended;
      ends = of.ended;
      line = c.in_ok-tale.tale.log.items;
      logged = of.log;
      told = λ i. record { status = c.status_of_trial.ensures i; out = of.out i; log = c.in_ok-tale.tale.log.items };
    }
