-- What is told of where a run comes to rest is one text, since a policy picks one run.
use Rattle.std.proofs.Common.{sym, ◌∙◌, ap, refl}
use Rattle.chi_core_runs.specs.Picked.{PickedOnce, PickedAlways}
use Rattle.chi_explain_runs.specs.Laws.{WaitingToldOnce, WaitingToldAlways}
use Rattle.chi_explain_runs.specs.Waits.{waits_of}

pub told_once : PickedOnce → WaitingToldOnce
told_once law core source beginning pick bound text other p q =
    p.is ∙ ap (waits_of core source beginning bound) (law core beginning pick bound p.told q.told p.picked q.picked) ∙ sym q.is

pub told_always : PickedAlways → WaitingToldAlways
told_always law core sound beginning begins pick lawful bound within source =
    let run = law core sound beginning begins pick lawful bound within in
    (waits_of core source beginning bound run.0, record { told = run.0; picked = run.1.0; is = refl })
