use Rattle.chi_machine_runs.proofs.settling.settle.Goals as goal

pub invariant_of-way : goal.invariant_of-way
invariant_of-way c = record { ends = ∣ c.requires ∣₁ }
