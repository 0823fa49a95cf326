-- What is told along a run, turn by turn.
use Rattle.std.proofs.Common.{◌≡◌, ℕ, suc, List, [], ◌∷◌, ◌++◌, length, length-append, append_assoc, append-nil, sym, ◌∙◌, ap, refl, arith}
use Rattle.chi_core.specs.declared.label.Label.{Label}
use Rattle.chi_core.specs.declared.program.Core.{Core}
use Rattle.chi_core.specs.declared.verdict.Verdict.{Verdict}
use Rattle.chi_core.specs.Config.{Config}
use Rattle.chi_core.specs.Runs.{Tells, TellsLast, along}
use Rattle.chi_core.specs.Step.{Next, Over, step}
use Rattle.chi_core_runs.specs.Tellings.{ToldSoFar}
use Rattle.chi_core_runs.proofs.Turns.{along-none, along-step}

module _ {A : Type 0} (tells : Tells A) (last : TellsLast A) (core : Core) (first : Config) (bound : ℕ) where
  pub nothing_told : ToldSoFar tells last core first bound [] [] first bound
  nothing_told = record { goes_on = λ more. refl }

  module _ (labels : List Label) (told : List A) (config : Config) (left : ℕ) (so_far : ToldSoFar tells last core first bound labels told config left) where
    pub more_told : (label : Label) (new : Config) (text : List ℕ) (rest : ℕ) → step core config label left ≡ Next new text rest
        → ToldSoFar tells last core first bound (labels ++ label ∷ []) (told ++ tells (length labels) config label (Next new text rest)) new rest
    more_told label new text rest e = record {
      goes_on = λ more.
          let longer : length (labels ++ label ∷ []) ≡ suc (length labels) = simp length-append (omega arith) in
          let here = tells (length labels) config label (Next new text rest) in
          ap (along tells last core 0 first bound) (append_assoc labels (label ∷ []) more)
          ∙ so_far.goes_on (label ∷ more)
          ∙ ap (λ xs. told ++ xs) (along-step tells last core (length labels) config left label more (Next new text rest) e)
          ∙ sym (append_assoc told here (along tells last core (suc (length labels)) new rest more))
          ∙ ap (λ turn. (told ++ here) ++ along tells last core turn new rest more) (sym longer);
    }

    pub all_told : (label : Label) (verdict : Verdict) → step core config label left ≡ Over verdict
        → along tells last core 0 first bound (labels ++ label ∷ []) ≡ told ++ tells (length labels) config label (Over verdict)
    all_told label verdict e =
        so_far.goes_on (label ∷ [])
        ∙ ap (λ xs. told ++ xs) (along-step tells last core (length labels) config left label [] (Over verdict) e ∙ append-nil _)

    pub last_told : along tells last core 0 first bound labels ≡ told ++ last config left
    last_told =
        ap (along tells last core 0 first bound) (sym (append-nil labels)) ∙ so_far.goes_on []
        ∙ ap (λ xs. told ++ xs) (along-none tells last core (length labels) config left)
