-- How far an experiment has come, and how it ends there.
use Rattle.std.proofs.Common.{◌≡◌, ℕ, suc, List, [], ◌∷◌, ◌++◌, refl, ap, sym, subst, ◌∙◌, append-nil, append_assoc}
use Rattle.chi_value.specs.declared.value.Value.{Value}
use Rattle.chi_core.specs.Kinds.{Every}
use Rattle.chi_xper.specs.Conditions.{IsFine}
use Rattle.chi_xper.specs.Ends.{AppendsPart, EndsBy}
use Rattle.chi_xper.specs.Experiments.{End, Made, Told, after, over}
use Rattle.chi_xper.specs.Leading.{Leads}

pub leads_start : (whole : Told) (before : List ℕ) → Leads whole before before whole
leads_start whole before = record { runs = []; text = []; is = refl; grown = sym (append-nil before) }

after_after : (runs more : List Made) (text next : List ℕ) (rest : Told) → after runs text (after more next rest) ≡ after (runs ++ more) (text ++ next) rest
after_after runs more text next rest k = record { runs = sym (append_assoc runs more rest.runs) k; output = sym (append_assoc text next rest.output) k; end = rest.end }

module _ (whole rest : Told) (before now : List ℕ) (leads : Leads whole before now rest) where
  -- some more is told
  pub leads_more : (more : List Made) (next now2 : List ℕ) (rest2 : Told) → rest ≡ after more next rest2 → now2 ≡ now ++ next → Leads whole before now2 rest2
  leads_more more next now2 rest2 e grown = record {
    runs = leads.runs ++ more;
    text = leads.text ++ next;
    is = leads.is ∙ ap (after leads.runs leads.text) e ∙ after_after leads.runs more leads.text next rest2;
    grown = grown ∙ ap (λ l. l ++ next) leads.grown ∙ append_assoc before leads.text next;
  }

  -- it is over
  pub leads_over : (end : End) → rest ≡ over end → EndsBy whole before now end
  leads_over end e =
      let is : whole ≡ after leads.runs leads.text (over end) = leads.is ∙ ap (after leads.runs leads.text) e in
      (ap (λ told. told.end) is, leads.grown ∙ ap (λ l. before ++ l) (sym (ap (λ told. told.output) is ∙ append-nil leads.text)))

  -- memory is wanting
  pub leads_part : AppendsPart whole.output before now
  leads_part = (leads.text, rest.output, sym (ap (λ told. told.output) leads.is), leads.grown)

  pub leads_part_more : (more : List Made) (next now2 : List ℕ) (rest2 : Told) → rest ≡ after more next rest2 → AppendsPart next now now2 → AppendsPart whole.output before now2
  leads_part_more more next now2 rest2 e part =
      let front = part.0 in
      let left = part.1 in
      let output : whole.output ≡ leads.text ++ (next ++ rest2.output) = ap (λ told. told.output) leads.is ∙ ap (λ told. leads.text ++ told.output) e in (
        leads.text ++ front,
        left ++ rest2.output,
        append_assoc leads.text front (left ++ rest2.output)
            ∙ ap (λ l. leads.text ++ l) (sym (append_assoc front left rest2.output) ∙ ap (λ l. l ++ rest2.output) part.2)
            ∙ sym output,
        part.3 ∙ ap (λ l. l ++ front) leads.grown ∙ append_assoc before leads.text front,
      )

-- what holds of all holds of those that come later
later_every : {A : Type 0} (P : A → Type 0) (xs ys : List A) → Every P (xs ++ ys) → Every P ys
later_every P [] ys every = every
later_every P (x ∷ xs) ys every = later_every P xs ys (λ k y e. every (suc k) y e)

module _ (allows : ℕ → List Value → Type 0) where
  may_make : Made → Type 0
  may_make made = allows made.model made.arguments

  fine_after : (runs : List Made) (text : List ℕ) (rest : Told) → IsFine allows (after runs text rest) → IsFine allows rest
  fine_after runs text rest fine = record { well = fine.well; allowed = later_every (λ made. allows made.model made.arguments) runs rest.runs fine.allowed }

  pub fine_rest : (whole rest : Told) (before now : List ℕ) → Leads whole before now rest → IsFine allows whole → IsFine allows rest
  fine_rest whole rest before now leads fine =
      let P : Told → Type 0 = IsFine allows in
      fine_after leads.runs leads.text rest (subst P leads.is fine)

  -- the first run is allowed
  pub fine_run : (whole rest : Told) (made : Made) (text : List ℕ) → whole ≡ after (made ∷ []) text rest → IsFine allows whole → allows made.model made.arguments
  fine_run whole rest made text e fine =
      let P : Told → Type 0 = IsFine allows in
      (subst P e fine).allowed 0 made refl

  pub fine_next : (whole rest : Told) (more : List Made) (text : List ℕ) → whole ≡ after more text rest → IsFine allows whole → IsFine allows rest
  fine_next whole rest more text e fine =
      let P : Told → Type 0 = IsFine allows in
      fine_after more text rest (subst P e fine)
