-- An opening and a start that are done.
use Rattle.std.proofs.Common.{◌≡◌, List, Option, sym, ◌∙◌, ap}
use Rattle.std.specs.Prelude.{unwrap_or}
use Rattle.chi_core.specs.declared.view.View.{View}
use Rattle.chi_core.specs.Answer.{Answer, Gives}
use Rattle.chi_core.specs.Config.{Instance, Offer}
use Rattle.chi_core.specs.Opening.{Opening}
use Rattle.chi_core.specs.Starting.{Started}
use Rattle.chi_core.specs.Variables.{Variables}
use Rattle.chi_plain_open.specs.Drafts.{Opened, opening_of, Made, started_of}

pub opened_gives : (m : Answer Opening) (o : Opened) (view : View) (changed : Option Variables) (variables : Variables) (offers : List Offer) → m ≡ Gives (opening_of o) view
    → unwrap_or changed o.origin ≡ o.variables → o.origin ≡ variables → offers ≡ o.offers
    → m ≡ Gives (record { variables = unwrap_or changed variables; offers = offers }) view
opened_gives m o view changed variables offers e left origin kept =
    e ∙ (λ k. Gives (record { variables = (sym left ∙ ap (unwrap_or changed) origin) k; offers = sym kept k }) view)

pub started_gives : (m : Answer Started) (s : Made) (view : View) (changed : Option Variables) (variables : Variables) (made : List Instance) → m ≡ Gives (started_of s) view
    → unwrap_or changed s.origin ≡ s.variables → s.origin ≡ variables → made ≡ s.made
    → m ≡ Gives (record { variables = unwrap_or changed variables; made = made }) view
started_gives m s view changed variables made e left origin kept =
    e ∙ (λ k. Gives (record { variables = (sym left ∙ ap (unwrap_or changed) origin) k; made = sym kept k }) view)

pub ruleset finishing = (opened_gives, started_gives)
