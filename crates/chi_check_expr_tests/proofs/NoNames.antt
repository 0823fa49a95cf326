-- Where no name is visible, none lacks a type and none lacks a default.
use Rattle.std.proofs.Common.{◌≡◌, [], sym, subst}
use Rattle.chi_check_types.specs.Names.{Names}
use Rattle.chi_check_expr.specs.Clean.{Clean, HaveDefaults}

none_clean : Clean []
none_clean name kind e = absurd (cc)

none_default : HaveDefaults []
none_default name t e = absurd (cc)

pub are_clean : (names : Names) → names ≡ [] → Clean names
are_clean names h = subst Clean (sym h) none_clean

pub have_defaults : (names : Names) → names ≡ [] → HaveDefaults names
have_defaults names h = subst HaveDefaults (sym h) none_default
