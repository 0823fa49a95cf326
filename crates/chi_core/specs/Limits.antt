-- The limits of the language, to be held against `docs/LANGUAGE.md`: what each constant is that the definitions cite.
use Rattle.std.specs.Prelude.{◌≡◌}
use Rattle.chi_value.specs.declared.value.TheConstants.{MOST_ELEMENTS}
use Rattle.chi_value.specs.declared.defaults.TheConstants.{MOST_CHANNELS}
use Rattle.chi_value.specs.declared.text.limit.TheConstants.{MOST_TEXT}
use Rattle.chi_core.specs.declared.limits.TheConstants.{MOST_CALLS, MOST_INSTANCES, MOST_OFFERS}

-- calls of functions within one another; offers of one select; instances and channels of a run; elements of a container
-- or bytes of a string; bytes of a text that is written or that an exit shows
abbrev pub LimitsAre : Type 0
LimitsAre =
    (MOST_CALLS ≡ 500) ×
    (MOST_OFFERS ≡ 65536) ×
    (MOST_INSTANCES ≡ 100000) ×
    (MOST_CHANNELS ≡ 1000000) ×
    (MOST_ELEMENTS ≡ 1048576) ×
    (MOST_TEXT ≡ 4194304)
