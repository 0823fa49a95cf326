use Rattle.chi_core.specs.declared.program.Core.{Core}
use Rattle.chi_core.specs.Sound.{Sound}
use Rattle.chi_log.proofs.Places.{Laws}
use Rattle.chi_log.proofs.Begun.{reading_begins}
use Rattle.chi_log.proofs.Refused.{after_end, first_line_wrong, label_too_dear, next_line_wrong, no_line_more, rests_without}
use Rattle.chi_log.proofs.Texts.{reading_ends, reading_goes_on}
use Rattle.chi_log.proofs.laws.reading_law.Goals as goal

pub returns : goal.returns
returns c =
    let laws : (core : Core) → Sound core → Laws core
    = λ core sound. record { sound = sound; keeps = c.kinded_law.ensures.keeps core sound; there = c.events_law.ensures.there; event = c.events_law.ensures.event } in
    record {
      begins = λ core sound. reading_begins core (laws core sound) (c.kinded_law.ensures.begins core sound);
      on = λ core sound begin bound r so_far turn config left here line label output next t.
          reading_goes_on core begin bound r so_far (laws core sound) turn config left here line label output next t;
      ends = λ core sound begin bound r so_far. reading_ends core begin bound r so_far (laws core sound);
      first_wrong = first_line_wrong;
      none = λ core sound. no_line_more core (laws core sound);
      wrong = λ core sound. next_line_wrong core (laws core sound);
      too_dear = λ core sound. label_too_dear core (laws core sound);
      after_end = λ core sound. after_end core (laws core sound);
      at_rest = rests_without;
    }
