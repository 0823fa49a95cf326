use Rattle.chi_plain_options.proofs.Havings.{NoneOffers}
use Rattle.chi_plain_options.proofs.acting.has_option_among.Given as goal

abbrev pub invariant-loop-offer : goal.invariant-loop-offer
invariant-loop-offer l = NoneOffers l.fn.config l.fn.pid l.fn.offers l.offer-index
