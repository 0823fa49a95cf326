-- What is said of a fault, by its kind.
use Rattle.std.specs.Prelude.{ℕ, List}
use Rattle.chi_core.specs.declared.fault.FaultKind.{FaultKind}
use Rattle.chi_core.specs.declared.fault.FaultKind.TheVariants.{IntRange, RealRange, DivideByZero, BadPower, IndexRange, KeyMissing, EmptyPop, TooLarge, SliceStep, BadText, CallDepth, NoReturn, NegativeDelay, BadDistribution, TooManyInstances, TooManyChannels}
use Rattle.chi_explain_endings.specs.declared.faults.TheConstants as words

abbrev pub fault_words : FaultKind → List ℕ
fault_words IntRange = words.INT_RANGE.now
fault_words RealRange = words.REAL_RANGE.now
fault_words DivideByZero = words.DIVIDE_BY_ZERO.now
fault_words BadPower = words.BAD_POWER.now
fault_words IndexRange = words.INDEX_RANGE.now
fault_words KeyMissing = words.KEY_MISSING.now
fault_words EmptyPop = words.EMPTY_POP.now
fault_words TooLarge = words.TOO_LARGE.now
fault_words SliceStep = words.SLICE_STEP.now
fault_words BadText = words.BAD_TEXT.now
fault_words CallDepth = words.CALL_DEPTH.now
fault_words NoReturn = words.NO_RETURN.now
fault_words NegativeDelay = words.NEGATIVE_DELAY.now
fault_words BadDistribution = words.BAD_DISTRIBUTION.now
fault_words TooManyInstances = words.TOO_MANY_INSTANCES.now
fault_words TooManyChannels = words.TOO_MANY_CHANNELS.now
