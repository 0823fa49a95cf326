use Rattle.std.proofs.Common.{◌+◌, ◌∙◌, subst, sym}
use Rattle.chi_lex.proofs.TextLoop.{HasRead, HasRead-quote, HasRead-character, HasRead-closed, HasRead-stopped}
use Rattle.chi_lex.proofs.text.text.Goals as goal

pub loop-byte-init : goal.loop-byte-init
loop-byte-init c =
    subst (λ bytes. HasRead c.args.rest.now c.split_at.result.1.now bytes 1) (sym c.new-bytes.ensures.items)
    (HasRead-quote c.args.rest.now c.split_at.result.1.now c.requires.some c.requires.quote c.split_at.ensures.back)

pub loop-byte-preserved : goal.loop-byte-preserved
loop-byte-preserved c =
    subst (λ bytes. HasRead c.args.rest.now c.split_at-in-Means.result.1.now bytes (c.loop-byte.passed + c.in-Means.size)) (sym c.in_ok-push-in-Means.ensures.items)
    (HasRead-character _ _ _ _ _ c.in-Means.byte c.in-Means.size c.loop-byte.invariant c.in-Means.ensures.0 c.in-Means.ensures.2 c.split_at-in-Means.ensures.back)

pub returns-in-Closes : goal.returns-in-Closes
returns-in-Closes c =
    HasRead-closed _ _ _ c.in_ok-text-in-Closes.text _ c.loop-byte.invariant c.in-Closes.ensures.0 c.in-Closes.ensures.1
    (c.in_ok-text-in-Closes.ensures.copied ∙ c.as_slice.ensures.value)

pub returns-in-Unclosed : goal.returns-in-Unclosed
returns-in-Unclosed c =
    HasRead-stopped _ _ _ _ _ c.loop-byte.invariant c.in-Unclosed.ensures.0 (c.in-Unclosed.ensures.1 c.loop-byte.passed)

pub returns-in-BadEscape : goal.returns-in-BadEscape
returns-in-BadEscape c =
    HasRead-stopped _ _ _ _ _ c.loop-byte.invariant c.in-BadEscape.ensures.0 (c.in-BadEscape.ensures.1 c.loop-byte.passed)

pub returns-in-BadByte : goal.returns-in-BadByte
returns-in-BadByte c =
    HasRead-stopped _ _ _ _ _ c.loop-byte.invariant c.in-BadByte.ensures.0 (c.in-BadByte.ensures.1 c.loop-byte.passed)
