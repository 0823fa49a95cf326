use Rattle.std.proofs.Common.{rules, ap, ◌∙◌}
use Rattle.std.specs.Prelude.{IsTrue}
use Rattle.chi_value.specs.Plain.{within}
use Rattle.chi_trace_events.specs.Traces.{sent_text}
use Rattle.chi_machine_told.proofs.Sent.{named_by, its_value, its_channel, has_channel, told}
use Rattle.chi_machine_told.proofs.sending.sending.Goals as goal

pub unreachable-requires : goal.unreachable-requires
unreachable-requires c = has_channel c.args.code.now c.args.opened.now c.args.number c.requires (search rules)

pub sent_text-requires : goal.sent_text-requires
sent_text-requires c = record {
  named = named_by c.value.result c.requires.1 (λ v. IsTrue (within c.args.code.now.names.kinds v))
      (its_value c.args.code.now c.args.opened.now c.args.number c.requires _ c.value.ensures) c.requires.3.named;
}

pub returns-clause-detail : goal.returns-clause-detail
returns-clause-detail c =
    let code = c.args.code.now in
    told code c.args.opened.now c.args.number c.requires c.in-Some.channel c.in_ok-text-in-Some.text
    (its_channel code c.args.opened.now c.args.number c.requires c.in-Some.channel (search rules))
    (c.in_ok-text-in-Some.ensures ∙ ap (sent_text code.names.kinds) (its_value code c.args.opened.now c.args.number c.requires _ c.value.ensures))
