use Rattle.std.proofs.Common.{◌≡◌, subst}
use Rattle.std.specs.Prelude.{IfOk}
use Rattle.chi_cli.specs.declared.request.Pick.TheVariants.{First, Last, Spread}
use Rattle.chi_core.specs.Beginning.{start}
use Rattle.chi_core.specs.Picks.{Pick}
use Rattle.chi_engine.specs.Settings.{policy_of}
use Rattle.chi_explain_runs.specs.Waits.{IsWaitingTold}
use Rattle.chi_sched.specs.Policies.{Answers}
use Rattle.chi_tool.proofs.Rests.{rest_named}
use Rattle.chi_tool.proofs.rest.rest_told.Goals as goal

pub returns-in-First : goal.returns-in-First
returns-in-First c =
    rest_named c.args.core.now c.args.source.now c.args.arguments.items c.args.asked.now First c.explain_rest.result (λ text. text.items) c.in-First.is
    (subst (λ terms. IfOk c.explain_rest.result (λ text. (pick : Pick) → Answers (λ question count answer. answer ≡ policy_of First question count) pick
    → IsWaitingTold c.args.core.now c.args.source.now (start c.args.core.now c.args.arguments.items terms.seed terms.until) pick terms.bound text.items))
    c.with-terms.ensures c.explain_rest.ensures)

pub returns-in-Last : goal.returns-in-Last
returns-in-Last c =
    rest_named c.args.core.now c.args.source.now c.args.arguments.items c.args.asked.now Last c.explain_rest-in-Last.result (λ text. text.items) c.in-Last.is
    (subst (λ terms. IfOk c.explain_rest-in-Last.result (λ text. (pick : Pick) → Answers (λ question count answer. answer ≡ policy_of Last question count) pick
    → IsWaitingTold c.args.core.now c.args.source.now (start c.args.core.now c.args.arguments.items terms.seed terms.until) pick terms.bound text.items))
    c.with-terms-in-Last.ensures c.explain_rest-in-Last.ensures)

pub returns-in-Spread : goal.returns-in-Spread
returns-in-Spread c =
    rest_named c.args.core.now c.args.source.now c.args.arguments.items c.args.asked.now (Spread c.in-Spread.salt) c.explain_rest-in-Spread.result (λ text. text.items) c.in-Spread.is
    (subst (λ terms. IfOk c.explain_rest-in-Spread.result (λ text. (pick : Pick) → Answers (λ question count answer. answer ≡ policy_of (Spread terms.policy.salt) question count) pick
    → IsWaitingTold c.args.core.now c.args.source.now (start c.args.core.now c.args.arguments.items terms.seed terms.until) pick terms.bound text.items))
    c.with-terms-in-Spread.ensures c.explain_rest-in-Spread.ensures)
