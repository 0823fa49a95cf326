use Rattle.std.proofs.Common.{ℤ, Some, length, cond, sym, ◌∙◌, ap, rules}
use Rattle.std.proofs.lemmas.Int.{to_z-of_z}
use Rattle.std.proofs.lemmas.List.{length-map}
use Rattle.std.specs.Prelude.{nat_eq, get_or}
use mir.Val.{SFits}
use mir.Syntax.{w64}
use Rattle.chi_chan.specs.Held as chan
use Rattle.chi_chan_laws.specs.Agreement.{label_of}
use Rattle.chi_core.specs.declared.label.Label.TheVariants as label
use Rattle.chi_core.specs.Options.{options}
use Rattle.chi_machine_agenda.specs.Phases.{Agenda}
use Rattle.chi_machine_agenda.specs.Reading.{config_of}
use Rattle.chi_machine_agenda.proofs.Options.{maybe-count, options-none, options-runs, options-waits, options-joins, options-over}
use Rattle.chi_machine_agenda.proofs.agenda.Agenda.option_count.Goals as goal

pub returns-in-None : goal.returns-in-None
returns-in-None c =
    let s = c.self.inside in
    sym (ap length (options-none s.clock s.until s.standings.items s.finished.items s.waiting s.ready s.dues s.joins c.self.invariant c.args.pid (sym c.standing_at.ensures ∙ c.in-None.is))) ∙ ap (λ (a : Agenda). length (options (config_of a) c.args.pid)) c.self.view_is

pub returns-in-Running : goal.returns-in-Running
returns-in-Running c =
    let s = c.self.inside in
    sym (ap length (options-runs s.clock s.until s.standings.items s.finished.items s.waiting s.ready s.dues s.joins c.self.invariant c.args.pid (sym c.standing_at.ensures ∙ c.in-Some.is ∙ ap Some c.in-Running.is))) ∙ ap (λ (a : Agenda). length (options (config_of a) c.args.pid)) c.self.view_is

pub returns-in-Waiting : goal.returns-in-Waiting
returns-in-Waiting c =
    let s = c.self.inside in
    let fits : SFits w64 s.clock = search rules in
    c.option_count.ensures ∙ ap (λ (t : ℤ). length (chan.options s.waiting t c.args.pid)) (to_z-of_z w64 s.clock fits)
    ∙ sym (ap length (options-waits s.clock s.until s.standings.items s.finished.items s.waiting s.ready s.dues s.joins c.self.invariant c.args.pid (sym c.standing_at.ensures ∙ c.in-Some.is ∙ ap Some c.in-Waiting.is)) ∙ length-map (chan.options s.waiting s.clock c.args.pid) (label_of c.args.pid)) ∙ ap (λ (a : Agenda). length (options (config_of a) c.args.pid)) c.self.view_is

pub returns-in-Joining : goal.returns-in-Joining
returns-in-Joining c =
    let s = c.self.inside in
    c.one_where.ensures ∙ ap (λ b. cond b 1 0) c.is_free.ensures ∙ maybe-count (label.Join c.args.pid) (nat_eq (get_or s.joins.left.items c.args.pid 0) 0)
    ∙ sym (ap length (options-joins s.clock s.until s.standings.items s.finished.items s.waiting s.ready s.dues s.joins c.self.invariant c.args.pid (sym c.standing_at.ensures ∙ c.in-Some.is ∙ ap Some c.in-Joining.is))) ∙ ap (λ (a : Agenda). length (options (config_of a) c.args.pid)) c.self.view_is

pub returns-in-Finished : goal.returns-in-Finished
returns-in-Finished c =
    let s = c.self.inside in
    sym (ap length (options-over s.clock s.until s.standings.items s.finished.items s.waiting s.ready s.dues s.joins c.self.invariant c.args.pid (sym c.standing_at.ensures ∙ c.in-Some.is ∙ ap Some c.in-Finished.is))) ∙ ap (λ (a : Agenda). length (options (config_of a) c.args.pid)) c.self.view_is
