use Rattle.std.proofs.Common.{ℤ, List, Some, length, sym, ◌∙◌, ap, rules, arith}
use Rattle.std.proofs.lemmas.Int.{to_z-of_z}
use Rattle.std.proofs.lemmas.List.{length-map}
use Rattle.std.specs.Prelude.{nat_eq, get_or, option_map}
use Rattle.std.specs.List.{slice_get}
use mir.Val.{SFits}
use mir.Syntax.{w64}
use Rattle.chi_chan.specs.Held as chan
use Rattle.chi_chan_laws.specs.Agreement.{label_of}
use Rattle.chi_core.specs.declared.label.Label.{Label}
use Rattle.chi_core.specs.declared.label.Label.TheVariants as label
use Rattle.chi_core.specs.Options.{options}
use Rattle.chi_machine_agenda.specs.Phases.{Agenda}
use Rattle.chi_machine_agenda.specs.Reading.{config_of}
use Rattle.chi_machine_agenda.proofs.Lists.{map-got}
use Rattle.chi_machine_agenda.proofs.Options.{maybe-label, only-label, options-none, options-runs, options-waits, options-joins, options-over}
use Rattle.chi_machine_agenda.proofs.agenda.Agenda.option_at.Goals as goal

pub returns-in-Running : goal.returns-in-Running
returns-in-Running c =
    let s = c.self.inside in
    only-label (options (config_of c.args.self.now) c.args.pid) (label.Local c.args.pid) c.args.i (sym (ap (λ (a : Agenda). options (config_of a) c.args.pid) c.self.view_is) ∙ options-runs s.clock s.until s.standings.items s.finished.items s.waiting s.ready s.dues s.joins c.self.invariant c.args.pid (sym c.standing_at.ensures ∙ c.in-Some.is ∙ ap Some c.in-Running.is)) c.requires

pub returns-in-Joining : goal.returns-in-Joining
returns-in-Joining c =
    let s = c.self.inside in
    maybe-label (options (config_of c.args.self.now) c.args.pid) (label.Join c.args.pid) (nat_eq (get_or s.joins.left.items c.args.pid 0) 0) c.args.i (sym (ap (λ (a : Agenda). options (config_of a) c.args.pid) c.self.view_is) ∙ options-joins s.clock s.until s.standings.items s.finished.items s.waiting s.ready s.dues s.joins c.self.invariant c.args.pid (sym c.standing_at.ensures ∙ c.in-Some.is ∙ ap Some c.in-Joining.is)) c.requires

pub option_at-requires : goal.option_at-requires
option_at-requires c =
    let s = c.self.inside in
    let fits : SFits w64 s.clock = search rules in
    let same = sym (ap (λ (a : Agenda). options (config_of a) c.args.pid) c.self.view_is) ∙ options-waits s.clock s.until s.standings.items s.finished.items s.waiting s.ready s.dues s.joins c.self.invariant c.args.pid (sym c.standing_at.ensures ∙ c.in-Some.is ∙ ap Some c.in-Waiting.is) in
    let e = ap length same ∙ length-map (chan.options s.waiting s.clock c.args.pid) (label_of c.args.pid) ∙ sym (ap (λ (t : ℤ). length (chan.options s.waiting t c.args.pid)) (to_z-of_z w64 s.clock fits)) in
    let r = c.requires in
    omega (arith, e, r)

pub returns-in-Waiting : goal.returns-in-Waiting
returns-in-Waiting c =
    let s = c.self.inside in
    let fits : SFits w64 s.clock = search rules in
    let same = sym (ap (λ (a : Agenda). options (config_of a) c.args.pid) c.self.view_is) ∙ options-waits s.clock s.until s.standings.items s.finished.items s.waiting s.ready s.dues s.joins c.self.invariant c.args.pid (sym c.standing_at.ensures ∙ c.in-Some.is ∙ ap Some c.in-Waiting.is) in
    ap (λ (l : List Label). slice_get l c.args.i) same ∙ map-got (label_of c.args.pid) (chan.options s.waiting s.clock c.args.pid) c.args.i
    ∙ ap (option_map (label_of c.args.pid)) (sym (ap (λ (t : ℤ). slice_get (chan.options s.waiting t c.args.pid) c.args.i) (to_z-of_z w64 s.clock fits)) ∙ c.option_at.ensures)
    ∙ ap Some (sym c.label_of.ensures)

pub unreachable-requires : goal.unreachable-requires
unreachable-requires c =
    let s = c.self.inside in
    let e = ap length (sym (ap (λ (a : Agenda). options (config_of a) c.args.pid) c.self.view_is) ∙ options-none s.clock s.until s.standings.items s.finished.items s.waiting s.ready s.dues s.joins c.self.invariant c.args.pid (sym c.standing_at.ensures ∙ c.in-None.is)) in
    let r = c.requires in
    omega (arith, e, r)

pub unreachable-requires-in-Finished : goal.unreachable-requires-in-Finished
unreachable-requires-in-Finished c =
    let s = c.self.inside in
    let e = ap length (sym (ap (λ (a : Agenda). options (config_of a) c.args.pid) c.self.view_is) ∙ options-over s.clock s.until s.standings.items s.finished.items s.waiting s.ready s.dues s.joins c.self.invariant c.args.pid (sym c.standing_at.ensures ∙ c.in-Some.is ∙ ap Some c.in-Finished.is)) in
    let r = c.requires in
    omega (arith, e, r)
