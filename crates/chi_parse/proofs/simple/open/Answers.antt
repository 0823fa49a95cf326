use Rattle.std.proofs.Common.{◌∙◌}
use Rattle.chi_grammar.specs.Rules.{part, ◌∣◌}
use Rattle.chi_grammar.proofs.Exits.{reads_part, reads_left, reads_right}
use Rattle.chi_tree.specs.Parts as s
use Rattle.chi_tree.specs.Rules.{grammar}
use Rattle.chi_tree.specs.Tables.{table}
use Rattle.chi_tree.specs.Statements.{statement_of}
use Rattle.chi_parse.proofs.simple.open.Goals as goal

pub returns-then-is_next : goal.returns-then-is_next
returns-then-is_next c = reads_part grammar table _ statement_of _ s.Open _ _
    (reads_left grammar table _ _ _ (part s.Declaration) (part s.NameLed ∣ part s.Timed ∣ part s.Jump ∣ part s.Return ∣ part s.Exit ∣ part s.Finish ∣ part s.Write) _ _ (c.is_next.ensures ∙ c.if-is_next.true) c.declaration.ensures)

pub returns-then-is_next-2 : goal.returns-then-is_next-2
returns-then-is_next-2 c = reads_part grammar table _ statement_of _ s.Open _ _
    (reads_right grammar table _ _ _ (part s.Declaration) (part s.NameLed ∣ part s.Timed ∣ part s.Jump ∣ part s.Return ∣ part s.Exit ∣ part s.Finish ∣ part s.Write) _ _ (c.is_next.ensures ∙ c.if-is_next.false)
    (reads_left grammar table _ _ _ (part s.NameLed) (part s.Timed ∣ part s.Jump ∣ part s.Return ∣ part s.Exit ∣ part s.Finish ∣ part s.Write) _ _ (c.is_next-2.ensures ∙ c.if-is_next-2.true) c.name_led.ensures))

pub returns-then-is_next-3 : goal.returns-then-is_next-3
returns-then-is_next-3 c = reads_part grammar table _ statement_of _ s.Open _ _
    (reads_right grammar table _ _ _ (part s.Declaration) (part s.NameLed ∣ part s.Timed ∣ part s.Jump ∣ part s.Return ∣ part s.Exit ∣ part s.Finish ∣ part s.Write) _ _ (c.is_next.ensures ∙ c.if-is_next.false)
    (reads_right grammar table _ _ _ (part s.NameLed) (part s.Timed ∣ part s.Jump ∣ part s.Return ∣ part s.Exit ∣ part s.Finish ∣ part s.Write) _ _ (c.is_next-2.ensures ∙ c.if-is_next-2.false)
    (reads_left grammar table _ _ _ (part s.Timed) (part s.Jump ∣ part s.Return ∣ part s.Exit ∣ part s.Finish ∣ part s.Write) _ _ (c.is_next-3.ensures ∙ c.if-is_next-3.true) c.timed.ensures)))

pub returns-then-is_next-4 : goal.returns-then-is_next-4
returns-then-is_next-4 c = reads_part grammar table _ statement_of _ s.Open _ _
    (reads_right grammar table _ _ _ (part s.Declaration) (part s.NameLed ∣ part s.Timed ∣ part s.Jump ∣ part s.Return ∣ part s.Exit ∣ part s.Finish ∣ part s.Write) _ _ (c.is_next.ensures ∙ c.if-is_next.false)
    (reads_right grammar table _ _ _ (part s.NameLed) (part s.Timed ∣ part s.Jump ∣ part s.Return ∣ part s.Exit ∣ part s.Finish ∣ part s.Write) _ _ (c.is_next-2.ensures ∙ c.if-is_next-2.false)
    (reads_right grammar table _ _ _ (part s.Timed) (part s.Jump ∣ part s.Return ∣ part s.Exit ∣ part s.Finish ∣ part s.Write) _ _ (c.is_next-3.ensures ∙ c.if-is_next-3.false)
    (reads_left grammar table _ _ _ (part s.Jump) (part s.Return ∣ part s.Exit ∣ part s.Finish ∣ part s.Write) _ _ (c.is_next-4.ensures ∙ c.if-is_next-4.true) (c.jump.ensures c.args.room)))))

pub returns-then-is_next-5 : goal.returns-then-is_next-5
returns-then-is_next-5 c = reads_part grammar table _ statement_of _ s.Open _ _
    (reads_right grammar table _ _ _ (part s.Declaration) (part s.NameLed ∣ part s.Timed ∣ part s.Jump ∣ part s.Return ∣ part s.Exit ∣ part s.Finish ∣ part s.Write) _ _ (c.is_next.ensures ∙ c.if-is_next.false)
    (reads_right grammar table _ _ _ (part s.NameLed) (part s.Timed ∣ part s.Jump ∣ part s.Return ∣ part s.Exit ∣ part s.Finish ∣ part s.Write) _ _ (c.is_next-2.ensures ∙ c.if-is_next-2.false)
    (reads_right grammar table _ _ _ (part s.Timed) (part s.Jump ∣ part s.Return ∣ part s.Exit ∣ part s.Finish ∣ part s.Write) _ _ (c.is_next-3.ensures ∙ c.if-is_next-3.false)
    (reads_right grammar table _ _ _ (part s.Jump) (part s.Return ∣ part s.Exit ∣ part s.Finish ∣ part s.Write) _ _ (c.is_next-4.ensures ∙ c.if-is_next-4.false)
    (reads_left grammar table _ _ _ (part s.Return) (part s.Exit ∣ part s.Finish ∣ part s.Write) _ _ (c.is_next-5.ensures ∙ c.if-is_next-5.true) c.returned.ensures)))))

pub returns-then-is_next-6 : goal.returns-then-is_next-6
returns-then-is_next-6 c = reads_part grammar table _ statement_of _ s.Open _ _
    (reads_right grammar table _ _ _ (part s.Declaration) (part s.NameLed ∣ part s.Timed ∣ part s.Jump ∣ part s.Return ∣ part s.Exit ∣ part s.Finish ∣ part s.Write) _ _ (c.is_next.ensures ∙ c.if-is_next.false)
    (reads_right grammar table _ _ _ (part s.NameLed) (part s.Timed ∣ part s.Jump ∣ part s.Return ∣ part s.Exit ∣ part s.Finish ∣ part s.Write) _ _ (c.is_next-2.ensures ∙ c.if-is_next-2.false)
    (reads_right grammar table _ _ _ (part s.Timed) (part s.Jump ∣ part s.Return ∣ part s.Exit ∣ part s.Finish ∣ part s.Write) _ _ (c.is_next-3.ensures ∙ c.if-is_next-3.false)
    (reads_right grammar table _ _ _ (part s.Jump) (part s.Return ∣ part s.Exit ∣ part s.Finish ∣ part s.Write) _ _ (c.is_next-4.ensures ∙ c.if-is_next-4.false)
    (reads_right grammar table _ _ _ (part s.Return) (part s.Exit ∣ part s.Finish ∣ part s.Write) _ _ (c.is_next-5.ensures ∙ c.if-is_next-5.false)
    (reads_left grammar table _ _ _ (part s.Exit) (part s.Finish ∣ part s.Write) _ _ (c.is_next-6.ensures ∙ c.if-is_next-6.true) c.exit.ensures))))))

pub returns-then-is_next-7 : goal.returns-then-is_next-7
returns-then-is_next-7 c = reads_part grammar table _ statement_of _ s.Open _ _
    (reads_right grammar table _ _ _ (part s.Declaration) (part s.NameLed ∣ part s.Timed ∣ part s.Jump ∣ part s.Return ∣ part s.Exit ∣ part s.Finish ∣ part s.Write) _ _ (c.is_next.ensures ∙ c.if-is_next.false)
    (reads_right grammar table _ _ _ (part s.NameLed) (part s.Timed ∣ part s.Jump ∣ part s.Return ∣ part s.Exit ∣ part s.Finish ∣ part s.Write) _ _ (c.is_next-2.ensures ∙ c.if-is_next-2.false)
    (reads_right grammar table _ _ _ (part s.Timed) (part s.Jump ∣ part s.Return ∣ part s.Exit ∣ part s.Finish ∣ part s.Write) _ _ (c.is_next-3.ensures ∙ c.if-is_next-3.false)
    (reads_right grammar table _ _ _ (part s.Jump) (part s.Return ∣ part s.Exit ∣ part s.Finish ∣ part s.Write) _ _ (c.is_next-4.ensures ∙ c.if-is_next-4.false)
    (reads_right grammar table _ _ _ (part s.Return) (part s.Exit ∣ part s.Finish ∣ part s.Write) _ _ (c.is_next-5.ensures ∙ c.if-is_next-5.false)
    (reads_right grammar table _ _ _ (part s.Exit) (part s.Finish ∣ part s.Write) _ _ (c.is_next-6.ensures ∙ c.if-is_next-6.false)
    (reads_left grammar table _ _ _ (part s.Finish) (part s.Write) _ _ (c.is_next-7.ensures ∙ c.if-is_next-7.true) c.finish.ensures)))))))

pub returns : goal.returns
returns c = reads_part grammar table _ statement_of _ s.Open _ _
    (reads_right grammar table _ _ _ (part s.Declaration) (part s.NameLed ∣ part s.Timed ∣ part s.Jump ∣ part s.Return ∣ part s.Exit ∣ part s.Finish ∣ part s.Write) _ _ (c.is_next.ensures ∙ c.if-is_next.false)
    (reads_right grammar table _ _ _ (part s.NameLed) (part s.Timed ∣ part s.Jump ∣ part s.Return ∣ part s.Exit ∣ part s.Finish ∣ part s.Write) _ _ (c.is_next-2.ensures ∙ c.if-is_next-2.false)
    (reads_right grammar table _ _ _ (part s.Timed) (part s.Jump ∣ part s.Return ∣ part s.Exit ∣ part s.Finish ∣ part s.Write) _ _ (c.is_next-3.ensures ∙ c.if-is_next-3.false)
    (reads_right grammar table _ _ _ (part s.Jump) (part s.Return ∣ part s.Exit ∣ part s.Finish ∣ part s.Write) _ _ (c.is_next-4.ensures ∙ c.if-is_next-4.false)
    (reads_right grammar table _ _ _ (part s.Return) (part s.Exit ∣ part s.Finish ∣ part s.Write) _ _ (c.is_next-5.ensures ∙ c.if-is_next-5.false)
    (reads_right grammar table _ _ _ (part s.Exit) (part s.Finish ∣ part s.Write) _ _ (c.is_next-6.ensures ∙ c.if-is_next-6.false)
    (reads_right grammar table _ _ _ (part s.Finish) (part s.Write) _ _ (c.is_next-7.ensures ∙ c.if-is_next-7.false)
    c.write.ensures)))))))
