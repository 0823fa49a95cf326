use Rattle.chi_machine_tests.proofs.programs.core_of.Goals as goal

pub returns : goal.returns
returns c =
    let parsed = (c.parsed_law.ensures.tree _ _).0 (rw (c.as_slice.ensures.value) at c.in_ok-tree.ensures.parsed) in
    record { sound = c.parsed_programs_are_sound.ensures.sound c.args.source.now c.in_ok-tokens.tokens.items c.in_ok-tree.tree c.in_ok-core.core c.requires.within c.in_ok-tokens.ensures.tokens parsed c.in_ok-core.ensures.answers }
