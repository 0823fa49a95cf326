-- The words of each kind that the grammar lets stand for one another, each list once: the rules and both tables read it here, so
-- that a new operator, type word or literal is one entry.
use Rattle.std.specs.Prelude.{List, [], ◌∷◌}
use Rattle.chi_token.specs.declared.keyword.Keyword.TheVariants.{BoolWord, BreakWord, ContinueWord, DivWord, FalseWord, InWord, InstWord, IntWord, ModWord, PassWord, RealWord, RunWord, SampleWord, StartWord, StringWord, SubWord, TimeWord, TimerWord, TrueWord, WriteWord, WritelnWord}
use Rattle.chi_token.specs.declared.sign.Sign.TheVariants.{Less, LessEqual, Equal, NotEqual, Greater, GreaterEqual, Plus, Minus, Star, Slash}
use Rattle.chi_tree.specs.declared.class.Class.{Class}
use Rattle.chi_tree.specs.declared.class.Class.TheVariants as class

-- one class at least
pub record Words : Type 0 where
  pub first : Class
  pub more : List Class

abbrev pub classes : Words → List Class
classes words = words.first ∷ words.more

-- "<" | "<=" | "==" | "!=" | ">" | ">=" | "in" | "sub"
abbrev pub relation_signs : Words
relation_signs = record {
  first = class.Sign Less;
  more = class.Sign LessEqual ∷ class.Sign Equal ∷ class.Sign NotEqual ∷ class.Sign Greater ∷ class.Sign GreaterEqual ∷ class.Word InWord ∷ class.Word SubWord ∷ [];
}

-- "+" | "-"
abbrev pub sum_signs : Words
sum_signs = record { first = class.Sign Plus; more = class.Sign Minus ∷ [] }

-- "*" | "/" | "div" | "mod"
abbrev pub product_signs : Words
product_signs = record { first = class.Sign Star; more = class.Sign Slash ∷ class.Word DivWord ∷ class.Word ModWord ∷ [] }

-- "-" | "+" | "sample"
abbrev pub prefix_signs : Words
prefix_signs = record { first = class.Sign Minus; more = class.Sign Plus ∷ class.Word SampleWord ∷ [] }

-- "bool" | "int" | "real" | "string" | "timer" | "inst"
abbrev pub type_words : Words
type_words = record {
  first = class.Word BoolWord;
  more = class.Word IntWord ∷ class.Word RealWord ∷ class.Word StringWord ∷ class.Word TimerWord ∷ class.Word InstWord ∷ [];
}

-- "int" | "real" | "string" | "bool" | "timer"
abbrev pub cast_words : Words
cast_words = record {
  first = class.Word IntWord;
  more = class.Word RealWord ∷ class.Word StringWord ∷ class.Word BoolWord ∷ class.Word TimerWord ∷ [];
}

-- int | real | text | "true" | "false" | "time"
abbrev pub literals : Words
literals = record {
  first = class.Int;
  more = class.Real ∷ class.Text ∷ class.Word TrueWord ∷ class.Word FalseWord ∷ class.Word TimeWord ∷ [];
}

-- "pass" | "break" | "continue"
abbrev pub jumps : Words
jumps = record { first = class.Word PassWord; more = class.Word BreakWord ∷ class.Word ContinueWord ∷ [] }

-- "write" | "writeln"
abbrev pub write_words : Words
write_words = record { first = class.Word WriteWord; more = class.Word WritelnWord ∷ [] }

-- "run" | "start"
abbrev pub launch_words : Words
launch_words = record { first = class.Word RunWord; more = class.Word StartWord ∷ [] }
