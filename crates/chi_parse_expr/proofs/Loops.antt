-- Loops that collect what they read.
use Rattle.std.proofs.Common.{◌≡◌, ℕ, ◌<◌, ◌≤◌, true, false, List, [], ◌∷◌, ◌++◌, length, refl, sym, ap, ◌∙◌, append_assoc}
use Rattle.std.proofs.lemmas.List.{append-nil}
use Rattle.chi_grammar.specs.declared.fault.ParseFault.{ParseFault}
use Rattle.chi_grammar.specs.declared.room.Room.{Room}
use Rattle.chi_grammar.specs.Rules.{Rule, none, pair, part, many}
use Rattle.chi_grammar.specs.Lookahead.{Next, first}
use Rattle.chi_grammar.specs.Reads.{Along, ReadsTree, attach}
use Rattle.chi_grammar.specs.RuleRuns.{Done, Fail, RuleRuns}
use Rattle.chi_grammar.proofs.Exits.{read}
use Rattle.chi_grammar.proofs.Decided.{decided}
use Rattle.chi_grammar.proofs.Starts.{takes}
use Rattle.chi_grammar.proofs.Answers.{means}
use Rattle.chi_grammar.proofs.Loops.{along_start, along_more, along_stop, along_fails}
use Rattle.chi_token.specs.declared.place.Spanned.{Spanned}
use Rattle.chi_tree.specs.Parts.{Part}
use Rattle.chi_tree.specs.Rules.{grammar}
use Rattle.chi_tree.specs.Tables.{table}
use Rattle.chi_tree.specs.View.{Built}
use Rattle.chi_tree.proofs.Fine.{grammar_fine}

-- Trees were read in turn from `at` to before `i`: with them before the rest, the whole is shown as these values and
-- what the rest is shown as.
pub record Gathered {X : Type 0} (whole rest : Built → List X) (tokens : List Spanned) (room : Room) (a : Rule Spanned Part) (at i : ℕ) (values : List X) : Type 0 where
  pub trees : List Built
  pub along : Along grammar table tokens room a at i trees
  pub shows : (u : Built) → whole (attach trees u) ≡ values ++ rest u
  pub inside : i ≤ length tokens

attach-append : (ts : List Built) (t u : Built) → attach (ts ++ t ∷ []) u ≡ attach ts (pair t u)
attach-append [] t u = refl
attach-append (x ∷ ts) t u = λ i. pair x (attach-append ts t u i)

module _ {X : Type 0} {whole rest : Built → List X} {tokens : List Spanned} {room : Room} {a : Rule Spanned Part} {at : ℕ} where
  pub gathered_start : (values known : List X) → values ≡ known → ((u : Built) → whole u ≡ known ++ rest u) → at ≤ length tokens
      → Gathered whole rest tokens room a at at values
  gathered_start values known e same inside = record {
    trees = [];
    along = along_start grammar table tokens room a at;
    shows = λ u. same u ∙ ap (λ xs. xs ++ rest u) (sym e);
    inside = inside;
  }

  pub gathered_more : {i j : ℕ} {values : List X} {t : Built} → Gathered whole rest tokens room a at i values
      → Next grammar tokens i (first table a) true → RuleRuns grammar table tokens room a i (Done t j) → (x : X)
      → ((u : Built) → rest (pair t u) ≡ x ∷ rest u) → j ≤ length tokens → (longer : List X) → longer ≡ values ++ x ∷ []
      → Gathered whole rest tokens room a at j longer
  gathered_more {i} {j} {values} {t} g next run x same inside longer e = record {
    trees = g.trees ++ t ∷ [];
    along = along_more grammar table tokens room a at i j g.trees t g.along next run;
    shows = λ u.
        ap whole (attach-append g.trees t u) ∙ g.shows (pair t u) ∙ ap (λ xs. values ++ xs) (same u) ∙ sym (append_assoc values (x ∷ []) (rest u))
        ∙ ap (λ xs. xs ++ rest u) (sym e);
    inside = inside;
  }

  pub gathered_stop : {i : ℕ} {values : List X} → Gathered whole rest tokens room a at i values → Next grammar tokens i (first table a) false
      → rest none ≡ [] → at ≤ length tokens → (got : List X) → got ≡ values → ReadsTree grammar table tokens whole room (many a) at got i
  gathered_stop {i} {values} g next end inside got e =
      read grammar table tokens whole inside (along_stop grammar table tokens room a at i g.trees g.along next)
      (g.shows none ∙ ap (λ xs. values ++ xs) end ∙ append-nil values ∙ sym e)

  pub gathered_fails : {i : ℕ} {values : List X} (fault : ParseFault) → Gathered whole rest tokens room a at i values
      → Next grammar tokens i (first table a) true → RuleRuns grammar table tokens room a i (Fail fault)
      → RuleRuns grammar table tokens room (many a) at (Fail fault)
  gathered_fails {i} fault g next run = along_fails grammar table tokens room a at i g.trees fault g.along next run

-- a part that was read has taken a token
pub part_moves : {tokens : List Spanned} {room : Room} {p : Part} {i j : ℕ} {t : Built} → RuleRuns grammar table tokens room (part p) i (Done t j) → i < j
part_moves {tokens = tokens} {p = p} run =
    let d = decided {A = Spanned} table (part p) refl in
    let longest = means grammar table grammar_fine tokens d run in
    takes grammar table grammar_fine tokens d refl longest.is longest.at
