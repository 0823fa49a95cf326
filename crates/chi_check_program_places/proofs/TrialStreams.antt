-- The streams of a statement of an experiment are those of the statement without its lines.
use Rattle.std.proofs.Common.{◌≡◌, ℕ, List, [], ◌∷◌, map, refl, sym, ap, subst, ◌∙◌}
use Rattle.chi_core.specs.declared.experiment.XBranch.{XBranch, XBranch-F, out-XBranch, roll-XBranch, map-XBranch, fold-roll-XBranch, fold_out-XBranch}
use Rattle.chi_core.specs.declared.experiment.XStat.{XStat, XStat-F, roll-XStat, map-XStat, fold-roll-XStat, ind-XStat}
use Rattle.chi_core.specs.declared.experiment.XStat.TheVariants as trial
use Rattle.chi_core.specs.declared.expression.CExpr.{CExpr}
use Rattle.chi_check.specs.Below.chi_check_streams.specs.Streams.{Counting, made_of, each, of_expression, of_expressions, of_target, of_statement, model_ran, xstat_step, xbranch_step, of_xstat, of_xbranch}
use Rattle.chi_check_program_places.specs.Lineless.{lineless_statement, xstat_without, xbranch_without, lineless_xstat, lineless_xbranch}
use Rattle.chi_check_program_places.proofs.Streams.{counted_by, made-by, second-by, each-by, statement-streams}
use Rattle.chi_check_program_places.proofs.WithoutTrials as without

-- ---- layers

abbrev bare : XStat-F (Counting XStat) (Counting XBranch) → XStat-F (Counting XStat) (Counting XBranch)
bare (XStat-F.Line s) = XStat-F.Line (lineless_statement s)
bare (XStat-F.If line branches otherwise) = XStat-F.If 0 (map (counted_by lineless_xbranch) branches) (map (counted_by lineless_xstat) otherwise)
bare (XStat-F.While line test block) = XStat-F.While 0 test (map (counted_by lineless_xstat) block)
bare (XStat-F.For line slots container block) = XStat-F.For 0 slots container (map (counted_by lineless_xstat) block)
bare (XStat-F.RunModel line target model arguments widen) = XStat-F.RunModel 0 target model arguments widen

statement-layer : (o : XStat-F (Counting XStat) (Counting XBranch)) (count : ℕ) → xstat_step (bare o) count ≡ made_of lineless_xstat (xstat_step o count)
statement-layer (XStat-F.Line s) count =
    made-by lineless_statement lineless_xstat trial.Line trial.Line (λ s. sym (without.without-Line s)) (of_statement s count) (λ i. statement-streams s i count)
statement-layer (XStat-F.If line branches otherwise) count =
    second-by (map lineless_xbranch) (map lineless_xstat) lineless_xstat (trial.If 0) (trial.If line) (λ bs xs. sym (without.without-If line bs xs)) (each branches count) (each otherwise)
    (each-by lineless_xbranch branches count) (each-by lineless_xstat otherwise)
statement-layer (XStat-F.While line test block) count =
    second-by (λ e. e) (map lineless_xstat) lineless_xstat (trial.While 0) (trial.While line) (λ e xs. sym (without.without-While line e xs)) (of_expression test count) (each block)
    refl (each-by lineless_xstat block)
statement-layer (XStat-F.For line slots container block) count =
    second-by (λ e. e) (map lineless_xstat) lineless_xstat (trial.For 0 slots) (trial.For line slots) (λ e xs. sym (without.without-For line slots e xs)) (of_expression container count) (each block)
    refl (each-by lineless_xstat block)
statement-layer (XStat-F.RunModel line target model arguments widen) count =
    second-by (λ t. t) (λ es. es) lineless_xstat (model_ran 0 model widen) (model_ran line model widen) (λ t es. sym (without.without-RunModel line t model es widen)) (of_target target count) (of_expressions arguments)
    refl (λ n. refl)

branch-layer : (test : CExpr) (block : List (Counting XStat)) (count : ℕ)
    → xbranch_step (record { test = test; block = map (counted_by lineless_xstat) block }) count ≡ made_of lineless_xbranch (xbranch_step (record { test = test; block = block }) count)
branch-layer test block count =
    second-by (λ e. e) (map lineless_xstat) lineless_xbranch (λ test block. record { test = test; block = block }) (λ test block. record { test = test; block = block })
    (λ e xs. sym (without.without-branch e xs)) (of_expression test count) (each block) refl (each-by lineless_xstat block)

-- ---- the induction

abbrev PS : XStat → Type 0
PS x = of_xstat (lineless_xstat x) ≡ counted_by lineless_xstat (of_xstat x)

abbrev XS : Type 0
XS = (x : XStat) × PS x

abbrev PB : XBranch → Type 0
PB x = of_xbranch (lineless_xbranch x) ≡ counted_by lineless_xbranch (of_xbranch x)

abbrev XB : Type 0
XB = (x : XBranch) × PB x

statements-such : (ys : List XS) → map of_xstat (map lineless_xstat (map (λ y. y.0) ys)) ≡ map (counted_by lineless_xstat) (map of_xstat (map (λ y. y.0) ys))
statements-such [] = refl
statements-such (y ∷ ys) = λ i. y.1 i ∷ statements-such ys i

branches-such : (ys : List XB) → map of_xbranch (map lineless_xbranch (map (λ y. y.0) ys)) ≡ map (counted_by lineless_xbranch) (map of_xbranch (map (λ y. y.0) ys))
branches-such [] = refl
branches-such (y ∷ ys) = λ i. y.1 i ∷ branches-such ys i

abbrev statement_of_parts : XStat-F XStat XBranch → Counting XStat
statement_of_parts o = xstat_step (map-XStat XStat XBranch (Counting XStat) (Counting XBranch) of_xstat of_xbranch o)

abbrev statement_parts : XStat-F XS XB → XStat-F XStat XBranch
statement_parts y = map-XStat XS XB XStat XBranch (λ y. y.0) (λ y. y.0) y

abbrev statement_lineless : XStat-F XStat XBranch → XStat
statement_lineless o = xstat_without (map-XStat XStat XBranch XStat XBranch lineless_xstat lineless_xbranch o)

statement-rolled : (o : XStat-F XStat XBranch) → of_xstat (roll-XStat o) ≡ statement_of_parts o
unfolding of_xstat of_xbranch
statement-rolled o = fold-roll-XStat (Counting XStat) (Counting XBranch) xstat_step xbranch_step o

statement-unrolled : (o : XStat-F XStat XBranch) → lineless_xstat (roll-XStat o) ≡ statement_lineless o
statement-unrolled o = fold-roll-XStat XStat XBranch xstat_without xbranch_without o

abbrev branch_of_parts : XBranch-F XStat XBranch → Counting XBranch
branch_of_parts o = xbranch_step (map-XBranch XStat XBranch (Counting XStat) (Counting XBranch) of_xstat of_xbranch o)

abbrev branch_parts : XBranch-F XS XB → XBranch-F XStat XBranch
branch_parts y = map-XBranch XS XB XStat XBranch (λ y. y.0) (λ y. y.0) y

abbrev branch_lineless : XBranch-F XStat XBranch → XBranch
branch_lineless o = xbranch_without (map-XBranch XStat XBranch XStat XBranch lineless_xstat lineless_xbranch o)

branch-rolled : (o : XBranch-F XStat XBranch) → of_xbranch (roll-XBranch o) ≡ branch_of_parts o
unfolding of_xstat of_xbranch
branch-rolled o = fold-roll-XBranch (Counting XStat) (Counting XBranch) xstat_step xbranch_step o

branch-unrolled : (o : XBranch-F XStat XBranch) → lineless_xbranch (roll-XBranch o) ≡ branch_lineless o
branch-unrolled o = fold-roll-XBranch XStat XBranch xstat_without xbranch_without o

branch-opened : (x : XBranch) → of_xbranch x ≡ branch_of_parts (out-XBranch x)
unfolding of_xstat of_xbranch
branch-opened x = fold_out-XBranch (Counting XStat) (Counting XBranch) xstat_step xbranch_step x

thence : (o : XStat-F XStat XBranch) (l : XStat-F (Counting XStat) (Counting XBranch)) {v : XStat} → roll-XStat o ≡ v → map-XStat XStat XBranch (Counting XStat) (Counting XBranch) of_xstat of_xbranch o ≡ bare l → of_xstat v ≡ counted_by lineless_xstat (xstat_step l)
thence o l r e = ap of_xstat (sym r) ∙ statement-rolled o ∙ ap xstat_step e ∙ (λ i count. statement-layer l count i)

statement-such : (y : XStat-F XS XB) → of_xstat (statement_lineless (statement_parts y)) ≡ counted_by lineless_xstat (statement_of_parts (statement_parts y))
statement-such (XStat-F.Line s) =
    thence (XStat-F.Line (lineless_statement s)) (XStat-F.Line s) (trial.rolls-Line (lineless_statement s))
    refl
statement-such (XStat-F.If line bs xs) =
    thence (XStat-F.If 0 (map lineless_xbranch (map (λ y. y.0) bs)) (map lineless_xstat (map (λ y. y.0) xs))) (XStat-F.If line (map of_xbranch (map (λ y. y.0) bs)) (map of_xstat (map (λ y. y.0) xs))) (trial.rolls-If 0 (map lineless_xbranch (map (λ y. y.0) bs)) (map lineless_xstat (map (λ y. y.0) xs)))
    (λ i. XStat-F.If 0 (branches-such bs i) (statements-such xs i))
statement-such (XStat-F.While line e xs) =
    thence (XStat-F.While 0 e (map lineless_xstat (map (λ y. y.0) xs))) (XStat-F.While line e (map of_xstat (map (λ y. y.0) xs))) (trial.rolls-While 0 e (map lineless_xstat (map (λ y. y.0) xs)))
    (λ i. XStat-F.While 0 e (statements-such xs i))
statement-such (XStat-F.For line slots e xs) =
    thence (XStat-F.For 0 slots e (map lineless_xstat (map (λ y. y.0) xs))) (XStat-F.For line slots e (map of_xstat (map (λ y. y.0) xs))) (trial.rolls-For 0 slots e (map lineless_xstat (map (λ y. y.0) xs)))
    (λ i. XStat-F.For 0 slots e (statements-such xs i))
statement-such (XStat-F.RunModel line t model es widen) =
    thence (XStat-F.RunModel 0 t model es widen) (XStat-F.RunModel line t model es widen) (trial.rolls-RunModel 0 t model es widen)
    refl

branch-such : (y : XBranch-F XS XB) → of_xbranch (branch_lineless (branch_parts y)) ≡ counted_by lineless_xbranch (branch_of_parts (branch_parts y))
branch-such y =
    branch-opened (branch_lineless (branch_parts y)) ∙ (λ i. xbranch_step (record { test = y.test; block = statements-such y.block i }))
    ∙ (λ i count. branch-layer y.test (map of_xstat (map (λ y. y.0) y.block)) count i)

statement-step : (y : XStat-F XS XB) → PS (roll-XStat (statement_parts y))
statement-step y = ap of_xstat (statement-unrolled (statement_parts y)) ∙ statement-such y ∙ ap (counted_by lineless_xstat) (sym (statement-rolled (statement_parts y)))

branch-step : (y : XBranch-F XS XB) → PB (roll-XBranch (branch_parts y))
branch-step y = ap of_xbranch (branch-unrolled (branch_parts y)) ∙ branch-such y ∙ ap (counted_by lineless_xbranch) (sym (branch-rolled (branch_parts y)))

pub trial-streams : (x : XStat) → of_xstat (lineless_xstat x) ≡ counted_by lineless_xstat (of_xstat x)
trial-streams = ind-XStat PS PB
    (λ x y h. subst (λ x. PS (roll-XStat x)) h (statement-step y))
    (λ x y h. subst (λ x. PB (roll-XBranch x)) h (branch-step y))
