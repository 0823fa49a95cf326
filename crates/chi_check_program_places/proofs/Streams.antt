-- The streams of a statement are those of the statement without its lines.
use Rattle.std.proofs.Common.{◌≡◌, ℕ, List, [], ◌∷◌, map, refl, sym, ap, subst, ◌∙◌}
use Rattle.chi_core.specs.declared.expression.CExpr.{CExpr}
use Rattle.chi_core.specs.declared.statement.Branch.{Branch, Branch-F, out-Branch, roll-Branch, map-Branch, fold-roll-Branch, fold_out-Branch}
use Rattle.chi_core.specs.declared.statement.CAlt.{CAlt, CAlt-F, roll-CAlt, map-CAlt, fold-roll-CAlt}
use Rattle.chi_core.specs.declared.statement.CAlt.TheVariants as alternative
use Rattle.chi_core.specs.declared.statement.CStat.{CStat, CStat-F, roll-CStat, map-CStat, fold-roll-CStat, ind-CStat}
use Rattle.chi_core.specs.declared.statement.CStat.TheVariants as statement
use Rattle.chi_check.specs.Below.chi_check_streams.specs.Streams.{Counted, Counting, made_of, then_second, each, of_expression, of_expressions, of_target, some, of_communication, of_element, statement_step, branch_step, alternative_step, of_statement, of_branch, of_alternative}
use Rattle.chi_check_program_places.specs.Lineless.{statement_without, branch_without, alternative_without, lineless_statement, lineless_branch, lineless_alternative}
use Rattle.chi_check_program_places.proofs.Without as without

abbrev pub counted_by : {A : Type 0} → (A → A) → Counting A → Counting A
counted_by f c count = made_of f (c count)

module _ {X A : Type 0} (g : A → A) (h' h : X → A) (same : (x : X) → h' x ≡ g (h x)) where
  made-same : (c : Counted X) → made_of h' c ≡ made_of g (made_of h c)
  made-same c = λ i. record { next = c.next; part = same c.part i }

module _ {X A : Type 0} (p : X → X) (g : A → A) (h' h : X → A) (same : (x : X) → h' (p x) ≡ g (h x)) where
  pub made-by : (c : Counted X) {c' : Counted X} → c' ≡ made_of p c → made_of h' c' ≡ made_of g (made_of h c)
  made-by c r = ap (made_of h') r ∙ (λ i. record { next = c.next; part = same c.part i })

module _ {X Y A : Type 0} (p : X → X) (q : Y → Y) (g : A → A) (h' h : X → Y → A) (same : (x : X) (y : Y) → h' (p x) (q y) ≡ g (h x y)) where
  pub second-by : (a : Counted X) (b : Counting Y) {a' : Counted X} {b' : Counting Y} → a' ≡ made_of p a → ((n : ℕ) → b' n ≡ made_of q (b n)) → then_second h' a' b' ≡ made_of g (then_second h a b)
  second-by a b r s = (λ i. then_second h' (r i) (λ n. s n i)) ∙ (λ i. record { next = (b a.next).next; part = same a.part (b a.next).part i })

module _ {A : Type 0} (f : A → A) where
  pub each-by : (cs : List (Counting A)) (count : ℕ) → each (map (counted_by f) cs) count ≡ made_of (map f) (each cs count)
  each-by [] count = refl
  each-by (c ∷ cs) count = second-by f (map f) (map f) (λ a more. a ∷ more) (λ a more. a ∷ more) (λ a more. refl) (c count) (each cs) refl (each-by cs)

module _ {A : Type 0} (f : A → A) (of : A → Counting A) (same : (a : A) → of (f a) ≡ counted_by f (of a)) where
  lists-by : (xs : List A) → map of (map f xs) ≡ map (counted_by f) (map of xs)
  lists-by [] = refl
  lists-by (x ∷ xs) = λ i. same x i ∷ lists-by xs i

  pub all-by : (xs : List A) (count : ℕ) → each (map of (map f xs)) count ≡ made_of (map f) (each (map of xs) count)
  all-by xs count = ap (λ cs. each cs count) (lists-by xs) ∙ each-by f (map of xs) count

-- ---- layers

abbrev bare : CStat-F (Counting CAlt) (Counting CStat) (Counting Branch) → CStat-F (Counting CAlt) (Counting CStat) (Counting Branch)
bare (CStat-F.Declare line slot e) = CStat-F.Declare 0 slot e
bare (CStat-F.Assign line targets es) = CStat-F.Assign 0 targets es
bare (CStat-F.If line branches otherwise) = CStat-F.If 0 (map (counted_by lineless_branch) branches) (map (counted_by lineless_statement) otherwise)
bare (CStat-F.While line test block) = CStat-F.While 0 test (map (counted_by lineless_statement) block)
bare (CStat-F.For line slots container block) = CStat-F.For 0 slots container (map (counted_by lineless_statement) block)
bare (CStat-F.Break line) = CStat-F.Break 0
bare (CStat-F.Continue line) = CStat-F.Continue 0
bare (CStat-F.Pass line) = CStat-F.Pass 0
bare (CStat-F.Return line e) = CStat-F.Return 0 e
bare (CStat-F.Exit line e) = CStat-F.Exit 0 e
bare (CStat-F.Write line pieces es) = CStat-F.Write 0 pieces es
bare (CStat-F.Select line alternatives) = CStat-F.Select 0 (map (counted_by lineless_alternative) alternatives)
bare (CStat-F.Run line elements) = CStat-F.Run 0 elements
bare (CStat-F.Start line elements) = CStat-F.Start 0 elements
bare (CStat-F.Finish line es) = CStat-F.Finish 0 es

abbrev bare_alternative : CAlt-F (Counting CAlt) (Counting CStat) (Counting Branch) → CAlt-F (Counting CAlt) (Counting CStat) (Counting Branch)
bare_alternative (CAlt-F.Guarded guard c block) = CAlt-F.Guarded guard c (map (counted_by lineless_statement) block)
bare_alternative (CAlt-F.Unwind slots container alternatives) = CAlt-F.Unwind slots container (map (counted_by lineless_alternative) alternatives)

statement-layer : (o : CStat-F (Counting CAlt) (Counting CStat) (Counting Branch)) (count : ℕ) → statement_step (bare o) count ≡ made_of lineless_statement (statement_step o count)
statement-layer (CStat-F.Declare line slot e) count =
    made-same lineless_statement (statement.Declare 0 slot) (statement.Declare line slot) (λ e. sym (without.without-Declare line slot e)) (of_expression e count)
statement-layer (CStat-F.Assign line targets es) count =
    second-by (λ ts. ts) (λ es. es) lineless_statement (statement.Assign 0) (statement.Assign line) (λ ts es. sym (without.without-Assign line ts es)) (each (map of_target targets) count) (of_expressions es) refl (λ n. refl)
statement-layer (CStat-F.If line branches otherwise) count =
    second-by (map lineless_branch) (map lineless_statement) lineless_statement (statement.If 0) (statement.If line) (λ bs xs. sym (without.without-If line bs xs)) (each branches count) (each otherwise)
    (each-by lineless_branch branches count) (each-by lineless_statement otherwise)
statement-layer (CStat-F.While line test block) count =
    second-by (λ e. e) (map lineless_statement) lineless_statement (statement.While 0) (statement.While line) (λ e xs. sym (without.without-While line e xs)) (of_expression test count) (each block)
    refl (each-by lineless_statement block)
statement-layer (CStat-F.For line slots container block) count =
    second-by (λ e. e) (map lineless_statement) lineless_statement (statement.For 0 slots) (statement.For line slots) (λ e xs. sym (without.without-For line slots e xs)) (of_expression container count) (each block)
    refl (each-by lineless_statement block)
statement-layer (CStat-F.Break line) count = λ i. record { next = count; part = sym (without.without-Break line) i }
statement-layer (CStat-F.Continue line) count = λ i. record { next = count; part = sym (without.without-Continue line) i }
statement-layer (CStat-F.Pass line) count = λ i. record { next = count; part = sym (without.without-Pass line) i }
statement-layer (CStat-F.Return line e) count = made-same lineless_statement (statement.Return 0) (statement.Return line) (λ e. sym (without.without-Return line e)) (of_expression e count)
statement-layer (CStat-F.Exit line e) count = made-same lineless_statement (statement.Exit 0) (statement.Exit line) (λ e. sym (without.without-Exit line e)) (some of_expression e count)
statement-layer (CStat-F.Write line pieces es) count =
    made-same lineless_statement (statement.Write 0 pieces) (statement.Write line pieces) (λ es. sym (without.without-Write line pieces es)) (of_expressions es count)
statement-layer (CStat-F.Select line alternatives) count =
    made-by (map lineless_alternative) lineless_statement (statement.Select 0) (statement.Select line) (λ xs. sym (without.without-Select line xs)) (each alternatives count) (each-by lineless_alternative alternatives count)
statement-layer (CStat-F.Run line elements) count = made-same lineless_statement (statement.Run 0) (statement.Run line) (λ es. sym (without.without-Run line es)) (each (map of_element elements) count)
statement-layer (CStat-F.Start line elements) count = made-same lineless_statement (statement.Start 0) (statement.Start line) (λ es. sym (without.without-Start line es)) (each (map of_element elements) count)
statement-layer (CStat-F.Finish line es) count = made-same lineless_statement (statement.Finish 0) (statement.Finish line) (λ es. sym (without.without-Finish line es)) (of_expressions es count)

branch-layer : (test : CExpr) (block : List (Counting CStat)) (count : ℕ)
    → branch_step (record { test = test; block = map (counted_by lineless_statement) block }) count ≡ made_of lineless_branch (branch_step (record { test = test; block = block }) count)
branch-layer test block count =
    second-by (λ e. e) (map lineless_statement) lineless_branch (λ test block. record { test = test; block = block }) (λ test block. record { test = test; block = block })
    (λ e xs. sym (without.without-branch e xs)) (of_expression test count) (each block) refl (each-by lineless_statement block)

alternative-layer : (o : CAlt-F (Counting CAlt) (Counting CStat) (Counting Branch)) (count : ℕ) → alternative_step (bare_alternative o) count ≡ made_of lineless_alternative (alternative_step o count)
alternative-layer (CAlt-F.Guarded guard c block) count =
    let g = some of_expression guard count in
    second-by (λ c. c) (map lineless_statement) lineless_alternative (alternative.Guarded g.part) (alternative.Guarded g.part) (λ c xs. sym (without.without-Guarded g.part c xs))
    (of_communication c g.next) (each block) refl (each-by lineless_statement block)
alternative-layer (CAlt-F.Unwind slots container alternatives) count =
    second-by (λ e. e) (map lineless_alternative) lineless_alternative (alternative.Unwind slots) (alternative.Unwind slots) (λ e xs. sym (without.without-Unwind slots e xs))
    (of_expression container count) (each alternatives) refl (each-by lineless_alternative alternatives)

-- ---- the induction

abbrev PA : CAlt → Type 0
PA x = of_alternative (lineless_alternative x) ≡ counted_by lineless_alternative (of_alternative x)

abbrev XA : Type 0
XA = (x : CAlt) × PA x

abbrev PS : CStat → Type 0
PS x = of_statement (lineless_statement x) ≡ counted_by lineless_statement (of_statement x)

abbrev XS : Type 0
XS = (x : CStat) × PS x

abbrev PB : Branch → Type 0
PB x = of_branch (lineless_branch x) ≡ counted_by lineless_branch (of_branch x)

abbrev XB : Type 0
XB = (x : Branch) × PB x

alternatives-such : (ys : List XA) → map of_alternative (map lineless_alternative (map (λ y. y.0) ys)) ≡ map (counted_by lineless_alternative) (map of_alternative (map (λ y. y.0) ys))
alternatives-such [] = refl
alternatives-such (y ∷ ys) = λ i. y.1 i ∷ alternatives-such ys i

statements-such : (ys : List XS) → map of_statement (map lineless_statement (map (λ y. y.0) ys)) ≡ map (counted_by lineless_statement) (map of_statement (map (λ y. y.0) ys))
statements-such [] = refl
statements-such (y ∷ ys) = λ i. y.1 i ∷ statements-such ys i

branches-such : (ys : List XB) → map of_branch (map lineless_branch (map (λ y. y.0) ys)) ≡ map (counted_by lineless_branch) (map of_branch (map (λ y. y.0) ys))
branches-such [] = refl
branches-such (y ∷ ys) = λ i. y.1 i ∷ branches-such ys i

abbrev alternative_of_parts : CAlt-F CAlt CStat Branch → Counting CAlt
alternative_of_parts o = alternative_step (map-CAlt CAlt CStat Branch (Counting CAlt) (Counting CStat) (Counting Branch) of_alternative of_statement of_branch o)

abbrev alternative_parts : CAlt-F XA XS XB → CAlt-F CAlt CStat Branch
alternative_parts y = map-CAlt XA XS XB CAlt CStat Branch (λ y. y.0) (λ y. y.0) (λ y. y.0) y

abbrev alternative_lineless : CAlt-F CAlt CStat Branch → CAlt
alternative_lineless o = alternative_without (map-CAlt CAlt CStat Branch CAlt CStat Branch lineless_alternative lineless_statement lineless_branch o)

alternative-rolled : (o : CAlt-F CAlt CStat Branch) → of_alternative (roll-CAlt o) ≡ alternative_of_parts o
unfolding of_statement of_branch of_alternative
alternative-rolled o = fold-roll-CAlt (Counting CAlt) (Counting CStat) (Counting Branch) alternative_step statement_step branch_step o

alternative-unrolled : (o : CAlt-F CAlt CStat Branch) → lineless_alternative (roll-CAlt o) ≡ alternative_lineless o
alternative-unrolled o = fold-roll-CAlt CAlt CStat Branch alternative_without statement_without branch_without o

abbrev statement_of_parts : CStat-F CAlt CStat Branch → Counting CStat
statement_of_parts o = statement_step (map-CStat CAlt CStat Branch (Counting CAlt) (Counting CStat) (Counting Branch) of_alternative of_statement of_branch o)

abbrev statement_parts : CStat-F XA XS XB → CStat-F CAlt CStat Branch
statement_parts y = map-CStat XA XS XB CAlt CStat Branch (λ y. y.0) (λ y. y.0) (λ y. y.0) y

abbrev statement_lineless : CStat-F CAlt CStat Branch → CStat
statement_lineless o = statement_without (map-CStat CAlt CStat Branch CAlt CStat Branch lineless_alternative lineless_statement lineless_branch o)

statement-rolled : (o : CStat-F CAlt CStat Branch) → of_statement (roll-CStat o) ≡ statement_of_parts o
unfolding of_statement of_branch of_alternative
statement-rolled o = fold-roll-CStat (Counting CAlt) (Counting CStat) (Counting Branch) alternative_step statement_step branch_step o

statement-unrolled : (o : CStat-F CAlt CStat Branch) → lineless_statement (roll-CStat o) ≡ statement_lineless o
statement-unrolled o = fold-roll-CStat CAlt CStat Branch alternative_without statement_without branch_without o

abbrev branch_of_parts : Branch-F CAlt CStat Branch → Counting Branch
branch_of_parts o = branch_step (map-Branch CAlt CStat Branch (Counting CAlt) (Counting CStat) (Counting Branch) of_alternative of_statement of_branch o)

abbrev branch_parts : Branch-F XA XS XB → Branch-F CAlt CStat Branch
branch_parts y = map-Branch XA XS XB CAlt CStat Branch (λ y. y.0) (λ y. y.0) (λ y. y.0) y

abbrev branch_lineless : Branch-F CAlt CStat Branch → Branch
branch_lineless o = branch_without (map-Branch CAlt CStat Branch CAlt CStat Branch lineless_alternative lineless_statement lineless_branch o)

branch-rolled : (o : Branch-F CAlt CStat Branch) → of_branch (roll-Branch o) ≡ branch_of_parts o
unfolding of_statement of_branch of_alternative
branch-rolled o = fold-roll-Branch (Counting CAlt) (Counting CStat) (Counting Branch) alternative_step statement_step branch_step o

branch-unrolled : (o : Branch-F CAlt CStat Branch) → lineless_branch (roll-Branch o) ≡ branch_lineless o
branch-unrolled o = fold-roll-Branch CAlt CStat Branch alternative_without statement_without branch_without o

branch-opened : (x : Branch) → of_branch x ≡ branch_of_parts (out-Branch x)
unfolding of_statement of_branch of_alternative
branch-opened x = fold_out-Branch (Counting CAlt) (Counting CStat) (Counting Branch) alternative_step statement_step branch_step x

thence : (o : CStat-F CAlt CStat Branch) (l : CStat-F (Counting CAlt) (Counting CStat) (Counting Branch)) {v : CStat} → roll-CStat o ≡ v → map-CStat CAlt CStat Branch (Counting CAlt) (Counting CStat) (Counting Branch) of_alternative of_statement of_branch o ≡ bare l → of_statement v ≡ counted_by lineless_statement (statement_step l)
thence o l r e = ap of_statement (sym r) ∙ statement-rolled o ∙ ap statement_step e ∙ (λ i count. statement-layer l count i)

alternative-thence : (o : CAlt-F CAlt CStat Branch) (l : CAlt-F (Counting CAlt) (Counting CStat) (Counting Branch)) {v : CAlt} → roll-CAlt o ≡ v → map-CAlt CAlt CStat Branch (Counting CAlt) (Counting CStat) (Counting Branch) of_alternative of_statement of_branch o ≡ bare_alternative l → of_alternative v ≡ counted_by lineless_alternative (alternative_step l)
alternative-thence o l r e = ap of_alternative (sym r) ∙ alternative-rolled o ∙ ap alternative_step e ∙ (λ i count. alternative-layer l count i)

statement-such : (y : CStat-F XA XS XB) → of_statement (statement_lineless (statement_parts y)) ≡ counted_by lineless_statement (statement_of_parts (statement_parts y))
statement-such (CStat-F.Declare line slot e) =
    thence (CStat-F.Declare 0 slot e) (CStat-F.Declare line slot e) (statement.rolls-Declare 0 slot e)
    refl
statement-such (CStat-F.Assign line ts es) =
    thence (CStat-F.Assign 0 ts es) (CStat-F.Assign line ts es) (statement.rolls-Assign 0 ts es)
    refl
statement-such (CStat-F.If line bs xs) =
    thence (CStat-F.If 0 (map lineless_branch (map (λ y. y.0) bs)) (map lineless_statement (map (λ y. y.0) xs))) (CStat-F.If line (map of_branch (map (λ y. y.0) bs)) (map of_statement (map (λ y. y.0) xs))) (statement.rolls-If 0 (map lineless_branch (map (λ y. y.0) bs)) (map lineless_statement (map (λ y. y.0) xs)))
    (λ i. CStat-F.If 0 (branches-such bs i) (statements-such xs i))
statement-such (CStat-F.While line e xs) =
    thence (CStat-F.While 0 e (map lineless_statement (map (λ y. y.0) xs))) (CStat-F.While line e (map of_statement (map (λ y. y.0) xs))) (statement.rolls-While 0 e (map lineless_statement (map (λ y. y.0) xs)))
    (λ i. CStat-F.While 0 e (statements-such xs i))
statement-such (CStat-F.For line slots e xs) =
    thence (CStat-F.For 0 slots e (map lineless_statement (map (λ y. y.0) xs))) (CStat-F.For line slots e (map of_statement (map (λ y. y.0) xs))) (statement.rolls-For 0 slots e (map lineless_statement (map (λ y. y.0) xs)))
    (λ i. CStat-F.For 0 slots e (statements-such xs i))
statement-such (CStat-F.Break line) =
    thence (CStat-F.Break 0) (CStat-F.Break line) (statement.rolls-Break 0)
    refl
statement-such (CStat-F.Continue line) =
    thence (CStat-F.Continue 0) (CStat-F.Continue line) (statement.rolls-Continue 0)
    refl
statement-such (CStat-F.Pass line) =
    thence (CStat-F.Pass 0) (CStat-F.Pass line) (statement.rolls-Pass 0)
    refl
statement-such (CStat-F.Return line e) =
    thence (CStat-F.Return 0 e) (CStat-F.Return line e) (statement.rolls-Return 0 e)
    refl
statement-such (CStat-F.Exit line e) =
    thence (CStat-F.Exit 0 e) (CStat-F.Exit line e) (statement.rolls-Exit 0 e)
    refl
statement-such (CStat-F.Write line ps es) =
    thence (CStat-F.Write 0 ps es) (CStat-F.Write line ps es) (statement.rolls-Write 0 ps es)
    refl
statement-such (CStat-F.Select line xs) =
    thence (CStat-F.Select 0 (map lineless_alternative (map (λ y. y.0) xs))) (CStat-F.Select line (map of_alternative (map (λ y. y.0) xs))) (statement.rolls-Select 0 (map lineless_alternative (map (λ y. y.0) xs)))
    (λ i. CStat-F.Select 0 (alternatives-such xs i))
statement-such (CStat-F.Run line es) =
    thence (CStat-F.Run 0 es) (CStat-F.Run line es) (statement.rolls-Run 0 es)
    refl
statement-such (CStat-F.Start line es) =
    thence (CStat-F.Start 0 es) (CStat-F.Start line es) (statement.rolls-Start 0 es)
    refl
statement-such (CStat-F.Finish line es) =
    thence (CStat-F.Finish 0 es) (CStat-F.Finish line es) (statement.rolls-Finish 0 es)
    refl

alternative-such : (y : CAlt-F XA XS XB) → of_alternative (alternative_lineless (alternative_parts y)) ≡ counted_by lineless_alternative (alternative_of_parts (alternative_parts y))
alternative-such (CAlt-F.Guarded guard c xs) =
    alternative-thence (CAlt-F.Guarded guard c (map lineless_statement (map (λ y. y.0) xs))) (CAlt-F.Guarded guard c (map of_statement (map (λ y. y.0) xs))) (alternative.rolls-Guarded guard c (map lineless_statement (map (λ y. y.0) xs)))
    (λ i. CAlt-F.Guarded guard c (statements-such xs i))
alternative-such (CAlt-F.Unwind slots e xs) =
    alternative-thence (CAlt-F.Unwind slots e (map lineless_alternative (map (λ y. y.0) xs))) (CAlt-F.Unwind slots e (map of_alternative (map (λ y. y.0) xs))) (alternative.rolls-Unwind slots e (map lineless_alternative (map (λ y. y.0) xs)))
    (λ i. CAlt-F.Unwind slots e (alternatives-such xs i))

branch-such : (y : Branch-F XA XS XB) → of_branch (branch_lineless (branch_parts y)) ≡ counted_by lineless_branch (branch_of_parts (branch_parts y))
branch-such y =
    branch-opened (branch_lineless (branch_parts y)) ∙ (λ i. branch_step (record { test = y.test; block = statements-such y.block i }))
    ∙ (λ i count. branch-layer y.test (map of_statement (map (λ y. y.0) y.block)) count i)

alternative-step : (y : CAlt-F XA XS XB) → PA (roll-CAlt (alternative_parts y))
alternative-step y = ap of_alternative (alternative-unrolled (alternative_parts y)) ∙ alternative-such y ∙ ap (counted_by lineless_alternative) (sym (alternative-rolled (alternative_parts y)))

statement-step : (y : CStat-F XA XS XB) → PS (roll-CStat (statement_parts y))
statement-step y = ap of_statement (statement-unrolled (statement_parts y)) ∙ statement-such y ∙ ap (counted_by lineless_statement) (sym (statement-rolled (statement_parts y)))

branch-step : (y : Branch-F XA XS XB) → PB (roll-Branch (branch_parts y))
branch-step y = ap of_branch (branch-unrolled (branch_parts y)) ∙ branch-such y ∙ ap (counted_by lineless_branch) (sym (branch-rolled (branch_parts y)))

pub statement-streams : (x : CStat) → of_statement (lineless_statement x) ≡ counted_by lineless_statement (of_statement x)
statement-streams = ind-CStat PA PS PB
    (λ x y h. subst (λ x. PA (roll-CAlt x)) h (alternative-step y))
    (λ x y h. subst (λ x. PS (roll-CStat x)) h (statement-step y))
    (λ x y h. subst (λ x. PB (roll-Branch x)) h (branch-step y))
