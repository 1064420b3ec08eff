-- What the builder's promises of its table rest on: the contexts told with `First`, the states told by their lines.
use Prim.Native.Nat.{ℕ, zero, suc, ◌-◌, ◌≤◌}
use native.Mathlib.Omega.{arith}
use mathlib.Core.Path.{◌≡◌, refl, sym, ap, ap₂, subst, ◌∙◌}
use mathlib.Core.Bool.{cond}
use mathlib.Core.List.{List, [], ◌∷◌}
use mathlib.Core.Option.{Option, some}
use lib.Dec.{leb}
use lib.ListN.{length}
use Rattle.language.specs.Grammar.{Grammar, concat}
use Rattle.language.specs.Sentence.{In, Declared}
use Rattle.language.specs.First.{First}
use Rattle.language.proofs.Member.{in_map}
use Rattle.language.proofs.Strings.{AllDeclared, later_declared}
use Rattle.language.proofs.Rising.{rising_same}
use Rattle.leftcorner.specs.Table.{EntryLine, E, Action, Table, string_of, next_state}
use Rattle.leftcorner.specs.Construction.{EntryAt, KernelAt, ActionAt, in_kernel, Asked, EntriesMeet, LookaheadsMeet}
use Rattle.std.specs.Prelude.{◌↔◌}
use Rattle.leftcorner.proofs.ItemStrings.{rest_declared}
use Rattle.leftcorner.proofs.Swap.{flip, asked_over, lookaheads_over}
use Rattle.check_verdict.proofs.Closure.{image_in}
use Rattle.analysis.specs.ByRules.{FirstByRules}
use Rattle.analysis.proofs.Decided.{first?}
use Rattle.grammar.proofs.GrammarLaws.{Reduced}
use Rattle.build_states.proofs.EntryLaws.{entry_line, entries_meet}
use Rattle.build_states.specs.States.{Kernel, item_of, dot_of, find, states, kernel_of}
use Rattle.build_states.proofs.Discovery.{find_at}
use Rattle.build_states.proofs.Limits.{Limits, declared}
use Rattle.build_book.proofs.Over.{entry_over}
use Rattle.build_states.proofs.StateLaws.{more_states, states_distinct, kernels_rising}
use Rattle.build_states.specs.Lookaheads.{bare, Lookahead, of_goal, of_closure, of_move, of_group}
use Rattle.build_book.proofs.LineLaws.{item_table, codes, of_line}
use Rattle.build_book.proofs.Carried.{looked, on_line}
use Rattle.build_book.proofs.BuiltForm.{full_table, built_entries, to_built, from_built, asked_built, built_asked, built_line}
use Rattle.build_book.proofs.MeetsBuilt.{built_lookaheads}
use Rattle.build_book.proofs.BookLaws.{Within}
use Rattle.build_book.proofs.Least as smallest
use Rattle.build_states.specs.Lookaheads.{terminal_codes}
use Rattle.build_states.proofs.CodeLaws.{first_in, codes_low}
use Rattle.build_book.proofs.BuilderLaws.{same_first}
use Rattle.build_promise.specs.Kernels.{Item, rule, entry, Dotted, dot, Reached, item_at, KernelIs}
use Rattle.build_promise.proofs.KernelLaws.{source, dotted}
use Rattle.build_promise.proofs.KernelLaws as kernels
use Rattle.build_promise.proofs.ManyLaws.{entry-items, state_reached, stands}

-- a first that says more of declared strings gives more
module _ (g : Grammar) (D : Declared g) (F G : List ℕ → ℕ → ℕ → Type 0) (up : (β : List ℕ) → AllDeclared g β → (d c : ℕ) → F β d c → G β d c) where
  look_declared : {q i k d : ℕ} → Lookahead g F q i k d → Lookahead g G q i k d
  look_declared of_goal = of_goal
  look_declared (of_closure {i = i} {k = k} {d = d} {X = X} j {c = c} {β = β} h go e l f) =
      of_closure j (look_declared h) go e l (up β (rest_declared g (bare g) D (entries_meet g (bare g) refl) i k X β go) d c f)
  look_declared (of_move h go) = of_move (look_declared h) go
  look_declared (of_group {d = d} {c = c} i {r = r} δs γ εs e h p f) =
      of_group i δs γ εs e (look_declared h) p (up (concat εs) (later_declared g D i r δs γ εs e p) d c f)

module _ (g : Grammar) (R : Reduced g) where
  abbrev F : List ℕ → ℕ → ℕ → Type 0
  F = FirstByRules g

  abbrev t : Table
  t = item_table g F (first? g) (terminal_codes g) (first_in g)

  abbrev u : Table
  u = full_table g F (first? g) (terminal_codes g) (first_in g)

  same : (β : List ℕ) → AllDeclared g β → (d c : ℕ) → F β d c ↔ First g β d c
  same = same_first g R.formed R.productive R.reachable

  named : Declared g
  named = declared g R.formed

  -- item i with dot k stands in the kernel set of state q
  abbrev InKernel : ℕ → ℕ → ℕ → Type 0
  InKernel q i k = (σ : List ℕ) × KernelAt g u q i k σ

  -- ---- what is asked of a cell

  pub meets : EntriesMeet g u
  meets = entries_meet g u (built_entries g F (first? g) (terminal_codes g) (first_in g))

  pub asked_same : {q X : ℕ} {x : Action} → Asked g t F q X x ↔ Asked g u (First g) q X x
  asked_same = (λ h. asked_over g u named meets F (First g) (λ β a d c. (same β a d c).0) (asked_built g F (first? g) (terminal_codes g) (first_in g) h), λ h. built_asked g F (first? g) (terminal_codes g) (first_in g) (asked_over g u named meets (First g) F (λ β a d c. (same β a d c).1) h))

  -- ---- the contexts

  module _ (L : Limits g) where
    pub inclusions : (q : ℕ) → LookaheadsMeet g u (First g) q
    inclusions q = lookaheads_over g u named meets F (First g) same q (built_lookaheads g F (first? g) (terminal_codes g) (first_in g) L (codes_low g) q)

    pub least : (v : Table) → v.entries ≡ u.entries → ((q i k : ℕ) (σ : List ℕ) → KernelAt g u q i k σ → (τ : List ℕ) × KernelAt g v q i k τ)
        → ((q X s : ℕ) (x : Action) → ActionAt g u q X x → next_state x ≡ some s → (y : Action) × ActionAt g v q X y × (next_state y ≡ some s))
        → ((q : ℕ) → LookaheadsMeet g v (First g) q) → (q i k d : ℕ) (σ τ : List ℕ) → KernelAt g u q i k σ → KernelAt g v q i k τ → In d σ → In d τ
    least v e lines next M =
        let z = e ∙ built_entries g F (first? g) (terminal_codes g) (first_in g) in
        smallest.least g F (first? g) (terminal_codes g) (first_in g) L (codes_low g) v z lines next
        (λ q. lookaheads_over g v named (entries_meet g v z) (First g) F (λ β a d c. flip (same β a d c)) q (M q))

    pub contexts : (q i k d : ℕ) (σ : List ℕ) → KernelAt g u q i k σ → In d σ ↔ Lookahead g (First g) q i k d
    contexts q i k d σ h = (
      λ m. look_declared g named F (First g) (λ β a x c. (same β a x c).0)
          (looked g F (first? g) (terminal_codes g) (first_in g) (in_kernel (from_built g F (first? g) (terminal_codes g) (first_in g) q i k σ h) m)),
      λ c.
          let w = built_line g F (first? g) (terminal_codes g) (first_in g) q i k σ h in
          let x = on_line g F (first? g) (terminal_codes g) (first_in g) L (codes_low g) q w.number i k d w.low w.high w.stands (sym w.item) (sym w.dot)
          (look_declared g named (First g) F (λ β a y b. (same β a y b).1) c) in
          least u refl (λ _ _ _ τ n. (τ, n)) (λ _ _ _ y a n. (y, a, n)) inclusions q i k d x.0 σ
          (to_built g F (first? g) (terminal_codes g) (first_in g) q i k x.0 x.1) h x.2,
    )

  -- ---- the states

  same_item : (i : ℕ) → item_at g u i ≡ source g i
  same_item i =
      ap (λ (o : Option EntryLine). cond (leb i (length g.rules)) (rule i) (entry (string_of o)))
      (entry_over g u (bare g) (built_entries g F (first? g) (terminal_codes g) (first_in g)) (i - length g.rules))

  kernel_is : (q : ℕ) → 1 ≤ q → q ≤ length (states g) → KernelIs g u q (kernels.items g (kernel_of g q))
  kernel_is q l h a = (to, from)
    where
      Line : Type 0
      Line = (i : ℕ) × (k : ℕ) × (σ : List ℕ) × KernelAt g u q i k σ × (a ≡ dot (item_at g u i) k)

      to : In a (kernels.items g (kernel_of g q)) → Line
      to m =
          let r = in_map (dotted g) (kernel_of g q) m in
          let x = r.0 in
          let c = codes g F (first? g) (terminal_codes g) (first_in g) q x in (
            item_of x,
            dot_of x,
            c,
            to_built g F (first? g) (terminal_codes g) (first_in g) q (item_of x) (dot_of x) c (of_line g F (first? g) (terminal_codes g) (first_in g) q x l h r.1),
            r.2 ∙ ap (λ (ι : Item). dot ι (dot_of x)) (sym (same_item (item_of x))),
          )

      from : Line → In a (kernels.items g (kernel_of g q))
      from r =
          let w = built_line g F (first? g) (terminal_codes g) (first_in g) q r.0 r.1 r.2 r.3 in
          subst (λ (b : Dotted). In b (kernels.items g (kernel_of g q)))
          (sym (r.4 ∙ ap (λ (ι : Item). dot ι r.1) (same_item r.0) ∙ ap₂ (λ (i k : ℕ). dot (source g i) k) w.item w.dot))
          (image_in (dotted g) w.number (kernel_of g q) w.stands)

  -- "Entry k's state, named by its line, has the one kernel item r+k, dot 0."
  pub entry_states : (e s : ℕ) (γ : List ℕ) → EntryAt g u e s γ → KernelIs g u s (dot (entry γ) zero ∷ [])
  entry_states e s γ h =
      let z = built_entries g F (first? g) (terminal_codes g) (first_in g) in
      let l = entry_line g u z e h in
      let b : EntryAt g (bare g) e e γ = sym (entry_over g u (bare g) z e) ∙ h ∙ ap (λ (n : ℕ). some (E n γ)) l.0 in
      subst (λ (n : ℕ). KernelIs g u n (dot (entry γ) zero ∷ [])) (sym l.0)
      (subst (KernelIs g u e) (entry-items g e b) (kernel_is e l.1 (omega (arith, l.2, more_states g))))

  module _ (w : Within g) where
    pub reached : (q : ℕ) → 1 ≤ q → q ≤ length (states g) → (K : List Dotted) × Reached g K × KernelIs g u q K
    reached q l h = (kernels.items g (kernel_of g q), state_reached g R.formed w.few_entries q q (omega arith) l h, kernel_is q l h)

    pub every_reached : (K : List Dotted) → Reached g K → (q : ℕ) × (1 ≤ q) × (q ≤ length (states g)) × KernelIs g u q K
    every_reached K r =
        let s = stands g R.formed w r in
        let k = kernel_is s.state s.low s.high in
        (s.state, s.low, s.high, λ a. (λ m. (k a).0 ((s.same a).0 m), λ m. (s.same a).1 ((k a).1 m)))

  among : (p q : ℕ) → 1 ≤ p → p ≤ length (states g) → ((i k : ℕ) → InKernel p i k → InKernel q i k) → (x : ℕ) → In x (kernel_of g p) → In x (kernel_of g q)
  among p q l h f x m =
      let c = codes g F (first? g) (terminal_codes g) (first_in g) p x in
      let r = f (item_of x) (dot_of x)
      (c, to_built g F (first? g) (terminal_codes g) (first_in g) p (item_of x) (dot_of x) c (of_line g F (first? g) (terminal_codes g) (first_in g) p x l h m)) in
      let w = built_line g F (first? g) (terminal_codes g) (first_in g) q (item_of x) (dot_of x) r.0 r.1 in
      let z : w.number ≡ x = omega (arith, w.item, w.dot) in
      subst (λ (y : ℕ). In y (kernel_of g q)) z w.stands

  pub one_state : (p q : ℕ) → 1 ≤ p → p ≤ length (states g) → 1 ≤ q → q ≤ length (states g) → ((i k : ℕ) → InKernel p i k ↔ InKernel q i k) → p ≡ q
  one_state p q l h m n f = place p q l h m n
      (rising_same 0 0 (kernel_of g p) (kernel_of g q) (kernels_rising g p l h) (kernels_rising g q m n)
      (among p q l h (λ i k. (f i k).0)) (among q p m n (λ i k. (f i k).1)))
    where
      place : (p q : ℕ) → 1 ≤ p → p ≤ length (states g) → 1 ≤ q → q ≤ length (states g) → kernel_of g p ≡ kernel_of g q → p ≡ q
      place zero q l h m n e = absurd (omega (arith, l))
      place (suc p) zero l h m n e = absurd (omega (arith, m))
      place (suc p) (suc q) l h m n e =
          ap suc (sym (find_at (states g) p (states_distinct g) h) ∙ ap (λ (k : Kernel). find k (states g)) e ∙ find_at (states g) q (states_distinct g) n)
