-- The expansion unfolds: a terminal is a leaf, and a nonterminal a node over its rule's right side, each symbol with the height it needs.
-- A load is a derivation of the goal.
use Prim.Native.Nat.{ℕ, zero, suc, ◌+◌, ◌-◌, ◌%◌, ◌≤◌, ◌<◌}
use mathlib.Core.Path.{◌≡◌, refl, sym, ap, subst, ◌∙◌}
use mathlib.Core.Logic.{inl, inr}
use mathlib.Core.List.{List, [], ◌∷◌}
use mathlib.Core.Option.{some}
use native.Mathlib.Omega.{arith}
use native.Mathlib.Nat.{mod-lt}
use lib.ListN.{length, get_or}
use Rattle.language.specs.Grammar.{Grammar, Rule, rule_at, IsTerminal, IsNonterminal}
use Rattle.language.specs.Derivation.{leaf, cons, IsTree, IsForest}
use Rattle.language.specs.Sentence.{In, here, there, AllProductive}
use Rattle.language.proofs.GrammarLaws.{in_string}
use Rattle.language.specs.WellFormed.{WellFormed}
use Rattle.symbol.proofs.KindLaws.{terminal_is}
use Rattle.generate_loads.specs.Load.{right_in, right_of, rules_of, IsSymbol, height_of, shortest, drawn, choice, Grown, GrownAll, grow_all, node_over, grow, grown, load}
use Rattle.generate_loads.proofs.RuleLaws.{nonterminal_false, rules_in}
use Rattle.generate_loads.proofs.HeightLaws.{height_is, height_nonterminal, shortest_is}

-- a bound for the height of what grows from X
abbrev bound : Grammar → ℕ → ℕ → ℕ
bound g zero X = height_of g X
bound g (suc d) X = suc d + g.nonterminals

-- growers that agree on the symbols of a string grow the same
grow_same : (f h : ℕ → ℕ → Grown) (β : List ℕ) (s : ℕ) → ((X t : ℕ) → In X β → f X t ≡ h X t) → grow_all f β s ≡ grow_all h β s
grow_same f h [] s e = refl
grow_same f h (X ∷ β) s e =
    ap (λ (G : Grown). after G (grow_all f β G.state)) (e X s here) ∙ ap (after (h X s)) (grow_same f h β (h X s).state (λ Y t m. e Y t (there m)))
  where
    after : Grown → GrownAll → GrownAll
    after G F = record { forest = cons G.tree F.forest; state = F.state }

-- a grower of trees grows a forest
forest_is : (g : Grammar) (f : ℕ → ℕ → Grown) (β : List ℕ) (s : ℕ) → ((X t : ℕ) → In X β → IsTree g (f X t).tree X) → IsForest g (grow_all f β s).forest β
forest_is g f [] s h = tt
forest_is g f (X ∷ β) s h = (h X s here, forest_is g f β (f X s).state (λ Y t m. h Y t (there m)))

module _ (g : Grammar) (w : WellFormed g) (p : AllProductive g) where
  -- the rule chosen is a rule of X, and its symbols need less
  pub record Chosen (d X i : ℕ) : Type 0 where
    pub rule : Rule
    pub is : rule_at g i ≡ some rule
    pub left_is : rule.left ≡ X
    pub declared : (a : ℕ) → In a (right_of g i) → IsSymbol g a
    pub less : (a : ℕ) → In a (right_of g i) → bound g (d - 1) a < bound g d X

  bound_less : (d X a : ℕ) → IsSymbol g a → (d ≡ 0 → height_of g a < height_of g X) → bound g (d - 1) a < bound g d X
  bound_less zero X a h l = l refl
  bound_less (suc zero) X a h l = omega (arith, (height_is g w p a h).1)
  bound_less (suc (suc d)) X a h l = rw (one_less d) (omega arith)
    where
      one_less : (n : ℕ) → suc (suc n) - 1 ≡ suc n
      one_less n = omega arith

  chosen_of : (d X i : ℕ) → In i (rules_of g X) → (d ≡ 0 → (a : ℕ) → In a (right_of g i) → height_of g a < height_of g X) → Chosen d X i
  chosen_of d X i m l =
      let r = rules_in g X i m in
      let decl : (a : ℕ) → In a (right_of g i) → IsSymbol g a = λ a n. (w.formed i r.1).declared a (subst (In a) (ap right_in r.1) n) in
      record { rule = r.0; is = r.1; left_is = r.2; declared = decl; less = λ a n. bound_less d X a (decl a n) (λ e. l e a n) }

  pub some_rule : (X : ℕ) → IsNonterminal g X → 1 ≤ length (rules_of g X)
  some_rule X n = go (rules_of g X) (shortest_is g w p X n).one_of
    where
      go : {i : ℕ} (l : List ℕ) → In i l → 1 ≤ length l
      go {i = i} [] m = elim m [ ]
      go (x ∷ l) m = omega arith

  pub chosen_is : (d X s : ℕ) → IsNonterminal g X → Chosen d X (choice g d X s).rule
  unfolding choice
  chosen_is zero X s n = let h = shortest_is g w p X n in chosen_of zero X (shortest g X) h.one_of (λ _. h.lower)
  chosen_is (suc d) X s n =
      chosen_of (suc d) X (get_or (rules_of g X) (drawn s % length (rules_of g X)) 0)
      (in_string (rules_of g X) (drawn s % length (rules_of g X)) (mod-lt (drawn s) (some_rule X n))) (λ e. absurd (omega (arith, e)))

  -- where no depth is left they are lower
  pub chosen_lower : {d X i : ℕ} → d ≡ 0 → Chosen d X i → (a : ℕ) → In a (right_of g i) → height_of g a < height_of g X
  chosen_lower {d} {X} {i} e c a m = (subst (λ (k : ℕ). Chosen k X i) e c).less a m

  -- ---- how the expansion goes, whatever height is given
  pub grow_terminal : (f d X s : ℕ) → IsTerminal g X → grow g f d X s ≡ record { tree = leaf X; state = s }
  unfolding grow
  grow_terminal zero d X s h = refl
  grow_terminal (suc f) d X s h = simp (terminal_is g X h)

  grow_nonterminal : (f d X s : ℕ) → IsNonterminal g X
      → grow g (suc f) d X s ≡ node_over (choice g d X s).rule (grow_all (grow g f (d - 1)) (right_of g (choice g d X s).rule) (choice g d X s).state)
  unfolding grow
  grow_nonterminal f d X s n = simp (nonterminal_false g X w.few_terminals n)

  bound_some : (d X : ℕ) → IsNonterminal g X → 1 ≤ bound g d X
  bound_some zero X n = height_nonterminal g w p X n
  bound_some (suc d) X n = omega arith

  -- any height from the bound on gives the same
  abbrev pub Enough : ℕ → Type 0
  Enough f = (h d X s : ℕ) → IsSymbol g X → bound g d X ≤ f → bound g d X ≤ h → grow g f d X s ≡ grow g h d X s

  enough_none : Enough 0
  enough_none h d X s (inl a) l m = grow_terminal 0 d X s a ∙ sym (grow_terminal h d X s a)
  enough_none h d X s (inr n) l m = absurd (omega (arith, bound_some d X n))

  enough_more : (f : ℕ) → Enough f → Enough (suc f)
  enough_more f up h d X s (inl a) l m = grow_terminal (suc f) d X s a ∙ sym (grow_terminal h d X s a)
  enough_more f up zero d X s (inr n) l m = absurd (omega (arith, bound_some d X n))
  enough_more f up (suc h) d X s (inr n) l m =
      let i = (choice g d X s).rule in
      let c = chosen_is d X s n in
      grow_nonterminal f d X s n
      ∙ ap (node_over i) (grow_same (grow g f (d - 1)) (grow g h (d - 1)) (right_of g i) (choice g d X s).state
      (λ Y t k. up h (d - 1) Y t (c.declared Y k) (omega (arith, c.less Y k, l)) (omega (arith, c.less Y k, m))))
      ∙ sym (grow_nonterminal h d X s n)

  pub enough : (f : ℕ) → Enough f
  enough zero = enough_none
  enough (suc f) = enough_more f (enough f)

  -- and it is a derivation
  abbrev pub Trees : ℕ → Type 0
  Trees f = (d X s : ℕ) → IsSymbol g X → bound g d X ≤ f → IsTree g (grow g f d X s).tree X

  leaf_tree : (f d X s : ℕ) → IsTerminal g X → IsTree g (grow g f d X s).tree X
  leaf_tree f d X s a = subst (λ (G : Grown). IsTree g G.tree X) (sym (grow_terminal f d X s a)) (refl, a)

  trees_none : Trees 0
  trees_none d X s (inl a) l = leaf_tree 0 d X s a
  trees_none d X s (inr n) l = absurd (omega (arith, bound_some d X n))

  trees_more : (f : ℕ) → Trees f → Trees (suc f)
  trees_more f up d X s (inl a) l = leaf_tree (suc f) d X s a
  trees_more f up d X s (inr n) l =
      let i = (choice g d X s).rule in
      let c = chosen_is d X s n in
      let F = forest_is g (grow g f (d - 1)) (right_of g i) (choice g d X s).state (λ Y t k. up (d - 1) Y t (c.declared Y k) (omega (arith, c.less Y k, l))) in
      subst (λ (G : Grown). IsTree g G.tree X) (sym (grow_nonterminal f d X s n))
      (c.rule, c.is, c.left_is, subst (IsForest g (grow_all (grow g f (d - 1)) (right_of g i) (choice g d X s).state).forest) (ap right_in c.is) F)

  pub grow_tree : (f : ℕ) → Trees f
  grow_tree zero = trees_none
  grow_tree (suc f) = trees_more f (grow_tree f)

  -- ---- what a symbol expands to
  bound_most : (d X : ℕ) → IsSymbol g X → bound g d X ≤ d + g.nonterminals
  bound_most zero X h = omega (arith, (height_is g w p X h).1)
  bound_most (suc d) X h = omega arith

  pub grown_tree : (d X s : ℕ) → IsSymbol g X → IsTree g (grown g d X s).tree X
  unfolding grown
  grown_tree d X s h = grow_tree (suc (d + g.nonterminals)) d X s h (omega (arith, bound_most d X h))

  pub grown_terminal : (d X s : ℕ) → IsTerminal g X → grown g d X s ≡ record { tree = leaf X; state = s }
  unfolding grown
  grown_terminal d X s h = grow_terminal (suc (d + g.nonterminals)) d X s h

  pub grown_node : (d X s : ℕ) → IsNonterminal g X
      → grown g d X s ≡ node_over (choice g d X s).rule (grow_all (grown g (d - 1)) (right_of g (choice g d X s).rule) (choice g d X s).state)
  unfolding grown
  grown_node d X s n =
      let i = (choice g d X s).rule in
      let c = chosen_is d X s n in
      let f = d + g.nonterminals in
      grow_nonterminal f d X s n
      ∙ ap (node_over i) (grow_same (grow g f (d - 1)) (grown g (d - 1)) (right_of g i) (choice g d X s).state
      (λ Y t k. enough f (suc (d - 1 + g.nonterminals)) (d - 1) Y t (c.declared Y k) (omega (arith, c.less Y k, bound_most d X (inr n))) (omega (arith, bound_most (d - 1) Y (c.declared Y k)))))

  -- at depth 0 no more height is needed than the least
  pub grown_least : (X s : ℕ) → IsSymbol g X → grown g 0 X s ≡ grow g (height_of g X) 0 X s
  unfolding grown
  grown_least X s h = enough (suc (0 + g.nonterminals)) (height_of g X) 0 X s h (omega (arith, bound_most 0 X h)) (omega arith)

  pub load_tree : (seed d : ℕ) → IsTree g (load g seed d) g.goal
  unfolding load
  load_tree seed d = grown_tree d g.goal seed (inr w.goal_declared)
