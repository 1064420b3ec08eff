-- What an announce of the machine in memory comes to.
use mathlib.Core.Path.{◌≡◌, refl, ap, ◌∙◌}
use mathlib.Core.List.{List, [], ◌∷◌, ◌++◌, map}
use Prim.Native.Nat.{ℕ, zero, suc, ◌+◌, ◌-◌, ◌≤◌, ◌<◌}
use native.Mathlib.Omega.{arith}
use lib.ListN.{length, drop, length-replicate, length-drop}
use Rattle.language.specs.Grammar.{rule_at}
use Rattle.language.specs.First.{next}
use Rattle.leftcorner.specs.Machine.{on, wrong, announced, land, tell}
use Rattle.walk_tables.specs.declared.Machine.{Machine}
use Rattle.walk_tables.specs.Memory.{figure_of, goto_of, memory_rule, memory_grammar, group_entries, memory_automaton}
use Rattle.walk_tables.proofs.MemoryLaws.{rule_is}
use Rattle.walk_stack.specs.Stack.{groups_over, rule_over}

module _ (mem : Machine) where
  groups_enter : (r j : ℕ) (S : List ℕ) → map (memory_automaton mem).enter (group_entries mem.rules r j) ++ S ≡ groups_over mem.rules r j S
  unfolding memory_automaton
  groups_enter r zero S = refl
  groups_enter r (suc j) S = ap (λ (l : List ℕ). figure_of mem.rules r (4 + j) ∷ l) (groups_enter r j S)

  goto_is : (q x : ℕ) → (memory_automaton mem).goto q (64 + x) ≡ goto_of mem.gotos q x
  unfolding memory_automaton
  goto_is q x = let e : 64 + x - 64 ≡ x = omega arith in ap (goto_of mem.gotos q) e

  module _ (r : ℕ) (pos : 0 < r) (small : r < 256) (S : List ℕ) where
    told : tell (memory_grammar mem.rules) (memory_automaton mem) (rule_at (memory_grammar mem.rules) r) r
        (group_entries mem.rules r (figure_of mem.rules r 3)) S
        ≡ land (memory_grammar mem.rules) (memory_automaton mem) r (memory_rule mem.rules r)
        (group_entries mem.rules r (figure_of mem.rules r 3)) (drop (figure_of mem.rules r 0) S)
    told = rw (rule_is mem.rules r pos small, length-replicate)

    -- an announce that would go below the bottom
    pub told_wrong : length S ≤ figure_of mem.rules r 0
        → tell (memory_grammar mem.rules) (memory_automaton mem) (rule_at (memory_grammar mem.rules) r) r
        (group_entries mem.rules r (figure_of mem.rules r 3)) S ≡ wrong
    told_wrong le = told ∙ go (drop (figure_of mem.rules r 0) S) (length-drop (figure_of mem.rules r 0) S)
      where
        go : (U : List ℕ) → length U ≡ length S - figure_of mem.rules r 0
            → land (memory_grammar mem.rules) (memory_automaton mem) r (memory_rule mem.rules r)
            (group_entries mem.rules r (figure_of mem.rules r 3)) U ≡ wrong
        go [] e = refl
        go (q ∷ U) e = absurd (omega arith)

    -- an announce
    pub told_on : figure_of mem.rules r 0 < length S
        → tell (memory_grammar mem.rules) (memory_automaton mem) (rule_at (memory_grammar mem.rules) r) r
        (group_entries mem.rules r (figure_of mem.rules r 3)) S
        ≡ on (announced r) (rule_over mem.gotos mem.rules r (figure_of mem.rules r 3) (drop (figure_of mem.rules r 0) S))
    unfolding rule_over
    told_on lt = told ∙ go (drop (figure_of mem.rules r 0) S) (length-drop (figure_of mem.rules r 0) S)
      where
        go : (U : List ℕ) → length U ≡ length S - figure_of mem.rules r 0
            → land (memory_grammar mem.rules) (memory_automaton mem) r (memory_rule mem.rules r)
            (group_entries mem.rules r (figure_of mem.rules r 3)) U
            ≡ on (announced r) (groups_over mem.rules r (figure_of mem.rules r 3) (goto_of mem.gotos (next U 0) (figure_of mem.rules r 1) ∷ U))
        go [] e = absurd (omega arith)
        go (q ∷ U) e = ap (on (announced r))
            (groups_enter r (figure_of mem.rules r 3) _ ∙ ap (λ (x : ℕ). groups_over mem.rules r (figure_of mem.rules r 3) (x ∷ q ∷ U)) (goto_is q (figure_of mem.rules r 1)))
