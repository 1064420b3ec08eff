-- The step that the theory makes from a position in memory.
use mathlib.Core.Path.{◌≡◌, refl, sym, ap, ap₂, subst, ◌∙◌}
use mathlib.Core.List.{List, [], ◌∷◌}
use Prim.Native.Nat.{ℕ, zero, suc}
use lib.ListN.{get_or, drop}
use Rattle.language.specs.First.{next}
use Rattle.leftcorner.specs.Machine.{Outcome, act, step}
use Rattle.leftcorner.specs.Machine as machine
use Rattle.walk_tables.specs.declared.Cell.{Cell}
use Rattle.walk_tables.specs.declared.Machine.{Machine}
use Rattle.walk_tables.specs.Memory.{cell_at, meaning, memory_grammar, memory_automaton}
use Rattle.walk_stack.specs.Stack.{tops}
use Rattle.walk_stack.proofs.StackLaws.{tops_top}
use Rattle.walk_steps.specs.declared.Position.{Position}
use Rattle.walk_steps.specs.declared.Turn.{Turn}
use Rattle.walk_steps.specs.Turn.{Stands, Turned}

pub next-drop : (l : List ℕ) (i : ℕ) → next (drop i l) 0 ≡ get_or l i 0
next-drop [] zero = refl
next-drop [] (suc i) = refl
next-drop (x ∷ l) zero = refl
next-drop (x ∷ l) (suc i) = next-drop l i

module _ (mem : Machine) (n k : ℕ) (tokens stack listing : List ℕ) (p : Position) where
  -- what the cell x does is the step, where x stands at the top state and the next code
  pub turned_by : (x : Cell) (stack' listing' : List ℕ) (t : Turn) → Stands (memory_grammar mem.rules) n k tokens stack listing p
      → x ≡ cell_at mem.kinds mem.values p.top p.code
      → Turned (memory_grammar mem.rules) (memory_automaton mem) n k tokens stack listing p
      (act (memory_grammar mem.rules) (memory_automaton mem) (meaning mem.rules x) (tops stack p.height) p.code) stack' listing' t
      → Turned (memory_grammar mem.rules) (memory_automaton mem) n k tokens stack listing p
      (step (memory_grammar mem.rules) (memory_automaton mem) (tops stack p.height) (next (drop p.taken tokens) 0)) stack' listing' t
  unfolding memory_automaton
  turned_by x stack' listing' t s ex h =
      let top : p.top ≡ next (tops stack p.height) 0 = s.top_is ∙ sym (tops_top stack p.height s.started) in
      let c : p.code ≡ next (drop p.taken tokens) 0 = s.code_is ∙ sym (next-drop tokens p.taken) in
      let cell : meaning mem.rules x ≡ meaning mem.rules (cell_at mem.kinds mem.values (next (tops stack p.height) 0) (next (drop p.taken tokens) 0)) =
      ap (meaning mem.rules) (ex ∙ ap₂ (cell_at mem.kinds mem.values) top c) in
      subst
      (λ (o : Outcome). Turned (memory_grammar mem.rules) (memory_automaton mem) n k tokens stack listing p o stack' listing' t)
      (ap₂ (λ (y : machine.Cell) (d : ℕ). act (memory_grammar mem.rules) (memory_automaton mem) y (tops stack p.height) d) cell c)
      h
