-- Every sentence is walked whole, by its derivation's trace; so it has one derivation only.
use Prim.Native.Nat.{ℕ, zero}
use mathlib.Core.Path.{◌≡◌, sym, subst}
use mathlib.Core.List.{List, [], ◌∷◌, append-nil}
use Rattle.language.specs.Grammar.{Grammar}
use Rattle.language.specs.Derivation.{Tree, yield, IsTree}
use Rattle.language.specs.Trace.{trace}
use Rattle.language.proofs.Replay.{trace_injective}
use Rattle.leftcorner.specs.Machine.{Automaton, whole, step, start}
use Rattle.leftcorner.proofs.Adequate.{Source, entry, kernel, Complete, Exact}
use Rattle.leftcorner.proofs.Run.{Run, run_unique}
use Rattle.leftcorner.proofs.Path.{far-zero, gotos, close_step}
use Rattle.leftcorner.proofs.Completeness.{first_nil, walked, Walks, walks}

module _ {g : Grammar} {string : ℕ → List ℕ} {Kernel : ℕ → Source → ℕ → ℕ → Type 0} {m : Automaton}
    (C : Complete g string Kernel m) (E : Exact g string Kernel m) where
  -- the stack when the goal is derived
  abbrev pub final : List ℕ
  final = m.goto (m.enter 1) g.goal ∷ start g m

  pub sentence_walked : (T : Tree) → IsTree g T g.goal → Run g m (start g m) (yield T) (trace g T) final []
  unfolding Walks
  sentence_walked T h =
      rw (append-nil (yield T)) at (walks C E T g.goal (m.enter 1) [] (entry 1) zero zero [] [] h (kernel C.start) C.goal_string first_nil)

  pub final-whole : step g m final 0 ≡ whole
  final-whole =
      subst (λ (l : List ℕ). step g m (gotos m (m.enter 1) l []) 0 ≡ whole) C.goal_string
      (close_step g m (m.enter 1) (string 1) [] 0
      (C.pops (rw (far-zero (string 1)) at (walked C E (string 1) [] (m.enter 1) (entry 1) zero zero (kernel C.start) (sym (append-nil (string 1)))))))

  pub one_derivation : (T U : Tree) → IsTree g T g.goal → IsTree g U g.goal → yield T ≡ yield U → T ≡ U
  one_derivation T U h k e =
      trace_injective g T U g.goal g.goal h k
      (run_unique g m (sentence_walked T h) (rw (← e) at (sentence_walked U k)) final-whole final-whole)
