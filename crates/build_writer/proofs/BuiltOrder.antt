-- The lines of the table that the builder writes stand in its order.
use Prim.Native.Nat.{ℕ, suc, ◌≤◌}
use mathlib.Core.Path.{◌≡◌, refl, subst}
use mathlib.Core.Logic.{◌⊎◌}
use mathlib.Core.List.{List}
use mathlib.Core.Option.{Option, some, none}
use native.Mathlib.Omega.{arith}
use lib.ListN.{length}
use Rattle.language.specs.Grammar.{Grammar}
use Rattle.language.specs.Sentence.{In}
use Rattle.leftcorner.specs.Table.{E, K, Action, S, N, A, P, Table, action_for}
use Rattle.leftcorner.specs.Construction.{Asked, to_pop, ActionAt, WellFormed}
use Rattle.leftcorner.proofs.ReadOff.{action_back}
use Rattle.build_states.specs.States.{range, states}
use Rattle.build_states.proofs.Distinct.{at_in}
use Rattle.build_states.proofs.Limits.{Limits}
use Rattle.build_book.specs.Built.{cell_action, actions_of, items, built}
use Rattle.build_book.proofs.LineLaws.{item_table}
use Rattle.build_book.proofs.CellLaws.{cell_asked}
use Rattle.build_book.proofs.BuiltForm.{action_is}
use Rattle.build_book.proofs.Readable.{Names, Readable, readable}
use Rattle.build_writer.proofs.ActionLines.{lines_found}
use Rattle.build_writer.proofs.InMemory.{FitsCell, Ordered}

-- a table whose lines are as a table reader asks
module _ {g : Grammar} {t : Table} (R : Readable g t) (few : g.terminals ≤ 63) where
  names_fit : (X : ℕ) (x : Action) → Names g t X x → ((n : ℕ) → x ≡ P n → 1 ≤ n) → FitsCell X (some x)
  names_fit X (S s) h some-pop = omega (arith, h.0.1, few)
  names_fit X (N s) h some-pop = (h.0.0, h.1)
  names_fit X (A i) h some-pop = omega (arith, h.0, few)
  names_fit X (P n) h some-pop = (omega (arith, h.0, few), some-pop n refl, omega (arith, h.1))

  pub readable_ordered : ((q X n : ℕ) → ActionAt g t q X (P n) → 1 ≤ n) → t.actions ≡ actions_of (action_for t.actions) (range 1 t.states) → Ordered t (suc g.terminals)
  readable_ordered some-pop rises = record {
    few_states = R.few_states;
    few_codes = omega (arith, few);
    strings_short = λ k s e. (R.entry s _ (at_in t.entries k (E s _) e)).short;
    codes_rise = λ l q i k e. (R.kernel q i k _ (at_in t.kernels l (K q i k _) e)).rising;
    codes_low = λ l q i k e d m. let h = (R.kernel q i k _ (at_in t.kernels l (K q i k _) e)).codes_low d m in omega (arith, h);
    cells_fit = λ q X. fit q X (action_for t.actions q X) refl;
    lines_rise = rises;
  }
    where
      fit : (q X : ℕ) (o : Option Action) → action_for t.actions q X ≡ o → FitsCell X o
      fit q X none e = tt
      fit q X (some x) e =
          let a = action_back t.actions q X x e in
          names_fit X x (R.action q X x a).2 (λ n s. some-pop q X n (subst (λ (y : Action). ActionAt g t q X y) s a))

module _ (g : Grammar) (F : List ℕ → ℕ → ℕ → Type 0) (F? : (β : List ℕ) (d c : ℕ) → Dec (F β d c)) (first-codes : List ℕ)
    (F-in : (β : List ℕ) (d c : ℕ) → F β d c → (c ≡ d) ⊎ In c first-codes) where
  asked_pop : {q X n : ℕ} → Asked g (item_table g F F? first-codes F-in) F q X (P n) → 1 ≤ n
  asked_pop (to_pop k e h) = omega arith

  built_rises : (built g F F? first-codes F-in).actions ≡ actions_of (action_for (built g F F? first-codes F-in).actions) (range 1 (built g F F? first-codes F-in).states)
  unfolding built items
  built_rises = lines_found (cell_action g F F? first-codes F-in) (length (states g))

  pub built_ordered : Limits g → ((c : ℕ) → In c first-codes → c ≤ g.terminals) → WellFormed g (built g F F? first-codes F-in) → Ordered (built g F F? first-codes F-in) (suc g.terminals)
  built_ordered L codes_low R =
      readable_ordered (readable g F F? first-codes F-in L codes_low R) L.formed.few_terminals
      (λ q X n a. asked_pop (cell_asked g F F? first-codes F-in q X (P n) (action_is g F F? first-codes F-in q X (P n) a).holds)) built_rises
