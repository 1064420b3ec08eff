-- What a cell of the book holds, by what is asked of it.
use Prim.Native.Nat.{ℕ}
use mathlib.Core.Path.{◌≡◌, refl, ap, ◌∙◌}
use mathlib.Core.Logic.{◌⊎◌}
use mathlib.Core.List.{List}
use mathlib.Core.Option.{Option, some, none}
use Rattle.language.specs.Grammar.{Grammar}
use Rattle.language.specs.Sentence.{In}
use Rattle.leftcorner.specs.Table.{Action, S, N, A, P, Table}
use Rattle.leftcorner.specs.Construction.{forget, Asked, CellsAgree}
use Rattle.leftcorner.proofs.ReadOff.{clash}
use Rattle.build_book.proofs.LineLaws.{item_table}
use Rattle.build_book.proofs.CellLaws.{cell, cell_asked, cell-some}

announce_same : (y : Action) (i : ℕ) → forget y ≡ A i → y ≡ A i
announce_same (S s) i e = clash cc
announce_same (N s) i e = clash cc
announce_same (A j) i e = e
announce_same (P n) i e = clash cc

pop_same : (y : Action) (n : ℕ) → forget y ≡ P n → y ≡ P n
pop_same (S s) n e = clash cc
pop_same (N s) n e = clash cc
pop_same (A j) n e = clash cc
pop_same (P m) n e = e

module _ (g : Grammar) (F : List ℕ → ℕ → ℕ → Type 0) (F? : (β : List ℕ) (d c : ℕ) → Dec (F β d c)) (first-codes : List ℕ)
    (F-in : (β : List ℕ) (d c : ℕ) → F β d c → (c ≡ d) ⊎ In c first-codes) where
  abbrev t : Table
  t = item_table g F F? first-codes F-in

  -- "No other cell is filled."
  pub cell_empty : (q X : ℕ) → ((x : Action) → Asked g t F q X x → ⊥) → cell g F F? first-codes F-in q X ≡ none
  cell_empty q X f = go (cell g F F? first-codes F-in q X) refl
    where
      go : (o : Option Action) → cell g F F? first-codes F-in q X ≡ o → o ≡ none
      go none e = refl
      go (some y) e = absurd (f (forget y) (cell_asked g F F? first-codes F-in q X y e))

  module _ (q : ℕ) (agree : CellsAgree g t F q) where
    -- what is asked, but for the next state of a move
    pub cell_filled : {X : ℕ} {x : Action} → Asked g t F q X x → (y : Action) × (cell g F F? first-codes F-in q X ≡ some y) × (forget y ≡ x)
    cell_filled {X = X} {x = x} a =
        let y = cell-some g F F? first-codes F-in a in
        (y.0, y.1, agree.one X (forget y.0) x (cell_asked g F F? first-codes F-in q X y.0 y.1) a)

    pub cell_announces : (X i : ℕ) → Asked g t F q X (A i) → cell g F F? first-codes F-in q X ≡ some (A i)
    cell_announces X i a = let y = cell_filled a in y.1 ∙ ap (λ (z : Action). some z) (announce_same y.0 i y.2)

    pub cell_pops : (X n : ℕ) → Asked g t F q X (P n) → cell g F F? first-codes F-in q X ≡ some (P n)
    cell_pops X n a = let y = cell_filled a in y.1 ∙ ap (λ (z : Action). some z) (pop_same y.0 n y.2)
