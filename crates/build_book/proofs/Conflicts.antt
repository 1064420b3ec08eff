-- Where the cells of a state do not agree, one of them would hold two different actions.
use Prim.Native.Nat.{ℕ, zero, suc, ◌≤◌}
use native.Mathlib.Omega.{arith}
use mathlib.Core.Path.{◌≡◌, subst}
use mathlib.Core.Logic.{◌⊎◌}
use mathlib.Core.List.{List, [], ◌∷◌, ◌++◌, map}
use mathlib.Core.Option.{some}
use lib.ListN.{length}
use Rattle.language.specs.Grammar.{Grammar, at}
use Rattle.language.specs.Sentence.{In, here, there}
use Rattle.language.proofs.Member.{in_left, in_right}
use Rattle.language.proofs.GrammarLaws.{rule_range}
use Rattle.leftcorner.specs.Table.{EntryLine, E, Action, S, A, P, Table}
use Rattle.leftcorner.specs.Construction.{EntryAt, Asked, to_move, to_announce, to_pop, CellsAgree}
use Rattle.leftcorner.proofs.ReadOff.{clash}
use Rattle.check_verdict.proofs.Tests.{map_dec, both?, implies?, any?}
use Rattle.check_verdict.proofs.Closure.{image_in}
use Rattle.check_verdict.proofs.CellsDecided.{act?, asked?}
use Rattle.build_states.specs.States.{range}
use Rattle.build_states.proofs.Lists.{in_range}
use Rattle.build_states.proofs.Limits.{Limits}
use Rattle.build_book.proofs.LineLaws.{item_table}
use Rattle.build_book.proofs.BuiltForm.{asked_place}

abbrev pops : List EntryLine → List Action
pops [] = []
pops (E s γ ∷ l) = P (suc (length γ)) ∷ pops l

in_pops : (l : List EntryLine) (j s : ℕ) (γ : List ℕ) → at l j ≡ some (E s γ) → In (P (suc (length γ))) (pops l)
in_pops [] j s γ e = clash cc
in_pops (E u δ ∷ l) zero s γ e = let z : γ ≡ δ = cc in subst (λ (m : List ℕ). In (P (suc (length γ))) (P (suc (length m)) ∷ pops l)) z here
in_pops (E u δ ∷ l) (suc j) s γ e = there (in_pops l j s γ e)

module _ (g : Grammar) (F : List ℕ → ℕ → ℕ → Type 0) (F? : (β : List ℕ) (d c : ℕ) → Dec (F β d c)) (first-codes : List ℕ)
    (F-in : (β : List ℕ) (d c : ℕ) → F β d c → (c ≡ d) ⊎ In c first-codes) where
  abbrev t : Table
  t = item_table g F F? first-codes F-in

  -- "one cell would hold two different actions"
  pub record TwoActions (q : ℕ) : Type 0 where
    pub symbol : ℕ
    pub one : Action
    pub other : Action
    pub asked_one : Asked g t F q symbol one
    pub asked_other : Asked g t F q symbol other
    pub differ : one ≡ other → ⊥

  -- all that can be asked of a cell
  abbrev actions : List Action
  actions = S 0 ∷ (map A (range 1 (length g.rules)) ++ pops t.entries)

  pop_in : (k s : ℕ) (γ : List ℕ) → EntryAt g t k s γ → In (P (suc (length γ))) (pops t.entries)
  pop_in zero s γ e = clash cc
  pop_in (suc j) s γ e = in_pops t.entries j s γ e

  in_actions : {q X : ℕ} {x : Action} → Asked g t F q X x → In x actions
  in_actions (to_move m) = here
  in_actions (to_announce i e h f) =
      let n = rule_range g i e in
      there (in_left (pops t.entries) (image_in A i (range 1 (length g.rules)) (in_range 1 (length g.rules) i n.0 (omega (arith, n.1)))))
  in_actions (to_pop k {s = s} {γ = γ} e h) = there (in_right (map A (range 1 (length g.rules))) (pop_in k s γ e))

  abbrev Two : ℕ → ℕ → Action → Action → Type 0
  Two q X x y = Asked g t F q X x × (Asked g t F q X y × (x ≡ y → ⊥))

  abbrev Found : ℕ → Type 0
  Found q = (X : ℕ) × In X (range 0 128) × ((x : Action) × In x actions × ((y : Action) × In y actions × Two q X x y))

  found? : (q : ℕ) → Dec (Found q)
  found? q =
      any? _ (λ X. any? _ (λ x. any? _ (λ y. both? (asked? g t F F? first-codes F-in q X x)
      (both? (asked? g t F F? first-codes F-in q X y) (implies? (act? x y) (no (λ z. z))))) actions) actions) (range 0 128)

  pub agree_where : (q : ℕ) → (TwoActions q → ⊥) → CellsAgree g t F q
  agree_where q f = record { one = λ X x y a c. go X x y a c (act? x y) }
    where
      go : (X : ℕ) (x y : Action) → Asked g t F q X x → Asked g t F q X y → Dec (x ≡ y) → x ≡ y
      go X x y a c (yes e) = e
      go X x y a c (no n) = absurd (f (record { symbol = X; one = x; other = y; asked_one = a; asked_other = c; differ = n }))

  pub no_agreement : (q : ℕ) → TwoActions q → CellsAgree g t F q → ⊥
  no_agreement q w a = w.differ (a.one w.symbol w.one w.other w.asked_one w.asked_other)

  -- and they are found
  module _ (L : Limits g) (codes_low : (c : ℕ) → In c first-codes → c ≤ g.terminals) where
    pub two_actions? : (q : ℕ) → Dec (TwoActions q)
    two_actions? q = map_dec out into (found? q)
      where
        out : Found q → TwoActions q
        out h =
            let x = h.2 in
            let y = x.2 in
            record { symbol = h.0; one = x.0; other = y.0; asked_one = y.2.0; asked_other = y.2.1.0; differ = y.2.1.1 }

        into : TwoActions q → Found q
        into w =
            let p = asked_place g F F? first-codes F-in L codes_low w.asked_one in (
              w.symbol,
              in_range 0 128 w.symbol (omega arith) (omega (arith, p.2)),
              (w.one, in_actions w.asked_one, (w.other, in_actions w.asked_other, (w.asked_one, (w.asked_other, w.differ)))),
            )

    pub two_actions : (q : ℕ) → (CellsAgree g t F q → ⊥) → TwoActions q
    two_actions q f = go (two_actions? q)
      where
        go : Dec (TwoActions q) → TwoActions q
        go (yes w) = w
        go (no n) = absurd (f (agree_where q n))
