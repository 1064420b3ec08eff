-- The cells of the book: each holds an action that is asked of it, and where one is asked it is filled.
use Prim.Native.Nat.{ℕ, zero, suc, ◌≤◌}
use native.Mathlib.Omega.{arith}
use native.Mathlib.Decide.{ℕ_discrete}
use mathlib.Core.Path.{◌≡◌, refl, sym, ap, subst, ◌∙◌}
use mathlib.Core.Logic.{◌⊎◌, inl, inr}
use mathlib.Core.Bool.{Bool, true, false, cond}
use mathlib.Core.List.{List, [], ◌∷◌}
use mathlib.Core.Option.{Option, some, none}
use lib.Dec.{ltb}
use lib.ListN.{length}
use Rattle.language.specs.Grammar.{Grammar, at}
use Rattle.language.specs.Sentence.{In, here, there}
use Rattle.language.proofs.Member.{in_cons}
use Rattle.language.proofs.GrammarLaws.{rule_range}
use Rattle.leftcorner.specs.Table.{EntryLine, E, Action, S, N, A, P, ActionLine, L, Table, next_state}
use Rattle.leftcorner.specs.Construction.{forget, EntryAt, Asked, to_move, to_announce, to_pop}
use Rattle.leftcorner.proofs.ReadOff.{clash}
use Rattle.build_states.specs.States.{range, goto}
use Rattle.build_book.specs.Built.{or_else, cell_asked?, move_to, announced, finished, first_of, cell_action, line_if, actions_on, actions_of}
use Rattle.build_book.proofs.LineLaws.{item_table}

-- ---- the first that there is

abbrev Some : Option Action → Type 0
Some o = (y : Action) × (o ≡ some y)

or_else_lem : {Φ : Type 0} (d : Dec Φ) (x y : Action) (o : Option Action) → or_else d x o ≡ some y → (Φ × (x ≡ y)) ⊎ (o ≡ some y)
or_else_lem (yes p) x y o e = inl (p, let z : x ≡ y = cc in z)
or_else_lem (no f) x y o e = inr e

else_here : {Φ : Type 0} (d : Dec Φ) (x : Action) (o : Option Action) → Φ → Some (or_else d x o)
else_here (yes p) x o h = (x, refl)
else_here (no f) x o h = absurd (f h)

else_there : {Φ : Type 0} (d : Dec Φ) (x : Action) (o : Option Action) → Some o → Some (or_else d x o)
else_there (yes p) x o h = (x, refl)
else_there (no f) x o h = h

module _ (g : Grammar) (F : List ℕ → ℕ → ℕ → Type 0) (F? : (β : List ℕ) (d c : ℕ) → Dec (F β d c)) (first-codes : List ℕ)
    (F-in : (β : List ℕ) (d c : ℕ) → F β d c → (c ≡ d) ⊎ In c first-codes) where
  abbrev t : Table
  t = item_table g F F? first-codes F-in

  abbrev Asks : ℕ → ℕ → Action → Type 0
  Asks q X x = Asked g t F q X x

  abbrev test : (q X : ℕ) (x : Action) → Dec (Asks q X x)
  test q X x = cell_asked? g F F? first-codes F-in q X x

  abbrev announce : ℕ → ℕ → ℕ → Option Action
  announce q X n = announced g F F? first-codes F-in q X n

  abbrev finish : ℕ → ℕ → List EntryLine → Option Action
  finish q X l = finished g F F? first-codes F-in q X l

  abbrev pub goes_to : ℕ → ℕ → Action
  goes_to q X = move_to g F F? first-codes F-in q X

  abbrev first : Option Action → Option Action → Option Action
  first a o = first_of g F F? first-codes F-in a o

  abbrev pub cell : ℕ → ℕ → Option Action
  cell q X = cell_action g F F? first-codes F-in q X

  first_is : (a o : Option Action) (y : Action) → first a o ≡ some y → (a ≡ some y) ⊎ (o ≡ some y)
  first_is none o y e = inr e
  first_is (some x) o y e = inl e

  first_here : (a o : Option Action) → Some a → Some (first a o)
  first_here none o h = clash (let e = h.1 in cc)
  first_here (some x) o h = (x, refl)

  first_there : (a o : Option Action) → Some o → Some (first a o)
  first_there none o h = h
  first_there (some x) o h = (x, refl)

  -- ---- what a filled cell is

  -- a move, an announce or a pop, and it is asked
  abbrev CellIs : ℕ → ℕ → Action → Type 0
  CellIs q X y = (Asks q X (S 0) × (goes_to q X ≡ y)) ⊎ (((i : ℕ) × Asks q X (A i) × (A i ≡ y)) ⊎ ((n : ℕ) × Asks q X (P n) × (P n ≡ y)))

  announced_is : (q X n : ℕ) (y : Action) → announce q X n ≡ some y → (i : ℕ) × Asks q X (A i) × (A i ≡ y)
  unfolding announced
  announced_is q X zero y e = clash cc
  announced_is q X (suc i) y e = go (or_else_lem (test q X (A (suc i))) (A (suc i)) y (announce q X i) e) (announced_is q X i y)
    where
      go : (Asks q X (A (suc i)) × (A (suc i) ≡ y)) ⊎ (announce q X i ≡ some y) → (announce q X i ≡ some y → (i : ℕ) × Asks q X (A i) × (A i ≡ y))
          → (i : ℕ) × Asks q X (A i) × (A i ≡ y)
      go (inl h) rec = (suc i, h.0, h.1)
      go (inr h) rec = rec h

  finished_is : (q X : ℕ) (l : List EntryLine) (y : Action) → finish q X l ≡ some y → (n : ℕ) × Asks q X (P n) × (P n ≡ y)
  unfolding finished
  finished_is q X [] y e = clash cc
  finished_is q X (E s γ ∷ l) y e = go (or_else_lem (test q X (P (suc (length γ)))) (P (suc (length γ))) y (finish q X l) e) (finished_is q X l y)
    where
      go : (Asks q X (P (suc (length γ))) × (P (suc (length γ)) ≡ y)) ⊎ (finish q X l ≡ some y) → (finish q X l ≡ some y → (n : ℕ) × Asks q X (P n) × (P n ≡ y))
          → (n : ℕ) × Asks q X (P n) × (P n ≡ y)
      go (inl h) rec = (suc (length γ), h.0, h.1)
      go (inr h) rec = rec h

  cell_is : (q X : ℕ) (y : Action) → cell q X ≡ some y → CellIs q X y
  unfolding cell_action
  cell_is q X y e = go (first_is (or_else (test q X (S 0)) (goes_to q X) none) (first (announce q X (length g.rules)) (finish q X t.entries)) y e)
    where
      one : (Asks q X (S 0) × (goes_to q X ≡ y)) ⊎ (none ≡ some y) → CellIs q X y
      one (inl h) = inl h
      one (inr h) = clash cc

      two : (announce q X (length g.rules) ≡ some y) ⊎ (finish q X t.entries ≡ some y) → CellIs q X y
      two (inl h) = inr (inl (announced_is q X (length g.rules) y h))
      two (inr h) = inr (inr (finished_is q X t.entries y h))

      go : (or_else (test q X (S 0)) (goes_to q X) none ≡ some y) ⊎ (first (announce q X (length g.rules)) (finish q X t.entries) ≡ some y) → CellIs q X y
      go (inl h) = one (or_else_lem (test q X (S 0)) (goes_to q X) y none h)
      go (inr h) = two (first_is (announce q X (length g.rules)) (finish q X t.entries) y h)

  move_forget : (q X : ℕ) → forget (goes_to q X) ≡ S 0
  move_forget q X = go (ltb X 64)
    where
      go : (b : Bool) → forget (cond b (S (goto g q X)) (N (goto g q X))) ≡ S 0
      go true = refl
      go false = refl

  pub move_next : (q X : ℕ) → next_state (goes_to q X) ≡ some (goto g q X)
  move_next q X = go (ltb X 64)
    where
      go : (b : Bool) → next_state (cond b (S (goto g q X)) (N (goto g q X))) ≡ some (goto g q X)
      go true = refl
      go false = refl

  -- "No other cell is filled."
  pub cell_asked : (q X : ℕ) (y : Action) → cell q X ≡ some y → Asks q X (forget y)
  cell_asked q X y e = go (cell_is q X y e)
    where
      go : CellIs q X y → Asks q X (forget y)
      go (inl h) = subst (Asks q X) (sym (move_forget q X) ∙ ap forget h.1) h.0
      go (inr (inl h)) = subst (Asks q X) (ap forget h.2) h.1
      go (inr (inr h)) = subst (Asks q X) (ap forget h.2) h.1

  -- a cell with a next state is a move's
  pub record Moves (q X s : ℕ) (y : Action) : Type 0 where
    pub asked : Asks q X (S 0)
    pub is : cond (ltb X 64) (S (goto g q X)) (N (goto g q X)) ≡ y
    pub next_is : s ≡ goto g q X

  pub cell_moves : (q X s : ℕ) (y : Action) → cell q X ≡ some y → next_state y ≡ some s → Moves q X s y
  cell_moves q X s y e n = go (cell_is q X y e)
    where
      go : CellIs q X y → Moves q X s y
      go (inl h) =
          let w : some s ≡ some (goto g q X) = sym n ∙ sym (ap next_state h.1) ∙ move_next q X in
          record { asked = h.0; is = h.1; next_is = let z : s ≡ goto g q X = cc in z }
      go (inr (inl h)) = let w : next_state (A h.0) ≡ some s = ap next_state h.2 ∙ n in clash cc
      go (inr (inr h)) = let w : next_state (P h.0) ≡ some s = ap next_state h.2 ∙ n in clash cc

  -- ---- where something is asked, the cell is filled

  announced_some : (q X n i : ℕ) → 1 ≤ i → i ≤ n → Asks q X (A i) → Some (announce q X n)
  unfolding announced
  announced_some q X zero i a l h = absurd (omega (arith, a, l))
  announced_some q X (suc n) i a l h = go (ℕ_discrete i (suc n)) (λ m. announced_some q X n i a m h)
    where
      go : Dec (i ≡ suc n) → (i ≤ n → Some (announce q X n)) → Some (or_else (test q X (A (suc n))) (A (suc n)) (announce q X n))
      go (yes e) rec = else_here (test q X (A (suc n))) (A (suc n)) (announce q X n) (subst (λ (z : ℕ). Asks q X (A z)) e h)
      go (no f) rec = else_there (test q X (A (suc n))) (A (suc n)) (announce q X n) (rec (omega (arith, l, f)))

  finished_some : (q X : ℕ) (l : List EntryLine) (j s : ℕ) (γ : List ℕ) → at l j ≡ some (E s γ) → Asks q X (P (suc (length γ))) → Some (finish q X l)
  unfolding finished
  finished_some q X [] j s γ e h = clash cc
  finished_some q X (E u δ ∷ l) zero s γ e h =
      let z : γ ≡ δ = cc in
      else_here (test q X (P (suc (length δ)))) (P (suc (length δ))) (finish q X l) (subst (λ (m : List ℕ). Asks q X (P (suc (length m)))) z h)
  finished_some q X (E u δ ∷ l) (suc j) s γ e h = else_there (test q X (P (suc (length δ)))) (P (suc (length δ))) (finish q X l) (finished_some q X l j s γ e h)

  entry_some : (q X k s : ℕ) (γ : List ℕ) → EntryAt g t k s γ → Asks q X (P (suc (length γ))) → Some (finish q X t.entries)
  entry_some q X zero s γ e h = clash cc
  entry_some q X (suc j) s γ e h = finished_some q X t.entries j s γ e h

  pub cell-some : {q X : ℕ} {x : Action} → Asks q X x → (y : Action) × (cell q X ≡ some y)
  unfolding cell_action
  cell-some {q = q} {X = X} (to_move m) = first_here (or_else (test q X (S 0)) (goes_to q X) none) _ (else_here (test q X (S 0)) (goes_to q X) none (to_move m))
  cell-some {q = q} {X = X} (to_announce i e h f) =
      let n = rule_range g i e in
      first_there (or_else (test q X (S 0)) (goes_to q X) none) _ (first_here (announce q X (length g.rules)) (finish q X t.entries)
      (announced_some q X (length g.rules) i n.0 n.1 (to_announce i e h f)))
  cell-some {q = q} {X = X} (to_pop k {s = s} {γ = γ} e h) =
      first_there (or_else (test q X (S 0)) (goes_to q X) none) _ (first_there (announce q X (length g.rules)) (finish q X t.entries) (entry_some q X k s γ e (to_pop k e h)))

  -- a move's cell
  pub cell_move : (q X : ℕ) → Asks q X (S 0) → cell q X ≡ some (goes_to q X)
  unfolding cell_action
  cell_move q X h = go (test q X (S 0))
    where
      go : (d : Dec (Asks q X (S 0))) → first (or_else d (goes_to q X) none) (first (announce q X (length g.rules)) (finish q X t.entries)) ≡ some (goes_to q X)
      go (yes p) = refl
      go (no f) = absurd (f h)

  -- ---- the action lines

  abbrev on : ℕ → List ℕ → List ActionLine → List ActionLine
  on q xs l = actions_on cell q xs l

  abbrev of : List ℕ → List ActionLine
  of qs = actions_of cell qs

  abbrev put : ℕ → ℕ → Option Action → List ActionLine → List ActionLine
  put q X o l = line_if q X o l

  pub put_in : (q X : ℕ) (o : Option Action) (l : List ActionLine) (p Y : ℕ) (y : Action) → In (L p Y y) (put q X o l) → ((p ≡ q) × (Y ≡ X) × (o ≡ some y)) ⊎ In (L p Y y) l
  put_in q X none l p Y y m = inr m
  put_in q X (some x) l p Y y m = go (in_cons m)
    where
      go : (L p Y y ≡ L q X x) ⊎ In (L p Y y) l → ((p ≡ q) × (Y ≡ X) × (some x ≡ some y)) ⊎ In (L p Y y) l
      go (inl e) = let a : p ≡ q = cc in let b : Y ≡ X = cc in let c : x ≡ y = cc in inl (a, b, ap (λ (z : Action). some z) c)
      go (inr n) = inr n

  pub on_in : (q : ℕ) (xs : List ℕ) (l : List ActionLine) (p Y : ℕ) (y : Action) → In (L p Y y) (on q xs l) → ((p ≡ q) × In Y xs × (cell q Y ≡ some y)) ⊎ In (L p Y y) l
  on_in q [] l p Y y m = inr m
  on_in q (X ∷ xs) l p Y y m = go (put_in q X (cell q X) (on q xs l) p Y y m) (on_in q xs l p Y y)
    where
      Here : List ℕ → Type 0
      Here zs = ((p ≡ q) × In Y zs × (cell q Y ≡ some y)) ⊎ In (L p Y y) l

      late : Here xs → Here (X ∷ xs)
      late (inl h) = inl (h.0, there h.1, h.2)
      late (inr n) = inr n

      go : ((p ≡ q) × (Y ≡ X) × (cell q X ≡ some y)) ⊎ In (L p Y y) (on q xs l) → (In (L p Y y) (on q xs l) → Here xs) → Here (X ∷ xs)
      go (inl h) rec = inl (h.0, subst (λ (z : ℕ). In Y (z ∷ xs)) h.1 here, ap (cell q) h.1 ∙ h.2)
      go (inr n) rec = late (rec n)

  pub of_in : (qs : List ℕ) (p Y : ℕ) (y : Action) → In (L p Y y) (of qs) → In p qs × In Y (range 0 128) × (cell p Y ≡ some y)
  of_in [] p Y y m = elim m [ ]
  of_in (q ∷ qs) p Y y m = go (on_in q (range 0 128) (of qs) p Y y m) (of_in qs p Y y)
    where
      go : ((p ≡ q) × In Y (range 0 128) × (cell q Y ≡ some y)) ⊎ In (L p Y y) (of qs) → (In (L p Y y) (of qs) → In p qs × In Y (range 0 128) × (cell p Y ≡ some y))
          → In p (q ∷ qs) × In Y (range 0 128) × (cell p Y ≡ some y)
      go (inl h) rec = (subst (λ (z : ℕ). In p (z ∷ qs)) h.0 here, h.1, ap (λ (z : ℕ). cell z Y) h.0 ∙ h.2)
      go (inr n) rec = let r = rec n in (there r.0, r.1, r.2)

  in_put : (q X : ℕ) (o : Option Action) {l : List ActionLine} {z : ActionLine} → In z l → In z (put q X o l)
  in_put q X none m = m
  in_put q X (some x) m = there m

  put_here : (q X : ℕ) (o : Option Action) (l : List ActionLine) (x : Action) → o ≡ some x → In (L q X x) (put q X o l)
  put_here q X none l x e = clash cc
  put_here q X (some y) l x e = let z : x ≡ y = cc in subst (λ (w : Action). In (L q X x) (L q X w ∷ l)) z here

  in_on : (q : ℕ) (xs : List ℕ) {l : List ActionLine} {z : ActionLine} → In z l → In z (on q xs l)
  in_on q [] m = m
  in_on q (X ∷ xs) m = in_put q X (cell q X) (in_on q xs m)

  on_here : (q : ℕ) (X : ℕ) (xs : List ℕ) (l : List ActionLine) (x : Action) → In X xs → cell q X ≡ some x → In (L q X x) (on q xs l)
  on_here q X [] l x m e = elim m [ ]
  on_here q X (Y ∷ xs) l x here e = put_here q X (cell q X) (on q xs l) x e
  on_here q X (Y ∷ xs) l x (there m) e = in_put q Y (cell q Y) (on_here q X xs l x m e)

  pub in_of : (q X : ℕ) (qs : List ℕ) (x : Action) → In q qs → In X (range 0 128) → cell q X ≡ some x → In (L q X x) (of qs)
  in_of q X [] x m n e = elim m [ ]
  in_of q X (p ∷ qs) x here n e = on_here q X (range 0 128) (of qs) x n e
  in_of q X (p ∷ qs) x (there m) n e = in_on p (range 0 128) (in_of q X qs x m n e)
